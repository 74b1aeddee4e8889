-- BitNodes that are put in if they are new.
use Rattle.std.proofs.Common.{◌≡◌, Bool, true, false, ◌&&◌, nat_eq, List, [], ◌∷◌, ◌++◌}
use Rattle.std.proofs.Common.{inl, inr, refl, sym, ap₂, ◌∙◌, true≢false, eq-eqb}
use Rattle.std.specs.Prelude.{if◌then◌else◌}
use Rattle.std.specs.List.{list_any}
use Rattle.std.proofs.lemmas.Map.Keys.{any_passes_from_place}
use Rattle.path_sets.specs.declared.counting.bit_node.BitNode.{BitNode}
use Rattle.path_sets.specs.declared.diagrams.quad.Quad.{Quad}
use Rattle.path_sets.specs.Walks.{IsGrown}
use Rattle.path_sets.proofs.MaskKeyLemmas.{same_three, three_self}
use Rattle.std.proofs.lemmas.Bool.{eqb-true, and_parts}

-- nodes that compare as equal are the same
pub same_node : (x y : BitNode) → nat_eq x.level y.level && (nat_eq x.low y.low && nat_eq x.high y.high) ≡ true → x ≡ y
same_node x y h =
    let (level, low, high) = same_three x.level y.level x.low y.low x.high y.high h in
    λ j. record { level = level j; low = low j; high = high j }

-- whether two nodes of two bits are the same
abbrev pub quad_eq : Quad → Quad → Bool
quad_eq x y = nat_eq x.points y.points && (nat_eq x.none y.none && (nat_eq x.first y.first
    && (nat_eq x.second y.second && nat_eq x.both y.both)))

pub quad_self : (x : Quad) → quad_eq x x ≡ true
quad_self x = ap₂ ◌&&◌ (eq-eqb x.points x.points refl) (ap₂ ◌&&◌ (eq-eqb x.none x.none refl) (three_self x.first x.second x.both))

-- nodes of two bits that compare as equal are the same
pub same_quad : (x y : Quad) → quad_eq x y ≡ true → x ≡ y
same_quad x y h =
    let (points, rest) = and_parts (nat_eq x.points y.points) _ h in
    let (none, rest') = and_parts (nat_eq x.none y.none) _ rest in
    let (first, second, last) = same_three x.first y.first x.second y.second x.both y.both rest' in
    λ j. record {
      points = eqb-true x.points y.points points j;
      none = eqb-true x.none y.none none j;
      first = first j;
      second = second j;
      both = last j;
    }

module _ {X : Type 0} (eq : X → X → Bool) (self : (x : X) → eq x x ≡ true) where
  -- a node that is put in if none is equal to it is new
  pub put_in : (x : X) (old new : List X) → new ≡ (if list_any (eq x) old then old else old ++ x ∷ []) → IsGrown x old new
  put_in x old new h = by (list_any (eq x) old) refl h
    where
      by : (b : Bool) → list_any (eq x) old ≡ b → new ≡ (if b then old else old ++ x ∷ []) → IsGrown x old new
      by true e is = inl is
      by false e is = inr (is, λ i at. true≢false (sym (any_passes_from_place (eq x) old i x at (self x)) ∙ e))
