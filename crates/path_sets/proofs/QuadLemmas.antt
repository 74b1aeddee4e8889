-- BitNodes that continue by two bits, and one more of them.
use Rattle.std.proofs.Common.{◌≡◌, ◌≢◌, ℕ, zero, suc, ◌+◌, ◌-◌, ◌/◌, ◌%◌, ◌<◌, ◌≤◌, Bool, true, false, cond, nat_eq, List, [], ◌∷◌, ◌++◌}
use Rattle.std.proofs.Common.{Option, Some, None, slice_get, refl, sym, ap, ◌∙◌, subst, arith, inl, inr, length-append, eq-eqb}
use Rattle.std.proofs.lemmas.Bool.{cases_eq, ne_eqb}
use Rattle.std.specs.Option.{option_map_or}
use Rattle.path_sets.specs.declared.diagrams.quad.Quad.{Quad}
use Rattle.path_sets.specs.Walks.{IsGrown, IsNumber, node_at}
use Rattle.path_sets.specs.Quads.{AreInside, IsBelow, KeepQuads, nothing, points_of, QuadsAreReduced, QuadsGoDown, sees, quad_child}
use Rattle.path_sets.specs.Quads.{walk_to}
use Rattle.path_sets.proofs.GrowthLemmas.{got_from, same_node_at}
use Rattle.path_sets.proofs.WalkLemmas.{has_node, node_of, number_of}

-- what holds for a node's four children holds for the one to which a valuation continues
pub of_children : (P : ℕ → Type 0) (x : Quad) (v : ℕ) → P x.none → P x.first → P x.second → P x.both → P (quad_child x v)
of_children P x v none first second both = by (nat_eq (v % 4) 0) (nat_eq (v % 4) 1) (nat_eq (v % 4) 2)
  where
    by : (a b c : Bool) → P (cond a x.none (cond b x.first (cond c x.second x.both)))
    by true b c = none
    by false true c = first
    by false false true = second
    by false false false = both

-- valuations with the same two low bits continue alike
pub quad_child_same : (x : Quad) (v w : ℕ) → v % 4 ≡ w % 4 → quad_child x v ≡ quad_child x w
quad_child_same x v w same =
    ap (λ m. cond (nat_eq m 0) x.none (cond (nat_eq m 1) x.first (cond (nat_eq m 2) x.second x.both))) same

-- a child of a node whose children are numbers is one
pub quad_child_inside : (ns : List Quad) (x : Quad) (v : ℕ) → AreInside ns x → IsNumber ns (quad_child x v)
quad_child_inside ns x v inside = of_children (IsNumber ns) x v inside.0 inside.1 inside.2 inside.3

-- the points of the valuation 0 are at the node, and those of the others further on
pub here_sees : (ns : List Quad) (x : Quad) (v : ℕ) → v ≡ 0 → sees ns x v ≡ x.points
here_sees ns x v is = ap (λ t. cond t x.points (points_of ns (quad_child x v) (v / 4))) (eq-eqb v 0 is)

pub further : (ns : List Quad) (x : Quad) (v : ℕ) → (v ≡ 0 → ⊥) → sees ns x v ≡ points_of ns (quad_child x v) (v / 4)
further ns x v ne = ap (λ t. cond t x.points (points_of ns (quad_child x v) (v / 4))) (ne_eqb v 0 ne)

-- if two walks agree whenever something of the valuation is left, the points are the same
step_same : (v : ℕ) (points a b : ℕ) → ((v ≡ 0 → ⊥) → a ≡ b) → cond (nat_eq v 0) points a ≡ cond (nat_eq v 0) points b
step_same v points a b same = elim (cases_eq v 0) [
  | inl is ↦ ap (λ t. cond t points a) (eq-eqb v 0 is) ∙ sym (ap (λ t. cond t points b) (eq-eqb v 0 is))
  | inr ne ↦ ap (λ p. cond (nat_eq v 0) points p) (same ne)
]

module _ (ns : List Quad) where
  -- a walk with enough steps ends where one with more ends
  enough : (f g n v : ℕ) → v < f → v < g → walk_to ns f n v ≡ walk_to ns g n v
  unfolding walk_to
  enough zero g n v a b = absurd (omega (arith, a))
  enough (suc f) zero n v a b = absurd (omega (arith, b))
  enough (suc f) (suc g) n v a b =
      by (node_at ns n) (λ x ne. enough f g (quad_child x v) (v / 4) (omega (arith, a, ne)) (omega (arith, b, ne)))
    where
      by : (o : Option Quad) → ((x : Quad) → (v ≡ 0 → ⊥) → walk_to ns f (quad_child x v) (v / 4) ≡ walk_to ns g (quad_child x v) (v / 4))
          → option_map_or (λ x. cond (nat_eq v 0) x.points (walk_to ns f (quad_child x v) (v / 4))) o 0
          ≡ option_map_or (λ x. cond (nat_eq v 0) x.points (walk_to ns g (quad_child x v) (v / 4))) o 0
      by None rest = refl
      by (Some x) rest = step_same v x.points (walk_to ns f (quad_child x v) (v / 4)) (walk_to ns g (quad_child x v) (v / 4)) (rest x)

  -- the points by a number are those by its node
  pub by_node : (n v : ℕ) (x : Quad) → node_at ns n ≡ Some x → points_of ns n v ≡ sees ns x v
  unfolding points_of walk_to
  by_node n v x h =
      ap (λ o. option_map_or (λ y. cond (nat_eq v 0) y.points (walk_to ns v (quad_child y v) (v / 4))) o 0) h
      ∙ step_same v x.points (walk_to ns v (quad_child x v) (v / 4)) (walk_to ns (suc (v / 4)) (quad_child x v) (v / 4))
      (λ ne. enough v (suc (v / 4)) (quad_child x v) (v / 4) (omega (arith, ne)) (omega arith))

  -- 0 and 1 have no points
  pub no_points : (n v : ℕ) → n ≤ 1 → points_of ns n v ≡ 0
  unfolding points_of walk_to
  no_points zero v h = refl
  no_points (suc zero) v h = refl
  no_points (suc (suc n)) v h = absurd (omega (arith, h))

-- a node with nothing has none either
pub sees_nothing : (ns : List Quad) (n v : ℕ) → n ≤ 1 → sees ns nothing v ≡ points_of ns n v
sees_nothing ns n v h = by (nat_eq v 0) (nat_eq (v % 4) 0) (nat_eq (v % 4) 1) (nat_eq (v % 4) 2) ∙ sym (no_points ns n v h)
  where
    by : (z a b c : Bool) → cond z 0 (points_of ns (cond a 0 (cond b 0 (cond c 0 0))) (v / 4)) ≡ 0
    by true a b c = refl
    by false true b c = no_points ns 0 (v / 4) (omega arith)
    by false false true c = no_points ns 0 (v / 4) (omega arith)
    by false false false true = no_points ns 0 (v / 4) (omega arith)
    by false false false false = no_points ns 0 (v / 4) (omega arith)

-- a node that compares as equal to one with nothing is one
pub is_nothing : (ns : List Quad) (x : Quad) → x ≡ nothing → (v : ℕ) → points_of ns 0 v ≡ sees ns x v
is_nothing ns x is v = sym (ap (λ y. sees ns y v) is ∙ sees_nothing ns 0 v (omega arith))

-- the children of a number's node are smaller
pub child_below : (ns : List Quad) → QuadsGoDown ns → (n v : ℕ) (x : Quad) → node_at ns n ≡ Some x → quad_child x v < n
child_below ns down n v x h =
    let k = has_node ns n x h in
    let big = k.0 in
    let d = down (n - 2) x k.1 in
    of_children (λ m. m < n) x v (omega (arith, big, d)) (omega (arith, big, d)) (omega (arith, big, d)) (omega (arith, big, d))

module _ (ns : List Quad) (n v : ℕ) (x : Quad) (big : 1 < n) (at : slice_get ns (n - 2) ≡ Some x) where
  -- if nothing of a valuation is left, its points are here
  pub here : v ≡ 0 → points_of ns n v ≡ x.points
  here is = by_node ns n v x (node_of ns n x big at) ∙ here_sees ns x v is

  -- else they are further on
  pub on_same : (v ≡ 0 → ⊥) → points_of ns (quad_child x v) (v / 4) ≡ points_of ns n v
  on_same ne = sym (by_node ns n v x (node_of ns n x big at) ∙ further ns x v ne)

pub on_inside : (ns : List Quad) → QuadsGoDown ns → (n v : ℕ) (x : Quad) → 1 < n → slice_get ns (n - 2) ≡ Some x → IsNumber ns n
    → IsNumber ns (quad_child x v)
on_inside ns down n v x big at inside = let less = child_below ns down n v x (node_of ns n x big at) in omega (arith, less, inside)

module _ (ns ms : List Quad) (down : QuadsGoDown ns) where
  -- a walk goes the same way with more nodes after
  same_walk : (f n v : ℕ) → IsNumber ns n → walk_to (ns ++ ms) f n v ≡ walk_to ns f n v
  unfolding walk_to
  same_walk zero n v inside = refl
  same_walk (suc f) n v inside =
      ap (λ o. option_map_or (λ x. cond (nat_eq v 0) x.points (walk_to (ns ++ ms) f (quad_child x v) (v / 4))) o 0)
      (same_node_at ns ms n inside)
      ∙ by (node_at ns n) refl
      (λ x less. ap (λ p. cond (nat_eq v 0) x.points p) (same_walk f (quad_child x v) (v / 4) (omega (arith, less, inside))))
    where
      by : (o : Option Quad) → node_at ns n ≡ o → ((x : Quad) → quad_child x v < n
          → cond (nat_eq v 0) x.points (walk_to (ns ++ ms) f (quad_child x v) (v / 4))
          ≡ cond (nat_eq v 0) x.points (walk_to ns f (quad_child x v) (v / 4)))
          → option_map_or (λ x. cond (nat_eq v 0) x.points (walk_to (ns ++ ms) f (quad_child x v) (v / 4))) o 0
          ≡ option_map_or (λ x. cond (nat_eq v 0) x.points (walk_to ns f (quad_child x v) (v / 4))) o 0
      by None e rest = refl
      by (Some x) e rest = rest x (child_below ns down n v x e)

  keeps_more : KeepQuads ns (ns ++ ms)
  unfolding points_of
  keeps_more = record {
    longer = grind (arith, length-append {A = Quad});
    same = λ n v inside. same_walk (suc v) n v inside;
  }

pub keeps_self : (ns : List Quad) → KeepQuads ns ns
keeps_self ns = record { longer = omega arith; same = λ n v inside. refl }

pub keeps_on : (ns ms os : List Quad) → KeepQuads ns ms → KeepQuads ms os → KeepQuads ns os
keeps_on ns ms os a b =
    let la = a.longer in
    let lb = b.longer in record {
      longer = omega (arith, la, lb);
      same = λ n v inside. b.same n v (omega (arith, inside, la)) ∙ a.same n v inside;
    }

pub stays_inside : (ns ms : List Quad) (x : Quad) → KeepQuads ns ms → AreInside ns x → AreInside ms x
stays_inside ns ms x keeps inside =
    let longer = keeps.longer in
    (omega (arith, inside, longer), omega (arith, inside, longer), omega (arith, inside, longer), omega (arith, inside, longer))

-- and a node has the points that it had
pub still_sees : (ns ms : List Quad) (x : Quad) → KeepQuads ns ms → AreInside ns x → (v : ℕ) → sees ms x v ≡ sees ns x v
still_sees ns ms x keeps inside v =
    ap (λ p. cond (nat_eq v 0) x.points p) (keeps.same (quad_child x v) (v / 4) (quad_child_inside ns x v inside))

module _ (ns : List Quad) (down : QuadsGoDown ns) (x : Quad) (inside : AreInside ns x) where
  -- children of the nodes that there are come before the new one
  down_more : QuadsGoDown (ns ++ x ∷ [])
  down_more i y h = elim (got_from ns x y i h) [
    | inl (less, was) ↦ down i y was
    | inr (at, is) ↦ subst (λ (z : Quad). IsBelow z (i + 2)) (sym is)
        (omega (arith, at, inside), omega (arith, at, inside), omega (arith, at, inside), omega (arith, at, inside))
  ]

  pub quads_down : (new : List Quad) → IsGrown x ns new → QuadsGoDown new
  quads_down new (inl same) = subst QuadsGoDown (sym same) down
  quads_down new (inr more) = subst QuadsGoDown (sym more.0) down_more

  pub quads_keep : (new : List Quad) → IsGrown x ns new → KeepQuads ns new
  quads_keep new (inl same) = subst (KeepQuads ns) (sym same) (keeps_self ns)
  quads_keep new (inr more) = subst (KeepQuads ns) (sym more.0) (keeps_more ns (x ∷ []) down)

  -- the points by the number of the node
  pub quad_sees : (new : List Quad) → IsGrown x ns new → (i v : ℕ) → slice_get new i ≡ Some x → points_of new (i + 2) v ≡ sees ns x v
  quad_sees new grown i v at = by_node new (i + 2) v x (number_of new i x at) ∙ still_sees ns new x (quads_keep new grown) inside v

-- a node at which there is something leaves the nodes reduced
pub quads_reduced : (ns : List Quad) (x : Quad) → x ≢ nothing → QuadsAreReduced ns → (new : List Quad) → IsGrown x ns new
    → QuadsAreReduced new
quads_reduced ns x own reduced new (inl same) = subst QuadsAreReduced (sym same) reduced
quads_reduced ns x own reduced new (inr more) = subst QuadsAreReduced (sym more.0) (λ i y h. elim (got_from ns x y i h) [
  | inl (less, was) ↦ reduced i y was
  | inr (at, is) ↦ subst (λ z. z ≢ nothing) (sym is) own
])
