-- Members of sets that are kept as decision diagrams.
use Rattle.std.proofs.Common.{◌≡◌, ℕ, ◌+◌, ◌<◌, ◌^◌, Bool, true, false, ◌||◌, List, [], ◌∷◌}
use Rattle.std.proofs.Common.{map, filter, length, ◌⊎◌, ◌↔◌, inl, inr, refl, sym, ap, ◌∙◌, subst, true≢false}
use Rattle.std.specs.List.{list_any}
use Rattle.language.specs.Lists.{Member, NoneTwice}
use Rattle.language.proofs.Members.{member_map, map_member}
use Rattle.language.specs.Words.{word_bits}
use Rattle.path_sets.specs.declared.diagrams.quad.Quad.{Quad}
use Rattle.path_sets.specs.declared.points.mask_key.MaskKey.{MaskKey}
use Rattle.path_sets.specs.declared.diagrams.roots.DiagramKey.{DiagramKey}
use Rattle.path_sets.specs.Triples.{Triple, triple}
use Rattle.path_sets.specs.Edges.{mask_edges}
use Rattle.path_sets.specs.Diagrams.{TakesGiven, merged_has}
use Rattle.path_sets.specs.Members.{below, each, universe, triple_eq, has_edge, all_edges, IsEdgeThere}
use Rattle.path_sets.proofs.MaskKeyLemmas.{three_self, same_by_three}
use Rattle.path_sets.proofs.FilterLemmas.{kept_is, is_kept, same_kept, kept_none_twice, one_more, in_each}
use Rattle.path_sets.proofs.FilterLemmas.{of_each, each_none_twice, map_none_twice, in_below, of_below, below_none_twice}
use Rattle.std.proofs.lemmas.Bool.{false_from_ne_true, or_cases, or_left, or_right}
use Rattle.path_sets.proofs.KeyLemmas.{found_is_in, is_found}

-- a path edge of words
pub record Fits (t : Triple) : Type 0 where
  pub entry : t.entry < 2 ^ word_bits
  pub point : t.point < 2 ^ 64
  pub values : t.values < 2 ^ word_bits

at_point : ℕ → ℕ → List Triple
at_point e p = map (triple e p) (below (2 ^ word_bits))

at_entry : ℕ → List Triple
at_entry e = each (at_point e) (below (2 ^ 64))

pub in_universe : (t : Triple) → Fits t → Member t universe
unfolding universe at_entry at_point
in_universe t f =
    in_each at_entry (below (2 ^ word_bits)) t.entry t (in_below t.entry (2 ^ word_bits) f.entry)
    (in_each (at_point t.entry) (below (2 ^ 64)) t.point t (in_below t.point (2 ^ 64) f.point)
    (member_map (triple t.entry t.point) (below (2 ^ word_bits)) t.values (in_below t.values (2 ^ word_bits) f.values)))

entry_is : (e : ℕ) (t : Triple) → Member t (at_entry e) → t.entry ≡ e
unfolding at_entry at_point
entry_is e t h =
    let (p, there, m) = of_each (at_point e) (below (2 ^ 64)) t h in
    let (v, there', is) = map_member (triple e p) (below (2 ^ word_bits)) t m in
    ap (λ (k : Triple). k.entry) is

point_is : (e p : ℕ) (t : Triple) → Member t (at_point e p) → t.point ≡ p
unfolding at_point
point_is e p t m =
    let (v, there, is) = map_member (triple e p) (below (2 ^ word_bits)) t m in
    ap (λ (k : Triple). k.point) is

pub universe_none_twice : NoneTwice universe
unfolding universe at_entry at_point
universe_none_twice =
    each_none_twice at_entry (below (2 ^ word_bits)) (below_none_twice (2 ^ word_bits))
    (λ e. each_none_twice (at_point e) (below (2 ^ 64)) (below_none_twice (2 ^ 64))
    (λ p. map_none_twice (triple e p) (below (2 ^ word_bits)) (λ x y m n same. ap (λ (k : Triple). k.values) same)
    (below_none_twice (2 ^ word_bits)))
    (λ p q t a b. sym (point_is e p t a) ∙ point_is e q t b))
    (λ d e t a b. sym (entry_is d t a) ∙ entry_is e t b)

-- path edges that compare as equal are the same
pub same_triple : (x y : Triple) → triple_eq x y ≡ true → x ≡ y
same_triple x y = same_by_three triple x.entry x.point x.values y.entry y.point y.values

-- the test for members of a list
pub any_member : (t : Triple) (ts : List Triple) → list_any (triple_eq t) ts ≡ true → Member t ts
any_member = found_is_in triple_eq same_triple

pub member_any : (t : Triple) (ts : List Triple) → Member t ts → list_any (triple_eq t) ts ≡ true
member_any = is_found triple_eq (λ t. three_self t.entry t.point t.values)

-- one that has a path edge exactly if the other has it gives the same
pub same_test : (a b : Bool) → (a ≡ true → b ≡ true) → (b ≡ true → a ≡ true) → a ≡ b
same_test true b f g = sym (f refl)
same_test false true f g = g refl
same_test false false f g = refl

module _ (nodes : List Quad) (diagrams : List (DiagramKey × ℕ)) (masks : List (MaskKey × ℕ)) where
  abbrev pub Has : Triple → Type 0
  Has t = IsEdgeThere nodes diagrams masks t

  pub has_is : (t : Triple) → has_edge nodes diagrams masks t ≡ true → Has t
  has_is t h = elim (or_cases (merged_has nodes diagrams t) (list_any (triple_eq t) (mask_edges masks)) h) [
    | inl in_sets ↦ inl in_sets
    | inr gathered ↦ inr (any_member t (mask_edges masks) gathered)
  ]

  pub is_had : (t : Triple) → Has t → has_edge nodes diagrams masks t ≡ true
  is_had t (inl in_sets) = or_left (merged_has nodes diagrams t) (list_any (triple_eq t) (mask_edges masks)) in_sets
  is_had t (inr gathered) =
      or_right (merged_has nodes diagrams t) (list_any (triple_eq t) (mask_edges masks)) (member_any t (mask_edges masks) gathered)

  -- a path edge of words is a member exactly if it is had
  pub member_is : (t : Triple) → Member t (all_edges nodes diagrams masks) → Has t
  member_is t m = has_is t (kept_is (has_edge nodes diagrams masks) universe t m).1

  pub is_member : (t : Triple) → Fits t → Has t → Member t (all_edges nodes diagrams masks)
  is_member t f h = is_kept (has_edge nodes diagrams masks) universe t (in_universe t f) (is_had t h)

  pub all_none_twice : NoneTwice (all_edges nodes diagrams masks)
  all_none_twice = kept_none_twice (has_edge nodes diagrams masks) universe universe_none_twice

-- the valuations there are words
pub values_fit : (t : Triple) → Member t universe → t.values < 2 ^ word_bits
unfolding universe at_entry at_point
values_fit t h =
    let (e, _, m) = of_each at_entry (below (2 ^ word_bits)) t h in
    let (p, _, m') = of_each (at_point e) (below (2 ^ 64)) t m in
    let (v, there, is) = map_member (triple e p) (below (2 ^ word_bits)) t m' in
    let small = of_below v (2 ^ word_bits) there in
    let same : t.values ≡ v = ap (λ (k : Triple). k.values) is in
    subst (λ k. k < 2 ^ word_bits) (sym same) small

module _ (ns ms : List Quad) (rs ss : List (DiagramKey × ℕ)) (masks masks' : List (MaskKey × ℕ)) where
  -- sets that have exactly the same path edges have the same members
  pub same_members : ((t : Triple) → Has ns rs masks t ↔ Has ms ss masks' t)
      → all_edges ms ss masks' ≡ all_edges ns rs masks
  same_members h =
      same_kept (has_edge ms ss masks') (has_edge ns rs masks) universe
      (λ t m. let f = h t in same_test (has_edge ms ss masks' t) (has_edge ns rs masks t)
      (λ had. is_had ns rs masks t (f.1 (has_is ms ss masks' t had)))
      (λ had. is_had ms ss masks' t (f.0 (has_is ns rs masks t had))))

  -- path edges that go from those gathered into the sets are still there
  pub members_stay : TakesGiven (λ t. Member t (mask_edges masks)) ns ms rs ss
      → ((t : Triple) → Member t (mask_edges masks') → Member t (mask_edges masks))
      → ((t : Triple) → Member t (mask_edges masks) → (merged_has ms ss t ≡ true) ⊎ Member t (mask_edges masks'))
      → all_edges ms ss masks' ≡ all_edges ns rs masks
  members_stay takes fewer all = same_members (λ t. (
    λ h. elim h [ inl was ↦ inl (takes.kept t was) | inr gathered ↦ all t gathered ],
    λ h. elim h [
      | inl merged ↦ elim (takes.sound t merged) [ inl was ↦ inl was | inr new ↦ inr new ]
      | inr gathered ↦ inr (fewer t gathered)
    ],
  ))

-- the same is gathered
pub same_gathered : (ns : List Quad) (rs : List (DiagramKey × ℕ)) (masks masks' : List (MaskKey × ℕ)) → mask_edges masks' ≡ mask_edges masks
    → all_edges ns rs masks' ≡ all_edges ns rs masks
same_gathered ns rs masks masks' same =
    ap (λ es. filter (λ t. merged_has ns rs t || list_any (triple_eq t) es) universe) same

-- one more path edge is there
module _ (ns : List Quad) (rs : List (DiagramKey × ℕ)) (masks masks' : List (MaskKey × ℕ)) (x : Triple) (fits : Fits x)
    (has_more : (t : Triple) → Has ns rs masks' t ↔ ((t ≡ x) ⊎ Has ns rs masks t)) where
  pub members_more : (t : Triple) → Member t (all_edges ns rs masks') ↔ ((t ≡ x) ⊎ Member t (all_edges ns rs masks))
  members_more t = (
    λ m. elim ((has_more t).0 (member_is ns rs masks' t m)) [
      | inl is ↦ inl is
      | inr was ↦ inr (is_kept (has_edge ns rs masks) universe t (kept_is (has_edge ns rs masks') universe t m).0
          (is_had ns rs masks t was))
    ],
    λ h. elim h [
      | inl is ↦ subst (λ k. Member k (all_edges ns rs masks')) (sym is) (is_member ns rs masks' x fits ((has_more x).1 (inl refl)))
      | inr m ↦ is_kept (has_edge ns rs masks') universe t (kept_is (has_edge ns rs masks) universe t m).0
          (is_had ns rs masks' t ((has_more t).1 (inr (member_is ns rs masks t m))))
    ],
  )

  pub one_longer : (Member x (all_edges ns rs masks) → ⊥) → length (all_edges ns rs masks') ≡ length (all_edges ns rs masks) + 1
  one_longer new =
      one_more (has_edge ns rs masks) (has_edge ns rs masks') universe x universe_none_twice (in_universe x fits)
      (false_from_ne_true (has_edge ns rs masks x) (λ had. new (is_member ns rs masks x fits (has_is ns rs masks x had))))
      (is_had ns rs masks' x ((has_more x).1 (inl refl)))
      (λ t ne. same_test (has_edge ns rs masks' t) (has_edge ns rs masks t)
      (λ had. elim ((has_more t).0 (has_is ns rs masks' t had)) [ inl is ↦ absurd (ne is) | inr was ↦ is_had ns rs masks t was ])
      (λ had. is_had ns rs masks' t ((has_more t).1 (inr (has_is ns rs masks t had)))))

-- sets with nothing have no members
pub no_members : (ns : List Quad) (rs : List (DiagramKey × ℕ)) (masks : List (MaskKey × ℕ))
    → ((t : Triple) → merged_has ns rs t ≡ false)
    → mask_edges masks ≡ []
    → all_edges ns rs masks ≡ []
no_members ns rs masks none empty = by (all_edges ns rs masks) refl
  where
    by : (ts : List Triple) → all_edges ns rs masks ≡ ts → all_edges ns rs masks ≡ []
    by [] e = e
    by (t ∷ ts) e =
        let m : Member t (all_edges ns rs masks) = subst (λ l. Member t l) (sym e) (inl refl) in
        absurd (elim (member_is ns rs masks t m) [
          | inl merged ↦ true≢false (sym merged ∙ none t)
          | inr gathered ↦ subst
              (λ l. Member t l) empty gathered
        ])
