-- Insertions put into a diagram, one run after another.
use Rattle.std.proofs.Common.{bit_or, ◌≡◌, ℕ, zero, suc, ◌+◌, ◌/◌, ◌%◌, ◌^◌, ◌<◌, Bool, true, false, cond, max}
use Rattle.std.proofs.Common.{◌==◌}
use Rattle.std.proofs.Common.{List, [], ◌∷◌, ◌++◌, take, drop, length, Some, slice_get, ◌⊎◌, ◌↔◌, inl, inr}
use Rattle.std.proofs.Common.{refl, sym, ap, ◌∙◌, subst, arith, true≢false, is_some}
use Rattle.std.specs.Int.{bit_at}
use Rattle.std.proofs.lemmas.Bool.{cases_eq}
use Rattle.std.proofs.lemmas.Nat.Bits.{bit_at-lt, bit_at_or}
use Rattle.std.proofs.lemmas.Option.{same_Some}
use Rattle.language.specs.Lists.{Member}
use Rattle.language.proofs.Members.{member_append, member_left, member_right}
use Rattle.path_sets.specs.declared.diagrams.quad.Quad.{Quad}
use Rattle.path_sets.specs.declared.diagrams.insertion.Insertion.{Insertion}
use Rattle.path_sets.specs.Masks.{bit_of}
use Rattle.path_sets.specs.Walks.{IsNumber}
use Rattle.path_sets.specs.Halves.{ContinuesBy, valuation_of}
use Rattle.path_sets.specs.Quads.{AreInside, IsInserted, Joins, KeepQuads, points_of, sees, quad_child}
use Rattle.path_sets.proofs.ShiftLemmas.{next_rest}
use Rattle.path_sets.proofs.QuadLemmas.{further, here_sees, quad_child_inside, quad_child_same}

-- a list begins with its first item
pub first_and_rest : {A : Type 0} (xs : List A) (x : A) → slice_get xs 0 ≡ Some x → xs ≡ x ∷ drop 1 xs
first_and_rest [] x h = absurd (true≢false (sym (ap is_some h)))
first_and_rest (y ∷ ys) x h = ap (λ z. z ∷ ys) (same_Some y x h)

-- the first items are at the first indexes
in_first : {A : Type 0} (n : ℕ) (xs : List A) (x : A) → Member x (take n xs) → (i : ℕ) × (i < n) × (slice_get xs i ≡ Some x)
in_first zero xs x h = elim h [ ]
in_first (suc n) [] x h = elim h [ ]
in_first (suc n) (y ∷ ys) x (inl is) = (zero, omega arith, ap Some (sym is))
in_first (suc n) (y ∷ ys) x (inr later) = let r = in_first n ys x later in let less = r.1 in (suc r.0, omega (arith, less), r.2)

-- what holds for the first of all, and for those after it, holds for each of the first items
pub all_first : {A : Type 0} (P : A → Type 0) (xs : List A) (n : ℕ) (first : A) → slice_get xs 0 ≡ Some first → P first
    → ((i : ℕ) (x : A) → 0 < i → i < n → slice_get xs i ≡ Some x → P x) → (x : A) → Member x (take n xs) → P x
all_first P xs n first at is all x m =
    let (i, less, there) = in_first n xs x m in elim (cases_eq i 0) [
      | inl zeroth ↦ subst P (same_Some first x (sym at ∙ ap (slice_get xs) (sym zeroth) ∙ there)) is
      | inr later ↦ all i x (omega (arith, later)) less there
    ]

-- one fact instead of another
pub iff_on : (A B C : Type 0) → A ↔ B → B ↔ C → A ↔ C
iff_on A B C f g = (λ a. g.0 (f.0 a), λ c. f.1 (g.1 c))

-- what has the first of two parts is put beside the second
regroup : (New Old First Rest All : Type 0) → New ↔ (Old ⊎ First) → All ↔ (First ⊎ Rest) → (New ⊎ Rest) ↔ (Old ⊎ All)
regroup New Old First Rest All own all = (
  λ h. elim h [
    | inl new ↦ elim (own.0 new) [ inl was ↦ inl was | inr first ↦ inr (all.1 (inl first)) ]
    | inr later ↦ inr (all.1 (inr later))
  ],
  λ h. elim h [
    | inl was ↦ inl (own.1 (inl was))
    | inr whole ↦ elim (all.0 whole) [ inl first ↦ inl (own.1 (inr first)) | inr later ↦ inr later ]
  ],
)

larger_bit : (a b : ℕ) → a < 2 → b < 2 → (max a b == 1) ≡ cond (a == 1) true (b == 1)
larger_bit zero zero small small' = refl
larger_bit zero (suc zero) small small' = refl
larger_bit zero (suc (suc b)) small small' = absurd (omega (arith, small'))
larger_bit (suc zero) zero small small' = refl
larger_bit (suc zero) (suc zero) small small' = refl
larger_bit (suc zero) (suc (suc b)) small small' = absurd (omega (arith, small'))
larger_bit (suc (suc a)) b small small' = absurd (omega (arith, small))

-- the points of two masks
either_mask : (m w i : ℕ) → (bit_of (bit_or m w) i ≡ true) ↔ ((bit_of m i ≡ true) ⊎ (bit_of w i ≡ true))
either_mask m w i =
    let is : bit_of (bit_or m w) i ≡ cond (bit_of m i) true (bit_of w i) =
    ap (λ x. x == 1) (bit_at_or m w i) ∙ larger_bit (bit_at m i) (bit_at w i) (bit_at-lt m i) (bit_at-lt w i) in
    by (bit_of m i) (bit_of w i) (bit_of (bit_or m w) i) is
  where
    by : (a b c : Bool) → c ≡ cond a true b → (c ≡ true) ↔ ((a ≡ true) ⊎ (b ≡ true))
    by true b c is = (λ h. inl refl, λ h. is)
    by false b c is = (λ h. inr (sym is ∙ h), λ h. elim h [ inl never ↦ absurd (true≢false (sym never)) | inr set ↦ is ∙ set ])

-- the points of an insertion and of those after it
first_given : (insertion : Insertion) (more : List Insertion) (l v i : ℕ) → IsInserted (insertion ∷ more) l v i
    ↔ (((valuation_of insertion / 4 ^ l ≡ v) × (bit_of insertion.mask i ≡ true)) ⊎ IsInserted more l v i)
first_given insertion more l v i = (
  λ h. let (c, m, is, set) = h in elim m [
    | inl same ↦ inl (ap (λ d. valuation_of d / 4 ^ l) (sym same) ∙ is, ap (λ (d : Insertion). bit_of d.mask i) (sym same) ∙ set)
    | inr later ↦ inr (c, later, is, set)
  ],
  λ h. elim h [
    | inl own ↦ (insertion, inl refl, own.0, own.1)
    | inr later ↦ let (c, m, is, set) = later in (c, inr m, is, set)
  ],
)

-- those of a run and of the insertions after it
pub run_given : (run more : List Insertion) (l v i : ℕ) → IsInserted (run ++ more) l v i ↔ (IsInserted run l v i ⊎ IsInserted more l v i)
run_given run more l v i = (
  λ h. let (c, m, is, set) = h in elim (member_append c run more m) [
    | inl own ↦ inl (c, own, is, set)
    | inr later ↦ inr (c, later, is, set)
  ],
  λ h. elim h [
    | inl own ↦ let (c, m, is, set) = own in (c, member_left c run more m, is, set)
    | inr later ↦ let (c, m, is, set) = later in (c, member_right c run more m, is, set)
  ],
)

-- a insertion of whose valuation nothing is left gives its points to the node
module _ (ns : List Quad) (x : Quad) (insertion : Insertion) (l : ℕ) (more : List Insertion)
    (done : valuation_of insertion / 4 ^ l ≡ 0) where
  abbrev pub marked : Quad
  marked = record { points = bit_or x.points insertion.mask; none = x.none; first = x.first; second = x.second; both = x.both }

  node_marked : (v i : ℕ) → (bit_of (sees ns marked v) i ≡ true)
      ↔ ((bit_of (sees ns x v) i ≡ true) ⊎ ((valuation_of insertion / 4 ^ l ≡ v) × (bit_of insertion.mask i ≡ true)))
  node_marked v i = elim (cases_eq v 0) [
    | inl is ↦
        let new : sees ns marked v ≡ bit_or x.points insertion.mask = here_sees ns marked v is in
        let old : sees ns x v ≡ x.points = here_sees ns x v is in
        let both = either_mask x.points insertion.mask i in (
          λ h. elim (both.0 (ap (λ m. bit_of m i) (sym new) ∙ h)) [
            | inl was ↦ inl (ap (λ m. bit_of m i) old ∙ was)
            | inr set ↦ inr (done ∙ sym is, set)
          ],
          λ h. ap (λ m. bit_of m i) new ∙ both.1 (elim h [
            | inl was ↦ inl (ap (λ m. bit_of m i) (sym old) ∙ was)
            | inr own ↦ inr own.1
          ]),
        )
    | inr ne ↦
        let same : sees ns marked v ≡ sees ns x v = further ns marked v ne ∙ sym (further ns x v ne) in (
          λ h. inl (ap (λ m. bit_of m i) (sym same) ∙ h),
          λ h. elim h [
            | inl was ↦ ap (λ m. bit_of m i) same ∙ was
            | inr own ↦ absurd (ne (sym own.0 ∙ done))
          ],
        )
  ]

  pub stops : (v i : ℕ) → ((bit_of (sees ns marked v) i ≡ true) ⊎ IsInserted more l v i)
      ↔ ((bit_of (sees ns x v) i ≡ true) ⊎ IsInserted (insertion ∷ more) l v i)
  stops v i = regroup _ _ _ _ _ (node_marked v i) (first_given insertion more l v i)

-- a run of insertions whose valuations continue alike gives its points to the child to which they continue
module _ (ns ms : List Quad) (x y : Quad) (run more : List Insertion) (l rest child : ℕ) (keeps : KeepQuads ns ms)
    (inside : AreInside ns x)
    (alike : (c : Insertion) → Member c run → ContinuesBy (valuation_of c) l rest)
    (joins : Joins run (l + 1) (points_of ns (quad_child x rest)) (points_of ms child))
    (points : y.points ≡ x.points) (here : (v : ℕ) → v % 4 ≡ rest % 4 → quad_child y v ≡ child)
    (others : (v : ℕ) → (v % 4 ≡ rest % 4 → ⊥) → quad_child y v ≡ quad_child x v) where
  -- the run's points at a valuation are those at what is left of it
  below_run : (v i : ℕ) → v % 4 ≡ rest % 4 → (v ≡ 0 → ⊥) → IsInserted run (l + 1) (v / 4) i ↔ IsInserted run l v i
  below_run v i way ne = (
    λ h.
        let (c, m, is, set) = h in
        let next = sym (next_rest (valuation_of c) l) ∙ is in
        let own = (alike c m).0 ∙ sym way in
        (c, m, omega (arith, next, own), set),
    λ h. let (c, m, is, set) = h in (c, m, next_rest (valuation_of c) l ∙ ap (λ k. k / 4) is, set),
  )

  node_led : (v i : ℕ) → (bit_of (sees ms y v) i ≡ true) ↔ ((bit_of (sees ns x v) i ≡ true) ⊎ IsInserted run l v i)
  node_led v i = elim (cases_eq v 0) [
    | inl is ↦
        let same : sees ms y v ≡ sees ns x v = here_sees ms y v is ∙ points ∙ sym (here_sees ns x v is) in (
          λ h. inl (ap (λ m. bit_of m i) (sym same) ∙ h),
          λ h. elim h [
            | inl was ↦ ap (λ m. bit_of m i) same ∙ was
            | inr given ↦ let (c, m, at, set) = given in absurd ((alike c m).1 (at ∙ is))
          ],
        )
    | inr ne ↦ elim (cases_eq (v % 4) (rest % 4)) [
      | inl way ↦
          let new : sees ms y v ≡ points_of ms child (v / 4) = further ms y v ne ∙ ap (λ n. points_of ms n (v / 4)) (here v way) in
          let old : sees ns x v ≡ points_of ns (quad_child x rest) (v / 4) =
          further ns x v ne ∙ ap (λ n. points_of ns n (v / 4)) (quad_child_same x v rest way) in
          let below = below_run v i way ne in (
            λ h. elim ((joins (v / 4) i).0 (ap (λ m. bit_of m i) (sym new) ∙ h)) [
              | inl was ↦ inl (ap (λ m. bit_of m i) old ∙ was)
              | inr given ↦ inr (below.0 given)
            ],
            λ h. ap (λ m. bit_of m i) new ∙ (joins (v / 4) i).1 (elim h [
              | inl was ↦ inl (ap (λ m. bit_of m i) (sym old) ∙ was)
              | inr given ↦ inr (below.1 given)
            ]),
          )
      | inr other ↦
          let same : sees ms y v ≡ sees ns x v =
          further ms y v ne ∙ ap (λ n. points_of ms n (v / 4)) (others v other)
          ∙ keeps.same (quad_child x v) (v / 4) (quad_child_inside ns x v inside) ∙ sym (further ns x v ne) in (
            λ h. inl (ap (λ m. bit_of m i) (sym same) ∙ h),
            λ h. elim h [
              | inl was ↦ ap (λ m. bit_of m i) same ∙ was
              | inr given ↦ let (c, m, at, set) = given in absurd (other (ap (λ k. k % 4) (sym at) ∙ (alike c m).0))
            ],
          )
    ]
  ]

  -- the node's children are still numbers
  pub led_inside : AreInside ms x → IsNumber ms child → AreInside ms y
  led_inside within own = (each 0, each 1, each 2, each 3)
    where
      each : (v : ℕ) → IsNumber ms (quad_child y v)
      each v = elim (cases_eq (v % 4) (rest % 4)) [
        | inl way ↦ subst (IsNumber ms) (sym (here v way)) own
        | inr other ↦ subst (IsNumber ms) (sym (others v other)) (quad_child_inside ms x v within)
      ]

  pub goes_on : (v i : ℕ) → ((bit_of (sees ms y v) i ≡ true) ⊎ IsInserted more l v i)
      ↔ ((bit_of (sees ns x v) i ≡ true) ⊎ IsInserted (run ++ more) l v i)
  goes_on v i = regroup _ _ _ _ _ (node_led v i) (run_given run more l v i)

-- if no insertion is left, all are put in
pub all_put : (left : List Insertion) → length left ≡ 0 → (l v i new seen : ℕ) → new ≡ seen → (Q : Type 0)
    → ((bit_of seen i ≡ true) ⊎ IsInserted left l v i) ↔ Q
    → (bit_of new i ≡ true) ↔ Q
all_put [] none l v i new seen is Q joins = (
  λ h. joins.0 (inl (ap (λ m. bit_of m i) (sym is) ∙ h)),
  λ q. elim (joins.1 q) [ inl set ↦ ap (λ m. bit_of m i) is ∙ set | inr given ↦ elim given.1 [ ] ],
)
all_put (c ∷ cs) none l v i new seen is Q joins = absurd (omega (arith, none))
