-- Numbers that are marked one after another, from a root down.
use Rattle.std.proofs.Common.{◌≡◌, ℕ, ◌+◌, ◌-◌, ◌<◌, ◌≤◌, Bool, true, false, cond, ◌==◌, ◌↔◌, ◌⊎◌, inl, inr}
use Rattle.std.proofs.Common.{List, [], ◌∷◌, Some, length, get_or, slice_set, refl, sym, ap, ◌∙◌, subst, arith, true≢false}
use Rattle.std.proofs.lemmas.Bool.{cases_eq, cases_lt}
use Rattle.std.proofs.lemmas.List.{get_or-set_same, get_or-set_other, get_or-replicate, get_or_past, length-replicate}
use Rattle.std.proofs.Math.ListN.{replicate}
use Rattle.std.proofs.lemmas.Option.{same_Some}
use Rattle.language.specs.Lists.{Member, NoneTwice}
use Rattle.path_sets.specs.declared.counting.bit_node.BitNode.{BitNode}
use Rattle.path_sets.specs.Walks.{IsNumber, node_at}
use Rattle.path_sets.specs.Diagrams.{AreOrdered, GoDown}
use Rattle.path_sets.proofs.CanonicityLemmas.{child_after}
use Rattle.path_sets.proofs.PrefixLemmas.{IsLed, child_led, root_led}

-- what is marked is the one that is put in, or was marked; and what was marked stays so
is_marked : (xs : List Bool) (k n : ℕ) → get_or (slice_set xs k true) n false ≡ true → (n ≡ k) ⊎ (get_or xs n false ≡ true)
is_marked xs k n h = elim (cases_eq n k) [
  | inl same ↦ inl same
  | inr other ↦ inr (sym (get_or-set_other xs k n true false other) ∙ h)
]

still_marked : (xs : List Bool) (k n : ℕ) → get_or xs n false ≡ true → k < length xs → get_or (slice_set xs k true) n false ≡ true
still_marked xs k n h room = elim (cases_eq n k) [
  | inl same ↦ subst (λ m. get_or (slice_set xs k true) m false ≡ true) (sym same) (get_or-set_same xs k true false room)
  | inr other ↦ get_or-set_other xs k n true false other ∙ h
]

-- in a list without marks nothing is marked
pub none_of : (n i : ℕ) → get_or (replicate n false) i false ≡ false
none_of n i = elim (cases_lt i n) [
  | inl less ↦ get_or-replicate n i false false less
  | inr past ↦ get_or_past (replicate n false) i false (let long = length-replicate n false in omega (arith, long, past))
]

module _ (ns : List BitNode) (down : GoDown ns) (ordered : AreOrdered ns) (root : ℕ) where
  -- The root is marked. Prefixes lead to all that are marked; with one after this key its children are marked; and
  -- those after it are counted.
  pub record Marked (marks : List Bool) (at count : ℕ) : Type 0 where
    pub long : length marks ≡ root + 1
    pub least : at ≤ root
    pub room : count + at ≤ root
    pub first : get_or marks root false ≡ true
    pub led : (n : ℕ) → get_or marks n false ≡ true → IsNumber ns n × IsLed ns root down ordered n
    pub closed : (n : ℕ) (x : BitNode) → at < n → get_or marks n false ≡ true → node_at ns n ≡ Some x → (b : Bool)
        → get_or marks (cond b x.high x.low) false ≡ true
    pub counted : (found : List ℕ) × NoneTwice found × (count ≡ length found)
        × ((n : ℕ) → Member n found ↔ ((at < n) × (1 < n) × (get_or marks n false ≡ true)))

  -- at first the root alone is
  pub root_marked : (xs : List Bool) → IsNumber ns root → length xs ≡ root + 1 → ((n : ℕ) → get_or xs n false ≡ false)
      → length (slice_set xs root true) ≡ root + 1
      → Marked (slice_set xs root true) root 0
  root_marked xs inside long none long' =
      let is_root : (n : ℕ) → get_or (slice_set xs root true) n false ≡ true → n ≡ root = λ n h.
      elim (is_marked xs root n h) [ inl same ↦ same | inr marked ↦ absurd (true≢false (sym marked ∙ none n)) ] in
      record {
        long = long';
        least = omega arith;
        room = omega arith;
        first = get_or-set_same xs root true false (omega (arith, long));
        led = λ n h. let same = is_root n h in
            subst (λ m. IsNumber ns m × IsLed ns root down ordered m) (sym same) (inside, root_led ns root down ordered inside);
        closed = λ n x later h at b. let same = is_root n h in absurd (omega (arith, same, later));
        counted = (
          [],
          tt,
          refl,
          λ n. (λ m. elim m [ ], λ h. let same = is_root n h.2 in let later = h.0 in absurd (omega (arith, same, later))),
        );
      }

  module _ (marks : List Bool) (at count : ℕ) (is : Marked marks at count) (inner : 1 < at) where
    -- a number that is not marked is left out
    pub left_out : get_or marks at false ≡ false → Marked marks (at - 1) count
    left_out none =
        let least = is.least in
        let room = is.room in
        let behind : (n : ℕ) → at - 1 < n → get_or marks n false ≡ true → at < n = λ n later h. elim (cases_eq n at) [
          | inl same ↦ absurd (true≢false (sym h ∙ ap (λ m. get_or marks m false) same ∙ none))
          | inr other ↦ omega (arith, later, other)
        ] in
        record {
          long = is.long;
          least = omega (arith, least);
          room = omega (arith, room);
          first = is.first;
          led = is.led;
          closed = λ n x later h. is.closed n x (behind n later h) h;
          counted = let (found, once, count_is, all) = is.counted in (
            found,
            once,
            count_is,
            λ n. (
              λ m. let h = (all n).0 m in let later = h.0 in (omega (arith, later), h.1, h.2),
              λ h. (all n).1 (behind n h.0 h.2, h.1, h.2),
            ),
          );
        }

    -- of one that is marked the children are marked, and it is counted
    module _ (x : BitNode) (marked : get_or marks at false ≡ true) (node : node_at ns at ≡ Some x) where
      inside : IsNumber ns at
      inside = (is.led at marked).0

      abbrev more : List Bool
      more = slice_set (slice_set marks x.low true) x.high true

      is_more : (n : ℕ) → get_or more n false ≡ true → (get_or marks n false ≡ true) ⊎ ((b : Bool) × (n ≡ cond b x.high x.low))
      is_more n h = elim (is_marked (slice_set marks x.low true) x.high n h) [
        | inl high ↦ inr (true, high)
        | inr h' ↦ elim (is_marked marks x.low n h') [ inl low ↦ inr (false, low) | inr was ↦ inl was ]
      ]

      module _ (long_low : length (slice_set marks x.low true) ≡ root + 1) (long_high : length more ≡ root + 1) where
        low_less : x.low < root + 1
        low_less = let a = child_after ns down ordered at x inside node false in let least = is.least in omega (arith, a, least)

        high_less : x.high < root + 1
        high_less = let a = child_after ns down ordered at x inside node true in let least = is.least in omega (arith, a, least)

        was_more : (n : ℕ) → get_or marks n false ≡ true → get_or more n false ≡ true
        was_more n h =
            let low = low_less in
            let high = high_less in
            let long = is.long in
            still_marked (slice_set marks x.low true) x.high n (still_marked marks x.low n h (omega (arith, low, long)))
            (omega (arith, high, long_low))

        child_more : (b : Bool) → get_or more (cond b x.high x.low) false ≡ true
        child_more true =
            let high = high_less in get_or-set_same (slice_set marks x.low true) x.high true false (omega (arith, high, long_low))
        child_more false =
            let low = low_less in
            let high = high_less in
            let long = is.long in
            still_marked (slice_set marks x.low true) x.high x.low
            (get_or-set_same marks x.low true false (omega (arith, low, long))) (omega (arith, high, long_low))

        -- those after the key are as they were
        as_were : (n : ℕ) → at - 1 < n → get_or more n false ≡ true → get_or marks n false ≡ true
        as_were n later h = elim (is_more n h) [
          | inl was ↦ was
          | inr (b, same) ↦
              let a = child_after ns down ordered at x inside node b in
              let less = a.2 in
              absurd (omega (arith, same, less, later))
        ]

        bit_of_side : (b : Bool) → (k : ℕ) × (k < 2) × ((k == 1) ≡ b)
        bit_of_side true = (1, omega arith, refl)
        bit_of_side false = (0, omega arith, refl)

        child_is_led : (b : Bool) → IsNumber ns (cond b x.high x.low) × IsLed ns root down ordered (cond b x.high x.low)
        child_is_led b =
            let (k, small, same) = bit_of_side b in
            let own = child_led ns root down ordered at x node (is.led at marked).1 k small in (
              (child_after ns down ordered at x inside node b).1,
              subst (λ t. IsLed ns root down ordered (cond t x.high x.low)) same own,
            )

        pub put_in : Marked more (at - 1) (count + 1)
        put_in =
            let least = is.least in
            let room = is.room in record {
              long = long_high;
              least = omega (arith, least);
              room = omega (arith, room, inner);
              first = was_more root is.first;
              led = λ n h. elim (is_more n h) [
                | inl was ↦ is.led n was
                | inr (b, same) ↦ subst (λ m. IsNumber ns m × IsLed ns root down ordered m) (sym same) (child_is_led b)
              ];
              closed = λ n y later h here b. elim (cases_eq n at) [
                | inl same ↦
                    let one : x ≡ y = same_Some x y (sym node ∙ ap (node_at ns) (sym same) ∙ here) in
                    subst (λ (z : BitNode). get_or more (cond b z.high z.low) false ≡ true) one (child_more b)
                | inr other ↦ was_more (cond b y.high y.low) (is.closed n y (omega (arith, later, other)) (as_were n later h) here b)
              ];
              counted = let (found, once, count_is, all) = is.counted in (
                at ∷ found,
                (λ m. let h = (all at).0 m in let later = h.0 in omega (arith, later), once),
                omega (arith, count_is),
                λ n. (
                  λ m. elim m [
                    | inl same ↦ (
                      omega (arith, same, inner),
                      omega (arith, same, inner),
                      subst (λ k. get_or more k false ≡ true) (sym same) (was_more at marked),
                    )
                    | inr later ↦ let h = (all n).0 later in let less = h.0 in (omega (arith, less), h.1, was_more n h.2)
                  ],
                  λ h. elim (cases_eq n at) [
                    | inl same ↦ inl same
                    | inr other ↦ let later = h.0 in inr ((all n).1 (omega (arith, later, other), h.1, as_were n h.0 h.2))
                  ],
                ),
              );
            }
