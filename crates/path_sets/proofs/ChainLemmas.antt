-- The diagram of the least valuations: a chain of nodes.
use Rattle.std.proofs.Common.{◌≡◌, ℕ, zero, suc, ◌+◌, ◌-◌, ◌*◌, ◌^◌, ◌<◌, ◌≤◌, inl, inr, List, [], ◌∷◌, length}
use Rattle.std.proofs.Common.{refl, sym, ap, subst, arith}
use Rattle.std.proofs.Math.Nat.{pow-le-pow_right}
use Rattle.std.proofs.lemmas.Bool.{cases_lt}
use Rattle.std.proofs.lemmas.Nat.{pow_pos}
use Rattle.language.specs.Lists.{Member}
use Rattle.path_sets.specs.Suffixes.{Apart, Depends, HasNodes, Prefix, prefix, SameSuffixes}
use Rattle.path_sets.proofs.ShiftLemmas.{next_pow}
use Rattle.path_sets.proofs.PrefixLemmas.{fits_from, fits_to}

-- the prefixes of 0s alone, of a given number of levels from one on
abbrev chain : ℕ → ℕ → List Prefix
chain k zero = []
chain k (suc n) = prefix (k + n) 0 ∷ chain k n

chain_long : (k n : ℕ) → length (chain k n) ≡ n
chain_long k zero = refl
chain_long k (suc n) = ap suc (chain_long k n)

in_chain : (k n : ℕ) (x : Prefix) → Member x (chain k n) → (j : ℕ) × (j < n) × (x ≡ prefix (k + j) 0)
in_chain k zero x m = elim m [ ]
in_chain k (suc n) x (inl is) = (n, omega arith, is)
in_chain k (suc n) x (inr later) = let (j, less, is) = in_chain k n x later in (j, omega (arith, less), is)

of_chain : (k n j : ℕ) → j < n → Member (prefix (k + j) 0) (chain k n)
of_chain k zero j less = absurd (omega (arith, less))
of_chain k (suc n) j less = elim (cases_lt j n) [
  | inl before ↦ inr (of_chain k n j before)
  | inr last ↦ let is : j ≡ n = omega (arith, less, last) in inl (ap (λ i. prefix (k + i) 0) is)
]

module _ (k : ℕ) where
  -- the least valuations: those that have no bit from this one on
  abbrev pub Least : ℕ → Type 0
  Least v = v < 2 ^ k

  chain_apart : (n : ℕ) → Apart Least (chain k n)
  chain_apart zero = tt
  chain_apart (suc n) = (
    λ y m level same.
        let (j, less, is) = in_chain k n y m in
        let at : y.level ≡ k + j = ap (λ (x : Prefix). x.level) is in
        omega (arith, less, at, level),
    chain_apart n,
  )

  pow_up : (l : ℕ) → k ≤ l → 2 ^ k ≤ 2 ^ l
  pow_up l later = let two : 0 < 2 = omega arith in pow-le-pow_right two later

  -- the suffixes of 0s depend on each later bit
  zeros_depend : (l : ℕ) → k ≤ l → Depends Least l 0
  zeros_depend l later same =
      let some_of = pow_pos k in
      let more = pow_up l later in
      let big = (same 0).0 (omega (arith, some_of)) in
      omega (arith, more, big)

  -- those of no prefix depend on an earlier one
  none_depend : (l p : ℕ) → l < k → p < 2 ^ l → SameSuffixes Least (l + 1) p (p + 2 ^ l)
  none_depend l p early short u =
      let next = next_pow l in
      let short' : p < 2 ^ (l + 1) = omega (arith, short, next) in
      let short'' : p + 2 ^ l < 2 ^ (l + 1) = omega (arith, short, next) in
      let most : l + 1 ≤ k = omega (arith, early) in (
        λ h. fits_from k (l + 1) (p + 2 ^ l) u most short'' (fits_to k (l + 1) p u most short' h),
        λ h. fits_from k (l + 1) p u most short' (fits_to k (l + 1) (p + 2 ^ l) u most short'' h),
      )

  many : (u m : ℕ) → m ≤ suc u * m
  many u m = let e : suc u * m ≡ m + u * m = grind arith in omega (arith, e)

  -- a greater prefix has no suffixes
  none_after : (l p : ℕ) → 2 ^ k ≤ p → SameSuffixes Least (l + 1) p (p + 2 ^ l)
  none_after l p great u = (λ h. absurd (omega (arith, great, h)), λ h. absurd (omega (arith, great, h)))

  -- and the others have that of 0s alone
  zeros_after : (l p : ℕ) → k ≤ l → p < 2 ^ k → SameSuffixes Least l p 0
  zeros_after l p later small zero = (λ h. let some_of = pow_pos k in omega (arith, some_of), λ h. omega (arith, small))
  zeros_after l p later small (suc u) =
      let more = pow_up l later in
      let big = many u (2 ^ l) in
      (λ h. absurd (omega (arith, more, big, h)), λ h. absurd (omega (arith, more, big, h)))

  pub least_nodes : (w : ℕ) → k ≤ w → HasNodes w Least (w - k)
  least_nodes w within = record {
    prefixes = chain k (w - k);
    nodes = record {
      each = λ x m.
          let (j, less, is) = in_chain k (w - k) x m in
          subst (λ (y : Prefix). (y.level < w) × (y.bits < 2 ^ y.level) × Depends Least y.level y.bits) (sym is)
          (omega (arith, less, within), pow_pos (k + j), zeros_depend (k + j) (omega arith));
      all = λ l p early short depends. elim (cases_lt l k) [
        | inl before ↦ absurd (depends (none_depend l p before short))
        | inr later ↦ elim (cases_lt p (2 ^ k)) [
          | inr great ↦ absurd (depends (none_after l p great))
          | inl small ↦
              let same : k + (l - k) ≡ l = omega (arith, later) in (
                0,
                subst (λ i. Member (prefix i 0) (chain k (w - k))) same (of_chain k (w - k) (l - k) (omega (arith, later, early))),
                zeros_after l p later small,
              )
        ]
      ];
      apart = chain_apart (w - k);
    };
    counted = sym (chain_long k (w - k));
  }
