-- Prefixes of valuations lead to the numbers of the sets of their suffixes.
use Rattle.std.proofs.Common.{◌≡◌, ℕ, zero, suc, ◌+◌, ◌-◌, ◌*◌, ◌/◌, ◌%◌, ◌^◌, ◌<◌, ◌≤◌, Bool, true, cond, ◌==◌}
use Rattle.std.proofs.Common.{inl, inr, List, Some, sym, ap, ◌∙◌, subst, arith}
use Rattle.std.proofs.lemmas.Bool.{cases_lt}
use Rattle.std.proofs.lemmas.Nat.{pow_pos, pow-add, mul-add-lt, shr_split, shr_high, shr_below, mod_below, div_below}
use Rattle.language.specs.Words.{word_bits}
use Rattle.path_sets.specs.declared.counting.bit_node.BitNode.{BitNode}
use Rattle.path_sets.specs.Walks.{IsNumber, node_at}
use Rattle.path_sets.specs.Diagrams.{accepts, AreOrdered, AreReduced, GoDown, level_of}
use Rattle.path_sets.specs.Walks.{StandOnce}
use Rattle.path_sets.specs.Suffixes.{SameSuffixes}
use Rattle.path_sets.proofs.ShiftLemmas.{with_bit, bits_above, bits_within, after_bit, next_pow}
use Rattle.path_sets.proofs.CanonicityLemmas.{level_is, kind, child_after, within, half, canonical}
use Rattle.path_sets.proofs.MembersLemmas.{same_test}

-- a bit after a prefix makes one of the next level
longer : (p b m : ℕ) → p < m → b < 2 → p + b * m < m * 2
longer p zero m short small = omega (arith, short)
longer p (suc zero) m short small = omega (arith, short)
longer p (suc (suc b)) m short small = absurd (omega (arith, small))

-- a prefix with a suffix has no bit from an end on exactly if the suffix fits after the prefix
pub fits_from : (e l p u : ℕ) → l ≤ e → p < 2 ^ l → u < 2 ^ (e - l) → p + u * 2 ^ l < 2 ^ e
fits_from e l p u short small fits =
    let whole : l + (e - l) ≡ e = omega (arith, short) in
    let room : 2 ^ l * 2 ^ (e - l) ≡ 2 ^ e = sym (pow-add 2 l (e - l)) ∙ ap (λ k. 2 ^ k) whole in
    let less = mul-add-lt u (2 ^ l) p (2 ^ (e - l)) fits small in
    omega (arith, less, room)

pub fits_to : (e l p u : ℕ) → l ≤ e → p < 2 ^ l → p + u * 2 ^ l < 2 ^ e → u < 2 ^ (e - l)
fits_to e l p u short small fits =
    let whole : e ≡ e - l + l = omega (arith, short) in
    let turned : p + u * 2 ^ l ≡ u * 2 ^ l + p = omega arith in
    let less = shr_below (u * 2 ^ l + p) (e - l) l (subst (λ k. u * 2 ^ l + p < 2 ^ k) whole (subst (λ k. k < 2 ^ e) turned fits)) in
    subst (λ k. k < 2 ^ (e - l)) (shr_high u l p small) less

module _ (ns : List BitNode) (root : ℕ) where
  -- the suffixes of a prefix of a level are the set of a number, which tests no bit before that level
  pub record Leads (level p n : ℕ) : Type 0 where
    pub inside : IsNumber ns n
    pub short : p < 2 ^ level
    pub deep : level ≤ level_of ns n
    pub same : (u : ℕ) → accepts ns root (p + u * 2 ^ level) ≡ accepts ns n (u * 2 ^ level)

  pub leads_first : IsNumber ns root → Leads 0 0 root
  leads_first inside = record {
    inside = inside;
    short = omega arith;
    deep = omega arith;
    same = λ u. let e : 0 + u * 2 ^ 0 ≡ u * 2 ^ 0 = omega arith in ap (accepts ns root) e;
  }

  module _ (down : GoDown ns) (ordered : AreOrdered ns) where
    -- a bit leads from a number with a node of the level to a child
    pub to_child : (p n : ℕ) (x : BitNode) → node_at ns n ≡ Some x → Leads x.level p n → (b : ℕ) → b < 2
        → Leads (x.level + 1) (p + b * 2 ^ x.level) (cond (b == 1) x.high x.low)
    to_child p n x at leads b small =
        let after = child_after ns down ordered n x leads.inside at (b == 1) in
        let next = next_pow x.level in
        let long = longer p b (2 ^ x.level) leads.short small in record {
          inside = after.1;
          short = omega (arith, next, long);
          deep = omega (arith, after);
          same = λ u. ap (accepts ns root) (after_bit p b u x.level) ∙ leads.same (b + u * 2)
              ∙ half ns down ordered n x leads.inside at b u small
              ∙ within ns down ordered (cond (b == 1) x.high x.low) (with_bit x.level b u) (u * 2 ^ (x.level + 1)) after.1
              (λ i least most. bits_above x.level b u i small (omega (arith, least, after)));
        }

    -- and from one of a later level to itself
    pub to_same : (l p n : ℕ) → Leads l p n → l < level_of ns n → (b : ℕ) → b < 2 → Leads (l + 1) (p + b * 2 ^ l) n
    to_same l p n leads later b small =
        let next = next_pow l in
        let long = longer p b (2 ^ l) leads.short small in record {
          inside = leads.inside;
          short = omega (arith, next, long);
          deep = omega (arith, later);
          same = λ u. ap (accepts ns root) (after_bit p b u l) ∙ leads.same (b + u * 2)
              ∙ within ns down ordered n (with_bit l b u) (u * 2 ^ (l + 1)) leads.inside
              (λ i least most. bits_above l b u i small (omega (arith, least, later)));
        }

    -- so a prefix with 0s after it, up to the number's level, leads there too
    deeper_by : (d l p n : ℕ) → Leads l p n → l + d ≤ level_of ns n → Leads (l + d) p n
    deeper_by zero l p n leads most = let same : l ≡ l + 0 = omega arith in subst (λ k. Leads k p n) same leads
    deeper_by (suc d) l p n leads most =
        let before = deeper_by d l p n leads (omega (arith, most)) in
        let none : p + 0 * 2 ^ (l + d) ≡ p = omega arith in
        let same : l + d + 1 ≡ l + suc d = omega arith in
        subst (λ k. Leads k p n) same
        (subst (λ q. Leads (l + d + 1) q n) none (to_same (l + d) p n before (omega (arith, most)) 0 (omega arith)))

    deeper : (l p n : ℕ) → Leads l p n → Leads (level_of ns n) p n
    deeper l p n leads =
        let deep = leads.deep in
        let same : l + (level_of ns n - l) ≡ level_of ns n = omega (arith, deep) in
        subst (λ k. Leads k p n) same (deeper_by (level_of ns n - l) l p n leads (omega (arith, deep)))

    -- some prefix of its own level leads to a number
    abbrev pub IsLed : ℕ → Type 0
    IsLed n = (p : ℕ) × Leads (level_of ns n) p n

    pub child_led : (n : ℕ) (x : BitNode) → node_at ns n ≡ Some x → IsLed n → (b : ℕ) → b < 2 → IsLed (cond (b == 1) x.high x.low)
    child_led n x at (p, leads) b small =
        let here = subst (λ l. Leads l p n) (level_is ns n x at) leads in
        (p + b * 2 ^ x.level, deeper (x.level + 1) (p + b * 2 ^ x.level) (cond (b == 1) x.high x.low) (to_child p n x at here b small))

    pub root_led : IsNumber ns root → IsLed root
    root_led inside = (0, deeper 0 0 root (leads_first inside))

    -- numbers among which the root is, and with each node its children
    module _ (Among : ℕ → Type 0) (inside : IsNumber ns root) (first : Among root)
        (closed : (n : ℕ) (x : BitNode) → Among n → node_at ns n ≡ Some x → (b : Bool) → Among (cond b x.high x.low)) where
      next : (l p : ℕ) → ((n : ℕ) × Among n × Leads l p n) → l < word_bits → (b : ℕ) → b < 2
          → (m : ℕ) × Among m × Leads (l + 1) (p + b * 2 ^ l) m
      next l p (n, among, leads) early b small = elim (cases_lt l (level_of ns n)) [
        | inl later ↦ (n, among, to_same l p n leads later b small)
        | inr least ↦
            let deep = leads.deep in
            let is : level_of ns n ≡ l = omega (arith, deep, least) in
            elim (kind ns n leads.inside) [
              | inr (_, far) ↦ absurd (omega (arith, far, early, is))
              | inl (x, at) ↦
                  let own : l ≡ x.level = sym is ∙ level_is ns n x at in (
                    cond (b == 1) x.high x.low,
                    closed n x among at (b == 1),
                    subst (λ k. Leads (k + 1) (p + b * 2 ^ k) (cond (b == 1) x.high x.low)) (sym own)
                        (to_child p n x at (subst (λ k. Leads k p n) own leads) b small),
                  )
            ]
      ]

      -- have one to which each prefix leads
      pub led : (l p : ℕ) → l ≤ word_bits → p < 2 ^ l → (n : ℕ) × Among n × Leads l p n
      led zero p most short =
          let none : 0 ≡ p = omega (arith, short) in (root, first, subst (λ q. Leads 0 q root) none (leads_first inside))
      led (suc l) p most short =
          let one : l + 1 ≡ suc l = omega arith in
          let double = next_pow l in
          let bound : p < 2 * 2 ^ l = let e : 2 ^ suc l ≡ 2 ^ (l + 1) = ap (λ k. 2 ^ k) (sym one) in omega (arith, e, double, short) in
          let small = div_below p (2 ^ l) 2 (pow_pos l) bound in
          let split : p % 2 ^ l + p / 2 ^ l * 2 ^ l ≡ p = let e = shr_split p l in omega (arith, e) in
          let found = next l (p % 2 ^ l) (led l (p % 2 ^ l) (omega (arith, most)) (mod_below p (2 ^ l) (pow_pos l)))
          (omega (arith, most)) (p / 2 ^ l) small in
          (found.0, found.1, subst (λ k. Leads k p found.0) one (subst (λ q. Leads (l + 1) q found.0) split found.2))

    -- the words in the set of the root
    abbrev pub Word : ℕ → Type 0
    Word v = (v < 2 ^ word_bits) × (accepts ns root v ≡ true)

    carried : (l p q n u : ℕ) → l ≤ word_bits → Leads l p n → Leads l q n → Word (p + u * 2 ^ l) → Word (q + u * 2 ^ l)
    carried l p q n u most a b (fits, in_set) = (
      fits_from word_bits l q u most b.short (fits_to word_bits l p u most a.short fits),
      b.same u ∙ sym (a.same u) ∙ in_set,
    )

    -- prefixes that lead to one number have the same suffixes
    pub same_suffixes : (l p q n : ℕ) → l ≤ word_bits → Leads l p n → Leads l q n → SameSuffixes Word l p q
    same_suffixes l p q n most a b u = (carried l p q n u most a b, carried l q p n u most b a)

    -- and prefixes that have the same suffixes lead to one number
    pub one_number : AreReduced ns → StandOnce ns → (l p q n m : ℕ) → l ≤ word_bits → Leads l p n → Leads l q m
        → SameSuffixes Word l p q
        → n ≡ m
    one_number reduced once l p q n m most a b same = canonical ns down ordered reduced once n m a.inside b.inside agree
      where
        agree : (v : ℕ) → accepts ns n v ≡ accepts ns m v
        agree v =
            let u = v / 2 ^ l % 2 ^ (word_bits - l) in
            let small = mod_below (v / 2 ^ l) (2 ^ (word_bits - l)) (pow_pos (word_bits - l)) in
            let deep = a.deep in
            let deep' = b.deep in
            within ns down ordered n v (u * 2 ^ l) a.inside
            (λ i least less. sym (bits_within v l word_bits i (omega (arith, deep, least)) less))
            ∙ sym (a.same u)
            ∙ same_test (accepts ns root (p + u * 2 ^ l)) (accepts ns root (q + u * 2 ^ l))
            (λ h. ((same u).0 (fits_from word_bits l p u most a.short small, h)).1)
            (λ h. ((same u).1 (fits_from word_bits l q u most b.short small, h)).1)
            ∙ b.same u
            ∙ within ns down ordered m (u * 2 ^ l) v b.inside
            (λ i least less. bits_within v l word_bits i (omega (arith, deep', least)) less)
