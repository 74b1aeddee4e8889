-- The numbers that prefixes lead to are counted: the inner nodes of the diagram.
use Rattle.std.proofs.Common.{◌≡◌, ℕ, suc, ◌+◌, ◌-◌, ◌*◌, ◌^◌, ◌<◌, ◌≤◌, Bool, true, false, ◌↔◌}
use Rattle.std.proofs.Common.{inl, inr}
use Rattle.std.proofs.Common.{List, [], ◌∷◌, Some, length, get_or, refl, sym, ap, ◌∙◌, subst, arith}
use Rattle.std.proofs.lemmas.Bool.{cases_lt}
use Rattle.language.specs.Lists.{Member, NoneTwice}
use Rattle.language.specs.Words.{word_bits}
use Rattle.path_sets.specs.declared.counting.bit_node.BitNode.{BitNode}
use Rattle.path_sets.specs.Walks.{IsNumber, node_at}
use Rattle.path_sets.specs.Diagrams.{AreOrdered, AreReduced, GoDown, level_of}
use Rattle.path_sets.specs.Walks.{StandOnce}
use Rattle.path_sets.specs.Suffixes.{Apart, AreNodes, Depends, HasNodes, Prefix, prefix, SameSuffixes}
use Rattle.path_sets.proofs.WalkLemmas.{has_node}
use Rattle.path_sets.proofs.CanonicityLemmas.{kind, level_is}
use Rattle.path_sets.proofs.PrefixLemmas.{IsLed, Leads, led, one_number, same_suffixes, to_child, to_same, Word}
use Rattle.path_sets.proofs.ReachedLemmas.{Marked}

module _ (ns : List BitNode) (down : GoDown ns) (ordered : AreOrdered ns) (reduced : AreReduced ns) (once : StandOnce ns) (root : ℕ) where
  -- no level is after the last
  level_most : (n : ℕ) → IsNumber ns n → level_of ns n ≤ word_bits
  level_most n inside = elim (kind ns n inside) [
    | inr (_, far) ↦ omega (arith, far)
    | inl (x, at) ↦
        let k = has_node ns n x at in
        let d = down (n - 2) x k.1 in
        let same = level_is ns n x at in
        omega (arith, d, same)
  ]

  -- prefixes that lead to these numbers, one to each
  record Named (found : List ℕ) (prefixes : List Prefix) : Type 0 where
    each : (y : Prefix) → Member y prefixes
        → (n : ℕ) × Member n found × (y.level ≡ level_of ns n) × Leads ns root y.level y.bits n
    all : (n : ℕ) → Member n found → (q : ℕ) × Member (prefix (level_of ns n) q) prefixes × Leads ns root (level_of ns n) q n
    apart : Apart (Word ns root down ordered) prefixes
    long : length prefixes ≡ length found

  name_all : (found : List ℕ) → NoneTwice found → ((n : ℕ) → Member n found → IsLed ns root down ordered n)
      → (prefixes : List Prefix) × Named found prefixes
  name_all [] apart leads = (
    [],
    record {
      each = λ y m. elim m [ ];
      all = λ n m. elim m [ ];
      apart = tt;
      long = refl;
    },
  )
  name_all (n ∷ found) (new, apart) leads =
      let (ps, named) = name_all found apart (λ m in_found. leads m (inr in_found)) in
      let (p, here) = leads n (inl refl) in (
        prefix (level_of ns n) p ∷ ps,
        record {
          each = λ y m. elim m [
            | inl is ↦ (
              n,
              inl refl,
              ap (λ (z : Prefix). z.level) is,
              subst (λ (z : Prefix). Leads ns root z.level z.bits n) (sym is) here,
            )
            | inr later ↦ let (k, in_found, level, there) = named.each y later in (k, inr in_found, level, there)
          ];
          all = λ m in_all. elim in_all [
            | inl is ↦ (
              p,
              inl (ap (λ k. prefix (level_of ns k) p) is),
              subst (λ k. Leads ns root (level_of ns k) p k) (sym is) here,
            )
            | inr later ↦ let (q, in_ps, rest) = named.all m later in (q, inr in_ps, rest)
          ];
          apart = (
            λ y later level same.
                let (m, in_found, _, there) = named.each y later in
                let one = one_number ns root down ordered reduced once (level_of ns n) p y.bits n m (level_most n here.inside) here
                (subst (λ l. Leads ns root l y.bits m) level there) same in
                new (subst (λ k. Member k found) (sym one) in_found),
            named.apart,
          );
          long = ap suc named.long;
        },
      )

  -- a node's children are not the same, so that the suffixes depend on its bit
  depends : (p n : ℕ) (x : BitNode) → node_at ns n ≡ Some x → Leads ns root x.level p n
      → Depends (Word ns root down ordered) x.level p
  depends p n x at leads same =
      let k = has_node ns n x at in
      let d = down (n - 2) x k.1 in
      let zero_on : p + 0 * 2 ^ x.level ≡ p = omega arith in
      let one_on : p + 1 * 2 ^ x.level ≡ p + 2 ^ x.level = omega arith in
      let low = to_child ns root down ordered p n x at leads 0 (omega arith) in
      let high = to_child ns root down ordered p n x at leads 1 (omega arith) in
      reduced (n - 2) x k.1 (one_number ns root down ordered reduced once (x.level + 1) p (p + 2 ^ x.level) x.low x.high (omega (arith, d))
      (subst (λ q. Leads ns root (x.level + 1) q x.low) zero_on low) (subst (λ q. Leads ns root (x.level + 1) q x.high) one_on high) same)

  -- if a number's level is a later one, they do not depend on this bit
  depends_not : (l p n : ℕ) → l < word_bits → Leads ns root l p n → l < level_of ns n → Depends (Word ns root down ordered) l p
      → ⊥
  depends_not l p n early leads later depends =
      let zero_on : p + 0 * 2 ^ l ≡ p = omega arith in
      let one_on : p + 1 * 2 ^ l ≡ p + 2 ^ l = omega arith in
      let zero' = to_same ns root down ordered l p n leads later 0 (omega arith) in
      let one' = to_same ns root down ordered l p n leads later 1 (omega arith) in
      depends (same_suffixes ns root down ordered (l + 1) p (p + 2 ^ l) n (omega (arith, early))
      (subst (λ q. Leads ns root (l + 1) q n) zero_on zero') (subst (λ q. Leads ns root (l + 1) q n) one_on one'))

  module _ (marks : List Bool) (at count : ℕ) (inside : IsNumber ns root) (is : Marked ns down ordered root marks at count)
      (end : at ≤ 1)
      (found : List ℕ) (all : (n : ℕ) → Member n found ↔ ((at < n) × (1 < n) × (get_or marks n false ≡ true)))
      (prefixes : List Prefix) (named : Named found prefixes) where
    abbrev S : ℕ → Type 0
    S = Word ns root down ordered

    each_is : (y : Prefix) → Member y prefixes → (y.level < word_bits) × (y.bits < 2 ^ y.level) × Depends S y.level y.bits
    each_is y m =
        let (n, in_found, level, leads) = named.each y m in
        let inner = ((all n).0 in_found).1 in
        elim (kind ns n leads.inside) [
          | inr (leaf, _) ↦ absurd (omega (arith, leaf, inner))
          | inl (x, node) ↦
              let own : y.level ≡ x.level = level ∙ level_is ns n x node in
              let d = down (n - 2) x (has_node ns n x node).1 in (
                omega (arith, own, d),
                leads.short,
                subst (λ l. Depends S l y.bits) (sym own) (depends y.bits n x node (subst (λ l. Leads ns root l y.bits n) own leads)),
              )
        ]

    all_are : (level p : ℕ) → level < word_bits → p < 2 ^ level → Depends S level p
        → (q : ℕ) × Member (prefix level q) prefixes × SameSuffixes S level p q
    all_are level p early short depends =
        let (n, among, leads) = led ns root down ordered (λ m. get_or marks m false ≡ true) inside is.first
        (λ m x marked node b. let big = (has_node ns m x node).0 in is.closed m x (omega (arith, end, big)) marked node b) level p
        (omega (arith, early)) short in
        let deep = leads.deep in
        elim (cases_lt level (level_of ns n)) [
          | inl later ↦ absurd (depends_not level p n early leads later depends)
          | inr least ↦
              let own : level_of ns n ≡ level = omega (arith, deep, least) in
              elim (kind ns n leads.inside) [
                | inr (_, far) ↦ absurd (omega (arith, far, early, own))
                | inl (x, node) ↦
                    let big = (has_node ns n x node).0 in
                    let (q, in_prefixes, there) = named.all n ((all n).1 (omega (arith, end, big), big, among)) in (
                      q,
                      subst (λ l. Member (prefix l q) prefixes) own in_prefixes,
                      same_suffixes ns root down ordered level p q n (omega (arith, early)) leads
                          (subst (λ l. Leads ns root l q n) own there),
                    )
              ]
        ]

    are_nodes : AreNodes word_bits S prefixes
    are_nodes = record { each = each_is; all = all_are; apart = named.apart }

  -- what is marked and counted down to 1 is the diagram
  pub all_counted : (marks : List Bool) (at count : ℕ) → IsNumber ns root → Marked ns down ordered root marks at count → at ≤ 1
      → HasNodes word_bits (Word ns root down ordered) count
  all_counted marks at count inside is end =
      let (found, none_twice, count_is, all) = is.counted in
      let (ps, named) = name_all found none_twice (λ n m. (is.led n ((all n).0 m).2).1) in
      record {
        prefixes = ps;
        nodes = are_nodes marks at count inside is end found all ps named;
        counted = count_is ∙ sym named.long;
      }
