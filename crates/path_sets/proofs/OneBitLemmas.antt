-- The diagram of one point, made of nodes that test one bit.
use Rattle.std.proofs.Common.{◌≡◌, ℕ, zero, suc, ◌+◌, ◌*◌, ◌/◌, ◌%◌, ◌^◌, ◌<◌, ◌≤◌, ◌==◌, Bool}
use Rattle.std.proofs.Common.{true, false, cond, ◌&&◌, nat_eq}
use Rattle.std.proofs.Common.{List, Some, inl, inr, refl, sym, ap, ◌∙◌, subst, arith, eq-eqb}
use Rattle.std.specs.Prelude.{Result, Ok, Err, IfOk}
use Rattle.std.specs.Bool.{beq}
use Rattle.std.specs.Map.{lookup}
use Rattle.std.proofs.lemmas.Bool.{cases_eq, eqb-true, ne_eqb, and_parts}
use Rattle.std.proofs.lemmas.Nat.Bits.{bit_at_lowest, bit_at-suc, bit_at-zero}
use Rattle.std.proofs.lemmas.Option.{same_Some}
use Rattle.language.specs.Words.{word_bits}
use Rattle.path_sets.specs.declared.counting.bit_node.BitNode.{BitNode}
use Rattle.path_sets.specs.declared.diagrams.quad.Quad.{Quad}
use Rattle.path_sets.specs.declared.counting.one_bit.Subproblem.{Subproblem}
use Rattle.path_sets.specs.Masks.{bit_of}
use Rattle.path_sets.specs.Walks.{IsNumber}
use Rattle.path_sets.specs.Quads.{is_at, levels, points_of, sees, quad_child}
use Rattle.path_sets.specs.Diagrams.{accepts, child, KeepsNodes, level_of}
use Rattle.path_sets.specs.OneBitDiagrams.{Solves, AreSolved, subproblem_eq}
use Rattle.path_sets.proofs.GrowthLemmas.{keeps_on}
use Rattle.path_sets.proofs.MaskKeyLemmas.{same_flag}
use Rattle.path_sets.proofs.ShiftLemmas.{down_bit, four_pow, next_rest}
use Rattle.path_sets.proofs.QuadLemmas.{no_points}
use Rattle.path_sets.proofs.WalkLemmas.{at_leaf}

-- nothing is left after the last level
no_rest : (v l : ℕ) → l ≡ levels → v < 2 ^ word_bits → v / 4 ^ l ≡ 0
no_rest v l last less = ap (λ k. v / 4 ^ k) last ∙ omega (arith, less)

-- the two bits of a level are the lowest of what is left there
rest_bit : (v l j : ℕ) → bit_of v (2 * l + j) ≡ bit_of (v / 4 ^ l) j
rest_bit v l j = sym (ap (λ k. bit_of (v / k) j) (four_pow l) ∙ down_bit v (2 * l) j)

first_bit : (v l : ℕ) → bit_of v (2 * l) ≡ (v / 4 ^ l % 2 == 1)
first_bit v l =
    let same : 2 * l ≡ 2 * l + 0 = omega arith in
    ap (bit_of v) same ∙ rest_bit v l 0 ∙ ap (λ x. x == 1) (bit_at_lowest (v / 4 ^ l))

second_bit : (v l : ℕ) → bit_of v (2 * l + 1) ≡ (v / 4 ^ l / 2 % 2 == 1)
second_bit v l = rest_bit v l 1 ∙ ap (λ x. x == 1) (bit_at-suc (v / 4 ^ l) 0 ∙ bit_at_lowest (v / 4 ^ l / 2))

-- the two lowest bits of a number, by what is left when it is divided by 4
by_four : (w : ℕ) (P : ℕ → ℕ → ℕ → Type 0) → (w % 4 ≡ 0 → P 0 0 0) → P 1 1 0 → P 2 0 1 → P 3 1 1
    → P (w % 4) (w % 2) (w / 2 % 2)
by_four w P none first second both = elim (cases_eq (w % 4) 0) [
  | inl is ↦ at 0 0 0 is (omega (arith, is)) (omega (arith, is)) (none is)
  | inr not0 ↦ elim (cases_eq (w % 4) 1) [
    | inl is ↦ at 1 1 0 is (omega (arith, is)) (omega (arith, is)) first
    | inr not1 ↦ elim (cases_eq (w % 4) 2) [
      | inl is ↦ at 2 0 1 is (omega (arith, is)) (omega (arith, is)) second
      | inr not2 ↦
          let is : w % 4 ≡ 3 = omega (arith, not0, not1, not2) in at 3 1 1 is (omega (arith, is)) (omega (arith, is)) both
    ]
  ]
]
  where
    at : (r p q : ℕ) → w % 4 ≡ r → w % 2 ≡ p → w / 2 % 2 ≡ q → P r p q → P (w % 4) (w % 2) (w / 2 % 2)
    at r p q a b c h =
        subst (λ x. P x (w % 2) (w / 2 % 2)) (sym a) (subst (λ x. P r x (w / 2 % 2)) (sym b) (subst (λ x. P r p x) (sym c) h))

-- nodes that are kept twice are kept
pub on : (ns ms os : List BitNode) → KeepsNodes ns ms → KeepsNodes ms os → KeepsNodes ns os
on ns ms os a b = keeps_on child (λ (x : BitNode). x.level) word_bits ns ms os a b

-- a number below a level stays one when the nodes are kept
pub stays_below : (ns ms : List BitNode) (n k : ℕ) → KeepsNodes ns ms → IsNumber ns n → k < level_of ns n
    → IsNumber ms n × (k < level_of ms n)
stays_below ns ms n k kept inside deep = (omega (arith, kept.longer, inside), omega (arith, kept.levels n inside, deep))

-- and one that has what is subproblem for at the next level is below the two bits of this one
pub next_below : (qs : List Quad) (bit : ℕ) (ns ms : List BitNode) (subproblem : Subproblem) (l n : ℕ) → subproblem.level ≡ l + 1
    → Solves qs bit ns subproblem n → KeepsNodes ns ms → IsNumber ms n × (2 * l + 1 < level_of ms n)
next_below qs bit ns ms subproblem l n next has kept = stays_below ns ms n (2 * l + 1) kept has.inside (omega (arith, next, has.deep))

-- 0 and 1 have no node
leaf_level : (ns : List BitNode) (n : ℕ) → n ≤ 1 → level_of ns n ≡ word_bits
leaf_level ns zero h = refl
leaf_level ns (suc zero) h = refl
leaf_level ns (suc (suc n)) h = absurd (omega (arith, h))

-- subproblems that compare as equal are the same
same_subproblem : (x y : Subproblem) → subproblem_eq x y ≡ true → x ≡ y
same_subproblem x y h =
    let (number, rest) = and_parts (nat_eq x.number y.number) (beq x.zero y.zero && nat_eq x.level y.level) h in
    let (nought, level) = and_parts (beq x.zero y.zero) (nat_eq x.level y.level) rest in
    λ j. record {
      number = eqb-true x.number y.number number j;
      zero = same_flag x.zero y.zero nought j;
      level = eqb-true x.level y.level level j;
    }

module _ (qs : List Quad) (bit : ℕ) where
  -- a valuation of which nothing is left is at the point if that is what is told
  at_zero : (n : ℕ) (nought : Bool) (w : ℕ) → w ≡ 0 → is_at qs n nought bit w ≡ nought
  at_zero n nought w is = ap (λ t. cond t nought (bit_of (points_of qs n w) bit)) (eq-eqb w 0 is)

  -- and the others are where their points say
  at_others : (n : ℕ) (nought : Bool) (w : ℕ) → (w ≡ 0 → ⊥) → is_at qs n nought bit w ≡ bit_of (points_of qs n w) bit
  at_others n nought w ne = ap (λ t. cond t nought (bit_of (points_of qs n w) bit)) (ne_eqb w 0 ne)

  -- if what is told is what its points say, all are as the points say
  at_all : (n w : ℕ) → is_at qs n (bit_of (points_of qs n 0) bit) bit w ≡ bit_of (points_of qs n w) bit
  at_all n w = elim (cases_eq w 0) [
    | inl is ↦ at_zero n (bit_of (points_of qs n 0) bit) w is ∙ ap (λ k. bit_of (points_of qs n k) bit) (sym is)
    | inr ne ↦ at_others n (bit_of (points_of qs n 0) bit) w ne
  ]

  -- 0 and 1 have no points
  at_none : (n w : ℕ) → n ≤ 1 → is_at qs n false bit w ≡ false
  at_none n w h =
      ap (λ p. cond (nat_eq w 0) false (bit_of p bit)) (no_points qs n w h)
      ∙ ap (λ p. cond (nat_eq w 0) false (p == 1)) (bit_at-zero bit) ∙ by (nat_eq w 0)
    where
      by : (t : Bool) → cond t false (0 == 1) ≡ false
      by true = refl
      by false = refl

  -- the four ways on from a node
  four_ways : (x : Quad) (n : ℕ) (nought : Bool) (w : ℕ) → sees qs x w ≡ points_of qs n w
      → cond (w % 2 == 1)
      (cond (w / 2 % 2 == 1) (bit_of (points_of qs x.both (w / 4)) bit) (bit_of (points_of qs x.first (w / 4)) bit))
      (cond (w / 2 % 2 == 1) (bit_of (points_of qs x.second (w / 4)) bit) (is_at qs x.none nought bit (w / 4)))
      ≡ is_at qs n nought bit w
  four_ways x n nought w same = elim (cases_eq w 0) [
    | inl is ↦
        let low : w % 2 ≡ 0 = omega (arith, is) in
        let high : w / 2 % 2 ≡ 0 = omega (arith, is) in
        (λ j. cond (low j == 1)
        (cond (w / 2 % 2 == 1) (bit_of (points_of qs x.both (w / 4)) bit) (bit_of (points_of qs x.first (w / 4)) bit))
        (cond (high j == 1) (bit_of (points_of qs x.second (w / 4)) bit) (is_at qs x.none nought bit (w / 4))))
        ∙ at_zero x.none nought (w / 4) (omega (arith, is)) ∙ sym (at_zero n nought w is)
    | inr ne ↦
        by_four w (λ r p q. cond (p == 1)
        (cond (q == 1) (bit_of (points_of qs x.both (w / 4)) bit) (bit_of (points_of qs x.first (w / 4)) bit))
        (cond (q == 1) (bit_of (points_of qs x.second (w / 4)) bit) (is_at qs x.none nought bit (w / 4)))
        ≡ bit_of
        (points_of qs (cond (nat_eq r 0) x.none (cond (nat_eq r 1) x.first (cond (nat_eq r 2) x.second x.both))) (w / 4)) bit)
        (λ low. at_others x.none nought (w / 4) (λ is. ne (omega (arith, low, is)))) refl refl refl
        ∙ sym (at_others n nought w ne
        ∙ ap (λ p. bit_of p bit) (sym same ∙ ap (λ t. cond t x.points (points_of qs (quad_child x w) (w / 4))) (ne_eqb w 0 ne)))
  ]

  -- the nodes of a number that has what is subproblem for
  at_leaf_answers : (ns : List BitNode) (subproblem : Subproblem) (n : ℕ) → n ≤ 1 → subproblem.level ≤ levels
      → ((v : ℕ) → v < 2 ^ word_bits → is_at qs subproblem.number subproblem.zero bit (v / 4 ^ subproblem.level) ≡ nat_eq n 1)
      → Solves qs bit ns subproblem n
  at_leaf_answers ns subproblem n small most same = record {
    inside = omega (arith, small);
    deep = omega (arith, most, leaf_level ns n small);
    same = λ v less. at_leaf child ns n v small ∙ sym (same v less);
  }

  -- after the last level there is nothing left
  pub last_answers : (ns : List BitNode) (subproblem : Subproblem) (n : ℕ) → n ≤ 1 → subproblem.level ≡ levels
      → subproblem.zero ≡ nat_eq n 1
      → Solves qs bit ns subproblem n
  last_answers ns subproblem n small last told =
      at_leaf_answers ns subproblem n small (omega (arith, last))
      (λ v less. at_zero subproblem.number subproblem.zero (v / 4 ^ subproblem.level) (no_rest v subproblem.level last less) ∙ told)

  -- no valuation is at the point by a number without points
  pub none_answers : (ns : List BitNode) (subproblem : Subproblem) → subproblem.level ≤ levels → subproblem.number ≤ 1
      → subproblem.zero ≡ false
      → Solves qs bit ns subproblem 0
  none_answers ns subproblem most small told =
      at_leaf_answers ns subproblem 0 (omega arith) most (λ v less.
      ap (λ t. is_at qs subproblem.number t bit (v / 4 ^ subproblem.level)) told
      ∙ at_none subproblem.number (v / 4 ^ subproblem.level) small)

  -- more nodes leave a number what it has
  answers_on : (ns ms : List BitNode) → KeepsNodes ns ms → (subproblem : Subproblem) (n : ℕ) → Solves qs bit ns subproblem n
      → Solves qs bit ms subproblem n
  answers_on ns ms keeps subproblem n a =
      let longer = keeps.longer in
      let inside = a.inside in record {
        inside = omega (arith, longer, inside);
        deep = let deep = a.deep in let level = keeps.levels n inside in omega (arith, deep, level);
        same = λ v less. keeps.same n v inside ∙ a.same v less;
      }

  pub found_on : (ns ms : List BitNode) → KeepsNodes ns ms → (found : List (Subproblem × ℕ)) → AreSolved qs bit ns found
      → AreSolved qs bit ms found
  found_on ns ms keeps found have subproblem n at = answers_on ns ms keeps subproblem n (have subproblem n at)

  -- one more number is found
  pub found_more : (ns : List BitNode) (old new : List (Subproblem × ℕ)) (own : Subproblem) (number : ℕ) → AreSolved qs bit ns old
      → Solves qs bit ns own number
      → ((q : Subproblem) → lookup (subproblem_eq q) new ≡ cond (subproblem_eq own q) (Some number) (lookup (subproblem_eq q) old))
      → AreSolved qs bit ns new
  found_more ns old new own number have answers updates subproblem n at = by (subproblem_eq own subproblem) refl
    where
      by : (t : Bool) → subproblem_eq own subproblem ≡ t → Solves qs bit ns subproblem n
      by true e =
          let same : number ≡ n = same_Some number n
          (sym (ap (λ t. cond t (Some number) (lookup (subproblem_eq subproblem) old)) e) ∙ sym (updates subproblem) ∙ at) in
          subst (Solves qs bit ns subproblem) same
          (subst (λ a. Solves qs bit ns a number) (same_subproblem own subproblem e) answers)
      by false e =
          have subproblem n (sym (ap (λ t. cond t (Some number) (lookup (subproblem_eq subproblem) old)) e) ∙ sym (updates subproblem) ∙ at)

  -- what is subproblem for begins with what a number's points say
  abbrev pub Begins : ℕ → ℕ → Subproblem → Type 0
  Begins n l subproblem = (subproblem.number ≡ n) × (subproblem.zero ≡ bit_of (points_of qs n 0) bit) × (subproblem.level ≡ l)

  begun_same : (ns : List BitNode) (subproblem : Subproblem) (m n l v : ℕ) → Solves qs bit ns subproblem m → Begins n (l + 1) subproblem
      → v < 2 ^ word_bits
      → accepts ns m v ≡ bit_of (points_of qs n (v / 4 ^ l / 4)) bit
  begun_same ns subproblem m n l v a (number, nought, level) less =
      a.same v less ∙ (λ j. is_at qs (number j) (nought j) bit (v / 4 ^ (level j))) ∙ at_all n (v / 4 ^ (l + 1))
      ∙ ap (λ u. bit_of (points_of qs n u) bit) (next_rest v l)

  -- a number's set by those of the four ways on
  module _ (n1 n2 n3 n4 n5 n6 : List BitNode) (k12 : KeepsNodes n1 n2) (k23 : KeepsNodes n2 n3) (k34 : KeepsNodes n3 n4)
      (k45 : KeepsNodes n4 n5)
      (k56 : KeepsNodes n5 n6) (subproblem a b c : Subproblem) (x : Quad) (none first second both low high : ℕ)
      (same : (v : ℕ) → sees qs x v ≡ points_of qs subproblem.number v) (begins-a : Begins x.first (subproblem.level + 1) a)
      (begins-b : Begins x.second (subproblem.level + 1) b) (begins-c : Begins x.both (subproblem.level + 1) c)
      (none-is : Solves qs bit n1 (record { number = x.none; zero = subproblem.zero; level = subproblem.level + 1 }) none)
      (first-is : Solves qs bit n2 a first) (second-is : Solves qs bit n3 b second) (both-is : Solves qs bit n4 c both)
      (inside : IsNumber n5 low)
      (low-is : (v : ℕ) → accepts n5 low v ≡ cond (bit_of v (2 * subproblem.level + 1)) (accepts n4 second v) (accepts n4 none v))
      (high-is : (v : ℕ) → accepts n6 high v ≡ cond (bit_of v (2 * subproblem.level + 1)) (accepts n5 both v) (accepts n5 first v))
    where
      -- those without the bit at the level
      lower : (v : ℕ) → v < 2 ^ word_bits → accepts n6 low v ≡ cond (v / 4 ^ subproblem.level / 2 % 2 == 1)
          (bit_of (points_of qs x.second (v / 4 ^ subproblem.level / 4)) bit)
          (is_at qs x.none subproblem.zero bit (v / 4 ^ subproblem.level / 4))
      lower v less =
          let other = answers_on n3 n4 k34 b second second-is in
          let rest = answers_on n1 n4 (on n1 n2 n4 k12 (on n2 n3 n4 k23 k34)) _ none none-is in
          let there : accepts n4 second v ≡ bit_of (points_of qs x.second (v / 4 ^ subproblem.level / 4)) bit =
          begun_same n4 b second x.second subproblem.level v other begins-b less in
          let here : accepts n4 none v ≡ is_at qs x.none subproblem.zero bit (v / 4 ^ subproblem.level / 4) =
          rest.same v less ∙ ap (is_at qs x.none subproblem.zero bit) (next_rest v subproblem.level) in
          k56.same low v inside ∙ low-is v ∙ (λ j. cond (second_bit v subproblem.level j) (there j) (here j))

      -- and those with it
      upper : (v : ℕ) → v < 2 ^ word_bits → accepts n6 high v ≡ cond (v / 4 ^ subproblem.level / 2 % 2 == 1)
          (bit_of (points_of qs x.both (v / 4 ^ subproblem.level / 4)) bit)
          (bit_of (points_of qs x.first (v / 4 ^ subproblem.level / 4)) bit)
      upper v less =
          let other = answers_on n4 n5 k45 c both both-is in
          let rest = answers_on n2 n5 (on n2 n3 n5 k23 (on n3 n4 n5 k34 k45)) a first first-is in
          let there : accepts n5 both v ≡ bit_of (points_of qs x.both (v / 4 ^ subproblem.level / 4)) bit =
          begun_same n5 c both x.both subproblem.level v other begins-c less in
          let here : accepts n5 first v ≡ bit_of (points_of qs x.first (v / 4 ^ subproblem.level / 4)) bit =
          begun_same n5 a first x.first subproblem.level v rest begins-a less in
          high-is v ∙ (λ j. cond (second_bit v subproblem.level j) (there j) (here j))

      pub children_answer : {E : Type 0} (n7 : List BitNode) (r : Result ℕ E) → IfOk r (λ n. IsNumber n7 n)
          → IfOk r (λ n. 2 * subproblem.level ≤ level_of n7 n)
          → IfOk r (λ n. (v : ℕ) → accepts n7 n v ≡ cond (bit_of v (2 * subproblem.level)) (accepts n6 high v) (accepts n6 low v))
          → IfOk r (Solves qs bit n7 subproblem)
      children_answer n7 (Err e) inside' deep joined = tt
      children_answer n7 (Ok n) inside' deep joined = record {
        inside = inside';
        deep = deep;
        same = λ v less.
            joined v ∙ (λ j. cond (first_bit v subproblem.level j) (upper v less j) (lower v less j))
            ∙ four_ways x subproblem.number subproblem.zero (v / 4 ^ subproblem.level) (same (v / 4 ^ subproblem.level));
      }
