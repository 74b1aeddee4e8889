-- Postfix code put together.
use Rattle.std.proofs.Common.{◌≡◌, ◌<◌, ◌≤◌, ℕ, suc, ◌+◌, ◌-◌, ◌^◌, min, max, ◌==◌, nat_lt, cond, Bool, true, false, List, []}
use Rattle.std.proofs.Common.{◌∷◌, ◌++◌, length, length-append, refl, sym, ◌∙◌, ap, subst, arith, append_assoc, append-nil, pow-suc}
use Rattle.std.proofs.Common.{Option, Some, None, inl, inr}
use Rattle.std.proofs.Math.Pow.{pow_mono}
use Rattle.std.proofs.lemmas.Bool.{eqb-true, eqb-false, ltb-true, ltb-false, cases_lt}
use Rattle.language.specs.Tree.{Expression, const, var, negation, two}
use Rattle.trees.specs.Trees.{operator_of}
use Rattle.trees.specs.declared.tree.Op.{Op}
use Rattle.flow_graph.specs.Located.{worth, read_of}
use Rattle.flow_graph.specs.Postfix.{after_steps, top, IsShallow, need, Evaluates, PutsSteps}
use Rattle.flow_graph.specs.declared.postfix.Instruction.{Instruction}
use Rattle.flow_graph.specs.declared.postfix.Instruction.TheVariants.{Read, Constant, Not, Apply, ApplySwapped}
use Rattle.resolved.specs.Limits.{most_places}

-- what two operands need together
record Together (n m N : ℕ) : Type 0 where
  pub first : N ≤ 64 → m ≤ n → (n ≤ N) × (m + 1 ≤ N)
  pub second : N ≤ 64 → n < m → (m ≤ N) × (n + 1 ≤ N)
  pub long : 2 ^ N ≤ 2 ^ n + 2 ^ m

together : (n m : ℕ) → Together n m (cond (n == m) (min (n + 1) 4294967295) (max n m))
together n m = go (n == m) refl
  where
    go : (b : Bool) → (n == m) ≡ b → Together n m (cond b (min (n + 1) 4294967295) (max n m))
    go true e = let same = eqb-true n m e in record {
      first = λ fits le. (omega (arith, fits), omega (arith, fits, same));
      second = λ fits less. absurd (omega (arith, less, same));
      long =
          let up : 2 ^ min (n + 1) 4294967295 ≤ 2 ^ suc n = pow_mono (let le : min (n + 1) 4294967295 ≤ suc n = omega arith in le) in
          let twice : 2 ^ m ≡ 2 ^ n = ap (λ k. 2 ^ k) (sym same) in
          omega (arith, up, twice, pow-suc 2 n);
    }
    go false e = let apart = eqb-false n m e in record {
      first = λ fits le. (omega arith, omega (arith, le, apart));
      second = λ fits less. (omega arith, omega (arith, less));
      long = larger (nat_lt n m) refl;
    }
      where
        larger : (b : Bool) → nat_lt n m ≡ b → 2 ^ max n m ≤ 2 ^ n + 2 ^ m
        larger true is = let same : 2 ^ max n m ≡ 2 ^ m = ap (λ j. 2 ^ j) (let less = ltb-true n m is in omega (arith, less)) in
            omega (arith, same)
        larger false is = let same : 2 ^ max n m ≡ 2 ^ n = ap (λ j. 2 ^ j) (let least = ltb-false n m is in omega (arith, least)) in
            omega (arith, same)

-- steps appended to steps, and one more
joined : (x y rest : List Instruction) (last : Instruction) → (x ++ (y ++ (last ∷ []))) ++ rest ≡ x ++ (y ++ (last ∷ rest))
joined x y rest last = append_assoc x (y ++ (last ∷ [])) rest ∙ ap (λ l. x ++ l) (append_assoc y (last ∷ []) rest)

behind : (old left right new x y : List Instruction) (last : Instruction) → left ≡ old ++ x → right ≡ left ++ y → new ≡ right ++ (last ∷ [])
    → new ≡ old ++ (x ++ (y ++ (last ∷ [])))
behind old left right new x y last e f h =
    h ∙ ap (λ l. l ++ (last ∷ [])) (f ∙ ap (λ l. l ++ y) e) ∙ append_assoc (old ++ x) y (last ∷ []) ∙ append_assoc old x (y ++ (last ∷ []))

length_joined : (x y : List Instruction) (last : Instruction) → length (x ++ (y ++ (last ∷ []))) ≡ length x + (length y + 1)
length_joined x y last = length-append x (y ++ (last ∷ [])) ∙ ap (λ n. length x + n) (length-append y (last ∷ []))

-- After two operands, the second on top, the step leaves the value of the whole, and the whole needs what they need.
record Joins (first second whole : Expression ℕ) (last : Instruction) : Type 0 where
  pub gives : (f : ℕ → Bool) (rest : List Instruction) (stack : List Bool) →
      after_steps f (last ∷ rest) (worth f second ∷ worth f first ∷ stack) ≡ after_steps f rest (worth f whole ∷ stack)
  pub takes : (depth : ℕ) (rest : List Instruction) → IsShallow (suc depth) rest → IsShallow (suc (suc depth)) (last ∷ rest)
  pub fits : need whole ≤ 64 → (need first ≤ need whole) × (need second + 1 ≤ need whole)
  pub long : 2 ^ need whole ≤ 2 ^ need first + 2 ^ need second

both_put : (first second whole : Expression ℕ) (last : Instruction) (old left right new : List Instruction) →
    Joins first second whole last → PutsSteps old left first → PutsSteps left right second → new ≡ right ++ (last ∷ []) →
    PutsSteps old new whole
both_put first second whole last old left right new joins (x, is_x, p) (y, is_y, q) e = (
  x ++ (y ++ (last ∷ [])),
  behind old left right new x y last is_x is_y e,
  record {
    puts = λ f rest stack.
        ap (λ l. after_steps f l stack) (joined x y rest last)
        ∙ p.puts f (y ++ (last ∷ rest)) stack
        ∙ q.puts f (last ∷ rest) (worth f first ∷ stack)
        ∙ joins.gives f rest stack;
    shallow = λ depth rest fits deep.
        let room = joins.fits (omega (arith, fits)) in
        subst (IsShallow depth) (sym (joined x y rest last))
        (p.shallow depth (y ++ (last ∷ rest)) (omega (arith, room, fits))
        (q.shallow (suc depth) (last ∷ rest) (omega (arith, room, fits)) (joins.takes depth rest deep)));
    long = omega (arith, joins.long, p.long, q.long, length_joined x y last);
  },
)

-- an operator takes two values and leaves one
taken : (depth : ℕ) (rest : List Instruction) → IsShallow (suc depth) rest →
    (2 ≤ suc (suc depth)) × IsShallow (suc (suc depth) - 1) rest
taken depth rest deep =
    (omega arith, subst (λ d. IsShallow d rest) (let same : suc depth ≡ suc (suc depth) - 1 = omega arith in same) deep)

module _ (a b : Expression ℕ) (op : Op) (old left right new : List Instruction) where
  abbrev needed : Together (need a) (need b) (need (two (operator_of op) a b))
  needed = together (need a) (need b)

  -- the left operand first
  pub applied : need b ≤ need a → PutsSteps old left a → PutsSteps left right b → new ≡ right ++ (Apply op ∷ []) →
      PutsSteps old new (two (operator_of op) a b)
  applied le = both_put a b _ (Apply op) old left right new record {
    gives = λ f rest stack. refl;
    takes = taken;
    fits = λ fits. needed.first fits le;
    long = needed.long;
  }

  -- the right operand first
  pub swapped : need a < need b → PutsSteps old left b → PutsSteps left right a → new ≡ right ++ (ApplySwapped op ∷ []) →
      PutsSteps old new (two (operator_of op) a b)
  swapped less = both_put b a _ (ApplySwapped op) old left right new record {
    gives = λ f rest stack. refl;
    takes = taken;
    fits = λ fits. needed.second fits less;
    long = omega (arith, needed.long);
  }

-- The steps of an expression alone are shallow: a need above 64 would take more than 2^64 of them.
pub shallow_alone : (e : Expression ℕ) (old new : List Instruction) → PutsSteps old new e → old ≡ [] → length new < 2 ^ 64 → IsShallow 0 new
shallow_alone e old new p none short =
    let same : new ≡ p.0 ++ [] = p.1 ∙ ap (λ l. l ++ p.0) none ∙ sym (append-nil p.0) in
    subst (IsShallow 0) (sym same)
    (p.2.shallow 0 []
    (few (need e)
    (λ more. let huge : 2 ^ 65 ≤ 2 ^ need e = pow_mono {i = 65} (let above : 65 ≤ need e = omega (arith, more) in above) in
    omega (arith, huge, p.2.long, short, ap length (p.1 ∙ ap (λ l. l ++ p.0) none)))) tt)
  where
    few : (n : ℕ) → (64 < n → ⊥) → 0 + n ≤ 64
    few n h = elim (cases_lt 64 n) [
      | inl more ↦ absurd (h more)
      | inr least ↦ omega (arith, least)
    ]

pub worth_alone : (f : ℕ → Bool) (e : Expression ℕ) (old new : List Instruction) → PutsSteps old new e → old ≡ []
    → top (after_steps f new []) ≡ worth f e
worth_alone f e old new p none =
    let same : new ≡ p.0 ++ [] = p.1 ∙ ap (λ l. l ++ p.0) none ∙ sym (append-nil p.0) in
    ap (λ l. top (after_steps f l [])) same ∙ ap top (p.2.puts f [] [])

-- what is read needs one value
pub need_read : (o : Option ℕ) → need (read_of o) ≡ 1
need_read None = refl
need_read (Some b) = refl

-- a bit that is read, and a constant, are by themselves the value of an expression
pub bit_read : (b : ℕ) → b < most_places → Evaluates (var b) (Read b ∷ [])
bit_read b small = record {
  puts = λ f rest stack. refl;
  shallow = λ depth rest fits deep. (omega (arith, fits), (small, deep));
  long = omega arith;
}

pub constant_read : (b : Bool) → Evaluates (const b) (Constant b ∷ [])
constant_read b = record {
  puts = λ f rest stack. refl;
  shallow = λ depth rest fits deep. (omega (arith, fits), deep);
  long = omega arith;
}

-- one step after others, and the step that negates the top
pub one_put : (e : Expression ℕ) (old new : List Instruction) (step : Instruction) → Evaluates e (step ∷ []) → new ≡ old ++ (step ∷ []) →
    PutsSteps old new e
one_put e old new step evaluates is = (step ∷ [], is, evaluates)

pub turned : (e : Expression ℕ) (old mid new : List Instruction) → PutsSteps old mid e → new ≡ mid ++ (Not ∷ []) →
    PutsSteps old new (negation e)
turned e old mid new (x, is_x, p) is = (
  x ++ (Not ∷ []),
  is ∙ ap (λ l. l ++ (Not ∷ [])) is_x ∙ append_assoc old x (Not ∷ []),
  record {
    puts = λ f rest stack.
        ap (λ l. after_steps f l stack) (append_assoc x (Not ∷ []) rest) ∙ p.puts f (Not ∷ rest) stack;
    shallow = λ depth rest fits deep.
        subst (IsShallow depth) (sym (append_assoc x (Not ∷ []) rest))
        (p.shallow depth (Not ∷ rest) fits (omega arith, deep));
    long = omega (arith, p.long, length-append x (Not ∷ []));
  },
)
