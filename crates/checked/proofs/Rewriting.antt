-- A checked tree has what the rewriting asks.
use Rattle.std.proofs.Common.{◌≡◌, ℕ, suc, ◌+◌, Bool, true, false, cond, ◌&&◌, ◌||◌, nat_eq, List, [], ◌∷◌, ◌++◌}
use Rattle.std.proofs.Common.{length, get_or, Option, Some, None, inl, inr, refl, sym, ◌∙◌, subst, arith, length-append}
use Rattle.std.specs.Prelude.{slice_get, IfSome}
use Rattle.std.proofs.lemmas.Option.{IfSome_then}
use Rattle.std.proofs.lemmas.Bool.{eqb-true}
use Rattle.std.specs.List.{AllByRecursion}
use Rattle.language.specs.Tree.{Name, Expression, const, var, negation, two, RightSide, any, value, Simple, Block, done}
use Rattle.language.specs.Tree.{one, choose, loop, Procedure, ThreadLine, Tree}
use Rattle.language.specs.Rest.{same_text}
use Rattle.language.specs.Resolve.{number_of, is_declared, Scope, scope_of}
use Rattle.checked.specs.Faults.{AnyOf, named, known, HasTwoUnderscores, IsReserved, Repeated}
use Rattle.language.specs.Parts.{plain, targets_of, sides_of, test_of, arguments_of, callee_of}
use Rattle.resolved.specs.Statements.{Statement, statements_of, used_by, variables_of, variables_of_side}
use Rattle.resolved.specs.Statements.{variables_of_sides, variables_of_test, variables_of_all}
use Rattle.resolved.specs.There.{names, IsThere}
use Rattle.checked.specs.declared.fault.ScopeFault.TheVariants as fault
use Rattle.checked.specs.Checked.{IsChecked}
use Rattle.checked.specs.Rewritable.{begins_low, has_double, AreFree, AreDistinct, Declared, AllDeclared}
use Rattle.checked.specs.Rewritable.{ExpressionDeclared, ExpressionsDeclared, SideDeclared, SidesDeclared, HasRoom}
use Rattle.checked.specs.Rewritable.{SimpleDeclared, BlockDeclared, ProcedureRewritable, EachLine, IsRewritable}
use Rattle.checked.proofs.Works.{each_of, in_either, named_is, named_declared, Called, Works, IsGood, good, threads_start}
use Rattle.resolved.proofs.Each.{each_left, each_right}

low_first : (x : List ℕ) → begins_low x ≡ true → get_or x 0 0 ≡ 95
low_first [] h = absurd (cc)
low_first (c ∷ x) h = eqb-true c 95 h

one_on : (c : ℕ) (x : List ℕ) → HasTwoUnderscores x → HasTwoUnderscores (c ∷ x)
one_on c x d = (suc d.0, d.1, (let e : suc (d.0 + 1) ≡ suc d.0 + 1 = omega arith in subst (λ n. get_or (c ∷ x) n 0 ≡ 95) e d.2))

double_there : (x : List ℕ) → has_double x ≡ true → HasTwoUnderscores x
double_there [] h = absurd (cc)
double_there (c ∷ x) h = go (nat_eq c 95) (begins_low x) (has_double x) refl refl refl h (λ g. one_on c x (double_there x g))
  where
    go : (a b d : Bool) → nat_eq c 95 ≡ a → begins_low x ≡ b → has_double x ≡ d → ((a && b) || d) ≡ true
        → (has_double x ≡ true → HasTwoUnderscores (c ∷ x)) → HasTwoUnderscores (c ∷ x)
    go true true d e f g h later = (0, eqb-true c 95 e, low_first x f)
    go true false true e f g h later = later g
    go true false false e f g h later = absurd (cc)
    go false b true e f g h later = later g
    go false b false e f g h later = absurd (cc)

not_double : (x : List ℕ) → (HasTwoUnderscores x → ⊥) → has_double x ≡ false
not_double x h = go (has_double x) refl
  where
    go : (b : Bool) → has_double x ≡ b → b ≡ false
    go true e = absurd (h (double_there x e))
    go false e = refl

free : (xs : List Name) → ((n : ℕ) → IsReserved xs n → ⊥) → AreFree xs
free [] h = tt
free (x ∷ xs) h = (not_double x.text (λ d. h x.at (inl (refl, d))), free xs (λ n q. h n (inr q)))

copy_there : (x : List ℕ) (ys : List Name) → is_declared x ys ≡ true
    → (n : ℕ) × AnyOf (λ (y : Name). (y.at ≡ n) × (same_text x y.text ≡ true)) ys
copy_there x [] h = absurd (cc)
copy_there x (y ∷ ys) h = go (same_text x y.text) refl h (copy_there x ys)
  where
    go : (b : Bool) → same_text x y.text ≡ b → cond b true (is_declared x ys) ≡ true
        → (is_declared x ys ≡ true → (n : ℕ) × AnyOf (λ (z : Name). (z.at ≡ n) × (same_text x z.text ≡ true)) ys)
        → (n : ℕ) × AnyOf (λ (z : Name). (z.at ≡ n) × (same_text x z.text ≡ true)) (y ∷ ys)
    go true e h later = (y.at, inl (refl, e))
    go false e h later = let r = later h in (r.0, inr r.1)

distinct : (xs : List Name) → ((n : ℕ) → Repeated xs n → ⊥) → AreDistinct xs
distinct [] h = tt
distinct (x ∷ xs) h = (go (is_declared x.text xs) refl, distinct xs (λ n q. h n (inr q)))
  where
    go : (b : Bool) → is_declared x.text xs ≡ b → b ≡ false
    go true e = let r = copy_there x.text xs e in absurd (h r.0 (inl r.1))
    go false e = refl

declared_there : (t : Tree) (p : Procedure) (x : Name) → is_declared x.text (known t p) ≡ true → Declared (scope_of t p) x
declared_there t p x h none =
    elim (in_either x.text (p.formals ++ p.locals) t.globals h) [ inl e ↦ absurd (let bad : true ≡ false = sym e ∙ none in cc) | inr e ↦ e ]

all_declared : (s : Scope) (xs : List Name) → AllByRecursion (Declared s) xs → AllDeclared s xs
all_declared s [] h = tt
all_declared s (x ∷ xs) h = (h.0, all_declared s xs h.1)

-- what holds for each of two lists, one after the other
apart : {X : Type 0} (P : X → Type 0) (xs ys : List X) → AllByRecursion P (xs ++ ys) → AllByRecursion P xs × AllByRecursion P ys
apart P xs ys h = (each_left P xs ys h, each_right P xs ys h)

expression_declared : (s : Scope) (e : Expression Name) → AllByRecursion (Declared s) (variables_of e) → ExpressionDeclared s e
expression_declared s (const b) h = tt
expression_declared s (var x) h = h.0
expression_declared s (negation e) h = expression_declared s e h
expression_declared s (two o a b) h =
    let parts = apart (Declared s) (variables_of a) (variables_of b) h in (expression_declared s a parts.0, expression_declared s b parts.1)

expressions_declared : (s : Scope) (es : List (Expression Name)) → AllByRecursion (Declared s) (variables_of_all es)
    → ExpressionsDeclared s es
expressions_declared s [] h = tt
expressions_declared s (e ∷ es) h =
    let parts = apart (Declared s) (variables_of e) (variables_of_all es) h in
    (expression_declared s e parts.0, expressions_declared s es parts.1)

side_declared : (s : Scope) (r : RightSide Name) → AllByRecursion (Declared s) (variables_of_side r) → SideDeclared s r
side_declared s any h = tt
side_declared s (value e) h = expression_declared s e h

sides_declared : (s : Scope) (rs : List (RightSide Name)) → AllByRecursion (Declared s) (variables_of_sides rs) → SidesDeclared s rs
sides_declared s [] h = tt
sides_declared s (r ∷ rs) h =
    let parts = apart (Declared s) (variables_of_side r) (variables_of_sides rs) h in
    (side_declared s r parts.0, sides_declared s rs parts.1)

room : (o : Option Procedure) (m : ℕ) → IsThere o (λ r. length r.formals ≡ m) → HasRoom o m
room None m h = h
room (Some r) m h =
    let e : length (r.formals ++ r.locals) ≡ length r.formals + length r.locals = length-append r.formals r.locals in omega arith

test_declared : (s : Scope) (o : Option (RightSide Name)) → AllByRecursion (Declared s) (variables_of_test o) → IfSome o (SideDeclared s)
test_declared s None h = tt
test_declared s (Some r) h = side_declared s r h

simple_declared : (t : Tree) (s : Scope) (c : Simple Name Name Name) → s.procedures ≡ names t.procedures
    → AllByRecursion (Declared s) (used_by (plain c)) → Called t.procedures (plain c) → SimpleDeclared t s c
simple_declared t s c e h k =
    let xs = targets_of (plain c) in
    let rs = sides_of (plain c) in
    let test = test_of (plain c) in
    let es = arguments_of (plain c) in
    let of_sides = each_right (Declared s) xs (variables_of_sides rs ++ (variables_of_test test ++ variables_of_all es)) h in
    let of_test = each_right (Declared s) (variables_of_sides rs) (variables_of_test test ++ variables_of_all es) of_sides in
    record {
      targets = all_declared s xs (each_left (Declared s) xs _ h);
      sides = sides_declared s rs (each_left (Declared s) (variables_of_sides rs) _ of_sides);
      test = test_declared s test (each_left (Declared s) (variables_of_test test) _ of_test);
      arguments = expressions_declared s es (each_right (Declared s) (variables_of_test test) _ of_test);
      callee = IfSome_then (callee_of (plain c)) k (λ q w. subst
          (λ ns. (is_declared q.text ns ≡ true) × HasRoom (slice_get t.procedures (number_of q.text ns)) (length es)) (sym e) (
            named_declared q.text t.procedures w.0,
            subst (λ o. HasRoom o (length es)) (named_is q.text t.procedures) (room (named q.text t.procedures) (length es) w.1),
          ));
    }

block_declared : (t : Tree) (p : Procedure) (b : Block Name Name Name)
    → AllByRecursion (λ (s : Statement). Works t p s.head) (statements_of b)
    → BlockDeclared t (scope_of t p) b
block_declared t p done h = tt
block_declared t p (one m c k) h = (
  simple_declared t (scope_of t p) c refl (each_of (used_by (plain c)) (λ x q. declared_there t p x q) h.0.variables) h.0.called,
  block_declared t p k h.1,
)
block_declared t p (choose m r a b k) h = (
  side_declared (scope_of t p) r
      (each_of (variables_of_side r) (λ x q. declared_there t p x q) (each_left _ (variables_of_side r) [] h.0.variables)),
  block_declared t p a (each_left (λ (s : Statement). Works t p s.head) (statements_of a) (statements_of b ++ statements_of k) h.1),
  block_declared t p b
      (each_left (λ (s : Statement). Works t p s.head) (statements_of b) (statements_of k)
      (each_right (λ (s : Statement). Works t p s.head) (statements_of a) (statements_of b ++ statements_of k) h.1)),
  block_declared t p k
      (each_right (λ (s : Statement). Works t p s.head) (statements_of b) (statements_of k)
      (each_right (λ (s : Statement). Works t p s.head) (statements_of a) (statements_of b ++ statements_of k) h.1)),
)
block_declared t p (loop m r a k) h = (
  side_declared (scope_of t p) r
      (each_of (variables_of_side r) (λ x q. declared_there t p x q) (each_left _ (variables_of_side r) [] h.0.variables)),
  block_declared t p a (each_left (λ (s : Statement). Works t p s.head) (statements_of a) (statements_of k) h.1),
  block_declared t p k (each_right (λ (s : Statement). Works t p s.head) (statements_of a) (statements_of k) h.1),
)

procedures_rewritable : (t : Tree) (ps : List Procedure) → AreFree (names ps) → AllByRecursion (IsGood t) ps
    → AllByRecursion (ProcedureRewritable t) ps
procedures_rewritable t [] f h = tt
procedures_rewritable t (p ∷ ps) f h = (
  record {
    name = f.0;
    own = free (p.formals ++ p.locals) (λ n q. h.0.free n (inl q));
    body = block_declared t p p.body h.0.statements;
  },
  procedures_rewritable t ps f.1 h.1,
)

lines_named : (ps : List Procedure) (lines : List ThreadLine)
    → AllByRecursion (λ (line : ThreadLine). (named line.name.text ps ≡ None → ⊥) × IsThere (named line.name.text ps)
    (λ r. length r.formals ≡ 0)) lines → EachLine (names ps) lines
lines_named ps [] h = tt
lines_named ps (line ∷ lines) h = (named_declared line.name.text ps h.0.0, lines_named ps lines h.1)

pub checked_rewritable : (t : Tree) → IsChecked t → IsRewritable t
checked_rewritable t ok = record {
  globals = free t.globals (λ n q. ok (fault.Reserved n) (inl q));
  distinct = distinct t.globals (λ n q. ok (fault.DeclaredTwice n) (inl q));
  procedures = procedures_rewritable t t.procedures (free (names t.procedures) (λ n q. ok (fault.Reserved n) (inr (inl q)))) (good t ok);
  threads = lines_named t.procedures t.threads (threads_start t ok);
}
