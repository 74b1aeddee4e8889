-- What a checked tree's statements and names are: each fact, if the fault that contradicts it stands nowhere.
use Rattle.std.proofs.Common.{◌≡◌, ◌≢◌, ℕ, suc, Bool, true, false, cond, List, [], ◌∷◌, ◌++◌, length, Option, Some}
use Rattle.std.proofs.Common.{None, ◌⊎◌, inl, inr, refl}
use Rattle.std.specs.Prelude.{slice_get, IfSome}
use Rattle.std.proofs.lemmas.Bool.{eqb-true}
use Rattle.std.proofs.lemmas.Bool.Decides.{eqb_tells}
use Rattle.std.specs.List.{AllByRecursion}
use Rattle.language.specs.Tree.{Name, Procedure, ThreadLine, Tree}
use Rattle.language.specs.Parts.{Head, HasAllSides, targets_of, sides_of, arguments_of, callee_of, jump_of}
use Rattle.language.specs.Rest.{same_text}
use Rattle.language.specs.Resolve.{number_of, is_declared}
use Rattle.checked.specs.Faults.{AnyOf}
use Rattle.resolved.specs.Statements.{Statement, statements_of, used_by, labels_of}
use Rattle.checked.specs.Faults.{named, IsUnknown, known, IsUndeclaredIn, first_at, Miscounts, GoesNowhere}
use Rattle.checked.specs.Faults.{MislabelledIn, ReservedIn, CanStart}
use Rattle.resolved.specs.There.{names, IsThere}
use Rattle.checked.specs.declared.fault.ScopeFault.TheVariants as fault
use Rattle.checked.specs.Checked.{IsChecked}

pub each_of : {X : Type 0} {P Q : X → Type 0} (xs : List X) → ((x : X) → P x → Q x) → AllByRecursion P xs → AllByRecursion Q xs
each_of [] f h = tt
each_of (x ∷ xs) f h = (f x h.0, each_of xs f h.1)

-- what stands at no offset in a list stands at none in its members
pub nowhere_in : {X : Type 0} (P : X → ℕ → Type 0) (xs : List X) → ((n : ℕ) → AnyOf (λ x. P x n) xs → ⊥)
    → AllByRecursion (λ x. (n : ℕ) → P x n → ⊥) xs
nowhere_in P [] h = tt
nowhere_in P (x ∷ xs) h = ((λ n p. h n (inl p)), nowhere_in P xs (λ n q. h n (inr q)))

-- a text is declared in one of two lists, if it is in one after the other
pub in_either : (x : List ℕ) (xs ys : List Name) → is_declared x (xs ++ ys) ≡ true → (is_declared x xs ≡ true) ⊎ (is_declared x ys ≡ true)
in_either x [] ys h = inr h
in_either x (n ∷ ns) ys h = go (same_text x n.text) h (in_either x ns ys)
  where
    go : (b : Bool) → cond b true (is_declared x (ns ++ ys)) ≡ true
        → (is_declared x (ns ++ ys) ≡ true → (is_declared x ns ≡ true) ⊎ (is_declared x ys ≡ true))
        → (cond b true (is_declared x ns) ≡ true) ⊎ (is_declared x ys ≡ true)
    go true h f = inl refl
    go false h f = f h

pub is_known : (xs : List Name) (x : Name) → ((n : ℕ) → IsUnknown xs n x → ⊥) → is_declared x.text xs ≡ true
is_known xs x h = go (is_declared x.text xs) refl
  where
    go : (b : Bool) → is_declared x.text xs ≡ b → b ≡ true
    go true e = refl
    go false e = absurd (h x.at (refl, e))

pub settled : (a b : ℕ) → (a ≢ b → ⊥) → a ≡ b
settled a b h = elim (eqb_tells a b) [ inl k ↦ k.1 | inr k ↦ absurd (h k.1) ]

-- the first procedure of a name is the one at the name's number
pub named_is : (x : List ℕ) (ps : List Procedure) → named x ps ≡ slice_get ps (number_of x (names ps))
named_is x [] = refl
named_is x (p ∷ ps) = go (same_text x p.name.text) (named_is x ps)
  where
    go : (b : Bool) → named x ps ≡ slice_get ps (number_of x (names ps))
        → cond b (Some p) (named x ps) ≡ slice_get (p ∷ ps) (cond b 0 (suc (number_of x (names ps))))
    go true h = refl
    go false h = h

pub named_declared : (x : List ℕ) (ps : List Procedure) → (named x ps ≡ None → ⊥) → is_declared x (names ps) ≡ true
named_declared x [] h = absurd (h refl)
named_declared x (p ∷ ps) h = go (same_text x p.name.text) h (named_declared x ps)
  where
    go : (b : Bool) → (cond b (Some p) (named x ps) ≡ None → ⊥) → ((named x ps ≡ None → ⊥) → is_declared x (names ps) ≡ true)
        → cond b true (is_declared x (names ps)) ≡ true
    go true h f = refl
    go false h f = f h

-- the procedure that a call names is there, with as many formals as there are arguments
abbrev pub Called : List Procedure → Head Name Name Name → Type 0
Called ps h =
    IfSome (callee_of h) (λ q. (named q.text ps ≡ None → ⊥) × IsThere (named q.text ps) (λ r. length r.formals ≡ length (arguments_of h)))

counted : (o : Option Procedure) (m : ℕ) → (o ≡ None → ⊥) → (IsThere o (λ r. length r.formals ≢ m) → ⊥)
    → IsThere o (λ r. length r.formals ≡ m)
counted None m a b = absurd (a refl)
counted (Some r) m a b = settled (length r.formals) m b

pub called : (vs : List Name) (ps : List Procedure) (s : Statement) → ((n : ℕ) → IsUndeclaredIn vs ps s n → ⊥)
    → ((n : ℕ) → Miscounts ps n s → ⊥) → Called ps s.head
called vs ps s u c = go (callee_of s.head) (λ n h. u n (inr h)) (λ n h. c n (inr h))
  where
    go : (o : Option Name)
        → ((n : ℕ) → IsThere o (λ q. (q.at ≡ n) × (named q.text ps ≡ None)) → ⊥)
        → ((n : ℕ) → IsThere o (λ q. (q.at ≡ n) × IsThere (named q.text ps) (λ r. length r.formals ≢ length (arguments_of s.head))) → ⊥)
        → IfSome o (λ q. (named q.text ps ≡ None → ⊥) × IsThere (named q.text ps) (λ r. length r.formals ≡ length (arguments_of s.head)))
    go None a b = tt
    go (Some q) a b = (
      (λ e. a q.at (refl, e)),
      counted (named q.text ps) (length (arguments_of s.head)) (λ e. a q.at (refl, e)) (λ k. b q.at (refl, k)),
    )

-- an assignment that is counted right has as many right sides as targets
sided : (ps : List Procedure) (s : Statement) → ((n : ℕ) → Miscounts ps n s → ⊥) → HasAllSides s.head
sided ps s c is =
    settled (length (targets_of s.head)) (length (sides_of s.head)) (λ k. c (first_at s.mark.at (targets_of s.head)) (inl (is, refl, k)))

-- the label of a goto is one of these
abbrev pub Labelled : List Name → Head Name Name Name → Type 0
Labelled ls h = IfSome (jump_of h) (λ l. is_declared l.text ls ≡ true)

labelled : (ls : List Name) (h : Head Name Name Name) → ((n : ℕ) → GoesNowhere ls n h → ⊥) → Labelled ls h
labelled ls h a = go (jump_of h) a
  where
    go : (o : Option Name) → ((n : ℕ) → IsThere o (IsUnknown ls n) → ⊥) → IfSome o (λ l. is_declared l.text ls ≡ true)
    go None a = tt
    go (Some l) a = is_known ls l a

-- the variables of a statement are known, what it calls and goes to is there, and each target has its right side
pub record Works (t : Tree) (p : Procedure) (h : Head Name Name Name) : Type 0 where
  pub variables : AllByRecursion (λ (x : Name). is_declared x.text (known t p) ≡ true) (used_by h)
  pub called : Called t.procedures h
  pub sides : HasAllSides h
  pub labelled : Labelled (labels_of (statements_of p.body)) h

-- no fault of a procedure stands in this one
pub record IsGood (t : Tree) (p : Procedure) : Type 0 where
  pub statements : AllByRecursion (λ (s : Statement). Works t p s.head) (statements_of p.body)
  pub free : (n : ℕ) → ReservedIn n p → ⊥

all_work : (t : Tree) (p : Procedure) (ss : List Statement)
    → ((n : ℕ) → AnyOf (λ s. IsUndeclaredIn (known t p) t.procedures s n) ss → ⊥)
    → ((n : ℕ) → AnyOf (Miscounts t.procedures n) ss → ⊥)
    → ((n : ℕ) → AnyOf (λ (s : Statement). GoesNowhere (labels_of (statements_of p.body)) n s.head) ss → ⊥)
    → AllByRecursion (λ (s : Statement). Works t p s.head) ss
all_work t p [] u c g = tt
all_work t p (s ∷ ss) u c g = (
  record {
    variables =
        each_of (used_by s.head) (λ x h. is_known (known t p) x h)
        (nowhere_in (λ x n. IsUnknown (known t p) n x) (used_by s.head) (λ n h. u n (inl (inl h))));
    called = called (known t p) t.procedures s (λ n h. u n (inl h)) (λ n h. c n (inl h));
    sides = sided t.procedures s (λ n h. c n (inl h));
    labelled = labelled (labels_of (statements_of p.body)) s.head (λ n h. g n (inl h));
  },
  all_work t p ss (λ n h. u n (inr h)) (λ n h. c n (inr h)) (λ n h. g n (inr h)),
)

all_good : (t : Tree) (ps : List Procedure)
    → ((n : ℕ) → AnyOf (λ (p : Procedure). AnyOf (λ s. IsUndeclaredIn (known t p) t.procedures s n) (statements_of p.body)) ps → ⊥)
    → ((n : ℕ) → AnyOf (λ (p : Procedure). AnyOf (Miscounts t.procedures n) (statements_of p.body)) ps → ⊥)
    → ((n : ℕ) → AnyOf (MislabelledIn n) ps → ⊥)
    → ((n : ℕ) → AnyOf (ReservedIn n) ps → ⊥)
    → AllByRecursion (IsGood t) ps
all_good t [] u c g r = tt
all_good t (p ∷ ps) u c g r = (
  record {
    statements = all_work t p (statements_of p.body) (λ n h. u n (inl h)) (λ n h. c n (inl h)) (λ n h. g n (inl (inl h)));
    free = λ n h. r n (inl h);
  },
  all_good t ps (λ n h. u n (inr h)) (λ n h. c n (inr h)) (λ n h. g n (inr h)) (λ n h. r n (inr h)),
)

pub good : (t : Tree) → IsChecked t → AllByRecursion (IsGood t) t.procedures
good t ok =
    all_good t t.procedures (λ n. ok (fault.Undeclared n)) (λ n. ok (fault.WrongCount n)) (λ n. ok (fault.BadLabel n))
    (λ n h. ok (fault.Reserved n) (inr (inr h)))

-- the thread line names a procedure that is there, with no formals
abbrev pub Starts : List Procedure → ThreadLine → Type 0
Starts ps line = (named line.name.text ps ≡ None → ⊥) × IsThere (named line.name.text ps) (λ r. length r.formals ≡ 0)

starts : (o : Option Procedure) → ((CanStart o → ⊥) → ⊥) → (o ≡ None → ⊥) × IsThere o (λ r. length r.formals ≡ 0)
starts None h = absurd (h (λ x. x))
starts (Some r) h = ((λ e. cc), settled (length r.formals) 0 (λ k. h (λ e. k (eqb-true (length r.formals) 0 e))))

pub threads_start : (t : Tree) → IsChecked t → AllByRecursion (Starts t.procedures) t.threads
threads_start t ok =
    each_of t.threads (λ line h. starts (named line.name.text t.procedures) (λ k. h line.name.at (refl, k)))
    (nowhere_in (λ (line : ThreadLine) n. (line.name.at ≡ n) × (CanStart (named line.name.text t.procedures) → ⊥)) t.threads
    (λ n. ok (fault.BadThread n)))
