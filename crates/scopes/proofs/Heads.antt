-- What a statement of the list is, by its tree.
use Rattle.std.proofs.Common.{◌≡◌, ◌↔◌, ℕ, ◌++◌, Option, Some, None, option_map, inl, inr, refl, ◌∙◌, ap}
use Rattle.language.specs.Tree.{Name, call_for}
use Rattle.language.specs.Parts.{Head, plain, targets_of, arguments_of}
use Rattle.trees.specs.Trees.{name_of, Item, deed_of}
use Rattle.trees.specs.Parts.{head_of, assigned_by, receiver_of, passed_by, given_by}
use Rattle.scopes.specs.Find.{as_list}
use Rattle.checked.specs.Faults.{Repeated}
use Rattle.trees.specs.declared.tree.Stmt.{Stmt}
use Rattle.trees.proofs.Folds.{item_is}
use Rattle.trees.proofs.ByKind.{listed, targets_by_kind, arguments_by_kind}
use Rattle.resolved.specs.Statements.{statement_of}

pub head_is : {A : Type 0} (s : Stmt A) → (statement_of s).head ≡ head_of (deed_of s.core)
head_is s = ap (λ (i : Item). head_of i.deed) (item_is s)

pub label_is : {A : Type 0} (s : Stmt A) → (statement_of s).mark.label ≡ option_map name_of s.label
label_is s = ap (λ (i : Item). i.mark.label) (item_is s)

pub at_is : {A : Type 0} (s : Stmt A) → (statement_of s).mark.at ≡ s.at
at_is s = ap (λ (i : Item). i.mark.at) (item_is s)

listed_is : {X : Type 0} (o : Option X) → listed o ≡ as_list o
listed_is None = refl
listed_is (Some x) = refl

-- what gets a value is the targets of an assignment, or the receiver of a call
pub targets_are : (h : Head Name Name Name) → targets_of h ≡ assigned_by h ++ as_list (receiver_of h)
targets_are h = targets_by_kind h ∙ ap (λ l. assigned_by h ++ l) (listed_is (receiver_of h))

-- what is handed on is the arguments of a call, or the value that is returned
pub arguments_are : (h : Head Name Name Name) → arguments_of h ≡ passed_by h ++ as_list (given_by h)
arguments_are h = arguments_by_kind h ∙ ap (λ l. passed_by h ++ l) (listed_is (given_by h))

-- one receiver is not repeated
pub repeated_assigned : (h : Head Name Name Name) (n : ℕ) → Repeated (targets_of h) n ↔ Repeated (assigned_by h) n
repeated_assigned (plain (call_for x p es)) n = (λ q. elim q [ inl p ↦ absurd p | inr p ↦ absurd p ], λ q. absurd q)
repeated_assigned _ n = (λ q. q, λ q. q)
