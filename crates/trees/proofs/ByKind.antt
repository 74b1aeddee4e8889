-- The targets and the expressions of a statement by its kind: those of an assignment or a call, and the one of a call
-- for a value or of a return of one.
use Rattle.std.proofs.Common.{◌≡◌, ◌++◌, List, [], ◌∷◌, true, Option, Some, None, refl, ap}
use Rattle.std.proofs.lemmas.Bool.{false≢true}
use Rattle.std.proofs.lemmas.Option.{none-some}
use Rattle.language.specs.Tree.{assign, call, leave_with, call_for}
use Rattle.language.specs.Parts.{Head, plain, assigns, targets_of, arguments_of, callee_of}
use Rattle.trees.specs.Parts.{assigned_by, receiver_of, passed_by, given_by}

-- the one that is there, if any
abbrev pub listed : {X : Type 0} → Option X → List X
listed None = []
listed (Some x) = x ∷ []

append_none : {X : Type 0} (xs : List X) → xs ≡ xs ++ []
append_none [] = refl
append_none (x ∷ xs) = ap (λ z. x ∷ z) (append_none xs)

module _ {V P L : Type 0} where
  pub targets_by_kind : (h : Head V P L) → targets_of h ≡ assigned_by h ++ listed (receiver_of h)
  targets_by_kind (plain (assign xs rs)) = append_none xs
  targets_by_kind _ = refl

  pub arguments_by_kind : (h : Head V P L) → arguments_of h ≡ passed_by h ++ listed (given_by h)
  arguments_by_kind (plain (call p es)) = append_none es
  arguments_by_kind (plain (call_for x p es)) = append_none es
  arguments_by_kind _ = refl

  -- what assigns has no targets but those of an assignment
  pub targets_assigned : (h : Head V P L) → assigns h ≡ true → targets_of h ≡ assigned_by h
  targets_assigned (plain (call_for x p es)) e = absurd (false≢true e)
  targets_assigned _ e = refl

  -- what calls hands no expressions on but its arguments
  pub arguments_passed : (h : Head V P L) (q : P) → callee_of h ≡ Some q → arguments_of h ≡ passed_by h
  arguments_passed (plain (leave_with v)) q e = absurd (none-some q e)
  arguments_passed _ q e = refl
