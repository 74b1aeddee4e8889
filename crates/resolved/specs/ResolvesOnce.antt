-- That a tree resolves has at most one proof, so a type may carry it.
use mathlib.Core.HLevel.{×_prop, Unit-prop, ⊥_prop}
use native.Mathlib.Nat.{ℕ_set}
use native.Mathlib.Bridge.{le_prop}
use Rattle.std.specs.Prelude.{◌≡◌, List, [], ◌∷◌, Option, Some, None}
use Rattle.std.specs.Option.{MatchOption-prop}
use Rattle.std.specs.List.{AllByRecursion, AllByRecursion-prop}
use Rattle.language.specs.Tree.{Name, Procedure, Tree}
use Rattle.language.specs.Parts.{Head, callee_of, jump_of, HasAllSides}
use Rattle.language.specs.Value.{Place, global, local}
use Rattle.language.specs.Rest.{Code}
use Rattle.language.specs.Step.{AtRest}
use Rattle.language.specs.Resolve.{place_of, scope_of}
use Rattle.resolved.specs.There.{IsThere}
use Rattle.resolved.specs.Statements.{Statement}
use Rattle.resolved.specs.Resolves.{IsPlaceIn, GoesSomewhere, StatementResolves, Resolves}

IsThere-prop : (o : Option Procedure) (P : Procedure → Type 0) → ((q : Procedure) → IsProp (P q)) → IsProp (IsThere o P)
IsThere-prop None P p = ⊥_prop
IsThere-prop (Some q) P p = p q

IsPlaceIn-prop : (t : Tree) (p : Procedure) (x : Place) → IsProp (IsPlaceIn t p x)
IsPlaceIn-prop t p (global i) = le_prop
IsPlaceIn-prop t p (local i) = le_prop

is_rest-prop : (o : Option Code) → IsProp (AtRest o (λ rest. Unit {0}))
is_rest-prop None = ⊥_prop
is_rest-prop (Some rest) = Unit-prop

GoesSomewhere-prop : (t : Tree) (p : Procedure) (h : Head Name Name Name) → IsProp (GoesSomewhere t p h)
GoesSomewhere-prop t p h =
    ×_prop (MatchOption-prop (callee_of h) _ _ Unit-prop (λ callee. IsThere-prop _ _ (λ r. ℕ_set _ _)))
    (MatchOption-prop (jump_of h) _ _ Unit-prop (λ label. is_rest-prop _))

HasAllSides-prop : (h : Head Name Name Name) → IsProp (HasAllSides h)
HasAllSides-prop h f g i is = let e : f is ≡ g is = ℕ_set _ _ (f is) (g is) in e i

StatementResolves-prop : (t : Tree) (p : Procedure) (s : Statement) → IsProp (StatementResolves t p s)
StatementResolves-prop t p s a b = λ i. record {
  variables = AllByRecursion-prop _ (λ x. IsPlaceIn-prop t p (place_of (scope_of t p) x)) _ a.variables b.variables i;
  target = GoesSomewhere-prop t p s.head a.target b.target i;
  sides = HasAllSides-prop s.head a.sides b.sides i;
}

pub Resolves-prop : (t : Tree) → IsProp (Resolves t)
Resolves-prop tree a b = λ i. record {
  statements =
      AllByRecursion-prop _ (λ p. AllByRecursion-prop _ (StatementResolves-prop tree p) _) tree.procedures a.statements b.statements i;
  threads = AllByRecursion-prop _ (λ line. IsThere-prop _ _ (λ r. ℕ_set _ _)) tree.threads a.threads b.threads i;
}
