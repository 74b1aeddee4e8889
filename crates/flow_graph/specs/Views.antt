-- What the scope of a procedure stands for.
use Rattle.std.specs.Prelude.{◌≤◌, ℕ, ◌+◌, ◌++◌, length, map}
use Rattle.language.specs.Tree.{Expression, Procedure}
use Rattle.language.specs.Resolve as resolve
use Rattle.trees.specs.Trees.{names_of, procs_of, expr_of}
use Rattle.trees.specs.declared.tree.Expr.{Expr}
use Rattle.flow_graph.specs.Located.{located}
use Rattle.flow_graph.specs.declared.scope.Scope.{Scope}
use Rattle.resolved.specs.Limits.{most_places}

-- the scope
abbrev pub scope_seen : {TreeAlloc : Type 0} → Scope TreeAlloc → resolve.Scope
scope_seen scope = record {
  globals = names_of scope.globals.now;
  locals = names_of scope.formals.now ++ names_of scope.locals.now;
  procedures = map (λ (program : Procedure). program.name) (procs_of scope.procedures.now);
}

-- an expression over the bits of the variables
abbrev pub over_bits : {TreeAlloc : Type 0} → Scope TreeAlloc → Expr TreeAlloc → Expression ℕ
over_bits scope expression = located (scope_seen scope) (expr_of expression)

-- the variables are no more than the places
abbrev pub IsSmall : {TreeAlloc : Type 0} → Scope TreeAlloc → Type 0
IsSmall scope = length scope.globals.now + (length scope.formals.now + length scope.locals.now) ≤ most_places
