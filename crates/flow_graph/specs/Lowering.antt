-- What the statements of a procedure are lowered to.
use Rattle.std.specs.Prelude.{◌≡◌, ◌≤◌, ◌<◌, ◌+◌, ℕ, Option, List, [], ◌∷◌, ◌++◌, map, length}
use Rattle.language.specs.Tree.{RightSide, value, done}
use Rattle.language.specs.Value.{Place, local}
use Rattle.language.specs.Resolve.{Scope, number_of, place_of, resolve_expression, resolve_side, resolve_block, gives_value}
use Rattle.language.specs.Rest.{Code, join, rest_from}
use Rattle.language.specs.Step.{Routine}
use Rattle.language.specs.Sequential.{statements, numbered}
use Rattle.language.specs.Flow.{rests}
use Rattle.trees.specs.Trees.{name_of, names_of, rhs_of, rhss_of, expr_of, exprs_of, block_of}
use Rattle.trees.specs.declared.tree.Name.{Name}
use Rattle.trees.specs.declared.tree.Expr.{Expr}
use Rattle.trees.specs.declared.tree.Rhs.{Rhs}
use Rattle.trees.specs.declared.tree.Stmt.{Stmt}
use Rattle.flow_graph.specs.Nodes.{Node, assigns, calls, point_at, node_of, goes_to}
use Rattle.flow_graph.specs.Flows.{Widths, widths_of, Does, Lowered}
use Rattle.flow_graph.specs.Located.{target_mask, given_mask}
use Rattle.flow_graph.specs.Returns.{HasTarget}
use Rattle.flow_graph.specs.Views.{scope_seen, IsSmall}
use Rattle.flow_graph.specs.declared.flow.Flow.{Flow}
use Rattle.flow_graph.specs.declared.lowering.Lowering.{Lowering}

-- the names in scope
abbrev pub lowering_scope : {TreeAlloc Alloc : Type 0} → Lowering TreeAlloc Alloc → Scope
lowering_scope lowering = scope_seen lowering.scope

-- the procedure, its statements marked with their numbers in text order, from 1
abbrev pub lowered_routine : {TreeAlloc Alloc : Type 0} → Lowering TreeAlloc Alloc → Routine
lowered_routine lowering = record {
  places = length (lowering_scope lowering).locals;
  gives = gives_value (block_of lowering.body.now);
  body = numbered 1 (resolve_block (lowering_scope lowering) (block_of lowering.body.now));
}

-- the widths of the procedure's valuations
abbrev pub lowered_widths : {TreeAlloc Alloc : Type 0} → Lowering TreeAlloc Alloc → Widths
lowered_widths lowering = widths_of (lowering_scope lowering) (gives_value (block_of lowering.body.now))

-- no more variables than places, at most 32 procedures, and the mask is that of the result
abbrev pub IsLowerable : {TreeAlloc Alloc : Type 0} → Lowering TreeAlloc Alloc → Type 0
IsLowerable lowering = IsSmall lowering.scope × (length lowering.scope.procedures.now ≤ 32)
    × (lowering.result ≡ given_mask (length (lowering_scope lowering).globals) (lowered_routine lowering))

-- a right side by places
abbrev pub side_in : {TreeAlloc Alloc : Type 0} → Lowering TreeAlloc Alloc → Rhs TreeAlloc → RightSide Place
side_in lowering side = resolve_side (lowering_scope lowering) (rhs_of side)

-- the node of an assignment: the right sides are written to the places of the targets, and the run continues at the
-- point
abbrev pub assignment_in : {TreeAlloc Alloc : Type 0} → Lowering TreeAlloc Alloc → List (Name TreeAlloc) → List (Rhs TreeAlloc) → ℕ → Node
assignment_in lowering xs rs to =
    let s = lowering_scope lowering in
    assigns (map (place_of s) (names_of xs)) (map (resolve_side s) (rhss_of rs)) to

-- the node of a return of a value: the value is written to the place of the result, and the run continues at the
-- exit
abbrev pub return_in : {TreeAlloc Alloc : Type 0} → Lowering TreeAlloc Alloc → Expr TreeAlloc → Node
return_in lowering e =
    let s = lowering_scope lowering in
    assigns (local (length s.locals) ∷ []) (value (resolve_expression s (expr_of e)) ∷ []) 0

-- the node of a call for the target, if any: the procedure with the name is called with the arguments, and the run
-- continues at the point
abbrev pub call_in : {TreeAlloc Alloc : Type 0} → Lowering TreeAlloc Alloc → Option Place → Name TreeAlloc → List (Expr TreeAlloc) → ℕ
    → Node
call_in lowering target callee es back =
    let s = lowering_scope lowering in
    calls target (number_of (name_of callee).text s.procedures) (map (resolve_expression s) (exprs_of es)) back

-- the flow does what happens at the node, for the procedure's valuations
abbrev pub DoesIn : {TreeAlloc Alloc : Type 0} → Lowering TreeAlloc Alloc → Flow Alloc → Node → Type 0
DoesIn lowering flow node = Does flow node (lowered_widths lowering)

-- the flow calls for each target whose mask this is
abbrev pub DoesCall : {TreeAlloc Alloc : Type 0} → Lowering TreeAlloc Alloc → Flow Alloc → ℕ → Name TreeAlloc → List (Expr TreeAlloc) → ℕ
    → Type 0
DoesCall lowering flow mask callee es back =
    let s = lowering_scope lowering in
    (target : Option Place) → mask ≡ target_mask (length s.globals) target → HasTarget (length s.locals) target →
    DoesIn lowering flow (call_in lowering target callee es back)

-- if all points of the procedure are numbers of 64 bits, the flow continues at the statement with the label
abbrev pub DoesJump : {TreeAlloc Alloc : Type 0} → Lowering TreeAlloc Alloc → Flow Alloc → Name TreeAlloc → Type 0
DoesJump lowering flow label = statements (block_of lowering.body.now) < 18446744073709551615 →
    DoesIn lowering flow (goes_to (rest_from (name_of label).text (lowered_routine lowering).body done))

-- statements as code, the first of them marked with the number
abbrev pub code_from : {TreeAlloc Alloc : Type 0} → Lowering TreeAlloc Alloc → ℕ → List (Stmt TreeAlloc) → Code
code_from lowering number stmts = numbered number (resolve_block (lowering_scope lowering) (block_of stmts))

-- all points of the procedure, and those of these statements, the first of them this number, are numbers of 64 bits
abbrev pub IsCounted : {TreeAlloc Alloc : Type 0} → Lowering TreeAlloc Alloc → ℕ → List (Stmt TreeAlloc) → Type 0
IsCounted lowering number stmts =
    (statements (block_of lowering.body.now) < 18446744073709551615)
    × (number + statements (block_of stmts) ≤ 18446744073709551615)

-- if a run continues at the point after the statement, the flow does what happens at it
abbrev pub DoesFirst : {TreeAlloc Alloc : Type 0} → Lowering TreeAlloc Alloc → Flow Alloc → Stmt TreeAlloc → ℕ → ℕ → Type 0
DoesFirst lowering flow stmt number after = (rest : Code) → point_at rest ≡ after → IsCounted lowering number (stmt ∷ []) →
    DoesIn lowering flow (node_of (lowered_routine lowering) (join (code_from lowering number (stmt ∷ [])) rest))

-- a flow has been appended to others that does what happens at the statement
abbrev pub LoweredFirst : {TreeAlloc Alloc : Type 0} → Lowering TreeAlloc Alloc → List (Flow Alloc) → List (Flow Alloc) → Stmt TreeAlloc
    → ℕ → Type 0
LoweredFirst {TreeAlloc} {Alloc} lowering old new stmt after =
    (flow : Flow Alloc) × (new ≡ old ++ flow ∷ []) × DoesFirst lowering flow stmt (length old) after

-- as many flows as there are statements have been appended to others; if a run continues at the point after the
-- statements, they do what happens at their points
abbrev pub LoweredIn : {TreeAlloc Alloc : Type 0} → Lowering TreeAlloc Alloc → List (Flow Alloc) → List (Flow Alloc)
    → List (Stmt TreeAlloc) → ℕ → Type 0
LoweredIn lowering old new stmts after =
    (length new ≡ length old + statements (block_of stmts))
    × ((rest : Code) → point_at rest ≡ after → IsCounted lowering (length old) stmts
    → Lowered old new (map (node_of (lowered_routine lowering)) (rests (code_from lowering (length old) stmts) rest))
    (lowered_widths lowering))
