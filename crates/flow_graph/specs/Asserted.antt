-- The asserts of a program, and which of them fail.
use Rattle.std.specs.Prelude.{◌≡◌, ◌↔◌, ℕ, Bool, true, false, not, Option, Some, None, option_map, List, [], ◌∷◌, ◌++◌, length, map}
use Rattle.std.specs.Prelude.{slice_get}
use Rattle.language.specs.Tree.{Name, RightSide, any, value, assert, Block, done, one, choose, loop}
use Rattle.language.specs.Parts.{Head, plain}
use Rattle.language.specs.Value.{Place, value_of}
use Rattle.language.specs.Rest.{Code}
use Rattle.language.specs.Step.{Program, Frame, frame, state, body_of, Fails}
use Rattle.language.specs.Resolve.{Scope, resolve_side}
use Rattle.language.specs.Sequential.{Valuation}
use Rattle.language.specs.Flow.{IsRestOf}
use Rattle.language.specs.Messages.{IsValuationOf}
use Rattle.trees.specs.Trees.{block_of}
use Rattle.trees.specs.declared.tree.Stmt.{Stmt}
use Rattle.flow_graph.specs.Bits.{coded}
use Rattle.flow_graph.specs.Formulas.{side_value}
use Rattle.flow_graph.specs.Nodes.{point_at}
use Rattle.flow_graph.specs.Flows.{code}
use Rattle.flow_graph.specs.declared.side.CompiledSide.{CompiledSide}
use Rattle.flow_graph.specs.declared.asserts.ProcedureAsserts.{ProcedureAsserts}
use Rattle.flow_graph.specs.declared.asserts.Asserts.{Asserts}

-- what a statement asserts, if it is an assert
abbrev pub asserted_by : {V P L : Type 0} → Head V P L → Option (RightSide V)
asserted_by (plain (assert side)) = Some side
asserted_by _ = None

-- what each statement of a block asserts, in text order, if it is an assert
abbrev pub asserts_in : {V P L : Type 0} → Block V P L → List (Option (RightSide V))
asserts_in done = []
asserts_in (one mark statement rest) = asserted_by (plain statement) ∷ asserts_in rest
asserts_in (choose mark side if_true if_false rest) = None ∷ (asserts_in if_true ++ (asserts_in if_false ++ asserts_in rest))
asserts_in (loop mark side body rest) = None ∷ (asserts_in body ++ asserts_in rest)

-- 0 is a value of what is asserted, for these globals and the values of a frame
abbrev pub is_refuted : List Bool → List Bool → Option (RightSide Place) → Bool
is_refuted globals places None = false
is_refuted globals places (Some any) = true
is_refuted globals places (Some (value expression)) = not (value_of globals places expression)

-- a compiled right side, if there is one, says that 0 is a value for the valuation with this number
abbrev pub may_be_0 : {Alloc : Type 0} → Option (CompiledSide Alloc) → ℕ → Bool
may_be_0 None values = false
may_be_0 (Some side) values = not (side_value side values 0)

-- For every valuation of as many globals as the scope has, the compiled right side says whether 0 is a value of what
-- is asserted.
abbrev pub SaysAssert : {Alloc : Type 0} → Option (CompiledSide Alloc) → Scope → Option (RightSide Name) → Type 0
SaysAssert side scope asserted =
    (globals places : List Bool) → length globals ≡ length scope.globals →
    may_be_0 side (coded (globals ++ places)) ≡ is_refuted globals places (option_map (resolve_side scope) asserted)

-- for each statement has been appended to others what says whether 0 is a value of what it asserts
abbrev pub AssertsPut : {TreeAlloc Alloc : Type 0} → Scope → List (Option (CompiledSide Alloc)) → List (Option (CompiledSide Alloc))
    → List (Stmt TreeAlloc) → Type 0
AssertsPut scope old new stmts =
    (globals places : List Bool) → length globals ≡ length scope.globals →
    map (λ side. may_be_0 side (coded (globals ++ places))) new
    ≡ map (λ side. may_be_0 side (coded (globals ++ places))) old
    ++ map (λ asserted. is_refuted globals places (option_map (resolve_side scope) asserted)) (asserts_in (block_of stmts))

-- what is compiled for the point, if there is such a point, says that 0 is a value
abbrev pub may_be_0_at : {Alloc : Type 0} → Option (Option (CompiledSide Alloc)) → ℕ → Bool
may_be_0_at None values = false
may_be_0_at (Some side) values = may_be_0 side values

-- the assert at a point of the procedure, if there are such a procedure and such an assert, fails with the valuation
-- with this number
abbrev pub fails_in : {Alloc : Type 0} → Option (ProcedureAsserts Alloc) → ℕ → ℕ → Bool
fails_in None point values = false
fails_in (Some asserts) point values = may_be_0_at (slice_get asserts.sides.items point) values

-- the assert at a point of a procedure, if there is one, fails with the valuation with this number
abbrev pub fails_at : {Alloc : Type 0} → Asserts Alloc → ℕ → ℕ → ℕ → Bool
fails_at asserts procedure point values = fails_in (slice_get asserts.procedures.items procedure) point values

-- For each rest of the procedure's body and each valuation of it: the assert at the rest's point fails if and only if
-- a state fails that has this frame on top.
abbrev pub TellFailures : {Alloc : Type 0} → Program → ℕ → Option (ProcedureAsserts Alloc) → Type 0
TellFailures program procedure asserts =
    (rest : Code) (valuation : Valuation) (callers : List Frame) → IsRestOf (body_of (slice_get program.routines procedure)) rest
    → IsValuationOf program procedure valuation
    → (fails_in asserts (point_at rest) (code valuation) ≡ true)
    ↔ Fails (state valuation.globals (frame procedure valuation.places rest ∷ callers))

-- the asserts are those of the program, by procedure and point
abbrev pub AreAssertsOf : {Alloc : Type 0} → Program → Asserts Alloc → Type 0
AreAssertsOf program asserts = (procedure : ℕ) → TellFailures program procedure (slice_get asserts.procedures.items procedure)
