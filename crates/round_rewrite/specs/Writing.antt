-- What a writer stands for, and what it means to append statements to others.
use Rattle.std.specs.Prelude.{◌≡◌, ◌≤◌, ◌+◌, ℕ, zero, suc, length, Bool, max, cond, true, List, [], ◌∷◌}
use Rattle.std.specs.Prelude.{◌++◌, map, codes, Result, IfOk}
use Rattle.language.specs.Tree as tree
use Rattle.language.specs.Tree.{const, var, negation, two, and, xor, any, value, skip, assign, leave, Mark, Block, done, one, choose, loop}
use Rattle.trees.specs.declared.tree.Stmt.{Stmt}
use Rattle.trees.specs.Trees.{Deed, simple, branch, repeat, Item, names_of, items_of, all_before}
use Rattle.trees.specs.Parts.{head_of, first_inside, second_inside}
use Rattle.language.specs.Rest.{join}
use Rattle.language.specs.Resolve.{gives_value}
use Rattle.round_rewrite.specs.declared.writer.Writer.{Writer}
use Rattle.round_rewrite.specs.Table.{Naming, draws_of, temporaries, no_mark, side, prologue, statement, rewritten}
use Rattle.round_rewrite.specs.Names.{fresh_name, bit_name, by_names}
use Rattle.resolved.specs.Limits.{most_places}

-- how the procedure's names are written
abbrev pub naming_of : {N A : Type 0} → Writer N A → Naming tree.Name tree.Name tree.Name tree.Name
naming_of writer = by_names (names_of writer.formals.now ++ names_of writer.locals.now)

-- a block of a text
abbrev pub TextBlock : Type 0
TextBlock = Block tree.Name tree.Name tree.Name

-- Statements have been appended to those that stood there: with any others after them, they read as `form` does
-- with the others.
abbrev pub Lays : {A : Type 0} → List (Stmt A) → List (Stmt A) → (TextBlock → TextBlock) → Type 0
Lays old new form = (rest : TextBlock) → all_before (items_of new) rest ≡ all_before (items_of old) (form rest)

-- if the call succeeds, such statements have been appended
abbrev pub Appends : {A T E : Type 0} → Result T E → List (Stmt A) → List (Stmt A) → (TextBlock → TextBlock) → Type 0
Appends result old new form = IfOk result (λ success. Lays old new form)

-- a statement that holds no others
abbrev pub IsSimple : Deed → Type 0
IsSimple (simple _) = Unit {0}
IsSimple _ = ⊥

-- the names that thread lines have
abbrev pub line_names : List tree.ThreadLine → List tree.Name
line_names ts = map (λ (line : tree.ThreadLine). line.name) ts

-- what is carried out of the bits of the round up to this one if 1 is added
abbrev pub carried : ℕ → tree.Expression tree.Name
carried zero = var (bit_name 0)
carried (suc number) = two and (var (bit_name (suc number))) (carried number)

-- a bit of the next round
abbrev pub raised_bit : ℕ → tree.Expression tree.Name
raised_bit zero = negation (var (bit_name 0))
raised_bit (suc number) = two xor (var (bit_name (suc number))) (carried number)

-- what tests whether to stop
abbrev pub stop_testing : Deed
stop_testing = branch (value (var (fresh_name (codes "stop__")))) (one no_mark leave done) (one no_mark skip done)

-- what decides whether to stop
abbrev pub stopping : Deed
stopping =
    branch any (one no_mark (assign (fresh_name (codes "stop__") ∷ []) (value (const true) ∷ [])) done) (one no_mark skip done)

-- what follows if the right side of an assert is 0
abbrev pub failed : TextBlock
failed =
    one no_mark (assign (fresh_name (codes "bad__") ∷ fresh_name (codes "stop__") ∷ []) (value (const true) ∷ value (const true) ∷ []))
    (one no_mark leave done)

module _ (naming : Naming tree.Name tree.Name tree.Name tree.Name) (last : ℕ) where
  -- a statement rewritten, without its prologue, in front of others
  abbrev pub bare_form : Deed → TextBlock → TextBlock
  bare_form (simple s) rest = statement naming last s rest
  bare_form (branch right_side if_true if_false) rest =
      choose no_mark (side naming last right_side) (rewritten naming last if_true) (rewritten naming last if_false) rest
  bare_form (repeat right_side body) rest =
      loop no_mark (side naming last right_side) (join (rewritten naming last body) (prologue naming last no_mark done)) rest

  -- a statement rewritten, in front of others
  abbrev pub form : Item → TextBlock → TextBlock
  form item rest = prologue naming last item.mark (bare_form item.deed rest)

  -- statements rewritten, in front of others
  abbrev pub forms : List Item → TextBlock → TextBlock
  forms [] rest = rest
  forms (item ∷ items) rest = form item (forms items rest)

-- how many temporaries one statement needs, with those that it holds
abbrev pub deed_needs : (tree.Name → Bool) → Deed → ℕ
deed_needs is_shared deed =
    max (draws_of is_shared (head_of deed)) (max (temporaries is_shared (first_inside deed)) (temporaries is_shared (second_inside deed)))

-- how many temporaries a procedure needs
abbrev pub procedure_needs : tree.Procedure → ℕ
procedure_needs procedure = temporaries (by_names (procedure.formals ++ procedure.locals)).is_shared procedure.body

-- no procedure needs more temporaries than it may have places
abbrev pub AreFew : List tree.Procedure → Type 0
AreFew [] = Unit {0}
AreFew (procedure ∷ procedures) = (procedure_needs procedure ≤ most_places) × AreFew procedures

-- how many places a procedure has of its own when it is rewritten: formals, locals, temporaries and the result
abbrev pub own_width : tree.Procedure → ℕ
own_width procedure =
    length procedure.formals + (length procedure.locals + (procedure_needs procedure + cond (gives_value procedure.body) 1 0))

-- the globals, of a given number, and what the procedure has of its own are at most 128 places
abbrev pub IsOwnNarrow : ℕ → tree.Procedure → Type 0
IsOwnNarrow globals procedure = globals + own_width procedure ≤ most_places
