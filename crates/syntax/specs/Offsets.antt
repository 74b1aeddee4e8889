-- Trees without their offsets.
use Rattle.std.specs.Prelude.{◌≡◌, map, option_map}
use Rattle.language.specs.Tree.{Name, Expression, const, var, negation, two, RightSide, any, value, Simple, skip, assign, assert, assume}
use Rattle.language.specs.Tree.{goto, leave, leave_with, call, call_for, Mark, Block, done, one, choose, loop, Procedure, ThreadLine, Tree}

-- the name, at offset 0
abbrev pub unplaced : Name → Name
unplaced name = record { text = name.text; at = 0 }

-- the expression with all names at offset 0
abbrev pub unplaced_expression : Expression Name → Expression Name
unplaced_expression (const truth) = const truth
unplaced_expression (var variable) = var (unplaced variable)
unplaced_expression (negation expression) = negation (unplaced_expression expression)
unplaced_expression (two operator left right) = two operator (unplaced_expression left) (unplaced_expression right)

-- the right side
abbrev pub unplaced_side : RightSide Name → RightSide Name
unplaced_side any = any
unplaced_side (value expression) = value (unplaced_expression expression)

-- the statement that holds no others
abbrev pub unplaced_simple : Simple Name Name Name → Simple Name Name Name
unplaced_simple skip = skip
unplaced_simple (assign xs rs) = assign (map unplaced xs) (map unplaced_side rs)
unplaced_simple (assert side) = assert (unplaced_side side)
unplaced_simple (assume side) = assume (unplaced_side side)
unplaced_simple (goto label) = goto (unplaced label)
unplaced_simple leave = leave
unplaced_simple (leave_with expression) = leave_with (unplaced_expression expression)
unplaced_simple (call callee es) = call (unplaced callee) (map unplaced_expression es)
unplaced_simple (call_for target callee es) = call_for (unplaced target) (unplaced callee) (map unplaced_expression es)

-- the mark of a statement
abbrev pub unplaced_mark : Mark Name → Mark Name
unplaced_mark mark = record { label = option_map unplaced mark.label; at = 0 }

-- the block
abbrev pub unplaced_block : Block Name Name Name → Block Name Name Name
unplaced_block done = done
unplaced_block (one mark statement rest) = one (unplaced_mark mark) (unplaced_simple statement) (unplaced_block rest)
unplaced_block (choose mark side if_true if_false rest) =
    choose (unplaced_mark mark) (unplaced_side side) (unplaced_block if_true) (unplaced_block if_false) (unplaced_block rest)
unplaced_block (loop mark side body rest) = loop (unplaced_mark mark) (unplaced_side side) (unplaced_block body) (unplaced_block rest)

-- the procedure
abbrev pub unplaced_procedure : Procedure → Procedure
unplaced_procedure procedure = record {
  name = unplaced procedure.name;
  formals = map unplaced procedure.formals;
  locals = map unplaced procedure.locals;
  body = unplaced_block procedure.body;
}

-- the thread line
abbrev pub unplaced_thread : ThreadLine → ThreadLine
unplaced_thread line = record { at = 0; name = unplaced line.name }

-- The tree with every offset 0.
abbrev pub unplaced_tree : Tree → Tree
unplaced_tree tree = record {
  globals = map unplaced tree.globals;
  procedures = map unplaced_procedure tree.procedures;
  threads = map unplaced_thread tree.threads;
}

-- The two trees are the same, offsets aside.
abbrev pub SameButOffsets : Tree → Tree → Type 0
SameButOffsets tree other = unplaced_tree tree ≡ unplaced_tree other
