use Rattle.std.proofs.Common.{◌≡◌, ◌++◌, map, drop}
use Rattle.std.specs.String.{string_bytes}
use Rattle.tokens.specs.Parts.{text_of}
use Rattle.grammar.specs.Printed.{after_commas}
use Rattle.syntax.proofs.show.print_list.Given as goal

-- the text so far, with what is left, is the whole
abbrev pub invariant-loop-item : goal.invariant-loop-item
invariant-loop-item g l =
    string_bytes l.out ++ text_of (after_commas g.T.Written.parts (map g.T.Written.tree (drop l.item-index l.others)))
    ≡ string_bytes l.initial.out ++ text_of (after_commas g.T.Written.parts (map g.T.Written.tree l.others))
