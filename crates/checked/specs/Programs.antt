-- What callers see of a checked program.
use Rattle.language.specs.Tree.{Tree}
use Rattle.trees.specs.declared.tree.Program.{Program}
use Rattle.trees.specs.Trees.{tree_of}
use Rattle.checked.specs.declared.checked.Checked.{Checked}

-- the program that was checked
abbrev pub checked_program : {A : Type 0} → Checked A → Program A
checked_program checked = checked.program

-- its tree
abbrev pub checked_tree : {A : Type 0} → Checked A → Tree
checked_tree checked = tree_of (checked_program checked)
