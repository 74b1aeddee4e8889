-- What callers see of a sequential program.
use Rattle.language.specs.Tree.{Tree}
use Rattle.trees.specs.declared.tree.Program.{Program}
use Rattle.trees.specs.Trees.{tree_of}
use Rattle.resolved.specs.declared.sequential.Sequential.{Sequential}

-- the program
abbrev pub sequential_program : {A : Type 0} → Sequential A → Program A
sequential_program sequential = sequential.program

-- its tree
abbrev pub sequential_tree : {A : Type 0} → Sequential A → Tree
sequential_tree sequential = tree_of (sequential_program sequential)
