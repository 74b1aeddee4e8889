-- What is counted of the procedures of a program's rewriting, and the lines that give it.
use Rattle.std.specs.Prelude.{◌≡◌, ◌↔◌, ℕ, List, [], ◌∷◌, ◌++◌, Some, codes, length, map, slice_get}
use Rattle.std.specs.Fmt.{decimal}
use Rattle.language.specs.Tree.{Procedure, Tree}
use Rattle.language.specs.Step.{Program}
use Rattle.language.specs.Lists.{Member, NoneTwice}
use Rattle.round_rewrite.specs.Names.{sequential_for}
use Rattle.flow_graph.specs.Numbers.{AreNumbersOfPair, IsNumberOfEntry}
use Rattle.summaries.specs.Fitting.{IsDueFor}
use Rattle.summaries.specs.declared.pair.Pair.{Pair}
use Rattle.summaries.specs.Found.{left}

-- There are `n` items for which P holds: a list of them, in which none occurs twice, has this length.
pub record AreSoMany {A : Type 0} (P : A → Type 0) (n : ℕ) : Type 0 where
  pub all : List A
  pub once : NoneTwice all
  pub members : (x : A) → Member x all ↔ P x
  pub many : length all ≡ n

-- what is counted of a procedure: its entry valuations, its pairs, and the messages taken from its mailbox
pub record Counts : Type 0 where
  pub entries : ℕ
  pub pairs : ℕ
  pub taken : ℕ

-- the numbers are those of a pair of procedure q
abbrev pub IsPairOf : Program → ℕ → Pair → Type 0
IsPairOf program procedure x = AreNumbersOfPair program procedure x.a (left x.b x.r)

-- The counts are those of the procedure: of the valuations that it is entered with, of its pairs, and of the messages
-- due for it.
pub record AreCountsOf (program : Program) (procedure : ℕ) (counts : Counts) : Type 0 where
  pub entries : AreSoMany (IsNumberOfEntry program procedure) counts.entries
  pub pairs : AreSoMany (IsPairOf program procedure) counts.pairs
  pub taken : AreSoMany (IsDueFor program procedure) counts.taken

-- the line of a procedure of this name, with a given number of entries, pairs and messages
abbrev pub counts_line : List ℕ → ℕ → ℕ → ℕ → List ℕ
counts_line name entries pairs taken =
    name ++ (codes " entries " ++ (decimal entries ++ (codes " pairs " ++ (decimal pairs
    ++ (codes " taken " ++ (decimal taken ++ codes "\n"))))))

-- the lines of procedures, by their names and what is counted of each
abbrev pub counts_lines : List (List ℕ) → List Counts → List ℕ
counts_lines [] cs = []
counts_lines (name ∷ names) [] = []
counts_lines (name ∷ names) (counts ∷ cs) = counts_line name counts.entries counts.pairs counts.taken ++ counts_lines names cs

-- the names of the rewriting's procedures, by number: `main__`, and then those of the source
abbrev pub procedure_names : Tree → List (List ℕ)
procedure_names tree = codes "main__" ∷ map (λ (p : Procedure). p.name.text) tree.procedures

-- The lines give, for each procedure of the program's rewriting for K rounds, in the order of their numbers, its
-- name and what is counted of it.
pub record TellCounts (rounds : ℕ) (tree : Tree) (lines : List ℕ) : Type 0 where
  pub counts : List Counts
  pub each : length counts ≡ length (procedure_names tree)
  pub are : (q : ℕ) (c : Counts) → slice_get counts q ≡ Some c → AreCountsOf (sequential_for rounds tree) q c
  pub same : lines ≡ counts_lines (procedure_names tree) counts
