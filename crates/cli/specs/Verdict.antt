-- What a verdict says about a text.
use Rattle.std.specs.Prelude.{◌≡◌, ℕ, Bool, true, false, List, [], ◌++◌, ◌⊎◌, codes}
use Rattle.language.specs.Tree.{Tree}
use Rattle.language.specs.Resolve.{meaning_of}
use Rattle.language.specs.Rounds.{Unsafe}
use Rattle.syntax.specs.Text.{Text}
use Rattle.checked.specs.Checked.{IsChecked}
use Rattle.round_rewrite.specs.Names.{sequential_for}
use Rattle.summaries.specs.Tabulated.{HasMoreEdges}
use Rattle.cli.specs.Counts.{TellCounts}

-- Each procedure of the program's rewriting for K rounds has at most `edges` path edges.
abbrev pub IsWithinLimit : ℕ → ℕ → Tree → Type 0
IsWithinLimit rounds edges tree = (q : ℕ) → ¬ HasMoreEdges (sequential_for rounds tree) q edges

-- Some procedure of the program's rewriting for K rounds has more than `edges` path edges.
abbrev pub IsOverLimit : ℕ → ℕ → Tree → Type 0
IsOverLimit rounds edges tree = (q : ℕ) × HasMoreEdges (sequential_for rounds tree) q edges

-- The text is that of a checked program, and some procedure of its rewriting has more path edges than the limit.
abbrev pub IsOver : List ℕ → ℕ → ℕ → Type 0
IsOver text rounds edges = (t : Tree) × Text text t × IsChecked t × IsOverLimit rounds edges t

-- the text is that of this tree, in which no fault of scopes stands
abbrev pub IsProgramOf : List ℕ → Tree → Type 0
IsProgramOf text tree = Text text tree × IsChecked tree

-- what comes after a verdict: nothing, or, if it is asked for, what is counted of each procedure
abbrev pub ComesBehind : Bool → ℕ → Tree → List ℕ → Type 0
ComesBehind false rounds tree lines = lines ≡ []
ComesBehind true rounds tree lines = TellCounts rounds tree lines

-- The reply is `unsafe` with status 1 if some run of at most K rounds fails an assert, `safe` with status 0 if
-- none does, and then comes what is asked for.
abbrev pub AnswersOn : Tree → ℕ → Bool → List ℕ → ℕ → Type 0
AnswersOn tree rounds stats bytes status =
    (lines : List ℕ) × ComesBehind stats rounds tree lines
    × (((bytes ≡ codes "unsafe\n" ++ lines) × (status ≡ 1) × Unsafe (meaning_of tree) rounds)
    ⊎ ((bytes ≡ codes "safe\n" ++ lines) × (status ≡ 0) × ¬ Unsafe (meaning_of tree) rounds))

-- The text is that of a checked program within the limit of path edges, and the reply is the answer on it.
abbrev pub Answers : List ℕ → ℕ → ℕ → Bool → List ℕ → ℕ → Type 0
Answers text rounds edges stats bytes status =
    (t : Tree) × Text text t × IsChecked t × IsWithinLimit rounds edges t × AnswersOn t rounds stats bytes status
