-- What callers see of a number of rounds, and of the fault that is returned instead of a rewritten program.
use Rattle.std.specs.Prelude.{ℕ, suc, ◌≡◌, ◌⊎◌}
use Rattle.language.specs.Tree.{Tree}
use Rattle.round_rewrite.specs.Narrow.{IsNarrowFor}
use Rattle.round_rewrite.specs.declared.fault.RewriteFault.{RewriteFault}
use Rattle.round_rewrite.specs.declared.fault.RewriteFault.TheVariants as fault
use Rattle.round_rewrite.specs.declared.rounds.Rounds.{Rounds}

-- how many rounds these are
abbrev pub count_of : Rounds → ℕ
count_of rounds = suc rounds.last

-- The fault that is returned for a tree: its rewriting for K rounds is too wide, and then it is, or memory ran
-- out, and then it is not.
abbrev pub IsFaultOf : ℕ → Tree → RewriteFault → Type 0
IsFaultOf rounds tree answer =
    ((answer ≡ fault.TooWide) × (IsNarrowFor rounds tree → ⊥)) ⊎ ((answer ≡ fault.Memory) × IsNarrowFor rounds tree)
