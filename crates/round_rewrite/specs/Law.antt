-- The rewriting theorem: some run within K rounds fails if and only if some run of the rewritten program ends
-- with `bad` being 1.
use Rattle.std.specs.Prelude.{ℕ, ◌↔◌, codes}
use Rattle.language.specs.Tree.{Tree}
use Rattle.language.specs.Step.{Program}
use Rattle.language.specs.Rounds.{Unsafe}
use Rattle.language.specs.Resolve.{number_of, meaning_of}
use Rattle.language.specs.Sequential.{SomeBad, in_text_order}
use Rattle.round_rewrite.specs.Names.{rewritten_for, sequential_for}
use Rattle.round_rewrite.specs.Limits.{last_round}
use Rattle.round_rewrite.specs.Places.{rewritten_program, bad_at}

-- the program is unsafe within K rounds if and only if some pair of the one that is rewritten for them has
-- `bad`
abbrev pub KeepsFailures : ℕ → Program → Type 0
KeepsFailures rounds program =
    let last = last_round rounds in
    Unsafe program rounds ↔ SomeBad (in_text_order (rewritten_program last program)) (bad_at program.globals last)

-- The tree's program is unsafe within K rounds if and only if some pair of `main__` of the tree that is
-- rewritten for them has `bad__`.
abbrev pub KeepsTree : ℕ → Tree → Type 0
KeepsTree rounds tree =
    Unsafe (meaning_of tree) rounds
    ↔ SomeBad (sequential_for rounds tree) (number_of (codes "bad__") (rewritten_for rounds tree).globals)
