-- A printed tree of the grammar is read back.
use Rattle.std.proofs.Common.{◌≡◌, ℕ, List, sym, subst}
use Rattle.language.specs.Tree.{Tree}
use Rattle.tokens.specs.Parts.{tokens_of}
use Rattle.tokens.proofs.PartsCut.{parts_cut, parts_ascii}
use Rattle.grammar.specs.InGrammar.{InGrammar}
use Rattle.syntax.specs.Text.{WithinLimits, IsTextOf}
use Rattle.grammar.specs.Printed.{program_parts, printed}
use Rattle.syntax.proofs.PrintsApart.{program_apart}
use Rattle.syntax.proofs.PrintsBackPrograms.{program_shows}

pub reads_back : (t : Tree) → InGrammar t → WithinLimits (printed t) → IsTextOf (printed t) t
unfolding printed
reads_back t ok limits =
    let apart = program_apart t ok in
    let shows = program_shows t ok in
    let cut = parts_cut 0 (program_parts t) apart in (
      shows.0,
      record {
        within = limits.few;
        ascii = parts_ascii (program_parts t) apart;
        tokens = tokens_of 0 (program_parts t);
        cut = cut;
        shallow = λ deep. limits.shallow (tokens_of 0 (program_parts t), cut, deep);
        program = shows.1;
      },
      shows.2,
    )

-- the same for bytes that are the printed text
pub bytes_read_back : (bytes : List ℕ) (t : Tree) → bytes ≡ printed t → InGrammar t → WithinLimits bytes → IsTextOf bytes t
bytes_read_back bytes t e ok = subst (λ b. WithinLimits b → IsTextOf b t) (sym e) (reads_back t ok)
