-- Why texts are refused.
use Rattle.std.specs.Prelude.{◌≡◌, ℕ, zero, suc, List, Option, Some, None, ◌⊎◌, option_map, slice_get}
use Rattle.language.specs.Tree.{Procedure, Tree}
use Rattle.syntax.specs.Text as text
use Rattle.syntax.specs.Text.{Text}
use Rattle.syntax.specs.declared.fault.ReadFault.TheVariants as read
use Rattle.checked.specs.Checked.{IsChecked, IsFirstFault}
use Rattle.checked.specs.declared.fault.ScopeFault.{ScopeFault}
use Rattle.checked.specs.declared.fault.ScopeFault.TheVariants as scope
use Rattle.round_rewrite.specs.Names.{sequential_for}
use Rattle.round_rewrite.specs.Narrow.{IsFirstWideFor, IsNarrowFor}
use Rattle.round_rewrite.specs.declared.width.Wide.{Wide}
use Rattle.summaries.specs.Tabulated.{HasMoreEdges}
use Rattle.summaries.specs.declared.no_verdict.NoVerdict.{NoVerdict}
use Rattle.summaries.specs.declared.no_verdict.NoVerdict.TheVariants as cause
use Rattle.refusals.specs.declared.refusal.Refusal.{Refusal}
use Rattle.refusals.specs.declared.refusal.Refusal.TheVariants.{Unread, Unchecked, TooWide, EdgeLimit, Memory, NoWorker, Spent}
use Rattle.cli.specs.Verdict.{IsOver}

-- The text is that of a checked tree, whose rewriting for K rounds is too wide; and this is its first procedure
-- that is.
pub record IsWide (bytes : List ℕ) (rounds : ℕ) (tree : Tree) (wide : Option Wide) : Type 0 where
  pub of : Text bytes tree
  pub checked : IsChecked tree
  pub wider : IsNarrowFor rounds tree → ⊥
  pub first : IsFirstWideFor rounds tree wide

-- The text is that of a checked tree, whose rewriting for K rounds is not too wide.
abbrev pub HasRewriting : List ℕ → ℕ → Type 0
HasRewriting bytes rounds = (t : Tree) × Text bytes t × IsChecked t × IsNarrowFor rounds t

-- The text is not a program of the grammar, or a fault of scopes stands in it: there is a place at which it is
-- refused.
abbrev pub HasPlace : List ℕ → Type 0
HasPlace bytes =
    ((at : ℕ) × text.ReadFaultStands (read.Syntax at) bytes)
    ⊎ ((t : Tree) × (fault : ScopeFault) × Text bytes t × IsFirstFault t fault)

-- Some procedure of the text's rewriting has more path edges than the limit, if there is one.
abbrev pub IsPast : List ℕ → ℕ → Option ℕ → Type 0
IsPast bytes rounds None = ⊥
IsPast bytes rounds (Some edges) = IsOver bytes rounds edges

-- where the name of a procedure of the rewriting is in the text; that of the first, `main__`, is not in it
abbrev pub place_of_name : Tree → ℕ → Option ℕ
place_of_name tree zero = None
place_of_name tree (suc q) = option_map (λ (p : Procedure). p.name.at) (slice_get tree.procedures q)

-- The procedure of the text's rewriting whose name is there has more path edges than the limit, if there is one.
abbrev pub IsPastAt : List ℕ → ℕ → Option ℕ → Option ℕ → Type 0
IsPastAt bytes rounds None at = ⊥
IsPastAt bytes rounds (Some edges) at =
    (t : Tree) × Text bytes t × IsChecked t
    × ((q : ℕ) × HasMoreEdges (sequential_for rounds t) q edges × (at ≡ place_of_name t q))

-- A check has workers: there is a limit, and the text has a rewriting that is not too wide.
abbrev pub HasWorkers : List ℕ → ℕ → Option ℕ → Type 0
HasWorkers bytes rounds None = ⊥
HasWorkers bytes rounds (Some edges) = HasRewriting bytes rounds

-- The refusal stands: the text is not read for this fault; or it is the text of a program in which this is the first
-- fault of scopes; or of a checked program whose rewriting for K rounds is too wide, or has a procedure with more
-- path edges than the limit. While a text is read, memory may run out at any point, and so it may while scopes are
-- checked. Later it runs out only while the program is rewritten and in what follows, or for the line of a refusal
-- that names an offset. The workers of a check may get no thread, or use up their calls.
abbrev pub RefusalStands : List ℕ → ℕ → Option ℕ → Refusal → Type 0
RefusalStands bytes rounds limit (Unread fault) = text.ReadFaultStands fault bytes
RefusalStands bytes rounds limit (Unchecked fault) =
    (t : Tree) × Text bytes t × ((fault ≡ scope.Memory) ⊎ IsFirstFault t fault)
RefusalStands bytes rounds limit (TooWide wide) = (t : Tree) × IsWide bytes rounds t wide
RefusalStands bytes rounds limit (EdgeLimit at) = IsPastAt bytes rounds limit at
RefusalStands bytes rounds limit Memory = HasRewriting bytes rounds ⊎ HasPlace bytes
RefusalStands bytes rounds limit NoWorker = HasWorkers bytes rounds limit
RefusalStands bytes rounds limit Spent = HasWorkers bytes rounds limit

-- A cause for which a program with this tree gets no verdict is reported as this refusal: as the one with its name
-- and, if the rewriting for K rounds is too wide, with the first procedure that is, or, if the limit of path edges was
-- passed, with the place of the procedure that passed it.
abbrev pub IsToldAs : Tree → ℕ → NoVerdict → Refusal → Type 0
IsToldAs tree rounds cause.TooWide why = (wide : Option Wide) × IsFirstWideFor rounds tree wide × (why ≡ TooWide wide)
IsToldAs tree rounds cause.Memory why = why ≡ Memory
IsToldAs tree rounds (cause.EdgeLimit q) why = why ≡ EdgeLimit (place_of_name tree q)
IsToldAs tree rounds cause.NoWorker why = why ≡ NoWorker
IsToldAs tree rounds cause.Spent why = why ≡ Spent
