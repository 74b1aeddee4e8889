-- What the summaries of a program say: the valuations with which its procedures are entered, and their pairs.
use Rattle.std.specs.Prelude.{◌≡◌, ◌<◌, ◌⊎◌, ◌↔◌, ℕ, true, false, Some, List, [], ◌∷◌, length, slice_get}
use Rattle.language.specs.Step.{Program}
use Rattle.language.specs.Lists.{Member, NoneTwice}
use Rattle.path_sets.specs.Triples.{Triple}
use Rattle.flow_graph.specs.Bits.{bit_of}
use Rattle.flow_graph.specs.declared.exit.Exit.{Exit}
use Rattle.flow_graph.specs.Numbers.{IsNumberOfEntry, AreNumbersOfEdge, AreNumbersOfPair}
use Rattle.summaries.specs.declared.pair.Pair.{Pair}
use Rattle.summaries.specs.Effects.{Effect, Effects}
use Rattle.summaries.specs.declared.table_fault.TableFault.{TableFault}
use Rattle.summaries.specs.declared.table_fault.TableFault.TheVariants as fault
use Rattle.summaries.specs.declared.no_verdict.NoVerdict.{NoVerdict}
use Rattle.summaries.specs.declared.no_verdict.NoVerdict.TheVariants as verdict
use Rattle.summaries.specs.Found.{pair}

-- why there is no verdict, if the table of the procedure with this number has failed
abbrev pub no_verdict : ℕ → TableFault → NoVerdict
no_verdict procedure fault.Memory = verdict.Memory
no_verdict procedure fault.EdgeLimit = verdict.EdgeLimit procedure

-- each number is less than the next
abbrev pub IsAscending : List ℕ → Type 0
IsAscending [] = Unit {0}
IsAscending (x ∷ []) = Unit {0}
IsAscending (x ∷ y ∷ zs) = (x < y) × IsAscending (y ∷ zs)

-- the pair is before the other, by what it was entered with, then by the globals that it left, and then by the result
abbrev pub IsPairBefore : Pair → Pair → Type 0
IsPairBefore x y = (x.a < y.a) ⊎ ((x.a ≡ y.a) × ((x.b < y.b) ⊎ ((x.b ≡ y.b) × (x.r ≡ false) × (y.r ≡ true))))

-- each pair is before the next
abbrev pub ArePairsAscending : List Pair → Type 0
ArePairsAscending [] = Unit {0}
ArePairsAscending (x ∷ []) = Unit {0}
ArePairsAscending (x ∷ y ∷ zs) = IsPairBefore x y × ArePairsAscending (y ∷ zs)

-- The entries are those with which the procedure is entered, by number and ascending, and the pairs are its pairs.
pub record IsSummary (program : Program) (procedure : ℕ) (summary : Effect) : Type 0 where
  pub ascend : IsAscending summary.entries
  pub entries : (own : ℕ) → Member own summary.entries ↔ IsNumberOfEntry program procedure own
  pub pairs_ascend : ArePairsAscending summary.pairs
  pub pairs : (own : ℕ) (exit : Exit) → Member (pair own exit) summary.pairs ↔ AreNumbersOfPair program procedure own exit

-- The summaries are those of the program's procedures, by number.
abbrev pub AreSummaries : Program → Effects → Type 0
AreSummaries program effects =
    (length effects.procedures ≡ length program.routines)
    × ((number : ℕ) (summary : Effect) → slice_get effects.procedures number ≡ Some summary → IsSummary program number summary)

-- some pair of the first procedure has the bit `bad`
abbrev pub SomePairBad : Effects → Type 0
SomePairBad effects =
    (summary : Effect) × (slice_get effects.procedures 0 ≡ Some summary)
    × ((own : ℕ) × (exit : Exit) × Member (pair own exit) summary.pairs × (bit_of exit.globals effects.bad ≡ true))

-- the procedure has more than n path edges
abbrev pub HasMoreEdges : Program → ℕ → ℕ → Type 0
HasMoreEdges program procedure n =
    (ts : List Triple) × NoneTwice ts × (n < length ts)
    × ((reached : Triple) → Member reached ts → AreNumbersOfEdge program procedure reached.entry reached.point reached.values)
