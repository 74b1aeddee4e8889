-- How a search ends.
use Rattle.std.specs.Prelude.{◌≡◌, ◌<◌, ◌^◌, ℕ, suc}
use Rattle.turns.specs.Between.{Threads, FailsBelow}
use Rattle.turns.specs.declared.numbered_frame.NumberedFrame.{NumberedFrame}
use Rattle.exploration.specs.declared.limits.Rounds.{Rounds}
use Rattle.exploration.specs.declared.limits.Rounds.TheVariants.{AtMost}
use Rattle.exploration.specs.Limits.{IsAsked}
use Rattle.exploration.specs.declared.searching.Search.{Search}
use Rattle.exploration.specs.declared.searching.End.{End}
use Rattle.exploration.specs.declared.searching.End.TheVariants.{Fails, Holds, Settles}
use Rattle.exploration.specs.declared.searching.Stopped.{Stopped}
use Rattle.exploration.specs.declared.searching.Stopped.TheVariants.{Memory, Limit}
use Rattle.exploration.specs.Searched.{HasCome}
use Rattle.exploration.specs.Turns.{turns_in}
use Rattle.stack_sets.specs.Nodes.{nodes_in}

-- The end is right: a turn fails in this round, which was asked for, and none before; or none fails in the rounds asked
-- for; or none fails in any.
abbrev pub IsEnd : Threads ℕ NumberedFrame → Rounds → End → Type 0
IsEnd p rounds (Fails round) = FailsBelow p (suc round) × (FailsBelow p round → ⊥) × IsAsked rounds (suc round)
IsEnd p rounds (Holds explored) = (FailsBelow p explored → ⊥) × (rounds ≡ AtMost explored)
IsEnd p rounds (Settles explored) = (k : ℕ) → FailsBelow p k → ⊥

-- the round can be counted from 1 too
abbrev pub HasRoom : End → Type 0
HasRoom (Fails round) = round < 2 ^ 33
HasRoom (Holds explored) = Unit {0}
HasRoom (Settles explored) = Unit {0}

-- where the limit was reached, no turn fails in the rounds before
abbrev pub IsStopped : Threads ℕ NumberedFrame → Stopped → Type 0
IsStopped p Memory = Unit {0}
IsStopped p (Limit round) = FailsBelow p round → ⊥

-- the search is before the first turn
abbrev pub HasBegun : {Alloc : Type 0} → Threads ℕ NumberedFrame → Search Alloc → Type 0
HasBegun p search =
    HasCome p (nodes_in search.sets) (turns_in search.turns) search.tuples.keys search.expanded 0 0
