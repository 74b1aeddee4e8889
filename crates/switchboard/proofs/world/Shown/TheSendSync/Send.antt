-- A world that only clauses read owns nothing, so it may go to another thread.
use denote.RattleType.{RattleType}
use denote.Param.Send.{IsSend}
use Rattle.switchboard.specs.contracts.world.Shown.{the_row}

pub send : (W : RattleType) → IsSend (the_row W)
send W = record { owned = λ d vs. ((λ vss. (tt, ((λ uss. (tt, tt)), tt))), tt); leaving = λ k f vs. tt }
