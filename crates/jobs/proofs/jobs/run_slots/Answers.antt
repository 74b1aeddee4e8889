-- The closure of the scope asks what the function does, and that what its threads are given may go to them.
use denote.Exit.{no}
use denote.Param.Send.{param_send, arg_send, param_sync, arg_sync}
use Rattle.jobs.proofs.jobs.run_slots.Goals as goal

pub scoped-requires : goal.scoped-requires
scoped-requires g c =
    let asked = c.requires in
    let crosses = c.type_bounds in
    record {
      at = λ a. (
        asked.few,
        (
          asked.all,
          (
            asked.room,
            (
              asked.empty,
              (
                asked.runs,
                (
                  param_send 1 _ (arg_send _ no _ crosses.send-L),
                  param_send 2 _ (arg_send _ no _ crosses.send-J),
                  param_send 5 _ (arg_send _ no _ crosses.send-J-Back),
                  param_sync 0 _ (arg_sync _ no _ crosses.sync-R),
                ),
              ),
            ),
          ),
        ),
      );
    }
