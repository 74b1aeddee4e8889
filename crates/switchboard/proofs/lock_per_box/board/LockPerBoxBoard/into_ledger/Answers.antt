-- The sights of the passes are what contracts see them as.
use Rattle.std.proofs.Common.{sym, subst}
use Rattle.switchboard.specs.Promises.{AreAll, Settles}
use Rattle.switchboard.proofs.Opening.{map_same}
use Rattle.switchboard.proofs.lock_per_box.board.LockPerBoxBoard.into_ledger.Goals as goal

pub into_ledger-requires : goal.into_ledger-requires
into_ledger-requires g c =
    subst (AreAll c.args.self.table.shared.table_id c.args.self.table.shared.key.boxes) (map_same c.args.passes.now.items) c.requires

pub returns-clause-settles : goal.returns-clause-settles
returns-clause-settles g c =
    subst
    (λ l. Settles g.M.Mail.fits c.args.self.table.shared.key.boxes l c.into_ledger.result.histories.items c.into_ledger.result.closed)
    (sym (map_same c.args.passes.now.items)) c.into_ledger.ensures.settles
