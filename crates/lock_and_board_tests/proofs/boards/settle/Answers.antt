-- As many sights as passes.
use Rattle.std.proofs.Common.{arith}
use Rattle.std.proofs.lemmas.List.{length-map}
use Rattle.lock_and_board_tests.proofs.boards.settle.Goals as goal

pub into_ledger-ledger-requires : goal.into_ledger-ledger-requires
into_ledger-ledger-requires g c =
    (omega (arith, c.requires.1, c.args.passes.ok.0, length-map c.args.passes.items g.B.Board.sight), c.requires.0)
