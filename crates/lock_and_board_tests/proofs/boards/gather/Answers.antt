-- The pass comes after those with lower numbers.
use Rattle.std.proofs.Common.{map, ap, ◌∙◌, arith}
use Rattle.switchboard.proofs.Jobs.{first_more}
use Rattle.std.proofs.lemmas.List.{length-map, map_push}
use Rattle.lock_and_board_tests.proofs.boards.gather.Goals as goal

pub returns : goal.returns
returns g c =
    let B = g.B.Board in
    let items = rw c.in-Ok.is at c.push.ensures.items in
    let len = rw c.in-Ok.is at c.push.ensures.len in
    let old = c.args.passes.now.items in (
      first_more (B.identity c.args.board.now) (B.mailboxes c.args.board.now) (map B.sight old) (map B.sight c.push.new.self.items)
          (B.sight c.args.pass)
          c.requires.passes (ap (map B.sight) items ∙ map_push B.sight old c.args.pass) c.requires.pass.0
          (c.requires.pass.1 ∙ omega (arith, c.args.passes.now.ok.0, length-map old B.sight)) c.requires.pass.2,
      len,
    )
