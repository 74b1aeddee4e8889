-- The rule holds for the new table.
use Rattle.std.proofs.Common.{sym, subst}
use Rattle.atomic_table.specs.Table.{opening}
use Rattle.switchboard.specs.Knowing.{first_view}
use Rattle.switchboard.specs.PerBox.{Rule}
use Rattle.switchboard.proofs.BoxOpening.{opens}
use Rattle.switchboard.proofs.lock_per_box.open.lay.Goals as goal

pub new-requires : goal.new-requires
new-requires g c =
    let w = c.in_ok-words.ensures in
    let s = c.in_ok-slots.ensures in
    let about = c.args.about.now in
    subst (λ l. Rule g.M.Mail.fits about (opening l c.in_ok-slots.slots.items (first_view about 0 about.boxes)))
    (sym c.as_slice.ensures.value)
    (opens g.M.Mail.fits about c.requires.boxes.0 c.requires.boxes.1 c.requires.fits c.in_ok-words.words.items c.in_ok-slots.slots.items
    w.0 w.1 w.2 s.0 s.1)
