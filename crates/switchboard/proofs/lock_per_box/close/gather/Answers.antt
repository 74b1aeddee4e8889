-- The last pass of the list is the next that is taken in.
use Rattle.std.proofs.Common.{◌∷◌, ◌++◌, [], length, sym, ap, subst, refl, ◌∙◌, arith, append_assoc}
use Rattle.std.proofs.lemmas.List.{append-nil}
use Rattle.switchboard.specs.BoxEnds.{Gathered}
use Rattle.switchboard.proofs.BoxEnding.{gathered_first, gathered_more, pass_of}
use Rattle.switchboard.proofs.lock_per_box.close.gather.Goals as goal

pub loop-pass-init : goal.loop-pass-init
loop-pass-init g c =
    let F = g.M.Mail.fits in
    let boxes = c.args.shared.now.key.boxes in
    let all = c.args.passes.now.items in
    let front = c.pop.new.self.items in
    let s = c.in-Some.last in
    let items = c.in-Some.ensures.items in
    let are = items ∙ sym (append-nil (front ++ s ∷ [])) in
    let of = pass_of F c.args.shared.now.table_id boxes all front [] s are c.requires.all in
    let has = c.into_seat-seat.ensures in
    (ap (λ z. z.board) has.1 ∙ of.0, (s ∷ [], items), gathered_first F boxes all front [] s are _ c.into_seat-seat.result.me has of.1 refl)

pub take_in-requires-clause-table : goal.take_in-requires-clause-table
take_in-requires-clause-table g c =
    let now = c.loop-pass.invariant in
    let are = now.1.1 ∙ ap (λ l. l ++ now.1.0) c.in-Some-pop.ensures.items in
    let of =
    pass_of g.M.Mail.fits c.args.shared.now.table_id c.args.shared.now.key.boxes c.args.passes.now.items
    c.pop-in-loop-pass.new.self.items now.1.0 c.in-Some-pop.pass are c.requires.all in
    (now.0, ap (λ z. z.board) c.into_seat.ensures.1 ∙ of.0, omega (arith, c.requires.table.0.0))

pub take_in-requires-clause-theirs : goal.take_in-requires-clause-theirs
take_in-requires-clause-theirs g c = λ q near.
    let now = c.loop-pass.invariant in
    let are = now.1.1 ∙ ap (λ l. l ++ now.1.0) c.in-Some-pop.ensures.items in
    let of =
    pass_of g.M.Mail.fits c.args.shared.now.table_id c.args.shared.now.key.boxes c.args.passes.now.items
    c.pop-in-loop-pass.new.self.items now.1.0 c.in-Some-pop.pass are c.requires.all in
    (c.into_seat.ensures.0.hands q (omega (arith, near, of.1))).inside

pub loop-pass-preserved : goal.loop-pass-preserved
loop-pass-preserved g c =
    let F = g.M.Mail.fits in
    let boxes = c.args.shared.now.key.boxes in
    let all = c.args.passes.now.items in
    let now = c.loop-pass.invariant in
    let front = c.pop-in-loop-pass.new.self.items in
    let s = c.in-Some-pop.pass in
    let rest = now.1.0 in
    let items = c.in-Some-pop.ensures.items in
    let are = now.1.1 ∙ ap (λ l. l ++ rest) items in
    let of = pass_of F c.args.shared.now.table_id boxes all front rest s are c.requires.all in
    let so_far = subst (λ l. Gathered boxes all (length l) c.loop-pass.seat.me) items now.2 in (
      c.take_in.ensures.0.0 ∙ now.0,
      (s ∷ rest, are ∙ append_assoc front (s ∷ []) rest),
      gathered_more F boxes all front rest s are _ c.loop-pass.seat.me c.into_seat.result.me c.take_in.new.seat.me so_far
          c.into_seat.ensures of.1 c.take_in.ensures.1,
    )

pub take_in-requires-clause-mine : goal.take_in-requires-clause-mine
take_in-requires-clause-mine g c = λ q near. (c.loop-pass.invariant.2.quiet q near).1

pub take_in-requires-clause-none : goal.take_in-requires-clause-none
take_in-requires-clause-none g c = c.into_seat.ensures.0.outside

pub returns-clause-table : goal.returns-clause-table
returns-clause-table g c = c.loop-pass.invariant.0
