-- Each step keeps that messages are taken, and the tables before `at` owe none.
use Rattle.std.proofs.Common.{◌≡◌, ◌<◌, ◌+◌, ◌^◌, Some, length, slice_get, slice_set, refl, sym, ap, ◌∙◌, subst, arith, length-set, tests}
use Rattle.std.proofs.lemmas.Option.{slice_get_read}
use Rattle.std.specs.Option.{IfSome, IfNone}
use Rattle.flow_graph.specs.Numbers.{NumberedMessage, IsNumberOf}
use Rattle.language.specs.Sequential.{IsDue}
use Rattle.summaries.specs.declared.due.Caller.TheVariants.{Starter}
use Rattle.summaries.specs.declared.due.Due.TheVariants.{Entry}
use Rattle.summaries.specs.declared.table_fault.TableFault.TheVariants.{EdgeLimit}
use Rattle.summaries.specs.Mails.{mail}
use Rattle.summaries.specs.Dues.{due_of}
use Rattle.summaries.specs.Tables.{answers_of, IsQuiet, IsAnswer, TookAlso, TookOnly}
use Rattle.summaries.specs.Together.{opening, AreTables}
use Rattle.summaries.proofs.SweepLemmas.{limits_stay}
use Rattle.summaries.proofs.Steps.{answered, answered_none, delivered, opening_due, mail_due, mail_receiver, only_due, too_many}
use Rattle.summaries.proofs.Steps.{same_too_many, one_more_quiet, still_quiet, room, steps_left, less_room, same_room, fewer_rooms, nearer}
use Rattle.summaries.proofs.Steps.{none_aside}
use Rattle.summaries.proofs.tabulation.run.Goals as goal
use Rattle.summaries.proofs.tabulation.run.Given.{Over}
use Rattle.summaries.proofs.tabulation.run.Goals.{After-index_mut, In-Some, In_ok-deliver, After-index_mut-in-loop-at}
use Rattle.summaries.proofs.tabulation.run.Goals.{After-index_mut-in-Some}
use Rattle.summaries.proofs.FrontierLemmas.{fault_of, failed_ok}

-- ---- the opening

pub returns-then-is_empty-clause-tables : goal.returns-then-is_empty-clause-tables
returns-then-is_empty-clause-tables g c =
    let asked = c.requires.1 in
    none_aside g.S.PathSet.members g.program (λ x. x ≡ opening) c.args.tables.now.items
    (grind (arith, tests, c.args.tables.now.ok.0)) asked.1.1

first_is : (g : Over) (c : After-index_mut g) → slice_get c.args.tables.now.items 0 ≡ Some c.index_mut.result.now
first_is g c =
    slice_get_read c.args.tables.now.items _ 0 c.index_mut.result.now refl
    (grind (arith, tests, c.args.tables.now.ok.0)) c.index_mut.ensures.value

opened_due : (g : Over) (c : After-index_mut g) → (k : NumberedMessage) → due_of k ≡ Entry Starter 0 → IsNumberOf (IsDue g.program 0) k
opened_due g c =
    let asked = c.requires.1 in
    opening_due g.S.PathSet.members g.program (λ x. x ≡ opening) c.args.tables.now.items asked.1.1 c.index_mut.result.now
    (first_is g c)

pub deliver-requires : goal.deliver-requires
deliver-requires g c = let asked = c.requires.1 in asked.1.1.table 0 c.index_mut.result.now (first_is g c)

pub returns-in_err-deliver-clause-limits : goal.returns-in_err-deliver-clause-limits
returns-in_err-deliver-clause-limits g c = λ n h. failed_ok _ _ c.from_residual.result c.from_residual.ensures.1

pub returns-in_err-deliver-clause-limit : goal.returns-in_err-deliver-clause-limit
returns-in_err-deliver-clause-limit g c = λ e n h.
    let asked = c.requires.1 in
    let delivers = c.in_err-deliver.ensures in
    let told = fault_of _ c.from_residual.result EdgeLimit c.from_residual.ensures.1 e in
    let ts = c.args.tables.now.items in
    let a = (goal.at.returns-in_err-deliver-clause-limit g c).After-index_mut in
    let only = subst (λ w. TookOnly (Entry Starter w) c.index_mut.result.now.found c.deliver.new.table.found) c.new.ensures delivers.only in
    let due =
    only_due g.S.PathSet.members g.program (λ x. x ≡ opening) ts asked.1.1 0
    (Entry Starter 0) c.index_mut.result.now c.deliver.new.table (first_is g a) only (opened_due g a) in
    too_many g.S.PathSet.members g.program (λ x. x ≡ opening) ts asked.1.1 0 c.index_mut.result.now c.deliver.new.table
    (first_is g a) delivers.table delivers.stays (delivers.fault ∙ ap Some (sym told)) due n h

pub loop-at-init : goal.loop-at-init
loop-at-init g c = record {
  tables =
      let a = (goal.at.loop-at-init g c).After-index_mut in
      let delivers = c.in_ok-deliver.ensures in
      let asked = c.requires.1 in
      let only =
      subst (λ w. TookOnly (Entry Starter w) c.index_mut.result.now.found c.deliver.new.table.found) c.new.ensures delivers.only in
      let taken =
      subst (λ w. TookAlso (Entry Starter w) c.index_mut.result.now.found c.deliver.new.table.found) c.new.ensures delivers.taken in
      delivered g.S.PathSet.members g.program 0 (Entry Starter 0) c.args.tables.now.items asked.1.1
      c.index_mut.result.now c.deliver.new.table (first_is g a) delivers.table delivers.fault delivers.stays
      taken only delivers.answers (opened_due g a);
  quiet = λ q t below is. absurd (omega (arith, below));
  within = omega arith;
  limits = λ n h.
      let a = (goal.at.loop-at-init g c).After-index_mut in
      limits_stay n c.args.tables.now.items 0 c.index_mut.result.now c.deliver.new.table (first_is g a) c.in_ok-deliver.ensures.stays h;
}

-- ---- a table answers

at_is : (g : Over) (c : After-index_mut-in-loop-at g)
    → slice_get c.loop-at.tables.items c.loop-at.at ≡ Some c.index_mut-in-loop-at.result.now
at_is g c =
    slice_get_read c.loop-at.tables.items _ c.loop-at.at c.index_mut-in-loop-at.result.now refl
    (omega (arith, c.loop-at.tables.ok.0)) c.index_mut-in-loop-at.ensures.value

pub next-requires : goal.next-requires
next-requires g c = c.loop-at.invariant.tables.table c.loop-at.at c.index_mut-in-loop-at.result.now (at_is g c)

pub returns-in_err-to-clause-limits : goal.returns-in_err-to-clause-limits
returns-in_err-to-clause-limits g c = λ n h. failed_ok _ _ c.from_residual-in_err-to.result c.from_residual-in_err-to.ensures.1

pub returns-in_err-to-clause-limit : goal.returns-in_err-to-clause-limit
returns-in_err-to-clause-limit g c = λ e n h.
    let next = c.in_err-to.ensures in
    let told = fault_of _ c.from_residual-in_err-to.result EdgeLimit c.from_residual-in_err-to.ensures.1 e in
    let a = (goal.at.returns-in_err-to-clause-limit g c).After-index_mut-in-loop-at in
    same_too_many g.S.PathSet.members g.program (λ x. ⊥) c.loop-at.tables.items c.loop-at.invariant.tables c.loop-at.at
    c.index_mut-in-loop-at.result.now c.next.new.self (at_is g a) next.keeps.table next.keeps.stays
    (next.keeps.fault ∙ ap Some (sym told)) next.keeps.taken n (c.loop-at.invariant.limits n h)

-- ---- its receiver takes the message

abbrev To : (g : Over) → In-Some g → Type 0
To g c = (k : NumberedMessage) → due_of k ≡ c.in-Some.due → IsNumberOf (IsDue g.program c.in-Some.to) k

answers_is : (g : Over) (c : In-Some g) → slice_get c.loop-at.tables.items c.loop-at.at ≡ Some c.index_mut-in-loop-at.result.now
answers_is g c =
    slice_get_read c.loop-at.tables.items _ c.loop-at.at c.index_mut-in-loop-at.result.now refl
    (omega (arith, c.loop-at.tables.ok.0)) c.index_mut-in-loop-at.ensures.value

-- the message is what the table answered
answer_of : (g : Over) (c : In-Some g) → IsAnswer c.index_mut-in-loop-at.result.now c.next.new.self c.in-Some.to c.in-Some.due
answer_of g c = subst (λ o. IfSome o (λ m. IsAnswer c.index_mut-in-loop-at.result.now c.next.new.self m.0 m.1))
    c.in-Some.is c.in_ok-to.ensures.some

to_due : (g : Over) (c : In-Some g) → To g c
to_due g c =
    mail_due g.S.PathSet.members g.program (λ x. ⊥) c.loop-at.tables.items c.loop-at.invariant.tables c.loop-at.at
    c.index_mut-in-loop-at.result.now c.next.new.self (answers_is g c) c.in_ok-to.ensures.keeps c.in-Some.to
    c.in-Some.due (answer_of g c)

to_there : (g : Over) (c : In-Some g) → c.in-Some.to < length c.loop-at.tables.items
to_there g c =
    mail_receiver g.S.PathSet.members g.program (λ x. ⊥) c.loop-at.tables.items c.loop-at.invariant.tables c.in-Some.to c.in-Some.due
    (to_due g c)

-- the tables, if the message is left aside
then_aside : (g : Over) (c : In-Some g)
    → AreTables g.S.PathSet.members g.program (λ x. x ≡ mail c.in-Some.to c.in-Some.due)
    (slice_set c.loop-at.tables.items c.loop-at.at c.next.new.self)
then_aside g c =
    let next = c.in_ok-to.ensures in
    answered g.S.PathSet.members g.program c.loop-at.tables.items c.loop-at.invariant.tables c.loop-at.at
    c.index_mut-in-loop-at.result.now c.next.new.self (answers_is g c) next.keeps.table next.keeps.fault
    next.keeps.stays next.keeps.taken (mail c.in-Some.to c.in-Some.due) (answer_of g c).behind

pub index_mut-requires-in-Some : goal.index_mut-requires-in-Some
index_mut-requires-in-Some g c =
    let there = to_there g (goal.at.index_mut-requires-in-Some g c).In-Some in
    let same = length-set c.loop-at.tables.items c.loop-at.at c.next.new.self in
    omega (arith, there, same)

to_is : (g : Over) (c : After-index_mut-in-Some g)
    → slice_get (slice_set c.loop-at.tables.items c.loop-at.at c.next.new.self) c.in-Some.to ≡ Some c.index_mut-in-Some.result.now
to_is g c =
    let there = to_there g (goal.at.deliver-requires-in-Some g c).In-Some in
    let same = length-set c.loop-at.tables.items c.loop-at.at c.next.new.self in
    slice_get_read (slice_set c.loop-at.tables.items c.loop-at.at c.next.new.self) _ c.in-Some.to c.index_mut-in-Some.result.now refl
    (omega (arith, there, same)) c.index_mut-in-Some.ensures.value

pub deliver-requires-in-Some : goal.deliver-requires-in-Some
deliver-requires-in-Some g c =
    (then_aside g (goal.at.deliver-requires-in-Some g c).In-Some).table c.in-Some.to c.index_mut-in-Some.result.now (to_is g c)

pub returns-in_err-deliver-in-Some-clause-limits : goal.returns-in_err-deliver-in-Some-clause-limits
returns-in_err-deliver-in-Some-clause-limits g c =
    λ n h. failed_ok _ _ c.from_residual-in_err-deliver-in-Some.result c.from_residual-in_err-deliver-in-Some.ensures.1

pub returns-in_err-deliver-in-Some-clause-limit : goal.returns-in_err-deliver-in-Some-clause-limit
returns-in_err-deliver-in-Some-clause-limit g c = λ e n h.
    let at = goal.at.returns-in_err-deliver-in-Some-clause-limit g c in
    let delivers = c.in_err-deliver-in-Some.ensures in
    let told = fault_of _ c.from_residual-in_err-deliver-in-Some.result EdgeLimit c.from_residual-in_err-deliver-in-Some.ensures.1 e in
    let ts = slice_set c.loop-at.tables.items c.loop-at.at c.next.new.self in
    let are = then_aside g at.In-Some in
    let is = to_is g at.After-index_mut-in-Some in
    let limits = limits_stay n c.loop-at.tables.items c.loop-at.at c.index_mut-in-loop-at.result.now c.next.new.self
    (answers_is g at.In-Some) c.in_ok-to.ensures.keeps.stays (c.loop-at.invariant.limits n h) in
    let due =
    only_due g.S.PathSet.members g.program
    (λ x. x ≡ mail c.in-Some.to c.in-Some.due) ts are c.in-Some.to c.in-Some.due c.index_mut-in-Some.result.now
    c.deliver-in-Some.new.table is delivers.only (to_due g at.In-Some) in
    too_many g.S.PathSet.members g.program
    (λ x. x ≡ mail c.in-Some.to c.in-Some.due) ts are c.in-Some.to c.index_mut-in-Some.result.now c.deliver-in-Some.new.table is
    delivers.table delivers.stays (delivers.fault ∙ ap Some (sym told)) due n limits

pub loop-at-smaller-in-Some : goal.loop-at-smaller-in-Some
loop-at-smaller-in-Some g c =
    let at = goal.at.loop-at-smaller-in-Some g c in
    let items = c.loop-at.tables.items in
    let one = slice_set items c.loop-at.at c.next.new.self in
    let two = slice_set one c.in-Some.to c.deliver-in-Some.new.table in
    let less =
    less_room (2 ^ 64) items c.loop-at.at c.index_mut-in-loop-at.result.now c.next.new.self
    (mail c.in-Some.to c.in-Some.due) (answers_is g at.In-Some) (answer_of g at.In-Some).behind c.in_ok-to.ensures.few in
    let same = same_room (2 ^ 64) one c.in-Some.to c.index_mut-in-Some.result.now c.deliver-in-Some.new.table
    (to_is g at.After-index_mut-in-Some) c.in_ok-deliver-in-Some.ensures.answers in
    let long : length two ≡ length items = length-set one c.in-Some.to c.deliver-in-Some.new.table
    ∙ length-set items c.loop-at.at c.next.new.self in
    subst (λ n. steps_left (room (2 ^ 64) two) n c.min-at.result < steps_left (room (2 ^ 64) items) (length items) c.loop-at.at) (sym long)
    (fewer_rooms (room (2 ^ 64) items) (room (2 ^ 64) two) (length items) c.min-at.result c.loop-at.at
    (subst (λ r. r < room (2 ^ 64) items) (sym same) less))

pub loop-at-preserved-in-Some : goal.loop-at-preserved-in-Some
loop-at-preserved-in-Some g c =
    let at = goal.at.loop-at-preserved-in-Some g c in
    let is = answers_is g at.In-Some in
    let then = to_is g at.After-index_mut-in-Some in
    let items = c.loop-at.tables.items in
    let one = slice_set items c.loop-at.at c.next.new.self in
    let two = slice_set one c.in-Some.to c.deliver-in-Some.new.table in
    let delivers = c.in_ok-deliver-in-Some.ensures in
    let long : length two ≡ length items = length-set one c.in-Some.to c.deliver-in-Some.new.table
    ∙ length-set items c.loop-at.at c.next.new.self in
    record {
      tables = delivered g.S.PathSet.members g.program c.in-Some.to c.in-Some.due one (then_aside g at.In-Some)
          c.index_mut-in-Some.result.now c.deliver-in-Some.new.table then delivers.table delivers.fault delivers.stays
          delivers.taken delivers.only delivers.answers (to_due g at.In-Some);
      quiet =
          still_quiet g.S.PathSet.members c.loop-at.at c.loop-at.at c.in-Some.to c.min-at.result items c.next.new.self
          c.deliver-in-Some.new.table c.loop-at.invariant.quiet (omega arith) (omega arith) (omega arith);
      within = omega (arith, long);
      limits = λ n h.
          limits_stay n one c.in-Some.to c.index_mut-in-Some.result.now c.deliver-in-Some.new.table then delivers.stays
          (limits_stay n items c.loop-at.at c.index_mut-in-loop-at.result.now c.next.new.self is
          c.in_ok-to.ensures.keeps.stays (c.loop-at.invariant.limits n h));
    }

-- ---- a table owes none

pub loop-at-smaller : goal.loop-at-smaller
loop-at-smaller g c =
    let is = at_is g (goal.at.loop-at-smaller g c).After-index_mut-in-loop-at in
    let items = c.loop-at.tables.items in
    let one = slice_set items c.loop-at.at c.next.new.self in
    let none = subst (λ o. IfNone o (answers_of c.next.new.self ≡ answers_of c.index_mut-in-loop-at.result.now))
    c.in-None.is c.in_ok-to.ensures.none in
    let same = same_room (2 ^ 64) items c.loop-at.at c.index_mut-in-loop-at.result.now c.next.new.self is none in
    let long = length-set items c.loop-at.at c.next.new.self in
    let within : c.loop-at.at < length items = omega (arith, c.loop-at.tables.ok.0) in
    subst (λ n. steps_left (room (2 ^ 64) one) n (c.loop-at.at + 1) < steps_left (room (2 ^ 64) items) (length items) c.loop-at.at)
    (sym long)
    (subst (λ r. steps_left r (length items) (c.loop-at.at + 1) < steps_left (room (2 ^ 64) items) (length items) c.loop-at.at) (sym same)
    (nearer (room (2 ^ 64) items) (length items) c.loop-at.at within))

pub loop-at-preserved : goal.loop-at-preserved
loop-at-preserved g c =
    let is = at_is g (goal.at.loop-at-preserved g c).After-index_mut-in-loop-at in
    let items = c.loop-at.tables.items in
    let next = c.in_ok-to.ensures in
    let none = subst (λ o. IfNone o (answers_of c.next.new.self ≡ answers_of c.index_mut-in-loop-at.result.now)) c.in-None.is next.none in
    let quiet = subst (λ o. IfNone o (IsQuiet g.S.PathSet.members c.next.new.self)) c.in-None.is next.quiet in
    let long = length-set items c.loop-at.at c.next.new.self in
    record {
      tables = answered_none g.S.PathSet.members g.program items c.loop-at.invariant.tables c.loop-at.at
          c.index_mut-in-loop-at.result.now c.next.new.self is next.keeps.table next.keeps.fault next.keeps.stays
          next.keeps.taken none;
      quiet = one_more_quiet g.S.PathSet.members c.loop-at.at items c.next.new.self c.loop-at.invariant.quiet quiet;
      within = omega (arith, long, c.loop-at.tables.ok.0);
      limits = λ n h. limits_stay n items c.loop-at.at c.index_mut-in-loop-at.result.now c.next.new.self is
          next.keeps.stays (c.loop-at.invariant.limits n h);
    }

pub returns-clause-quiet : goal.returns-clause-quiet
returns-clause-quiet g c =
    let all = c.loop-at.invariant.quiet in
    λ q t below is. all q t (omega (arith, below, c.loop-at.tables.ok.0)) is
