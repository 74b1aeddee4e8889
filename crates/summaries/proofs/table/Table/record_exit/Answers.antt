use Rattle.std.proofs.Common.{◌≡◌, map, refl, subst, take}
use Rattle.path_sets.specs.Triples.{triple}
use Rattle.summaries.specs.declared.found.Found.{Found}
use Rattle.summaries.specs.Exits.{IsPairAdded}
use Rattle.summaries.specs.Found.{calls_in, mail_of, mails_in, pair}
use Rattle.summaries.specs.Grows.{AddsTo, OfSome, IsSummaryTold}
use Rattle.summaries.proofs.ExitLemmas.{leave_step, left_indexed, left_told, none_told, added_by, if_none}
use Rattle.summaries.proofs.StepLemmas.{still_holds, same_step}
use Rattle.summaries.proofs.TellLemmas.{answers_kept}
use Rattle.summaries.proofs.table.Table.record_exit.Given.{Over}
use Rattle.summaries.proofs.table.Table.record_exit.Goals as goal
use Rattle.summaries.proofs.table.Table.record_exit.Goals.{In_ok-send_summary_to_all}

pub send_summary_to_all-requires-clause-new : goal.send_summary_to_all-requires-clause-new
send_summary_to_all-requires-clause-new g c =
    let f = c.args.self.now.found in
    let p = pair c.args.entry c.left-left.result in
    let added = added_by f.exits c.insert_near.new.self _ p c.in_ok-at.field-0 c.in-Some.at c.in-Some.is
    refl c.in_ok-at.ensures.new in
    none_told f (record f { exits = c.insert_near.new.self }) c.requires.holds.0.indexed p c.in-Some.at c.of_near-callers.result.now added

-- what is found if the pair is new
abbrev after : (g : Over) → In_ok-send_summary_to_all g → Found g.row.A.Denot
after g c = record c.args.self.now.found {
  exits = c.insert_near.new.self;
  outbox = c.send_summary_to_all.new.outbox;
  last_exit = c.insert_near.new.last;
  last_entry = c.of_near-callers.new.last;
}

-- it has a place
is_added : (g : Over) (c : In_ok-send_summary_to_all g)
    → IsPairAdded (pair c.args.entry c.left-left.result) c.in-Some.at c.args.self.now.found.exits c.insert_near.new.self
is_added g c = added_by c.args.self.now.found.exits c.insert_near.new.self _ (pair c.args.entry c.left-left.result) c.in_ok-at.field-0
    c.in-Some.at c.in-Some.is refl c.in_ok-at.ensures.new

-- and its summary is given to the callers
gave : (g : Over) (c : In_ok-send_summary_to_all g) →
    let self = c.args.self.now in
    AddsTo (OfSome (IsSummaryTold self.procedure c.args.entry c.left-left.result) c.of_near-callers.result.now)
    (mails_in self.procedure self.found) (mails_in self.procedure (after g c))
gave g c =
    left_told c.args.self.now.procedure c.args.self.now.found (after g c) c.args.entry c.left-left.result c.in-Some.at
    c.of_near-callers.result.now c.requires.holds.0.indexed (is_added g c) c.in_ok-send_summary_to_all.ensures.ok

pub returns-in_ok-send_summary_to_all-clause-ok : goal.returns-in_ok-send_summary_to_all-clause-ok
returns-in_ok-send_summary_to_all-clause-ok g c =
    let self = c.args.self.now in
    let f = self.found in
    let b = c.left-left.result in
    let es = g.S.PathSet.members self.edges in
    let at = (goal.at.returns-in_ok-send_summary_to_all-clause-ok g c).In_ok-send_summary_to_all in
    let h = after g at in
    let added = is_added g at in
    let told =
    subst (λ cs. AddsTo (OfSome (IsSummaryTold self.procedure c.args.entry b) cs) (mails_in self.procedure f) (mails_in self.procedure h))
    c.of_near-callers.ensures (gave g at) in
    let step = leave_step self.graph.now self.procedure f h es c.args.entry c.args.values b c.left-left.ensures.number
    c.requires.holds.0 c.requires.edge c.in-Some.at added
    (λ old. left_indexed self.procedure f h c.args.entry b c.in-Some.at c.of_near-callers.result.now old added
    c.in_ok-send_summary_to_all.ensures.ok) told in
    still_holds self.graph.now self.procedure f h es es step (λ t. t ≡ triple c.args.entry 0 c.args.values) c.requires.holds

pub returns-in_ok-send_summary_to_all-clause-answers : goal.returns-in_ok-send_summary_to_all-clause-answers
returns-in_ok-send_summary_to_all-clause-answers g c =
    let self = c.args.self.now in
    let at = (goal.at.returns-in_ok-send_summary_to_all-clause-answers g c).In_ok-send_summary_to_all in
    answers_kept self.procedure self.found (after g at) _ c.in_ok-send_summary_to_all.ensures.answered (gave g at)

pub returns-in_default-clause-ok : goal.returns-in_default-clause-ok
returns-in_default-clause-ok g c =
    let self = c.args.self.now in
    let f = self.found in
    let es = g.S.PathSet.members self.edges in
    let h : Found g.row.A.Denot = record f { exits = c.insert_near.new.self; last_exit = c.insert_near.new.last } in
    let stay = if_none c.in_ok-at.field-0 c.in_default.is c.in_ok-at.ensures.stay in
    let step = same_step self.graph.now self.procedure f h es stay refl refl in
    still_holds self.graph.now self.procedure f h es es step (λ t. t ≡ triple c.args.entry 0 c.args.values) c.requires.holds

pub returns-in_default-clause-answers : goal.returns-in_default-clause-answers
returns-in_default-clause-answers g c =
    let self = c.args.self.now in
    let f = self.found in
    let stay = if_none c.in_ok-at.field-0 c.in_default.is c.in_ok-at.ensures.stay in
    λ j. take f.outbox.answered (map (mail_of (calls_in f) (λ at. stay at j) self.procedure) f.outbox.sent.items)
