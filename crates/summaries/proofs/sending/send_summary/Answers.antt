use Rattle.std.proofs.Common.{◌≡◌, ℕ, refl, sym, ap, ◌∙◌}
use Rattle.summaries.specs.declared.due.Caller.{Caller}
use Rattle.summaries.specs.declared.due.Caller.TheVariants.{Proc}
use Rattle.summaries.specs.declared.outbox.Outgoing.TheVariants.{SummaryFor}
use Rattle.summaries.specs.Grows.{AddsTo, IsTold}
use Rattle.summaries.proofs.TellLemmas.{gives_one, gives_as}
use Rattle.summaries.proofs.sending.send_summary.Given.{Over}
use Rattle.summaries.proofs.sending.send_summary.Goals as goal
use Rattle.summaries.proofs.sending.send_summary.Goals.{In_ok-send}

-- the number of a caller
the : Caller → ℕ
the (Proc n) = n
the _ = 0

number : (c to : ℕ) → Proc c ≡ Proc to → c ≡ to
unfolding the
number c to e = ap the e

-- the summary is given to the caller
are_given : (g : Over) (c : In_ok-send g)
    → AddsTo (IsTold c.args.at c.args.caller) c.args.outbox.now.sent.items c.send.new.self.sent.items
are_given g c =
    let told = SummaryFor c.in-Proc.to c.args.at in
    let one = gives_one told c.args.outbox.now.sent.items c.send.new.self.sent.items c.in_ok-send.ensures.ok in
    gives_as (λ x. x ≡ told) (IsTold c.args.at c.args.caller) c.args.outbox.now.sent.items c.send.new.self.sent.items
    (λ x e. (c.in-Proc.to, c.in-Proc.is, e))
    (λ x w. w.2 ∙ ap (λ to. SummaryFor to c.args.at) (number w.0 c.in-Proc.to (sym w.1 ∙ c.in-Proc.is)))
    one

pub returns-in_ok-send : goal.returns-in_ok-send
returns-in_ok-send g c =
    let gives = are_given g (goal.at.returns-in_ok-send g c).In_ok-send in
    record { ok = gives; only = gives.only; answered = c.in_ok-send.ensures.answered }

pub send-requires : goal.send-requires
send-requires g c = c.requires (SummaryFor c.in-Proc.to c.args.at) (c.in-Proc.to, c.in-Proc.is, refl)
