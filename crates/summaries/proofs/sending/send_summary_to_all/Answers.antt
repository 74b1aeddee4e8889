use Rattle.std.proofs.Common.{◌∙◌, arith}
use Rattle.summaries.specs.declared.due.Caller.TheVariants.{Starter}
use Rattle.summaries.specs.Grows.{IsTold}
use Rattle.summaries.proofs.Eaches.{each_until}
use Rattle.summaries.proofs.FrontierLemmas.{failed_ok}
use Rattle.summaries.proofs.TellLemmas.{gives_next, gives_all, still_new, one_caller}
use Rattle.summaries.proofs.sending.send_summary_to_all.Goals as goal

pub send_summary-requires : goal.send_summary-requires
send_summary-requires g c =
    still_new (IsTold c.args.at) c.args.callers.now c.loop-caller.caller-index _ _ c.loop-caller.invariant.0
    (one_caller c.args.at) Starter c.loop-caller-test.true c.requires.once c.requires.new

pub loop-caller-preserved : goal.loop-caller-preserved
loop-caller-preserved g c = (
  gives_next (IsTold c.args.at) c.args.callers.now c.loop-caller.caller-index _ _ c.loop-caller.invariant.0
      Starter c.loop-caller-test.true _ c.in_ok-send_summary.ensures.ok,
  c.in_ok-send_summary.ensures.answered ∙ c.loop-caller.invariant.1,
)

pub returns-in_err-send_summary : goal.returns-in_err-send_summary
returns-in_err-send_summary g c = record {
  ok = failed_ok _ _ c.from_residual.result c.from_residual.ensures.1;
  only = λ x there.
      each_until (IsTold c.args.at) c.args.callers.now c.loop-caller.caller-index Starter c.loop-caller-test.true x
      (c.in_err-send_summary.ensures.only x there) (c.loop-caller.invariant.0.only x);
  answered = c.in_err-send_summary.ensures.answered ∙ c.loop-caller.invariant.1;
}

pub returns : goal.returns
returns g c =
    let gives = gives_all (IsTold c.args.at) c.args.callers.now c.loop-caller.caller-index _ _ c.loop-caller.invariant.0
    (omega (arith, c.loop-caller-test.false, c.loop-caller.auto.caller-index-end)) in
    record { ok = gives; only = gives.only; answered = c.loop-caller.invariant.1 }
