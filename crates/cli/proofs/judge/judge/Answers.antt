-- What the cause is reported as is a refusal that stands.
use Rattle.std.proofs.Common.{ℕ, List, Some, inl, refl, subst, sym}
use Rattle.language.specs.Tree.{Tree}
use Rattle.syntax.specs.Text.{Text}
use Rattle.checked.specs.Checked.{IsChecked}
use Rattle.checked.specs.Programs.{checked_tree}
use Rattle.round_rewrite.specs.Programs.{count_of}
use Rattle.path_sets.specs.EdgeLimits.{most_of}
use Rattle.gather.specs.Reports.{IsNoReport}
use Rattle.summaries.specs.declared.no_verdict.NoVerdict.{NoVerdict}
use Rattle.summaries.specs.declared.no_verdict.NoVerdict.TheVariants as cause
use Rattle.refusals.specs.declared.refusal.Refusal.{Refusal}
use Rattle.cli.specs.Refused.{IsToldAs, RefusalStands}
use Rattle.cli.proofs.judge.judge.Goals as goal

stands : (text : List ℕ) (t : Tree) (rounds most : ℕ) (why : NoVerdict) (refusal : Refusal) → Text text t → IsChecked t
    → IsNoReport t rounds most why → IsToldAs t rounds why refusal → RefusalStands text rounds (Some most) refusal
stands text t rounds most cause.TooWide refusal of checked wider (wide, first, is) =
    subst (RefusalStands text rounds (Some most)) (sym is)
    (t, record { of = of; checked = checked; wider = wider; first = first })
stands text t rounds most cause.Memory refusal of checked narrow is =
    subst (RefusalStands text rounds (Some most)) (sym is) (inl (t, of, checked, narrow))
stands text t rounds most (cause.EdgeLimit q) refusal of checked past is =
    subst (RefusalStands text rounds (Some most)) (sym is) (t, of, checked, (q, past.1, refl))
stands text t rounds most cause.NoWorker refusal of checked narrow is =
    subst (RefusalStands text rounds (Some most)) (sym is) (t, of, checked, narrow)
stands text t rounds most cause.Spent refusal of checked narrow is =
    subst (RefusalStands text rounds (Some most)) (sym is) (t, of, checked, narrow)

pub returns-in-Err-clause-stands : goal.returns-in-Err-clause-stands
returns-in-Err-clause-stands g c = λ text of.
    stands text (checked_tree c.args.program.now) (count_of c.args.rounds) (most_of c.args.edges) c.in-Err.cause
    c.refusal_of.result of c.args.program.now.checked c.in-Err.ensures.none c.refusal_of.ensures
