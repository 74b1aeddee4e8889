use Rattle.std.proofs.Common.{◌+◌, ◌++◌, drop, map, refl, sym, ◌∙◌, ap, arith}
use Rattle.trees.specs.declared.tree.Proc.{Proc}
use Rattle.trees.specs.Trees.{name_of}
use Rattle.resolved.specs.Statements.{lent}
use Rattle.scopes.proofs.FirstNames.{names_seen}
use Rattle.scopes.proofs.Pushed.{one_pushed, all_pushed}
use Rattle.scopes.proofs.twice.proc_names.Goals as goal

pub loop-proc-preserved : goal.loop-proc-preserved
loop-proc-preserved g c =
    let i = c.loop-proc.proc-index in
    let procs = c.args.procs.now in
    let seen = λ (p : Proc g.row.A.Denot). name_of p.name in
    let so = ap (λ ns. lent c.loop-proc.list.items ++ ns) (sym (names_seen (drop i procs))) ∙ c.loop-proc.invariant in
    ap (λ ns. lent c.push.new.self.items ++ ns) (names_seen (drop (i + 1) procs))
    ∙ (ap (λ l. lent l ++ map seen (drop (i + 1) procs)) c.in_ok-push.ensures.items
    ∙ one_pushed (λ r. name_of r.now) seen c.loop-proc.list.items _ procs i c.proc-item.result _ (omega arith)
    c.proc-item.is refl so)

pub returns : goal.returns
returns g c =
    let i = c.loop-proc.proc-index in
    let procs = c.args.procs.now in
    let seen = λ (p : Proc g.row.A.Denot). name_of p.name in
    let so = ap (λ ns. lent c.loop-proc.list.items ++ ns) (sym (names_seen (drop i procs))) ∙ c.loop-proc.invariant in
    all_pushed seen (lent c.loop-proc.list.items) procs i _ (omega arith) so
