use Rattle.std.proofs.Common.{rules, sym, ◌∙◌, ap}
use Rattle.trees.specs.Trees.{names_of, proc_of, procs_of}
use Rattle.checked.specs.Faults.{Repeated, IsTwiceIn}
use Rattle.resolved.specs.There.{names}
use Rattle.scopes.proofs.Earliest.{found_at_ok}
use Rattle.scopes.proofs.Found.{moved, in_three}
use Rattle.scopes.proofs.Pushed.{behind_none}
use Rattle.scopes.proofs.twice.first_twice.Goals as goal

pub returns : goal.returns
returns g c =
    in_three c.in_ok-first.first c.in_ok-second.second c.in_ok-third.third c.earlier-later.result c.earlier.result
    c.earlier.ensures c.earlier-later.ensures
    (moved (λ l n. Repeated l n) _ _ _
    (sym (behind_none _ names_of c.in_ok-globals.ensures c.new.ensures.items c.deref.ensures.value))
    (rw c.deref-2.ensures.value at c.in_ok-first.ensures))
    (moved (λ l n. Repeated l n) _ _ _
    (sym (c.in_ok-called.ensures ∙ ap (λ l. names (procs_of l)) c.deref-3.ensures.value))
    (rw c.deref-4.ensures.value at c.in_ok-second.ensures))
    (found_at_ok _ _ (λ p n. IsTwiceIn p n) proc_of c.args.program.now.procs.items _ (λ y a k. search rules)
    (rw c.deref-5.ensures.value at c.in_ok-third.ensures))
