use Rattle.std.proofs.Common.{refl}
use Rattle.trees.specs.Trees.{tree_of}
use Rattle.checked.specs.declared.fault.ScopeFault.TheVariants as fault
use Rattle.checked.specs.Faults.{Undeclared, DeclaredTwice, WrongCount, BadThread, BadLabel, Reserved, TooMany}
use Rattle.scopes.proofs.First.{start, next, first_of_all, mapped}
use Rattle.scopes.proofs.checking.first_fault.Goals as goal

pub returns : goal.returns
returns g c =
    let t = tree_of c.args.program.now in
    let undeclared =
    start fault.Undeclared (Undeclared t) 6 (λ n. refl) (λ n. refl) _ _ (mapped fault.Undeclared _ _ c.map-undeclared.ensures.cases)
    c.in_ok-first_undeclared.ensures in
    let through_twice =
    next fault.DeclaredTwice (DeclaredTwice t) 6 (λ n. refl) (λ n. refl) _ _ _ _ (mapped fault.DeclaredTwice _ _ c.map-twice.ensures.cases)
    c.sooner-through_twice.ensures undeclared c.in_ok-first_twice.ensures in
    let through_counts =
    next fault.WrongCount (WrongCount t) 7 (λ n. refl) (λ n. refl) _ _ _ _ (mapped fault.WrongCount _ _ c.map-counts.ensures.cases)
    c.sooner-through_counts.ensures through_twice c.in_ok-first_wrong_count.ensures in
    let through_threads =
    next fault.BadThread (BadThread t) 8 (λ n. refl) (λ n. refl) _ _ _ _ (mapped fault.BadThread _ _ c.map-threads.ensures.cases)
    c.sooner-through_threads.ensures through_counts c.first_bad_thread.ensures in
    let through_labels =
    next fault.BadLabel (BadLabel t) 9 (λ n. refl) (λ n. refl) _ _ _ _ (mapped fault.BadLabel _ _ c.map-labels.ensures.cases)
    c.sooner-through_labels.ensures through_threads c.in_ok-first_bad_label.ensures in
    let through_reserved =
    next fault.Reserved (Reserved t) 10 (λ n. refl) (λ n. refl) _ _ _ _ (mapped fault.Reserved _ _ c.map-reserved.ensures.cases)
    c.sooner-through_reserved.ensures through_labels c.in_ok-first_reserved.ensures in
    let through_many =
    next fault.TooMany (TooMany t) 11 (λ n. refl) (λ n. refl) _ _ _ _ (mapped fault.TooMany _ _ c.map-many.ensures.cases) c.sooner.ensures
    through_reserved c.in_ok-first_too_many.ensures in
    first_of_all t 12 c.sooner.result through_many
