use Rattle.std.proofs.Common.{subst}
use Rattle.trees.specs.Trees.{thread_of, threads_of, procs_of}
use Rattle.checked.specs.Faults.{AnyOf, StartsNowhere}
use Rattle.scopes.specs.Find.{Finds}
use Rattle.scopes.proofs.Earliest.{as_found, found_in}
use Rattle.scopes.proofs.threads.first_bad_thread.Goals as goal

pub returns : goal.returns
returns g c =
    subst (λ ps. Finds (λ n. AnyOf (λ line. StartsNowhere (procs_of ps) line n)
    (threads_of c.args.program.now.threads.items)) c.earliest.result)
    c.as_slice-procs.ensures.value
    (found_in _ _ _ thread_of
    c.args.program.now.threads.items _ (λ y a k. search as_found) (rw c.deref.ensures.value at c.earliest.ensures))
