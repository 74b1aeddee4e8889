use Rattle.std.proofs.Common.{◌≡◌, ◌<◌, ◌++◌, [], ◌∷◌, map, take, sym, ◌∙◌, ap, subst, arith}
use Rattle.language.specs.Sequential.{sequential_of}
use Rattle.trees.specs.Trees.{tree_of}
use Rattle.exploration.proofs.ThreadLemmas.{number_in, number_small, number_read, map_more, threads_are, threads_few}
use Rattle.exploration.proofs.start.thread_procedures.Goals as goal

pub overflow_cast-number : goal.overflow_cast-number
overflow_cast-number g c =
    let is : c.number_of_procedure-number.result ≡ number_in c.program-program.result.now.procs.items c.thread-item.result =
    number_read c.program-program.result.now.procs.items c.as_slice.result.now c.as_str.result.now c.thread-item.result
    c.number_of_procedure-number.result c.number_of_procedure-number.ensures c.as_str.ensures.value c.as_slice.ensures.value in
    let small = number_small c.program-program.result.now _ c.program-program.ensures.checked in
    let less : c.number_of_procedure-number.result < 256 = subst (λ z. z < 256) (sym is) small in
    omega (arith, less)

pub loop-thread-preserved : goal.loop-thread-preserved
loop-thread-preserved g c =
    let is : c.number_of_procedure-number.result ≡ number_in c.program-program.result.now.procs.items c.thread-item.result =
    number_read c.program-program.result.now.procs.items c.as_slice.result.now c.as_str.result.now c.thread-item.result
    c.number_of_procedure-number.result c.number_of_procedure-number.ensures c.as_str.ensures.value c.as_slice.ensures.value in
    let f = number_in c.program-program.result.now.procs.items in
    c.in_ok-push.ensures.items
    ∙ ap (λ z. z ++ c.number_of_procedure-number.result ∷ []) c.loop-thread.invariant
    ∙ ap (λ z. map f (take c.loop-thread.thread-index c.deref-thread-items.result.now) ++ z ∷ []) (is ∙ ap f c.thread-item.is)
    ∙ sym (map_more f c.deref-thread-items.result.now c.loop-thread.thread-index c.thread-item.result c.loop-thread-test.true)

pub returns-clause-threads : goal.returns-clause-threads
returns-clause-threads g c =
    subst (λ z. c.loop-thread.procedures.items ≡ (sequential_of (tree_of z)).threads) c.program-program.ensures.same
    (threads_are c.program-program.result.now c.deref-thread-items.result.now c.loop-thread.thread-index c.loop-thread.procedures.items
    c.loop-thread.invariant c.loop-thread-test.false c.deref-thread-items.ensures.value)

pub returns-clause-few : goal.returns-clause-few
returns-clause-few g c =
    threads_few (tree_of c.program-program.result.now) c.program-program.ensures.checked c.loop-thread.procedures.items
    (threads_are c.program-program.result.now c.deref-thread-items.result.now c.loop-thread.thread-index c.loop-thread.procedures.items
    c.loop-thread.invariant c.loop-thread-test.false c.deref-thread-items.ensures.value)
