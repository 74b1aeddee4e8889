-- One more pair is split; at the end all are.
use Rattle.std.proofs.Common.{◌++◌, ◌∷◌, [], map, sym, ap, ◌∙◌, arith}
use Rattle.std.proofs.lemmas.List.{map-append}
use Rattle.std.specs.Vec.Iter.{into_iter_items}
use Rattle.jobs.specs.Jobs.{first_of, second_of}
use Rattle.jobs.proofs.ResultLemmas.{come}
use Rattle.gather.proofs.crew.split_into.Goals as goal

pub loop-result-preserved : goal.loop-result-preserved
loop-result-preserved g c =
    let i = c.loop-result.invariant in
    let one = c.in-Some.result in
    let yielded = c.loop-result.yielded in (
      come yielded (into_iter_items c.loop-result.result-iterator) (into_iter_items c.next.new.self) c.args.results.items one i.0
          c.in-Some.ensures.steps.0,
      c.push_reserved.ensures.items ∙ ap (λ l. l ++ c.returned-first.result.0 ∷ []) i.1
          ∙ (ap (λ x. map first_of yielded ++ x.0 ∷ []) c.returned-first.ensures ∙ sym (map-append first_of yielded (one ∷ []))),
      c.push_reserved-in-loop-result.ensures.items ∙ ap (λ l. l ++ c.returned-first.result.1 ∷ []) i.2
          ∙ (ap (λ x. map second_of yielded ++ x.1 ∷ []) c.returned-first.ensures ∙ sym (map-append second_of yielded (one ∷ []))),
      omega (arith, i.3, c.push_reserved.ensures.capacity),
      omega (arith, i.4, c.push_reserved-in-loop-result.ensures.capacity),
    )
