use Rattle.std.proofs.Common.{refl, arith}
use Rattle.flow_graph.specs.Flows.{last_of}
use Rattle.summaries.specs.Grows.{IsOther}
use Rattle.summaries.proofs.FrontierLemmas.{adds_none, is_last}
use Rattle.summaries.proofs.table.Table.expand_others.Goals as goal

pub returns-then-not-more : goal.returns-then-not-more
returns-then-not-more g c =
    let flow = c.args.flow.now in
    let none = is_last 0 (last_of flow) c.args.more c.requires.others c.if-not-more.true in record {
      adds = adds_none (IsOther flow c.args.edge) _ _ _ (λ t (i, from, most, at). absurd (omega (arith, none, from, most)))
          c.requires.within;
      rest = refl;
    }
