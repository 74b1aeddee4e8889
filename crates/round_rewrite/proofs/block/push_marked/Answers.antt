use Rattle.round_rewrite.proofs.AppendLemmas.{lays_pushed}
use Rattle.round_rewrite.proofs.block.push_marked.Goals as goal

pub returns : goal.returns
returns g c = lays_pushed c.args.into.now.items (record { label = c.args.label; at = c.args.at; core = c.args.core })
    c.in_ok-put.ensures
