-- What is kept is of the pair's entry, and so is the link.
use Rattle.std.proofs.Common.{ℕ, slice_get, ap, ◌∙◌}
use Rattle.std.specs.Map.{keys_of}
use Rattle.indexmap.specs.IndexMap.{keys}
use Rattle.flow_graph.specs.declared.exit.Exit.{Exit}
use Rattle.summaries.specs.Found.{left}
use Rattle.summaries.proofs.PairLemmas.{got_pair, read_pair, leads_to}
use Rattle.summaries.proofs.exits.Exits.left_at.Goals as goal

pub returns-clause-left : goal.returns-clause-left
returns-clause-left g c = λ found is.
    let self = c.args.self.now in
    let ps = self.pairs.items in
    let (owner, kept, known) = got_pair (keys self.by_entry) (slice_get (keys_of ps) c.args.at) found is in
    let inside = c.linked.inside in
    let (here, same) =
    read_pair ps c.args.at (inside.pair, inside.before) c.index-linked.result.now c.linked.view_is c.index-linked.ensures
    (owner, left found.b found.r) kept in
    c.left.ensures ∙ ap (λ (k : ℕ × Exit). k.1) same

pub returns-clause-before : goal.returns-clause-before
returns-clause-before g c = λ found is.
    let self = c.args.self.now in
    let ps = self.pairs.items in
    let (owner, kept, known) = got_pair (keys self.by_entry) (slice_get (keys_of ps) c.args.at) found is in
    let b : Exit = left found.b found.r in
    let inside = c.linked.inside in
    let (here, same) =
    read_pair ps c.args.at (inside.pair, inside.before) c.index-linked.result.now c.linked.view_is c.index-linked.ensures
    (owner, b) kept in
    leads_to self owner found.a c.args.at inside.before known (self.linked c.args.at owner b inside.before here)
