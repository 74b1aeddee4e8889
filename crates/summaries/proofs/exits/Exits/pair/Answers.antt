-- What is kept, with the entry at its index.
use Rattle.std.proofs.Common.{◌≡◌, ℕ, Some, slice_get, sym, ap, ◌∙◌}
use Rattle.std.proofs.lemmas.Option.{same_Some}
use Rattle.std.specs.Map.{keys_of}
use Rattle.indexmap.specs.IndexMap.{keys}
use Rattle.flow_graph.specs.declared.exit.Exit.{Exit}
use Rattle.summaries.specs.Exits.{pair}
use Rattle.summaries.specs.Found.{left}
use Rattle.groups.proofs.GroupLemmas.{key_at, no_key}
use Rattle.summaries.proofs.PairLemmas.{got_pair, read_pair}
use Rattle.summaries.proofs.exits.Exits.pair.Goals as goal

pub unreachable-requires : goal.unreachable-requires
unreachable-requires g c =
    let self = c.args.self.now in
    let ps = self.pairs.items in
    let (found, is) = c.requires in
    let (owner, kept, known) = got_pair (keys self.by_entry) (slice_get (keys_of ps) c.args.at) found is in
    let inside = c.linked.inside in
    let (here, same) = read_pair ps c.args.at (inside.pair, inside.before) c.index-linked.result.now c.linked.view_is
    c.index-linked.ensures (owner, left found.b found.r) kept in
    let none = c.in_default.ensures.entry ∙ ap (λ l. slice_get l c.entry.result) c.as_slice-entries.ensures.entries
    ∙ ap (slice_get self.by_entry.entries) (c.entry.ensures ∙ ap (λ (k : ℕ × Exit). k.0) same) in
    no_key self.by_entry.entries owner found.a (sym none) known

pub returns : goal.returns
returns g c =
    let self = c.args.self.now in
    let ps = self.pairs.items in
    let (found, is) = c.requires in
    let (owner, kept, known) = got_pair (keys self.by_entry) (slice_get (keys_of ps) c.args.at) found is in
    let inside = c.linked.inside in
    let (here, same) = read_pair ps c.args.at (inside.pair, inside.before) c.index-linked.result.now c.linked.view_is
    c.index-linked.ensures (owner, left found.b found.r) kept in
    let there = c.in-Some.ensures.entry ∙ ap (λ l. slice_get l c.entry.result) c.as_slice-entries.ensures.entries
    ∙ ap (slice_get self.by_entry.entries) (c.entry.ensures ∙ ap (λ (k : ℕ × Exit). k.0) same) in
    let own = same_Some c.in-Some.entry.now found.a
    (sym (key_at self.by_entry.entries owner (c.in-Some.entry.now, c.in-Some.field-0-1.now) (sym there)) ∙ known) in
    let b : c.left-left.result ≡ left found.b found.r = c.left-left.ensures ∙ ap (λ (k : ℕ × Exit). k.1) same in
    is ∙ ap Some (λ i. pair (sym own i) (sym b i))
