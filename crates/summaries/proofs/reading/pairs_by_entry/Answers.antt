-- The pairs of one more entry are added.
use Rattle.std.proofs.Common.{◌↔◌, ℕ, get_or, subst}
use Rattle.std.proofs.lemmas.List.{take_all}
use Rattle.std.proofs.lemmas.Option.{slice_get-get_or}
use Rattle.language.specs.Lists.{Member}
use Rattle.path_sets.proofs.PlaceLemmas.{at_index}
use Rattle.summaries.specs.Grows.{OfSome}
use Rattle.summaries.specs.Readings.{IsPairOf}
use Rattle.summaries.proofs.WalkLemmas.{entry_leads, all_pairs, more_pairs}
use Rattle.summaries.proofs.reading.pairs_by_entry.Goals as goal

pub add_pairs_of-requires : goal.add_pairs_of-requires
add_pairs_of-requires g c =
    let entries = c.args.entries.now in
    let i = c.loop-entry.entry-index in
    let known : ℕ × ℕ = get_or entries i (0, 0) in
    let there : Member known entries = at_index entries known i (slice_get-get_or entries i (0, 0) c.loop-entry-test.true) in
    entry_leads c.args.exits.now known ((c.requires known).0 there)

pub loop-entry-preserved : goal.loop-entry-preserved
loop-entry-preserved g c =
    more_pairs c.args.exits.now c.args.entries.now c.loop-entry.entry-index c.loop-entry-test.true c.loop-entry.pairs.items
    c.add_pairs_of.new.pairs.items c.loop-entry.invariant c.in_ok-add_pairs_of.ensures

pub returns : goal.returns
returns g c = λ x.
    let exits = c.args.exits.now in
    let entries = c.args.entries.now in
    let (back, there) = subst (λ l. Member x c.loop-entry.pairs.items ↔ OfSome (λ (known : ℕ × ℕ). IsPairOf exits known.0) l x)
    (take_all c.loop-entry.entry-index entries c.loop-entry-test.false) (c.loop-entry.invariant x) in
    let (found, all) = all_pairs exits entries c.requires x in
    (λ m. found (back m), λ h. there (all h))
