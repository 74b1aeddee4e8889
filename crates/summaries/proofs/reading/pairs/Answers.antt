-- The pairs of all entries are all pairs, each once when they were sorted and the equal ones left out.
use Rattle.std.proofs.Common.{◌↔◌, sym, subst}
use Rattle.language.specs.Lists.{Member}
use Rattle.summaries.specs.Links.{last_links}
use Rattle.summaries.proofs.ReadingLemmas.{deduped}
use Rattle.summaries.proofs.reading.pairs.Goals as goal

pub pairs_by_entry-requires : goal.pairs_by_entry-requires
pairs_by_entry-requires g c = λ known.
    subst (λ l. Member known l ↔ Member known (last_links c.args.exits.now.by_entry.entries)) (sym c.deref.ensures.value)
    (c.in_ok-entries.ensures known)

pub returns-clause-ascend : goal.returns-clause-ascend
returns-clause-ascend g c =
    (deduped c.in_ok-pairs.pairs.items c.sort_unstable.new.self.items c.dedup.new.self.items c.sort_unstable.ensures.permutation
    c.sort_unstable.ensures.sorted c.dedup.ensures.filtered).0

pub returns-clause-pairs : goal.returns-clause-pairs
returns-clause-pairs g c = λ x.
    let (before, after) = (deduped c.in_ok-pairs.pairs.items c.sort_unstable.new.self.items c.dedup.new.self.items
    c.sort_unstable.ensures.permutation c.sort_unstable.ensures.sorted c.dedup.ensures.filtered).1 x in
    let (found, there) = c.in_ok-pairs.ensures x in
    (λ m. found (before m), λ h. after (there h))
