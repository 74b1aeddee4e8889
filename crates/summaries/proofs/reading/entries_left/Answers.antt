-- The entries, all of them, are sorted.
use Rattle.std.proofs.Common.{◌≡◌, ◌≤◌, ◌<◌, ◌↔◌, ◌∷◌, ◌++◌, [], ℕ, length, Some, slice_get, get_or, sym, ◌∙◌, subst, arith}
use Rattle.std.proofs.lemmas.List.{length-map, take_all, take_more}
use Rattle.std.proofs.lemmas.Option.{get_or_from_slice_get, slice_get_within}
use Rattle.language.specs.Lists.{Member}
use Rattle.path_sets.proofs.PlaceLemmas.{get_map}
use Rattle.summaries.specs.declared.known_entry.KnownEntry.{KnownEntry}
use Rattle.summaries.specs.Links.{last_links}
use Rattle.summaries.proofs.SortedLemmas.{same_members}
use Rattle.summaries.proofs.reading.entries_left.Goals as goal

pub loop-at-preserved : goal.loop-at-preserved
loop-at-preserved g c =
    let es = c.args.exits.now.by_entry.entries in
    let links = last_links es in
    let i = c.loop-at.at in
    let e : ℕ × KnownEntry = (c.in-Some.entry.now, c.in-Some.known.now) in
    let link : ℕ × ℕ = (e.0, e.1.last) in
    let there : slice_get links i ≡ Some link = get_map (λ (e : ℕ × KnownEntry). (e.0, e.1.last)) es i e (sym c.in-Some.ensures.entry) in
    let within : i < length links = slice_get_within links i link there in
    let is : get_or links i (0, 0) ≡ link = get_or_from_slice_get links i link (0, 0) there in
    c.in_ok-append.ensures.ok ∙ (λ j. c.loop-at.invariant j ++ sym is j ∷ []) ∙ sym (take_more links i (0, 0) within)

pub returns : goal.returns
returns g c = λ known.
    let es = c.args.exits.now.by_entry.entries in
    let links = last_links es in
    let same = length-map {B = ℕ × ℕ} es (λ (e : ℕ × KnownEntry). (e.0, e.1.last)) in
    let past : length links ≤ c.loop-at.at = omega (arith, c.loop-at-test.false, c.len-count.ensures.len, same) in
    subst (λ l. Member known c.sort_unstable.new.self.items ↔ Member known l) (c.loop-at.invariant ∙ take_all c.loop-at.at links past)
    (same_members c.loop-at.entries.items c.sort_unstable.new.self.items c.sort_unstable.ensures.permutation known)
