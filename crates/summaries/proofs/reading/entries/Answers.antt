-- The entries, each once, are sorted.
use Rattle.std.proofs.Common.{◌≡◌, ◌≤◌, ◌<◌, ◌+◌, ◌∷◌, [], ◌++◌, ℕ, Bool, not, cond, nat_eq, length, take, get_or, sym, ap, ◌∙◌, subst}
use Rattle.std.proofs.Common.{arith}
use Rattle.std.specs.List.{filter, IsDistinct}
use Rattle.std.proofs.lemmas.List.{append-nil, take_all}
use Rattle.std.proofs.lemmas.List.Elements.{filter_more}
use Rattle.std.proofs.lemmas.Map.Keys.{IsDistinct-IsPermutation}
use Rattle.std.proofs.lemmas.Option.{get_or_from_slice_get}
use Rattle.indexmap.specs.IndexMap.{keys}
use Rattle.language.specs.Lists.{Member}
use Rattle.groups.specs.Under.{under, values_if_any}
use Rattle.summaries.proofs.SortedLemmas.{has_any, numbers_ascend, nat_eq_flips, same_members, member_filter}
use Rattle.summaries.proofs.SortedLemmas.{distinct_filter}
use Rattle.summaries.proofs.SortedLemmas.{keys_with_values}
use Rattle.groups.proofs.GroupLemmas.{key_at}
use Rattle.summaries.proofs.LinkLemmas.{length_keys}
use Rattle.summaries.proofs.reading.entries.Given.{Over}
use Rattle.summaries.proofs.reading.entries.Goals as goal
use Rattle.summaries.proofs.reading.entries.Goals.{then-not-is_empty+in_ok-append, else-not-is_empty, After-sort_unstable}

pub loop-at-preserved : goal.loop-at-preserved
loop-at-preserved g c =
    let map = c.args.callers.now.by_key in
    let items = keys map in
    let p : ℕ → Bool = λ a. has_any (under nat_eq map a) in
    let i = c.loop-at.at in
    let x = c.in-Some.entry.now in
    let within : i < length items = omega (arith, c.loop-at-test.true, c.len-count.ensures.len, length_keys map.entries) in
    let is : get_or items i 0 ≡ x =
    get_or_from_slice_get items i x 0 (key_at map.entries i (x, c.in-Some.from.now) (sym c.in-Some.ensures.entry)) in
    let test : p x ≡ not c.is_empty.result = ap (λ v. has_any (values_if_any v)) c.in-Some.ensures.value
    ∙ sym (ap not c.is_empty.ensures ∙ ap has_any c.as_slice.ensures) in
    let more : filter p (take (i + 1) items) ≡ filter p (take i items) ++ cond (not c.is_empty.result) (x ∷ []) [] =
    filter_more p items i 0 within ∙ (λ j. filter p (take i items) ++ cond (p (is j)) (is j ∷ []) [])
    ∙ ap (λ b. filter p (take i items) ++ cond b (x ∷ []) []) test in
    elim c.if-not-is_empty.branch [
      | then-not-is_empty+in_ok-append w ↦
          ap (λ v. v.items) w.entries-is ∙ w.in_ok-append.ensures.ok ∙ ap (λ l. l ++ x ∷ []) c.loop-at.invariant
          ∙ sym (more ∙ ap (λ b. filter p (take i items) ++ cond (not b) (x ∷ []) []) w.if-not-is_empty.true)
      | else-not-is_empty w ↦
          ap (λ v. v.items) w.entries-is ∙ c.loop-at.invariant
          ∙ sym
          (more ∙ ap (λ b. filter p (take i items) ++ cond (not b) (x ∷ []) []) w.if-not-is_empty.false
          ∙ append-nil (filter p (take i items)))
    ]

-- the entries are the keys that have callers
all_keys : (g : Over) (c : After-sort_unstable g)
    → c.loop-at.entries.items ≡ filter (λ a. has_any (under nat_eq c.args.callers.now.by_key a)) (keys c.args.callers.now.by_key)
all_keys g c =
    let map = c.args.callers.now.by_key in
    let past : length (keys map) ≤ c.loop-at.at =
    omega (arith, c.loop-at-test.false, c.len-count.ensures.len, length_keys map.entries) in
    c.loop-at.invariant ∙ ap (filter (λ a. has_any (under nat_eq map a))) (take_all c.loop-at.at (keys map) past)

pub returns-clause-ascend : goal.returns-clause-ascend
returns-clause-ascend g c =
    let a = (goal.at.returns-clause-ascend g c).After-sort_unstable in
    let passes : ℕ → Bool = λ a. has_any (under nat_eq c.args.callers.now.by_key a) in
    let once = distinct_filter nat_eq passes (keys c.args.callers.now.by_key) c.len-count.ensures.unique in
    numbers_ascend c.sort_unstable.new.self.items c.sort_unstable.ensures.sorted
    (IsDistinct-IsPermutation nat_eq nat_eq_flips c.loop-at.entries.items c.sort_unstable.new.self.items
    c.sort_unstable.ensures.permutation
    (subst (IsDistinct nat_eq) (sym (all_keys g a)) once))

pub returns-clause-entries : goal.returns-clause-entries
returns-clause-entries g c = λ a.
    let d = (goal.at.returns-clause-entries g c).After-sort_unstable in
    let passes : ℕ → Bool = λ a. has_any (under nat_eq c.args.callers.now.by_key a) in
    let sorted = same_members c.loop-at.entries.items c.sort_unstable.new.self.items c.sort_unstable.ensures.permutation a in
    let kept = member_filter passes a (keys c.args.callers.now.by_key) in
    let valued = keys_with_values a c.args.callers.now.by_key.entries in (
      λ m. valued.0 (kept.0 (subst (Member a) (all_keys g d) (sorted.0 m))),
      λ h. sorted.1 (subst (Member a) (sym (all_keys g d)) (kept.1 (valued.1 h))),
    )
