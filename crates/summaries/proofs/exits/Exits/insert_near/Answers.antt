-- The pair is added to those of the entry that was found.
use Rattle.std.proofs.Common.{◌≡◌, ◌++◌, ◌∷◌, [], ◌+◌, ◌-◌, ℕ, true, false, Some, nat_eq, length, List, slice_get, sym, ap, ◌∙◌, subst}
use Rattle.std.proofs.Common.{arith}
use Rattle.std.specs.Bool.{OnTrue}
use Rattle.std.specs.List.{IsDistinct}
use Rattle.std.specs.Map.{keys_of}
use Rattle.std.proofs.lemmas.Map.Views.{exact_unsigned_eq}
use Rattle.indexmap.specs.IndexMap.{keys, set_value_at}
use Rattle.language.specs.Lists.{Member}
use Rattle.summaries.specs.declared.known_entry.KnownEntry.{KnownEntry}
use Rattle.summaries.specs.Hashes.{is_one_of, AreReal, HasAllOf, IsLookedUp}
use Rattle.summaries.specs.Links.{owners, IsLink, AreLinked}
use Rattle.summaries.specs.Signatures.{MayHave}
use Rattle.groups.specs.Under.{IsKeyAt}
use Rattle.summaries.proofs.FindingLemmas.{is_member, one_of, not_new, is_new_only, looked_first}
use Rattle.groups.proofs.GroupLemmas.{no_key}
use Rattle.summaries.proofs.HashLemmas.{all_still, seen_after, hashed_after, counted_after, seen_before}
use Rattle.summaries.proofs.LinkLemmas.{owners_with, keys_with, keys_written, links_after, links_same, on_true, on_false}
use Rattle.summaries.proofs.PairLemmas.{pair_known, new_apart, new_free, new_there, new_others}
use Rattle.summaries.proofs.exits.Exits.insert_near.Goals as goal

-- the entry is at the index
stands : (ks : List ℕ) (entry at : ℕ) → IsKeyAt nat_eq ks entry at → slice_get ks at ≡ Some entry
stands ks entry at (known, key, same) = key ∙ ap Some (sym (exact_unsigned_eq entry known same))

pub invariant_of-self-in-Break-branch-4 : goal.invariant_of-self-in-Break-branch-4
invariant_of-self-in-Break-branch-4 g c =
    let mid = c.find.new.self in
    let es = mid.by_entry.entries in
    let after = c.make_room.new.list.items in
    let same : after ≡ mid.pairs.items = c.make_room.ensures.same in
    let (owned, last, linked) = links_same es mid.pairs.items after same mid.owned mid.last mid.linked in
    let real = subst (λ ps. AreReal mid.many.keys (keys_of ps)) (sym same) mid.real in
    let (seen, kept, counted, hashed) = all_still es mid.pairs.items after mid.many.keys mid.many.keys same mid.seen mid.counted mid.hashed
    (looked_first (keys_of after) mid.many.keys real) in
    record { once = mid.once; owned = owned; last = last; linked = linked; seen = seen; real = kept; counted = counted; hashed = hashed }

pub unreachable-requires : goal.unreachable-requires
unreachable-requires g c =
    let mid = c.find.new.self in
    no_key mid.by_entry.entries c.find.new.last c.args.entry (sym c.in_default.ensures.entry)
    (stands (keys mid.by_entry) c.args.entry c.find.new.last c.in_ok-find.ensures.at)

pub is_new-requires-clause-linked : goal.is_new-requires-clause-linked
is_new-requires-clause-linked g c =
    let mid = c.find.new.self in
    subst AreLinked (sym (c.deref.ensures.value ∙ c.make_room.ensures.same)) mid.linked

pub is_new-requires-clause-last : goal.is_new-requires-clause-last
is_new-requires-clause-last g c =
    let mid = c.find.new.self in
    let known = c.in-Some.known.now in
    let same = c.deref.ensures.value ∙ c.make_room.ensures.same in
    let link = mid.last c.find.new.last c.in-Some.field-0-0.now known (sym c.in-Some.ensures.entry) in
    subst (λ ps. IsLink (owners ps) c.in_ok-at.at (length ps) known.last) (sym same)
    (subst (λ m. IsLink (owners mid.pairs.items) m (length mid.pairs.items) known.last) (sym c.in_ok-at.ensures.same) link)

pub is_new-requires-clause-fresh : goal.is_new-requires-clause-fresh
is_new-requires-clause-fresh g c =
    let mid = c.find.new.self in
    let known = c.in-Some.known.now in
    let same = c.deref.ensures.value ∙ c.make_room.ensures.same in
    let fresh = seen_before (keys_of mid.pairs.items) (c.find.new.last, c.args.left) (MayHave known.seen c.args.left) c.add-fresh.result
    c.add-fresh.ensures.new (mid.seen c.find.new.last c.in-Some.field-0-0.now known c.args.left (sym c.in-Some.ensures.entry)) in
    subst (λ ps. OnTrue c.add-fresh.result (is_one_of (keys_of ps) (c.in_ok-at.at, c.args.left) ≡ false)) (sym same)
    (subst (λ m. OnTrue c.add-fresh.result (is_one_of (keys_of mid.pairs.items) (m, c.args.left) ≡ false)) (sym c.in_ok-at.ensures.same) fresh)

pub is_new-requires-clause-hashed : goal.is_new-requires-clause-hashed
is_new-requires-clause-hashed g c = λ past.
    let mid = c.find.new.self in
    let known = c.in-Some.known.now in
    let same = c.deref.ensures.value ∙ c.make_room.ensures.same in
    subst (λ ps. HasAllOf mid.many.keys (keys_of ps) c.in_ok-at.at) (sym same)
    (subst (HasAllOf mid.many.keys (keys_of mid.pairs.items)) (sym c.in_ok-at.ensures.same)
    (mid.hashed c.find.new.last c.in-Some.field-0-0.now known (sym c.in-Some.ensures.entry) past))

pub invariant_of-self-in-Break-branch-5 : goal.invariant_of-self-in-Break-branch-5
invariant_of-self-in-Break-branch-5 g c =
    let mid = c.find.new.self in
    let es = mid.by_entry.entries in
    let after = c.make_room.new.list.items in
    let same : after ≡ mid.pairs.items = c.make_room.ensures.same in
    let (owned, last, linked) = links_same es mid.pairs.items after same mid.owned mid.last mid.linked in
    let (seen, real, counted, hashed) =
    all_still es mid.pairs.items after mid.many.keys c.is_new.new.many.keys same mid.seen mid.counted mid.hashed
    (subst (λ ps. IsLookedUp (keys_of ps) mid.many.keys c.is_new.new.many.keys) c.deref.ensures.value c.in_err-new.ensures.err) in
    record { once = mid.once; owned = owned; last = last; linked = linked; seen = seen; real = real; counted = counted; hashed = hashed }

pub invariant_of-self-then-not-new : goal.invariant_of-self-then-not-new
invariant_of-self-then-not-new g c =
    let mid = c.find.new.self in
    let es = mid.by_entry.entries in
    let after = c.make_room.new.list.items in
    let same : after ≡ mid.pairs.items = c.make_room.ensures.same in
    let (owned, last, linked) = links_same es mid.pairs.items after same mid.owned mid.last mid.linked in
    let looked = on_false c.in_ok-new.new c.if-not-new.true c.in_ok-new.ensures.known in
    let (seen, real, counted, hashed) =
    all_still es mid.pairs.items after mid.many.keys c.is_new.new.many.keys same mid.seen mid.counted mid.hashed
    (subst (λ ps. IsLookedUp (keys_of ps) mid.many.keys c.is_new.new.many.keys) c.deref.ensures.value looked) in
    record { once = mid.once; owned = owned; last = last; linked = linked; seen = seen; real = real; counted = counted; hashed = hashed }

pub returns-then-not-new-clause-known : goal.returns-then-not-new-clause-known
returns-then-not-new-clause-known g c =
    let mid = c.find.new.self in
    let n = c.find.new.last in
    let same = c.deref.ensures.value ∙ c.make_room.ensures.same in
    let there = not_new (is_one_of (keys_of c.deref.result.now) (c.in_ok-at.at, c.args.left)) c.in_ok-new.new c.in_ok-new.ensures.new
    c.if-not-new.true in
    let its : is_one_of (keys_of mid.pairs.items) (n, c.args.left) ≡ true =
    (λ i. is_one_of (keys_of (sym same i)) (sym c.in_ok-at.ensures.same i, c.args.left)) ∙ there in
    pair_known c.args.self.now mid n c.args.entry c.args.left c.find.ensures.stay
    (stands (keys mid.by_entry) c.args.entry n c.in_ok-find.ensures.at) (is_member (keys_of mid.pairs.items) (n, c.args.left) its)

pub one_more-requires : goal.one_more-requires
one_more-requires g c =
    let mid = c.find.new.self in
    let known = c.in-Some.known.now in
    let is = mid.counted c.find.new.last c.in-Some.field-0-0.now known (sym c.in-Some.ensures.entry) in
    omega (arith, is)

pub invariant_of-self-2 : goal.invariant_of-self-2
invariant_of-self-2 g c =
    let mid = c.find.new.self in
    let es = mid.by_entry.entries in
    let ps = mid.pairs.items in
    let n = c.find.new.last in
    let b = c.args.left in
    let had = c.in-Some.known.now in
    let entry = c.in-Some.field-0-0.now in
    let here = sym c.in-Some.ensures.entry in
    let link = c.in_ok-link.link in
    let has : KnownEntry = record { seen = c.add-fresh.new.self; last = link; count = c.one_more.result } in
    let kept : c.new-pair.result ≡ (n, b) = c.new-pair.ensures ∙ (λ i. (c.in_ok-at.ensures.same i, b)) in
    let after = c.push_reserved.new.self.items in
    let more : after ≡ ps ++ ((n, b), had.last) ∷ [] =
    c.push_reserved.ensures.items ∙ (λ i. c.make_room.ensures.same i ++ (kept i, had.last) ∷ []) in
    let is_link : link ≡ length ps + 1 = c.in_ok-link.ensures.same ∙ ap (λ k. k + 1) (c.len.ensures ∙ mid.pairs.ok.0) in
    let (owned, last, linked) = links_after es ps n entry had b here has after is_link more mid.owned mid.last mid.linked in
    let same = c.deref.ensures.value ∙ c.make_room.ensures.same in
    let keys_more : keys_of after ≡ keys_of ps ++ (n, b) ∷ [] = ap keys_of more ∙ keys_with ps ((n, b), had.last) in
    let looked : IsLookedUp (keys_of ps ++ (n, b) ∷ []) mid.many.keys c.is_new.new.many.keys =
    subst (λ ks. IsLookedUp ks mid.many.keys c.is_new.new.many.keys) (λ i. keys_of (same i) ++ (c.in_ok-at.ensures.same i, b) ∷ [])
    (on_true c.in_ok-new.new c.if-not-new.false c.in_ok-new.ensures.added) in
    record {
      once = subst (IsDistinct nat_eq) (sym (keys_written es n has)) mid.once;
      owned = owned;
      last = last;
      linked = linked;
      seen = seen_after es ps after n entry had has b here keys_more c.add-fresh.ensures.added c.add-fresh.ensures.keeps mid.seen;
      real = subst (AreReal c.is_new.new.many.keys) (sym keys_more) looked.real;
      counted = counted_after es ps after n entry had has b here keys_more c.one_more.ensures
          (ap owners more ∙ owners_with ps ((n, b), had.last)) mid.counted;
      hashed = hashed_after es ps after n entry had has b here keys_more mid.many.keys c.is_new.new.many.keys looked.stay
          (λ past. subst (λ m. HasAllOf c.is_new.new.many.keys (keys_of ps ++ (m, b) ∷ []) m) c.in_ok-at.ensures.same
          (subst (λ ks. HasAllOf c.is_new.new.many.keys (ks ++ (c.in_ok-at.at, b) ∷ []) c.in_ok-at.at) (ap keys_of same)
          (on_true c.in_ok-new.new c.if-not-new.false c.in_ok-new.ensures.all (let is = c.one_more.ensures in omega (arith, is, past)))))
          mid.hashed;
    }

pub returns-clause-new : goal.returns-clause-new
returns-clause-new g c =
    let old = c.args.self.now in
    let mid = c.find.new.self in
    let ps = mid.pairs.items in
    let n = c.find.new.last in
    let b = c.args.left in
    let had = c.in-Some.known.now in
    let link = c.in_ok-link.link in
    let has : KnownEntry = record { seen = c.add-fresh.new.self; last = link; count = c.one_more.result } in
    let stay = c.find.ensures.stay in
    let known = stands (keys mid.by_entry) c.args.entry n c.in_ok-find.ensures.at in
    let place = c.deref.ensures.value ∙ c.make_room.ensures.same in
    let apart : Member (n, b) (keys_of ps) → ⊥ = λ m.
    is_new_only (is_one_of (keys_of c.deref.result.now) (c.in_ok-at.at, b)) c.in_ok-new.new c.in_ok-new.ensures.new c.if-not-new.false
    ((λ i. is_one_of (keys_of (place i)) (c.in_ok-at.ensures.same i, b)) ∙ one_of (keys_of ps) (n, b) m) in
    let es = set_value_at mid.by_entry.entries n has in
    let same = keys_written mid.by_entry.entries n has in
    let kept : c.new-pair.result ≡ (n, b) = c.new-pair.ensures ∙ (λ i. (c.in_ok-at.ensures.same i, b)) in
    let after = c.push_reserved.new.self.items in
    let more : after ≡ ps ++ ((n, b), had.last) ∷ [] =
    c.push_reserved.ensures.items ∙ (λ i. c.make_room.ensures.same i ++ (kept i, had.last) ∷ []) in
    let is_link : link ≡ length ps + 1 = c.in_ok-link.ensures.same ∙ ap (λ k. k + 1) (c.len.ensures ∙ mid.pairs.ok.0) in
    let is : link - 1 ≡ length ps = omega (arith, is_link) in
    record {
      apart = new_apart old mid n c.args.entry b stay known apart es same had.last after more (link - 1) is;
      free = new_free old mid n c.args.entry b stay known apart es same had.last after more (link - 1) is;
      there = new_there old mid n c.args.entry b stay known apart es same had.last after more (link - 1) is;
      others = new_others old mid n c.args.entry b stay known apart es same had.last after more (link - 1) is;
    }

pub overflow_sub-result : goal.overflow_sub-result
overflow_sub-result g c = omega (arith, c.in_ok-link.ensures.same)

pub invariant_of-self : goal.invariant_of-self
invariant_of-self g c =
    let mid = c.find.new.self in
    record {
      once = mid.once;
      owned = mid.owned;
      last = mid.last;
      linked = mid.linked;
      seen = mid.seen;
      real = mid.real;
      counted = mid.counted;
      hashed = mid.hashed;
    }
