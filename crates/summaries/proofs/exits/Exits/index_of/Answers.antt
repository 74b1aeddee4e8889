-- An entry that comes to be there has no pairs.
use Rattle.std.proofs.Common.{◌≡◌, [], ◌∷◌, ◌++◌, ◌⊎◌, inl, inr, None, nat_eq, slice_get, sym, ◌∙◌}
use Rattle.std.specs.Map.{keys_of}
use Rattle.indexmap.specs.IndexMap.{get, keys}
use Rattle.indexmap.proofs.SetLemmas.{inserted_at}
use Rattle.std.proofs.lemmas.List.Quantifiers.{position-Some}
use Rattle.std.proofs.lemmas.Option.{slice_get-get_or}
use Rattle.indexmap.proofs.CallerLemmas.{insert_entry-new}
use Rattle.summaries.proofs.LinkLemmas.{nat_itself, either_way, linked_still, is_none}
use Rattle.summaries.proofs.HashLemmas.{known_still}
use Rattle.summaries.proofs.PairLemmas.{pairs_stay}
use Rattle.summaries.proofs.exits.Exits.index_of.Goals as goal

pub returns-in-Some-clause-at : goal.returns-in-Some-clause-at
returns-in-Some-clause-at g c =
    let ks = keys c.args.self.now.by_entry in
    let (within, same, first) = position-Some (nat_eq c.args.entry) ks c.in-Some.at 0 (sym c.in-Some.ensures.index) in
    (_, slice_get-get_or ks c.in-Some.at 0 within, same)

pub returns-clause-at : goal.returns-clause-at
returns-clause-at g c =
    let es = c.args.self.now.by_entry.entries in
    let (x, here, same) = inserted_at nat_eq nat_itself es c.args.entry _ in
    let told = c.in_ok-at.ensures in
    (x, (λ j. slice_get (keys_of (told.entries j)) (told.index j)) ∙ here, same)

pub invariant_of-self : goal.invariant_of-self
invariant_of-self g c =
    let old = c.args.self.now in
    let told = c.insert_full.ensures in
    let fresh = c.new.result in
    let none : get nat_eq old.by_entry c.args.entry ≡ None =
    is_none (get nat_eq old.by_entry c.args.entry) (sym c.in_default.ensures.found) in
    let after = c.insert_full.new.self.entries in
    let grown : (after ≡ old.by_entry.entries ++ (c.args.entry, fresh) ∷ []) ⊎ (after ≡ old.by_entry.entries) =
    elim (either_way c.insert_full.result told.entries told.err) [
      | inl is ↦ inl (is ∙ insert_entry-new nat_eq old.by_entry c.args.entry fresh none)
      | inr same ↦ inr same
    ] in
    let (owned, last) =
    linked_still old.by_entry.entries after old.pairs.items c.args.entry fresh c.new.ensures.last grown old.owned old.last in
    let (seen, counted, hashed) =
    known_still old.by_entry.entries after old.pairs.items old.many.keys c.args.entry fresh c.new.ensures.count
    old.owned grown old.seen old.counted old.hashed in
    record {
      once = told.unique;
      owned = owned;
      last = last;
      linked = old.linked;
      seen = seen;
      real = old.real;
      counted = counted;
      hashed = hashed;
    }

pub returns-clause-stay : goal.returns-clause-stay
returns-clause-stay g c =
    let old = c.args.self.now in
    let none : get nat_eq old.by_entry c.args.entry ≡ None =
    is_none (get nat_eq old.by_entry c.args.entry) (sym c.in_default.ensures.found) in
    pairs_stay old c.insert_full.new.self.entries c.args.entry c.new.result
    (c.in_ok-at.ensures.entries ∙ insert_entry-new nat_eq old.by_entry c.args.entry c.new.result none)
