use Rattle.std.proofs.Common.{◌≡◌, Some, None, ap, sym, ◌∙◌, subst, length, refl, rules}
use Rattle.std.specs.Map.{lookup}
use Rattle.indexmap.specs.Entry.{entry_value}
use Rattle.indexmap.specs.IndexMap.{insert_entry, insert_index}
use Rattle.path_sets.specs.Contents.{IsFirstMask}
use Rattle.path_sets.specs.GatheredKeys.{gathered_key, gathered_key_eq}
use Rattle.path_sets.proofs.GatherLemmas.{covers_first, covers_more, covers_same, gathers_first, gathers_known}
use Rattle.path_sets.proofs.GatherLemmas.{gathers_more, keys_first, keys_more, keys_same}
use Rattle.path_sets.proofs.GatherLemmas.{len_first, len_more, no_longer, one_more_not_same, put_at}
use Rattle.std.proofs.lemmas.Bool.{OnTrue_from}
use Rattle.std.proofs.lemmas.Result.{IfOk-from_err}
use Rattle.path_sets.proofs.InsertsLemmas.{at_error}
use Rattle.path_sets.proofs.diagrams.batch.Batch.gather.Given as given
use Rattle.path_sets.proofs.diagrams.batch.Batch.gather.Goals as goal
use Rattle.path_sets.proofs.diagrams.batch.Batch.gather.Goals.{After-add_point, After-from_residual, After-insert}
use Rattle.path_sets.proofs.diagrams.batch.Batch.gather.Goals.{After-saturating_add, After-self-in-Occupied-3-1, After-self-in_default-2-1}

module _ (g : given.Over) (c : After-add_point g) where
  -- the mask that the key had
  had : lookup (gathered_key_eq (gathered_key c.args.diagram c.args.values)) c.args.self.now.masks.entries ≡ Some c.into_mut.result.now
  had =
      ap (λ v. lookup (gathered_key_eq (gathered_key c.args.diagram v)) c.args.self.now.masks.entries) (sym c.new.ensures)
      ∙ sym c.in_ok-entry.ensures.value ∙ ap entry_value c.in-Occupied.is ∙ c.into_mut.ensures.value

  -- the key that is looked up is the one that was given
  same : insert_entry gathered_key_eq c.args.self.now.masks.entries (gathered_key c.args.diagram c.new.result) c.add_point.new.mask
      ≡ insert_entry gathered_key_eq c.args.self.now.masks.entries (gathered_key c.args.diagram c.args.values) c.add_point.new.mask
  same =
      ap (λ v. insert_entry gathered_key_eq c.args.self.now.masks.entries (gathered_key c.args.diagram v) c.add_point.new.mask)
      c.new.ensures

  -- the index is that of the key
  at : c.index-at.result ≡ insert_index gathered_key_eq c.args.self.now.masks (gathered_key c.args.diagram c.args.values)
  at =
      c.index-at.ensures ∙ c.in_ok-entry.ensures.index
      ∙ ap (λ v. insert_index gathered_key_eq c.args.self.now.masks (gathered_key c.args.diagram v)) c.new.ensures

module _ (g : given.Over) (c : After-insert g) where
  -- the key had no mask
  none : lookup (gathered_key_eq (gathered_key c.args.diagram c.args.values)) c.args.self.now.masks.entries ≡ None
  unfolding entry_value
  none =
      ap (λ v. lookup (gathered_key_eq (gathered_key c.args.diagram v)) c.args.self.now.masks.entries) (sym c.new.ensures)
      ∙ sym c.in_ok-entry.ensures.value ∙ ap entry_value c.in-Vacant.is

  -- the key that is put in is the one that was given
  one : insert_entry gathered_key_eq c.args.self.now.masks.entries (gathered_key c.args.diagram c.new.result) c.insert.result.now
      ≡ insert_entry gathered_key_eq c.args.self.now.masks.entries (gathered_key c.args.diagram c.args.values) c.insert.result.now
  one =
      ap (λ v. insert_entry gathered_key_eq c.args.self.now.masks.entries (gathered_key c.args.diagram v) c.insert.result.now)
      c.new.ensures

  -- the index is the one that the key gets
  place : c.index-at.result ≡ insert_index gathered_key_eq c.args.self.now.masks (gathered_key c.args.diagram c.args.values)
  place =
      c.index-at.ensures ∙ c.in_ok-entry.ensures.index
      ∙ ap (λ v. insert_index gathered_key_eq c.args.self.now.masks (gathered_key c.args.diagram v)) c.new.ensures

  -- what is put in is the first mask of the key
  first : IsFirstMask c.args.merged.now (gathered_key c.args.diagram c.args.values) c.args.bit c.insert.result.now
  first =
      subst (IsFirstMask c.args.merged.now (gathered_key c.args.diagram c.args.values) c.args.bit) (sym c.insert.ensures.value)
      c.in-Some.ensures.some

-- the entries after the mask of a known key is changed
marked : (g : given.Over) (c : After-self-in-Occupied-3-1 g) → c.self-in-Occupied-2-1.given.0.entries
    ≡ insert_entry gathered_key_eq c.args.self.now.masks.entries (gathered_key c.args.diagram c.new.result) c.add_point.new.mask
marked g c = search rules

-- the entries after a key is put in
begun : (g : given.Over) (c : After-saturating_add g) → c.self-in-Vacant-2-1.given.0.entries
    ≡ insert_entry gathered_key_eq c.args.self.now.masks.entries (gathered_key c.args.diagram c.new.result) c.insert.result.now
begun g c = search rules

-- without memory for an entry the entries are as they were
refused : (g : given.Over) (c : After-from_residual g) → c.entry.follows.lender-at-none.entries ≡ c.args.self.now.masks.entries
refused g c = search rules

-- and so they are if the point is known
unchanged : (g : given.Over) (c : After-self-in_default-2-1 g) → c.self-in_default-1.given.0.entries ≡ c.args.self.now.masks.entries
unchanged g c = search rules

pub returns-in-Occupied-clause-ok : goal.returns-in-Occupied-clause-ok
returns-in-Occupied-clause-ok g c =
    let i = (goal.at.returns-in-Occupied-clause-ok g c).After-add_point in
    gathers_more c.requires _ c.add_point.result c.add_point.new.mask (marked g c ∙ same g i) c.into_mut.result.now (had g i)
    c.add_point.ensures

pub returns-in-Occupied-clause-covers : goal.returns-in-Occupied-clause-covers
returns-in-Occupied-clause-covers g c =
    let i = (goal.at.returns-in-Occupied-clause-covers g c).After-add_point in
    covers_more c.requires _ c.add_point.result c.add_point.new.mask (marked g c ∙ same g i) c.into_mut.result.now (had g i)
    c.add_point.ensures

pub returns-in-Occupied-clause-keys : goal.returns-in-Occupied-clause-keys
returns-in-Occupied-clause-keys g c =
    let i = (goal.at.returns-in-Occupied-clause-keys g c).After-add_point in
    keys_more c.requires _ c.add_point.result c.add_point.new.mask (marked g c ∙ same g i) c.into_mut.result.now (had g i)
    c.add_point.ensures

pub returns-in-Some-clause-ok : goal.returns-in-Some-clause-ok
returns-in-Some-clause-ok g c =
    let i = (goal.at.returns-in-Some-clause-ok g c).After-insert in
    gathers_first c.requires _ c.insert.result.now (begun g c ∙ one g i) (none g i) (first g i)

pub returns-in-Some-clause-covers : goal.returns-in-Some-clause-covers
returns-in-Some-clause-covers g c =
    let i = (goal.at.returns-in-Some-clause-covers g c).After-insert in
    covers_first c.requires _ c.insert.result.now (begun g c ∙ one g i) (none g i) (first g i)

pub returns-in-Some-clause-keys : goal.returns-in-Some-clause-keys
returns-in-Some-clause-keys g c =
    let i = (goal.at.returns-in-Some-clause-keys g c).After-insert in
    keys_first c.requires _ c.insert.result.now (begun g c ∙ one g i) (none g i)

pub returns-in-Occupied-clause-place : goal.returns-in-Occupied-clause-place
returns-in-Occupied-clause-place g c =
    let i = (goal.at.returns-in-Occupied-clause-place g c).After-add_point in
    put_at c.args.self.now.masks.entries _ _ c.add_point.new.mask (marked g c ∙ same g i) c.index-at.result (at g i)

pub returns-in-Some-clause-place : goal.returns-in-Some-clause-place
returns-in-Some-clause-place g c =
    let i = (goal.at.returns-in-Some-clause-place g c).After-insert in
    put_at c.args.self.now.masks.entries _ _ c.insert.result.now (begun g c ∙ one g i) c.index-at.result (place g i)

pub returns-in_err-entry-clause-covers : goal.returns-in_err-entry-clause-covers
returns-in_err-entry-clause-covers g c = covers_same c.requires _ (refused g c)

pub returns-in_err-entry-clause-keys : goal.returns-in_err-entry-clause-keys
returns-in_err-entry-clause-keys g c = keys_same c.requires _ (refused g c)

pub returns-in_err-entry-clause-same : goal.returns-in_err-entry-clause-same
returns-in_err-entry-clause-same g c _ = refl

pub returns-in_err-entry-clause-more : goal.returns-in_err-entry-clause-more
returns-in_err-entry-clause-more g c more = absurd (no_longer _ _ (ap length (refused g c)) more)

pub returns-in_default-clause-ok : goal.returns-in_default-clause-ok
returns-in_default-clause-ok g c = gathers_known c.requires _ (unchanged g c) (c.in_default.ensures.none refl)

pub returns-in_default-clause-covers : goal.returns-in_default-clause-covers
returns-in_default-clause-covers g c = covers_same c.requires _ (unchanged g c)

pub returns-in_default-clause-keys : goal.returns-in_default-clause-keys
returns-in_default-clause-keys g c = keys_same c.requires _ (unchanged g c)

pub returns-in_default-clause-same : goal.returns-in_default-clause-same
returns-in_default-clause-same g c _ = refl

pub returns-in_default-clause-more : goal.returns-in_default-clause-more
returns-in_default-clause-more g c more = absurd (no_longer _ _ (ap length (unchanged g c)) more)

pub returns-in-Occupied-clause-same : goal.returns-in-Occupied-clause-same
returns-in-Occupied-clause-same g c _ = refl

pub returns-in-Occupied-clause-more : goal.returns-in-Occupied-clause-more
returns-in-Occupied-clause-more g c more =
    let i = (goal.at.returns-in-Occupied-clause-more g c).After-add_point in
    let same = len_more c.requires _ c.add_point.result c.add_point.new.mask (marked g c ∙ same g i) c.into_mut.result.now (had g i)
    c.add_point.ensures in
    absurd (no_longer _ _ same more)

pub returns-in-Some-clause-same : goal.returns-in-Some-clause-same
returns-in-Some-clause-same g c =
    let i = (goal.at.returns-in-Some-clause-same g c).After-insert in
    one_more_not_same _ _ (len_first c.requires _ c.insert.result.now (begun g c ∙ one g i) (none g i))

pub returns-in-Some-clause-more : goal.returns-in-Some-clause-more
returns-in-Some-clause-more g c _ = c.saturating_add.ensures

pub add_point-requires : goal.add_point-requires
add_point-requires g c = c.requires.small

pub first_mask-requires-clause-diagram : goal.first_mask-requires-clause-diagram
first_mask-requires-clause-diagram g c = c.requires.diagram

pub first_mask-requires-clause-bit : goal.first_mask-requires-clause-bit
first_mask-requires-clause-bit g c = c.requires.small

pub returns-in_err-entry-clause-err : goal.returns-in_err-entry-clause-err
returns-in_err-entry-clause-err g c = at_error c.from_residual.result (refused g c)

pub returns-in-Occupied-clause-known : goal.returns-in-Occupied-clause-known
returns-in-Occupied-clause-known g c = OnTrue_from c.add_point.result _ (λ _. refl)

pub returns-in-Some-clause-known : goal.returns-in-Some-clause-known
returns-in-Some-clause-known g c = refl

pub returns-in_err-entry-clause-ok : goal.returns-in_err-entry-clause-ok
returns-in_err-entry-clause-ok g c = IfOk-from_err c.from_residual.result _ c.from_residual.ensures.0

pub returns-in_err-entry-clause-known : goal.returns-in_err-entry-clause-known
returns-in_err-entry-clause-known g c = IfOk-from_err c.from_residual.result _ c.from_residual.ensures.0

pub invariant_of-self : goal.invariant_of-self
invariant_of-self g c = search rules

pub invariant_of-self-in-Occupied : goal.invariant_of-self-in-Occupied
invariant_of-self-in-Occupied g c = search rules

pub invariant_of-self-in_default : goal.invariant_of-self-in_default
invariant_of-self-in_default g c = search rules

pub invariant_of-self-in-Vacant : goal.invariant_of-self-in-Vacant
invariant_of-self-in-Vacant g c = search rules
