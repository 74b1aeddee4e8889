-- The key at the index is compared.
use Rattle.std.proofs.Common.{◌≡◌, Some, nat_eq, slice_get, true≢false, sym, ap, ◌∙◌}
use Rattle.std.proofs.lemmas.Option.{none-some, same_Some, slice_get-map}
use Rattle.std.specs.Option.{option_map}
use Rattle.indexmap.specs.IndexMap.{keys}
use Rattle.path_sets.proofs.PlaceLemmas.{get_map}
use Rattle.summaries.proofs.exits.Exits.is_at.Goals as goal

pub returns-in-Some : goal.returns-in-Some
returns-in-Some g c =
    let known = c.in-Some.known.now in
    let entry = sym c.in-Some.ensures.entry in
    let here : slice_get (keys c.args.self.now.by_entry) c.args.at ≡ Some known =
    get_map (λ e. e.0) c.args.self.now.by_entry.entries c.args.at (known, c.in-Some.field-0-1.now) entry in (
      λ yes. (known, here, yes),
      λ (other, at, same). ap (nat_eq c.args.entry) (same_Some known other (sym here ∙ at)) ∙ same,
    )

pub returns-in-None : goal.returns-in-None
returns-in-None g c = (
  λ no. absurd (true≢false (sym no)),
  λ (other, at, same).
      absurd (none-some other
      (ap (option_map (λ e. e.0)) c.in-None.ensures.entry ∙ sym (slice_get-map (λ e. e.0) c.args.self.now.by_entry.entries c.args.at)
      ∙ at)),
)
