use Rattle.std.proofs.Common.{◌≡◌, sym, ap, ◌∙◌}
use Rattle.std.proofs.lemmas.Option.{same_Some}
use Rattle.summaries.specs.Calls.{sites_of}
use Rattle.summaries.specs.KnownCalls.{sites_if_any}
use Rattle.summaries.proofs.AddLemmas.{same_call}
use Rattle.groups.proofs.GroupLemmas.{key_at, no_key}
use Rattle.summaries.proofs.calls.Calls.sites_at.Goals as goal

pub returns-in-Some : goal.returns-in-Some
returns-in-Some g c = λ k (known, here, same).
    let entries = c.args.self.now.by_key.entries in
    let key = c.in-Some.field-0-0.now in
    let at_key = key_at entries c.args.at (key, c.in-Some.known.now) (sym c.in-Some.ensures.entry) in
    let is : k ≡ key = same_call k known same ∙ same_Some known key (sym here ∙ at_key) in
    c.as_slice.ensures ∙ ap sites_if_any (sym c.in-Some.ensures.value) ∙ ap (sites_of c.args.self.now) (sym is)

pub returns-in-None : goal.returns-in-None
returns-in-None g c = λ k (known, here, same).
    absurd (no_key c.args.self.now.by_key.entries c.args.at known (sym c.in-None.ensures.entry) here)
