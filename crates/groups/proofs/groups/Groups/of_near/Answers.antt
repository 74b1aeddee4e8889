use Rattle.std.proofs.Common.{refl, sym, ap, ◌∙◌}
use Rattle.std.specs.Map.{lookup}
use Rattle.groups.specs.Under.{values_if_any}
use Rattle.groups.proofs.groups.Groups.of_near.Goals as goal

pub returns-then-eq : goal.returns-then-eq
returns-then-eq g c =
    c.as_slice.ensures
    ∙ sym (ap values_if_any ((λ n. lookup
    (λ x. g.met.K.Eq.laws.congr c.args.key c.in-Some.known.now x (sym c.if-eq.ensures) n) c.args.self.now.by_key.entries)
    ∙ c.in-Some.ensures.value))

pub returns-in-Some-get_full : goal.returns-in-Some-get_full
returns-in-Some-get_full g c = c.as_slice-in-Some-get_full.ensures ∙ ap values_if_any c.in-Some-get_full.ensures.value

pub returns-in-None : goal.returns-in-None
returns-in-None g c = ap values_if_any c.in-None.ensures.value

pub slice_bounds-result-end : goal.slice_bounds-result-end
slice_bounds-result-end g c = refl
