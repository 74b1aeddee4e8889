use Rattle.std.proofs.Common.{◌≡◌, [], ◌∷◌, ◌++◌, sym, ap, ◌∙◌, rules}
use Rattle.indexmap.specs.Entry.{entry_value}
use Rattle.groups.specs.Under.{values_in, values_if_any, under}
use Rattle.groups.proofs.GroupLemmas.{at_error, same_after, added_after, others_after}
use Rattle.groups.proofs.groups.Groups.add.Given.{Over}
use Rattle.groups.proofs.groups.Groups.add.Goals as goal
use Rattle.groups.proofs.groups.Groups.add.Goals.{After-add}

-- the values that the key has
had : (g : Over) (c : After-add g) →
    values_in c.into_mut-values.result.now ≡ under g.K.PartialEq.eq c.args.self.now.by_key c.args.key
had g c = ap values_if_any
    (sym c.into_mut-values.ensures.value ∙ sym (ap entry_value c.in-Occupied.is) ∙ c.in_ok-entry.ensures.value)

pub returns-in_err-add-in-Occupied-clause-err : goal.returns-in_err-add-in-Occupied-clause-err
returns-in_err-add-in-Occupied-clause-err g c =
    at_error c.from_residual-in_err-add-in-Occupied.result
    (same_after g.K.PartialEq.eq values_if_any c.args.self.now.by_key.entries _ c.args.key c.add.new.self (search rules)
    g.met.K.Eq.laws (c.in_err-add-in-Occupied.ensures.err
    ∙ had g (goal.at.returns-in_err-add-in-Occupied-clause-err g c).After-add))

pub returns-in_ok-add-in-Occupied-clause-others : goal.returns-in_ok-add-in-Occupied-clause-others
returns-in_ok-add-in-Occupied-clause-others g c =
    others_after g.K.PartialEq.eq values_if_any c.args.self.now.by_key.entries _ c.args.key c.add.new.self (search rules)

pub returns-in-Vacant-clause-others : goal.returns-in-Vacant-clause-others
returns-in-Vacant-clause-others g c =
    others_after g.K.PartialEq.eq values_if_any c.args.self.now.by_key.entries _ c.args.key c.insert.result.now (search rules)

pub returns-in_ok-add-in-Occupied-clause-added : goal.returns-in_ok-add-in-Occupied-clause-added
returns-in_ok-add-in-Occupied-clause-added g c =
    added_after g.K.PartialEq.eq values_if_any c.args.self.now.by_key.entries _ c.args.key c.add.new.self (search rules)
    (g.met.K.Eq.laws.refl c.args.key) _
    (c.in_ok-add-in-Occupied.ensures.ok ∙ ap (λ vs. vs ++ c.args.value ∷ [])
    (had g (goal.at.returns-in_ok-add-in-Occupied-clause-added g c).After-add))

-- a key that has no entry has no values
none : (g : Over) (c : goal.After-self-in-Vacant-2-1 g) → under g.K.PartialEq.eq c.args.self.now.by_key c.args.key ≡ []
unfolding entry_value
none g c = ap values_if_any (sym c.in_ok-entry.ensures.value ∙ ap entry_value c.in-Vacant.is)

pub returns-in-Vacant-clause-added : goal.returns-in-Vacant-clause-added
returns-in-Vacant-clause-added g c =
    added_after g.K.PartialEq.eq values_if_any c.args.self.now.by_key.entries _ c.args.key c.insert.result.now (search rules)
    (g.met.K.Eq.laws.refl c.args.key) _
    (ap values_in c.insert.ensures.value ∙ c.one.ensures ∙ (λ j. sym (none g c) j ++ c.args.value ∷ []))
