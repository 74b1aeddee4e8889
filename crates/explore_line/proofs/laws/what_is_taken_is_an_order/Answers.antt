-- What was found for words that are accepted has a text for the rounds, which reads as rounds or as none.
use Rattle.std.proofs.Common.{inl, inr}
use Rattle.explore_line.proofs.Accepted.{accepted}
use Rattle.explore_line.proofs.Deciding.{rounds}
use Rattle.explore_line.proofs.laws.what_is_taken_is_an_order.Goals as goal

pub returns : goal.returns
returns c = λ words taken.
    let given = accepted words taken in
    let has = given.5 in
    elim (rounds given.0) [
      | inl r ↦ inl (
        record { rounds = r.0; limit = given.1; stats = given.2 },
        given.3,
        record { taken = taken; orders = (given.0, has, r.1) },
      )
      | inr none ↦ inr (record { taken = taken; text = given.0; found = has.0; none = none })
    ]
