use Rattle.std.proofs.Common.{◌≡◌, ◌∙◌, sym, None}
use Rattle.diagnostics.specs.Message.{first_foreign}
use Rattle.diagnostics.proofs.message.not_ascii.Goals as goal

pub returns-in-Some : goal.returns-in-Some
returns-in-Some g c = let some = sym c.first_foreign.ensures ∙ c.in-Some.is in rw some c.at_byte.ensures

pub returns-in-None : goal.returns-in-None
returns-in-None g c =
    let none : first_foreign c.args.text.now ≡ None = sym c.first_foreign.ensures ∙ c.in-None.is in
    rw none c.push_some_foreign.ensures
