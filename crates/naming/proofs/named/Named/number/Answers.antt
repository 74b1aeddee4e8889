use Rattle.std.proofs.Common.{◌≡◌, Bool, true, false, inr, refl, sym, ◌∙◌}
use Rattle.std.specs.Prelude.{not}
use Rattle.std.specs.List.{list_any}
use Rattle.naming.specs.contracts.part.PartPartialEq.TheImpl as derived
use Rattle.naming.proofs.PartLemmas.{not_member, put_behind}
use Rattle.naming.proofs.named.Named.number.Goals as goal

not_true : (b : Bool) → true ≡ not b → b ≡ false
not_true true h = h
not_true false h = refl

pub returns-in_ok-push-clause-adds : goal.returns-in_ok-push-clause-adds
returns-in_ok-push-clause-adds g c =
    let absent = not_true (list_any (derived.eq-value.it c.args.part) c.args.self.now.parts.keys)
    (sym c.if-is_new.true ∙ c.in_ok-index.ensures.added) in
    inr (
      not_member c.args.part c.args.self.now.parts.keys absent,
      put_behind c.args.part c.args.self.now.parts.keys c.insert_full.new.self.keys absent c.in_ok-index.ensures.keys,
      record { bare = false; heads = c.new.result },
      refl,
      c.new.ensures.items,
      c.in_ok-push.ensures.items,
    )
