-- A Done that is found is there, and one that is not found is not.
use Rattle.std.proofs.Common.{◌≡◌, ◌≢◌, ◌∙◌, Bool, true, false, not, None, Some}
use Rattle.std.proofs.Common.{slice_get, sym, ap, subst, refl, arith, List, ℕ, nat_eq, ltb}
use Rattle.std.specs.Prelude.{IsTrue, ◌↔◌, ◌<◌, length}
use Rattle.std.specs.List.{list_any}
use Rattle.std.specs.Cmp.{nat_eq_equiv}
use Rattle.std.proofs.lemmas.Bool.{eqb-true, false≢true, ltb-true}
use Rattle.std.proofs.lemmas.Map.Views.{Contains-from_any, list_any-from_Contains}
use Rattle.std.proofs.lemmas.Option.{none-some, same_Some}
use Rattle.post_ledger.specs.declared.event.Event.{Event}
use Rattle.post_ledger.specs.declared.event.Event.TheVariants.{Done, Take}
use Rattle.post_ledger.specs.History.{posts, takes, dones, MayFollow}
use Rattle.post_ledger.proofs.legality.may_follow.Goals as goal

-- a take that is early enough may be completed if and only if no Done names it
open_or_not : {M : Type 0} (h : List (Event M)) (q : ℕ) (found : Bool) → q < length (takes h) → found ≡ list_any (nat_eq q) (dones h)
    → IsTrue (not found) ↔ MayFollow h (Done q)
open_or_not h q true old is = (λ never. absurd (false≢true never), λ may. absurd (may.1 (Contains-from_any eqb-true q (dones h) (sym is))))
open_or_not h q false old is =
    (λ yes. (old, λ there. false≢true (is ∙ list_any-from_Contains nat_eq_equiv q (dones h) there)), λ may. refl)

-- a Take is refused where the Post with its number is of another sender, or is not there
other_sender : {M : Type 0} (h : List (Event M)) (n from sender : ℕ) (posted message : M) → length (takes h) ≡ n
    → Some (from, posted) ≡ slice_get (posts h) n → from ≢ sender → IsTrue (nat_eq from sender) ↔ MayFollow h (Take sender message)
other_sender h n from sender posted message counted is ne = (
  λ yes. absurd (ne (eqb-true from sender yes)),
  λ may. absurd (ne (ap (λ p. p.0) (same_Some (from, posted) (sender, message) (is ∙ ap (slice_get (posts h)) (sym counted) ∙ may)))),
)

not_there : {M : Type 0} (h : List (Event M)) (n sender : ℕ) (message : M) → length (takes h) ≡ n → None ≡ slice_get (posts h) n
    → IsTrue false ↔ MayFollow h (Take sender message)
not_there h n sender message counted is = (
  λ never. absurd (false≢true never),
  λ may. absurd (none-some (sender, message) (is ∙ ap (slice_get (posts h)) (sym counted) ∙ may)),
)

pub returns-then-take-taken : goal.returns-then-take-taken
returns-then-take-taken g c =
    subst (λ e. IsTrue (not c.names_done-completed.result) ↔ MayFollow c.args.before.now e) (sym c.in-Done.is)
    (open_or_not c.args.before.now c.in-Done.take c.names_done-completed.result
    (omega (arith, c.requires.counted)) c.names_done-completed.ensures)

pub returns-in-Post : goal.returns-in-Post
returns-in-Post g c =
    subst (λ e. IsTrue true ↔ MayFollow c.args.before.now e) (sym c.in-Post.is) (λ yes. tt, λ may. refl)

pub returns-else-take-taken : goal.returns-else-take-taken
returns-else-take-taken g c =
    let late = c.if-take-taken.false in
    let counted = c.requires.counted in
    subst (λ e. IsTrue (ltb c.in-Done.take c.args.taken) ↔ MayFollow c.args.before.now e) (sym c.in-Done.is)
    (λ yes. absurd (omega (arith, ltb-true c.in-Done.take c.args.taken yes, late)), λ may. absurd (omega (arith, may.0, late, counted)))

pub returns-else-from-sender : goal.returns-else-from-sender
returns-else-from-sender g c =
    let s = c.in-Some in
    let t = c.in-Take in
    subst (λ e. IsTrue (nat_eq s.from t.sender) ↔ MayFollow c.args.before.now e) (sym t.is)
    (other_sender c.args.before.now c.args.taken s.from t.sender s.posted t.message c.requires.counted s.ensures c.if-from-sender.false)

pub returns-in-None : goal.returns-in-None
returns-in-None g c =
    let t = c.in-Take in
    subst (λ e. IsTrue false ↔ MayFollow c.args.before.now e) (sym t.is)
    (not_there c.args.before.now c.args.taken t.sender t.message c.requires.counted (sym c.in-None.is ∙ c.post_numbered.ensures))
