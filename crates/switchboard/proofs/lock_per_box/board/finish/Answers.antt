-- After the Done the oldest message is taken out, unless the word says that the board is aborted.
use Rattle.std.proofs.Common.{◌≡◌, ℕ, ◌^◌, ◌<◌, List, [], ◌∷◌, ◌++◌, Option, Some, None, length, sym, ◌∙◌, subst, arith}
use Rattle.post_ledger.specs.declared.event.Event.{Event}
use Rattle.post_ledger.specs.declared.event.Event.TheVariants.{Done}
use Rattle.post_ledger.specs.History.{posts, takes}
use Rattle.switchboard.specs.BoxAnswers.{TookOut, Finished}
use Rattle.switchboard.proofs.lock_per_box.board.finish.Goals as goal

finishes : {M : Type 0} (take found : ℕ) (r : Option (ℕ × M)) (before between after : List (Event M))
    → between ≡ before ++ Done take ∷ [] → TookOut r between after → found < 2 ^ 63 → Finished take found r before after
finishes take found None before between after e t less =
    (t.0 ∙ e, λ _. subst (λ h. length (posts h) ≡ length (takes h)) (sym t.0) t.1)
finishes take found (Some next) before between after e t less = (subst (λ b. TookOut (Some next) b after) e t, less)

pub returns-then-found-ge-ABORTED : goal.returns-then-found-ge-ABORTED
returns-then-found-ge-ABORTED g c = (c.done.ensures, λ less. absurd (omega arith))

pub returns : goal.returns
returns g c = search (finishes, arith)
