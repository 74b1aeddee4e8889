-- Where a finished frame leads that is over a node from before.
use Rattle.std.proofs.Common.{◌≡◌, ◌⊎◌, ℕ, true, false, true≢false, Some, List, slice_get, inl, inr, sym, ◌∙◌, subst}
use Rattle.language.specs.Lists.{Member}
use Rattle.turns.specs.Machines.{Machine}
use Rattle.turns.specs.Turn as turn
use Rattle.turns.specs.declared.numbered_frame.NumberedFrame.{NumberedFrame}
use Rattle.stack_sets.specs.Nodes.{by_number, AtNode}
use Rattle.stack_sets.specs.declared.node.Node.{Node}
use Rattle.saturation.specs.Items.{Found, Extends}
use Rattle.saturation.specs.Leads.{HaveAll, IsReturn, OfSome, resting_in}
use Rattle.saturation.specs.Work.{finished_in, IsOut}
use Rattle.saturation.specs.declared.item.Item.{Item}
use Rattle.saturation.specs.declared.item.Top.{Top}
use Rattle.saturation.proofs.FollowLemmas.{have_more}

module _ {A : Type 0} (machine : Machine ℕ NumberedFrame) (nodes : List (Node A)) (top : Top) (number : ℕ) (node : Node A)
    (at : slice_get nodes number ≡ Some node) where
  abbrev Out : Found → Type 0
  Out x = IsOut machine (by_number nodes) top number x

  -- a return to a head of the node
  abbrev pub IsReturned : Found → Type 0
  IsReturned x = OfSome (λ one. IsReturn machine (finished_in top) (resting_in one)) node.heads.items x

  pub returned_out : (x : Found) → IsReturned x → Out x
  returned_out x (one, m, is) =
      inl (one.frame, one.below, subst (λ o. AtNode o (λ n. Member one n.heads.items)) (sym at) m, is)

  pub gone_out : node.bare ≡ true → (x : Found) → x ≡ turn.gone top.globals → Out x
  gone_out bare x is = inr (subst (λ o. AtNode o (λ n. n.bare ≡ true)) (sym at) bare, is)

  -- what leads out of a node that is not bare is a return
  pub out_returned : (x : Found) → Out x → IsReturned x ⊎ ((node.bare ≡ true) × (x ≡ turn.gone top.globals))
  out_returned x (inl (w, r, has, is)) =
      inl (record { frame = w; below = r }, subst (λ o. AtNode o (λ n. Member (record { frame = w; below = r }) n.heads.items)) at has, is)
  out_returned x (inr (bare, is)) = inr (subst (λ o. AtNode o (λ n. n.bare ≡ true)) at bare, is)

  pub all_out : (ys zs : List Item) → HaveAll IsReturned ys → Extends (λ x. x ≡ turn.gone top.globals) ys zs
      → HaveAll (λ x. x ≡ turn.gone top.globals) zs → HaveAll Out zs
  all_out ys zs returned grows gone x out =
      elim (out_returned x out) [
        | inl is ↦ have_more IsReturned (λ x. x ≡ turn.gone top.globals) ys zs grows returned x is
        | inr (bare, is) ↦ gone x is
      ]

  pub all_out_full : node.bare ≡ false → (ys : List Item) → HaveAll IsReturned ys → HaveAll Out ys
  all_out_full full ys returned x out =
      elim (out_returned x out) [ inl is ↦ returned x is | inr (bare, is) ↦ absurd (true≢false (sym bare ∙ full)) ]
