-- The first items of a turn are the heads of its node, and the empty stack if it is bare.
use Rattle.std.proofs.Common.{◌≡◌, ◌⊎◌, ℕ, true, false, true≢false, Some, List, slice_get, inl, inr, refl, sym, ◌∙◌, subst}
use Rattle.language.specs.Lists.{Member}
use Rattle.turns.specs.Saturated.{First, starts, is_gone}
use Rattle.turns.specs.Turn as turn
use Rattle.stack_sets.specs.Nodes.{by_number, AtNode}
use Rattle.stack_sets.specs.declared.node.Node.{Node}
use Rattle.saturation.specs.Items.{Found, Extends}
use Rattle.saturation.specs.Leads.{HaveAll, OfSome}
use Rattle.saturation.specs.Starts.{IsStart}
use Rattle.saturation.specs.declared.item.Item.{Item}
use Rattle.saturation.proofs.FollowLemmas.{have_more}

module _ {A : Type 0} (nodes : List (Node A)) (globals number : ℕ) (node : Node A) (at : slice_get nodes number ≡ Some node) where
  abbrev Starts : Found → Type 0
  Starts x = First (by_number nodes) globals number x

  -- a head of the node
  abbrev pub IsHead : Found → Type 0
  IsHead x = OfSome (IsStart globals) node.heads.items x

  pub head_starts : (x : Found) → IsHead x → Starts x
  head_starts x (one, m, is) =
      subst Starts (sym is) (starts one.frame one.below (subst (λ o. AtNode o (λ n. Member one n.heads.items)) (sym at) m))

  pub gone_starts : node.bare ≡ true → (x : Found) → x ≡ turn.gone globals → Starts x
  gone_starts bare x is = subst Starts (sym is) (is_gone (subst (λ o. AtNode o (λ n. n.bare ≡ true)) (sym at) bare))

  starts_head : (x : Found) → Starts x → IsHead x ⊎ ((node.bare ≡ true) × (x ≡ turn.gone globals))
  starts_head _ (starts f q has) =
      inl (
        record { frame = f; below = q },
        subst (λ o. AtNode o (λ n. Member (record { frame = f; below = q }) n.heads.items)) at has,
        refl,
      )
  starts_head _ (is_gone bare) = inr (subst (λ o. AtNode o (λ n. n.bare ≡ true)) at bare, refl)

  pub all_start : (ys zs : List Item) → HaveAll IsHead ys → Extends (λ x. x ≡ turn.gone globals) ys zs
      → HaveAll (λ x. x ≡ turn.gone globals) zs → HaveAll Starts zs
  all_start ys zs heads grows gone x is =
      elim (starts_head x is) [
        | inl head ↦ have_more IsHead (λ x. x ≡ turn.gone globals) ys zs grows heads x head
        | inr (bare, same) ↦ gone x same
      ]

  pub all_start_full : node.bare ≡ false → (ys : List Item) → HaveAll IsHead ys → HaveAll Starts ys
  all_start_full full ys heads x is =
      elim (starts_head x is) [ inl head ↦ heads x head | inr (bare, same) ↦ absurd (true≢false (sym bare ∙ full)) ]
