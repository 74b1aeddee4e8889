-- What follows from a top frame.
use Rattle.std.proofs.Common.{◌≡◌, ℕ, List, inl, inr, refl, sym, subst}
use Rattle.flow_graph.specs.declared.graph.Graph.{Graph}
use Rattle.turns.specs.Numbered.{numbered_machine, Failures}
use Rattle.turns.specs.Stacks.{Nodes}
use Rattle.turns.specs.declared.numbered_frame.NumberedFrame.{NumberedFrame}
use Rattle.saturation.specs.Items.{Found, Extends}
use Rattle.saturation.specs.Leads.{HaveAll, IsMove, IsCall}
use Rattle.saturation.specs.Work.{Follows, Leaves, LeavesTo}
use Rattle.saturation.specs.declared.calls.Calls.{Calls}
use Rattle.saturation.specs.declared.item.Below.{Below}
use Rattle.saturation.specs.declared.item.Below.TheVariants.{Old, Call}
use Rattle.saturation.specs.declared.item.Item.{Item}
use Rattle.saturation.specs.declared.item.Item.TheVariants.{Head}
use Rattle.saturation.specs.declared.item.Top.{Top}
use Rattle.saturation.proofs.FollowLemmas.{extends_as, extends_then, have_more}
use Rattle.saturation.proofs.NextLemmas.{move_next, call_next, out_next, next_cases}

module _ {A B : Type 0} (graphs : List (Graph A)) (fails : Failures) (nodes : Nodes ℕ NumberedFrame) (met : Calls B) (top : Top) where
  abbrev Move : Found → Type 0
  Move x = IsMove (numbered_machine graphs fails) top x

  abbrev Calling : Found → Type 0
  Calling x = IsCall (numbered_machine graphs fails) top x

  abbrev Leaving : Found → Type 0
  Leaving x = Leaves (numbered_machine graphs fails) nodes met top x

  abbrev Following : Found → Type 0
  Following x = Follows (numbered_machine graphs fails) nodes met (Head top) x

  leaves_follow : top.frame.point ≡ 0 → (b : Below) → top.below ≡ b → (x : Found)
      → LeavesTo (numbered_machine graphs fails) nodes met b top x
      → Following x
  leaves_follow exit (Old number) over x is = inl (out_next graphs fails nodes top number over exit x is)
  leaves_follow exit (Call entry) over x is = inr (entry, over, is)

  -- moves and a call are added, or a part of them
  pub moves_only : (xs ys : List Item) → Extends Move xs ys → Extends Following xs ys
  moves_only xs ys moves = extends_as Move Following (λ x is. inl (move_next graphs fails nodes top x is)) xs ys moves

  pub calls_only : (xs ys zs : List Item) → Extends Move xs ys → Extends Calling ys zs → Extends Following xs zs
  calls_only xs ys zs moves calls =
      extends_then Following xs ys zs (moves_only xs ys moves)
      (extends_as Calling Following (λ x is. inl (call_next graphs fails nodes top x is)) ys zs calls)

  pub leaves_only : top.frame.point ≡ 0 → (xs ys zs us : List Item) → Extends Move xs ys → Extends Calling ys zs → Extends Leaving zs us
      → Extends Following xs us
  leaves_only exit xs ys zs us moves calls leaves =
      extends_then Following xs zs us (calls_only xs ys zs moves calls)
      (extends_as Leaving Following (λ x is. leaves_follow exit top.below refl x is) zs us leaves)

  -- all that follows has been added
  pub all_left : (ys zs us : List Item) → HaveAll Move ys → Extends Calling ys zs → HaveAll Calling zs → Extends Leaving zs us
      → HaveAll Leaving us
      → HaveAll Following us
  all_left ys zs us moves calls called leaves left x (inr (entry, over, is)) =
      left x (subst (λ b. LeavesTo (numbered_machine graphs fails) nodes met b top x) (sym over) is)
  all_left ys zs us moves calls called leaves left x (inl next) =
      elim (next_cases graphs fails nodes top x next) [
        | inl move ↦ have_more Move Leaving zs us leaves (have_more Move Calling ys zs calls moves) x move
        | inr (inl call) ↦ have_more Calling Leaving zs us leaves called x call
        | inr (inr (number, over, exit, is)) ↦
            left x (subst (λ b. LeavesTo (numbered_machine graphs fails) nodes met b top x) (sym over) is)
      ]

  pub all_inside : (top.frame.point ≡ 0 → ⊥) → (ys zs : List Item) → HaveAll Move ys → Extends Calling ys zs → HaveAll Calling zs
      → HaveAll Following zs
  all_inside inside ys zs moves calls called x (inr (entry, over, (resting, m, (h, k, returns, same)))) = absurd (inside returns.2)
  all_inside inside ys zs moves calls called x (inl next) =
      elim (next_cases graphs fails nodes top x next) [
        | inl move ↦ have_more Move Calling ys zs calls moves x move
        | inr (inl call) ↦ called x call
        | inr (inr (number, over, exit, is)) ↦ absurd (inside exit)
      ]
