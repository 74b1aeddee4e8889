-- What a top frame leads to by itself: its moves, its call, and where it comes out of a node from before.
use Rattle.std.proofs.Common.{◌≡◌, ◌⊎◌, ℕ, Bool, true, false, true≢false, List, inl, inr, refl, sym, ap, subst}
use Rattle.flow_graph.specs.declared.graph.Graph.{Graph}
use Rattle.turns.specs.Numbered.{numbered_machine, Failures}
use Rattle.turns.specs.Saturated.{Next, moves, enters, stays, comes_out, goes}
use Rattle.turns.specs.Stacks.{Nodes}
use Rattle.turns.specs.Turn as turn
use Rattle.turns.specs.declared.numbered_frame.NumberedFrame.{NumberedFrame}
use Rattle.saturation.specs.Items.{Found, below_of, item_of}
use Rattle.saturation.specs.Leads.{IsMove, IsCall}
use Rattle.saturation.specs.Work.{IsOut}
use Rattle.saturation.specs.declared.item.Below.{Below}
use Rattle.saturation.specs.declared.item.Below.TheVariants.{Old, Call}
use Rattle.saturation.specs.declared.item.Item.TheVariants.{Head}
use Rattle.saturation.specs.declared.item.Top.{Top}

-- ---- the parts of what is found

abbrev pub globals_at : Found → ℕ
globals_at (turn.head g f b) = g
globals_at (turn.caller g e w b) = g
globals_at (turn.gone g) = g

abbrev pub frame_at : NumberedFrame → Found → NumberedFrame
frame_at d (turn.head g f b) = f
frame_at d (turn.caller g e w b) = e
frame_at d (turn.gone g) = d

abbrev pub waiting_at : NumberedFrame → Found → NumberedFrame
waiting_at d (turn.head g f b) = d
waiting_at d (turn.caller g e w b) = w
waiting_at d (turn.gone g) = d

abbrev pub below_at : Found → turn.Below ℕ ℕ NumberedFrame
below_at (turn.head g f b) = b
below_at (turn.caller g e w b) = b
below_at (turn.gone g) = turn.old 0

abbrev is_old : turn.Below ℕ ℕ NumberedFrame → Bool
is_old (turn.old q) = true
is_old (turn.call g e) = false

abbrev number_in : ℕ → turn.Below ℕ ℕ NumberedFrame → ℕ
number_in n (turn.old q) = q
number_in n (turn.call g e) = n

-- what lies below is a node from before
pub is_old_node : (b : Below) (q : ℕ) → turn.old q ≡ below_of b → b ≡ Old q
is_old_node (Old r) q same = ap Old (sym (ap (number_in 0) same))
is_old_node (Call entry) q same = absurd (true≢false (ap is_old same))

module _ {A : Type 0} (graphs : List (Graph A)) (fails : Failures) (nodes : Nodes ℕ NumberedFrame) (top : Top) where
  abbrev Leads : Found → Type 0
  Leads x = Next (numbered_machine graphs fails) nodes (item_of (Head top)) x

  pub move_next : (x : Found) → IsMove (numbered_machine graphs fails) top x → Leads x
  move_next x (h, k, is, same) = subst Leads (sym same) (moves top.globals top.frame h k (below_of top.below) is)

  pub call_next : (x : Found) → IsCall (numbered_machine graphs fails) top x → Leads x
  call_next x (e, w, is, inl same) = subst Leads (sym same) (enters top.globals top.frame e w (below_of top.below) is)
  call_next x (e, w, is, inr same) = subst Leads (sym same) (stays top.globals top.frame e w (below_of top.below) is)

  pub out_next : (number : ℕ) → top.below ≡ Old number → top.frame.point ≡ 0 → (x : Found)
      → IsOut (numbered_machine graphs fails) nodes top number x → Leads x
  out_next number over exit x (inl (w, r, has, (h, k, is, same))) =
      subst Leads (sym same)
      (subst (λ b. Next (numbered_machine graphs fails) nodes (turn.head top.globals top.frame (below_of b)) (turn.head h k (turn.old r)))
      (sym over)
      (comes_out top.globals top.frame number w r h k has is))
  out_next number over exit x (inr (bare, same)) =
      subst Leads (sym same)
      (subst (λ b. Next (numbered_machine graphs fails) nodes (turn.head top.globals top.frame (below_of b)) (turn.gone top.globals))
      (sym over)
      (goes top.globals top.frame number bare exit))

  -- the one, the other, or the third
  abbrev pub Cases : Found → Type 0
  Cases x = IsMove (numbered_machine graphs fails) top x
      ⊎ (IsCall (numbered_machine graphs fails) top x
      ⊎ ((number : ℕ) × (top.below ≡ Old number) × (top.frame.point ≡ 0) × IsOut (numbered_machine graphs fails) nodes top number x))

  next_is : (y x : Found) → Next (numbered_machine graphs fails) nodes y x → y ≡ item_of (Head top) → Cases x
  next_is _ _ (moves g f h k b is) same =
      let same_g : g ≡ top.globals = ap globals_at same in
      let same_f : f ≡ top.frame = ap (frame_at f) same in
      let same_b : b ≡ below_of top.below = ap below_at same in
      inl (
        h,
        k,
        subst (λ z. (numbered_machine graphs fails).Moves z top.frame h k) same_g
            (subst (λ z. (numbered_machine graphs fails).Moves g z h k) same_f is),
        ap (turn.head h k) same_b,
      )
  next_is _ _ (enters g f e w b is) same =
      let same_g : g ≡ top.globals = ap globals_at same in
      let same_f : f ≡ top.frame = ap (frame_at f) same in
      inr (inl (
        e,
        w,
        subst (λ z. (numbered_machine graphs fails).Calls z top.frame e w) same_g
            (subst (λ z. (numbered_machine graphs fails).Calls g z e w) same_f is),
        inl (ap (λ z. turn.head z e (turn.call z e)) same_g),
      ))
  next_is _ _ (stays g f e w b is) same =
      let same_g : g ≡ top.globals = ap globals_at same in
      let same_f : f ≡ top.frame = ap (frame_at f) same in
      let same_b : b ≡ below_of top.below = ap below_at same in
      inr (inl (
        e,
        w,
        subst (λ z. (numbered_machine graphs fails).Calls z top.frame e w) same_g
            (subst (λ z. (numbered_machine graphs fails).Calls g z e w) same_f is),
        inr (λ i. turn.caller (same_g i) e w (same_b i)),
      ))
  next_is _ _ (comes_out g f q w r h k has is) same =
      let same_g : g ≡ top.globals = ap globals_at same in
      let same_f : f ≡ top.frame = ap (frame_at f) same in
      let same_b : turn.old q ≡ below_of top.below = ap below_at same in
      let is' =
      subst (λ z. (numbered_machine graphs fails).Returns z top.frame w h k) same_g
      (subst (λ z. (numbered_machine graphs fails).Returns g z w h k) same_f is) in
      inr (inr (q, is_old_node top.below q same_b, is'.2, inl (w, r, has, (h, k, is', refl))))
  next_is _ _ (goes g f q bare is) same =
      let same_g : g ≡ top.globals = ap globals_at same in
      let same_f : f ≡ top.frame = ap (frame_at f) same in
      let same_b : turn.old q ≡ below_of top.below = ap below_at same in
      inr (inr (q, is_old_node top.below q same_b, subst (λ (z : NumberedFrame). z.point ≡ 0) same_f is, inr (bare, ap turn.gone same_g)))

  pub next_cases : (x : Found) → Leads x → Cases x
  next_cases x leads = next_is (item_of (Head top)) x leads refl
