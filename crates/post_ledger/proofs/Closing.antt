-- What a legal history with as many Posts as Takes as Dones says of its messages.
use Rattle.std.proofs.Common.{◌≡◌, ◌∙◌, ℕ, zero, suc, ◌<◌, ◌≤◌, Bool, true, false, List, [], ◌∷◌, ◌++◌, length, take, Contains, nat_eq}
use Rattle.std.proofs.Common.{refl, sym, ap, subst, arith}
use Rattle.std.proofs.lemmas.List.{append-nil, length_push, take-append-le}
use Rattle.std.proofs.Math.Seq.{take-length}
use Rattle.std.specs.List.{IsDistinct, list_any}
use Rattle.std.specs.Cmp.{nat_eq_equiv}
use Rattle.std.proofs.lemmas.Bool.{eqb-true, false≢true}
use Rattle.std.proofs.lemmas.Map.Views.{Contains-from_any, list_any-from_Contains}
use Rattle.post_ledger.specs.declared.event.Event.{Event}
use Rattle.post_ledger.specs.declared.event.Event.TheVariants.{Post, Take, Done}
use Rattle.post_ledger.specs.declared.entry.Entry.{Entry}
use Rattle.post_ledger.specs.History.{posts, takes, dones, MayFollow, IsLegal}
use Rattle.post_ledger.specs.Sides.{messages_of, sent, taken}
use Rattle.post_ledger.specs.Orders.{part, IsLawful, IsCompleted, IsClosed}
use Rattle.post_ledger.proofs.Histories.{posts-append, takes-append, split_at_element, element_at}
use Rattle.post_ledger.proofs.Orders.{Sizes, sizes_of, sizes_to, dones_fewer}

module _ {M : Type 0} where
  -- the Takes are the first of the Posts
  abbrev InOrder : List (Event M) → Type 0
  InOrder h = takes h ≡ take (length (takes h)) (posts h)

  in_order_push : (h : List (Event M)) (e : Event M) → Sizes h → InOrder h → MayFollow h e → InOrder (h ++ e ∷ [])
  in_order_push h (Post s m) z same may =
      let t : takes (h ++ Post s m ∷ []) ≡ takes h = takes-append h (Post s m ∷ []) ∙ append-nil (takes h) in
      t ∙ same ∙ sym (take-append-le (length (takes h)) (posts h) ((s, m) ∷ []) z.fewer)
      ∙ ap (take (length (takes h))) (sym (posts-append h (Post s m ∷ [])))
      ∙ ap (λ l. take (length l) (posts (h ++ Post s m ∷ []))) (sym t)
  in_order_push h (Take s m) z same may =
      let t : takes (h ++ Take s m ∷ []) ≡ takes h ++ (s, m) ∷ [] = takes-append h (Take s m ∷ []) in
      let p : posts (h ++ Take s m ∷ []) ≡ posts h = posts-append h (Take s m ∷ []) ∙ append-nil (posts h) in
      let more = (split_at_element (posts h) (length (takes h)) (s, m) may).2 in
      let n : length (takes (h ++ Take s m ∷ [])) ≡ suc (length (takes h)) = ap length t ∙ omega (arith, length_push (takes h) (s, m)) in
      t ∙ ap (λ l. l ++ (s, m) ∷ []) same ∙ sym more ∙ ap (λ k. take k (posts h)) (sym n)
      ∙ ap (take (length (takes (h ++ Take s m ∷ [])))) (sym p)
  in_order_push h (Done q) z same may =
      let t : takes (h ++ Done q ∷ []) ≡ takes h = takes-append h (Done q ∷ []) ∙ append-nil (takes h) in
      let p : posts (h ++ Done q ∷ []) ≡ posts h = posts-append h (Done q ∷ []) ∙ append-nil (posts h) in
      t ∙ same ∙ ap (take (length (takes h))) (sym p) ∙ ap (λ l. take (length l) (posts (h ++ Done q ∷ []))) (sym t)

  in_order_to : (h : List (Event M)) → IsLegal h → (n : ℕ) → n ≤ length h → InOrder (take n h)
  in_order_to h legal zero le = refl
  in_order_to h legal (suc n) le =
      let at = element_at h n (omega arith) in
      let parts = split_at_element h n at.0 at.1 in
      subst InOrder (sym parts.2)
      (in_order_push (take n h) at.0 (sizes_to h legal n (omega arith)) (in_order_to h legal n (omega arith)) (legal n at.0 at.1))

  pub in_order : (h : List (Event M)) → IsLegal h → takes h ≡ take (length (takes h)) (posts h)
  in_order h legal = subst InOrder (take-length h) (in_order_to h legal (length h) (omega arith))

  pub all_taken : (h : List (Event M)) → IsLegal h → IsCompleted h → takes h ≡ posts h
  all_taken h legal completed = in_order h legal ∙ ap (λ n. take n (posts h)) (sym completed.0) ∙ take-length (posts h)

  pub each_taken : (h : List (Event M)) (s : ℕ) → IsLegal h → IsCompleted h → taken s h ≡ sent s h
  each_taken h s legal completed = ap (messages_of s) (all_taken h legal completed)

  found_or_not : (h : List (Event M)) (t : ℕ) (found : Bool) → list_any (nat_eq t) (dones h) ≡ found → Sizes h → IsCompleted h
      → t < length (takes h) → Contains (dones h) t
  found_or_not h t true is z completed old = Contains-from_any eqb-true t (dones h) is
  found_or_not h t false is z completed old =
      let fewer = dones_fewer h t z old (λ there. false≢true (sym is ∙ list_any-from_Contains nat_eq_equiv t (dones h) there)) in
      let all = completed.1 in
      absurd (omega arith)

  pub each_done : (h : List (Event M)) (t : ℕ) → IsLegal h → IsCompleted h → t < length (takes h) → Contains (dones h) t
  each_done h t legal completed old = found_or_not h t (list_any (nat_eq t) (dones h)) refl (sizes_of h legal) completed old

  pub done_once : (h : List (Event M)) → IsLegal h → IsDistinct nat_eq (dones h)
  done_once h legal = (sizes_of h legal).once

  pub board_taken : (boxes : ℕ) (order : List (Entry M)) (q s : ℕ) → IsLawful boxes order → IsClosed order
      → taken s (part q order) ≡ sent s (part q order)
  board_taken boxes order q s law closed = each_taken (part q order) s (law.legal q) (closed q)
