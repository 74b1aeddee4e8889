-- A rewritten assignment is the assignment in the round's copy, both ways.
use Rattle.std.proofs.Common.{◌≡◌, ℕ, zero, suc, ◌+◌, ◌<◌, ◌≤◌, Bool, false, List, ◌∷◌, ◌++◌, length, map}
use Rattle.std.proofs.Common.{[], ◌*◌, refl, sym, ◌∙◌, ap, subst, ap₂, arith}
use Rattle.std.proofs.lemmas.List.{append-nil}
use Rattle.language.specs.Tree.{var, RightSide, any, assign, one}
use Rattle.language.specs.Value.{Place, global, local, bit, with_bit, AreValues, written_globals, written_locals}
use Rattle.language.specs.Rest.{Code}
use Rattle.language.specs.Step.{Frame, frame, State, state}
use Rattle.round_rewrite.specs.Table.{numbers, no_mark, all_rounds, targets, sides, draws, each, drawing, copy_value, statement}
use Rattle.round_rewrite.specs.Places.{places, is_global}
use Rattle.resolved.specs.Scoped.{PlacesInScope, SidesInScope}
use Rattle.round_rewrite.proofs.LayoutLemmas.{row, bits_of, lay, Moment, turned, unturned, row_long}
use Rattle.round_rewrite.proofs.AssignmentLemmas.{drawn_to, length-drawn, bit-undrawn, picks, Picked, picked, any_are, drawn_writes}
use Rattle.round_rewrite.proofs.AssignmentLemmas.{spread_all, sides_are, sides_back, writes, writes_locals}
use Rattle.round_rewrite.proofs.Plain.{World, PlainAfter}
use Rattle.round_rewrite.proofs.RunLemmas.{Leads, Never, unstep, Later, later_now}
use Rattle.round_rewrite.specs.Limits.{most_rounds}

-- other temporaries, of which those after the first d are as they were
abbrev pub Redrawn : ℕ → List Bool → List Bool → Type 0
Redrawn d tmp tmp' = (length tmp' ≡ length tmp) × ((i : ℕ) → d ≤ i → bit tmp' i ≡ bit tmp i)

-- so are temporaries after a draw
redrawn : (d : ℕ) (ts tmp : List Bool) → Redrawn d tmp (drawn_to d 0 ts tmp)
redrawn d ts tmp = (length-drawn d 0 ts tmp, λ i le. bit-undrawn d 0 ts tmp i (omega arith))

-- the write to a global that waited for the value of a call: the value is in the first temporary
abbrev pub landed : ℕ → ℕ → ℕ → ℕ → Code → Code
landed n last own i t =
    one no_mark (assign (map (λ k. global (k * n + i)) (all_rounds (places n last own) last))
    (map (copy_value (places n last own) last (var (local (own + 0))) (global i)) (all_rounds (places n last own) last))) t

-- this is the assignment of a value that is drawn, without its draw
landed_is : (n last own i : ℕ) (t : Code)
    → landed n last own i t
    ≡ one no_mark (assign (targets (places n last own) last (global i ∷ []) (any ∷ []))
    (sides (places n last own) last 0 (global i ∷ []) (any ∷ []))) t
landed_is n last own i t = ap₂ (λ xs rs. one no_mark (assign xs rs) t) (sym (append-nil _)) (sym (append-nil _))

module _ (w : World) (n last own c : ℕ) (fs : List Frame) (Q : State → Type 0) where
  draw_leads : (X l tmp : List Bool) (d : ℕ) (ts : List Bool) (t : Code) → length l ≡ own
      → AreValues X (l ++ tmp) (each any (numbers 0 d)) ts → Leads w (state X (frame c (l ++ drawn_to d 0 ts tmp) t ∷ fs)) Q
      → Leads w (state X (frame c (l ++ tmp) (drawing (places n last own) last d t) ∷ fs)) Q
  draw_leads X l tmp zero ts t el a h = h
  draw_leads X l tmp (suc d) ts t el a (m, h) =
      let (eg, ell) = drawn_writes X l tmp own (suc d) 0 ts el in (
        suc m,
        (
          ts,
          a,
          subst
              (λ z.
              PlainAfter w m
              (state z (frame c (written_locals (map (λ k. local (own + k)) (numbers 0 (suc d))) ts (l ++ tmp)) t ∷ fs)) Q)
              (sym eg)
              (subst (λ z. PlainAfter w m (state X (frame c z t ∷ fs)) Q) (sym ell) h),
        ),
      )

  -- a run from the draw is one from after it, with some temporaries
  abbrev pub Drew : ℕ → List Bool → List Bool → List Bool → ℕ → Code → Type 0
  Drew N X l tmp d t = (M : ℕ) × (tmp' : List Bool) × (M ≤ N) × Redrawn d tmp tmp'
      × PlainAfter w M (state X (frame c (l ++ tmp') t ∷ fs)) Q

  draw_back : Never Q fs → (N : ℕ) (X l tmp : List Bool) (d : ℕ) (t : Code) → length l ≡ own
      → PlainAfter w N (state X (frame c (l ++ tmp) (drawing (places n last own) last d t) ∷ fs)) Q → Drew N X l tmp d t
  draw_back never N X l tmp zero t el h = (N, tmp, omega arith, (refl, λ i le. refl), h)
  draw_back never N X l tmp (suc d) t el h =
      let (m, e, k) = unstep w Q N X (frame c (l ++ tmp) (drawing (places n last own) last (suc d) t)) fs never h in
      let ts : List Bool = k.0 in
      let (eg, ell) = drawn_writes X l tmp own (suc d) 0 ts el in (
        m,
        drawn_to (suc d) 0 ts tmp,
        omega arith,
        redrawn (suc d) ts tmp,
        subst (λ z. PlainAfter w m (state X (frame c z t ∷ fs)) Q) ell
            (subst
            (λ z.
            PlainAfter w m
            (state z (frame c (written_locals (map (λ k. local (own + k)) (numbers 0 (suc d))) ts (l ++ tmp)) t ∷ fs)) Q) eg k.2),
      )

  module _ (now : Moment n last) (small : last < most_rounds) (l more tmp : List Bool) (el : length l ≡ own) where
    open now use {C, S, q, b, shape, within}

    write_state : (xs : List Place) (rs : List (RightSide Place)) (vs tmp' : List Bool) (t : Code) → AreValues (row C q) (l ++ more) rs vs
        → PlacesInScope n own xs → State
    write_state xs rs vs tmp' t a hx =
        state
        (written_globals (targets (places n last own) last xs rs)
        (spread_all small now own l more tmp' el xs rs vs) (lay C S (bits_of last q false b)))
        (frame c
        (written_locals (targets (places n last own) last xs rs)
        (spread_all small now own l more tmp' el xs rs vs) (l ++ tmp')) t ∷ fs)

    write_is : (xs : List Place) (rs : List (RightSide Place)) (vs tmp' : List Bool) (t : Code) (a : AreValues (row C q) (l ++ more) rs vs)
        (hx : PlacesInScope n own xs)
        → write_state xs rs vs tmp' t a hx
        ≡ state (turned now (written_globals xs vs (row C q))) (frame c (written_locals xs vs l ++ tmp') t ∷ fs)
    unfolding write_state
    write_is xs rs vs tmp' t a hx =
        let eg : written_globals (targets (places n last own) last xs rs)
        (spread_all small now own l more tmp' el xs rs vs) (lay C S (bits_of last q false b))
        ≡ turned now (written_globals xs vs (row C q)) =
        ap
        (written_globals (targets (places n last own) last xs rs)
        (spread_all small now own l more tmp' el xs rs vs)) (sym (unturned now))
        ∙ writes small now own l more tmp' el xs rs vs (row C q) a hx (row_long now) in
        let ell : written_locals (targets (places n last own) last xs rs)
        (spread_all small now own l more tmp' el xs rs vs) (l ++ tmp') ≡ written_locals xs vs l ++ tmp' =
        writes_locals small now own l more tmp' el xs rs vs l a hx el in
        ap₂ (λ x y. state x (frame c y t ∷ fs)) eg ell

    pub assign_leads : (xs : List Place) (rs : List (RightSide Place)) (vs : List Bool) (t : Code) → AreValues (row C q) (l ++ more) rs vs
        → PlacesInScope n own xs → SidesInScope n own rs → draws is_global xs rs ≤ length tmp
        → ((tmp' : List Bool) → Redrawn (draws is_global xs rs) tmp tmp'
        → Leads w (state (turned now (written_globals xs vs (row C q))) (frame c (written_locals xs vs l ++ tmp') t ∷ fs)) Q)
        → Leads w
        (state (lay C S (bits_of last q false b)) (frame c (l ++ tmp) (statement (places n last own) last (assign xs rs) t) ∷ fs)) Q
    unfolding write_state
    assign_leads xs rs vs t a hx hr room k =
        let ts : List Bool = picks xs rs vs in
        let d : ℕ = draws is_global xs rs in
        let tmp' : List Bool = drawn_to d 0 ts tmp in
        let p : Picked 0 xs rs vs tmp' = picked (row C q) (l ++ more) 0 xs rs vs tmp a (omega arith) in
        let r : Leads w (state (turned now (written_globals xs vs (row C q))) (frame c (written_locals xs vs l ++ tmp') t ∷ fs)) Q =
        k tmp' (redrawn d ts tmp) in
        draw_leads (lay C S (bits_of last q false b)) l tmp d ts
        (one no_mark (assign (targets (places n last own) last xs rs) (sides (places n last own) last 0 xs rs)) t) el
        (any_are (lay C S (bits_of last q false b)) (l ++ tmp) (row C q) (l ++ more) 0 xs rs vs a) (
          suc r.0,
          (
            spread_all small now own l more tmp' el xs rs vs,
            are xs rs vs tmp' a p hx hr,
            subst (λ z. PlainAfter w r.0 z Q) (sym (write_is xs rs vs tmp' t a hx)) r.1,
          ),
        )
      where
        are : (xs : List Place) (rs : List (RightSide Place)) (vs tmp' : List Bool) → AreValues (row C q) (l ++ more) rs vs
            → Picked 0 xs rs vs tmp'
            → PlacesInScope n own xs → SidesInScope n own rs
            → AreValues (lay C S (bits_of last q false b)) (l ++ tmp') (sides (places n last own) last 0 xs rs)
            (spread_all small now own l more tmp' el xs rs vs)
        are xs rs vs tmp' a p hx hr = sides_are small now own l more tmp' el 0 xs rs vs a p hx hr

    pub assign_back : Never Q fs → (N : ℕ) (xs : List Place) (rs : List (RightSide Place)) (t : Code) → PlacesInScope n own xs
        → SidesInScope n own rs
        → PlainAfter w N
        (state (lay C S (bits_of last q false b)) (frame c (l ++ tmp) (statement (places n last own) last (assign xs rs) t) ∷ fs)) Q
        → (M : ℕ) × (vs : List Bool) × (tmp' : List Bool) × (M < N) × AreValues (row C q) (l ++ more) rs vs
        × Redrawn (draws is_global xs rs) tmp tmp'
        × PlainAfter w M (state (turned now (written_globals xs vs (row C q))) (frame c (written_locals xs vs l ++ tmp') t ∷ fs)) Q
    unfolding write_state
    assign_back never N xs rs t hx hr h =
        let X : List Bool = lay C S (bits_of last q false b) in
        let rest : Code = one no_mark (assign (targets (places n last own) last xs rs) (sides (places n last own) last 0 xs rs)) t in
        let (M1, tmp', le, et, h1) = draw_back never N X l tmp (draws is_global xs rs) rest el h in
        let (m, e, k) = unstep w Q M1 X (frame c (l ++ tmp') rest) fs never h1 in
        let (vs, a, p, ev) = back xs rs tmp' k.0 hx hr k.1 in (
          m,
          vs,
          tmp',
          omega arith,
          a,
          et,
          subst (λ z. PlainAfter w m z Q) (write_is xs rs vs tmp' t a hx)
              (subst
              (λ ws.
              PlainAfter w m
              (state (written_globals (targets (places n last own) last xs rs) ws X)
              (frame c (written_locals (targets (places n last own) last xs rs) ws (l ++ tmp')) t ∷ fs)) Q) ev k.2),
        )
      where
        back : (xs : List Place) (rs : List (RightSide Place)) (tmp' ws : List Bool) → PlacesInScope n own xs → SidesInScope n own rs
            → AreValues (lay C S (bits_of last q false b)) (l ++ tmp') (sides (places n last own) last 0 xs rs) ws
            → (vs : List Bool) × AreValues (row C q) (l ++ more) rs vs × Picked 0 xs rs vs tmp'
            × (ws ≡ spread_all small now own l more tmp' el xs rs vs)
        back xs rs tmp' ws hx hr a = sides_back small now own l more tmp' el 0 xs rs ws hx hr a

    module _ (i : ℕ) (t : Code) (in_scope : i < n) where
      abbrev one_target : List Place
      one_target = global i ∷ []

      abbrev one_draw : List (RightSide Place)
      one_draw = any ∷ []

      pub landed_leads : Leads w (state (turned now (with_bit (row C q) i (bit tmp 0))) (frame c (l ++ tmp) t ∷ fs)) Q
          → Leads w (state (lay C S (bits_of last q false b)) (frame c (l ++ tmp) (landed n last own i t) ∷ fs)) Q
      unfolding write_state
      landed_leads (k, h) =
          let vs : List Bool = bit tmp 0 ∷ [] in
          let a : AreValues (row C q) (l ++ more) one_draw vs = (tt, tt) in
          let run : PlainAfter w (suc k) (state (lay C S (bits_of last q false b)) (frame c (l ++ tmp)
          (one no_mark
          (assign (targets (places n last own) last one_target one_draw) (sides (places n last own) last 0 one_target one_draw))
          t) ∷ fs)) Q = (
            spread_all small now own l more tmp el one_target one_draw vs,
            sides_are small now own l more tmp el 0 one_target one_draw vs a (refl, tt) (in_scope, tt) (tt, tt),
            subst (λ z. PlainAfter w k z Q) (sym (write_is one_target one_draw vs tmp t a (in_scope, tt))) h,
          ) in (
            suc k,
            subst (λ z. PlainAfter w (suc k) (state (lay C S (bits_of last q false b)) (frame c (l ++ tmp) z ∷ fs)) Q)
                (sym (landed_is n last own i t)) run,
          )

      pub landed_back : Never Q fs → (N : ℕ)
          → PlainAfter w N (state (lay C S (bits_of last q false b)) (frame c (l ++ tmp) (landed n last own i t) ∷ fs)) Q
          → Later w N (state (turned now (with_bit (row C q) i (bit tmp 0))) (frame c (l ++ tmp) t ∷ fs)) Q
      unfolding write_state
      landed_back never N h =
          let X : List Bool = lay C S (bits_of last q false b) in
          let rest : Code =
          one no_mark
          (assign (targets (places n last own) last one_target one_draw) (sides (places n last own) last 0 one_target one_draw)) t
          in
          let h1 : PlainAfter w N (state X (frame c (l ++ tmp) rest ∷ fs)) Q =
          subst (λ z. PlainAfter w N (state X (frame c (l ++ tmp) z ∷ fs)) Q) (landed_is n last own i t) h in
          let (m, e, k) = unstep w Q N X (frame c (l ++ tmp) rest) fs never h1 in
          let (vs, a, p, ev) = sides_back small now own l more tmp el 0 one_target one_draw k.0 (in_scope, tt) (tt, tt) k.1 in
          later_now w Q _ N m e (only vs a p m
          (subst (λ z. PlainAfter w m z Q) (write_is one_target one_draw vs tmp t a (in_scope, tt))
          (subst
          (λ ws.
          PlainAfter w m
          (state (written_globals (targets (places n last own) last one_target one_draw) ws X)
          (frame c (written_locals (targets (places n last own) last one_target one_draw) ws (l ++ tmp)) t ∷ fs)) Q) ev k.2)))
        where
          only : (vs : List Bool) → AreValues (row C q) (l ++ more) one_draw vs → Picked 0 one_target one_draw vs tmp → (m : ℕ)
              → PlainAfter w m
              (state (turned now (written_globals one_target vs (row C q))) (frame c (written_locals one_target vs l ++ tmp) t ∷ fs)) Q
              → PlainAfter w m (state (turned now (with_bit (row C q) i (bit tmp 0))) (frame c (l ++ tmp) t ∷ fs)) Q
          only [] a p m run = absurd a
          only (v ∷ []) a p m run =
              subst (λ z. PlainAfter w m (state (turned now (with_bit (row C q) i z)) (frame c (l ++ tmp) t ∷ fs)) Q) (sym p.0) run
          only (v ∷ u ∷ vs) a p m run = absurd a.1
