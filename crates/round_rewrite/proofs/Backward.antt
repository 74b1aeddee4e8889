-- A run of the rewritten program from after a prologue begins with a step of the source, or with its failure.
use Rattle.std.proofs.Common.{◌≡◌, ℕ, suc, ◌≤◌, Bool, true, false, cond, List, [], ◌∷◌, length, map}
use Rattle.std.proofs.Common.{Option, Some, None, option_map, slice_get, refl, sym, ◌∙◌, ap, subst, ap₂, arith}
use Rattle.language.specs.Tree.{Expression, const, RightSide, value, skip, assign, assert, assume, goto, leave, call, leave_with, call_for}
use Rattle.language.specs.Tree.{Mark, done, one, choose, loop}
use Rattle.language.specs.Value.{Place, global, bit, with_bit, value_of, values_of, IsValue, AreValues, written_globals, written_locals}
use Rattle.language.specs.Rest.{Label, Code, join, rest_from}
use Rattle.language.specs.Step.{Routine, Frame, frame, State, state, fresh, frame_size, result_of, with_result, given_back}
use Rattle.language.specs.Step.{AtRoutine, AtRest, body_of, StepsTo, Fails}
use Rattle.language.specs.Flow.{caller_frame}
use Rattle.language.proofs.Lengths.{length_values, length_globals, length_locals}
use Rattle.round_rewrite.specs.Table.{no_mark, receiver_draws, draws, temporaries, expression_form, side, prologue, stop_test}
use Rattle.round_rewrite.specs.Places.{places, is_global, stop_at, bad_at}
use Rattle.resolved.specs.Scoped.{AreInScope, SideInScope}
use Rattle.round_rewrite.proofs.LayoutLemmas.{row, bits_of, lay, Moment, globals_at, turned, unturned, row_long, both_with}
use Rattle.round_rewrite.proofs.Translate.{expression_is, expressions_are}
use Rattle.round_rewrite.proofs.AssignmentLemmas.{writes_more}
use Rattle.round_rewrite.proofs.DrawLemmas.{assign_back}
use Rattle.round_rewrite.proofs.Plain.{PlainAfter}
use Rattle.round_rewrite.proofs.RunLemmas.{Never, unstep, Later, later, later_now}
use Rattle.round_rewrite.proofs.Prologue.{stop_back}
use Rattle.round_rewrite.proofs.Frames.{Activation, both, awaiting, entered, given, source_values, put_values, Both, source, Good, AllGood}
use Rattle.round_rewrite.proofs.Frames.{GoodStack, put_rest, inner, behind, put_target, callers, top, site, frame_site, stack, Setting}
use Rattle.round_rewrite.proofs.Frames.{put_routine, source_fresh, put_fresh, source_with, put_given, got, got_back, put_result, put_with}
use Rattle.round_rewrite.proofs.Frames.{resulting, resulting_good, draws_room, takes_room}
use Rattle.round_rewrite.proofs.Forward.{good_with, good_rest, good_awaiting, jump_good, call_good, branch_fits, put_branch, loop_fits}
use Rattle.round_rewrite.proofs.Forward.{put_loop, side_at}

-- two right sides have two values
two_back : (X L : List Bool) (r0 r1 : RightSide Place) (vs : List Bool) → AreValues X L (r0 ∷ r1 ∷ []) vs
    → (x : Bool) × (y : Bool) × (vs ≡ x ∷ y ∷ []) × IsValue X L r0 x × IsValue X L r1 y
two_back X L r0 r1 [] a = absurd a
two_back X L r0 r1 (x ∷ []) a = absurd a.1
two_back X L r0 r1 (x ∷ y ∷ []) a = (x, y, refl, a.0, a.1.0)
two_back X L r0 r1 (x ∷ y ∷ z ∷ vs) a = absurd a.1.1

module _ (setting : Setting) (now : Moment setting.p.globals setting.last) (m : Code) (Q : State → Type 0)
    (single : (g : List Bool) (f f' : Frame) (fs : List Frame) → Q (state g (f ∷ f' ∷ fs)) → ⊥) where
  open setting use {p, last, fits, small, w, isw}
  open now use {C, S, q, b, shape, within}

  -- no frame above the first procedure has the property
  pub never_below : (bs : List Both) → Never Q (callers p last bs m)
  never_below [] = λ g f. single g f (frame 0 [] m) []
  never_below (d ∷ bs) =
      λ g f.
      single g f
      (caller_frame (suc d.c) (put_values d.activation) (put_target p last d.own d.awaits)
      (stop_test (places p.globals last d.own) last (behind p last d.own d.awaits (put_rest p last d.own d.rest))))
      (callers p last bs m)

  abbrev X : List Bool
  X = globals_at now

  -- frames that leave if stop is 1, down to the first procedure, whatever values they have
  pub unwind_back : (c : ℕ) (L : List Bool) (bs : List Both) (q' : ℕ) (b' : Bool) (N : ℕ)
      → PlainAfter w N (state (lay C S (bits_of last q' true b')) (frame c L done ∷ callers p last bs m)) Q
      → Later w N (state (lay C S (bits_of last q' true b')) (frame 0 [] m ∷ [])) Q
  unwind_back c L [] q' b' N h =
      let (k, e, r) = unstep w Q N _ _ _ (never_below []) h in
      later_now w Q _ N k e r
  unwind_back c L (d ∷ bs) q' b' N h =
      let Y : List Bool = lay C S (bits_of last q' true b') in
      let (k, e, r) = unstep w Q N _ _ _ (never_below (d ∷ bs)) h in
      let v : Bool = result_of (w.enters c) L in
      let L' : List Bool = got p last v d in
      let goes_on : Code = behind p last d.own d.awaits (put_rest p last d.own d.rest) in
      let (k2, lt, r2) =
      stop_back w small (frame_site p last C S shape d L' bs m) Q (never_below bs) k q' true b' goes_on
      (subst (λ z. PlainAfter w k z Q) (got_back p last v Y d (stop_test (places p.globals last d.own) last goes_on) (callers p last bs m))
      r) in
      let (k3, lt3, r3) = unwind_back (suc d.c) L' bs q' b' k2 r2 in
      (k3, omega arith, r3)

  -- the last frame leaves if stop is 0
  pub last_back : (a : Activation) (N : ℕ) → PlainAfter w N (state X (top p last a done [] m)) Q
      → Later w N (state X (stack p last [] m)) Q
  last_back a N h =
      let (k, e, r) = unstep w Q N _ _ _ (never_below []) h in
      later_now w Q (state X (stack p last [] m)) N k e r

  -- a frame leaves if stop is 0, and its caller gets the result
  pub pop_back : (a : Activation) → Good p last (both a done) → (d : Both) → Good p last d → (bs : List Both) (N : ℕ)
      → PlainAfter w N (state X (top p last a done (d ∷ bs) m)) Q
      → Later w N
      (state X (top p last (given (bit a.more 0) d.awaits d.activation) (behind p last d.own d.awaits (put_rest p last d.own d.rest)) bs m))
      Q
  pop_back a h d hd bs N run =
      let (k, e, r) = unstep w Q N _ _ _ (never_below (d ∷ bs)) run in
      let v : Bool = bit a.more 0 in
      let d' : Activation = given v d.awaits d.activation in
      let goes_on : Code = behind p last d.own d.awaits (put_rest p last d.own d.rest) in
      let popped : given_back (result_of (w.enters (suc a.c)) (put_values a)) X (callers p last (d ∷ bs) m)
      ≡ state X (top p last d' (stop_test (places p.globals last d.own) last goes_on) bs m) =
      ap (λ v. given_back v X (callers p last (d ∷ bs) m)) (put_result setting (both a done) h)
      ∙ put_given p last v X d.activation d.awaits p.globals (temporaries is_global hd.routine.body)
      (stop_test (places p.globals last d.own) last goes_on) (callers p last bs m) hd.long hd.waits in
      later w Q _ N k e
      (stop_back w small (site p last C S shape d' bs m) Q (never_below bs) k q false b goes_on
      (subst (λ z. PlainAfter w k z Q) popped r))

  -- what a run from after the prologue of a statement begins with
  pub data Begins (N : ℕ) (a : Activation) (rest : Code) (bs : List Both) : Type 0 where
    moved : (g' : List Bool) (bs' : List Both) → length g' ≡ p.globals → GoodStack p last bs'
        → StepsTo p (state (row C q) (frame a.c (source_values a) rest ∷ map source bs)) (λ u. u ≡ state g' (map source bs'))
        → Later w N (state (turned now g') (stack p last bs' m)) Q → Begins N a rest bs
    failed : Fails (state (row C q) (frame a.c (source_values a) rest ∷ map source bs))
        → Later w N (state (lay C S (bits_of last q true true)) (top p last a done bs m)) Q
        → Begins N a rest bs

  -- a step of the source that leaves the globals as they are
  pub moved_here : (N : ℕ) (a : Activation) (rest : Code) (bs bs' : List Both) → GoodStack p last bs'
      → StepsTo p (state (row C q) (frame a.c (source_values a) rest ∷ map source bs)) (λ u. u ≡ state (row C q) (map source bs'))
      → Later w N (state X (stack p last bs' m)) Q → Begins N a rest bs
  moved_here N a rest bs bs' good step r =
      moved (row C q) bs' (row_long now) good step
      (r.0, r.1, subst (λ z. PlainAfter w r.0 (state z (stack p last bs' m)) Q) (sym (unturned now)) r.2)

  -- the value of a rewritten right side is one of the source, in the row of the round
  back_value : (a : Activation) → length a.l ≡ a.own → (r : RightSide Place) → SideInScope p.globals a.own r → (v : Bool)
      → IsValue X (put_values a) (side (places p.globals last a.own) last r) v → IsValue (row C q) (source_values a) r v
  back_value a el r h v is = subst (λ T. T) (side_at setting now m a el r h v) is

  -- a failing assert sets `bad` and `stop`
  fail_writes : (x y : Bool) → x ≡ true → y ≡ true →
      with_bit (with_bit X (bad_at p.globals last) x) (stop_at p.globals last) y ≡ lay C S (bits_of last q true true)
  fail_writes x y ex ey =
      ap₂ (λ u v. with_bit (with_bit X (bad_at p.globals last) u) (stop_at p.globals last) v) ex ey
      ∙ both_with p.globals last C S shape q b

  -- what an assert that does not hold is rewritten to
  fail_code : Code → Code
  fail_code t =
      one no_mark (assign (global (bad_at p.globals last) ∷ global (stop_at p.globals last) ∷ [])
      (value (const true) ∷ value (const true) ∷ []))
      (one no_mark leave t)

  -- what holds after a jump holds a step later
  at_rest_later : (N k : ℕ) (o : Option Code) (F : Code → State) → N ≡ suc k → AtRest o (λ u. PlainAfter w k (F u) Q)
      → AtRest o (λ u. Later w N (F u) Q)
  at_rest_later N k None F e a = absurd a
  at_rest_later N k (Some u) F e a = later_now w Q (F u) N k e a

  -- what holds after a call holds a step later
  at_routine_later : (N k : ℕ) (o : Option Routine) (F : Routine → State) → N ≡ suc k → AtRoutine o (λ u. PlainAfter w k (F u) Q)
      → AtRoutine o (λ u. Later w N (F u) Q)
  at_routine_later N k None F e a = absurd a
  at_routine_later N k (Some u) F e a = later_now w Q (F u) N k e a

  module _ (bs : List Both) (good : AllGood p last bs) where
    -- a run through an assert
    assert_back : (N : ℕ) (a : Activation) (k : Mark Label) (r : RightSide Place) (t : Code) (v : Bool)
        → Good p last (both a (one k (assert r) t))
        → IsValue X (put_values a) (side (places p.globals last a.own) last r) v
        → PlainAfter w N
        (state X
        (top p last a (cond v (one no_mark skip (put_rest p last a.own t)) (fail_code (put_rest p last a.own t))) bs m)) Q
        → Begins N a (one k (assert r) t) bs
    unfolding fail_code
    assert_back N a k r t true h is run =
        let (n1, e1, r1) = unstep w Q N _ _ _ (never_below bs) run in
        moved_here N a (one k (assert r) t) bs (both a t ∷ bs)
        (refl, good_rest p last a (one k (assert r) t) t h h.fits.1, good)
        (back_value a h.long r h.fits.0.0.test true is, refl)
        (later_now w Q _ N n1 e1 r1)
    assert_back N a k r t false h is run =
        let fs : List Frame = callers p last bs m in
        let two : List Place = global (bad_at p.globals last) ∷ global (stop_at p.globals last) ∷ [] in
        let rest : Code = one no_mark leave (put_rest p last a.own t) in
        let (n1, e1, r1) = unstep w Q N _ _ _ (never_below bs) run in
        let (x, y, ex, ix, iy) = two_back X (put_values a) (value (const true)) (value (const true)) r1.0 r1.1 in
        let r2 : PlainAfter w n1 (state (with_bit (with_bit X (bad_at p.globals last) x) (stop_at p.globals last) y)
        (frame (suc a.c) (put_values a) rest ∷ fs)) Q =
        subst
        (λ vs. PlainAfter w n1 (state (written_globals two vs X) (frame (suc a.c) (written_locals two vs (put_values a)) rest ∷ fs)) Q)
        ex
        r1.2 in
        let r3 : PlainAfter w n1 (state (lay C S (bits_of last q true true)) (frame (suc a.c) (put_values a) rest ∷ fs)) Q =
        subst (λ z. PlainAfter w n1 (state z (frame (suc a.c) (put_values a) rest ∷ fs)) Q) (fail_writes x y ix iy) r2 in
        let (n4, e4, r4) = unstep w Q n1 _ _ _ (never_below bs) r3 in
        failed (back_value a h.long r h.fits.0.0.test false is) (n4, omega arith, r4)

    -- a run through a jump
    jump_back : (N : ℕ) (a : Activation) (k : Mark Label) (x : Label) (t : Code) (o : Option Code)
        → (h : Good p last (both a (one k (goto x) t))) → rest_from x h.routine.body done ≡ o
        → AtRest (option_map (put_rest p last a.own) o)
        (λ u. Later w N (state X (top p last a u bs m)) Q)
        → Begins N a (one k (goto x) t) bs
    jump_back N a k x t None h e at = absurd at
    jump_back N a k x t (Some found) h e at =
        let goal : State = state (row C q) (frame a.c (source_values a) found ∷ map source bs) in
        let step : AtRest (rest_from x (body_of (slice_get p.routines a.c)) done)
        (λ u. state (row C q) (frame a.c (source_values a) u ∷ map source bs) ≡ goal) =
        subst
        (λ r. AtRest (rest_from x (body_of r) done) (λ u. state (row C q) (frame a.c (source_values a) u ∷ map source bs) ≡ goal))
        (sym h.there)
        (subst (λ o. AtRest o (λ u. state (row C q) (frame a.c (source_values a) u ∷ map source bs) ≡ goal)) (sym e) refl) in
        moved_here N a (one k (goto x) t) bs (both a found ∷ bs)
        (refl, jump_good p last a (one k (goto x) t) x found fits h e, good) step at

    -- what comes after a call, whose caller is then `d`, in the source
    abbrev called : Both → ℕ → List (Expression Place) → Routine → State
    called d q' es r =
        state (row C q)
        (frame q' (fresh (frame_size r) (values_of (row C q) (source_values d.activation) es)) r.body ∷ source d ∷ map source bs)

    -- the same in the rewritten program
    abbrev called_there : Both → ℕ → List (Expression Place) → Routine → State
    called_there d q' es r =
        let vs : List Bool = values_of X (put_values d.activation) (map (expression_form (places p.globals last d.own) last) es) in
        state X (frame (suc q') (fresh (frame_size r) vs) r.body ∷ callers p last (d ∷ bs) m)

    -- a run through a call
    call_back : (N : ℕ) (a : Activation) (rest : Code) (d : Both) (q' : ℕ) (es : List (Expression Place))
        (o : Option Routine) → slice_get p.routines q' ≡ o → Good p last d → AreInScope p.globals d.own es
        → AtRoutine o (λ r. length es ≤ r.places)
        → ((u : State) → AtRoutine (slice_get p.routines q') (λ r. called d q' es r ≡ u)
        → StepsTo p (state (row C q) (frame a.c (source_values a) rest ∷ map source bs)) (λ v. v ≡ u))
        → AtRoutine (option_map (put_routine p last) o)
        (λ r. Later w N (called_there d q' es r) Q) → Begins N a rest bs
    call_back N a rest d q' es None e h scope short steps at = absurd at
    call_back N a rest d q' es (Some r) e h scope short steps at =
        let vs : List Bool = values_of (row C q) (source_values d.activation) es in
        let lv : length vs ≤ r.places =
        subst (λ k. k ≤ r.places) (sym (length_values (row C q) (source_values d.activation) es)) short in
        let ev : values_of X (put_values d.activation) (map (expression_form (places p.globals last d.own) last) es) ≡ vs =
        expressions_are small now d.own (put_values d.activation) d.l d.tmp d.more refl h.long es scope in
        let goal : State = state (row C q) (map source (entered q' r vs ∷ d ∷ bs)) in
        let here : AtRoutine (slice_get p.routines q') (λ r. called d q' es r ≡ goal) =
        subst (λ o. AtRoutine o (λ r. called d q' es r ≡ goal)) (sym e)
        (ap (λ z. state (row C q) (frame q' z r.body ∷ source d ∷ map source bs)) (source_fresh r vs lv)) in
        moved_here N a rest bs (entered q' r vs ∷ d ∷ bs)
        (refl, call_good p last q' r vs fits e lv, (h, good)) (steps goal here) (
          at.0,
          at.1,
          subst
              (λ z.
              PlainAfter w at.0 (state X (frame (suc q') z (put_rest p last r.places r.body) ∷ callers p last (d ∷ bs) m)) Q)
              (ap (fresh (frame_size (put_routine p last r))) ev ∙ put_fresh p last r vs lv) at.2,
        )

    -- the same, as the rewritten program makes the call
    call_made_back : (N n1 : ℕ) (a : Activation) (rest : Code) (d : Both) (q' : ℕ) (es : List (Expression Place))
        → N ≡ suc n1 → Good p last d → AreInScope p.globals d.own es
        → AtRoutine (slice_get p.routines q') (λ r. length es ≤ r.places)
        → ((u : State) → AtRoutine (slice_get p.routines q') (λ r. called d q' es r ≡ u)
        → StepsTo p (state (row C q) (frame a.c (source_values a) rest ∷ map source bs)) (λ v. v ≡ u))
        → AtRoutine (w.enters (suc q'))
        (λ r. PlainAfter w n1 (called_there d q' es r) Q) → Begins N a rest bs
    call_made_back N n1 a rest d q' es e h scope short steps run =
        call_back N a rest d q' es (slice_get p.routines q') refl h scope short steps
        (at_routine_later N n1 (option_map (put_routine p last) (slice_get p.routines q')) (called_there d q' es) e
        (subst (λ o. AtRoutine o (λ r. PlainAfter w n1 (called_there d q' es r) Q)) (isw.enters_is q') run))

    -- such a run begins with a step of the source, or fails
    pub step_back : (N : ℕ) (a : Activation) (rest : Code) → Good p last (both a rest)
        → put_rest p last a.own rest ≡ prologue (places p.globals last a.own) last no_mark (inner p last a.own rest)
        → PlainAfter w N
        (state X (top p last a (inner p last a.own rest) bs m)) Q
        → Begins N a rest bs
    unfolding fail_code
    step_back N a done h starts run = cc
    step_back N a (one k skip t) h starts run =
        let (n1, e1, r1) = unstep w Q N _ _ _ (never_below bs) run in
        moved_here N a (one k skip t) bs (both a t ∷ bs)
        (refl, good_rest p last a (one k skip t) t h h.fits.1, good) refl (later_now w Q _ N n1 e1 r1)
    step_back N a (one k (assign xs rs) t) h starts run =
        let scope = h.fits.0.0 in
        let room : draws is_global xs rs ≤ temporaries is_global h.routine.body =
        draws_room p.routines p.globals a.own (temporaries is_global h.routine.body) xs rs h.fits.0 in
        let (M, vs, tmp', lt, are, drawn, r) =
        assign_back w p.globals last a.own (suc a.c) (callers p last bs m) Q now small a.l a.more a.tmp h.long (never_below bs) N xs rs
        (put_rest p last a.own t) scope.targets scope.sides run in
        moved (written_globals xs vs (row C q)) (both (record a { l = written_locals xs vs a.l; tmp = tmp' }) t ∷ bs)
        (length_globals xs vs (row C q) ∙ row_long now) (
          refl,
          good_with p last a (written_locals xs vs a.l) tmp' (draws is_global xs rs) (one k (assign xs rs) t) t h
              (length_locals xs vs a.l) drawn room h.fits.1,
          good,
        ) (
          vs,
          are,
          ap (λ z. state (written_globals xs vs (row C q)) (frame a.c z t ∷ map source bs))
              (writes_more p.globals a.own xs vs a.l a.more scope.targets h.long),
        ) (M, lt, r)
    step_back N a (one k (assert r) t) h starts run =
        let (n1, e1, r1) = unstep w Q N _ _ _ (never_below bs) run in
        longer (assert_back n1 a k r t r1.0 h r1.1 (branches r1.0 n1 a t r1.2)) e1
      where
        branches : (v : Bool) (n1 : ℕ) (a : Activation) (t : Code)
            → PlainAfter w n1
            (state X
            (top p last a
            (cond v (join (one no_mark skip done) (put_rest p last a.own t)) (join (fail_code done) (put_rest p last a.own t))) bs m)) Q
            → PlainAfter w n1
            (state X
            (top p last a (cond v (one no_mark skip (put_rest p last a.own t)) (fail_code (put_rest p last a.own t))) bs m)) Q
        branches v n1 a t r = r

        longer : {n1 : ℕ} → Begins n1 a (one k (assert r) t) bs → N ≡ suc n1 → Begins N a (one k (assert r) t) bs
        longer {n1} (moved g' bs' eg good s r) e = moved g' bs' eg good s (later w Q _ N n1 e r)
        longer {n1} (failed f r) e = failed f (later w Q _ N n1 e r)
    step_back N a (one k (assume r) t) h starts run =
        let (n1, e1, r1) = unstep w Q N _ _ _ (never_below bs) run in
        moved_here N a (one k (assume r) t) bs (both a t ∷ bs)
        (refl, good_rest p last a (one k (assume r) t) t h h.fits.1, good)
        (back_value a h.long r h.fits.0.0.test true r1.0, refl) (later_now w Q _ N n1 e1 r1.1)
    step_back N a (one k (goto x) t) h starts run =
        let (n1, e1, r1) = unstep w Q N _ _ _ (never_below bs) run in
        let where_to : w.jumps (suc a.c) x ≡ option_map (put_rest p last a.own) (rest_from x h.routine.body done) =
        isw.jumps_is a.c h.routine x h.there ∙ ap (λ o. option_map (put_rest p last o) (rest_from x h.routine.body done)) h.own_is in
        let F : Code → State = λ u. state X (top p last a u bs m) in
        jump_back N a k x t (rest_from x h.routine.body done) h refl
        (at_rest_later N n1 (option_map (put_rest p last a.own) (rest_from x h.routine.body done)) F e1
        (subst (λ o. AtRest o (λ u. PlainAfter w n1 (F u) Q)) where_to r1))
    step_back N a (one k leave t) h starts run =
        let (n1, e1, r1) = unstep w Q N _ _ _ (never_below bs) run in
        moved_here N a (one k leave t) bs (both a done ∷ bs)
        (refl, good_rest p last a (one k leave t) done h tt, good) refl (later_now w Q _ N n1 e1 r1)
    step_back N a (one k (call q' es) t) h starts run =
        let scope = h.fits.0.0 in
        let (n1, e1, r1) = unstep w Q N _ _ _ (never_below bs) run in
        call_made_back N n1 a (one k (call q' es) t) (both a t) q' es e1 (good_rest p last a (one k (call q' es) t) t h h.fits.1)
        scope.arguments scope.callee (λ u s. s) r1
    step_back N a (one k (leave_with e) t) h starts run =
        let (n1, e1, r1) = unstep w Q N _ _ _ (never_below bs) run in
        let v : Bool = value_of (row C q) (source_values a) e in
        let a' : Activation = resulting setting a (one k (leave_with e) t) h v in
        let ev : value_of X (put_values a) (expression_form (places p.globals last a.own) last e) ≡ v =
        expression_is small now a.own (put_values a) a.l a.tmp a.more refl h.long e h.fits.0.0.arguments.0 in
        moved_here N a (one k (leave_with e) t) bs (both a' done ∷ bs) (refl, resulting_good setting a (one k (leave_with e) t) h v, good)
        (ap (λ z. state (row C q) (frame a.c z done ∷ map source bs)) (source_with p last (both a (one k (leave_with e) t)) h v))
        (later_now w Q _ N n1 e1
        (subst (λ z. PlainAfter w n1 (state X (frame (suc a.c) z done ∷ callers p last bs m)) Q)
        (ap (with_result (w.enters (suc a.c)) (put_values a)) ev
        ∙ put_with setting (both a (one k (leave_with e) t)) h v) r1))
    step_back N a (one k (call_for x q' es) t) h starts run =
        let scope = h.fits.0.0 in
        let room : receiver_draws is_global (Some x) ≤ temporaries is_global h.routine.body =
        takes_room p.routines p.globals a.own (temporaries is_global h.routine.body) x q' es h.fits.0 in
        let (n1, e1, r1) = unstep w Q N _ _ _ (never_below bs) run in
        call_made_back N n1 a (one k (call_for x q' es) t) (awaiting a x t) q' es e1
        (good_awaiting p last a (one k (call_for x q' es) t) x t h scope.targets.0 room h.fits.1) scope.arguments scope.callee
        (λ u s. s) r1
    step_back N a (choose k r x y t) h starts run =
        let (n1, e1, r1) = unstep w Q N _ _ _ (never_below bs) run in
        let v : Bool = r1.0 in
        moved_here N a (choose k r x y t) bs (both a (cond v (join x t) (join y t)) ∷ bs) (
          refl,
          good_rest p last a (choose k r x y t) (cond v (join x t) (join y t)) h
              (branch_fits p a.own (temporaries is_global h.routine.body) v x y t h.fits.1 h.fits.2 h.fits.3),
          good,
        )
        (v, back_value a h.long r h.fits.0 v r1.1, refl)
        (later_now w Q _ N n1 e1
        (subst (λ z. PlainAfter w n1 (state X (top p last a z bs m)) Q)
        (sym (put_branch p last a.own v x y t)) r1.2))
    step_back N a (loop k r x t) h starts run =
        let (n1, e1, r1) = unstep w Q N _ _ _ (never_below bs) run in
        let v : Bool = r1.0 in
        moved_here N a (loop k r x t) bs (both a (cond v (join x (loop k r x t)) t) ∷ bs) (
          refl,
          good_rest p last a (loop k r x t) (cond v (join x (loop k r x t)) t) h
              (loop_fits p a.own (temporaries is_global h.routine.body) v k r x t h.fits),
          good,
        )
        (v, back_value a h.long r h.fits.0 v r1.1, refl)
        (later_now w Q _ N n1 e1
        (subst (λ z. PlainAfter w n1 (state X (top p last a z bs m)) Q)
        (sym (put_loop p last a.own v k r x t)) r1.2))
