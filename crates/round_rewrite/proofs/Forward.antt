-- A step of the source is a run of the rewritten program.
use Rattle.std.proofs.Common.{◌≡◌, ℕ, suc, ◌+◌, ◌≤◌, Bool, true, false, cond, List, [], ◌∷◌, length, map}
use Rattle.std.proofs.Common.{Option, Some, None, option_map, slice_get, refl, sym, ◌∙◌, ap, subst, arith}
use Rattle.language.specs.Tree.{Expression, RightSide, skip, assign, assert, assume, goto, leave, call, leave_with, call_for, Mark, done}
use Rattle.language.specs.Tree.{one, choose, loop}
use Rattle.language.specs.Value.{Place, bit, value_of, values_of, IsValue, written_globals, written_locals}
use Rattle.language.specs.Rest.{Label, Code, join, rest_from}
use Rattle.language.specs.Step.{Routine, Program, frame, State, state, fresh, frame_size, with_result, given_back}
use Rattle.language.specs.Step.{AtRoutine, AtRest, body_of, StepsTo}
use Rattle.language.proofs.Lengths.{length_zeros, length_fresh, length_values, length_globals, length_locals}
use Rattle.round_rewrite.specs.Table.{Naming, no_mark, receiver_draws, draws, temporaries, expression_form, side, prologue, stop_test}
use Rattle.round_rewrite.specs.Places.{places, is_global}
use Rattle.resolved.specs.Scoped.{PlaceInScope, AreInScope, SideInScope, RoutineInScope, FitsScopes}
use Rattle.language.proofs.Results.{zeros_bit}
use Rattle.round_rewrite.proofs.LayoutLemmas.{row, Moment, globals_at, turned, unturned, row_long}
use Rattle.round_rewrite.proofs.Translate.{side_is, expression_is, expressions_are}
use Rattle.round_rewrite.proofs.AssignmentLemmas.{writes_more}
use Rattle.round_rewrite.proofs.DrawLemmas.{Redrawn, assign_leads}
use Rattle.round_rewrite.proofs.Plain.{PlainAfter}
use Rattle.round_rewrite.proofs.RunLemmas.{Leads}
use Rattle.round_rewrite.proofs.Blocks.{put-join, put-again}
use Rattle.round_rewrite.proofs.Prologue.{stop_leads}
use Rattle.round_rewrite.proofs.Frames.{Activation, both, awaiting, results, entered, given, source_values, put_values, Fits, Roomy, Both}
use Rattle.round_rewrite.proofs.Frames.{source, Good, AllGood, GoodStack, put_rest, inner, behind, callers, stack, Setting, put_routine}
use Rattle.round_rewrite.proofs.Frames.{roomy, top, site, throughout-join, throughout-rest, IfThere, source_fresh, put_fresh, source_with}
use Rattle.round_rewrite.proofs.Frames.{good_as, put_given, put_result, put_with, resulting, resulting_good, draws_room, takes_room}
use Rattle.resolved.proofs.Each.{each_at}

-- an open call that has new values and continues in the same procedure
pub good_with : (p : Program) (last : ℕ) (a : Activation) (l tmp : List Bool) (d : ℕ) (rest rest' : Code)
    → (h : Good p last (both a rest)) → length l ≡ length a.l → Redrawn d a.tmp tmp → d ≤ temporaries is_global h.routine.body
    → Fits p.routines p.globals a.own (temporaries is_global h.routine.body) rest'
    → Good p last (both (record a { l = l; tmp = tmp }) rest')
good_with p last a l tmp d rest rest' h el drawn le fits =
    good_as p last (both a rest) h l a.more tmp None rest' el refl drawn.0
    (drawn.1 (temporaries is_global h.routine.body) le ∙ h.result) tt fits

-- an open call that continues elsewhere in the same procedure
pub good_rest : (p : Program) (last : ℕ) (a : Activation) (rest rest' : Code) → (h : Good p last (both a rest))
    → Fits p.routines p.globals a.own (temporaries is_global h.routine.body) rest' → Good p last (both a rest')
good_rest p last a rest rest' h fits = good_as p last (both a rest) h a.l a.more a.tmp None rest' refl refl refl h.result tt fits

-- an open call that waits for the value of its call
pub good_awaiting : (p : Program) (last : ℕ) (a : Activation) (rest : Code) (x : Place) (rest' : Code)
    → (h : Good p last (both a rest)) → PlaceInScope p.globals a.own x
    → receiver_draws is_global (Some x) ≤ temporaries is_global h.routine.body
    → Fits p.routines p.globals a.own (temporaries is_global h.routine.body) rest' → Good p last (awaiting a x rest')
good_awaiting p last a rest x rest' h scope room fits =
    good_as p last (both a rest) h a.l a.more a.tmp (Some x) rest' refl refl refl h.result (scope, room) fits

-- the body of a procedure fits
pub body_fits : (p : Program) (c : ℕ) (r : Routine) (d : ℕ) → FitsScopes p → slice_get p.routines c ≡ Some r
    → temporaries is_global r.body ≤ d → Fits p.routines p.globals r.places d r.body
body_fits p c r d fits e room =
    roomy p.routines p.globals r.places d r.body (each_at (RoutineInScope p.routines p.globals) p.routines c r fits.routines e) room

-- either branch of an `if` fits, with what follows
pub branch_fits : (p : Program) (own d : ℕ) (v : Bool) (x y t : Code) → Fits p.routines p.globals own d x
    → Fits p.routines p.globals own d y → Fits p.routines p.globals own d t
    → Fits p.routines p.globals own d (cond v (join x t) (join y t))
branch_fits p own d true x y t hx hy ht = throughout-join (Roomy p.routines p.globals own d) (SideInScope p.globals own) x t hx ht
branch_fits p own d false x y t hx hy ht = throughout-join (Roomy p.routines p.globals own d) (SideInScope p.globals own) y t hy ht

-- the branch that an `if` takes, rewritten
pub put_branch : (p : Program) (last own : ℕ) (v : Bool) (x y t : Code)
    → put_rest p last own (cond v (join x t) (join y t))
    ≡ cond v (join (put_rest p last own x) (put_rest p last own t)) (join (put_rest p last own y) (put_rest p last own t))
put_branch p last own true x y t = put-join (places p.globals last own) last x t
put_branch p last own false x y t = put-join (places p.globals last own) last y t

-- what a `while` continues with fits
pub loop_fits : (p : Program) (own d : ℕ) (v : Bool) (k : Mark Label) (r : RightSide Place) (x t : Code)
    → Fits p.routines p.globals own d (loop k r x t) → Fits p.routines p.globals own d (cond v (join x (loop k r x t)) t)
loop_fits p own d true k r x t h = throughout-join (Roomy p.routines p.globals own d) (SideInScope p.globals own) x (loop k r x t) h.1 h
loop_fits p own d false k r x t h = h.2

-- what a `while` continues with, rewritten
pub put_loop : (p : Program) (last own : ℕ) (v : Bool) (k : Mark Label) (r : RightSide Place) (x t : Code)
    → put_rest p last own (cond v (join x (loop k r x t)) t)
    ≡ cond v
    (join (join (put_rest p last own x) (prologue (places p.globals last own) last no_mark done))
    (loop no_mark (side (places p.globals last own) last r)
    (join (put_rest p last own x) (prologue (places p.globals last own) last no_mark done)) (put_rest p last own t)))
    (put_rest p last own t)
put_loop p last own true k r x t = put-again (places p.globals last own) last k r x t
put_loop p last own false k r x t = refl

-- what a jump finds fits
pub jump_good : (p : Program) (last : ℕ) (a : Activation) (rest : Code) (x : Label) (found : Code) → FitsScopes p
    → (h : Good p last (both a rest)) → rest_from x h.routine.body done ≡ Some found → Good p last (both a found)
jump_good p last a rest x found fits h e =
    let d : ℕ = temporaries is_global h.routine.body in
    let inside : Fits p.routines p.globals a.own d h.routine.body =
    subst (λ k. Fits p.routines p.globals k d h.routine.body) h.own_is (body_fits p a.c h.routine d fits h.there (omega arith)) in
    let there : IfThere (Fits p.routines p.globals a.own d) (Some found) =
    subst (IfThere (Fits p.routines p.globals a.own d)) e
    (throughout-rest (Roomy p.routines p.globals a.own d) (SideInScope p.globals a.own) x h.routine.body done inside tt) in
    good_rest p last a rest found h there

-- a new frame of a procedure fits
pub call_good : (p : Program) (last q : ℕ) (r : Routine) (vs : List Bool) → FitsScopes p → slice_get p.routines q ≡ Some r
    → length vs ≤ r.places → Good p last (entered q r vs)
call_good p last q r vs fits e short =
    let d : ℕ = temporaries is_global r.body in
    record {
      routine = r;
      there = e;
      own_is = refl;
      long = length_fresh r.places vs short;
      gives = length_zeros (results r);
      room = length_zeros (d + results r) ∙ ap (λ k. d + k) (sym (length_zeros (results r)));
      result = zeros_bit (d + results r) d ∙ sym (zeros_bit (results r) 0);
      waits = tt;
      fits = body_fits p q r d fits e (omega arith);
    }

module _ (setting : Setting) (now : Moment setting.p.globals setting.last) (m : Code) where
  open setting use {p, last, fits, small, w, isw}
  open now use {C, S, q, b, shape, within}

  abbrev X : List Bool
  X = globals_at now

  abbrev pub naming : ℕ → Naming Place Place ℕ ℕ
  naming own = places p.globals last own

  -- a rewritten right side has the values that the source has in the row of the round
  pub side_at : (a : Activation) → length a.l ≡ a.own → (r : RightSide Place) → SideInScope p.globals a.own r → (v : Bool)
      → IsValue X (put_values a) (side (naming a.own) last r) v ≡ IsValue (row C q) (source_values a) r v
  side_at a el r h v = side_is small now a.own (put_values a) a.l a.tmp a.more refl el r h v

  module _ (Q : State → Type 0) where
    -- the last frame leaves
    pub last_leads : (a : Activation) → Leads w (state X (stack p last [] m)) Q → Leads w (state X (top p last a done [] m)) Q
    last_leads a (k, h) = (suc k, h)

    -- a frame leaves, if stop is 0, and its caller gets the result
    pub pop_leads : (a : Activation) → Good p last (both a done) → (d : Both) → Good p last d → (bs : List Both)
        → Leads w
        (state X
        (top p last (given (bit a.more 0) d.awaits d.activation) (behind p last d.own d.awaits (put_rest p last d.own d.rest)) bs m))
        Q
        → Leads w (state X (top p last a done (d ∷ bs) m)) Q
    pop_leads a h d hd bs k =
        let v : Bool = bit a.more 0 in
        let d' : Activation = given v d.awaits d.activation in
        let goes_on : Code = behind p last d.own d.awaits (put_rest p last d.own d.rest) in
        let r = stop_leads w small (site p last C S shape d' bs m) Q q false b goes_on k in (
          suc r.0,
          subst (λ z. PlainAfter w r.0 z Q)
              (sym
              (ap (λ v. given_back v X (callers p last (d ∷ bs) m)) (put_result setting (both a done) h)
              ∙ put_given p last v X d.activation d.awaits p.globals (temporaries is_global hd.routine.body)
              (stop_test (naming d.own) last goes_on) (callers p last bs m) hd.long hd.waits)) r.1,
        )

    module _ (R : State → Type 0) where
      -- what must be shown of the states that the step leads to
      abbrev pub Next : Type 0
      Next = (g' : List Bool) (bs : List Both) → length g' ≡ p.globals → GoodStack p last bs → R (state g' (map source bs))
          → Leads w (state (turned now g') (stack p last bs m)) Q

      -- if the step leaves the globals as they are
      same_globals : Next → (bs : List Both) → GoodStack p last bs → R (state (row C q) (map source bs))
          → Leads w (state X (stack p last bs m)) Q
      same_globals next bs good r =
          subst (λ z. Leads w (state z (stack p last bs m)) Q) (unturned now) (next (row C q) bs (row_long now) good r)

      module _ (next : Next) (bs : List Both) (good : AllGood p last bs) where
        -- if the step is a jump
        jump_leads : (a : Activation) (rest : Code) (x : Label) (o : Option Code)
            → (h : Good p last (both a rest)) → rest_from x h.routine.body done ≡ o
            → AtRest o (λ t. R (state (row C q) (frame a.c (source_values a) t ∷ map source bs)))
            → (n : ℕ)
            × AtRest (option_map (put_rest p last a.own) o)
            (λ t. PlainAfter w n (state X (top p last a t bs m)) Q)
        jump_leads a rest x None h e at = absurd at
        jump_leads a rest x (Some found) h e at =
            same_globals next (both a found ∷ bs) (refl, jump_good p last a rest x found fits h e, good) at

        -- what the source does in a procedure that it has entered by a call, whose caller is then `d`
        abbrev Entered : Both → ℕ → List (Expression Place) → Option Routine → Type 0
        Entered d q' es o =
            let vs = values_of (row C q) (source_values d.activation) es in
            AtRoutine o (λ r. R (state (row C q) (frame q' (fresh (frame_size r) vs) r.body ∷ source d ∷ map source bs)))

        -- the same in the rewritten program
        abbrev EnteredThere : Both → ℕ → List (Expression Place) → ℕ → Option Routine → Type 0
        EnteredThere d q' es n o =
            let vs = values_of X (put_values d.activation) (map (expression_form (naming d.own) last) es) in
            AtRoutine o
            (λ r. PlainAfter w n (state X (frame (suc q') (fresh (frame_size r) vs) r.body ∷ callers p last (d ∷ bs) m)) Q)

        -- if the step is a call
        call_leads : (d : Both) (q' : ℕ) (es : List (Expression Place)) (o : Option Routine)
            → slice_get p.routines q' ≡ o → Good p last d → AreInScope p.globals d.own es
            → AtRoutine o (λ r. length es ≤ r.places) → Entered d q' es o
            → (n : ℕ) × EnteredThere d q' es n (option_map (put_routine p last) o)
        call_leads d q' es None e h scope short at = absurd at
        call_leads d q' es (Some r) e h scope short at =
            let vs : List Bool = values_of (row C q) (source_values d.activation) es in
            let lv = subst (λ k. k ≤ r.places) (sym (length_values (row C q) (source_values d.activation) es)) short in
            let ev = expressions_are small now d.own (put_values d.activation) d.l d.tmp d.more refl h.long es scope in
            let k =
            same_globals next (entered q' r vs ∷ d ∷ bs) (refl, call_good p last q' r vs fits e lv, (h, good))
            (subst (λ z. R (state (row C q) (frame q' z r.body ∷ source d ∷ map source bs))) (source_fresh r vs lv) at) in (
              k.0,
              subst
                  (λ z. PlainAfter w k.0 (state X (frame (suc q') z (put_rest p last r.places r.body) ∷ callers p last (d ∷ bs) m)) Q)
                  (sym (ap (fresh (frame_size (put_routine p last r))) ev ∙ put_fresh p last r vs lv)) k.1,
            )

        -- a call, as the rewritten program makes it
        call_made : (d : Both) (q' : ℕ) (es : List (Expression Place)) → Good p last d → AreInScope p.globals d.own es
            → AtRoutine (slice_get p.routines q') (λ r. length es ≤ r.places) → Entered d q' es (slice_get p.routines q')
            → (n : ℕ) × EnteredThere d q' es n (w.enters (suc q'))
        call_made d q' es h scope short s =
            let z = call_leads d q' es (slice_get p.routines q') refl h scope short s in
            (z.0, subst (EnteredThere d q' es z.0) (sym (isw.enters_is q')) z.1)

        -- a step of the top frame, after its prologue
        pub step_leads : (a : Activation) (rest : Code) → Good p last (both a rest)
            → put_rest p last a.own rest ≡ prologue (naming a.own) last no_mark (inner p last a.own rest)
            → StepsTo p (state (row C q) (frame a.c (source_values a) rest ∷ map source bs)) R
            → Leads w (state X (top p last a (inner p last a.own rest) bs m)) Q
        step_leads a done h starts s = cc
        step_leads a (one k skip t) h starts s =
            let r = same_globals next (both a t ∷ bs) (refl, good_rest p last a (one k skip t) t h h.fits.1, good) s in
            (suc r.0, r.1)
        step_leads a (one k (assign xs rs) t) h starts s =
            let scope = h.fits.0.0 in
            let room : draws is_global xs rs ≤ temporaries is_global h.routine.body =
            draws_room p.routines p.globals a.own (temporaries is_global h.routine.body) xs rs h.fits.0 in
            assign_leads w p.globals last a.own (suc a.c) (callers p last bs m) Q now small a.l a.more a.tmp h.long xs rs s.0
            (put_rest p last a.own t) s.1 scope.targets scope.sides
            (let r : length a.tmp ≡ temporaries is_global h.routine.body + length a.more = h.room in omega arith)
            (λ tmp' drawn.
            next (written_globals xs s.0 (row C q)) (both (record a { l = written_locals xs s.0 a.l; tmp = tmp' }) t ∷ bs)
            (length_globals xs s.0 (row C q) ∙ row_long now) (
              refl,
              good_with p last a (written_locals xs s.0 a.l) tmp' (draws is_global xs rs) (one k (assign xs rs) t) t h
                  (length_locals xs s.0 a.l) drawn room h.fits.1,
              good,
            )
            (subst (λ z. R (state (written_globals xs s.0 (row C q)) (frame a.c z t ∷ map source bs)))
            (writes_more p.globals a.own xs s.0 a.l a.more scope.targets h.long) s.2))
        step_leads a (one k (assert r) t) h starts s =
            let z =
            same_globals next (both a t ∷ bs)
            (refl, good_rest p last a (one k (assert r) t) t h h.fits.1, good) s.1 in
            (suc (suc z.0), (true, subst (λ T. T) (sym (side_at a h.long r h.fits.0.0.test true)) s.0, z.1))
        step_leads a (one k (assume r) t) h starts s =
            let z =
            same_globals next (both a t ∷ bs)
            (refl, good_rest p last a (one k (assume r) t) t h h.fits.1, good) s.1 in
            (suc z.0, (subst (λ T. T) (sym (side_at a h.long r h.fits.0.0.test true)) s.0, z.1))
        step_leads a (one k (goto x) t) h starts s =
            let found : AtRest (rest_from x h.routine.body done)
            (λ u. R (state (row C q) (frame a.c (source_values a) u ∷ map source bs))) =
            subst
            (λ o. AtRest (rest_from x (body_of o) done) (λ u. R (state (row C q) (frame a.c (source_values a) u ∷ map source bs))))
            h.there s in
            let z = jump_leads a (one k (goto x) t) x (rest_from x h.routine.body done) h refl found in
            let where_to : w.jumps (suc a.c) x ≡ option_map (put_rest p last a.own) (rest_from x h.routine.body done) =
            isw.jumps_is a.c h.routine x h.there
            ∙ ap (λ o. option_map (put_rest p last o) (rest_from x h.routine.body done)) h.own_is in (
              suc z.0,
              subst (λ o. AtRest o (λ u. PlainAfter w z.0 (state X (top p last a u bs m)) Q))
                  (sym where_to) z.1,
            )
        step_leads a (one k leave t) h starts s =
            let r =
            same_globals next (both a done ∷ bs)
            (refl, good_rest p last a (one k leave t) done h tt, good) s in
            (suc r.0, r.1)
        step_leads a (one k (call q' es) t) h starts s =
            let scope = h.fits.0.0 in
            let z =
            call_made (both a t) q' es (good_rest p last a (one k (call q' es) t) t h h.fits.1) scope.arguments scope.callee s in
            (suc z.0, z.1)
        step_leads a (one k (leave_with e) t) h starts s =
            let v : Bool = value_of (row C q) (source_values a) e in
            let a' : Activation = resulting setting a (one k (leave_with e) t) h v in
            let r =
            same_globals next (both a' done ∷ bs) (refl, resulting_good setting a (one k (leave_with e) t) h v, good)
            (subst (λ z. R (state (row C q) (frame a.c z done ∷ map source bs)))
            (source_with p last (both a (one k (leave_with e) t)) h v) s) in
            let ev : value_of X (put_values a) (expression_form (naming a.own) last e) ≡ v =
            expression_is small now a.own (put_values a) a.l a.tmp a.more refl h.long e h.fits.0.0.arguments.0 in (
              suc r.0,
              subst (λ z. PlainAfter w r.0 (state X (frame (suc a.c) z done ∷ callers p last bs m)) Q)
                  (sym
                  (ap (with_result (w.enters (suc a.c)) (put_values a)) ev
                  ∙ put_with setting (both a (one k (leave_with e) t)) h v)) r.1,
            )
        step_leads a (one k (call_for x q' es) t) h starts s =
            let scope = h.fits.0.0 in
            let room : receiver_draws is_global (Some x) ≤ temporaries is_global h.routine.body =
            takes_room p.routines p.globals a.own (temporaries is_global h.routine.body) x q' es h.fits.0 in
            let z =
            call_made (awaiting a x t) q' es
            (good_awaiting p last a (one k (call_for x q' es) t) x t h scope.targets.0 room h.fits.1) scope.arguments scope.callee s in
            (suc z.0, z.1)
        step_leads a (choose k r x y t) h starts (v, is, s) =
            let branch =
            same_globals next (both a (cond v (join x t) (join y t)) ∷ bs) (
              refl,
              good_rest p last a (choose k r x y t) (cond v (join x t) (join y t)) h
                  (branch_fits p a.own (temporaries is_global h.routine.body) v x y t h.fits.1 h.fits.2 h.fits.3),
              good,
            ) s in (
              suc branch.0,
              (
                v,
                subst (λ T. T) (sym (side_at a h.long r h.fits.0 v)) is,
                subst (λ z. PlainAfter w branch.0 (state X (top p last a z bs m)) Q)
                    (put_branch p last a.own v x y t) branch.1,
              ),
            )
        step_leads a (loop k r x t) h starts (v, is, s) =
            let branch =
            same_globals next (both a (cond v (join x (loop k r x t)) t) ∷ bs) (
              refl,
              good_rest p last a (loop k r x t) (cond v (join x (loop k r x t)) t) h
                  (loop_fits p a.own (temporaries is_global h.routine.body) v k r x t h.fits),
              good,
            ) s in (
              suc branch.0,
              (
                v,
                subst (λ T. T) (sym (side_at a h.long r h.fits.0 v)) is,
                subst (λ z. PlainAfter w branch.0 (state X (top p last a z bs m)) Q)
                    (put_loop p last a.own v k r x t) branch.1,
              ),
            )
