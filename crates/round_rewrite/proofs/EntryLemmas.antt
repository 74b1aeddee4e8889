-- No procedure calls the first procedure of a rewritten program, so it is entered once, with every value 0.
use Rattle.std.proofs.Common.{◌≡◌, ℕ, zero, suc, ◌+◌, Bool, true, false, cond, List, [], ◌∷◌, map, Option, Some, None}
use Rattle.std.proofs.Common.{slice_get, refl, sym, ◌∙◌, subst}
use Rattle.language.specs.Tree.{var, RightSide, Simple, skip, assign, assert, assume, goto, leave, call, leave_with, call_for, Mark, done}
use Rattle.language.specs.Tree.{one, choose, loop}
use Rattle.language.specs.Value.{Place, values_of}
use Rattle.language.specs.Rest.{Label, Code, join, rest_from}
use Rattle.language.specs.Step.{Routine, Program, Frame, frame, waiting, State, state, fresh, frame_size, result_of, given_back, AtRoutine}
use Rattle.language.specs.Step.{AtRest, body_of, StepsTo, AfterSteps}
use Rattle.language.specs.Sequential.{statements, numbered, numbered_routine, in_text_order, Valuation, Calls, Asks}
use Rattle.round_rewrite.specs.Table.{Naming, numbers, no_mark, side, draws, drawing, statement, prologue, rewritten, guess, guesses}
use Rattle.round_rewrite.specs.Table.{starts, check, checks, main, received, all_rounds, copy_value}
use Rattle.round_rewrite.specs.Places.{places, all_globals, rewritten_routine, main_routine, rewritten_program}
use Rattle.resolved.specs.Scoped.{Throughout}
use Rattle.round_rewrite.proofs.Frames.{throughout-join, throughout-rest, IfThere}
use Rattle.round_rewrite.proofs.InTurn.{keep}

-- the statement does not call the first procedure
abbrev Elsewhere : Simple Place ℕ Label → Type 0
Elsewhere (call q es) = (k : ℕ) × (q ≡ suc k)
Elsewhere (call_for x q es) = (k : ℕ) × (q ≡ suc k)
Elsewhere _ = Unit {0}

abbrev Any : RightSide Place → Type 0
Any r = Unit {0}

abbrev Away : Code → Type 0
Away b = Throughout Elsewhere Any b

abbrev AllAway : List Frame → Type 0
AllAway [] = Unit {0}
AllAway (frame c l rest ∷ fs) = Away rest × AllAway fs
AllAway (waiting c l x rest ∷ fs) = Away rest × AllAway fs

abbrev StateAway : State → Type 0
StateAway (state g fs) = AllAway fs

away-numbered : (n : ℕ) (b : Code) → Away b → Away (numbered n b)
away-numbered n done h = tt
away-numbered n (one m s t) h = (h.0, away-numbered (suc n) t h.1)
away-numbered n (choose m r a b t) h = (
  tt,
  away-numbered (suc n) a h.1,
  away-numbered (suc n + statements a) b h.2,
  away-numbered (suc n + (statements a + statements b)) t h.3,
)
away-numbered n (loop m r a t) h = (tt, away-numbered (suc n) a h.1, away-numbered (suc n + statements a) t h.2)

module _ (n last own : ℕ) where
  abbrev w : Naming Place Place ℕ ℕ
  w = places n last own

  away-drawing : (d : ℕ) (t : Code) → Away t → Away (drawing w last d t)
  away-drawing zero t h = h
  away-drawing (suc d) t h = (tt, h)

  away-prologue : (m : Mark Label) (t : Code) → Away t → Away (prologue w last m t)
  away-prologue m t h = (tt, (tt, (tt, tt)), (tt, (tt, tt), (tt, tt), (tt, (tt, tt), (tt, tt), h)))

  away-received : (x : Place) (t : Code) → Away t → Away (received w last x t)
  away-received x t h =
      away-prologue no_mark
      (one no_mark
      (assign (map (λ k. w.copy k x) (all_rounds w last)) (map (copy_value w last (var (w.drawn 0)) x) (all_rounds w last))) t) (tt, h)

  away-cond : (c : Bool) (a b : Code) → Away a → Away b → Away (cond c a b)
  away-cond true a b ha hb = ha
  away-cond false a b ha hb = hb

  away-statement : (s : Simple Place ℕ Label) (t : Code) → Away t → Away (statement w last s t)
  away-statement (assign xs rs) t h =
      away-drawing (draws w.is_shared xs rs)
      (one no_mark
      (assign (Rattle.round_rewrite.specs.Table.targets w last xs rs) (Rattle.round_rewrite.specs.Table.sides w last 0 xs rs)) t) (tt, h)
  away-statement (assert r) t h = (tt, (tt, tt), (tt, (tt, tt)), h)
  away-statement (call q es) t h = ((q, refl), (tt, (tt, tt), (tt, tt), h))
  away-statement (call_for x q es) t h = (
    (q, refl),
    (tt, (tt, tt), (tt, tt), away-cond (w.is_shared x) (received w last x t) t (away-received x t h) h),
  )
  away-statement _ t h = (tt, h)

  away-rewritten : (b : Code) → Away (rewritten w last b)
  away-rewritten done = tt
  away-rewritten (one m s t) =
      away-prologue m (statement w last s (rewritten w last t)) (away-statement s (rewritten w last t) (away-rewritten t))
  away-rewritten (choose m r a b t) =
      away-prologue m (choose no_mark (side w last r) (rewritten w last a) (rewritten w last b) (rewritten w last t))
      (tt, away-rewritten a, away-rewritten b, away-rewritten t)
  away-rewritten (loop m r a t) =
      away-prologue m (loop no_mark (side w last r) (join (rewritten w last a) (prologue w last no_mark done)) (rewritten w last t)) (
        tt,
        throughout-join Elsewhere Any (rewritten w last a) (prologue w last no_mark done) (away-rewritten a)
            (away-prologue no_mark done tt),
        away-rewritten t,
      )

  away-guess : (xs : List Place) (k : ℕ) (t : Code) → Away t → Away (guess w last xs k t)
  away-guess [] k t h = h
  away-guess (x ∷ xs) k t h = (tt, (tt, h))

  away-starts : (T : List ℕ) (t : Code) → Away t → Away (starts w last T t)
  away-starts [] t h = h
  away-starts (c ∷ T) t h = (tt, ((c, refl), away-starts T t h))

  away-check : (xs : List Place) (k : ℕ) (t : Code) → Away t → Away (check w last xs k t)
  away-check [] k t h = h
  away-check (x ∷ xs) k t h = (tt, away-check xs k t h)

  away-main : (xs : List Place) (T : List ℕ) → Away (main w last xs T)
  away-main xs T =
      let ends : Code = checks w last xs (numbers 0 last) done in
      keep (guesses w last xs) (guess w last xs) (λ t. refl) (λ k ks t. refl) Away (away-guess xs) (numbers 1 last) (starts w last T ends)
      (away-starts T ends
      (keep (checks w last xs) (check w last xs) (λ t. refl) (λ k ks t. refl) Away (away-check xs) (numbers 0 last) done tt))

abbrev RoutineAway : Option Routine → Type 0
RoutineAway None = Unit {0}
RoutineAway (Some r) = Away r.body

away_routines : (n last : ℕ) (rs : List Routine) (c : ℕ)
    → RoutineAway (slice_get (map numbered_routine (map (rewritten_routine n last) rs)) c)
away_routines n last [] c = tt
away_routines n last (r ∷ rs) zero =
    away-numbered 1 (rewritten (places n last r.places) last r.body) (away-rewritten n last r.places r.body)
away_routines n last (r ∷ rs) (suc c) = away_routines n last rs c

module _ (p : Program) (bodies : (c : ℕ) → RoutineAway (slice_get p.routines c)) where
  away_body : (o : Option Routine) → RoutineAway o → Away (body_of o)
  away_body None h = tt
  away_body (Some r) h = h

  rest_away : (o : Option Code) (F : Code → State) (P : State → Type 0) → IfThere Away o
      → ((c : Code) → Away c → StateAway (F c))
      → AtRest o (λ c. P (F c)) → (u : State) × P u × StateAway u
  rest_away None F P h f a = absurd a
  rest_away (Some c) F P h f a = (F c, a, f c h)

  routine_away : (o : Option Routine) (F : Routine → State) (P : State → Type 0) → RoutineAway o
      → ((r : Routine) → Away r.body → StateAway (F r)) → AtRoutine o (λ r. P (F r)) → (u : State) × P u × StateAway u
  routine_away None F P h f a = absurd a
  routine_away (Some r) F P h f a = (F r, a, f r h)

  away-branch : (v : Bool) (a b t : Code) → Away a → Away b → Away t → Away (cond v (join a t) (join b t))
  away-branch true a b t ha hb ht = throughout-join Elsewhere Any a t ha ht
  away-branch false a b t ha hb ht = throughout-join Elsewhere Any b t hb ht

  away-again : (v : Bool) (m : Mark Label) (r : RightSide Place) (a t : Code) → Away a → Away t
      → Away (cond v (join a (loop m r a t)) t)
  away-again true m r a t ha ht = throughout-join Elsewhere Any a (loop m r a t) ha (tt, ha, ht)
  away-again false m r a t ha ht = ht

  given_away : (v : Bool) (g : List Bool) (fs : List Frame) → AllAway fs → StateAway (given_back v g fs)
  given_away v g [] h = tt
  given_away v g (frame c l t ∷ fs) h = h
  given_away v g (waiting c l x t ∷ fs) h = h

  step_away : (s : State) (P : State → Type 0) → StateAway s → StepsTo p s P → (u : State) × P u × StateAway u
  step_away (state g (frame c l done ∷ fs)) P h a =
      (_, a, given_away (result_of (slice_get p.routines c) l) g fs h.1)
  step_away (state g (frame c l (one m skip t) ∷ fs)) P h a = (_, a, (h.0.1, h.1))
  step_away (state g (frame c l (one m (assign xs rs) t) ∷ fs)) P h a = (_, a.2, (h.0.1, h.1))
  step_away (state g (frame c l (one m (assert r) t) ∷ fs)) P h a = (_, a.1, (h.0.1, h.1))
  step_away (state g (frame c l (one m (assume r) t) ∷ fs)) P h a = (_, a.1, (h.0.1, h.1))
  step_away (state g (frame c l (one m (goto x) t) ∷ fs)) P h a =
      rest_away (rest_from x (body_of (slice_get p.routines c)) done) (λ u. state g (frame c l u ∷ fs)) P
      (throughout-rest Elsewhere Any x (body_of (slice_get p.routines c)) done (away_body (slice_get p.routines c) (bodies c)) tt)
      (λ u hu. (hu, h.1)) a
  step_away (state g (frame c l (one m leave t) ∷ fs)) P h a = (_, a, (tt, h.1))
  step_away (state g (frame c l (one m (call q es) t) ∷ fs)) P h a =
      routine_away (slice_get p.routines q)
      (λ r. state g (frame q (fresh (frame_size r) (values_of g l es)) r.body ∷ frame c l t ∷ fs)) P
      (bodies q) (λ r hr. (hr, (h.0.1, h.1))) a
  step_away (state g (frame c l (one m (leave_with e) t) ∷ fs)) P h a = (_, a, (tt, h.1))
  step_away (state g (frame c l (one m (call_for x q es) t) ∷ fs)) P h a =
      routine_away (slice_get p.routines q)
      (λ r. state g (frame q (fresh (frame_size r) (values_of g l es)) r.body ∷ waiting c l x t ∷ fs)) P
      (bodies q) (λ r hr. (hr, (h.0.1, h.1))) a
  step_away (state g (frame c l (choose m r x y t) ∷ fs)) P h (v, is, a) = (_, a, (away-branch v x y t h.0.1 h.0.2 h.0.3, h.1))
  step_away (state g (frame c l (loop m r x t) ∷ fs)) P h (v, is, a) = (_, a, (away-again v m r x t h.0.1 h.0.2, h.1))
  step_away _ P h a = absurd a

  run_away : (n : ℕ) (s u : State) → StateAway s → AfterSteps p n s (λ v. v ≡ u) → StateAway u
  run_away zero s u h e = subst StateAway e h
  run_away (suc n) s u h a =
      let (t, run, ht) = step_away s (λ t. AfterSteps p n t (λ v. v ≡ u)) h a in
      run_away n t u ht run

-- no procedure asks for the first procedure
pub never_asked : (last : ℕ) (p : Program) (c : ℕ) (a : Valuation) → Asks (in_text_order (rewritten_program last p)) c 0 a → ⊥
never_asked last p c a (g, l, rest, fs, (n, run), calls) =
    let main_away : Away (numbered 1 (main (places p.globals last 0) last (all_globals p.globals) p.threads)) =
    away-numbered 1 (main (places p.globals last 0) last (all_globals p.globals) p.threads)
    (away-main p.globals last 0 (all_globals p.globals) p.threads) in
    no_call g l rest
    (run_away (in_text_order (rewritten_program last p)) (bodies main_away) n _ (state g (frame c l rest ∷ fs)) (main_away, tt) run).0
    calls
  where
    bodies : Away (numbered 1 (main (places p.globals last 0) last (all_globals p.globals) p.threads)) → (k : ℕ)
        → RoutineAway (slice_get (map numbered_routine (main_routine last p ∷ map (rewritten_routine p.globals last) p.routines)) k)
    bodies h zero = h
    bodies h (suc k) = away_routines p.globals last p.routines k

    no_call : (g l : List Bool) (rest : Code) → Away rest → Calls (in_text_order (rewritten_program last p)) g l rest 0 a → ⊥
    no_call g l (one m (call q es) t) h k = let e : suc h.0.0 ≡ 0 = sym h.0.1 ∙ k.0 in cc
    no_call g l (one m (call_for x q es) t) h k = let e : suc h.0.0 ≡ 0 = sym h.0.1 ∙ k.0 in cc
    no_call g l _ h k = k
