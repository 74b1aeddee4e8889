-- Rounds of all threads, one after the other, and turns of one thread after the other over rows, are the same.
use Rattle.std.proofs.Common.{◌≡◌, ℕ, zero, suc, ◌+◌, ◌<◌, ◌≤◌, Bool, true, false, cond, List, [], ◌∷◌, length}
use Rattle.std.proofs.Common.{Option, Some, None, slice_get, refl, sym, ◌∙◌, ap, subst, arith, ◌⊎◌, inl, inr}
use Rattle.language.specs.Tree.{assign, assert, assume, goto, call, call_for, done, one, choose, loop}
use Rattle.language.specs.Value.{values_of}
use Rattle.language.specs.Rest.{Code, rest_from}
use Rattle.language.specs.Step.{Routine, Program, Frame, frame, waiting, State, state, fresh, frame_size, result_of, given_back, AtRoutine}
use Rattle.language.specs.Step.{AtRest, body_of, StepsTo, AfterSteps, Runs}
use Rattle.language.specs.Rounds.{Round, Rounds, FailsInRound}
use Rattle.language.proofs.Lengths.{length_globals}
use Rattle.round_rewrite.proofs.LayoutLemmas.{Long}
use Rattle.round_rewrite.proofs.Turns.{Turns, FailTurns, idle}

-- steps keep how many globals there are
abbrev how_many : State → ℕ
how_many (state g fs) = length g

rest_keeps : (o : Option Code) (F : Code → State) (n : ℕ) (P : State → Type 0) → ((c : Code) → how_many (F c) ≡ n)
    → AtRest o (λ c. P (F c)) → (u : State) × P u × (how_many u ≡ n)
rest_keeps None F n P e h = absurd h
rest_keeps (Some c) F n P e h = (F c, h, e c)

routine_keeps : (o : Option Routine) (F : Routine → State) (n : ℕ) (P : State → Type 0) → ((c : Routine) → how_many (F c) ≡ n)
    → AtRoutine o (λ c. P (F c)) → (u : State) × P u × (how_many u ≡ n)
routine_keeps None F n P e h = absurd h
routine_keeps (Some c) F n P e h = (F c, h, e c)

given_keeps : (v : Bool) (g : List Bool) (fs : List Frame) → how_many (given_back v g fs) ≡ length g
given_keeps v g (waiting c l x t ∷ fs) = length_globals (x ∷ []) (v ∷ []) g
given_keeps v g _ = refl

step_keeps : (p : Program) (s : State) (P : State → Type 0) → StepsTo p s P → (u : State) × P u × (how_many u ≡ how_many s)
step_keeps p (state g []) P h = absurd h
step_keeps p (state g (waiting c l x t ∷ fs)) P h = absurd h
step_keeps p (state g (frame c l done ∷ fs)) P h = (_, h, given_keeps (result_of (slice_get p.routines c) l) g fs)
step_keeps p (state g (frame c l (one m (assign xs rs) t) ∷ fs)) P h = (_, h.2, length_globals xs h.0 g)
step_keeps p (state g (frame c l (one m (assert r) t) ∷ fs)) P h = (_, h.1, refl)
step_keeps p (state g (frame c l (one m (assume r) t) ∷ fs)) P h = (_, h.1, refl)
step_keeps p (state g (frame c l (one m (goto x) t) ∷ fs)) P h =
    rest_keeps (rest_from x (body_of (slice_get p.routines c)) done) (λ u. state g (frame c l u ∷ fs)) (length g) P (λ u. refl) h
step_keeps p (state g (frame c l (one m (call q es) t) ∷ fs)) P h =
    routine_keeps (slice_get p.routines q) (λ r. state g (frame q (fresh (frame_size r) (values_of g l es)) r.body ∷ frame c l t ∷ fs))
    (length g) P (λ u. refl) h
step_keeps p (state g (frame c l (one m (call_for x q es) t) ∷ fs)) P h =
    routine_keeps (slice_get p.routines q)
    (λ r. state g (frame q (fresh (frame_size r) (values_of g l es)) r.body ∷ waiting c l x t ∷ fs))
    (length g) P (λ u. refl) h
step_keeps p (state g (frame c l (choose m r a b t) ∷ fs)) P h = (_, h.2, refl)
step_keeps p (state g (frame c l (loop m r a t) ∷ fs)) P h = (_, h.2, refl)
step_keeps p _ P h = (_, h, refl)

steps_keep : (p : Program) (n : ℕ) (s u : State) → AfterSteps p n s (λ v. v ≡ u) → how_many u ≡ how_many s
steps_keep p zero s u e = ap how_many (sym e)
steps_keep p (suc n) s u h =
    let (t, run, e) = step_keeps p s (λ t. AfterSteps p n t (λ v. v ≡ u)) h in
    steps_keep p n t u run ∙ e

pub run_keeps : (p : Program) (g h : List Bool) (s t : List Frame) → Runs p (state g s) (state h t) → length h ≡ length g
run_keeps p g h s t (n, run) = steps_keep p n (state g s) (state h t) run

round_keeps : (p : Program) (g h : List Bool) (ss ts : List (List Frame)) → Round p g ss h ts → length h ≡ length g
round_keeps p g h [] ts r = ap length r.0
round_keeps p g h (s ∷ ss) [] r = absurd r
round_keeps p g h (s ∷ ss) (t ∷ ts) (k, run, more) = round_keeps p k h ss ts more ∙ run_keeps p g k s t run

-- the threads' turns, one thread after the other
abbrev pub Threads : Program → List (List Bool) → List (List Frame) → List (List Bool) → List (List Frame) → Type 0
Threads p G [] G' [] = G' ≡ G
Threads p G [] G' (s' ∷ ss') = ⊥
Threads p G (s ∷ ss) G' [] = ⊥
Threads p G (s ∷ ss) G' (s' ∷ ss') = (H : List (List Bool)) × Turns p G s H s' × Threads p H ss G' ss'

-- the same, if one of them fails
abbrev pub FailThreads : Program → List (List Bool) → List (List Frame) → List (List Bool) → Type 0
FailThreads p G [] G' = ⊥
FailThreads p G (s ∷ ss) G' =
    ((H : List (List Bool)) × (ss' : List (List Frame)) × FailTurns p G s H × Threads p H ss G' ss')
    ⊎ ((H : List (List Bool)) × (s' : List Frame) × Turns p G s H s' × FailThreads p H ss G')

-- turns that fail are turns
pub fail_is_turns : (p : Program) (G : List (List Bool)) (s : List Frame) (G' : List (List Bool)) → FailTurns p G s G'
    → (s' : List Frame) × Turns p G s G' s'
fail_is_turns p (g ∷ G) s (g' ∷ G') (inl (mid, run, f, e)) = (mid, (mid, run, subst (λ z. Turns p G mid z mid) (sym e) (idle p G mid)))
fail_is_turns p (g ∷ G) s (g' ∷ G') (inr (mid, run, more)) = let (s', ts) = fail_is_turns p G mid G' more in (s', (mid, run, ts))
fail_is_turns p _ s _ h = absurd h

idle_threads : (p : Program) (G : List (List Bool)) (ss : List (List Frame)) → Threads p G ss G ss
idle_threads p G [] = refl
idle_threads p G (s ∷ ss) = (G, idle p G s, idle_threads p G ss)

-- the first row of all threads is a round
row_split : (p : Program) (g : List Bool) (G : List (List Bool)) (ss : List (List Frame)) (g' : List Bool) (G' : List (List Bool))
    (ss' : List (List Frame)) → Threads p (g ∷ G) ss (g' ∷ G') ss'
    → (mid : List (List Frame)) × Round p g ss g' mid × Threads p G mid G' ss'
row_split p g G [] g' G' [] e = let a : g' ≡ g = cc in let b : G' ≡ G = cc in ([], (a, refl), b)
row_split p g G (s ∷ ss) g' G' (s' ∷ ss') ([], ts, more) = absurd ts
row_split p g G (s ∷ ss) g' G' (s' ∷ ss') (h ∷ H, (m, run, ts), more) =
    let (mid, round, threads) = row_split p h H ss g' G' ss' more in
    (m ∷ mid, (h, run, round), (H, ts, threads))
row_split p g G _ g' G' _ h = absurd h

fail_split : (p : Program) (g : List Bool) (G : List (List Bool)) (ss : List (List Frame)) (g' : List Bool) (G' : List (List Bool))
    → FailThreads p (g ∷ G) ss (g' ∷ G')
    → FailsInRound p g ss ⊎ ((mid : List (List Frame)) × Round p g ss g' mid × FailThreads p G mid G')
fail_split p g G [] g' G' h = absurd h
fail_split p g G (s ∷ ss) g' G' (inl ([], ss', ft, more)) = absurd ft
fail_split p g G (s ∷ ss) g' G' (inl (h ∷ H, ss', inl (m, run, f, e), more)) = inl (inl (state h m, run, f))
fail_split p g G (s ∷ ss) g' G' (inl (h ∷ H, ss', inr (m, run, ft), more)) =
    let (mid, round, threads) = row_split p h H ss g' G' ss' more in
    inr (m ∷ mid, (h, run, round), inl (H, ss', ft, threads))
fail_split p g G (s ∷ ss) g' G' (inr ([], s', ts, more)) = absurd ts
fail_split p g G (s ∷ ss) g' G' (inr (h ∷ H, s', (m, run, ts), more)) =
    elim (fail_split p h H ss g' G' more) [
      | inl f ↦ inl (inr (h, m, run, f))
      | inr (mid, round, ft) ↦ inr (m ∷ mid, (h, run, round), inr (H, s', ts, ft))
    ]

row_join : (p : Program) (g : List Bool) (G : List (List Bool)) (ss mid : List (List Frame)) (g' : List Bool) (G' : List (List Bool))
    (ss' : List (List Frame)) → Round p g ss g' mid → Threads p G mid G' ss' → Threads p (g ∷ G) ss (g' ∷ G') ss'
row_join p g G [] [] g' G' (x ∷ ss') (e, em) h = absurd h
row_join p g G (s ∷ ss) [] g' G' ss' r h = absurd r
row_join p g G (s ∷ ss) (m ∷ mid) g' G' [] r h = absurd h
row_join p g G (s ∷ ss) (m ∷ mid) g' G' (s' ∷ ss') (k, run, round) (H, ts, more) =
    (k ∷ H, (m, run, ts), row_join p k H ss mid g' G' ss' round more)
row_join p g G [] _ g' G' _ (e, em) h = cc

fail_join : (p : Program) (g : List Bool) (G : List (List Bool)) (ss mid : List (List Frame)) (g' : List Bool) (G' : List (List Bool))
    → Round p g ss g' mid → FailThreads p G mid G' → FailThreads p (g ∷ G) ss (g' ∷ G')
fail_join p g G [] [] g' G' r h = absurd h
fail_join p g G [] (x ∷ mid) g' G' r h = let e : x ∷ mid ≡ [] = r.1 in cc
fail_join p g G (s ∷ ss) [] g' G' r h = absurd r
fail_join p g G (s ∷ ss) (m ∷ mid) g' G' (k, run, round) (inl (H, ss', ft, more)) =
    inl (k ∷ H, ss', inr (m, run, ft), row_join p k H ss mid g' G' ss' round more)
fail_join p g G (s ∷ ss) (m ∷ mid) g' G' (k, run, round) (inr (H, s', ts, more)) =
    inr (k ∷ H, s', (m, run, ts), fail_join p k H ss mid g' G' round more)

-- a round that fails, if all the others then stay as they are
fail_row : (p : Program) (g : List Bool) (ss : List (List Frame)) → FailsInRound p g ss
    → (g' : List Bool) × (length g' ≡ length g) × ((G : List (List Bool)) → FailThreads p (g ∷ G) ss (g' ∷ G))
fail_row p g [] h = absurd h
fail_row p g (s ∷ ss) (inl (state h m, run, f)) =
    (h, run_keeps p g h s m run, λ G. inl (h ∷ G, ss, inl (m, run, f, refl), idle_threads p (h ∷ G) ss))
fail_row p g (s ∷ ss) (inr (h, m, run, more)) =
    let (g', e, ft) = fail_row p h ss more in
    (g', e ∙ run_keeps p g h s m run, λ G. inr (h ∷ G, m, (m, run, idle p G m), ft G))

-- each row begins as the row before it ended
abbrev pub Linked : List Bool → List (List Bool) → List (List Bool) → Type 0
Linked g [] [] = Unit {0}
Linked g [] (y ∷ G') = ⊥
Linked g (x ∷ G) [] = ⊥
Linked g (x ∷ G) (y ∷ G') = (x ≡ g) × Linked y G G'

no_rows : (p : Program) (ss : List (List Frame)) (G' : List (List Bool)) → FailThreads p [] ss G' → ⊥
no_rows p [] G' h = h
no_rows p (s ∷ ss) G' (inl (H, ss', ft, more)) = ft
no_rows p (s ∷ ss) G' (inr ([], s', ts, more)) = no_rows p ss G' more
no_rows p (s ∷ ss) G' (inr (h ∷ H, s', ts, more)) = ts

-- linked rows in which a thread fails are rounds, and then a round that fails
pub to_rounds : (p : Program) (g : List Bool) (G : List (List Bool)) (ss : List (List Frame)) (G' : List (List Bool)) → Linked g G G'
    → FailThreads p G ss G'
    → (r : ℕ) × (r < length G) × (h : List Bool) × (ts : List (List Frame)) × Rounds p r g ss h ts × FailsInRound p h ts
to_rounds p g [] ss G' link h = absurd (no_rows p ss G' h)
to_rounds p g (x ∷ G) ss [] link h = absurd link
to_rounds p g (x ∷ G) ss (y ∷ G') (e, link) h =
    elim (fail_split p x G ss y G' h) [
      | inl f ↦ (zero, omega arith, g, ss, (refl, refl), subst (λ z. FailsInRound p z ss) e f)
      | inr (mid, round, ft) ↦
          let (r, lt, k, ts, rounds, f) = to_rounds p y G mid G' link ft in
          (suc r, omega arith, k, ts, (y, mid, subst (λ z. Round p z ss y mid) e round, rounds), f)
    ]

abbrev pub copies : ℕ → List Bool → List (List Bool)
copies zero g = []
copies (suc k) g = g ∷ copies k g

copies_linked : (k : ℕ) (g : List Bool) → Linked g (copies k g) (copies k g)
copies_linked zero g = tt
copies_linked (suc k) g = (refl, copies_linked k g)

pub copies_long : (n k : ℕ) (g : List Bool) → length g ≡ n → Long n (copies k g) × (length (copies k g) ≡ k)
copies_long n zero g e = (tt, refl)
copies_long n (suc k) g e = let h = copies_long n k g e in ((e, h.0), ap suc h.1)

-- rounds, and then a round that fails, are linked rows in which a thread fails, with k rows more
pub from_rounds : (p : Program) (n r k : ℕ) (g : List Bool) (ss : List (List Frame)) (h : List Bool) (ts : List (List Frame))
    → length g ≡ n → Rounds p r g ss h ts → FailsInRound p h ts
    → (G : List (List Bool)) × (G' : List (List Bool)) × (length G ≡ r + k) × Long n G × Linked g (g ∷ G) G'
    × FailThreads p (g ∷ G) ss G'
from_rounds p n zero k g ss h ts eg (eh, et) f =
    let f' : FailsInRound p g ss = subst (λ z. FailsInRound p g z) et (subst (λ z. FailsInRound p z ts) eh f) in
    let (g', el, ft) = fail_row p g ss f' in
    let long = copies_long n k g' (el ∙ eg) in (
      copies k g',
      g' ∷ copies k g',
      long.1 ∙ sym (Rattle.std.proofs.Common.zero-add k),
      long.0,
      (refl, copies_linked k g'),
      ft (copies k g'),
    )
from_rounds p n (suc r) k g ss h ts eg (y, mid, round, rounds) f =
    let (G, G', e, long, link, ft) = from_rounds p n r k y mid h ts (round_keeps p g y ss mid round ∙ eg) rounds f in (
      y ∷ G,
      y ∷ G',
      ap suc e ∙ sym (Rattle.std.proofs.Common.suc-add r k),
      (round_keeps p g y ss mid round ∙ eg, long),
      (refl, link),
      fail_join p g (y ∷ G) ss mid y G' round ft,
    )
