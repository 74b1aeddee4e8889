-- The numbers of statements do not matter.
use Rattle.std.proofs.Common.{◌≡◌, ◌↔◌, ℕ, zero, suc, ◌+◌, Bool, true, false, cond, List, [], ◌∷◌, ◌++◌, Option, Some, None, option_map}
use Rattle.std.proofs.Common.{map, slice_get}
use Rattle.std.proofs.Common.{refl, sym, ◌∙◌, ap, ap₂, subst}
use Rattle.std.proofs.lemmas.Option.{slice_get-map}
use Rattle.language.specs.Tree.{skip, assign, assert, assume, goto, leave, call, leave_with, call_for, done, one, choose, loop}
use Rattle.language.specs.Value.{value_of, values_of}
use Rattle.language.specs.Rest.{Label, Code, join, rest_from, first_of_two, has_label}
use Rattle.language.specs.Step.{Routine, Program, Frame, frame, waiting, State, state, zeros, fresh, frame_size, result_of, with_result}
use Rattle.language.specs.Step.{given_back}
use Rattle.language.specs.Step.{AtRoutine, AtRest, body_of, StepsTo, AfterSteps, Runs, Fails}
use Rattle.language.specs.Rounds.{starting_stack, Unsafe}
use Rattle.language.proofs.Runs.{steps_map, after_map, after_pick}
use Rattle.turns.specs.Between.{Between, begins, takes_turn, ends_round, FailsBelow}
use Rattle.turns.specs.Programs.{threads_of}
use Rattle.turns.proofs.ProgramLemmas.{runs_there, runs_back}
use Rattle.turns.proofs.UnsafeLemmas.{ComesToFail, turn_there, turn_back, unsafe_fails}
use Rattle.language.specs.Sequential.{marked, numbered, numbered_routine, in_text_order, statements}
use Rattle.turns.specs.Marks.{bare_code, bare_routine, bare_program, bare_frame, bare_state}

bare_join : (a b : Code) → bare_code (join a b) ≡ join (bare_code a) (bare_code b)
bare_join done b = refl
bare_join (one m s r) b = ap (one (marked 0 m) s) (bare_join r b)
bare_join (choose m c x y r) b = ap (choose (marked 0 m) c (bare_code x) (bare_code y)) (bare_join r b)
bare_join (loop m c x r) b = ap (loop (marked 0 m) c (bare_code x)) (bare_join r b)

cond_map : {A B : Type 0} (f : A → B) (t : Bool) (x y : Option A) → option_map f (cond t x y) ≡ cond t (option_map f x) (option_map f y)
cond_map f true x y = refl
cond_map f false x y = refl

first_map : {A B : Type 0} (f : A → B) (x y : Option A) → option_map f (first_of_two x y) ≡ first_of_two (option_map f x) (option_map f y)
first_map f None y = refl
first_map f (Some a) y = refl

bare_rest : (l : Label) (b k : Code) → rest_from l (bare_code b) (bare_code k) ≡ option_map bare_code (rest_from l b k)
bare_rest l done k = refl
bare_rest l (one m s r) k =
    ap₂ (cond (has_label l m)) (ap (λ z. Some (one (marked 0 m) s z)) (sym (bare_join r k))) (bare_rest l r k)
    ∙ sym (cond_map bare_code (has_label l m) (Some (one m s (join r k))) (rest_from l r k))
bare_rest l (choose m c x y r) k =
    ap₂ (cond (has_label l m)) (ap (λ z. Some (choose (marked 0 m) c (bare_code x) (bare_code y) z)) (sym (bare_join r k)))
    (ap₂ first_of_two (ap (rest_from l (bare_code x)) (sym (bare_join r k)) ∙ bare_rest l x (join r k))
    (ap₂ first_of_two (ap (rest_from l (bare_code y)) (sym (bare_join r k)) ∙ bare_rest l y (join r k)) (bare_rest l r k)
    ∙ sym (first_map bare_code (rest_from l y (join r k)) (rest_from l r k)))
    ∙ sym (first_map bare_code (rest_from l x (join r k)) (first_of_two (rest_from l y (join r k)) (rest_from l r k))))
    ∙ sym (cond_map bare_code (has_label l m) (Some (choose m c x y (join r k)))
    (first_of_two (rest_from l x (join r k)) (first_of_two (rest_from l y (join r k)) (rest_from l r k))))
bare_rest l (loop m c x r) k =
    ap₂ (cond (has_label l m)) (ap (λ z. Some (loop (marked 0 m) c (bare_code x) z)) (sym (bare_join r k)))
    (ap₂ first_of_two
    (ap (λ z. rest_from l (bare_code x) (loop (marked 0 m) c (bare_code x) z)) (sym (bare_join r k))
    ∙ bare_rest l x (loop m c x (join r k)))
    (bare_rest l r k)
    ∙ sym (first_map bare_code (rest_from l x (loop m c x (join r k))) (rest_from l r k)))
    ∙ sym
    (cond_map bare_code (has_label l m) (Some (loop m c x (join r k)))
    (first_of_two (rest_from l x (loop m c x (join r k))) (rest_from l r k)))

-- numbered code is the same without its numbers
bare_numbered : (n : ℕ) (b : Code) → bare_code (numbered n b) ≡ bare_code b
bare_numbered n done = refl
bare_numbered n (one m s r) = ap (one (marked 0 m) s) (bare_numbered (suc n) r)
bare_numbered n (choose m c x y r) =
    ap₂ (λ z w. z w) (ap₂ (λ x' y'. choose (marked 0 m) c x' y') (bare_numbered (suc n) x) (bare_numbered (suc n + statements x) y))
    (bare_numbered (suc n + (statements x + statements y)) r)
bare_numbered n (loop m c x r) = ap₂ (loop (marked 0 m) c) (bare_numbered (suc n) x) (bare_numbered (suc n + statements x) r)

bare_routines : (rs : List Routine) → map bare_routine (map numbered_routine rs) ≡ map bare_routine rs
bare_routines [] = refl
bare_routines (r ∷ rs) =
    ap₂ (λ b z. record { places = r.places; gives = r.gives; body = b } ∷ z) (bare_numbered 1 r.body) (bare_routines rs)

-- a program that is marked in text order is the same without its numbers
pub bare_in_order : (p : Program) → bare_program (in_text_order p) ≡ bare_program p
bare_in_order p = ap (λ rs. record { globals = p.globals; routines = rs; threads = p.threads }) (bare_routines p.routines)

bare_body : (o : Option Routine) → body_of (option_map bare_routine o) ≡ bare_code (body_of o)
bare_body None = refl
bare_body (Some r) = refl

bare_result : (o : Option Routine) (l : List Bool) → result_of (option_map bare_routine o) l ≡ result_of o l
bare_result None l = refl
bare_result (Some r) l = refl

bare_with : (o : Option Routine) (l : List Bool) (v : Bool) → with_result (option_map bare_routine o) l v ≡ with_result o l v
bare_with None l v = refl
bare_with (Some r) l v = refl

bare_given : (v : Bool) (g : List Bool) (fs : List Frame) → given_back v g (map bare_frame fs) ≡ bare_state (given_back v g fs)
bare_given v g [] = refl
bare_given v g (frame c l r ∷ fs) = refl
bare_given v g (waiting c l x r ∷ fs) = refl

bare_side : (t : Bool) (x y : Code) → cond t (bare_code x) (bare_code y) ≡ bare_code (cond t x y)
bare_side true x y = refl
bare_side false x y = refl

rest_there : (o : Option Code) (P : Code → Type 0) → AtRest (option_map bare_code o) P ↔ AtRest o (λ c. P (bare_code c))
rest_there None P = (λ h. h, λ h. h)
rest_there (Some c) P = (λ h. h, λ h. h)

routine_there : (o : Option Routine) (P : Routine → Type 0)
    → AtRoutine (option_map bare_routine o) P ↔ AtRoutine o (λ r. P (bare_routine r))
routine_there None P = (λ h. h, λ h. h)
routine_there (Some r) P = (λ h. h, λ h. h)

-- equal properties hold together
same_if : {A : Type 0} (P : A → Type 0) (x y : A) → x ≡ y → P x ↔ P y
same_if P x y e = (subst P e, subst P (sym e))

then_if : {A B C : Type 0} → A ↔ B → B ↔ C → A ↔ C
then_if f g = (λ a. g.0 (f.0 a), λ c. f.1 (g.1 c))

module _ (p : Program) where
  -- a step of the bare program from a bare state is a step of the program
  pub bare_step : (s : State) (Q : State → Type 0) → StepsTo (bare_program p) (bare_state s) Q ↔ StepsTo p s (λ u. Q (bare_state u))
  bare_step (state g []) Q = (λ h. h, λ h. h)
  bare_step (state g (waiting c l x r ∷ fs)) Q = (λ h. h, λ h. h)
  bare_step (state g (frame c l done ∷ fs)) Q =
      same_if Q _ _
      (ap (λ v. given_back v g (map bare_frame fs))
      (ap (λ o. result_of o l) (slice_get-map bare_routine p.routines c) ∙ bare_result (slice_get p.routines c) l)
      ∙ bare_given (result_of (slice_get p.routines c) l) g fs)
  bare_step (state g (frame c l (one m skip r) ∷ fs)) Q = (λ h. h, λ h. h)
  bare_step (state g (frame c l (one m (assign xs rs) r) ∷ fs)) Q = (λ h. h, λ h. h)
  bare_step (state g (frame c l (one m (assert side) r) ∷ fs)) Q = (λ h. h, λ h. h)
  bare_step (state g (frame c l (one m (assume side) r) ∷ fs)) Q = (λ h. h, λ h. h)
  bare_step (state g (frame c l (one m (goto x) r) ∷ fs)) Q =
      then_if
      (same_if (λ o. AtRest o (λ z. Q (state g (frame c l z ∷ map bare_frame fs)))) _ _
      (ap (λ b. rest_from x b done) (ap body_of (slice_get-map bare_routine p.routines c) ∙ bare_body (slice_get p.routines c))
      ∙ bare_rest x (body_of (slice_get p.routines c)) done))
      (rest_there (rest_from x (body_of (slice_get p.routines c)) done) (λ z. Q (state g (frame c l z ∷ map bare_frame fs))))
  bare_step (state g (frame c l (one m leave r) ∷ fs)) Q = (λ h. h, λ h. h)
  bare_step (state g (frame c l (one m (call q es) r) ∷ fs)) Q =
      then_if (same_if (λ o. AtRoutine o P) _ _ (slice_get-map bare_routine p.routines q)) (routine_there (slice_get p.routines q) P)
    where
      P : Routine → Type 0
      P r' = Q (state g (frame q (fresh (frame_size r') (values_of g l es)) r'.body ∷ frame c l (bare_code r) ∷ map bare_frame fs))
  bare_step (state g (frame c l (one m (leave_with e) r) ∷ fs)) Q =
      same_if (λ z. Q (state g (frame c z done ∷ map bare_frame fs))) _ _
      (ap (λ o. with_result o l (value_of g l e)) (slice_get-map bare_routine p.routines c)
      ∙ bare_with (slice_get p.routines c) l (value_of g l e))
  bare_step (state g (frame c l (one m (call_for x q es) r) ∷ fs)) Q =
      then_if (same_if (λ o. AtRoutine o P) _ _ (slice_get-map bare_routine p.routines q)) (routine_there (slice_get p.routines q) P)
    where
      P : Routine → Type 0
      P r' = Q (state g (frame q (fresh (frame_size r') (values_of g l es)) r'.body ∷ waiting c l x (bare_code r) ∷ map bare_frame fs))
  bare_step (state g (frame c l (choose m side a b r) ∷ fs)) Q = (
    λ (v, is, h). (v, is, subst At (to v) h),
    λ (v, is, h). (v, is, subst At (sym (to v)) h),
  )
    where
      At : Code → Type 0
      At z = Q (state g (frame c l z ∷ map bare_frame fs))

      to : (v : Bool)
          → cond v (join (bare_code a) (bare_code r)) (join (bare_code b) (bare_code r)) ≡ bare_code (cond v (join a r) (join b r))
      to v = ap₂ (cond v) (sym (bare_join a r)) (sym (bare_join b r)) ∙ bare_side v (join a r) (join b r)
  bare_step (state g (frame c l (loop m side a r) ∷ fs)) Q = (
    λ (v, is, h). (v, is, subst At (to v) h),
    λ (v, is, h). (v, is, subst At (sym (to v)) h),
  )
    where
      At : Code → Type 0
      At z = Q (state g (frame c l z ∷ map bare_frame fs))

      to : (v : Bool) → cond v (join (bare_code a) (loop (marked 0 m) side (bare_code a) (bare_code r))) (bare_code r)
          ≡ bare_code (cond v (join a (loop m side a r)) r)
      to v = ap (λ z. cond v z (bare_code r)) (sym (bare_join a (loop m side a r))) ∙ bare_side v (join a (loop m side a r)) r

abbrev first_or : {A : Type 0} → A → List A → A
first_or d [] = d
first_or d (x ∷ xs) = x

abbrev behind_first : {A : Type 0} → List A → List A
behind_first [] = []
behind_first (x ∷ xs) = xs

abbrev IsNone : {A : Type 0} → List A → Type 0
IsNone [] = Unit {0}
IsNone (x ∷ xs) = ⊥

cons_head : {A : Type 0} {x y : A} {xs ys : List A} → x ∷ xs ≡ y ∷ ys → x ≡ y
cons_head {A} {x} e = ap (first_or x) e

cons_tail : {A : Type 0} {x y : A} {xs ys : List A} → x ∷ xs ≡ y ∷ ys → xs ≡ ys
cons_tail e = ap behind_first e

nil_cons : {A : Type 0} {y : A} {ys : List A} → [] ≡ y ∷ ys → ⊥
nil_cons e = subst IsNone e tt

abbrev bare_stacks : List (List Frame) → List (List Frame)
bare_stacks stacks = map (map bare_frame) stacks

bare_append : (xs ys : List (List Frame)) → bare_stacks (xs ++ ys) ≡ bare_stacks xs ++ bare_stacks ys
bare_append [] ys = refl
bare_append (x ∷ xs) ys = ap (λ z. map bare_frame x ∷ z) (bare_append xs ys)

bare_started : (t : ℕ) (o : Option Routine) →
    elim (option_map bare_routine o) as (λ x. List Frame) [ None ↦ [] | Some z ↦ frame t (zeros (frame_size z)) z.body ∷ [] ]
    ≡ map bare_frame (elim o as (λ x. List Frame) [ None ↦ [] | Some z ↦ frame t (zeros (frame_size z)) z.body ∷ [] ])
bare_started t None = refl
bare_started t (Some r) = refl

bare_start : (rs : List Routine) (t : ℕ) → starting_stack (map bare_routine rs) t ≡ map bare_frame (starting_stack rs t)
bare_start rs t =
    ap (λ o. elim o as (λ x. List Frame) [ None ↦ [] | Some z ↦ frame t (zeros (frame_size z)) z.body ∷ [] ])
    (slice_get-map bare_routine rs t)
    ∙ bare_started t (slice_get rs t)

bare_starts : (rs : List Routine) (ts : List ℕ) → map (starting_stack (map bare_routine rs)) ts ≡ bare_stacks (map (starting_stack rs) ts)
bare_starts rs [] = refl
bare_starts rs (t ∷ ts) = ap₂ (λ x y. x ∷ y) (bare_start rs t) (bare_starts rs ts)

bare_fails : (s : State) → Fails (bare_state s) ↔ Fails s
bare_fails (state g []) = (λ h. h, λ h. h)
bare_fails (state g (waiting c l x r ∷ fs)) = (λ h. h, λ h. h)
bare_fails (state g (frame c l done ∷ fs)) = (λ h. h, λ h. h)
bare_fails (state g (frame c l (one m skip r) ∷ fs)) = (λ h. h, λ h. h)
bare_fails (state g (frame c l (one m (assign xs rs) r) ∷ fs)) = (λ h. h, λ h. h)
bare_fails (state g (frame c l (one m (assert side) r) ∷ fs)) = (λ h. h, λ h. h)
bare_fails (state g (frame c l (one m (assume side) r) ∷ fs)) = (λ h. h, λ h. h)
bare_fails (state g (frame c l (one m (goto x) r) ∷ fs)) = (λ h. h, λ h. h)
bare_fails (state g (frame c l (one m leave r) ∷ fs)) = (λ h. h, λ h. h)
bare_fails (state g (frame c l (one m (call q es) r) ∷ fs)) = (λ h. h, λ h. h)
bare_fails (state g (frame c l (one m (leave_with e) r) ∷ fs)) = (λ h. h, λ h. h)
bare_fails (state g (frame c l (one m (call_for x q es) r) ∷ fs)) = (λ h. h, λ h. h)
bare_fails (state g (frame c l (choose m side a b r) ∷ fs)) = (λ h. h, λ h. h)
bare_fails (state g (frame c l (loop m side a r) ∷ fs)) = (λ h. h, λ h. h)

module _ (p : Program) where
  bare_steps : (n : ℕ) (s : State) (Q : State → Type 0)
      → AfterSteps (bare_program p) n (bare_state s) Q ↔ AfterSteps p n s (λ u. Q (bare_state u))
  bare_steps zero s Q = (λ h. h, λ h. h)
  bare_steps (suc n) s Q =
      then_if (bare_step p s (λ t. AfterSteps (bare_program p) n t Q)) (
        steps_map p s (λ u. AfterSteps (bare_program p) n (bare_state u) Q) (λ u. AfterSteps p n u (λ w. Q (bare_state w)))
            (λ u. (bare_steps n u Q).0),
        steps_map p s (λ u. AfterSteps p n u (λ w. Q (bare_state w))) (λ u. AfterSteps (bare_program p) n (bare_state u) Q)
            (λ u. (bare_steps n u Q).1),
      )

  -- a run of the program is one of the bare program
  run_on : (s t : State) → Runs p s t → Runs (bare_program p) (bare_state s) (bare_state t)
  run_on s t (n, run) = (
    n,
    (bare_steps n s (λ u. u ≡ bare_state t)).1
        (after_map p n s (λ u. u ≡ t) (λ u. bare_state u ≡ bare_state t) (λ u e. ap bare_state e) run),
  )

  -- a run of the bare program from a bare state is one of the program
  run_back : (s t : State) → Runs (bare_program p) (bare_state s) t → (u : State) × Runs p s u × (bare_state u ≡ t)
  run_back s t (n, run) =
      let (u, steps, e) = after_pick p n s (λ u. bare_state u ≡ t) ((bare_steps n s (λ u. u ≡ t)).0 run) in
      (u, (n, steps), e)

  abbrev globals_in : State → List Bool
  globals_in (state g stack) = g

  abbrev stack_in : State → List Frame
  stack_in (state g stack) = stack

  between_on : (r : ℕ) (g : List Bool) (had left : List (List Frame)) → Between (threads_of p) r g had left
      → Between (threads_of (bare_program p)) r g (bare_stacks had) (bare_stacks left)
  between_on _ _ _ _ begins =
      subst (λ z. Between (threads_of (bare_program p)) zero (zeros p.globals) [] z) (bare_starts p.routines p.threads) begins
  between_on _ _ _ _ (takes_turn r g h had stack stack' left at run) =
      subst (λ z. Between (threads_of (bare_program p)) r h z (bare_stacks left)) (sym (bare_append had (stack' ∷ [])))
      (takes_turn r g h (bare_stacks had) (map bare_frame stack) (map bare_frame stack') (bare_stacks left)
      (between_on r g had (stack ∷ left) at)
      (runs_there (bare_program p) g h (map bare_frame stack) (map bare_frame stack')
      (run_on (state g stack) (state h stack') (runs_back p g h stack stack' run))))
  between_on _ _ _ _ (ends_round r g had at) = ends_round r g (bare_stacks had) (between_on r g had [] at)

  -- what is reached of the bare program is bare, and reached of the program
  abbrev Comes : ℕ → List Bool → List (List Frame) → List (List Frame) → Type 0
  Comes r g had' left' =
      (had : List (List Frame)) × (left : List (List Frame)) × Between (threads_of p) r g had left × (bare_stacks had ≡ had')
      × (bare_stacks left ≡ left')

  comes_on : (r : ℕ) (g h : List Bool) (had' : List (List Frame)) (stack₁ stack₂ : List Frame) (left' : List (List Frame))
      → Comes r g had' (stack₁ ∷ left') → Runs (bare_program p) (state g stack₁) (state h stack₂) → Comes r h (had' ++ stack₂ ∷ []) left'
  comes_on r g h had' stack₁ stack₂ left' (had, [], at, e, f) run = absurd (nil_cons f)
  comes_on r g h had' stack₁ stack₂ left' (had, stack ∷ left, at, e, f) run =
      let (u, run', same) =
      run_back (state g stack) (state h stack₂)
      (subst (λ z. Runs (bare_program p) (state g z) (state h stack₂)) (sym (cons_head f)) run) in (
        had ++ stack_in u ∷ [],
        left,
        subst (λ z. Between (threads_of p) r z (had ++ stack_in u ∷ []) left) (ap globals_in (bare_globals u) ∙ ap globals_in same)
            (takes_turn r g (globals_in u) had stack (stack_in u) left at
            (runs_there p g (globals_in u) stack (stack_in u) (subst (λ z. Runs p (state g stack) z) (whole u) run'))),
        bare_append had (stack_in u ∷ []) ∙ ap₂ (λ x y. x ++ y ∷ []) e (bare_in u ∙ ap stack_in same),
        cons_tail f,
      )
    where
      whole : (u : State) → u ≡ state (globals_in u) (stack_in u)
      whole (state a b) = refl

      bare_globals : (u : State) → state (globals_in u) [] ≡ state (globals_in (bare_state u)) []
      bare_globals (state a b) = refl

      bare_in : (u : State) → map bare_frame (stack_in u) ≡ stack_in (bare_state u)
      bare_in (state a b) = refl

  between_back : (r : ℕ) (g : List Bool) (had' left' : List (List Frame)) → Between (threads_of (bare_program p)) r g had' left'
      → Comes r g had' left'
  between_back _ _ _ _ begins = ([], map (starting_stack p.routines) p.threads, begins, refl, sym (bare_starts p.routines p.threads))
  between_back _ _ _ _ (takes_turn r g h had' stack stack' left' at run) =
      comes_on r g h had' stack stack' left' (between_back r g had' (stack ∷ left') at) (runs_back (bare_program p) g h stack stack' run)
  between_back _ _ _ _ (ends_round r g had' at) = round_back r g had' (between_back r g had' [] at)
    where
      round_back : (r : ℕ) (g : List Bool) (had' : List (List Frame)) → Comes r g had' [] → Comes (suc r) g [] had'
      round_back r g had' (had, [], at, e, f) = ([], had, ends_round r g had at, refl, e)
      round_back r g had' (had, stack ∷ left, at, e, f) = absurd (nil_cons (sym f))

  comes_there : (g : List Bool) (stack : List Frame) → ComesToFail p g stack → ComesToFail (bare_program p) g (map bare_frame stack)
  comes_there g stack (s, run, bad) = (bare_state s, run_on (state g stack) s run, (bare_fails s).1 bad)

  fails_there : (k : ℕ) → FailsBelow (threads_of p) k → FailsBelow (threads_of (bare_program p)) k
  fails_there k (r, small, g, had, stack, left, at, bad) = (
    r,
    small,
    g,
    bare_stacks had,
    map bare_frame stack,
    bare_stacks left,
    between_on r g had (stack ∷ left) at,
    turn_there (bare_program p) g (map bare_frame stack) (comes_there g stack (turn_back p g stack bad)),
  )

  comes_here : (g : List Bool) (stack stack' : List Frame) → map bare_frame stack ≡ stack' → ComesToFail (bare_program p) g stack'
      → ComesToFail p g stack
  comes_here g stack stack' same (s, run, bad) =
      let (u, run', e) = run_back (state g stack) s (subst (λ z. Runs (bare_program p) (state g z) s) (sym same) run) in
      (u, run', (bare_fails u).0 (subst Fails (sym e) bad))

  fails_here : (k : ℕ) → FailsBelow (threads_of (bare_program p)) k → FailsBelow (threads_of p) k
  fails_here k (r, small, g, had', stack', left', at, bad) = here (between_back r g had' (stack' ∷ left') at)
    where
      here : Comes r g had' (stack' ∷ left') → FailsBelow (threads_of p) k
      here (had, [], at', e, f) = absurd (nil_cons f)
      here (had, stack ∷ left, at', e, f) = (
        r,
        small,
        g,
        had,
        stack,
        left,
        at',
        turn_there p g stack (comes_here g stack stack' (cons_head f) (turn_back (bare_program p) g stack' bad)),
      )

  -- a program is unsafe if and only if it is without the numbers of its statements
  pub bare_unsafe : (k : ℕ) → Unsafe (bare_program p) k ↔ Unsafe p k
  bare_unsafe k =
      then_if (unsafe_fails (bare_program p) k) (then_if (fails_here k, fails_there k) ((unsafe_fails p k).1, (unsafe_fails p k).0))

-- a program that is marked in text order is unsafe if and only if it was before
pub order_unsafe : (p : Program) (k : ℕ) → Unsafe (in_text_order p) k ↔ Unsafe p k
order_unsafe p k =
    let f = bare_unsafe (in_text_order p) k in
    then_if (f.1, f.0)
    (then_if (same_if (λ q. Unsafe q k) (bare_program (in_text_order p)) (bare_program p) (bare_in_order p)) (bare_unsafe p k))
