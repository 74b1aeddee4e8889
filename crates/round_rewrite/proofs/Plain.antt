-- The machine whose rests carry no labels and no numbers, and that it makes the same steps.
use Rattle.std.proofs.Common.{◌≡◌, ℕ, zero, suc, ◌+◌, Bool, true, false, cond, List, [], ◌∷◌, map, Option, Some, None}
use Rattle.std.proofs.Common.{option_map, slice_get, refl, sym, ◌∙◌, ap, ap₂}
use mathlib.Core.Path.{fun_ext}
use Rattle.language.specs.Tree.{skip, assign, assert, assume, goto, leave, call, leave_with, call_for, Mark, done, one, choose, loop}
use Rattle.language.specs.Tree.{RightSide}
use Rattle.language.specs.Value.{Place, value_of, values_of, IsValue, AreValues, written_globals, written_locals}
use Rattle.language.specs.Rest.{Label, Code, join, rest_from, first_of_two, has_label}
use Rattle.language.specs.Step.{Routine, Program, Frame, frame, waiting, State, state, fresh, frame_size, result_of, with_result}
use Rattle.language.specs.Step.{given_back, AtRoutine, AtRest, body_of, StepsTo, AfterSteps}
use Rattle.language.specs.Sequential.{statements, marked, numbered}
use Rattle.round_rewrite.specs.Table.{no_mark}

-- the block without labels and numbers
abbrev pub bare : Code → Code
bare done = done
bare (one m s t) = one no_mark s (bare t)
bare (choose m r a b t) = choose no_mark r (bare a) (bare b) (bare t)
bare (loop m r a t) = loop no_mark r (bare a) (bare t)

abbrev pub bare_frame : Frame → Frame
bare_frame (frame c l rest) = frame c l (bare rest)
bare_frame (waiting c l x rest) = waiting c l x (bare rest)

abbrev pub bare_state : State → State
bare_state (state g fs) = state g (map bare_frame fs)

abbrev pub bare_routine : Routine → Routine
bare_routine r = record { places = r.places; gives = r.gives; body = bare r.body }

-- where calls and jumps lead to
pub record World : Type 0 where
  pub enters : ℕ → Option Routine
  pub jumps : ℕ → Label → Option Code

abbrev pub world_of : Program → World
world_of p = record {
  enters = λ c. option_map bare_routine (slice_get p.routines c);
  jumps = λ c x. option_map bare (rest_from x (body_of (slice_get p.routines c)) done);
}

abbrev pub PlainSteps : World → State → (State → Type 0) → Type 0
PlainSteps w (state g []) Q = ⊥
PlainSteps w (state g (waiting c l x t ∷ fs)) Q = ⊥
PlainSteps w (state g (frame c l done ∷ fs)) Q = Q (given_back (result_of (w.enters c) l) g fs)
PlainSteps w (state g (frame c l (one m skip t) ∷ fs)) Q = Q (state g (frame c l t ∷ fs))
PlainSteps w (state g (frame c l (one m (assign xs rs) t) ∷ fs)) Q =
    (vs : List Bool) × AreValues g l rs vs
    × Q (state (written_globals xs vs g) (frame c (written_locals xs vs l) t ∷ fs))
PlainSteps w (state g (frame c l (one m (assert r) t) ∷ fs)) Q = IsValue g l r true × Q (state g (frame c l t ∷ fs))
PlainSteps w (state g (frame c l (one m (assume r) t) ∷ fs)) Q = IsValue g l r true × Q (state g (frame c l t ∷ fs))
PlainSteps w (state g (frame c l (one m (goto x) t) ∷ fs)) Q = AtRest (w.jumps c x) (λ rest. Q (state g (frame c l rest ∷ fs)))
PlainSteps w (state g (frame c l (one m leave t) ∷ fs)) Q = Q (state g (frame c l done ∷ fs))
PlainSteps w (state g (frame c l (one m (call q es) t) ∷ fs)) Q =
    AtRoutine (w.enters q) (λ routine.
    Q (state g (frame q (fresh (frame_size routine) (values_of g l es)) routine.body ∷ frame c l t ∷ fs)))
PlainSteps w (state g (frame c l (one m (leave_with e) t) ∷ fs)) Q =
    Q (state g (frame c (with_result (w.enters c) l (value_of g l e)) done ∷ fs))
PlainSteps w (state g (frame c l (one m (call_for x q es) t) ∷ fs)) Q =
    AtRoutine (w.enters q) (λ routine.
    Q (state g (frame q (fresh (frame_size routine) (values_of g l es)) routine.body ∷ waiting c l x t ∷ fs)))
PlainSteps w (state g (frame c l (choose m r a b t) ∷ fs)) Q =
    (v : Bool) × IsValue g l r v × Q (state g (frame c l (cond v (join a t) (join b t)) ∷ fs))
PlainSteps w (state g (frame c l (loop m r a t) ∷ fs)) Q =
    (v : Bool) × IsValue g l r v × Q (state g (frame c l (cond v (join a (loop m r a t)) t) ∷ fs))

abbrev pub PlainAfter : World → ℕ → State → (State → Type 0) → Type 0
PlainAfter w zero s Q = Q s
PlainAfter w (suc n) s Q = PlainSteps w s (λ t. PlainAfter w n t Q)

pub bare-join : (a b : Code) → bare (join a b) ≡ join (bare a) (bare b)
bare-join done b = refl
bare-join (one m s t) b = ap (one no_mark s) (bare-join t b)
bare-join (choose m r x y t) b = ap (choose no_mark r (bare x) (bare y)) (bare-join t b)
bare-join (loop m r x t) b = ap (loop no_mark r (bare x)) (bare-join t b)

bare-branch : (v : Bool) (a b t : Code) → bare (cond v (join a t) (join b t)) ≡ cond v (join (bare a) (bare t)) (join (bare b) (bare t))
bare-branch true a b t = bare-join a t
bare-branch false a b t = bare-join b t

bare-again : (v : Bool) (m : Mark Label) (r : RightSide Place) (a t : Code)
    → bare (cond v (join a (loop m r a t)) t) ≡ cond v (join (bare a) (loop no_mark r (bare a) (bare t))) (bare t)
bare-again true m r a t = bare-join a (loop m r a t)
bare-again false m r a t = refl

at_rest : (o : Option Code) (Q : Code → Type 0) → AtRest o (λ rest. Q (bare rest)) ≡ AtRest (option_map bare o) Q
at_rest None Q = refl
at_rest (Some rest) Q = refl

at_routine : (o : Option Routine) (Q : Routine → Type 0)
    → AtRoutine o (λ r. Q (bare_routine r)) ≡ AtRoutine (option_map bare_routine o) Q
at_routine None Q = refl
at_routine (Some r) Q = refl

-- labels make no difference to results
result_bare : (o : Option Routine) (l : List Bool) → result_of o l ≡ result_of (option_map bare_routine o) l
result_bare None l = refl
result_bare (Some r) l = refl

with_result_bare : (o : Option Routine) (l : List Bool) (v : Bool) → with_result o l v ≡ with_result (option_map bare_routine o) l v
with_result_bare None l v = refl
with_result_bare (Some r) l v = refl

bare_given : (v : Bool) (g : List Bool) (fs : List Frame) → bare_state (given_back v g fs) ≡ given_back v g (map bare_frame fs)
bare_given v g [] = refl
bare_given v g (frame c l t ∷ fs) = refl
bare_given v g (waiting c l x t ∷ fs) = refl

-- a step is a step of the plain machine
pub plain_step : (p : Program) (s : State) (Q : State → Type 0)
    → StepsTo p s (λ u. Q (bare_state u)) ≡ PlainSteps (world_of p) (bare_state s) Q
plain_step p (state g (frame c l done ∷ fs)) Q =
    ap Q
    (bare_given (result_of (slice_get p.routines c) l) g fs
    ∙ ap (λ v. given_back v g (map bare_frame fs)) (result_bare (slice_get p.routines c) l))
plain_step p (state g (frame c l (one m (goto x) t) ∷ fs)) Q =
    at_rest (rest_from x (body_of (slice_get p.routines c)) done) (λ rest. Q (state g (frame c l rest ∷ map bare_frame fs)))
plain_step p (state g (frame c l (one m (call q es) t) ∷ fs)) Q =
    at_routine (slice_get p.routines q)
    (λ r. Q (state g (frame q (fresh (frame_size r) (values_of g l es)) r.body ∷ frame c l (bare t) ∷ map bare_frame fs)))
plain_step p (state g (frame c l (one m (leave_with e) t) ∷ fs)) Q =
    ap (λ z. Q (state g (frame c z done ∷ map bare_frame fs))) (with_result_bare (slice_get p.routines c) l (value_of g l e))
plain_step p (state g (frame c l (one m (call_for x q es) t) ∷ fs)) Q =
    at_routine (slice_get p.routines q)
    (λ r. Q (state g (frame q (fresh (frame_size r) (values_of g l es)) r.body ∷ waiting c l x (bare t) ∷ map bare_frame fs)))
plain_step p (state g (frame c l (choose m r a b t) ∷ fs)) Q =
    λ i. (v : Bool) × IsValue g l r v × Q (state g (frame c l (bare-branch v a b t i) ∷ map bare_frame fs))
plain_step p (state g (frame c l (loop m r a t) ∷ fs)) Q =
    λ i. (v : Bool) × IsValue g l r v × Q (state g (frame c l (bare-again v m r a t i) ∷ map bare_frame fs))
plain_step p _ Q = refl

-- so are n steps
pub plain_after : (p : Program) (n : ℕ) (s : State) (Q : State → Type 0)
    → AfterSteps p n s (λ u. Q (bare_state u)) ≡ PlainAfter (world_of p) n (bare_state s) Q
plain_after p zero s Q = refl
plain_after p (suc n) s Q =
    ap (StepsTo p s) (fun_ext (λ t. plain_after p n t Q))
    ∙ plain_step p s (λ t. PlainAfter (world_of p) n t Q)

pub bare-numbered : (n : ℕ) (b : Code) → bare (numbered n b) ≡ bare b
bare-numbered n done = refl
bare-numbered n (one m s t) = ap (one no_mark s) (bare-numbered (suc n) t)
bare-numbered n (choose m r a b t) =
    λ i. choose no_mark r (bare-numbered (suc n) a i) (bare-numbered (suc n + statements a) b i)
    (bare-numbered (suc n + (statements a + statements b)) t i)
bare-numbered n (loop m r a t) =
    λ i. loop no_mark r (bare-numbered (suc n) a i) (bare-numbered (suc n + statements a) t i)

pub map-first : {A B : Type 0} (f : A → B) (x y : Option A)
    → option_map f (first_of_two x y) ≡ first_of_two (option_map f x) (option_map f y)
map-first f None y = refl
map-first f (Some a) y = refl

module _ {A B C : Type 0} (f : A → C) (g : B → C) where
  -- two searches that agree where the label stands and after it
  pub found : (c : Bool) (x : A) (y : B) (o : Option A) (u : Option B) → f x ≡ g y
      → option_map f o ≡ option_map g u → option_map f (cond c (Some x) o) ≡ option_map g (cond c (Some y) u)
  found true x y o u e h = ap Some e
  found false x y o u e h = h

  pub firsts : (o o' : Option A) (u u' : Option B) → option_map f o ≡ option_map g u
      → option_map f o' ≡ option_map g u' → option_map f (first_of_two o o') ≡ option_map g (first_of_two u u')
  firsts o o' u u' e e' = map-first f o o' ∙ (ap₂ first_of_two e e' ∙ sym (map-first g u u'))

tails-numbered : (n : ℕ) (t k k' : Code) → bare k ≡ bare k' → bare (join (numbered n t) k) ≡ bare (join t k')
tails-numbered n t k k' e = bare-join (numbered n t) k ∙ (ap₂ join (bare-numbered n t) e ∙ sym (bare-join t k'))

-- numbers make no difference to where a jump leads
pub rest-numbered : (x : Label) (n : ℕ) (b k k' : Code) → bare k ≡ bare k'
    → option_map bare (rest_from x (numbered n b) k) ≡ option_map bare (rest_from x b k')
rest-numbered x n done k k' e = refl
rest-numbered x n (one m s t) k k' e =
    found bare bare (has_label x m) _ _ _ _ (ap (one no_mark s) (tails-numbered (suc n) t k k' e)) (rest-numbered x (suc n) t k k' e)
rest-numbered x n (choose m r a b t) k k' e =
    let nb : ℕ = suc n + statements a in
    let nt : ℕ = suc n + (statements a + statements b) in
    let tails : bare (join (numbered nt t) k) ≡ bare (join t k') = tails-numbered nt t k k' e in
    found bare bare (has_label x m) _ _ _ _
    (λ i. choose no_mark r (bare-numbered (suc n) a i) (bare-numbered nb b i) (tails i))
    (firsts bare bare _ _ _ _ (rest-numbered x (suc n) a (join (numbered nt t) k) (join t k') tails)
    (firsts bare bare _ _ _ _ (rest-numbered x nb b (join (numbered nt t) k) (join t k') tails)
    (rest-numbered x nt t k k' e)))
rest-numbered x n (loop m r a t) k k' e =
    let nt : ℕ = suc n + statements a in
    let tails : bare (join (numbered nt t) k) ≡ bare (join t k') = tails-numbered nt t k k' e in
    let wholes : loop no_mark r (bare (numbered (suc n) a)) (bare (join (numbered nt t) k)) ≡ loop no_mark r (bare a) (bare (join t k')) =
    λ i. loop no_mark r (bare-numbered (suc n) a i) (tails i) in
    found bare bare (has_label x m) _ _ _ _ wholes
    (firsts bare bare _ _ _ _
    (rest-numbered x (suc n) a (loop (marked n m) r (numbered (suc n) a) (join (numbered nt t) k)) (loop m r a (join t k')) wholes)
    (rest-numbered x nt t k k' e))
