-- What is entered: by a run, and of a procedure that exists.
use Rattle.std.proofs.Common.{◌≡◌, ℕ, List, [], ◌∷◌, Bool, Option, Some, None, inl, inr, refl, sym, ◌∙◌, ap, subst}
use Rattle.std.proofs.Common.{slice_get}
use Rattle.std.proofs.lemmas.Option.{none-some}
use Rattle.language.specs.Tree.{Expression, one}
use Rattle.language.specs.Value.{Place, values_of}
use Rattle.language.specs.Rest.{Code, called_by, target_of}
use Rattle.language.specs.Step.{Routine, Program, Frame, frame, state, zeros, fresh, frame_size, AtRoutine, body_of}
use Rattle.language.specs.Rounds.{starting_stack}
use Rattle.language.specs.Sequential.{Valuation, Reaches, AtCall, Calls, Asks, IsZero, Entered, Caller, starter, caller, Message, entry}
use Rattle.language.specs.Sequential.{summary, IsDue}
use Rattle.language.specs.Flow.{IsRestOf, after_first, caller_frame}
use Rattle.language.proofs.RestMembers.{Follows}
use Rattle.language.proofs.Standing.{frame_stands}
use Rattle.language.proofs.StepKinds.{routine_found}
use Rattle.language.proofs.RunsOver.{runs_step, entering}

-- the procedure of this number is there
abbrev pub IsThere : Program → ℕ → Type 0
IsThere p q = (routine : Routine) × (slice_get p.routines q ≡ Some routine)

-- a rest that calls begins with the call, and what is entered has the values of its arguments
abbrev pub CallShape : Program → List Bool → List Bool → Code → ℕ → Valuation → Type 0
CallShape p g l r s e =
    (es : List (Expression Place)) × (called_by r ≡ Some (s, es))
    × AtRoutine (slice_get p.routines s) (λ routine. e ≡ record { globals = g; places = fresh (frame_size routine) (values_of g l es) })

-- the call that has the property
call_found : (o : Option (ℕ × List (Expression Place))) (P : ℕ → List (Expression Place) → Type 0) → AtCall o P
    → (n : ℕ) × (es : List (Expression Place)) × (o ≡ Some (n, es)) × P n es
call_found None P h = absurd h
call_found (Some (n, es)) P h = (n, es, refl, h)

pub call_shape : (p : Program) (g l : List Bool) (r : Code) (s : ℕ) (e : Valuation) → Calls p g l r s e → CallShape p g l r s e
call_shape p g l r s e calls =
    let (n, es, is, (same, h)) =
    call_found (called_by r)
    (λ n es.
    (n ≡ s) × AtRoutine (slice_get p.routines s) (λ z. e ≡ record { globals = g; places = fresh (frame_size z) (values_of g l es) }))
    calls in
    (es, is ∙ ap (λ z. Some (z, es)) same, h)

-- what comes after a call follows it
pub call_follows : (r : Code) (s : ℕ) (es : List (Expression Place)) → called_by r ≡ Some (s, es) → Follows r (after_first r)
call_follows (one m u t) s es e = refl
call_follows _ s es e = absurd (none-some (s, es) e)

-- what is called exists
pub callee_there : (p : Program) (g l : List Bool) (r : Code) (s : ℕ) (e : Valuation) → Calls p g l r s e → IsThere p s
callee_there p g l r s e calls =
    let (es, at, h) = call_shape p g l r s e calls in
    let (routine, is, more) =
    routine_found (slice_get p.routines s) (λ z. e ≡ record { globals = g; places = fresh (frame_size z) (values_of g l es) }) h in
    (routine, is)

-- what can be left to run of no procedure calls nothing
rest_there : (p : Program) (q : ℕ) (o : Option Routine) → slice_get p.routines q ≡ o → (g l : List Bool) (r : Code) (s : ℕ) (e : Valuation)
    →
    IsRestOf (body_of o) r → Calls p g l r s e → IsThere p q
rest_there p q None is g l r s e (inl same) calls = absurd (subst (λ z. Calls p g l z s e) same calls)
rest_there p q None is g l r s e (inr f) calls = absurd f
rest_there p q (Some routine) is g l r s e at calls = (routine, is)

-- the asking procedure exists
pub asker_there : (p : Program) (q s : ℕ) (e : Valuation) → Asks p q s e → IsThere p q
asker_there p q s e (g, l, r, fs, reaches, calls) =
    rest_there p q (slice_get p.routines q) refl g l r s e (frame_stands p g (frame q l r ∷ fs) q l r reaches (inl refl)) calls

-- the stack before the first step, if procedure n exists
start_is : (p : Program) (n : ℕ) (routine : Routine) → slice_get p.routines n ≡ Some routine →
    starting_stack p.routines n ≡ frame n (zeros (frame_size routine)) routine.body ∷ []
start_is p n routine e =
    ap (λ o. elim o as (λ x. List Frame) [ None ↦ [] | Some z ↦ frame n (zeros (frame_size z)) z.body ∷ [] ]) e

-- some run comes to the whole body of q, entered with a, over some callers
abbrev pub ComesTo : Program → ℕ → Valuation → Type 0
ComesTo p q a = (fs : List Frame) × Reaches p (state a.globals (frame q a.places (body_of (slice_get p.routines q)) ∷ fs))

zero_comes : (p : Program) (a : Valuation) → IsZero p a → ComesTo p 0 a
zero_comes p a begins =
    let (routine, is, same) =
    routine_found (slice_get p.routines 0) (λ z. a ≡ record { globals = zeros p.globals; places = zeros (frame_size z) }) begins in
    let begun : Reaches p (state (zeros p.globals) (frame 0 (zeros (frame_size routine)) routine.body ∷ [])) =
    (0, ap (state (zeros p.globals)) (start_is p 0 routine is)) in
    let bodied : Reaches p (state (zeros p.globals) (frame 0 (zeros (frame_size routine)) (body_of (slice_get p.routines 0)) ∷ [])) =
    subst (λ b. Reaches p (state (zeros p.globals) (frame 0 (zeros (frame_size routine)) b ∷ []))) (sym (ap body_of is)) begun in (
      [],
      subst (λ (z : Valuation). Reaches p (state z.globals (frame 0 z.places (body_of (slice_get p.routines 0)) ∷ []))) (sym same) bodied,
    )

-- some run comes to what is entered
pub entered_comes : (p : Program) (q : ℕ) (a : Valuation) → Entered p q a → ComesTo p q a
entered_comes p q a (inl (e, begins)) = subst (λ z. ComesTo p z a) (sym e) (zero_comes p a begins)
entered_comes p q a (inr (c, (g, l, r, fs, reaches, calls))) = (
  caller_frame c l (target_of r) (after_first r) ∷ fs,
  runs_step p _ _ _ reaches (entering p c (record { globals = g; places = l }) r fs q a calls),
)

-- what is entered exists
pub entered_there : (p : Program) (q : ℕ) (a : Valuation) → Entered p q a → IsThere p q
entered_there p q a (inl (e, begins)) =
    let (routine, is, same) =
    routine_found (slice_get p.routines 0) (λ z. a ≡ record { globals = zeros p.globals; places = zeros (frame_size z) }) begins in
    (routine, subst (λ z. slice_get p.routines z ≡ Some routine) (sym e) is)
entered_there p q a (inr (c, (g, l, r, fs, reaches, calls))) = callee_there p g l r q a calls

-- an entry that is due is entered
pub due_entered : (p : Program) (q : ℕ) (from : Caller) (a : Valuation) → IsDue p q (entry from a) → Entered p q a
due_entered p q starter a due = inl due
due_entered p q (caller c) a due = inr (c, due)

-- if a message is due, there is a procedure
pub due_there : (p : Program) (q : ℕ) (m : Message) → IsDue p q m → IsThere p q
due_there p q (entry from a) due = entered_there p q a (due_entered p q from a due)
due_there p q (summary s a b) due = asker_there p q s a due.0
