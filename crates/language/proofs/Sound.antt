-- By due messages, what is reached is a path edge, and what is owed is due.
use Rattle.std.proofs.Common.{◌≡◌, ℕ, List, [], ◌∷◌, Bool, Option, Some, None, refl, sym, ◌∙◌, ap, subst, slice_get}
use Rattle.std.proofs.lemmas.Option.{none-some}
use Rattle.language.specs.Tree.{done, one, choose, loop}
use Rattle.language.specs.Rest.{Code, target_of}
use Rattle.language.specs.Step.{Routine, Program, frame, State, state, result_of, given_back, AtRoutine, body_of, Runs}
use Rattle.language.specs.Sequential.{Valuation, point_of, Calls, Asks, Entered, Edge, Exit}
use Rattle.language.specs.Sequential.{exit_of, resumed_with, Pair, Message, entry, caller, summary, IsDue}
use Rattle.language.specs.Flow.{after_first, caller_frame}
use Rattle.language.specs.Messages.{Reached, starts, flows, returns, Owes, asks, tells, AreDue, EdgeTo}
use Rattle.language.proofs.RunsOver.{runs_then, runs_step, runs_over, entering, returning, given_caller}
use Rattle.language.proofs.Runs.{no_steps}
use Rattle.language.proofs.Entering.{entered_comes, entered_there, due_entered}

-- a single frame of q, with the whole body left
abbrev pub alone : Program → ℕ → Valuation → State
alone p q a = state a.globals (frame q a.places (body_of (slice_get p.routines q)) ∷ [])

-- the same as a path edge, if the procedure's body is found by its number
abbrev pub Inside : Program → ℕ → Valuation → Valuation → Code → Type 0
Inside p q a v r = Entered p q a × Runs p (alone p q a) (state v.globals (frame q v.places r ∷ []))

at_body : (o : Option Routine) (routine : Routine) (P : Code → Type 0) → o ≡ Some routine → P (body_of o) → AtRoutine o (λ z. P z.body)
at_body None routine P e h = absurd (none-some routine e)
at_body (Some z) routine P e h = h

of_body : (o : Option Routine) (P : Code → Type 0) → AtRoutine o (λ z. P z.body) → P (body_of o)
of_body None P h = absurd h
of_body (Some z) P h = h

-- runs from a single frame of q with this body
abbrev RunsFrom : Program → ℕ → Valuation → State → Code → Type 0
RunsFrom p q a s body = Runs p (state a.globals (frame q a.places body ∷ [])) s

pub inside_edge : (p : Program) (q : ℕ) (a v : Valuation) (r : Code) → Inside p q a v r → EdgeTo p q a v r
inside_edge p q a v r (entered, run) =
    let there = entered_there p q a entered in
    (entered, at_body (slice_get p.routines q) there.0 (RunsFrom p q a (state v.globals (frame q v.places r ∷ []))) there.1 run)

pub edge_inside : (p : Program) (q : ℕ) (a v : Valuation) (r : Code) → EdgeTo p q a v r → Inside p q a v r
edge_inside p q a v r (entered, run) =
    (entered, of_body (slice_get p.routines q) (RunsFrom p q a (state v.globals (frame q v.places r ∷ []))) run)

-- some rest at this point is left where runs from a single frame of q with this body lead
abbrev SomeRest : Program → ℕ → Valuation → Option ℕ → Valuation → Code → Type 0
SomeRest p q a point v body = (r : Code) × (point ≡ point_of r) × RunsFrom p q a (state v.globals (frame q v.places r ∷ [])) body

pub some_edge : (p : Program) (q : ℕ) (a v : Valuation) (point : Option ℕ) (r : Code) → point ≡ point_of r → Inside p q a v r
    → Edge p q a point v
some_edge p q a v point r at (entered, run) =
    let there = entered_there p q a entered in
    (entered, at_body (slice_get p.routines q) there.0 (SomeRest p q a point v) there.1 (r, at, run))

pub edge_some : (p : Program) (q : ℕ) (a v : Valuation) (point : Option ℕ) → Edge p q a point v
    → (r : Code) × (point ≡ point_of r) × Inside p q a v r
edge_some p q a v point (entered, h) =
    let (r, at, run) = of_body (slice_get p.routines q) (SomeRest p q a point v) h in
    (r, at, (entered, run))

-- only the exit has no point
exit_alone : (r : Code) → None ≡ point_of r → r ≡ done
exit_alone done e = refl
exit_alone (one m s t) e = absurd (none-some m.at e)
exit_alone (choose m c a b t) e = absurd (none-some m.at e)
exit_alone (loop m c a t) e = absurd (none-some m.at e)

-- a pair is a path edge with nothing left to run
pub pair_inside : (p : Program) (q : ℕ) (a : Valuation) (b : Exit) → Pair p q a b →
    (l : List Bool) × (b.result ≡ result_of (slice_get p.routines q) l) × Inside p q a (record { globals = b.globals; places = l }) done
pair_inside p q a b (l, result, edge) =
    let (r, at, inside) = edge_some p q a (record { globals = b.globals; places = l }) None edge in
    (l, result, subst (Inside p q a (record { globals = b.globals; places = l })) (exit_alone r at) inside)

pub inside_pair : (p : Program) (q : ℕ) (a v : Valuation) → Inside p q a v done → Pair p q a (exit_of p q v)
inside_pair p q a v inside = (v.places, refl, some_edge p q a v None done refl inside)

-- after a call, what a pair of the procedure called leads to
behind : (p : Program) (q : ℕ) (a v e : Valuation) (r : Code) (s : ℕ) (b : Exit) → Inside p q a v r →
    Calls p v.globals v.places r s e → Pair p s e b →
    Inside p q a (resumed_with (target_of r) v b) (after_first r)
behind p q a v e r s b (entered, run) calls pair =
    let callers = caller_frame q v.places (target_of r) (after_first r) ∷ [] in
    let (l, result, (asked, inner)) = pair_inside p s e b pair in
    let called = runs_step p _ _ _ run (entering p q v r [] s e calls) in
    let ended = runs_then p _ _ _ called (runs_over p callers (alone p s e) (state b.globals (frame s l done ∷ [])) tt inner) in
    let gone = runs_step p _ _ _ ended (returning p s (record { globals = b.globals; places = l }) callers) in (
      entered,
      subst (Runs p (alone p q a))
          (ap (λ z. given_back z b.globals callers) (sym result) ∙ given_caller q v (target_of r) (after_first r) [] b) gone,
    )

pub reached_inside : (p : Program) (q : ℕ) (M : Message → Type 0) → AreDue p q M → (a v : Valuation) (r : Code) → Reached p q M a v r
    → Inside p q a v r
reached_inside p q M due _ _ _ (starts from a is) = (due_entered p q from a (due (entry from a) is), no_steps p (alone p q a))
reached_inside p q M due _ _ _ (flows a v v' r r' reached flow) =
    let (entered, run) = reached_inside p q M due a v r reached in
    (entered, runs_step p _ _ _ run flow)
reached_inside p q M due _ _ _ (returns a v e r s b reached calls is) =
    behind p q a v e r s b (reached_inside p q M due a v r reached) calls (due (summary s e b) is).1

-- if steps inside an entered procedure come to a call, the procedure asks for what it enters
pub inside_asks : (p : Program) (q : ℕ) (a v e : Valuation) (r : Code) (s : ℕ) → Inside p q a v r → Calls p v.globals v.places r s e
    → Asks p q s e
inside_asks p q a v e r s (entered, run) calls =
    let (fs, comes) = entered_comes p q a entered in (
      v.globals,
      v.places,
      r,
      fs,
      runs_then p _ _ _ comes (runs_over p fs (alone p q a) (state v.globals (frame q v.places r ∷ [])) tt run),
      calls,
    )

pub owed_due : (p : Program) (q : ℕ) (M : Message → Type 0) → AreDue p q M → (s : ℕ) (m : Message) → Owes p q M s m → IsDue p s m
owed_due p q M due _ _ (asks a v e r s reached calls) = inside_asks p q a v e r s (reached_inside p q M due a v r reached) calls
owed_due p q M due _ _ (tells a v s is reached) =
    (due (entry (caller s) a) is, inside_pair p q a v (reached_inside p q M due a v done reached))
