-- The procedures of a tree as a sequential program: one for each, as wide, and each call has a place for each argument.
use Rattle.std.proofs.Common.{◌≡◌, ℕ, zero, suc, ◌+◌, ◌≤◌, List, [], ◌∷◌, ◌++◌, length, map, Option, Some, None}
use Rattle.std.proofs.Common.{slice_get, option_map, inl, inr, refl, sym, ◌∙◌, ap, subst}
use Rattle.std.proofs.lemmas.List.{length-map}
use Rattle.std.proofs.lemmas.Option.{none-some, same_Some}
use Rattle.std.specs.List.{AllByRecursion}
use Rattle.language.specs.Tree.{Expression, RightSide, Simple, call, call_for}
use Rattle.language.specs.Tree.{done, one, choose, loop, Procedure, Tree}
use Rattle.language.specs.Value.{Place}
use Rattle.language.specs.Rest.{Label, Code, join, called_by}
use Rattle.language.specs.Step.{Routine, Program, AtRoutine, frame_size, body_of}
use Rattle.language.specs.Resolve.{routine_of, scope_of, resolve_block, gives_value}
use Rattle.language.specs.Sequential.{numbered, numbered_routine, sequential_of}
use Rattle.language.specs.Flow.{rests, IsRestOf}
use Rattle.language.specs.Lists.{Member}
use Rattle.language.specs.Messages.{ArgumentsFit}
use Rattle.language.proofs.Members.{member_append}
use Rattle.resolved.specs.Narrow.{width, AllNarrow}
use Rattle.resolved.specs.Resolves.{Resolves}
use Rattle.resolved.specs.Scoped.{SideInScope, Throughout}
use Rattle.resolved.specs.Complete.{SimpleComplete, RoutineComplete, IsComplete}
use Rattle.resolved.proofs.Each.{each_at}
use Rattle.resolved.proofs.Completing.{resolving_complete}
use Rattle.resolved.specs.Limits.{most_places}

module _ (S : Simple Place ℕ Label → Type 0) (R : RightSide Place → Type 0) where
  -- the first statement has the one property, or its right side the other
  abbrev Heads : Code → Type 0
  Heads done = Unit {0}
  Heads (one m s t) = S s
  Heads (choose m r a b t) = R r
  Heads (loop m r a t) = R r

  -- what each statement of a block has, the first of each of its rests has
  heads : (b k r : Code) → Throughout S R b → Member r (rests b k) → Heads r
  heads done k r h f = absurd f
  heads (one m s t) k r h (inr f) = heads t k r h.1 f
  heads (choose m c a b t) k r h (inr f) =
      elim (member_append r (rests a (join t k)) (rests b (join t k) ++ rests t k) f) [
        | inl g ↦ heads a (join t k) r h.1 g
        | inr g ↦ elim (member_append r (rests b (join t k)) (rests t k) g) [
          | inl i ↦ heads b (join t k) r h.2 i
          | inr i ↦ heads t k r h.3 i
        ]
      ]
  heads (loop m c a t) k r h (inr f) =
      elim (member_append r (rests a (loop m c a (join t k))) (rests t k) f) [
        | inl g ↦ heads a (loop m c a (join t k)) r h.1 g
        | inr g ↦ heads t k r h.2 g
      ]
  heads _ k r h (inl e) = subst Heads (sym e) h.0

-- a complete call is of a procedure that is there, with a place for each argument
call_fits : (rs : List Routine) (globals : ℕ) (own : Routine) (r : Code) (n : ℕ) (es : List (Expression Place))
    → called_by r ≡ Some (n, es)
    → Heads (SimpleComplete rs globals own) (SideInScope globals own.places) r
    → AtRoutine (slice_get rs n) (λ z. length es ≤ z.places)
call_fits rs globals own (one m (call k ks) t) n es e h =
    subst (λ (c : ℕ × List (Expression Place)). AtRoutine (slice_get rs c.0) (λ z. length c.1 ≤ z.places))
    (same_Some (k, ks) (n, es) e)
    h.scope.callee
call_fits rs globals own (one m (call_for x k ks) t) n es e h =
    subst (λ (c : ℕ × List (Expression Place)). AtRoutine (slice_get rs c.0) (λ z. length c.1 ≤ z.places))
    (same_Some (k, ks) (n, es) e)
    h.scope.callee
call_fits rs globals own _ n es e h = absurd (none-some (n, es) e)

-- if a program is complete, each call in a body has a place for each argument
complete_fit : (p : Program) → IsComplete p → ArgumentsFit p
complete_fit p complete q n r es rest calls = at (slice_get p.routines q) refl rest
  where
    member : (b : Code) → IsRestOf b r → Member r (rests b done)
    member b (inl e) = absurd (none-some (n, es) (sym (ap called_by e) ∙ calls))
    member b (inr f) = f

    at : (o : Option Routine) → slice_get p.routines q ≡ o → IsRestOf (body_of o) r
        → AtRoutine (slice_get p.routines n) (λ z. length es ≤ z.places)
    at None e rest = absurd (member done rest)
    at (Some routine) e rest =
        let whole : RoutineComplete p.routines p.globals routine = each_at
        (RoutineComplete p.routines p.globals) p.routines q routine complete.routines e in
        call_fits p.routines p.globals routine r n es calls
        (heads (SimpleComplete p.routines p.globals routine) (SideInScope p.globals routine.places) routine.body done r whole
        (member routine.body rest))

pub resolving_fit : (t : Tree) → Resolves t → ArgumentsFit (sequential_of t)
resolving_fit t h = complete_fit (sequential_of t) (resolving_complete t h)

-- a procedure as one of a sequential program
abbrev pub sequential_routine : Tree → Procedure → Routine
sequential_routine t p = record {
  places = length (p.formals ++ p.locals);
  gives = gives_value p.body;
  body = numbered 1 (resolve_block (scope_of t p) p.body);
}

-- there is one for each procedure
pub routines_counted : (t : Tree) → length (sequential_of t).routines ≡ length t.procedures
routines_counted t =
    length-map (map (routine_of t) t.procedures) numbered_routine ∙ length-map t.procedures (routine_of t)

-- the one with a number is that of the procedure with this number
pub routine_at : (t : Tree) (q : ℕ) (p : Procedure) → slice_get t.procedures q ≡ Some p
    → slice_get (sequential_of t).routines q ≡ Some (sequential_routine t p)
routine_at t q p e = go t.procedures q e
  where
    go : (ps : List Procedure) (q : ℕ) → slice_get ps q ≡ Some p
        → slice_get (map numbered_routine (map (routine_of t) ps)) q ≡ Some (sequential_routine t p)
    go [] q e = absurd (none-some p e)
    go (x ∷ ps) zero e = ap (option_map (sequential_routine t)) e
    go (x ∷ ps) (suc q) e = go ps q e

-- if a procedure exists, so does the one with its number
pub procedure_at : (t : Tree) (q : ℕ) (r : Routine) → slice_get (sequential_of t).routines q ≡ Some r
    → (p : Procedure) × (slice_get t.procedures q ≡ Some p) × (r ≡ sequential_routine t p)
procedure_at t q r e = go t.procedures q e
  where
    go : (ps : List Procedure) (q : ℕ) → slice_get (map numbered_routine (map (routine_of t) ps)) q ≡ Some r
        → (p : Procedure) × (slice_get ps q ≡ Some p) × (r ≡ sequential_routine t p)
    go [] q e = absurd (none-some r e)
    go (x ∷ ps) zero e = (x, refl, sym (same_Some (sequential_routine t x) r e))
    go (x ∷ ps) (suc q) e = go ps q e

-- in a narrow tree the globals and what a frame of each procedure has are at most 128
pub narrow_places : (t : Tree) → AllNarrow t → (q : ℕ) (r : Routine) → slice_get (sequential_of t).routines q ≡ Some r →
    (sequential_of t).globals + frame_size r ≤ most_places
narrow_places t narrow q r e =
    let (p, is, same) = procedure_at t q r e in
    subst (λ (z : Routine). length t.globals + frame_size z ≤ most_places) (sym same) (go t.procedures q p narrow is)
  where
    go : (ps : List Procedure) (q : ℕ) (p : Procedure) → AllByRecursion (λ (p : Procedure). width t p ≤ most_places) ps →
        slice_get ps q ≡ Some p → width t p ≤ most_places
    go [] q p h e = absurd (none-some p e)
    go (x ∷ ps) zero p h e = subst (λ y. width t y ≤ most_places) (same_Some x p e) h.0
    go (x ∷ ps) (suc q) p h e = go ps q p h.1 e
