-- The least cause so far.
use Rattle.std.proofs.Common.{◌≡◌, ◌⊎◌, inl, inr, ◌≤◌, List, [], ◌∷◌, ◌++◌, Some, None, length, slice_get}
use Rattle.std.proofs.Common.{refl, sym, ap, subst, arith}
use Rattle.std.specs.Prelude.{Option}
use Rattle.language.specs.Lists.{Member}
use Rattle.language.proofs.Members.{member_append}
use Rattle.summaries.specs.declared.no_verdict.NoVerdict.{NoVerdict}
use Rattle.switchboard.specs.declared.calls.Cause.{Cause}
use Rattle.procedure_worker.specs.declared.outcome.End.{End}
use Rattle.procedure_worker.specs.declared.outcome.End.TheVariants.{Closed, Aborted, Failed}
use Rattle.std.proofs.Common.{Result, Ok, Err}
use Rattle.std.specs.Prelude.{IfOk, IfErr}
use Rattle.std.specs.Result.{IsErrAnd}
use Rattle.summaries.specs.Effects.{Effects}
use Rattle.summaries.specs.declared.no_verdict.NoVerdict.TheVariants as verdict
use Rattle.post_ledger.proofs.Histories.{at_seam}
use Rattle.switchboard.proofs.Settling.{get_front}
use Rattle.gather.specs.declared.gathering.Failure.{Failure}
use Rattle.gather.specs.Gathered.{rank_of, IsLeastOf, IsLesser, AllClosed, IsCause}

-- the cause that an end names
abbrev cause_in : (d : Cause) → End → Cause
cause_in d Closed = d
cause_in d Aborted = d
cause_in d (Failed c) = c

-- an end at the close, or at another's abort, names no cause
pub not_failed : (e : End) → (e ≡ Closed) ⊎ (e ≡ Aborted) → (c : Cause) → e ≡ Failed c → ⊥
not_failed e (inl is) c same = cc
not_failed e (inr is) c same = cc

-- no cause is named yet
pub none_least : IsLeastOf [] None
none_least c there = there

-- an end that names no cause changes nothing
pub same_least : (ends : List End) (e : End) (r : Option Failure) → ((c : Cause) → e ≡ Failed c → ⊥) → IsLeastOf ends r
    → IsLeastOf (ends ++ e ∷ []) r
same_least ends e None other least = λ c there. elim (member_append (Failed c) ends (e ∷ []) there) [
  | inl before ↦ least c before
  | inr (inl is) ↦ other c (sym is)
  | inr (inr never) ↦ never
]
same_least ends e (Some failure) other least = record {
  named = get_front ends (e ∷ []) failure.procedure (Failed failure.cause) least.named;
  least = λ c there. elim (member_append (Failed c) ends (e ∷ []) there) [
    | inl before ↦ least.least c before
    | inr (inl is) ↦ absurd (other c (sym is))
    | inr (inr never) ↦ absurd never
  ];
}

-- one more worker has failed
pub more_least : (ends : List End) (next : Failure) (r : Option Failure) (failure : Failure) → length ends ≡ next.procedure
    → IsLeastOf ends r → IsLesser r next failure → IsLeastOf (ends ++ Failed next.cause ∷ []) (Some failure)
more_least ends next r failure at least lesser = record {
  named = named r least lesser.either;
  least = λ c there. elim (member_append (Failed c) ends (Failed next.cause ∷ []) there) [
    | inl before ↦ below r least lesser.least c before
    | inr (inl same) ↦ subst (λ z. rank_of failure.cause ≤ rank_of z) (sym (ap (cause_in next.cause) same)) lesser.below
    | inr (inr never) ↦ absurd never
  ];
}
  where
    named : (r : Option Failure) → IsLeastOf ends r → (r ≡ Some failure) ⊎ (failure ≡ next)
        → slice_get (ends ++ Failed next.cause ∷ []) failure.procedure ≡ Some (Failed failure.cause)
    named r least (inr is) =
        subst (λ f. slice_get (ends ++ Failed next.cause ∷ []) f.procedure ≡ Some (Failed f.cause)) (sym is)
        (at_seam ends (Failed next.cause) [] next.procedure at)
    named r least (inl is) =
        get_front ends (Failed next.cause ∷ []) failure.procedure (Failed failure.cause) (subst (IsLeastOf ends) is least).named

    below : (r : Option Failure) → IsLeastOf ends r → ((f : Failure) → r ≡ Some f → rank_of failure.cause ≤ rank_of f.cause)
        → (c : Cause) → Member (Failed c) ends → rank_of failure.cause ≤ rank_of c
    below None none lower c before = absurd (none c before)
    below (Some old) least lower c before =
        let a = least.least c before in let b = lower old refl in omega (arith, a, b)

-- memory ran out, if no end names a cause
pub by_memory : (P : NoVerdict → Type 0) (ends : List End) (Q : Effects → Type 0) (r : Result Effects NoVerdict)
    → IsErrAnd r P → ((why : NoVerdict) → P why → why ≡ verdict.Memory) → AllClosed ends
    → IfOk r Q × IfErr r (IsCause ends)
by_memory P ends Q (Ok s) told is all = absurd told
by_memory P ends Q (Err why) told is all = (tt, inr (is why told, all))
