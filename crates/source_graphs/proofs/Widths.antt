-- Procedures with few places, one after the other, and how many procedures a checked program has.
use Rattle.std.proofs.Common.{◌≡◌, ◌≤◌, ◌<◌, ℕ, zero, suc, true, false, Option, Some, None, List, [], ◌∷◌, length, take, get_or}
use Rattle.std.proofs.Common.{slice_get, is_some, inl, refl, subst, arith, true≢false}
use Rattle.std.proofs.lemmas.Bool.{false≢true}
use Rattle.std.proofs.lemmas.Option.{same_Some, none-some}
use Rattle.std.specs.List.{AllByRecursion}
use Rattle.language.specs.Tree.{Procedure, Tree}
use Rattle.trees.specs.declared.tree.Proc.{Proc}
use Rattle.trees.specs.Trees.{proc_of, procs_of}
use Rattle.resolved.specs.Limits.{most_places}
use Rattle.resolved.specs.Narrow.{width, AllNarrow}
use Rattle.resolved.specs.There.{IsThere}
use Rattle.checked.specs.Checked.{IsChecked}
use Rattle.checked.specs.declared.fault.ScopeFault.TheVariants as fault
use Rattle.source_graphs.specs.Wide.{IsFirstWide}
use Rattle.source_graphs.specs.declared.width.WideProcedure.{WideProcedure}

-- one procedure more that has what those before it have
pub one_more : {A : Type 0} (P : Procedure → Type 0) (ss : List (Proc A)) (i : ℕ) (s : Proc A) → i < length ss → s ≡ get_or ss i s
    → AllByRecursion P (take i (procs_of ss)) → P (proc_of s) → AllByRecursion P (take (suc i) (procs_of ss))
one_more P [] i s lt is all here = absurd (omega arith)
one_more P (x ∷ ss) zero s lt is all here = (subst (λ y. P (proc_of y)) is here, tt)
one_more P (x ∷ ss) (suc i) s lt is all here = (all.0, one_more P ss i s (omega arith) is all.1 here)

-- a member has what all have
member_has : (P : Procedure → Type 0) (ps : List Procedure) (i : ℕ) (p : Procedure) → slice_get ps i ≡ Some p → AllByRecursion P ps → P p
member_has P [] i p at all = absurd (none-some p at)
member_has P (q ∷ ps) zero p at all = subst P (same_Some q p at) all.0
member_has P (q ∷ ps) (suc i) p at all = member_has P ps i p at all.1

-- a program with a procedure that is too wide is not narrow
pub wide_is_not_narrow : (t : Tree) (o : Option WideProcedure) → IsFirstWide t o → is_some o ≡ true → AllNarrow t → ⊥
wide_is_not_narrow t None first some narrow = false≢true some
wide_is_not_narrow t (Some wide) (i, p, at, name, places, large, before) some narrow =
    let small : width t p ≤ most_places = member_has (λ (q : Procedure). width t q ≤ most_places) t.procedures i p at narrow in
    omega (arith, small, places, large)

-- a program without one is
pub not_wide_is_narrow : (t : Tree) (o : Option WideProcedure) → IsFirstWide t o → is_some o ≡ false → AllNarrow t
not_wide_is_narrow t None first none = first
not_wide_is_narrow t (Some wide) first none = absurd (true≢false none)

few_from : (ps : List Procedure) (k : ℕ) → ((n : ℕ) → IsThere (slice_get ps k) (λ (p : Procedure). p.name.at ≡ n) → ⊥) → length ps ≤ k
few_from [] k none = omega arith
few_from (p ∷ ps) zero none = absurd (none p.name.at refl)
few_from (p ∷ ps) (suc k) none = let rest : length ps ≤ k = few_from ps k none in omega (arith, rest)

-- a checked tree has at most 31 procedures
pub few_procedures : (t : Tree) → IsChecked t → length t.procedures ≤ 31
few_procedures t ok = few_from t.procedures 31 (λ n there. ok (fault.TooMany n) (inl there))
