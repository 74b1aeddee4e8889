-- How wide the procedures of the rewritten program are, and how many there are.
use Rattle.std.proofs.Common.{◌≡◌, ℕ, zero, suc, ◌+◌, ◌<◌, ◌≤◌, cond, Some, inl, refl, slice_get, take, is_some, true≢false, List, [], ◌∷◌}
use Rattle.std.proofs.Common.{◌++◌, length, length-append, get_or, map, sym, ◌∙◌, ap, subst, arith}
use Rattle.std.proofs.lemmas.List.{length-map}
use Rattle.std.proofs.lemmas.Option.{same_Some}
use Rattle.std.specs.List.{AllByRecursion}
use Rattle.language.specs.Tree.{Name, Procedure, ThreadLine, Tree}
use Rattle.language.specs.Step.{frame_size}
use Rattle.language.specs.Resolve.{gives_value, routine_of}
use Rattle.trees.specs.declared.tree.Proc.{Proc}
use Rattle.trees.specs.Trees.{proc_of, procs_of}
use Rattle.checked.specs.declared.fault.ScopeFault.TheVariants as fault
use Rattle.checked.specs.Checked.{IsChecked}
use Rattle.resolved.specs.There.{IsThere}
use Rattle.round_rewrite.specs.Table.{numbers}
use Rattle.round_rewrite.specs.Places.{global_count}
use Rattle.round_rewrite.specs.Names.{by_names, drawn_name, rewritten_procedure, main_procedure, rewritten_tree}
use Rattle.resolved.specs.Narrow.{width}
use Rattle.round_rewrite.specs.Narrow.{rewritten_width, AreNarrow, IsNarrow}
use Rattle.round_rewrite.specs.Writing.{own_width, procedure_needs, IsOwnNarrow, AreFew}
use Rattle.round_rewrite.proofs.PlaceLemmas.{length-numbers, length-globals}
use Rattle.round_rewrite.proofs.ResultLemmas.{gives_rewritten, gives_main}
use Rattle.resolved.specs.Limits.{most_places}

own_places : (last : ℕ) (p : Procedure)
    → length ((rewritten_procedure last p).formals ++ (rewritten_procedure last p).locals)
    ≡ length p.formals + (length p.locals + procedure_needs p)
own_places last p =
    let temps = map drawn_name (numbers 0 (procedure_needs p)) in
    let t : length temps ≡ procedure_needs p = length-map (numbers 0 (procedure_needs p)) drawn_name
    ∙ length-numbers 0 (procedure_needs p) in
    length-append p.formals (p.locals ++ temps)
    ∙ ap (λ n. length p.formals + n) (length-append p.locals temps ∙ ap (λ n. length p.locals + n) t)

module _ (t : Tree) (last n : ℕ) (is : global_count (length t.globals) last ≡ n) where
  wide : length (rewritten_tree last t).globals ≡ n
  wide = length-globals last t.globals ∙ is

  -- what a procedure has when it is rewritten: the globals, and its own
  pub rewritten_places : (p : Procedure) → rewritten_width last t p ≡ n + own_width p
  rewritten_places p =
      let r : ℕ = cond (gives_value p.body) 1 0 in
      let sum : (length p.formals + (length p.locals + procedure_needs p)) + r ≡ own_width p = omega arith in
      λ i.
      wide i
      + ((λ j. own_places last p j + cond (gives_rewritten (by_names (p.formals ++ p.locals)) last p.body j) 1 0) ∙ sum) i

  into : (ps : List Procedure) → AreNarrow last t ps →
      AllByRecursion (λ p. width (rewritten_tree last t) p ≤ most_places) (map (rewritten_procedure last) ps)
  into [] e = e
  into (p ∷ ps) e = (e.0, into ps e.1)

  -- procedures that are narrow when they are rewritten, one by one
  out : (ps : List Procedure) → AllByRecursion (λ p. width (rewritten_tree last t) p ≤ most_places)
      (map (rewritten_procedure last) ps) → AreNarrow last t ps
  out [] e = e
  out (p ∷ ps) e = (e.0, out ps e.1)

  own : (ps : List Procedure) → AreNarrow last t ps → AllByRecursion (IsOwnNarrow n) ps
  own [] e = e
  own (p ∷ ps) e = (subst (λ z. z ≤ most_places) (rewritten_places p) e.0, own ps e.1)

  -- the first procedure has no places of its own
  no_result : frame_size (routine_of (rewritten_tree last t) (main_procedure last t)) ≡ 0
  no_result =
      ap (λ b. 0 + cond b 1 0)
      (gives_main Name (by_names []) last t.globals (map (λ (line : ThreadLine). line.name) t.threads))

  -- the program is narrow if the globals are at most 64 and each procedure of the source is when it is rewritten
  pub narrow : n ≤ most_places → AreNarrow last t t.procedures → IsNarrow last t
  narrow few e =
      let w = wide in
      let main : width (rewritten_tree last t) (main_procedure last t) ≤ most_places = omega (arith, w, few, no_result) in
      (main, into t.procedures e)

  pub narrow_globals : IsNarrow last t → n ≤ most_places
  narrow_globals e =
      let w = wide in
      let m : width (rewritten_tree last t) (main_procedure last t) ≤ most_places = e.0 in
      omega (arith, w, m, no_result)

  pub narrow_sources : IsNarrow last t → AreNarrow last t t.procedures
  narrow_sources e = out t.procedures e.1

  pub narrow_procedures : IsNarrow last t → AllByRecursion (IsOwnNarrow n) t.procedures
  narrow_procedures e = own t.procedures (narrow_sources e)

  -- one narrow procedure more
  pub narrow_more : {A : Type 0} (ss : List (Proc A)) (i : ℕ) (s : Proc A) → i < length ss → s ≡ get_or ss i s →
      AreNarrow last t (take i (procs_of ss)) → rewritten_width last t (proc_of s) ≤ most_places →
      AreNarrow last t (take (suc i) (procs_of ss))
  narrow_more [] i s lt is e h = absurd (omega arith)
  narrow_more (x ∷ ss) zero s lt is e h = (subst (λ y. rewritten_width last t (proc_of y) ≤ most_places) is h, tt)
  narrow_more (x ∷ ss) (suc i) s lt is e h = (e.0, narrow_more ss i s (omega arith) is e.1 h)

  -- a procedure that is too wide is not one of those that are narrow
  pub wide_stands : (ps : List Procedure) (i : ℕ) (p : Procedure) → slice_get ps i ≡ Some p →
      most_places < rewritten_width last t p →
      AreNarrow last t ps → ⊥
  wide_stands [] i p at large e = absurd (true≢false (ap is_some (sym at)))
  wide_stands (q ∷ ps) zero p at large e =
      let same : q ≡ p = same_Some q p at in
      let small : rewritten_width last t p ≤ most_places = subst (λ r. rewritten_width last t r ≤ most_places) same e.0 in
      omega (arith, large, small)
  wide_stands (q ∷ ps) (suc i) p at large e = wide_stands ps i p at large e.1

-- a narrow program needs few temporaries
pub few_needs : (n : ℕ) (ps : List Procedure) → AllByRecursion (IsOwnNarrow n) ps → AreFew ps
few_needs n [] e = tt
few_needs n (p ∷ ps) e = (
  let h : n + own_width p ≤ most_places =
      e.0 in let k : procedure_needs p ≤ most_places = omega (arith, h) in k,
  few_needs n ps e.1,
)

few_from : (ps : List Procedure) (k : ℕ) → ((n : ℕ) → IsThere (slice_get ps k) (λ p. p.name.at ≡ n) → ⊥) → length ps ≤ k
few_from [] k h = omega arith
few_from (p ∷ ps) zero h = absurd (h p.name.at refl)
few_from (p ∷ ps) (suc k) h = let z : length ps ≤ k = few_from ps k h in omega arith

-- a checked tree has at most 31 procedures
pub few_procedures : (t : Tree) → IsChecked t → length t.procedures ≤ 31
few_procedures t ok = few_from t.procedures 31 (λ n h. ok (fault.TooMany n) (inl h))

-- the procedures of a program that is a tree rewritten, counted
pub count_rewritten : {A : Type 0} (last : ℕ) (t : Tree) (ps : List (Proc A)) → procs_of ps ≡ (rewritten_tree last t).procedures
    → length ps ≡ suc (length t.procedures)
count_rewritten last t ps e = sym (length-map ps proc_of) ∙ (ap length e ∙ ap suc (length-map t.procedures (rewritten_procedure last)))
