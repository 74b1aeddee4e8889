-- In which procedures threads begin.
use Rattle.std.proofs.Common.{◌≡◌, ◌≤◌, ◌<◌, ◌+◌, ℕ, zero, suc, Bool, true, false, cond, List, [], ◌∷◌, ◌++◌, length, map, take, get_or}
use Rattle.std.proofs.Common.{slice_get, inl, inr, refl, ◌∙◌, ap, arith}
use Rattle.std.proofs.lemmas.List.{length-map}
use Rattle.language.specs.Tree.{Name, Procedure, ThreadLine, Tree}
use Rattle.language.specs.Rest.{same_text}
use Rattle.language.specs.Resolve.{number_of}
use Rattle.language.specs.Sequential.{sequential_of}
use Rattle.trees.specs.declared.tree.Proc.{Proc}
use Rattle.trees.specs.declared.tree.Thread.{Thread}
use Rattle.trees.specs.declared.tree.Program.{Program}
use Rattle.trees.specs.Trees.{procs_of, thread_of, tree_of}
use Rattle.resolved.specs.There.{IsThere}
use Rattle.checked.specs.Checked.{IsChecked}
use Rattle.checked.specs.declared.fault.ScopeFault.TheVariants as fault
use Rattle.source_graphs.proofs.Widths.{few_procedures}

-- the number of the procedure that a thread line names
abbrev pub number_in : {N : Type 0} → List (Proc N) → Thread N → ℕ
number_in procs thread = number_of (thread_of thread).name.text (map (λ (p : Procedure). p.name) (procs_of procs))

number_few : (text : List ℕ) (names : List Name) → number_of text names ≤ length names
number_few text [] = omega arith
number_few text (name ∷ names) = by (same_text text name.text) (number_few text names)
  where
    by : (b : Bool) → number_of text names ≤ length names → cond b 0 (suc (number_of text names)) ≤ suc (length names)
    by true rest = omega arith
    by false rest = omega (arith, rest)

pub number_small : {N : Type 0} (program : Program N) (text : List ℕ) → IsChecked (tree_of program)
    → number_of text (map (λ (p : Procedure). p.name) (procs_of program.procs.items)) < 256
number_small program text ok =
    let few = few_procedures (tree_of program) ok in
    let same = length-map (procs_of program.procs.items) (λ (p : Procedure). p.name) in
    let less = number_few text (map (λ (p : Procedure). p.name) (procs_of program.procs.items)) in
    omega (arith, few, same, less)

few_from : (lines : List ThreadLine) (k : ℕ) → ((n : ℕ) → IsThere (slice_get lines k) (λ (line : ThreadLine). line.at ≡ n) → ⊥)
    → length lines ≤ k
few_from [] k none = omega arith
few_from (line ∷ lines) zero none = absurd (none line.at refl)
few_from (line ∷ lines) (suc k) none = let rest : length lines ≤ k = few_from lines k none in omega (arith, rest)

-- a checked tree has at most 8 threads
pub few_threads : (t : Tree) → IsChecked t → length t.threads ≤ 8
few_threads t ok = few_from t.threads 8 (λ n there. ok (fault.TooMany n) (inr (inl there)))

-- one more of the first ones
pub map_more : {X Y : Type 0} (f : X → Y) (xs : List X) (i : ℕ) (d : X) → i < length xs
    → map f (take (i + 1) xs) ≡ map f (take i xs) ++ f (get_or xs i d) ∷ []
map_more f xs i d small = ap (λ k. map f (take k xs)) (let k : i + 1 ≡ suc i = omega arith in k) ∙ by xs i small
  where
    by : (xs : List _) (i : ℕ) → i < length xs → map f (take (suc i) xs) ≡ map f (take i xs) ++ f (get_or xs i d) ∷ []
    by [] i small = absurd (omega (arith, small))
    by (x ∷ xs) zero small = refl
    by (x ∷ xs) (suc i) small = ap (λ l. f x ∷ l) (by xs i (omega (arith, small)))

pub take_all : {X : Type 0} (xs : List X) (i : ℕ) → length xs ≤ i → take i xs ≡ xs
take_all [] zero few = refl
take_all [] (suc i) few = refl
take_all (x ∷ xs) zero few = absurd (omega (arith, few))
take_all (x ∷ xs) (suc i) few = ap (λ l. x ∷ l) (take_all xs i (omega (arith, few)))

-- what is read of a thread line
pub number_read : {N : Type 0} (procs procs' : List (Proc N)) (text : List ℕ) (thread : Thread N) (n : ℕ)
    → n ≡ number_of text (map (λ (p : Procedure). p.name) (procs_of procs')) → text ≡ (thread_of thread).name.text → procs' ≡ procs
    → n ≡ number_in procs thread
number_read procs procs' text thread n is same same' =
    is ∙ ap (λ z. number_of z (map (λ (p : Procedure). p.name) (procs_of procs'))) same
    ∙ ap (λ z. number_of (thread_of thread).name.text (map (λ (p : Procedure). p.name) (procs_of z))) same'

map_twice : {X Y Z : Type 0} (f : Y → Z) (h : X → Y) (xs : List X) → map (λ x. f (h x)) xs ≡ map f (map h xs)
map_twice f h [] = refl
map_twice f h (x ∷ xs) = ap (λ l. f (h x) ∷ l) (map_twice f h xs)

-- when all thread lines are read
pub threads_are : {N : Type 0} (program : Program N) (lines : List (Thread N)) (i : ℕ) (ps : List ℕ)
    → ps ≡ map (number_in program.procs.items) (take i lines) → length lines ≤ i → lines ≡ program.threads.items
    → ps ≡ (sequential_of (tree_of program)).threads
threads_are program lines i ps is all same =
    is ∙ ap (map (number_in program.procs.items)) (take_all lines i all ∙ same)
    ∙ map_twice (λ (line : ThreadLine). number_of line.name.text (map (λ (p : Procedure). p.name) (procs_of program.procs.items))) thread_of
    program.threads.items

pub threads_few : (t : Tree) → IsChecked t → (ps : List ℕ) → ps ≡ (sequential_of t).threads → length ps ≤ 8
threads_few t ok ps is =
    let few = few_threads t ok in
    let same = ap length is in
    let count = length-map t.threads (λ (line : ThreadLine). number_of line.name.text (map (λ (p : Procedure). p.name) t.procedures)) in
    omega (arith, few, same, count)
