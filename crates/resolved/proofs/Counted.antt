-- The places of the procedures of a program, counted.
use Rattle.std.proofs.Common.{◌≡◌, ℕ, zero, suc, ◌+◌, ◌<◌, ◌≤◌, Some, List, [], ◌∷◌, ◌++◌, length}
use Rattle.std.proofs.Common.{length-append, get_or, slice_get, cond, sym, ◌∙◌, ap, subst, arith, Bool, true, false}
use mir.Val.{bool_byte}
use Rattle.std.proofs.lemmas.List.{length-map}
use Rattle.std.specs.List.{AllByRecursion}
use Rattle.language.specs.Tree.{Procedure}
use Rattle.trees.specs.declared.tree.Name as declared
use Rattle.trees.specs.declared.tree.Proc.{Proc}
use Rattle.trees.specs.declared.tree.Program.{Program}
use Rattle.trees.specs.Trees.{name_of, names_of, block_of, proc_of, procs_of, tree_of}
use Rattle.language.specs.Resolve.{gives_value}
use Rattle.resolved.specs.Limits.{most_places}
use Rattle.resolved.specs.Narrow.{width, AllNarrow}

-- each procedure of a list has what all have
pub each_at : {A : Type 0} (P : Procedure → Type 0) (ss : List (Proc A)) (i : ℕ) (s : Proc A) → i < length ss → s ≡ get_or ss i s
    → AllByRecursion P (procs_of ss) → P (proc_of s)
each_at P [] i s lt is e = absurd (omega arith)
each_at P (x ∷ ss) zero s lt is e = subst (λ y. P (proc_of y)) (sym is) e.0
each_at P (x ∷ ss) (suc i) s lt is e = each_at P ss i s (omega arith) is e.1

-- the procedure at an index, as a tree
pub proc_there : {A : Type 0} (ss : List (Proc A)) (i : ℕ) (s : Proc A) → i < length ss → s ≡ get_or ss i s
    → slice_get (procs_of ss) i ≡ Some (proc_of s)
proc_there [] i s lt is = absurd (omega arith)
proc_there (x ∷ ss) zero s lt is = ap (λ y. Some (proc_of y)) (sym is)
proc_there (x ∷ ss) (suc i) s lt is = proc_there ss i s (omega arith) is

-- the globals of a program and the places of a procedure of it, counted
pub places_counted : {A : Type 0} (globals formals locals : List (declared.Name A))
    → length (names_of globals) + length (names_of formals ++ names_of locals) ≡ length globals + (length formals + length locals)
places_counted globals formals locals =
    let a : length (names_of formals ++ names_of locals) ≡ length (names_of formals) + length (names_of locals) =
    length-append (names_of formals) (names_of locals) in
    (λ i. length-map globals name_of i + (a ∙ (λ j. length-map formals name_of j + length-map locals name_of j)) i)

-- a Boolean counted as a number
pub as_number : (b c : Bool) → b ≡ c → bool_byte b ≡ cond c 1 0
as_number true c e = ap (λ z. cond z 1 0) e
as_number false c e = ap (λ z. cond z 1 0) e

-- the width of a procedure of a program, counted
pub width_counted : {A : Type 0} (program : Program A) (p : Proc A) → width (tree_of program) (proc_of p)
    ≡ (length program.globals.items + (length p.formals.items + length p.locals.items)) + cond (gives_value (block_of p.body.items)) 1 0
width_counted program p =
    three (length (names_of program.globals.items)) (length (names_of p.formals.items ++ names_of p.locals.items))
    (cond (gives_value (block_of p.body.items)) 1 0)
    (length program.globals.items + (length p.formals.items + length p.locals.items))
    (places_counted program.globals.items p.formals.items p.locals.items)
  where
    three : (a b c n : ℕ) → a + b ≡ n → a + (b + c) ≡ n + c
    three a b c n e = omega (arith, e)

-- it is at most 128 in a narrow program
pub places_few : {A : Type 0} (program : Program A) (i : ℕ) (p : Proc A) → i < length program.procs.items →
    p ≡ get_or program.procs.items i p → AllNarrow (tree_of program) →
    (length program.globals.items + (length p.formals.items + length p.locals.items)) + cond (gives_value (block_of p.body.items)) 1 0
    ≤ most_places
places_few program i p lt is narrow =
    subst (λ n. n ≤ most_places) (width_counted program p)
    (each_at (λ q. width (tree_of program) q ≤ most_places) program.procs.items i p lt is narrow)

-- the same with the result counted as a number
pub width_few : {A : Type 0} (program : Program A) (i : ℕ) (p : Proc A) (b : Bool) → b ≡ gives_value (block_of p.body.items)
    → i < length program.procs.items → p ≡ get_or program.procs.items i p → AllNarrow (tree_of program)
    → (length program.globals.items + (length p.formals.items + length p.locals.items)) + bool_byte b ≤ most_places
width_few program i p b given lt is narrow =
    let counted = as_number b (gives_value (block_of p.body.items)) given in
    omega (arith, counted, places_few program i p lt is narrow)
