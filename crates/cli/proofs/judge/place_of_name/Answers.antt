-- The name at a number is that of the procedure before it in the text, since `main__` is the first.
use Rattle.std.proofs.Common.{◌≡◌, ◌∙◌, ◌-◌, ℕ, suc, Some, ap, arith, length, option_map, refl, rules, slice_get, subst, sym}
use Rattle.std.proofs.lemmas.Option.{slice_get-map, slice_get_read}
use Rattle.language.specs.Tree.{Procedure}
use Rattle.trees.specs.Trees.{proc_of, tree_of}
use Rattle.trees.specs.declared.tree.Proc.{Proc}
use Rattle.trees.specs.declared.tree.Program.{Program}
use Rattle.cli.specs.Refused.{place_of_name}
use Rattle.cli.proofs.judge.place_of_name.Goals as goal

named : {A : Type 0} (p : Program A) (k n : ℕ) (x : Proc A) → suc k ≡ n → slice_get p.procs.items k ≡ Some x
    → Some x.name.at ≡ place_of_name (tree_of p) n
named p k n x next is =
    let at = option_map (λ (q : Procedure). q.name.at) in
    let found = ap at (slice_get-map proc_of p.procs.items k ∙ ap (option_map proc_of) is) in
    subst (λ m. Some x.name.at ≡ place_of_name (tree_of p) m) next (sym found)

pub returns : goal.returns
returns g c =
    let checked = c.args.program.now.program in
    let k = c.args.number - 1 in
    let x = c.in_ok-get.field-0.now in
    let ps = c.deref.result.now in
    let not_first = c.if-number-eq0.false in
    let next : suc k ≡ c.args.number = omega (arith, not_first) in
    let (below, is, same, within, rest) = c.in_ok-get.ensures.lookup in
    let here : slice_get ps k ≡ Some x = slice_get_read ps (length ps) k x refl within.0 is in
    let those : ps ≡ checked.procs.items = search rules in
    named checked k c.args.number x next (subst (λ l. slice_get l k ≡ Some x) those here)
