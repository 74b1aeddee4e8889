use Rattle.std.proofs.Common.{refl, ◌∙◌, sym, arith}
use Rattle.trees.proofs.Counting.{counted_on, counted_at, all_counted}
use Rattle.std.proofs.Common.{List}
use Rattle.trees.specs.declared.tree.Name.{Name}
use Rattle.trees.specs.Trees.{name_of, names_of}
use Rattle.trees.proofs.names.number_of_name.Goals as goal

pub loop-name-preserved : goal.loop-name-preserved
loop-name-preserved g c = (
  omega (arith, c.loop-name.invariant.0),
  counted_on (λ (n : Name g.row.N.Denot). name_of n) (λ (l : List (Name g.row.N.Denot)). names_of l)
      (λ x xs. refl) refl c.args.text.now c.args.names.now c.loop-name.name-index c.loop-name.at _ c.name-item.result c.loop-name-test.true
      c.name-item.is
      (rw c.as_str.ensures.value at (sym c.eq.ensures ∙ c.if-eq.false)) c.loop-name.invariant.1,
)

pub returns : goal.returns
returns g c =
    all_counted (λ (n : Name g.row.N.Denot). name_of n) (λ (l : List (Name g.row.N.Denot)). names_of l)
    (λ x xs. refl) refl c.args.text.now c.args.names.now c.loop-name.name-index c.loop-name.at _ c.loop-name-test.false
    c.loop-name.invariant.1

pub returns-then-eq : goal.returns-then-eq
returns-then-eq g c =
    counted_at (λ (n : Name g.row.N.Denot). name_of n) (λ (l : List (Name g.row.N.Denot)). names_of l)
    (λ x xs. refl) refl c.args.text.now c.args.names.now c.loop-name.name-index c.loop-name.at _ c.name-item.result c.loop-name-test.true
    c.name-item.is
    (rw c.as_str.ensures.value at (sym c.eq.ensures ∙ c.if-eq.true)) c.loop-name.invariant.1
