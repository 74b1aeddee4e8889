use Rattle.std.proofs.Common.{List, refl, ◌∙◌, sym}
use Rattle.trees.specs.declared.tree.Name.{Name}
use Rattle.trees.specs.Trees.{name_of, names_of}
use Rattle.trees.proofs.Counting.{looked_on, looked_at, all_looked}
use Rattle.trees.proofs.names.declares.Goals as goal

pub loop-name-preserved : goal.loop-name-preserved
loop-name-preserved g c =
    looked_on (λ (n : Name g.row.N.Denot). name_of n) (λ (l : List (Name g.row.N.Denot)). names_of l)
    (λ x xs. refl) refl c.args.text.now c.args.names.now c.loop-name.name-index _ c.name-item.result c.loop-name-test.true
    c.name-item.is
    (rw c.as_str.ensures.value at (sym c.eq.ensures ∙ c.if-eq.false)) c.loop-name.invariant

pub returns-then-eq : goal.returns-then-eq
returns-then-eq g c =
    looked_at (λ (n : Name g.row.N.Denot). name_of n) (λ (l : List (Name g.row.N.Denot)). names_of l)
    (λ x xs. refl) refl c.args.text.now c.args.names.now c.loop-name.name-index _ c.name-item.result c.loop-name-test.true
    c.name-item.is
    (rw c.as_str.ensures.value at (sym c.eq.ensures ∙ c.if-eq.true)) c.loop-name.invariant

pub returns : goal.returns
returns g c =
    all_looked (λ (n : Name g.row.N.Denot). name_of n) (λ (l : List (Name g.row.N.Denot)). names_of l)
    (λ x xs. refl) refl c.args.text.now c.args.names.now c.loop-name.name-index _ c.loop-name-test.false c.loop-name.invariant
