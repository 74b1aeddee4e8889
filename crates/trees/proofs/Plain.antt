-- A statement that is neither an `if` nor a `while` holds no others.
use Rattle.std.proofs.Common.{◌≡◌, sym, ◌∙◌, ap}
use Rattle.std.specs.declared.vec.Vec.{Vec}
use Rattle.language.specs.Tree as tree
use Rattle.language.specs.Tree.{Simple, skip, assign, assert, assume, goto, leave, call, call_for, leave_with}
use Rattle.trees.specs.Trees.{simple, deed_of, name_of, names_of, rhs_of, rhss_of, expr_of, exprs_of}
use Rattle.trees.specs.declared.tree.Rhs.{Rhs}
use Rattle.trees.specs.declared.tree.Core.{Core}
use Rattle.trees.specs.declared.tree.Stmt.{Stmt}
use Rattle.trees.specs.declared.tree.Core.TheVariants.{If, While, rolls-Assign, rolls-Skip, rolls-Assert, rolls-If, rolls-While}
use Rattle.trees.specs.declared.tree.Core.TheVariants.{rolls-Assume, rolls-Goto, rolls-Return, rolls-Call, rolls-CallTo, rolls-Give}
use Rattle.trees.specs.declared.tree.Core.TheOpen as layer
use Rattle.trees.specs.declared.tree.Core.TheOpen.{Core-F}
use Rattle.trees.specs.declared.tree.Core.TheViews.{out-Core, roll-Core, roll-out-Core}
use Rattle.trees.proofs.Folds.{deed_of-Skip, deed_of-Assign, deed_of-Assert, deed_of-Assume, deed_of-Goto, deed_of-Return, deed_of-Call}
use Rattle.trees.proofs.Folds.{deed_of-CallTo, deed_of-Give}

by_layer : {A : Type 0} (c : Core A) (l : Core-F A (Core A) (Stmt A)) → roll-Core A l ≡ c →
    ((r : Rhs A) (a b : Vec (Stmt A) A) → c ≡ If r a b → ⊥) → ((r : Rhs A) (a : Vec (Stmt A) A) → c ≡ While r a → ⊥) →
    (x : Simple tree.Name tree.Name tree.Name) × (deed_of c ≡ simple x)
by_layer {A} c layer.Skip e no_if no_while = (skip, ap deed_of (sym e ∙ rolls-Skip) ∙ deed_of-Skip A)
by_layer c (layer.Assign xs rs) e no_if no_while =
    (assign (names_of xs.items) (rhss_of rs.items), ap deed_of (sym e ∙ rolls-Assign xs rs) ∙ deed_of-Assign xs rs)
by_layer c (layer.If r a b) e no_if no_while = absurd (no_if r a b (sym e ∙ rolls-If r a b))
by_layer c (layer.While r a) e no_if no_while = absurd (no_while r a (sym e ∙ rolls-While r a))
by_layer c (layer.Assert r) e no_if no_while = (assert (rhs_of r), ap deed_of (sym e ∙ rolls-Assert r) ∙ deed_of-Assert r)
by_layer c (layer.Assume r) e no_if no_while = (assume (rhs_of r), ap deed_of (sym e ∙ rolls-Assume r) ∙ deed_of-Assume r)
by_layer c (layer.Goto x) e no_if no_while = (goto (name_of x), ap deed_of (sym e ∙ rolls-Goto x) ∙ deed_of-Goto x)
by_layer {A} c layer.Return e no_if no_while = (leave, ap deed_of (sym e ∙ rolls-Return) ∙ deed_of-Return A)
by_layer c (layer.Call p es) e no_if no_while =
    (call (name_of p) (exprs_of es.items), ap deed_of (sym e ∙ rolls-Call p es) ∙ deed_of-Call p es)
by_layer c (layer.CallTo x p es) e no_if no_while =
    (call_for (name_of x) (name_of p) (exprs_of es.items), ap deed_of (sym e ∙ rolls-CallTo x p es) ∙ deed_of-CallTo x p es)
by_layer c (layer.Give v) e no_if no_while = (leave_with (expr_of v), ap deed_of (sym e ∙ rolls-Give v) ∙ deed_of-Give v)

pub is_simple : {A : Type 0} (c : Core A) → ((r : Rhs A) (a b : Vec (Stmt A) A) → c ≡ If r a b → ⊥)
    → ((r : Rhs A) (a : Vec (Stmt A) A) → c ≡ While r a → ⊥) →
    (x : Simple tree.Name tree.Name tree.Name) × (deed_of c ≡ simple x)
is_simple {A} c no_if no_while = by_layer c (out-Core A c) (roll-out-Core A c) no_if no_while
