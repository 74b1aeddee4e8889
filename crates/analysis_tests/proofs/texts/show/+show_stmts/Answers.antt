use Rattle.std.proofs.Common.{◌≡◌, ◌∙◌, ap, ℕ, ◌+◌, ◌<◌, List, length, get_or, arith}
use Rattle.std.specs.declared.vec.Vec.{Vec}
use Rattle.language.specs.Sequential.{statements}
use Rattle.trees.specs.Trees.{deed_of, block_of}
use Rattle.trees.specs.declared.tree.Rhs.{Rhs}
use Rattle.trees.specs.declared.tree.Stmt.{Stmt}
use Rattle.trees.specs.declared.tree.Core.TheVariants.{If, While}
use Rattle.trees.proofs.Folds.{deed_of-If, deed_of-While}
use Rattle.trees.proofs.Held.{held, smaller}
use Rattle.analysis_tests.proofs.texts.show.+show_stmts.Goals as goal

-- the branches of an `if` together hold fewer statements than a list that has the `if`
branches_fall : {A : Type 0} (l : List (Stmt A)) (i : ℕ) (s : Stmt A) (r : Rhs A) (a b : Vec (Stmt A) A) → i < length l → s ≡
    get_or l i s → s.core ≡ If r a b
    → statements (block_of a.items) + statements (block_of b.items) < statements (block_of l)
branches_fall l i s r a b below is core =
    let less = smaller l i s below is in
    let e : held (deed_of s.core) ≡ statements (block_of a.items) + statements (block_of b.items) = ap (λ k. held (deed_of k))
    core ∙ ap held (deed_of-If r a b) in
    omega (arith, less, e)

-- the body of a `while` holds fewer statements than a list that has the `while`
body_falls : {A : Type 0} (l : List (Stmt A)) (i : ℕ) (s : Stmt A) (r : Rhs A) (a : Vec (Stmt A) A) → i < length l → s ≡ get_or l
    i s → s.core ≡ While r a
    → statements (block_of a.items) < statements (block_of l)
body_falls l i s r a below is core =
    let less = smaller l i s below is in
    let e : held (deed_of s.core) ≡ statements (block_of a.items) + 0 = ap (λ k. held (deed_of k)) core ∙ ap held (deed_of-While r a) in
    omega (arith, less, e)

first_falls : (a b n : ℕ) → a + b < n → a < n
first_falls a b n below = omega (arith, below)

second_falls : (a b n : ℕ) → a + b < n → b < n
second_falls a b n below = omega (arith, below)

pub show_stmts-requires : goal.show_stmts-requires
show_stmts-requires g t c κs within =
    let both = branches_fall c.args.stmts.now c.loop-stmt.stmt-index c.stmt-item.result c.in-If.side c.in-If.yes c.in-If.no
    c.loop-stmt-test.true c.stmt-item.is c.in-If.is in
    (rw (← c.decreases) (rw c.deref.ensures.value (first_falls _ _ _ both)), within)

pub show_stmts-requires-in-If : goal.show_stmts-requires-in-If
show_stmts-requires-in-If g t c κs within =
    let both = branches_fall c.args.stmts.now c.loop-stmt.stmt-index c.stmt-item.result c.in-If.side c.in-If.yes c.in-If.no
    c.loop-stmt-test.true c.stmt-item.is c.in-If.is in
    (rw (← c.decreases) (rw c.deref-in-If.ensures.value (second_falls _ _ _ both)), within)

pub show_stmts-requires-in-While : goal.show_stmts-requires-in-While
show_stmts-requires-in-While g t c κs within =
    let body = body_falls c.args.stmts.now c.loop-stmt.stmt-index c.stmt-item.result c.in-While.side c.in-While.body
    c.loop-stmt-test.true c.stmt-item.is c.in-While.is in
    (rw (← c.decreases) (rw c.deref-in-While.ensures.value body), within)
