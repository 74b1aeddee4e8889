use Rattle.std.proofs.Common.{◌≡◌, ℕ, suc, ◌-◌, ◌∙◌, refl, arith}
use Rattle.std.proofs.lemmas.Result.{IfOk-weaker}
use Rattle.language.specs.Tree.{Name, var, two, or, and}
use Rattle.trees.specs.Trees.{name_of}
use Rattle.round_rewrite.specs.Table.{Naming, in_round, read_by_round}
use Rattle.round_rewrite.specs.Writing.{naming_of}
use Rattle.round_rewrite.proofs.writer.Writer.+read_by_round.Goals as goal

-- the rounds up to the one before, and this one
one_back : (w : Naming Name Name Name Name) (last below round : ℕ) (x : Name) → round ≡ suc below
    → two or (read_by_round w last below x) (two and (in_round w last round) (var (w.copy round x)))
    ≡ read_by_round w last round x
one_back w last below round x e = rw e refl

pub returns : goal.returns
returns g t c =
    let some = c.if-round-eq0.false in
    let e : c.args.round ≡ suc (c.args.round - 1) = omega (arith, some) in
    let all = one_back (naming_of c.args.self.now) c.args.self.now.rounds.last (c.args.round - 1) c.args.round
    (name_of c.args.x.now) e in
    IfOk-weaker c.operation.result _ _ (λ _ so. so ∙ ((λ i. two or (c.in_ok-below.ensures i) (c.in_ok-here.ensures i)) ∙ all))
    c.operation.ensures
