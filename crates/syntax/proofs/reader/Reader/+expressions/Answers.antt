use Rattle.std.proofs.Common.{rules, arith, ◌≡◌, ◌+◌, ◌*◌, ◌<◌, ℕ, length, true, false, refl, List, ◌∷◌, ◌∙◌, sym, ap, Some}
use Rattle.language.specs.Tree.{Name, Expression, two}
use Rattle.grammar.specs.Grammar.{right_level}
use Rattle.syntax.specs.Exact.{reading, from, after, operand}
use Rattle.trees.specs.Trees.{operator_of, expr_of}
use Rattle.tokens.specs.declared.vocabulary.Token.{Token}
use Rattle.tokens.specs.Token.{tok_of, toks_of, same_kind}
use Rattle.tokens.specs.declared.vocabulary.Kind.TheVariants as kind
use Rattle.syntax.proofs.Closings.{closed_read}
use Rattle.syntax.proofs.Expressions.{operand_begins, starts, goes_on}
use Rattle.syntax.proofs.Expressions.{ends_before, stops_at_end, no_start, no_right}
use Rattle.syntax.proofs.Exits.{refused, refused_is_well}
use Rattle.syntax.proofs.ChainLemmas.{at_end}
use Rattle.trees.proofs.Folds.{expr_of-Const, expr_of-Var, expr_of-Not, expr_of-Two}
use Rattle.syntax.proofs.reader.Reader.+expressions.Goals as goal
use Rattle.syntax.proofs.reader.Reader.+expressions.Goals.{expression-in-Some+in_default-operator_of_kind, expression-in_default}

-- The measures of calls: fewer tokens, or as many and a function further down.
same_less : (n : ℕ) → 2 * n < 2 * n + 1
same_less n = omega arith

operand_less : {A : Type 0} {x : A} {xs ys : List A} → ys ≡ x ∷ xs → 2 * length xs + 1 < 2 * length ys
operand_less {A} {x} {xs} {ys} is = rw is (omega arith)

right_less : {A : Type 0} {x : A} {xs ys : List A} {n : ℕ} → ys ≡ x ∷ xs → length ys < n → 2 * length xs + 1 < 2 * n + 1
right_less {A} {x} {xs} {ys} {n} is less =
    let h : length ys ≡ length xs + 1 = rw is (omega arith) in
    omega (arith, h, less)

pub expression-operand-requires : goal.expression-operand-requires
expression-operand-requires g t c κs within = (rw (← c.decreases) (same_less _), within)

pub expression-expression-requires : goal.expression-expression-requires
expression-expression-requires g t c κs within =
    (rw (← c.decreases) (right_less c.in-Some.ensures.cases.0 c.loop-first.invariant.shorter), within)

pub operand-expression-requires : goal.operand-expression-requires
operand-expression-requires g t c κs within = (rw (← c.decreases) (operand_less c.in-Some.ensures.cases.0), within)

pub operand-expression-requires-in-Open : goal.operand-expression-requires-in-Open
operand-expression-requires-in-Open g t c κs within = (rw (← c.decreases) (operand_less c.in-Some.ensures.cases.0), within)

pub expression-loop-first-preserved : goal.expression-loop-first-preserved
expression-loop-first-preserved g t c = record {
  whole =
      let op = c.in-Some-operator_of_kind.op in
      let right : reading (from (right_level (operator_of op))) (toks_of c.in-Some.others.now) ≡ Some
      (expr_of c.in_ok-right.right, toks_of c.in_ok-right.after.now) =
      rw c.levels_of-level.ensures.right at c.in_ok-right.ensures.gives in
      c.loop-first.invariant.whole
      ∙ ap (λ (ts : List Token). reading (after c.args.least (expr_of c.loop-first.tree)) (toks_of ts)) c.in-Some.ensures.cases.0
      ∙ goes_on c.args.least (expr_of c.loop-first.tree) (expr_of c.in_ok-right.right) (tok_of c.in-Some.first.now)
      (toks_of c.in-Some.others.now) (toks_of c.in_ok-right.after.now) (operator_of op)
      (sym c.in-Some-operator_of_kind.ensures) right
      ∙ ap (λ (e : Expression Name). reading (after c.args.least e) (toks_of c.in_ok-right.after.now))
      (sym {b = two (operator_of op) (expr_of c.loop-first.tree) (expr_of c.in_ok-right.right)}
      (expr_of-Two op c.in_ok-left.left c.in_ok-left.right
      ∙ (λ i. two (operator_of op) (expr_of (c.in_ok-left.ensures.left i)) (expr_of (c.in_ok-left.ensures.right i)))));
  shorter = search rules;
}

pub expression-returns-clause-gives : goal.expression-returns-clause-gives
expression-returns-clause-gives g t c =
    c.loop-first.invariant.whole
    ∙ elim c.match-split_first.branch [
      | expression-in-Some+in_default-operator_of_kind w ↦
          ends_before c.args.least
          (expr_of c.loop-first.tree) c.loop-first.rest.now w.in-Some.others.now w.in-Some.first.now w.in-Some.ensures.cases.0
          (sym w.in_default-operator_of_kind.ensures)
      | expression-in_default w ↦
          at_end (reading (after c.args.least (expr_of c.loop-first.tree))) (λ ts. Some (expr_of c.loop-first.tree, ts))
          (stops_at_end c.args.least (expr_of c.loop-first.tree))
          c.loop-first.rest.now w.in_default.ensures.cases
    ]

pub operand-returns-in-Zero-clause-gives : goal.operand-returns-in-Zero-clause-gives
unfolding same_kind
operand-returns-in-Zero-clause-gives g t c =
    rw (operand_begins kind.Zero c.args.tokens.now c.in-Some.rest.now c.in-Some.first.now c.in-Some.ensures.cases.0
    c.in-Zero.is) (rw (expr_of-Const g.row.A.Denot false) refl)

pub operand-returns-in-One-clause-gives : goal.operand-returns-in-One-clause-gives
unfolding same_kind
operand-returns-in-One-clause-gives g t c =
    rw (operand_begins kind.One c.args.tokens.now c.in-Some.rest.now c.in-Some.first.now c.in-Some.ensures.cases.0
    c.in-One.is) (rw (expr_of-Const g.row.A.Denot true) refl)

pub operand-returns-in_ok-name-in-Id-clause-gives : goal.operand-returns-in_ok-name-in-Id-clause-gives
unfolding same_kind
operand-returns-in_ok-name-in-Id-clause-gives g t c =
    rw (operand_begins kind.Id c.args.tokens.now c.in-Some.rest.now c.in-Some.first.now c.in-Some.ensures.cases.0
    c.in-Id.is) (rw (expr_of-Var c.in_ok-name-in-Id.field-0, c.in_ok-name-in-Id.ensures.ok) refl)

pub operand-returns-in_ok-in_box-in-Not-clause-gives : goal.operand-returns-in_ok-in_box-in-Not-clause-gives
unfolding same_kind
operand-returns-in_ok-in_box-in-Not-clause-gives g t c =
    rw (operand_begins kind.Not c.args.tokens.now c.in-Some.rest.now c.in-Some.first.now c.in-Some.ensures.cases.0
    c.in-Not.is) (rw (c.in_ok-inner-in-Not.ensures.gives, expr_of-Not c.in_ok-in_box-in-Not.field-0, c.in_ok-in_box-in-Not.ensures.ok) refl)

pub operand-returns-in-Open-clause-gives : goal.operand-returns-in-Open-clause-gives
unfolding same_kind
operand-returns-in-Open-clause-gives g t c =
    rw (operand_begins kind.Open c.args.tokens.now c.in-Some.rest.now c.in-Some.first.now c.in-Some.ensures.cases.0
    c.in-Open.is) (closed_read expr_of (reading (from 0)) kind.Close c.expression-in-Open.result c.closed.result
    c.in-Some.rest.now c.expression-in-Open.ensures.gives c.closed.ensures)

pub expression-loop-first-init : goal.expression-loop-first-init
expression-loop-first-init g t c = record {
  whole =
      starts c.args.least (toks_of c.args.tokens.now) (expr_of c.in_ok-tree.tree) (toks_of c.in_ok-tree.rest.now)
      c.in_ok-tree.ensures.gives;
  shorter = c.in_ok-tree.ensures.shorter;
}

-- If a part is refused, so is the whole.
pub expression-returns-in_err-tree : goal.expression-returns-in_err-tree
expression-returns-in_err-tree g t c = record {
  gives =
      refused _ c.from_residual.result _ (operand (toks_of c.args.tokens.now)) _
      c.from_residual.ensures.1 (no_start c.args.least (toks_of c.args.tokens.now)) c.in_err-tree.ensures.gives;
  shorter = refused_is_well _ c.from_residual.result _ c.from_residual.ensures.1;
}

pub expression-returns-in_err-right : goal.expression-returns-in_err-right
expression-returns-in_err-right g t c =
    let op = c.in-Some-operator_of_kind.op in
    let level = right_level (operator_of op) in
    let given = rw c.levels_of-level.ensures.right at c.in_err-right.ensures.gives in
    record {
      gives =
          refused _ c.from_residual-in_err-right.result _ (reading (from level) (toks_of c.in-Some.others.now)) _
          c.from_residual-in_err-right.ensures.1
          (λ none. c.loop-first.invariant.whole
          ∙ ap (λ (ts : List Token). reading (after c.args.least (expr_of c.loop-first.tree)) (toks_of ts)) c.in-Some.ensures.cases.0
          ∙ no_right c.args.least (expr_of c.loop-first.tree) (tok_of c.in-Some.first.now)
          (toks_of c.in-Some.others.now) (operator_of op) (sym c.in-Some-operator_of_kind.ensures) none) given;
      shorter = refused_is_well _ c.from_residual-in_err-right.result _ c.from_residual-in_err-right.ensures.1;
    }

pub operand-returns-in_err-inner-in-Not : goal.operand-returns-in_err-inner-in-Not
unfolding same_kind
operand-returns-in_err-inner-in-Not g t c = record {
  gives =
      refused _ c.from_residual-in_err-inner-in-Not.result _ (reading (from 5) (toks_of c.in-Some.rest.now)) _
      c.from_residual-in_err-inner-in-Not.ensures.1
      (λ none. operand_begins kind.Not c.args.tokens.now c.in-Some.rest.now c.in-Some.first.now c.in-Some.ensures.cases.0
      c.in-Not.is ∙ rw none refl) c.in_err-inner-in-Not.ensures.gives;
  shorter = refused_is_well _ c.from_residual-in_err-inner-in-Not.result _ c.from_residual-in_err-inner-in-Not.ensures.1;
}
