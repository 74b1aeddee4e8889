-- A text that is rewritten is that of a checked program; if the rewriting fails, it is too wide.
use Rattle.std.proofs.Common.{ℕ, None, subst, inl, inr}
use Rattle.std.proofs.lemmas.Result.{err_from_is_err_and}
use Rattle.resolved.specs.Narrow.{AllNarrow}
use Rattle.round_rewrite.specs.Narrow.{IsNarrowFor}
use Rattle.round_rewrite.specs.declared.fault.RewriteFault.TheVariants.{Memory, TooWide}
use Rattle.language.specs.Tree.{Tree}
use Rattle.syntax.proofs.TextsInGrammar.{text_in_grammar}
use Rattle.round_rewrite.specs.Programs.{IsFaultOf, count_of}
use Rattle.checked.specs.Programs.{checked_tree}
use Rattle.cli.proofs.rewriting.rewritten.Goals as goal

pub returns-in_err-checked-clause-stands : goal.returns-in_err-checked-clause-stands
returns-in_err-checked-clause-stands g c =
    let p = err_from_is_err_and c.from_residual.result c.from_residual.ensures.1 in
    rw (p.1, p.2) (c.in_err-checked.ensures.stands (count_of c.args.rounds) None)

pub returns-in-Ok-clause-rewriting : goal.returns-in-Ok-clause-rewriting
returns-in-Ok-clause-rewriting g c =
    let source = checked_tree c.in_ok-checked.checked in
    let of = c.in_ok-checked.ensures.program in
    record {
      tree = source;
      of = of.0;
      checked = of.1;
      narrow = subst AllNarrow c.in-Ok.ensures.rewritten c.in-Ok.sequential.narrow;
      same = c.in-Ok.ensures.rewritten;
      grammar = c.in-Ok.ensures.grammar (text_in_grammar c.args.text.now source of.0);
      keeps = c.in-Ok.ensures.keeps;
    }

-- if the rewriting is refused as too wide, it is
pub is_wide : (rounds : ℕ) (t : Tree) → IsFaultOf rounds t TooWide → IsNarrowFor rounds t → ⊥
is_wide rounds t (inl (e, wide)) = wide
is_wide rounds t (inr (e, narrow)) = cc

-- if memory runs out during the rewriting, it is not too wide
is_narrow : (rounds : ℕ) (t : Tree) → IsFaultOf rounds t Memory → IsNarrowFor rounds t
is_narrow rounds t (inl (e, wide)) = cc
is_narrow rounds t (inr (e, narrow)) = narrow

pub returns-in-Err-TooWide-clause-stands : goal.returns-in-Err-TooWide-clause-stands
returns-in-Err-TooWide-clause-stands g c =
    let rounds = count_of c.args.rounds in
    let source = checked_tree c.in_ok-checked.checked in
    let of = c.in_ok-checked.ensures.program in
    let fault = subst (IsFaultOf rounds source) c.in-Err-TooWide.field-0-is c.in-Err-TooWide.ensures.fault in (
      source,
      record {
        of = of.0;
        checked = of.1;
        wider = is_wide rounds source fault;
        first = c.too_wide.ensures;
      },
    )

pub returns-clause-stands : goal.returns-clause-stands
returns-clause-stands g c =
    let rounds = count_of c.args.rounds in
    let source = checked_tree c.in_ok-checked.checked in
    let of = c.in_ok-checked.ensures.program in
    let fault = subst (IsFaultOf rounds source) c.in-Err-Memory.field-0-is c.in-Err-Memory.ensures.fault in
    inl (source, of.0, of.1, is_narrow rounds source fault)
