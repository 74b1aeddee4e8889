use Rattle.std.proofs.Common.{◌∙◌, sym}
use Rattle.tokens.specs.declared.vocabulary.Kind.TheVariants as kind
use Rattle.tokens.specs.Token.{tok_of, toks_of}
use Rattle.syntax.specs.Parser.{begins, take, ◌>>=◌}
use Rattle.syntax.specs.Exact.{list}
use Rattle.syntax.proofs.Fixes.{Strict-Shrinks, bind_is}
use Rattle.syntax.proofs.Exactly.{Strict-behind}
use Rattle.syntax.proofs.Loops.{first_read, first_refused, next_read, others_refused, others_end}
use Rattle.syntax.proofs.Closings.{less_still}
use Rattle.syntax.proofs.Exits.{refused}
use Rattle.syntax.proofs.reader.Reader.list.Goals as goal

pub loop-rest-init : goal.loop-rest-init
unfolding list
loop-rest-init g c = record {
  whole = first_read g.T.Written.tree (begins kind.Comma) g.T.Written.grammar (take kind.Comma >>= λ _. g.T.Written.grammar)
      (toks_of c.args.tokens.now) c.in_ok-first.ensures.gives c.in_ok-list.ensures.ok;
  shorter = c.in_ok-first.ensures.shorter;
}

pub loop-rest-preserved : goal.loop-rest-preserved
loop-rest-preserved g c = record {
  whole =
      next_read (begins kind.Comma) (take kind.Comma >>= λ _. g.T.Written.grammar)
      (Strict-behind kind.Comma (Strict-Shrinks c.requires)) c.loop-rest.invariant.whole
      (sym c.begins.ensures ∙ c.loop-rest-test.true)
      (bind_is (take kind.Comma) (λ _. g.T.Written.grammar) (toks_of c.loop-rest.rest.now)
      (tok_of c.in_ok-others.field-0-0) (toks_of c.in_ok-others.others.now) c.in_ok-others.ensures.gives
      ∙ c.in_ok-rest.ensures.gives.2)
      c.in_ok-rest.ensures.gives.1;
  shorter =
      less_still (less_still c.in_ok-rest.ensures.shorter c.in_ok-others.ensures.shorter) c.loop-rest.invariant.shorter;
}

pub returns-in_err-first-clause-gives : goal.returns-in_err-first-clause-gives
unfolding list
returns-in_err-first-clause-gives g c =
    refused _ c.from_residual.result _ (g.T.Written.grammar (toks_of c.args.tokens.now)) _ c.from_residual.ensures.1
    (first_refused (begins kind.Comma) g.T.Written.grammar (take kind.Comma >>= λ _. g.T.Written.grammar)
    (toks_of c.args.tokens.now)) c.in_err-first.ensures.gives

pub returns-in_err-rest-clause-gives : goal.returns-in_err-rest-clause-gives
returns-in_err-rest-clause-gives g c =
    let read = bind_is (take kind.Comma) (λ _. g.T.Written.grammar) (toks_of c.loop-rest.rest.now)
    (tok_of c.in_ok-others.field-0-0) (toks_of c.in_ok-others.others.now) c.in_ok-others.ensures.gives in
    refused _ c.from_residual-in_err-rest.result _ (g.T.Written.grammar (toks_of c.in_ok-others.others.now)) _
    c.from_residual-in_err-rest.ensures.1
    (λ none. others_refused (begins kind.Comma) (take kind.Comma >>= λ _. g.T.Written.grammar)
    (Strict-behind kind.Comma (Strict-Shrinks c.requires)) c.loop-rest.invariant.whole
    (sym c.begins.ensures ∙ c.loop-rest-test.true) (read ∙ none))
    c.in_err-rest.ensures.gives

pub returns-clause-gives : goal.returns-clause-gives
returns-clause-gives g c =
    others_end (begins kind.Comma) (take kind.Comma >>= λ _. g.T.Written.grammar)
    (Strict-behind kind.Comma (Strict-Shrinks c.requires)) c.loop-rest.invariant.whole
    (sym c.begins.ensures ∙ c.loop-rest-test.false)
