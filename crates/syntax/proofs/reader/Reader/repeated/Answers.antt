use Rattle.std.proofs.Common.{◌∙◌, sym}
use Rattle.tokens.specs.Token.{toks_of}
use Rattle.syntax.specs.Exact.{repeated}
use Rattle.syntax.proofs.Loops.{first_read, first_refused, next_read, others_refused, others_end}
use Rattle.syntax.proofs.Closings.{less_still}
use Rattle.syntax.proofs.Exits.{refused}
use Rattle.syntax.proofs.reader.Reader.repeated.Goals as goal

pub loop-list-init : goal.loop-list-init
unfolding repeated
loop-list-init g c = record {
  whole = first_read g.T.Written.tree g.T.Unseparated.another g.T.Written.grammar g.T.Written.grammar
      (toks_of c.args.tokens.now) c.in_ok-first.ensures.gives c.in_ok-list.ensures.ok;
  shorter = c.in_ok-first.ensures.shorter;
}

pub loop-list-preserved : goal.loop-list-preserved
loop-list-preserved g c = record {
  whole =
      next_read g.T.Unseparated.another g.T.Written.grammar c.requires c.loop-list.invariant.whole
      (sym c.comes.ensures ∙ c.loop-list-test.true) c.in_ok-rest.ensures.gives.2 c.in_ok-rest.ensures.gives.1;
  shorter = less_still c.in_ok-rest.ensures.shorter c.loop-list.invariant.shorter;
}

pub returns-in_err-first-clause-gives : goal.returns-in_err-first-clause-gives
unfolding repeated
returns-in_err-first-clause-gives g c =
    refused _ c.from_residual.result _ (g.T.Written.grammar (toks_of c.args.tokens.now)) _ c.from_residual.ensures.1
    (first_refused g.T.Unseparated.another g.T.Written.grammar g.T.Written.grammar (toks_of c.args.tokens.now))
    c.in_err-first.ensures.gives

pub returns-in_err-rest-clause-gives : goal.returns-in_err-rest-clause-gives
returns-in_err-rest-clause-gives g c =
    refused _ c.from_residual-in_err-rest.result _ (g.T.Written.grammar (toks_of c.loop-list.rest.now)) _
    c.from_residual-in_err-rest.ensures.1
    (λ none. others_refused g.T.Unseparated.another g.T.Written.grammar c.requires c.loop-list.invariant.whole
    (sym c.comes.ensures ∙ c.loop-list-test.true) none)
    c.in_err-rest.ensures.gives

pub returns-clause-gives : goal.returns-clause-gives
returns-clause-gives g c =
    others_end g.T.Unseparated.another g.T.Written.grammar c.requires c.loop-list.invariant.whole
    (sym c.comes.ensures ∙ c.loop-list-test.false)
