use Rattle.std.proofs.Common.{refl}
use Rattle.tokens.specs.Token.{toks_of}
use Rattle.tokens.specs.declared.vocabulary.Kind.TheVariants as kind
use Rattle.syntax.specs.Exact.{asking, closed, name, argument_list}
use Rattle.syntax.proofs.Exits.{refused, refused_is_well}
use Rattle.syntax.proofs.Closings.{shorter_behind, less_still}
use Rattle.trees.proofs.Folds.{deed_of-CallTo}
use Rattle.syntax.proofs.reader.Reader.asking.Goals as goal

pub returns : goal.returns
unfolding asking
returns g c = record {
  gives =
      rw (c.in_ok-target.ensures.gives, c.in_ok-name.ensures.gives, c.in_ok-arguments.ensures.gives)
      (rw (deed_of-CallTo c.in_ok-target.target c.in_ok-name.name c.in_ok-arguments.arguments) at c.ended.ensures.gives);
  shorter =
      shorter_behind c.ended.result c.in_ok-arguments.rest.now c.args.tokens.now
      (less_still (less_still c.in_ok-arguments.ensures.shorter c.in_ok-name.ensures.shorter) c.in_ok-target.ensures.shorter)
      c.ended.ensures.shorter;
}

pub returns-in_err-target : goal.returns-in_err-target
unfolding asking
returns-in_err-target g c = record {
  gives =
      refused _ c.from_residual.result _ (closed kind.Assign name (toks_of c.args.tokens.now)) _
      c.from_residual.ensures.1 (λ none. rw none refl) c.in_err-target.ensures.gives;
  shorter = refused_is_well _ c.from_residual.result _ c.from_residual.ensures.1;
}

pub returns-in_err-name : goal.returns-in_err-name
unfolding asking
returns-in_err-name g c = record {
  gives =
      refused _ c.from_residual-in_err-name.result _ (name (toks_of c.in_ok-target.behind.now)) _
      c.from_residual-in_err-name.ensures.1 (λ none. rw (c.in_ok-target.ensures.gives, none) refl) c.in_err-name.ensures.gives;
  shorter = refused_is_well _ c.from_residual-in_err-name.result _ c.from_residual-in_err-name.ensures.1;
}

pub returns-in_err-arguments : goal.returns-in_err-arguments
unfolding asking
returns-in_err-arguments g c = record {
  gives =
      refused _ c.from_residual-in_err-arguments.result _ (argument_list (toks_of c.in_ok-name.opened.now)) _
      c.from_residual-in_err-arguments.ensures.1
      (λ none. rw (c.in_ok-target.ensures.gives, c.in_ok-name.ensures.gives, none) refl) c.in_err-arguments.ensures.gives;
  shorter = refused_is_well _ c.from_residual-in_err-arguments.result _ c.from_residual-in_err-arguments.ensures.1;
}
