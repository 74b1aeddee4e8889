use Rattle.std.proofs.Common.{arith, List, length, ◌∙◌, ap, sym}
use Rattle.language.specs.Tree.{Name}
use Rattle.syntax.specs.Exact.{prepend, declaration, all_declarations}
use Rattle.trees.specs.Trees.{name_of, names_of}
use Rattle.tokens.specs.Token.{toks_of}
use Rattle.syntax.proofs.Loops.{declarations_go_on, declarations_refused, declarations_end, appended, prepend_nothing}
use Rattle.syntax.proofs.Exits.{refused, refused_is_well}
use Rattle.syntax.proofs.reader.Reader.declarations.Goals as goal

pub loop-rest-preserved : goal.loop-rest-preserved
loop-rest-preserved g c = record {
  whole =
      c.loop-rest.invariant.whole
      ∙ declarations_go_on (names_of c.loop-rest.list.items) (toks_of c.loop-rest.rest.now) (names_of c.in_ok-next.next.items)
      (toks_of c.in_ok-next.after.now)
      (sym c.begins.ensures ∙ c.loop-rest-test.true) c.in_ok-next.ensures.gives
      ∙ ap (λ (xs : List Name). prepend xs (all_declarations (toks_of c.in_ok-next.after.now)))
      (appended name_of c.loop-rest.list.items c.in_ok-next.next.items c.append.new.self.items c.in_ok-append.ensures.items);
  no_longer = omega (arith, c.loop-rest.invariant.no_longer, c.in_ok-next.ensures.shorter);
}

pub returns-clause-gives : goal.returns-clause-gives
returns-clause-gives g c =
    c.loop-rest.invariant.whole ∙ declarations_end (names_of c.loop-rest.list.items)
    (toks_of c.loop-rest.rest.now) (sym c.begins.ensures ∙ c.loop-rest-test.false)

pub loop-rest-init : goal.loop-rest-init
loop-rest-init g c = record {
  whole =
      rw (c.in_ok-list.ensures.ok.0, c.in_ok-list.ensures.ok.1) (prepend_nothing (all_declarations (toks_of c.args.tokens.now)));
  no_longer = omega (arith, ap length c.in_ok-list.ensures.ok.1);
}

pub returns-in_err-next : goal.returns-in_err-next
returns-in_err-next g c = record {
  gives =
      refused _ c.from_residual-in_err-next.result _ (declaration (toks_of c.loop-rest.rest.now)) _
      c.from_residual-in_err-next.ensures.1
      (λ none. c.loop-rest.invariant.whole
      ∙ declarations_refused (names_of c.loop-rest.list.items) (toks_of c.loop-rest.rest.now)
      (sym c.begins.ensures ∙ c.loop-rest-test.true) none) c.in_err-next.ensures.gives;
  no_longer = refused_is_well _ c.from_residual-in_err-next.result _ c.from_residual-in_err-next.ensures.1;
}
