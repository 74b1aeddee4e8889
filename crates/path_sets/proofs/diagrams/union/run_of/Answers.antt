use Rattle.std.proofs.Common.{◌≡◌, slice_get, inl, inr, sym, ap, ◌∙◌, subst, arith}
use Rattle.std.proofs.lemmas.Bool.{cases_eq}
use Rattle.std.proofs.lemmas.Option.{same_Some}
use Rattle.path_sets.specs.Halves.{ContinuesBy, valuation_of}
use Rattle.path_sets.proofs.diagrams.union.run_of.Goals as goal

pub loop-end-preserved : goal.loop-end-preserved
loop-end-preserved c = record {
  within = let less = c.loop-end-test.true in omega (arith, less);
  some = omega arith;
  all = λ i d some less at. elim (cases_eq i c.loop-end.end) [
    | inl is ↦
        let same : c.insertion_at.result ≡ d =
        same_Some _ d (sym c.insertion_at.ensures ∙ ap (slice_get c.args.insertions.now) (sym is) ∙ at) in
        subst (λ e. ContinuesBy (valuation_of e) c.args.level c.args.two) same
        (subst (ContinuesBy (valuation_of c.insertion_at.result) c.args.level) c.if-next-two.true c.in-Some.ensures.some)
    | inr ne ↦ c.loop-end.invariant.all i d some (omega (arith, less, ne)) at
  ];
}
