use Rattle.std.proofs.Common.{◌∙◌, arith, sym, true≢false, ap}
use Rattle.std.proofs.lemmas.Option.{slice_get_within}
use Rattle.path_sets.specs.Quads.{nothing}
use Rattle.path_sets.proofs.StoreLemmas.{quad_self, same_quad, quad_eq}
use Rattle.path_sets.proofs.GrowthLemmas.{still_once}
use Rattle.path_sets.proofs.QuadLemmas.{is_nothing, quads_down, quads_reduced, quads_keep, quad_sees}
use Rattle.path_sets.proofs.diagrams.quads.Quads.make.Goals as goal

pub index_of-requires : goal.index_of-requires
index_of-requires g c = same_quad

pub invariant_of-self : goal.invariant_of-self
invariant_of-self g c =
    let s = c.args.self.now in
    let ns = s.kept.keys in
    let x = c.args.quad in
    let new = c.index_of.new.kept.keys in
    record {
      down = quads_down ns s.down x c.requires new c.index_of.ensures.grown;
      reduced =
          quads_reduced ns x
          (λ is. true≢false (sym (quad_self x) ∙ ap (quad_eq x) is ∙ sym c.eq.ensures ∙ c.if-eq.false)) s.reduced new
          c.index_of.ensures.grown;
      once = still_once x ns s.once new c.index_of.ensures.grown;
    }

pub returns-clause-keeps : goal.returns-clause-keeps
returns-clause-keeps g c =
    let s = c.args.self.now in
    quads_keep s.kept.keys s.down c.args.quad c.requires c.index_of.new.kept.keys c.index_of.ensures.grown

pub returns-in_err-at-clause-keeps : goal.returns-in_err-at-clause-keeps
returns-in_err-at-clause-keeps g c =
    let s = c.args.self.now in
    quads_keep s.kept.keys s.down c.args.quad c.requires c.index_of.new.kept.keys c.index_of.ensures.grown

pub returns-clause-inside : goal.returns-clause-inside
returns-clause-inside g c =
    let within = slice_get_within c.index_of.new.kept.keys c.in_ok-at.at c.args.quad c.in_ok-at.ensures.at in omega (arith, within)

pub returns-clause-same : goal.returns-clause-same
returns-clause-same g c =
    let s = c.args.self.now in
    λ v. quad_sees s.kept.keys s.down c.args.quad c.requires c.index_of.new.kept.keys c.index_of.ensures.grown c.in_ok-at.at v
    c.in_ok-at.ensures.at

pub returns-then-eq-clause-same : goal.returns-then-eq-clause-same
returns-then-eq-clause-same g c =
    is_nothing c.args.self.now.kept.keys c.args.quad (same_quad c.args.quad nothing (sym c.eq.ensures ∙ c.if-eq.true))
