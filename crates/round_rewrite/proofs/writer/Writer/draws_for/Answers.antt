use Rattle.std.proofs.Common.{cond, [], ◌∷◌, ◌∙◌, ap, sym}
use Rattle.trees.specs.Trees.{name_of, rhs_of}
use Rattle.round_rewrite.specs.Table.{draws}
use Rattle.round_rewrite.specs.Writing.{naming_of}
use Rattle.round_rewrite.proofs.TargetLemmas.{from_bool, one_at_most}
use Rattle.round_rewrite.proofs.writer.Writer.draws_for.Goals as goal

pub returns-in-Any-clause-count : goal.returns-in-Any-clause-count
returns-in-Any-clause-count g c =
    from_bool c.is_shared.result c.from.result c.from.ensures
    ∙ (ap (λ b. cond b 1 0) c.is_shared.ensures
    ∙ ap (λ r. draws (naming_of c.args.self.now).is_shared (name_of c.args.x.now ∷ []) (rhs_of r ∷ [])) (sym c.in-Any.is))

pub returns-in-Any-clause-few : goal.returns-in-Any-clause-few
returns-in-Any-clause-few g c = one_at_most c.is_shared.result c.from.result c.from.ensures

pub returns-in-Value-clause-count : goal.returns-in-Value-clause-count
returns-in-Value-clause-count g c =
    ap (λ r. draws (naming_of c.args.self.now).is_shared (name_of c.args.x.now ∷ []) (rhs_of r ∷ [])) (sym c.in-Value.is)
