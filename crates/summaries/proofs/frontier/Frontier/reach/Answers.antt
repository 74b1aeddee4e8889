use Rattle.std.proofs.Common.{◌≡◌, ◌∷◌, ◌++◌, [], Ok, sym, ap, ◌∙◌, subst, rules}
use Rattle.summaries.specs.Frontiers.{Finds}
use Rattle.summaries.specs.Grows.{Grows, triple_of}
use Rattle.summaries.proofs.FrontierLemmas.{ok_err, no_limit}
use Rattle.summaries.proofs.frontier.Frontier.reach.Goals as goal

pub returns-in_err-append : goal.returns-in_err-append
returns-in_err-append g c =
    let found = c.in_ok-found.ensures in record {
      adds = record {
        ok = search rules;
        only = found.adds.only;
        within = found.adds.within;
        limit = λ is. absurd (no_limit _ c.from_residual-in_err-append.ensures.1 is);
      };
      stays = record { edges = found.stays.edges; pending = found.stays.pending; limit = found.stays.limit };
    }

pub returns-in_ok-append : goal.returns-in_ok-append
returns-in_ok-append g c =
    let found = subst (λ one. Finds g.S.PathSet.members (λ t. t ≡ triple_of c.args.edge) (Ok one) c.args.self.now c.find.new.self)
    c.in-Some.is c.in_ok-found.ensures in record {
      adds = record {
        ok = subst (λ after. Grows (λ t. t ≡ triple_of c.args.edge) (g.S.PathSet.members c.args.self.now.edges.now)
            (g.S.PathSet.members c.find.new.self.edges.now) c.args.self.now.pending.now.items after)
            (sym (c.in_ok-append.ensures.ok ∙ ap (λ v. v.items ++ c.in-Some.found ∷ []) found.pending)) found.adds.ok;
        only = found.adds.only;
        within = found.adds.within;
        limit = λ is. absurd (ok_err is);
      };
      stays = record { edges = found.stays.edges; pending = found.stays.pending; limit = found.stays.limit };
    }

pub returns-in_default : goal.returns-in_default
returns-in_default g c =
    let found = subst (λ one. Finds g.S.PathSet.members (λ t. t ≡ triple_of c.args.edge) (Ok one) c.args.self.now c.find.new.self)
    c.in_default.is c.in_ok-found.ensures in record {
      adds = record {
        ok = subst (λ after. Grows (λ t. t ≡ triple_of c.args.edge) (g.S.PathSet.members c.args.self.now.edges.now)
            (g.S.PathSet.members c.find.new.self.edges.now) c.args.self.now.pending.now.items after.items)
            (sym found.pending) found.adds.ok;
        only = found.adds.only;
        within = found.adds.within;
        limit = λ is. absurd (ok_err is);
      };
      stays = found.stays;
    }
