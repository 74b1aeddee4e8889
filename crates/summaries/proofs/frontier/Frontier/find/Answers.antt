use Rattle.std.proofs.lemmas.Bool.{OnFalse_at}
use Rattle.std.proofs.Common.{inl, inr, refl, sym, ap, ◌∙◌, subst, rules}
use Rattle.language.specs.Lists.{Member}
use Rattle.summaries.specs.Grows.{triple_of}
use Rattle.summaries.proofs.FrontierLemmas.{known, added, longer_by, none_is_found, ok_err, same_found}
use Rattle.summaries.proofs.frontier.Frontier.find.Goals as goal

pub returns-then-branch : goal.returns-then-branch
returns-then-branch g c = record {
  adds = record {
    ok = added c.args.edge (g.S.PathSet.members c.args.self.now.edges.now) (g.S.PathSet.members c.insert.new.self)
        c.args.self.now.pending.now.items c.in_ok-insert.ensures.members
        (longer_by _ _ c.in_ok-insert.field-0 c.if-branch.true c.in_ok-insert.ensures.len);
    only = λ t. (c.in_ok-insert.ensures.members t).0;
    within = search rules;
    limit = λ is. absurd (ok_err is);
  };
  found = λ t m. elim ((c.in_ok-insert.ensures.members t).0 m) [ inl is ↦ inl (c.args.edge, refl, is) | inr was ↦ inr was ];
  there = λ t (found, is, at).
      (c.in_ok-insert.ensures.members t).1 (inl (at ∙ ap triple_of (same_found c.args.edge found is)));
  pending = refl;
  stays = record { edges = refl; pending = refl; limit = refl };
}

pub returns-else-branch : goal.returns-else-branch
returns-else-branch g c = record {
  adds = record {
    ok = known c.args.edge (g.S.PathSet.members c.args.self.now.edges.now) (g.S.PathSet.members c.insert.new.self)
        c.args.self.now.pending.now.items c.in_ok-insert.field-0 c.if-branch.false c.in_ok-insert.ensures.new.1
        c.in_ok-insert.ensures.members c.in_ok-insert.ensures.len;
    only = λ t. (c.in_ok-insert.ensures.members t).0;
    within = search rules;
    limit = λ is. absurd (ok_err is);
  };
  found = λ t m. elim ((c.in_ok-insert.ensures.members t).0 m) [
    | inl is ↦
        let there : Member (triple_of c.args.edge) (g.S.PathSet.members c.args.self.now.edges.now) =
        OnFalse_at c.if-branch.false c.in_ok-insert.ensures.new.1 in
        inr (subst (λ u. Member u (g.S.PathSet.members c.args.self.now.edges.now)) (sym is) there)
    | inr was ↦ inr was
  ];
  there = λ t is. absurd (none_is_found t is);
  pending = refl;
  stays = record { edges = refl; pending = refl; limit = refl };
}
