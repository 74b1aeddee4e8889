use Rattle.std.proofs.Common.{◌≡◌, ◌⊎◌, Err, inl, inr, sym, ap, ◌∙◌, subst, rules}
use Rattle.path_sets.specs.EdgeLimits.{most_of}
use Rattle.path_sets.specs.Triples.{Triple}
use Rattle.summaries.specs.Grows.{Adds, IsAt, IsNext, IsOther}
use Rattle.summaries.specs.declared.table.Table.{Table}
use Rattle.summaries.proofs.FrontierLemmas.{adds_both, fault_of, first_or_other, is_some_next}
use Rattle.summaries.proofs.table.Table.reach_all.Goals as goal

pub returns-in_err-reach_next : goal.returns-in_err-reach_next
returns-in_err-reach_next g c =
    let failed = c.in_err-reach_next.ensures in
    let first = λ (t : Triple) (at : IsAt c.args.edge c.choose-next.result.0 t).
    is_some_next c.args.flow.now c.args.edge t (inl (subst (λ next. IsAt c.args.edge next t) c.choose-next.ensures.next at)) in record {
      adds = record {
        ok = search rules;
        only = λ t m. elim (failed.adds.only t m) [ inl at ↦ inl (first t at) | inr was ↦ inr was ];
        within = failed.adds.within;
        limit = λ e.
            let (t, at, new, full) = failed.adds.limit (ap Err (sym (fault_of _ _ _ c.from_residual.ensures.1 e))) in
            (t, first t at, new, full);
      };
      rest = failed.rest;
    }

pub returns : goal.returns
returns g c =
    let old = c.args.self.now in
    let mid = c.reach_next.new.self in
    let new = c.expand_others.new.self in
    let flow = c.args.flow.now in
    let e = c.args.edge in
    let first = c.in_ok-reach_next.ensures in
    let others = c.expand_others.ensures in
    let limit : most_of mid.limit ≡ most_of old.limit = ap (λ t. most_of t.limit) first.rest in record {
      adds = adds_both (IsAt e c.choose-next.result.0) (IsOther flow e) (IsNext flow e) c.expand_others.result (most_of old.limit)
          _ _ _ _ _ _
          first.adds.ok
          (subst (λ most. Adds (IsOther flow e) c.expand_others.result most (g.S.PathSet.members mid.edges) (g.S.PathSet.members new.edges)
          mid.found.pending.items new.found.pending.items) limit others.adds)
          (λ t is. subst (λ next. IsAt e next t ⊎ IsOther flow e t) (sym c.choose-next.ensures.next) (first_or_other flow e t is))
          (λ t is. is_some_next flow e t (subst (λ next. IsAt e next t ⊎ IsOther flow e t) c.choose-next.ensures.next is));
      rest = others.rest
          ∙ ap (λ (t : Table _ _ _). record t { edges = new.edges; found = record t.found { pending = new.found.pending } }) first.rest;
    }
