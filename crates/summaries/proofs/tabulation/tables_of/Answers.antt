-- One more table is that of the next graph.
use Rattle.std.proofs.Common.{◌≡◌, ◌∷◌, [], Some, length, slice_get, sym, ap, ◌∙◌, subst, arith, length-append}
use Rattle.std.proofs.lemmas.Option.{none-some}
use Rattle.summaries.specs.declared.table.Table.{Table}
use Rattle.summaries.specs.Tables.{graph_of, IsNew}
use Rattle.summaries.proofs.ReplaceLemmas.{each_pushed, map_is}
use Rattle.summaries.proofs.tabulation.tables_of.Goals as goal
use Rattle.path_sets.specs.EdgeLimits.{most_of}

pub loop-procedure-preserved : goal.loop-procedure-preserved
loop-procedure-preserved g c =
    let pushed = c.in_ok-push.ensures.items in
    let before = c.loop-procedure.tables.items in
    let new = c.new.result in
    let invariant = c.loop-procedure.invariant in
    let place : c.loop-procedure.procedure ≡ length before = sym invariant.count in
    record {
      count = omega (arith, invariant.count, ap length pushed, length-append before (new ∷ []));
      fresh =
          λ q t is.
          each_pushed
          (λ n (u : Table g.row.G.Denot g.row.A.Denot g.row.S.Denot). IsNew g.S.PathSet.members u) before new invariant.fresh
          c.new.ensures.new q t (subst (λ l. slice_get l q ≡ Some t) pushed is);
      numbered =
          λ q t is.
          each_pushed (λ n (u : Table g.row.G.Denot g.row.A.Denot g.row.S.Denot). u.procedure ≡ n) before new invariant.numbered
          (c.new.ensures.procedure ∙ place) q t (subst (λ l. slice_get l q ≡ Some t) pushed is);
      limits = λ q t is. each_pushed
          (λ n (u : Table g.row.G.Denot g.row.A.Denot g.row.S.Denot). most_of u.limit ≡ most_of c.args.limit) before new
          invariant.limits c.new.ensures.limit q t (subst (λ l. slice_get l q ≡ Some t) pushed is);
      graphs =
          λ q t is.
          each_pushed
          (λ n (u : Table g.row.G.Denot g.row.A.Denot g.row.S.Denot). slice_get c.args.graphs.now.graphs.items n ≡ Some u.graph.now) before
          new invariant.graphs (subst (λ n. slice_get c.args.graphs.now.graphs.items n ≡ Some new.graph.now) place c.new.ensures.graph) q t
          (subst (λ l. slice_get l q ≡ Some t) pushed is);
    }

pub returns-clause-new : goal.returns-clause-new
returns-clause-new g c = record { fresh = c.loop-procedure.invariant.fresh; number = c.loop-procedure.invariant.numbered }

pub returns-clause-graphs : goal.returns-clause-graphs
returns-clause-graphs g c =
    map_is graph_of c.loop-procedure.tables.items c.args.graphs.now.graphs.items
    (omega (
      arith,
      c.loop-procedure.invariant.count,
      c.loop-procedure-test.false,
      c.loop-procedure.auto.procedure-end,
      c.len-procedure-end.ensures,
    )) c.loop-procedure.invariant.graphs

pub returns-clause-limit : goal.returns-clause-limit
returns-clause-limit g c = c.loop-procedure.invariant.limits

pub loop-procedure-init : goal.loop-procedure-init
loop-procedure-init g c =
    let none = c.new-tables.ensures.items in
    record {
      count = ap length none;
      fresh = λ q t is. absurd (none-some t (subst (λ l. slice_get l q ≡ Some t) none is));
      numbered = λ q t is. absurd (none-some t (subst (λ l. slice_get l q ≡ Some t) none is));
      limits = λ q t is. absurd (none-some t (subst (λ l. slice_get l q ≡ Some t) none is));
      graphs = λ q t is. absurd (none-some t (subst (λ l. slice_get l q ≡ Some t) none is));
    }

pub loop-procedure-smaller : goal.loop-procedure-smaller
loop-procedure-smaller g c = omega (arith, c.loop-procedure-test.true, c.loop-procedure.auto.procedure-end)
