-- One more summary is that of the next table.
use Rattle.std.proofs.Common.{◌≡◌, ◌∷◌, [], Some, length, slice_get, refl, sym, ap, ◌∙◌, subst, arith, length-append}
use Rattle.std.proofs.lemmas.Option.{slice_get_read, same_Some, none-some}
use Rattle.summaries.specs.declared.table.Table.{Table}
use Rattle.summaries.specs.Effects.{Effect}
use Rattle.summaries.specs.Together.{IsReadOff}
use Rattle.summaries.proofs.ReplaceLemmas.{each_pushed}
use Rattle.summaries.proofs.reading.read.Goals as goal

pub loop-table-preserved : goal.loop-table-preserved
loop-table-preserved g c =
    let pushed = c.in_ok-push.ensures.items in
    let before = c.loop-table.summaries.items in
    let tables = c.args.tables.now in
    let invariant = c.loop-table.invariant in
    let table = c.table-item.result in
    let is : slice_get tables c.loop-table.table-index ≡ Some table =
    slice_get_read tables _ c.loop-table.table-index table refl c.loop-table-test.true c.table-item.is in
    let new : Effect = c.in_ok-summary_of.field-0 in
    record {
      count = omega (arith, invariant.count, ap length pushed, length-append before (new ∷ []));
      read = λ q t s is_t is_s.
          each_pushed (λ n (u : Effect). (v : Table g.row.G.Denot g.row.A.Denot g.row.S.Denot) →
          slice_get tables n ≡ Some v → IsReadOff v.found u) before new
          (λ n u is_u v is_v. invariant.read n v u is_v is_u)
          (λ v is_v.
          subst (λ (w : Table g.row.G.Denot g.row.A.Denot g.row.S.Denot). IsReadOff w.found new)
          (same_Some table v (sym is ∙ ap (slice_get tables) (sym invariant.count) ∙ is_v)) c.in_ok-summary_of.ensures)
          q s (subst (λ l. slice_get l q ≡ Some s) pushed is_s) t is_t;
    }

pub loop-table-init : goal.loop-table-init
loop-table-init g c =
    let none = c.new-summaries.ensures.items in
    record {
      count = ap length none;
      read = λ q t s is_t is_s. absurd (none-some s (subst (λ l. slice_get l q ≡ Some s) none is_s));
    }

pub loop-table-smaller : goal.loop-table-smaller
loop-table-smaller g c = omega (arith, c.loop-table-test.true)

pub bounds-tables-table-index : goal.bounds-tables-table-index
bounds-tables-table-index g c = c.loop-table-test.true
