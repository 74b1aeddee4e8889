use Rattle.std.proofs.Common.{◌≡◌, ℕ, ◌+◌, ◌/◌, ◌^◌, true, ◌⊎◌, ◌↔◌, ◌∷◌, ◌++◌}
use Rattle.std.proofs.Common.{sym, ap, ◌∙◌, subst, length, refl, arith, rules}
use Rattle.std.proofs.lemmas.Bool.{eqb-true}
use Rattle.std.proofs.lemmas.Result.{IfOk-weaker}
use Rattle.language.specs.Lists.{Member}
use Rattle.path_sets.specs.declared.diagrams.insertion.Insertion.{Insertion}
use Rattle.path_sets.specs.Masks.{bit_of}
use Rattle.path_sets.specs.Walks.{IsNumber}
use Rattle.path_sets.specs.Halves.{ContinuesBy, valuation_of}
use Rattle.path_sets.specs.Quads.{IsInserted, Joins, points_of, sees}
use Rattle.path_sets.proofs.QuadLemmas.{keeps_on, keeps_self, stays_inside, quad_child_inside}
use Rattle.path_sets.proofs.UnionLemmas.{all_put, first_and_rest, goes_on, iff_on, led_inside, stops, all_first}
use Rattle.path_sets.proofs.diagrams.union.+union.Goals as goal

pub loop-left-preserved-in-None : goal.loop-left-preserved-in-None
loop-left-preserved-in-None g t c =
    let ns = c.loop-left.nodes.kept.keys in
    let i = c.loop-left.invariant in
    let x = c.loop-left.quad in
    let left = c.loop-left.left.now in
    let insertion = c.insertion_at-insertion.result in
    let more = c.split_at.result.1.now in
    let done : valuation_of insertion / 4 ^ c.args.level ≡ 0 = c.in-None.ensures.none refl in
    let is : left ≡ insertion ∷ more =
    first_and_rest left insertion c.insertion_at-insertion.ensures ∙ ap (λ m. insertion ∷ m) (sym c.split_at.ensures.back) in
    record {
      keeps = i.keeps;
      inside = i.inside;
      joins = λ v point. let old = subst (λ l. ((bit_of (sees ns x v) point ≡ true) ⊎ IsInserted l c.args.level v point)
          ↔ ((bit_of (points_of c.args.nodes.now.kept.keys c.args.number v) point ≡ true)
          ⊎ IsInserted c.args.insertions.now c.args.level v point)) is
          (i.joins v point) in
          iff_on _ _ _ (stops ns x insertion c.args.level more done v point) old;
    }

pub loop-left-preserved : goal.loop-left-preserved
loop-left-preserved g t c =
    let ns = c.loop-left.nodes.kept.keys in
    let ms = c.union.new.nodes.kept.keys in
    let i = c.loop-left.invariant in
    let x = c.loop-left.quad in
    let y = c.set_child.new.quad in
    let left = c.loop-left.left.now in
    let run = c.split_at-in-Some.result.0.now in
    let more = c.split_at-in-Some.result.1.now in
    let cut = c.split_at-in-Some.ensures in
    let two = c.in-Some.two in
    let child = c.in_ok-child-in-Some.child in
    let u = c.in_ok-child-in-Some.ensures in
    let is : left ≡ run ++ more = cut.by_index.0 in
    let alike = subst (λ l. (d : Insertion) → Member d l → ContinuesBy (valuation_of d) c.args.level two) (sym cut.front)
    (all_first (λ d. ContinuesBy (valuation_of d) c.args.level two) left c.run_of.result c.insertion_at-insertion.result
    c.insertion_at-insertion.ensures c.in-Some.ensures.some c.run_of.ensures.all) in
    let joins = subst (λ n. Joins run (c.args.level + 1) (points_of ns n) (points_of ms child)) c.child.ensures u.joins in
    record {
      keeps = keeps_on c.args.nodes.now.kept.keys ns ms i.keeps u.keeps;
      inside = led_inside ns ms x y run more c.args.level two child u.keeps i.inside alike joins
          c.set_child.ensures.points c.set_child.ensures.here c.set_child.ensures.others (stays_inside ns ms x u.keeps i.inside) u.inside;
      joins = λ v point. let old = subst (λ l. ((bit_of (sees ns x v) point ≡ true) ⊎ IsInserted l c.args.level v point)
          ↔ ((bit_of (points_of c.args.nodes.now.kept.keys c.args.number v) point ≡ true)
          ⊎ IsInserted c.args.insertions.now c.args.level v point)) is
          (i.joins v point) in
          iff_on _ _ _ (goes_on ns ms x y run more c.args.level two child u.keeps i.inside alike joins
          c.set_child.ensures.points c.set_child.ensures.here c.set_child.ensures.others v point) old;
    }

pub returns-clause-joins : goal.returns-clause-joins
returns-clause-joins g t c =
    let n0 = c.args.nodes.now.kept.keys in
    let ns = c.loop-left.nodes.kept.keys in
    let ms = c.make.new.self.kept.keys in
    IfOk-weaker c.make.result (λ r. (v : ℕ) → points_of ms r v ≡ sees ns c.loop-left.quad v)
    (λ r. Joins c.args.insertions.now c.args.level (points_of n0 c.args.number) (points_of ms r))
    (λ r same v point.
    all_put c.loop-left.left.now
    (eqb-true (length c.loop-left.left.now) 0 (sym c.is_empty.ensures ∙ c.loop-left-test.false)) c.args.level v point
    (points_of ms r v) (sees ns c.loop-left.quad v) (same v)
    _ (c.loop-left.invariant.joins v point))
    c.make.ensures.same

pub loop-left-init : goal.loop-left-init
loop-left-init g t c =
    let n0 = c.args.nodes.now.kept.keys in
    record {
      keeps = keeps_self n0;
      inside = c.node-quad.ensures.inside;
      joins = λ v point.
          let Is : ℕ → Type 0 = λ (s : ℕ). (bit_of s point ≡ true) ⊎ IsInserted c.args.insertions.now c.args.level v point in
          let same = c.node-quad.ensures.same v in
          (λ h. subst Is same h, λ h. subst Is (sym same) h);
    }

pub union-requires : goal.union-requires
union-requires g t c κs within =
    let x = c.loop-left.quad in
    let deep = c.in-Some.ensures.level in
    let ns = c.loop-left.nodes.kept.keys in
    let inside = subst (IsNumber ns) (sym c.child.ensures) (quad_child_inside ns x c.in-Some.two c.loop-left.invariant.inside) in
    (rw (← c.decreases) (omega (arith, deep)), (within, (omega (arith, deep), inside)))

pub overflow_cast-two : goal.overflow_cast-two
overflow_cast-two g t c = search rules

pub overflow_cast-two-in-Some : goal.overflow_cast-two-in-Some
overflow_cast-two-in-Some g t c = search rules

pub overflow_add-level : goal.overflow_add-level
overflow_add-level g t c = omega (arith, c.in-Some.ensures.level)
