-- The links are followed.
use Rattle.std.proofs.Common.{◌≡◌, ◌+◌, ◌-◌, ℕ, Some, refl, sym, ap, ◌∙◌, subst, true≢false, arith}
use Rattle.std.specs.Map.{keys_of}
use Rattle.std.proofs.lemmas.Bool.{false_from_ne_true}
use Rattle.path_sets.proofs.PlaceLemmas.{get_map, at_index}
use Rattle.flow_graph.specs.declared.exit.Exit.{Exit}
use Rattle.summaries.specs.Found.{left}
use Rattle.summaries.specs.Hashes.{kept_eq, is_one_of}
use Rattle.summaries.proofs.FindingLemmas.{FromOn, same_kept, kept_itself, one_of, for_all, none_from, read_there, within_pairs, next_leads}
use Rattle.summaries.proofs.FindingLemmas.{next_below, one_from}
use Rattle.summaries.proofs.finding.is_linked.Goals as goal

pub loop-link-init : goal.loop-link-init
loop-link-init c = record {
  leads = (_, c.requires.last);
  others = none_from c.args.pairs.now c.args.entry (λ b. b ≡ left c.args.globals c.args.returned → ⊥) c.args.last c.requires.last;
}

pub bounds-pairs-link : goal.bounds-pairs-link
bounds-pairs-link c =
    let (bound, leads) = c.loop-link.invariant.leads in
    within_pairs c.args.pairs.now c.args.entry bound (c.loop-link.link - 1) c.loop-link.link leads (omega (arith, c.loop-link-test.true))

pub returns-then-eq : goal.returns-then-eq
returns-then-eq c =
    let ps = c.args.pairs.now in
    let at = c.loop-link.link - 1 in
    let is : c.loop-link.link ≡ at + 1 = omega (arith, c.loop-link-test.true) in
    let (bound, leads) = c.loop-link.invariant.leads in
    let inside = c.linked.inside in
    let (here, its) = read_there ps c.args.entry bound at c.loop-link.link leads is (inside.pair, inside.before)
    c.index-pairs-link.result c.linked.view_is c.index-pairs-link.is in
    let same : inside.pair ≡ c.new-pair.result = same_kept inside.pair c.new-pair.result (sym c.eq.ensures ∙ c.if-eq.true) in
    let key = get_map (λ (p : (ℕ × Exit) × ℕ). p.0) ps at ((c.args.entry, inside.pair.1), inside.before) here in
    sym (one_of (keys_of ps) (c.args.entry, left c.args.globals c.args.returned)
    (at_index (keys_of ps) (c.args.entry, left c.args.globals c.args.returned) at (key ∙ ap Some (sym its ∙ same ∙ c.new-pair.ensures))))

pub loop-link-smaller : goal.loop-link-smaller
loop-link-smaller c =
    let ps = c.args.pairs.now in
    let at = c.loop-link.link - 1 in
    let is : c.loop-link.link ≡ at + 1 = omega (arith, c.loop-link-test.true) in
    let (bound, leads) = c.loop-link.invariant.leads in
    let inside = c.linked.inside in
    let (here, its) = read_there ps c.args.entry bound at c.loop-link.link leads is (inside.pair, inside.before)
    c.index-pairs-link.result c.linked.view_is c.index-pairs-link.is in
    let low = next_below ps c.args.entry c.requires.linked at c.loop-link.link inside.before is inside.pair.1 here in
    omega (arith, low, is)

pub loop-link-preserved : goal.loop-link-preserved
loop-link-preserved c =
    let ps = c.args.pairs.now in
    let at = c.loop-link.link - 1 in
    let is : c.loop-link.link ≡ at + 1 = omega (arith, c.loop-link-test.true) in
    let (bound, leads) = c.loop-link.invariant.leads in
    let inside = c.linked.inside in
    let (here, its) = read_there ps c.args.entry bound at c.loop-link.link leads is (inside.pair, inside.before)
    c.index-pairs-link.result c.linked.view_is c.index-pairs-link.is in
    let sought = left c.args.globals c.args.returned in
    let other : inside.pair.1 ≡ sought → ⊥ = λ same.
    let whole : inside.pair ≡ c.new-pair.result = its ∙ (λ i. (c.args.entry, same i)) ∙ sym c.new-pair.ensures in
    true≢false (sym (kept_itself inside.pair) ∙ ap (kept_eq inside.pair) whole ∙ sym c.eq.ensures ∙ c.if-eq.false) in
    record {
      leads = (at, next_leads ps c.args.entry c.requires.linked at c.loop-link.link inside.before is inside.pair.1 here);
      others = one_from ps c.args.entry c.requires.linked at c.loop-link.link inside.before is inside.pair.1 here
          (λ b. b ≡ sought → ⊥) other c.loop-link.invariant.others;
    }

pub returns : goal.returns
returns c =
    let ps = c.args.pairs.now in
    let sought = left c.args.globals c.args.returned in
    let none : c.loop-link.link ≡ 0 = omega (arith, c.loop-link-test.false) in
    sym (false_from_ne_true (is_one_of (keys_of ps) (c.args.entry, sought))
    (λ there. for_all ps c.args.entry (λ b. b ≡ sought → ⊥)
    (subst (FromOn ps c.args.entry (λ b. b ≡ sought → ⊥)) none c.loop-link.invariant.others) sought there refl))
