-- The links are followed.
use Rattle.std.proofs.Common.{◌≡◌, ◌+◌, ◌-◌, ℕ, true, Some, sym, ap, ◌∙◌, subst, arith}
use Rattle.std.specs.Map.{keys_of}
use Rattle.path_sets.proofs.PlaceLemmas.{get_map, at_index}
use Rattle.flow_graph.specs.declared.exit.Exit.{Exit}
use Rattle.summaries.specs.Found.{left}
use Rattle.summaries.specs.Hashes.{is_one_of}
use Rattle.summaries.proofs.FindingLemmas.{FromOn, for_all, none_from, read_there, within_pairs, next_leads, next_below, one_from}
use Rattle.summaries.proofs.FindingLemmas.{one_of, hashed_one, looked_up, looked_first, all_and_new}
use Rattle.summaries.proofs.finding.hash_all.Goals as goal

pub loop-link-init : goal.loop-link-init
loop-link-init g c = record {
  leads = (_, c.requires.last);
  added =
      none_from c.args.pairs.now c.args.entry (λ b. is_one_of c.args.many.now.keys (c.args.entry, b) ≡ true) c.args.last c.requires.last;
  looked = looked_first (keys_of c.args.pairs.now) c.args.many.now.keys c.requires.real;
}

pub bounds-pairs-link : goal.bounds-pairs-link
bounds-pairs-link g c =
    let (bound, leads) = c.loop-link.invariant.leads in
    within_pairs c.args.pairs.now c.args.entry bound (c.loop-link.link - 1) c.loop-link.link leads (omega (arith, c.loop-link-test.true))

pub loop-link-smaller : goal.loop-link-smaller
loop-link-smaller g c =
    let ps = c.args.pairs.now in
    let at = c.loop-link.link - 1 in
    let is : c.loop-link.link ≡ at + 1 = omega (arith, c.loop-link-test.true) in
    let (bound, leads) = c.loop-link.invariant.leads in
    let inside = c.linked.inside in
    let (here, its) = read_there ps c.args.entry bound at c.loop-link.link leads is (inside.pair, inside.before)
    c.index-pairs-link.result c.linked.view_is c.index-pairs-link.is in
    let low = next_below ps c.args.entry c.requires.linked at c.loop-link.link inside.before is inside.pair.1 here in
    omega (arith, low, is)

pub loop-link-preserved : goal.loop-link-preserved
loop-link-preserved g c =
    let ps = c.args.pairs.now in
    let at = c.loop-link.link - 1 in
    let is : c.loop-link.link ≡ at + 1 = omega (arith, c.loop-link-test.true) in
    let (bound, leads) = c.loop-link.invariant.leads in
    let inside = c.linked.inside in
    let (here, its) = read_there ps c.args.entry bound at c.loop-link.link leads is (inside.pair, inside.before)
    c.index-pairs-link.result c.linked.view_is c.index-pairs-link.is in
    let key = get_map (λ (p : (ℕ × Exit) × ℕ). p.0) ps at ((c.args.entry, inside.pair.1), inside.before) here in
    let there : is_one_of (keys_of ps) inside.pair ≡ true =
    one_of (keys_of ps) inside.pair (at_index (keys_of ps) inside.pair at (key ∙ ap Some (sym its))) in
    let before = c.loop-link.many.keys in
    let after = c.insert.new.self.keys in
    let (had, same) = hashed_one inside.pair before after c.in_ok-insert.ensures.updates.0 in
    record {
      leads = (at, next_leads ps c.args.entry c.requires.linked at c.loop-link.link inside.before is inside.pair.1 here);
      added = one_from ps c.args.entry c.requires.linked at c.loop-link.link inside.before is inside.pair.1 here
          (λ b. is_one_of after (c.args.entry, b) ≡ true) (subst (λ k. is_one_of after k ≡ true) its same)
          (λ k b high at_k. had (c.args.entry, b) (c.loop-link.invariant.added k b high at_k));
      looked = looked_up (keys_of ps) c.args.many.now.keys before after inside.pair there c.in_ok-insert.ensures.updates.0
          c.loop-link.invariant.looked;
    }

pub returns-clause-all : goal.returns-clause-all
returns-clause-all g c =
    let ps = c.args.pairs.now in
    let before = c.loop-link.many.keys in
    let none : c.loop-link.link ≡ 0 = omega (arith, c.loop-link-test.false) in
    all_and_new (keys_of ps) c.args.entry (left c.args.globals c.args.returned) before c.insert_hashed.new.many.keys
    (for_all ps c.args.entry (λ b. is_one_of before (c.args.entry, b) ≡ true)
    (subst (FromOn ps c.args.entry (λ b. is_one_of before (c.args.entry, b) ≡ true)) none c.loop-link.invariant.added))
    c.in_ok-insert_hashed.ensures.ok
