-- What one more pair leaves is gathered, and the sort only moves it.
use Rattle.std.proofs.Common.{◌≡◌, ◌-◌, ◌+◌, ◌++◌, [], map, Some, sym, ap, ◌∙◌, subst, arith}
use Rattle.std.proofs.lemmas.Option.{same_Some}
use Rattle.std.proofs.lemmas.Result.{on_ok_weaker}
use Rattle.summaries.specs.declared.pair.Pair.{Pair}
use Rattle.summaries.specs.Exits.{pair, count_of}
use Rattle.summaries.specs.Found.{left}
use Rattle.summaries.specs.Grows.{AddsTo}
use Rattle.summaries.proofs.TellLemmas.{gives_as, gives_one}
use Rattle.summaries.proofs.WalkLemmas.{IsDoneFrom, IsLeftAt, none_first, all_last, told_next, next_below, added_pairs}
use Rattle.summaries.proofs.reading.add_pairs_of.Goals as goal

pub links-init : goal.links-init
links-init g c =
    let exits = c.args.exits.now in
    let entry = c.args.entry in
    let W = IsLeftAt exits entry in record {
      leads = (count_of exits, c.requires);
      gathered = subst (AddsTo (IsDoneFrom exits entry c.args.last W) []) (sym c.clear.ensures.items)
          (none_first exits entry W c.args.last c.requires []);
    }

pub left_at-before-requires : goal.left_at-before-requires
left_at-before-requires g c =
    let link = c.links.link in
    let is : link ≡ link - 1 + 1 = omega (arith, c.links-test.true) in
    let (before, leads) = c.links.invariant.leads in
    let (less, (b, here)) = leads.there (link - 1) is in
    (pair c.args.entry b, here)

pub links-smaller : goal.links-smaller
links-smaller g c =
    let exits = c.args.exits.now in
    let link = c.links.link in
    let is : link ≡ link - 1 + 1 = omega (arith, c.links-test.true) in
    let (before, leads) = c.links.invariant.leads in
    let (less, (b, here)) = leads.there (link - 1) is in
    let low = next_below exits c.args.entry (IsLeftAt exits c.args.entry) (link - 1) link c.left_at-before.result.1 is b here
    (c.left_at-before.ensures.before (pair c.args.entry b) here) in
    let more = c.links-test.true in
    omega (arith, low, more)

pub links-preserved : goal.links-preserved
links-preserved g c =
    let exits = c.args.exits.now in
    let entry = c.args.entry in
    let link = c.links.link in
    let at = link - 1 in
    let is : link ≡ link - 1 + 1 = omega (arith, c.links-test.true) in
    let (before, leads) = c.links.invariant.leads in
    let (less, (b, here)) = leads.there at is in
    let next = c.left_at-before.ensures.before (pair entry b) here in
    let exit = c.left_at-before.result.0 in
    let it : exit ≡ b = c.left_at-before.ensures.left (pair entry b) here in
    let items = c.links.left.items in
    let one = gives_as (λ x. x ≡ exit) (IsLeftAt exits entry at) items c.append.new.list.items
    (λ x same. here ∙ ap (λ e. Some (pair entry e)) (sym (same ∙ it)))
    (λ x there. ap (λ (p : Pair). left p.b p.r) (same_Some (pair entry x) (pair entry b) (sym there ∙ here)) ∙ sym it)
    (gives_one exit items c.append.new.list.items c.in_ok-append.ensures.ok) in
    record {
      leads = (at, next);
      gathered = told_next exits entry (IsLeftAt exits entry) at link c.left_at-before.result.1 is b here next
          [] items c.append.new.list.items c.links.invariant.gathered one;
    }

pub returns : goal.returns
returns g c =
    let exits = c.args.exits.now in
    let entry = c.args.entry in
    let gathered = all_last exits entry (IsLeftAt exits entry) c.links.link (omega (arith, c.links-test.false)) [] c.links.left.items
    c.links.invariant.gathered in
    on_ok_weaker c.append_pairs.result
    (λ more. added_pairs exits entry c.links.left.items c.sort_unstable.new.self.items c.args.pairs.now.items
    c.append_pairs.new.pairs.items gathered c.sort_unstable.ensures.permutation
    (more ∙ ap (λ l. c.args.pairs.now.items ++ map (pair entry) l) c.deref.ensures.value))
    c.append_pairs.ensures
