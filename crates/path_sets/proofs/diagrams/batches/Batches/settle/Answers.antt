use Rattle.std.proofs.Common.{refl}
use Rattle.path_sets.proofs.BatchLemmas.{home_as, home_moved}
use Rattle.path_sets.proofs.diagrams.batches.Batches.settle.Goals as goal
use Rattle.path_sets.proofs.PlaceLemmas.{set_there}

pub invariant_of-self : goal.invariant_of-self
invariant_of-self g c =
    let s = c.args.self.now in
    record { home = home_as s.homes.items _ s.batches.items s.batches.items s.home c.in_err-fill.ensures.stay (λ k. refl) }

pub invariant_of-self-in-Break-branch-2 : goal.invariant_of-self-in-Break-branch-2
invariant_of-self-in-Break-branch-2 g c =
    let s = c.args.self.now in
    record { home = home_as s.homes.items _ s.batches.items _ s.home c.in_ok-fill.ensures.stay c.in_err-at.ensures.keep.gathered }

pub invariant_of-self-2 : goal.invariant_of-self-2
invariant_of-self-2 g c =
    let s = c.args.self.now in
    record {
      home =
          home_moved s.homes.items c.fill.new.homes.items s.batches.items c.batch_with_room.new.batches.items c.args.diagram c.in_ok-at.at
          s.home
          c.in_ok-fill.ensures.stay c.in_ok-at.ensures.keep.gathered c.requires;
    }

pub returns-clause-batch : goal.returns-clause-batch
returns-clause-batch g c = (
  set_there c.fill.new.homes.items c.args.diagram c.in_ok-at.at c.in_ok-fill.ensures.within,
  c.in_ok-at.ensures.within,
)
