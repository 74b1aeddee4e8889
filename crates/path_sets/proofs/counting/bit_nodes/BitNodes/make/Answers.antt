use Rattle.std.proofs.Common.{arith}
use Rattle.std.proofs.lemmas.Option.{slice_get_within}
use Rattle.language.specs.Words.{word_bits}
use Rattle.path_sets.specs.declared.counting.bit_node.BitNode.{BitNode}
use Rattle.path_sets.proofs.GrowthLemmas.{level_here, still_once}
use Rattle.path_sets.proofs.NodeLemmas.{still_down, still_ordered, still_reduced, node_keeps, node_joined}
use Rattle.path_sets.proofs.counting.bit_nodes.BitNodes.make.Goals as goal
use Rattle.path_sets.proofs.StoreLemmas.{same_node}

pub index_of-requires : goal.index_of-requires
index_of-requires g c = same_node

pub invariant_of-self : goal.invariant_of-self
invariant_of-self g c =
    let s = c.args.self.now in
    let x : BitNode = record { level = c.args.level; low = c.args.low; high = c.args.high } in
    record {
      down = still_down s.kept.keys s.down x c.requires.level c.requires.inside.0 c.requires.inside.1 c.index_of.new.kept.keys
          c.index_of.ensures.grown;
      ordered = still_ordered s.kept.keys s.down x c.requires.level c.requires.inside.0 c.requires.inside.1 c.requires.deep s.ordered
          c.index_of.new.kept.keys c.index_of.ensures.grown;
      reduced = still_reduced s.kept.keys s.down x c.requires.level c.requires.inside.0 c.requires.inside.1 c.if-low-high.false
          s.reduced c.index_of.new.kept.keys c.index_of.ensures.grown;
      once = still_once x s.kept.keys s.once c.index_of.new.kept.keys c.index_of.ensures.grown;
    }

pub returns-clause-keeps : goal.returns-clause-keeps
returns-clause-keeps g c =
    let s = c.args.self.now in
    let x : BitNode = record { level = c.args.level; low = c.args.low; high = c.args.high } in
    node_keeps s.kept.keys s.down x c.requires.level c.requires.inside.0 c.requires.inside.1 c.index_of.new.kept.keys
    c.index_of.ensures.grown

pub returns-in_err-at-clause-keeps : goal.returns-in_err-at-clause-keeps
returns-in_err-at-clause-keeps g c =
    let s = c.args.self.now in
    let x : BitNode = record { level = c.args.level; low = c.args.low; high = c.args.high } in
    node_keeps s.kept.keys s.down x c.requires.level c.requires.inside.0 c.requires.inside.1 c.index_of.new.kept.keys
    c.index_of.ensures.grown

pub returns-clause-inside : goal.returns-clause-inside
returns-clause-inside g c =
    let within = slice_get_within c.index_of.new.kept.keys c.in_ok-at.at
    (record { level = c.args.level; low = c.args.low; high = c.args.high }) c.in_ok-at.ensures.at in
    omega (arith, within)

pub returns-clause-deep : goal.returns-clause-deep
returns-clause-deep g c =
    let s = c.args.self.now in
    let x : BitNode = record { level = c.args.level; low = c.args.low; high = c.args.high } in
    let same = level_here (λ (y : BitNode). y.level) word_bits c.index_of.new.kept.keys c.in_ok-at.at x c.in_ok-at.ensures.at in
    omega (arith, same)

pub returns-clause-joined : goal.returns-clause-joined
returns-clause-joined g c =
    let s = c.args.self.now in
    let x : BitNode = record { level = c.args.level; low = c.args.low; high = c.args.high } in
    λ v. node_joined s.kept.keys s.down x c.requires.level c.requires.inside.0 c.requires.inside.1 c.index_of.new.kept.keys
    c.index_of.ensures.grown c.in_ok-at.at v c.in_ok-at.ensures.at
