use Rattle.std.proofs.Common.{◌≡◌, ◌+◌, ◌++◌, ◌∙◌, length, ◌↔◌, Ok, refl, sym, ap, subst}
use Rattle.std.specs.Prelude.{IfSome, IsSome}
use Rattle.turns.specs.Turn as turn
use Rattle.turns.proofs.FailLemmas.{turn_fails}
use Rattle.stack_sets.specs.Nodes.{by_number, nodes_in}
use Rattle.stack_sets.specs.Turns.{machine_by}
use Rattle.saturation.specs.Items.{Found, IsAmong}
use Rattle.naming.specs.Holds.{HoldsFor}
use Rattle.naming.specs.Moves.{AreKept, IsNumber, ReachBelow}
use Rattle.naming.specs.Names.{AreListed}
use Rattle.naming.specs.Pruned.{ArePruned}
use Rattle.naming.proofs.PruneLemmas.{pruned_length}
use Rattle.naming.proofs.TurnLemmas.{reach_then, whole_then, endings_then}
use Rattle.naming.proofs.taking.BySaturationTakesTurns.take_turn.Goals as goal

pub returns-in_default-clause-comes : goal.returns-in_default-clause-comes
returns-in_default-clause-comes g c =
    (turn_fails (machine_by c.args.graphs.now c.args.asserts.now) (by_number (nodes_in c.args.sets.now)) c.args.globals c.args.node
    c.requires.whole.full).0
    (c.in_ok-items.ensures.fails (ap Ok c.in_default.is))

pub keep_all-requires-clause-reach : goal.keep_all-requires-clause-reach
keep_all-requires-clause-reach g c =
    let m = machine_by c.args.graphs.now c.args.asserts.now in
    let before = nodes_in c.args.sets.now in
    let all = subst (λ o. IfSome o (λ items. (x : Found) → IsAmong items.keys x
    ↔ turn.Found m (by_number before) c.args.globals c.args.node x)) c.in-Some.is c.in_ok-items.ensures.all in
    let fewer = c.in_ok-nodes.nodes.items in
    subst (λ l. ReachBelow (c.len-base.result + length l) l) (sym c.as_slice-3.ensures.value)
    (reach_then m before c.args.globals c.args.node c.requires.whole c.in-Some.items.keys all
    c.len-base.result c.len-base.ensures c.in_ok-named.named c.in_ok-named.ensures.level
    (subst (λ l. HoldsFor c.len-base.result l c.in_ok-named.named) c.as_slice.ensures.keys c.in_ok-named.ensures.holds)
    fewer (subst (λ l. ArePruned (before ++ l) l fewer) c.as_slice-2.ensures.value c.in_ok-nodes.ensures))

pub list_endings-requires : goal.list_endings-requires
list_endings-requires g c =
    ap length c.as_slice-5.ensures.value
    ∙ c.in_ok-names.ensures.count
    ∙ ap length c.as_slice-3.ensures.value
    ∙ pruned_length (nodes_in c.args.sets.now ++ c.as_slice-2.result.now) c.as_slice-2.result.now c.in_ok-nodes.nodes.items
    c.in_ok-nodes.ensures
    ∙ ap length c.as_slice-2.ensures.value
    ∙ c.in_ok-named.ensures.level
    ∙ sym (ap length c.as_slice-6.ensures.keys)

pub returns-clause-whole : goal.returns-clause-whole
returns-clause-whole g c =
    let m = machine_by c.args.graphs.now c.args.asserts.now in
    let before = nodes_in c.args.sets.now in
    let all = subst (λ o. IfSome o (λ items. (x : Found) → IsAmong items.keys x
    ↔ turn.Found m (by_number before) c.args.globals c.args.node x)) c.in-Some.is c.in_ok-items.ensures.all in
    let there = nodes_in c.keep_all.new.sets in
    let fewer = c.in_ok-nodes.nodes.items in
    let names = c.in_ok-names.names.items in
    whole_then m before c.args.globals c.args.node c.requires.whole c.in-Some.items.keys all
    c.len-base.result c.len-base.ensures c.in_ok-named.named c.in_ok-named.ensures.level
    (subst (λ l. HoldsFor c.len-base.result l c.in_ok-named.named) c.as_slice.ensures.keys c.in_ok-named.ensures.holds)
    fewer (subst (λ l. ArePruned (before ++ l) l fewer) c.as_slice-2.ensures.value c.in_ok-nodes.ensures)
    there c.keep_all.ensures.keeps names (subst (λ l. length names ≡ length l) c.as_slice-3.ensures.value c.in_ok-names.ensures.count)
    (subst (λ l. AreKept c.len-base.result (IsNumber names) (IsNumber names) l there) c.as_slice-3.ensures.value
    c.in_ok-names.ensures.kept)

pub returns-clause-comes : goal.returns-clause-comes
returns-clause-comes g c =
    let m = machine_by c.args.graphs.now c.args.asserts.now in
    let before = nodes_in c.args.sets.now in
    let all = subst (λ o. IfSome o (λ items. (x : Found) → IsAmong items.keys x
    ↔ turn.Found m (by_number before) c.args.globals c.args.node x)) c.in-Some.is c.in_ok-items.ensures.all in
    let there = nodes_in c.keep_all.new.sets in
    let fewer = c.in_ok-nodes.nodes.items in
    let names = c.in_ok-names.names.items in (
      endings_then m before c.args.globals c.args.node c.requires.whole c.in-Some.items.keys all
          c.len-base.result c.len-base.ensures c.in_ok-named.named c.in_ok-named.ensures.level
          (subst (λ l. HoldsFor c.len-base.result l c.in_ok-named.named) c.as_slice.ensures.keys c.in_ok-named.ensures.holds)
          fewer (subst (λ l. ArePruned (before ++ l) l fewer) c.as_slice-2.ensures.value c.in_ok-nodes.ensures)
          there c.keep_all.ensures.keeps names
          (subst (λ l. length names ≡ length l) c.as_slice-3.ensures.value c.in_ok-names.ensures.count)
          (subst (λ l. AreKept c.len-base.result (IsNumber names) (IsNumber names) l there) c.as_slice-3.ensures.value
          c.in_ok-names.ensures.kept)
          c.in_ok-endings.endings.items
          (subst (λ l. AreListed l c.in_ok-named.named.parts.keys c.in_ok-endings.endings.items) c.as_slice-5.ensures.value
          (subst (λ l. AreListed c.as_slice-5.result.now l c.in_ok-endings.endings.items) c.as_slice-6.ensures.keys
          c.in_ok-endings.ensures.listed)),
      λ fails.
          c.in_ok-items.ensures.passes (subst IsSome (sym c.in-Some.is) refl)
          ((turn_fails m (by_number before) c.args.globals c.args.node c.requires.whole.full).1 fails),
    )
