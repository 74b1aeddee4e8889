-- A bit of a window is one of the bits.
use Rattle.std.proofs.Common.{◌+◌, ◌≤◌, ◌-◌, drop, get_or, sym, ap, ◌∙◌, arith}
use Rattle.std.proofs.lemmas.List.{at_drop_more}
use Rattle.flow_graph.specs.Tables.{is_input}
use Rattle.flow_graph.specs.Windows.{seen}
use Rattle.flow_graph.specs.declared.windows.Window.{Window}
use Rattle.flow_graph.proofs.JointLemmas.{in_window, not_in_window}
use Rattle.flow_graph.proofs.windows.Windows.has.Goals as goal
use Rattle.flow_graph.proofs.windows.Windows.has.Goals.{else-window-bit-via-then-window-bit+else-bit-window}
use Rattle.flow_graph.proofs.windows.Windows.has.Goals.{else-window-bit-via-else-window-bit}

-- no window
abbrev none : Window
none = record { first = 0; count = 0; rotation = 0; mask = 0 }

pub returns-then-bit-window : goal.returns-then-bit-window
returns-then-bit-window c =
    let ws = c.as_slice-window-items.result.now in
    let i = c.loop-window.window-index in
    let b = c.args.bit in
    let w : Window = get_or ws i none in
    sym (ap (λ l. is_input b (seen l)) (sym c.as_slice-window-items.ensures.value)
    ∙ sym c.loop-window.invariant
    ∙ at_drop_more (λ l. is_input b (seen l)) ws i none c.loop-window-test.true
    ∙ in_window b w.first w.count (seen (drop (i + 1) ws)) c.if-window-bit.true c.if-bit-window.true)

pub loop-window-preserved : goal.loop-window-preserved
loop-window-preserved c =
    let ws = c.as_slice-window-items.result.now in
    let i = c.loop-window.window-index in
    let b = c.args.bit in
    let w : Window = get_or ws i none in
    let out : (w.first ≤ b → w.count ≤ b - w.first) = λ from. elim c.else-window-bit.branch [
      | else-window-bit-via-then-window-bit+else-bit-window v ↦ omega (arith, from, v.if-bit-window.false)
      | else-window-bit-via-else-window-bit v ↦ absurd (omega (arith, from, v.if-window-bit.false))
    ] in
    sym (not_in_window b w.first w.count (seen (drop (i + 1) ws)) out)
    ∙ sym (at_drop_more (λ l. is_input b (seen l)) ws i none c.loop-window-test.true)
    ∙ c.loop-window.invariant
