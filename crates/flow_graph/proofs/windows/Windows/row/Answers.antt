-- Each window adds its bits after those in front of it.
use Rattle.std.proofs.Common.{◌≡◌, ◌+◌, ◌∙◌, ℕ, List, bit_and, map, take, get_or, ap, sym, subst, arith}
use Rattle.flow_graph.specs.Bits.{bit_of, coded}
use Rattle.flow_graph.specs.Windows.{seen, AreWindows}
use Rattle.flow_graph.specs.declared.windows.Window.{Window}
use Rattle.flow_graph.proofs.WindowLemmas.{row_next, row_small}
use Rattle.flow_graph.proofs.windows.Windows.row.Goals as goal

-- the row of the first windows of a list
abbrev first : (v k : ℕ) → List Window → ℕ
first v k ws = coded (map (bit_of v) (seen (take k ws)))

next : (c : goal.After-row_known-in-loop-window-1) → c.loop-window.row + bit_and c.rotate_right-half.result
    (get_or c.as_slice-window-items.result.now c.loop-window.window-index record { first = 0; count = 0; rotation = 0; mask = 0 }).mask
    ≡ first c.args.values (c.loop-window.window-index + 1) c.args.self.now.items.items
next c =
    let ws = c.as_slice-window-items.result.now in
    let same = c.as_slice-window-items.ensures.value in
    let v = c.args.values in
    let i = c.loop-window.window-index in
    let d : Window = record { first = 0; count = 0; rotation = 0; mask = 0 } in
    ap (λ x. c.loop-window.row + bit_and x (get_or ws i d).mask) c.rotate_right-half.ensures
    ∙ row_next v i c.half.result c.loop-window.row ws d (subst (AreWindows 0) (sym same) c.args.self.now.laid)
    c.loop-window-test.true c.half.type_inv c.half.ensures (c.loop-window.invariant ∙ ap (first v i) (sym same))
    ∙ ap (first v (i + 1)) same

pub overflow_add-row : goal.overflow_add-row
overflow_add-row c =
    omega (
      arith,
      next c,
      row_small (bit_of c.args.values) (c.loop-window.window-index + 1) c.args.self.now.items.items
          c.args.self.now.laid,
    )

pub loop-window-preserved : goal.loop-window-preserved
loop-window-preserved c = next c
