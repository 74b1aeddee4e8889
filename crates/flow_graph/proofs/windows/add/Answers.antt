-- The last window takes the bit in, or a new one does.
use Rattle.std.proofs.Common.{◌≡◌, ◌≤◌, ◌+◌, ◌*◌, ◌%◌, ◌^◌, ◌∙◌, ◌++◌, ◌∷◌, [], ℕ, List}
use Rattle.std.proofs.Common.{length, refl, ap, sym, subst, arith}
use Rattle.std.proofs.Math.Pow.{pow_mono}
use Rattle.flow_graph.specs.Tables.{most_inputs}
use Rattle.flow_graph.specs.Windows.{seen, IsWindow, AreWindows}
use Rattle.flow_graph.specs.declared.windows.Window.{Window}
use Rattle.flow_graph.proofs.WindowLemmas.{laid_split, opened, widened}
use Rattle.flow_graph.proofs.windows.add.Goals as goal

-- what is known of the last window
last_is : (xs ws : List Window) (last : Window) → AreWindows 0 xs → xs ≡ ws ++ last ∷ []
    → AreWindows 0 ws × (IsWindow (length (seen ws) + 0) last × (last.count + (length (seen ws) + 0) ≤ most_inputs))
last_is xs ws last laid is = laid_split 0 ws last (subst (AreWindows 0) is laid)

pub overflow_add-last : goal.overflow_add-last
overflow_add-last c =
    let is = last_is c.args.items.now.items c.pop.new.self.items c.in-Some.last c.requires.laid c.in-Some.ensures.items in
    omega (arith, is.1.0.1.0)

pub overflow_add-last-in-Some-2 : goal.overflow_add-last-in-Some-2
overflow_add-last-in-Some-2 c =
    let is = last_is c.args.items.now.items c.pop.new.self.items c.in-Some.last c.requires.laid c.in-Some.ensures.items in
    let n : ℕ = length (seen c.pop.new.self.items) + 0 in
    let whole : 2 ^ (c.in-Some.last.count + n) ≤ 2 ^ 10 =
    pow_mono (let z : c.in-Some.last.count + n ≤ 10 = omega (arith, is.1.1) in z) in
    let place : 2 ^ c.args.front ≤ 2 ^ 10 = pow_mono (let z : c.args.front ≤ 10 = omega (arith, c.requires.room) in z) in
    omega (arith, is.1.0.1.1.1, whole, place)

-- the last window with the bit
wider : (c : goal.After-push)
    → AreWindows 0 c.push.new.self.items × (seen c.push.new.self.items ≡ seen c.args.items.now.items ++ c.args.bit ∷ [])
wider c =
    let ws = c.pop.new.self.items in
    let last = c.in-Some.last in
    let front = c.args.front in
    let old = c.in-Some.ensures.items in
    let place : 2 ^ front ≤ 2 ^ 10 = pow_mono (let z : front ≤ 10 = omega (arith, c.requires.room) in z) in
    let w : Window = record {
      first = last.first;
      count = last.count + 1;
      rotation = last.rotation;
      mask = last.mask + 1 * 2 ^ front % 65536;
    } in
    let is = widened ws last w c.args.bit front (subst (AreWindows 0) old c.requires.laid)
    (c.requires.front ∙ ap (λ xs. length (seen xs)) old) c.requires.room c.requires.place c.if-last-bit.true c.if-bit-ne0.true
    refl refl refl (let z : last.mask + 1 * 2 ^ front % 65536 ≡ last.mask + 2 ^ front = omega (arith, place) in z) in (
      subst (AreWindows 0) (sym c.push.ensures.items) is.0,
      ap seen c.push.ensures.items ∙ is.1 ∙ ap (λ xs. seen xs ++ c.args.bit ∷ []) (sym old),
    )

pub returns-in-Some-clause-laid : goal.returns-in-Some-clause-laid
returns-in-Some-clause-laid c = (wider c).0

pub returns-in-Some-clause-seen : goal.returns-in-Some-clause-seen
returns-in-Some-clause-seen c = (wider c).1

-- a window after the others
another : (c : goal.After-push-in-Some-2-2)
    → AreWindows 0 c.push-in-Some-2-2.new.self.items
    × (seen c.push-in-Some-2-2.new.self.items ≡ seen c.args.items.now.items ++ c.args.bit ∷ [])
another c =
    let back : c.push-in-Some-2.new.self.items ≡ c.args.items.now.items = c.push-in-Some-2.ensures.items
    ∙ ap (λ w. c.pop.new.self.items ++ w ∷ []) c.in-Some-2.last-is ∙ sym c.in-Some-2.ensures.items in
    let items = c.push-in-Some-2-2.ensures.items ∙ ap (λ xs. xs ++ c.new.result ∷ []) back in
    let is = opened c.args.items.now.items c.new.result c.args.bit c.args.front c.requires.laid c.requires.front c.requires.room
    c.new.ensures.window c.new.ensures.bit.0 c.new.ensures.bit.1 in
    (subst (AreWindows 0) (sym items) is.0, ap seen items ∙ is.1)

pub returns-in-Some-2-clause-laid : goal.returns-in-Some-2-clause-laid
returns-in-Some-2-clause-laid c = (another c).0

pub returns-in-Some-2-clause-seen : goal.returns-in-Some-2-clause-seen
returns-in-Some-2-clause-seen c = (another c).1
