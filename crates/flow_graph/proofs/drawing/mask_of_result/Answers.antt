-- The bit of the result is after the globals, formals and locals.
use Rattle.std.proofs.Common.{◌≡◌, ℕ, ◌+◌, ◌^◌, ◌++◌, cond, length, sym, ◌∙◌, ap, arith}
use Rattle.language.specs.Resolve.{gives_value}
use Rattle.trees.specs.Trees.{names_of, block_of}
use Rattle.resolved.proofs.Counted.{places_counted, width_counted}
use Rattle.flow_graph.proofs.Assignments.{one_bit}
use Rattle.flow_graph.proofs.drawing.mask_of_result.Goals as goal

pub overflow_shl-result : goal.overflow_shl-result
overflow_shl-result g c =
    let gives = sym (ap (λ l. gives_value (block_of l)) c.deref.ensures.value) ∙ sym c.give_value.ensures ∙ c.if-give_value.true in
    omega (arith, width_counted c.args.program.now c.args.proc.now, ap {B = ℕ} (λ b. cond b 1 0) gives)

pub returns-then-give_value : goal.returns-then-give_value
returns-then-give_value g c =
    let t = c.args.program.now in
    let p = c.args.proc.now in
    let gives = sym (ap (λ l. gives_value (block_of l)) c.deref.ensures.value) ∙ sym c.give_value.ensures ∙ c.if-give_value.true in
    let bit = length (names_of t.globals.items) + length (names_of p.formals.items ++ names_of p.locals.items) in
    let same : c.len-then-give_value-2.result + (c.len.result + c.len-then-give_value.result) ≡ bit =
    omega (arith, places_counted t.globals.items p.formals.items p.locals.items) in
    one_bit _ (omega (arith, overflow_shl-result g c)) ∙ ap {B = ℕ} (λ n. 2 ^ n) same
    ∙ ap {B = ℕ} (λ b. cond b (2 ^ bit) 0) (sym gives)

pub overflow_add-result : goal.overflow_add-result
overflow_add-result g c =
    omega (arith, width_counted c.args.program.now c.args.proc.now)

pub returns-else-give_value : goal.returns-else-give_value
returns-else-give_value g c =
    let gives = sym (ap (λ l. gives_value (block_of l)) c.deref.ensures.value) ∙ sym c.give_value.ensures ∙ c.if-give_value.false in
    let names = names_of c.args.proc.now.formals.items ++ names_of c.args.proc.now.locals.items in
    ap {B = ℕ} (λ b. cond b (2 ^ (length (names_of c.args.program.now.globals.items) + length names)) 0) (sym gives)
