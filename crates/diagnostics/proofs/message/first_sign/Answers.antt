use Rattle.std.proofs.Common.{◌∙◌, ap, sym, cond, take}
use Rattle.diagnostics.proofs.message.first_sign.Goals as goal

pub returns-then-begins_long : goal.returns-then-begins_long
returns-then-begins_long c =
    let bytes = c.args.bytes.now in
    let long = sym c.begins_long.ensures ∙ c.if-begins_long.true in
    c.first.ensures ∙ sym (ap (λ b. cond b (take 2 bytes) (take 1 bytes)) long)
