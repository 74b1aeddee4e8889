use Rattle.std.proofs.Common.{◌≡◌, ◌∙◌, ap, sym, cond, take, ℕ, Bool, true, false, Some, None}
use Rattle.diagnostics.proofs.message.first_word.Goals as goal

place : (b : Bool) (n k : ℕ) → cond b (Some n) None ≡ Some k → n ≡ k
place true n k e = cc
place false n k e = cc

pub returns-in-Some : goal.returns-in-Some
returns-in-Some c =
    let found = place _ _ _ (sym c.end_of_word.ensures ∙ c.in-Some.is) in
    let e = ap (λ k. take k c.args.bytes.now) found in
    cc
