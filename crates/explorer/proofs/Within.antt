-- Which texts have answers, and which statuses refusals have.
use Rattle.std.proofs.Common.{◌≤◌, ℕ, List, length, arith}
use Rattle.syntax.specs.declared.fault.ReadFault.TheVariants as read
use Rattle.checked.specs.declared.fault.ScopeFault.TheVariants as scope
use Rattle.tokens.specs.Limits.{most_bytes}
use Rattle.explore_line.specs.declared.asked.Order.{Order}
use Rattle.explorer.specs.Lines.{status_of}
use Rattle.explorer.specs.Replies.{Replies}
use Rattle.explorer.specs.declared.refusal.Refusal.{Refusal}
use Rattle.explorer.specs.declared.refusal.Refusal.TheVariants.{Unread, Unchecked}

-- no refusal has the status of an answer
pub refused : (why : Refusal) → 2 ≤ status_of why
refused (Unread read.Memory) = omega arith
refused (Unchecked scope.Memory) = omega arith
refused _ = omega arith

-- a text that has an answer is not too long
pub within : (text : List ℕ) (order : Order) (bytes : List ℕ) (status : ℕ) → Replies text order bytes status
    → length text ≤ most_bytes
within text order bytes status (report, is, same, state) = is.of.0.within
