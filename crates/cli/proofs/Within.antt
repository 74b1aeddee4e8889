-- Which texts have answers.
use Rattle.std.proofs.Common.{◌≤◌, ℕ, List, length}
use Rattle.tokens.specs.Limits.{most_bytes}
use Rattle.orders.specs.declared.order.Order.{Order}
use Rattle.orders.specs.declared.order.Order.TheVariants.{Check, Sequential}
use Rattle.cli.specs.Replies.{Replies}

-- a text that has an answer is within the limit of bytes
pub within : (text : List ℕ) (order : Order) (bytes : List ℕ) (status : ℕ) → Replies text order bytes status
    → length text ≤ most_bytes
within text (Check rounds edges stats) bytes status replies = replies.1.within
within text (Sequential rounds) bytes status replies = replies.1.of.within
