-- The numbers of an order.
use Rattle.std.specs.Prelude.{ℕ, Option, Some, None}
use Rattle.round_rewrite.specs.Programs.{count_of}
use Rattle.path_sets.specs.EdgeLimits.{most_of}
use Rattle.orders.specs.declared.order.Order.{Order}
use Rattle.orders.specs.declared.order.Order.TheVariants.{Check, Sequential}

-- how many rounds were asked for
abbrev pub rounds_of : Order → ℕ
rounds_of (Check rounds edges stats) = count_of rounds
rounds_of (Sequential rounds) = count_of rounds

-- how many path edges a procedure may have, which only a check limits
abbrev pub edges_of : Order → Option ℕ
edges_of (Check rounds edges stats) = Some (most_of edges)
edges_of (Sequential rounds) = None
