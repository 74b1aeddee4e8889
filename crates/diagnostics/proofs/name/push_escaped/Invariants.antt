use Rattle.std.proofs.Common.{◌≡◌, ◌++◌}
use Rattle.std.specs.List.{flat_map}
use Rattle.std.specs.String.{string_bytes}
use Rattle.diagnostics.specs.Name.{written}
use Rattle.diagnostics.proofs.name.push_escaped.Given as goal

abbrev pub invariant-loop-character : goal.invariant-loop-character
invariant-loop-character g l = string_bytes l.message ≡ string_bytes l.initial.message ++ flat_map written l.yielded
