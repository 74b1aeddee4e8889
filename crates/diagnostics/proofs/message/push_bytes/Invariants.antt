-- The bytes so far are written as they are shown.
use Rattle.std.proofs.Common.{◌≡◌, ◌++◌, map, take}
use Rattle.std.specs.String.{string_bytes}
use Rattle.diagnostics.specs.Message.{shown}
use Rattle.diagnostics.proofs.message.push_bytes.Given as goal

abbrev pub invariant-loop-byte : goal.invariant-loop-byte
invariant-loop-byte g l =
    string_bytes l.message ≡ string_bytes l.initial.message ++ map shown (take l.byte-index l.bytes)
