-- A blank is written for each byte so far.
use Rattle.std.proofs.Common.{◌≡◌, ◌++◌, map, take}
use Rattle.std.specs.String.{string_bytes}
use Rattle.diagnostics.specs.Message.{blank}
use Rattle.diagnostics.proofs.message.push_blanks.Given as goal

abbrev pub invariant-loop-byte : goal.invariant-loop-byte
invariant-loop-byte g l =
    string_bytes l.message ≡ string_bytes l.initial.message ++ map blank (take l.byte-index l.bytes)
