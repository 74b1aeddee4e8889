-- What is filled so far is what the reader gave.
use Rattle.std.proofs.Common.{◌≡◌, ◌≤◌, length, take}
use Rattle.std.specs.Io.KnownBytes.{Consumes}
use Rattle.streams.proofs.source.fill.Given as goal

abbrev pub invariant-loop-turn : goal.invariant-loop-turn
invariant-loop-turn g l = record {
  same : length l.room ≡ length l.initial.room;
  within : l.filled ≤ length l.room;
  gave : Consumes (g.R.Read.remaining l.initial.reader) (g.R.Read.remaining l.reader) (take l.filled l.room);
}
