-- The tokens that were passed end no front, and their brackets are counted.
use Rattle.std.proofs.Common.{◌≡◌, ◌≤◌, ◌+◌, [], drop, length}
use Rattle.hints.specs.Front.{closing_count, front_to, opening_count}
use Rattle.hints.proofs.front.front_to.Given as goal

abbrev pub invariant-loop-left : goal.invariant-loop-left
invariant-loop-left l = record {
  within : l.left ≤ length l.tokens;
  opened : l.opened ≡ opening_count l.brackets (drop l.left l.tokens);
  closed : l.closed ≡ closing_count l.brackets (drop l.left l.tokens);
  none : front_to l.brackets l.group (drop l.left l.tokens) ≡ [];
  few_opened : l.opened + l.left ≤ length l.tokens;
  few_closed : l.closed + l.left ≤ length l.tokens;
}

abbrev pub decreases-loop-left : goal.decreases-loop-left
decreases-loop-left l = l.left
