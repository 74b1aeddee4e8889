-- The rewriting of a resolved program.
use Rattle.std.specs.Prelude.{ℕ, zero, suc, ◌+◌, ◌*◌, Bool, true, false, List, [], ◌∷◌, map}
use Rattle.language.specs.Value.{Place, global, local}
use Rattle.language.specs.Step.{Routine, Program}
use Rattle.round_rewrite.specs.Limits.{round_bits}
use Rattle.round_rewrite.specs.Table.{Naming, numbers, temporaries, rewritten, main}

-- the place is a global
abbrev pub is_global : Place → Bool
is_global (global i) = true
is_global (local i) = false

-- where the copies for a round are, for this number of globals
abbrev pub copy_at : ℕ → ℕ → Place → Place
copy_at globals round (global i) = global (round * globals + i)
copy_at globals round (local i) = local i

-- where the guesses saved for a round are, after the copies for all rounds
abbrev pub save_at : ℕ → ℕ → ℕ → Place → Place
save_at globals last zero place = place
save_at globals last (suc round) (global i) = global (suc last * globals + (round * globals + i))
save_at globals last (suc round) (local i) = local i

-- how many places the copies and the guesses take
abbrev pub bits_at : ℕ → ℕ → ℕ
bits_at globals last = suc last * globals + last * globals

-- after them come the bits of the round, the highest first: a given number from a place on, as a list with the low
-- bit first
abbrev pub bits_from : ℕ → ℕ → List Place
bits_from at zero = []
bits_from at (suc count) = global (at + count) ∷ bits_from at count

-- after the bits come stop and bad
abbrev pub stop_at : ℕ → ℕ → ℕ
stop_at globals last = bits_at globals last + round_bits last

abbrev pub bad_at : ℕ → ℕ → ℕ
bad_at globals last = bits_at globals last + (round_bits last + 1)

-- how many globals the rewritten program has
abbrev pub global_count : ℕ → ℕ → ℕ
global_count globals last = bits_at globals last + (round_bits last + 2)

-- the places of the rewritten program, in a procedure with a given number of places: the copies of all globals for
-- round 0, 1, .., then the guesses saved for round 1, .., then the bits, stop and bad; the temporaries
-- come after the procedure's own places. A procedure's number goes up by 1, since the first one is new.
abbrev pub places : ℕ → ℕ → ℕ → Naming Place Place ℕ ℕ
places globals last own = record {
  is_shared = is_global;
  copy = copy_at globals;
  save = save_at globals last;
  kept = λ x. x;
  drawn = λ j. local (own + j);
  bits = λ k. bits_from (bits_at globals last) (round_bits k);
  stop = global (stop_at globals last);
  bad = global (bad_at globals last);
  called = suc;
}

-- a procedure rewritten
abbrev pub rewritten_routine : ℕ → ℕ → Routine → Routine
rewritten_routine globals last routine = record {
  places = routine.places + temporaries is_global routine.body;
  gives = routine.gives;
  body = rewritten (places globals last routine.places) last routine.body;
}

-- the globals in order
abbrev pub all_globals : ℕ → List Place
all_globals count = map global (numbers 0 count)

-- the first procedure
abbrev pub main_routine : ℕ → Program → Routine
main_routine last program = record {
  places = 0;
  gives = false;
  body = main (places program.globals last 0) last (all_globals program.globals) program.threads;
}

-- the rewritten program
abbrev pub rewritten_program : ℕ → Program → Program
rewritten_program last program = record {
  globals = global_count program.globals last;
  routines = main_routine last program ∷ map (rewritten_routine program.globals last) program.routines;
  threads = 0 ∷ [];
}
