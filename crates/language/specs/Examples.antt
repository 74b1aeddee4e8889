-- Small programs, by places and as trees, for the laws on what programs mean.
use Rattle.std.specs.Prelude.{ℕ, false, true, [], ◌∷◌, None}
use Rattle.language.specs.Tree.{Name, const, var, negation, value, skip, assign, assert, assume, call, leave_with, call_for, Mark, done}
use Rattle.language.specs.Tree.{one, loop, Tree}
use Rattle.language.specs.Value.{global, local}
use Rattle.language.specs.Rest.{Code}
use Rattle.language.specs.Step.{Routine, Program}

-- the mark of a statement without a label
abbrev pub bare : {L : Type 0} → Mark L
bare = record { label = None; at = 0 }

-- a procedure without formals and locals that has these statements
abbrev pub routine : Code → Routine
routine body = record { places = 0; gives = false; body = body }

-- x:=1; where x is the first global
abbrev pub setting : Code → Code
setting rest = one bare (assign (global 0 ∷ []) (value (const true) ∷ [])) rest

-- decl x; a() begin x:=1; end b() begin assert(!x); end thread a; thread b;
abbrev pub writer_then_reader : Program
writer_then_reader = record {
  globals = 1;
  routines = routine (setting done) ∷ routine (one bare (assert (value (negation (var (global 0))))) done) ∷ [];
  threads = 0 ∷ 1 ∷ [];
}

-- decl x; a() begin x:=1; end b() begin assert(!x); end thread b; thread a;
abbrev pub reader_then_writer : Program
reader_then_writer = record {
  globals = 1;
  routines = routine (setting done) ∷ routine (one bare (assert (value (negation (var (global 0))))) done) ∷ [];
  threads = 1 ∷ 0 ∷ [];
}

-- b() begin while (1) do skip; od end a() begin assert(0); end thread b; thread a;
abbrev pub spinner_then_failure : Program
spinner_then_failure = record {
  globals = 0;
  routines =
      routine (loop bare (value (const true)) (one bare skip done) done)
      ∷ routine (one bare (assert (value (const false))) done) ∷ [];
  threads = 0 ∷ 1 ∷ [];
}

-- decl x; t() begin x:=1; assert(x); end thread t;
abbrev pub checked_write : Program
checked_write = record {
  globals = 1;
  routines = routine (setting (one bare (assert (value (var (global 0)))) done)) ∷ [];
  threads = 0 ∷ [];
}

-- t() begin assert(!x); x:=1; end
abbrev pub once : Routine
once = routine (one bare (assert (value (negation (var (global 0))))) (setting done))

-- decl x; t() begin assert(!x); x:=1; end thread t;
abbrev pub run_once : Program
run_once = record { globals = 1; routines = once ∷ []; threads = 0 ∷ [] }

-- decl x; t() begin assert(!x); x:=1; end thread t; thread t;
abbrev pub run_twice : Program
run_twice = record { globals = 1; routines = once ∷ []; threads = 0 ∷ 0 ∷ [] }

-- decl x; p(v) begin x:=v; end t() begin p(1); p(0); assert(!x); end thread t;
abbrev pub passed_values : Program
passed_values = record {
  globals = 1;
  routines =
      record { places = 1; gives = false; body = one bare (assign (global 0 ∷ []) (value (var (local 0)) ∷ [])) done }
      ∷ routine
      (one bare (call 0 (const true ∷ []))
      (one bare (call 0 (const false ∷ [])) (one bare (assert (value (negation (var (global 0))))) done)))
      ∷ [];
  threads = 1 ∷ [];
}

-- decl x,y,z; a() begin assume(x); y:=1; assume(z); assert(0); end b() begin x:=1; assume(y); z:=1; end thread a;
-- thread b;
abbrev pub handshake : Program
handshake = record {
  globals = 3;
  routines =
      routine (one bare (assume (value (var (global 0)))) (one bare (assign (global 1 ∷ []) (value (const true) ∷ []))
      (one bare (assume (value (var (global 2)))) (one bare (assert (value (const false))) done))))
      ∷ routine (setting (one bare (assume (value (var (global 1)))) (one bare (assign (global 2 ∷ []) (value (const true) ∷ [])) done)))
      ∷ [];
  threads = 0 ∷ 1 ∷ [];
}

-- decl x; p(v) begin return !v; end t() begin x:=p(0); assert(x); end thread t;
abbrev pub return_and_write : Program
return_and_write = record {
  globals = 1;
  routines =
      record { places = 1; gives = true; body = one bare (leave_with (negation (var (local 0)))) done }
      ∷ routine (one bare (call_for (global 0) 0 (const false ∷ [])) (one bare (assert (value (var (global 0)))) done))
      ∷ [];
  threads = 1 ∷ [];
}

-- decl x,y; p() begin return !y; end a() begin x:=p(); end b() begin y:=1; assume(!x); assume(x); assert(0); end
-- thread a; thread b;
abbrev pub late_value : Program
late_value = record {
  globals = 2;
  routines =
      record { places = 0; gives = true; body = one bare (leave_with (negation (var (global 1)))) done }
      ∷ routine (one bare (call_for (global 0) 0 []) done)
      ∷ routine
      (one bare (assign (global 1 ∷ []) (value (const true) ∷ [])) (one bare (assume (value (negation (var (global 0)))))
      (one bare (assume (value (var (global 0)))) (one bare (assert (value (const false))) done))))
      ∷ [];
  threads = 1 ∷ 2 ∷ [];
}

-- the name whose text is one byte
abbrev pub letter : ℕ → Name
letter byte = record { text = byte ∷ []; at = 0 }

-- decl x; t() begin decl x; x:=1; assert(!x); end thread t;
abbrev pub hiding_tree : Tree
hiding_tree = record {
  globals = letter 120 ∷ [];
  procedures = record {
    name = letter 116;
    formals = [];
    locals = letter 120 ∷ [];
    body = one bare (assign (letter 120 ∷ []) (value (const true) ∷ []))
        (one bare (assert (value (negation (var (letter 120))))) done);
  } ∷ [];
  threads = record { at = 0; name = letter 116 } ∷ [];
}

-- what that tree means: the variable is the place of the frame
abbrev pub hiding_program : Program
hiding_program = record {
  globals = 1;
  routines = record {
    places = 1;
    gives = false;
    body = one bare (assign (local 0 ∷ []) (value (const true) ∷ []))
        (one bare (assert (value (negation (var (local 0))))) done);
  } ∷ [];
  threads = 0 ∷ [];
}
