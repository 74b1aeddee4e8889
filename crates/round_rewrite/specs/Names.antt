-- The rewriting of a text's tree, by the names that are printed.
use Rattle.std.specs.Prelude.{ℕ, zero, suc, not, List, [], ◌∷◌, ◌++◌, map, codes, decimal}
use Rattle.language.specs.Tree.{Name, Procedure, ThreadLine, Tree}
use Rattle.language.specs.Resolve.{is_declared}
use Rattle.language.specs.Sequential.{sequential_of}
use Rattle.language.specs.Step.{Program}
use Rattle.round_rewrite.specs.Limits.{last_round, round_bits}
use Rattle.round_rewrite.specs.Table.{Naming, numbers, temporaries, rewritten, main, globals}

-- a name that occurs in no text
abbrev pub fresh_name : List ℕ → Name
fresh_name text = record { text = text; at = 0 }

-- a name with a mark and the number of a round after it, which is counted from 0
abbrev pub numbered_name : List ℕ → ℕ → Name → Name
numbered_name mark round name = fresh_name (name.text ++ (mark ++ decimal (suc round)))

-- x__1, x__2 and so on: the copy for a round, from 0
abbrev pub copy_name : ℕ → Name → Name
copy_name round name = numbered_name (codes "__") round name

-- x__s2, x__s3 and so on: the guess saved for a round, from 0
abbrev pub save_name : ℕ → Name → Name
save_name round name = numbered_name (codes "__s") round name

-- tmp__t1, tmp__t2 and so on
abbrev pub drawn_name : ℕ → Name
drawn_name number = fresh_name (codes "tmp__t" ++ decimal (suc number))

-- the name of a bit of the round, by its number, where the low bit is 0
abbrev pub bit_name : ℕ → Name
bit_name zero = fresh_name (codes "rl__")
bit_name (suc zero) = fresh_name (codes "rh__")
bit_name (suc (suc number)) = fresh_name (codes "rt__")

-- the lowest bits of the round, the low bit first
abbrev pub bit_names : ℕ → List Name
bit_names count = map bit_name (numbers 0 count)

-- the names in a procedure with these formals and locals
abbrev pub by_names : List Name → Naming Name Name Name Name
by_names own = record {
  is_shared = λ x. not (is_declared x.text own);
  copy = copy_name;
  save = save_name;
  kept = λ x. x;
  drawn = drawn_name;
  bits = λ last. bit_names (round_bits last);
  stop = fresh_name (codes "stop__");
  bad = fresh_name (codes "bad__");
  called = λ p. p;
}

-- a procedure rewritten: its temporaries come after its locals
abbrev pub rewritten_procedure : ℕ → Procedure → Procedure
rewritten_procedure last procedure =
    let own = procedure.formals ++ procedure.locals in
    let w = by_names own in
    record {
      name = procedure.name;
      formals = procedure.formals;
      locals = procedure.locals ++ map drawn_name (numbers 0 (temporaries w.is_shared procedure.body));
      body = rewritten w last procedure.body;
    }

-- the first procedure
abbrev pub main_procedure : ℕ → Tree → Procedure
main_procedure last tree = record {
  name = fresh_name (codes "main__");
  formals = [];
  locals = [];
  body = main (by_names []) last tree.globals (map (λ (line : ThreadLine). line.name) tree.threads);
}

-- the rewritten tree, where rounds count from 0 to `last`
abbrev pub rewritten_tree : ℕ → Tree → Tree
rewritten_tree last tree = record {
  globals = globals (by_names []) last tree.globals;
  procedures = main_procedure last tree ∷ map (rewritten_procedure last) tree.procedures;
  threads = record { at = 0; name = fresh_name (codes "main__") } ∷ [];
}

-- the tree that a tree is rewritten to for K rounds
abbrev pub rewritten_for : ℕ → Tree → Tree
rewritten_for rounds tree = rewritten_tree (last_round rounds) tree

-- the sequential program that a tree is rewritten to for K rounds
abbrev pub sequential_for : ℕ → Tree → Program
sequential_for rounds tree = sequential_of (rewritten_for rounds tree)
