-- A small tree with each kind of declaration, a label, a loop and a jump.
use Rattle.std.specs.Prelude.{ℕ, List, [], ◌∷◌, Some, None, codes}
use Rattle.language.specs.Tree.{Name, var, negation, two, equal, any, value, assign, goto, Mark, done, one, loop, Tree}

-- a name, wherever it occurs
abbrev pub plain_name : List ℕ → Name
plain_name text = record { text = text; at = 0 }

-- no label
abbrev pub unmarked : Mark Name
unmarked = record { label = None; at = 0 }

-- decl x, y; p(v) begin decl l; L: while (?) do x, l := v = !l, ?; od goto L; end thread p;
abbrev pub jumping_tree : Tree
jumping_tree = record {
  globals = plain_name (codes "x") ∷ plain_name (codes "y") ∷ [];
  procedures =
      (record {
        name = plain_name (codes "p");
        formals = plain_name (codes "v") ∷ [];
        locals = plain_name (codes "l") ∷ [];
        body =
            loop (record { label = Some (plain_name (codes "L")); at = 0 }) any
            (one unmarked
            (assign (plain_name (codes "x") ∷ plain_name (codes "l") ∷ [])
            (value (two equal (var (plain_name (codes "v"))) (negation (var (plain_name (codes "l"))))) ∷ any ∷ [])) done)
            (one unmarked (goto (plain_name (codes "L"))) done);
      }) ∷ [];
  threads = (record { at = 0; name = plain_name (codes "p") }) ∷ [];
}
