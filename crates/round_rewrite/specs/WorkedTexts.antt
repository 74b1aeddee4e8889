-- Four programs and what they are rewritten to, byte for byte: texts that were worked out by hand.
use Rattle.std.specs.Prelude.{◌≡◌, ℕ, false, List, [], ◌∷◌, ◌++◌, Some, None, codes}
use Rattle.language.specs.Tree.{Name, implies, xor, equal, const, var, negation, two, any, value, skip, assign}
use Rattle.language.specs.Tree.{assert, assume, goto, leave, call, leave_with, call_for, Mark, done, one, choose, loop, Tree}
use Rattle.grammar.specs.Printed.{printed}
use Rattle.round_rewrite.specs.Table.{no_mark}
use Rattle.round_rewrite.specs.Names.{fresh_name, rewritten_for}

-- a text by its lines, each ended by a line feed
unfoldable pub text : List (List ℕ) → List ℕ
text [] = []
text (line ∷ lines) = line ++ (10 ∷ text lines)

-- the tree that a tree is rewritten to for a number of rounds is printed as this text
abbrev pub Becomes : Tree → ℕ → List ℕ → Type 0
Becomes tree rounds text = printed (rewritten_for rounds tree) ≡ text

-- a thread that does nothing
abbrev pub skipping : Tree
skipping = record {
  globals = [];
  procedures =
      (record {
        name = fresh_name (codes "t");
        formals = [];
        locals = [];
        body = one no_mark skip done;
      }) ∷ [];
  threads = (record { at = 0; name = fresh_name (codes "t") }) ∷ [];
}

-- a thread that sets a global to either value
abbrev pub drawing_once : Tree
drawing_once = record {
  globals = fresh_name (codes "x") ∷ [];
  procedures =
      (record {
        name = fresh_name (codes "t");
        formals = [];
        locals = [];
        body = one no_mark (assign (fresh_name (codes "x") ∷ []) (any ∷ [])) done;
      }) ∷ [];
  threads = (record { at = 0; name = fresh_name (codes "t") }) ∷ [];
}

-- names of the program with each construct
abbrev pub x : Name
x = fresh_name (codes "x")

abbrev pub y : Name
y = fresh_name (codes "y")

abbrev pub v : Name
v = fresh_name (codes "v")

abbrev pub l : Name
l = fresh_name (codes "l")

-- Two threads of a procedure t that calls p: an assert, an assume, an `if`, a `while`, a label and its `goto`, a call,
-- a return, assignments to globals and locals, by expressions and by `?`, and a local that hides a global.
abbrev pub each_construct : Tree
each_construct = record {
  globals = x ∷ y ∷ [];
  procedures =
      (record {
        name = fresh_name (codes "p");
        formals = v ∷ [];
        locals = y ∷ l ∷ [];
        body =
            loop (record { label = Some (fresh_name (codes "L")); at = 0 }) (value (var x))
            (one no_mark (assign (y ∷ x ∷ l ∷ []) (value (two equal (var x) (var v)) ∷ any ∷ any ∷ [])) done)
            (choose no_mark (value (two implies (var y) (var l)))
            (one no_mark (goto (fresh_name (codes "L"))) done)
            (one no_mark (assert (value (negation (var x)))) done)
            (one no_mark (assume any) done));
      }) ∷ (record {
        name = fresh_name (codes "t");
        formals = [];
        locals = [];
        body =
            one no_mark (call (fresh_name (codes "p")) (var y ∷ []))
            (one no_mark (assign (x ∷ y ∷ []) (value (var y) ∷ value (two xor (var x) (const false)) ∷ []))
            (one no_mark leave done));
      }) ∷ [];
  threads = (record { at = 0; name = fresh_name (codes "t") }) ∷ (record { at = 0; name = fresh_name (codes "t") }) ∷ [];
}

-- A thread that calls a procedure for its value twice, for a global and for a local: `?`, and a label at the call whose
-- value the global gets.
abbrev pub giving : Tree
giving = record {
  globals = x ∷ y ∷ [];
  procedures =
      (record {
        name = fresh_name (codes "p");
        formals = v ∷ [];
        locals = [];
        body = one no_mark (leave_with (negation (var v))) done;
      }) ∷ (record {
        name = fresh_name (codes "t");
        formals = [];
        locals = l ∷ [];
        body =
            one (record { label = Some (fresh_name (codes "L")); at = 0 }) (call_for x (fresh_name (codes "p")) (var y ∷ []))
            (one no_mark (call_for l (fresh_name (codes "p")) (const false ∷ []))
            (one no_mark (assign (y ∷ []) (any ∷ [])) done));
      }) ∷ [];
  threads = (record { at = 0; name = fresh_name (codes "t") }) ∷ [];
}

-- the text of the first
abbrev pub skipping_text : List ℕ
skipping_text =
    text (
    codes "t()" ∷
    codes "begin" ∷
    codes "  skip;" ∷
    codes "end" ∷
    codes "thread t;" ∷
    [])

-- the first, rewritten for one round
abbrev pub skipping_in_one_round : List ℕ
skipping_in_one_round =
    text (
    codes "decl rh__, rl__, stop__, bad__;" ∷
    codes "main__()" ∷
    codes "begin" ∷
    codes "  rh__, rl__, stop__ := 0, 0, 0;" ∷
    codes "  t();" ∷
    codes "end" ∷
    codes "t()" ∷
    codes "begin" ∷
    codes "  while (?) do" ∷
    codes "    assume(!(!rh__ & !rl__));" ∷
    codes "    rh__, rl__ := rh__ ^ rl__, !rl__;" ∷
    codes "  od" ∷
    codes "  if (?) then" ∷
    codes "    stop__ := 1;" ∷
    codes "  else" ∷
    codes "    skip;" ∷
    codes "  fi" ∷
    codes "  if (stop__) then" ∷
    codes "    return;" ∷
    codes "  else" ∷
    codes "    skip;" ∷
    codes "  fi" ∷
    codes "  skip;" ∷
    codes "end" ∷
    codes "thread main__;" ∷
    [])

-- the first, rewritten for five rounds, which have a third bit
abbrev pub skipping_in_five_rounds : List ℕ
skipping_in_five_rounds =
    text (
    codes "decl rt__, rh__, rl__, stop__, bad__;" ∷
    codes "main__()" ∷
    codes "begin" ∷
    codes "  rt__, rh__, rl__, stop__ := 0, 0, 0, 0;" ∷
    codes "  t();" ∷
    codes "end" ∷
    codes "t()" ∷
    codes "begin" ∷
    codes "  while (?) do" ∷
    codes "    assume(!((rt__ & !rh__) & !rl__));" ∷
    codes "    rt__, rh__, rl__ := rt__ ^ (rh__ & rl__), rh__ ^ rl__, !rl__;" ∷
    codes "  od" ∷
    codes "  if (?) then" ∷
    codes "    stop__ := 1;" ∷
    codes "  else" ∷
    codes "    skip;" ∷
    codes "  fi" ∷
    codes "  if (stop__) then" ∷
    codes "    return;" ∷
    codes "  else" ∷
    codes "    skip;" ∷
    codes "  fi" ∷
    codes "  skip;" ∷
    codes "end" ∷
    codes "thread main__;" ∷
    [])

-- the text of the second
abbrev pub drawing_text : List ℕ
drawing_text =
    text (
    codes "decl x;" ∷
    codes "t()" ∷
    codes "begin" ∷
    codes "  x := ?;" ∷
    codes "end" ∷
    codes "thread t;" ∷
    [])

-- the second, rewritten for two rounds
abbrev pub drawing_in_two_rounds : List ℕ
drawing_in_two_rounds =
    text (
    codes "decl x__1, x__2, x__s2, rh__, rl__, stop__, bad__;" ∷
    codes "main__()" ∷
    codes "begin" ∷
    codes "  x__2 := ?;" ∷
    codes "  x__s2 := x__2;" ∷
    codes "  rh__, rl__, stop__ := 0, 0, 0;" ∷
    codes "  t();" ∷
    codes "  assume(x__s2 = x__1);" ∷
    codes "end" ∷
    codes "t()" ∷
    codes "begin" ∷
    codes "  decl tmp__t1;" ∷
    codes "  while (?) do" ∷
    codes "    assume(!(!rh__ & rl__));" ∷
    codes "    rh__, rl__ := rh__ ^ rl__, !rl__;" ∷
    codes "  od" ∷
    codes "  if (?) then" ∷
    codes "    stop__ := 1;" ∷
    codes "  else" ∷
    codes "    skip;" ∷
    codes "  fi" ∷
    codes "  if (stop__) then" ∷
    codes "    return;" ∷
    codes "  else" ∷
    codes "    skip;" ∷
    codes "  fi" ∷
    codes "  tmp__t1 := ?;" ∷
    (codes "  x__1, x__2 := ((!rh__ & !rl__) & tmp__t1) | (!(!rh__ & !rl__) & x__1), ((!rh__ & rl__) & "
    ++ codes "tmp__t1) | (!(!rh__ & rl__) & x__2);") ∷
    codes "end" ∷
    codes "thread main__;" ∷
    [])

-- the text of the third
abbrev pub construct_text : List ℕ
construct_text =
    text (
    codes "decl x, y;" ∷
    codes "p(v)" ∷
    codes "begin" ∷
    codes "  decl y, l;" ∷
    codes "  L: while (x) do" ∷
    codes "    y, x, l := x = v, ?, ?;" ∷
    codes "  od" ∷
    codes "  if (y => l) then" ∷
    codes "    goto L;" ∷
    codes "  else" ∷
    codes "    assert(!x);" ∷
    codes "  fi" ∷
    codes "  assume(?);" ∷
    codes "end" ∷
    codes "t()" ∷
    codes "begin" ∷
    codes "  p(y);" ∷
    codes "  x, y := y, x ^ 0;" ∷
    codes "  return;" ∷
    codes "end" ∷
    codes "thread t;" ∷
    codes "thread t;" ∷
    [])

-- the third, rewritten for three rounds
abbrev pub constructs_in_three_rounds : List ℕ
constructs_in_three_rounds =
    text (
    codes "decl x__1, y__1, x__2, y__2, x__3, y__3, x__s2, y__s2, x__s3, y__s3, rh__, rl__, stop__, bad__;" ∷
    codes "main__()" ∷
    codes "begin" ∷
    codes "  x__2, y__2 := ?, ?;" ∷
    codes "  x__s2, y__s2 := x__2, y__2;" ∷
    codes "  x__3, y__3 := ?, ?;" ∷
    codes "  x__s3, y__s3 := x__3, y__3;" ∷
    codes "  rh__, rl__, stop__ := 0, 0, 0;" ∷
    codes "  t();" ∷
    codes "  rh__, rl__, stop__ := 0, 0, 0;" ∷
    codes "  t();" ∷
    codes "  assume(x__s2 = x__1);" ∷
    codes "  assume(y__s2 = y__1);" ∷
    codes "  assume(x__s3 = x__2);" ∷
    codes "  assume(y__s3 = y__2);" ∷
    codes "end" ∷
    codes "p(v)" ∷
    codes "begin" ∷
    codes "  decl y, l, tmp__t1;" ∷
    codes "  L: while (?) do" ∷
    codes "    assume(!(rh__ & !rl__));" ∷
    codes "    rh__, rl__ := rh__ ^ rl__, !rl__;" ∷
    codes "  od" ∷
    codes "  if (?) then" ∷
    codes "    stop__ := 1;" ∷
    codes "  else" ∷
    codes "    skip;" ∷
    codes "  fi" ∷
    codes "  if (stop__) then" ∷
    codes "    return;" ∷
    codes "  else" ∷
    codes "    skip;" ∷
    codes "  fi" ∷
    codes "  while ((((!rh__ & !rl__) & x__1) | ((!rh__ & rl__) & x__2)) | ((rh__ & !rl__) & x__3)) do" ∷
    codes "    while (?) do" ∷
    codes "      assume(!(rh__ & !rl__));" ∷
    codes "      rh__, rl__ := rh__ ^ rl__, !rl__;" ∷
    codes "    od" ∷
    codes "    if (?) then" ∷
    codes "      stop__ := 1;" ∷
    codes "    else" ∷
    codes "      skip;" ∷
    codes "    fi" ∷
    codes "    if (stop__) then" ∷
    codes "      return;" ∷
    codes "    else" ∷
    codes "      skip;" ∷
    codes "    fi" ∷
    codes "    tmp__t1 := ?;" ∷
    (codes "    y, x__1, x__2, x__3, l := ((((!rh__ & !rl__) & x__1) | ((!rh__ & rl__) & x__2)) | ((rh__ & "
    ++ codes "!rl__) & x__3)) = v, ((!rh__ & !rl__) & tmp__t1) | (!(!rh__ & !rl__) & x__1), ((!rh__ & rl__) & "
    ++ codes "tmp__t1) | (!(!rh__ & rl__) & x__2), ((rh__ & !rl__) & tmp__t1) | (!(rh__ & !rl__) & x__3), ?;") ∷
    codes "    while (?) do" ∷
    codes "      assume(!(rh__ & !rl__));" ∷
    codes "      rh__, rl__ := rh__ ^ rl__, !rl__;" ∷
    codes "    od" ∷
    codes "    if (?) then" ∷
    codes "      stop__ := 1;" ∷
    codes "    else" ∷
    codes "      skip;" ∷
    codes "    fi" ∷
    codes "    if (stop__) then" ∷
    codes "      return;" ∷
    codes "    else" ∷
    codes "      skip;" ∷
    codes "    fi" ∷
    codes "  od" ∷
    codes "  while (?) do" ∷
    codes "    assume(!(rh__ & !rl__));" ∷
    codes "    rh__, rl__ := rh__ ^ rl__, !rl__;" ∷
    codes "  od" ∷
    codes "  if (?) then" ∷
    codes "    stop__ := 1;" ∷
    codes "  else" ∷
    codes "    skip;" ∷
    codes "  fi" ∷
    codes "  if (stop__) then" ∷
    codes "    return;" ∷
    codes "  else" ∷
    codes "    skip;" ∷
    codes "  fi" ∷
    codes "  if (y => l) then" ∷
    codes "    while (?) do" ∷
    codes "      assume(!(rh__ & !rl__));" ∷
    codes "      rh__, rl__ := rh__ ^ rl__, !rl__;" ∷
    codes "    od" ∷
    codes "    if (?) then" ∷
    codes "      stop__ := 1;" ∷
    codes "    else" ∷
    codes "      skip;" ∷
    codes "    fi" ∷
    codes "    if (stop__) then" ∷
    codes "      return;" ∷
    codes "    else" ∷
    codes "      skip;" ∷
    codes "    fi" ∷
    codes "    goto L;" ∷
    codes "  else" ∷
    codes "    while (?) do" ∷
    codes "      assume(!(rh__ & !rl__));" ∷
    codes "      rh__, rl__ := rh__ ^ rl__, !rl__;" ∷
    codes "    od" ∷
    codes "    if (?) then" ∷
    codes "      stop__ := 1;" ∷
    codes "    else" ∷
    codes "      skip;" ∷
    codes "    fi" ∷
    codes "    if (stop__) then" ∷
    codes "      return;" ∷
    codes "    else" ∷
    codes "      skip;" ∷
    codes "    fi" ∷
    codes "    if (!((((!rh__ & !rl__) & x__1) | ((!rh__ & rl__) & x__2)) | ((rh__ & !rl__) & x__3))) then" ∷
    codes "      skip;" ∷
    codes "    else" ∷
    codes "      bad__, stop__ := 1, 1;" ∷
    codes "      return;" ∷
    codes "    fi" ∷
    codes "  fi" ∷
    codes "  while (?) do" ∷
    codes "    assume(!(rh__ & !rl__));" ∷
    codes "    rh__, rl__ := rh__ ^ rl__, !rl__;" ∷
    codes "  od" ∷
    codes "  if (?) then" ∷
    codes "    stop__ := 1;" ∷
    codes "  else" ∷
    codes "    skip;" ∷
    codes "  fi" ∷
    codes "  if (stop__) then" ∷
    codes "    return;" ∷
    codes "  else" ∷
    codes "    skip;" ∷
    codes "  fi" ∷
    codes "  assume(?);" ∷
    codes "end" ∷
    codes "t()" ∷
    codes "begin" ∷
    codes "  while (?) do" ∷
    codes "    assume(!(rh__ & !rl__));" ∷
    codes "    rh__, rl__ := rh__ ^ rl__, !rl__;" ∷
    codes "  od" ∷
    codes "  if (?) then" ∷
    codes "    stop__ := 1;" ∷
    codes "  else" ∷
    codes "    skip;" ∷
    codes "  fi" ∷
    codes "  if (stop__) then" ∷
    codes "    return;" ∷
    codes "  else" ∷
    codes "    skip;" ∷
    codes "  fi" ∷
    codes "  p((((!rh__ & !rl__) & y__1) | ((!rh__ & rl__) & y__2)) | ((rh__ & !rl__) & y__3));" ∷
    codes "  if (stop__) then" ∷
    codes "    return;" ∷
    codes "  else" ∷
    codes "    skip;" ∷
    codes "  fi" ∷
    codes "  while (?) do" ∷
    codes "    assume(!(rh__ & !rl__));" ∷
    codes "    rh__, rl__ := rh__ ^ rl__, !rl__;" ∷
    codes "  od" ∷
    codes "  if (?) then" ∷
    codes "    stop__ := 1;" ∷
    codes "  else" ∷
    codes "    skip;" ∷
    codes "  fi" ∷
    codes "  if (stop__) then" ∷
    codes "    return;" ∷
    codes "  else" ∷
    codes "    skip;" ∷
    codes "  fi" ∷
    (codes "  x__1, x__2, x__3, y__1, y__2, y__3 := ((!rh__ & !rl__) & ((((!rh__ & !rl__) & y__1) | ((!rh__ "
    ++ codes "& rl__) & y__2)) | ((rh__ & !rl__) & y__3))) | (!(!rh__ & !rl__) & x__1), ((!rh__ & rl__) & "
    ++ codes "((((!rh__ & !rl__) & y__1) | ((!rh__ & rl__) & y__2)) | ((rh__ & !rl__) & y__3))) | (!(!rh__ & "
    ++ codes "rl__) & x__2), ((rh__ & !rl__) & ((((!rh__ & !rl__) & y__1) | ((!rh__ & rl__) & y__2)) | ((rh__ "
    ++ codes "& !rl__) & y__3))) | (!(rh__ & !rl__) & x__3), ((!rh__ & !rl__) & (((((!rh__ & !rl__) & x__1) | "
    ++ codes "((!rh__ & rl__) & x__2)) | ((rh__ & !rl__) & x__3)) ^ 0)) | (!(!rh__ & !rl__) & y__1), ((!rh__ "
    ++ codes "& rl__) & (((((!rh__ & !rl__) & x__1) | ((!rh__ & rl__) & x__2)) | ((rh__ & !rl__) & x__3)) ^ "
    ++ codes "0)) | (!(!rh__ & rl__) & y__2), ((rh__ & !rl__) & (((((!rh__ & !rl__) & x__1) | ((!rh__ & rl__) "
    ++ codes "& x__2)) | ((rh__ & !rl__) & x__3)) ^ 0)) | (!(rh__ & !rl__) & y__3);") ∷
    codes "  while (?) do" ∷
    codes "    assume(!(rh__ & !rl__));" ∷
    codes "    rh__, rl__ := rh__ ^ rl__, !rl__;" ∷
    codes "  od" ∷
    codes "  if (?) then" ∷
    codes "    stop__ := 1;" ∷
    codes "  else" ∷
    codes "    skip;" ∷
    codes "  fi" ∷
    codes "  if (stop__) then" ∷
    codes "    return;" ∷
    codes "  else" ∷
    codes "    skip;" ∷
    codes "  fi" ∷
    codes "  return;" ∷
    codes "end" ∷
    codes "thread main__;" ∷
    [])

-- the text of the fourth
abbrev pub giving_text : List ℕ
giving_text =
    text (
    codes "decl x, y;" ∷
    codes "p(v)" ∷
    codes "begin" ∷
    codes "  return !v;" ∷
    codes "end" ∷
    codes "t()" ∷
    codes "begin" ∷
    codes "  decl l;" ∷
    codes "  L: x := p(y);" ∷
    codes "  l := p(0);" ∷
    codes "  y := ?;" ∷
    codes "end" ∷
    codes "thread t;" ∷
    [])

-- the fourth, rewritten for two rounds
abbrev pub giving_in_two_rounds : List ℕ
giving_in_two_rounds =
    text (
    codes "decl x__1, y__1, x__2, y__2, x__s2, y__s2, rh__, rl__, stop__, bad__;" ∷
    codes "main__()" ∷
    codes "begin" ∷
    codes "  x__2, y__2 := ?, ?;" ∷
    codes "  x__s2, y__s2 := x__2, y__2;" ∷
    codes "  rh__, rl__, stop__ := 0, 0, 0;" ∷
    codes "  t();" ∷
    codes "  assume(x__s2 = x__1);" ∷
    codes "  assume(y__s2 = y__1);" ∷
    codes "end" ∷
    codes "p(v)" ∷
    codes "begin" ∷
    codes "  while (?) do" ∷
    codes "    assume(!(!rh__ & rl__));" ∷
    codes "    rh__, rl__ := rh__ ^ rl__, !rl__;" ∷
    codes "  od" ∷
    codes "  if (?) then" ∷
    codes "    stop__ := 1;" ∷
    codes "  else" ∷
    codes "    skip;" ∷
    codes "  fi" ∷
    codes "  if (stop__) then" ∷
    codes "    return;" ∷
    codes "  else" ∷
    codes "    skip;" ∷
    codes "  fi" ∷
    codes "  return !v;" ∷
    codes "end" ∷
    codes "t()" ∷
    codes "begin" ∷
    codes "  decl l, tmp__t1;" ∷
    codes "  L: while (?) do" ∷
    codes "    assume(!(!rh__ & rl__));" ∷
    codes "    rh__, rl__ := rh__ ^ rl__, !rl__;" ∷
    codes "  od" ∷
    codes "  if (?) then" ∷
    codes "    stop__ := 1;" ∷
    codes "  else" ∷
    codes "    skip;" ∷
    codes "  fi" ∷
    codes "  if (stop__) then" ∷
    codes "    return;" ∷
    codes "  else" ∷
    codes "    skip;" ∷
    codes "  fi" ∷
    codes "  tmp__t1 := p(((!rh__ & !rl__) & y__1) | ((!rh__ & rl__) & y__2));" ∷
    codes "  if (stop__) then" ∷
    codes "    return;" ∷
    codes "  else" ∷
    codes "    skip;" ∷
    codes "  fi" ∷
    codes "  while (?) do" ∷
    codes "    assume(!(!rh__ & rl__));" ∷
    codes "    rh__, rl__ := rh__ ^ rl__, !rl__;" ∷
    codes "  od" ∷
    codes "  if (?) then" ∷
    codes "    stop__ := 1;" ∷
    codes "  else" ∷
    codes "    skip;" ∷
    codes "  fi" ∷
    codes "  if (stop__) then" ∷
    codes "    return;" ∷
    codes "  else" ∷
    codes "    skip;" ∷
    codes "  fi" ∷
    (codes "  x__1, x__2 := ((!rh__ & !rl__) & tmp__t1) | (!(!rh__ & !rl__) & x__1), ((!rh__ & rl__) & "
    ++ codes "tmp__t1) | (!(!rh__ & rl__) & x__2);") ∷
    codes "  while (?) do" ∷
    codes "    assume(!(!rh__ & rl__));" ∷
    codes "    rh__, rl__ := rh__ ^ rl__, !rl__;" ∷
    codes "  od" ∷
    codes "  if (?) then" ∷
    codes "    stop__ := 1;" ∷
    codes "  else" ∷
    codes "    skip;" ∷
    codes "  fi" ∷
    codes "  if (stop__) then" ∷
    codes "    return;" ∷
    codes "  else" ∷
    codes "    skip;" ∷
    codes "  fi" ∷
    codes "  l := p(0);" ∷
    codes "  if (stop__) then" ∷
    codes "    return;" ∷
    codes "  else" ∷
    codes "    skip;" ∷
    codes "  fi" ∷
    codes "  while (?) do" ∷
    codes "    assume(!(!rh__ & rl__));" ∷
    codes "    rh__, rl__ := rh__ ^ rl__, !rl__;" ∷
    codes "  od" ∷
    codes "  if (?) then" ∷
    codes "    stop__ := 1;" ∷
    codes "  else" ∷
    codes "    skip;" ∷
    codes "  fi" ∷
    codes "  if (stop__) then" ∷
    codes "    return;" ∷
    codes "  else" ∷
    codes "    skip;" ∷
    codes "  fi" ∷
    codes "  tmp__t1 := ?;" ∷
    (codes "  y__1, y__2 := ((!rh__ & !rl__) & tmp__t1) | (!(!rh__ & !rl__) & y__1), ((!rh__ & rl__) & "
    ++ codes "tmp__t1) | (!(!rh__ & rl__) & y__2);") ∷
    codes "end" ∷
    codes "thread main__;" ∷
    [])
