-- The tokens of printed declarations, procedures and programs, by the grammar.
use Rattle.std.proofs.Common.{◌≡◌, ℕ, ◌+◌, ◌<◌, List, [], ◌∷◌, ◌++◌, length, map, refl, ◌∙◌, ap, subst, append_assoc, append-nil, arith}
use Rattle.std.specs.List.{AllByRecursion}
use Rattle.language.specs.Tree.{Name, Procedure, ThreadLine, Tree}
use Rattle.tokens.specs.declared.vocabulary.Kind.TheVariants as kind
use Rattle.tokens.specs.Token.{Tok}
use Rattle.tokens.specs.Parts.{Part, space, line, fixed, tokens_of}
use Rattle.grammar.specs.Grammar.{takes, IsName, is_name, Many, no_more, one_more, Several, several, Perhaps, joined, is_declaration}
use Rattle.grammar.specs.Grammar.{Declarations, declarations, IsProcedure, is_procedure, IsThread, is_thread, IsProgram, is_program}
use Rattle.syntax.specs.Offsets.{unplaced, unplaced_procedure, unplaced_thread, unplaced_tree}
use Rattle.grammar.specs.InGrammar.{ProcedureInGrammar, ThreadInGrammar, InGrammar}
use Rattle.grammar.specs.Printed as printed
use Rattle.grammar.specs.Printed.{name_parts, separated, ended, line_parts, block_parts, declaration_parts, procedure_parts, thread_parts}
use Rattle.grammar.specs.Printed.{program_parts}
use Rattle.syntax.proofs.Appended.{five}
use Rattle.syntax.proofs.PrintsBack.{Shows, put, name_shows, list_shows, perhaps_shows, parens_show}
use Rattle.syntax.proofs.PrintsBackBlocks.{put_tokens, line_at, word_at, some_too, block_shows}

declaration_shows : (ns : List Name) (level : ℕ) → Shows Declarations (map unplaced) (declaration_parts level ns) ns
declaration_shows [] level at more = record { found = []; next = at; same = refl; reads = declarations no_more }
declaration_shows (n ∷ ns) level at more =
    let names : List Part = separated name_parts (n ∷ ns) in
    let l = line_at level at (ended (fixed kind.Decl ∷ space ∷ names)) more in
    let found =
    list_shows IsName unplaced name_parts name_shows (n ∷ ns) (omega arith) (l.0 + 4 + 1) (fixed kind.Semicolon ∷ line ∷ more) in
    let e : ended
    (fixed kind.Decl ∷ space ∷ names) ++ (line ∷ more) ≡ fixed kind.Decl ∷ space ∷ (names ++ (fixed kind.Semicolon ∷ line ∷ more)) =
    ap (λ (ps : List Part). fixed kind.Decl ∷ space ∷ ps) (append_assoc names (fixed kind.Semicolon ∷ []) (line ∷ more)) in
    put_tokens _ _ (l.1 ∙ ap (tokens_of l.0) e)
    (record {
      found = found.found ++ [];
      next = found.next + 1 + 1;
      same = ap (map unplaced) (append-nil found.found) ∙ found.same;
      reads = declarations (one_more (is_declaration (takes refl) found.reads (takes refl)) no_more);
    })

procedure_shows : (p : Procedure) → ProcedureInGrammar p → Shows IsProcedure unplaced_procedure (procedure_parts p) p
procedure_shows p ok at more =
    let head : List Part = name_parts p.name ++ printed.in_parens (separated name_parts p.formals) in
    let from_end : List Part = line_parts 0 (fixed kind.End ∷ []) ++ more in
    let from_body : List Part = block_parts 1 p.body ++ from_end in
    let from_begin : List Part = line_parts 0 (fixed kind.Begin ∷ []) ++ (declaration_parts 1 p.locals ++ from_body) in
    let l = line_at 0 at head from_begin in
    let formals =
    parens_show (Perhaps IsName) (map unplaced) (separated name_parts p.formals) p.formals
    (perhaps_shows IsName unplaced name_parts name_shows p.formals) (l.0 + length p.name.text) (line ∷ from_begin) in
    let begin = word_at kind.Begin 0 (formals.next + 1) (declaration_parts 1 p.locals ++ from_body) in
    let locals = declaration_shows p.locals 1 begin.0 from_body in
    let body = block_shows p.body ok.body 1 locals.next from_end in
    let end = word_at kind.End 0 body.next more in
    put_tokens _ _
    (ap (tokens_of at)
    (five (line_parts 0 head) (line_parts 0 (fixed kind.Begin ∷ [])) (declaration_parts 1 p.locals) (block_parts 1 p.body)
    (line_parts 0 (fixed kind.End ∷ [])) more) ∙ l.1)
    (record {
      found = record { name = record { text = p.name.text; at = l.0 }; formals = formals.found; locals = locals.found; body = body.found };
      next = end.0;
      same = let e1 = formals.same in let e2 = locals.same in let e3 = body.same in cc;
      reads =
          is_procedure (is_name refl) formals.reads begin.1 locals.reads body.reads (some_too body.found p.body body.same ok.some) end.1;
    })

thread_shows : (t : ThreadLine) → Shows IsThread unplaced_thread (thread_parts t) t
thread_shows t at more =
    let l = line_at 0 at (ended (fixed kind.Thread ∷ space ∷ name_parts t.name)) more in
    put_tokens _ _ l.1
    (record {
      found = record { at = l.0; name = record { text = t.name.text; at = l.0 + 6 + 1 } };
      next = l.0 + 6 + 1 + length t.name.text + 1 + 1;
      same = refl;
      reads = is_thread refl (is_name refl) (takes refl);
    })

-- One after the other.
module _ {X : Type 0} (P : List Tok → X → List Tok → Type 0) (Ok : X → Type 0) (bare : X → X) (show : X → List Part)
    (shows : (x : X) → Ok x → Shows P bare (show x) x) where
  many_show : (xs : List X) → AllByRecursion Ok xs → Shows (Many P) (map bare) (joined (map show xs)) xs
  many_show [] all at more = record { found = []; next = at; same = refl; reads = no_more }
  many_show (x ∷ xs) all at more =
      let first = shows x all.0 at (joined (map show xs) ++ more) in
      let others = many_show xs all.1 first.next more in
      put at _ (show x ++ (joined (map show xs) ++ more)) (append_assoc (show x) (joined (map show xs)) more) (record {
        found = first.found ∷ others.found;
        next = others.next;
        same = let e = first.same in let f = others.same in cc;
        reads = one_more first.reads others.reads;
      })

  -- of a list that is not empty
  at_least_one : {ts rest : List Tok} {ys zs : List X} {z : X} → map bare ys ≡ z ∷ zs → Many P ts ys rest
      → Several P ts ys rest
  at_least_one e no_more = cc
  at_least_one e (one_more h t) = several h t

  several_show : (xs : List X) → 0 < length xs → AllByRecursion Ok xs → Shows (Several P) (map bare) (joined (map show xs)) xs
  several_show [] some all at more = absurd (omega arith)
  several_show (x ∷ xs) some all at more =
      let all_read = many_show (x ∷ xs) all at more in
      record {
        found = all_read.found;
        next = all_read.next;
        same = all_read.same;
        reads = at_least_one all_read.same all_read.reads;
      }

-- The tokens of a printed tree of the grammar are a program with this tree, offsets aside.
pub program_shows : (t : Tree) → InGrammar t
    → (found : Tree) × IsProgram (tokens_of 0 (program_parts t)) found × (unplaced_tree found ≡ unplaced_tree t)
program_shows t ok =
    let threads_after : List Part = joined (map thread_parts t.threads) in
    let globals = declaration_shows t.globals 0 0 (joined (map procedure_parts t.procedures) ++ threads_after) in
    let procedures =
    several_show IsProcedure ProcedureInGrammar unplaced_procedure procedure_parts procedure_shows t.procedures ok.some_procedure
    ok.procedures globals.next threads_after in
    let threads =
    several_show IsThread ThreadInGrammar unplaced_thread thread_parts
    (λ x _. thread_shows x) t.threads ok.some_thread ok.threads procedures.next [] in
    let found : Tree = record { globals = globals.found; procedures = procedures.found; threads = threads.found } in
    let last : Several IsThread (tokens_of procedures.next threads_after) threads.found [] =
    subst (λ ps. Several IsThread (tokens_of procedures.next ps) threads.found []) (append-nil threads_after) threads.reads in (
      found,
      is_program globals.reads procedures.reads last,
      let e1 = globals.same in let e2 = procedures.same in let e3 = threads.same in
          cc,
    )
