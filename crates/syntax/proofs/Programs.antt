-- Declarations, procedures, thread lines and programs, read exactly as the grammar says.
use Rattle.std.proofs.Common.{◌≡◌, true, false, List, [], ◌∷◌, Some, refl, ◌∙◌, ap}
use Rattle.language.specs.Tree.{Name, Block, Procedure, ThreadLine, Tree}
use Rattle.tokens.specs.declared.vocabulary.Kind.{Kind}
use Rattle.tokens.specs.declared.vocabulary.Kind.TheVariants as kind
use Rattle.tokens.specs.Token.{Tok, same_kind}
use Rattle.syntax.specs.Parser.{Strict, give, begins, take, many}
use Rattle.grammar.specs.Grammar.{Takes, IsName, is_name, InParens, Several, several, Perhaps, IsSome, Statements, joined}
use Rattle.grammar.specs.Grammar.{IsDeclaration, is_declaration, Declarations, declarations, IsProcedure, is_procedure, IsThread, is_thread}
use Rattle.grammar.specs.Grammar.{IsProgram, is_program}
use Rattle.syntax.specs.Exact.{name, name_list, formals, starts, starts_here, section, declaration, all_declarations, insides, procedure}
use Rattle.syntax.specs.Exact.{procedures, thread_line, any_left, thread_lines, program}
use Rattle.syntax.proofs.KindTests.{same_kind-is}
use Rattle.syntax.proofs.Fixes.{bind_is, Shrinks, Strict-Shrinks, Shrinks-give, Strict-take, Shrinks-bind, Strict-bind}
use Rattle.syntax.proofs.ChainLemmas.{Finding, Finding-give, Finding-bind, Finding-take, Finding-last, Finding-closed, kind_taken}
use Rattle.syntax.proofs.ChainLemmas.{Strict-closed, Shrinks-closed, Reading, Reading-give, Reading-bind, Reading-take, Reading-last}
use Rattle.syntax.proofs.ChainLemmas.{Reading-closed}
use Rattle.syntax.proofs.Exactly.{Exactly, exactly, Anything, begins_takes, begins_other, many_finds, many_reads}
use Rattle.syntax.proofs.Exactly.{many_shrinks, repeated_finds, repeated_reads}
use Rattle.syntax.proofs.Parts.{strict_name, exactly_name, strict_names, exactly_names, strict_formals, exactly_formals}
use Rattle.syntax.proofs.Sections.{section_shrinks}
use Rattle.syntax.proofs.Sound.{section_finds}
use Rattle.syntax.proofs.Complete.{statements_read, statements_start, stops}

comma_no : {vs rest : List Tok} → Takes kind.Semicolon vs rest → begins kind.Comma vs ≡ false
unfolding same_kind
comma_no s = begins_other kind.Comma s refl

-- declarations
pub strict_declaration : Strict declaration
unfolding declaration
strict_declaration = Strict-bind (Strict-take kind.Decl) (λ _. Strict-Shrinks (Strict-closed kind.Semicolon strict_names))

pub exactly_declaration : Exactly IsDeclaration Anything declaration
unfolding declaration
exactly_declaration =
    exactly
    (λ ts. Finding-take (λ _ us d _. Finding-bind name_list (λ ns vs n.
    Finding-last (λ rest s. is_declaration d (exactly_names.finds us ns vs n) s))))
    went
  where
    went : (ts : List Tok) (ns : List Name) (rest : List Tok) → IsDeclaration ts ns rest → Unit {0} → Reading declaration ts ns rest
    went ts ns rest (is_declaration {us = us} {vs = vs} d l s) u =
        Reading-take d (Reading-bind name_list _ (exactly_names.reads us ns vs l (tt, comma_no s)) (Reading-last s))

declaration_begins : (ts : List Tok) (ns : List Name) (us : List Tok) → IsDeclaration ts ns us → begins kind.Decl ts ≡ true
declaration_begins ts ns us (is_declaration d l s) = begins_takes d

pub all_declarations_shrinks : Shrinks all_declarations
unfolding all_declarations
all_declarations_shrinks = Shrinks-bind (many_shrinks (begins kind.Decl) declaration strict_declaration) (λ nss. Shrinks-give (joined nss))

pub declarations_found : (ts : List Tok) (ns : List Name) (rest : List Tok) → all_declarations ts ≡ Some (ns, rest)
    → Declarations ts ns rest
unfolding all_declarations
declarations_found ts =
    let whole : Finding all_declarations ts (Declarations ts) =
    Finding-bind (many (begins kind.Decl) declaration) (λ nss us e. Finding-give (declarations
    (many_finds (begins kind.Decl) declaration strict_declaration IsDeclaration exactly_declaration.finds ts nss us e).0)) in
    whole.by

pub declarations_read : (ts : List Tok) (ns : List Name) (rest : List Tok) → Declarations ts ns rest → begins kind.Decl rest ≡ false
    → all_declarations ts ≡ Some (ns, rest)
unfolding all_declarations
declarations_read ts ns rest (declarations {nss = nss} m) e =
    bind_is (many (begins kind.Decl) declaration) (λ nss. give (joined nss)) ts nss rest
    (many_reads (begins kind.Decl) declaration strict_declaration exactly_declaration declaration_begins (λ us h. tt) m tt e)

-- procedures
strict_insides : Strict insides
unfolding insides
strict_insides =
    Strict-bind (Strict-take kind.Begin)
    (λ _. Shrinks-bind all_declarations_shrinks (λ ls. Shrinks-bind (Shrinks-closed kind.End section_shrinks) (λ b. Shrinks-give (ls, b))))

-- begin, locals, statements, end
data IsInside : List Tok → List Name × Block Name Name Name → List Tok → Type 0 where
  is_inside : {ts us vs ws rest : List Tok} {ls : List Name} {b : Block Name Name Name} → Takes kind.Begin ts us → Declarations us ls vs
      → Statements vs b ws → IsSome b → Takes kind.End ws rest → IsInside ts (ls, b) rest

no_decl : (k : Kind) → starts k ≡ true → same_kind k kind.Decl ≡ false
unfolding same_kind
no_decl kind.Decl e = cc
no_decl _ e = refl

no_declaration : (ts : List Tok) → starts_here ts ≡ true → begins kind.Decl ts ≡ false
no_declaration [] e = refl
no_declaration (t ∷ ts) e = no_decl t.kind e

exactly_insides : Exactly IsInside Anything insides
unfolding insides same_kind
exactly_insides =
    exactly
    (λ ts. Finding-take (λ _ us g _. Finding-bind all_declarations (λ ls vs d. Finding-closed section (λ b ws rest s e.
    let found = section_finds vs b ws s in
    Finding-give (is_inside g (declarations_found us ls vs d) found.0 found.1 e))))) went
  where
    went : (ts : List Tok) (p : List Name × Block Name Name Name) (rest : List Tok) → IsInside ts p rest → Unit {0}
        → Reading insides ts p rest
    went ts p rest (is_inside {us = us} {vs = vs} {ls = ls} g d s n e) u =
        Reading-take g
        (Reading-bind all_declarations _ (declarations_read us ls vs d (no_declaration vs (statements_start s n)))
        (Reading-closed section _ ((statements_read s (stops e refl)).1 n) e Reading-give))

pub strict_procedure : Strict procedure
unfolding procedure
strict_procedure =
    Strict-bind strict_name (λ n.
    Shrinks-bind (Strict-Shrinks strict_formals) (λ fs.
    Shrinks-bind (Strict-Shrinks strict_insides) (λ p. Shrinks-give (record { name = n; formals = fs; locals = p.0; body = p.1 }))))

procedure_of : {ts us vs rest : List Tok} {n : Name} {fs : List Name} {p : List Name × Block Name Name Name} → IsName ts n us
    → InParens (Perhaps IsName) us fs vs → IsInside vs p rest
    → IsProcedure ts (record { name = n; formals = fs; locals = p.0; body = p.1 }) rest
procedure_of n f (is_inside g d s m e) = is_procedure n f g d s m e

pub exactly_procedure : Exactly IsProcedure Anything procedure
unfolding procedure
exactly_procedure =
    exactly
    (λ ts. Finding-bind name (λ n us h. Finding-bind formals (λ fs vs f. Finding-bind insides (λ p rest i.
    Finding-give (procedure_of (exactly_name.finds ts n us h) (exactly_formals.finds us fs vs f) (exactly_insides.finds vs p rest i))))))
    went
  where
    went : (ts : List Tok) (p : Procedure) (rest : List Tok) → IsProcedure ts p rest → Unit {0} → Reading procedure ts p rest
    went ts p rest (is_procedure {us = us} {vs = vs} {n = n} {formals = fs} {locals = ls} {body = b} h f g d s m e) u =
        Reading-bind name _ (exactly_name.reads ts n us h tt)
        (Reading-bind formals _ (exactly_formals.reads us fs vs f tt)
        (Reading-bind insides _ (exactly_insides.reads vs (ls, b) rest (is_inside g d s m e) tt) Reading-give))

name_begins : {ts us : List Tok} {n : Name} → IsName ts n us → begins kind.Id ts ≡ true
name_begins (is_name e) = same_kind-is e

procedure_begins : (ts : List Tok) (p : Procedure) (us : List Tok) → IsProcedure ts p us → begins kind.Id ts ≡ true
procedure_begins ts p us (is_procedure h f g d s m e) = name_begins h

pub procedures_found : (ts : List Tok) (ps : List Procedure) (rest : List Tok) → procedures ts ≡ Some (ps, rest)
    → Several IsProcedure ts ps rest
procedures_found ts ps rest e = (repeated_finds (begins kind.Id) strict_procedure exactly_procedure ts ps rest e).0

pub procedures_read : (ts : List Tok) (ps : List Procedure) (rest : List Tok) → Several IsProcedure ts ps rest
    → begins kind.Id rest ≡ false → procedures ts ≡ Some (ps, rest)
procedures_read = repeated_reads (begins kind.Id) strict_procedure exactly_procedure procedure_begins

-- thread lines
pub strict_thread_line : Strict thread_line
unfolding thread_line
strict_thread_line =
    Strict-bind (Strict-take kind.Thread)
    (λ t. Shrinks-bind (Strict-Shrinks (Strict-closed kind.Semicolon strict_name)) (λ n. Shrinks-give (record { at = t.at; name = n })))

pub exactly_thread_line : Exactly IsThread Anything thread_line
unfolding thread_line
exactly_thread_line =
    exactly
    (λ ts. Finding-take (λ t us found same. Finding-closed name (λ n vs rest h s.
    Finding-give (rw same (is_thread (kind_taken (rw same at found)) (exactly_name.finds us n vs h) s))))) went
  where
    went : (ts : List Tok) (l : ThreadLine) (rest : List Tok) → IsThread ts l rest → Unit {0} → Reading thread_line ts l rest
    went ts l rest (is_thread {t = t} {us = us} {vs = vs} {n = n} e h s) u =
        Reading-bind {us = us} {x = t} (take kind.Thread) _ (rw (same_kind-is e) refl)
        (Reading-closed name _ (exactly_name.reads us n vs h tt) s Reading-give)

line_begins : (ts : List Tok) (l : ThreadLine) (us : List Tok) → IsThread ts l us → any_left ts ≡ true
line_begins ts l us (is_thread e h s) = refl

none_left : (ts : List Tok) → any_left ts ≡ false → ts ≡ []
none_left [] e = refl
none_left (t ∷ ts) e = cc

pub lines_found : (ts : List Tok) (ls : List ThreadLine) (rest : List Tok) → thread_lines ts ≡ Some (ls, rest)
    → Several IsThread ts ls [] × (rest ≡ [])
lines_found ts ls rest e =
    let m = repeated_finds any_left strict_thread_line exactly_thread_line ts ls rest e in
    let n = none_left rest m.1 in
    (rw n at m.0, n)

pub lines_read : (ts : List Tok) (ls : List ThreadLine) → Several IsThread ts ls [] → thread_lines ts ≡ Some (ls, [])
lines_read ts ls h = repeated_reads any_left strict_thread_line exactly_thread_line line_begins ts ls [] h refl

-- programs
pub program_finds : (ts : List Tok) (p : Tree) (rest : List Tok) → program ts ≡ Some (p, rest) → IsProgram ts p
unfolding program
program_finds ts =
    let whole : Finding program ts (λ p rest. IsProgram ts p) =
    Finding-bind all_declarations (λ gs us d. Finding-bind procedures (λ ps vs m. Finding-bind thread_lines (λ ls rest t.
    Finding-give (is_program (declarations_found ts gs us d) (procedures_found us ps vs m) (lines_found vs ls rest t).0)))) in
    whole.by

pub program_is : (ts : List Tok) {us vs ws : List Tok} {gs : List Name} {ps : List Procedure} {ls : List ThreadLine}
    → all_declarations ts ≡ Some (gs, us) → procedures us ≡ Some (ps, vs) → thread_lines vs ≡ Some (ls, ws)
    → program ts ≡ Some (record { globals = gs; procedures = ps; threads = ls }, [])
unfolding program
program_is ts {us} {vs} {ws} {gs} {ps} {ls} d m t =
    let whole : Reading program ts (record { globals = gs; procedures = ps; threads = ls }) ws =
    Reading-bind all_declarations _ d (Reading-bind procedures _ m (Reading-bind thread_lines _ t Reading-give)) in
    whole.is ∙ ap (λ (rest : List Tok). Some (record { globals = gs; procedures = ps; threads = ls }, rest)) (lines_found vs ls ws t).1

pub program_reads : (ts : List Tok) (p : Tree) → IsProgram ts p → program ts ≡ Some (p, [])
unfolding same_kind
program_reads ts p (is_program {us = us} {vs = vs} {globals = gs} {procedures = ps} {threads = ls} d m t) =
    program_is ts (declarations_read ts gs us d (by_procedure m)) (procedures_read us ps vs m (by_line t))
    (lines_read vs ls t)
  where
    by_name : {ts us : List Tok} {n : Name} → IsName ts n us → begins kind.Decl ts ≡ false
    by_name (is_name e) = rw e refl

    by_first : {ts us : List Tok} {p : Procedure} → IsProcedure ts p us → begins kind.Decl ts ≡ false
    by_first (is_procedure h f g d s m e) = by_name h

    by_procedure : {ts us : List Tok} {ps : List Procedure} → Several IsProcedure ts ps us → begins kind.Decl ts ≡ false
    by_procedure (several h m) = by_first h

    by_thread : {ts us : List Tok} {l : ThreadLine} → IsThread ts l us → begins kind.Id ts ≡ false
    by_thread (is_thread e h s) = rw e refl

    by_line : {ts us : List Tok} {ls : List ThreadLine} → Several IsThread ts ls us → begins kind.Id ts ≡ false
    by_line (several h m) = by_thread h
