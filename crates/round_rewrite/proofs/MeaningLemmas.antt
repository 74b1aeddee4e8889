-- The rewritten tree means the rewritten program, and the theorem over names.
use Rattle.std.proofs.Common.{◌≡◌, ℕ, zero, suc, ◌+◌, ◌<◌, ◌≤◌, true, false, cond, List, [], ◌∷◌, ◌++◌, length, map, codes, Option, Some}
use Rattle.std.proofs.Common.{None, option_map, slice_get, refl, sym, ◌∙◌, ap, subst, ap₂, arith, append_assoc, length-append}
use Rattle.std.proofs.lemmas.List.{length-map}
use Rattle.std.proofs.lemmas.Option.{slice_get-map}
use Rattle.language.specs.Tree.{Name, Expression, const, var, negation, two, RightSide, any, value, Simple}
use Rattle.language.specs.Tree.{Block, done, one, choose, loop, Procedure, ThreadLine, Tree}
use Rattle.std.specs.Prelude.{IfSome}
use Rattle.std.specs.List.{AllByRecursion}
use Rattle.language.specs.Parts.{plain, targets_of, sides_of, test_of, arguments_of, callee_of}
use Rattle.language.specs.Value.{global, local}
use Rattle.language.specs.Rest.{same_text}
use Rattle.language.specs.Step.{AtRoutine}
use Rattle.language.specs.Resolve.{number_of, is_declared, Scope, place_of, resolve_expression, resolve_side, resolve_simple, resolve_block}
use Rattle.language.specs.Resolve.{scope_of, routine_of, meaning_of}
use Rattle.language.specs.Sequential.{in_text_order, sequential_of, SomeBad}
use Rattle.round_rewrite.specs.Table.{numbers, temporaries, rewritten}
use Rattle.round_rewrite.specs.Places.{places, is_global, rewritten_routine, main_routine, rewritten_program, bad_at, global_count}
use Rattle.round_rewrite.specs.Names.{drawn_name, by_names, rewritten_procedure, main_procedure, rewritten_tree}
use Rattle.resolved.specs.Scoped.{PlaceInScope, InScope, AreInScope, SideInScope, SidesInScope, PlacesInScope, SimpleInScope, Throughout}
use Rattle.resolved.specs.Scoped.{EachThread, RoutineInScope, FitsScopes}
use Rattle.language.proofs.Names.{number_less}
use Rattle.checked.specs.Rewritable.{has_double, AreFree, Declared, AllDeclared, ExpressionDeclared, ExpressionsDeclared, SideDeclared}
use Rattle.checked.specs.Rewritable.{SidesDeclared, HasRoom, SimpleDeclared, BlockDeclared, ProcedureRewritable, EachLine, IsRewritable}
use Rattle.resolved.proofs.Parts.{parts_resolve}
use Rattle.resolved.specs.Narrow.{width}
use Rattle.round_rewrite.specs.Narrow.{IsNarrow}
use Rattle.round_rewrite.specs.Law.{KeepsFailures, KeepsTree}
use Rattle.round_rewrite.proofs.SpellingLemmas.{free_differs}
use Rattle.round_rewrite.proofs.NumberingLemmas.{free_name}
use Rattle.round_rewrite.proofs.PlaceLemmas.{Vocabulary, wider, bad_place, length-numbers, length-globals}
use Rattle.language.proofs.TestLemmas.{at_test}
use Rattle.round_rewrite.proofs.ResolutionLemmas.{temporaries_resolved, block_resolved}
use Rattle.round_rewrite.proofs.MainLemmas.{main_resolved, same_text_other}
use Rattle.round_rewrite.proofs.ResultLemmas.{gives_rewritten, gives_main}
use Rattle.round_rewrite.proofs.Theorem.{keeps}
use Rattle.resolved.specs.Limits.{most_places}
use Rattle.round_rewrite.specs.Limits.{most_rounds}

names_kept : (last : ℕ) (procs : List Procedure)
    → map (λ (p : Procedure). p.name) (map (rewritten_procedure last) procs) ≡ map (λ (p : Procedure). p.name) procs
names_kept last [] = refl
names_kept last (p ∷ procs) = ap (λ z. p.name ∷ z) (names_kept last procs)

pub free_names : (t : Tree) (procs : List Procedure) → AllByRecursion (ProcedureRewritable t) procs
    → AreFree (map (λ (p : Procedure). p.name) procs)
free_names t [] h = tt
free_names t (p ∷ procs) h = (h.0.name, free_names t procs h.1)

-- no procedure of the source is named as the first one of the rewritten program
pub not_main : (t : Tree) → IsRewritable t → (x : List ℕ) → is_declared x (map (λ (p : Procedure). p.name) t.procedures) ≡ true
    → same_text x (codes "main__") ≡ false
not_main t ok x h =
    let free : has_double x ≡ false =
    free_name x (map (λ (p : Procedure). p.name) t.procedures) (free_names t t.procedures ok.procedures) h in
    same_text_other (codes "main__") x (free_differs x (109 ∷ 97 ∷ 105 ∷ 110 ∷ []) [] free)

module _ (t : Tree) (last : ℕ) (ok : IsRewritable t) (small : last < most_rounds) where
  abbrev t' : Tree
  t' = rewritten_tree last t

  abbrev gs : List Name
  gs = t.globals

  abbrev ps : List Name
  ps = map (λ (p : Procedure). p.name) t.procedures

  abbrev ps' : List Name
  ps' = map (λ (p : Procedure). p.name) t'.procedures

  called : (q : Name) → is_declared q.text ps ≡ true → number_of q.text ps' ≡ suc (number_of q.text ps)
  called q h =
      let other : same_text q.text (codes "main__") ≡ false = not_main t ok q.text h in
      ap (λ c. cond c 0 (suc (number_of q.text (map (λ (p : Procedure). p.name) (map (rewritten_procedure last) t.procedures))))) other
      ∙ ap (λ z. suc (number_of q.text z)) (names_kept last t.procedures)

  -- the names of the source and of a procedure with these names of its own
  abbrev vocabulary : (own : List Name) (d : ℕ) → AreFree own → d ≤ most_places → Vocabulary
  vocabulary own d own_free few = record {
    gs = gs;
    own = own;
    ps = ps;
    d = d;
    last = last;
    gs_free = ok.globals;
    own_free = own_free;
    few = few;
    small = small;
  }

  main_is : routine_of t' (main_procedure last t) ≡ main_routine last (meaning_of t)
  main_is =
      λ i. record {
        places = 0;
        gives = gives_main Name (by_names []) last gs (map (λ (line : ThreadLine). line.name) t.threads) i;
        body = main_resolved t gs ps last ok.globals ok.distinct (omega arith) small ps' called t.threads ok.threads i;
      }

  abbrev own_of : Procedure → List Name
  own_of p = p.formals ++ p.locals

  abbrev drawn_of : Procedure → ℕ
  drawn_of p = temporaries (by_names (own_of p)).is_shared p.body

  abbrev temps_of : Procedure → List Name
  temps_of p = map drawn_name (numbers 0 (drawn_of p))

  length-temps : (p : Procedure) → length (temps_of p) ≡ drawn_of p
  length-temps p = length-map (numbers 0 (drawn_of p)) drawn_name ∙ length-numbers 0 (drawn_of p)

  length-own : (p : Procedure) → length (p.formals ++ (p.locals ++ temps_of p)) ≡ length (own_of p) + drawn_of p
  length-own p =
      ap length (sym (append_assoc p.formals p.locals (temps_of p)))
      ∙ (length-append (own_of p) (temps_of p) ∙ ap (λ z. length (own_of p) + z) (length-temps p))

  few_drawn : (p : Procedure) → width t' (rewritten_procedure last p) ≤ most_places → drawn_of p ≤ most_places
  few_drawn p h = let e : length (p.formals ++ (p.locals ++ temps_of p)) ≡ length (own_of p) + drawn_of p = length-own p in omega arith

  routine_is : (p : Procedure) → ProcedureRewritable t p → width t' (rewritten_procedure last p) ≤ most_places →
      routine_of t' (rewritten_procedure last p) ≡ rewritten_routine (length gs) last (routine_of t p)
  routine_is p h narrow =
      let own : List Name = own_of p in
      let d : ℕ = drawn_of p in
      let few : d ≤ most_places = few_drawn p narrow in
      let words : Vocabulary = vocabulary own d h.own few in
      let counts : temporaries (by_names own).is_shared p.body ≡ temporaries is_global (resolve_block (scope_of t p) p.body) =
      temporaries_resolved t words ps' called p.body in
      let bodies : resolve_block (wider words ps') (rewritten (by_names own) last p.body) ≡ rewritten
      (places (length gs) last (length own)) last (resolve_block (scope_of t p) p.body) =
      block_resolved t words ps' called p.body h.body (omega arith) in
      let scoped : resolve_block (scope_of t' (rewritten_procedure last p)) (rewritten (by_names own) last p.body) ≡ resolve_block
      (wider words ps') (rewritten (by_names own) last p.body) =
      ap (λ l.
      resolve_block (record { globals = t'.globals; locals = l; procedures = ps' }) (rewritten (by_names own) last p.body))
      (sym (append_assoc p.formals p.locals (temps_of p))) in
      λ i. record {
        places = (length-own p ∙ ap (λ z. length own + z) counts) i;
        gives = gives_rewritten (by_names own) last p.body i;
        body = (scoped ∙ bodies) i;
      }

  routines_are : (procs : List Procedure) → AllByRecursion (ProcedureRewritable t) procs →
      AllByRecursion (λ (p : Procedure). width t' p ≤ most_places) (map (rewritten_procedure last) procs) →
      map (routine_of t') (map (rewritten_procedure last) procs) ≡ map (rewritten_routine (length gs) last)
      (map (routine_of t) procs)
  routines_are [] h narrow = refl
  routines_are (p ∷ procs) h narrow = ap₂ (λ a b. a ∷ b) (routine_is p h.0 narrow.0) (routines_are procs h.1 narrow.1)

  globals_are : length t'.globals ≡ global_count (length gs) last
  globals_are = length-globals last gs

  -- the rewritten tree means the rewritten program
  pub meaning_is : IsNarrow last t → meaning_of t' ≡ rewritten_program last (meaning_of t)
  meaning_is narrow =
      λ i. record {
        globals = globals_are i;
        routines = main_is i ∷ routines_are t.procedures ok.procedures narrow.1 i;
        threads = 0 ∷ [];
      }

  -- a rewritable tree's program fits its scopes
  module _ (own : List Name) where
    abbrev s : Scope
    s = record { globals = gs; locals = own; procedures = ps }

    place_fits : (x : Name) → Declared s x → PlaceInScope (length gs) (length own) (place_of s x)
    place_fits x h =
        at_test (λ c. PlaceInScope (length gs) (length own) (cond c (local (number_of x.text own)) (global (number_of x.text gs))))
        (is_declared x.text own) (number_less x.text own) (λ e. number_less x.text gs (h e))

    places_fit : (xs : List Name) → AllDeclared s xs → PlacesInScope (length gs) (length own) (map (place_of s) xs)
    places_fit [] h = tt
    places_fit (x ∷ xs) h = (place_fits x h.0, places_fit xs h.1)

    expression_fits : (e : Expression Name) → ExpressionDeclared s e → InScope (length gs) (length own) (resolve_expression s e)
    expression_fits (const b) h = tt
    expression_fits (var x) h = place_fits x h
    expression_fits (negation e) h = expression_fits e h
    expression_fits (two o a b) h = (expression_fits a h.0, expression_fits b h.1)

    expressions_fit : (es : List (Expression Name)) → ExpressionsDeclared s es
        → AreInScope (length gs) (length own) (map (resolve_expression s) es)
    expressions_fit [] h = tt
    expressions_fit (e ∷ es) h = (expression_fits e h.0, expressions_fit es h.1)

    side_fits : (r : RightSide Name) → SideDeclared s r → SideInScope (length gs) (length own) (resolve_side s r)
    side_fits any h = tt
    side_fits (value e) h = expression_fits e h

    sides_fit : (rs : List (RightSide Name)) → SidesDeclared s rs → SidesInScope (length gs) (length own) (map (resolve_side s) rs)
    sides_fit [] h = tt
    sides_fit (r ∷ rs) h = (side_fits r h.0, sides_fit rs h.1)

    room_fits : (o : Option Procedure) (es : List (Expression Name)) → HasRoom o (length es)
        → AtRoutine (option_map (routine_of t) o) (λ r. length (map (resolve_expression s) es) ≤ r.places)
    room_fits None es h = absurd h
    room_fits (Some p) es h = subst (λ k. k ≤ length (p.formals ++ p.locals)) (sym (length-map es (resolve_expression s))) h

    test_fits : (o : Option (RightSide Name)) → IfSome o (SideDeclared s)
        → IfSome (option_map (resolve_side s) o) (SideInScope (length gs) (length own))
    test_fits None h = tt
    test_fits (Some r) h = side_fits r h

    callee_fits : (o : Option Name) (es : List (Expression Name))
        → IfSome o (λ q. (is_declared q.text ps ≡ true) × HasRoom (slice_get t.procedures (number_of q.text ps)) (length es))
        → IfSome (option_map (λ (q : Name). number_of q.text ps) o)
        (λ q. AtRoutine (slice_get (meaning_of t).routines q) (λ r. length (map (resolve_expression s) es) ≤ r.places))
    callee_fits None es h = tt
    callee_fits (Some q) es h =
        subst (λ o. AtRoutine o (λ r. length (map (resolve_expression s) es) ≤ r.places))
        (sym (slice_get-map (routine_of t) t.procedures (number_of q.text ps)))
        (room_fits (slice_get t.procedures (number_of q.text ps)) es h.1)

    simple_fits : (c : Simple Name Name Name) → SimpleDeclared t s c
        → SimpleInScope (meaning_of t).routines (length gs) (length own) (resolve_simple s c)
    simple_fits c h =
        let parts = parts_resolve s c in
        record {
          targets = rw parts.targets (places_fit (targets_of (plain c)) h.targets);
          sides = rw parts.sides (sides_fit (sides_of (plain c)) h.sides);
          test = rw parts.test (test_fits (test_of (plain c)) h.test);
          arguments = rw parts.arguments (expressions_fit (arguments_of (plain c)) h.arguments);
          callee = rw (parts.callee, parts.arguments) (callee_fits (callee_of (plain c)) (arguments_of (plain c)) h.callee);
        }

    block_fits : (b : Block Name Name Name) → BlockDeclared t s b
        → Throughout (SimpleInScope (meaning_of t).routines (length gs) (length own)) (SideInScope (length gs) (length own))
        (resolve_block s b)
    block_fits done h = tt
    block_fits (one m c k) h = (simple_fits c h.0, block_fits k h.1)
    block_fits (choose m r a b k) h = (side_fits r h.0, block_fits a h.1, block_fits b h.2, block_fits k h.3)
    block_fits (loop m r a k) h = (side_fits r h.0, block_fits a h.1, block_fits k h.2)

  routines_fit : (procs : List Procedure) → AllByRecursion (ProcedureRewritable t) procs
      → AllByRecursion (RoutineInScope (meaning_of t).routines (length gs)) (map (routine_of t) procs)
  routines_fit [] h = tt
  routines_fit (p ∷ procs) h = (block_fits (own_of p) p.body h.0.body, routines_fit procs h.1)

  there : (procs : List Procedure) (k : ℕ) → k < length procs → AtRoutine (slice_get (map (routine_of t) procs) k) (λ r. Unit {0})
  there [] k h = absurd (omega arith)
  there (p ∷ procs) zero h = tt
  there (p ∷ procs) (suc k) h = there procs k (omega arith)

  threads_fit : (lines : List ThreadLine) → EachLine ps lines
      → EachThread (meaning_of t).routines (map (λ (line : ThreadLine). number_of line.name.text ps) lines)
  threads_fit [] h = tt
  threads_fit (line ∷ lines) h = (
    there t.procedures (number_of line.name.text ps) (let z : number_of line.name.text ps < length ps =
        number_less line.name.text ps h.0 in let e : length ps ≡ length t.procedures =
        length-map t.procedures (λ (p : Procedure). p.name) in omega arith),
    threads_fit lines h.1,
  )

  pub fits_scopes : FitsScopes (meaning_of t)
  fits_scopes = record { routines = routines_fit t.procedures ok.procedures; threads = threads_fit t.threads ok.threads }

  bad_number : number_of (codes "bad__") t'.globals ≡ bad_at (length gs) last
  bad_number =
      let e : global (number_of (codes "bad__") t'.globals) ≡ global (bad_at (length gs) last) =
      bad_place (vocabulary [] 0 tt (omega arith)) ps' in
      cc

  pub keeps_tree : IsNarrow last t → KeepsTree (suc last) t
  keeps_tree narrow =
      let k : KeepsFailures (suc last) (meaning_of t) = keeps (meaning_of t) last fits_scopes small in
      let same : SomeBad (in_text_order (rewritten_program last (meaning_of t))) (bad_at (length gs) last) ≡ SomeBad
      (sequential_of t') (number_of (codes "bad__") t'.globals) =
      ap₂ (λ p b. SomeBad (in_text_order p) b) (sym (meaning_is narrow)) (sym bad_number) in
      ((λ u. subst (λ T. T) same (k.0 u)), (λ b. k.1 (subst (λ T. T) (sym same) b)))
