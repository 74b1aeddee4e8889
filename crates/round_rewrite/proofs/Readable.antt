-- The rewritten tree is one of the grammar if the source's tree is.
use Rattle.std.proofs.Common.{◌≡◌, ℕ, zero, suc, ◌+◌, ◌<◌, ◌≤◌, true, false, cond, not, List, [], ◌∷◌, ◌++◌}
use Rattle.std.proofs.Common.{length, map, reverse, codes, Some, refl, sym, subst, arith, length-append}
use Rattle.std.proofs.lemmas.List.{length-map}
use Rattle.std.specs.List.{AllByRecursion}
use Rattle.language.specs.Tree.{Name, Expression, const, var, negation, two, RightSide, any, value, Simple, assign, assert, assume}
use Rattle.language.specs.Tree.{goto, call, leave_with, call_for, Mark, Block, done, one, choose, loop, Procedure, ThreadLine, Tree}
use Rattle.language.specs.Rest.{join}
use Rattle.language.specs.Resolve.{is_declared}
use Rattle.grammar.specs.Grammar.{IsSome}
use Rattle.grammar.specs.InGrammar.{IsId, AreIds, ExpressionInGrammar, SideInGrammar, SimpleInGrammar, LabelInGrammar, BlockInGrammar}
use Rattle.grammar.specs.InGrammar.{ProcedureInGrammar, ThreadInGrammar, InGrammar}
use Rattle.resolved.specs.Statements.{variables_of, variables_of_side, variables_of_sides, variables_of_all}
use Rattle.resolved.proofs.Each.{each_left, each_right}
use Rattle.round_rewrite.specs.Table.{Naming, numbers, no_mark, temporaries, in_round, expression_form, side, all_rounds, targets, sides}
use Rattle.round_rewrite.specs.Table.{draws, drawing, stop_test, rise, prologue, statement, rewritten, guess, guesses}
use Rattle.round_rewrite.specs.Table.{starts, check, checks}
use Rattle.round_rewrite.specs.Table.{copied, globals, receiver_draws, received, raised, each, reset_targets}
use Rattle.round_rewrite.specs.Names.{fresh_name, bit_name, bit_names, copy_name, save_name, drawn_name, by_names, rewritten_procedure}
use Rattle.round_rewrite.specs.Names.{main_procedure, rewritten_tree}
use Rattle.round_rewrite.specs.Narrow.{IsNarrow}
use Rattle.round_rewrite.specs.Places.{global_count}
use Rattle.round_rewrite.specs.Writing.{procedure_needs, AreFew}
use Rattle.round_rewrite.proofs.RoundBitLemmas.{bits_few}
use Rattle.round_rewrite.proofs.PlaceLemmas.{length-bit_names}
use Rattle.language.proofs.TestLemmas.{at_test}
use Rattle.round_rewrite.proofs.ResolutionLemmas.{rest_room}
use Rattle.round_rewrite.proofs.Widths.{narrow_procedures, few_needs}
use Rattle.round_rewrite.proofs.InTurn.{keep, keep_below}
use Rattle.round_rewrite.proofs.Uses.{each_both, any_uses, written_each, numbered_each, each_reversed, rise_uses, rise_even, zeros_use}
use Rattle.round_rewrite.proofs.Uses.{sides_even, Held, at_uses, arguments_use, side_uses}
use Rattle.round_rewrite.proofs.Uses.{targets_held, sides_use, expression_uses, receiver_held, landing_has}
use Rattle.round_rewrite.proofs.Ids.{copy_id, save_id, drawn_id, bit_id, stop_id, bad_id, main_id}
use Rattle.resolved.specs.Limits.{most_places}
use Rattle.round_rewrite.specs.Limits.{most_rounds, round_bits}

-- names, expressions and right sides of the grammar are those whose variables are ids
ids_each : (xs : List Name) → AreIds xs → AllByRecursion IsId xs
ids_each [] h = tt
ids_each (x ∷ xs) h = (h.0, ids_each xs h.1)

each_ids : (xs : List Name) → AllByRecursion IsId xs → AreIds xs
each_ids [] h = tt
each_ids (x ∷ xs) h = (h.0, each_ids xs h.1)

uses_ids : (e : Expression Name) → ExpressionInGrammar e → AllByRecursion IsId (variables_of e)
uses_ids (const b) h = tt
uses_ids (var x) h = (h, tt)
uses_ids (negation e) h = uses_ids e h
uses_ids (two o a b) h = each_both IsId (variables_of a) (variables_of b) (uses_ids a h.0) (uses_ids b h.1)

ids_used : (e : Expression Name) → AllByRecursion IsId (variables_of e) → ExpressionInGrammar e
ids_used (const b) h = tt
ids_used (var x) h = h.0
ids_used (negation e) h = ids_used e h
ids_used (two o a b) h =
    (ids_used a (each_left IsId (variables_of a) (variables_of b) h), ids_used b (each_right IsId (variables_of a) (variables_of b) h))

side_uses_ids : (r : RightSide Name) → SideInGrammar r → AllByRecursion IsId (variables_of_side r)
side_uses_ids any h = tt
side_uses_ids (value e) h = uses_ids e h

side_ids_used : (r : RightSide Name) → AllByRecursion IsId (variables_of_side r) → SideInGrammar r
side_ids_used any h = tt
side_ids_used (value e) h = ids_used e h

-- the same for lists of them: own are the names of one, all those of a list
list_uses_ids : {X : Type 0} (P : X → Type 0) (own : X → List Name) (all : List X → List Name)
    → all [] ≡ [] → ((x : X) (xs : List X) → all (x ∷ xs) ≡ own x ++ all xs)
    → ((x : X) → P x → AllByRecursion IsId (own x)) → (xs : List X) → AllByRecursion P xs → AllByRecursion IsId (all xs)
list_uses_ids P own all none more single [] h = subst (AllByRecursion IsId) (sym none) tt
list_uses_ids P own all none more single (x ∷ xs) h =
    subst (AllByRecursion IsId) (sym (more x xs))
    (each_both IsId (own x) (all xs) (single x h.0) (list_uses_ids P own all none more single xs h.1))

list_ids_used : {X : Type 0} (P : X → Type 0) (own : X → List Name) (all : List X → List Name)
    → ((x : X) (xs : List X) → all (x ∷ xs) ≡ own x ++ all xs)
    → ((x : X) → AllByRecursion IsId (own x) → P x) → (xs : List X) → AllByRecursion IsId (all xs) → AllByRecursion P xs
list_ids_used P own all more single [] h = tt
list_ids_used P own all more single (x ∷ xs) h =
    let both = subst (AllByRecursion IsId) (more x xs) h in (
      single x (each_left IsId (own x) (all xs) both),
      list_ids_used P own all more single xs (each_right IsId (own x) (all xs) both),
    )

sides_use_ids : (rs : List (RightSide Name)) → AllByRecursion SideInGrammar rs → AllByRecursion IsId (variables_of_sides rs)
sides_use_ids = list_uses_ids SideInGrammar variables_of_side variables_of_sides refl (λ r rs. refl) side_uses_ids

sides_ids_used : (rs : List (RightSide Name)) → AllByRecursion IsId (variables_of_sides rs) → AllByRecursion SideInGrammar rs
sides_ids_used = list_ids_used SideInGrammar variables_of_side variables_of_sides (λ r rs. refl) side_ids_used

arguments_use_ids : (es : List (Expression Name)) → AllByRecursion ExpressionInGrammar es → AllByRecursion IsId (variables_of_all es)
arguments_use_ids = list_uses_ids ExpressionInGrammar variables_of variables_of_all refl (λ e es. refl) uses_ids

arguments_ids_used : (es : List (Expression Name)) → AllByRecursion IsId (variables_of_all es) → AllByRecursion ExpressionInGrammar es
arguments_ids_used = list_ids_used ExpressionInGrammar variables_of variables_of_all (λ e es. refl) ids_used

-- the lowest bits of the round
bit_ids : (count : ℕ) → AllByRecursion IsId (bit_names count)
bit_ids count = numbered_each IsId bit_name count (λ j lt. bit_id j) 0 count (omega arith)

-- an assignment of the grammar, by its variables
assign_in_grammar : (xs : List Name) (rs : List (RightSide Name)) → 0 < length xs → length xs ≡ length rs → AllByRecursion IsId xs
    → AllByRecursion IsId (variables_of_sides rs) → SimpleInGrammar (assign xs rs)
assign_in_grammar xs rs some even h g = (some, each_ids xs h, omega (arith, some, even), sides_ids_used rs g)

-- blocks of the grammar joined
join_in_grammar : (a b : Block Name Name Name) → BlockInGrammar a → BlockInGrammar b → BlockInGrammar (join a b)
join_in_grammar done b h g = g
join_in_grammar (one m c t) b h g = (h.0, h.1, join_in_grammar t b h.2 g)
join_in_grammar (choose m r x y t) b h g = (h.0, h.1, h.2, h.3, h.4, h.5, join_in_grammar t b h.6 g)
join_in_grammar (loop m r x t) b h g = (h.0, h.1, h.2, h.3, join_in_grammar t b h.4 g)

some_joined : (a b : Block Name Name Name) → IsSome b → IsSome (join a b)
some_joined done b h = h
some_joined _ b h = tt

module _ (own : List Name) (last d : ℕ) (small : last < most_rounds) (few : d ≤ most_places) where
  abbrev N : Naming Name Name Name Name
  N = by_names own

  abbrev put : Block Name Name Name → Block Name Name Name
  put = rewritten N last

  held : Held own last d IsId IsId
  held = record {
    bits = bit_ids (round_bits last);
    stop = stop_id;
    bad = bad_id;
    copied = λ x h hidden k le. copy_id k x (omega arith) h;
    kept = λ x h e. h;
    drawn = λ j lt. drawn_id j (omega arith);
  }

  some_rewritten : (b : Block Name Name Name) → IsSome b → IsSome (put b)
  some_rewritten done h = h
  some_rewritten _ h = tt

  stop_test_in_grammar : (k : Block Name Name Name) → BlockInGrammar k → BlockInGrammar (stop_test N last k)
  stop_test_in_grammar k h = (tt, stop_id, tt, (tt, tt, tt), tt, (tt, tt, tt), h)

  rise_in_grammar : BlockInGrammar (rise N last)
  rise_in_grammar = (
    tt,
    ids_used (in_round N last last) (at_uses own last d IsId IsId held last),
    (
      tt,
      assign_in_grammar (reverse (bit_names (round_bits last))) (reverse (raised (bit_names (round_bits last))))
          (omega (arith, bits_few last, length-bit_names (round_bits last))) (rise_even (bit_names (round_bits last)))
          (each_reversed IsId (bit_names (round_bits last)) held.bits) (rise_uses IsId (bit_names (round_bits last)) held.bits),
      tt,
    ),
  )

  prologue_in_grammar : (m : Mark Name) (k : Block Name Name Name) → LabelInGrammar m.label → BlockInGrammar k
      → BlockInGrammar (prologue N last m k)
  prologue_in_grammar m k l h = (
    l,
    tt,
    tt,
    rise_in_grammar,
    (
      tt,
      tt,
      tt,
      (tt, assign_in_grammar (fresh_name (codes "stop__") ∷ []) (value (const true) ∷ []) (omega arith) refl (stop_id, tt) tt, tt),
      tt,
      (tt, tt, tt),
      stop_test_in_grammar k h,
    ),
  )

  drawing_in_grammar : (n : ℕ) (k : Block Name Name Name) → n ≤ d → BlockInGrammar k
      → BlockInGrammar (drawing N last n k)
  drawing_in_grammar zero k le h = h
  drawing_in_grammar (suc n) k le h = (
    tt,
    assign_in_grammar (map drawn_name (numbers 0 (suc n))) (map (λ x. any) (numbers 0 (suc n))) (omega arith)
        (simp length-map)
        (numbered_each IsId drawn_name d held.drawn 0 (suc n) (omega arith)) (any_uses IsId (numbers 0 (suc n))),
    h,
  )

  side_in_grammar : (r : RightSide Name) → SideInGrammar r → SideInGrammar (side N last r)
  side_in_grammar r h = side_ids_used (side N last r) (side_uses own last d IsId IsId held r (side_uses_ids r h))

  arguments_in_grammar : (es : List (Expression Name)) → AllByRecursion ExpressionInGrammar es
      → AllByRecursion ExpressionInGrammar (map (expression_form N last) es)
  arguments_in_grammar es h =
      arguments_ids_used (map (expression_form N last) es) (arguments_use own last d IsId IsId held es (arguments_use_ids es h))

  some_targets : (xs : List Name) (rs : List (RightSide Name)) → 0 < length xs → 0 < length rs
      → 0 < length (targets N last xs rs)
  some_targets (x ∷ xs) (r ∷ rs) h g =
      let here : List Name = map (λ k. copy_name k x) (all_rounds N last) in
      let others : List Name = targets N last xs rs in
      at_test (λ c. 0 < length (cond (not c) (here ++ others) (x ∷ others))) (is_declared x.text own) (λ e. omega arith) (λ e. omega arith)
  some_targets _ _ h g = absurd (omega arith)

  statement_in_grammar : (m : Mark Name) (c : Simple Name Name Name) (b k : Block Name Name Name) → SimpleInGrammar c
      → temporaries N.is_shared (one m c b) ≤ d → BlockInGrammar k → BlockInGrammar (statement N last c k)
  statement_in_grammar m (assign xs rs) b k w room h =
      drawing_in_grammar (draws N.is_shared xs rs)
      (one no_mark (assign (targets N last xs rs) (sides N last 0 xs rs)) k) (omega arith) (
        tt,
        assign_in_grammar (targets N last xs rs) (sides N last 0 xs rs) (some_targets xs rs w.0 w.2)
            (sides_even own last 0 xs rs)
            (targets_held own last d IsId IsId held xs rs (ids_each xs w.1))
            (sides_use own last d IsId IsId held 0 xs rs (ids_each xs w.1) (sides_use_ids rs w.3) (omega arith)),
        h,
      )
  statement_in_grammar m (assert r) b k w room h = (
    tt,
    side_in_grammar r w,
    tt,
    (tt, tt, tt),
    tt,
    (
      tt,
      assign_in_grammar (fresh_name (codes "bad__") ∷ fresh_name (codes "stop__") ∷ []) (value (const true) ∷ value (const true) ∷ [])
          (omega arith) refl (bad_id, (stop_id, tt)) tt,
      (tt, tt, tt),
    ),
    h,
  )
  statement_in_grammar m (assume r) b k w room h =
      (tt, side_in_grammar r w, h)
  statement_in_grammar m (goto l) b k w room h = (tt, w, h)
  statement_in_grammar m (leave_with e) b k w room h =
      (tt, ids_used (expression_form N last e) (expression_uses own last d IsId IsId held e (uses_ids e w)), h)
  statement_in_grammar m (call_for x q es) b k w room h =
      let taken : receiver_draws N.is_shared (Some x) ≤ d = omega arith in (
        tt,
        (receiver_held own last d IsId IsId held x w.0 taken, w.1, arguments_in_grammar es w.2),
        stop_test_in_grammar (cond (N.is_shared x) (received N last x k) k)
            (landing_has own last d IsId IsId held BlockInGrammar x k w.0 taken h
            (λ xs rs some even hx hr.
            prologue_in_grammar no_mark (one no_mark (assign xs rs) k) tt (tt, assign_in_grammar xs rs some even hx hr, h))),
      )
  statement_in_grammar m (call q es) b k w room h = (
    tt,
    (w.0, arguments_in_grammar es w.1),
    stop_test_in_grammar k h,
  )
  statement_in_grammar m _ b k w room h = (tt, tt, h)

  block_in_grammar : (b : Block Name Name Name) → BlockInGrammar b → temporaries N.is_shared b ≤ d
      → BlockInGrammar (put b)
  block_in_grammar done h room = tt
  block_in_grammar (one m c k) h room =
      prologue_in_grammar m (statement N last c (put k)) h.0
      (statement_in_grammar m c k (put k) h.1 room
      (block_in_grammar k h.2 (rest_room N.is_shared d m c k room)))
  block_in_grammar (choose m r a b k) h room =
      prologue_in_grammar m
      (choose no_mark (side N last r) (put a) (put b) (put k)) h.0 (
        tt,
        side_in_grammar r h.1,
        some_rewritten a h.2,
        block_in_grammar a h.3 (omega arith),
        some_rewritten b h.4,
        block_in_grammar b h.5 (omega arith),
        block_in_grammar k h.6 (omega arith),
      )
  block_in_grammar (loop m r a k) h room =
      prologue_in_grammar m
      (loop no_mark (side N last r) (join (put a) (prologue N last no_mark done)) (put k)) h.0 (
        tt,
        side_in_grammar r h.1,
        some_joined (put a) (prologue N last no_mark done) tt,
        join_in_grammar (put a) (prologue N last no_mark done) (block_in_grammar a h.3 (omega arith))
            (prologue_in_grammar no_mark done tt tt),
        block_in_grammar k h.4 (omega arith),
      )

procedures_in_grammar : (last : ℕ) → last < most_rounds → (ps : List Procedure) → AreFew ps →
    AllByRecursion ProcedureInGrammar ps → AllByRecursion ProcedureInGrammar (map (rewritten_procedure last) ps)
procedures_in_grammar last small [] few h = tt
procedures_in_grammar last small (p ∷ ps) few h =
    let own : List Name = p.formals ++ p.locals in
    let d : ℕ = procedure_needs p in (
      record {
        name = h.0.name;
        formals = h.0.formals;
        locals =
            each_ids (p.locals ++ map drawn_name (numbers 0 d))
            (each_both IsId p.locals (map drawn_name (numbers 0 d)) (ids_each p.locals h.0.locals)
            (numbered_each IsId drawn_name d (λ j lt. drawn_id j (omega (arith, few.0))) 0 d (omega arith)));
        some = some_rewritten own last d small few.0 p.body h.0.some;
        body = block_in_grammar own last d small few.0 p.body h.0.body (omega arith);
      },
      procedures_in_grammar last small ps few.1 h.1,
    )

-- the globals, and the first procedure
module _ (last : ℕ) (small : last < most_rounds) where
  rows_ids : (write : ℕ → Name → Name) → ((k : ℕ) (x : Name) → k < most_rounds → IsId x → IsId (write k x)) →
      (xs : List Name) → AllByRecursion IsId xs → (j m : ℕ) → j + m ≤ most_rounds
      → AllByRecursion IsId (copied (by_names []) last write xs (numbers j m))
  rows_ids write f xs h j zero le = tt
  rows_ids write f xs h j (suc m) le =
      each_both IsId (map (write j) xs) (copied (by_names []) last write xs (numbers (suc j) m))
      (written_each IsId IsId (write j) xs (λ x i. f j x (omega arith) i) h) (rows_ids write f xs h (suc j) m (omega arith))

  globals_ids : (xs : List Name) → AllByRecursion IsId xs → AllByRecursion IsId (globals (by_names []) last xs)
  globals_ids xs h =
      let A : List Name = copied (by_names []) last copy_name xs (numbers 0 (suc last)) in
      let B : List Name = copied (by_names []) last save_name xs (numbers 1 last) in
      let bits : List Name = reverse (bit_names (round_bits last)) in
      let lasts : List Name = fresh_name (codes "stop__") ∷ fresh_name (codes "bad__") ∷ [] in
      each_both IsId (A ++ B ++ bits) lasts
      (each_both IsId (A ++ B) bits
      (each_both IsId A B (rows_ids copy_name copy_id xs h 0 (suc last) (omega arith))
      (rows_ids save_name save_id xs h 1 last (omega arith)))
      (each_reversed IsId (bit_names (round_bits last)) (bit_ids (round_bits last))))
      (stop_id, (bad_id, tt))

  reads_ids : (k : ℕ) (xs : List Name) → k < most_rounds → AllByRecursion IsId xs →
      AllByRecursion IsId (variables_of_sides (map (λ y. value (var (copy_name k y))) xs))
  reads_ids k [] lt h = tt
  reads_ids k (x ∷ xs) lt h = (copy_id k x lt h.0, reads_ids k xs lt h.1)

  guess_in_grammar : (xs : List Name) (k : ℕ) (b : Block Name Name Name) → k < most_rounds → AllByRecursion IsId xs →
      BlockInGrammar b → BlockInGrammar (guess (by_names []) last xs k b)
  guess_in_grammar [] k b lt h g = g
  guess_in_grammar (x ∷ xs) k b lt h g =
      let written : (write : ℕ → Name → Name) → ((k : ℕ) (x : Name) → k < most_rounds → IsId x → IsId (write k x)) →
      AllByRecursion IsId (map (write k) (x ∷ xs)) =
      λ write f. written_each IsId IsId (write k) (x ∷ xs) (λ y i. f k y lt i) h in (
        tt,
        assign_in_grammar (map (copy_name k) (x ∷ xs)) (map (λ y. any) (x ∷ xs)) (omega arith) (simp length-map)
            (written copy_name copy_id) (any_uses IsId (x ∷ xs)),
        (
          tt,
          assign_in_grammar (map (save_name k) (x ∷ xs)) (map (λ y. value (var (copy_name k y))) (x ∷ xs)) (omega arith)
              (simp length-map)
              (written save_name save_id) (reads_ids k (x ∷ xs) lt h),
          g,
        ),
      )

  starts_in_grammar : (lines : List ThreadLine) (b : Block Name Name Name) → AllByRecursion ThreadInGrammar lines → BlockInGrammar b
      → BlockInGrammar (starts (by_names []) last (map (λ (line : ThreadLine). line.name) lines) b)
  starts_in_grammar [] b s g = g
  starts_in_grammar (line ∷ lines) b s g = (
    tt,
    assign_in_grammar (reset_targets (by_names []) last) (each (value (const false)) (reset_targets (by_names []) last))
        (let sum = length-append (reverse (bit_names (round_bits last))) (fresh_name (codes "stop__") ∷ []) in omega (arith, sum))
        (simp length-map)
        (each_both IsId (reverse (bit_names (round_bits last))) (fresh_name (codes "stop__") ∷ [])
        (each_reversed IsId (bit_names (round_bits last)) (bit_ids (round_bits last))) (stop_id, tt))
        (zeros_use IsId (reset_targets (by_names []) last)),
    (tt, (s.0, tt), starts_in_grammar lines b s.1 g),
  )

  check_in_grammar : (xs : List Name) (k : ℕ) (b : Block Name Name Name) → suc k < most_rounds → AllByRecursion IsId xs →
      BlockInGrammar b → BlockInGrammar (check (by_names []) last xs k b)
  check_in_grammar [] k b lt h g = g
  check_in_grammar (x ∷ xs) k b lt h g = (tt, (save_id (suc k) x lt h.0, copy_id k x (omega arith) h.0), check_in_grammar xs k b lt h.1 g)

  -- `main__` has a statement
  some_guess : (xs : List Name) (k : ℕ) (b : Block Name Name Name) → IsSome b → IsSome (guess (by_names []) last xs k b)
  some_guess [] k b h = h
  some_guess (x ∷ xs) k b h = tt

  some_starts : (lines : List ThreadLine) (b : Block Name Name Name) → 0 < length lines
      → IsSome (starts (by_names []) last (map (λ (line : ThreadLine). line.name) lines) b)
  some_starts [] b lt = absurd (omega arith)
  some_starts (line ∷ lines) b lt = tt

  main_in_grammar : (t : Tree) → InGrammar t → ProcedureInGrammar (main_procedure last t)
  main_in_grammar t h =
      let ids : AllByRecursion IsId t.globals = ids_each t.globals h.globals in
      let last_part : Block Name Name Name = checks (by_names []) last t.globals (numbers 0 last) done in
      let second : Block Name Name Name = starts (by_names []) last (map (λ (line : ThreadLine). line.name) t.threads) last_part in
      record {
        name = main_id;
        formals = tt;
        locals = tt;
        some =
            keep (guesses (by_names []) last t.globals) (guess (by_names []) last t.globals) (λ b. refl) (λ k ks b. refl) IsSome
            (some_guess t.globals) (numbers 1 last) second (some_starts t.threads last_part h.some_thread);
        body =
            keep_below (guesses (by_names []) last t.globals) (guess (by_names []) last t.globals) (λ b. refl) (λ k ks b. refl)
            BlockInGrammar most_rounds (λ k b lt. guess_in_grammar t.globals k b lt ids) 1 last (omega arith) second
            (starts_in_grammar t.threads last_part h.threads
            (keep_below (checks (by_names []) last t.globals) (check (by_names []) last t.globals) (λ b. refl) (λ k ks b. refl)
            BlockInGrammar last (λ k b lt. check_in_grammar t.globals k b (omega arith) ids) 0 last (omega arith) done tt));
      }

-- the rewritten tree is one of the grammar
pub rewritten_in_grammar : (t : Tree) (last : ℕ) → last < most_rounds → IsNarrow last t → InGrammar t
    → InGrammar (rewritten_tree last t)
rewritten_in_grammar t last small narrow h =
    let n : ℕ = global_count (length t.globals) last in
    let few : AreFew t.procedures = few_needs n t.procedures (narrow_procedures t last n refl narrow) in
    record {
      globals = each_ids (globals (by_names []) last t.globals) (globals_ids last small t.globals (ids_each t.globals h.globals));
      some_procedure = omega arith;
      procedures = (main_in_grammar last small t h, procedures_in_grammar last small t.procedures few h.procedures);
      some_thread = omega arith;
      threads = (main_id, tt);
    }
