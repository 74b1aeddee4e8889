-- The rewritten block by names, resolved, is the rewritten block by places of the resolved block.
use Rattle.std.proofs.Common.{◌≡◌, ℕ, zero, suc, ◌+◌, ◌/◌, ◌%◌, ◌<◌, ◌≤◌, max, Bool, true, false, cond, not, List, [], ◌∷◌, ◌++◌, Some}
use Rattle.std.proofs.Common.{length, map, reverse, codes, refl, ◌∙◌, ap, subst, ap₂, arith}
use Rattle.std.proofs.lemmas.List.{map-append}
use Rattle.language.specs.Tree.{Name, Expression, const, var, negation, two, or, and, xor, RightSide, any, value, Simple, skip, assign}
use Rattle.language.specs.Tree.{assert, assume, leave, call, leave_with, call_for, Mark, Block, done, one, choose, loop, Tree}
use Rattle.language.specs.Value.{Place, global, local}
use Rattle.language.specs.Rest.{Label, join}
use Rattle.language.specs.Resolve.{number_of, is_declared, Scope, place_of, resolve_expression, resolve_side, resolve_simple, resolve_mark}
use Rattle.language.specs.Resolve.{resolve_block}
use Rattle.language.proofs.TestLemmas.{at_test}
use Rattle.round_rewrite.specs.Table.{Naming, numbers, no_mark, literal, has_value, added, raised, each, reset_targets, in_round}
use Rattle.round_rewrite.specs.Table.{read_by_round, read, expression_form, side, copy_value, all_rounds, targets, sides, draws}
use Rattle.round_rewrite.specs.Table.{receiver_draws, temporaries, drawing, stop_test, prologue, received, receiver, statement, rewritten}
use Rattle.round_rewrite.specs.Table.{draws_of}
use Rattle.round_rewrite.specs.Places.{places, is_global, copy_at, stop_at, bad_at}
use Rattle.round_rewrite.specs.Names.{fresh_name, copy_name, drawn_name, by_names}
use Rattle.checked.specs.Rewritable.{Declared, AllDeclared, ExpressionDeclared, ExpressionsDeclared, SideDeclared, SidesDeclared}
use Rattle.checked.specs.Rewritable.{SimpleDeclared, BlockDeclared}
use Rattle.round_rewrite.proofs.RoundBitLemmas.{map-reversed}
use Rattle.round_rewrite.proofs.PlaceLemmas.{Vocabulary, scope, wider, copy_place, kept_place, drawn_place, bits_placed, stop_place}
use Rattle.round_rewrite.proofs.PlaceLemmas.{bad_place}
use Rattle.language.specs.Parts as parts

-- what comes after a statement needs no more temporaries than both
pub rest_room : {V P L : Type 0} (is_shared : V → Bool) (d : ℕ) (m : Mark L) (c : Simple V P L) (k : Block V P L)
    → temporaries is_shared (one m c k) ≤ d → temporaries is_shared k ≤ d
rest_room is_shared d m c k h = omega arith

resolve-join : (s : Scope) (a b : Block Name Name Name) → resolve_block s (join a b) ≡ join (resolve_block s a) (resolve_block s b)
resolve-join s done b = refl
resolve-join s (one m c t) b = ap (one (resolve_mark m) (resolve_simple s c)) (resolve-join s t b)
resolve-join s (choose m r x y t) b =
    ap (choose (resolve_mark m) (resolve_side s r) (resolve_block s x) (resolve_block s y)) (resolve-join s t b)
resolve-join s (loop m r x t) b = ap (loop (resolve_mark m) (resolve_side s r) (resolve_block s x)) (resolve-join s t b)

literal_resolved : (s : Scope) (m : ℕ) (x : Name) → resolve_expression s (literal m x) ≡ literal m (place_of s x)
literal_resolved s zero x = refl
literal_resolved s (suc m) x = refl

value_resolved : (s : Scope) (k : ℕ) (xs : List Name) → resolve_expression s (has_value k xs) ≡ has_value k (map (place_of s) xs)
value_resolved s k [] = refl
value_resolved s k (x ∷ []) = literal_resolved s (k % 2) x
value_resolved s k (x ∷ y ∷ xs) = λ i. two and (value_resolved s (k / 2) (y ∷ xs) i) (literal_resolved s (k % 2) x i)

added_resolved : (s : Scope) (carry : Expression Name) (xs : List Name)
    → map (resolve_side s) (added carry xs) ≡ added (resolve_expression s carry) (map (place_of s) xs)
added_resolved s carry [] = refl
added_resolved s carry (x ∷ xs) =
    ap (λ rs. value (two xor (var (place_of s x)) (resolve_expression s carry)) ∷ rs) (added_resolved s (two and (var x) carry) xs)

raised_resolved : (s : Scope) (xs : List Name) → map (resolve_side s) (raised xs) ≡ raised (map (place_of s) xs)
raised_resolved s [] = refl
raised_resolved s (x ∷ xs) = ap (λ rs. value (negation (var (place_of s x))) ∷ rs) (added_resolved s (var x) xs)

pub zeros_resolved : (s : Scope) (xs : List Name)
    → map (resolve_side s) (each (value (const false)) xs) ≡ each (value (const false)) (map (place_of s) xs)
zeros_resolved s [] = refl
zeros_resolved s (x ∷ xs) = ap (λ rs. value (const false) ∷ rs) (zeros_resolved s xs)

module _ (t : Tree) (vocabulary : Vocabulary) (ps' : List Name)
    (called : (q : Name) → is_declared q.text vocabulary.ps ≡ true
    → number_of q.text ps' ≡ suc (number_of q.text vocabulary.ps)) where
  open vocabulary use {gs, own, ps, d, last, gs_free, own_free, few, small}

  abbrev pub s : Scope
  s = scope vocabulary

  abbrev pub s' : Scope
  s' = wider vocabulary ps'

  abbrev pub N : Naming Name Name Name Name
  N = by_names own

  abbrev pub P : Naming Place Place ℕ ℕ
  P = places (length gs) last (length own)

  bits : map (place_of s') (N.bits last) ≡ P.bits last
  bits = bits_placed vocabulary ps'

  -- the bits, the highest first
  bits_down : map (place_of s') (reverse (N.bits last)) ≡ reverse (P.bits last)
  bits_down = map-reversed (place_of s') (N.bits last) ∙ ap reverse bits

  st : place_of s' (fresh_name (codes "stop__")) ≡ global (stop_at (length gs) last)
  st = stop_place vocabulary ps'

  bd : place_of s' (fresh_name (codes "bad__")) ≡ global (bad_at (length gs) last)
  bd = bad_place vocabulary ps'

  -- the place of a variable, by whether a formal or local has its name
  abbrev place : Name → Bool → Place
  place x c = cond c (local (number_of x.text own)) (global (number_of x.text gs))

  copied_place : (x : Name) → Declared s x → is_declared x.text own ≡ false → (k : ℕ) → k ≤ last
      → place_of s' (copy_name k x) ≡ copy_at (length gs) k (place_of s x)
  copied_place x h hidden k le = copy_place vocabulary ps' x k le hidden (h hidden)

  pub at_resolved : (k : ℕ) → resolve_expression s' (in_round N last k) ≡ in_round P last k
  at_resolved k = value_resolved s' k (N.bits last) ∙ ap (has_value k) bits

  -- what the prologue writes when it rises
  rise_resolved : map (resolve_side s') (reverse (raised (N.bits last))) ≡ reverse (raised (P.bits last))
  rise_resolved = map-reversed (resolve_side s') (raised (N.bits last)) ∙ ap reverse (raised_resolved s' (N.bits last) ∙ ap raised bits)

  -- what is set to 0 before a thread starts
  pub reset_resolved : map (place_of s') (reset_targets N last) ≡ reset_targets P last
  reset_resolved =
      map-append (place_of s') (reverse (N.bits last)) (fresh_name (codes "stop__") ∷ []) ∙ (λ i. bits_down i ++ st i ∷ [])

  joined_resolved : (x : Name) → Declared s x → is_declared x.text own ≡ false → (k : ℕ) → k ≤ last
      → resolve_expression s' (read_by_round N last k x) ≡ read_by_round P last k (place_of s x)
  joined_resolved x h hidden zero le = λ i. two and (at_resolved 0 i) (var (copied_place x h hidden 0 le i))
  joined_resolved x h hidden (suc k) le =
      λ i.
      two or (joined_resolved x h hidden k (omega arith) i)
      (two and (at_resolved (suc k) i) (var (copied_place x h hidden (suc k) le i)))

  read_resolved : (x : Name) → Declared s x → resolve_expression s' (read N last x) ≡ read P last (place_of s x)
  read_resolved x h =
      at_test (λ c. resolve_expression s' (cond (not c) (read_by_round N last last x) (var x)) ≡ read P last (place x c))
      (is_declared x.text own) (λ e. ap var (kept_place vocabulary ps' x e ∙ ap (place x) e))
      (λ e. joined_resolved x h e last (omega arith) ∙ ap (λ c. read_by_round P last last (place x c)) e)

  expression_resolved : (e : Expression Name) → ExpressionDeclared s e
      → resolve_expression s' (expression_form N last e) ≡ expression_form P last (resolve_expression s e)
  expression_resolved (const b) h = refl
  expression_resolved (var x) h = read_resolved x h
  expression_resolved (negation e) h = ap negation (expression_resolved e h)
  expression_resolved (two o a b) h = ap₂ (two o) (expression_resolved a h.0) (expression_resolved b h.1)

  expressions_resolved : (es : List (Expression Name)) → ExpressionsDeclared s es
      → map (resolve_expression s') (map (expression_form N last) es) ≡ map (expression_form P last) (map (resolve_expression s) es)
  expressions_resolved [] h = refl
  expressions_resolved (e ∷ es) h = ap₂ (λ x y. x ∷ y) (expression_resolved e h.0) (expressions_resolved es h.1)

  side_resolved : (r : RightSide Name) → SideDeclared s r → resolve_side s' (side N last r) ≡ side P last (resolve_side s r)
  side_resolved any h = refl
  side_resolved (value e) h = ap value (expression_resolved e h)

  written_resolved : (x : Name) → Declared s x → is_declared x.text own ≡ false → (e : Expression Name) (e' : Expression Place)
      → resolve_expression s' e ≡ e' → (j m : ℕ) → j + m ≤ suc last
      → map (resolve_side s') (map (copy_value N last e x) (numbers j m)) ≡ map (copy_value P last e' (place_of s x)) (numbers j m)
  written_resolved x h hidden e e' ee j zero le = refl
  written_resolved x h hidden e e' ee j (suc m) le =
      λ i.
      value
      (two or (two and (at_resolved j i) (ee i))
      (two and (negation (at_resolved j i)) (var (copied_place x h hidden j (omega arith) i))))
      ∷ written_resolved x h hidden e e' ee (suc j) m (omega arith) i

  copies_resolved : (x : Name) → Declared s x → is_declared x.text own ≡ false → (j m : ℕ) → j + m ≤ suc last
      → map (place_of s') (map (λ k. copy_name k x) (numbers j m)) ≡ map (λ k. copy_at (length gs) k (place_of s x)) (numbers j m)
  copies_resolved x h hidden j zero le = refl
  copies_resolved x h hidden j (suc m) le =
      λ i. copied_place x h hidden j (omega arith) i ∷ copies_resolved x h hidden (suc j) m (omega arith) i

  shared_is : (x : Name) → not (is_declared x.text own) ≡ is_global (place_of s x)
  shared_is x = at_test (λ c. not c ≡ is_global (place x c)) (is_declared x.text own) (λ e. refl) (λ e. refl)

  targets_resolved : (xs : List Name) (rs : List (RightSide Name)) → AllDeclared s xs
      → map (place_of s') (targets N last xs rs) ≡ targets P last (map (place_of s) xs) (map (resolve_side s) rs)
  targets_resolved (x ∷ xs) (r ∷ rs) h =
      let ih = targets_resolved xs rs h.1 in
      let more : List Name = targets N last xs rs in
      let others : List Place = targets P last (map (place_of s) xs) (map (resolve_side s) rs) in
      let here : List Name = map (λ k. copy_name k x) (all_rounds N last) in
      let there : Bool → List Place = λ c. map (λ k. copy_at (length gs) k (place x c)) (all_rounds P last) in
      at_test
      (λ c. map (place_of s') (cond (not c) (here ++ more) (x ∷ more))
      ≡ cond (is_global (place x c)) (there c ++ others) (place x c ∷ others))
      (is_declared x.text own) (λ e. ap₂ (λ a b. a ∷ b) (kept_place vocabulary ps' x e ∙ ap (place x) e) ih)
      (λ e. map-append (place_of s') here more ∙ ap₂ (λ a b. a ++ b) (copies_resolved x h.0 e 0 (suc last) (omega arith) ∙ ap there e) ih)
  targets_resolved _ _ h = refl

  drawn_resolved : (j : ℕ) → j < d → resolve_expression s' (var (drawn_name j)) ≡ var (local (length own + j))
  drawn_resolved j lt = ap var (drawn_place vocabulary ps' j lt)

  -- the right sides for a variable that gets the value of an expression, before others: one for each copy of a global
  spread_resolved : (x : Name) → Declared s x → (e : Expression Name) (e' : Expression Place) (r : RightSide Name) (r' : RightSide Place)
      (shared kept : List (RightSide Name)) (shared' kept' : List (RightSide Place))
      → (is_declared x.text own ≡ false → (resolve_expression s' e ≡ e') × (map (resolve_side s') shared ≡ shared'))
      → (is_declared x.text own ≡ true → map (resolve_side s') (r ∷ kept) ≡ r' ∷ kept')
      → map (resolve_side s') (cond (N.is_shared x) (map (copy_value N last e x) (all_rounds N last) ++ shared) (r ∷ kept))
      ≡ cond (is_global (place_of s x)) (map (copy_value P last e' (place_of s x)) (all_rounds P last) ++ shared') (r' ∷ kept')
  spread_resolved x h e e' r r' shared kept shared' kept' over own_side =
      let here : List (RightSide Name) = map (copy_value N last e x) (all_rounds N last) in
      let there : Bool → List (RightSide Place) = λ c. map (copy_value P last e' (place x c)) (all_rounds P last) in
      at_test
      (λ c. map (resolve_side s') (cond (not c) (here ++ shared) (r ∷ kept))
      ≡ cond (is_global (place x c)) (there c ++ shared') (r' ∷ kept'))
      (is_declared x.text own) own_side
      (λ hidden. map-append (resolve_side s') here shared
      ∙ ap₂ (λ a b. a ++ b)
      (written_resolved x h hidden e e' (over hidden).0 0 (suc last) (omega arith) ∙ ap there hidden) (over hidden).1)

  sides_resolved : (j : ℕ) (xs : List Name) (rs : List (RightSide Name)) → AllDeclared s xs → SidesDeclared s rs
      → j + draws N.is_shared xs rs ≤ d
      → map (resolve_side s') (sides N last j xs rs) ≡ sides P last j (map (place_of s) xs) (map (resolve_side s) rs)
  sides_resolved j [] rs h hr room = refl
  sides_resolved j (x ∷ xs) [] h hr room = refl
  sides_resolved j (x ∷ xs) (any ∷ rs) h hr room =
      let drawn : ℕ = draws N.is_shared xs rs in
      spread_resolved x h.0 (var (drawn_name j)) (var (local (length own + j))) any any (sides N last (suc j) xs rs)
      (sides N last j xs rs) _ _
      (λ e.
      let more : j + suc drawn ≤ d = subst (λ c. j + cond (not c) (suc drawn) drawn ≤ d) e room in
      (drawn_resolved j (omega arith), sides_resolved (suc j) xs rs h.1 hr.1 (omega arith)))
      (λ e.
      let less : j + drawn ≤ d = subst (λ c. j + cond (not c) (suc drawn) drawn ≤ d) e room in
      ap (λ b. any ∷ b) (sides_resolved j xs rs h.1 hr.1 less))
  sides_resolved j (x ∷ xs) (value v ∷ rs) h hr room =
      let same = expression_resolved v hr.0 in
      let ih = sides_resolved j xs rs h.1 hr.1 room in
      spread_resolved x h.0 (expression_form N last v) (expression_form P last (resolve_expression s v)) (value (expression_form N last v))
      (value (expression_form P last (resolve_expression s v))) (sides N last j xs rs) (sides N last j xs rs) _ _
      (λ e. (same, ih)) (λ e. ap₂ (λ a b. value a ∷ b) same ih)

  draws_resolved : (xs : List Name) (rs : List (RightSide Name))
      → draws N.is_shared xs rs ≡ draws is_global (map (place_of s) xs) (map (resolve_side s) rs)
  draws_resolved (x ∷ xs) (any ∷ rs) = λ i. cond (shared_is x i) (suc (draws_resolved xs rs i)) (draws_resolved xs rs i)
  draws_resolved (x ∷ xs) (value v ∷ rs) = draws_resolved xs rs
  draws_resolved _ _ = refl

  draws_of_resolved : (c : Simple Name Name Name)
      → draws_of N.is_shared (parts.plain c) ≡ draws_of is_global (parts.plain (resolve_simple s c))
  draws_of_resolved (assign xs rs) = ap (max 0) (draws_resolved xs rs)
  draws_of_resolved (call_for x q es) = ap (λ c. max (cond c 1 0) 0) (shared_is x)
  draws_of_resolved _ = refl

  pub temporaries_resolved : (b : Block Name Name Name) → temporaries N.is_shared b ≡ temporaries is_global (resolve_block s b)
  temporaries_resolved done = refl
  temporaries_resolved (one m c k) = ap₂ max (draws_of_resolved c) (temporaries_resolved k)
  temporaries_resolved (choose m r a b k) = λ i. max (temporaries_resolved a i) (max (temporaries_resolved b i) (temporaries_resolved k i))
  temporaries_resolved (loop m r a k) = λ i. max (temporaries_resolved a i) (temporaries_resolved k i)

  drawn_all : (j m : ℕ) → j + m ≤ d
      → map (place_of s') (map drawn_name (numbers j m)) ≡ map (λ k. local (length own + k)) (numbers j m)
  drawn_all j zero le = refl
  drawn_all j (suc m) le =
      λ i. drawn_place vocabulary ps' j (omega arith) i ∷ drawn_all (suc j) m (omega arith) i

  any_all : (ks : List ℕ) → map (resolve_side s') (map (λ k. any) ks) ≡ map (λ k. any) ks
  any_all [] = refl
  any_all (k ∷ ks) = ap (λ z. any ∷ z) (any_all ks)

  drawing_resolved : (m : ℕ) (k : Block Name Name Name) → m ≤ d
      → resolve_block s' (drawing N last m k) ≡ drawing P last m (resolve_block s' k)
  drawing_resolved zero k le = refl
  drawing_resolved (suc m) k le =
      λ i. one no_mark (assign (drawn_all 0 (suc m) (omega arith) i) (any_all (numbers 0 (suc m)) i)) (resolve_block s' k)

  stop_resolved : (k : Block Name Name Name) → resolve_block s' (stop_test N last k) ≡ stop_test P last (resolve_block s' k)
  stop_resolved k = λ i. choose no_mark (value (var (st i))) (one no_mark leave done) (one no_mark skip done) (resolve_block s' k)

  prologue_resolved : (m : Mark Name) (k : Block Name Name Name)
      → resolve_block s' (prologue N last m k) ≡ prologue P last (resolve_mark m) (resolve_block s' k)
  prologue_resolved m k =
      λ i. loop (resolve_mark m) any
      (one no_mark (assume (value (negation (at_resolved last i))))
      (one no_mark (assign (bits_down i) (rise_resolved i)) done))
      (choose no_mark any (one no_mark (assign (st i ∷ []) (value (const true) ∷ [])) done) (one no_mark skip done)
      (choose no_mark (value (var (st i))) (one no_mark leave done) (one no_mark skip done) (resolve_block s' k)))

  received_resolved : (x : Name) → Declared s x → is_declared x.text own ≡ false → 1 ≤ d → (k : Block Name Name Name)
      → resolve_block s' (received N last x k) ≡ received P last (place_of s x) (resolve_block s' k)
  received_resolved x h hidden room k =
      prologue_resolved no_mark
      (one no_mark
      (assign (map (λ k. copy_name k x) (all_rounds N last)) (map (copy_value N last (var (drawn_name 0)) x) (all_rounds N last))) k)
      ∙ (λ i.
      prologue P last no_mark
      (one no_mark
      (assign (copies_resolved x h hidden 0 (suc last) (omega arith) i)
      (written_resolved x h hidden (var (drawn_name 0)) (var (local (length own + 0))) (drawn_resolved 0 (omega arith)) 0 (suc last)
      (omega arith) i))
      (resolve_block s' k)))

  -- a global that waits for a value takes a temporary
  shared_room : (x : Name) → is_declared x.text own ≡ false → receiver_draws N.is_shared (Some x) ≤ d → 1 ≤ d
  shared_room x e room = subst (λ c. cond (not c) 1 0 ≤ d) e room

  receiver_resolved : (x : Name) → receiver_draws N.is_shared (Some x) ≤ d
      → place_of s' (receiver N last x) ≡ receiver P last (place_of s x)
  receiver_resolved x room =
      at_test (λ c. place_of s' (cond (not c) (drawn_name 0) x) ≡ receiver P last (place x c)) (is_declared x.text own)
      (λ e. kept_place vocabulary ps' x e ∙ ap (place x) e)
      (λ e. drawn_place vocabulary ps' 0 (let k : 1 ≤ d = shared_room x e room in omega arith))

  landing_resolved : (x : Name) → Declared s x → receiver_draws N.is_shared (Some x) ≤ d → (k : Block Name Name Name)
      → resolve_block s' (cond (N.is_shared x) (received N last x k) k)
      ≡ cond (is_global (place_of s x)) (received P last (place_of s x) (resolve_block s' k)) (resolve_block s' k)
  landing_resolved x h room k =
      let k' : Block Place ℕ Label = resolve_block s' k in
      at_test
      (λ c. resolve_block s' (cond (not c) (received N last x k) k) ≡ cond (is_global (place x c)) (received P last (place x c) k') k')
      (is_declared x.text own) (λ e. refl)
      (λ e. received_resolved x h e (shared_room x e room) k ∙ ap (λ c. received P last (place x c) k') e)

  statement_resolved : (c : Simple Name Name Name) (k : Block Name Name Name) → SimpleDeclared t s c
      → draws_of N.is_shared (parts.plain c) ≤ d
      → resolve_block s' (statement N last c k) ≡ statement P last (resolve_simple s c) (resolve_block s' k)
  statement_resolved (assign xs rs) k h room =
      let few_draws : draws N.is_shared xs rs ≤ d = omega arith in
      drawing_resolved (draws N.is_shared xs rs) (one no_mark (assign (targets N last xs rs) (sides N last 0 xs rs)) k) few_draws
      ∙ (λ i.
      drawing P last (draws_resolved xs rs i)
      (one no_mark (assign (targets_resolved xs rs h.targets i) (sides_resolved 0 xs rs h.targets h.sides (omega arith) i))
      (resolve_block s' k)))
  statement_resolved (assert r) k h room =
      λ i. choose no_mark (side_resolved r h.test i) (one no_mark skip done)
      (one no_mark (assign (bd i ∷ st i ∷ []) (value (const true) ∷ value (const true) ∷ [])) (one no_mark leave done)) (resolve_block s' k)
  statement_resolved (assume r) k h room = λ i. one no_mark (assume (side_resolved r h.test i)) (resolve_block s' k)
  statement_resolved (call q es) k h room =
      λ i. one no_mark (call (called q h.callee.0 i) (expressions_resolved es h.arguments i)) (stop_resolved k i)
  statement_resolved (leave_with e) k h room =
      λ i. one no_mark (leave_with (expression_resolved e h.arguments.0 i)) (resolve_block s' k)
  statement_resolved (call_for x q es) k h room =
      let one_taken : receiver_draws N.is_shared (Some x) ≤ d = omega arith in
      λ i.
      one no_mark (call_for (receiver_resolved x one_taken i) (called q h.callee.0 i) (expressions_resolved es h.arguments i))
      ((stop_resolved (cond (N.is_shared x) (received N last x k) k)
      ∙ ap (stop_test P last) (landing_resolved x h.targets.0 one_taken k)) i)
  statement_resolved _ k h room = refl

  drawn_room : (m : Mark Name) (c : Simple Name Name Name) (k : Block Name Name Name) → temporaries N.is_shared (one m c k) ≤ d
      → draws_of N.is_shared (parts.plain c) ≤ d
  drawn_room m c k h = omega arith

  pub block_resolved : (b : Block Name Name Name) → BlockDeclared t s b → temporaries N.is_shared b ≤ d
      → resolve_block s' (rewritten N last b) ≡ rewritten P last (resolve_block s b)
  block_resolved done h room = refl
  block_resolved (one m c k) h room =
      prologue_resolved m (statement N last c (rewritten N last k))
      ∙ ap (prologue P last (resolve_mark m))
      (statement_resolved c (rewritten N last k) h.0 (drawn_room m c k room)
      ∙ ap (statement P last (resolve_simple s c)) (block_resolved k h.1 (rest_room N.is_shared d m c k room)))
  block_resolved (choose m r a b k) h room =
      prologue_resolved m (choose no_mark (side N last r) (rewritten N last a) (rewritten N last b) (rewritten N last k))
      ∙ (λ i.
      prologue P last (resolve_mark m)
      (choose no_mark (side_resolved r h.0 i) (block_resolved a h.1 (omega arith) i) (block_resolved b h.2 (omega arith) i)
      (block_resolved k h.3 (omega arith) i)))
  block_resolved (loop m r a k) h room =
      let inside : resolve_block s' (join (rewritten N last a) (prologue N last no_mark done)) ≡ join (rewritten P last (resolve_block s a))
      (prologue P last no_mark done) =
      resolve-join s' (rewritten N last a) (prologue N last no_mark done)
      ∙ ap₂ join (block_resolved a h.1 (omega arith)) (prologue_resolved no_mark done) in
      prologue_resolved m (loop no_mark (side N last r) (join (rewritten N last a) (prologue N last no_mark done)) (rewritten N last k))
      ∙ (λ i. prologue P last (resolve_mark m) (loop no_mark (side_resolved r h.0 i) (inside i) (block_resolved k h.2 (omega arith) i)))
