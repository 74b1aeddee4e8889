-- What a tree that resolves means is complete, also with its statements numbered.
use Rattle.std.proofs.Common.{◌≡◌, ℕ, suc, ◌+◌, ◌≤◌, ◌||◌, Bool, true, false, cond, List, [], ◌∷◌, ◌++◌}
use Rattle.std.proofs.Common.{length, map, Option, Some, None, option_map, slice_get, sym, ◌∙◌, ap, subst, arith, length-append}
use Rattle.std.proofs.lemmas.List.{length-map}
use Rattle.std.proofs.lemmas.Bool.{or_left, or_right}
use Rattle.std.proofs.lemmas.Option.{slice_get-map}
use Rattle.language.specs.Tree.{Name, Expression, const, var, negation, two, RightSide, any, value, Simple, Mark, Block}
use Rattle.language.specs.Tree.{done, one, choose, loop, Procedure, ThreadLine, Tree}
use Rattle.language.specs.Value.{Place, global, local}
use Rattle.language.specs.Rest.{Label, Code, has_label, first_of_two, join, rest_from}
use Rattle.language.specs.Step.{Routine, AtRoutine, AtRest}
use Rattle.language.specs.Resolve.{number_of, Scope, place_of, scope_of, resolve_expression, resolve_side}
use Rattle.language.specs.Resolve.{resolve_simple, resolve_block, gives_value, routine_of, meaning_of}
use Rattle.language.specs.Sequential.{statements, marked, numbered, numbered_routine, sequential_of}
use Rattle.language.specs.Parts.{plain, assigns, targets_of, sides_of, test_of, arguments_of, callee_of, gives, jump_of}
use Rattle.resolved.specs.There.{IsThere, names}
use Rattle.resolved.specs.Statements.{statements_of, variables_of, variables_of_side, variables_of_sides}
use Rattle.resolved.specs.Statements.{variables_of_test, variables_of_all}
use Rattle.resolved.specs.Resolves.{IsPlaceIn, StatementResolves, Resolves}
use Rattle.resolved.proofs.Each.{each_left, each_right}
use Rattle.resolved.proofs.Parts.{parts_resolve}
use Rattle.std.specs.Prelude.{IfSome}
use Rattle.std.specs.List.{AllByRecursion}
use Rattle.resolved.specs.Scoped.{PlaceInScope, InScope, AreInScope, SideInScope, SidesInScope, PlacesInScope}
use Rattle.resolved.specs.Scoped.{Throughout, EachThread}
use Rattle.resolved.specs.Complete.{SimpleComplete, RoutineComplete, IsComplete}

module _ (t : Tree) (p : Procedure) where
  abbrev s : Scope
  s = scope_of t p

  abbrev n : ℕ
  n = length t.globals

  abbrev own : ℕ
  own = length (p.formals ++ p.locals)

  abbrev Placed : Name → Type 0
  Placed x = IsPlaceIn t p (place_of (scope_of t p) x)

  in_scope : (x : Place) → IsPlaceIn t p x → PlaceInScope n own x
  in_scope (global i) h = h
  in_scope (local i) h = h

  places_in_scope : (xs : List Name) → AllByRecursion Placed xs → PlacesInScope n own (map (place_of s) xs)
  places_in_scope [] h = tt
  places_in_scope (x ∷ xs) h = (in_scope (place_of s x) h.0, places_in_scope xs h.1)

  expression_in_scope : (e : Expression Name) → AllByRecursion Placed (variables_of e) → InScope n own (resolve_expression s e)
  expression_in_scope (const b) h = tt
  expression_in_scope (var x) h = in_scope (place_of s x) h.0
  expression_in_scope (negation e) h = expression_in_scope e h
  expression_in_scope (two o a b) h =
      (expression_in_scope a (each_left _ (variables_of a) _ h), expression_in_scope b (each_right _ (variables_of a) _ h))

  arguments_in_scope : (es : List (Expression Name)) → AllByRecursion Placed (variables_of_all es)
      → AreInScope n own (map (resolve_expression s) es)
  arguments_in_scope [] h = tt
  arguments_in_scope (e ∷ es) h =
      (expression_in_scope e (each_left _ (variables_of e) _ h), arguments_in_scope es (each_right _ (variables_of e) _ h))

  side_in_scope : (r : RightSide Name) → AllByRecursion Placed (variables_of_side r) → SideInScope n own (resolve_side s r)
  side_in_scope any h = tt
  side_in_scope (value e) h = expression_in_scope e h

  sides_in_scope : (rs : List (RightSide Name)) → AllByRecursion Placed (variables_of_sides rs)
      → SidesInScope n own (map (resolve_side s) rs)
  sides_in_scope [] h = tt
  sides_in_scope (r ∷ rs) h =
      (side_in_scope r (each_left _ (variables_of_side r) _ h), sides_in_scope rs (each_right _ (variables_of_side r) _ h))

  room : (o : Option Procedure) (es : List (Expression Name)) → IsThere o (λ r. length r.formals ≡ length es)
      → AtRoutine (option_map (routine_of t) o) (λ r. length (map (resolve_expression s) es) ≤ r.places)
  room None es h = absurd h
  room (Some r) es h =
      let e : length (r.formals ++ r.locals) ≡ length r.formals + length r.locals = length-append r.formals r.locals in
      let k : length (map (resolve_expression s) es) ≡ length es = length-map es (resolve_expression s) in
      omega (arith, e, k, h)

  test_in_scope : (o : Option (RightSide Name)) → AllByRecursion Placed (variables_of_test o)
      → IfSome (option_map (resolve_side s) o) (SideInScope n own)
  test_in_scope None h = tt
  test_in_scope (Some r) h = side_in_scope r h

  callee_there : (o : Option Name) (es : List (Expression Name))
      → IfSome o (λ q. IsThere (slice_get t.procedures (number_of q.text (names t.procedures))) (λ r. length r.formals ≡ length es))
      → IfSome (option_map (λ (q : Name). number_of q.text s.procedures) o)
      (λ q. AtRoutine (slice_get (meaning_of t).routines q) (λ r. length (map (resolve_expression s) es) ≤ r.places))
  callee_there None es h = tt
  callee_there (Some q) es h =
      subst (λ o. AtRoutine o (λ r. length (map (resolve_expression s) es) ≤ r.places))
      (sym (slice_get-map (routine_of t) t.procedures (number_of q.text (names t.procedures))))
      (room (slice_get t.procedures (number_of q.text (names t.procedures))) es h)

  label_there : (o : Option Name) (P : Label → Type 0) → IfSome o (λ l. P l.text) → IfSome (option_map (λ (l : Name). l.text) o) P
  label_there None P h = tt
  label_there (Some l) P h = h

  simple_complete : (m : Mark Name) (c : Simple Name Name Name) → StatementResolves t p (record { mark = m; head = plain c })
      → (gives (plain c) ≡ true → gives_value p.body ≡ true)
      → SimpleComplete (meaning_of t).routines n (routine_of t p) (resolve_simple s c)
  simple_complete m c h within =
      let xs = targets_of (plain c) in
      let rs = sides_of (plain c) in
      let test = test_of (plain c) in
      let es = arguments_of (plain c) in
      let parts = parts_resolve s c in
      let of_sides = each_right Placed xs (variables_of_sides rs ++ (variables_of_test test ++ variables_of_all es)) h.variables in
      let of_test = each_right Placed (variables_of_sides rs) (variables_of_test test ++ variables_of_all es) of_sides in
      let has_sides = λ (is : assigns (plain (resolve_simple s c)) ≡ true).
      length-map xs (place_of s) ∙ (h.sides (sym parts.assigns ∙ is) ∙ sym (length-map rs (resolve_side s))) in
      record {
        scope = record {
          targets = rw parts.targets (places_in_scope xs (each_left Placed xs _ h.variables));
          sides = rw parts.sides (sides_in_scope rs (each_left Placed (variables_of_sides rs) _ of_sides));
          test = rw parts.test (test_in_scope test (each_left Placed (variables_of_test test) _ of_test));
          arguments = rw parts.arguments (arguments_in_scope es (each_right Placed (variables_of_test test) _ of_test));
          callee = rw (parts.callee, parts.arguments) (callee_there (callee_of (plain c)) es h.target.0);
        };
        sides = λ is. ap length parts.targets ∙ (has_sides is ∙ sym (ap length parts.sides));
        jump = rw parts.jump (label_there (jump_of (plain c)) _ h.target.1);
        gives = λ is. within (sym parts.gives ∙ is);
      }

  abbrev Complete : Code → Type 0
  Complete b = Throughout (SimpleComplete (meaning_of t).routines n (routine_of t p)) (SideInScope n own) b

  -- if the block gives a value, the procedure does
  abbrev GivesWithin : Block Name Name Name → Type 0
  GivesWithin b = gives_value b ≡ true → gives_value p.body ≡ true

  block_complete : (b : Block Name Name Name) → AllByRecursion (StatementResolves t p) (statements_of b) → GivesWithin b
      → Complete (resolve_block s b)
  block_complete done h within = tt
  block_complete (one m c k) h within = (
    simple_complete m c h.0 (λ is. within (or_left (gives (plain c)) (gives_value k) is)),
    block_complete k h.1 (λ is. within (or_right (gives (plain c)) (gives_value k) is)),
  )
  block_complete (choose m r a b k) h within =
      let rest = each_right _ (statements_of a) _ h.1 in (
        side_in_scope r (each_left _ (variables_of_side r) _ h.0.variables),
        block_complete a (each_left _ (statements_of a) _ h.1)
            (λ is. within (or_left (gives_value a) (gives_value b || gives_value k) is)),
        block_complete b (each_left _ (statements_of b) _ rest)
            (λ is. within (or_right (gives_value a) (gives_value b || gives_value k) (or_left (gives_value b) (gives_value k) is))),
        block_complete k (each_right _ (statements_of b) _ rest)
            (λ is. within (or_right (gives_value a) (gives_value b || gives_value k) (or_right (gives_value b) (gives_value k) is))),
      )
  block_complete (loop m r a k) h within = (
    side_in_scope r (each_left _ (variables_of_side r) _ h.0.variables),
    block_complete a (each_left _ (statements_of a) _ h.1) (λ is. within (or_left (gives_value a) (gives_value k) is)),
    block_complete k (each_right _ (statements_of a) _ h.1) (λ is. within (or_right (gives_value a) (gives_value k) is)),
  )

-- there is a rest
abbrev IsRest : Option Code → Type 0
IsRest o = AtRest o (λ rest. Unit {0})

here_or_on : (c : Bool) (a b a' b' : Option Code) → IsRest a' → (IsRest b → IsRest b') → IsRest (cond c a b) → IsRest (cond c a' b')
here_or_on true a b a' b' here on h = here
here_or_on false a b a' b' here on h = on h

one_of_two : (a b a' b' : Option Code) → (IsRest a → IsRest a') → (IsRest b → IsRest b') → IsRest (first_of_two a b)
    → IsRest (first_of_two a' b')
one_of_two (Some x) b None b' f g h = absurd (f tt)
one_of_two None b None b' f g h = g h
one_of_two a b (Some y) b' f g h = tt

-- numbers make no difference to what a jump finds
rest_numbered : (x : Label) (b : Code) (i : ℕ) (k k' : Code) → IsRest (rest_from x b k) → IsRest (rest_from x (numbered i b) k')
rest_numbered x done i k k' h = h
rest_numbered x (one m c t) i k k' h =
    here_or_on (has_label x m) _ (rest_from x t k) _ (rest_from x (numbered (suc i) t) k') tt (rest_numbered x t (suc i) k k') h
rest_numbered x (choose m r a b t) i k k' h =
    let b' : Code = numbered (suc i + statements a) b in
    let t' : Code = numbered (suc i + (statements a + statements b)) t in
    here_or_on (has_label x m) _ (first_of_two (rest_from x a (join t k)) (first_of_two (rest_from x b (join t k)) (rest_from x t k))) _
    (first_of_two (rest_from x (numbered (suc i) a) (join t' k')) (first_of_two (rest_from x b' (join t' k')) (rest_from x t' k'))) tt
    (one_of_two (rest_from x a (join t k)) (first_of_two (rest_from x b (join t k)) (rest_from x t k))
    (rest_from x (numbered (suc i) a) (join t' k')) (first_of_two (rest_from x b' (join t' k')) (rest_from x t' k'))
    (rest_numbered x a (suc i) (join t k) (join t' k'))
    (one_of_two (rest_from x b (join t k)) (rest_from x t k) (rest_from x b' (join t' k')) (rest_from x t' k')
    (rest_numbered x b (suc i + statements a) (join t k) (join t' k')) (rest_numbered x t (suc i + (statements a + statements b)) k k'))) h
rest_numbered x (loop m r a t) i k k' h =
    let t' : Code = numbered (suc i + statements a) t in
    let a' : Code = numbered (suc i) a in
    here_or_on (has_label x m) _ (first_of_two (rest_from x a (loop m r a (join t k))) (rest_from x t k)) _
    (first_of_two (rest_from x a' (loop (marked i m) r a' (join t' k'))) (rest_from x t' k')) tt
    (one_of_two (rest_from x a (loop m r a (join t k))) (rest_from x t k) (rest_from x a' (loop (marked i m) r a' (join t' k')))
    (rest_from x t' k')
    (rest_numbered x a (suc i) (loop m r a (join t k)) (loop (marked i m) r a' (join t' k')))
    (rest_numbered x t (suc i + statements a) k k')) h

places_numbered : (o : Option Routine) (m : ℕ) → AtRoutine o (λ r. m ≤ r.places)
    → AtRoutine (option_map numbered_routine o) (λ r. m ≤ r.places)
places_numbered None m h = h
places_numbered (Some r) m h = h

callee_numbered : (rs : List Routine) (m : ℕ) (o : Option ℕ) → IfSome o (λ q. AtRoutine (slice_get rs q) (λ s. m ≤ s.places))
    → IfSome o (λ q. AtRoutine (slice_get (map numbered_routine rs) q) (λ s. m ≤ s.places))
callee_numbered rs m None h = tt
callee_numbered rs m (Some q) h =
    subst (λ o. AtRoutine o (λ s. m ≤ s.places)) (sym (slice_get-map numbered_routine rs q)) (places_numbered (slice_get rs q) m h)

label_numbered : (r : Routine) (o : Option Label) → IfSome o (λ x. IsRest (rest_from x r.body done))
    → IfSome o (λ x. IsRest (rest_from x (numbered 1 r.body) done))
label_numbered r None h = tt
label_numbered r (Some x) h = rest_numbered x r.body 1 done done h

-- numbers make no difference to what is complete
simple_numbered : (rs : List Routine) (n : ℕ) (r : Routine) (c : Simple Place ℕ Label) → SimpleComplete rs n r c
    → SimpleComplete (map numbered_routine rs) n (numbered_routine r) c
simple_numbered rs n r c h = record {
  scope = record {
    targets = h.scope.targets;
    sides = h.scope.sides;
    test = h.scope.test;
    arguments = h.scope.arguments;
    callee = callee_numbered rs (length (arguments_of (plain c))) (callee_of (plain c)) h.scope.callee;
  };
  sides = h.sides;
  jump = label_numbered r (jump_of (plain c)) h.jump;
  gives = h.gives;
}

block_numbered : (rs : List Routine) (n : ℕ) (r : Routine) (b : Code) (i : ℕ)
    → Throughout (SimpleComplete rs n r) (SideInScope n r.places) b
    → Throughout (SimpleComplete (map numbered_routine rs) n (numbered_routine r)) (SideInScope n r.places) (numbered i b)
block_numbered rs n r done i h = tt
block_numbered rs n r (one m c t) i h = (simple_numbered rs n r c h.0, block_numbered rs n r t (suc i) h.1)
block_numbered rs n r (choose m s a b t) i h = (
  h.0,
  block_numbered rs n r a (suc i) h.1,
  block_numbered rs n r b (suc i + statements a) h.2,
  block_numbered rs n r t
      (suc i + (statements a + statements b)) h.3,
)
block_numbered rs n r (loop m s a t) i h = (h.0, block_numbered rs n r a (suc i) h.1, block_numbered rs n r t (suc i + statements a) h.2)

module _ (t : Tree) where
  abbrev all : List Routine
  all = (meaning_of t).routines

  routines_complete : (ps : List Procedure)
      → AllByRecursion (λ (p : Procedure). AllByRecursion (StatementResolves t p) (statements_of p.body)) ps
      → AllByRecursion (RoutineComplete (map numbered_routine (meaning_of t).routines) (length t.globals))
      (map numbered_routine (map (routine_of t) ps))
  routines_complete [] h = tt
  routines_complete (p ∷ ps) h = (
    block_numbered (meaning_of t).routines (length t.globals) (routine_of t p) (resolve_block (scope_of t p) p.body) 1
        (block_complete t p p.body h.0 (λ is. is)),
    routines_complete ps h.1,
  )

  start_there : (o : Option Procedure) → IsThere o (λ r. length r.formals ≡ 0)
      → AtRoutine (option_map numbered_routine (option_map (routine_of t) o)) (λ r. Unit {0})
  start_there None h = h
  start_there (Some r) h = tt

  threads_there : (lines : List ThreadLine) → AllByRecursion
      (λ (line : ThreadLine). IsThere (slice_get t.procedures (number_of line.name.text (names t.procedures)))
      (λ r. length r.formals ≡ 0)) lines → EachThread (map numbered_routine (meaning_of t).routines)
      (map (λ (line : ThreadLine). number_of line.name.text (names t.procedures)) lines)
  threads_there [] h = tt
  threads_there (line ∷ lines) h =
      let k : ℕ = number_of line.name.text (names t.procedures) in (
        subst (λ o. AtRoutine o (λ r. Unit {0})) (sym (slice_get-map numbered_routine (map (routine_of t) t.procedures) k))
            (subst (λ o. AtRoutine (option_map numbered_routine o) (λ r. Unit {0})) (sym (slice_get-map (routine_of t) t.procedures k))
            (start_there (slice_get t.procedures k) h.0)),
        threads_there lines h.1,
      )

-- what a tree that resolves means as a sequential program is complete
pub resolving_complete : (t : Tree) → Resolves t → IsComplete (sequential_of t)
resolving_complete t h = record { routines = routines_complete t t.procedures h.statements; threads = threads_there t t.threads h.threads }
