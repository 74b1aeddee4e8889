-- Which variables the parts of the rewritten statements use, where D is to hold for each of them and S holds for
-- those of the source.
use Rattle.std.proofs.Common.{◌≡◌, ℕ, zero, suc, ◌+◌, ◌/◌, ◌%◌, ◌≤◌, ◌<◌, true, false, cond, not, List, [], ◌∷◌, ◌++◌, Some, length, map}
use Rattle.std.proofs.Common.{reverse, codes, refl, sym, ◌∙◌, ap, subst, arith, length-append}
use Rattle.std.proofs.lemmas.List.{length-map, length-reverse}
use Rattle.std.specs.List.{AllByRecursion}
use Rattle.language.specs.Tree.{Name, Expression, const, var, negation, two, and, RightSide, any, value, assign, Block, one}
use Rattle.language.specs.Resolve.{is_declared}
use Rattle.resolved.specs.Statements.{variables_of, variables_of_side, variables_of_sides, variables_of_all}
use Rattle.language.proofs.TestLemmas.{at_test}
use Rattle.resolved.proofs.Each.{each_left, each_right}
use Rattle.round_rewrite.specs.Limits.{round_bits}
use Rattle.round_rewrite.specs.Table.{Naming, numbers, each, literal, has_value, added, raised, in_round, read_by_round, read}
use Rattle.round_rewrite.specs.Table.{expression_form, side, copy_value, all_rounds, targets, sides, draws, receiver_draws, no_mark}
use Rattle.round_rewrite.specs.Table.{prologue, received, receiver}
use Rattle.round_rewrite.specs.Names.{fresh_name, bit_names, copy_name, drawn_name, by_names}
use Rattle.round_rewrite.proofs.RoundBitLemmas.{reverse_first}

-- what holds for each of two lists holds for each of both
pub each_both : {X : Type 0} (P : X → Type 0) (xs ys : List X) → AllByRecursion P xs → AllByRecursion P ys → AllByRecursion P (xs ++ ys)
each_both P [] ys h g = g
each_both P (x ∷ xs) ys h g = (h.0, each_both P xs ys h.1 g)

-- the variables of right sides, of one list after another
pub sides_both : (D : Name → Type 0) (rs ss : List (RightSide Name)) → AllByRecursion D (variables_of_sides rs)
    → AllByRecursion D (variables_of_sides ss)
    → AllByRecursion D (variables_of_sides (rs ++ ss))
sides_both D [] ss h g = g
sides_both D (r ∷ rs) ss h g =
    each_both D (variables_of_side r) (variables_of_sides (rs ++ ss)) (each_left D (variables_of_side r) (variables_of_sides rs) h)
    (sides_both D rs ss (each_right D (variables_of_side r) (variables_of_sides rs) h) g)

-- `?` uses no variable
pub any_uses : {X : Type 0} (D : Name → Type 0) (xs : List X) → AllByRecursion D (variables_of_sides (map (λ x. any) xs))
any_uses D [] = tt
any_uses D (x ∷ xs) = any_uses D xs

-- what holds for each name that is written holds for each in the list of them
pub written_each : {X : Type 0} (D : Name → Type 0) (P : X → Type 0) (f : X → Name) (xs : List X) → ((x : X) → P x → D (f x))
    → AllByRecursion P xs
    → AllByRecursion D (map f xs)
written_each D P f [] g h = tt
written_each D P f (x ∷ xs) g h = (g x h.0, written_each D P f xs g h.1)

-- the names that are written for numbers, up to one
pub numbered_each : (D : Name → Type 0) (f : ℕ → Name) (d : ℕ) → ((j : ℕ) → j < d → D (f j)) → (j m : ℕ) → j + m ≤ d
    → AllByRecursion D (map f (numbers j m))
numbered_each D f d h j zero le = tt
numbered_each D f d h j (suc m) le = (h j (omega arith), numbered_each D f d h (suc j) m (omega arith))

-- the same in reverse
pub each_reversed : (D : Name → Type 0) (xs : List Name) → AllByRecursion D xs → AllByRecursion D (reverse xs)
each_reversed D [] h = tt
each_reversed D (x ∷ xs) h =
    subst (AllByRecursion D) (sym (reverse_first x xs)) (each_both D (reverse xs) (x ∷ []) (each_reversed D xs h.1) (h.0, tt))

sides_reversed : (D : Name → Type 0) (rs : List (RightSide Name)) → AllByRecursion D (variables_of_sides rs)
    → AllByRecursion D (variables_of_sides (reverse rs))
sides_reversed D [] h = tt
sides_reversed D (r ∷ rs) h =
    subst (λ ss. AllByRecursion D (variables_of_sides ss)) (sym (reverse_first r rs))
    (sides_both D (reverse rs) (r ∷ [])
    (sides_reversed D rs (each_right D (variables_of_side r) (variables_of_sides rs) h))
    (each_both D (variables_of_side r) [] (each_left D (variables_of_side r) (variables_of_sides rs) h) tt))

literal_uses : (D : Name → Type 0) (n : ℕ) (x : Name) → D x → AllByRecursion D (variables_of (literal n x))
literal_uses D zero x h = (h, tt)
literal_uses D (suc n) x h = (h, tt)

-- a test of the round uses its bits
value_uses : (D : Name → Type 0) (k : ℕ) (xs : List Name) → AllByRecursion D xs → AllByRecursion D (variables_of (has_value k xs))
value_uses D k [] h = tt
value_uses D k (x ∷ []) h = literal_uses D (k % 2) x h.0
value_uses D k (x ∷ y ∷ xs) h =
    each_both D (variables_of (has_value (k / 2) (y ∷ xs))) (variables_of (literal (k % 2) x)) (value_uses D (k / 2) (y ∷ xs) h.1)
    (literal_uses D (k % 2) x h.0)

added_uses : (D : Name → Type 0) (carry : Expression Name) (xs : List Name) → AllByRecursion D (variables_of carry) → AllByRecursion D xs
    → AllByRecursion D (variables_of_sides (added carry xs))
added_uses D carry [] g h = tt
added_uses D carry (x ∷ xs) g h = (
  h.0,
  each_both D (variables_of carry) (variables_of_sides (added (two and (var x) carry) xs)) g
      (added_uses D (two and (var x) carry) xs (h.0, g) h.1),
)

raised_uses : (D : Name → Type 0) (xs : List Name) → AllByRecursion D xs → AllByRecursion D (variables_of_sides (raised xs))
raised_uses D [] h = tt
raised_uses D (x ∷ xs) h = (h.0, added_uses D (var x) xs (h.0, tt) h.1)

-- and so does the rise to the next round
pub rise_uses : (D : Name → Type 0) (xs : List Name) → AllByRecursion D xs → AllByRecursion D (variables_of_sides (reverse (raised xs)))
rise_uses D xs h = sides_reversed D (raised xs) (raised_uses D xs h)

length-added : (carry : Expression Name) (xs : List Name) → length (added carry xs) ≡ length xs
length-added carry [] = refl
length-added carry (x ∷ xs) = ap suc (length-added (two and (var x) carry) xs)

length-raised : (xs : List Name) → length (raised xs) ≡ length xs
length-raised [] = refl
length-raised (x ∷ xs) = ap suc (length-added (var x) xs)

pub rise_even : (xs : List Name) → length (reverse xs) ≡ length (reverse (raised xs))
rise_even xs = length-reverse xs ∙ (sym (length-raised xs) ∙ sym (length-reverse (raised xs)))

-- a constant uses no variable
pub zeros_use : (D : Name → Type 0) (xs : List Name) → AllByRecursion D (variables_of_sides (each (value (const false)) xs))
zeros_use D [] = tt
zeros_use D (x ∷ xs) = zeros_use D xs

-- so there are for a variable, before others: one for each copy of a global
spread_even : (own : List Name) (last : ℕ) (x : Name) (e : Expression Name) (r : RightSide Name) (more : List Name)
    (shared kept : List (RightSide Name)) → length more ≡ length shared → length more ≡ length kept
    → length (cond (not (is_declared x.text own)) (map (λ k. copy_name k x) (all_rounds (by_names own) last) ++ more) (x ∷ more))
    ≡ length (cond (not (is_declared x.text own)) (map (copy_value (by_names own) last e x) (all_rounds (by_names own) last) ++ shared)
    (r ∷ kept))
spread_even own last x e r more shared kept f g =
    let here : List Name = map (λ k. copy_name k x) (all_rounds (by_names own) last) in
    let there : List (RightSide Name) = map (copy_value (by_names own) last e x) (all_rounds (by_names own) last) in
    at_test (λ c. length (cond (not c) (here ++ more) (x ∷ more)) ≡ length (cond (not c) (there ++ shared) (r ∷ kept)))
    (is_declared x.text own) (λ d. ap suc g)
    (λ d. simp (length-append, length-map, f))

-- there are as many right sides as targets
pub sides_even : (own : List Name) (last j : ℕ) (xs : List Name) (rs : List (RightSide Name))
    → length (targets (by_names own) last xs rs) ≡ length (sides (by_names own) last j xs rs)
sides_even own last j [] rs = refl
sides_even own last j (x ∷ xs) [] = refl
sides_even own last j (x ∷ xs) (any ∷ rs) =
    spread_even own last x (var (drawn_name j)) any (targets (by_names own) last xs rs) (sides (by_names own) last (suc j) xs rs)
    (sides (by_names own) last j xs rs) (sides_even own last (suc j) xs rs) (sides_even own last j xs rs)
sides_even own last j (x ∷ xs) (value v ∷ rs) =
    spread_even own last x (expression_form (by_names own) last v) (value (expression_form (by_names own) last v))
    (targets (by_names own) last xs rs) (sides (by_names own) last j xs rs) (sides (by_names own) last j xs rs)
    (sides_even own last j xs rs) (sides_even own last j xs rs)

-- D holds for the names of the bits, of `stop__` and `bad__`, of the copies of globals, of locals and of
-- temporaries
pub record Held (own : List Name) (last d : ℕ) (D S : Name → Type 0) : Type 0 where
  pub bits : AllByRecursion D (bit_names (round_bits last))
  pub stop : D (fresh_name (codes "stop__"))
  pub bad : D (fresh_name (codes "bad__"))
  pub copied : (x : Name) → S x → is_declared x.text own ≡ false → (k : ℕ) → k ≤ last → D (copy_name k x)
  pub kept : (x : Name) → S x → is_declared x.text own ≡ true → D x
  pub drawn : (j : ℕ) → j < d → D (drawn_name j)

module _ (own : List Name) (last d : ℕ) (D S : Name → Type 0) (held : Held own last d D S) where
  abbrev N : Naming Name Name Name Name
  N = by_names own

  pub at_uses : (k : ℕ) → AllByRecursion D (variables_of (in_round N last k))
  at_uses k = value_uses D k (bit_names (round_bits last)) held.bits

  copy_uses : (x : Name) → S x → is_declared x.text own ≡ false → (k : ℕ) → k ≤ last →
      AllByRecursion D (variables_of (in_round N last k) ++ (copy_name k x ∷ []))
  copy_uses x h hidden k le = each_both D (variables_of (in_round N last k)) (copy_name k x ∷ []) (at_uses k)
      (held.copied x h hidden k le, tt)

  joined_uses : (x : Name) → S x → is_declared x.text own ≡ false → (k : ℕ) → k ≤ last
      → AllByRecursion D (variables_of (read_by_round N last k x))
  joined_uses x h hidden zero le = copy_uses x h hidden 0 le
  joined_uses x h hidden (suc k) le =
      each_both D (variables_of (read_by_round N last k x))
      (variables_of (in_round N last (suc k)) ++ (copy_name (suc k) x ∷ []))
      (joined_uses x h hidden k (omega arith)) (copy_uses x h hidden (suc k) le)

  read_uses : (x : Name) → S x → AllByRecursion D (variables_of (read N last x))
  read_uses x h =
      at_test (λ c. AllByRecursion D (variables_of (cond (not c) (read_by_round N last last x) (var x))))
      (is_declared x.text own) (λ e. (held.kept x h e, tt)) (λ e. joined_uses x h e last (omega arith))

  pub expression_uses : (e : Expression Name) → AllByRecursion S (variables_of e)
      → AllByRecursion D (variables_of (expression_form N last e))
  expression_uses (const b) h = tt
  expression_uses (var x) h = read_uses x h.0
  expression_uses (negation e) h = expression_uses e h
  expression_uses (two o a b) h =
      each_both D (variables_of (expression_form N last a)) (variables_of (expression_form N last b))
      (expression_uses a (each_left S (variables_of a) (variables_of b) h))
      (expression_uses b (each_right S (variables_of a) (variables_of b) h))

  pub arguments_use : (es : List (Expression Name)) → AllByRecursion S (variables_of_all es)
      → AllByRecursion D (variables_of_all (map (expression_form N last) es))
  arguments_use [] h = tt
  arguments_use (e ∷ es) h =
      each_both D (variables_of (expression_form N last e)) (variables_of_all (map (expression_form N last) es))
      (expression_uses e (each_left S (variables_of e) (variables_of_all es) h))
      (arguments_use es (each_right S (variables_of e) (variables_of_all es) h))

  pub side_uses : (r : RightSide Name) → AllByRecursion S (variables_of_side r)
      → AllByRecursion D (variables_of_side (side N last r))
  side_uses any h = tt
  side_uses (value e) h = expression_uses e h

  written_uses : (e : Expression Name) → AllByRecursion D (variables_of e) → (x : Name) → S x → is_declared x.text own ≡ false
      → (k : ℕ) → k ≤ last
      → AllByRecursion D (variables_of_side (copy_value N last e x k))
  written_uses e g x h hidden k le =
      each_both D (variables_of (in_round N last k) ++ variables_of e)
      (variables_of (in_round N last k) ++ (copy_name k x ∷ []))
      (each_both D (variables_of (in_round N last k)) (variables_of e) (at_uses k) g) (copy_uses x h hidden k le)

  pub row_uses : (e : Expression Name) → AllByRecursion D (variables_of e) → (x : Name) → S x → is_declared x.text own ≡ false
      → (j m : ℕ)
      → j + m ≤ suc last → AllByRecursion D (variables_of_sides (map (copy_value N last e x) (numbers j m)))
  row_uses e g x h hidden j zero le = tt
  row_uses e g x h hidden j (suc m) le =
      each_both D (variables_of_side (copy_value N last e x j))
      (variables_of_sides (map (copy_value N last e x) (numbers (suc j) m)))
      (written_uses e g x h hidden j (omega arith)) (row_uses e g x h hidden (suc j) m (omega arith))

  pub copies_held : (x : Name) → S x → is_declared x.text own ≡ false → (j m : ℕ) → j + m ≤ suc last
      → AllByRecursion D (map (λ k. copy_name k x) (numbers j m))
  copies_held x h hidden j zero le = tt
  copies_held x h hidden j (suc m) le = (held.copied x h hidden j (omega arith), copies_held x h hidden (suc j) m (omega arith))

  pub targets_held : (xs : List Name) (rs : List (RightSide Name)) → AllByRecursion S xs
      → AllByRecursion D (targets N last xs rs)
  targets_held (x ∷ xs) (r ∷ rs) h =
      let here : List Name = map (λ k. copy_name k x) (all_rounds N last) in
      let others : List Name = targets N last xs rs in
      let rec : AllByRecursion D others = targets_held xs rs h.1 in
      at_test (λ c. AllByRecursion D (cond (not c) (here ++ others) (x ∷ others))) (is_declared x.text own) (λ e. (held.kept x h.0 e, rec))
      (λ e. each_both D here others (copies_held x h.0 e 0 (suc last) (omega arith)) rec)
  targets_held _ _ h = tt

  -- the right sides for a variable that gets the value of an expression, before others
  spread_uses : (x : Name) → S x → (e : Expression Name) (r : RightSide Name) (shared kept : List (RightSide Name))
      → (is_declared x.text own ≡ false → AllByRecursion D (variables_of e) × AllByRecursion D (variables_of_sides shared))
      → (is_declared x.text own ≡ true → AllByRecursion D (variables_of_sides (r ∷ kept)))
      → AllByRecursion D
      (variables_of_sides (cond (N.is_shared x) (map (copy_value N last e x) (all_rounds N last) ++ shared) (r ∷ kept)))
  spread_uses x h e r shared kept over own_side =
      let here : List (RightSide Name) = map (copy_value N last e x) (all_rounds N last) in
      at_test (λ c. AllByRecursion D (variables_of_sides (cond (not c) (here ++ shared) (r ∷ kept)))) (is_declared x.text own) own_side
      (λ hidden. sides_both D here shared (row_uses e (over hidden).0 x h hidden 0 (suc last) (omega arith)) (over hidden).1)

  pub sides_use : (j : ℕ) (xs : List Name) (rs : List (RightSide Name)) → AllByRecursion S xs → AllByRecursion S (variables_of_sides rs)
      → j + draws N.is_shared xs rs ≤ d → AllByRecursion D (variables_of_sides (sides N last j xs rs))
  sides_use j (x ∷ xs) (any ∷ rs) h g room =
      let drawn : ℕ = draws N.is_shared xs rs in
      spread_uses x h.0 (var (drawn_name j)) any (sides N last (suc j) xs rs) (sides N last j xs rs)
      (λ e.
      let more : j + suc drawn ≤ d = subst (λ c. j + cond (not c) (suc drawn) drawn ≤ d) e room in
      ((held.drawn j (omega arith), tt), sides_use (suc j) xs rs h.1 g (omega arith)))
      (λ e.
      let less : j + drawn ≤ d = subst (λ c. j + cond (not c) (suc drawn) drawn ≤ d) e room in
      sides_use j xs rs h.1 g less)
  sides_use j (x ∷ xs) (value v ∷ rs) h g room =
      let v' : Expression Name = expression_form N last v in
      let others : List (RightSide Name) = sides N last j xs rs in
      let uses = expression_uses v (each_left S (variables_of v) (variables_of_sides rs) g) in
      let rec = sides_use j xs rs h.1 (each_right S (variables_of v) (variables_of_sides rs) g) room in
      spread_uses x h.0 v' (value v') others others (λ e. (uses, rec))
      (λ e. each_both D (variables_of v') (variables_of_sides others) uses rec)
  sides_use j _ _ h g room = tt

  -- what gets the value of a call
  pub receiver_held : (x : Name) → S x → receiver_draws N.is_shared (Some x) ≤ d → D (receiver N last x)
  receiver_held x h room =
      at_test (λ c. D (cond (not c) (drawn_name 0) x)) (is_declared x.text own) (held.kept x h)
      (λ e. let more : 1 ≤ d = subst (λ c. cond (not c) 1 0 ≤ d) e room in held.drawn 0 (omega arith))

  -- a property of what comes after the call, from that of the write to the copies, if a global gets the value
  pub landing_has : (P : Block Name Name Name → Type 0) (x : Name) (k : Block Name Name Name) → S x
      → receiver_draws N.is_shared (Some x) ≤ d → P k
      → ((xs : List Name) (rs : List (RightSide Name)) → 0 < length xs → length xs ≡ length rs → AllByRecursion D xs
      → AllByRecursion D (variables_of_sides rs) → P (prologue N last no_mark (one no_mark (assign xs rs) k)))
      → P (cond (N.is_shared x) (received N last x k) k)
  landing_has P x k h room pk f =
      let copies : List Name = map (λ k. copy_name k x) (all_rounds N last) in
      let values : List (RightSide Name) = map (copy_value N last (var (drawn_name 0)) x) (all_rounds N last) in
      at_test (λ c. P (cond (not c) (received N last x k) k)) (is_declared x.text own) (λ e. pk)
      (λ e.
      let more : 1 ≤ d = subst (λ c. cond (not c) 1 0 ≤ d) e room in
      f copies values (omega arith) (simp length-map) (copies_held x h e 0 (suc last) (omega arith))
      (row_uses (var (drawn_name 0)) (held.drawn 0 (omega arith), tt) x h e 0 (suc last) (omega arith)))
