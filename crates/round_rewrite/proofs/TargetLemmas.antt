-- One target of an assignment after the other.
use mir.Val.{bool_byte}
use Rattle.std.proofs.Common.{◌≡◌, ℕ, suc, ◌+◌, ◌≤◌, Bool, true, false, cond, length, refl, arith, List, [], ◌∷◌, ◌++◌}
use Rattle.std.proofs.Common.{map, sym, ◌∙◌, ap, ap₂, append_assoc, append-nil}
use Rattle.language.specs.Tree.{Name, Expression, var, RightSide, any, value}
use Rattle.round_rewrite.specs.Table.{Naming, numbers, all_rounds, draws, targets, sides, side, expression_form, copy_value}

-- what is appended to a list, and then more
behind : {B : Type 0} (old first more : List B) {mid now whole : List B} → mid ≡ old ++ first → now ≡ mid ++ more
    → whole ≡ first ++ more
    → now ≡ old ++ whole
behind old first more e f h = f ∙ (ap (λ z. z ++ more) e ∙ (append_assoc old first more ∙ ap (λ z. old ++ z) (sym h)))

module _ (w : Naming Name Name Name Name) (last : ℕ) where
  kept_side : (j : ℕ) (x : Name) (more : List Name) (r : RightSide Name) (others : List (RightSide Name)) → w.is_shared x ≡ false
      → sides w last j (x ∷ more) (r ∷ others) ≡ side w last r ∷ sides w last j more others
  kept_side j x more any others s =
      ap
      (λ b.
      cond b (map (copy_value w last (var (w.drawn j)) x) (all_rounds w last) ++ sides w last (suc j) more others)
      (any ∷ sides w last j more others)) s
  kept_side j x more (value e) others s =
      ap (λ b. cond b (map (copy_value w last (expression_form w last e) x) (all_rounds w last) ++ sides w last j more others)
      (value (expression_form w last e) ∷ sides w last j more others)) s

  spread : (b : Bool) {B : Type 0} (shared : List B) (kept : B) (more : List B)
      → cond b (shared ++ more) (kept ∷ more) ≡ cond b shared (kept ∷ []) ++ more
  spread true shared kept more = refl
  spread false shared kept more = refl

  -- the targets of one target, and those of the others
  pub targets_next : (xs : List Name) (rs : List (RightSide Name)) (x : Name) (more : List Name) (r : RightSide Name)
      (others : List (RightSide Name)) (old mid now : List Name) → xs ≡ x ∷ more → rs ≡ r ∷ others
      → mid ≡ old ++ cond (w.is_shared x) (map (λ k. w.copy k x) (numbers 0 (suc last))) (w.kept x ∷ [])
      → now ≡ mid ++ targets w last more others → now ≡ old ++ targets w last xs rs
  targets_next xs rs x more r others old mid now ex er m n =
      let copies = map (λ k. w.copy k x) (numbers 0 (suc last)) in
      behind old (cond (w.is_shared x) copies (w.kept x ∷ [])) (targets w last more others) m n
      (ap₂ (targets w last) ex er ∙ spread (w.is_shared x) copies (w.kept x) (targets w last more others))

  drawn_or : (b : Bool) (j : ℕ) (shared : List (RightSide Name)) (kept : RightSide Name) (f : ℕ → List (RightSide Name))
      → cond b (shared ++ f (suc j)) (kept ∷ f j) ≡ cond b (shared ++ []) (kept ∷ []) ++ f (j + cond b 1 0)
  drawn_or true j shared kept f =
      let e : suc j ≡ j + 1 = omega arith in
      ap₂ (λ l k. l ++ f k) (sym (append-nil shared)) e
  drawn_or false j shared kept f =
      let e : j ≡ j + 0 = omega arith in
      ap (λ k. kept ∷ f k) e

  value_or : (b : Bool) (j : ℕ) (shared : List (RightSide Name)) (kept : RightSide Name) (f : ℕ → List (RightSide Name))
      → cond b (shared ++ f j) (kept ∷ f j) ≡ cond b (shared ++ []) (kept ∷ []) ++ f (j + 0)
  value_or true j shared kept f =
      let e : j ≡ j + 0 = omega arith in
      ap₂ (λ l k. l ++ f k) (sym (append-nil shared)) e
  value_or false j shared kept f =
      let e : j ≡ j + 0 = omega arith in
      ap (λ k. kept ∷ f k) e

  sides_first : (j : ℕ) (x : Name) (more : List Name) (r : RightSide Name) (others : List (RightSide Name))
      → sides w last j (x ∷ more) (r ∷ others)
      ≡ sides w last j (x ∷ []) (r ∷ []) ++ sides w last (j + draws w.is_shared (x ∷ []) (r ∷ [])) more others
  sides_first j x more any others =
      drawn_or (w.is_shared x) j (map (copy_value w last (var (w.drawn j)) x) (all_rounds w last)) any
      (λ k. sides w last k more others)
  sides_first j x more (value e) others =
      value_or (w.is_shared x) j (map (copy_value w last (expression_form w last e) x) (all_rounds w last))
      (value (expression_form w last e)) (λ k. sides w last k more others)

  -- the right sides of one target, and those of the others
  pub sides_next : (j d : ℕ) (xs : List Name) (rs : List (RightSide Name)) (x : Name) (more : List Name) (r : RightSide Name)
      (others : List (RightSide Name)) (old mid now : List (RightSide Name)) → xs ≡ x ∷ more → rs ≡ r ∷ others
      → mid ≡ old ++ sides w last j (x ∷ []) (r ∷ []) → d ≡ draws w.is_shared (x ∷ []) (r ∷ [])
      → now ≡ mid ++ sides w last (j + d) more others → now ≡ old ++ sides w last j xs rs
  sides_next j d xs rs x more r others old mid now ex er m e n =
      behind old (sides w last j (x ∷ []) (r ∷ [])) (sides w last (j + draws w.is_shared (x ∷ []) (r ∷ [])) more others) m
      (n ∙ ap (λ k. mid ++ sides w last (j + k) more others) e) (ap₂ (sides w last j) ex er ∙ sides_first j x more r others)

  -- the right side of a local
  pub side_kept : (j : ℕ) (x : Name) (r : RightSide Name) → w.is_shared x ≡ false
      → side w last r ∷ [] ≡ sides w last j (x ∷ []) (r ∷ [])
  side_kept j x r s = sym (kept_side j x [] r [] s)

  -- the right sides of a global that gets a temporary
  pub side_drawn : (j : ℕ) (x : Name) → w.is_shared x ≡ true
      → map (copy_value w last (var (w.drawn j)) x) (numbers 0 (suc last)) ≡ sides w last j (x ∷ []) (any ∷ [])
  side_drawn j x s =
      let copies = map (copy_value w last (var (w.drawn j)) x) (numbers 0 (suc last)) in
      sym (append-nil copies) ∙ ap (λ b. cond b (copies ++ []) (any ∷ [])) (sym s)

  -- the right sides of a global that gets an expression
  pub side_value : (j : ℕ) (x : Name) (e : Expression Name) → w.is_shared x ≡ true
      → map (copy_value w last (expression_form w last e) x) (numbers 0 (suc last)) ≡ sides w last j (x ∷ []) (value e ∷ [])
  side_value j x e s =
      let copies = map (copy_value w last (expression_form w last e) x) (numbers 0 (suc last)) in
      sym (append-nil copies) ∙ ap (λ b. cond b (copies ++ []) (value (expression_form w last e) ∷ [])) (sym s)

  cond_counts : (b : Bool) (n : ℕ) → cond b 1 0 + n ≡ cond b (suc n) n
  cond_counts true n = omega arith
  cond_counts false n = omega arith

  -- what one target draws, and what the others draw
  pub draws_next : (xs : List Name) (rs : List (RightSide Name)) (x : Name) (more : List Name) (r : RightSide Name)
      (others : List (RightSide Name)) (d n : ℕ) → xs ≡ x ∷ more → rs ≡ r ∷ others
      → d ≡ draws w.is_shared (x ∷ []) (r ∷ []) → n ≡ draws w.is_shared more others → d + n ≡ draws w.is_shared xs rs
  draws_next xs rs x more any others d n ex er e f =
      ap₂ (λ a b. a + b) e f
      ∙ (cond_counts (w.is_shared x) (draws w.is_shared more others) ∙ sym (ap₂ (draws w.is_shared) ex er))
  draws_next xs rs x more (value v) others d n ex er e f =
      let z : 0 + draws w.is_shared more others ≡ draws w.is_shared more others = omega arith in
      ap₂ (λ a b. a + b) e f ∙ (z ∙ sym (ap₂ (draws w.is_shared) ex er))

-- a list of no elements
pub empty : {A : Type 0} (l : List A) → length l ≡ 0 → l ≡ []
empty [] e = refl
empty (x ∷ l) e = cc

-- one if it is asked for
pub from_bool : (b : Bool) (m : ℕ) → m ≡ bool_byte b → m ≡ cond b 1 0
from_bool true m e = e
from_bool false m e = e

pub one_at_most : (b : Bool) (m : ℕ) → m ≡ bool_byte b → m ≤ 1
one_at_most true m e = rw e (omega arith)
one_at_most false m e = rw e (omega arith)
