-- Whether some of the statements of a list returns a value, one statement after the other.
use Rattle.std.proofs.Common.{◌≡◌, ℕ, ◌+◌, ◌<◌, ◌≤◌, Bool, true, false, ◌||◌, List, ◌∷◌, length, drop}
use Rattle.std.proofs.Common.{get_or, refl, sym, ◌∙◌, ap, ap₂}
use Rattle.std.proofs.lemmas.List.{drop_more, drop_all}
use Rattle.language.specs.Tree.{Name, Mark, Block}
use Rattle.language.specs.Parts.{plain, gives}
use Rattle.language.specs.Resolve.{gives_value}
use Rattle.trees.specs.declared.tree.Stmt.{Stmt}
use Rattle.trees.specs.Trees.{Deed, simple, branch, repeat, item_of, deed_of, block_of, marked_before}
use Rattle.trees.specs.Parts.{gives_inside}
use Rattle.trees.proofs.Folds.{item_deed}

either_alone : (a k : Bool) → a || k ≡ (a || (false || false)) || k
either_alone true k = refl
either_alone false k = refl

either_two : (a b k : Bool) → a || (b || k) ≡ (a || b) || k
either_two true b k = refl
either_two false b k = refl

either_one : (a k : Bool) → a || k ≡ (a || false) || k
either_one true k = refl
either_one false k = refl

put : (m : Mark Name) (d : Deed) (k : Block Name Name Name) → gives_value (marked_before m d k) ≡ gives_inside d || gives_value k
put m (simple s) k = either_alone (gives (plain s)) (gives_value k)
put m (branch r a b) k = either_two (gives_value a) (gives_value b) (gives_value k)
put m (repeat r a) k = either_one (gives_value a) (gives_value k)

-- a list gives a value if its first statement does, or the others do
first_gives : {A : Type 0} (s : Stmt A) (l : List (Stmt A))
    → gives_value (block_of (s ∷ l)) ≡ gives_inside (deed_of s.core) || gives_value (block_of l)
first_gives s l = put (item_of s).mark (item_of s).deed (block_of l) ∙ ap (λ d. gives_inside d || gives_value (block_of l)) (item_deed s)

module _ {A : Type 0} (l : List (Stmt A)) (i : ℕ) where
  here : (s : Stmt A) → i < length l → s ≡ get_or l i s
      → gives_value (block_of (drop i l)) ≡ gives_inside (deed_of s.core) || gives_value (block_of (drop (i + 1) l))
  here s lt is =
      ap (λ z. gives_value (block_of z)) (drop_more l i s lt ∙ ap (λ (y : Stmt A). y ∷ drop (i + 1) l) (sym is))
      ∙ first_gives s (drop (i + 1) l)

  -- one that gives no value is passed over
  pub gives_on : (s : Stmt A) (all : Bool) → i < length l → s ≡ get_or l i s → gives_inside (deed_of s.core) ≡ false
      → gives_value (block_of (drop i l)) ≡ all → gives_value (block_of (drop (i + 1) l)) ≡ all
  gives_on s all lt is none h = ap (λ b. b || gives_value (block_of (drop (i + 1) l))) (sym none) ∙ (sym (here s lt is) ∙ h)

  -- if one gives a value, all do
  pub gives_here : (s : Stmt A) (all : Bool) → i < length l → s ≡ get_or l i s → gives_inside (deed_of s.core) ≡ true
      → gives_value (block_of (drop i l)) ≡ all → true ≡ all
  gives_here s all lt is one h = ap (λ b. b || gives_value (block_of (drop (i + 1) l))) (sym one) ∙ (sym (here s lt is) ∙ h)

  -- after the last none gives a value
  pub gives_no_more : (all : Bool) → length l ≤ i → gives_value (block_of (drop i l)) ≡ all → false ≡ all
  gives_no_more all le h = sym (ap (λ z. gives_value (block_of z)) (drop_all i l le)) ∙ h

-- the first of three that is 1 says what their disjunction is
pub own_gives : (x a b c : Bool) → x ≡ a → x ≡ true → x ≡ a || (b || c)
own_gives x a b c same one = one ∙ ap (λ z. z || (b || c)) (sym one ∙ same)

pub first_held : (x a b c : Bool) → a ≡ false → x ≡ b → x ≡ true → x ≡ a || (b || c)
first_held x a b c none same one = one ∙ ap₂ (λ y z. y || (z || c)) (sym none) (sym one ∙ same)

pub second_held : (x a b c : Bool) → a ≡ false → b ≡ false → x ≡ c → x ≡ a || (b || c)
second_held x a b c none other same = same ∙ ap₂ (λ y z. y || (z || c)) (sym none) (sym other)
