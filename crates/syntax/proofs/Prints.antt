-- Texts that grow by parts.
use Rattle.std.proofs.Common.{◌≡◌, ℕ, ◌+◌, ◌<◌, ◌≤◌, cond, List, [], ◌∷◌, ◌++◌, length, map, drop, get_or, sym, ◌∙◌, ap}
use Rattle.std.proofs.Common.{append_assoc, append-nil, add-one, codes}
use Rattle.std.specs.Prelude.{Result, Ok, Err, IfOk, is_ok}
use Rattle.std.proofs.lemmas.List.{drop_more, drop_all}
use Rattle.language.specs.Tree as tree
use Rattle.language.specs.Tree.{Operator, Expression, two, RightSide, leave_with, Block}
use Rattle.tokens.specs.Parts.{Part, space, line, fixed, text_of}
use Rattle.tokens.proofs.PartsCut.{text_of-append}
use Rattle.trees.specs.Trees.{simple, branch, repeat}
use Rattle.grammar.specs.Printed.{kind_of, operand_parts, expression_parts, ended, margin, block_parts, separated, after_commas}
use Rattle.syntax.specs.PrintedDeed.{head_parts, arms_parts}

-- The text at the end of a function whose last call pushes s.
pub pushed_last : {E : Type 0} {X : Type 0} (r : Result X E) (new before s w : List ℕ) → new ≡ cond (is_ok r) (before ++ s) before
    → before ++ s ≡ w → IfOk r (λ _. new ≡ w)
pushed_last (Ok x) new before s w e f = e ∙ f
pushed_last (Err x) new before s w e f = tt

-- The text at the end of a function whose last call appends s.
pub put_last : {E : Type 0} {X : Type 0} (r : Result X E) (new before s w : List ℕ) → IfOk r (λ _. new ≡ before ++ s) → before ++ s ≡ w
    → IfOk r (λ _. new ≡ w)
put_last (Ok x) new before s w e f = e ∙ f
put_last (Err x) new before s w e f = tt

value_text : (e : Expression tree.Name)
    → text_of (ended (expression_parts e) ++ (line ∷ [])) ≡ text_of (expression_parts e) ++ codes ";\n"
value_text e = simp (text_of-append, append_assoc)

pub given_text : (old : List ℕ) (e : Expression tree.Name) → old ++ (codes "return " ++ (text_of (expression_parts e) ++ codes ";\n"))
    ≡ old ++ text_of (head_parts (simple (leave_with e)))
given_text old e = ap (λ (t : List ℕ). old ++ (codes "return " ++ t)) (sym (value_text e))

-- Texts that are put together on their way.
module _ {X E : Type 0} (r : Result X E) (old new s1 s2 s3 s4 : List ℕ) where
  pub two_pushed : (o : Operator) (a b : Expression tree.Name) → s1 ≡ old ++ (40 ∷ []) → s2 ≡ s1 ++ text_of (operand_parts a)
      → s3 ≡ s2 ++ text_of (space ∷ fixed (kind_of o) ∷ space ∷ []) → s4 ≡ s3 ++ text_of (operand_parts b)
      → new ≡ cond (is_ok r) (s4 ++ (41 ∷ [])) s4 → IfOk r (λ _. new ≡ old ++ text_of (operand_parts (two o a b)))
  two_pushed o a b h1 h2 h3 h4 last = pushed_last r new s4 _ _ last (rw (h4, h3, h2, h1) (simp (text_of-append, append_assoc)))

-- What an `if` or a `while` holds.
module _ {X E : Type 0} (r : Result X E) (old new s1 s2 s3 : List ℕ) (level inner : ℕ) (a : Block tree.Name tree.Name tree.Name)
    (side : RightSide tree.Name) (below : inner ≡ level + 1) where
  pub branch_arms : (b : Block tree.Name tree.Name tree.Name) → s1 ≡ old ++ text_of (block_parts inner a)
      → s2 ≡ s1 ++ (text_of (margin level) ++ codes "else\n") → s3 ≡ s2 ++ text_of (block_parts inner b)
      → IfOk r (λ _. new ≡ s3 ++ (text_of (margin level) ++ codes "fi\n"))
      → IfOk r (λ _. new ≡ old ++ text_of (arms_parts level (branch side a b)))
  branch_arms b h1 h2 h3 last =
      put_last r new s3 _ _ last (rw (h3, h2, h1, below ∙ add-one level) (simp (text_of-append, append_assoc)))

  pub loop_arm : s1 ≡ old ++ text_of (block_parts inner a)
      → IfOk r (λ _. new ≡ s1 ++ (text_of (margin level) ++ codes "od\n"))
      → IfOk r (λ _. new ≡ old ++ text_of (arms_parts level (repeat side a)))
  loop_arm h last = put_last r new s1 _ _ last (rw (h, below ∙ add-one level) (simp (text_of-append, append_assoc)))

-- Lists of what commas separate.
module _ {X Y : Type 0} (show : Y → List Part) (f : X → Y) where
  pub comma_more : (l : List X) (i : ℕ) (x : X) (old mid new w : List ℕ) → i < length l → x ≡ get_or l i x
      → old ++ text_of (after_commas show (map f (drop i l))) ≡ w
      → mid ≡ old ++ (44 ∷ 32 ∷ []) → new ≡ mid ++ text_of (show (f x))
      → new ++ text_of (after_commas show (map f (drop (i + 1) l))) ≡ w
  comma_more l i x old mid new w lt is h d e =
      let step : drop i l ≡ x ∷ drop (i + 1) l = drop_more l i x lt ∙ ap (λ (y : X). y ∷ drop (i + 1) l) (sym is) in
      let text : text_of
      (after_commas show (map f (drop i l)))
      ≡ 44 ∷ 32 ∷ (text_of (show (f x)) ++ text_of (after_commas show (map f (drop (i + 1) l)))) =
      ap (λ (xs : List X). text_of (after_commas show (map f xs))) step
      ∙ ap (λ (t : List ℕ). 44 ∷ 32 ∷ t) (text_of-append (show (f x)) (after_commas show (map f (drop (i + 1) l)))) in
      rw (e, d)
      (append_assoc (old ++ (44 ∷ 32 ∷ [])) _ _ ∙ append_assoc old (44 ∷ 32 ∷ []) _ ∙ ap (λ (t : List ℕ). old ++ t) (sym text) ∙ h)

  comma_end : (l : List X) (i : ℕ) (old w : List ℕ) → length l ≤ i → old ++ text_of (after_commas show (map f (drop i l))) ≡ w → old ≡ w
  comma_end l i old w le h = sym (append-nil old)
      ∙ ap (λ (xs : List X). old ++ text_of (after_commas show (map f xs))) (sym (drop_all i l le)) ∙ h

  pub comma_whole : (all l : List X) (first : X) (i : ℕ) (old one new : List ℕ) → all ≡ first ∷ l → one ≡ old ++ text_of (show (f first))
      → length l ≤ i
      → new ++ text_of (after_commas show (map f (drop i l))) ≡ one ++ text_of (after_commas show (map f l))
      → new ≡ old ++ text_of (separated show (map f all))
  comma_whole all l first i old one new is e le h =
      comma_end l i new _ le h ∙ ap (λ (t : List ℕ). t ++ text_of (after_commas show (map f l))) e ∙ append_assoc old _ _
      ∙ ap (λ (t : List ℕ). old ++ t)
      (sym (text_of-append (show (f first)) (after_commas show (map f l)))
      ∙ ap (λ (xs : List X). text_of (separated show (map f xs))) (sym is))
