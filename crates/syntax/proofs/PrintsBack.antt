-- The tokens of printed parts, by the grammar.
use Rattle.std.proofs.Common.{◌≡◌, ℕ, ◌+◌, ◌<◌, ◌≤◌, true, false, List, [], ◌∷◌, ◌++◌, length, map, refl, ap, append_assoc, arith, Some}
use Rattle.language.specs.Tree.{Name, Operator, implies, Expression, const, var, negation, two, RightSide}
use Rattle.language.specs.Tree.{any, value}
use Rattle.tokens.specs.declared.vocabulary.Kind.TheVariants as kind
use Rattle.tokens.specs.Token.{Tok}
use Rattle.tokens.specs.Parts.{Part, space, spelling, fixed, tokens_of}
use Rattle.grammar.specs.Grammar.{takes, operator_at, level, left_level, right_level, Reads, reads_zero, reads_one, reads_name, reads_not}
use Rattle.grammar.specs.Grammar.{reads_paren, reads_two, IsName, is_name, Behind, behind, InParens, in_parens, Many, no_more, one_more}
use Rattle.grammar.specs.Grammar.{Listed, listed, Perhaps, nothing, something, IsRight, is_any, is_value}
use Rattle.syntax.specs.Offsets.{unplaced, unplaced_expression, unplaced_side}
use Rattle.grammar.specs.Printed as printed
use Rattle.grammar.specs.Printed.{name_parts, after_commas, separated, kind_of, operation, operand_parts, expression_parts, side_parts}

-- By P, tokens begin with something that is x except for its offsets, and the tokens of more parts follow.
pub record Read {X : Type 0} (P : List Tok → X → List Tok → Type 0) (bare : X → X) (x : X) (ts : List Tok) (more : List Part) : Type 0 where
  pub found : X
  pub next : ℕ
  pub same : bare found ≡ bare x
  pub reads : P ts found (tokens_of next more)

-- Wherever the parts stand, their tokens are x by P, except for its offsets.
abbrev pub Shows : {X : Type 0} → (List Tok → X → List Tok → Type 0) → (X → X) → List Part → X → Type 0
Shows P bare parts x = (at : ℕ) (more : List Part) → Read P bare x (tokens_of at (parts ++ more)) more

-- the same tokens, put otherwise
pub put : {X : Type 0} {P : List Tok → X → List Tok → Type 0} {bare : X → X} {x : X} {more : List Part} (at : ℕ) (ps qs : List Part)
    → ps ≡ qs → Read P bare x (tokens_of at qs) more → Read P bare x (tokens_of at ps) more
put {X} {P} {bare} {x} {more} at ps qs e r = rw e r

zero_le : (n : ℕ) → 0 ≤ n
zero_le n = omega arith

operator_shown : (o : Operator) → operator_at (kind_of o) ≡ Some o
operator_shown implies = refl
operator_shown _ = refl

-- An operation without parentheses, if its operands are read at every level.
operation_shows : (o : Operator) (a b : Expression Name) → ((l : ℕ) → Shows (Reads l) unplaced_expression (operand_parts a) a)
    → ((l : ℕ) → Shows (Reads l) unplaced_expression (operand_parts b) b)
    → Shows (Reads 0) unplaced_expression (operation o (operand_parts a) (operand_parts b)) (two o a b)
operation_shows o a b left right at more =
    let behind_left : List Part = space ∷ fixed (kind_of o) ∷ space ∷ (operand_parts b ++ more) in
    let x : Read (Reads (left_level o)) unplaced_expression a (tokens_of at (operand_parts a ++ behind_left)) behind_left =
    left (left_level o) at behind_left in
    let y : Read (Reads (right_level o)) unplaced_expression b
    (tokens_of (x.next + 1 + length (spelling (kind_of o)) + 1) (operand_parts b ++ more)) more =
    right (right_level o) (x.next + 1 + length (spelling (kind_of o)) + 1) more in
    rw append_assoc (record {
      found = two o x.found y.found;
      next = y.next;
      same = let e = x.same in let f = y.same in cc;
      reads = reads_two {l = 0} o (zero_le (level o)) x.reads (operator_shown o) y.reads;
    })

pub operand_shows : (e : Expression Name) (l : ℕ) → Shows (Reads l) unplaced_expression (operand_parts e) e
operand_shows (const false) l at more = record { found = const false; next = at + 1; same = refl; reads = reads_zero refl }
operand_shows (const true) l at more = record { found = const true; next = at + 1; same = refl; reads = reads_one refl }
operand_shows (var x) l at more = record {
  found = var (record { text = x.text; at = at });
  next = at + length x.text;
  same = refl;
  reads = reads_name refl;
}
operand_shows (negation e) l at more =
    let x : Read (Reads 5) unplaced_expression e (tokens_of (at + 1) (operand_parts e ++ more)) more = operand_shows e 5 (at + 1) more in
    record { found = negation x.found; next = x.next; same = ap negation x.same; reads = reads_not refl x.reads }
operand_shows (two o a b) l at more =
    let x : Read (Reads 0) unplaced_expression (two o a b)
    (tokens_of (at + 1) (operation o (operand_parts a) (operand_parts b) ++ (fixed kind.Close ∷ more))) (fixed kind.Close ∷ more) =
    operation_shows o a b (operand_shows a) (operand_shows b) (at + 1) (fixed kind.Close ∷ more) in
    put at _ (fixed kind.Open ∷ (operation o (operand_parts a) (operand_parts b) ++ (fixed kind.Close ∷ more)))
    (ap (λ (ps : List Part). fixed kind.Open ∷ ps)
    (append_assoc (operation o (operand_parts a) (operand_parts b)) (fixed kind.Close ∷ []) more))
    (record { found = x.found; next = x.next + 1; same = x.same; reads = reads_paren refl x.reads (takes refl) })

pub expression_shows : (e : Expression Name) → Shows (Reads 0) unplaced_expression (expression_parts e) e
expression_shows (const b) = operand_shows (const b) 0
expression_shows (var x) = operand_shows (var x) 0
expression_shows (negation e) = operand_shows (negation e) 0
expression_shows (two o a b) = operation_shows o a b (operand_shows a) (operand_shows b)

pub side_shows : (r : RightSide Name) → Shows IsRight unplaced_side (side_parts r) r
side_shows any at more = record { found = any; next = at + 1; same = refl; reads = is_any (takes refl) }
side_shows (value e) at more = let x =
    expression_shows e at more in record { found = value x.found; next = x.next; same = ap value x.same; reads = is_value x.reads }

pub name_shows : (n : Name) → Shows IsName unplaced (name_parts n) n
name_shows n at more = record { found = record { text = n.text; at = at }; next = at + length n.text; same = refl; reads = is_name refl }

-- Lists, and what is in parentheses.
module _ {X : Type 0} (P : List Tok → X → List Tok → Type 0) (bare : X → X) (show : X → List Part)
    (shows : (x : X) → Shows P bare (show x) x) where
  commas_show : (xs : List X) → Shows (Many (Behind kind.Comma P)) (map bare) (after_commas show xs) xs
  commas_show [] at more = record { found = []; next = at; same = refl; reads = no_more }
  commas_show (x ∷ xs) at more =
      let first = shows x (at + 1 + 1) (after_commas show xs ++ more) in
      let others = commas_show xs first.next more in
      put at _ (fixed kind.Comma ∷ space ∷ (show x ++ (after_commas show xs ++ more)))
      (ap (λ (ps : List Part). fixed kind.Comma ∷ space ∷ ps) (append_assoc (show x) (after_commas show xs) more)) (record {
        found = first.found ∷ others.found;
        next = others.next;
        same = let e = first.same in let f = others.same in cc;
        reads = one_more (behind (takes refl) first.reads) others.reads;
      })

  pub list_shows : (xs : List X) → 0 < length xs → Shows (Listed P) (map bare) (separated show xs) xs
  list_shows [] some at more = absurd (omega arith)
  list_shows (x ∷ xs) some at more =
      let first = shows x at (after_commas show xs ++ more) in
      let others = commas_show xs first.next more in
      rw append_assoc (record {
        found = first.found ∷ others.found;
        next = others.next;
        same = let e = first.same in let f = others.same in cc;
        reads = listed first.reads others.reads;
      })

  pub perhaps_shows : (xs : List X) → Shows (Perhaps P) (map bare) (separated show xs) xs
  perhaps_shows [] at more = record { found = []; next = at; same = refl; reads = nothing }
  perhaps_shows (x ∷ xs) at more =
      let all = list_shows (x ∷ xs) (omega arith) at more in
      record { found = all.found; next = all.next; same = all.same; reads = something all.reads }

pub parens_show : {X : Type 0} (P : List Tok → X → List Tok → Type 0) (bare : X → X) (parts : List Part) (x : X) → Shows P bare parts x
    → Shows (InParens P) bare (printed.in_parens parts) x
parens_show P bare parts x shows at more =
    let inside = shows (at + 1) (fixed kind.Close ∷ more) in
    put at _ (fixed kind.Open ∷ (parts ++ (fixed kind.Close ∷ more))) (ap (λ (ps : List Part). fixed kind.Open ∷ ps)
    (append_assoc parts (fixed kind.Close ∷ []) more))
    (record {
      found = inside.found;
      next = inside.next + 1;
      same = inside.same;
      reads = in_parens (takes refl) inside.reads (takes refl);
    })
