-- The tokens of printed statements and blocks, by the grammar.
use Rattle.std.proofs.Common.{◌≡◌, ℕ, zero, suc, ◌+◌, List, [], ◌∷◌, ◌++◌, length, map, refl, sym, ◌∙◌, ap, subst, append_assoc, arith}
use Rattle.std.proofs.Common.{Option, None, Some}
use Rattle.language.specs.Tree.{Name, Expression, RightSide, Simple, skip, assign, assert, assume, goto, leave, leave_with, call, call_for}
use Rattle.language.specs.Tree.{Mark, Block, done, one, choose, loop}
use Rattle.tokens.specs.declared.vocabulary.Kind.{Kind}
use Rattle.tokens.specs.declared.vocabulary.Kind.TheVariants as kind
use Rattle.tokens.specs.Token.{Tok}
use Rattle.tokens.specs.Parts.{Part, shown, space, line, spelling, fixed, tokens_of}
use Rattle.grammar.specs.Grammar.{Takes, takes, IsName, is_name, InParens, Perhaps, IsExpression, IsRight, IsMarked, bare, labelled}
use Rattle.grammar.specs.Grammar.{IsSimple, is_skip, is_return, is_give, is_goto, is_assert, is_assume, is_assign, is_call, is_call_for}
use Rattle.grammar.specs.Grammar.{IsSome, Statements, nothing_more, statement, if_statement, while_statement}
use Rattle.syntax.specs.Offsets.{unplaced, unplaced_expression, unplaced_side, unplaced_simple, unplaced_mark, unplaced_block}
use Rattle.grammar.specs.InGrammar.{SimpleInGrammar, BlockInGrammar}
use Rattle.grammar.specs.Printed as printed
use Rattle.grammar.specs.Printed.{name_parts, separated, expression_parts, side_parts, ended, simple_parts, label_parts, margin, line_parts}
use Rattle.grammar.specs.Printed.{test_parts, block_parts}
use Rattle.syntax.proofs.Appended.{four, six}
use Rattle.syntax.proofs.PrintsBack.{Read, Shows, put, expression_shows, side_shows, name_shows, list_shows, perhaps_shows, parens_show}

side_in_parens : (r : RightSide Name) → Shows (InParens IsRight) unplaced_side (printed.in_parens (side_parts r)) r
side_in_parens r = parens_show IsRight unplaced_side (side_parts r) r (side_shows r)

arguments_show : (es : List (Expression Name))
    → Shows (InParens (Perhaps IsExpression)) (map unplaced_expression) (printed.in_parens (separated expression_parts es)) es
arguments_show es =
    parens_show (Perhaps IsExpression) (map unplaced_expression) (separated expression_parts es) es
    (perhaps_shows IsExpression unplaced_expression expression_parts expression_shows es)

-- a keyword and a test in parentheses
check_shows : (k : Kind) (s : RightSide Name → Simple Name Name Name)
    → ((p q : RightSide Name) → unplaced_side p ≡ unplaced_side q → unplaced_simple (s p) ≡ unplaced_simple (s q))
    → ((ts us vs rest : List Tok) (r : RightSide Name) → Takes k ts us → InParens IsRight us r vs → Takes kind.Semicolon vs rest
    → IsSimple ts (s r) rest)
    → (r : RightSide Name) → Shows IsSimple unplaced_simple (ended (fixed k ∷ printed.in_parens (side_parts r))) (s r)
check_shows k s alike is r at more =
    let test = side_in_parens r (at + length (spelling k)) (fixed kind.Semicolon ∷ more) in
    put at _ (fixed k ∷ (printed.in_parens (side_parts r) ++ (fixed kind.Semicolon ∷ more)))
    (ap (λ (ps : List Part). fixed k ∷ ps) (append_assoc (printed.in_parens (side_parts r)) (fixed kind.Semicolon ∷ []) more))
    (record {
      found = s test.found;
      next = test.next + 1;
      same = alike test.found r test.same;
      reads = is _ _ _ _ _ (takes refl) test.reads (takes refl);
    })

pub simple_shows : (s : Simple Name Name Name) → SimpleInGrammar s → Shows IsSimple unplaced_simple (simple_parts s) s
simple_shows skip ok at more = record { found = skip; next = at + 4 + 1; same = refl; reads = is_skip (takes refl) (takes refl) }
simple_shows leave ok at more = record { found = leave; next = at + 6 + 1; same = refl; reads = is_return (takes refl) (takes refl) }
simple_shows (leave_with e) ok at more =
    let given = expression_shows e (at + 6 + 1) (fixed kind.Semicolon ∷ more) in
    put at _ (fixed kind.Return ∷ space ∷ (expression_parts e ++ (fixed kind.Semicolon ∷ more)))
    (ap (λ (ps : List Part). fixed kind.Return ∷ space ∷ ps) (append_assoc (expression_parts e) (fixed kind.Semicolon ∷ []) more))
    (record {
      found = leave_with given.found;
      next = given.next + 1;
      same = ap leave_with given.same;
      reads = is_give (takes refl) given.reads (takes refl);
    })
simple_shows (goto l) ok at more =
    record {
      found = goto (record { text = l.text; at = at + 4 + 1 });
      next = at + 4 + 1 + length l.text + 1;
      same = refl;
      reads = is_goto (takes refl) (is_name refl) (takes refl);
    }
simple_shows (assert r) ok at more =
    check_shows kind.Assert assert (λ p q e. ap assert e) (λ ts us vs rest q x y z. is_assert x y z) r at more
simple_shows (assume r) ok at more =
    check_shows kind.Assume assume (λ p q e. ap assume e) (λ ts us vs rest q x y z. is_assume x y z) r at more
simple_shows (assign xs rs) ok at more =
    let behind_targets : List Part = space ∷ fixed kind.Assign ∷ space ∷ (separated side_parts rs ++ (fixed kind.Semicolon ∷ more)) in
    let targets = list_shows IsName unplaced name_parts name_shows xs ok.0 at behind_targets in
    let sides = list_shows IsRight unplaced_side side_parts side_shows rs ok.2 (targets.next + 1 + 2 + 1) (fixed kind.Semicolon ∷ more) in
    put at _ (separated name_parts xs ++ behind_targets)
    (append_assoc (separated name_parts xs ++ (space ∷ fixed kind.Assign ∷ space ∷ separated side_parts rs))
    (fixed kind.Semicolon ∷ []) more
    ∙ append_assoc (separated name_parts xs) (space ∷ fixed kind.Assign ∷ space ∷ separated side_parts rs)
    (fixed kind.Semicolon ∷ more))
    (record {
      found = assign targets.found sides.found;
      next = sides.next + 1;
      same = let e = targets.same in let f = sides.same in cc;
      reads = is_assign targets.reads (takes refl) sides.reads (takes refl);
    })
simple_shows (call p es) ok at more =
    let inside = arguments_show es (at + length p.text) (fixed kind.Semicolon ∷ more) in
    put at _ (shown kind.Id p.text ∷ (printed.in_parens (separated expression_parts es) ++ (fixed kind.Semicolon ∷ more)))
    (ap (λ (ps : List Part). shown kind.Id p.text ∷ ps)
    (append_assoc (printed.in_parens (separated expression_parts es)) (fixed kind.Semicolon ∷ []) more))
    (record {
      found = call (record { text = p.text; at = at }) inside.found;
      next = inside.next + 1;
      same = ap (call (unplaced p)) inside.same;
      reads = is_call (is_name refl) inside.reads (takes refl);
    })
simple_shows (call_for x p es) ok at more =
    let called : ℕ = at + length x.text + 1 + 2 + 1 in
    let inside = arguments_show es (called + length p.text) (fixed kind.Semicolon ∷ more) in
    put at _
    (shown kind.Id x.text ∷ space ∷ fixed kind.Assign ∷ space ∷ shown kind.Id p.text
    ∷ (printed.in_parens (separated expression_parts es) ++ (fixed kind.Semicolon ∷ more)))
    (ap (λ (ps : List Part). shown kind.Id x.text ∷ space ∷ fixed kind.Assign ∷ space ∷ shown kind.Id p.text ∷ ps)
    (append_assoc (printed.in_parens (separated expression_parts es)) (fixed kind.Semicolon ∷ []) more))
    (record {
      found = call_for (record { text = x.text; at = at }) (record { text = p.text; at = called }) inside.found;
      next = inside.next + 1;
      same = ap (call_for (unplaced x) (unplaced p)) inside.same;
      reads = is_call_for (is_name refl) (takes refl) (is_name refl) inside.reads (takes refl);
    })

simple_begun : (s : Simple Name Name Name) → SimpleInGrammar s → (more : List Part)
    → (k : Kind) × (w : List ℕ) × (others : List Part) × (simple_parts s ++ more ≡ shown k w ∷ others)
simple_begun (assign [] rs) ok more = absurd (omega arith)
simple_begun _ ok more = (_, _, _, refl)

mark_shows : (label : Option Name) (placed : ℕ) (k : Kind) (w : List ℕ) (others more : List Part) → more ≡ shown k w ∷ others → (at : ℕ)
    → Read IsMarked unplaced_mark (record { label = label; at = placed }) (tokens_of at (label_parts label ++ more)) more
mark_shows None placed k w others more is at =
    record {
      found = record { label = None; at = at };
      next = at;
      same = refl;
      reads = subst (λ ps. IsMarked (tokens_of at ps) (record { label = None; at = at }) (tokens_of at ps)) (sym is) bare;
    }
mark_shows (Some l) placed k w others more is at =
    record {
      found = record { label = Some (record { text = l.text; at = at }); at = at };
      next = at + length l.text + 1 + 1;
      same = refl;
      reads = labelled refl (takes refl);
    }

-- a mark in front of a test
mark_before_test : (m : Mark Name) (first last : Kind) (r : RightSide Name) (behind : List Part) (at : ℕ)
    → Read IsMarked unplaced_mark m (tokens_of at (label_parts m.label ++ (test_parts first r last ++ (line ∷ behind))))
    (test_parts first r last ++ (line ∷ behind))
mark_before_test m first last r behind at = mark_shows m.label m.at first (spelling first) _ _ refl at

-- Margins leave no token.
margin_at : (level at : ℕ) (ps : List Part) → (n : ℕ) × (tokens_of at (margin level ++ ps) ≡ tokens_of n ps)
margin_at zero at ps = (at, refl)
margin_at (suc level) at ps = margin_at level (at + 1 + 1) ps

pub line_at : (level at : ℕ) (parts more : List Part)
    → (n : ℕ) × (tokens_of at (line_parts level parts ++ more) ≡ tokens_of n (parts ++ (line ∷ more)))
line_at level at parts more =
    let m = margin_at level at (parts ++ (line ∷ more)) in (
      m.0,
      ap (tokens_of at)
          (append_assoc (margin level) (parts ++ (line ∷ [])) more
          ∙ ap (λ (ps : List Part). margin level ++ ps) (append_assoc parts (line ∷ []) more)) ∙ m.1,
    )

-- A keyword on a line of its own.
pub word_at : (k : Kind) (level at : ℕ) (more : List Part)
    → (n : ℕ) × Takes k (tokens_of at (line_parts level (fixed k ∷ []) ++ more)) (tokens_of n more)
word_at k level at more =
    let l = line_at level at (fixed k ∷ []) more in
    (l.0 + length (spelling k) + 1, subst (λ ts. Takes k ts (tokens_of (l.0 + length (spelling k) + 1) more)) (sym l.1) (takes refl))

-- A test between its keywords.
record ReadTest (first : Kind) (r : RightSide Name) (last : Kind) (ts : List Tok) (more : List Part) : Type 0 where
  found : RightSide Name
  next : ℕ
  us : List Tok
  vs : List Tok
  same : unplaced_side found ≡ unplaced_side r
  begins : Takes first ts us
  test : InParens IsRight us found vs
  ends : Takes last vs (tokens_of next more)

test_shows : (first : Kind) (r : RightSide Name) (last : Kind) (at : ℕ) (more : List Part)
    → ReadTest first r last (tokens_of at (test_parts first r last ++ more)) more
test_shows first r last at more =
    let inside = side_in_parens r (at + length (spelling first) + 1) (space ∷ fixed last ∷ more) in
    let e : test_parts first r last ++ more ≡ fixed first ∷ space ∷ (printed.in_parens (side_parts r) ++ (space ∷ fixed last ∷ more)) =
    ap (λ (ps : List Part). fixed first ∷ space ∷ ps) (append_assoc (printed.in_parens (side_parts r)) (space ∷ fixed last ∷ []) more) in
    let behind : List Part = space ∷ fixed last ∷ more in
    let from_test : List Part = printed.in_parens (side_parts r) ++ behind in
    record {
      found = inside.found;
      next = inside.next + 1 + length (spelling last);
      us = tokens_of (at + length (spelling first) + 1) from_test;
      vs = tokens_of inside.next behind;
      same = inside.same;
      begins = subst (λ ps. Takes first (tokens_of at ps) (tokens_of (at + length (spelling first) + 1) from_test)) (sym e) (takes refl);
      test = inside.reads;
      ends = takes refl;
    }

-- There is a statement in a block, whatever its offsets.
to_bare : (x : Block Name Name Name) → IsSome x → IsSome (unplaced_block x)
to_bare done some = some
to_bare _ some = tt

from_bare : (x : Block Name Name Name) → IsSome (unplaced_block x) → IsSome x
from_bare done some = some
from_bare _ some = tt

pub some_too : (x y : Block Name Name Name) → unplaced_block x ≡ unplaced_block y → IsSome y → IsSome x
some_too x y e some = from_bare x (subst IsSome (sym e) (to_bare y some))

-- the marked first line of a statement
first_line : (level at : ℕ) (label s more : List Part)
    → (n : ℕ) × (tokens_of at (line_parts level (label ++ s) ++ more) ≡ tokens_of n (label ++ (s ++ (line ∷ more))))
first_line level at label s more = let l = line_at level at (label ++ s) more in
    (l.0, l.1 ∙ ap (tokens_of l.0) (append_assoc label s (line ∷ more)))

pub put_tokens : {X : Type 0} {P : List Tok → X → List Tok → Type 0} {bare : X → X} {x : X} {more : List Part} (ts us : List Tok) → ts ≡ us
    → Read P bare x us more → Read P bare x ts more
put_tokens {X} {P} {bare} {x} {more} ts us e r = rw e r

pub block_shows : (b : Block Name Name Name) → BlockInGrammar b → (level : ℕ) → Shows Statements unplaced_block (block_parts level b) b
block_shows done ok level at more = record { found = done; next = at; same = refl; reads = nothing_more }
block_shows (one m s k) ok level at more =
    let rest : List Part = block_parts level k ++ more in
    let start = first_line level at (label_parts m.label) (simple_parts s) rest in
    let begun = simple_begun s ok.1 (line ∷ rest) in
    let mark = mark_shows m.label m.at begun.0 begun.1 begun.2 (simple_parts s ++ (line ∷ rest)) begun.3 start.0 in
    let first = simple_shows s ok.1 mark.next (line ∷ rest) in
    let others = block_shows k ok.2 level (first.next + 1) more in
    put_tokens _ _
    (ap (tokens_of at) (append_assoc (line_parts level (label_parts m.label ++ simple_parts s)) (block_parts level k) more) ∙ start.1)
    (record {
      found = one mark.found first.found others.found;
      next = others.next;
      same = let e = mark.same in let f = first.same in let h = others.same in cc;
      reads = statement mark.reads first.reads others.reads;
    })
block_shows (choose m r a b k) ok level at more =
    let rest : List Part = block_parts level k ++ more in
    let from_fi : List Part = line_parts level (fixed kind.Fi ∷ []) ++ rest in
    let from_else : List Part = line_parts level (fixed kind.Else ∷ []) ++ (block_parts (suc level) b ++ from_fi) in
    let start = first_line level at (label_parts m.label) (test_parts kind.If r kind.Then) (block_parts (suc level) a ++ from_else) in
    let mark = mark_before_test m kind.If kind.Then r (block_parts (suc level) a ++ from_else) start.0 in
    let test = test_shows kind.If r kind.Then mark.next (line ∷ (block_parts (suc level) a ++ from_else)) in
    let yes = block_shows a ok.3 (suc level) (test.next + 1) from_else in
    let between = word_at kind.Else level yes.next (block_parts (suc level) b ++ from_fi) in
    let no = block_shows b ok.5 (suc level) between.0 from_fi in
    let end = word_at kind.Fi level no.next rest in
    let others = block_shows k ok.6 level end.0 more in
    put_tokens _ _
    (ap (tokens_of at)
    (six (line_parts level (label_parts m.label ++ test_parts kind.If r kind.Then)) (block_parts (suc level) a)
    (line_parts level (fixed kind.Else ∷ [])) (block_parts (suc level) b) (line_parts level (fixed kind.Fi ∷ []))
    (block_parts level k) more)
    ∙ start.1)
    (record {
      found = choose mark.found test.found yes.found no.found others.found;
      next = others.next;
      same = let e1 = mark.same in let e2 = test.same in let e3 = yes.same in let e4 = no.same in let e5 = others.same in cc;
      reads =
          if_statement mark.reads test.begins test.test test.ends yes.reads (some_too yes.found a yes.same ok.2) between.1 no.reads
          (some_too no.found b no.same ok.4) end.1 others.reads;
    })
block_shows (loop m r a k) ok level at more =
    let rest : List Part = block_parts level k ++ more in
    let from_od : List Part = line_parts level (fixed kind.Od ∷ []) ++ rest in
    let start = first_line level at (label_parts m.label) (test_parts kind.While r kind.Do) (block_parts (suc level) a ++ from_od) in
    let mark = mark_before_test m kind.While kind.Do r (block_parts (suc level) a ++ from_od) start.0 in
    let test = test_shows kind.While r kind.Do mark.next (line ∷ (block_parts (suc level) a ++ from_od)) in
    let body = block_shows a ok.3 (suc level) (test.next + 1) from_od in
    let end = word_at kind.Od level body.next rest in
    let others = block_shows k ok.4 level end.0 more in
    put_tokens _ _
    (ap (tokens_of at)
    (four (line_parts level (label_parts m.label ++ test_parts kind.While r kind.Do)) (block_parts (suc level) a)
    (line_parts level (fixed kind.Od ∷ [])) (block_parts level k) more) ∙ start.1)
    (record {
      found = loop mark.found test.found body.found others.found;
      next = others.next;
      same = let e1 = mark.same in let e2 = test.same in let e3 = body.same in let e4 = others.same in cc;
      reads =
          while_statement mark.reads test.begins test.test test.ends body.reads (some_too body.found a body.same ok.2) end.1 others.reads;
    })
