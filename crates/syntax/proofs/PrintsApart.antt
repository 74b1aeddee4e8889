-- Printed parts stand apart.
use Rattle.std.proofs.Common.{◌≡◌, ℕ, zero, suc, true, false, List, [], ◌∷◌, ◌++◌, map, refl, sym, ◌∙◌, ap, append_assoc, append-nil, inl}
use Rattle.std.proofs.Common.{inr, Option, None, Some}
use Rattle.std.specs.List.{AllByRecursion}
use Rattle.language.specs.Tree.{Name, Operator, implies, Expression, const, var, negation, two, RightSide}
use Rattle.language.specs.Tree.{any, value, Simple, skip, assign, assert, assume, goto, leave, leave_with, call, call_for, Block, done}
use Rattle.language.specs.Tree.{one, choose, loop, Procedure, ThreadLine, Tree}
use Rattle.tokens.specs.declared.vocabulary.Kind.{Kind}
use Rattle.tokens.specs.declared.vocabulary.Kind.TheVariants as kind
use Rattle.tokens.specs.Spelling.{reserved, name}
use Rattle.tokens.specs.Parts.{Part, shown, space, line, spelling, fixed, joins, IsSpelled, IsApart, AreApart}
use Rattle.grammar.specs.Grammar.{joined}
use Rattle.grammar.specs.InGrammar.{IsId, AreIds, ExpressionInGrammar, SideInGrammar, SimpleInGrammar, LabelInGrammar, BlockInGrammar}
use Rattle.grammar.specs.InGrammar.{ProcedureInGrammar, ThreadInGrammar, InGrammar}
use Rattle.grammar.specs.Printed as printed
use Rattle.grammar.specs.Printed.{name_parts, after_commas, separated, kind_of, operation, operand_parts, expression_parts, side_parts}
use Rattle.grammar.specs.Printed.{ended, simple_parts, label_parts, margin, line_parts, test_parts, block_parts, declaration_parts}
use Rattle.grammar.specs.Printed.{procedure_parts, thread_parts, program_parts}
use Rattle.syntax.proofs.Appended.{four, five, six}

-- No word comes next, and the parts stand apart.
pub record Tail (more : List Part) : Type 0 where
  pub free : IsApart kind.Id more
  pub apart : AreApart more

-- Parts that stand apart whatever comes after them, except a word.
abbrev pub Fits : List Part → Type 0
Fits parts = (more : List Part) → Tail more → AreApart (parts ++ more)

-- The same parts, put otherwise.
put : (ps qs : List Part) → ps ≡ qs → AreApart qs → AreApart ps
put ps qs e h = rw e h

-- Signs that do not grow join nothing.
free : (k : Kind) → ((j : Kind) → joins k j ≡ false) → (more : List Part) → IsApart k more
free k h [] = tt
free k h (shown j w ∷ more) = h j
free k h (space ∷ more) = tt
free k h (line ∷ more) = tt

open_free : (more : List Part) → IsApart kind.Open more
open_free = free kind.Open (λ j. refl)

close_free : (more : List Part) → IsApart kind.Close more
close_free = free kind.Close (λ j. refl)

any_free : (more : List Part) → IsApart kind.Any more
any_free = free kind.Any (λ j. refl)

semicolon_free : (more : List Part) → IsApart kind.Semicolon more
semicolon_free = free kind.Semicolon (λ j. refl)

-- What stands apart from a name stands apart from a constant.
free_as_name : (k : Kind) → ((j : Kind) → joins k j ≡ joins kind.Id j) → (more : List Part) → IsApart kind.Id more
    → IsApart k more
free_as_name k h [] apart = tt
free_as_name k h (shown j w ∷ more) apart = h j ∙ apart
free_as_name k h (space ∷ more) apart = tt
free_as_name k h (line ∷ more) apart = tt

-- After ! comes an operand, which begins with no =.
not_free : (e : Expression Name) (more : List Part) → IsApart kind.Not (operand_parts e ++ more)
not_free (const false) more = refl
not_free _ more = refl

operator_spelled : (o : Operator) → IsSpelled (kind_of o) (spelling (kind_of o))
operator_spelled implies = inr refl
operator_spelled _ = inr refl

-- What follows a closing parenthesis, a semicolon, a space and a line feed may be anything that stands apart.
closed : (more : List Part) → AreApart more → Tail (fixed kind.Close ∷ more)
closed more apart = record { free = refl; apart = (inr refl, close_free more, apart) }

semicolon : (more : List Part) → AreApart more → Tail (fixed kind.Semicolon ∷ more)
semicolon more apart = record { free = refl; apart = (inr refl, semicolon_free more, apart) }

spaced : (more : List Part) → AreApart more → Tail (space ∷ more)
spaced more apart = record { free = tt; apart = apart }

name_fits : (n : Name) → IsId n → Fits (name_parts n)
name_fits n is more tail = (inl (name is), tail.free, tail.apart)

parens_fit : (parts : List Part) → Fits parts → (more : List Part) → AreApart more → AreApart (printed.in_parens parts ++ more)
parens_fit parts fits more apart =
    put _ (fixed kind.Open ∷ (parts ++ (fixed kind.Close ∷ more)))
    (ap (λ (ps : List Part). fixed kind.Open ∷ ps) (append_assoc parts (fixed kind.Close ∷ []) more))
    (inr refl, open_free (parts ++ (fixed kind.Close ∷ more)), fits (fixed kind.Close ∷ more) (closed more apart))

operation_fits : (o : Operator) (a b : Expression Name) → Fits (operand_parts a) → Fits (operand_parts b)
    → Fits (operation o (operand_parts a) (operand_parts b))
operation_fits o a b left right more tail =
    put _ (operand_parts a ++ (space ∷ fixed (kind_of o) ∷ space ∷ (operand_parts b ++ more)))
    (append_assoc (operand_parts a) (space ∷ fixed (kind_of o) ∷ space ∷ operand_parts b) more)
    (left (space ∷ fixed (kind_of o) ∷ space ∷ (operand_parts b ++ more))
    (spaced (fixed (kind_of o) ∷ space ∷ (operand_parts b ++ more)) (operator_spelled o, tt, right more tail)))

operand_fits : (e : Expression Name) → ExpressionInGrammar e → Fits (operand_parts e)
operand_fits (const false) ok more tail =
    (inl (reserved refl), free_as_name kind.Zero (λ j. refl) more tail.free, tail.apart)
operand_fits (const true) ok more tail =
    (inl (reserved refl), free_as_name kind.One (λ j. refl) more tail.free, tail.apart)
operand_fits (var x) ok more tail = name_fits x ok more tail
operand_fits (negation e) ok more tail = (inr refl, not_free e more, operand_fits e ok more tail)
operand_fits (two o a b) ok more tail =
    parens_fit (operation o (operand_parts a) (operand_parts b))
    (operation_fits o a b (operand_fits a ok.0) (operand_fits b ok.1)) more tail.apart

expression_fits : (e : Expression Name) → ExpressionInGrammar e → Fits (expression_parts e)
expression_fits (const b) ok = operand_fits (const b) ok
expression_fits (var x) ok = operand_fits (var x) ok
expression_fits (negation e) ok = operand_fits (negation e) ok
expression_fits (two o a b) ok = operation_fits o a b (operand_fits a ok.0) (operand_fits b ok.1)

side_fits : (r : RightSide Name) → SideInGrammar r → Fits (side_parts r)
side_fits any ok more tail = (inr refl, any_free more, tail.apart)
side_fits (value e) ok more tail = expression_fits e ok more tail

-- Lists of what commas separate.
module _ {X : Type 0} (Ok : X → Type 0) (show : X → List Part) (fits : (x : X) → Ok x → Fits (show x)) where
  commas_fit : (xs : List X) → AllByRecursion Ok xs → (more : List Part) → Tail more → Tail (after_commas show xs ++ more)
  commas_fit [] all more tail = tail
  commas_fit (x ∷ xs) all more tail = record {
    free = refl;
    apart =
        put _ (fixed kind.Comma ∷ space ∷ (show x ++ (after_commas show xs ++ more)))
        (ap (λ (ps : List Part). fixed kind.Comma ∷ space ∷ ps) (append_assoc (show x) (after_commas show xs) more))
        (inr refl, tt, fits x all.0 (after_commas show xs ++ more) (commas_fit xs all.1 more tail));
  }

  list_fits : (xs : List X) → AllByRecursion Ok xs → Fits (separated show xs)
  list_fits [] all more tail = tail.apart
  list_fits (x ∷ xs) all more tail =
      put _ (show x ++ (after_commas show xs ++ more)) (append_assoc (show x) (after_commas show xs) more)
      (fits x all.0 (after_commas show xs ++ more) (commas_fit xs all.1 more tail))

names_fit : (ns : List Name) → AreIds ns → Fits (separated name_parts ns)
names_fit ns all = list_fits IsId name_parts name_fits ns all

-- What a semicolon ends stands apart from everything.
ended_fits : (parts : List Part) → Fits parts → (more : List Part) → AreApart more → AreApart (ended parts ++ more)
ended_fits parts fits more apart =
    put _ (parts ++ (fixed kind.Semicolon ∷ more)) (append_assoc parts (fixed kind.Semicolon ∷ []) more)
    (fits (fixed kind.Semicolon ∷ more) (semicolon more apart))

call_fits : (p : Name) (es : List (Expression Name)) → IsId p → AllByRecursion ExpressionInGrammar es → Fits (printed.call_parts p es)
call_fits p es is all after tail = (
  inl (name is),
  refl,
  parens_fit (separated expression_parts es)
      (list_fits ExpressionInGrammar expression_parts expression_fits es all) after tail.apart,
)

simple_fits : (s : Simple Name Name Name) → SimpleInGrammar s → (more : List Part) → AreApart more → AreApart (simple_parts s ++ more)
simple_fits skip ok more apart = (inl (reserved refl), refl, (inr refl, semicolon_free more, apart))
simple_fits leave ok more apart = (inl (reserved refl), refl, (inr refl, semicolon_free more, apart))
simple_fits (leave_with e) ok more apart =
    ended_fits (fixed kind.Return ∷ space ∷ expression_parts e)
    (λ after tail. (inl (reserved refl), tt, expression_fits e ok after tail)) more apart
simple_fits (goto l) ok more apart = (inl (reserved refl), tt, (inl (name ok), refl, (inr refl, semicolon_free more, apart)))
simple_fits (assert r) ok more apart =
    ended_fits (fixed kind.Assert ∷ printed.in_parens (side_parts r))
    (λ after tail. (inl (reserved refl), refl, parens_fit (side_parts r) (side_fits r ok) after tail.apart)) more apart
simple_fits (assume r) ok more apart =
    ended_fits (fixed kind.Assume ∷ printed.in_parens (side_parts r))
    (λ after tail. (inl (reserved refl), refl, parens_fit (side_parts r) (side_fits r ok) after tail.apart)) more apart
simple_fits (assign xs rs) ok more apart =
    ended_fits (separated name_parts xs ++ (space ∷ fixed kind.Assign ∷ space ∷ separated side_parts rs))
    (λ after tail.
    put _ (separated name_parts xs ++ (space ∷ fixed kind.Assign ∷ space ∷ (separated side_parts rs ++ after)))
    (append_assoc (separated name_parts xs) (space ∷ fixed kind.Assign ∷ space ∷ separated side_parts rs) after)
    (names_fit xs ok.1 (space ∷ fixed kind.Assign ∷ space ∷ (separated side_parts rs ++ after))
    (spaced (fixed kind.Assign ∷ space ∷ (separated side_parts rs ++ after))
    (inr refl, tt, list_fits SideInGrammar side_parts side_fits rs ok.3 after tail))))
    more apart
simple_fits (call p es) ok more apart =
    ended_fits (printed.call_parts p es) (call_fits p es ok.0 ok.1) more apart
simple_fits (call_for x p es) ok more apart =
    ended_fits (name_parts x ++ (space ∷ fixed kind.Assign ∷ space ∷ printed.call_parts p es))
    (λ after tail. (inl (name ok.0), tt, (inr refl, tt, call_fits p es ok.1 ok.2 after tail))) more apart

label_fits : (l : Option Name) → LabelInGrammar l → (more : List Part) → AreApart more → AreApart (label_parts l ++ more)
label_fits None ok more apart = apart
label_fits (Some l) ok more apart = (inl (name ok), refl, (inr refl, tt, apart))

margin_fits : (level : ℕ) (more : List Part) → AreApart more → AreApart (margin level ++ more)
margin_fits zero more apart = apart
margin_fits (suc level) more apart = margin_fits level more apart

-- A line stands apart if what is on it does in front of a line feed.
line_fits : (level : ℕ) (parts more : List Part) → AreApart (parts ++ (line ∷ more)) → AreApart (line_parts level parts ++ more)
line_fits level parts more apart =
    put _ (margin level ++ (parts ++ (line ∷ more)))
    (append_assoc (margin level) (parts ++ (line ∷ [])) more
    ∙ ap (λ (ps : List Part). margin level ++ ps) (append_assoc parts (line ∷ []) more))
    (margin_fits level (parts ++ (line ∷ more)) apart)

first_line_fits : (level : ℕ) (l : Option Name) → LabelInGrammar l → (s more : List Part) → AreApart (s ++ (line ∷ more))
    → AreApart (line_parts level (label_parts l ++ s) ++ more)
first_line_fits level l ok s more apart =
    line_fits level (label_parts l ++ s) more
    (put _ (label_parts l ++ (s ++ (line ∷ more))) (append_assoc (label_parts l) s (line ∷ more))
    (label_fits l ok (s ++ (line ∷ more)) apart))

-- a keyword, a test in parentheses and another keyword
test_fits : (first last : Kind) → IsSpelled first (spelling first) → IsSpelled last (spelling last) → (r : RightSide Name)
    → SideInGrammar r → (more : List Part) → AreApart more → AreApart (test_parts first r last ++ (line ∷ more))
test_fits first last is_first is_last r ok more apart =
    put _ (fixed first ∷ space ∷ (printed.in_parens (side_parts r) ++ (space ∷ fixed last ∷ line ∷ more)))
    (ap (λ (ps : List Part). fixed first ∷ space ∷ ps)
    (append_assoc (printed.in_parens (side_parts r)) (space ∷ fixed last ∷ []) (line ∷ more))) (
      is_first,
      tt,
      parens_fit (side_parts r) (side_fits r ok) (space ∷ fixed last ∷ line ∷ more) (is_last, tt, apart),
    )

block_fits : (b : Block Name Name Name) → BlockInGrammar b → (level : ℕ) (more : List Part) → AreApart more
    → AreApart (block_parts level b ++ more)
block_fits done ok level more apart = apart
block_fits (one m s k) ok level more apart =
    put _ (line_parts level (label_parts m.label ++ simple_parts s) ++ (block_parts level k ++ more))
    (append_assoc (line_parts level (label_parts m.label ++ simple_parts s)) (block_parts level k) more)
    (first_line_fits level m.label ok.0 (simple_parts s) (block_parts level k ++ more)
    (simple_fits s ok.1 (line ∷ (block_parts level k ++ more)) (block_fits k ok.2 level more apart)))
block_fits (choose m r a b k) ok level more apart =
    let rest : List Part = block_parts level k ++ more in
    let from_fi : List Part = line_parts level (fixed kind.Fi ∷ []) ++ rest in
    let from_no : List Part = block_parts (suc level) b ++ from_fi in
    let from_else : List Part = line_parts level (fixed kind.Else ∷ []) ++ from_no in
    let from_yes : List Part = block_parts (suc level) a ++ from_else in
    let h1 : AreApart rest = block_fits k ok.6 level more apart in
    let h2 : AreApart from_fi = line_fits level (fixed kind.Fi ∷ []) rest (inl (reserved refl), tt, h1) in
    let h3 : AreApart from_no = block_fits b ok.5 (suc level) from_fi h2 in
    let h4 : AreApart from_else = line_fits level (fixed kind.Else ∷ []) from_no (inl (reserved refl), tt, h3) in
    let h5 : AreApart from_yes = block_fits a ok.3 (suc level) from_else h4 in
    put _ (line_parts level (label_parts m.label ++ test_parts kind.If r kind.Then) ++ from_yes)
    (six (line_parts level (label_parts m.label ++ test_parts kind.If r kind.Then)) (block_parts (suc level) a)
    (line_parts level (fixed kind.Else ∷ [])) (block_parts (suc level) b) (line_parts level (fixed kind.Fi ∷ []))
    (block_parts level k) more)
    (first_line_fits level m.label ok.0 (test_parts kind.If r kind.Then) from_yes
    (test_fits kind.If kind.Then (inl (reserved refl)) (inl (reserved refl)) r ok.1 from_yes h5))
block_fits (loop m r a k) ok level more apart =
    let rest : List Part = block_parts level k ++ more in
    let from_od : List Part = line_parts level (fixed kind.Od ∷ []) ++ rest in
    let from_body : List Part = block_parts (suc level) a ++ from_od in
    let h1 : AreApart rest = block_fits k ok.4 level more apart in
    let h2 : AreApart from_od = line_fits level (fixed kind.Od ∷ []) rest (inl (reserved refl), tt, h1) in
    let h3 : AreApart from_body = block_fits a ok.3 (suc level) from_od h2 in
    put _ (line_parts level (label_parts m.label ++ test_parts kind.While r kind.Do) ++ from_body)
    (four (line_parts level (label_parts m.label ++ test_parts kind.While r kind.Do)) (block_parts (suc level) a)
    (line_parts level (fixed kind.Od ∷ [])) (block_parts level k) more)
    (first_line_fits level m.label ok.0 (test_parts kind.While r kind.Do) from_body
    (test_fits kind.While kind.Do (inl (reserved refl)) (inl (reserved refl)) r ok.1 from_body h3))

declaration_fits : (ns : List Name) → AreIds ns → (level : ℕ) (more : List Part) → AreApart more
    → AreApart (declaration_parts level ns ++ more)
declaration_fits [] all level more apart = apart
declaration_fits (n ∷ ns) all level more apart =
    line_fits level (ended (fixed kind.Decl ∷ space ∷ separated name_parts (n ∷ ns))) more
    (ended_fits (fixed kind.Decl ∷ space ∷ separated name_parts (n ∷ ns))
    (λ after tail. (inl (reserved refl), tt, names_fit (n ∷ ns) all after tail)) (line ∷ more) apart)

procedure_fits : (p : Procedure) → ProcedureInGrammar p → (more : List Part) → AreApart more → AreApart (procedure_parts p ++ more)
procedure_fits p ok more apart =
    let from_end : List Part = line_parts 0 (fixed kind.End ∷ []) ++ more in
    let from_body : List Part = block_parts 1 p.body ++ from_end in
    let from_locals : List Part = declaration_parts 1 p.locals ++ from_body in
    let from_begin : List Part = line_parts 0 (fixed kind.Begin ∷ []) ++ from_locals in
    let h1 : AreApart from_end = line_fits 0 (fixed kind.End ∷ []) more (inl (reserved refl), tt, apart) in
    let h2 : AreApart from_body = block_fits p.body ok.body 1 from_end h1 in
    let h3 : AreApart from_locals = declaration_fits p.locals ok.locals 1 from_body h2 in
    let h4 : AreApart from_begin = line_fits 0 (fixed kind.Begin ∷ []) from_locals (inl (reserved refl), tt, h3) in
    put _ (line_parts 0 (name_parts p.name ++ printed.in_parens (separated name_parts p.formals)) ++ from_begin)
    (five (line_parts 0 (name_parts p.name ++ printed.in_parens (separated name_parts p.formals))) (line_parts 0 (fixed kind.Begin ∷ []))
    (declaration_parts 1 p.locals) (block_parts 1 p.body) (line_parts 0 (fixed kind.End ∷ [])) more)
    (line_fits 0 (name_parts p.name ++ printed.in_parens (separated name_parts p.formals)) from_begin
    (inl (name ok.name), refl, parens_fit (separated name_parts p.formals) (names_fit p.formals ok.formals) (line ∷ from_begin) h4))

thread_fits : (t : ThreadLine) → ThreadInGrammar t → (more : List Part) → AreApart more → AreApart (thread_parts t ++ more)
thread_fits t ok more apart =
    line_fits 0 (ended (fixed kind.Thread ∷ space ∷ name_parts t.name)) more
    (inl (reserved refl), tt, (inl (name ok), refl, (inr refl, tt, apart)))

-- One after the other.
module _ {X : Type 0} (Ok : X → Type 0) (show : X → List Part)
    (fits : (x : X) → Ok x → (more : List Part) → AreApart more → AreApart (show x ++ more)) where
  all_fit : (xs : List X) → AllByRecursion Ok xs → (more : List Part) → AreApart more → AreApart (joined (map show xs) ++ more)
  all_fit [] all more apart = apart
  all_fit (x ∷ xs) all more apart =
      put _ (show x ++ (joined (map show xs) ++ more)) (append_assoc (show x) (joined (map show xs)) more)
      (fits x all.0 (joined (map show xs) ++ more) (all_fit xs all.1 more apart))

-- All that is printed for a tree of the grammar stands apart.
pub program_apart : (t : Tree) → InGrammar t → AreApart (program_parts t)
program_apart t ok =
    let from_threads : List Part = joined (map thread_parts t.threads) in
    let h1 : AreApart from_threads =
    put _ (from_threads ++ []) (sym (append-nil from_threads))
    (all_fit ThreadInGrammar thread_parts thread_fits t.threads ok.threads [] tt) in
    declaration_fits t.globals ok.globals 0 (joined (map procedure_parts t.procedures) ++ from_threads)
    (all_fit ProcedureInGrammar procedure_parts procedure_fits t.procedures ok.procedures from_threads h1)
