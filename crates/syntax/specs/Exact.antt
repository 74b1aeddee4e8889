-- The grammar once more, as functions.
use Rattle.std.specs.Prelude.{ℕ, Bool, true, false, nat_le, ◌&&◌, ◌||◌, List, [], ◌∷◌, ◌++◌, cond, Option, Some, None, option_and_then}
use Rattle.language.specs.Tree.{Name, Operator, Expression, const, var, negation, two, RightSide, any, value, skip, assign, assert, assume}
use Rattle.language.specs.Tree.{goto, leave, leave_with, call, call_for, Mark, Block, done, Procedure, ThreadLine, Tree}
use Rattle.tokens.specs.declared.vocabulary.Kind.{Kind}
use Rattle.tokens.specs.declared.vocabulary.Kind.TheVariants as kind
use Rattle.tokens.specs.Token.{Tok, same_kind}
use Rattle.syntax.specs.Parser.{Parser, give, refuse, ◌>>=◌, begins, take, fix, many}
use Rattle.grammar.specs.Grammar.{name_at, operator_at, level, right_level, joined}
use Rattle.trees.specs.Trees.{Deed, simple, branch, repeat, Item, before, all_before}

-- What is read: an expression of this level, or what follows the expression read so far.
pub data Goal : Type 0 where
  from : ℕ → Goal
  after : ℕ → Expression Name → Goal

-- the operator that a token of this kind is, if it binds at this level or above
abbrev pub binds : ℕ → Kind → Option Operator
binds least token_kind = option_and_then (λ o. cond (nat_le least (level o)) (Some o) None) (operator_at token_kind)

-- an operand that begins with this token
abbrev pub operand_step : (Goal → Parser (Expression Name)) → Tok → Parser (Expression Name)
operand_step rec token =
    cond (same_kind token.kind kind.Zero) (give (const false))
    (cond (same_kind token.kind kind.One) (give (const true))
    (cond (same_kind token.kind kind.Id) (give (var (name_at token)))
    (cond (same_kind token.kind kind.Not) (rec (from 5) >>= λ e. give (negation e))
    (cond (same_kind token.kind kind.Open) (rec (from 0) >>= λ e. take kind.Close >>= λ _. give e)
    refuse))))

-- the operator comes next, and then its right side
abbrev pub go_on : (Goal → Parser (Expression Name)) → ℕ → Expression Name → Tok → List Tok → Option Operator
    → Option (Expression Name × List Tok)
go_on rec least left token tokens None = Some (left, token ∷ tokens)
go_on rec least left token tokens (Some operator) =
    (rec (from (right_level operator)) >>= λ b. rec (after least (two operator left b))) tokens

abbrev pub expression_step : (Goal → Parser (Expression Name)) → Goal → Parser (Expression Name)
expression_step rec (from least) [] = None
expression_step rec (from least) (token ∷ tokens) = (operand_step rec token >>= λ a. rec (after least a)) tokens
expression_step rec (after least left) [] = Some (left, [])
expression_step rec (after least left) (token ∷ tokens) = go_on rec least left token tokens (binds least token.kind)

unfoldable pub reading : Goal → Parser (Expression Name)
reading = fix expression_step

-- an operand
unfoldable pub operand : Parser (Expression Name)
operand [] = None
operand (token ∷ tokens) = operand_step reading token tokens

-- a name
abbrev pub name : Parser Name
name = take kind.Id >>= λ t. give (name_at t)

-- this after a comma, again and again
abbrev pub more : {X : Type 0} → Parser X → Parser (List X)
more parser = many (begins kind.Comma) (take kind.Comma >>= λ _. parser)

-- this once or more often, with a comma before each but the first
unfoldable pub list : {X : Type 0} → Parser X → Parser (List X)
list parser = parser >>= λ x. more parser >>= λ xs. give (x ∷ xs)

-- a token of this kind after x
abbrev pub closing : {X : Type 0} → Kind → X → Parser X
closing token_kind x = take token_kind >>= λ _. give x

-- this, with a token of this kind after it
abbrev pub closed : {X : Type 0} → Kind → Parser X → Parser X
closed token_kind parser = parser >>= λ x. closing token_kind x

-- a list with a token of this kind after it
abbrev pub listed : {X : Type 0} → Parser X → Kind → Parser (List X)
listed parser token_kind = closed token_kind (list parser)

-- this once, and again while the test holds
unfoldable pub repeated : {X : Type 0} → (List Tok → Bool) → Parser X → Parser (List X)
repeated test parser = parser >>= λ x. many test parser >>= λ xs. give (x ∷ xs)

-- this in parentheses
abbrev pub parens : {X : Type 0} → Parser X → Parser X
parens parser = take kind.Open >>= λ _. parser >>= λ x. take kind.Close >>= λ _. give x

-- nothing before a closing parenthesis, and else a list
abbrev pub perhaps : {X : Type 0} → Parser X → Parser (List X)
perhaps parser ts = cond (begins kind.Close ts) (Some ([], ts)) (list parser ts)

-- a list in parentheses, which may be empty
unfoldable pub enclosed : {X : Type 0} → Parser X → Parser (List X)
enclosed parser = parens (perhaps parser)

-- an expression
abbrev pub expression : Parser (Expression Name)
expression = reading (from 0)

-- a right side
abbrev pub right : Parser (RightSide Name)
right ts = cond (begins kind.Any ts) ((take kind.Any >>= λ _. give any) ts) ((expression >>= λ e. give (value e)) ts)

-- names and right sides, and names and expressions in parentheses, of which there may be none
abbrev pub name_list : Parser (List Name)
name_list = list name

abbrev pub rights : Parser (List (RightSide Name))
rights = list right

abbrev pub formals : Parser (List Name)
formals = enclosed name

abbrev pub argument_list : Parser (List (Expression Name))
argument_list = enclosed expression

unfoldable pub condition : Parser (RightSide Name)
condition = parens right

-- the mark of a statement
unfoldable pub marked : Parser (Mark Name)
marked [] = None
marked (token ∷ tokens) = cond (same_kind token.kind kind.Id && begins kind.Colon tokens)
    ((take kind.Colon >>= λ _. give (record { label = Some (name_at token); at = token.at })) tokens)
    (Some (record { label = None; at = token.at }, token ∷ tokens))

-- a semicolon, after what a statement does
abbrev pub semicolon_after : Deed → Parser Deed
semicolon_after d = take kind.Semicolon >>= λ _. give d

-- an assignment
unfoldable pub assignment : Parser Deed
assignment = listed name kind.Assign >>= λ xs. listed right kind.Semicolon >>= λ rs. give (simple (assign xs rs))

-- a call
unfoldable pub calling : Parser Deed
calling = name >>= λ p. argument_list >>= λ es. semicolon_after (simple (call p es))

-- a call for a value
unfoldable pub asking : Parser Deed
asking = closed kind.Assign name >>= λ x. name >>= λ p. argument_list >>= λ es. semicolon_after (simple (call_for x p es))

-- whether a token of this kind comes next, and after it what the test says
abbrev pub past : Kind → (List Tok → Bool) → List Tok → Bool
past token_kind test [] = false
past token_kind test (token ∷ tokens) = same_kind token.kind token_kind && test tokens

-- whether a name and `(` come next
unfoldable pub names_call : List Tok → Bool
names_call = past kind.Id (begins kind.Open)

-- whether `:=`, a name and `(` come next
unfoldable pub asks_behind : List Tok → Bool
asks_behind = past kind.Assign names_call

-- a call, a call for a value or an assignment, by the tokens after the name
unfoldable pub named : Tok → List Tok → Option (Deed × List Tok)
named token tokens =
    cond (begins kind.Open tokens) (calling (token ∷ tokens))
    (cond (asks_behind tokens) (asking (token ∷ tokens)) (assignment (token ∷ tokens)))

-- an `if`, after that word
abbrev pub branching : Parser (Block Name Name Name) → Parser Deed
branching block =
    closed kind.Then condition >>= λ r. closed kind.Else block >>= λ a. closed kind.Fi block >>= λ b. give (branch r a b)

-- a `while`, after that word
abbrev pub repeating : Parser (Block Name Name Name) → Parser Deed
repeating block = closed kind.Do condition >>= λ r. closed kind.Od block >>= λ a. give (repeat r a)

-- a `goto`, after that word
abbrev pub jumping : Parser Deed
jumping = name >>= λ l. semicolon_after (simple (goto l))

-- an `assert`, after that word
abbrev pub asserting : Parser Deed
asserting = closed kind.Semicolon condition >>= λ r. give (simple (assert r))

-- an `assume`, after that word
abbrev pub assuming : Parser Deed
assuming = closed kind.Semicolon condition >>= λ r. give (simple (assume r))

-- a value, after `return`
unfoldable pub giving : Parser Deed
giving = expression >>= λ e. semicolon_after (simple (leave_with e))

-- nothing or a value, after `return`
abbrev pub returning : Parser Deed
returning ts = cond (begins kind.Semicolon ts) (semicolon_after (simple leave) ts) (giving ts)

-- what a statement does that begins with this token
abbrev pub deed_by : Parser (Block Name Name Name) → Tok → Parser Deed
deed_by block token =
    cond (same_kind token.kind kind.Skip) (semicolon_after (simple skip))
    (cond (same_kind token.kind kind.Return) returning
    (cond (same_kind token.kind kind.Goto) jumping
    (cond (same_kind token.kind kind.Assert) asserting
    (cond (same_kind token.kind kind.Assume) assuming
    (cond (same_kind token.kind kind.If) (branching block)
    (cond (same_kind token.kind kind.While) (repeating block)
    (cond (same_kind token.kind kind.Id) (named token)
    refuse)))))))

-- what a statement does
abbrev pub deed_step : Parser (Block Name Name Name) → Parser Deed
deed_step block [] = None
deed_step block (token ∷ tokens) = deed_by block token tokens

-- whether a token of this kind begins a statement
abbrev pub starts : Kind → Bool
starts token_kind =
    same_kind token_kind kind.Skip || same_kind token_kind kind.Return || same_kind token_kind kind.Goto
    || same_kind token_kind kind.Assert || same_kind token_kind kind.Assume
    || same_kind token_kind kind.If || same_kind token_kind kind.While || same_kind token_kind kind.Id

-- whether a statement comes next
abbrev pub starts_here : List Tok → Bool
starts_here [] = false
starts_here (token ∷ tokens) = starts token.kind

-- a statement
abbrev pub item_step : Parser (Block Name Name Name) → Parser Item
item_step block = marked >>= λ m. deed_step block >>= λ d. give (record { mark = m; deed = d })

-- the statements that continue, if another comes
abbrev pub rest_step : Parser (Block Name Name Name) → Parser (Block Name Name Name)
rest_step block ts = cond (starts_here ts) (block ts) (Some (done, ts))

-- one statement or more
abbrev pub section_step : (Unit {0} → Parser (Block Name Name Name)) → Unit {0} → Parser (Block Name Name Name)
section_step rec u = item_step (rec tt) >>= λ i. rest_step (rec tt) >>= λ k. give (before i k)

unfoldable pub section : Parser (Block Name Name Name)
section = fix section_step tt

unfoldable pub deed : Parser Deed
deed = deed_step section

unfoldable pub if_deed : Parser Deed
if_deed = branching section

unfoldable pub while_deed : Parser Deed
while_deed = repeating section

unfoldable pub item : Parser Item
item = item_step section

unfoldable pub going_on : Parser (Block Name Name Name)
going_on = rest_step section

-- a declaration
unfoldable pub declaration : Parser (List Name)
declaration = take kind.Decl >>= λ _. listed name kind.Semicolon

-- declarations, as long as there are any
unfoldable pub all_declarations : Parser (List Name)
all_declarations = many (begins kind.Decl) declaration >>= λ nss. give (joined nss)

-- what is in a procedure: begin, its locals, its statements, end
unfoldable pub insides : Parser (List Name × Block Name Name Name)
insides = take kind.Begin >>= λ _. all_declarations >>= λ ls. closed kind.End section >>= λ b. give (ls, b)

-- a procedure
unfoldable pub procedure : Parser Procedure
procedure = name >>= λ n. formals >>= λ fs. insides >>= λ p. give (record { name = n; formals = fs; locals = p.0; body = p.1 })

-- procedures, as long as a name comes
abbrev pub procedures : Parser (List Procedure)
procedures = repeated (begins kind.Id) procedure

-- a thread line
unfoldable pub thread_line : Parser ThreadLine
thread_line = take kind.Thread >>= λ t. closed kind.Semicolon name >>= λ n. give (record { at = t.at; name = n })

-- whether any token comes
abbrev pub any_left : List Tok → Bool
any_left [] = false
any_left (token ∷ tokens) = true

-- thread lines, to the end
abbrev pub thread_lines : Parser (List ThreadLine)
thread_lines = repeated any_left thread_line

-- a program, and the tokens after it, which are none
unfoldable pub program : Parser Tree
program =
    all_declarations >>= λ gs. procedures >>= λ ps. thread_lines >>= λ ls. give (record { globals = gs; procedures = ps; threads = ls })

-- a list, with others in front
abbrev pub prepend : {X : Type 0} → List X → Option (List X × List Tok) → Option (List X × List Tok)
prepend xs None = None
prepend xs (Some p) = Some (xs ++ p.0, p.1)

-- statements, with others in front
abbrev pub put_before : List Item → Option (Block Name Name Name × List Tok) → Option (Block Name Name Name × List Tok)
put_before is None = None
put_before is (Some p) = Some (all_before is p.0, p.1)
