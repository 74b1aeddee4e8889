-- The parts of statements, read exactly as the grammar says.
use Rattle.std.proofs.Common.{◌≡◌, ℕ, Bool, true, false, ◌||◌, List, [], ◌∷◌, Some, refl, ap}
use Rattle.language.specs.Tree.{Name, Operator, Expression, RightSide, any, value}
use Rattle.tokens.specs.declared.vocabulary.Kind.{Kind}
use Rattle.tokens.specs.declared.vocabulary.Kind.TheVariants as kind
use Rattle.tokens.specs.Token.{Tok, same_kind}
use Rattle.syntax.specs.Parser.{Strict, give, ◌>>=◌, begins, take}
use Rattle.grammar.specs.Grammar.{Takes, takes, name_at, operator_at, Reads, reads_zero, reads_one, reads_name, reads_not, reads_paren}
use Rattle.grammar.specs.Grammar.{reads_two, IsName, is_name, InParens, Listed, Perhaps, IsExpression, IsRight, is_any, is_value}
use Rattle.syntax.specs.Exact.{binds, name, name_list, expression, right, rights, formals, argument_list, enclosed, condition, names_call}
use Rattle.syntax.proofs.KindTests.{same_kind-true, same_kind-is}
use Rattle.syntax.proofs.Fixes.{Strict-Shrinks, Shrinks-give, Strict-take, Strict-bind}
use Rattle.syntax.proofs.ChainLemmas.{Finding-give, Finding-bind, Finding-take, Finding-last, Finding-choice, Strict-choice, Reading}
use Rattle.syntax.proofs.ChainLemmas.{take_is, kind_taken}
use Rattle.syntax.proofs.Expressions.{Stops, stops_end, stops_at, reading_finds, reading_complete, reading_strict}
use Rattle.syntax.proofs.Exactly.{Exactly, exactly, Anything, begins_takes, NoComma, exactly_list, exactly_parens, exactly_perhaps}
use Rattle.syntax.proofs.Exactly.{Strict-list, strict_parens, shrinks_perhaps}

-- names
pub strict_name : Strict name
strict_name = Strict-bind (Strict-take kind.Id) (λ t. Shrinks-give (name_at t))

pub exactly_name : Exactly IsName Anything name
exactly_name = exactly (λ ts. Finding-take (λ t us found same. Finding-give (rw same (is_name (kind_taken (rw same at found)))))) went
  where
    went : (ts : List Tok) (x : Name) (rest : List Tok) → IsName ts x rest → Unit {0} → Reading name ts x rest
    went ts x rest (is_name e) u = record { is = rw (same_kind-is e) refl }

-- the kinds that begin an expression
abbrev opens : Kind → Bool
opens k = same_kind k kind.Zero || same_kind k kind.One || same_kind k kind.Id || same_kind k kind.Not || same_kind k kind.Open

apart : (j k : Kind) → opens j ≡ true → opens k ≡ false → same_kind j k ≡ false
apart j k e f = by_test j k (same_kind j k) refl e f
  where
    by_test : (j k : Kind) (b : Bool) → same_kind j k ≡ b → opens j ≡ true → opens k ≡ false → b ≡ false
    by_test j k false s e f = refl
    by_test j k true s e f = let h : j ≡ k = same_kind-true s in let i : opens k ≡ true = rw h at e in cc

pub begins_no : {l : ℕ} {ts rest : List Tok} {e : Expression Name} (k : Kind) → opens k ≡ false → Reads l ts e rest → begins k ts ≡ false
unfolding same_kind
begins_no k h (reads_zero {t = t} e) = apart t.kind k (rw e refl) h
begins_no k h (reads_one {t = t} e) = apart t.kind k (rw e refl) h
begins_no k h (reads_name {t = t} e) = apart t.kind k (rw e refl) h
begins_no k h (reads_not {t = t} e r) = apart t.kind k (rw e refl) h
begins_no k h (reads_paren {t = t} e r c) = apart t.kind k (rw e refl) h
begins_no k h (reads_two o low left op r) = begins_no k h left

-- after a name at the beginning of an expression comes an operator or what follows the expression, and so no `(`
operator_no_open : (t : Tok) (us : List Tok) (o : Operator) → operator_at t.kind ≡ Some o → begins kind.Open (t ∷ us) ≡ false
unfolding same_kind
operator_no_open t us o e = by_test (same_kind t.kind kind.Open) refl
  where
    by_test : (b : Bool) → same_kind t.kind kind.Open ≡ b → b ≡ false
    by_test false s = refl
    by_test true s = let h : t.kind ≡ kind.Open = same_kind-true s in let i : operator_at kind.Open ≡ Some o = rw h at e in cc

pub names_no_call : {l : ℕ} {ts rest : List Tok} {e : Expression Name} → Reads l ts e rest → begins kind.Open rest ≡ false
    → names_call ts ≡ false
unfolding same_kind names_call
names_no_call (reads_zero is) h = rw is refl
names_no_call (reads_one is) h = rw is refl
names_no_call (reads_name is) h = rw (is, h) refl
names_no_call (reads_not is r) h = rw is refl
names_no_call (reads_paren is r c) h = rw is refl
names_no_call (reads_two {t = t} {us = us} o low first op second) h = names_no_call first (operator_no_open t us o op)

-- expressions
pub strict_expression : Strict expression
strict_expression = reading_strict 0

pub exactly_expression : Exactly IsExpression (Stops 0) expression
exactly_expression = record {
  finds = λ ts x rest e. (reading_finds 0 ts x rest e).0;
  reads = λ ts x rest r s. reading_complete r s;
}

-- right sides
pub strict_right : Strict right
strict_right =
    Strict-choice (take kind.Any >>= λ _. give any) (expression >>= λ e. give (value e)) (begins kind.Any) (λ ts. refl)
    (Strict-bind (Strict-take kind.Any) (λ t. Shrinks-give any)) (Strict-bind strict_expression (λ e. Shrinks-give (value e)))

pub exactly_right : Exactly IsRight (Stops 0) right
unfolding same_kind
exactly_right =
    exactly
    (λ ts. Finding-choice (take kind.Any >>= λ _. give any) (expression >>= λ e. give (value e)) (begins kind.Any ts) refl
    (λ _. Finding-last (λ rest t. is_any t))
    (λ _. Finding-bind expression (λ e us r. Finding-give (is_value (exactly_expression.finds ts e us r)))))
    went
  where
    went : (ts : List Tok) (x : RightSide Name) (rest : List Tok) → IsRight ts x rest → Stops 0 rest → Reading right ts x rest
    went ts x rest (is_any t) s = record { is = rw (begins_takes t, (take_is t).1) refl }
    went ts x rest (is_value {e = e} r) s =
        record { is = rw (begins_no kind.Any refl r, exactly_expression.reads ts e rest r s) refl }

-- a comma and a closing parenthesis are not operators
pub comma_stops : (us : List Tok) → begins kind.Comma us ≡ true → Stops 0 us
comma_stops [] e = stops_end
comma_stops (t ∷ us) e = stops_at (ap (binds 0) (same_kind-true e))

pub close_stops : (us rest : List Tok) → Takes kind.Close us rest → Stops 0 us
close_stops us rest (takes e) = stops_at (ap (binds 0) e)

pub semicolon_stops : (us rest : List Tok) → Takes kind.Semicolon us rest → Stops 0 us
semicolon_stops us rest (takes e) = stops_at (ap (binds 0) e)

-- lists of names and right sides, formals, arguments, tests
pub exactly_names : Exactly (Listed IsName) (NoComma Anything) name_list
exactly_names = exactly_list strict_name exactly_name (λ us e. tt)

pub strict_names : Strict name_list
strict_names = Strict-list strict_name

pub exactly_rights : Exactly (Listed IsRight) (NoComma (Stops 0)) rights
exactly_rights = exactly_list strict_right exactly_right comma_stops

pub strict_rights : Strict rights
strict_rights = Strict-list strict_right

name_begins : (ts : List Tok) (x : Name) (us : List Tok) → IsName ts x us → begins kind.Close ts ≡ false
unfolding same_kind
name_begins ts x us (is_name e) = rw e refl

pub exactly_formals : Exactly (InParens (Perhaps IsName)) Anything formals
unfolding enclosed
exactly_formals =
    exactly_parens (exactly_perhaps strict_name exactly_name (λ us e. tt) (λ us rest t. tt) name_begins) (λ us rest t. begins_takes t)

pub exactly_arguments : Exactly (InParens (Perhaps IsExpression)) Anything argument_list
unfolding enclosed same_kind
exactly_arguments =
    exactly_parens
    (exactly_perhaps strict_expression exactly_expression comma_stops close_stops (λ ts x us r. begins_no kind.Close refl r))
    (λ us rest t. begins_takes t)

pub exactly_test : Exactly (InParens IsRight) Anything condition
unfolding condition
exactly_test = exactly_parens exactly_right close_stops

pub strict_formals : Strict formals
unfolding enclosed
strict_formals = strict_parens (shrinks_perhaps strict_name)

pub strict_arguments : Strict argument_list
unfolding enclosed
strict_arguments = strict_parens (shrinks_perhaps strict_expression)

pub strict_test : Strict condition
unfolding condition
strict_test = strict_parens (Strict-Shrinks strict_right)
