-- The function that reads expressions, and the grammar of expressions.
use Rattle.std.specs.Prelude.{nat_le, option_and_then}
use Rattle.std.proofs.Common.{◌≡◌, ℕ, zero, suc, ◌+◌, ◌<◌, ◌≤◌, Bool, true, false, cond, List, [], ◌∷◌, length, Option, Some, None, refl}
use Rattle.std.proofs.Common.{sym, ◌∙◌, ap, arith}
use Rattle.std.proofs.lemmas.Bool.Decides.{nat_tests}
use Rattle.language.specs.Tree.{Name, Operator, implies, Expression, two}
use Rattle.tokens.specs.declared.vocabulary.Kind.{Kind}
use Rattle.tokens.specs.declared.vocabulary.Kind.TheVariants as kind
use Rattle.tokens.specs.declared.vocabulary.Token.{Token}
use Rattle.tokens.specs.Token.{Tok, same_kind, tok_of, toks_of}
use Rattle.syntax.specs.Parser.{Parser, Strict}
use Rattle.grammar.specs.Grammar.{Takes, takes, operator_at, level, left_level, right_level, Reads, reads_zero, reads_one}
use Rattle.grammar.specs.Grammar.{reads_name, reads_not, reads_paren, reads_two}
use Rattle.syntax.specs.Exact.{Goal, from, after, binds, operand_step, go_on, expression_step, reading, operand}
use Rattle.syntax.proofs.ChainLemmas.{Finding, Finding-give, Finding-refuse, Finding-bind, Finding-last, Finding-kind, take_is}
use Rattle.syntax.proofs.Fixes.{both, between, bind_is, Shrinks, Agree, Strict-Shrinks, Shrinks-give, Shrinks-refuse, Strict-take}
use Rattle.syntax.proofs.Fixes.{Shrinks-bind, Agree-same, Agree-bind, Shrinks-cond, Agree-cond, IsStep, fix_shrinks, fix_is, Finds}
use Rattle.syntax.proofs.Fixes.{fix_finds, carried}

operand_shrinks : (f : Goal → Parser (Expression Name)) → ((i : Goal) → Shrinks (f i)) → (t : Tok) → Shrinks (operand_step f t)
operand_shrinks f s t = search (s, Shrinks-cond, Shrinks-bind, Shrinks-give, Shrinks-refuse, Strict-Shrinks, Strict-take) depth 12

operand_agrees : (n : ℕ) (f g : Goal → Parser (Expression Name)) → ((i : Goal) → Shrinks (f i)) → ((i : Goal) → Agree n (f i) (g i))
    → (t : Tok) → Agree n (operand_step f t) (operand_step g t)
operand_agrees n f g s a t = search (a, s, Agree-cond, Agree-bind, Agree-same) depth 12

go_on_shrinks : (f : Goal → Parser (Expression Name)) → ((i : Goal) → Shrinks (f i))
    → (l : ℕ) (a : Expression Name) (t : Tok) (ts : List Tok) (o : Option Operator) (e : Expression Name) (rest : List Tok)
    → go_on f l a t ts o ≡ Some (e, rest) → length rest ≤ length (t ∷ ts)
go_on_shrinks f s l a t ts None e rest h = let j = (both h).1 in rw (← j) (omega arith)
go_on_shrinks f s l a t ts (Some o) e rest h =
    let j : length rest ≤ length ts = (Shrinks-bind (s (from (right_level o))) (λ b. s (after l (two o a b)))).by ts e rest h in
    omega arith

go_on_agrees : (n : ℕ) (f g : Goal → Parser (Expression Name)) → ((i : Goal) → Shrinks (f i)) → ((i : Goal) → Agree n (f i) (g i))
    → (l : ℕ) (a : Expression Name) (t : Tok) (ts : List Tok) (o : Option Operator) → length ts < n
    → go_on f l a t ts o ≡ go_on g l a t ts o
go_on_agrees n f g s h l a t ts None below = refl
go_on_agrees n f g s h l a t ts (Some o) below =
    (Agree-bind (h (from (right_level o))) (s (from (right_level o))) (λ b. h (after l (two o a b)))).at ts below

step_shrinks : (f : Goal → Parser (Expression Name)) → ((i : Goal) → Shrinks (f i))
    → (i : Goal) (ts : List Tok) (e : Expression Name) (rest : List Tok) → expression_step f i ts ≡ Some (e, rest) → length rest ≤ length ts
step_shrinks f s (from l) [] e rest h = cc
step_shrinks f s (from l) (t ∷ ts) e rest h =
    let j : length rest ≤ length ts = (Shrinks-bind (operand_shrinks f s t) (λ a. s (after l a))).by ts e rest h in
    omega arith
step_shrinks f s (after l a) [] e rest h = let j = (both h).1 in rw (← j) (omega arith)
step_shrinks f s (after l a) (t ∷ ts) e rest h = go_on_shrinks f s l a t ts (binds l t.kind) e rest h

step_agrees : (n : ℕ) (f g : Goal → Parser (Expression Name)) → ((i : Goal) → Shrinks (f i)) → ((i : Goal) → Agree n (f i) (g i))
    → (i : Goal) (ts : List Tok) → length ts < suc n → expression_step f i ts ≡ expression_step g i ts
step_agrees n f g s a (from l) [] below = refl
step_agrees n f g s a (from l) (t ∷ ts) below =
    (Agree-bind (operand_agrees n f g s a t) (operand_shrinks f s t) (λ e. a (after l e))).at ts (omega arith)
step_agrees n f g s a (after l e) [] below = refl
step_agrees n f g s a (after l e) (t ∷ ts) below = go_on_agrees n f g s a l e t ts (binds l t.kind) (omega arith)

pub expression_is_step : IsStep expression_step
expression_is_step = record {
  keeps = λ f s i. record { by = step_shrinks f s i };
  local = λ n f g s a i. record { at = step_agrees n f g s a i };
}

pub reading_is : (i : Goal) (ts : List Tok) → reading i ts ≡ expression_step reading i ts
unfolding reading
reading_is = fix_is expression_step expression_is_step

pub reading_shrinks : (i : Goal) → Shrinks (reading i)
unfolding reading
reading_shrinks = fix_shrinks expression_step expression_is_step

-- no operator of this level or above comes next
pub data Stops (l : ℕ) : List Tok → Type 0 where
  stops_end : Stops l []
  stops_at : {t : Tok} {ts : List Tok} → binds l t.kind ≡ None → Stops l (t ∷ ts)

-- an operator binds at its own level and below it, and at no other
some_binds : (l : ℕ) (k : Kind) (o : Operator) → operator_at k ≡ Some o → l ≤ level o → binds l k ≡ Some o
some_binds l k o e h = rw e (grind (arith, nat_tests))

binds_some : (l : ℕ) (p : Option Operator) (o : Operator) → option_and_then (λ o. cond (nat_le l (level o)) (Some o) None) p ≡ Some o
    → (p ≡ Some o) × (l ≤ level o)
binds_some l None o e = cc
binds_some l (Some q) o e = by_test l q o (nat_le l (level q)) refl e
  where
    by_test : (l : ℕ) (q o : Operator) (b : Bool) → nat_le l (level q) ≡ b → cond {A = Option Operator} b (Some q) None ≡ Some o
        → (Some q ≡ Some o) × (l ≤ level o)
    by_test l q o true h e = let j : q ≡ o = cc in (ap Some j, rw (← j) (grind (arith, nat_tests)))
    by_test l q o false h e = cc

none_binds : (l : ℕ) (k : Kind) (o : Operator) → operator_at k ≡ Some o → binds l k ≡ None → level o < l
none_binds l k o e h = by_test l o (nat_le l (level o)) refl (rw e at h)
  where
    by_test : (l : ℕ) (o : Operator) (b : Bool) → nat_le l (level o) ≡ b → cond {A = Option Operator} b (Some o) None ≡ None → level o < l
    by_test l o true h e = cc
    by_test l o false h e = grind (arith, nat_tests)

weaker_none : (l m : ℕ) (p : Option Operator) → l ≤ m → option_and_then (λ o. cond (nat_le l (level o)) (Some o) None) p ≡ None
    → option_and_then (λ o. cond (nat_le m (level o)) (Some o) None) p ≡ None
weaker_none l m None h e = refl
weaker_none l m (Some o) h e = by_test l m o (nat_le l (level o)) refl h e
  where
    by_test : (l m : ℕ) (o : Operator) (b : Bool) → nat_le l (level o) ≡ b → l ≤ m → cond {A = Option Operator} b (Some o) None ≡ None
        → cond {A = Option Operator} (nat_le m (level o)) (Some o) None ≡ None
    by_test l m o true h j e = cc
    by_test l m o false h j e = let k : nat_le m (level o) ≡ false = grind (arith, nat_tests) in rw k refl

pub Stops-weaker : {l m : ℕ} {ts : List Tok} → l ≤ m → Stops l ts → Stops m ts
Stops-weaker h stops_end = stops_end
Stops-weaker {l} {m} h (stops_at {t} {ts} e) = stops_at (weaker_none l m (operator_at t.kind) h e)

-- at level 5 nothing binds
none_at_5 : (p : Option Operator) → option_and_then (λ o. cond (nat_le 5 (level o)) (Some o) None) p ≡ None
none_at_5 None = refl
none_at_5 (Some implies) = refl
none_at_5 (Some _) = refl

pub Stops-5 : (ts : List Tok) → Stops 5 ts
Stops-5 [] = stops_end
Stops-5 (t ∷ ts) = stops_at (none_at_5 (operator_at t.kind))

-- if no operator comes next, what was read is all
reading_stops : (l : ℕ) (a : Expression Name) (ts : List Tok) → Stops l ts → reading (after l a) ts ≡ Some (a, ts)
reading_stops l a [] stops_end = reading_is (after l a) []
reading_stops l a (t ∷ ts) (stops_at e) = reading_is (after l a) (t ∷ ts) ∙ ap (go_on reading l a t ts) e

-- if an operator comes next, its right side is read
reading_goes_on : (l : ℕ) (a b : Expression Name) (t : Tok) (us rest : List Tok) (o : Operator) → l ≤ level o → operator_at t.kind ≡ Some o
    → reading (from (right_level o)) us ≡ Some (b, rest) → reading (after l a) (t ∷ us) ≡ reading (after l (two o a b)) rest
reading_goes_on l a b t us rest o h op e =
    reading_is (after l a) (t ∷ us) ∙ ap (go_on reading l a t us) (some_binds l t.kind o op h)
    ∙ bind_is (reading (from (right_level o))) (λ b. reading (after l (two o a b))) us b rest e

-- the start of an expression is read as its operand, and what follows continues from there
reading_starts : (l : ℕ) (a : Expression Name) (t : Tok) (ts rest : List Tok) → operand_step reading t ts ≡ Some (a, rest)
    → reading (from l) (t ∷ ts) ≡ reading (after l a) rest
reading_starts l a t ts rest e =
    reading_is (from l) (t ∷ ts) ∙ bind_is (operand_step reading t) (λ a. reading (after l a)) ts a rest e

-- what may not come next after an expression of this level, for the expression to be whole
abbrev bound : ℕ → ℕ
bound zero = 0
bound (suc l) = suc (suc l)

-- the levels of an operator's sides
left_levels : (o : Operator) → (level o < bound (left_level o)) × (level o ≤ left_level o)
left_levels implies = (omega arith, omega arith)
left_levels _ = (omega arith, omega arith)

bound_right : (o : Operator) (m : ℕ) → m ≤ level o → bound m ≤ right_level o
bound_right implies zero h = omega arith
bound_right implies (suc m) h = absurd (omega arith)
bound_right o zero h = omega arith
bound_right o (suc m) h = omega arith

bound_above : (l : ℕ) → l ≤ bound l
bound_above zero = omega arith
bound_above (suc l) = omega arith

bound_bound_right : (o : Operator) (m : ℕ) → m ≤ level o → bound m ≤ bound (right_level o)
bound_bound_right o m h =
    let below : bound m ≤ right_level o = bound_right o m h in
    let above : right_level o ≤ bound (right_level o) = bound_above (right_level o) in
    omega arith

close_stops : {l : ℕ} {us rest : List Tok} → Takes kind.Close us rest → Stops l us
close_stops {l} (takes {t} {rest} e) = stops_at (ap (binds l) e)

operator_stops : (l : ℕ) (t : Tok) (us : List Tok) (o : Operator) → operator_at t.kind ≡ Some o → level o < l → Stops l (t ∷ us)
operator_stops l t us o e h = stops_at (rw e (let j : nat_le l (level o) ≡ false = grind (arith, nat_tests) in rw j refl))

-- reading comes past each expression of the grammar
passes : {m : ℕ} {ts rest : List Tok} {a : Expression Name} → Reads m ts a rest → (l : ℕ) → l ≤ m → Stops (bound m) rest
    → reading (from l) ts ≡ reading (after l a) rest
unfolding same_kind
passes (reads_zero {t = t} {rest = rest} e) l h s = reading_starts l _ t rest rest (rw e refl)
passes (reads_one {t = t} {rest = rest} e) l h s = reading_starts l _ t rest rest (rw e refl)
passes (reads_name {t = t} {rest = rest} e) l h s = reading_starts l _ t rest rest (rw e refl)
passes (reads_not {t = t} {ts = ts} {rest = rest} {e = a} e r) l h s =
    let inner : reading (from 5) ts ≡ Some (a, rest) = passes r 5 (omega arith) (Stops-weaker (omega arith) (Stops-5 rest))
    ∙ reading_stops 5 a rest (Stops-5 rest) in
    reading_starts l _ t ts rest (rw (e, inner) refl)
passes (reads_paren {t = t} {ts = ts} {us = us} {rest = rest} {e = a} e r c) l h s =
    let inner : reading (from 0) ts ≡ Some (a, us) = passes r 0 (omega arith) (close_stops c) ∙ reading_stops 0 a us (close_stops c) in
    reading_starts l _ t ts rest (rw (e, inner, (take_is c).1) refl)
passes {m} (reads_two {t = t} {ts = ts} {us = us} {rest = rest} {a = a} {b = b} o low left op right) l h s =
    let first : reading (from l) ts ≡ reading (after l a) (t ∷ us) =
    passes left l (let j = (left_levels o).1 in omega arith) (operator_stops (bound (left_level o)) t us o op (left_levels o).0) in
    let ends : Stops (right_level o) rest = Stops-weaker (bound_right o m low) s in
    let second : reading (from (right_level o)) us ≡ Some (b, rest) =
    passes right (right_level o) (omega arith) (Stops-weaker (bound_bound_right o m low) s) ∙ reading_stops (right_level o) b rest ends in
    first ∙ reading_goes_on l a b t us rest o (omega arith) op second

-- what the grammar has is read
pub reading_complete : {l : ℕ} {ts rest : List Tok} {a : Expression Name} → Reads l ts a rest → Stops l rest
    → reading (from l) ts ≡ Some (a, rest)
reading_complete {l} {ts} {rest} {a} r s = passes r l (omega arith) (Stops-weaker (bound_above l) s) ∙ reading_stops l a rest s

-- an expression of a level is one of each lower level
lower : {m : ℕ} {ts rest : List Tok} {a : Expression Name} → Reads m ts a rest → (l : ℕ) → l ≤ m → Reads l ts a rest
lower (reads_zero e) l h = reads_zero e
lower (reads_one e) l h = reads_one e
lower (reads_name e) l h = reads_name e
lower (reads_not e r) l h = reads_not e r
lower (reads_paren e r c) l h = reads_paren e r c
lower (reads_two o low left op right) l h = reads_two o (omega arith) left op right

-- an operator of level l or above comes next
data Next : List Tok → Operator → Type 0 where
  next : {t : Tok} {ts : List Tok} {o : Operator} → operator_at t.kind ≡ Some o → Next (t ∷ ts) o

-- what was read so far from ts on may stand left of each operator that may come next
record Ready (l : ℕ) (ts : List Tok) (a : Expression Name) (us : List Tok) : Type 0 where
  m : ℕ
  above : l ≤ m
  reads : Reads m ts a us
  left : (o : Operator) → Next us o → left_level o ≤ m

abbrev Found : Goal → List Tok → Expression Name → List Tok → Type 0
Found (from l) ts e rest = Reads l ts e rest × Stops l rest
Found (after l a) us e rest = (ts : List Tok) → Ready l ts a us → Reads l ts e rest × Stops l rest

small_left : (o : Operator) → left_level o ≤ 5
small_left implies = omega arith
small_left _ = omega arith

-- an operator of a level at least 1 and at most n may stand left of one of level n
left_within : (p : Operator) (n : ℕ) → level p ≤ n → 1 ≤ n → left_level p ≤ n
left_within implies n h least = omega arith
left_within _ n h least = omega arith

next_left : (o p : Operator) → level p < right_level o → left_level p ≤ level o
next_left implies p h = absurd (omega arith)
next_left o p h = left_within p (level o) (omega arith) (omega arith)

stops_next : {l : ℕ} {us : List Tok} {o : Operator} → Stops l us → Next us o → level o < l
stops_next stops_end x = elim x [ ]
stops_next {l} (stops_at {t} e) (next {o = o} h) = none_binds l t.kind o h e

-- what is read at the start is an operand of each level
operand_finds : (f : Goal → Parser (Expression Name)) → Finds Found f → (t : Tok) (ts : List Tok) (m : ℕ)
    → Finding (operand_step f t) ts (Reads m (t ∷ ts))
operand_finds f sound t ts m =
    Finding-kind t (λ is. Finding-give (reads_zero is))
    (Finding-kind t (λ is. Finding-give (reads_one is))
    (Finding-kind t (λ is. Finding-give (reads_name is))
    (Finding-kind t (λ is. Finding-bind (f (from 5)) (λ e us r. Finding-give (reads_not is (sound (from 5) ts e us r).0)))
    (Finding-kind t (λ is. Finding-bind (f (from 0)) (λ e us r. Finding-last (λ rest c. reads_paren is (sound (from 0) ts e us r).0 c)))
    Finding-refuse))))

go_on_finds : (f : Goal → Parser (Expression Name)) → Finds Found f
    → (l : ℕ) (a : Expression Name) (t : Tok) (us : List Tok) (o : Option Operator) → binds l t.kind ≡ o
    → (e : Expression Name) (rest : List Tok) → go_on f l a t us o ≡ Some (e, rest) → (ts : List Tok) → Ready l ts a (t ∷ us)
    → Reads l ts e rest × Stops l rest
go_on_finds f sound l a t us None is e rest h ts ready =
    carried (λ e rest. Reads l ts e rest × Stops l rest) h (lower ready.reads l ready.above, stops_at is)
go_on_finds f sound l a t us (Some o) is e rest h ts ready =
    let b = between (f (from (right_level o))) (λ b. f (after l (two o a b))) us e rest h in
    let op = binds_some l (operator_at t.kind) o is in
    let right = sound (from (right_level o)) us b.x b.us b.first in
    let left : Reads (left_level o) ts a (t ∷ us) = lower ready.reads (left_level o) (ready.left o (next op.0)) in
    sound (after l (two o a b.x)) b.us e rest b.second ts (record {
      m = level o;
      above = op.1;
      reads = reads_two o (omega arith) left op.0 right.0;
      left = λ p n. next_left o p (stops_next right.1 n);
    })

step_finds : (f : Goal → Parser (Expression Name)) → Finds Found f → Finds Found (expression_step f)
step_finds f sound (from l) [] e rest h = cc
step_finds f sound (from l) (t ∷ ts) e rest h =
    let b = between (operand_step f t) (λ a. f (after l a)) ts e rest h in
    sound (after l b.x) b.us e rest b.second (t ∷ ts) (record {
      m = l + 5;
      above = omega arith;
      reads = (operand_finds f sound t ts (l + 5)).by b.x b.us b.first;
      left = λ o n. let j = small_left o in omega arith;
    })
step_finds f sound (after l a) [] e rest h = λ ts ready.
    carried (λ e rest. Reads l ts e rest × Stops l rest) h (lower ready.reads l ready.above, stops_end)
step_finds f sound (after l a) (t ∷ us) e rest h = λ ts ready. go_on_finds f sound l a t us (binds l t.kind) refl e rest h ts ready

-- what is read is in the grammar, and nothing that would make it longer comes next
pub reading_finds : (l : ℕ) (ts : List Tok) (e : Expression Name) (rest : List Tok) → reading (from l) ts ≡ Some (e, rest)
    → Reads l ts e rest × Stops l rest
unfolding reading
reading_finds l ts e rest h = fix_finds expression_step Found step_finds (from l) ts e rest h

-- the steps of reading, as the loop takes them
pub starts : (l : ℕ) (ts : List Tok) (a : Expression Name) (rest : List Tok) → operand ts ≡ Some (a, rest)
    → reading (from l) ts ≡ reading (after l a) rest
unfolding operand
starts l [] a rest e = cc
starts l (t ∷ ts) a rest e = reading_starts l a t ts rest e

pub no_start : (l : ℕ) (ts : List Tok) → operand ts ≡ None → reading (from l) ts ≡ None
unfolding operand
no_start l [] e = reading_is (from l) []
no_start l (t ∷ ts) e = reading_is (from l) (t ∷ ts) ∙ rw e refl

pub stops_here : (l : ℕ) (a : Expression Name) (t : Tok) (us : List Tok) → binds l t.kind ≡ None
    → reading (after l a) (t ∷ us) ≡ Some (a, t ∷ us)
stops_here l a t us e = reading_stops l a (t ∷ us) (stops_at e)

pub stops_at_end : (l : ℕ) (a : Expression Name) → reading (after l a) [] ≡ Some (a, [])
stops_at_end l a = reading_stops l a [] stops_end

pub goes_on : (l : ℕ) (a b : Expression Name) (t : Tok) (us rest : List Tok) (o : Operator) → binds l t.kind ≡ Some o
    → reading (from (right_level o)) us ≡ Some (b, rest) → reading (after l a) (t ∷ us) ≡ reading (after l (two o a b)) rest
goes_on l a b t us rest o e f =
    reading_is (after l a) (t ∷ us) ∙ ap (go_on reading l a t us) e
    ∙ bind_is (reading (from (right_level o))) (λ b. reading (after l (two o a b))) us b rest f

pub no_right : (l : ℕ) (a : Expression Name) (t : Tok) (us : List Tok) (o : Operator) → binds l t.kind ≡ Some o
    → reading (from (right_level o)) us ≡ None → reading (after l a) (t ∷ us) ≡ None
no_right l a t us o e f = reading_is (after l a) (t ∷ us) ∙ ap (go_on reading l a t us) e ∙ rw f refl

pub ends_before : (l : ℕ) (a : Expression Name) (ts us : List Token) (t : Token) → ts ≡ t ∷ us → binds l t.kind ≡ None
    → reading (after l a) (toks_of ts) ≡ Some (a, toks_of ts)
ends_before l a ts us t e h = rw e (stops_here l a (tok_of t) (toks_of us) h)

pub reading_strict : (l : ℕ) → Strict (reading (from l))
reading_strict l = record { by = λ ts a rest e. by_list l ts a rest (sym (reading_is (from l) ts) ∙ e) }
  where
    by_list : (l : ℕ) (ts : List Tok) (a : Expression Name) (rest : List Tok) → expression_step reading (from l) ts ≡ Some (a, rest)
        → length rest < length ts
    by_list l [] a rest e = cc
    by_list l (t ∷ ts) a rest e =
        let j : length rest ≤ length ts =
        (Shrinks-bind (operand_shrinks reading reading_shrinks t) (λ a. reading_shrinks (after l a))).by ts a rest e in
        omega arith

-- what the loop over operators does
pub ruleset reading_steps = (starts, no_start, stops_here, stops_at_end, goes_on, no_right)

-- an operand is read as its first token says
pub operand_begins : (k : Kind) (ts us : List Token) (t : Token) → ts ≡ t ∷ us → t.kind ≡ k → operand (toks_of ts)
    ≡ operand_step reading (record { kind = k; at = t.at; text = t.text.now }) (toks_of us)
unfolding operand
operand_begins k ts us t e is = rw (e, is) refl
