-- The statements that the grammar has are read.
use Rattle.std.proofs.Common.{◌≡◌, Bool, true, false, ◌&&◌, List, [], ◌∷◌, Some, refl, ◌∙◌, ap, ◌⊎◌, inl, inr}
use Rattle.language.specs.Tree.{Name, Expression, RightSide, Simple, skip, assign, assert, assume, goto, leave, leave_with, call, call_for}
use Rattle.language.specs.Tree.{Mark, Block, one, choose, loop}
use Rattle.tokens.specs.declared.vocabulary.Kind.{Kind}
use Rattle.tokens.specs.declared.vocabulary.Kind.TheVariants as kind
use Rattle.tokens.specs.Token.{Tok, same_kind}
use Rattle.syntax.specs.Parser.{Parser, give, ◌>>=◌, begins, take}
use Rattle.grammar.specs.Grammar.{Takes, takes, name_at, IsName, is_name, behind, InParens, in_parens, no_more, one_more, Listed, listed}
use Rattle.grammar.specs.Grammar.{Perhaps, IsExpression, IsRight, is_any, is_value, IsMarked, bare, labelled, IsSimple, is_skip, is_return}
use Rattle.grammar.specs.Grammar.{is_give, is_goto, is_assert, is_assume, is_assign, is_call, is_call_for, IsSome, Statements, nothing_more}
use Rattle.grammar.specs.Grammar.{statement, if_statement, while_statement}
use Rattle.trees.specs.Trees.{Deed, simple, branch, repeat, before, marked_before}
use Rattle.syntax.specs.Exact.{name, name_list, expression, rights, argument_list, condition, marked, assignment, calling, asking}
use Rattle.syntax.specs.Exact.{names_call}
use Rattle.syntax.specs.Exact.{asks_behind, named, giving, branching, repeating, deed_by, deed_step, starts, starts_here}
use Rattle.syntax.specs.Exact.{item_step, rest_step, section, jumping, asserting, assuming}
use Rattle.syntax.proofs.KindTests.{same_kind-true, same_kind-is}
use Rattle.syntax.proofs.Fixes.{bind_is}
use Rattle.syntax.proofs.ChainLemmas.{Reading, Reading-give, Reading-bind, Reading-last, Reading-closed, take_is}
use Rattle.syntax.proofs.Exactly.{begins_takes, begins_other}
use Rattle.syntax.proofs.Parts.{exactly_name, exactly_names, exactly_expression, exactly_rights, exactly_arguments, exactly_test}
use Rattle.syntax.proofs.Parts.{begins_no, names_no_call, semicolon_stops}
use Rattle.syntax.proofs.Sections.{section_is}

-- a name begins a call, a call for a value or an assignment
by_name : (f : Parser (Block Name Name Name)) (t : Tok) → t.kind ≡ kind.Id → deed_by f t ≡ named t
unfolding same_kind
by_name f t e = rw e refl

-- one parser is another, at these tokens
at : {X : Type 0} {p q : Parser X} (ts : List Tok) → p ≡ q → p ts ≡ q ts
at ts e = ap (λ p. p ts) e

ends : {X : Type 0} {k : Kind} {ts rest : List Tok} (x : X) → Takes k ts rest → (take k >>= λ _. give x) ts ≡ Some (x, rest)
ends {k = k} {ts = ts} {rest = rest} x t = bind_is (take k) (λ _. give x) ts (take_is t).0 rest (take_is t).1

-- what begins a list of names continues with a comma, or ends
names_next : (t : Tok) (ts us : List Tok) (xs : List Name) → Listed IsName (t ∷ ts) xs us
    → (t.kind ≡ kind.Id) × ((ts ≡ us) ⊎ (begins kind.Comma ts ≡ true))
names_next t ts us xs (listed (is_name e) no_more) = (e, inl refl)
names_next t ts us xs (listed (is_name e) (one_more (behind c h) m)) = (e, inr (begins_takes c))

comma_no : (k : Kind) (ts : List Tok) → same_kind kind.Comma k ≡ false → begins kind.Comma ts ≡ true → begins k ts ≡ false
comma_no k [] e h = refl
comma_no k (t ∷ ts) e h = let i : t.kind ≡ kind.Comma = same_kind-true h in rw i e

next_no : (k : Kind) (ts us vs : List Tok) → same_kind kind.Comma k ≡ false → same_kind kind.Assign k ≡ false
    → (ts ≡ us) ⊎ (begins kind.Comma ts ≡ true) → Takes kind.Assign us vs → begins k ts ≡ false
next_no k ts us vs c a (inl e) t = rw e (begins_other k t a)
next_no k ts us vs c a (inr e) t = comma_no k ts c e

-- what follows the first target asks for no value of a call
rights_no_call : {vs ws rest : List Tok} {rs : List (RightSide Name)} → Listed IsRight vs rs ws → Takes kind.Semicolon ws rest
    → names_call vs ≡ false
unfolding same_kind names_call
rights_no_call (listed (is_any (takes e)) m) c = rw e refl
rights_no_call (listed (is_value r) no_more) c = names_no_call r (begins_other kind.Open c refl)
rights_no_call (listed (is_value r) (one_more (behind d h) m)) c = names_no_call r (begins_other kind.Open d refl)

next_asks_no : (ts us vs : List Tok) → (ts ≡ us) ⊎ (begins kind.Comma ts ≡ true) → Takes kind.Assign us vs
    → names_call vs ≡ false
    → asks_behind ts ≡ false
unfolding same_kind asks_behind
next_asks_no ts us vs (inl e) (takes is) h = rw (e, is, h) refl
next_asks_no [] us vs (inr e) t h = refl
next_asks_no (t ∷ ts) us vs (inr e) a h = let i : t.kind ≡ kind.Comma = same_kind-true e in rw i refl

asks_so : (t u : Tok) (ts : List Tok) → t.kind ≡ kind.Assign → u.kind ≡ kind.Id → begins kind.Open ts ≡ true
    → asks_behind (t ∷ u ∷ ts) ≡ true
unfolding same_kind names_call asks_behind
asks_so t u ts is named o = rw (is, named, o) refl

opens : (us vs : List Tok) (es : List (Expression Name)) → InParens (Perhaps IsExpression) us es vs → begins kind.Open us ≡ true
opens us vs es (in_parens o h c) = begins_takes o

-- what statements that hold no others do is read
simple_reads : (f : Parser (Block Name Name Name)) {ts rest : List Tok} {s : Simple Name Name Name} → IsSimple ts s rest
    → deed_step f ts ≡ Some (simple s, rest)
unfolding same_kind assignment calling asking names_call asks_behind named giving
simple_reads f (is_skip (takes is) c) = rw is (ends (simple skip) c)
simple_reads f (is_return (takes is) c) = rw (is, begins_takes c) (ends (simple leave) c)
simple_reads f (is_give {vs = vs} {rest = rest} {e = e} (takes {rest = us} is) r c) =
    let read : Reading giving us (simple (leave_with e)) rest =
    Reading-bind expression _ (exactly_expression.reads us e vs r (semicolon_stops vs rest c)) (Reading-last c) in
    rw (is, begins_no kind.Semicolon refl r) read.is
simple_reads f (is_goto {vs = vs} {rest = rest} {l = l} (takes {rest = us} is) h c) =
    let read : Reading jumping us (simple (goto l)) rest = Reading-bind name _ (exactly_name.reads us l vs h tt) (Reading-last c) in
    rw is read.is
simple_reads f (is_assert {vs = vs} {rest = rest} {r = r} (takes {rest = us} is) h c) =
    let read : Reading asserting us (simple (assert r)) rest =
    Reading-closed condition _ (exactly_test.reads us r vs h tt) c Reading-give in
    rw is read.is
simple_reads f (is_assume {vs = vs} {rest = rest} {r = r} (takes {rest = us} is) h c) =
    let read : Reading assuming us (simple (assume r)) rest =
    Reading-closed condition _ (exactly_test.reads us r vs h tt) c Reading-give in
    rw is read.is
simple_reads f (is_assign {ts = []} (listed h m) a l c) = elim h [ ]
simple_reads f (is_assign {ts = t ∷ ts} {us = us} {vs = vs} {ws = ws} {rest = rest} {xs = xs} {rs = rs} h a l c) =
    let n = names_next t ts us xs h in
    let read : Reading assignment (t ∷ ts) (simple (assign xs rs)) rest =
    Reading-closed name_list _ (exactly_names.reads (t ∷ ts) xs us h (tt, begins_other kind.Comma a refl)) a
    (Reading-closed rights _ (exactly_rights.reads vs rs ws l (semicolon_stops ws rest c, begins_other kind.Comma c refl)) c
    Reading-give) in
    at ts (by_name f t n.0) ∙ rw (next_no kind.Open ts us vs refl refl n.1 a, next_asks_no ts us vs n.1 a (rights_no_call l c)) read.is
simple_reads f (is_call {vs = vs} {rest = rest} {es = es} (is_name {t = t} {rest = us} is) h c) =
    let read : Reading calling (t ∷ us) (simple (call (name_at t) es)) rest =
    Reading-bind name _ (exactly_name.reads (t ∷ us) (name_at t) us (is_name is) tt)
    (Reading-bind argument_list _ (exactly_arguments.reads us es vs h tt) (Reading-last c)) in
    at us (by_name f t is) ∙ rw (opens us vs es h) read.is
simple_reads f (is_call_for {xs = xs} {rest = rest} {es = es} (is_name {t = x} is) (takes {t = a} {rest = vs} was)
    (is_name {t = p} {rest = ws} named) h c) =
    let read : Reading asking (x ∷ a ∷ vs) (simple (call_for (name_at x) (name_at p) es)) rest =
    Reading-closed name _ (exactly_name.reads (x ∷ a ∷ vs) (name_at x) (a ∷ vs) (is_name is) tt) (takes was)
    (Reading-bind name _ (exactly_name.reads (p ∷ ws) (name_at p) ws (is_name named) tt)
    (Reading-bind argument_list _ (exactly_arguments.reads ws es xs h tt) (Reading-last c))) in
    at (a ∷ vs) (by_name f x is)
    ∙ rw (begins_other {ts = a ∷ p ∷ ws} kind.Open (takes was) refl, asks_so a p ws was named (opens ws xs es h)) read.is

colon_no : (t : Tok) (ts : List Tok) → begins kind.Colon ts ≡ false → same_kind t.kind kind.Id && begins kind.Colon ts ≡ false
colon_no t ts e = rw e (by_test (same_kind t.kind kind.Id))
  where
    by_test : (b : Bool) → b && false ≡ false
    by_test true = refl
    by_test false = refl

simple_no_label : (t : Tok) (ts rest : List Tok) (s : Simple Name Name Name) → IsSimple (t ∷ ts) s rest
    → (same_kind t.kind kind.Id && begins kind.Colon ts ≡ false) × (starts t.kind ≡ true)
unfolding same_kind
simple_no_label t ts rest s (is_skip (takes e) c) = (rw e refl, rw e refl)
simple_no_label t ts rest s (is_return (takes e) c) = (rw e refl, rw e refl)
simple_no_label t ts rest s (is_give (takes e) r c) = (rw e refl, rw e refl)
simple_no_label t ts rest s (is_goto (takes e) h c) = (rw e refl, rw e refl)
simple_no_label t ts rest s (is_assert (takes e) h c) = (rw e refl, rw e refl)
simple_no_label t ts rest s (is_assume (takes e) h c) = (rw e refl, rw e refl)
simple_no_label t ts rest s (is_assign {us = us} {vs = vs} {xs = xs} h a l c) =
    let n = names_next t ts us xs h in
    (colon_no t ts (next_no kind.Colon ts us vs refl refl n.1 a), rw n.0 refl)
simple_no_label t ts rest s (is_call (is_name e) (in_parens o h c) d) = (colon_no t ts (begins_other kind.Colon o refl), rw e refl)
simple_no_label t ts rest s (is_call_for (is_name e) a p h c) = (colon_no t ts (begins_other kind.Colon a refl), rw e refl)

-- marks are read, if what follows continues as no label does
marked_reads : {ts us : List Tok} {m : Mark Name} → IsMarked ts m us
    → ((t : Tok) (vs : List Tok) → us ≡ t ∷ vs → same_kind t.kind kind.Id && begins kind.Colon vs ≡ false) → marked ts ≡ Some (m, us)
unfolding marked
marked_reads (bare {t = t} {ts = ts}) plain = rw (plain t ts refl) refl
marked_reads (labelled {t = t} {ts = ts} e c) plain =
    rw (same_kind-is e, begins_takes c) (ends (record { label = Some (name_at t); at = t.at }) c)

marked_starts : {ts us : List Tok} {m : Mark Name} → IsMarked ts m us → starts_here us ≡ true → starts_here ts ≡ true
unfolding same_kind
marked_starts bare h = h
marked_starts (labelled e c) h = rw e refl

-- a statement and what follows it are read
section_reads : (ts us vs rest : List Tok) (m : Mark Name) (d : Deed) (k : Block Name Name Name) → IsMarked ts m us
    → ((t : Tok) (ws : List Tok) → us ≡ t ∷ ws → (same_kind t.kind kind.Id && begins kind.Colon ws ≡ false) × (starts t.kind ≡ true))
    → starts_here us ≡ true → deed_step section us ≡ Some (d, vs) → rest_step section vs ≡ Some (k, rest)
    → (section ts ≡ Some (marked_before m d k, rest)) × (starts_here ts ≡ true)
section_reads ts us vs rest m d k marks plain here does more = (
  section_is ts
      ∙ bind_is (item_step section) (λ i. rest_step section >>= λ k. give (before i k)) ts (record { mark = m; deed = d }) vs
      (bind_is marked (λ m. deed_step section >>= λ d. give (record { mark = m; deed = d })) ts m us
      (marked_reads marks (λ t ws e. (plain t ws e).0))
      ∙ bind_is (deed_step section) (λ d. give (record { mark = m; deed = d })) us d vs does)
      ∙ bind_is (rest_step section) (λ k. give (marked_before m d k)) vs k rest more,
  marked_starts marks here,
)

-- after such a token there is no statement
pub stops : {k : Kind} {ts us : List Tok} → Takes k ts us → starts k ≡ false → starts_here ts ≡ false
stops (takes e) h = rw e h

-- statements are read, if no other follows
abbrev Read : List Tok → Block Name Name Name → List Tok → Type 0
Read ts b rest = (rest_step section ts ≡ Some (b, rest)) × (IsSome b → section ts ≡ Some (b, rest))

read_from : (ts rest : List Tok) (b : Block Name Name Name) → (section ts ≡ Some (b, rest)) × (starts_here ts ≡ true) → Read ts b rest
read_from ts rest b h = (rw h.1 h.0, λ s. h.0)

simple_cases : {us vs : List Tok} {s : Simple Name Name Name} → IsSimple us s vs → (t : Tok) (ws : List Tok) → us ≡ t ∷ ws
    → (same_kind t.kind kind.Id && begins kind.Colon ws ≡ false) × (starts t.kind ≡ true)
simple_cases {us} {vs} {s} h t ws e = simple_no_label t ws vs s (rw e at h)

simple_here : (us vs : List Tok) (s : Simple Name Name Name) → IsSimple us s vs → starts_here us ≡ true
simple_here [] vs s (is_skip t c) = elim t [ ]
simple_here [] vs s (is_return t c) = elim t [ ]
simple_here [] vs s (is_give t r c) = elim t [ ]
simple_here [] vs s (is_goto t h c) = elim t [ ]
simple_here [] vs s (is_assert t h c) = elim t [ ]
simple_here [] vs s (is_assume t h c) = elim t [ ]
simple_here [] vs s (is_assign (listed h m) a l c) = elim h [ ]
simple_here [] vs s (is_call n h c) = elim n [ ]
simple_here [] vs s (is_call_for n a p h c) = elim n [ ]
simple_here (t ∷ us) vs s h = (simple_no_label t us vs s h).1

word_case : {k : Kind} {t : Tok} {ws vs : List Tok} → Takes k (t ∷ ws) vs → same_kind k kind.Id ≡ false → starts k ≡ true
    → (same_kind t.kind kind.Id && begins kind.Colon ws ≡ false) × (starts t.kind ≡ true)
word_case (takes is) i s = (rw (is, i) refl, rw is s)

word_cases : {k : Kind} {us vs : List Tok} → Takes k us vs → same_kind k kind.Id ≡ false → starts k ≡ true → (t : Tok) (ws : List Tok)
    → us ≡ t ∷ ws → (same_kind t.kind kind.Id && begins kind.Colon ws ≡ false) × (starts t.kind ≡ true)
word_cases {k} {us} {vs} h i s t ws e = word_case (rw e at h) i s

word_here : {k : Kind} {us vs : List Tok} → Takes k us vs → starts k ≡ true → starts_here us ≡ true
word_here (takes e) h = rw e h

if_reads : {t1 t2 t3 t4 t5 t6 t7 t8 : List Tok} {r : RightSide Name} {a b : Block Name Name Name} → Takes kind.If t1 t2
    → InParens IsRight t2 r t3 → Takes kind.Then t3 t4 → section t4 ≡ Some (a, t5) → Takes kind.Else t5 t6 → section t6 ≡ Some (b, t7)
    → Takes kind.Fi t7 t8 → deed_step section t1 ≡ Some (branch r a b, t8)
unfolding same_kind
if_reads {t2 = t2} {t3 = t3} {t8 = t8} {r = r} {a = a} {b = b} (takes is) h th sa el sb fi =
    let read : Reading (branching section) t2 (branch r a b) t8 =
    Reading-closed condition _ (exactly_test.reads t2 r t3 h tt) th
    (Reading-closed section _ sa el (Reading-closed section _ sb fi Reading-give)) in
    rw is read.is

while_reads : {t1 t2 t3 t4 t5 t6 : List Tok} {r : RightSide Name} {a : Block Name Name Name} → Takes kind.While t1 t2
    → InParens IsRight t2 r t3 → Takes kind.Do t3 t4 → section t4 ≡ Some (a, t5) → Takes kind.Od t5 t6
    → deed_step section t1 ≡ Some (repeat r a, t6)
unfolding same_kind
while_reads {t2 = t2} {t3 = t3} {t6 = t6} {r = r} {a = a} (takes is) h th sa od =
    let read : Reading (repeating section) t2 (repeat r a) t6 =
    Reading-closed condition _ (exactly_test.reads t2 r t3 h tt) th (Reading-closed section _ sa od Reading-give) in
    rw is read.is

pub statements_read : {ts rest : List Tok} {b : Block Name Name Name} → Statements ts b rest → starts_here rest ≡ false → Read ts b rest
unfolding same_kind
statements_read (nothing_more {ts = ts}) e = (rw e refl, λ s. absurd s)
statements_read (statement {ts = ts} {us = us} {vs = vs} {rest = rest} {m = m} {s = s} {k = k} marks h more) e =
    read_from ts rest (one m s k)
    (section_reads ts us vs rest m (simple s) k marks (simple_cases h) (simple_here us vs s h) (simple_reads section h)
    (statements_read more e).0)
statements_read (if_statement {ts = ts} {t1 = t1} {t8 = t8} {rest = rest} {m = m} {r = r} {a = a} {b = b} {k = k} marks i h th sa na el sb
    nb fi more) e =
    read_from ts rest (choose m r a b k) (section_reads ts t1 t8 rest m (branch r a b) k marks (word_cases i refl refl) (word_here i refl)
    (if_reads i h th ((statements_read sa (stops el refl)).1 na) el ((statements_read sb (stops fi refl)).1 nb) fi)
    (statements_read more e).0)
statements_read (while_statement {ts = ts} {t1 = t1} {t6 = t6} {rest = rest} {m = m} {r = r} {a = a} {k = k} marks i h th sa na od more) e =
    read_from ts rest (loop m r a k) (section_reads ts t1 t6 rest m (repeat r a) k marks (word_cases i refl refl) (word_here i refl)
    (while_reads i h th ((statements_read sa (stops od refl)).1 na) od) (statements_read more e).0)

-- if there is a statement, its first token begins one
pub statements_start : {ts rest : List Tok} {b : Block Name Name Name} → Statements ts b rest → IsSome b → starts_here ts ≡ true
unfolding same_kind
statements_start nothing_more n = absurd n
statements_start (statement {us = us} {vs = vs} {s = s} marks h more) n = marked_starts marks (simple_here us vs s h)
statements_start (if_statement marks i h th sa na el sb nb fi more) n = marked_starts marks (word_here i refl)
statements_start (while_statement marks i h th sa na od more) n = marked_starts marks (word_here i refl)
