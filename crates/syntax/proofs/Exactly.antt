-- Functions that read exactly what a relation of the grammar says, part by part.
use Rattle.std.proofs.Common.{◌≡◌, ℕ, suc, ◌<◌, Bool, true, false, cond, List, [], ◌∷◌, length, Option, Some, refl, ◌∙◌, ap}
use Rattle.tokens.specs.declared.vocabulary.Kind.{Kind}
use Rattle.tokens.specs.declared.vocabulary.Kind.TheVariants as kind
use Rattle.tokens.specs.Token.{Tok, same_kind}
use Rattle.syntax.specs.Parser.{Parser, Strict, give, ◌>>=◌, begins, take, many_step, many}
use Rattle.grammar.specs.Grammar.{Takes, takes, Behind, behind, InParens, in_parens, Many, no_more, one_more}
use Rattle.grammar.specs.Grammar.{Listed, listed, Several, several, Perhaps, nothing, something}
use Rattle.syntax.specs.Exact.{more, list, repeated, parens, perhaps}
use Rattle.syntax.proofs.KindTests.{same_kind-true, same_kind-is}
use Rattle.syntax.proofs.Fixes.{bind_is, Shrinks, Agree, Strict-Shrinks, Shrinks-give, Strict-take, Shrinks-bind}
use Rattle.syntax.proofs.Fixes.{Strict-bind, Agree-same, Agree-bind, Agree-Strict-bind, IsStep, fix_shrinks, fix_is, Finds, fix_finds}
use Rattle.syntax.proofs.ChainLemmas.{Finding, Finding-give, Finding-bind, Finding-take, Finding-last, Finding-choice, Shrinks-choice}
use Rattle.syntax.proofs.ChainLemmas.{Reading, Reading-give, Reading-bind, Reading-take, Reading-last}

-- p reads what P says, wherever what follows is as S says, and nothing else.
pub record Exactly {X : Type 0} (P : List Tok → X → List Tok → Type 0) (S : List Tok → Type 0) (p : Parser X) : Type 0 where
  pub finds : (ts : List Tok) (x : X) (rest : List Tok) → p ts ≡ Some (x, rest) → P ts x rest
  pub reads : (ts : List Tok) (x : X) (rest : List Tok) → P ts x rest → S rest → p ts ≡ Some (x, rest)

pub exactly : {X : Type 0} {P : List Tok → X → List Tok → Type 0} {S : List Tok → Type 0} {p : Parser X}
    → ((ts : List Tok) → Finding p ts (P ts)) → ((ts : List Tok) (x : X) (rest : List Tok) → P ts x rest → S rest → Reading p ts x rest)
    → Exactly P S p
exactly found read = record { finds = λ ts. (found ts).by; reads = λ ts x rest h s. (read ts x rest h s).is }

-- whatever follows
abbrev pub Anything : List Tok → Type 0
Anything ts = Unit {0}

-- a token of a kind comes next, or does not
pub begins_takes : {k : Kind} {ts rest : List Tok} → Takes k ts rest → begins k ts ≡ true
begins_takes (takes e) = same_kind-is e

pub begins_other : {k : Kind} {ts rest : List Tok} (l : Kind) → Takes k ts rest → same_kind k l ≡ false → begins l ts ≡ false
begins_other l (takes e) h = rw e h

-- if a token of a kind comes next, that token may be taken
pub begins_take : (k : Kind) (ts : List Tok) → begins k ts ≡ true → (t : Tok) × (us : List Tok) × (take k ts ≡ Some (t, us)) × Takes k ts us
begins_take k [] e = cc
begins_take k (t ∷ ts) e = (t, ts, rw e refl, takes (same_kind-true e))

-- after a token
pub exactly_behind : {X : Type 0} {P : List Tok → X → List Tok → Type 0} {S : List Tok → Type 0} {p : Parser X} (k : Kind) → Exactly P S p
    → Exactly (Behind k P) S (take k >>= λ _. p)
exactly_behind {X} {P} {S} {p} k is =
    exactly (λ ts. Finding-take (λ _ us t _. record { by = λ x rest e. behind t (is.finds us x rest e) })) went
  where
    went : (ts : List Tok) (x : X) (rest : List Tok) → Behind k P ts x rest → S rest → Reading (take k >>= λ _. p) ts x rest
    went ts x rest (behind {us = us} t h) s = Reading-take t (record { is = is.reads us x rest h s })

-- in parentheses
pub exactly_parens : {X : Type 0} {P : List Tok → X → List Tok → Type 0} {S : List Tok → Type 0} {p : Parser X} → Exactly P S p
    → ((us rest : List Tok) → Takes kind.Close us rest → S us) → Exactly (InParens P) Anything (parens p)
exactly_parens {X} {P} {S} {p} is close =
    exactly (λ ts. Finding-take (λ _ us t _. Finding-bind p (λ x vs e. Finding-last (λ rest c. in_parens t (is.finds us x vs e) c)))) went
  where
    went : (ts : List Tok) (x : X) (rest : List Tok) → InParens P ts x rest → Unit {0} → Reading (parens p) ts x rest
    went ts x rest (in_parens {us = us} {vs = vs} first h shut) s =
        Reading-take first (Reading-bind p _ (is.reads us x vs h (close vs rest shut)) (Reading-last shut))

-- again and again
module _ {X : Type 0} (test : List Tok → Bool) (p : Parser X) (strict : Strict p) where
  many_agrees_at : (n : ℕ) (f g : Unit {0} → Parser (List X)) → ((u : Unit {0}) → Shrinks (f u)) → ((u : Unit {0}) → Agree n (f u) (g u))
      → (ts : List Tok) → length ts < suc n
      → cond {A = Option (List X × List Tok)} (test ts) ((p >>= λ x. f tt >>= λ xs. give (x ∷ xs)) ts) (Some ([], ts))
      ≡ cond {A = Option (List X × List Tok)} (test ts) ((p >>= λ x. g tt >>= λ xs. give (x ∷ xs)) ts) (Some ([], ts))
  many_agrees_at n f g s a ts below =
      ap (λ (r : Option (List X × List Tok)). cond (test ts) r (Some ([], ts)))
      ((Agree-Strict-bind (Agree-same (suc n) p) strict (λ x. Agree-bind (a tt) (s tt) (λ xs. Agree-same n (give (x ∷ xs))))).at ts below)

  many_is_step : IsStep (many_step test p)
  many_is_step = record {
    keeps = λ f s u.
        Shrinks-choice (p >>= λ x. f tt >>= λ xs. give (x ∷ xs)) (give []) test (λ ts. refl)
        (Shrinks-bind (Strict-Shrinks strict) (λ x. Shrinks-bind (s tt) (λ xs. Shrinks-give (x ∷ xs)))) (Shrinks-give []);
    local = λ n f g s a u. record { at = λ ts below. many_agrees_at n f g s a ts below };
  }

  pub many_is : (ts : List Tok) → many test p ts ≡ cond (test ts) ((p >>= λ x. many test p >>= λ xs. give (x ∷ xs)) ts) (Some ([], ts))
  unfolding many
  many_is ts = fix_is (many_step test p) many_is_step tt ts

  pub many_shrinks : Shrinks (many test p)
  unfolding many
  many_shrinks = fix_shrinks (many_step test p) many_is_step tt

  -- if the test fails, nothing is read
  pub many_ends : (ts : List Tok) → test ts ≡ false → many test p ts ≡ Some ([], ts)
  many_ends ts e = many_is ts ∙ rw e refl

  -- if it holds, one is read, and the others
  pub many_goes_on : (ts : List Tok) (x : X) (us : List Tok) (xs : List X) (rest : List Tok) → test ts ≡ true → p ts ≡ Some (x, us)
      → many test p us ≡ Some (xs, rest) → many test p ts ≡ Some (x ∷ xs, rest)
  many_goes_on ts x us xs rest e f g =
      many_is ts
      ∙ rw e (bind_is p (λ x. many test p >>= λ xs. give (x ∷ xs)) ts x us f ∙ bind_is (many test p) (λ xs. give (x ∷ xs)) us xs rest g)

  many_found : (P : List Tok → X → List Tok → Type 0) → ((ts : List Tok) (x : X) (rest : List Tok) → p ts ≡ Some (x, rest) → P ts x rest)
      → (f : Unit {0} → Parser (List X)) → Finds (λ (u : Unit {0}) ts xs rest. Many P ts xs rest × (test rest ≡ false)) f
      → (u : Unit {0}) (ts : List Tok) → Finding (many_step test p f u) ts (λ xs rest. Many P ts xs rest × (test rest ≡ false))
  many_found P h f sound u ts =
      Finding-choice (p >>= λ x. f tt >>= λ xs. give (x ∷ xs)) (give []) (test ts) refl
      (λ _. Finding-bind p (λ x us first. Finding-bind (f tt) (λ xs rest others.
      let tail = sound tt us xs rest others in Finding-give (one_more (h ts x us first) tail.0, tail.1))))
      (λ is. Finding-give (no_more, is))

  pub many_finds : (P : List Tok → X → List Tok → Type 0)
      → ((ts : List Tok) (x : X) (rest : List Tok) → p ts ≡ Some (x, rest) → P ts x rest) → (ts : List Tok) (xs : List X) (rest : List Tok)
      → many test p ts ≡ Some (xs, rest) → Many P ts xs rest × (test rest ≡ false)
  unfolding many
  many_finds P h ts xs rest e =
      fix_finds (many_step test p) (λ (u : Unit {0}) ts xs rest. Many P ts xs rest × (test rest ≡ false))
      (λ f sound u ts. (many_found P h f sound u ts).by) tt ts xs rest e

  -- what comes any number of times is read, if each begins as the test says, and what follows may follow one
  pub many_reads : {P : List Tok → X → List Tok → Type 0} {S : List Tok → Type 0} → Exactly P S p
      → ((ts : List Tok) (x : X) (us : List Tok) → P ts x us → test ts ≡ true) → ((us : List Tok) → test us ≡ true → S us)
      → {ts rest : List Tok} {xs : List X} → Many P ts xs rest → S rest → test rest ≡ false → many test p ts ≡ Some (xs, rest)
  many_reads is starts joins (no_more {ts = ts}) s e = many_ends ts e
  many_reads {P} {S} is starts joins (one_more {ts = ts} {us = us} {rest = rest} {x = x} {xs = xs} h t) s e =
      many_goes_on ts x us xs rest (starts ts x us h) (is.reads ts x us h (next t s)) (many_reads is starts joins t s e)
    where
      next : {us rest : List Tok} {xs : List X} → Many P us xs rest → S rest → S us
      next no_more s = s
      next (one_more {ts = us} {us = vs} {x = y} h t) s = joins us (starts us y vs h)

-- once, and then again and again
pub repeated_finds : {X : Type 0} (test : List Tok → Bool) {P : List Tok → X → List Tok → Type 0}
    {S : List Tok → Type 0} {p : Parser X} → Strict p → Exactly P S p
    → (ts : List Tok) (xs : List X) (rest : List Tok) → repeated test p ts ≡ Some (xs, rest)
    → Several P ts xs rest × (test rest ≡ false)
unfolding repeated
repeated_finds test {P = P} {p = p} s is ts =
    let whole : Finding (repeated test p) ts (λ xs rest. Several P ts xs rest × (test rest ≡ false)) =
    Finding-bind p (λ x us first. Finding-bind (many test p) (λ xs rest others.
    let m = many_finds test p s P is.finds us xs rest others in
    Finding-give (several (is.finds ts x us first) m.0, m.1))) in
    whole.by

pub repeated_reads : {X : Type 0} (test : List Tok → Bool) {P : List Tok → X → List Tok → Type 0} {p : Parser X}
    → Strict p → Exactly P Anything p → ((ts : List Tok) (x : X) (us : List Tok) → P ts x us → test ts ≡ true)
    → (ts : List Tok) (xs : List X) (rest : List Tok) → Several P ts xs rest → test rest ≡ false
    → repeated test p ts ≡ Some (xs, rest)
unfolding repeated
repeated_reads test {p = p} s is starts ts xs rest (several {us = us} {x = x} {xs = ys} h m) e =
    let whole : Reading (repeated test p) ts (x ∷ ys) rest =
    Reading-bind p _ (is.reads ts x us h tt)
    (Reading-bind (many test p) _ (many_reads test p s is starts (λ us h. tt) m tt e) Reading-give) in
    whole.is

-- after commas
behind_begins : {X : Type 0} {P : List Tok → X → List Tok → Type 0} (k : Kind) (ts : List Tok) (x : X) (us : List Tok) → Behind k P ts x us
    → begins k ts ≡ true
behind_begins k ts x us (behind t h) = begins_takes t

pub Strict-behind : {X : Type 0} {p : Parser X} (k : Kind) → Shrinks p → Strict (take k >>= λ _. p)
Strict-behind {p = p} k s = Strict-bind (Strict-take k) (λ t. s)

pub more_finds : {X : Type 0} {P : List Tok → X → List Tok → Type 0} {S : List Tok → Type 0} {p : Parser X} → Strict p → Exactly P S p
    → (ts : List Tok) (xs : List X) (rest : List Tok) → more p ts ≡ Some (xs, rest)
    → Many (Behind kind.Comma P) ts xs rest × (begins kind.Comma rest ≡ false)
more_finds {P = P} {p = p} s is =
    many_finds (begins kind.Comma) (take kind.Comma >>= λ _. p) (Strict-behind kind.Comma (Strict-Shrinks s)) (Behind kind.Comma P)
    (exactly_behind kind.Comma is).finds

pub more_reads : {X : Type 0} {P : List Tok → X → List Tok → Type 0} {S : List Tok → Type 0} {p : Parser X} → Strict p → Exactly P S p
    → ((us : List Tok) → begins kind.Comma us ≡ true → S us) → {ts rest : List Tok} {xs : List X} → Many (Behind kind.Comma P) ts xs rest
    → S rest → begins kind.Comma rest ≡ false → more p ts ≡ Some (xs, rest)
more_reads {P = P} {p = p} s is joins m h e =
    many_reads (begins kind.Comma) (take kind.Comma >>= λ _. p) (Strict-behind kind.Comma (Strict-Shrinks s))
    (exactly_behind kind.Comma is) (λ ts x us b. behind_begins kind.Comma ts x us b) joins m h e

pub more_shrinks : {X : Type 0} {p : Parser X} → Strict p → Shrinks (more p)
more_shrinks {p = p} s = many_shrinks (begins kind.Comma) (take kind.Comma >>= λ _. p) (Strict-behind kind.Comma (Strict-Shrinks s))

pub Strict-list : {X : Type 0} {p : Parser X} → Strict p → Strict (list p)
unfolding list
Strict-list s = Strict-bind s (λ x. Shrinks-bind (more_shrinks s) (λ xs. Shrinks-give (x ∷ xs)))

-- a list is read, if no comma follows
abbrev pub NoComma : (List Tok → Type 0) → List Tok → Type 0
NoComma S ts = S ts × (begins kind.Comma ts ≡ false)

pub exactly_list : {X : Type 0} {P : List Tok → X → List Tok → Type 0} {S : List Tok → Type 0} {p : Parser X} → Strict p → Exactly P S p
    → ((us : List Tok) → begins kind.Comma us ≡ true → S us) → Exactly (Listed P) (NoComma S) (list p)
unfolding list
exactly_list {X} {P} {S} {p} s is joins =
    exactly
    (λ ts. Finding-bind p (λ x us e. Finding-bind (more p) (λ xs rest others.
    Finding-give (listed (is.finds ts x us e) (more_finds s is us xs rest others).0)))) went
  where
    next : {us rest : List Tok} {xs : List X} → Many (Behind kind.Comma P) us xs rest → S rest → S us
    next no_more s = s
    next (one_more {ts = us} (behind t h) m) s = joins us (begins_takes t)

    went : (ts : List Tok) (xs : List X) (rest : List Tok) → Listed P ts xs rest → NoComma S rest → Reading (list p) ts xs rest
    went ts xs rest (listed {us = us} {x = x} {xs = ys} h m) n =
        Reading-bind p _ (is.reads ts x us h (next m n.0)) (Reading-bind (more p) _ (more_reads s is joins m n.0 n.1) Reading-give)

-- nothing or a list is read before a closing parenthesis
pub exactly_perhaps : {X : Type 0} {P : List Tok → X → List Tok → Type 0} {S : List Tok → Type 0} {p : Parser X} → Strict p → Exactly P S p
    → ((us : List Tok) → begins kind.Comma us ≡ true → S us) → ((us rest : List Tok) → Takes kind.Close us rest → S us)
    → ((ts : List Tok) (x : X) (us : List Tok) → P ts x us → begins kind.Close ts ≡ false)
    → Exactly (Perhaps P) (λ ts. begins kind.Close ts ≡ true) (perhaps p)
unfolding same_kind
exactly_perhaps {X} {P} {S} {p} s is joins close other =
    exactly
    (λ ts. Finding-choice (give []) (list p) (begins kind.Close ts) refl (λ _. Finding-give nothing)
    (λ _. record { by = λ xs rest e. something ((exactly_list s is joins).finds ts xs rest e) })) went
  where
    closes : (us : List Tok) → begins kind.Close us ≡ true → NoComma S us
    closes us e = let t = begins_take kind.Close us e in (close us t.1 t.3, begins_other kind.Comma t.3 refl)

    begins_so : (ts : List Tok) (xs : List X) (rest : List Tok) → Listed P ts xs rest → begins kind.Close ts ≡ false
    begins_so ts xs rest (listed {us = us} {x = x} h m) = other ts x us h

    went : (ts : List Tok) (xs : List X) (rest : List Tok) → Perhaps P ts xs rest → begins kind.Close rest ≡ true
        → Reading (perhaps p) ts xs rest
    went ts xs rest nothing e = record { is = rw e refl }
    went ts xs rest (something h) e =
        let f = begins_so ts xs rest h in record { is = rw f ((exactly_list s is joins).reads ts xs rest h (closes rest e)) }

pub shrinks_perhaps : {X : Type 0} {p : Parser X} → Strict p → Shrinks (perhaps p)
shrinks_perhaps {p = p} s =
    Shrinks-choice (give []) (list p) (begins kind.Close) (λ ts. refl) (Shrinks-give []) (Strict-Shrinks (Strict-list s))

pub strict_parens : {X : Type 0} {p : Parser X} → Shrinks p → Strict (parens p)
strict_parens s =
    Strict-bind (Strict-take kind.Open)
    (λ t. Shrinks-bind s (λ x. Shrinks-bind (Strict-Shrinks (Strict-take kind.Close)) (λ u. Shrinks-give x)))
