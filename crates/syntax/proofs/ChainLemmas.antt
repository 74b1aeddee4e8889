-- Chains of parsers, step by step: what they find, and what they read.
use Rattle.std.proofs.Common.{◌≡◌, ℕ, ◌<◌, ◌≤◌, Bool, true, false, cond, List, [], ◌∷◌, length, Option, Some, None, refl, sym, ◌∙◌, arith}
use Rattle.tokens.specs.declared.vocabulary.Kind.{Kind}
use Rattle.tokens.specs.declared.vocabulary.Token.{Token}
use Rattle.tokens.specs.Token.{Tok, toks_of, same_kind}
use Rattle.grammar.specs.Grammar.{Takes, takes}
use Rattle.syntax.specs.Exact.{closed, closing}
use Rattle.syntax.specs.Parser.{Parser, Strict, give, refuse, ◌>>=◌, take}
use Rattle.syntax.proofs.KindTests.{same_kind-true, same_kind-is}
use Rattle.syntax.proofs.Fixes.{Shrinks, Agree, carried, between, bind_is, Strict-Shrinks, Strict-take, Strict-bind, Shrinks-give}
use Rattle.syntax.proofs.Fixes.{Shrinks-bind, Agree-same, Agree-bind}

-- what is known of no tokens is known at the end of a text
pub at_end : {A : Type 0} (f g : List Tok → A) → f [] ≡ g [] → (ts : List Token) → length ts ≡ 0 → f (toks_of ts) ≡ g (toks_of ts)
at_end f g e [] h = e
at_end f g e (t ∷ ts) h = absurd (omega arith)

pub kind_taken : {k : Kind} {t : Tok} {us vs : List Tok} → Takes k (t ∷ us) vs → t.kind ≡ k
kind_taken (takes e) = e

pub take_finds : (k : Kind) (ts : List Tok) (t : Tok) (rest : List Tok) → take k ts ≡ Some (t, rest) → Takes k ts rest × (ts ≡ t ∷ rest)
take_finds k [] t rest e = cc
take_finds k (u ∷ ts) t rest e = by_test (same_kind u.kind k) refl e
  where
    by_test : (b : Bool) → same_kind u.kind k ≡ b → cond {A = Option (Tok × List Tok)} b (Some (u, ts)) None ≡ Some (t, rest)
        → Takes k (u ∷ ts) rest × (u ∷ ts ≡ t ∷ rest)
    by_test true is e = carried (λ t rest. Takes k (u ∷ ts) rest × (u ∷ ts ≡ t ∷ rest)) e (takes (same_kind-true is), refl)
    by_test false is e = cc

-- Whatever the parser reads of these tokens is as Q says.
pub record Finding {X : Type 0} (p : Parser X) (ts : List Tok) (Q : X → List Tok → Type 0) : Type 0 where
  pub by : (x : X) (rest : List Tok) → p ts ≡ Some (x, rest) → Q x rest

pub Finding-give : {X : Type 0} {x : X} {ts : List Tok} {Q : X → List Tok → Type 0} → Q x ts → Finding (give x) ts Q
Finding-give {Q = Q} h = record { by = λ y rest e. carried Q e h }

pub Finding-refuse : {X : Type 0} {ts : List Tok} {Q : X → List Tok → Type 0} → Finding (refuse {X = X}) ts Q
Finding-refuse = record { by = λ y rest e. cc }

pub Finding-bind : {X Y : Type 0} {f : X → Parser Y} {ts : List Tok} {Q : Y → List Tok → Type 0} (p : Parser X)
    → ((x : X) (us : List Tok) → p ts ≡ Some (x, us) → Finding (f x) us Q) → Finding (p >>= f) ts Q
Finding-bind {f = f} {ts = ts} p h = record {
  by = λ y rest e. let b = between p f ts y rest e in (h b.x b.us b.first).by y rest b.second;
}

pub Finding-take : {Y : Type 0} {k : Kind} {f : Tok → Parser Y} {ts : List Tok} {Q : Y → List Tok → Type 0}
    → ((t : Tok) (us : List Tok) → Takes k ts us → ts ≡ t ∷ us → Finding (f t) us Q) → Finding (take k >>= f) ts Q
Finding-take {k = k} {ts = ts} h = Finding-bind (take k) (λ t us e. let found = take_finds k ts t us e in h t us found.0 found.1)

-- a token ends the chain
pub Finding-last : {X : Type 0} {k : Kind} {x : X} {ts : List Tok} {Q : X → List Tok → Type 0}
    → ((rest : List Tok) → Takes k ts rest → Q x rest) → Finding (take k >>= λ _. give x) ts Q
Finding-last h = Finding-take (λ t us found same. Finding-give (h us found))

-- a part, with a token after it
pub closed_finds : {X : Type 0} (k : Kind) (p : Parser X) (ts : List Tok)
    → Finding (closed k p) ts (λ x rest. (us : List Tok) × (p ts ≡ Some (x, us)) × Takes k us rest)
closed_finds k p ts = Finding-bind p (λ x us e. Finding-last (λ rest found. (us, e, found)))

pub Finding-closed : {X Y : Type 0} {k : Kind} {f : X → Parser Y} {ts : List Tok} {Q : Y → List Tok → Type 0} (p : Parser X)
    → ((x : X) (us vs : List Tok) → p ts ≡ Some (x, us) → Takes k us vs → Finding (f x) vs Q) → Finding (closed k p >>= f) ts Q
Finding-closed {k = k} {ts = ts} p h =
    Finding-bind (closed k p) (λ x vs e. let found = (closed_finds k p ts).by x vs e in h x found.0 vs found.1 found.2)

-- one of two parsers, by the kind of a token
pub Finding-kind : {X : Type 0} {k : Kind} {p q : Parser X} {ts : List Tok} {Q : X → List Tok → Type 0} (t : Tok)
    → (t.kind ≡ k → Finding p ts Q) → Finding q ts Q → Finding (cond (same_kind t.kind k) p q) ts Q
Finding-kind {X} {k} {p} {q} {ts} {Q} t h other = by_test (same_kind t.kind k) refl
  where
    by_test : (b : Bool) → same_kind t.kind k ≡ b → Finding (cond b p q) ts Q
    by_test true is = h (same_kind-true is)
    by_test false is = other

-- one of two parsers at tokens of their own, by a test
pub Finding-choice : {X : Type 0} {r : Parser X} {ts us vs : List Tok} {Q : X → List Tok → Type 0} (p q : Parser X) (b : Bool)
    → r ts ≡ cond b (p us) (q vs) → (b ≡ true → Finding p us Q) → (b ≡ false → Finding q vs Q) → Finding r ts Q
Finding-choice p q true is h other = record { by = λ x rest e. (h refl).by x rest (sym is ∙ e) }
Finding-choice p q false is h other = record { by = λ x rest e. (other refl).by x rest (sym is ∙ e) }

pub Shrinks-choice : {X : Type 0} {r : Parser X} (p q : Parser X) (test : List Tok → Bool)
    → ((ts : List Tok) → r ts ≡ cond (test ts) (p ts) (q ts)) → Shrinks p → Shrinks q → Shrinks r
Shrinks-choice {r = r} p q test is s other = record {
  by = λ ts.
      let whole : Finding r ts (λ x rest. length rest ≤ length ts) =
      Finding-choice p q (test ts) (is ts) (λ _. record { by = s.by ts }) (λ _. record { by = other.by ts }) in
      whole.by;
}

pub Strict-choice : {X : Type 0} {r : Parser X} (p q : Parser X) (test : List Tok → Bool)
    → ((ts : List Tok) → r ts ≡ cond (test ts) (p ts) (q ts)) → Strict p → Strict q → Strict r
Strict-choice {r = r} p q test is s other = record {
  by = λ ts.
      let whole : Finding r ts (λ x rest. length rest < length ts) =
      Finding-choice p q (test ts) (is ts) (λ _. record { by = s.by ts }) (λ _. record { by = other.by ts }) in
      whole.by;
}

-- what stands before a token
pub Strict-closed : {X : Type 0} {p : Parser X} (k : Kind) → Strict p → Strict (closed k p)
Strict-closed k s = Strict-bind s (λ x. Shrinks-bind (Strict-Shrinks (Strict-take k)) (λ _. Shrinks-give x))

pub Shrinks-closed : {X : Type 0} {p : Parser X} (k : Kind) → Shrinks p → Shrinks (closed k p)
Shrinks-closed k s = Shrinks-bind s (λ x. Shrinks-bind (Strict-Shrinks (Strict-take k)) (λ _. Shrinks-give x))

pub Agree-closed : {X : Type 0} {n : ℕ} {p q : Parser X} (k : Kind) → Agree n p q → Shrinks p → Agree n (closed k p) (closed k q)
Agree-closed {n = n} k a s = Agree-bind a s (λ x. Agree-same n (closing k x))

-- Of these tokens the parser reads x, and leaves the rest.
pub record Reading {X : Type 0} (p : Parser X) (ts : List Tok) (x : X) (rest : List Tok) : Type 0 where
  pub is : p ts ≡ Some (x, rest)

pub Reading-give : {X : Type 0} {x : X} {ts : List Tok} → Reading (give x) ts x ts
Reading-give = record { is = refl }

pub Reading-bind : {X Y : Type 0} {ts us rest : List Tok} {x : X} {y : Y} (p : Parser X) (f : X → Parser Y)
    → p ts ≡ Some (x, us) → Reading (f x) us y rest → Reading (p >>= f) ts y rest
Reading-bind {ts = ts} {us = us} {x = x} p f e others = record { is = bind_is p f ts x us e ∙ others.is }

pub take_is : {k : Kind} {ts rest : List Tok} → Takes k ts rest → (t : Tok) × (take k ts ≡ Some (t, rest))
take_is {k} (takes {t} {rest} e) = (t, rw (same_kind-is e) refl)

-- a token comes before what does not ask for it
pub Reading-take : {X : Type 0} {k : Kind} {p : Parser X} {ts us rest : List Tok} {x : X} → Takes k ts us → Reading p us x rest
    → Reading (take k >>= λ _. p) ts x rest
Reading-take {k = k} {p = p} found others = Reading-bind (take k) (λ _. p) (take_is found).1 others

pub Reading-last : {X : Type 0} {k : Kind} {x : X} {ts rest : List Tok} → Takes k ts rest → Reading (take k >>= λ _. give x) ts x rest
Reading-last found = Reading-take found Reading-give

pub Reading-closed : {X Y : Type 0} {k : Kind} {ts us vs rest : List Tok} {x : X} {y : Y} (p : Parser X) (f : X → Parser Y)
    → p ts ≡ Some (x, us) → Takes k us vs → Reading (f x) vs y rest → Reading (closed k p >>= f) ts y rest
Reading-closed {k = k} {ts = ts} {vs = vs} {x = x} p f e found others =
    let part : Reading (closed k p) ts x vs = Reading-bind p (closing k) e (Reading-last found) in
    Reading-bind (closed k p) f part.is others
