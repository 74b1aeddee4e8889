-- Recursions over token lists: each reads no more than it is given, and is its own step.
use Rattle.std.specs.Prelude.{option_and_then}
use Rattle.std.proofs.Common.{◌≡◌, ℕ, zero, suc, ◌<◌, ◌≤◌, Bool, true, false, cond, List, [], ◌∷◌, length, Option, Some, None, refl, ap}
use Rattle.std.proofs.Common.{arith}
use Rattle.tokens.specs.declared.vocabulary.Kind.{Kind}
use Rattle.tokens.specs.Token.{Tok, same_kind}
use Rattle.syntax.specs.Parser.{Parser, Strict, give, refuse, ◌>>=◌, take, run, fix}

-- the parts of what was read
pub both : {X : Type 0} {x y : X} {ts us : List Tok} → ◌≡◌ {A = Option (X × List Tok)} (Some (x, ts)) (Some (y, us)) → (x ≡ y) × (ts ≡ us)
both {X} {x} {y} {ts} {us} e =
    let h : ◌≡◌ {A = X × List Tok} (x, ts) (y, us) = cc in
    (ap (λ (p : X × List Tok). p.0) h, ap (λ (p : X × List Tok). p.1) h)

-- what holds for what was given holds for what was read
pub carried : {X : Type 0} {x y : X} {ts us : List Tok} (P : X → List Tok → Type 0)
    → ◌≡◌ {A = Option (X × List Tok)} (Some (x, ts)) (Some (y, us)) → P x ts → P y us
carried {X} {x} {y} {ts} {us} P e h = rw (← (both e).0, ← (both e).1) h

-- what a chain that succeeds has in the middle
pub record Between {X Y : Type 0} (p : Parser X) (f : X → Parser Y) (ts : List Tok) (y : Y) (rest : List Tok) : Type 0 where
  pub x : X
  pub us : List Tok
  pub first : p ts ≡ Some (x, us)
  pub second : f x us ≡ Some (y, rest)

split_first : {X Y : Type 0} (p : Parser X) (f : X → Parser Y) (ts : List Tok) (y : Y) (rest : List Tok) (r : Option (X × List Tok))
    → p ts ≡ r → option_and_then (λ q. f q.0 q.1) r ≡ Some (y, rest) → Between p f ts y rest
split_first p f ts y rest None e h = cc
split_first p f ts y rest (Some q) e h = record { x = q.0; us = q.1; first = e; second = h }

pub between : {X Y : Type 0} (p : Parser X) (f : X → Parser Y) (ts : List Tok) (y : Y) (rest : List Tok) → (p >>= f) ts ≡ Some (y, rest)
    → Between p f ts y rest
between p f ts y rest h = split_first p f ts y rest (p ts) refl h

-- a chain, if the first part is known
pub bind_is : {X Y : Type 0} (p : Parser X) (f : X → Parser Y) (ts : List Tok) (x : X) (us : List Tok) → p ts ≡ Some (x, us)
    → (p >>= f) ts ≡ f x us
bind_is p f ts x us e = rw e refl

-- what is left is no longer than what was given
pub record Shrinks {X : Type 0} (p : Parser X) : Type 0 where
  pub by : (ts : List Tok) (x : X) (rest : List Tok) → p ts ≡ Some (x, rest) → length rest ≤ length ts

-- two parsers are one on lists shorter than n
pub record Agree {X : Type 0} (n : ℕ) (p q : Parser X) : Type 0 where
  pub at : (ts : List Tok) → length ts < n → p ts ≡ q ts

pub Strict-Shrinks : {X : Type 0} {p : Parser X} → Strict p → Shrinks p
Strict-Shrinks s = record { by = λ ts x rest e. let h : length rest < length ts = s.by ts x rest e in omega arith }

pub Shrinks-give : {X : Type 0} (x : X) → Shrinks (give x)
Shrinks-give x = record { by = λ ts y rest e. let h = (both e).1 in rw h (omega arith) }

pub Shrinks-refuse : {X : Type 0} → Shrinks (refuse {X = X})
Shrinks-refuse = record { by = λ ts y rest e. cc }

pub Strict-take : (k : Kind) → Strict (take k)
Strict-take k = record { by = went k }
  where
    chosen : (b : Bool) (t x : Tok) (ts rest : List Tok) → cond {A = Option (Tok × List Tok)} b (Some (t, ts)) None ≡ Some (x, rest)
        → ts ≡ rest
    chosen true t x ts rest e = (both e).1
    chosen false t x ts rest e = cc

    went : (k : Kind) (ts : List Tok) (x : Tok) (rest : List Tok) → take k ts ≡ Some (x, rest) → length rest < length ts
    went k [] x rest e = cc
    went k (t ∷ ts) x rest e = let h : ts ≡ rest = chosen (same_kind t.kind k) t x ts rest e in rw (← h) (omega arith)

pub Shrinks-bind : {X Y : Type 0} {p : Parser X} {f : X → Parser Y} → Shrinks p → ((x : X) → Shrinks (f x)) → Shrinks (p >>= f)
Shrinks-bind {p = p} {f = f} s h = record {
  by = λ ts y rest e.
      let b = between p f ts y rest e in
      let i : length b.us ≤ length ts = s.by ts b.x b.us b.first in
      let j : length rest ≤ length b.us = (h b.x).by b.us y rest b.second in
      omega arith;
}

pub Strict-bind : {X Y : Type 0} {p : Parser X} {f : X → Parser Y} → Strict p → ((x : X) → Shrinks (f x)) → Strict (p >>= f)
Strict-bind {p = p} {f = f} s h = record {
  by = λ ts y rest e.
      let b = between p f ts y rest e in
      let i : length b.us < length ts = s.by ts b.x b.us b.first in
      let j : length rest ≤ length b.us = (h b.x).by b.us y rest b.second in
      omega arith;
}

pub Shrinks-Strict-bind : {X Y : Type 0} {p : Parser X} {f : X → Parser Y} → Shrinks p → ((x : X) → Strict (f x)) → Strict (p >>= f)
Shrinks-Strict-bind {p = p} {f = f} s h = record {
  by = λ ts y rest e.
      let b = between p f ts y rest e in
      let i : length b.us ≤ length ts = s.by ts b.x b.us b.first in
      let j : length rest < length b.us = (h b.x).by b.us y rest b.second in
      omega arith;
}

pub Agree-same : {X : Type 0} (n : ℕ) (p : Parser X) → Agree n p p
Agree-same n p = record { at = λ ts h. refl }

bind_both : {X Y : Type 0} (f g : X → Parser Y) (r s : Option (X × List Tok)) → r ≡ s
    → ((x : X) (us : List Tok) → r ≡ Some (x, us) → f x us ≡ g x us)
    → option_and_then (λ q. f q.0 q.1) r ≡ option_and_then (λ q. g q.0 q.1) s
bind_both f g None s e h = rw (← e) refl
bind_both f g (Some q) s e h = rw (← e) (h q.0 q.1 refl)

pub Agree-bind : {X Y : Type 0} {n : ℕ} {p q : Parser X} {f g : X → Parser Y} → Agree n p q → Shrinks p → ((x : X) → Agree n (f x) (g x))
    → Agree n (p >>= f) (q >>= g)
Agree-bind {n = n} {p = p} {q = q} {f = f} {g = g} a s h = record {
  at = λ ts below.
      bind_both f g (p ts) (q ts) (a.at ts below) (λ x us e.
      let i : length us ≤ length ts = s.by ts x us e in
      (h x).at us (omega arith));
}

-- after a part that takes something, one more token may stand in front
pub Agree-Strict-bind : {X Y : Type 0} {n : ℕ} {p q : Parser X} {f g : X → Parser Y} → Agree (suc n) p q → Strict p
    → ((x : X) → Agree n (f x) (g x)) → Agree (suc n) (p >>= f) (q >>= g)
Agree-Strict-bind {n = n} {p = p} {q = q} {f = f} {g = g} a s h = record {
  at = λ ts below.
      bind_both f g (p ts) (q ts) (a.at ts below) (λ x us e.
      let i : length us < length ts = s.by ts x us e in
      (h x).at us (omega arith));
}

-- A step of a recursion that may be repeated: if the recursion reads no more than it is given, so does the step,
-- and it looks at the recursion on shorter lists only.
pub record IsStep {I X : Type 0} (step : (I → Parser X) → I → Parser X) : Type 0 where
  pub keeps : (f : I → Parser X) → ((i : I) → Shrinks (f i)) → (i : I) → Shrinks (step f i)
  pub local : (n : ℕ) (f g : I → Parser X) → ((i : I) → Shrinks (f i)) → ((i : I) → Agree n (f i) (g i)) → (i : I)
      → Agree (suc n) (step f i) (step g i)

module _ {I X : Type 0} (step : (I → Parser X) → I → Parser X) (good : IsStep step) where
  run_shrinks : (n : ℕ) (i : I) → Shrinks (run step n i)
  unfolding run
  run_shrinks zero i = record { by = λ ts x rest e. cc }
  run_shrinks (suc n) i = good.keeps (run step n) (run_shrinks n) i

  run_agrees : (k n m : ℕ) → k ≤ n → k ≤ m → (i : I) → Agree k (run step n i) (run step m i)
  unfolding run
  run_agrees zero n m h j i = record { at = λ ts below. absurd (omega arith) }
  run_agrees (suc k) zero m h j i = absurd (omega arith)
  run_agrees (suc k) (suc n) zero h j i = absurd (omega arith)
  run_agrees (suc k) (suc n) (suc m) h j i =
      good.local k (run step n) (run step m) (run_shrinks n) (run_agrees k n m (omega arith) (omega arith)) i

  pub fix_shrinks : (i : I) → Shrinks (fix step i)
  unfolding fix
  fix_shrinks i = record { by = λ ts x rest e. (run_shrinks (suc (length ts)) i).by ts x rest e }

  pub fix_is : (i : I) (ts : List Tok) → fix step i ts ≡ step (fix step) i ts
  unfolding fix run
  fix_is i ts =
      (good.local (length ts) (run step (length ts)) (fix step) (run_shrinks (length ts))
      (λ j. record {
        at =
            λ us below. (run_agrees (suc (length us)) (length ts) (suc (length us)) (omega arith) (omega arith) j).at us (omega arith);
      })
      i).at ts (omega arith)

-- what each step keeps of what is read holds for what the recursion reads
abbrev pub Finds : {I X : Type 0} → (I → List Tok → X → List Tok → Type 0) → (I → Parser X) → Type 0
Finds {I} {X} Q f = (i : I) (ts : List Tok) (x : X) (rest : List Tok) → f i ts ≡ Some (x, rest) → Q i ts x rest

run_finds : {I X : Type 0} (step : (I → Parser X) → I → Parser X) (Q : I → List Tok → X → List Tok → Type 0)
    → ((f : I → Parser X) → Finds Q f → Finds Q (step f)) → (n : ℕ) → Finds Q (run step n)
unfolding run
run_finds step Q h zero i ts x rest e = cc
run_finds step Q h (suc n) i ts x rest e = h (run step n) (run_finds step Q h n) i ts x rest e

pub fix_finds : {I X : Type 0} (step : (I → Parser X) → I → Parser X) (Q : I → List Tok → X → List Tok → Type 0)
    → ((f : I → Parser X) → Finds Q f → Finds Q (step f)) → Finds Q (fix step)
unfolding fix
fix_finds step Q h i ts x rest e = run_finds step Q h (suc (length ts)) i ts x rest e

pub Shrinks-cond : {X : Type 0} {p q : Parser X} (b : Bool) → Shrinks p → Shrinks q → Shrinks (cond b p q)
Shrinks-cond true s r = s
Shrinks-cond false s r = r

pub Agree-cond : {X : Type 0} {n : ℕ} {p q u v : Parser X} (b : Bool) → Agree n p u → Agree n q v → Agree n (cond b p q) (cond b u v)
Agree-cond true s r = s
Agree-cond false s r = r
