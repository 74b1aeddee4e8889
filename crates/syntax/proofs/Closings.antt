-- What comes before a closing token is seen as before.
use Rattle.std.specs.Prelude.{Result, Ok, Err, option_and_then, IfOk, IsOkUnless}
use Rattle.std.specs.declared.vec.Vec.{Vec}
use Rattle.std.proofs.Common.{◌≡◌, ◌<◌, ◌≤◌, ℕ, true, List, [], length, map, Option, Some, None, refl, arith}
use denote.Ref.{Bor}
use Rattle.tokens.specs.declared.vocabulary.Kind.{Kind}
use Rattle.tokens.specs.declared.vocabulary.Token.{Token}
use Rattle.tokens.specs.Token.{Tok, toks_of}
use Rattle.tokens.specs.declared.vocabulary.Kind.TheVariants as kind
use Rattle.syntax.specs.Parser.{Parser, take, begins, ◌>>=◌}
use Rattle.syntax.specs.Exact.{closing, perhaps}
use Rattle.syntax.specs.Gives.{Gives, Parses, Shorter, Closes}
use Rattle.syntax.specs.declared.fault.ReadFault.{ReadFault}
use Rattle.syntax.specs.declared.fault.ReadFault.TheVariants as fault
use Rattle.syntax.proofs.Fixes.{both}
use Rattle.syntax.proofs.Exits.{fails_on, refused}

kept : {X Y : Type 0} (view : X → Y) (value : X) (r : Result (X × Bor (List Token)) ReadFault)
    (o : Option (Tok × List Tok))
    → Gives {Y = X × List Tok} (λ p. (p.0, toks_of p.1.now)) r
    (option_and_then (λ (q : Tok × List Tok). Some (value, q.1)) o)
    → Gives {Y = Y × List Tok} (λ p. (view p.0, toks_of p.1.now)) r
    (option_and_then (λ (q : Tok × List Tok). Some (view value, q.1)) o)
kept view value (Ok p) None h = cc
kept view value (Ok p) (Some q) h = let e = both h in rw (e.0, e.1) refl
kept view value (Err f) None h = fails_on f _ _ (λ e. refl) h
kept view value (Err f) (Some q) h = fails_on f _ _ (λ e. cc) h

-- what was read and closed, seen by a view
pub closed_seen : {X Y : Type 0} (view : X → Y) (value : X) (kind : Kind) (r : Result (X × Bor (List Token)) ReadFault)
    (ts : List Token) (given : Option (Y × List Tok)) → given ≡ closing kind (view value) (toks_of ts)
    → Parses (λ v. v) r (closing kind value) ts
    → Gives {Y = Y × List Tok} (λ p. (view p.0, toks_of p.1.now)) r given
closed_seen view value kind r ts given same h = rw same (kept view value r (take kind (toks_of ts)) h)

module _ {X Y : Type 0} (view : X → Y) (parser : Parser Y) (kind : Kind) (read r : Result (X × Bor (List Token)) ReadFault)
    (ts : List Token) where
  -- what was read before a closing token is seen as before, and the token after it
  pub closed_read : Parses view read parser ts → Closes kind read r → Parses view r (parser >>= λ y. closing kind y) ts
  closed_read h c = by_read read h c
    where
      by_read : (o : Result (X × Bor (List Token)) ReadFault) → Parses view o parser ts → Closes kind o r
          → Parses view r (parser >>= λ y. closing kind y) ts
      by_read (Ok p) h c = rw h (closed_seen view p.0 kind r p.1.now _ refl c.0)
      by_read (Err e) h c = refused _ r e (parser (toks_of ts)) _ c (λ none. rw none refl) h

pub closed_shorter : {X : Type 0} (kind : Kind) (read r : Result (X × Bor (List Token)) ReadFault) (ts : List Token)
    → Shorter read ts → Closes kind read r → Shorter r ts
closed_shorter kind (Ok p) (Ok q) ts h c = omega (arith, h, c.1)
closed_shorter kind (Ok p) (Err e) ts h c = tt
closed_shorter kind (Err e) (Ok q) ts h c = absurd c
closed_shorter kind (Err e) (Err f) ts h c = tt

pub less_still : {a b c : ℕ} → a < b → b < c → a < c
less_still less more = omega (arith, less, more)

pub no_more : {a b c : ℕ} → a < b → b ≤ c → a < c
no_more less more = omega (arith, less, more)

-- what is read of fewer tokens leaves fewer
pub shorter_behind : {X : Type 0} (r : Result (X × Bor (List Token)) ReadFault) (us ts : List Token) → length us < length ts
    → Shorter r us → Shorter r ts
shorter_behind (Ok p) us ts less h = omega (arith, less, h)
shorter_behind (Err e) us ts less h = tt

-- no values, before a closing parenthesis
pub none_read : {X Y A : Type 0} (view : X → Y) (parser : Parser Y) (r : Result (Vec X A × Bor (List Token)) ReadFault)
    (ts : List Token) → begins kind.Close (toks_of ts) ≡ true → IfOk r (λ p. (p.0.items ≡ []) × (p.1.now ≡ ts))
    → IsOkUnless r fault.Memory → Parses (λ v. map view v.items) r (perhaps parser) ts
none_read view parser (Ok p) ts h ok err = rw (h, ok.0, ok.1) refl
none_read view parser (Err e) ts h ok err = rw err tt
