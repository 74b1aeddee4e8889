-- What a reader returns, and what the grammar's function gives.
use Rattle.std.specs.Prelude.{◌≡◌, ◌<◌, List, [], ◌∷◌, ◌++◌, length, Option, None, Some, Result, Ok, Err, IfOk, IsErrAnd}
use denote.Ref.{Bor}
use Rattle.tokens.specs.declared.vocabulary.Kind.{Kind}
use Rattle.tokens.specs.declared.vocabulary.Token.{Token}
use Rattle.tokens.specs.Token.{toks_of}
use Rattle.syntax.specs.Parser.{Parser}
use Rattle.syntax.specs.Exact.{closing}
use Rattle.syntax.specs.declared.fault.ReadFault.{ReadFault}
use Rattle.syntax.specs.declared.fault.ReadFault.TheVariants as fault

-- Nothing is given if a token is refused; lack of memory says nothing; no other fault comes.
abbrev pub RefusesTokens : {Y : Type 0} → ReadFault → Option Y → Type 0
RefusesTokens (fault.Syntax at) given = given ≡ None
RefusesTokens fault.Memory given = Unit {0}
RefusesTokens fault.TooLong given = ⊥
RefusesTokens fault.NotAscii given = ⊥
RefusesTokens fault.TooDeep given = ⊥

-- What was returned, seen by view, is what is given.
abbrev pub Gives : {X Y : Type 0} → (X → Y) → Result X ReadFault → Option Y → Type 0
Gives view (Ok x) given = given ≡ Some (view x)
Gives view (Err answer) given = RefusesTokens answer given

-- What is read of the tokens, seen by view, is what the grammar's function reads, and the same tokens are left.
abbrev pub Parses : {X Y : Type 0} → (X → Y) → Result (X × Bor (List Token)) ReadFault → Parser Y → List Token → Type 0
Parses view result parser tokens = Gives (λ p. (view p.0, toks_of p.1.now)) result (parser (toks_of tokens))

-- Some token is read.
abbrev pub Shorter : {X : Type 0} → Result (X × Bor (List Token)) ReadFault → List Token → Type 0
Shorter result tokens = IfOk result (λ p. length p.1.now < length tokens)

-- After what was read, a token of this kind is read too; a fault stays as it was.
abbrev pub Closes : {X : Type 0} → Kind → Result (X × Bor (List Token)) ReadFault → Result (X × Bor (List Token)) ReadFault → Type 0
Closes token_kind (Ok p) result = Parses (λ v. v) result (closing token_kind p.0) p.1.now × Shorter result p.1.now
Closes token_kind (Err before) result = IsErrAnd result (λ fault. fault ≡ before)

-- One more is read of the tokens as the grammar's function reads it, and stands behind the others; the same tokens are
-- left.
abbrev pub Adds : {X Y : Type 0} → (X → Y) → Result (Bor (List Token)) ReadFault → Parser Y → List Token → List X → List X → Type 0
Adds {X} view (Ok rest) parser tokens old new =
    (x : X) × (new ≡ old ++ x ∷ []) × (parser (toks_of tokens) ≡ Some (view x, toks_of rest.now))
Adds view (Err fault) parser tokens old new = RefusesTokens fault (parser (toks_of tokens))
