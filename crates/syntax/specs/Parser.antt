-- Functions from token lists to what is at their front.
use Rattle.std.specs.Prelude.{◌≡◌, ◌<◌, ℕ, zero, suc, Bool, false, List, [], ◌∷◌, length, cond, Option, Some}
use Rattle.std.specs.Prelude.{None, option_and_then}
use Rattle.tokens.specs.declared.vocabulary.Kind.{Kind}
use Rattle.tokens.specs.Token.{Tok, same_kind}

-- What a front of the tokens stands for, and the tokens after it, or nothing.
abbrev pub Parser : Type 0 → Type 0
Parser X = List Tok → Option (X × List Tok)

-- no tokens, which stand for x
abbrev pub give : {X : Type 0} → X → Parser X
give x ts = Some (x, ts)

-- nothing, whatever the tokens
abbrev pub refuse : {X : Type 0} → Parser X
refuse ts = None

infixl 10 ◌>>=◌
-- one after the other
abbrev pub ◌>>=◌ : {X Y : Type 0} → Parser X → (X → Parser Y) → Parser Y
(parser >>= f) ts = option_and_then (λ q. f q.0 q.1) (parser ts)

-- whether a token of this kind comes next
abbrev pub begins : Kind → List Tok → Bool
begins token_kind [] = false
begins token_kind (token ∷ tokens) = same_kind token.kind token_kind

-- one token of this kind
abbrev pub take : Kind → Parser Tok
take token_kind [] = None
take token_kind (token ∷ tokens) = cond (same_kind token.kind token_kind) (Some (token, tokens)) None

-- a recursion that may go n levels deep
unfoldable pub run : {I X : Type 0} → ((I → Parser X) → I → Parser X) → ℕ → I → Parser X
run step zero i ts = None
run step (suc n) i ts = step (run step n) i ts

-- a recursion that goes as deep as there are tokens
unfoldable pub fix : {I X : Type 0} → ((I → Parser X) → I → Parser X) → I → Parser X
fix step i ts = run step (suc (length ts)) i ts

-- this again and again, while the test holds for the tokens
abbrev pub many_step : {X : Type 0} → (List Tok → Bool) → Parser X → (Unit {0} → Parser (List X)) → Unit {0} → Parser (List X)
many_step test parser rec u ts = cond (test ts) ((parser >>= λ x. rec u >>= λ xs. give (x ∷ xs)) ts) (Some ([], ts))

unfoldable pub many : {X : Type 0} → (List Tok → Bool) → Parser X → Parser (List X)
many test parser = fix (many_step test parser) tt

-- what is left is shorter than what was given
pub record Strict {X : Type 0} (parser : Parser X) : Type 0 where
  pub by : (ts : List Tok) (x : X) (rest : List Tok) → parser ts ≡ Some (x, rest) → length rest < length ts
