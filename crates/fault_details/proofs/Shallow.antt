-- No tokens are not too deep.
use Rattle.std.proofs.Common.{◌≡◌, ◌<◌, ◌↔◌, Bool, true, false, List, [], ◌∷◌, arith, inl, inr, length, refl}
use Rattle.std.specs.Prelude.{IsTrue}
use Rattle.tokens.specs.Depth.{TooDeep}
use Rattle.tokens.specs.Token.{Tok, toks_of}
use Rattle.tokens.specs.declared.vocabulary.Token.{Token}

pub nothing_is_shallow : TooDeep [] → ⊥
nothing_is_shallow (inl ([], rest, cut, deep)) = omega arith
nothing_is_shallow (inl (t ∷ front, rest, cut, deep)) = cc
nothing_is_shallow (inr ([], [], after, cut, on, long)) = omega arith
nothing_is_shallow (inr ([], t ∷ stretch, after, cut, on, long)) = cc
nothing_is_shallow (inr (t ∷ before, stretch, after, cut, on, long)) = cc

-- so too deep tokens are some
pub some_tokens : (ts : List Token) → TooDeep (toks_of ts) → 0 < length ts
some_tokens [] deep = absurd (nothing_is_shallow deep)
some_tokens (t ∷ ts) deep = omega arith

-- and are found to be so
pub found_deep : (ts : List Token) (flag : Bool) → IsTrue flag ↔ TooDeep (toks_of ts) → flag ≡ true → TooDeep (toks_of ts)
found_deep ts true both e = both.0 refl
found_deep ts false both e = cc
