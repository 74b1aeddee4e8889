-- What the two tables of spellings say together.
use Rattle.std.proofs.Common.{◌≡◌, ℕ, Bool, true, false, List, [], ◌∷◌, refl, sym, ◌∙◌, arith, Some, None}
use Rattle.std.specs.Prelude.{Option, option_map, unwrap_or, if◌then◌else◌}
use Rattle.std.specs.Option.{option_map_or}
use Rattle.std.specs.List.{list_all, AllByRecursion}
use Rattle.std.specs.Str.{bytes_eq}
use Rattle.std.proofs.lemmas.Option.{same_Some}
use Rattle.tokens.specs.declared.vocabulary.Kind.{Kind}
use Rattle.tokens.specs.declared.vocabulary.Kind.TheVariants as kind
use Rattle.tokens.specs.Spelling.{reserved_word, sign, is_word_byte, AreWordBytes, IsWord, reserved, name}

-- The words that are reserved are made of word bytes.
reserved_bytes : (k : Kind) → unwrap_or (option_map (list_all is_word_byte) (reserved_word k)) true ≡ true
reserved_bytes kind.Decl = refl
reserved_bytes _ = refl

-- The kind among these that a table spells so.
kind_named : (Kind → Option (List ℕ)) → List Kind → List ℕ → Option Kind
kind_named spelled [] w = None
kind_named spelled (k ∷ kinds) w = if option_map_or (bytes_eq w) (spelled k) false then Some k else kind_named spelled kinds w

-- If each spelling names its kind, two kinds that are spelled alike are one.
one_kind : (spelled : Kind → Option (List ℕ)) (kinds : List Kind)
    → ((k : Kind) → option_map_or (kind_named spelled kinds) (spelled k) (Some k) ≡ Some k)
    → (j k : Kind) (w : List ℕ) → spelled j ≡ Some w → spelled k ≡ Some w → j ≡ k
one_kind spelled kinds named j k w e f = same_Some _ _ (sym (rw e at (named j)) ∙ rw f at (named k))

abbrev words : List Kind
words =
    kind.Decl ∷ kind.Begin ∷ kind.End ∷ kind.Thread ∷ kind.Skip ∷ kind.If ∷ kind.Then ∷ kind.Else ∷ kind.Fi ∷ kind.While ∷ kind.Do
    ∷ kind.Od ∷ kind.Assert ∷ kind.Assume ∷ kind.Goto ∷ kind.Return ∷ kind.Zero ∷ kind.One ∷ []

abbrev signs : List Kind
signs =
    kind.Comma ∷ kind.Semicolon ∷ kind.Colon ∷ kind.Assign ∷ kind.Open ∷ kind.Close ∷ kind.Any ∷ kind.Implies ∷ kind.Or ∷ kind.Xor
    ∷ kind.And ∷ kind.Equal ∷ kind.Differs ∷ kind.Not ∷ []

named_word : (k : Kind) → option_map_or (kind_named reserved_word words) (reserved_word k) (Some k) ≡ Some k
unfolding kind_named
named_word kind.Decl = refl
named_word _ = refl

named_sign : (k : Kind) → option_map_or (kind_named sign signs) (sign k) (Some k) ≡ Some k
unfolding kind_named
named_sign kind.Comma = refl
named_sign _ = refl

pub one_word : (j k : Kind) (w : List ℕ) → reserved_word j ≡ Some w → reserved_word k ≡ Some w → j ≡ k
one_word = one_kind reserved_word words named_word

pub one_sign : (j k : Kind) (w : List ℕ) → sign j ≡ Some w → sign k ≡ Some w → j ≡ k
one_sign = one_kind sign signs named_sign

-- What passes by computing passes by recursion.
pub passes : (test : ℕ → Bool) (xs : List ℕ) → list_all test xs ≡ true → AllByRecursion (λ x. test x ≡ true) xs
passes test [] e = tt
passes test (x ∷ xs) e = (grind arith, passes test xs (grind arith))

-- Words are made of word bytes.
pub word_bytes : (k : Kind) (w : List ℕ) → IsWord k w → AreWordBytes w
word_bytes k w (reserved e) = passes is_word_byte w (rw e at (reserved_bytes k))
word_bytes k w (name is) = is.bytes
