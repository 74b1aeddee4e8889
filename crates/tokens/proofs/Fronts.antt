-- At the front of a text there is at most one gap or token.
use Rattle.std.proofs.Common.{◌≡◌, ℕ, ◌<◌, Bool, true, false, not, ◌&&◌, ◌||◌, List, [], ◌∷◌, ◌++◌, length, refl, sym, subst, arith, Some}
use Rattle.std.specs.Prelude.{option_map, unwrap_or, ◌==◌}
use Rattle.std.proofs.lemmas.Bool.Decides.{nat_tests}
use Rattle.tokens.specs.declared.vocabulary.Kind.{Kind}
use Rattle.tokens.specs.declared.vocabulary.Kind.TheVariants as kind
use Rattle.tokens.specs.Spelling.{reserved_word, sign, is_word_byte, IsWord, reserved, name}
use Rattle.tokens.specs.Cuts.{is_blank, is_in_line, IsGap, blank, comment, IsToken, word, sign_of}
use Rattle.tokens.proofs.Spelled.{one_word, one_sign, word_bytes}
use Rattle.tokens.proofs.Runs.{one_run, one_front}

-- Whether a first byte passes a test.
abbrev pub begins : (ℕ → Bool) → List ℕ → Bool
begins test [] = false
begins test (b ∷ bs) = test b

-- The bytes that begin a gap.
abbrev pub is_gap_byte : ℕ → Bool
is_gap_byte b = is_blank b || b == 47

-- The bytes that begin neither a gap nor a word.
abbrev pub is_sign_byte : ℕ → Bool
is_sign_byte b = not (is_word_byte b) && not (is_gap_byte b)

pub begins-append : (test : ℕ → Bool) (v r : List ℕ) → begins test v ≡ true → begins test (v ++ r) ≡ true
begins-append test [] r e = cc
begins-append test (b ∷ v) r e = e

-- What begins a text of one sort begins none of another.
pub apart : (t u : ℕ → Bool) → ((b : ℕ) → t b ≡ true → u b ≡ true → ⊥) → (bs : List ℕ) → begins t bs ≡ true → begins u bs ≡ true → ⊥
apart t u never [] e f = cc
apart t u never (b ∷ bs) e f = never b e f

pub word_no_gap : (b : ℕ) → is_word_byte b ≡ true → is_gap_byte b ≡ true → ⊥
word_no_gap b e f = grind (arith, nat_tests)

pub word_no_sign : (b : ℕ) → is_word_byte b ≡ true → is_sign_byte b ≡ true → ⊥
word_no_sign b e f = let fails : not true && not (is_gap_byte b) ≡ true = rw e at f in cc

gap_no_sign : (b : ℕ) → is_gap_byte b ≡ true → is_sign_byte b ≡ true → ⊥
gap_no_sign b e f = let fails : not (is_word_byte b) && false ≡ true = rw e at f in by_test (is_word_byte b) fails
  where
    by_test : (t : Bool) → not t && false ≡ true → ⊥
    by_test true h = cc
    by_test false h = cc

reserved_begins : (k : Kind) → unwrap_or (option_map (begins is_word_byte) (reserved_word k)) true ≡ true
reserved_begins kind.Decl = refl
reserved_begins _ = refl

-- Words begin with word bytes,
pub word_begins : (k : Kind) (w : List ℕ) → IsWord k w → begins is_word_byte w ≡ true
word_begins k w (reserved e) = rw e at (reserved_begins k)
word_begins k [] (name is) = absurd is.begins
word_begins k (b ∷ w) (name is) = is.bytes.0

sign_begins_k : (k : Kind) → unwrap_or (option_map (begins is_sign_byte) (sign k)) true ≡ true
sign_begins_k kind.Comma = refl
sign_begins_k _ = refl

-- signs with theirs,
pub sign_begins : (k : Kind) (w : List ℕ) → sign k ≡ Some w → begins is_sign_byte w ≡ true
sign_begins k w e = rw e at (sign_begins_k k)

-- and gaps with theirs.
pub gap_begins : (w r : List ℕ) → IsGap w r → begins is_gap_byte w ≡ true
gap_begins w r (blank e) = rw e refl
gap_begins w r (comment pass stop) = refl

-- If there is a gap at the front, there is no token.
pub token_no_gap : (k : Kind) (v r w s : List ℕ) → v ++ r ≡ w ++ s → IsToken k v r → IsGap w s → ⊥
token_no_gap k v r w s e (word is stop) gap =
    apart is_word_byte is_gap_byte word_no_gap (v ++ r) (begins-append _ v r (word_begins k v is))
    (subst (λ bs. begins is_gap_byte bs ≡ true) (sym e) (begins-append _ w s (gap_begins w s gap)))
token_no_gap k v r w s e (sign_of is longest) gap =
    apart is_gap_byte is_sign_byte gap_no_sign (v ++ r)
    (subst (λ bs. begins is_gap_byte bs ≡ true) (sym e) (begins-append _ w s (gap_begins w s gap)))
    (begins-append _ v r (sign_begins k v is))

-- There is at most one gap at the front.
pub one_gap : (v r w s : List ℕ) → v ++ r ≡ w ++ s → IsGap v r → IsGap w s → v ≡ w
one_gap v r w s e (blank p) (blank q) = cc
one_gap v r w s e (blank {b} p) (comment pass stop) =
    let same : b ≡ 47 = cc in let fails : false ≡ true = subst (λ x. is_blank x ≡ true) same p in cc
one_gap v r w s e (comment pass stop) (blank {b} p) =
    let same : b ≡ 47 = cc in let fails : false ≡ true = subst (λ x. is_blank x ≡ true) same p in cc
one_gap v r w s e (comment {line} pass stop) (comment {line = other} also end) =
    let rests : line ++ r ≡ other ++ s = cc in
    let same : line ≡ other = one_run is_in_line line other r s pass also stop end rests in
    cc

-- A word has one kind.
one_kind : (j k : Kind) (w : List ℕ) → IsWord j w → IsWord k w → j ≡ k
one_kind j k w (reserved e) (reserved f) = one_word j k w e f
one_kind j k w (reserved e) (name is) = absurd (is.no_keyword j e)
one_kind j k w (name is) (reserved f) = absurd (is.no_keyword k f)
one_kind j k w (name is) (name also) = refl

-- There is at most one token at the front.
pub one_token : (j k : Kind) (v r w s : List ℕ) → v ++ r ≡ w ++ s → IsToken j v r → IsToken k w s → (j ≡ k) × (v ≡ w)
one_token j k v r w s e (word is stop) (word also end) =
    let same : v ≡ w = one_run is_word_byte v w r s (word_bytes j v is) (word_bytes k w also) stop end e in
    (one_kind j k w (subst (IsWord j) same is) also, same)
one_token j k v r w s e (word is stop) (sign_of also longest) =
    absurd
    (apart is_word_byte is_sign_byte word_no_sign (v ++ r) (begins-append _ v r (word_begins j v is))
    (subst (λ bs. begins is_sign_byte bs ≡ true) (sym e) (begins-append _ w s (sign_begins k w also))))
one_token j k v r w s e (sign_of is longest) (word also end) =
    absurd
    (apart is_word_byte is_sign_byte word_no_sign (v ++ r)
    (subst (λ bs. begins is_word_byte bs ≡ true) (sym e) (begins-append _ w s (word_begins k w also)))
    (begins-append _ v r (sign_begins j v is)))
one_token j k v r w s e (sign_of is longest) (sign_of also most) =
    let long : length v ≡ length w = omega (arith, longest k w s also e, most j v r is (sym e)) in
    let same : v ≡ w = one_front v w r s long e in
    (one_sign j k w (subst (λ x. sign j ≡ Some x) same is) also, same)

-- A gap has a first byte,
pub gap_some : (w r : List ℕ) → [] ≡ w ++ r → IsGap w r → ⊥
gap_some w r e is =
    let fails : false ≡ true = subst (λ bs. begins is_gap_byte bs ≡ true) (sym e) (begins-append _ w r (gap_begins w r is)) in cc

-- and so has a token.
pub token_some : (k : Kind) (w r : List ℕ) → [] ≡ w ++ r → IsToken k w r → ⊥
token_some k w r e (word is stop) =
    let fails : false ≡ true = subst (λ bs. begins is_word_byte bs ≡ true) (sym e) (begins-append _ w r (word_begins k w is)) in cc
token_some k w r e (sign_of is longest) =
    let fails : false ≡ true = subst (λ bs. begins is_sign_byte bs ≡ true) (sym e) (begins-append _ w r (sign_begins k w is)) in cc

-- What passes a test at its front has a length.
begins_long : (test : ℕ → Bool) (bs : List ℕ) → begins test bs ≡ true → 0 < length bs
begins_long test [] e = cc
begins_long test (b ∷ bs) e = omega arith

-- A token has a length.
pub token_long : (k : Kind) (w r : List ℕ) → IsToken k w r → 0 < length w
token_long k w r (word is stop) = begins_long is_word_byte w (word_begins k w is)
token_long k w r (sign_of is longest) = begins_long is_sign_byte w (sign_begins k w is)
