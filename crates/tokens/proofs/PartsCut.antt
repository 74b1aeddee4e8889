-- A text of parts that are apart is cut into their tokens.
use Rattle.std.proofs.Common.{◌≡◌, ◌≢◌, ℕ, ◌+◌, ◌≤◌, Bool, true, false, not, ◌&&◌, ◌||◌, inl, inr, List, [], ◌∷◌, ◌++◌, length, get_or}
use Rattle.std.proofs.Common.{refl, sym, ap, subst, ◌∙◌, arith, append_assoc, add-zero, length-append, Some}
use Rattle.std.specs.Prelude.{option_map, unwrap_or, ◌==◌, nat_lt}
use Rattle.std.specs.List.{list_all}
use Rattle.std.specs.Str.{IsAscii}
use Rattle.std.proofs.lemmas.List.Folds.{list_all-append}
use Rattle.std.proofs.lemmas.List.Sums.{AllPass-from_list_all}
use Rattle.std.proofs.lemmas.Str.Ascii.{IsAscii-from_all}
use borrow.Author.Tests.{ltb-true}
use Rattle.std.proofs.lemmas.Bool.Decides.{nat_tests}
use Rattle.tokens.specs.declared.vocabulary.Kind.{Kind}
use Rattle.tokens.specs.declared.vocabulary.Kind.TheVariants as kind
use Rattle.tokens.specs.Spelling.{reserved_word, sign, is_word_byte, AreWordBytes, IsWord, reserved, name}
use Rattle.tokens.specs.Cuts.{Stops, IsLongestSign, IsToken, word, sign_of, blank, Cuts, nothing, gap, token}
use Rattle.tokens.specs.Parts.{Part, shown, space, line, text_of, tokens_of, is_word, may_grow, begins_equal, IsApart, IsSpelled, AreApart}
use Rattle.tokens.specs.Parts.{spelling}
use Rattle.tokens.proofs.Fronts.{begins, is_sign_byte, is_gap_byte, word_begins, sign_begins}

-- Only words are spelled as words,
reserved_is_word : (k : Kind) → unwrap_or (option_map (λ w. is_word k) (reserved_word k)) true ≡ true
reserved_is_word kind.Decl = refl
reserved_is_word _ = refl

word_is : (k : Kind) (w : List ℕ) → IsWord k w → is_word k ≡ true
word_is k w (reserved e) = rw e at (reserved_is_word k)
word_is k w (name is) = refl

-- A test of the spelling of a sign, for each kind.
abbrev of_sign : (Kind → List ℕ → Bool) → Kind → Bool
of_sign test k = unwrap_or (option_map (test k) (sign k)) true

-- Only = and => begin with =, and none begins with >.
abbrev next_ok : Kind → List ℕ → Bool
next_ok k [] = false
next_ok k (b ∷ w) = (not (b == 61) || begins_equal k) && not (b == 62)

next_ok_all : (k : Kind) → of_sign next_ok k ≡ true
next_ok_all kind.Comma = refl
next_ok_all _ = refl

-- A sign of one byte that is : or ! may grow.
abbrev grows_ok : Kind → List ℕ → Bool
grows_ok k [] = false
grows_ok k (b ∷ []) = not (b == 58 || b == 33) || may_grow k
grows_ok k (b ∷ c ∷ w) = true

grows_ok_all : (k : Kind) → of_sign grows_ok k ≡ true
grows_ok_all kind.Comma = refl
grows_ok_all _ = refl

-- Of two bytes are :=, => and != alone, and no sign is longer.
abbrev long_ok : Kind → List ℕ → Bool
long_ok k [] = false
long_ok k (b ∷ []) = true
long_ok k (b ∷ c ∷ []) = c == 62 || (c == 61 && (b == 58 || b == 33))
long_ok k (b ∷ c ∷ d ∷ w) = false

long_ok_all : (k : Kind) → of_sign long_ok k ≡ true
long_ok_all kind.Comma = refl
long_ok_all _ = refl

at_sign : (test : Kind → List ℕ → Bool) (k : Kind) (w : List ℕ) → of_sign test k ≡ true → sign k ≡ Some w → test k w ≡ true
at_sign test k w all e = rw e at all

-- After a sign's first byte no word begins.
sign_stops : (v rest : List ℕ) → begins is_sign_byte v ≡ true → Stops is_word_byte (v ++ rest)
sign_stops [] rest e = cc
sign_stops (b ∷ v) rest e = by_test (is_word_byte b) (not (is_gap_byte b)) e
  where
    by_test : (t o : Bool) → not t && o ≡ true → t ≡ false
    by_test true o f = sym f
    by_test false o f = refl

both : (a b c : Bool) → a ≡ true → a && b || c ≡ false → b ≡ false
both true true c e f = f
both true false c e f = refl
both false b c e f = cc

-- After a word comes no word byte.
word_stops : (k : Kind) (w : List ℕ) (parts : List Part) → IsWord k w → IsApart k parts → AreApart parts
    → Stops is_word_byte (text_of parts)
word_stops k w [] is apart spelled = tt
word_stops k w (space ∷ parts) is apart spelled = refl
word_stops k w (line ∷ parts) is apart spelled = refl
word_stops k w (shown next v ∷ parts) is apart spelled = by_spelling spelled.0
  where
    by_spelling : IsSpelled next v → Stops is_word_byte (v ++ text_of parts)
    by_spelling (inl also) =
        let fails : is_word next ≡ false = both (is_word k) (is_word next) (may_grow k && begins_equal next) (word_is k w is) apart in
        let holds : is_word next ≡ true = word_is next v also in
        absurd (cc)
    by_spelling (inr also) = sign_stops v (text_of parts) (sign_begins next v also)

-- What the tests of the spellings exclude.
excluded : (a b x g q w : Bool) → a || (b && x) ≡ true → not x || g ≡ true → (not b || q) && not a ≡ true → w || g && q ≡ false → ⊥
excluded a b x g q w e f h i = grind arith

word_no_equal : (b : ℕ) (x : Bool) → is_word_byte b ≡ true → b == 62 || (b == 61 && x) ≡ true → ⊥
word_no_equal b x e f = grind (arith, nat_tests)

-- What comes next does not make a sign longer.
never_grows : (k : Kind) (x c : ℕ) (rest : List ℕ) (parts : List Part) → grows_ok k (x ∷ []) ≡ true
    → c == 62 || (c == 61 && (x == 58 || x == 33)) ≡ true → text_of parts ≡ c ∷ rest → IsApart k parts → AreApart parts → ⊥
never_grows k x c rest [] grows long e apart spelled = cc
never_grows k x c rest (space ∷ parts) grows long e apart spelled =
    let same : 32 ≡ c = cc in
    let fails : false ≡ true = subst (λ v. v == 62 || (v == 61 && (x == 58 || x == 33)) ≡ true) (sym same) long in cc
never_grows k x c rest (line ∷ parts) grows long e apart spelled =
    let same : 10 ≡ c = cc in
    let fails : false ≡ true = subst (λ v. v == 62 || (v == 61 && (x == 58 || x == 33)) ≡ true) (sym same) long in cc
never_grows k x c rest (shown next v ∷ parts) grows long e apart spelled = by_text v spelled.0 e
  where
    by_text : (v : List ℕ) → IsSpelled next v → v ++ text_of parts ≡ c ∷ rest → ⊥
    by_text [] (inl also) f = let fails : false ≡ true = word_begins next [] also in cc
    by_text [] (inr also) f = let fails : false ≡ true = sign_begins next [] also in cc
    by_text (d ∷ v) (inl also) f =
        let same : d ≡ c = cc in
        word_no_equal c (x == 58 || x == 33) (subst (λ b. is_word_byte b ≡ true) same (word_begins next (d ∷ v) also)) long
    by_text (d ∷ v) (inr also) f =
        let same : d ≡ c = cc in
        let ok : (not (d == 61) || begins_equal next) && not (d == 62) ≡ true = at_sign next_ok next (d ∷ v) (next_ok_all next) also in
        excluded (c == 62) (c == 61) (x == 58 || x == 33) (may_grow k) (begins_equal next) (is_word k && is_word next) long grows
        (subst (λ b. (not (b == 61) || begins_equal next) && not (b == 62) ≡ true) same ok) apart

-- A sign that stands apart is the longest.
sign_longest : (k : Kind) (w : List ℕ) (parts : List Part) → sign k ≡ Some w → IsApart k parts → AreApart parts
    → IsLongestSign w (w ++ text_of parts)
sign_longest k w parts is apart spelled j other rest e cut =
    by_length w other (at_sign long_ok k w (long_ok_all k) is) (at_sign grows_ok k w (grows_ok_all k) is)
    (at_sign long_ok j other (long_ok_all j) e) cut
  where
    by_length : (w other : List ℕ) → long_ok k w ≡ true → grows_ok k w ≡ true → long_ok j other ≡ true → w ++ text_of parts ≡ other ++ rest
        → length other ≤ length w
    by_length w [] some grows long f = omega arith
    by_length [] (b ∷ other) some grows long f = cc
    by_length (x ∷ w) (b ∷ []) some grows long f = omega arith
    by_length (x ∷ []) (b ∷ c ∷ []) some grows long f =
        let same : x ≡ b = cc in
        let next : text_of parts ≡ c ∷ rest = cc in
        absurd
        (never_grows k x c rest parts grows
        (subst (λ v. c == 62 || (c == 61 && (v == 58 || v == 33)) ≡ true) (sym same) long) next apart spelled)
    by_length (x ∷ y ∷ w) (b ∷ c ∷ []) some grows long f = omega arith
    by_length (x ∷ w) (b ∷ c ∷ d ∷ other) some grows long f = cc

-- A part of the text is a token of it.
is_token : (k : Kind) (w : List ℕ) (parts : List Part) → IsSpelled k w → IsApart k parts → AreApart parts → IsToken k w (text_of parts)
is_token k w parts (inl is) apart spelled = word is (word_stops k w parts is apart spelled)
is_token k w parts (inr is) apart spelled = sign_of is (sign_longest k w parts is apart spelled)

-- The whole text is cut into the tokens of its parts.
pub parts_cut : (at : ℕ) (parts : List Part) → AreApart parts → Cuts at (text_of parts) (tokens_of at parts)
parts_cut at [] spelled = nothing
parts_cut at (space ∷ parts) spelled = gap (32 ∷ []) (text_of parts) refl (blank refl) (parts_cut (at + 1) parts spelled)
parts_cut at (line ∷ parts) spelled = gap (10 ∷ []) (text_of parts) refl (blank refl) (parts_cut (at + 1) parts spelled)
parts_cut at (shown k w ∷ parts) spelled =
    token k w (text_of parts) refl (is_token k w parts spelled.0 spelled.1 spelled.2) (parts_cut (at + length w) parts spelled.2)

-- Words are ASCII,
reserved_ascii : (k : Kind) → unwrap_or (option_map (list_all (λ b. nat_lt b 128)) (reserved_word k)) true ≡ true
reserved_ascii kind.Decl = refl
reserved_ascii _ = refl

word_byte_ascii : (b : ℕ) → is_word_byte b ≡ true → nat_lt b 128 ≡ true
word_byte_ascii b e = grind (arith, nat_tests)

bytes_ascii : (w : List ℕ) → AreWordBytes w → list_all (λ b. nat_lt b 128) w ≡ true
bytes_ascii [] all = refl
bytes_ascii (b ∷ w) all = let first = word_byte_ascii b all.0 in let others = bytes_ascii w all.1 in rw (first, others) refl

word_ascii : (k : Kind) (w : List ℕ) → IsWord k w → list_all (λ b. nat_lt b 128) w ≡ true
word_ascii k w (reserved e) = rw e at (reserved_ascii k)
word_ascii k w (name is) = bytes_ascii w is.bytes

-- signs are,
sign_ascii : (k : Kind) → of_sign (λ k w. list_all (λ b. nat_lt b 128) w) k ≡ true
sign_ascii kind.Comma = refl
sign_ascii _ = refl

-- and so is a text of them.
all_ascii : (parts : List Part) → AreApart parts → list_all (λ b. nat_lt b 128) (text_of parts) ≡ true
all_ascii [] spelled = refl
all_ascii (space ∷ parts) spelled = all_ascii parts spelled
all_ascii (line ∷ parts) spelled = all_ascii parts spelled
all_ascii (shown k w ∷ parts) spelled = rw (list_all-append, by_spelling spelled.0, all_ascii parts spelled.2) refl
  where
    by_spelling : IsSpelled k w → list_all (λ b. nat_lt b 128) w ≡ true
    by_spelling (inl is) = word_ascii k w is
    by_spelling (inr is) = at_sign (λ k w. list_all (λ b. nat_lt b 128) w) k w (sign_ascii k) is

from_all : (bs : List ℕ) → list_all (λ b. nat_lt b 128) bs ≡ true → IsAscii bs
from_all bs e = IsAscii-from_all bs (λ i d within. ltb-true (get_or bs i d) 128 (AllPass-from_list_all (λ b. nat_lt b 128) bs e i d within))

pub parts_ascii : (parts : List Part) → AreApart parts → IsAscii (text_of parts)
parts_ascii parts spelled = from_all (text_of parts) (all_ascii parts spelled)

-- Every kind but names has its spelling.
pub fixed_spelled : (k : Kind) → k ≢ kind.Id → IsSpelled k (spelling k)
fixed_spelled kind.Comma other = inr refl
fixed_spelled kind.Semicolon other = inr refl
fixed_spelled kind.Colon other = inr refl
fixed_spelled kind.Assign other = inr refl
fixed_spelled kind.Open other = inr refl
fixed_spelled kind.Close other = inr refl
fixed_spelled kind.Any other = inr refl
fixed_spelled kind.Implies other = inr refl
fixed_spelled kind.Or other = inr refl
fixed_spelled kind.Xor other = inr refl
fixed_spelled kind.And other = inr refl
fixed_spelled kind.Equal other = inr refl
fixed_spelled kind.Differs other = inr refl
fixed_spelled kind.Not other = inr refl
fixed_spelled kind.Id other = absurd (other refl)
fixed_spelled _ other = inl (reserved refl)

-- Parts appended to parts make a text appended to a text,
pub text_of-append : (parts more : List Part) → text_of (parts ++ more) ≡ text_of parts ++ text_of more
text_of-append [] more = refl
text_of-append (space ∷ parts) more = ap (λ v. 32 ∷ v) (text_of-append parts more)
text_of-append (line ∷ parts) more = ap (λ v. 10 ∷ v) (text_of-append parts more)
text_of-append (shown k w ∷ parts) more = ap (λ v. w ++ v) (text_of-append parts more) ∙ sym (append_assoc w (text_of parts) (text_of more))

-- and tokens appended to tokens.
pub tokens_of-append : (at : ℕ) (parts more : List Part)
    → tokens_of at (parts ++ more) ≡ tokens_of at parts ++ tokens_of (at + length (text_of parts)) more
tokens_of-append at [] more = ap (λ n. tokens_of n more) (sym (add-zero at))
tokens_of-append at (space ∷ parts) more =
    tokens_of-append (at + 1) parts more ∙ ap (λ n. tokens_of (at + 1) parts ++ tokens_of n more) (omega arith)
tokens_of-append at (line ∷ parts) more =
    tokens_of-append (at + 1) parts more ∙ ap (λ n. tokens_of (at + 1) parts ++ tokens_of n more) (omega arith)
tokens_of-append at (shown k w ∷ parts) more =
    ap (λ ts. record { kind = k; at = at; text = w } ∷ ts) (tokens_of-append (at + length w) parts more
    ∙ ap (λ n. tokens_of (at + length w) parts ++ tokens_of n more) (omega (arith, length-append w (text_of parts))))
