-- What the tests at the front of a text say of it.
use Rattle.std.proofs.Common.{◌≡◌, ◌≢◌, ℕ, suc, ◌+◌, ◌≤◌, ◌<◌, Bool, true, false, List, [], ◌∷◌, ◌++◌, length, take, drop, get_or, sym, ap}
use Rattle.std.proofs.Common.{subst, ◌∙◌, arith, Some}
use Rattle.std.specs.List.{prefix_len}
use Rattle.std.proofs.lemmas.List.{take-append-drop}
use Rattle.std.proofs.lemmas.List.Sums.{prefix_len-le-length}
use Rattle.tokens.specs.declared.vocabulary.Kind.{Kind}
use Rattle.tokens.specs.Spelling.{sign, is_word_byte, IsWord}
use Rattle.tokens.specs.Cuts.{is_blank, is_in_line, IsGap, blank, comment, IsLongestSign, IsToken, word, sign_of, IsBad}
use Rattle.tokens.proofs.Spelled.{word_bytes}
use Rattle.tokens.proofs.Runs.{one_run, run_passes, run_stops}
use Rattle.tokens.proofs.Fronts.{begins, begins-append, is_gap_byte, is_sign_byte, apart, word_begins, sign_begins, gap_begins, word_no_gap}
use Rattle.tokens.proofs.Fronts.{word_no_sign}

module _ (bs : List ℕ) where
  -- The longest run of word bytes, if it is a word, is a token.
  pub word_in_front : (k : Kind) (n : ℕ) → n ≡ prefix_len is_word_byte bs → IsWord k (take n bs)
      → (n ≤ length bs) × IsToken k (take n bs) (drop n bs)
  word_in_front k n e is =
      (rw e (prefix_len-le-length is_word_byte bs), word is (rw e (run_stops is_word_byte bs)))

-- A first byte begins the text.
first_begins : (test : ℕ → Bool) (bs : List ℕ) → 0 < length bs → test (get_or bs 0 0) ≡ true → begins test bs ≡ true
first_begins test [] some e = absurd (omega arith)
first_begins test (b ∷ bs) some e = e

-- If the longest run of word bytes is not a word, nothing of the language begins there.
pub bad_word : (bs : List ℕ) (n : ℕ) → 0 < length bs → is_word_byte (get_or bs 0 0) ≡ true → n ≡ prefix_len is_word_byte bs
    → ((k : Kind) → IsWord k (take n bs) → ⊥) → IsBad bs
bad_word bs n some first e never =
    let front : begins is_word_byte bs ≡ true = first_begins is_word_byte bs some first in
    record {
      some = some;
      no_gap =
          λ text rest cut gap.
          apart is_word_byte is_gap_byte word_no_gap bs front
          (subst (λ x. begins is_gap_byte x ≡ true) (sym cut) (begins-append _ text rest (gap_begins text rest gap)));
      no_token = λ k text rest cut token. no_token k text rest front cut token;
    }
  where
    no_token : (k : Kind) (text rest : List ℕ) → begins is_word_byte bs ≡ true → bs ≡ text ++ rest → IsToken k text rest → ⊥
    no_token k text rest front cut (word is stop) =
        let same : text ≡ take n bs =
        one_run is_word_byte text (take n bs) rest (drop n bs) (word_bytes k text is) (rw e (run_passes is_word_byte bs)) stop
        (rw e (run_stops is_word_byte bs)) (sym cut ∙ sym (take-append-drop n bs)) in
        never k (subst (IsWord k) same is)
    no_token k text rest front cut (sign_of is longest) =
        apart is_word_byte is_sign_byte word_no_sign bs front
        (subst (λ x. begins is_sign_byte x ≡ true) (sym cut) (begins-append _ text rest (sign_begins k text is)))

-- A blank is a gap.
pub blank_in_front : (bs : List ℕ) → 0 < length bs → is_blank (get_or bs 0 0) ≡ true → (1 ≤ length bs) × IsGap (take 1 bs) (drop 1 bs)
blank_in_front [] some first = absurd (omega arith)
blank_in_front (b ∷ bs) some first = (some, blank first)

-- Two slashes and the rest of the line are a gap.
pub comment_in_front : (bs line : List ℕ) (n : ℕ) → bs ≡ 47 ∷ 47 ∷ line → n ≡ prefix_len is_in_line line
    → (2 + n ≤ length bs) × IsGap (take (2 + n) bs) (drop (2 + n) bs)
comment_in_front bs line n cut e =
    subst (λ x. (2 + n ≤ length x) × IsGap (take (2 + n) x) (drop (2 + n) x)) (sym cut)
    (subst (λ m. (m ≤ length (47 ∷ 47 ∷ line)) × IsGap (take m (47 ∷ 47 ∷ line)) (drop m (47 ∷ 47 ∷ line))) two
    (omega (arith, prefix_len-le-length is_in_line line), comment (rw e (run_passes is_in_line line)) (rw e (run_stops is_in_line line))))
  where
    two : suc (suc n) ≡ 2 + n
    two = omega arith

-- The longest sign is a token.
pub sign_in_front : (bs : List ℕ) (k : Kind) (n : ℕ) → n ≤ length bs → sign k ≡ Some (take n bs) → IsLongestSign (take n bs) bs
    → (n ≤ length bs) × IsToken k (take n bs) (drop n bs)
sign_in_front bs k n within is longest = (within, sign_of is (subst (IsLongestSign (take n bs)) (sym (take-append-drop n bs)) longest))

-- A text that begins with no word, blank, comment or sign is bad.
pub bad_front : (bs : List ℕ) → 0 < length bs → is_word_byte (get_or bs 0 0) ≡ false → is_blank (get_or bs 0 0) ≡ false
    → ((rest : List ℕ) → bs ≢ (47 ∷ 47 ∷ []) ++ rest) → ((k : Kind) (spelled rest : List ℕ) → sign k ≡ Some spelled → bs ≢ spelled ++ rest)
    → IsBad bs
bad_front [] some first also no_comment no_sign = absurd (omega arith)
bad_front (b ∷ bs) some first also no_comment no_sign = record {
  some = some;
  no_gap = λ text rest cut gap. no_gap text rest cut gap;
  no_token = λ k text rest cut token. no_token k text rest cut token;
}
  where
    no_gap : (text rest : List ℕ) → b ∷ bs ≡ text ++ rest → IsGap text rest → ⊥
    no_gap text rest cut (blank {b = c} is) =
        let same : b ≡ c = cc in let fails : false ≡ true = sym also ∙ ap is_blank same ∙ is in cc
    no_gap text rest cut (comment {line} pass stop) = no_comment (line ++ rest) cut

    no_token : (k : Kind) (text rest : List ℕ) → b ∷ bs ≡ text ++ rest → IsToken k text rest → ⊥
    no_token k text rest cut (word is stop) =
        let begin : is_word_byte b ≡ true =
        subst (λ x. begins is_word_byte x ≡ true) (sym cut) (begins-append _ text rest (word_begins k text is)) in
        cc
    no_token k text rest cut (sign_of is longest) = no_sign k text rest is cut
