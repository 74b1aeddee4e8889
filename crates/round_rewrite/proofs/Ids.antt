-- The names of the rewritten program are names of the grammar.
use Rattle.std.proofs.Common.{◌≡◌, ℕ, zero, suc, ◌+◌, ◌-◌, ◌<◌, ◌^◌, true, false, List, [], ◌∷◌, ◌++◌, codes, refl, sym, ◌∙◌, subst, arith}
use Rattle.std.specs.Prelude.{decimal, option_map, unwrap_or}
use Rattle.std.specs.Str.Parse.{AllDigits}
use Rattle.std.proofs.lemmas.Fmt.{decimal_is_IsNumeral}
use Rattle.std.proofs.lemmas.Str.Parse.{digit_from_value}
use Rattle.language.specs.Tree.{Name}
use Rattle.tokens.specs.declared.vocabulary.Kind.{Kind}
use Rattle.tokens.specs.declared.vocabulary.Kind.TheVariants as kind
use Rattle.tokens.specs.Spelling.{reserved_word, is_word_byte, AreWordBytes, BeginsName, IsNameWord}
use Rattle.grammar.specs.InGrammar.{IsId}
use Rattle.checked.specs.Rewritable.{has_double}
use Rattle.round_rewrite.specs.Names.{fresh_name, bit_name, copy_name, save_name, drawn_name}
use Rattle.round_rewrite.proofs.SpellingLemmas.{double_there}
use Rattle.resolved.specs.Limits.{most_places}
use Rattle.round_rewrite.specs.Limits.{most_rounds}

-- no reserved word has two underscores in a row
reserved_free : (k : Kind) → unwrap_or (option_map has_double (reserved_word k)) false ≡ false
reserved_free kind.Decl = refl
reserved_free _ = refl

words_both : (xs ys : List ℕ) → AreWordBytes xs → AreWordBytes ys → AreWordBytes (xs ++ ys)
words_both [] ys h g = g
words_both (x ∷ xs) ys h g = (h.0, words_both xs ys h.1 g)

begins_both : (xs ys : List ℕ) → BeginsName xs → BeginsName (xs ++ ys)
begins_both [] ys h = absurd h
begins_both (x ∷ xs) ys h = h

-- a name with two underscores in a row, in front of which a name begins
two_lows : (a s : List ℕ) → BeginsName a → AreWordBytes a → AreWordBytes s → IsNameWord (a ++ 95 ∷ 95 ∷ s)
two_lows a s begins front back = record {
  begins = begins_both a (95 ∷ 95 ∷ s) begins;
  bytes = words_both a (95 ∷ 95 ∷ s) front (refl, (refl, back));
  no_keyword =
      λ k e.
      (let free : has_double (a ++ 95 ∷ 95 ∷ s) ≡ false = rw e at (reserved_free k) in
      let bad : true ≡ false = sym (double_there a s) ∙ free in cc);
}

word_digit : (d : ℕ) → d < 10 → is_word_byte (48 + d) ≡ true
word_digit (suc (suc (suc (suc (suc (suc (suc (suc (suc (suc d)))))))))) h = absurd (omega arith)
word_digit _ h = refl

words_digits : (ds : List ℕ) → AllDigits 10 ds → AreWordBytes ds
words_digits [] h = tt
words_digits (c ∷ ds) h =
    let range = digit_from_value c h.0 in
    let same : 48 + (c - 48) ≡ c = omega (arith, range) in
    (subst (λ b. is_word_byte b ≡ true) same (word_digit (c - 48) (omega (arith, range))), words_digits ds h.1)

words_decimal : (n : ℕ) → n < 2 ^ 64 → AreWordBytes (decimal n)
words_decimal n h = words_digits (decimal n) (decimal_is_IsNumeral n h).0.1

pub copy_id : (k : ℕ) (x : Name) → k < most_rounds → IsId x → IsId (copy_name k x)
copy_id k x small h = two_lows x.text (decimal (suc k)) h.begins h.bytes (words_decimal (suc k) (omega arith))

pub save_id : (k : ℕ) (x : Name) → k < most_rounds → IsId x → IsId (save_name k x)
save_id k x small h = two_lows x.text (115 ∷ decimal (suc k)) h.begins h.bytes (refl, words_decimal (suc k) (omega arith))

pub drawn_id : (j : ℕ) → j < most_places → IsId (drawn_name j)
drawn_id j few =
    two_lows (codes "tmp") (116 ∷ decimal (suc j)) refl (refl, (refl, (refl, tt))) (refl, words_decimal (suc j) (omega arith))

pub bit_id : (j : ℕ) → IsId (bit_name j)
bit_id zero = two_lows (codes "rl") [] refl (refl, (refl, tt)) tt
bit_id (suc zero) = two_lows (codes "rh") [] refl (refl, (refl, tt)) tt
bit_id (suc (suc j)) = two_lows (codes "rt") [] refl (refl, (refl, tt)) tt

pub stop_id : IsId (fresh_name (codes "stop__"))
stop_id = two_lows (codes "stop") [] refl (refl, (refl, (refl, (refl, tt)))) tt

pub bad_id : IsId (fresh_name (codes "bad__"))
bad_id = two_lows (codes "bad") [] refl (refl, (refl, (refl, tt))) tt

pub main_id : IsId (fresh_name (codes "main__"))
main_id = two_lows (codes "main") [] refl (refl, (refl, (refl, (refl, tt)))) tt
