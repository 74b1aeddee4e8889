-- Words of rows, as references and as texts.
use Rattle.std.proofs.Common.{◌≡◌, ◌∙◌, ap, sym, Bool, true, false, ℕ, List, [], ◌∷◌, ◌||◌, map, refl, length}
use Rattle.std.specs.Prelude.{◌==◌}
use Rattle.std.specs.List.{list_any}
use Rattle.std.proofs.lemmas.List.{length-map}
use denote.Ref.{Bor}

-- what a reference to a text points to
abbrev pub text : Bor (List ℕ) → List ℕ
text w = w.now

any_text : (p : List ℕ → Bool) (words : List (Bor (List ℕ))) → list_any p (map text words) ≡ list_any (λ w. p (text w)) words
any_text p [] = refl
any_text p (w ∷ words) = ap (λ b. p (text w) || b) (any_text p words)

-- each text is among no words
pub among_none : (p : List ℕ → Bool) (words : List (Bor (List ℕ))) (is_empty : Bool)
    → is_empty ≡ (length words == 0) → is_empty ≡ true
    → is_empty ≡ (length (map text words) == 0 || list_any p (map text words))
among_none p words is_empty e is_true =
    let none : (length (map text words) == 0) ≡ true = ap (λ n. n == 0) (length-map words text) ∙ sym e ∙ is_true in
    is_true ∙ sym (ap (λ b. b || list_any p (map text words)) none)

-- a text is among some words if one of them passes
pub among_some : (p : List ℕ → Bool) (words : List (Bor (List ℕ))) (is_empty result : Bool)
    → is_empty ≡ (length words == 0) → is_empty ≡ false → result ≡ list_any (λ w. p (text w)) words
    → result ≡ (length (map text words) == 0 || list_any p (map text words))
among_some p words is_empty result e is_false is =
    let some : (length (map text words) == 0) ≡ false = ap (λ n. n == 0) (length-map words text) ∙ sym e ∙ is_false in
    is ∙ sym (any_text p words) ∙ sym (ap (λ b. b || list_any p (map text words)) some)
