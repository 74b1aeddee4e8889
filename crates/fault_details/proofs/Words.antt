-- What two words have in common.
use Rattle.std.proofs.Common.{◌≡◌, ◌∙◌, ap, sym, ◌∷◌, [], ℕ, suc, ◌+◌, ◌<◌, ◌≤◌, List, Bool, true, false, arith, cond, drop, drop-cons}
use Rattle.std.proofs.Common.{◌-◌, eq-eqb, get_or, length, refl, take}
use Rattle.std.proofs.lemmas.List.{length-drop, take_all}
use Rattle.std.specs.Prelude.{◌==◌}
use Rattle.std.proofs.Math.ListN.{drop_of_length-le}
use Rattle.std.proofs.lemmas.Bool.{ne_eqb}
use Rattle.fault_details.specs.Nearness.{common}

-- the words from a letter on
from_letter : (word : List ℕ) (n : ℕ) → n < length word → drop n word ≡ get_or word n 0 ∷ drop (n + 1) word
from_letter word n within =
    let e : n + 1 ≡ suc n = omega arith in
    drop-cons word n 0 within ∙ ap (λ k. get_or word n 0 ∷ drop k word) (sym e)

-- the letters of both are the same, or not
both : (word other : List ℕ) (n : ℕ) (same : Bool) → n < length word → n < length other
    → (get_or word n 0 == get_or other n 0) ≡ same
    → common (drop n word) (drop n other) ≡ cond same (common (drop (n + 1) word) (drop (n + 1) other) + 1) 0
unfolding common
both word other n same a b e =
    let rest = common (drop (n + 1) word) (drop (n + 1) other) in
    ap (λ w. common w (drop n other)) (from_letter word n a)
    ∙ ap (λ o. common (get_or word n 0 ∷ drop (n + 1) word) o) (from_letter other n b)
    ∙ ap (λ t. cond t (rest + 1) 0) e

-- one more letter is the same
pub same_letter : (word other : List ℕ) (n : ℕ) → n < length word → n < length other → get_or word n 0 ≡ get_or other n 0
    → common (drop n word) (drop n other) ≡ common (drop (n + 1) word) (drop (n + 1) other) + 1
same_letter word other n a b e = both word other n true a b (eq-eqb _ _ e)

-- it is not
pub other_letter : (word other : List ℕ) (n : ℕ) → n < length word → n < length other
    → (get_or word n 0 ≡ get_or other n 0 → ⊥) → common (drop n word) (drop n other) ≡ 0
other_letter word other n a b differ = both word other n false a b (ne_eqb _ _ differ)

-- a word has ended
pub ended : (word other : List ℕ) (n : ℕ) → length word ≤ n → common (drop n word) (drop n other) ≡ 0
unfolding common
ended word other n past = ap (λ w. common w (drop n other)) (drop_of_length-le word past)

none : (word : List ℕ) → common word [] ≡ 0
unfolding common
none [] = refl
none (a ∷ word) = refl

pub other_ended : (word other : List ℕ) (n : ℕ) → length other ≤ n → common (drop n word) (drop n other) ≡ 0
other_ended word other n past = ap (common (drop n word)) (drop_of_length-le other past) ∙ none (drop n word)

-- all that is left of a word
pub left : (word : List ℕ) (n : ℕ) → take (length word - n) (drop n word) ≡ drop n word
left word n = take_all (length word - n) (drop n word) (rw length-drop (omega arith))
