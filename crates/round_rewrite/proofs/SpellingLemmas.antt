-- Which printed names differ.
use Rattle.std.proofs.Common.{◌≡◌, ℕ, suc, ◌+◌, ◌<◌, true, false, ◌&&◌, ◌||◌, List, [], ◌∷◌}
use Rattle.std.proofs.Common.{◌++◌, nat_eq, refl, sym, ◌∙◌, ap, ap₂, arith, append_assoc}
use Rattle.std.proofs.lemmas.List.{append_cancel_right, append_cancel_left}
use Rattle.std.proofs.lemmas.Slice.Eq.{bytes_eq-Decides}
use Rattle.std.proofs.lemmas.Fmt.{decimal_injective}
use Rattle.std.specs.Prelude.{decimal}
use Rattle.std.specs.Fmt.{digits}
use Rattle.std.proofs.Math.Bool.{or-true}
use Rattle.language.specs.Rest.{same_text}
use Rattle.language.proofs.TestLemmas.{at_test}
use Rattle.checked.specs.Rewritable.{begins_low, has_double}
use Rattle.resolved.specs.Limits.{most_places}
use Rattle.round_rewrite.specs.Limits.{most_rounds}

pub same_text_true : (a b : List ℕ) → same_text a b ≡ true → a ≡ b
same_text_true a b h = (bytes_eq-Decides a b).0 h

pub same_text_refl : (a : List ℕ) → same_text a a ≡ true
same_text_refl a = (bytes_eq-Decides a a).1 refl

pub same_text_false : (a b : List ℕ) → (a ≡ b → ⊥) → same_text a b ≡ false
same_text_false a b h = at_test (λ c. c ≡ false) (same_text a b) (λ e. absurd (h (same_text_true a b e))) (λ e. refl)

-- a suffix makes no difference
pub same_text-append : (a b s : List ℕ) → same_text (a ++ s) (b ++ s) ≡ same_text a b
same_text-append a b s =
    at_test (λ c. same_text (a ++ s) (b ++ s) ≡ c) (same_text a b)
    (λ e. ap (λ z. same_text (a ++ s) (z ++ s)) (sym (same_text_true a b e)) ∙ same_text_refl (a ++ s))
    (λ e. same_text_false (a ++ s) (b ++ s) (λ k. let bad : true ≡ false =
    sym (ap (same_text a) (sym (append_cancel_right a b s k)) ∙ same_text_refl a) ∙ e in cc))

pub double_there : (a s : List ℕ) → has_double (a ++ 95 ∷ 95 ∷ s) ≡ true
double_there [] s = refl
double_there (c ∷ a) s = ap (λ z. (nat_eq c 95 && begins_low (a ++ 95 ∷ 95 ∷ s)) || z) (double_there a s)
    ∙ or-true (nat_eq c 95 && begins_low (a ++ 95 ∷ 95 ∷ s))

-- a text without two underscores in a row is none with them
pub free_differs : (x a s : List ℕ) → has_double x ≡ false → same_text (a ++ 95 ∷ 95 ∷ s) x ≡ false
free_differs x a s free =
    same_text_false (a ++ 95 ∷ 95 ∷ s) x (λ e. let bad : true ≡ false = sym (double_there a s) ∙ (ap has_double e ∙ free) in cc)

snoc_last : (a b : List ℕ) (u v : ℕ) → a ++ u ∷ [] ≡ b ++ v ∷ [] → (u ≡ v) × (a ≡ b)
snoc_last [] [] u v e = (let k : u ≡ v = cc in k, refl)
snoc_last [] (y ∷ []) u v e = absurd (let k : [] ≡ v ∷ [] = cc in cc)
snoc_last [] (y ∷ z ∷ b) u v e = absurd (let k : [] ≡ z ∷ (b ++ v ∷ []) = cc in cc)
snoc_last (x ∷ []) [] u v e = absurd (let k : u ∷ [] ≡ [] = cc in cc)
snoc_last (x ∷ z ∷ a) [] u v e = absurd (let k : z ∷ (a ++ u ∷ []) ≡ [] = cc in cc)
snoc_last (x ∷ a) (y ∷ b) u v e =
    let t : a ++ u ∷ [] ≡ b ++ v ∷ [] = cc in let h : x ≡ y = cc in
    let r = snoc_last a b u v t in
    (r.0, ap₂ (λ p q. p ∷ q) h r.1)

pub digit_is : (k : ℕ) → k < most_rounds → decimal (suc k) ≡ (49 + k) ∷ []
unfolding digits
digit_is (suc (suc (suc (suc (suc (suc (suc (suc k)))))))) h = absurd (omega arith)
digit_is _ h = refl

-- a name with a mark and the number of a round, with its last digit
marked_text : (x mark : List ℕ) (k : ℕ) → k < most_rounds → x ++ (mark ++ decimal (suc k)) ≡ (x ++ mark) ++ (49 + k) ∷ []
marked_text x mark k h = ap (λ d. x ++ (mark ++ d)) (digit_is k h) ∙ sym (append_assoc x mark ((49 + k) ∷ []))

-- other rounds make other names
pub numbered_differ : (mark x y : List ℕ) (k j : ℕ) → k < most_rounds → j < most_rounds → (k ≡ j → ⊥) →
    same_text (x ++ (mark ++ decimal (suc k))) (y ++ (mark ++ decimal (suc j))) ≡ false
numbered_differ mark x y k j hk hj ne = same_text_false _ _ (λ e.
    let last =
    snoc_last (x ++ mark) (y ++ mark) (49 + k) (49 + j) (sym (marked_text x mark k hk) ∙ (e ∙ marked_text y mark j hj)) in
    ne (let z : 49 + k ≡ 49 + j = last.0 in omega arith))

pub save_no_copy : (x y : List ℕ) (k j : ℕ) → k < most_rounds → j < most_rounds →
    same_text (x ++ 95 ∷ 95 ∷ 115 ∷ decimal (suc k)) (y ++ 95 ∷ 95 ∷ decimal (suc j)) ≡ false
save_no_copy x y k j hk hj = same_text_false _ _ (λ e.
    let r =
    snoc_last (x ++ 95 ∷ 95 ∷ 115 ∷ []) (y ++ 95 ∷ 95 ∷ []) (49 + k) (49 + j)
    (sym (marked_text x (95 ∷ 95 ∷ 115 ∷ []) k hk) ∙ (e ∙ marked_text y (95 ∷ 95 ∷ []) j hj)) in
    let r2 =
    snoc_last (x ++ 95 ∷ 95 ∷ []) (y ++ 95 ∷ []) 115 95
    (append_assoc x (95 ∷ 95 ∷ []) (115 ∷ []) ∙ (r.1 ∙ sym (append_assoc y (95 ∷ []) (95 ∷ [])))) in
    let z : ◌≡◌ {A = ℕ} 115 95 = r2.0 in omega arith)

-- a text that ends in an underscore is neither a copy nor a guess
pub low_no_numbered : (mark a y : List ℕ) (j : ℕ) → j < most_rounds
    → same_text (a ++ 95 ∷ []) (y ++ (mark ++ decimal (suc j))) ≡ false
low_no_numbered mark a y j hj = same_text_false _ _ (λ e.
    let r = snoc_last a (y ++ mark) 95 (49 + j) (e ∙ marked_text y mark j hj) in
    let z : 95 ≡ 49 + j = r.0 in omega arith)

-- temporaries differ from one another
pub drawn_differ : (i j : ℕ) → i < most_places → j < most_places → (i ≡ j → ⊥) →
    same_text (116 ∷ 109 ∷ 112 ∷ 95 ∷ 95 ∷ 116 ∷ decimal (suc i))
    (116 ∷ 109 ∷ 112 ∷ 95 ∷ 95 ∷ 116 ∷ decimal (suc j)) ≡ false
drawn_differ i j hi hj ne =
    same_text_false (116 ∷ 109 ∷ 112 ∷ 95 ∷ 95 ∷ 116 ∷ decimal (suc i))
    (116 ∷ 109 ∷ 112 ∷ 95 ∷ 95 ∷ 116 ∷ decimal (suc j)) (λ e.
    let t : decimal (suc i) ≡ decimal (suc j) =
    append_cancel_left (116 ∷ 109 ∷ 112 ∷ 95 ∷ 95 ∷ 116 ∷ []) (decimal (suc i)) (decimal (suc j)) e in
    ne (let z : suc i ≡ suc j = decimal_injective (suc i) (suc j) (omega arith) (omega arith) t in omega arith))

-- no copy or guess of a text without two underscores is a temporary
pub no_drawn : (x : List ℕ) (u : ℕ) (r d : List ℕ) → has_double x ≡ false → (u ≡ 116 → ⊥)
    → x ++ 95 ∷ 95 ∷ u ∷ r ≡ 116 ∷ 109 ∷ 112 ∷ 95 ∷ 95 ∷ 116 ∷ d → ⊥
no_drawn (a ∷ []) u r d free ne e = let z : ◌≡◌ {A = ℕ} 95 109 = cc in omega arith
no_drawn (a ∷ b ∷ []) u r d free ne e = let z : ◌≡◌ {A = ℕ} 95 112 = cc in omega arith
no_drawn (a ∷ b ∷ c ∷ []) u r d free ne e = ne cc
no_drawn (a ∷ b ∷ c ∷ f ∷ g ∷ x) u r d free ne e =
    let ef : f ≡ 95 = cc in let eg : g ≡ 95 = cc in
    let same : a ∷ b ∷ c ∷ f ∷ g ∷ x ≡ (a ∷ b ∷ c ∷ []) ++ 95 ∷ 95 ∷ x =
    λ i. a ∷ b ∷ c ∷ ef i ∷ eg i ∷ x in
    let bad : true ≡ false = sym (double_there (a ∷ b ∷ c ∷ []) x) ∙ (ap has_double (sym same) ∙ free) in
    cc
no_drawn _ u r d free ne e = let z : ◌≡◌ {A = ℕ} 95 116 = cc in omega arith
