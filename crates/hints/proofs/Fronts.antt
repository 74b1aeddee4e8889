-- What a walk back over the tokens finds.
use Rattle.std.proofs.Common.{◌≡◌, ◌∙◌, sym, ap, ◌++◌, ◌∷◌, [], ℕ, suc, ◌+◌, ◌-◌, ◌<◌, ◌≤◌, List, Bool, true, false, arith}
use Rattle.std.proofs.Common.{refl, add_comm, cond, drop, eq-eqb, inl, inr, get_or, length, take, drop-cons}
use Rattle.std.specs.Prelude.{◌==◌, ◌&&◌, ◌⊎◌, count_by}
use Rattle.std.proofs.Math.Seq.{take-suc}
use Rattle.std.proofs.lemmas.List.{take-append-drop}
use Rattle.std.proofs.lemmas.Bool.{ne_eqb}
use Rattle.std.proofs.lemmas.List.Sums.{sum_by-cons}
use mir.Val.{bool_byte}
use Rattle.tokens.specs.declared.vocabulary.Kind.TheVariants as kind
use Rattle.tokens.specs.declared.vocabulary.Token.{Token}
use Rattle.hints.specs.Front.{closing_count, ends_front, front_to, extended, opening_count}
use Rattle.hints.specs.Group.{includes}
use Rattle.hints.specs.declared.front.Brackets.{Brackets}
use Rattle.hints.specs.declared.group.Group.{Group}

-- the token that an index past the end stands for
abbrev pub blank : Token
blank = record { kind = kind.Decl; at = 0; text = record { ref_ptr = (0, 0); now = [] } }

-- what comes before a front lengthens it
lengthened : (b : Brackets) (g : Group) (before : List Token) (t : Token) (front after : List Token)
    → front_to b g after ≡ t ∷ front → front_to b g (before ++ after) ≡ before ++ (t ∷ front)
unfolding front_to
lengthened b g [] t front after e = e
lengthened b g (x ∷ []) t front after e = ap (λ f. extended x f (ends_front b g x after)) e
lengthened b g (x ∷ (y ∷ before)) t front after e =
    ap (λ f. extended x f (ends_front b g x ((y ∷ before) ++ after))) (lengthened b g (y ∷ before) t front after e)

-- without tokens there is no front
pub nothing : (b : Brackets) (g : Group) → front_to b g [] ≡ []
unfolding front_to
nothing b g = refl

-- a token that ends a front, if none ends after it
pub found : (b : Brackets) (g : Group) (ts : List Token) (left j : ℕ) → left ≡ j + 1 → j < length ts
    → ends_front b g (get_or ts j blank) (drop left ts) ≡ true → front_to b g (drop left ts) ≡ []
    → take left ts ≡ front_to b g ts
unfolding front_to
found b g ts left j e within ends none =
    let t = get_or ts j blank in
    let suc_left : left ≡ suc j = omega arith in
    let rest : drop j ts ≡ t ∷ drop left ts = drop-cons ts j blank within ∙ ap (λ n. t ∷ drop n ts) (sym suc_left) in
    let one : front_to b g (t ∷ drop left ts) ≡ t ∷ [] = rw (none, ends) refl in
    let whole : take j ts ++ drop j ts ≡ ts = take-append-drop j ts in
    let long = lengthened b g (take j ts) t [] (drop j ts) (ap (front_to b g) rest ∙ one) in
    ap (λ n. take n ts) suc_left ∙ take-suc ts j blank within ∙ sym long ∙ ap (front_to b g) whole

-- a token that ends none
pub passed : (b : Brackets) (g : Group) (ts : List Token) (left j : ℕ) → left ≡ j + 1 → j < length ts
    → ends_front b g (get_or ts j blank) (drop left ts) ≡ false → front_to b g (drop left ts) ≡ []
    → front_to b g (drop j ts) ≡ []
unfolding front_to
passed b g ts left j e within ends none =
    let t = get_or ts j blank in
    let suc_left : left ≡ suc j = omega arith in
    let rest : drop j ts ≡ t ∷ drop left ts = drop-cons ts j blank within ∙ ap (λ n. t ∷ drop n ts) (sym suc_left) in
    let one : front_to b g (t ∷ drop left ts) ≡ [] = rw (none, ends) refl in
    ap (front_to b g) rest ∙ one

byte : (flag : Bool) → bool_byte flag ≡ cond flag 1 0
byte true = refl
byte false = refl

-- one more token counts by its test
pub counted : (p : Token → Bool) (ts : List Token) (left j n : ℕ) (flag : Bool) → left ≡ j + 1 → j < length ts
    → n ≡ count_by p (drop left ts) → flag ≡ p (get_or ts j blank) → n + bool_byte flag ≡ count_by p (drop j ts)
counted p ts left j n flag e within so_far is =
    let t = get_or ts j blank in
    let suc_left : left ≡ suc j = omega arith in
    let rest : drop j ts ≡ t ∷ drop left ts = drop-cons ts j blank within ∙ ap (λ k. t ∷ drop k ts) (sym suc_left) in
    let after = drop left ts in
    let one : count_by p (t ∷ after) ≡ cond (p t) 1 0 + count_by p after = sum_by-cons (λ x. cond (p x) 1 0) t after in
    let same : bool_byte flag ≡ cond (p t) 1 0 = rw (← is) (byte flag) in
    ap (λ m. m + bool_byte flag) so_far ∙ add_comm _ _ ∙ ap (λ m. m + count_by p after) same ∙ sym one ∙ ap (count_by p) (sym rest)

-- the test of a front from its parts
pub ends : (b : Brackets) (g : Group) (t : Token) (after : List Token) (opened closed : ℕ)
    → includes g t.kind ≡ true → opened ≡ opening_count b after → closed ≡ closing_count b after → opened ≡ closed
    → ends_front b g t after ≡ true
ends b g t after opened closed in_group o c e =
    let same : (opening_count b after == closing_count b after) ≡ true = eq-eqb _ _ (sym o ∙ e ∙ c) in
    ap (λ k. k && (opening_count b after == closing_count b after)) in_group ∙ same

pub ends_not : (b : Brackets) (g : Group) (t : Token) (after : List Token) (opened closed : ℕ) (flag : Bool)
    → flag ≡ includes g t.kind → opened ≡ opening_count b after → closed ≡ closing_count b after
    → ((flag ≡ true) × (opened ≡ closed → ⊥)) ⊎ (flag ≡ false) → ends_front b g t after ≡ false
ends_not b g t after opened closed flag is o c (inl (in_group, differ)) =
    let no : (opening_count b after == closing_count b after) ≡ false = ne_eqb _ _ (λ e. differ (o ∙ e ∙ sym c)) in
    ap (λ k. k && (opening_count b after == closing_count b after)) (sym is ∙ in_group) ∙ no
ends_not b g t after opened closed flag is o c (inr outside) =
    ap (λ k. k && (opening_count b after == closing_count b after)) (sym is ∙ outside)

-- a count stays within the tokens that were passed
pub few : (n left most more : ℕ) (flag : Bool) → more ≡ bool_byte flag → n + left ≤ most → 0 < left
    → n + more + (left - 1) ≤ most
few n left most more true e within some = let one : more ≡ 1 = e in omega arith
few n left most more false e within some = let none : more ≡ 0 = e in omega arith
