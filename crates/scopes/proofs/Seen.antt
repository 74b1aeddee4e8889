-- Names that occur again, by what was seen before.
use Rattle.std.proofs.Common.{◌≡◌, ℕ, ◌+◌, ◌<◌, ◌≤◌, Bool, true, false, cond, ◌||◌, List, [], ◌∷◌, ◌++◌, length, map, take, drop, get_or}
use Rattle.std.proofs.Common.{Option, None, ◌⊎◌, inl, inr, refl, sym, ◌∙◌, ap, ap₂, subst}
use Rattle.std.specs.Prelude.{if◌then◌else◌}
use Rattle.std.specs.List.{list_any}
use Rattle.std.specs.Str.{bytes_eq}
use Rattle.std.proofs.lemmas.List.{drop_more, drop_all, take_more, map-append}
use Rattle.std.proofs.lemmas.List.Folds.{list_any-append}
use Rattle.std.proofs.lemmas.Slice.Eq.{bytes_eq-Decides}
use Rattle.indexmap.specs.IndexSet.{IndexSet, insert_key}
use Rattle.language.specs.Tree.{Name}
use Rattle.language.specs.Rest.{same_text}
use Rattle.language.specs.Resolve.{is_declared}
use Rattle.checked.specs.Faults.{AnyOf, Repeated}
use Rattle.scopes.specs.Find.{Finds, earlier_of, FoundSoFar}
use Rattle.scopes.specs.Known.{AreTexts, IsAgain}
use Rattle.scopes.proofs.Found.{begin, step, weaker, finish}
use denote.Ref.{Bor}

same_back : (a b : List ℕ) → same_text a b ≡ true → same_text b a ≡ true
same_back a b h = (bytes_eq-Decides b a).1 (sym ((bytes_eq-Decides a b).0 h))

as_it_is : (b : Bool) → cond b true false ≡ b
as_it_is true = refl
as_it_is false = refl

declared_more : (x : List ℕ) (ns : List Name) (n : Name) → is_declared x (ns ++ n ∷ []) ≡ cond (is_declared x ns) true (same_text x n.text)
declared_more x [] n = as_it_is (same_text x n.text)
declared_more x (m ∷ ns) n = go (same_text x m.text) (declared_more x ns n)
  where
    go : (b : Bool) → is_declared x (ns ++ n ∷ []) ≡ cond (is_declared x ns) true (same_text x n.text)
        → cond b true (is_declared x (ns ++ n ∷ [])) ≡ cond (cond b true (is_declared x ns)) true (same_text x n.text)
    go true h = refl
    go false h = h

-- a text that was seen already adds none
none_added : (x : List ℕ) (ns : List Name) (n : Name) → is_declared n.text ns ≡ true
    → is_declared x ns ≡ cond (is_declared x ns) true (same_text x n.text)
none_added x ns n there = go (is_declared x ns) (same_text x n.text) refl refl
  where
    go : (a b : Bool) → is_declared x ns ≡ a → same_text x n.text ≡ b → a ≡ cond a true b
    go true b e f = refl
    go false false e f = refl
    go false true e f =
        (let bad : true ≡ false = sym there ∙ (ap (λ t. is_declared t ns) (sym ((bytes_eq-Decides x n.text).0 f)) ∙ e) in sym bad)

one_added : (x : List ℕ) (a : Bool) (b : Bool) → (a || (b || false)) ≡ cond a true b
one_added x true b = refl
one_added x false true = refl
one_added x false false = refl

-- with one more name the set has one more text
pub texts_more : {S : Type 0} (s t : IndexSet (Bor (List ℕ)) S) (v : Bor (List ℕ)) (ns : List Name) (n : Name) → v.now ≡ n.text
    → t.keys ≡ insert_key (λ x y. bytes_eq x.now y.now) s.keys v → AreTexts s ns → AreTexts t (ns ++ n ∷ [])
texts_more {S} s t v ns n e k h x =
    ap (list_any (λ (y : Bor (List ℕ)). bytes_eq x y.now)) k ∙ by (list_any (λ (y : Bor (List ℕ)). bytes_eq v.now y.now) s.keys) refl
    ∙ sym (declared_more x ns n)
  where
    by : (b : Bool) → list_any (λ (y : Bor (List ℕ)). bytes_eq v.now y.now) s.keys ≡ b
        → list_any (λ (y : Bor (List ℕ)). bytes_eq x y.now) (if b then s.keys else s.keys ++ v ∷ [])
        ≡ cond (is_declared x ns) true (same_text x n.text)
    by true f = h x ∙ none_added x ns n (ap (λ t. is_declared t ns) (sym e) ∙ (sym (h v.now) ∙ f))
    by false f =
        list_any-append (λ (y : Bor (List ℕ)). bytes_eq x y.now) s.keys (v ∷ []) ∙ ap₂ (λ a b. a || (b || false)) (h x) (ap (bytes_eq x) e)
        ∙ one_added x (is_declared x ns) (same_text x n.text)

any_of : {X : Type 0} (P Q : X → Type 0) (xs : List X) → ((x : X) → P x → Q x) → AnyOf P xs → AnyOf Q xs
any_of P Q [] f h = h
any_of P Q (x ∷ xs) f (inl h) = inl (f x h)
any_of P Q (x ∷ xs) f (inr h) = inr (any_of P Q xs f h)

any_either : {X : Type 0} (P Q R : X → Type 0) (xs : List X) → ((x : X) → R x → P x ⊎ Q x) → AnyOf R xs → AnyOf P xs ⊎ AnyOf Q xs
any_either P Q R [] f h = absurd h
any_either P Q R (x ∷ xs) f (inl h) = elim (f x h) [ inl p ↦ inl (inl p) | inr q ↦ inr (inl q) ]
any_either P Q R (x ∷ xs) f (inr h) = elim (any_either P Q R xs f h) [ inl p ↦ inl (inr p) | inr q ↦ inr (inr q) ]

still_declared : (x : List ℕ) (ns : List Name) (n : Name) → is_declared x ns ≡ true → is_declared x (ns ++ n ∷ []) ≡ true
still_declared x ns n h = declared_more x ns n ∙ ap (λ b. cond b true (same_text x n.text)) h

last_declared : (x : List ℕ) (ns : List Name) (n : Name) → same_text x n.text ≡ true → is_declared x (ns ++ n ∷ []) ≡ true
last_declared x ns n h = declared_more x ns n ∙ ap (λ b. cond (is_declared x ns) true b) h ∙ either_true (is_declared x ns)
  where
    either_true : (b : Bool) → cond b true true ≡ true
    either_true true = refl
    either_true false = refl

one_of_two : (x : List ℕ) (ns : List Name) (n : Name) → is_declared x (ns ++ n ∷ []) ≡ true
    → (is_declared x ns ≡ true) ⊎ (same_text x n.text ≡ true)
one_of_two x ns n h = go (is_declared x ns) (sym (declared_more x ns n) ∙ h)
  where
    go : (b : Bool) → cond b true (same_text x n.text) ≡ true → (b ≡ true) ⊎ (same_text x n.text ≡ true)
    go true e = inl refl
    go false e = inr e

again_to : (before : List Name) (x : Name) (rest : List Name) (n : ℕ) → IsAgain before (x ∷ rest) n
    → ((x.at ≡ n) × (is_declared x.text before ≡ true)) ⊎ IsAgain (before ++ x ∷ []) rest n
again_to before x rest n (inl (inl h)) = inl h
again_to before x rest n (inl (inr h)) = inr (inl (any_of _ _ rest (λ y q. (q.0, still_declared y.text before x q.1)) h))
again_to before x rest n (inr (inl h)) =
    inr (inl (any_of _ _ rest (λ y q. (q.0, last_declared y.text before x (same_back x.text y.text q.1))) h))
again_to before x rest n (inr (inr h)) = inr (inr h)

again_from : (before : List Name) (x : Name) (rest : List Name) (n : ℕ)
    → ((x.at ≡ n) × (is_declared x.text before ≡ true)) ⊎ IsAgain (before ++ x ∷ []) rest n → IsAgain before (x ∷ rest) n
again_from before x rest n (inl h) = inl (inl h)
again_from before x rest n (inr (inr h)) = inr (inr h)
again_from before x rest n (inr (inl h)) =
    elim (any_either (λ (y : Name). (y.at ≡ n) × (is_declared y.text before ≡ true))
    (λ (y : Name). (y.at ≡ n) × (same_text x.text y.text ≡ true))
    (λ (y : Name). (y.at ≡ n) × (is_declared y.text (before ++ x ∷ []) ≡ true)) rest
    (λ y q. elim (one_of_two y.text before x q.1) [ inl d ↦ inl (q.0, d) | inr s ↦ inr (q.0, same_back y.text x.text s) ]) h) [
      | inl p ↦
          inl (inr p)
      | inr q ↦ inr (inl q)
    ]

-- the first i + 1 of a list
pub one_taken : {X : Type 0} {Y : Type 0} (f : X → Y) (xs : List X) (i : ℕ) (x : X) → i < length xs → x ≡ get_or xs i x
    → map f (take (i + 1) xs) ≡ map f (take i xs) ++ f x ∷ []
one_taken {X} f xs i x lt is = ap (map f) (take_more xs i x lt ∙ ap (λ (y : X). take i xs ++ y ∷ []) (sym is))
    ∙ map-append f (take i xs) (x ∷ [])

-- a loop that looks for names that occur again, by what was seen: one more name, and the end
pub next_seen : {W : ℕ → Type 0} {X : Type 0} (f : X → Name) (xs : List X) (i : ℕ) (x : X) (a b r : Option ℕ)
    → i < length xs → x ≡ get_or xs i x → r ≡ earlier_of a b
    → FoundSoFar W (IsAgain (map f (take i xs)) (map f (drop i xs))) a
    → Finds (λ n. ((f x).at ≡ n) × (is_declared (f x).text (map f (take i xs)) ≡ true)) b
    → FoundSoFar W (IsAgain (map f (take (i + 1) xs)) (map f (drop (i + 1) xs))) r
next_seen {W} {X} f xs i x a b r lt is e k h =
    let before : map f (take (i + 1) xs) ≡ map f (take i xs) ++ f x ∷ [] = one_taken f xs i x lt is in
    let now : map f (drop i xs) ≡ f x ∷ map f (drop (i + 1) xs) =
    ap (map f) (drop_more xs i x lt ∙ ap (λ (y : X). y ∷ drop (i + 1) xs) (sym is)) in
    subst (λ (o : Option ℕ). FoundSoFar W (IsAgain (map f (take (i + 1) xs)) (map f (drop (i + 1) xs))) o) (sym e)
    (subst (λ (l : List Name). FoundSoFar W (IsAgain l (map f (drop (i + 1) xs))) (earlier_of a b)) (sym before)
    (step a b
    (weaker a (again_from (map f (take i xs)) (f x) (map f (drop (i + 1) xs)))
    (again_to (map f (take i xs)) (f x) (map f (drop (i + 1) xs)))
    (subst (λ (l : List Name). FoundSoFar W (IsAgain (map f (take i xs)) l) a) now k)) h))

pub end_seen : {W : ℕ → Type 0} {X : Type 0} (f : X → Name) (xs : List X) (i : ℕ) (a : Option ℕ)
    → length xs ≤ i → FoundSoFar W (IsAgain (map f (take i xs)) (map f (drop i xs))) a → Finds W a
end_seen {W} {X} f xs i a le k =
    finish a (subst (λ (l : List X). FoundSoFar W (IsAgain (map f (take i xs)) (map f l)) a) (drop_all i xs le) k)
    (λ n h. elim h [ inl p ↦ p | inr q ↦ q ])

pub begin_seen : (ns : List Name) → FoundSoFar (Repeated ns) (IsAgain [] ns) None
begin_seen ns = weaker {R = Repeated ns} None (λ n h. elim h [ inl p ↦ absurd (never n ns p) | inr q ↦ q ]) (λ n q. inr q) begin
  where
    never : (n : ℕ) (xs : List Name) → AnyOf (λ (y : Name). (y.at ≡ n) × (false ≡ true)) xs → ⊥
    never n [] h = h
    never n (x ∷ xs) (inl h) = (let bad : false ≡ true = h.1 in absurd (cc))
    never n (x ∷ xs) (inr h) = never n xs h
