-- The least offset that is returned for the members of a list.
use Rattle.std.proofs.Common.{◌≡◌, ℕ, ◌+◌, ◌<◌, ◌≤◌, List, [], ◌∷◌, ◌++◌, length, map}
use Rattle.std.proofs.Common.{drop, get_or, Option, None, inl, inr, refl, sym, ◌∙◌, ap, subst}
use Rattle.std.proofs.lemmas.List.{drop_more, drop_all}
use Rattle.std.proofs.lemmas.Result.{IfOk-weaker}
use Rattle.std.specs.Prelude.{Result, Ok, IfOk}
use Rattle.std.specs.Fn.{FnReturnsAt}
use denote.Param.Members.{Shared}
use denote.Ref.{Bor}
use Rattle.checked.specs.Faults.{AnyOf}
use Rattle.scopes.specs.Find.{Finds, earlier_of, Earliest, EarliestTo}
use Rattle.scopes.proofs.Found.{either_way, none_after, none_before, both_of, moved, nowhere, same, any_append, any_left, any_right}

-- a loop over a list: its begin, one more member, and the end
pub begin_list : {X : Type 0} {R : X → Option ℕ → Type 0} {xs : List X} → EarliestTo R xs 0 None
begin_list {X} {R} {xs} = record { goes = λ r h. subst (λ o. Earliest R xs o) (sym (none_before (λ n. n) r)) h }

pub next_member : {X : Type 0} {R : X → Option ℕ → Type 0} (xs : List X) (i : ℕ) (x : X) (a b r : Option ℕ)
    → i < length xs → x ≡ get_or xs i x → r ≡ earlier_of a b → EarliestTo R xs i a → R x b → EarliestTo R xs (i + 1) r
next_member {X} {R} xs i x a b r lt is e k p =
    let there : drop i xs ≡ x ∷ drop (i + 1) xs = drop_more xs i x lt ∙ ap (λ (y : X). y ∷ drop (i + 1) xs) (sym is) in
    record {
      goes = λ rest h. subst (λ o. Earliest R xs o) (either_way a b rest ∙ ap (λ o. earlier_of o rest) (sym e))
          (k.goes (earlier_of b rest)
          (subst (λ l. Earliest R l (earlier_of b rest)) (sym there) (b, rest, p, h, refl)));
    }

pub end_list : {X : Type 0} {R : X → Option ℕ → Type 0} (xs : List X) (i : ℕ) (a : Option ℕ)
    → length xs ≤ i → EarliestTo R xs i a → Earliest R xs a
end_list {X} {R} xs i a le k =
    subst (λ o. Earliest R xs o) (none_after (λ n. n) a)
    (k.goes None (subst (λ l. Earliest R l None) (sym (drop_all i xs le)) refl))

-- if each answer is the least offset in a member, the earliest is the least in any
in_any : {X Y : Type 0} {R : X → Option ℕ → Type 0} (P : Y → ℕ → Type 0) (f : X → Y) (xs : List X) (r : Option ℕ)
    → ((x : X) (a : Option ℕ) → R x a → Finds (λ n. P (f x) n) a) → Earliest R xs r
    → Finds (λ n. AnyOf (λ y. P y n) (map f xs)) r
in_any P f [] r each h = subst (λ o. Finds (λ n. ⊥) o) (sym h) (nowhere (λ n q. q))
in_any P f (x ∷ xs) r each (a, b, p, q, e) = both_of a b r e (each x a p) (in_any P f xs b each q)

-- what holds at a reference to a member holds for the member
shown : {F X T Y : Type 0} (g : Shared F (Bor X × Unit {0}) T) (s : F) (P : Y → ℕ → Type 0) (f : X → Y)
    (mk : Option ℕ → T)
    → ((y : Bor X) (a : Option ℕ) → g.post s (y, tt) (mk a) → Finds (λ n. P (f y.now) n) a)
    → (x : X) (a : Option ℕ) → FnReturnsAt g s x (mk a) → Finds (λ n. P (f x) n) a
shown g s P f mk each x a h = moved (λ y n. P (f y) n) h.shown.now x a (sym h.shows) (each h.shown a h.says.met)

-- a search of a list by a closure
pub found_in : {F X Y : Type 0} (g : Shared F (Bor X × Unit {0}) (Option ℕ)) (s : F) (P : Y → ℕ → Type 0) (f : X → Y)
    (xs : List X) (r : Option ℕ)
    → ((y : Bor X) (a : Option ℕ) → g.post s (y, tt) a → Finds (λ n. P (f y.now) n) a) → Earliest (FnReturnsAt g s) xs r
    → Finds (λ n. AnyOf (λ y. P y n) (map f xs)) r
found_in g s P f xs r each h = in_any P f xs r (shown g s P f (λ a. a) each) h

pub found_at_ok : {F X Y E : Type 0} (g : Shared F (Bor X × Unit {0}) (Result (Option ℕ) E)) (s : F)
    (P : Y → ℕ → Type 0) (f : X → Y) (xs : List X) (r : Option ℕ)
    → ((y : Bor X) (a : Option ℕ) → g.post s (y, tt) (Ok a) → Finds (λ n. P (f y.now) n) a) → Earliest
    (λ x a. FnReturnsAt g s x (Ok a)) xs r
    → Finds (λ n. AnyOf (λ y. P y n) (map f xs)) r
found_at_ok g s P f xs r each h = in_any P f xs r (shown g s P f Ok each) h

pub found_in_ok : {F X Y E : Type 0} (g : Shared F (Bor X × Unit {0}) (Result (Option ℕ) E)) (s : F)
    (P : Y → ℕ → Type 0) (f : X → Y) (xs : List X) (r : Result (Option ℕ) E)
    → ((y : Bor X) (a : Option ℕ) → g.post s (y, tt) (Ok a) → Finds (λ n. P (f y.now) n) a) → IfOk r
    (Earliest (λ x a. FnReturnsAt g s x (Ok a)) xs)
    → IfOk r (λ o. Finds (λ n. AnyOf (λ y. P y n) (map f xs)) o)
found_in_ok g s P f xs r each h = IfOk-weaker r _ _ (λ o. found_at_ok g s P f xs o each) h

-- what is found in a member's own list is found in all of these lists, one after the other
pub flat : {Y Z : Type 0} (P : Z → ℕ → Type 0) (all : List Y → List Z) (g : Y → List Z) (ys : List Y) (r : Option ℕ)
    → all [] ≡ [] → ((y : Y) (ys : List Y) → all (y ∷ ys) ≡ g y ++ all ys)
    → Finds (λ n. AnyOf (λ y. AnyOf (λ z. P z n) (g y)) ys) r → Finds (λ n. AnyOf (λ z. P z n) (all ys)) r
flat {Y} {Z} P all g ys r none more h = same r (λ n. to n ys) (λ n. back n ys) h
  where
    to : (n : ℕ) (ys : List Y) → AnyOf (λ y. AnyOf (λ z. P z n) (g y)) ys → AnyOf (λ z. P z n) (all ys)
    to n [] q = absurd q
    to n (y ∷ ys) (inl q) = subst (λ l. AnyOf (λ z. P z n) l) (sym (more y ys)) (any_left (λ z. P z n) (g y) (all ys) q)
    to n (y ∷ ys) (inr q) =
        subst (λ l. AnyOf (λ z. P z n) l) (sym (more y ys)) (any_right (λ z. P z n) (g y) (all ys) (to n ys q))

    back : (n : ℕ) (ys : List Y) → AnyOf (λ z. P z n) (all ys) → AnyOf (λ y. AnyOf (λ z. P z n) (g y)) ys
    back n [] q = subst (λ l. AnyOf (λ z. P z n) l) none q
    back n (y ∷ ys) q =
        elim (any_append (λ z. P z n) (g y) (all ys) (subst (λ l. AnyOf (λ z. P z n) l) (more y ys) q)) [
          | inl k ↦ inl k
          | inr k ↦ inr (back n ys k)
        ]

-- what is found is found by what equals it
pub as_found : {P : ℕ → Type 0} {a b : Option ℕ} → a ≡ b → Finds P b → Finds P a
as_found {P} e h = subst (λ o. Finds P o) (sym e) h
