-- The messages given, of which none occurs twice, and callers that are known.
use Rattle.std.proofs.Common.{zero, suc, take, drop, ◌≡◌, ◌≤◌, ◌<◌, ℕ, Bool, true, false, List, [], ◌∷◌}
use Rattle.std.proofs.Common.{◌++◌, length, inl, inr, refl, sym, ap, ◌∙◌, subst, true≢false, Result}
use Rattle.std.proofs.Common.{Ok, Err, OnOk, OnErr, arith}
use Rattle.std.proofs.lemmas.List.{take-append-drop, take-append-le, length-take-le}
use Rattle.std.specs.List.{list_any}
use Rattle.std.proofs.lemmas.Map.Views.{exact_unsigned_eq}
use Rattle.language.specs.Lists.{Member, NoneTwice}
use Rattle.language.proofs.Members.{member_left, member_right}
use Rattle.path_sets.proofs.KeyLemmas.{found_is_in, is_found}
use Rattle.summaries.specs.declared.due.Caller.{Caller}
use Rattle.summaries.specs.declared.due.Caller.TheVariants.{Starter, Proc}
use Rattle.summaries.specs.contracts.due.CallerPartialEq.TheImpl.{eq-value}
use Rattle.summaries.specs.contracts.due.CallerEq.TheImpl.Laws.{laws-law}
use Rattle.path_sets.proofs.PlaceLemmas.{last_or}

-- callers that compare as equal are the same
same_caller : (x y : Caller) → eq-value.it x y ≡ true → x ≡ y
same_caller Starter Starter e = refl
same_caller (Proc c) (Proc d) e = ap Proc (exact_unsigned_eq c d e)
same_caller Starter (Proc d) e = absurd (true≢false (sym e))
same_caller (Proc c) Starter e = absurd (true≢false (sym e))

-- by a search
module _ {K : Type 0} (eq : K → K → Bool) (one : (x y : K) → eq x y ≡ true → x ≡ y) (itself : (x : K) → eq x x ≡ true)
    (c : K) (cs ds : List K) (same : cs ≡ ds) (found : Bool) (is : found ≡ list_any (λ x. eq x c) cs) where
  there : list_any (λ x. eq x c) ds ≡ found
  there = ap (list_any (λ x. eq x c)) (sym same) ∙ sym is

  -- what is found is there
  pub search_known : found ≡ true → Member c ds
  search_known e = found_is_in (λ k x. eq x k) (λ k x e. sym (one x k e)) c ds (there ∙ e)

  -- and what is not is new
  pub search_new : found ≡ false → Member c ds → ⊥
  search_new e m = true≢false (sym (is_found (λ k x. eq x k) itself c ds m) ∙ there ∙ e)

-- so of callers
module _ (c : Caller) (cs ds : List Caller) (same : cs ≡ ds) (found : Bool) (is : found ≡ list_any (λ x. eq-value.it x c) cs) where
  pub caller_known : found ≡ true → Member c ds
  caller_known = search_known eq-value.it same_caller laws-law.refl c cs ds same found is

  pub caller_new : found ≡ false → Member c ds → ⊥
  caller_new = search_new eq-value.it same_caller laws-law.refl c cs ds same found is

-- nothing occurs twice in a list with one more that was not in it
pub none_twice_with : {K : Type 0} (k : K) (ks : List K) → (Member k ks → ⊥) → NoneTwice ks → NoneTwice (ks ++ k ∷ [])
none_twice_with k [] new once = (λ m. elim m [ ], tt)
none_twice_with k (x ∷ xs) new (x_once, once) =
    (λ m. elim (last_or xs k x m) [ inl old ↦ x_once old | inr e ↦ new (inl (sym e)) ], none_twice_with k xs (λ m. new (inr m)) once)

-- what is among the first is in the list
member_first : {K : Type 0} (x : K) (n : ℕ) (ks : List K) → Member x (take n ks) → Member x ks
member_first x n ks m = subst (Member x) (take-append-drop n ks) (member_left x (take n ks) (drop n ks) m)

-- so nothing occurs twice among the first of a list in which nothing does
pub none_twice_first : {K : Type 0} (n : ℕ) (ks : List K) → NoneTwice ks → NoneTwice (take n ks)
none_twice_first zero ks once = tt
none_twice_first (suc n) [] once = tt
none_twice_first (suc n) (x ∷ ks) once = (λ m. once.0 (member_first x n ks m), none_twice_first n ks once.1)

-- nothing occurs twice when one is added, if it can be
pub once_after : {K T E : Type 0} (k : K) (ks after : List K) (r : Result T E) → OnOk r (after ≡ ks ++ k ∷ []) → OnErr r (after ≡ ks)
    → (Member k ks → ⊥) → NoneTwice ks → NoneTwice after
once_after k ks after (Ok _) added same new once = subst NoneTwice (sym added) (none_twice_with k ks new once)
once_after k ks after (Err _) added same new once = subst NoneTwice (sym same) once

-- what comes after others is not among them, if nothing occurs twice
pub next_new : {K : Type 0} (ks : List K) (n m : ℕ) (k : K) → take m ks ≡ take n ks ++ k ∷ [] → NoneTwice ks → Member k (take n ks) → ⊥
next_new {K = K} ks n m k more once =
    apart (take n ks) (drop m ks) (subst NoneTwice (sym (ap (λ l. l ++ drop m ks) (sym more) ∙ take-append-drop m ks)) once)
  where
    apart : (xs ys : List K) → NoneTwice ((xs ++ k ∷ []) ++ ys) → Member k xs → ⊥
    apart [] ys o m = m
    apart (x ∷ xs) ys (x_once, o) (inl e) = x_once (member_left x (xs ++ k ∷ []) ys (member_right x xs (k ∷ []) (inl (sym e))))
    apart (x ∷ xs) ys (x_once, o) (inr m) = apart xs ys o m

-- with more messages appended, those that were answered are the same
pub answers_still : {K : Type 0} (ks js : List K) (n m : ℕ) → n ≤ length ks → m ≡ n →
    (more : List K) × (js ≡ ks ++ more) → take m js ≡ take n ks
answers_still ks js n m within same (more, is) = ap (λ i. take i js) same ∙ ap (take n) is ∙ take-append-le n ks more within

-- of no messages none were answered
pub answers_none : {K : Type 0} (ks : List K) (n : ℕ) → ks ≡ [] → take n ks ≡ []
answers_none {K = K} ks n none = ap (take n) none ∙ by n
  where
    by : (i : ℕ) → take {A = K} i [] ≡ []
    by zero = refl
    by (suc i) = refl

-- as few messages were answered as are counted
pub answers_few : {K : Type 0} (ks : List K) (n limit : ℕ) → n ≤ length ks → n < limit → length (take n ks) < limit
answers_few ks n limit within few = let same = length-take-le n ks within in omega (arith, same, few)
