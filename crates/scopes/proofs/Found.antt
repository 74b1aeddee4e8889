-- Putting searches for the least offset together.
use Rattle.std.proofs.Common.{◌≡◌, ◌≢◌, ℕ, ◌<◌, ◌≤◌, nat_le, rules, Bool, true, false, cond, List, [], ◌∷◌}
use Rattle.std.proofs.Common.{◌++◌, Option, Some, None, ◌⊎◌, inl, inr, refl, sym, subst, arith}
use Rattle.std.specs.Prelude.{Result, Ok, Err, IfOk}
use Rattle.std.proofs.lemmas.Bool.Decides.{leb_tells}
use Rattle.std.specs.Str.{bytes_eq}
use Rattle.language.specs.Rest.{same_text}
use Rattle.checked.specs.Faults.{AnyOf}
use Rattle.scopes.specs.Find.{Finds, lesser_by, earlier_of, FoundSoFar}

lesser : {P Q : ℕ → Type 0} (m n : ℕ) (b : Bool) → nat_le m n ≡ b → Finds P (Some m) → Finds Q (Some n) → Finds
    (λ k. P k ⊎ Q k) (cond b (Some m) (Some n))
lesser m n true e p q =
    let le : m ≤ n = search rules in
    record {
      least = (
        inl p.least.0,
        λ k h. elim h
            [ inl x ↦ p.least.1 k x | inr y ↦ let l : n ≤ k = q.least.1 k y in omega arith ],
      );
    }
lesser m n false e p q =
    let le : n < m = search rules in
    record {
      least = (
        inr q.least.0,
        λ k h. elim h
            [ inl x ↦ (let l : m ≤ k = p.least.1 k x in omega arith) | inr y ↦ q.least.1 k y ],
      );
    }

pub both : {P Q : ℕ → Type 0} (a b : Option ℕ) → Finds P a → Finds Q b → Finds (λ k. P k ⊎ Q k) (earlier_of a b)
unfolding lesser_by
both None None p q = record { least = λ k h. elim h [ inl x ↦ p.least k x | inr y ↦ q.least k y ] }
both None (Some n) p q = record
    { least = (inr q.least.0, λ k h. elim h [ inl x ↦ absurd (p.least k x) | inr y ↦ q.least.1 k y ]) }
both (Some m) None p q = record
    { least = (inl p.least.0, λ k h. elim h [ inl x ↦ p.least.1 k x | inr y ↦ absurd (q.least k y) ]) }
both (Some m) (Some n) p q = lesser m n (nat_le m n) refl p q

-- equivalent properties have one least number
pub same : {P Q : ℕ → Type 0} (a : Option ℕ) → ((k : ℕ) → P k → Q k) → ((k : ℕ) → Q k → P k) → Finds P a
    → Finds Q a
same None to back p = record { least = λ k h. p.least k (back k h) }
same (Some m) to back p = record { least = (to m p.least.0, λ k h. p.least.1 k (back k h)) }

pub nowhere : {P : ℕ → Type 0} → ((k : ℕ) → P k → ⊥) → Finds P None
nowhere h = record { least = h }

-- a property of one number alone
pub only : {P : ℕ → Type 0} (m : ℕ) → P m → ((k : ℕ) → P k → m ≡ k) → Finds P (Some m)
only m p h = record { least = (p, λ k q. let e : m ≡ k = h k q in omega arith) }

past : (l m : ℕ) (t : Bool) → cond t (Some l) (Some m) ≡ earlier_of (cond t (Some l) (Some m)) None
unfolding lesser_by
past l m true = refl
past l m false = refl

three : (l m n : ℕ) (p q r : Bool) → nat_le l m ≡ p → nat_le m n ≡ q → nat_le l n ≡ r → earlier_of (Some l)
    (cond q (Some m) (Some n)) ≡ earlier_of (cond p (Some l) (Some m)) (Some n)
unfolding lesser_by
three l m n true true true a b c = rw (a, c) refl
three l m n true true false a b c = absurd (grind (arith, leb_tells l m, leb_tells m n, leb_tells l n))
three l m n true false r a b c = refl
three l m n false true r a b c = rw (a, b) refl
three l m n false false true a b c = absurd (grind (arith, leb_tells l m, leb_tells m n, leb_tells l n))
three l m n false false false a b c = rw (b, c) refl

pub either_way : (a b c : Option ℕ) → earlier_of a (earlier_of b c) ≡ earlier_of (earlier_of a b) c
unfolding lesser_by
either_way None b c = refl
either_way (Some l) None c = refl
either_way (Some l) (Some m) None = past l m (nat_le l m)
either_way (Some l) (Some m) (Some n) = three l m n (nat_le l m) (nat_le m n) (nat_le l n) refl refl refl

-- which of two is taken, by whether they are there and by their keys
pub none_after : {X : Type 0} (key : X → ℕ) (a : Option X) → lesser_by key a None ≡ a
unfolding lesser_by
none_after key None = refl
none_after key (Some x) = refl

pub none_before : {X : Type 0} (key : X → ℕ) (a : Option X) → lesser_by key None a ≡ a
unfolding lesser_by
none_before key a = refl

pub takes_former : {X : Type 0} (key : X → ℕ) (x y : X) → key x ≤ key y → lesser_by key (Some x) (Some y) ≡ Some x
unfolding lesser_by
takes_former {X} key x y le = go (nat_le (key x) (key y)) refl
  where
    go : (b : Bool) → nat_le (key x) (key y) ≡ b → cond b (Some x) (Some y) ≡ Some x
    go true e = refl
    go false e = absurd (let lt : key y < key x = search rules in omega arith)

pub takes_latter : {X : Type 0} (key : X → ℕ) (x y : X) → key y < key x → lesser_by key (Some x) (Some y) ≡ Some y
unfolding lesser_by
takes_latter {X} key x y lt = go (nat_le (key x) (key y)) refl
  where
    go : (b : Bool) → nat_le (key x) (key y) ≡ b → cond b (Some x) (Some y) ≡ Some y
    go true e = absurd (let le : key x ≤ key y = search rules in omega arith)
    go false e = refl

-- of two optional things, the one that is taken
pub ruleset lesser_steps = (none_before, none_after, takes_former, takes_latter)

pub begin : {P : ℕ → Type 0} → FoundSoFar P P None
begin {P} = record { goes = λ r h. subst (λ (o : Option ℕ). Finds P o) (sym (none_before (λ n. n) r)) h }

pub step : {W S R : ℕ → Type 0} (a b : Option ℕ) → FoundSoFar W (λ n. S n ⊎ R n) a → Finds S b → FoundSoFar W R (earlier_of a b)
step {W} a b k h = record {
  goes = λ r g. subst (λ (o : Option ℕ). Finds W o) (either_way a b r)
      (k.goes (earlier_of b r) (both b r h g));
}

pub weaker : {W R S : ℕ → Type 0} (a : Option ℕ) → ((k : ℕ) → S k → R k) → ((k : ℕ) → R k → S k) → FoundSoFar W R a
    → FoundSoFar W S a
weaker a to back k = record { goes = λ r h. k.goes r (same r to back h) }

pub finish : {W R : ℕ → Type 0} (a : Option ℕ) → FoundSoFar W R a → ((n : ℕ) → R n → ⊥) → Finds W a
finish {W} a k h = subst (λ (o : Option ℕ). Finds W o) (none_after (λ n. n) a) (k.goes None (nowhere h))

-- a name's offset is the answer, if a fact holds that does not mention offsets
pub here : {Q : Type 0} (m : ℕ) → Q → Finds (λ n. (m ≡ n) × Q) (Some m)
here m q = only m (refl, q) (λ k h. h.0)

pub not_here : {Q : Type 0} (m : ℕ) → (Q → ⊥) → Finds (λ n. (m ≡ n) × Q) None
not_here m f = nowhere (λ k h. f h.1)

pub any_append : {X : Type 0} (P : X → Type 0) (xs ys : List X) → AnyOf P (xs ++ ys) → AnyOf P xs ⊎ AnyOf P ys
any_append P [] ys h = inr h
any_append P (x ∷ xs) ys (inl h) = inl (inl h)
any_append P (x ∷ xs) ys (inr h) = elim (any_append P xs ys h) [ inl k ↦ inl (inr k) | inr k ↦ inr k ]

pub any_left : {X : Type 0} (P : X → Type 0) (xs ys : List X) → AnyOf P xs → AnyOf P (xs ++ ys)
any_left P [] ys h = absurd h
any_left P (x ∷ xs) ys (inl h) = inl h
any_left P (x ∷ xs) ys (inr h) = inr (any_left P xs ys h)

pub any_right : {X : Type 0} (P : X → Type 0) (xs ys : List X) → AnyOf P ys → AnyOf P (xs ++ ys)
any_right P [] ys h = h
any_right P (x ∷ xs) ys h = inr (any_right P xs ys h)

-- what is found in two lists is found in one after the other
pub in_both : {X : Type 0} (P : X → ℕ → Type 0) (xs ys : List X) (a b : Option ℕ) → Finds
    (λ n. AnyOf (λ x. P x n) xs) a → Finds (λ n. AnyOf (λ x. P x n) ys) b → Finds (λ n. AnyOf (λ x. P x n) (xs ++ ys))
    (earlier_of a b)
in_both P xs ys a b h k =
    same (earlier_of a b)
    (λ n. λ q. elim q [ inl l ↦ any_left (λ x. P x n) xs ys l | inr l ↦ any_right (λ x. P x n) xs ys l ])
    (λ n. any_append (λ x. P x n) xs ys)
    (both a b h k)

pub same_bytes : (xs ys : List ℕ) → bytes_eq xs ys ≡ same_text xs ys
same_bytes xs ys = refl

pub both_of : {P Q : ℕ → Type 0} (a b r : Option ℕ) → r ≡ earlier_of a b → Finds P a → Finds Q b → Finds
    (λ k. P k ⊎ Q k) r
both_of {P} {Q} a b r e p q = subst (λ (o : Option ℕ). Finds (λ k. P k ⊎ Q k) o) (sym e) (both a b p q)

pub in_three : {P Q R : ℕ → Type 0} (a b c later r : Option ℕ) → r ≡ earlier_of a later → later ≡ earlier_of b c
    → Finds P a → Finds Q b → Finds R c → Finds (λ k. P k ⊎ (Q k ⊎ R k)) r
in_three a b c later r e f p q w = both_of a later r e p (both_of b c later f q w)

-- a search in a thing is one in what equals it
pub moved : {X : Type 0} (P : X → ℕ → Type 0) (x y : X) (r : Option ℕ) → y ≡ x → Finds (λ n. P x n) r → Finds
    (λ n. P y n) r
moved {X} P x y r e h = subst (λ (z : X). Finds (λ n. P z n) r) (sym e) h

pub in_both_of : {X : Type 0} (P : X → ℕ → Type 0) (xs ys zs : List X) (a b r : Option ℕ) → r ≡ earlier_of a b
    → zs ≡ xs ++ ys → Finds (λ n. AnyOf (λ x. P x n) xs) a → Finds (λ n. AnyOf (λ x. P x n) ys) b → Finds
    (λ n. AnyOf (λ x. P x n) zs) r
in_both_of {X} P xs ys zs a b r e f h k =
    subst (λ (o : Option ℕ). Finds (λ n. AnyOf (λ x. P x n) zs) o) (sym e)
    (moved (λ (l : List X) n. AnyOf (λ x. P x n) l) (xs ++ ys) zs (earlier_of a b) f (in_both P xs ys a b h k))

-- two numbers of one thing and another are compared by what they equal
pub compared : (a b m x n y : ℕ) (r : Option ℕ) → b ≡ a → x ≡ m → y ≡ n → Finds (λ k. (a ≡ k) × (m ≢ n)) r
    → Finds (λ k. (b ≡ k) × (x ≢ y)) r
compared a b m x n y r e f g h =
    moved (λ b k. (b ≡ k) × (x ≢ y)) a b r e
    (moved (λ x k. (a ≡ k) × (x ≢ y)) m x r f (moved (λ y k. (a ≡ k) × (m ≢ y)) n y r g h))

-- what follows from an answer, if there is one
pub on_ok : {E : Type 0} (P Q : Option ℕ → Type 0) (r : Result (Option ℕ) E) → ((o : Option ℕ) → P o → Q o) → IfOk r P
    → IfOk r Q
on_ok P Q (Ok o) f h = f o h
on_ok P Q (Err e) f h = tt
