-- Putting searches for faults together.
use Rattle.std.proofs.Common.{◌≡◌, ℕ, suc, ◌<◌, ◌≤◌, nat_le, Bool, true, false, cond, Option, Some, None, ◌⊎◌, inl, inr, refl, sym, ◌∙◌, ap}
use Rattle.std.proofs.Common.{subst, arith, rules}
use Rattle.std.specs.Prelude.{option_map, MatchOption, IsSomeAnd}
use Rattle.language.specs.Tree.{Tree}
use Rattle.checked.specs.declared.fault.ScopeFault.{ScopeFault}
use Rattle.checked.specs.declared.fault.ScopeFault.TheVariants as fault
use Rattle.scopes.specs.Find.{Finds, lesser_by}
use Rattle.checked.specs.Faults.{Undeclared, DeclaredTwice, WrongCount, BadThread, BadLabel, Reserved, TooMany}
use Rattle.checked.specs.Checked.{FaultStands, number, offset, ComesFirst}
use Rattle.scopes.specs.First.{IsFirst, FindsFirst, sooner_of}

-- the fault is of one kind, and stands where P does
abbrev Of : (ℕ → ScopeFault) → (ℕ → Type 0) → ScopeFault → Type 0
Of mk P f = (n : ℕ) × (f ≡ mk n) × P n

no_later : (f g : ScopeFault) → ComesFirst f g → offset f ≤ offset g
no_later f g (inl h) = omega arith
no_later f g (inr h) = let e : offset f ≡ offset g = h.0 in omega arith

at_most : (m n k l : ℕ) → m ≤ n → k ≤ l → (m < n) ⊎ ((m ≡ n) × (k ≤ l))
at_most m n k l h i = go (nat_le n m) refl
  where
    go : (b : Bool) → nat_le n m ≡ b → (m < n) ⊎ ((m ≡ n) × (k ≤ l))
    go true e = inr ((let z : n ≤ m = search rules in omega arith), i)
    go false e = inl (search rules)

-- one before a second, which is no later than a third: the first has the lesser number
passed_on : (f g h : ScopeFault) → offset f ≤ offset g → number f ≤ number h → ComesFirst g h → ComesFirst f h
passed_on f g h le num c = let z : offset g ≤ offset h = no_later g h c in at_most (offset f) (offset h) (number f)
    (number h) (omega arith) num

passed_by : (f g h : ScopeFault) → offset g < offset f → ComesFirst f h → ComesFirst g h
passed_by f g h lt c = let z : offset f ≤ offset h = no_later f h c in inl (omega arith)

-- what a search has found among faults of numbers up to k
pub record FoundUpTo (S : ScopeFault → Type 0) (k : ℕ) (answer : Option ScopeFault) : Type 0 where
  pub first : IsFirst S answer
  pub upto : (f : ScopeFault) → S f → number f ≤ k

sooner_one : {S T : ScopeFault → Type 0} (f g : ScopeFault) (b : Bool) → nat_le (offset f) (offset g) ≡ b →
    ((h : ScopeFault) → T h → number f ≤ number h)
    → IsFirst S (Some f) → IsFirst T (Some g) → IsFirst (λ h. S h ⊎ T h) (cond b (Some f) (Some g))
sooner_one f g true e num p q =
    let le : offset f ≤ offset g = search rules in
    (inl p.0, λ h w. elim w [ inl s ↦ p.1 h s | inr t ↦ passed_on f g h le (num h t) (q.1 h t) ])
sooner_one f g false e num p q =
    let lt : offset g < offset f = search rules in
    (inr q.0, λ h w. elim w [ inl s ↦ passed_by f g h lt (p.1 h s) | inr t ↦ q.1 h t ])

sooner_both : {S T : ScopeFault → Type 0} (a b : Option ScopeFault) →
    ((f g : ScopeFault) → S f → T g → number f ≤ number g)
    → IsFirst S a → IsFirst T b → IsFirst (λ h. S h ⊎ T h) (sooner_of a b)
unfolding lesser_by
sooner_both None None num p q = λ f w. elim w [ inl s ↦ p f s | inr t ↦ q f t ]
sooner_both None (Some g) num p q = (inr q.0, λ h w. elim w [ inl s ↦ absurd (p h s) | inr t ↦ q.1 h t ])
sooner_both (Some f) None num p q = (inl p.0, λ h w. elim w [ inl s ↦ p.1 h s | inr t ↦ absurd (q h t) ])
sooner_both (Some f) (Some g) num p q = sooner_one f g (nat_le (offset f) (offset g)) refl (λ h t. num f h p.0 t) p q

-- the least offset of a kind of fault is its first
of_kind : (mk : ℕ → ScopeFault) (P : ℕ → Type 0) (k : ℕ) → ((n : ℕ) → offset (mk n) ≡ n) →
    ((n : ℕ) → number (mk n) ≡ k)
    → (r : Option ℕ) → Finds P r → IsFirst (Of mk P) (option_map mk r)
of_kind mk P k place num None h = λ f w. h.least w.0 w.2
of_kind mk P k place num (Some n) h = (
  (n, refl, h.least.0),
  λ g w.
      let m : ℕ = w.0 in
      let le : n ≤ m = h.least.1 m w.2 in
      let a : offset (mk n) ≡ n = place n in
      let b : offset g ≡ m = ap offset w.1 ∙ place m in
      let c : number (mk n) ≡ k = num n in
      let d : number g ≡ k = ap number w.1 ∙ num m in
      at_most (offset (mk n)) (offset g) (number (mk n)) (number g) (omega arith) (omega arith),
)

pub start : (mk : ℕ → ScopeFault) (P : ℕ → Type 0) (k : ℕ) → ((n : ℕ) → offset (mk n) ≡ n) →
    ((n : ℕ) → number (mk n) ≡ k)
    → (r : Option ℕ) (a : Option ScopeFault) → a ≡ option_map mk r → Finds P r → FoundUpTo (Of mk P) k a
start mk P k place num r a e h = record {
  first = subst (λ o. IsFirst (Of mk P) o) (sym e) (of_kind mk P k place num r h);
  upto = λ f w. let d : number f ≡ k = ap number w.1 ∙ num w.0 in omega arith;
}

pub next : {S : ScopeFault → Type 0} (mk : ℕ → ScopeFault) (P : ℕ → Type 0) (k : ℕ) → ((n : ℕ) → offset (mk n) ≡ n)
    → ((n : ℕ) → number (mk n) ≡ suc k)
    → (r : Option ℕ) (a b o : Option ScopeFault) → b ≡ option_map mk r → o ≡ sooner_of a b → FoundUpTo S k a → Finds P r
    → FoundUpTo (λ f. S f ⊎ Of mk P f) (suc k) o
next {S} mk P k place num r a b o e z found h = record {
  first = subst (λ w. IsFirst (λ f. S f ⊎ Of mk P f) w) (sym z)
      (sooner_both a b (λ f g s t. let u : number f ≤ k = found.upto f s in let d : number g ≡ suc k = ap number t.1
      ∙ num t.0 in omega arith) found.first
      (subst (λ w. IsFirst (Of mk P) w) (sym e) (of_kind mk P (suc k) place num r h)));
  upto = λ f w. elim w [
    | inl s ↦ (let u : number f ≤ k = found.upto f s in omega arith)
    | inr t ↦
        (let d : number f ≡ suc k = ap number t.1 ∙ num t.0 in omega arith)
  ];
}

-- the faults of each kind are the faults that stand
abbrev Any : Tree → ScopeFault → Type 0
Any t f =
    (((((Of fault.Undeclared (Undeclared t) f ⊎ Of fault.DeclaredTwice (DeclaredTwice t) f) ⊎ Of fault.WrongCount
    (WrongCount t) f) ⊎ Of fault.BadThread (BadThread t) f)
    ⊎ Of fault.BadLabel (BadLabel t) f) ⊎ Of fault.Reserved (Reserved t) f) ⊎ Of fault.TooMany (TooMany t) f

some_kind : (t : Tree) (f : ScopeFault) → FaultStands t f → Any t f
some_kind t (fault.Undeclared n) h = inl (inl (inl (inl (inl (inl (n, refl, h))))))
some_kind t (fault.DeclaredTwice n) h = inl (inl (inl (inl (inl (inr (n, refl, h))))))
some_kind t (fault.WrongCount n) h = inl (inl (inl (inl (inr (n, refl, h)))))
some_kind t (fault.BadThread n) h = inl (inl (inl (inr (n, refl, h))))
some_kind t (fault.BadLabel n) h = inl (inl (inr (n, refl, h)))
some_kind t (fault.Reserved n) h = inl (inr (n, refl, h))
some_kind t (fault.TooMany n) h = inr (n, refl, h)
some_kind t fault.Memory h = absurd h

stands : (t : Tree) (mk : ℕ → ScopeFault) (P : ℕ → Type 0) (f : ScopeFault) → ((n : ℕ) → P n → FaultStands t (mk n)) →
    Of mk P f → FaultStands t f
stands t mk P f to w = subst (λ g. FaultStands t g) (sym w.1) (to w.0 w.2)

each_kind : (t : Tree) (f : ScopeFault) → Any t f → FaultStands t f
each_kind t f (inr w) = stands t fault.TooMany (TooMany t) f (λ n h. h) w
each_kind t f (inl (inr w)) = stands t fault.Reserved (Reserved t) f (λ n h. h) w
each_kind t f (inl (inl (inr w))) = stands t fault.BadLabel (BadLabel t) f (λ n h. h) w
each_kind t f (inl (inl (inl (inr w)))) = stands t fault.BadThread (BadThread t) f (λ n h. h) w
each_kind t f (inl (inl (inl (inl (inr w))))) = stands t fault.WrongCount (WrongCount t) f (λ n h. h) w
each_kind t f (inl (inl (inl (inl (inl (inr w)))))) = stands t fault.DeclaredTwice (DeclaredTwice t) f (λ n h. h) w
each_kind t f (inl (inl (inl (inl (inl (inl w)))))) = stands t fault.Undeclared (Undeclared t) f (λ n h. h) w

same_first : {S T : ScopeFault → Type 0} (a : Option ScopeFault) → ((f : ScopeFault) → S f → T f) →
    ((f : ScopeFault) → T f → S f) → IsFirst S a → IsFirst T a
same_first None to back p = λ f h. p f (back f h)
same_first (Some f) to back p = (to f p.0, λ g h. p.1 g (back g h))

pub first_of_all : (t : Tree) (k : ℕ) (a : Option ScopeFault) → FoundUpTo (Any t) k a → FindsFirst (FaultStands t) a
first_of_all t k a h = record { first = same_first a (each_kind t) (some_kind t) h.first }

-- what `map` gives is the mapped option
pub mapped : (mk : ℕ → ScopeFault) (r : Option ℕ) (a : Option ScopeFault) → MatchOption r (a ≡ None)
    (λ n. IsSomeAnd a (λ f. f ≡ mk n)) → a ≡ option_map mk r
mapped mk None a h = h
mapped mk (Some n) None h = absurd h
mapped mk (Some n) (Some f) h = ap Some h
