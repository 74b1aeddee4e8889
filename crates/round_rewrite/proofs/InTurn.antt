-- Parts that come one after the other in front of a rest, one for each of a list, as the guesses and the checks do.
use Rattle.std.proofs.Common.{◌≡◌, ℕ, zero, suc, ◌+◌, ◌<◌, ◌≤◌, List, [], ◌∷◌, ◌++◌, sym, ◌∙◌, ap, subst, arith}
use Rattle.language.specs.Sequential.{numbers}
use Rattle.round_rewrite.proofs.PushLemmas.{numbers_next}

module _ {K T : Type 0} (parts : List K → T → T) (part : K → T → T) (none : (t : T) → parts [] t ≡ t)
    (more : (k : K) (ks : List K) (t : T) → parts (k ∷ ks) t ≡ part k (parts ks t)) where
  -- the last part comes directly before the rest
  behind : (ks : List K) (k : K) (t : T) → parts (ks ++ k ∷ []) t ≡ parts ks (part k t)
  behind [] k t = more k [] t ∙ (ap (part k) (none t) ∙ sym (none (part k t)))
  behind (j ∷ ks) k t = more j (ks ++ k ∷ []) t ∙ (ap (part j) (behind ks k t) ∙ sym (more j ks (part k t)))

  -- what passes each part passes all
  pub passes : (f : T → T) → ((k : K) (t : T) → f (part k t) ≡ part k (f t)) → (ks : List K) (t : T)
      → f (parts ks t) ≡ parts ks (f t)
  passes f each [] t = ap f (none t) ∙ sym (none (f t))
  passes f each (k ∷ ks) t =
      ap f (more k ks t) ∙ (each k (parts ks t) ∙ (ap (part k) (passes f each ks t) ∙ sym (more k ks (f t))))

  -- what each part keeps, all keep
  pub keep : (P : T → Type 0) → ((k : K) (t : T) → P t → P (part k t)) → (ks : List K) (t : T) → P t → P (parts ks t)
  keep P each [] t h = subst P (sym (none t)) h
  keep P each (k ∷ ks) t h = subst P (sym (more k ks t)) (each k (parts ks t) (keep P each ks t h))

-- the parts for one more number
pub one_behind : {T : Type 0} (parts : List ℕ → T → T) (part : ℕ → T → T) → ((t : T) → parts [] t ≡ t)
    → ((k : ℕ) (ks : List ℕ) (t : T) → parts (k ∷ ks) t ≡ part k (parts ks t)) → (start k n : ℕ) → start + k ≡ n
    → (t : T)
    → parts (numbers start (k + 1)) t ≡ parts (numbers start k) (part n t)
one_behind parts part none more start k n e t =
    ap (λ ks. parts ks t) (numbers_next start k)
    ∙ (behind parts part none more (numbers start k) (start + k) t ∙ ap (λ j. parts (numbers start k) (part j t)) e)

-- what the parts for numbers below a bound keep, all of them keep
pub keep_below : {T : Type 0} (parts : List ℕ → T → T) (part : ℕ → T → T) → ((t : T) → parts [] t ≡ t)
    → ((k : ℕ) (ks : List ℕ) (t : T) → parts (k ∷ ks) t ≡ part k (parts ks t)) → (P : T → Type 0) (bound : ℕ)
    → ((k : ℕ) (t : T) → k < bound → P t → P (part k t)) → (k m : ℕ) → k + m ≤ bound → (t : T) → P t → P (parts (numbers k m) t)
keep_below parts part none more P bound each k zero le t h = subst P (sym (none t)) h
keep_below parts part none more P bound each k (suc m) le t h =
    subst P (sym (more k (numbers (suc k) m) t))
    (each k (parts (numbers (suc k) m) t) (omega arith) (keep_below parts part none more P bound each (suc k) m (omega arith) t h))
