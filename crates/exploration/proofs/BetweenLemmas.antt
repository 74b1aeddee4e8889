-- Where a run is between two turns, and how it came there.
use Rattle.std.proofs.Common.{◌≡◌, ◌⊎◌, ℕ, zero, suc, ◌+◌, List, [], ◌∷◌, ◌++◌, length, inl, inr, refl, ap, arith, length-append}
use Rattle.turns.specs.Machines.{Runs}
use Rattle.turns.specs.Between.{Threads, Between, begins, takes_turn, ends_round}

-- one more at the end of the one list is one more at the head of the other
pub next_over : {A : Type 0} (xs : List A) (x : A) (ys : List A) → (xs ++ x ∷ []) ++ ys ≡ xs ++ x ∷ ys
next_over [] x ys = refl
next_over (z ∷ zs) x ys = ap (λ l. z ∷ l) (next_over zs x ys)

pub all_over : {A : Type 0} (xs : List A) → xs ++ [] ≡ xs
all_over [] = refl
all_over (x ∷ xs) = ap (λ l. x ∷ l) (all_over xs)

-- a list that is not empty is some list and a last item
pub last_of : {A : Type 0} (i : ℕ) (xs : List A) → length xs ≡ suc i → (ys : List A) × (y : A) × (xs ≡ ys ++ y ∷ []) × (length ys ≡ i)
last_of i [] h = absurd (omega (arith, h))
last_of zero (x ∷ []) h = ([], x, refl, refl)
last_of zero (x ∷ z ∷ zs) h = absurd (omega (arith, h))
last_of (suc i) (x ∷ []) h = absurd (omega (arith, h))
last_of (suc i) (x ∷ z ∷ zs) h =
    let (ys, y, e, n) = last_of i (z ∷ zs) (omega (arith, h)) in
    (x ∷ ys, y, ap (λ l. x ∷ l) e, ap suc n)

module _ {Globals Frame : Type 0} (p : Threads Globals Frame) where
  -- each thread has had its turn of the round or has not
  pub lengths : (r : ℕ) (g : Globals) (had left : List (List Frame)) → Between p r g had left → length had + length left ≡ length p.stacks
  lengths _ _ _ _ begins = omega arith
  lengths _ _ _ _ (takes_turn r g h had stack stack' left at run) =
      let before = lengths r g had (stack ∷ left) at in
      let more = length-append had (stack' ∷ []) in
      omega (arith, before, more)
  lengths _ _ _ _ (ends_round r g had at) =
      let before = lengths r g had [] at in
      omega (arith, before)

  -- how a run came there: it begins; or a thread had its turn; or a round has ended
  abbrev pub Came : ℕ → Globals → List (List Frame) → List (List Frame) → Type 0
  Came r g had left =
      ((r ≡ zero) × (g ≡ p.globals) × (had ≡ []) × (left ≡ p.stacks))
      ⊎ (((g0 : Globals) × (before : List (List Frame)) × (stack : List Frame) × (stack' : List Frame) × (had ≡ before ++ stack' ∷ [])
      × Between p r g0 before (stack ∷ left) × Runs p.machine g0 stack g stack')
      ⊎ ((r0 : ℕ) × (r ≡ suc r0) × (had ≡ []) × Between p r0 g left []))

  pub came : (r : ℕ) (g : Globals) (had left : List (List Frame)) → Between p r g had left → Came r g had left
  came _ _ _ _ begins = inl (refl, refl, refl, refl)
  came _ _ _ _ (takes_turn r g h had stack stack' left at run) = inr (inl (g, had, stack, stack', refl, at, run))
  came _ _ _ _ (ends_round r g had at) = inr (inr (r, refl, refl, at))
