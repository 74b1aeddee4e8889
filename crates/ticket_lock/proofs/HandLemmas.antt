-- Hands that share what one hand had, or take what another has.
use Rattle.std.proofs.Common.{◌≡◌, ◌≢◌, ◌⊎◌, inl, inr, ℕ, suc, ◌+◌, List, [], ◌∷◌, ◌++◌, length, set, zero, ◌≤◌, Some}
use Rattle.std.proofs.Common.{refl, sym, ap, ◌∙◌, subst, arith, Option, length-append}
use mathlib.Core.Option as maybe
use mathlib.Core.Option.{some, some-injective, some-ne-none}
use lib.ListN.{get_elem?}
use Rattle.ticket_lock.specs.declared.hand.Hand.{Hand}
use Rattle.ticket_lock.specs.Count.{times, total}
use Rattle.ticket_lock.specs.Core.{in_hand, Fits, TicketCore}
use Rattle.ticket_lock.specs.History.{StartsWith}
use Rattle.ticket_lock.specs.Lone.{new_hand}
use Rattle.ticket_lock.specs.Proved.Facts.{total_set, at_set, at_snoc, set_else}
use Rattle.ticket_lock.proofs.HistoryFacts.{total-snoc, times-append}
use Rattle.ticket_lock.proofs.CoreSteps.{core_same}

-- what holds for the only item of a list holds for each
pub at_only : {X : Type 0} (P : X → Type 0) (x : X) → P x → (j : ℕ) (y : X) → get_elem? (x ∷ []) j ≡ some y → P y
at_only P x holds zero y e = subst P (some-injective x y e) holds
at_only P x holds (suc j) y e = absurd (some-ne-none y (sym e))

module _ {T : Type 0} where
  -- a hand that has nothing but its shares fits any ticket
  pub fits_idle : (serving : ℕ) (log seen : List T) (parts : ℕ) → StartsWith log seen → Fits serving log (new_hand seen parts)
  fits_idle serving log seen parts begins = record { begins = begins; inside = inl refl; few = omega arith; idle = λ _. (refl, refl) }

  -- a new lock has one hand, which has nothing but its shares
  pub core_new : (seen : List T) (parts : ℕ) (x : T) (here : maybe.Option (maybe.Option (Option T))) → StartsWith (x ∷ []) seen
      → parts ≤ 64 → here ≡ some (some (Some x)) → TicketCore 0 0 (x ∷ []) here (new_hand seen parts ∷ [])
  core_new seen parts x here begins few is = record {
    served = refl;
    order = omega arith;
    held = λ k lo hi. absurd (omega arith);
    past = λ k lo. absurd (omega arith);
    ahead = λ k hi. refl;
    drawn_once = λ k hi. absurd (omega arith);
    undrawn = λ k hi. refl;
    drawn = refl;
    parts = omega arith;
    each = at_only (Fits 0 (x ∷ [])) (new_hand seen parts) (fits_idle 0 (x ∷ []) seen parts begins);
    home = λ none. (x, ([], refl), is);
  }

  -- two hands have what one had
  pub record Divides (h a b : Hand T) : Type 0 where
    pub hands : (n : ℕ) → in_hand n a + in_hand n b ≡ in_hand n h
    pub drawn : (n : ℕ) → times n a.drawn + times n b.drawn ≡ times n h.drawn
    pub count : length a.drawn + length b.drawn ≡ length h.drawn
    pub parts : a.parts + b.parts ≡ h.parts
    pub inside : length a.inside + length b.inside ≡ length h.inside
    pub fits : (serving : ℕ) (log : List T) → Fits serving log h → Fits serving log a × Fits serving log b

  -- a hand stays, beside one that has nothing
  pub divides_idle : (h : Hand T) (seen : List T) → ((log : List T) → StartsWith log h.seen → StartsWith log seen)
      → Divides h h (new_hand seen 0)
  divides_idle h seen begins = record {
    hands = λ n. omega arith;
    drawn = λ n. omega arith;
    count = omega arith;
    parts = omega arith;
    inside = omega arith;
    fits = λ serving log f. (f, fits_idle serving log seen 0 (begins log f.begins));
  }

  -- a hand that has nothing but its shares gives one of them away
  pub divides_new : (seen : List T) (parts : ℕ) → Divides (new_hand seen (suc parts)) (new_hand seen parts) (new_hand seen 1)
  divides_new seen parts = record {
    hands = λ n. refl;
    drawn = λ n. refl;
    count = refl;
    parts = omega arith;
    inside = refl;
    fits = λ serving log f. (fits_idle serving log seen parts f.begins, fits_idle serving log seen 1 f.begins);
  }

  pub core_splits : (serving next : ℕ) (log : List T) (here : maybe.Option (maybe.Option (Option T))) (hands : List (Hand T)) (id : ℕ)
      (h a b : Hand T) → get_elem? hands id ≡ some h → Divides h a b → TicketCore serving next log here hands
      → TicketCore serving next log here (set hands id a ++ b ∷ [])
  core_splits serving next log here hands id h a b is_at d c =
      let sum : (f : Hand T → ℕ) → f a + f b ≡ f h → total f (set hands id a ++ b ∷ []) ≡ total f hands =
      λ f e. omega (arith, total-snoc f (set hands id a) b, total_set f hands id h a is_at) in
      let both = d.fits serving log (c.each id h is_at) in
      core_same serving next log here hands c (set hands id a ++ b ∷ []) (λ n. sum (in_hand n) (d.hands n))
      (λ n. sum (λ (x : Hand T). times n x.drawn) (d.drawn n)) (sum (λ (x : Hand T). length x.drawn) d.count)
      (sum (λ (x : Hand T). x.parts) d.parts) (sum (λ (x : Hand T). length x.inside) d.inside)
      (λ j x e. elim (at_snoc (set hands id a) b x j e) [
        | inl t ↦ subst (λ z. Fits serving log z) t.1 both.1
        | inr t ↦ elim (at_set hands id j a x t) [ inl u ↦ subst (λ z. Fits serving log z) u.1 both.0 | inr u ↦ c.each j x u.1 ]
      ])

  -- one hand has what two had, which were outside
  pub record Unites (h k u : Hand T) : Type 0 where
    pub tickets : u.tickets ≡ h.tickets ++ k.tickets
    pub inside : u.inside ≡ h.inside ++ k.inside
    pub drawn : u.drawn ≡ h.drawn ++ k.drawn
    pub parts : u.parts ≡ h.parts + k.parts
    pub seen : (u.seen ≡ h.seen) ⊎ (u.seen ≡ k.seen)

  fits_united : (serving : ℕ) (log : List T) (h k u : Hand T) → Unites h k u → (h.inside ≡ []) ⊎ (u.seen ≡ h.seen) → k.inside ≡ []
      → Fits serving log h → Fits serving log k → Fits serving log u
  fits_united serving log h k u one own out_k f g = record {
    begins =
        elim one.seen [
          | inl e ↦ subst (λ l. StartsWith log l) (sym e) f.begins
          | inr e ↦ subst (λ l. StartsWith log l) (sym e) g.begins
        ];
    inside = elim own [
      | inl out ↦ inl (one.inside ∙ (λ i. out i ++ out_k i))
      | inr same ↦ elim f.inside [
        | inl out ↦ inl (one.inside ∙ (λ i. out i ++ out_k i))
        | inr here ↦ inr (one.inside ∙ (λ i. here.0 i ++ out_k i), same ∙ here.1)
      ]
    ];
    few = omega (arith, ap length one.drawn, length-append h.drawn k.drawn, f.few, g.few, one.parts);
    idle = λ none.
        let a = f.idle (omega (arith, one.parts)) in
        let b = g.idle (omega (arith, one.parts)) in
        (one.tickets ∙ (λ i. a.0 i ++ b.0 i), one.inside ∙ (λ i. a.1 i ++ b.1 i));
  }

  pub core_joins : (serving next : ℕ) (log : List T) (here : maybe.Option (maybe.Option (Option T))) (hands : List (Hand T)) (id other : ℕ)
      (h k u : Hand T) → get_elem? hands id ≡ some h → other ≢ id → get_elem? hands other ≡ some k
      → Unites h k u → (h.inside ≡ []) ⊎ (u.seen ≡ h.seen) → k.inside ≡ [] → TicketCore serving next log here hands
      → TicketCore serving next log here (set (set hands id u) other (new_hand [] 0))
  core_joins serving next log here hands id other h k u is_at ne at_other one own out_k c =
      let hs : List (Hand T) = set (set hands id u) other (new_hand [] 0) in
      let there : get_elem? (set hands id u) other ≡ some k = set_else hands id other u ne ∙ at_other in
      let sum : (f : Hand T → ℕ) → f (new_hand [] 0) ≡ 0 → f u ≡ f h + f k → total f hs ≡ total f hands =
      λ f z e. omega (arith, total_set f hands id h u is_at, total_set f (set hands id u) other k (new_hand [] 0) there) in
      core_same serving next log here hands c hs
      (λ n.
      sum (in_hand n) refl
      (omega
      (arith, ap (times n) one.tickets, times-append n h.tickets k.tickets, ap (times n) one.inside, times-append n h.inside k.inside)))
      (λ n. sum (λ (x : Hand T). times n x.drawn) refl (ap (times n) one.drawn ∙ times-append n h.drawn k.drawn))
      (sum (λ (x : Hand T). length x.drawn) refl (ap length one.drawn ∙ length-append h.drawn k.drawn))
      (sum (λ (x : Hand T). x.parts) refl one.parts)
      (sum (λ (x : Hand T). length x.inside) refl (ap length one.inside ∙ length-append h.inside k.inside))
      (λ j x e. elim (at_set (set hands id u) other j (new_hand [] 0) x e) [
        | inl t ↦ subst (λ z. Fits serving log z) t.1 (fits_idle serving log [] 0 (log, refl))
        | inr t ↦
            elim (at_set hands id j u x t.1) [
              | inl v ↦
                  subst (λ z. Fits serving log z) v.1
                  (fits_united serving log h k u one own out_k (c.each id h is_at) (c.each other k at_other))
              | inr v ↦ c.each j x v.1
            ]
      ])
