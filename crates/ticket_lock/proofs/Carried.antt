-- What a seat holds, after a step.
use Rattle.std.proofs.Common.{◌≡◌, ℕ, List, ◌∷◌, get_or, Option, Some, None, ap, sym, ◌∙◌, subst}
use Rattle.atomic_table.specs.Table.{Me, rest}
use Rattle.ticket_lock.specs.declared.hand.Hand.{Hand}
use Rattle.ticket_lock.specs.Turns.{StepKind, enters, passes, with_leave}
use Rattle.ticket_lock.specs.Calls.{Enters, WentInside, Passed, Left}

module _ {S : Type 0} where
  pub holds_it : (slot : ℕ) (x : S) (l tail : List (ℕ × S)) → l ≡ (slot, x) ∷ tail → l ≡ (slot, x) ∷ rest l
  holds_it slot x l tail e = e ∙ ap (λ m. (slot, x) ∷ rest m) (sym e)

pub same_some : {T : Type 0} (slot slot' : ℕ) (x y : T) (l tail other : List (ℕ × Option T)) → l ≡ (slot, Some x) ∷ tail
    → l ≡ (slot', Some y) ∷ other → x ≡ y
same_some {T} slot slot' x y l tail other one two = let e : Some x ≡ Some y =
    ap (λ (l : List (ℕ × Option T)). (get_or l 0 (slot, Some x)).1) (sym one ∙ two) in cc

module _ {T V : Type 0} (see : V → Hand T) (tells : StepKind T → V → V → Type 0) where
  -- what a seat passed on is the value that lay in its slot
  pub passed_left : (slot : ℕ) (y : T) (before after : Me (Option T) V) (tail : List (ℕ × Option T)) → before.1 ≡ (slot, Some y) ∷ tail
      → Passed see tells slot before after → Left see tells y before after
  passed_left slot y before after tail lies passed =
      let same = same_some slot slot passed.1 y before.1 (rest before.1) tail passed.2 lies in (
        passed.3,
        subst (λ z. see after.0 ≡ with_leave z (see before.0)) same passed.5,
        (passed.0, passed.4, subst (λ z. tells (passes passed.0 z) before.0 after.0) same passed.6),
      )

  -- a seat went inside, and then took the value out of the slot
  pub took_out : (slot ticket : ℕ) (x y : T) (before inside after : Me (Option T) V)
      → WentInside see tells slot ticket x (Some x) before inside → inside.1 ≡ (slot, Some y) ∷ rest inside.1
      → after ≡ (inside.0, (slot, None) ∷ rest inside.1) → WentInside see tells slot ticket y None before after
  took_out slot ticket x y before inside after went holds took =
      let same = same_some slot slot x y inside.1 before.1 (rest inside.1) went.0 holds in
      let view : after.0 ≡ inside.0 = ap (λ m. m.0) took in (
        ap (λ m. m.1) took ∙ ap (λ l. (slot, None) ∷ rest l) went.0,
        subst (λ z. Enters ticket y (see before.0) (see z)) (sym view)
            (subst (λ z. Enters ticket z (see before.0) (see inside.0)) same went.1),
        subst (λ z. tells (enters y) before.0 z) (sym view) (subst (λ z. tells (enters z) before.0 inside.0) same went.2),
      )
