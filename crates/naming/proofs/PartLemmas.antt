-- Sets that compare as equal are the same, and so are what is put over them.
use Rattle.std.proofs.Common.{◌≡◌, ◌++◌, ℕ, Bool, true, false, List, [], ◌∷◌, inl, inr, refl, sym, ap, subst, true≢false}
use Rattle.std.proofs.Common.{◌&&◌, ◌||◌, ◌∙◌, ap₂, eq-eqb}
use Rattle.std.specs.Prelude.{if◌then◌else◌}
use Rattle.std.specs.List.{list_any}
use Rattle.std.proofs.lemmas.Map.Views.{exact_unsigned_eq}
use Rattle.language.specs.Lists.{Member}
use Rattle.turns.specs.Turn as turn
use Rattle.turns.specs.declared.numbered_frame.NumberedFrame.{NumberedFrame}
use Rattle.stack_sets.proofs.NodeLemmas.{frame_eq}
use Rattle.saturation.proofs.ItemLemmas.{same_entry}
use Rattle.naming.specs.contracts.part.PartPartialEq.TheImpl as derived
use Rattle.naming.specs.declared.part.Part.{Part}
use Rattle.naming.specs.declared.part.Part.TheVariants.{Call, Ending}
use Rattle.naming.specs.Names.{put}

-- sets that compare as equal are the same
pub exact : (x y : Part) → derived.eq-value.it x y ≡ true → x ≡ y
exact (Call x) (Call y) h = ap Call (same_entry x y h)
exact (Ending g) (Ending h) same = ap Ending (exact_unsigned_eq g h same)
exact (Call x) (Ending h) same = absurd (true≢false (sym same))
exact (Ending g) (Call y) same = absurd (true≢false (sym same))

-- what is put over a set says which, and what
pub put_same : (p q : Part) (f k : NumberedFrame) (b c : turn.Below ℕ ℕ NumberedFrame) → put p f b ≡ put q k c
    → (p ≡ q) × (f ≡ k) × (b ≡ c)
put_same (Call x) (Call y) f k b c same =
    let same_g : x.globals ≡ y.globals = cc in
    let same_e : x.frame ≡ y.frame = cc in
    let same_f : f ≡ k = cc in
    let same_b : b ≡ c = cc in
    (ap Call (λ i. record { globals = same_g i; frame = same_e i }), same_f, same_b)
put_same (Ending g) (Ending h) f k b c same =
    let same_g : g ≡ h = cc in
    let same_f : f ≡ k = cc in
    let same_b : b ≡ c = cc in
    (ap Ending same_g, same_f, same_b)
put_same (Call x) (Ending h) f k b c same = absurd (cc)
put_same (Ending g) (Call y) f k b c same = absurd (cc)

-- nothing is put that is gone
pub put_gone : (p : Part) (f : NumberedFrame) (b : turn.Below ℕ ℕ NumberedFrame) (g : ℕ) → put p f b ≡ turn.gone g → ⊥
put_gone (Call x) f b g same = cc
put_gone (Ending h) f b g same = cc

same_frame_eq : (f : NumberedFrame) → frame_eq f f ≡ true
same_frame_eq f =
    ap₂ (λ a b. a && b) (eq-eqb f.procedure f.procedure refl)
    (ap₂ (λ a b. a && b) (eq-eqb f.point f.point refl) (eq-eqb f.places f.places refl))

-- a set compares as equal to itself
same_set : (x : Part) → derived.eq-value.it x x ≡ true
same_set (Call entry) = ap₂ (λ a b. a && b) (eq-eqb entry.globals entry.globals refl) (same_frame_eq entry.frame)
same_set (Ending g) = eq-eqb g g refl

-- a set that compares as equal to none of a list is not in it
pub not_member : (x : Part) (ys : List Part) → list_any (derived.eq-value.it x) ys ≡ false → Member x ys → ⊥
not_member x [] none m = m
not_member x (y ∷ ys) none (inl same) =
    let yes : derived.eq-value.it x y ≡ true = subst (λ z. derived.eq-value.it x z ≡ true) same (same_set x) in
    true≢false (sym (ap (λ b. b || list_any (derived.eq-value.it x) ys) yes) ∙ none)
not_member x (y ∷ ys) none (inr m) = not_member x ys (or_right (derived.eq-value.it x y) none) m
  where
    or_right : (a : Bool) {b : Bool} → (a || b) ≡ false → b ≡ false
    or_right true h = absurd (true≢false h)
    or_right false h = h

-- it is put behind the others then
pub put_behind : (x : Part) (old new : List Part) → list_any (derived.eq-value.it x) old ≡ false
    → new ≡ (if list_any (derived.eq-value.it x) old then old else old ++ x ∷ []) → new ≡ old ++ x ∷ []
put_behind x old new none is = is ∙ ap (λ b. if b then old else old ++ x ∷ []) none
