-- What an iterator over a `Vec` gives, for callers of `close`.
use Rattle.std.proofs.Common.{◌≡◌, ℕ, suc, ◌+◌, ◌<◌, List, [], ◌∷◌, ◌++◌, length, refl, sym, ap, ◌∙◌, subst, arith, All, Some, None}
use Rattle.std.proofs.lemmas.List.{append-nil, nil_from_length}
use Rattle.std.specs.Iterator.{Yields, Drains, HoldsAlong}
use Rattle.std.specs.Vec.Iter.{into_iter_items, into_iter_steps}
use Rattle.std.specs.declared.vec.IntoIter.{IntoIter}

All-front : {X : Type 0} (P : X → Type 0) (xs ys : List X) → All P (xs ++ ys) → All P xs
All-front P xs ys a k d h = subst P (front xs ys k d h) (a k d (omega (arith, Rattle.std.proofs.Common.length-append xs ys)))
  where
    front : {Y : Type 0} (us vs : List Y) (k : ℕ) (d : Y) → k < length us → lib.ListN.get_or (us ++ vs) k d ≡ lib.ListN.get_or us k d
    front [] vs k d h = absurd (omega arith)
    front (u ∷ us) vs Rattle.std.proofs.Common.zero d h = refl
    front (u ∷ us) vs (suc k) d h = front us vs k d (omega arith)

module _ {X Z : Type 0} where
  pub gives_front : (s : IntoIter X Z) (xs : List X) (t : IntoIter X Z) → Yields into_iter_steps s xs t
      → into_iter_items s ≡ xs ++ into_iter_items t
  gives_front s [] t y = ap into_iter_items y
  gives_front s (x ∷ xs) t y = y.1.0 ∙ ap (λ l. x ∷ l) (gives_front y.0 xs t y.2)

  pub gives_all : (s : IntoIter X Z) (xs : List X) → Drains into_iter_steps s xs → xs ≡ into_iter_items s
  gives_all s xs d =
      let t = d.1.0 in
      let none : into_iter_items t ≡ [] = nil_from_length (into_iter_items t) (omega (arith, d.1.2.0, t.rest.ok.0)) in
      sym (gives_front s xs t d.1.1 ∙ (ap (λ l. xs ++ l) none ∙ append-nil xs))

  pub holds_along : (P : X → Type 0) (s : IntoIter X Z) → All P (into_iter_items s) → HoldsAlong into_iter_steps s (All P)
  holds_along P s a xs t y = All-front P xs (into_iter_items t) (subst (All P) (gives_front s xs t y) a)
