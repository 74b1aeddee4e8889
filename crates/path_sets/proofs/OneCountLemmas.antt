-- A set has one count of inner nodes.
use Rattle.std.proofs.Common.{◌≡◌, ℕ, ◌≤◌, inl, inr, List, [], ◌∷◌, length, refl, sym, ◌∙◌, subst, arith}
use Rattle.language.specs.Lists.{Member}
use Rattle.path_sets.specs.Inserts.{Inserts, here, there}
use Rattle.path_sets.specs.Suffixes.{Apart, AreNodes, HasNodes, Prefix, prefix, SameSuffixes}
use Rattle.path_sets.proofs.InsertsLemmas.{is_new_or_old, one_longer}

-- what is in a list was put into another
taken : (y : Prefix) (qs : List Prefix) → Member y qs → (rs : List Prefix) × Inserts y rs qs
taken y [] m = elim m [ ]
taken y (z ∷ zs) (inl is) = (zs, subst (λ k. Inserts y zs (k ∷ zs)) is (here zs))
taken y (z ∷ zs) (inr later) = let (rs, i) = taken y zs later in (z ∷ rs, there z rs zs i)

module _ (S : ℕ → Type 0) where
  -- one level, and the same suffixes
  abbrev Alike : Prefix → Prefix → Type 0
  Alike x y = (y.level ≡ x.level) × SameSuffixes S x.level x.bits y.bits

  alike_both : (x x' y : Prefix) → Alike x y → Alike x' y → (x'.level ≡ x.level) × SameSuffixes S x.level x.bits x'.bits
  alike_both x x' y (level, same) (level', same') =
      let is : x'.level ≡ x.level = sym level' ∙ level in
      let other : SameSuffixes S x.level x'.bits y.bits = subst (λ l. SameSuffixes S l x'.bits y.bits) is same' in
      (is, λ u. (λ h. (other u).1 ((same u).0 h), λ h. (same u).1 ((other u).0 h)))

  -- if each of some that are apart is like one of others, these are no fewer
  no_fewer : (ps qs : List Prefix) → Apart S ps → ((x : Prefix) → Member x ps → (y : Prefix) × Member y qs × Alike x y)
      → length ps ≤ length qs
  no_fewer [] qs apart like = omega arith
  no_fewer (x ∷ xs) qs (own, apart) like =
      let (y, in_qs, alike) = like x (inl refl) in
      let (rs, i) = taken y qs in_qs in
      let longer = one_longer y rs qs i in
      let like' : (x' : Prefix) → Member x' xs → (y' : Prefix) × Member y' rs × Alike x' y' =
      λ x' m.
      let (y', in_qs', alike') = like x' (inr m) in elim (is_new_or_old y y' rs qs i in_qs') [
        | inr later ↦ (y', later, alike')
        | inl is ↦ let both = alike_both x x' y alike (subst (Alike x') is alike') in absurd (own x' m both.0 both.1)
      ] in
      let rest = no_fewer xs rs apart like' in
      omega (arith, longer, rest)

  at_least : (w : ℕ) (ps qs : List Prefix) → AreNodes w S ps → AreNodes w S qs → length ps ≤ length qs
  at_least w ps qs a b =
      let like : (x : Prefix) → Member x ps → (y : Prefix) × Member y qs × Alike x y =
      λ x m.
      let (early, short, depends) = a.each x m in
      let (q, in_qs, same) = b.all x.level x.bits early short depends in (prefix x.level q, in_qs, (refl, same)) in
      no_fewer ps qs a.apart like

  pub one_count : (w n m : ℕ) → HasNodes w S n → HasNodes w S m → n ≡ m
  one_count w n m a b =
      let up = at_least w a.prefixes b.prefixes a.nodes b.nodes in
      let down = at_least w b.prefixes a.prefixes b.nodes a.nodes in
      let count = a.counted in
      let count' = b.counted in
      omega (arith, up, down, count, count')
