-- The first procedure by names, resolved, is the first procedure by places.
use Rattle.std.proofs.Common.{◌≡◌, ℕ, zero, suc, ◌+◌, ◌<◌, ◌≤◌, Bool, true, false, cond, List, [], ◌∷◌}
use Rattle.std.proofs.Common.{◌++◌, length, map, refl, sym, ◌∙◌, ap, subst, ap₂, arith, append_assoc, length-append}
use Rattle.language.specs.Tree.{Name, const, var, two, equal, any, value, assign, assume, call, Block, done, one, ThreadLine, Tree}
use Rattle.language.specs.Value.{Place, global}
use Rattle.language.specs.Rest.{Code, same_text}
use Rattle.language.specs.Resolve.{number_of, is_declared, Scope, place_of, resolve_side, resolve_block}
use Rattle.round_rewrite.specs.Table.{Naming, numbers, no_mark, each, reset_targets, guess, guesses, starts, check, checks, main}
use Rattle.round_rewrite.specs.Places.{places, copy_at, save_at, all_globals}
use Rattle.round_rewrite.specs.Names.{copy_name, save_name, by_names}
use Rattle.checked.specs.Rewritable.{AreFree, AreDistinct, EachLine}
use Rattle.round_rewrite.proofs.SpellingLemmas.{same_text_refl, same_text_false}
use Rattle.round_rewrite.proofs.NumberingLemmas.{number_right}
use Rattle.round_rewrite.proofs.PlaceLemmas.{Vocabulary, wider, copy_place, save_place}
use Rattle.round_rewrite.proofs.ResolutionLemmas.{reset_resolved, zeros_resolved}
use Rattle.resolved.specs.Limits.{most_places}
use Rattle.round_rewrite.specs.Limits.{most_rounds}

pub same_text_other : (a b : List ℕ) → same_text a b ≡ false → same_text b a ≡ false
same_text_other a b h =
    same_text_false b a (λ e. let bad : true ≡ false = sym (same_text_refl a) ∙ (ap (same_text a) (sym e) ∙ h) in cc)

none_cons : (c r : Bool) → cond c true r ≡ false → (c ≡ false) × (r ≡ false)
none_cons true r h = cc
none_cons false r h = (refl, h)

not_later : (t : List ℕ) (pre : List Name) (x : Name) (rest : List Name) → is_declared t (pre ++ x ∷ rest) ≡ false
    → same_text t x.text ≡ false
not_later t [] x rest h = (none_cons (same_text t x.text) (is_declared t rest) h).0
not_later t (p ∷ pre) x rest h = not_later t pre x rest (none_cons (same_text t p.text) (is_declared t (pre ++ x ∷ rest)) h).1

-- a name is not one of those before it
not_before : (pre : List Name) (x : Name) (rest : List Name) → AreDistinct (pre ++ x ∷ rest) → is_declared x.text pre ≡ false
not_before [] x rest h = refl
not_before (p ∷ pre) x rest h =
    ap (λ c. cond c true (is_declared x.text pre)) (same_text_other p.text x.text (not_later p.text pre x rest h.0))
    ∙ not_before pre x rest h.1

module _ (t : Tree) (gs ps : List Name) (last : ℕ) (gs_free : AreFree gs) (distinct : AreDistinct gs)
    (few : 0 ≤ most_places) (small : last < most_rounds) (ps' : List Name)
    (called : (q : Name) → is_declared q.text ps ≡ true → number_of q.text ps' ≡ suc (number_of q.text ps)) where
  abbrev n : ℕ
  n = length gs

  -- the first procedure has no names of its own
  abbrev vocabulary : Vocabulary
  vocabulary = record {
    gs = gs;
    own = [];
    ps = ps;
    d = 0;
    last = last;
    gs_free = gs_free;
    own_free = tt;
    few = few;
    small = small;
  }

  abbrev sm' : Scope
  sm' = wider vocabulary ps'

  abbrev N : Naming Name Name Name Name
  N = by_names []

  abbrev P : Naming Place Place ℕ ℕ
  P = places n last 0

  -- the names' copies and guesses are at those of the places
  abbrev Matches : List Name → List Place → Type 0
  Matches [] [] = Unit {0}
  Matches [] (y ∷ ys) = ⊥
  Matches (x ∷ xs) [] = ⊥
  Matches (x ∷ xs) (y ∷ ys) =
      ((k : ℕ) → k ≤ last → place_of sm' (copy_name k x) ≡ copy_at n k y)
      × ((k : ℕ) → k < last → place_of sm' (save_name (suc k) x) ≡ save_at n last (suc k) y)
      × Matches xs ys

  matches_from : (pre suf : List Name) → gs ≡ pre ++ suf → (j : ℕ) → j ≡ length pre
      → Matches suf (map global (numbers j (length suf)))
  matches_from pre [] e j ej = tt
  matches_from pre (x ∷ suf) e j ej =
      let before : is_declared x.text pre ≡ false = not_before pre x suf (subst AreDistinct e distinct) in
      let r = number_right x.text pre (x ∷ suf) before in
      let there : is_declared x.text gs ≡ true = ap (is_declared x.text) e
      ∙ (r.1 ∙ ap (λ c. cond c true (is_declared x.text suf)) (same_text_refl x.text)) in
      let at : number_of x.text gs ≡ j =
      ap (number_of x.text) e ∙ (r.0
      ∙ (ap (λ c. length pre + cond c 0 (suc (number_of x.text suf))) (same_text_refl x.text)
      ∙ (let z : length pre + 0 ≡ j = omega arith in z))) in (
        (λ k le. copy_place vocabulary ps' x k le refl there ∙ ap (λ i. copy_at n k (global i)) at),
        (λ k lt. save_place vocabulary ps' x k lt refl there
            ∙ ap (λ i. save_at n last (suc k) (global i)) at),
        matches_from (pre ++ x ∷ []) suf (e
            ∙ sym (append_assoc pre (x ∷ []) suf)) (suc j)
            (let z : length (pre ++ x ∷ []) ≡ length pre + 1 = length-append pre (x ∷ []) in omega arith),
      )

  copies_match : (xs : List Name) (ys : List Place) → Matches xs ys → (k : ℕ) → k ≤ last
      → map (place_of sm') (map (copy_name k) xs) ≡ map (copy_at n k) ys
  copies_match [] [] m k le = refl
  copies_match (x ∷ xs) (y ∷ ys) m k le = ap₂ (λ a b. a ∷ b) (m.0 k le) (copies_match xs ys m.2 k le)
  copies_match _ _ m k le = absurd m

  saves_match : (xs : List Name) (ys : List Place) → Matches xs ys → (k : ℕ) → k < last
      → map (place_of sm') (map (save_name (suc k)) xs) ≡ map (save_at n last (suc k)) ys
  saves_match [] [] m k le = refl
  saves_match (x ∷ xs) (y ∷ ys) m k le = ap₂ (λ a b. a ∷ b) (m.1 k le) (saves_match xs ys m.2 k le)
  saves_match _ _ m k le = absurd m

  reads_match : (xs : List Name) (ys : List Place) → Matches xs ys → (k : ℕ) → k ≤ last
      → map (resolve_side sm') (map (λ y. value (var (copy_name k y))) xs) ≡ map (λ y. value (var (copy_at n k y))) ys
  reads_match [] [] m k le = refl
  reads_match (x ∷ xs) (y ∷ ys) m k le = ap₂ (λ a b. value (var a) ∷ b) (m.0 k le) (reads_match xs ys m.2 k le)
  reads_match _ _ m k le = absurd m

  any_match : (xs : List Name) (ys : List Place) → Matches xs ys → map (resolve_side sm') (each any xs) ≡ each any ys
  any_match [] [] m = refl
  any_match (x ∷ xs) (y ∷ ys) m = ap (λ b. any ∷ b) (any_match xs ys m.2)
  any_match _ _ m = absurd m

  guess_match : (xs : List Name) (ys : List Place) → Matches xs ys → (k : ℕ) → k < last → (b : Block Name Name Name) (b' : Code)
      → resolve_block sm' b ≡ b' → resolve_block sm' (guess N last xs (suc k) b) ≡ guess P last ys (suc k) b'
  guess_match [] [] m k lt b b' e = e
  guess_match (x ∷ xs) (y ∷ ys) m k lt b b' e =
      λ i. one no_mark (assign (copies_match (x ∷ xs) (y ∷ ys) m (suc k) (omega arith) i) (any_match (x ∷ xs) (y ∷ ys) m i))
      (one no_mark (assign (saves_match (x ∷ xs) (y ∷ ys) m k lt i) (reads_match (x ∷ xs) (y ∷ ys) m (suc k) (omega arith) i)) (e i))
  guess_match _ _ m k lt b b' e = absurd m

  guesses_match : (xs : List Name) (ys : List Place) → Matches xs ys → (k m : ℕ) → k + m ≤ last
      → (b : Block Name Name Name) (b' : Code)
      → resolve_block sm' b ≡ b'
      → resolve_block sm' (guesses N last xs (numbers (suc k) m) b) ≡ guesses P last ys (numbers (suc k) m) b'
  guesses_match xs ys ms k zero le b b' e = e
  guesses_match xs ys ms k (suc m) le b b' e =
      guess_match xs ys ms k (omega arith) (guesses N last xs (numbers (suc (suc k)) m) b) (guesses P last ys (numbers (suc (suc k)) m) b')
      (guesses_match xs ys ms (suc k) m (omega arith) b b' e)

  check_match : (xs : List Name) (ys : List Place) → Matches xs ys → (k : ℕ) → k < last → (b : Block Name Name Name) (b' : Code)
      → resolve_block sm' b ≡ b' → resolve_block sm' (check N last xs k b) ≡ check P last ys k b'
  check_match [] [] m k lt b b' e = e
  check_match (x ∷ xs) (y ∷ ys) m k lt b b' e =
      λ i. one no_mark (assume (value (two equal (var (m.1 k lt i)) (var (m.0 k (omega arith) i))))) (check_match xs ys m.2 k lt b b' e i)
  check_match _ _ m k lt b b' e = absurd m

  checks_match : (xs : List Name) (ys : List Place) → Matches xs ys → (k m : ℕ) → k + m ≤ last
      → (b : Block Name Name Name) (b' : Code)
      → resolve_block sm' b ≡ b' → resolve_block sm' (checks N last xs (numbers k m) b) ≡ checks P last ys (numbers k m) b'
  checks_match xs ys ms k zero le b b' e = e
  checks_match xs ys ms k (suc m) le b b' e =
      check_match xs ys ms k (omega arith) (checks N last xs (numbers (suc k) m) b) (checks P last ys (numbers (suc k) m) b')
      (checks_match xs ys ms (suc k) m (omega arith) b b' e)

  starts_match : (lines : List ThreadLine) → EachLine ps lines → (b : Block Name Name Name) (b' : Code) → resolve_block sm' b ≡ b'
      → resolve_block sm' (starts N last (map (λ (line : ThreadLine). line.name) lines) b)
      ≡ starts P last (map (λ (line : ThreadLine). number_of line.name.text ps) lines) b'
  starts_match [] h b b' e = e
  starts_match (line ∷ lines) h b b' e =
      λ i.
      one no_mark
      (assign (reset_resolved t vocabulary ps' called i)
      ((zeros_resolved sm' (reset_targets N last) ∙ ap (each (value (const false))) (reset_resolved t vocabulary ps' called)) i))
      (one no_mark (call (called line.name h.0 i) []) (starts_match lines h.1 b b' e i))

  pub main_resolved : (lines : List ThreadLine) → EachLine ps lines
      → resolve_block sm' (main N last gs (map (λ (line : ThreadLine). line.name) lines))
      ≡ main P last (all_globals n) (map (λ (line : ThreadLine). number_of line.name.text ps) lines)
  main_resolved lines h =
      let ms : Matches gs (all_globals n) = matches_from [] gs refl 0 refl in
      guesses_match gs (all_globals n) ms 0 last (omega arith)
      (starts N last (map (λ (line : ThreadLine). line.name) lines) (checks N last gs (numbers 0 last) done))
      (starts P last (map (λ (line : ThreadLine). number_of line.name.text ps) lines)
      (checks P last (all_globals n) (numbers 0 last) done))
      (starts_match lines h (checks N last gs (numbers 0 last) done) (checks P last (all_globals n) (numbers 0 last) done)
      (checks_match gs (all_globals n) ms 0 last (omega arith) done done refl))
