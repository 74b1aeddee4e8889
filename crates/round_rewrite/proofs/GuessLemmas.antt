-- The guesses and the checks of the first procedure, both ways.
use Rattle.std.proofs.Common.{◌≡◌, ℕ, zero, suc, ◌+◌, ◌*◌, ◌<◌, ◌≤◌, Bool, true, List, [], ◌∷◌, ◌++◌}
use Rattle.std.proofs.Common.{length, map, refl, sym, ◌∙◌, ap, subst, ap₂, arith, append_assoc, length-append}
use Rattle.std.proofs.lemmas.List.{length-set, nil_from_length, get_or-set_same, set-set, set-get_or}
use Rattle.language.specs.Tree.{var, RightSide, any, value, Simple, assign, Mark, done, one, choose, loop}
use Rattle.language.specs.Value.{Place, global, local, bit, with_bit, AreValues, written_globals, written_locals}
use Rattle.language.specs.Rest.{Label, Code}
use Rattle.language.specs.Step.{Frame, frame, waiting, State, state}
use Rattle.round_rewrite.specs.Table.{numbers, no_mark, each, guess}
use Rattle.round_rewrite.specs.Places.{places, copy_at, save_at, all_globals, bad_at}
use Rattle.round_rewrite.proofs.LayoutLemmas.{Long, row, with_row, row_bit, row_with, with_right, bit_right, length-flat, flat, lay, Shape}
use Rattle.round_rewrite.proofs.LayoutLemmas.{long_row, long-with_row}
use Rattle.round_rewrite.proofs.Plain.{World, PlainSteps, PlainAfter}
use Rattle.round_rewrite.proofs.RunLemmas.{Leads}

-- the first procedure is over, and `bad` is 1
abbrev pub Bad : ℕ → ℕ → State → Type 0
Bad n last (state g (frame c l done ∷ [])) = (c ≡ 0) × (bit g (bad_at n last) ≡ true)
Bad n last _ = ⊥

pub bad_single : (n last : ℕ) (g : List Bool) (f f' : Frame) (fs : List Frame) → Bad n last (state g (f ∷ f' ∷ fs)) → ⊥
bad_single n last g (waiting c l x t) f' fs h = h
bad_single n last g (frame c l done) f' fs h = h
bad_single n last g (frame c l (one m s t)) f' fs h = h
bad_single n last g (frame c l (choose m r a b t)) f' fs h = h
bad_single n last g (frame c l (loop m r a t)) f' fs h = h

-- the first procedure has a first step if it is not over
pub unstep_main : (w : World) (n last N : ℕ) (g l : List Bool) (m : Mark Label) (s : Simple Place ℕ Label) (t : Code)
    → PlainAfter w N (state g (frame 0 l (one m s t) ∷ [])) (Bad n last)
    → (M : ℕ) × (N ≡ suc M) × PlainSteps w (state g (frame 0 l (one m s t) ∷ [])) (λ u. PlainAfter w M u (Bad n last))
unstep_main w n last zero g l m s t h = absurd h
unstep_main w n last (suc M) g l m s t h = (M, refl, h)

-- values written into a row, from number j on
abbrev fill : ℕ → List Bool → List Bool → List Bool
fill j [] r = r
fill j (v ∷ vs) r = fill (suc j) vs (with_bit r j v)

fill_all : (a vs b : List Bool) → length b ≡ length vs → fill (length a) vs (a ++ b) ≡ a ++ vs
fill_all a [] [] e = refl
fill_all a (v ∷ vs) (x ∷ b) e =
    let one_more : length (a ++ v ∷ []) ≡ suc (length a) = length-append a (v ∷ []) ∙ omega arith in
    let here : with_bit (a ++ x ∷ b) (length a) v ≡ (a ++ v ∷ []) ++ b =
    with_right a (x ∷ b) (length a) 0 v (omega arith) ∙ sym (append_assoc a (v ∷ []) b) in
    (λ i. fill (sym one_more i) vs (here i)) ∙ (fill_all (a ++ v ∷ []) vs b (omega arith) ∙ append_assoc a (v ∷ []) vs)
fill_all a _ _ e = absurd (omega arith)

pub fill_row : (vs r : List Bool) → length r ≡ length vs → fill 0 vs r ≡ vs
fill_row vs r e = fill_all [] vs r e

module _ (n last : ℕ) where
  copy_writes : (C : List (List Bool)) (X : List Bool) (k j m : ℕ) (vs : List Bool) → Long n C → k < length C → j + m ≤ n
      → length vs ≡ m
      → written_globals (map (copy_at n k) (map global (numbers j m))) vs (flat C ++ X) ≡ flat (with_row C k (fill j vs (row C k))) ++ X
  copy_writes C X k j zero [] long h within e = ap (λ z. flat z ++ X) (sym (set-get_or C k []))
  copy_writes C X k j (suc m) (v ∷ vs) long h within e =
      let D : List (List Bool) = with_row C k (with_bit (row C k) j v) in
      let el : length (with_bit (row C k) j v) ≡ n = length-set (row C k) j v ∙ long_row n C k long h in
      let same : row D k ≡ with_bit (row C k) j v = get_or-set_same C k (with_bit (row C k) j v) [] h in
      ap (written_globals (map (copy_at n k) (map global (numbers (suc j) m))) vs) (row_with n C X k j v long h (omega arith))
      ∙ (copy_writes D X k (suc j) m vs (long-with_row n C k (with_bit (row C k) j v) long el)
      (let z : length D ≡ length C = length-set C k (with_bit (row C k) j v) in omega arith) (omega arith) (omega arith)
      ∙ ap (λ z. flat z ++ X)
      (ap (λ z. with_row D k (fill (suc j) vs z)) same
      ∙ set-set C k (with_bit (row C k) j v) (fill (suc j) vs (with_bit (row C k) j v))))
  copy_writes C X k j _ _ long h within e = absurd (omega arith)

  module _ (A X : List Bool) (k : ℕ) (ea : length A ≡ suc last * n) where
    save_writes : (S : List (List Bool)) (j m : ℕ) (vs : List Bool) → Long n S
        → k < length S → j + m ≤ n → length vs ≡ m
        → written_globals (map (save_at n last (suc k)) (map global (numbers j m))) vs (A ++ (flat S ++ X))
        ≡ A ++ (flat (with_row S k (fill j vs (row S k))) ++ X)
    save_writes S j zero [] long h within e =
        ap (λ z. A ++ (flat z ++ X)) (sym (set-get_or S k []))
    save_writes S j (suc m) (v ∷ vs) long h within e =
        let D : List (List Bool) = with_row S k (with_bit (row S k) j v) in
        let el : length (with_bit (row S k) j v) ≡ n = length-set (row S k) j v ∙ long_row n S k long h in
        let same : row D k ≡ with_bit (row S k) j v = get_or-set_same S k (with_bit (row S k) j v) [] h in
        ap (written_globals (map (save_at n last (suc k)) (map global (numbers (suc j) m))) vs)
        (with_right A (flat S ++ X) (suc last * n + (k * n + j)) (k * n + j) v (ap (λ z. z + (k * n + j)) (sym ea))
        ∙ ap (λ z. A ++ z) (row_with n S X k j v long h (omega arith)))
        ∙ (save_writes D (suc j) m vs (long-with_row n S k (with_bit (row S k) j v) long el)
        (let z : length D ≡ length S = length-set S k (with_bit (row S k) j v) in omega arith) (omega arith) (omega arith)
        ∙ ap (λ z. A ++ (flat z ++ X))
        (ap (λ z. with_row D k (fill (suc j) vs z)) same
        ∙ set-set S k (with_bit (row S k) j v) (fill (suc j) vs (with_bit (row S k) j v))))
    save_writes S j _ _ long h within e = absurd (omega arith)

  any_values : (X L : List Bool) (m j : ℕ) (vs : List Bool) → length vs ≡ m → AreValues X L (each any (map global (numbers j m))) vs
  any_values X L zero j [] e = tt
  any_values X L (suc m) j (v ∷ vs) e = (tt, any_values X L m (suc j) vs (omega arith))
  any_values X L _ j _ e = absurd (omega arith)

  any_length : (X L : List Bool) (m j : ℕ) (vs : List Bool) → AreValues X L (each any (map global (numbers j m))) vs → length vs ≡ m
  any_length X L zero j [] a = refl
  any_length X L (suc m) j (v ∷ vs) a = ap suc (any_length X L m (suc j) vs a.1)
  any_length X L _ j _ a = absurd a

  abbrev reads : ℕ → List Place → List (RightSide Place)
  reads k xs = map (λ y. value (var (copy_at n k y))) xs

  module _ (C : List (List Bool)) (X L : List Bool) (k : ℕ) (long : Long n C) (h : k < length C) where
    -- the values of a row's copies, from number j on
    row_values : (j m : ℕ) (a b : List Bool) → row C k ≡ a ++ b
        → length a ≡ j → length b ≡ m → j + m ≤ n → AreValues (flat C ++ X) L (reads k (map global (numbers j m))) b
    row_values j zero a [] er ea eb within = tt
    row_values j (suc m) a (v ∷ b) er ea eb within = (
      sym (row_bit n C X k j long h (omega arith) ∙ (ap (λ z. bit z j) er ∙ bit_right a (v ∷ b) j 0 (omega arith))),
      row_values (suc j) m (a ++ v ∷ []) b (er
          ∙ sym (append_assoc a (v ∷ []) b))
          (let z : length (a ++ v ∷ []) ≡ length a + 1 = length-append a (v ∷ []) in omega arith)
          (omega arith) (omega arith),
    )
    row_values j _ a _ er ea eb within = absurd (omega arith)

    row_values_back : (j m : ℕ) (a b vs : List Bool) → row C k ≡ a ++ b
        → length a ≡ j → length b ≡ m → j + m ≤ n → AreValues (flat C ++ X) L (reads k (map global (numbers j m))) vs
        → vs ≡ b
    row_values_back j zero a [] [] er ea eb within h' = refl
    row_values_back j zero a (v ∷ b) vs er ea eb within h' = absurd (omega arith)
    row_values_back j (suc m) a [] vs er ea eb within h' = absurd (omega arith)
    row_values_back j (suc m) a (v ∷ b) (x ∷ vs) er ea eb within h' =
        ap₂ (λ y z. y ∷ z)
        (h'.0 ∙ (row_bit n C X k j long h (omega arith) ∙ (ap (λ z. bit z j) er ∙ bit_right a (v ∷ b) j 0 (omega arith))))
        (row_values_back (suc j) m (a ++ v ∷ []) b vs (er ∙ sym (append_assoc a (v ∷ []) b))
        (let z : length (a ++ v ∷ []) ≡ length a + 1 = length-append a (v ∷ []) in omega arith) (omega arith) (omega arith) h'.1)
    row_values_back j _ a _ _ er ea eb within h' = absurd h'

no_locals : (xs : List Place) (vs : List Bool) → written_locals xs vs [] ≡ []
no_locals (global i ∷ xs) (v ∷ vs) = no_locals xs vs
no_locals (local i ∷ xs) (v ∷ vs) = no_locals xs vs
no_locals _ _ = refl

abbrev pub main_at : List Bool → Code → State
main_at g t = state g (frame 0 [] t ∷ [])

-- the guess v for round k + 1 is written and saved
abbrev pub guessed : List (List Bool) → List (List Bool) → ℕ → List Bool → List Bool → List Bool
guessed C S k v bits = lay (with_row C (suc k) v) (with_row S k v) bits

not_guessed : (n last : ℕ) (C S : List (List Bool)) (bits : List Bool) (k : ℕ) (v : List Bool) → n ≡ 0 → Shape n last C S
    → k < last
    → length v ≡ n → guessed C S k v bits ≡ lay C S bits
not_guessed n last C S bits k v e shape lt ev =
    let c : row C (suc k) ≡ v =
    nil_from_length (row C (suc k)) (long_row n C (suc k) shape.copies
    (let z : length C ≡ suc last = shape.rounds in omega arith) ∙ e) ∙ sym (nil_from_length v (ev ∙ e)) in
    let s : row S k ≡ v =
    nil_from_length (row S k) (long_row n S k shape.saved
    (let z : length S ≡ last = shape.guesses in omega arith) ∙ e) ∙ sym (nil_from_length v (ev ∙ e)) in
    ap₂ (λ x y. lay x y bits)
    (ap (with_row C (suc k)) (sym c) ∙ set-get_or C (suc k) [])
    (ap (with_row S k) (sym s) ∙ set-get_or S k [])

module _ (n last : ℕ) (C S : List (List Bool)) (bits : List Bool) (k : ℕ) (shape : Shape n last C S) (lt : k < last) where
  room : suc k < length C
  room = let z : length C ≡ suc last = shape.rounds in omega arith

  room' : k < length S
  room' = let z : length S ≡ last = shape.guesses in omega arith

  first_write : (v : List Bool) → length v ≡ n
      → written_globals (map (copy_at n (suc k)) (map global (numbers 0 n))) v (lay C S bits) ≡ lay (with_row C (suc k) v) S bits
  first_write v ev =
      copy_writes n last C (flat S ++ bits) (suc k) 0 n v shape.copies room (omega arith) ev
      ∙ ap (λ z. lay (with_row C (suc k) z) S bits)
      (fill_row v (row C (suc k)) (long_row n C (suc k) shape.copies room ∙ sym ev))

  second_write : (v : List Bool) → length v ≡ n
      → written_globals (map (save_at n last (suc k)) (map global (numbers 0 n))) v (lay (with_row C (suc k) v) S bits)
      ≡ guessed C S k v bits
  second_write v ev =
      let D : List (List Bool) = with_row C (suc k) v in
      let ed : length (flat D) ≡ suc last * n =
      length-flat n D (long-with_row n C (suc k) v shape.copies ev) ∙ ap (λ z. z * n) (length-set C (suc k) v ∙ shape.rounds) in
      save_writes n last (flat D) bits k ed S 0 n v shape.saved room' (omega arith) ev
      ∙ ap (λ z. lay D (with_row S k z) bits)
      (fill_row v (row S k) (long_row n S k shape.saved room' ∙ sym ev))

  saved_values : (v L : List Bool) → length v ≡ n
      → AreValues (lay (with_row C (suc k) v) S bits) L (map (λ y. value (var (copy_at n (suc k) y))) (map global (numbers 0 n))) v
  saved_values v L ev =
      row_values n last (with_row C (suc k) v) (flat S ++ bits) L (suc k) (long-with_row n C (suc k) v shape.copies ev)
      (let z : length (with_row C (suc k) v) ≡ length C = length-set C (suc k) v in let r : suc k < length C = room in omega arith) 0
      n [] v
      (get_or-set_same C (suc k) v [] room) refl ev (omega arith)

  saved_back : (v L us : List Bool) → length v ≡ n
      → AreValues (lay (with_row C (suc k) v) S bits) L (map (λ y. value (var (copy_at n (suc k) y))) (map global (numbers 0 n))) us
      → us ≡ v
  saved_back v L us ev a =
      row_values_back n last (with_row C (suc k) v) (flat S ++ bits) L (suc k) (long-with_row n C (suc k) v shape.copies ev)
      (let z : length (with_row C (suc k) v) ≡ length C = length-set C (suc k) v in let r : suc k < length C = room in omega arith) 0
      n [] v us
      (get_or-set_same C (suc k) v [] room) refl ev (omega arith) a

module _ (w : World) (last : ℕ) (t : Code) where
  -- one guess
  pub guess_leads : (n : ℕ) (C S : List (List Bool)) (bits : List Bool) (k : ℕ) → Shape n last C S → k < last
      → (Q : State → Type 0) (v : List Bool) → length v ≡ n → Leads w (main_at (guessed C S k v bits) t) Q
      → Leads w (main_at (lay C S bits) (guess (places n last 0) last (all_globals n) (suc k) t)) Q
  guess_leads zero C S bits k shape lt Q v ev h =
      subst (λ z. Leads w (main_at z t) Q) (not_guessed zero last C S bits k v refl shape lt ev) h
  guess_leads (suc n) C S bits k shape lt Q v ev (m, h) =
      let xs : List Place = map global (numbers 0 (suc n)) in
      let to : List Place = map (copy_at (suc n) (suc k)) xs in
      let to' : List Place = map (save_at (suc n) last (suc k)) xs in
      let rest : Code = one no_mark (assign to' (map (λ y. value (var (copy_at (suc n) (suc k) y))) xs)) t in
      let X1 : List Bool = lay (with_row C (suc k) v) S bits in
      let h1 : PlainAfter w m (state (written_globals to' v X1) (frame 0 (written_locals to' v []) t ∷ [])) Q =
      subst (λ z. PlainAfter w m (state (written_globals to' v X1) (frame 0 z t ∷ [])) Q) (sym (no_locals to' v))
      (subst (λ z. PlainAfter w m (main_at z t) Q) (sym (second_write (suc n) last C S bits k shape lt v ev)) h) in
      let h2 : PlainAfter w (suc m) (main_at X1 rest) Q = (v, saved_values (suc n) last C S bits k shape lt v [] ev, h1) in (
        suc (suc m),
        (
          v,
          any_values (suc n) last (lay C S bits) [] (suc n) 0 v ev,
          subst (λ z. PlainAfter w (suc m) (state (written_globals to v (lay C S bits)) (frame 0 z rest ∷ [])) Q) (sym (no_locals to v))
              (subst (λ z. PlainAfter w (suc m) (main_at z rest) Q) (sym (first_write (suc n) last C S bits k shape lt v ev)) h2),
        ),
      )

  pub guess_back : (n : ℕ) (C S : List (List Bool)) (bits : List Bool) (k : ℕ) → Shape n last C S → k < last
      → (N : ℕ) → PlainAfter w N (main_at (lay C S bits) (guess (places n last 0) last (all_globals n) (suc k) t)) (Bad n last)
      → (v : List Bool) × (length v ≡ n) × (M : ℕ) × (M ≤ N) × PlainAfter w M (main_at (guessed C S k v bits) t) (Bad n last)
  guess_back zero C S bits k shape lt N h = (
    [],
    refl,
    N,
    omega arith,
    subst (λ z. PlainAfter w N (main_at z t) (Bad zero last)) (sym (not_guessed zero last C S bits k [] refl shape lt refl)) h,
  )
  guess_back (suc n) C S bits k shape lt N h =
      let xs : List Place = map global (numbers 0 (suc n)) in
      let to : List Place = map (copy_at (suc n) (suc k)) xs in
      let to' : List Place = map (save_at (suc n) last (suc k)) xs in
      let R : List (RightSide Place) = map (λ y. value (var (copy_at (suc n) (suc k) y))) xs in
      let rest : Code = one no_mark (assign to' R) t in
      let (M1, e1, (v, a1, h1)) = unstep_main w (suc n) last N (lay C S bits) [] no_mark (assign to (each any xs)) rest h in
      let ev : length v ≡ suc n = any_length (suc n) last (lay C S bits) [] (suc n) 0 v a1 in
      let X1 : List Bool = lay (with_row C (suc k) v) S bits in
      let h2 : PlainAfter w M1 (main_at X1 rest) (Bad (suc n) last) =
      subst (λ z. PlainAfter w M1 (main_at z rest) (Bad (suc n) last)) (first_write (suc n) last C S bits k shape lt v ev)
      (subst (λ z. PlainAfter w M1 (state (written_globals to v (lay C S bits)) (frame 0 z rest ∷ [])) (Bad (suc n) last))
      (no_locals to v) h1) in
      let (M2, e2, (us, a2, h3)) = unstep_main w (suc n) last M1 X1 [] no_mark (assign to' R) t h2 in
      let eu : us ≡ v = saved_back (suc n) last C S bits k shape lt v [] us ev a2 in
      let h4 : PlainAfter w M2 (state (written_globals to' v X1) (frame 0 (written_locals to' v []) t ∷ [])) (Bad (suc n) last) =
      subst
      (λ z. PlainAfter w M2 (state (written_globals to' z X1) (frame 0 (written_locals to' z []) t ∷ [])) (Bad (suc n) last)) eu h3 in (
        v,
        ev,
        M2,
        omega arith,
        subst (λ z. PlainAfter w M2 (main_at z t) (Bad (suc n) last)) (second_write (suc n) last C S bits k shape lt v ev)
            (subst (λ z. PlainAfter w M2 (state (written_globals to' v X1) (frame 0 z t ∷ [])) (Bad (suc n) last)) (no_locals to' v) h4),
      )
