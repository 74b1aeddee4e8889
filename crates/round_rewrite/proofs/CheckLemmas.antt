-- All guesses, and the checks that each round ended with the guess for the round after it, both ways.
use Rattle.std.proofs.Common.{◌≡◌, ℕ, zero, suc, ◌+◌, ◌*◌, ◌<◌, ◌≤◌, Bool, true, false, cond, not, List, [], ◌∷◌, ◌++◌, length, map, refl}
use Rattle.std.proofs.Common.{sym, ◌∙◌, ap, subst, ap₂, arith, append_assoc, length-append, inl, inr}
use Rattle.std.proofs.lemmas.Bool.{cases_eq}
use Rattle.language.specs.Tree.{var, two, equal, value, assume}
use Rattle.language.specs.Value.{global, bit}
use Rattle.language.specs.Rest.{Code}
use Rattle.language.specs.Step.{State}
use Rattle.round_rewrite.specs.Table.{numbers, no_mark, guesses, check, checks}
use Rattle.round_rewrite.specs.Places.{places, all_globals}
use Rattle.round_rewrite.proofs.LayoutLemmas.{Long, long_row, row, with_row, row_bit, with_middle, bit_right, length-flat, flat, lay, Shape}
use Rattle.round_rewrite.proofs.LayoutLemmas.{long-append}
use Rattle.round_rewrite.proofs.Plain.{World, PlainAfter}
use Rattle.round_rewrite.proofs.RunLemmas.{Leads}
use Rattle.round_rewrite.proofs.Compose.{Linked}
use Rattle.round_rewrite.proofs.GuessLemmas.{Bad, unstep_main, main_at, guessed, guess_leads, guess_back}

module _ (w : World) (n last : ℕ) (g : List Bool) (eg : length g ≡ n) (bits : List Bool) where
  -- the rows a guessed already, those of d and e still to be
  abbrev pub Open : List (List Bool) → List (List Bool) → List (List Bool) → List Bool
  Open a d e = lay (g ∷ (a ++ d)) (a ++ e) bits

  -- the rows for k guesses are written, those for m more are not yet
  pub record Fill (k m : ℕ) (a d e : List (List Bool)) : Type 0 where
    pub a_long : Long n a
    pub d_long : Long n d
    pub e_long : Long n e
    pub a_length : length a ≡ k
    pub d_length : length d ≡ m
    pub e_length : length e ≡ m
    pub all : k + m ≡ last

  fill_shape : (k m : ℕ) (a d e : List (List Bool)) → Fill k m a d e → Shape n last (g ∷ (a ++ d)) (a ++ e)
  fill_shape k m a d e f =
      let la : length a ≡ k = f.a_length in let ld : length d ≡ m = f.d_length in let le : length e ≡ m = f.e_length in
      let al : k + m ≡ last = f.all in
      let ad : length (a ++ d) ≡ length a + length d = length-append a d in
      let ae : length (a ++ e) ≡ length a + length e = length-append a e in
      record {
        copies = (eg, long-append n a d f.a_long f.d_long);
        saved = long-append n a e f.a_long f.e_long;
        rounds = omega arith;
        guesses = omega arith;
      }

  fill_next : (k m : ℕ) (a d e : List (List Bool)) (x y u : List Bool) → Fill k (suc m) a (x ∷ d) (y ∷ e) → length u ≡ n
      → Fill (suc k) m (a ++ u ∷ []) d e
  fill_next k m a d e x y u f eu =
      let la : length a ≡ k = f.a_length in let ld : suc (length d) ≡ suc m = f.d_length in
      let le : suc (length e) ≡ suc m = f.e_length in
      let al : k + suc m ≡ last = f.all in
      record {
        a_long = long-append n a (u ∷ []) f.a_long (eu, tt);
        d_long = f.d_long.1;
        e_long = f.e_long.1;
        a_length = length-append a (u ∷ []) ∙ omega arith;
        d_length = omega arith;
        e_length = omega arith;
        all = omega arith;
      }

  guessed_is : (k m : ℕ) (a d e : List (List Bool)) (x y u : List Bool) → Fill k (suc m) a (x ∷ d) (y ∷ e)
      → guessed (g ∷ (a ++ x ∷ d)) (a ++ y ∷ e) k u bits ≡ Open (a ++ u ∷ []) d e
  guessed_is k m a d e x y u f =
      let c : with_row (a ++ x ∷ d) k u ≡ (a ++ u ∷ []) ++ d =
      ap (λ j. with_row (a ++ x ∷ d) j u) (sym f.a_length) ∙ (with_middle a x u d ∙ sym (append_assoc a (u ∷ []) d)) in
      let s : with_row (a ++ y ∷ e) k u ≡ (a ++ u ∷ []) ++ e =
      ap (λ j. with_row (a ++ y ∷ e) j u) (sym f.a_length) ∙ (with_middle a y u e ∙ sym (append_assoc a (u ∷ []) e)) in
      ap₂ (λ p q. lay (g ∷ p) q bits) c s

  module _ (t : Code) where
    pub guesses_lead : (Q : State → Type 0) (m k : ℕ) (a d e u : List (List Bool)) → Fill k m a d e → Long n u → length u ≡ m
        → Leads w (main_at (lay (g ∷ (a ++ u)) (a ++ u) bits) t) Q
        → Leads w (main_at (Open a d e) (guesses (places n last 0) last (all_globals n) (numbers (suc k) m) t)) Q
    guesses_lead Q zero k a [] [] [] f lu eu h = h
    guesses_lead Q zero k a [] (x ∷ e) u f lu eu h = absurd (let z : suc (length e) ≡ zero = f.e_length in omega arith)
    guesses_lead Q zero k a (x ∷ d) e u f lu eu h = absurd (let z : suc (length d) ≡ zero = f.d_length in omega arith)
    guesses_lead Q (suc m) k a [] e u f lu eu h = absurd (let z : zero ≡ suc m = f.d_length in omega arith)
    guesses_lead Q (suc m) k a (x ∷ d) [] u f lu eu h = absurd (let z : zero ≡ suc m = f.e_length in omega arith)
    guesses_lead Q (suc m) k a (x ∷ d) (y ∷ e) (v ∷ u) f lu eu h =
        guess_leads w last (guesses (places n last 0) last (all_globals n) (numbers (suc (suc k)) m) t) n (g ∷ (a ++ x ∷ d))
        (a ++ y ∷ e) bits k
        (fill_shape k (suc m) a (x ∷ d) (y ∷ e) f) (let z : k + suc m ≡ last = f.all in omega arith) Q v lu.0
        (subst (λ z. Leads w (main_at z (guesses (places n last 0) last (all_globals n) (numbers (suc (suc k)) m) t)) Q)
        (sym (guessed_is k m a d e x y v f))
        (guesses_lead Q m (suc k) (a ++ v ∷ []) d e u (fill_next k m a d e x y v f lu.0) lu.1 (omega arith)
        (subst (λ z. Leads w (main_at (lay (g ∷ z) z bits) t) Q) (sym (append_assoc a (v ∷ []) u)) h)))
    guesses_lead Q _ k a _ _ _ f lu eu h = absurd (omega arith)

    pub guesses_back : (m k : ℕ) (a d e : List (List Bool)) → Fill k m a d e → (N : ℕ)
        → PlainAfter w N (main_at (Open a d e) (guesses (places n last 0) last (all_globals n) (numbers (suc k) m) t)) (Bad n last)
        → (u : List (List Bool)) × Long n u × (length u ≡ m) × (M : ℕ)
        × PlainAfter w M (main_at (lay (g ∷ (a ++ u)) (a ++ u) bits) t) (Bad n last)
    guesses_back zero k a [] [] f N h = ([], tt, refl, N, h)
    guesses_back zero k a [] (x ∷ e) f N h = absurd (let z : suc (length e) ≡ zero = f.e_length in omega arith)
    guesses_back zero k a (x ∷ d) e f N h = absurd (let z : suc (length d) ≡ zero = f.d_length in omega arith)
    guesses_back (suc m) k a [] e f N h = absurd (let z : zero ≡ suc m = f.d_length in omega arith)
    guesses_back (suc m) k a (x ∷ d) [] f N h = absurd (let z : zero ≡ suc m = f.e_length in omega arith)
    guesses_back (suc m) k a (x ∷ d) (y ∷ e) f N h =
        let (v, ev, M, le, h1) =
        guess_back w last (guesses (places n last 0) last (all_globals n) (numbers (suc (suc k)) m) t) n (g ∷ (a ++ x ∷ d))
        (a ++ y ∷ e) bits k
        (fill_shape k (suc m) a (x ∷ d) (y ∷ e) f) (let z : k + suc m ≡ last = f.all in omega arith) N h in
        let (u, lu, eu, M', h2) = guesses_back m (suc k) (a ++ v ∷ []) d e (fill_next k m a d e x y v f ev) M
        (subst (λ z. PlainAfter w M (main_at z (guesses (places n last 0) last (all_globals n) (numbers (suc (suc k)) m) t)) (Bad n last))
        (guessed_is k m a d e x y v f) h1) in (
          v ∷ u,
          (ev, lu),
          ap suc eu,
          M',
          subst (λ z. PlainAfter w M' (main_at (lay (g ∷ z) z bits) t) (Bad n last)) (append_assoc a (v ∷ []) u) h2,
        )

same_true : (a b : Bool) → a ≡ b → true ≡ cond a b (not b)
same_true true b e = e
same_true false b e = ap not e

true_same : (a b : Bool) → true ≡ cond a b (not b) → a ≡ b
true_same true b e = e
true_same false true e = cc
true_same false false e = refl

-- rows of one length with the same bits are the same
same_bits : (n : ℕ) (a b : List Bool) → length a ≡ n → length b ≡ n → ((i : ℕ) → i < n → bit a i ≡ bit b i) → a ≡ b
same_bits zero [] [] ea eb h = refl
same_bits (suc n) (x ∷ a) (y ∷ b) ea eb h =
    ap₂ (λ p q. p ∷ q) (h 0 (omega arith)) (same_bits n a b (omega arith) (omega arith) (λ i lt. h (suc i) (omega arith)))
same_bits _ _ _ ea eb h = absurd (omega arith)

module _ (w : World) (n last : ℕ) (C S : List (List Bool)) (bits : List Bool) (shape : Shape n last C S) where
  abbrev X : List Bool
  X = lay C S bits

  saved_bit : (k i : ℕ) → k < last → i < n → bit X (suc last * n + (k * n + i)) ≡ bit (row S k) i
  saved_bit k i lt hi =
      let el : length (flat C) ≡ length C * n = length-flat n C shape.copies in
      let er : length C * n ≡ suc last * n = ap (λ z. z * n) shape.rounds in
      bit_right (flat C) (flat S ++ bits) (suc last * n + (k * n + i)) (k * n + i) (omega arith)
      ∙ row_bit n S bits k i shape.saved (let z : length S ≡ last = shape.guesses in omega arith) hi

  copied_bit : (k i : ℕ) → k < last → i < n → bit X (k * n + i) ≡ bit (row C k) i
  copied_bit k i lt hi = row_bit n C (flat S ++ bits) k i shape.copies (let z : length C ≡ suc last = shape.rounds in omega arith) hi

  check_leads : (t : Code) (Q : State → Type 0) (k : ℕ) → k < last → row S k ≡ row C k → (m j : ℕ) → j + m ≤ n
      → Leads w (main_at X t) Q
      → Leads w (main_at X (check (places n last 0) last (map global (numbers j m)) k t)) Q
  check_leads t Q k lt e zero j within h = h
  check_leads t Q k lt e (suc m) j within h =
      let r = check_leads t Q k lt e m (suc j) (omega arith) h in (
        suc r.0,
        (
          same_true (bit X (suc last * n + (k * n + j))) (bit X (k * n + j))
              (saved_bit k j lt (omega arith) ∙ (ap (λ z. bit z j) e ∙ sym (copied_bit k j lt (omega arith)))),
          r.1,
        ),
      )

  check_back : (t : Code) (k : ℕ) → k < last → (m j : ℕ) → j + m ≤ n → (N : ℕ)
      → PlainAfter w N (main_at X (check (places n last 0) last (map global (numbers j m)) k t)) (Bad n last)
      → ((i : ℕ) → j ≤ i → i < j + m → bit (row S k) i ≡ bit (row C k) i) × (M : ℕ)
      × PlainAfter w M (main_at X t) (Bad n last)
  check_back t k lt zero j within N h = ((λ i le l. absurd (omega arith)), N, h)
  check_back t k lt (suc m) j within N h =
      let (M, e, (is, run)) =
      unstep_main w n last N X [] no_mark
      (assume (value (two equal (var (global (suc last * n + (k * n + j)))) (var (global (k * n + j))))))
      (check (places n last 0) last (map global (numbers (suc j) m)) k t) h in
      let (facts, M', run') = check_back t k lt m (suc j) (omega arith) M run in
      let here : bit (row S k) j ≡ bit (row C k) j =
      sym (saved_bit k j lt (omega arith))
      ∙ (true_same (bit X (suc last * n + (k * n + j))) (bit X (k * n + j)) is ∙ copied_bit k j lt (omega arith)) in (
        (λ i le l.
            elim (cases_eq i j) [
              | inl same ↦ subst (λ z. bit (row S k) z ≡ bit (row C k) z) (sym same) here
              | inr other ↦ facts i (omega arith) (omega arith)
            ]),
        M',
        run',
      )

  pub checks_lead : (t : Code) (Q : State → Type 0) (m k : ℕ) → k + m ≤ last → ((i : ℕ) → i < last → row S i ≡ row C i)
      → Leads w (main_at X t) Q → Leads w (main_at X (checks (places n last 0) last (all_globals n) (numbers k m) t)) Q
  checks_lead t Q zero k within e h = h
  checks_lead t Q (suc m) k within e h =
      check_leads (checks (places n last 0) last (all_globals n) (numbers (suc k) m) t) Q k (omega arith) (e k (omega arith)) n 0
      (omega arith)
      (checks_lead t Q m (suc k) (omega arith) e h)

  pub checks_back : (t : Code) (m k : ℕ) → k + m ≤ last → (N : ℕ)
      → PlainAfter w N (main_at X (checks (places n last 0) last (all_globals n) (numbers k m) t)) (Bad n last)
      → ((i : ℕ) → k ≤ i → i < k + m → row S i ≡ row C i) × (M : ℕ) × PlainAfter w M (main_at X t) (Bad n last)
  checks_back t zero k within N h = ((λ i le l. absurd (omega arith)), N, h)
  checks_back t (suc m) k within N h =
      let (facts, M, run) =
      check_back (checks (places n last 0) last (all_globals n) (numbers (suc k) m) t) k (omega arith) n 0 (omega arith) N h in
      let (more, M', run') = checks_back t m (suc k) (omega arith) M run in
      let here : row S k ≡ row C k =
      same_bits n (row S k) (row C k)
      (long_row n S k shape.saved (let z : length S ≡ last = shape.guesses in omega arith))
      (long_row n C k shape.copies (let z : length C ≡ suc last = shape.rounds in omega arith))
      (λ i lt. facts i (omega arith) (omega arith)) in (
        (λ i le l.
            elim (cases_eq i k) [
              | inl same ↦ subst (λ z. row S z ≡ row C z) (sym same) here
              | inr other ↦ more i (omega arith) (omega arith)
            ]),
        M',
        run',
      )

-- what the checks say is that the rows are linked
pub linked_rows : (S : List (List Bool)) (y : List Bool) (G : List (List Bool)) → length S ≡ length G
    → ((k : ℕ) → k < length S → row S k ≡ row (y ∷ G) k) → Linked y S G
linked_rows [] y [] e h = tt
linked_rows (x ∷ S) y (z ∷ G) e h = (h 0 (omega arith), linked_rows S z G (omega arith) (λ k lt. h (suc k) (omega arith)))
linked_rows _ y _ e h = absurd (omega arith)

pub rows_linked : (S : List (List Bool)) (y : List Bool) (G : List (List Bool)) → Linked y S G → (k : ℕ) → k < length S
    → row S k ≡ row (y ∷ G) k
rows_linked [] y [] h k lt = absurd (omega arith)
rows_linked (x ∷ S) y (z ∷ G) h zero lt = h.0
rows_linked (x ∷ S) y (z ∷ G) h (suc k) lt = rows_linked S z G h.1 k (omega arith)
rows_linked _ y _ h k lt = absurd h
