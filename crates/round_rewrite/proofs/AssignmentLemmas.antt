-- The rewritten assignment: draw, spread over the copies, write.
use Rattle.std.proofs.Common.{◌≡◌, eqb, ℕ, zero, suc, ◌+◌, ◌*◌, ◌<◌, ◌≤◌, Bool, false, not, ◌&&◌, ◌||◌, List}
use Rattle.std.proofs.Common.{[], ◌∷◌, ◌++◌, length, map, refl, sym, ◌∙◌, ap, subst, ap₂, arith, inl, inr}
use Rattle.std.proofs.lemmas.Bool.{cases_eq, eq-eqb, ne_eqb}
use Rattle.std.proofs.lemmas.List.{get_or-set_same, get_or-set_other, length-set, set-append_left, set-set}
use Rattle.std.proofs.Math.Bool.{or-false}
use Rattle.language.specs.Tree.{Expression, var, RightSide, any, value}
use Rattle.language.specs.Value.{Place, global, local, bit, with_bit, look_up, value_of, IsValue, AreValues, written_globals}
use Rattle.language.specs.Value.{written_locals}
use Rattle.round_rewrite.specs.Table.{numbers, in_round, expression_form, copy_value, targets, sides, draws, each}
use Rattle.round_rewrite.specs.Places.{places, is_global}
use Rattle.resolved.specs.Scoped.{PlaceInScope, PlacesInScope, SideInScope, SidesInScope}
use Rattle.round_rewrite.proofs.LayoutLemmas.{row, with_row, row_bit, row_with, with_own, with_right, long-with_row}
use Rattle.round_rewrite.proofs.LayoutLemmas.{bit_right}
use Rattle.round_rewrite.proofs.LayoutLemmas.{bits_of, lay, Moment, globals_at}
use Rattle.round_rewrite.proofs.Translate.{at_is, expression_is}
use Rattle.round_rewrite.specs.Limits.{most_rounds}

some_values : (g l : List Bool) (rs : List (RightSide Place)) → (vs : List Bool) × AreValues g l rs vs
some_values g l [] = ([], tt)
some_values g l (any ∷ rs) = let (vs, h) = some_values g l rs in (false ∷ vs, (tt, h))
some_values g l (value e ∷ rs) = let (vs, h) = some_values g l rs in (value_of g l e ∷ vs, (refl, h))

-- the temporaries after d of them, from number j on, are drawn
abbrev pub drawn_to : ℕ → ℕ → List Bool → List Bool → List Bool
drawn_to zero j ts tmp = tmp
drawn_to (suc d) j [] tmp = tmp
drawn_to (suc d) j (t ∷ ts) tmp = drawn_to d (suc j) ts (with_bit tmp j t)

pub length-drawn : (d j : ℕ) (ts tmp : List Bool) → length (drawn_to d j ts tmp) ≡ length tmp
length-drawn (suc d) j (t ∷ ts) tmp = length-drawn d (suc j) ts (with_bit tmp j t) ∙ length-set tmp j t
length-drawn _ j _ tmp = refl

bit-drawn : (d j : ℕ) (ts tmp : List Bool) (i : ℕ) → i < j → bit (drawn_to d j ts tmp) i ≡ bit tmp i
bit-drawn (suc d) j (t ∷ ts) tmp i h = bit-drawn d (suc j) ts (with_bit tmp j t) i (omega arith)
    ∙ get_or-set_other tmp j i t false (omega arith)
bit-drawn _ j _ tmp i h = refl

pub bit-undrawn : (d j : ℕ) (ts tmp : List Bool) (i : ℕ) → j + d ≤ i → bit (drawn_to d j ts tmp) i ≡ bit tmp i
bit-undrawn (suc d) j (t ∷ ts) tmp i h = bit-undrawn d (suc j) ts (with_bit tmp j t) i (omega arith)
    ∙ get_or-set_other tmp j i t false (omega arith)
bit-undrawn _ j _ tmp i h = refl

-- the values of the `?` with a global target
pub picks : List Place → List (RightSide Place) → List Bool → List Bool
picks [] rs vs = []
picks (x ∷ xs) [] vs = []
picks (x ∷ xs) (r ∷ rs) [] = []
picks (global i ∷ xs) (any ∷ rs) (v ∷ vs) = v ∷ picks xs rs vs
picks (global i ∷ xs) (value e ∷ rs) (v ∷ vs) = picks xs rs vs
picks (local i ∷ xs) (any ∷ rs) (v ∷ vs) = picks xs rs vs
picks (local i ∷ xs) (value e ∷ rs) (v ∷ vs) = picks xs rs vs

-- the temporaries from j on have those values
abbrev pub Picked : ℕ → List Place → List (RightSide Place) → List Bool → List Bool → Type 0
Picked j [] rs vs tmp = Unit {0}
Picked j (x ∷ xs) [] vs tmp = Unit {0}
Picked j (x ∷ xs) (r ∷ rs) [] tmp = Unit {0}
Picked j (global i ∷ xs) (any ∷ rs) (v ∷ vs) tmp = (bit tmp j ≡ v) × Picked (suc j) xs rs vs tmp
Picked j (global i ∷ xs) (value e ∷ rs) (v ∷ vs) tmp = Picked j xs rs vs tmp
Picked j (local i ∷ xs) (any ∷ rs) (v ∷ vs) tmp = Picked j xs rs vs tmp
Picked j (local i ∷ xs) (value e ∷ rs) (v ∷ vs) tmp = Picked j xs rs vs tmp

pub picked : (g l : List Bool) (j : ℕ) (xs : List Place) (rs : List (RightSide Place)) (vs tmp : List Bool) → AreValues g l rs vs
    → j + draws is_global xs rs ≤ length tmp → Picked j xs rs vs (drawn_to (draws is_global xs rs) j (picks xs rs vs) tmp)
unfolding picks
picked g l j [] rs vs tmp a h = tt
picked g l j (x ∷ xs) [] vs tmp a h = tt
picked g l j (x ∷ xs) (r ∷ rs) [] tmp a h = absurd a
picked g l j (global i ∷ xs) (any ∷ rs) (v ∷ vs) tmp a h =
    let room : j + suc (draws is_global xs rs) ≤ length tmp = h in
    let e : length (with_bit tmp j v) ≡ length tmp = length-set tmp j v in (
      bit-drawn (draws is_global xs rs) (suc j) (picks xs rs vs) (with_bit tmp j v) j (omega arith)
          ∙ get_or-set_same tmp j v false (omega arith),
      picked g l (suc j) xs rs vs (with_bit tmp j v) a.1 (omega arith),
    )
picked g l j (global i ∷ xs) (value e ∷ rs) (v ∷ vs) tmp a h = picked g l j xs rs vs tmp a.1 h
picked g l j (local i ∷ xs) (any ∷ rs) (v ∷ vs) tmp a h = picked g l j xs rs vs tmp a.1 h
picked g l j (local i ∷ xs) (value e ∷ rs) (v ∷ vs) tmp a h = picked g l j xs rs vs tmp a.1 h

pub any_are : (X L g l : List Bool) (j : ℕ) (xs : List Place) (rs : List (RightSide Place)) (vs : List Bool) → AreValues g l rs vs
    → AreValues X L (each any (numbers j (draws is_global xs rs))) (picks xs rs vs)
unfolding picks
any_are X L g l j [] rs vs a = tt
any_are X L g l j (x ∷ xs) [] vs a = tt
any_are X L g l j (x ∷ xs) (r ∷ rs) [] a = absurd a
any_are X L g l j (global i ∷ xs) (any ∷ rs) (v ∷ vs) a = (tt, any_are X L g l (suc j) xs rs vs a.1)
any_are X L g l j (global i ∷ xs) (value e ∷ rs) (v ∷ vs) a = any_are X L g l j xs rs vs a.1
any_are X L g l j (local i ∷ xs) (any ∷ rs) (v ∷ vs) a = any_are X L g l j xs rs vs a.1
any_are X L g l j (local i ∷ xs) (value e ∷ rs) (v ∷ vs) a = any_are X L g l j xs rs vs a.1

pub drawn_writes : (X l tmp : List Bool) (own d j : ℕ) (ts : List Bool) → length l ≡ own
    → (written_globals (map (λ k. local (own + k)) (numbers j d)) ts X ≡ X)
    × (written_locals (map (λ k. local (own + k)) (numbers j d)) ts (l ++ tmp) ≡ l ++ drawn_to d j ts tmp)
drawn_writes X l tmp own (suc d) j (t ∷ ts) e =
    let ih = drawn_writes X l (with_bit tmp j t) own d (suc j) ts e in (
      ih.0,
      ap (written_locals (map (λ k. local (own + k)) (numbers (suc j) d)) ts) (with_right l tmp (own + j) j t (ap (λ z. z + j) (sym e)))
          ∙ ih.1,
    )
drawn_writes X l tmp own _ j _ e = (refl, refl)

-- writes to a frame's own places leave what comes after them
pub writes_more : (n own : ℕ) (xs : List Place) (vs l more : List Bool) → PlacesInScope n own xs → length l ≡ own
    → written_locals xs vs (l ++ more) ≡ written_locals xs vs l ++ more
writes_more n own (global i ∷ xs) (v ∷ vs) l more h e = writes_more n own xs vs l more h.1 e
writes_more n own (local i ∷ xs) (v ∷ vs) l more h e =
    ap (written_locals xs vs) (set-append_left l more i v (let z : i < own = h.0 in omega arith))
    ∙ writes_more n own xs vs (with_bit l i v) more h.1 (length-set l i v ∙ e)
writes_more n own _ _ l more h e = refl

module _ {n last : ℕ} (small : last < most_rounds) (now : Moment n last) (own : ℕ) (l more tmp : List Bool)
    (el : length l ≡ own) where
  open now use {C, S, q, b, shape, within}

  abbrev X : List Bool
  X = globals_at now

  -- what the copy of global i for round k gets if it gets v
  spread : ℕ → Bool → ℕ → Bool
  spread i v k = (eqb k q && v) || (not (eqb k q) && bit (row C k) i)

  written_is : (d : Expression Place) (v : Bool) (i k : ℕ) → i < n → k ≤ last → value_of X (l ++ tmp) d ≡ v → (u : Bool)
      → IsValue X (l ++ tmp) (copy_value (places n last own) last d (global i) k) u ≡ (u ≡ spread i v k)
  unfolding spread
  written_is d v i k hi hk ed u =
      let e : value_of (lay C S (bits_of last q false b)) (l ++ tmp) (in_round (places n last own) last k) ≡ eqb k q =
      at_is small now own (l ++ tmp) k hk in
      let c : bit (lay C S (bits_of last q false b)) (k * n + i) ≡ bit (row C k) i =
      row_bit n C _ k i shape.copies (let z : length C ≡ suc last = shape.rounds in omega arith) hi in
      λ z. u ≡ ((e z && ed z) || (not (e z) && c z))

  abbrev Below : List ℕ → Type 0
  Below [] = Unit {0}
  Below (k ∷ ks) = (k ≤ last) × Below ks

  spread_are : (d : Expression Place) (v : Bool) (i : ℕ) → i < n → value_of X (l ++ tmp) d ≡ v → (ks : List ℕ) → Below ks
      → (rs : List (RightSide Place)) (ws : List Bool) → AreValues X (l ++ tmp) rs ws
      → AreValues X (l ++ tmp) (map (copy_value (places n last own) last d (global i)) ks ++ rs) (map (spread i v) ks ++ ws)
  spread_are d v i hi ed [] below rs ws a = a
  spread_are d v i hi ed (k ∷ ks) below rs ws a =
      (subst (λ T. T) (sym (written_is d v i k hi below.0 ed (spread i v k))) refl, spread_are d v i hi ed ks below.1 rs ws a)

  spread_back : (d : Expression Place) (v : Bool) (i : ℕ) → i < n → value_of X (l ++ tmp) d ≡ v → (ks : List ℕ) → Below ks
      → (rs : List (RightSide Place)) (ws : List Bool)
      → AreValues X (l ++ tmp) (map (copy_value (places n last own) last d (global i)) ks ++ rs) ws
      → (us : List Bool) × (ws ≡ map (spread i v) ks ++ us) × AreValues X (l ++ tmp) rs us
  spread_back d v i hi ed [] below rs ws a = (ws, refl, a)
  spread_back d v i hi ed (k ∷ ks) below rs [] a = absurd a
  spread_back d v i hi ed (k ∷ ks) below rs (w ∷ ws) a =
      let (us, e, h) = spread_back d v i hi ed ks below.1 rs ws a.1 in
      (us, ap₂ (λ x y. x ∷ y) (subst (λ T. T) (written_is d v i k hi below.0 ed w) a.0) e, h)

  below_all : (k m : ℕ) → k + m ≤ suc last → Below (numbers k m)
  below_all k zero h = tt
  below_all k (suc m) h = (omega arith, below_all (suc k) m (omega arith))

  all_below : Below (numbers 0 (suc last))
  all_below = below_all 0 (suc last) (omega arith)

  -- one write to a copy: only that of the round changes
  spread_one : (h : List Bool) (i : ℕ) (v : Bool) (k : ℕ) → length h ≡ n → i < n → k ≤ last
      → (k ≡ q
      → with_bit (lay (with_row C q h) S (bits_of last q false b)) (k * n + i) (spread i v k)
      ≡ lay (with_row C q (with_bit h i v)) S (bits_of last q false b))
      × ((k ≡ q → ⊥)
      → with_bit (lay (with_row C q h) S (bits_of last q false b)) (k * n + i) (spread i v k)
      ≡ lay (with_row C q h) S (bits_of last q false b))
  unfolding spread
  spread_one h i v k eh hi hk =
      let D : List (List Bool) = with_row C q h in
      let lc : length C ≡ suc last = shape.rounds in
      let ld : length D ≡ length C = length-set C q h in
      let write : (u : Bool) → with_bit (lay D S (bits_of last q false b)) (k * n + i) u ≡ lay (with_row D k (with_bit (row D k) i u)) S
      (bits_of last q false b) =
      λ u. row_with n D _ k i u (long-with_row n C q h shape.copies eh) (omega arith) hi in (
        (λ e.
            let w1 : with_row D k (with_bit (row D k) i v) ≡ with_row C q (with_bit h i v) =
            subst (λ j. with_row D j (with_bit (row D j) i v) ≡ with_row C q (with_bit h i v)) (sym e)
            (ap (λ z. with_row D q (with_bit z i v)) (get_or-set_same C q h [] (omega arith)) ∙ set-set C q h (with_bit h i v)) in
            let new : ((eqb k q && v) || (not (eqb k q) && bit (row C k) i)) ≡ v =
            ap (λ t. (t && v) || (not t && bit (row C k) i)) (ap (λ j. eqb j q) e ∙ eq-eqb q q refl) ∙ or-false v in
            ap (with_bit (lay D S (bits_of last q false b)) (k * n + i)) new
            ∙ (write v ∙ ap (λ z. lay z S (bits_of last q false b)) w1)),
        (λ ne.
            let old : ((eqb k q && v) || (not (eqb k q) && bit (row C k) i)) ≡ bit (row D k) i =
            ap (λ t. (t && v) || (not t && bit (row C k) i)) (ne_eqb k q ne)
            ∙ ap (λ z. bit z i) (sym (get_or-set_other C q k h [] ne)) in
            ap (with_bit (lay D S (bits_of last q false b)) (k * n + i)) old
            ∙ (write (bit (row D k) i) ∙ ap (λ z. lay z S (bits_of last q false b)) (with_own D k i))),
      )

  copies_of : ℕ → List ℕ → List Place
  copies_of i ks = map (λ k. global (k * n + i)) ks

  locals_skip : (i : ℕ) (v : Bool) (ks : List ℕ) (ts : List Place) (ws L : List Bool)
      → written_locals (copies_of i ks ++ ts) (map (spread i v) ks ++ ws) L ≡ written_locals ts ws L
  unfolding copies_of
  locals_skip i v [] ts ws L = refl
  locals_skip i v (k ∷ ks) ts ws L = locals_skip i v ks ts ws L

  module _ (i : ℕ) (v : Bool) (hi : i < n) (ts : List Place) (ws : List Bool) where
    spread_past : (h : List Bool) (k m : ℕ) → length h ≡ n → q < k
        → k + m ≤ suc last
        → written_globals (copies_of i (numbers k m) ++ ts) (map (spread i v) (numbers k m) ++ ws)
        (lay (with_row C q h) S (bits_of last q false b))
        ≡ written_globals ts ws (lay (with_row C q h) S (bits_of last q false b))
    unfolding copies_of
    spread_past h k zero eh past end = refl
    spread_past h k (suc m) eh past end =
        ap (written_globals (copies_of i (numbers (suc k) m) ++ ts) (map (spread i v) (numbers (suc k) m) ++ ws))
        ((spread_one h i v k eh hi (omega arith)).1 (omega arith))
        ∙ spread_past h (suc k) m eh (omega arith) (omega arith)

    spread_upto : (h : List Bool) (k m : ℕ) → length h ≡ n → k ≤ q → q < k + m
        → k + m ≤ suc last
        → written_globals (copies_of i (numbers k m) ++ ts) (map (spread i v) (numbers k m) ++ ws)
        (lay (with_row C q h) S (bits_of last q false b))
        ≡ written_globals ts ws (lay (with_row C q (with_bit h i v)) S (bits_of last q false b))
    unfolding copies_of
    spread_upto h k zero eh le lt end = absurd (omega arith)
    spread_upto h k (suc m) eh le lt end = elim (cases_eq k q) [
      | inl e ↦
          ap (written_globals (copies_of i (numbers (suc k) m) ++ ts) (map (spread i v) (numbers (suc k) m) ++ ws))
          ((spread_one h i v k eh hi (omega arith)).0 e)
          ∙ spread_past (with_bit h i v) (suc k) m (length-set h i v ∙ eh) (omega arith) (omega arith)
      | inr ne ↦
          ap (written_globals (copies_of i (numbers (suc k) m) ++ ts) (map (spread i v) (numbers (suc k) m) ++ ws))
          ((spread_one h i v k eh hi (omega arith)).1 ne)
          ∙ spread_upto h (suc k) m eh (omega arith) (omega arith) (omega arith)
    ]

  pub spread_all : List Place → List (RightSide Place) → List Bool → List Bool
  spread_all [] rs vs = []
  spread_all (x ∷ xs) [] vs = []
  spread_all (x ∷ xs) (r ∷ rs) [] = []
  spread_all (global i ∷ xs) (r ∷ rs) (v ∷ vs) = map (spread i v) (numbers 0 (suc last)) ++ spread_all xs rs vs
  spread_all (local i ∷ xs) (r ∷ rs) (v ∷ vs) = v ∷ spread_all xs rs vs

  drawn_is : (j : ℕ) → look_up X (l ++ tmp) (local (own + j)) ≡ bit tmp j
  drawn_is j = bit_right l tmp (own + j) j (ap (λ z. z + j) (sym el))

  expr_is : (e : Expression Place) → Rattle.resolved.specs.Scoped.InScope n own e
      → value_of X (l ++ tmp) (expression_form (places n last own) last e) ≡ value_of (row C q) (l ++ more) e
  expr_is e h = expression_is small now own (l ++ tmp) l tmp more refl el e h

  pub sides_are : (j : ℕ) (xs : List Place) (rs : List (RightSide Place)) (vs : List Bool) → AreValues (row C q) (l ++ more) rs vs
      → Picked j xs rs vs tmp → PlacesInScope n own xs → SidesInScope n own rs
      → AreValues X (l ++ tmp) (sides (places n last own) last j xs rs) (spread_all xs rs vs)
  unfolding spread_all
  sides_are j (x ∷ xs) (r ∷ rs) [] a p hx hr = absurd a
  sides_are j (global i ∷ xs) (any ∷ rs) (v ∷ vs) a p hx hr =
      spread_are (var (local (own + j))) v i hx.0 (drawn_is j ∙ p.0) (numbers 0 (suc last)) all_below _ _
      (sides_are (suc j) xs rs vs a.1 p.1 hx.1 hr.1)
  sides_are j (global i ∷ xs) (value e ∷ rs) (v ∷ vs) a p hx hr =
      spread_are (expression_form (places n last own) last e) v i hx.0 (expr_is e hr.0 ∙ sym a.0) (numbers 0 (suc last)) all_below _ _
      (sides_are j xs rs vs a.1 p hx.1 hr.1)
  sides_are j (local i ∷ xs) (any ∷ rs) (v ∷ vs) a p hx hr = (tt, sides_are j xs rs vs a.1 p hx.1 hr.1)
  sides_are j (local i ∷ xs) (value e ∷ rs) (v ∷ vs) a p hx hr = (a.0 ∙ sym (expr_is e hr.0), sides_are j xs rs vs a.1 p hx.1 hr.1)
  sides_are j _ _ vs a p hx hr = tt

  pub sides_back : (j : ℕ) (xs : List Place) (rs : List (RightSide Place)) (ws : List Bool) → PlacesInScope n own xs
      → SidesInScope n own rs → AreValues X (l ++ tmp) (sides (places n last own) last j xs rs) ws
      → (vs : List Bool) × AreValues (row C q) (l ++ more) rs vs × Picked j xs rs vs tmp × (ws ≡ spread_all xs rs vs)
  unfolding spread_all
  sides_back j [] rs [] hx hr a = let (vs, h) = some_values (row C q) (l ++ more) rs in (vs, h, tt, refl)
  sides_back j (x ∷ xs) [] [] hx hr a = ([], tt, tt, refl)
  sides_back j (global i ∷ xs) (any ∷ rs) ws hx hr a =
      let (us, e, h) = spread_back (var (local (own + j))) (bit tmp j) i hx.0 (drawn_is j) (numbers 0 (suc last)) all_below _ ws a in
      let (vs, hv, pv, ev) = sides_back (suc j) xs rs us hx.1 hr.1 h in
      (bit tmp j ∷ vs, (tt, hv), (refl, pv), e ∙ ap (λ z. map (spread i (bit tmp j)) (numbers 0 (suc last)) ++ z) ev)
  sides_back j (global i ∷ xs) (value e ∷ rs) ws hx hr a =
      let (us, e1, h) =
      spread_back (expression_form (places n last own) last e) (value_of (row C q) (l ++ more) e) i hx.0 (expr_is e hr.0)
      (numbers 0 (suc last)) all_below _ ws a in
      let (vs, hv, pv, ev) = sides_back j xs rs us hx.1 hr.1 h in (
        value_of (row C q) (l ++ more) e ∷ vs,
        (refl, hv),
        pv,
        e1 ∙ ap (λ z. map (spread i (value_of (row C q) (l ++ more) e)) (numbers 0 (suc last)) ++ z) ev,
      )
  sides_back j (local i ∷ xs) (any ∷ rs) (w ∷ ws) hx hr a =
      let (vs, hv, pv, ev) = sides_back j xs rs ws hx.1 hr.1 a.1 in
      (w ∷ vs, (tt, hv), pv, ap (λ z. w ∷ z) ev)
  sides_back j (local i ∷ xs) (value e ∷ rs) (w ∷ ws) hx hr a =
      let (vs, hv, pv, ev) = sides_back j xs rs ws hx.1 hr.1 a.1 in
      (w ∷ vs, (a.0 ∙ expr_is e hr.0, hv), pv, ap (λ z. w ∷ z) ev)
  sides_back j _ _ _ hx hr a = absurd a

  pub writes : (xs : List Place) (rs : List (RightSide Place)) (vs h : List Bool) → AreValues (row C q) (l ++ more) rs vs
      → PlacesInScope n own xs
      → length h ≡ n
      → written_globals (targets (places n last own) last xs rs) (spread_all xs rs vs) (lay (with_row C q h) S (bits_of last q false b))
      ≡ lay (with_row C q (written_globals xs vs h)) S (bits_of last q false b)
  unfolding spread_all copies_of
  writes (x ∷ xs) [] (v ∷ vs) h a hx eh = absurd a
  writes (x ∷ xs) (r ∷ rs) [] h a hx eh = absurd a
  writes (global i ∷ xs) (r ∷ rs) (v ∷ vs) h a hx eh =
      spread_upto i v hx.0 (targets (places n last own) last xs rs) (spread_all xs rs vs) h 0 (suc last) eh (omega arith) (omega arith)
      (omega arith)
      ∙ writes xs rs vs (with_bit h i v) a.1 hx.1 (length-set h i v ∙ eh)
  writes (local i ∷ xs) (r ∷ rs) (v ∷ vs) h a hx eh = writes xs rs vs h a.1 hx.1 eh
  writes _ _ _ h a hx eh = refl

  pub writes_locals : (xs : List Place) (rs : List (RightSide Place)) (vs l' : List Bool) → AreValues (row C q) (l ++ more) rs vs
      → PlacesInScope n own xs → length l' ≡ own
      → written_locals (targets (places n last own) last xs rs) (spread_all xs rs vs) (l' ++ tmp) ≡ written_locals xs vs l' ++ tmp
  unfolding spread_all copies_of
  writes_locals (x ∷ xs) [] (v ∷ vs) l' a hx eh = absurd a
  writes_locals (x ∷ xs) (r ∷ rs) [] l' a hx eh = absurd a
  writes_locals (global i ∷ xs) (r ∷ rs) (v ∷ vs) l' a hx eh =
      locals_skip i v (numbers 0 (suc last)) (targets (places n last own) last xs rs) (spread_all xs rs vs) (l' ++ tmp)
      ∙ writes_locals xs rs vs l' a.1 hx.1 eh
  writes_locals (local i ∷ xs) (r ∷ rs) (v ∷ vs) l' a hx eh =
      ap (written_locals (targets (places n last own) last xs rs) (spread_all xs rs vs)) (set-append_left l' tmp i v
      (let z : length l' ≡ own = eh in let z' : i < own = hx.0 in omega arith))
      ∙ writes_locals xs rs vs (with_bit l' i v) a.1 hx.1 (length-set l' i v ∙ eh)
  writes_locals _ _ _ l' a hx eh = refl
