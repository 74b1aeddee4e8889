-- Assignments as lists of bits and right sides.
use Rattle.std.proofs.Common.{◌≡◌, ◌<◌, ◌≤◌, ℕ, zero, suc, ◌+◌, ◌-◌, ◌*◌, ◌/◌, ◌%◌, ◌^◌, ◌==◌}
use Rattle.std.proofs.Common.{eqb, min, not, ◌||◌, Bool, true, false, cond}
use Rattle.std.proofs.Common.{nat_lt, Option, Some, None, List, [], ◌∷◌, ◌++◌, length, map, take, drop, get_or, refl, sym}
use Rattle.std.proofs.Common.{◌∙◌, ap, subst}
use Rattle.std.proofs.Common.{arith, pow-suc, append_assoc, append-nil}
use Rattle.std.specs.List.{AllByRecursion, IsDistinct, list_any}
use Rattle.std.specs.Int.RustNames.{bit_or}
use Rattle.std.proofs.lemmas.Bool.{false≢true, true≢false, ne_eqb, eqb-true, eqb-false, ltb-true, ltb-false}
use Rattle.std.proofs.lemmas.List.{length-append, length-drop, length-map, get_or-set_same, get_or-set_other, set-append_left}
use Rattle.std.proofs.lemmas.List.{set-append_right, set_past, length-set, drop_more, append-nil}
use Rattle.std.proofs.Math.Pow.{pow_mono}
use Rattle.std.proofs.lemmas.Map.Keys.{IsDistinct-cons}
use Rattle.std.proofs.lemmas.Map.Steps.{length-le_from_distinct_below}
use Rattle.std.proofs.lemmas.Nat.Bits.{bit_at-pow_same, bit_at-pow_other, bit_at_lowest, same_from_bits}
use Rattle.language.specs.Tree.{Name, RightSide, any, value}
use Rattle.language.specs.Value.{Place, global, local, bit, with_bit, value_of, AreValues, written_globals, written_locals}
use Rattle.language.specs.Resolve.{Scope, is_declared, number_of, place_of, resolve_expression, resolve_side}
use Rattle.language.proofs.Names.{number_less, place_declared, place_other}
use Rattle.language.proofs.TestLemmas.{at_test}
use Rattle.trees.specs.Trees.{name_of, names_of, rhs_of, rhss_of}
use Rattle.trees.specs.declared.tree.Name as syntax
use Rattle.trees.specs.declared.tree.Rhs.{Rhs}
use Rattle.flow_graph.specs.Assignments.{masked, choice_left, after_writes, any_of, anys, is_among, lasting}
use Rattle.flow_graph.specs.Assigning.{Assigns}
use Rattle.flow_graph.specs.Flows.{code}
use Rattle.flow_graph.specs.Bits.{bit_of, worth_of, coded}
use Rattle.flow_graph.specs.Formulas.{SaysSide, side_value}
use Rattle.flow_graph.specs.Located.{bit_of_place, bit_of_name}
use Rattle.flow_graph.specs.declared.assignment.Assignment.{Assignment}
use Rattle.flow_graph.specs.declared.assignment.Write.{Write}
use Rattle.flow_graph.specs.declared.side.CompiledSide.{CompiledSide}
use Rattle.flow_graph.specs.declared.side.CompiledSide.TheVariants as side
use Rattle.flow_graph.proofs.Rows.{bits_or, bits_xor, first_bit}
use Rattle.flow_graph.proofs.Stacks.{worth_small, bit_worth}
use Rattle.flow_graph.proofs.Worths.{coded_bit}
use Rattle.language.specs.Words.{word_bits}
use Rattle.resolved.specs.Limits.{most_places}

-- ---- one bit

pow_bit : (b k : ℕ) → bit_of (2 ^ b) k ≡ (b == k)
pow_bit b k =
    at_test (λ c. bit_of (2 ^ b) k ≡ c) (b == k)
    (λ e. subst (λ j. bit_of (2 ^ b) j ≡ true) (eqb-true b k e) (ap (λ n. n == 1) (bit_at-pow_same b)))
    (λ e. ap (λ n. n == 1) (bit_at-pow_other b k (λ same. eqb-false b k e (sym same))))

pub or_one : (x e : Bool) → (x || e) ≡ cond e true x
or_one true true = refl
or_one true false = refl
or_one false true = refl
or_one false false = refl

pub or_then_xor : (x e : Bool) → cond (x || e) (not e) e ≡ cond e false x
or_then_xor true true = refl
or_then_xor true false = refl
or_then_xor false true = refl
or_then_xor false false = refl

-- only the bit of the mask changes
pub masked_bit : (m b k : ℕ) (v : Bool) → bit_of (masked m (2 ^ b) v) k ≡ cond (b == k) v (bit_of m k)
masked_bit m b k true = bits_or m (2 ^ b) k ∙ ap (λ e. bit_of m k || e) (pow_bit b k) ∙ or_one (bit_of m k) (b == k)
masked_bit m b k false =
    bits_xor (bit_or m (2 ^ b)) (2 ^ b) k
    ∙ ap (λ e. cond (bit_of (bit_or m (2 ^ b)) k) (not e) e) (pow_bit b k)
    ∙ ap (λ x. cond x (not (b == k)) (b == k)) (bits_or m (2 ^ b) k ∙ ap (λ e. bit_of m k || e) (pow_bit b k))
    ∙ or_then_xor (bit_of m k) (b == k)

masked_here : (m b : ℕ) (v : Bool) → bit_of (masked m (2 ^ b) v) b ≡ v
masked_here m b v =
    masked_bit m b b v
    ∙ at_test (λ c. cond c v (bit_of m b) ≡ v) (b == b) (λ e. refl) (λ e. absurd (eqb-false b b e refl))

masked_elsewhere : (m b k : ℕ) (v : Bool) → (b ≡ k → ⊥) → bit_of (masked m (2 ^ b) v) k ≡ bit_of m k
masked_elsewhere m b k v other =
    masked_bit m b k v
    ∙ at_test (λ c. cond c v (bit_of m k) ≡ bit_of m k) (b == k) (λ e. absurd (other (eqb-true b k e))) (λ e. refl)

-- ---- the writes that are kept, as bits and right sides

-- the targets that have a right side
abbrev pub paired : {R : Type 0} → List (Option ℕ) → List R → List (Option ℕ)
paired [] rs = []
paired (t ∷ ts) [] = []
paired (t ∷ ts) (r ∷ rs) = t ∷ paired ts rs

-- one more write, if the target's value lasts
abbrev pub kept_one : {R : Type 0} → Option ℕ → R → List (ℕ × R) → List (ℕ × R)
kept_one None r ks = ks
kept_one (Some b) r ks = (b, r) ∷ ks

-- the writes whose values last
abbrev pub kept : {R : Type 0} → List (Option ℕ) → List R → List (ℕ × R)
kept [] rs = []
kept (t ∷ ts) [] = []
kept (t ∷ ts) (r ∷ rs) = kept_one (lasting t (paired ts rs)) r (kept ts rs)

abbrev pub any_in : RightSide Name → ℕ
any_in any = 1
any_in (value e) = 0

abbrev pub anys_in : List (ℕ × RightSide Name) → ℕ
anys_in [] = 0
anys_in (k ∷ ks) = any_in k.1 + anys_in ks

abbrev pub left_of : RightSide Name → ℕ → ℕ
left_of any i = i / 2
left_of (value e) i = i

-- the writes are these
abbrev pub Compiled : {A : Type 0} → Scope → List (Write A) → List (ℕ × RightSide Name) → Type 0
Compiled s [] [] = Unit {0}
Compiled s [] (k ∷ ks) = ⊥
Compiled s (w ∷ ws) [] = ⊥
Compiled s (w ∷ ws) (k ∷ ks) = ((w.mask ≡ 2 ^ k.0) × SaysSide w.side s k.1) × Compiled s ws ks

pub any_same : {A : Type 0} (s : Scope) (sd : CompiledSide A) (r : RightSide Name) → SaysSide sd s r → any_of sd ≡ any_in r
any_same s side.Any (value e) h = absurd h
any_same s (side.Value f) any h = absurd h
any_same s _ _ h = refl

pub anys_same : {A : Type 0} (s : Scope) (ws : List (Write A)) (ks : List (ℕ × RightSide Name)) → Compiled s ws ks
    → anys ws ≡ anys_in ks
anys_same s [] [] h = refl
anys_same s (w ∷ ws) (k ∷ ks) h = ap (λ n. n + anys ws) (any_same s w.side k.1 h.0.1)
    ∙ ap (λ n. any_in k.1 + n) (anys_same s ws ks h.1)
anys_same s _ _ h = absurd h

left_same : {A : Type 0} (s : Scope) (sd : CompiledSide A) (r : RightSide Name) (i : ℕ) → SaysSide sd s r → choice_left sd i ≡ left_of r i
left_same s side.Any (value e) i h = absurd h
left_same s (side.Value f) any i h = absurd h
left_same s _ _ i h = refl

-- ---- values after_writes to bits

-- the values after_writes one after the other, to bits
abbrev pub put : List (Option ℕ) → List Bool → List Bool → List Bool
put [] vs bs = bs
put (t ∷ ts) [] bs = bs
put (None ∷ ts) (v ∷ vs) bs = put ts vs bs
put (Some b ∷ ts) (v ∷ vs) bs = put ts vs (with_bit bs b v)

-- the bits that are still to be after_writes may differ
abbrev pub Agree : List (Option ℕ) → ℕ → List Bool → Type 0
Agree ts m bs = (k : ℕ) → is_among k ts ≡ false → bit_of m k ≡ bit bs k

abbrev pub Below : ℕ → List (Option ℕ) → Type 0
Below n [] = Unit {0}
Below n (None ∷ ts) = Below n ts
Below n (Some b ∷ ts) = (b < n) × Below n ts

not_it : (b k : ℕ) (ts : List (Option ℕ)) → is_among b ts ≡ true → is_among k ts ≡ false → b ≡ k → ⊥
not_it b k ts h free same = true≢false (sym h ∙ ap (λ j. is_among j ts) same ∙ free)

still : (b k : ℕ) (ts : List (Option ℕ)) → (b ≡ k → ⊥) → is_among k ts ≡ false → is_among k (Some b ∷ ts) ≡ false
still b k ts other free =
    at_test (λ c. cond c true (is_among k ts) ≡ false) (b == k) (λ e. absurd (other (eqb-true b k e))) (λ e. free)

agree_dropped : (b : ℕ) (v : Bool) (ts : List (Option ℕ)) (m : ℕ) (bs : List Bool) → is_among b ts ≡ true
    → Agree (Some b ∷ ts) m bs
    → Agree ts m (with_bit bs b v)
agree_dropped b v ts m bs h agree k free =
    let other = not_it b k ts h free in
    agree k (still b k ts other free) ∙ sym (get_or-set_other bs b k v false (λ e. other (sym e)))

pub agree_kept : (b : ℕ) (v w : Bool) (ts : List (Option ℕ)) (m : ℕ) (bs : List Bool) → v ≡ w → b < length bs
    → Agree (Some b ∷ ts) m bs
    → Agree ts (masked m (2 ^ b) w) (with_bit bs b v)
agree_kept b v w ts m bs same inside agree k free = go (b == k) refl
  where
    go : (c : Bool) → (b == k) ≡ c → bit_of (masked m (2 ^ b) w) k ≡ bit (with_bit bs b v) k
    go true e =
        subst (λ j. bit_of (masked m (2 ^ b) w) j ≡ bit (with_bit bs b v) j) (eqb-true b k e)
        (masked_here m b w ∙ sym same ∙ sym (get_or-set_same bs b v false inside))
    go false e =
        let other = eqb-false b k e in
        masked_elsewhere m b k w other ∙ agree k (still b k ts other free) ∙ sym (get_or-set_other bs b k v false (λ z. other (sym z)))

half : (v : Bool) (i : ℕ) → (worth_of v + 2 * i) / 2 ≡ i
half v i = omega (arith, worth_small v)

twice : (n : ℕ) → 2 ^ (1 + n) ≡ 2 * 2 ^ n
twice n = ap (λ k. 2 ^ k) (let z : 1 + n ≡ suc n = omega arith in z) ∙ (let p = pow-suc 2 n in omega (arith, p))

once_more : (n : ℕ) → 2 ^ (0 + n) ≡ 2 ^ n
once_more n = ap (λ k. 2 ^ k) (let z : 0 + n ≡ n = omega arith in z)

-- ---- what writes end in, and their choices

module _ (s : Scope) (gs ls : List Bool) where
  -- the value of a right side, by the choice
  abbrev pub value_at : RightSide Name → ℕ → Bool
  value_at any i = bit_of i 0
  value_at (value e) i = value_of gs ls (resolve_expression s e)

  -- what the kept writes make of a number
  abbrev pub run : List (ℕ × RightSide Name) → ℕ → ℕ → ℕ
  run [] i m = m
  run (k ∷ ks) i m = run ks (left_of k.1 i) (masked m (2 ^ k.0) (value_at k.1 i))

  pub got_same : {A : Type 0} (sd : CompiledSide A) (r : RightSide Name) (i : ℕ) → length gs ≡ length s.globals → SaysSide sd s r
      → side_value sd (coded (gs ++ ls)) i ≡ value_at r i
  got_same side.Any any i e h = refl
  got_same (side.Value f) (value x) i e h = h gs ls e
  got_same _ _ i e h = absurd h

  run_same : {A : Type 0} (ws : List (Write A)) (ks : List (ℕ × RightSide Name)) (i m : ℕ) → length gs ≡ length s.globals
      → Compiled s ws ks → after_writes ws (coded (gs ++ ls)) i m ≡ run ks i m
  run_same [] [] i m e h = refl
  run_same (w ∷ ws) (k ∷ ks) i m e h =
      run_same ws ks (choice_left w.side i) (masked m w.mask (side_value w.side (coded (gs ++ ls)) i)) e h.1
      ∙ ap (λ j. run ks j (masked m w.mask (side_value w.side (coded (gs ++ ls)) i))) (left_same s w.side k.1 i h.0.1)
      ∙ ap (λ n. run ks (left_of k.1 i) (masked m n (side_value w.side (coded (gs ++ ls)) i))) h.0.0
      ∙ ap (λ v. run ks (left_of k.1 i) (masked m (2 ^ k.0) v)) (got_same w.side k.1 i e h.0.1)
  run_same _ _ i m e h = absurd h

  -- ---- what the writes end in

  -- the values of the writes that are kept are those of the choice
  abbrev pub FitsOne : Option ℕ → RightSide Name → Bool → ℕ → Type 0
  FitsOne None r v i = Unit {0}
  FitsOne (Some b) r v i = v ≡ value_at r i

  abbrev pub behind : Option ℕ → RightSide Name → ℕ → ℕ
  behind None r i = i
  behind (Some b) r i = left_of r i

  abbrev pub Fits : List (Option ℕ) → List (RightSide Name) → List Bool → ℕ → Type 0
  Fits [] rs vs i = Unit {0}
  Fits (t ∷ ts) [] [] i = Unit {0}
  Fits (t ∷ ts) [] (v ∷ vs) i = ⊥
  Fits (t ∷ ts) (r ∷ rs) [] i = ⊥
  Fits (t ∷ ts) (r ∷ rs) (v ∷ vs) i = FitsOne (lasting t (paired ts rs)) r v i
      × Fits ts rs vs (behind (lasting t (paired ts rs)) r i)

  abbrev Ends : ℕ → List (Option ℕ) → List (RightSide Name) → List Bool → Type 0
  Ends n ts rs vs = (i m : ℕ) (bs : List Bool) → Fits ts rs vs i → length bs ≡ n → Agree (paired ts rs) m bs → (k : ℕ)
      → bit_of (run (kept ts rs) i m) k ≡ bit (put ts vs bs) k

  ends : (n : ℕ) (ts : List (Option ℕ)) (rs : List (RightSide Name)) (vs : List Bool) → Below n ts → Ends n ts rs vs
  ends n (t ∷ ts) [] (v ∷ vs) below i m bs f len agree k = absurd f
  ends n (t ∷ ts) (r ∷ rs) [] below i m bs f len agree k = absurd f
  ends n (None ∷ ts) (r ∷ rs) (v ∷ vs) below i m bs f len agree k = ends n ts rs vs below i m bs f.1 len agree k
  ends n (Some b ∷ ts) (r ∷ rs) (v ∷ vs) below i m bs f len agree k = go (is_among b (paired ts rs)) refl f (ends n ts rs vs below.1)
    where
      go : (h : Bool) → is_among b (paired ts rs) ≡ h
          → FitsOne (cond h None (Some b)) r v i × Fits ts rs vs (behind (cond h None (Some b)) r i) → Ends n ts rs vs
          → bit_of (run (kept_one (cond h None (Some b)) r (kept ts rs)) i m) k ≡ bit (put ts vs (with_bit bs b v)) k
      go true e g rest = rest i m (with_bit bs b v) g.1 (length-set bs b v ∙ len) (agree_dropped b v (paired ts rs) m bs e agree) k
      go false e g rest =
          rest (left_of r i) (masked m (2 ^ b) (value_at r i)) (with_bit bs b v) g.1 (length-set bs b v ∙ len)
          (agree_kept b v (value_at r i) (paired ts rs) m bs g.0 (let z : b < length bs = omega (arith, below.0, len) in z) agree) k
  ends n _ _ _ below i m bs f len agree k = agree k refl

  -- ---- values and choices

  -- values of the right sides are those of a choice
  chosen : (ts : List (Option ℕ)) (rs : List (RightSide Name)) (vs : List Bool) → AreValues gs ls (map (resolve_side s) rs) vs
      → (i : ℕ) × (i < 2 ^ anys_in (kept ts rs)) × Fits ts rs vs i
  chosen (t ∷ ts) [] (v ∷ vs) h = absurd h
  chosen (t ∷ ts) (r ∷ rs) [] h = absurd h
  chosen (t ∷ ts) (any ∷ rs) (v ∷ vs) h = go (lasting t (paired ts rs)) (chosen ts rs vs h.1)
    where
      go : (o : Option ℕ) → (i : ℕ) × (i < 2 ^ anys_in (kept ts rs)) × Fits ts rs vs i
          → (i : ℕ) × (i < 2 ^ anys_in (kept_one o any (kept ts rs))) × (FitsOne o any v i × Fits ts rs vs (behind o any i))
      go None c = (c.0, c.1, (tt, c.2))
      go (Some b) c = (
        worth_of v + 2 * c.0,
        omega (arith, c.1, worth_small v, twice (anys_in (kept ts rs))),
        (sym (first_bit v c.0), subst (Fits ts rs vs) (sym (half v c.0)) c.2),
      )
  chosen (t ∷ ts) (value x ∷ rs) (v ∷ vs) h = go (lasting t (paired ts rs)) (chosen ts rs vs h.1)
    where
      go : (o : Option ℕ) → (i : ℕ) × (i < 2 ^ anys_in (kept ts rs)) × Fits ts rs vs i
          → (i : ℕ) × (i < 2 ^ anys_in (kept_one o (value x) (kept ts rs)))
          × (FitsOne o (value x) v i × Fits ts rs vs (behind o (value x) i))
      go None c = (c.0, c.1, (tt, c.2))
      go (Some b) c = (c.0, omega (arith, c.1, once_more (anys_in (kept ts rs))), (h.0, c.2))
  chosen _ _ _ h = (0, omega arith, tt)

  -- a value of each right side
  some_values : (rs : List (RightSide Name)) → (vs : List Bool) × AreValues gs ls (map (resolve_side s) rs) vs
  some_values [] = ([], tt)
  some_values (any ∷ rs) = let more = some_values rs in (false ∷ more.0, (tt, more.1))
  some_values (value x ∷ rs) = let more = some_values rs in (value_of gs ls (resolve_expression s x) ∷ more.0, (refl, more.1))

  abbrev Given : List (Option ℕ) → List (RightSide Name) → ℕ → Type 0
  Given ts rs i = (vs : List Bool) × AreValues gs ls (map (resolve_side s) rs) vs × Fits ts rs vs i

  -- values of the right sides that fit, if the first target is this
  abbrev GivenOne : Option ℕ → RightSide Name → List (Option ℕ) → List (RightSide Name) → ℕ → Type 0
  GivenOne o r ts rs i = (v : Bool) × (vs : List Bool) × AreValues gs ls (resolve_side s r ∷ map (resolve_side s) rs) (v ∷ vs)
      × (FitsOne o r v i × Fits ts rs vs (behind o r i))

  given_one : (o : Option ℕ) (r : RightSide Name) (ts : List (Option ℕ)) (rs : List (RightSide Name)) (i : ℕ)
      → i < 2 ^ anys_in (kept_one o r (kept ts rs))
      → ((j : ℕ) → j < 2 ^ anys_in (kept ts rs) → Given ts rs j) → GivenOne o r ts rs i
  given_one None any ts rs i less rest = let c = rest i less in (false, c.0, (tt, c.1), (tt, c.2))
  given_one None (value x) ts rs i less rest = let c = rest i less in (value_of gs ls (resolve_expression s x), c.0, (refl, c.1), (tt, c.2))
  given_one (Some b) any ts rs i less rest =
      let c = rest (i / 2) (omega (arith, less, twice (anys_in (kept ts rs)))) in (bit_of i 0, c.0, (tt, c.1), (refl, c.2))
  given_one (Some b) (value x) ts rs i less rest =
      let c = rest i (omega (arith, less, once_more (anys_in (kept ts rs)))) in
      (value_of gs ls (resolve_expression s x), c.0, (refl, c.1), (refl, c.2))

  -- a choice gives values of the right sides
  given : (ts : List (Option ℕ)) (rs : List (RightSide Name)) (i : ℕ) → i < 2 ^ anys_in (kept ts rs) → Given ts rs i
  given [] rs i less = let vs = some_values rs in (vs.0, vs.1, tt)
  given (t ∷ ts) [] i less = ([], tt, tt)
  given (t ∷ ts) (r ∷ rs) i less =
      let c = given_one (lasting t (paired ts rs)) r ts rs i less (given ts rs) in (c.0 ∷ c.1, c.2, c.3)

  -- ---- each valuation once

  -- a bit that no target has keeps its value
  untouched : (ts : List (Option ℕ)) (rs : List (RightSide Name)) (k : ℕ) → is_among k (paired ts rs) ≡ false → (i m : ℕ)
      → bit_of (run (kept ts rs) i m) k ≡ bit_of m k
  untouched (None ∷ ts) (r ∷ rs) k h i m = untouched ts rs k h i m
  untouched (Some b ∷ ts) (r ∷ rs) k h i m = go (b == k) refl h (is_among b (paired ts rs)) (untouched ts rs k)
    where
      go : (c : Bool) → (b == k) ≡ c → cond c true (is_among k (paired ts rs)) ≡ false → (h : Bool)
          → (is_among k (paired ts rs) ≡ false → (i m : ℕ) → bit_of (run (kept ts rs) i m) k ≡ bit_of m k)
          → bit_of (run (kept_one (cond h None (Some b)) r (kept ts rs)) i m) k ≡ bit_of m k
      go true e g h rest = absurd (true≢false g)
      go false e g true rest = rest g i m
      go false e g false rest = rest g (left_of r i) (masked m (2 ^ b) (value_at r i))
          ∙ masked_elsewhere m b k (value_at r i) (eqb-false b k e)
  untouched _ _ k h i m = refl

  -- a number is its lowest bit and its half
  by_half : (i j : ℕ) → bit_of i 0 ≡ bit_of j 0 → i / 2 ≡ j / 2 → i ≡ j
  by_half i j low high =
      let a : i % 2 ≡ worth_of (bit_of i 0) = sym (bit_at_lowest i) ∙ bit_worth i 0 in
      let b : j % 2 ≡ worth_of (bit_of j 0) = sym (bit_at_lowest j) ∙ bit_worth j 0 in
      let c : worth_of (bit_of i 0) ≡ worth_of (bit_of j 0) = ap worth_of low in
      omega (arith, a, b, c, high)

  -- different choices end in different numbers
  apart : (ts : List (Option ℕ)) (rs : List (RightSide Name)) (i j m n : ℕ) → i < 2 ^ anys_in (kept ts rs)
      → j < 2 ^ anys_in (kept ts rs)
      → run (kept ts rs) i m ≡ run (kept ts rs) j n → i ≡ j
  apart (None ∷ ts) (r ∷ rs) i j m n h k same = apart ts rs i j m n h k same
  apart (Some b ∷ ts) (r ∷ rs) i j m n h k same = go (is_among b (paired ts rs)) refl r h k same (apart ts rs)
    where
      go : (c : Bool) → is_among b (paired ts rs) ≡ c → (q : RightSide Name)
          → i < 2 ^ anys_in (kept_one (cond c None (Some b)) q (kept ts rs))
          → j < 2 ^ anys_in (kept_one (cond c None (Some b)) q (kept ts rs))
          → run (kept_one (cond c None (Some b)) q (kept ts rs)) i m ≡ run (kept_one (cond c None (Some b)) q (kept ts rs)) j n
          → ((i j m n : ℕ) → i < 2 ^ anys_in (kept ts rs) → j < 2 ^ anys_in (kept ts rs)
          → run (kept ts rs) i m ≡ run (kept ts rs) j n
          → i ≡ j)
          → i ≡ j
      go true e q h k same rest = rest i j m n h k same
      go false e any h k same rest =
          by_half i j
          (sym (untouched ts rs b e (i / 2) (masked m (2 ^ b) (bit_of i 0)) ∙ masked_here m b (bit_of i 0))
          ∙ ap (λ x. bit_of x b) same ∙ untouched ts rs b e (j / 2) (masked n (2 ^ b) (bit_of j 0)) ∙ masked_here n b (bit_of j 0))
          (rest (i / 2) (j / 2) (masked m (2 ^ b) (bit_of i 0)) (masked n (2 ^ b) (bit_of j 0))
          (omega (arith, h, twice (anys_in (kept ts rs)))) (omega (arith, k, twice (anys_in (kept ts rs)))) same)
      go false e (value x) h k same rest =
          rest i j (masked m (2 ^ b) (value_at (value x) i)) (masked n (2 ^ b) (value_at (value x) j))
          (omega (arith, h, once_more (anys_in (kept ts rs)))) (omega (arith, k, once_more (anys_in (kept ts rs)))) same
  apart _ _ i j m n h k same = omega (arith, h, k)

-- ---- how many writes there are

few_any : (r : RightSide Name) → any_in r ≤ 1
few_any any = omega arith
few_any (value e) = omega arith

anys_most : (ks : List (ℕ × RightSide Name)) → anys_in ks ≤ length (map (λ (k : ℕ × RightSide Name). k.0) ks)
anys_most [] = omega arith
anys_most (k ∷ ks) = omega (arith, few_any k.1, anys_most ks)

module _ {R : Type 0} where
  abbrev bits_of : List (ℕ × R) → List ℕ
  bits_of ks = map (λ (k : ℕ × R). k.0) ks

  others_differ : (ts : List (Option ℕ)) (rs : List R) (b : ℕ) → is_among b (paired ts rs) ≡ false
      → AllByRecursion (λ c. eqb b c ≡ false) (bits_of (kept ts rs))
  others_differ (None ∷ ts) (r ∷ rs) b h = others_differ ts rs b h
  others_differ (Some c ∷ ts) (r ∷ rs) b h = go (c == b) refl h (is_among c (paired ts rs)) (others_differ ts rs b)
    where
      go : (x : Bool) → (c == b) ≡ x → cond x true (is_among b (paired ts rs)) ≡ false → (y : Bool)
          → (is_among b (paired ts rs) ≡ false → AllByRecursion (λ c. eqb b c ≡ false) (bits_of (kept ts rs)))
          → AllByRecursion (λ c. eqb b c ≡ false) (bits_of (kept_one (cond y None (Some c)) r (kept ts rs)))
      go true e g y rest = absurd (true≢false g)
      go false e g true rest = rest g
      go false e g false rest = (ne_eqb b c (λ same. eqb-false c b e (sym same)), rest g)
  others_differ _ _ b h = tt

  distinct : (ts : List (Option ℕ)) (rs : List R) → IsDistinct eqb (bits_of (kept ts rs))
  unfolding IsDistinct
  distinct (None ∷ ts) (r ∷ rs) = distinct ts rs
  distinct (Some b ∷ ts) (r ∷ rs) = go (is_among b (paired ts rs)) refl (distinct ts rs)
    where
      go : (y : Bool) → is_among b (paired ts rs) ≡ y → IsDistinct eqb (bits_of (kept ts rs))
          → IsDistinct eqb (bits_of (kept_one (cond y None (Some b)) r (kept ts rs)))
      go true e rest = rest
      go false e rest = IsDistinct-cons eqb b (bits_of (kept ts rs)) (others_differ ts rs b e) rest
  distinct _ _ = tt

  all_below : (n : ℕ) (ts : List (Option ℕ)) (rs : List R) (q : ℕ) → Below n ts
      → list_any (eqb q) (bits_of (kept ts rs)) ≡ true → q < n
  all_below n (None ∷ ts) (r ∷ rs) q below h = all_below n ts rs q below h
  all_below n (Some b ∷ ts) (r ∷ rs) q below h = go (is_among b (paired ts rs)) h (all_below n ts rs q below.1)
    where
      one : (x : Bool) → eqb q b ≡ x → (x || list_any (eqb q) (bits_of (kept ts rs))) ≡ true
          → (list_any (eqb q) (bits_of (kept ts rs)) ≡ true → q < n) → q < n
      one true e g rest = let same = eqb-true q b e in omega (arith, same, below.0)
      one false e g rest = rest g

      go : (y : Bool) → list_any (eqb q) (bits_of (kept_one (cond y None (Some b)) r (kept ts rs))) ≡ true
          → (list_any (eqb q) (bits_of (kept ts rs)) ≡ true → q < n) → q < n
      go true g rest = rest g
      go false g rest = one (eqb q b) refl g rest
  all_below n _ _ q below h = absurd (false≢true h)

-- no more are kept than there are variables
pub anys_few : (n : ℕ) (ts : List (Option ℕ)) (rs : List (RightSide Name)) → Below n ts → anys_in (kept ts rs) ≤ n
anys_few n ts rs below =
    let most =
    length-le_from_distinct_below (map (λ (k : ℕ × RightSide Name). k.0) (kept ts rs)) n (distinct ts rs)
    (λ q. all_below n ts rs q below) in
    omega (arith, most, anys_most (kept ts rs))

-- ---- places as bits

bit_within : (s : Scope) (x : Name) (b : ℕ) → bit_of_name s x ≡ Some b → b < length s.globals + length s.locals
bit_within s x b h = go (is_declared x.text s.locals) refl
  where
    one : (c : Bool) → nat_lt (number_of x.text s.globals) (length s.globals) ≡ c
        → cond c (Some (number_of x.text s.globals)) None ≡ Some b → b < length s.globals + length s.locals
    one true is e = let same : number_of x.text s.globals ≡ b = cc in
        let less = ltb-true (number_of x.text s.globals) (length s.globals) is in omega (arith, same, less)
    one false is e = cc

    go : (c : Bool) → is_declared x.text s.locals ≡ c → b < length s.globals + length s.locals
    go true is =
        let e : Some (length s.globals + number_of x.text s.locals) ≡ Some b =
        sym (ap (bit_of_place (length s.globals)) (place_declared s x is)) ∙ h in
        let same : length s.globals + number_of x.text s.locals ≡ b = cc in
        omega (arith, same, number_less x.text s.locals is)
    go false is =
        one (nat_lt (number_of x.text s.globals) (length s.globals)) refl
        (sym (ap (bit_of_place (length s.globals)) (place_other s x is)) ∙ h)

below_one : (n : ℕ) (o : Option ℕ) (ts : List (Option ℕ)) → ((b : ℕ) → o ≡ Some b → b < n) → Below n ts
    → Below n (o ∷ ts)
below_one n None ts h k = k
below_one n (Some b) ts h k = (h b refl, k)

pub names_below : (s : Scope) (xs : List Name) (n : ℕ) → length s.globals + length s.locals ≤ n → Below n (map (bit_of_name s) xs)
names_below s [] n few = tt
names_below s (x ∷ xs) n few =
    below_one n (bit_of_name s x) (map (bit_of_name s) xs)
    (λ b e. let inside = bit_within s x b e in omega (arith, inside, few)) (names_below s xs n few)

bits_same : (s : Scope) (xs : List Name) → map (bit_of_place (length s.globals)) (map (place_of s) xs) ≡ map (bit_of_name s) xs
bits_same s [] = refl
bits_same s (x ∷ xs) = ap (λ l. bit_of_name s x ∷ l) (bits_same s xs)

-- what is after_writes to places is after_writes to their bits
pub written_bits : (n : ℕ) (ps : List Place) (vs gs ls : List Bool) → length gs ≡ n
    → written_globals ps vs gs ++ written_locals ps vs ls ≡ put (map (bit_of_place n) ps) vs (gs ++ ls)
written_bits n (local i ∷ ps) (v ∷ vs) gs ls e =
    written_bits n ps vs gs (with_bit ls i v) e
    ∙ ap (put (map (bit_of_place n) ps) vs)
    (sym
    (set-append_right gs ls n (n + i) v e (omega arith) ∙ ap (λ k. gs ++ with_bit ls k v) (let z : n + i - n ≡ i = omega arith in z)))
written_bits n (global i ∷ ps) (v ∷ vs) gs ls e =
    go (nat_lt i n) refl (written_bits n ps vs (with_bit gs i v) ls (length-set gs i v ∙ e))
  where
    go : (b : Bool) → nat_lt i n ≡ b
        → written_globals ps vs (with_bit gs i v) ++ written_locals ps vs ls ≡ put (map (bit_of_place n) ps) vs (with_bit gs i v ++ ls)
        → written_globals ps vs (with_bit gs i v) ++ written_locals ps vs ls
        ≡ put (cond b (Some i) None ∷ map (bit_of_place n) ps) (v ∷ vs) (gs ++ ls)
    go true is rest = rest
        ∙ ap (put (map (bit_of_place n) ps) vs) (sym (set-append_left gs ls i v (let less = ltb-true i n is in omega (arith, less, e))))
    go false is rest = rest
        ∙ ap (λ l. put (map (bit_of_place n) ps) vs (l ++ ls))
        (set_past gs i v (let least = ltb-false i n is in omega (arith, least, e)))
written_bits n _ _ gs ls e = refl

-- ---- the law

pub same_bits : (a b : ℕ) → ((k : ℕ) → bit_of a k ≡ bit_of b k) → a ≡ b
same_bits a b h = same_from_bits a b (λ k. bit_worth a k ∙ ap worth_of (h k) ∙ sym (bit_worth b k))

module _ {A : Type 0} (a : Assignment A) (s : Scope) (xs : List Name) (rs : List (RightSide Name)) where
  abbrev targets : List (Option ℕ)
  targets = map (bit_of_name s) xs

  ended : (gs ls vs : List Bool) (i : ℕ) → Compiled s a.writes.items (kept targets rs) → length gs ≡ length s.globals
      → length s.locals ≤ length ls → Fits s gs ls targets rs vs i
      → after_writes a.writes.items (coded (gs ++ ls)) i (coded (gs ++ ls))
      ≡ coded (written_globals (map (place_of s) xs) vs gs ++ written_locals (map (place_of s) xs) vs ls)
  ended gs ls vs i compiled g l fits =
      run_same s gs ls a.writes.items (kept targets rs) i (coded (gs ++ ls)) g compiled
      ∙ same_bits (run s gs ls (kept targets rs) i (coded (gs ++ ls))) (coded (put targets vs (gs ++ ls)))
      (λ k. ends s gs ls (length (gs ++ ls)) targets rs vs
      (names_below s xs (length (gs ++ ls)) (omega (arith, g, l, length-append gs ls))) i (coded (gs ++ ls)) (gs ++ ls) fits refl
      (λ j _. coded_bit (gs ++ ls) j) k
      ∙ sym (coded_bit (put targets vs (gs ++ ls)) k))
      ∙ ap coded
      (sym (written_bits (length s.globals) (map (place_of s) xs) vs gs ls g ∙ ap (λ ts. put ts vs (gs ++ ls)) (bits_same s xs)))

  pub assigns : Compiled s a.writes.items (kept targets rs) → a.last + 1 ≡ 2 ^ anys a.writes.items → Assigns a s xs rs
  assigns compiled count =
      let same_count = ap (λ n. 2 ^ n) (anys_same s a.writes.items (kept targets rs) compiled) in
      let most : a.last + 1 ≡ 2 ^ anys_in (kept targets rs) = count ∙ same_count in record {
        leads = λ v w wide. (
          λ h.
              let (i, (le, is)) = h in
              let (vs, are, fits) = given s v.globals v.places targets rs i (omega (arith, le, most)) in
              (vs, are, sym is ∙ ended v.globals v.places vs i compiled wide.0 wide.1 fits),
          λ h.
              let (vs, are, at) = h in
              let (i, less, fits) = chosen s v.globals v.places targets rs vs are in
              (i, (omega (arith, less, most), ended v.globals v.places vs i compiled wide.0 wide.1 fits ∙ sym at)),
        );
        once = λ v i j w wide one other.
            let k = code v in
            let ran = λ (n : ℕ). run_same s v.globals v.places a.writes.items (kept targets rs) n k wide.0 compiled in
            apart s v.globals v.places targets rs i j k k (omega (arith, one.0, most)) (omega (arith, other.0, most))
            (sym (ran i) ∙ one.1 ∙ sym other.1 ∙ ran j);
      }

-- ---- compiling

pub anys_step : {A : Type 0} (ws : List (Write A)) (i : ℕ) (w : Write A) → i < length ws → w ≡ get_or ws i w
    → anys (drop i ws) ≡ any_of w.side + anys (drop (i + 1) ws)
anys_step ws i w h e = ap anys (drop_more ws i w h) ∙ ap (λ x. any_of x.side + anys (drop (i + 1) ws)) (sym e)

-- if some write is still a `?`, the choices so far can be doubled
pub one_more_fits : {A : Type 0} (ws : List (Write A)) (i last : ℕ) (w : Write A) →
    (n : ℕ) × (last + 1 ≡ 2 ^ n) × (n + anys (drop i ws) ≡ anys ws) → i < length ws → w ≡ get_or ws i w →
    any_of w.side ≡ 1 → anys ws ≤ most_places → last * 2 + 1 < 2 ^ word_bits
one_more_fits ws i last w (n, count, all) inside is one few =
    let step = anys_step ws i w inside is in
    let most : 2 ^ n ≤ 2 ^ (word_bits - 1) = pow_mono (let z : n ≤ word_bits - 1 = omega (arith, step, one, all, few) in z) in
    omega (arith, count, most)

-- the later targets that have a right side
later_paired : {X Y Z R : Type 0} (f : Z → Option ℕ) (g : X → Z) (h : Y → R) (xs : List X) (ys : List Y) (n : ℕ)
    → n ≡ min (length xs) (length ys)
    → map f (map g (take n xs)) ≡ paired (map f (map g xs)) (map h ys)
later_paired f g h [] ys zero e = refl
later_paired f g h (x ∷ xs) [] zero e = refl
later_paired f g h (x ∷ xs) (y ∷ ys) (suc n) e = ap (λ l. f (g x) ∷ l) (later_paired f g h xs ys n (omega (arith, e)))
later_paired f g h _ _ _ e = absurd (omega (arith, e))

kept_step : {X Y Z R : Type 0} (f : Z → Option ℕ) (g : X → Z) (h : Y → R) (xs : List X) (ys : List Y) (at n : ℕ) (x : X) (y : Y)
    → at < length xs → at < length ys → x ≡ get_or xs at x → y ≡ get_or ys at y
    → n ≡ min (length (drop (at + 1) xs)) (length (drop (at + 1) ys))
    → kept (map f (map g (drop at xs))) (map h (drop at ys))
    ≡ kept_one (lasting (f (g x)) (map f (map g (take n (drop (at + 1) xs))))) (h y)
    (kept (map f (map g (drop (at + 1) xs))) (map h (drop (at + 1) ys)))
kept_step f g h xs ys at n x y inside within is there count =
    ap (λ l. kept (map f (map g l)) (map h (drop at ys))) (drop_more xs at x inside ∙ ap (λ z. z ∷ drop (at + 1) xs) (sym is))
    ∙ ap (λ l. kept (map f (map g (x ∷ drop (at + 1) xs))) (map h l))
    (drop_more ys at y within ∙ ap (λ z. z ∷ drop (at + 1) ys) (sym there))
    ∙ ap (λ l. kept_one (lasting (f (g x)) l) (h y) (kept (map f (map g (drop (at + 1) xs))) (map h (drop (at + 1) ys))))
    (sym (later_paired f g h (drop (at + 1) xs) (drop (at + 1) ys) n count))

-- the writes for the targets from this one on
abbrev pub kept_from : {N : Type 0} → Scope → List (syntax.Name N) → List (Rhs N) → ℕ → List (ℕ × RightSide Name)
kept_from s xs ys at = kept (map (bit_of_name s) (names_of (drop at xs))) (rhss_of (drop at ys))

-- writes for what is left, after those so far, are writes for all
abbrev pub Leads : {A : Type 0} → Scope → List (Write A) → List (ℕ × RightSide Name) → List (ℕ × RightSide Name) → Type 0
Leads {A} s old ks all = (ws : List (Write A)) → Compiled s ws ks → Compiled s (old ++ ws) all

element : {Y : Type 0} (ys : List Y) (at : ℕ) → at < length ys → (y : Y) × (y ≡ get_or ys at y)
element [] at h = absurd (omega (arith, h))
element (y ∷ ys) zero h = (y, refl)
element (y ∷ ys) (suc at) h = element ys at (omega (arith, h))

module _ {N A : Type 0} (s : Scope) (xs : List (syntax.Name N)) (ys : List (Rhs N)) (at count : ℕ) (old new : List (Write A))
    (all : List (ℕ × RightSide Name)) (x : syntax.Name N)
    (inside : at < count) (few : count ≡ min (length xs) (length ys)) (found : x ≡ get_or xs at x) where
  -- what lasts of the target here
  abbrev pub lasting_here : Option ℕ
  lasting_here = lasting (bit_of_name s (name_of x)) (map (bit_of_name s) (names_of (take (count - (at + 1)) (drop (at + 1) xs))))

  one_step : (y : Rhs N) → y ≡ get_or ys at y → kept_from s xs ys at ≡ kept_one lasting_here (rhs_of y) (kept_from s xs ys (at + 1))
  one_step y there =
      kept_step (bit_of_name s) name_of rhs_of xs ys at (count - (at + 1)) x y (omega (arith, inside, few))
      (omega (arith, inside, few)) found there
      (omega (arith, inside, few, length-drop (at + 1) xs, length-drop (at + 1) ys))

  pub passed_over : lasting_here ≡ None → new ≡ old → Leads s old (kept_from s xs ys at) all
      → Leads s new (kept_from s xs ys (at + 1)) all
  passed_over gone same leads ws h =
      let y = element ys at (omega (arith, inside, few)) in
      subst (λ l. Compiled s (l ++ ws) all) (sym same)
      (leads ws (subst (Compiled s ws) (sym (one_step y.0 y.1 ∙ ap (λ o. kept_one o (rhs_of y.0) (kept_from s xs ys (at + 1))) gone)) h))

  pub one_written : (y : Rhs N) (w : Write A) (b : ℕ) → y ≡ get_or ys at y → lasting_here ≡ Some b → w.mask ≡ 2 ^ b
      → SaysSide w.side s (rhs_of y) → new ≡ old ++ (w ∷ [])
      → Leads s old (kept_from s xs ys at) all → Leads s new (kept_from s xs ys (at + 1)) all
  one_written y w b there lasts mask says same leads ws h =
      subst (λ l. Compiled s l all) (sym (ap (λ l. l ++ ws) same ∙ append_assoc old (w ∷ []) ws))
      (leads (w ∷ ws)
      (subst (Compiled s (w ∷ ws)) (sym (one_step y there ∙ ap (λ o. kept_one o (rhs_of y) (kept_from s xs ys (at + 1))) lasts))
      ((mask, says), h)))

kept_none : {X Y Z R : Type 0} (f : Z → Option ℕ) (g : X → Z) (h : Y → R) (xs : List X) (ys : List Y) (n : ℕ)
    → n ≡ min (length xs) (length ys)
    → kept (map f (map g (drop n xs))) (map h (drop n ys)) ≡ []
kept_none f g h [] ys zero e = refl
kept_none f g h (x ∷ xs) [] zero e = refl
kept_none f g h (x ∷ xs) (y ∷ ys) (suc n) e = kept_none f g h xs ys n (omega (arith, e))
kept_none f g h _ _ _ e = absurd (omega (arith, e))

-- if no target is left, the writes are all
pub all_written : {N A : Type 0} (s : Scope) (xs : List (syntax.Name N)) (ys : List (Rhs N)) (n : ℕ) (ws : List (Write A))
    → n ≡ min (length xs) (length ys)
    → Leads s ws (kept_from s xs ys n) (kept_from s xs ys 0) → Compiled s ws (kept_from s xs ys 0)
all_written {A} s xs ys n ws e leads =
    subst (λ l. Compiled s l (kept_from s xs ys 0)) (append-nil ws)
    (leads [] (subst (Compiled {A = A} s []) (sym (kept_none (bit_of_name s) name_of rhs_of xs ys n e)) tt))

pub one_bit : (b : ℕ) → b < most_places → 1 * 2 ^ b % 2 ^ word_bits ≡ 2 ^ b
one_bit b h = let most : 2 ^ b ≤ 2 ^ (word_bits - 1) = pow_mono (let z : b ≤ word_bits - 1 = omega (arith, h) in z) in
    omega (arith, most)

pub few_variables : {N : Type 0} (gs fs ls : List (syntax.Name N)) → length gs + (length fs + length ls) ≤ most_places →
    length (names_of gs) + length (names_of fs ++ names_of ls) ≤ most_places
few_variables gs fs ls h =
    omega (arith, h, length-map gs name_of, length-map fs name_of, length-map ls name_of, length-append (names_of fs) (names_of ls))
