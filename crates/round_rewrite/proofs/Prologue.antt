-- What the prologue, the test of stop, and frames that leave do, both ways.
use Rattle.std.proofs.Common.{◌≡◌, eqb, ℕ, suc, ◌<◌, ◌≤◌, Bool, true, false, not, cond, List, [], ◌∷◌}
use Rattle.std.proofs.Common.{reverse, refl, sym, ◌∙◌, ap, subst, ap₂, arith, inl, inr}
use Rattle.std.proofs.lemmas.Bool.{cases_eq, eq-eqb, ne_eqb}
use Rattle.language.specs.Tree.{const, RightSide, any, value, skip, assign, leave, done, one, choose}
use Rattle.language.specs.Value.{Place, global, bit, with_bit, value_of, IsValue, AreValues, written_globals, written_locals}
use Rattle.language.specs.Rest.{Code, join}
use Rattle.language.specs.Step.{Frame, frame, State, state}
use Rattle.round_rewrite.specs.Table.{no_mark, in_round, stop_test, rise, prologue}
use Rattle.round_rewrite.specs.Places.{places, bits_at, bits_from, stop_at}
use Rattle.round_rewrite.proofs.RoundBitLemmas.{low_first, outside_bits, frame_kept, raise_goes, raise_only}
use Rattle.round_rewrite.proofs.LayoutLemmas.{bits_of, lay, Shape, Moment, has_bits, stop_bit, stop_with, bits_written}
use Rattle.round_rewrite.proofs.Translate.{at_is}
use Rattle.round_rewrite.proofs.Plain.{World, PlainAfter}
use Rattle.round_rewrite.proofs.RunLemmas.{Leads, Never, unstep, Later, later, later_now}
use Rattle.round_rewrite.specs.Limits.{most_rounds, round_bits}

pub not_true : (x : Bool) → true ≡ not x → x ≡ false
not_true true e = cc
not_true false e = refl

-- a frame of a rewritten procedure, and what stays the same while it stands at a prologue: the rows and the saved
-- guesses, its procedure, how many places that has in the source, the values of all its places, and the frames below
pub record Site (n last : ℕ) : Type 0 where
  pub C : List (List Bool)
  pub S : List (List Bool)
  pub shape : Shape n last C S
  pub c : ℕ
  pub own : ℕ
  pub L : List Bool
  pub fs : List Frame

module _ (w : World) {n last : ℕ} (small : last < most_rounds) (site : Site n last) (Q : State → Type 0) where
  open site use {C, S, shape, c, own, L, fs}

  abbrev pub now : ℕ → Bool → Bool → List Bool
  now q s b = lay C S (bits_of last q s b)

  abbrev in_round_of : (q : ℕ) → q ≤ last → Bool → Moment n last
  in_round_of q within b = record { C = C; S = S; q = q; b = b; shape = shape; within = within }

  abbrev pub on : List Bool → Code → State
  on X t = state X (frame c L t ∷ fs)

  stop_is : (q : ℕ) (s b : Bool) → bit (now q s b) (stop_at n last) ≡ s
  stop_is q s b = stop_bit n last C S shape q s b

  pub stop_leads : (q : ℕ) (s b : Bool) (t : Code) → Leads w (on (now q s b) (cond s done t)) Q
      → Leads w (on (now q s b) (stop_test (places n last own) last t)) Q
  stop_leads q true b t (m, h) = (suc (suc m), (true, sym (stop_is q true b), h))
  stop_leads q false b t (m, h) = (suc (suc m), (false, sym (stop_is q false b), h))

  stop_go : Never Q fs → (N : ℕ) (X : List Bool) (v s : Bool) (t : Code) → v ≡ s
      → PlainAfter w N (on X (cond v (join (one no_mark leave done) t) (join (one no_mark skip done) t))) Q
      → Later w N (on X (cond s done t)) Q
  stop_go never N X true s t e h =
      let (m, em, k) = unstep w Q N _ _ fs never h in
      later_now w Q (on X (cond s done t)) N m em (subst (λ z. PlainAfter w m (on X (cond z done t)) Q) e k)
  stop_go never N X false s t e h =
      let (m, em, k) = unstep w Q N _ _ fs never h in
      later_now w Q (on X (cond s done t)) N m em (subst (λ z. PlainAfter w m (on X (cond z done t)) Q) e k)

  pub stop_back : Never Q fs → (N q : ℕ) (s b : Bool) (t : Code)
      → PlainAfter w N (on (now q s b) (stop_test (places n last own) last t)) Q
      → Later w N (on (now q s b) (cond s done t)) Q
  stop_back never N q s b t h =
      let (m, e, k) = unstep w Q N _ _ fs never h in
      later w Q (on (now q s b) (cond s done t)) N m e (stop_go never m (now q s b) k.0 s t (k.1 ∙ stop_is q s b) k.2)

  -- the prologue: on, one round up, or out
  pub prologue_goes : (q : ℕ) (b : Bool) (t : Code) → Leads w (on (now q false b) t) Q
      → Leads w (on (now q false b) (prologue (places n last own) last no_mark t)) Q
  prologue_goes q b t (m, h) = (suc (suc (suc (suc (suc m)))), (false, tt, (false, tt, (false, sym (stop_is q false b), h))))

  -- what the prologue writes when it rises, and the values that it writes in this round
  abbrev rise_targets : List Place
  rise_targets = reverse (bits_from (bits_at n last) (round_bits last))

  abbrev risen : ℕ → List Bool
  risen q = reverse (low_first (round_bits last) (suc q))

  -- the state after that write
  rise_writes : (m q : ℕ) (b : Bool) (t : Code) →
      PlainAfter w m
      (state (written_globals rise_targets (risen q) (now q false b)) (frame c (written_locals rise_targets (risen q) L) t ∷ fs)) Q
      ≡ PlainAfter w m (on (now (suc q) false b) t) Q
  rise_writes m q b t =
      ap₂ (λ X l. PlainAfter w m (state X (frame c l t ∷ fs)) Q) (bits_written n last C S shape (suc q) q false b)
      (frame_kept rise_targets (risen q) L (outside_bits (bits_at n last) (round_bits last)))

  pub prologue_rises : (q : ℕ) (b : Bool) (t : Code) → q < last
      → Leads w (on (now (suc q) false b) (prologue (places n last own) last no_mark t)) Q
      → Leads w (on (now q false b) (prologue (places n last own) last no_mark t)) Q
  prologue_rises q b t lt (m, h) =
      let X : List Bool = now q false b in
      let free : true ≡ not (value_of X L (in_round (places n last own) last last)) =
      sym (ap not (at_is small (in_round_of q (omega arith) b) own L last (omega arith) ∙ ne_eqb last q (omega arith))) in (
        suc (suc (suc m)),
        (
          true,
          tt,
          (
            free,
            (
              risen q,
              raise_goes X L (bits_at n last) (round_bits last) q (false ∷ b ∷ []) (has_bits n last C S shape q false b),
              subst (λ T. T) (sym (rise_writes m q b (prologue (places n last own) last no_mark t))) h,
            ),
          ),
        ),
      )

  pub prologue_stops : (q : ℕ) (b : Bool) (t : Code) → Leads w (on (now q true b) done) Q
      → Leads w (on (now q false b) (prologue (places n last own) last no_mark t)) Q
  prologue_stops q b t h =
      let r = stop_leads q true b t h in (
        suc (suc (suc r.0)),
        (
          false,
          tt,
          (
            true,
            tt,
            (
              true ∷ [],
              (refl, tt),
              subst (λ z. PlainAfter w r.0 (on z (stop_test (places n last own) last t)) Q)
                  (sym (stop_with n last C S shape q false b true)) r.1,
            ),
          ),
        ),
      )

  -- what a run from a prologue does
  pub data Exits (N q : ℕ) (b : Bool) (t : Code) : Type 0 where
    rose : q < last → Later w N (on (now (suc q) false b) (prologue (places n last own) last no_mark t)) Q → Exits N q b t
    went : Later w N (on (now q false b) t) Q → Exits N q b t
    stopped : Later w N (on (now q true b) done) Q → Exits N q b t

  one_back : (X : List Bool) (r0 : RightSide Place) (vs : List Bool) → AreValues X L (r0 ∷ []) vs
      → (x : Bool) × (vs ≡ x ∷ []) × IsValue X L r0 x
  one_back X r0 [] a = absurd a
  one_back X r0 (x ∷ []) a = (x, refl, a.0)
  one_back X r0 (x ∷ y ∷ vs) a = absurd a.1

  stop_branch : Code → Code
  stop_branch t =
      choose no_mark any (one no_mark (assign (global (stop_at n last) ∷ []) (value (const true) ∷ [])) done) (one no_mark skip done)
      (stop_test (places n last own) last t)

  -- after the loop: stop or not
  exits_stop : Never Q fs → (N q : ℕ) (b v : Bool) (t : Code) →
      PlainAfter w N (on (now q false b)
      (cond v (one no_mark (assign (global (stop_at n last) ∷ []) (value (const true) ∷ []))
      (stop_test (places n last own) last t)) (one no_mark skip (stop_test (places n last own) last t)))) Q → Exits N q b t
  exits_stop never N q b true t h =
      let (m, e, k) = unstep w Q N _ _ fs never h in
      let (x, ex, ix) = one_back (now q false b) (value (const true)) k.0 k.1 in
      let k' : PlainAfter w m (state (written_globals (global (stop_at n last) ∷ []) (x ∷ []) (now q false b))
      (frame c L (stop_test (places n last own) last t) ∷ fs)) Q =
      subst (λ vs. PlainAfter w m (state (written_globals (global (stop_at n last) ∷ []) vs (now q false b))
      (frame c (written_locals (global (stop_at n last) ∷ []) vs L) (stop_test (places n last own) last t) ∷ fs)) Q)
      ex k.2 in
      let write : with_bit (now q false b) (stop_at n last) x ≡ now q true b =
      ap (with_bit (now q false b) (stop_at n last)) ix ∙ stop_with n last C S shape q false b true in
      stopped
      (later w Q (on (now q true b) done) N m e
      (stop_back never m q true b t (subst (λ z. PlainAfter w m (on z (stop_test (places n last own) last t)) Q) write k')))
  exits_stop never N q b false t h =
      let (m, e, k) = unstep w Q N _ _ fs never h in
      went (later w Q (on (now q false b) t) N m e (stop_back never m q false b t k))

  -- what a run ends in after one more step
  shorter : (N m q : ℕ) (b : Bool) (t : Code) → N ≡ suc m → Exits m q b t → Exits N q b t
  shorter N m q b t e (rose lt r) = rose lt (later w Q _ N m e r)
  shorter N m q b t e (went r) = went (later w Q _ N m e r)
  shorter N m q b t e (stopped r) = stopped (later w Q _ N m e r)

  exits_loop : Never Q fs → (N q : ℕ) (b v : Bool) (t : Code) → q ≤ last
      → PlainAfter w N
      (on (now q false b) (cond v (join (rise (places n last own) last) (prologue (places n last own) last no_mark t)) (stop_branch t))) Q
      → Exits N q b t
  unfolding stop_branch
  exits_loop never N q b true t within h =
      let X : List Bool = now q false b in
      let (m, e, k) = unstep w Q N _ _ fs never h in
      let (m1, e1, k1) = unstep w Q m _ _ fs never k.1 in
      let risen_is : k1.0 ≡ risen q =
      raise_only X L (bits_at n last) (round_bits last) q (false ∷ b ∷ []) (has_bits n last C S shape q false b) k1.0 k1.1 in
      let free : eqb last q ≡ false =
      sym (at_is small (in_round_of q within b) own L last (omega arith)) ∙
      not_true (value_of X L (in_round (places n last own) last last)) k.0 in
      let lt : q < last = elim (cases_eq q last) [
        | inl eq ↦ absurd (let bad : true ≡ false = sym (ap (eqb last) eq ∙ eq-eqb last last refl) ∙ free in cc)
        | inr ne ↦ omega arith
      ] in
      let k' : PlainAfter w m1 (state (written_globals rise_targets (risen q) X)
      (frame c (written_locals rise_targets (risen q) L) (prologue (places n last own) last no_mark t) ∷ fs)) Q =
      subst (λ vs. PlainAfter w m1 (state (written_globals rise_targets vs X)
      (frame c (written_locals rise_targets vs L) (prologue (places n last own) last no_mark t) ∷ fs)) Q) risen_is k1.2 in
      rose lt (m1, omega arith, subst (λ T. T) (rise_writes m1 q b (prologue (places n last own) last no_mark t)) k')
  exits_loop never N q b false t within h =
      let (m, e, k) = unstep w Q N _ _ fs never h in
      shorter N m q b t e (exits_stop never m q b k.0 t (branches m q b k.0 t k.2))
    where
      branches : (m q : ℕ) (b v : Bool) (t : Code) →
          PlainAfter w m (on (now q false b)
          (cond v (join (one no_mark (assign (global (stop_at n last) ∷ []) (value (const true) ∷ [])) done)
          (stop_test (places n last own) last t)) (join (one no_mark skip done) (stop_test (places n last own) last t))))
          Q → PlainAfter w m (on (now q false b)
          (cond v (one no_mark (assign (global (stop_at n last) ∷ []) (value (const true) ∷ []))
          (stop_test (places n last own) last t)) (one no_mark skip (stop_test (places n last own) last t)))) Q
      branches m q b v t h = h

  -- every run from a prologue rises, continues or stops
  pub exits : Never Q fs → (N q : ℕ) (b : Bool) (t : Code) → q ≤ last
      → PlainAfter w N (on (now q false b) (prologue (places n last own) last no_mark t)) Q → Exits N q b t
  unfolding stop_branch
  exits never N q b t within h =
      let (m, e, k) = unstep w Q N _ _ fs never h in
      shorter N m q b t e (exits_loop never m q b k.0 t within k.2)
