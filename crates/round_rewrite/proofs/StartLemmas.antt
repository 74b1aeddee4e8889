-- The first procedure runs the threads, one after the other, both ways.
use Rattle.std.proofs.Common.{◌≡◌, ℕ, suc, ◌+◌, ◌-◌, Bool, true, false, List, [], ◌∷◌, ◌++◌, length, map, reverse, Option, Some, None}
use Rattle.std.proofs.Common.{option_map, slice_get, refl, sym, ◌∙◌, ap, ap₂, subst, arith, length-append, ◌⊎◌, inl, inr}
use Rattle.language.specs.Tree.{RightSide, value, const, assign, call, one}
use Rattle.language.specs.Value.{Place, global, with_bit, written_globals, written_locals}
use Rattle.language.specs.Rest.{Code}
use Rattle.language.specs.Step.{Routine, Program, Frame, frame, State, state, zeros, fresh, frame_size, AtRoutine}
use Rattle.language.specs.Rounds.{starting_stack}
use Rattle.round_rewrite.specs.Limits.{round_bits}
use Rattle.round_rewrite.specs.Table.{Naming, no_mark, temporaries, each, reset_targets, starts}
use Rattle.round_rewrite.specs.Places.{places, is_global, bits_at, bits_from, stop_at}
use Rattle.resolved.specs.Scoped.{EachThread}
use Rattle.round_rewrite.proofs.RoundBitLemmas.{low_first, Outside, outside_both, outside_bits, frame_kept, certain_zeros, one_choice}
use Rattle.round_rewrite.proofs.RoundBitLemmas.{zeros_are, written_both, zeros_first, length-bits, length-reversed_low}
use Rattle.round_rewrite.proofs.LayoutLemmas.{Long, AreRows, bits_of, lay, Shape, stop_with, bits_written}
use Rattle.round_rewrite.proofs.Plain.{PlainAfter}
use Rattle.round_rewrite.proofs.RunLemmas.{Leads}
use Rattle.round_rewrite.proofs.Frames.{entered, results, source, GoodStack, put_rest, put_routine, stack, Setting, source_fresh}
use Rattle.round_rewrite.proofs.Frames.{put_fresh, zeros-add}
use Rattle.round_rewrite.proofs.Forward.{call_good}
use Rattle.round_rewrite.proofs.Turns.{Turns, FailTurns}
use Rattle.round_rewrite.proofs.Compose.{Threads, FailThreads, run_keeps, fail_is_turns}
use Rattle.round_rewrite.proofs.ThreadBack.{Seat, moment, level, Ends, thread_back}
use Rattle.round_rewrite.proofs.ThreadOn.{turns_on, fails_on}
use Rattle.round_rewrite.proofs.GuessLemmas.{Bad, bad_single, unstep_main, main_at}

-- turns keep how many rows there are, and how long they are
pub turns_keep : (p : Program) (n : ℕ) (G : List (List Bool)) (s : List Frame) (H : List (List Bool)) (s' : List Frame) → Long n G
    → Turns p G s H s' → Long n H × (length H ≡ length G)
turns_keep p n [] s [] s' long h = (tt, refl)
turns_keep p n (g ∷ G) s (h ∷ H) s' long (mid, run, more) =
    let r = turns_keep p n G mid H s' long.1 more in
    ((run_keeps p g h s mid run ∙ long.0, r.0), ap suc r.1)
turns_keep p n _ s _ s' long h = absurd h

-- the same for all threads in turn
pub threads_keep : (p : Program) (n : ℕ) (G : List (List Bool)) (ss : List (List Frame)) (H : List (List Bool)) (ss' : List (List Frame))
    → Long n G → Threads p G ss H ss' → Long n H × (length H ≡ length G)
threads_keep p n G [] H [] long e = (subst (Long n) (sym e) long, ap length e)
threads_keep p n G (s ∷ ss) H (s' ∷ ss') long (K, ts, more) =
    let k = turns_keep p n G s K s' long ts in
    let r = threads_keep p n K ss H ss' k.0 more in
    (r.0, r.1 ∙ k.1)
threads_keep p n G _ H _ long e = absurd e

-- the same for threads of which one fails
pub fails_keep : (p : Program) (n : ℕ) (G : List (List Bool)) (ss : List (List Frame)) (H : List (List Bool)) → Long n G
    → FailThreads p G ss H → Long n H × (length H ≡ length G)
fails_keep p n G [] H long h = absurd h
fails_keep p n G (s ∷ ss) H long (inl (K, ss', ft, more)) =
    let (s', ts) = fail_is_turns p G s K ft in
    let k = turns_keep p n G s K s' long ts in
    let r = threads_keep p n K ss H ss' k.0 more in
    (r.0, r.1 ∙ k.1)
fails_keep p n G (s ∷ ss) H long (inr (K, s', ts, more)) =
    let k = turns_keep p n G s K s' long ts in
    let r = fails_keep p n K ss H k.0 more in
    (r.0, r.1 ∙ k.1)

-- the frame that a thread starts with
abbrev first_frame : ℕ → Option Routine → List Frame
first_frame c None = []
first_frame c (Some r) = frame c (zeros (frame_size r)) r.body ∷ []

-- a procedure that is there
there_is : (o : Option Routine) → AtRoutine o (λ r. Unit {0}) → (r : Routine) × (o ≡ Some r)
there_is None h = absurd h
there_is (Some r) h = (r, refl)

module _ (setting : Setting) (S : List (List Bool)) (saves : AreRows setting.p.globals setting.last S) where
  open setting use {p, last, fits, small, w, isw}

  abbrev naming : Naming Place Place ℕ ℕ
  naming = places p.globals last 0

  -- a new thread's frame fits
  starter_good : (c : ℕ) (r : Routine) → slice_get p.routines c ≡ Some r → GoodStack p last (entered c r [] ∷ [])
  starter_good c r e = (refl, call_good p last c r [] fits e (omega arith), tt)

  -- a new thread's frame is that of the source
  starter_is : (c : ℕ) (r : Routine) → slice_get p.routines c ≡ Some r
      → map source (entered c r [] ∷ []) ≡ starting_stack p.routines c
  starter_is c r e =
      let f : fresh r.places [] ++ zeros (results r) ≡ zeros (frame_size r) =
      sym (source_fresh r [] (omega arith)) ∙ ap zeros (let z : frame_size r - 0 ≡ frame_size r = omega arith in z) in
      ap (λ l. frame c l r.body ∷ []) f ∙ sym (ap (first_frame c) e)

  -- a thread starts in the first row
  abbrev first_seat : (g : List Bool) (G : List (List Bool)) → AreRows p.globals (suc last) (g ∷ G) → Seat p.globals last S G
  first_seat g G are = record {
    pre = [];
    g = g;
    zip =
        record {
          pre_long = tt;
          post_long = are.0.1;
          saved = saves.0;
          count = (let e : suc (length G) ≡ suc last = are.1 in omega arith);
          guesses = saves.1;
        };
    long = are.0.0;
  }

  -- what is set before a thread starts, to which values
  abbrev zero_targets : List Place
  zero_targets = reset_targets naming last

  abbrev zero_sides : List (RightSide Place)
  zero_sides = each (value (const false)) zero_targets

  abbrev zero_values : List Bool
  zero_values = zeros (length zero_targets)

  -- the bits of the round come before `stop`
  abbrev bit_targets : List Place
  bit_targets = reverse (bits_from (bits_at p.globals last) (round_bits last))

  abbrev bit_values : List Bool
  bit_values = reverse (low_first (round_bits last) 0)

  zero_parts : zero_values ≡ bit_values ++ false ∷ []
  zero_parts =
      ap zeros (length-append bit_targets (global (stop_at p.globals last) ∷ [])
      ∙ ap (λ k. k + 1) (length-bits (bits_at p.globals last) (round_bits last)))
      ∙ (zeros-add (round_bits last) 1 ∙ ap (λ z. z ++ false ∷ []) (sym (zeros_first (round_bits last))))

  zeros_outside : Outside zero_targets
  zeros_outside =
      outside_both bit_targets (global (stop_at p.globals last) ∷ []) (outside_bits (bits_at p.globals last) (round_bits last)) tt

  -- these writes lead to round 0, if stop is 0
  zero_writes : (G : List (List Bool)) → Shape p.globals last G S → (q : ℕ) (s b : Bool)
      → written_globals zero_targets zero_values (lay G S (bits_of last q s b)) ≡ lay G S (bits_of last 0 false b)
  zero_writes G shape q s b =
      ap (λ vs. written_globals zero_targets vs (lay G S (bits_of last q s b))) zero_parts
      ∙ (written_both bit_targets (global (stop_at p.globals last) ∷ []) bit_values (false ∷ []) (lay G S (bits_of last q s b))
      (length-bits (bits_at p.globals last) (round_bits last) ∙ sym (length-reversed_low (round_bits last) 0))
      ∙ (ap (λ z. with_bit z (stop_at p.globals last) false) (bits_written p.globals last G S shape 0 q s b)
      ∙ stop_with p.globals last G S shape 0 s b false))

  -- the state after these writes
  zero_state : (G : List (List Bool)) → Shape p.globals last G S → (q : ℕ) (s b : Bool) (k : ℕ) (Q : State → Type 0)
      (t : Code) →
      PlainAfter w k
      (state (written_globals zero_targets zero_values (lay G S (bits_of last q s b)))
      (frame 0 (written_locals zero_targets zero_values []) t ∷ [])) Q
      ≡ PlainAfter w k (main_at (lay G S (bits_of last 0 false b)) t) Q
  zero_state G shape q s b k Q t =
      ap₂ (λ X l. PlainAfter w k (state X (frame 0 l t ∷ [])) Q) (zero_writes G shape q s b)
      (frame_kept zero_targets zero_values [] zeros_outside)

  -- the call of a procedure of the source
  enters_now : (c : ℕ) (r : Routine) → slice_get p.routines c ≡ Some r → w.enters (suc c) ≡ Some (put_routine p last r)
  enters_now c r e = isw.enters_is c ∙ ap (option_map (put_routine p last)) e

  -- a new rewritten frame's values
  fresh_now : (r : Routine)
      → fresh (frame_size (put_routine p last r)) [] ≡ fresh r.places [] ++ zeros (temporaries is_global r.body + results r)
  fresh_now r = put_fresh p last r [] (omega arith)

  module _ (Q : State → Type 0) (t : Code) where
    -- the start of one thread
    start_leads : (G : List (List Bool)) → Shape p.globals last G S → (q : ℕ) (s b : Bool) (c : ℕ) (r : Routine)
        → slice_get p.routines c ≡ Some r
        → Leads w (state (lay G S (bits_of last 0 false b)) (stack p last (entered c r [] ∷ []) t)) Q
        → Leads w
        (main_at (lay G S (bits_of last q s b)) (one no_mark (assign zero_targets zero_sides) (one no_mark (call (suc c) []) t))) Q
    start_leads G shape q s b c r e (k, h) =
        let Y : List Bool = lay G S (bits_of last 0 false b) in
        let h1 : PlainAfter w k
        (state Y
        (frame (suc c) (fresh (frame_size (put_routine p last r)) []) (put_rest p last r.places r.body) ∷ frame 0 [] t ∷ [])) Q =
        subst (λ l. PlainAfter w k (state Y (frame (suc c) l (put_rest p last r.places r.body) ∷ frame 0 [] t ∷ [])) Q)
        (sym (fresh_now r)) h in
        let h2 : PlainAfter w (suc k) (main_at Y (one no_mark (call (suc c) []) t)) Q =
        subst
        (λ o. AtRoutine o (λ z. PlainAfter w k (state Y (frame (suc c) (fresh (frame_size z) []) z.body ∷ frame 0 [] t ∷ [])) Q))
        (sym (enters_now c r e)) h1 in (
          suc (suc k),
          (
            zero_values,
            zeros_are (lay G S (bits_of last q s b)) [] zero_targets,
            subst (λ T. T) (sym (zero_state G shape q s b (suc k) Q (one no_mark (call (suc c) []) t))) h2,
          ),
        )

  module _ (Q : State → Type 0) (t : Code) where
    -- the first thread runs, and then what comes after it
    first_leads : (c : ℕ) (T : List ℕ) → EachThread p.routines (c ∷ T) → (g : List Bool) (G : List (List Bool))
        → AreRows p.globals (suc last) (g ∷ G) → (x : List Bool) (H : List (List Bool)) (s' : List Frame)
        → Turns p (g ∷ G) (starting_stack p.routines c) (x ∷ H) s' → (b : Bool)
        → (AreRows p.globals (suc last) (x ∷ H) → (q : ℕ) (s : Bool)
        → Leads w (main_at (lay (x ∷ H) S (bits_of last q s b)) (starts naming last T t)) Q) → (q : ℕ) (s : Bool)
        → Leads w (main_at (lay (g ∷ G) S (bits_of last q s b)) (starts naming last (c ∷ T) t)) Q
    first_leads c T there g G are x H s' ts b on q s =
        let (r, e) = there_is (slice_get p.routines c) there.0 in
        let seat : Seat p.globals last S G = first_seat g G are in
        let after : Code = starts naming last T t in
        let k = turns_keep p p.globals (g ∷ G) (starting_stack p.routines c) (x ∷ H) s' are.0 ts in
        start_leads Q after (g ∷ G) (moment seat b).shape q s b c r e
        (turns_on setting S after Q b G seat 0 (omega arith) (entered c r [] ∷ []) (starter_good c r e) x H s'
        (subst (λ y. Turns p (g ∷ G) y (x ∷ H) s') (sym (starter_is c r e)) ts) (on (k.0, k.1 ∙ are.1)))

    -- the threads run, and none fails
    pub starts_lead : (T : List ℕ) → EachThread p.routines T → (G : List (List Bool)) → AreRows p.globals (suc last) G
        → (G' : List (List Bool)) (ss' : List (List Frame)) → Threads p G (map (starting_stack p.routines) T) G' ss' → (b : Bool)
        → ((q : ℕ) (s : Bool) → Leads w (main_at (lay G' S (bits_of last q s b)) t) Q) → (q : ℕ) (s : Bool)
        → Leads w (main_at (lay G S (bits_of last q s b)) (starts naming last T t)) Q
    starts_lead [] there G are G' [] e b out q s = subst (λ z. Leads w (main_at (lay z S (bits_of last q s b)) t) Q) e (out q s)
    starts_lead (c ∷ T) there [] are G' (s' ∷ ss') h b out q s = absurd (let e : 0 ≡ suc last = are.1 in omega arith)
    starts_lead (c ∷ T) there (g ∷ G) are G' (s' ∷ ss') ([], ts, more) b out q s = absurd ts
    starts_lead (c ∷ T) there (g ∷ G) are G' (s' ∷ ss') (x ∷ H, ts, more) b out q s =
        first_leads c T there g G are x H s' ts b (λ rows. starts_lead T there.1 (x ∷ H) rows G' ss' more b out) q s
    starts_lead _ there G are G' _ h b out q s = absurd h

    -- the threads run, and one fails
    pub fails_lead : (T : List ℕ) → EachThread p.routines T → (G : List (List Bool)) → AreRows p.globals (suc last) G
        → (G' : List (List Bool)) → FailThreads p G (map (starting_stack p.routines) T) G'
        → ((q : ℕ) (s : Bool) → Leads w (main_at (lay G' S (bits_of last q s true)) t) Q) → (b : Bool) (q : ℕ) (s : Bool)
        → Leads w (main_at (lay G S (bits_of last q s b)) (starts naming last T t)) Q
    fails_lead [] there G are G' h out b q s = absurd h
    fails_lead (c ∷ T) there [] are G' h out b q s = absurd (let e : 0 ≡ suc last = are.1 in omega arith)
    fails_lead (c ∷ T) there (g ∷ G) are G' (inl ([], ss', ft, more)) out b q s = absurd ft
    fails_lead (c ∷ T) there (g ∷ G) are G' (inl (x ∷ H, ss', ft, more)) out b q s =
        let (r, e) = there_is (slice_get p.routines c) there.0 in
        let seat : Seat p.globals last S G = first_seat g G are in
        let after : Code = starts naming last T t in
        let (s', ts) = fail_is_turns p (g ∷ G) (starting_stack p.routines c) (x ∷ H) ft in
        let k = turns_keep p p.globals (g ∷ G) (starting_stack p.routines c) (x ∷ H) s' are.0 ts in
        start_leads Q after (g ∷ G) (moment seat b).shape q s b c r e
        (fails_on setting S after Q b G seat 0 (omega arith) (entered c r [] ∷ []) (starter_good c r e) x H
        (subst (λ y. FailTurns p (g ∷ G) y (x ∷ H)) (sym (starter_is c r e)) ft)
        (starts_lead T there.1 (x ∷ H) (k.0, k.1 ∙ are.1) G' ss' more true out))
    fails_lead (c ∷ T) there (g ∷ G) are G' (inr ([], s', ts, more)) out b q s = absurd ts
    fails_lead (c ∷ T) there (g ∷ G) are G' (inr (x ∷ H, s', ts, more)) out b q s =
        first_leads c T there g G are x H s' ts b (λ rows. fails_lead T there.1 (x ∷ H) rows G' more out b) q s

  -- a run through the start of one thread
  start_back : (G : List (List Bool)) → Shape p.globals last G S → (q : ℕ) (s b : Bool) (c : ℕ) (r : Routine)
      → slice_get p.routines c ≡ Some r → (t : Code) (N : ℕ)
      → PlainAfter w N
      (main_at (lay G S (bits_of last q s b)) (one no_mark (assign zero_targets zero_sides) (one no_mark (call (suc c) []) t)))
      (Bad p.globals last)
      → (M : ℕ)
      × PlainAfter w M (state (lay G S (bits_of last 0 false b)) (stack p last (entered c r [] ∷ []) t)) (Bad p.globals last)
  start_back G shape q s b c r e t N h =
      let n : ℕ = p.globals in
      let X : List Bool = lay G S (bits_of last q s b) in
      let Y : List Bool = lay G S (bits_of last 0 false b) in
      let t' : Code = one no_mark (call (suc c) []) t in
      let (M1, e1, (vs, a, h1)) = unstep_main w n last N X [] no_mark (assign zero_targets zero_sides) t' h in
      let zero_is : vs ≡ zero_values =
      one_choice X [] zero_sides vs zero_values (certain_zeros zero_targets) a (zeros_are X [] zero_targets) in
      let h2 : PlainAfter w M1
      (state (written_globals zero_targets zero_values X) (frame 0 (written_locals zero_targets zero_values []) t' ∷ [])) (Bad n last) =
      subst
      (λ z.
      PlainAfter w M1 (state (written_globals zero_targets z X) (frame 0 (written_locals zero_targets z []) t' ∷ [])) (Bad n last))
      zero_is h1 in
      let h3 : PlainAfter w M1 (main_at Y t') (Bad n last) = subst (λ T. T) (zero_state G shape q s b M1 (Bad n last) t') h2 in
      let (M2, e2, h4) = unstep_main w n last M1 Y [] no_mark (call (suc c) []) t h3 in
      let h5 : PlainAfter w M2
      (state Y
      (frame (suc c) (fresh (frame_size (put_routine p last r)) []) (put_rest p last r.places r.body) ∷ frame 0 [] t ∷ []))
      (Bad n last) =
      subst
      (λ o.
      AtRoutine o (λ z. PlainAfter w M2 (state Y (frame (suc c) (fresh (frame_size z) []) z.body ∷ frame 0 [] t ∷ [])) (Bad n last)))
      (enters_now c r e) h4 in (
        M2,
        subst (λ l. PlainAfter w M2 (state Y (frame (suc c) l (put_rest p last r.places r.body) ∷ frame 0 [] t ∷ [])) (Bad n last))
            (fresh_now r) h5,
      )

  -- the threads ran: they made their turns, or one failed
  pub record Ran (T : List ℕ) (t : Code) (G : List (List Bool)) (b : Bool) : Type 0 where
    pub left : ℕ
    pub rows : List (List Bool)
    pub long : Long p.globals rows
    pub same : length rows ≡ length G
    pub round : ℕ
    pub stop : Bool
    pub bad : Bool
    pub run : PlainAfter w left (main_at (lay rows S (bits_of last round stop bad)) t) (Bad p.globals last)
    pub turns : ((bad ≡ b) × ((ss' : List (List Frame)) × Threads p G (map (starting_stack p.routines) T) rows ss'))
        ⊎ ((bad ≡ true) × FailThreads p G (map (starting_stack p.routines) T) rows)

  -- one thread ran, and then the others
  ran_more : (c : ℕ) (T : List ℕ) (t : Code) (G H : List (List Bool)) (b b1 : Bool) → length H ≡ length G
      → ((b1 ≡ b) × ((s' : List Frame) × Turns p G (starting_stack p.routines c) H s'))
      ⊎ ((b1 ≡ true) × FailTurns p G (starting_stack p.routines c) H) → Ran T t H b1 → Ran (c ∷ T) t G b
  ran_more c T t G H b b1 el first r = record {
    left = r.left;
    rows = r.rows;
    long = r.long;
    same = r.same ∙ el;
    round = r.round;
    stop = r.stop;
    bad = r.bad;
    run = r.run;
    turns = both_ran first r.turns;
  }
    where
      both_ran : ((b1 ≡ b) × ((s' : List Frame) × Turns p G (starting_stack p.routines c) H s'))
          ⊎ ((b1 ≡ true) × FailTurns p G (starting_stack p.routines c) H)
          → ((r.bad ≡ b1) × ((ss' : List (List Frame)) × Threads p H (map (starting_stack p.routines) T) r.rows ss'))
          ⊎ ((r.bad ≡ true) × FailThreads p H (map (starting_stack p.routines) T) r.rows)
          → ((r.bad ≡ b) × ((ss' : List (List Frame)) × Threads p G (map (starting_stack p.routines) (c ∷ T)) r.rows ss'))
          ⊎ ((r.bad ≡ true) × FailThreads p G (map (starting_stack p.routines) (c ∷ T)) r.rows)
      both_ran (inl (e, (s', ts))) (inl (e', (ss', more))) = inl (e' ∙ e, (s' ∷ ss', (H, ts, more)))
      both_ran (inl (e, (s', ts))) (inr (e', more)) = inr (e', inr (H, s', ts, more))
      both_ran (inr (e, ft)) (inl (e', (ss', more))) = inr (e' ∙ e, inl (H, ss', ft, more))
      both_ran (inr (e, ft)) (inr (e', more)) = let (s', ts) = fail_is_turns p G (starting_stack p.routines c) H ft in
          inr (e', inr (H, s', ts, more))

  module _ (t : Code) where
    -- the run of one thread
    one_ran : (c : ℕ) (r : Routine) → slice_get p.routines c ≡ Some r → (g : List Bool) (G : List (List Bool))
        (are : AreRows p.globals (suc last) (g ∷ G)) (q : ℕ) (s b : Bool) (N : ℕ)
        → PlainAfter w N
        (main_at (lay (g ∷ G) S (bits_of last q s b)) (one no_mark (assign zero_targets zero_sides) (one no_mark (call (suc c) []) t)))
        (Bad p.globals last)
        → (f : ℕ)
        × Ends setting S t (Bad p.globals last) (bad_single p.globals last) f G (first_seat g G are) b
        (map source (entered c r [] ∷ []))
    one_ran c r e g G are q s b N h =
        let seat : Seat p.globals last S G = first_seat g G are in
        let (M, h1) = start_back (g ∷ G) (moment seat b).shape q s b c r e t N h in (
          M,
          thread_back setting S t (Bad p.globals last) (bad_single p.globals last) (suc M) M (omega arith) G seat b
              (level (entered c r [] ∷ [])) (starter_good c r e) h1,
        )

  -- a run through the starts of all threads
  pub starts_back : (t : Code) (T : List ℕ) → EachThread p.routines T → (G : List (List Bool)) → AreRows p.globals (suc last) G
      → (q : ℕ) (s b : Bool) (N : ℕ)
      → PlainAfter w N (main_at (lay G S (bits_of last q s b)) (starts naming last T t)) (Bad p.globals last)
      → Ran T t G b
  starts_back t [] there G are q s b N h = record {
    left = N;
    rows = G;
    long = are.0;
    same = refl;
    round = q;
    stop = s;
    bad = b;
    run = h;
    turns = inl (refl, ([], refl));
  }
  starts_back t (c ∷ T) there [] are q s b N h = absurd (let e : 0 ≡ suc last = are.1 in omega arith)
  starts_back t (c ∷ T) there (g ∷ G) are q s b N h =
      let (r, e) = there_is (slice_get p.routines c) there.0 in
      let (f, x) = one_ran (starts naming last T t) c r e g G are q s b N h in
      let turns : ((x.bad ≡ b) × ((s' : List Frame) × Turns p (g ∷ G) (starting_stack p.routines c) (x.g' ∷ x.post') s'))
      ⊎ ((x.bad ≡ true) × FailTurns p (g ∷ G) (starting_stack p.routines c) (x.g' ∷ x.post')) =
      subst
      (λ y. ((x.bad ≡ b) × ((s' : List Frame) × Turns p (g ∷ G) y (x.g' ∷ x.post') s'))
      ⊎ ((x.bad ≡ true) × FailTurns p (g ∷ G) y (x.g' ∷ x.post'))) (starter_is c r e) x.turns in
      ran_more c T t (g ∷ G) (x.g' ∷ x.post') b x.bad (ap suc x.same) turns
      (starts_back t T there.1 (x.g' ∷ x.post') ((x.long, x.post_long), ap suc x.same ∙ are.1) x.round x.stop x.bad x.left x.run)
