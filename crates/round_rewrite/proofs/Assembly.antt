-- The rewriting theorem over places, put together.
use Rattle.std.proofs.Common.{◌≡◌, ℕ, zero, suc, ◌+◌, ◌-◌, ◌*◌, ◌<◌, Bool, true, false, List, [], ◌∷◌, ◌++◌, length, map, Option, Some}
use Rattle.std.proofs.Common.{None, option_map, slice_get, refl, sym, ◌∙◌, ap, ap₂, arith, append_assoc, ◌⊎◌, inl, inr}
use Rattle.std.proofs.lemmas.Option.{slice_get-map}
use Rattle.language.specs.Tree.{done}
use Rattle.language.specs.Value.{Place}
use Rattle.language.specs.Rest.{Code, rest_from}
use Rattle.language.specs.Step.{Routine, Program, frame, State, state, zeros, body_of}
use Rattle.language.specs.Rounds.{starting_stack, Unsafe}
use Rattle.language.specs.Sequential.{numbered, numbered_routine, in_text_order}
use Rattle.language.proofs.Lengths.{length_zeros}
use Rattle.round_rewrite.specs.Table.{Naming, numbers, no_mark, guess, guesses, starts, check, checks, main, rewritten}
use Rattle.round_rewrite.specs.Places.{places, all_globals, rewritten_routine, main_routine, rewritten_program, global_count}
use Rattle.resolved.specs.Scoped.{FitsScopes}
use Rattle.round_rewrite.proofs.RoundBitLemmas.{zero_bits}
use Rattle.round_rewrite.proofs.LayoutLemmas.{Long, flat, row, bits_of, lay, Shape, bad_bit}
use Rattle.round_rewrite.proofs.Plain.{PlainAfter, bare, bare_state, bare_routine, world_of, bare-numbered, rest-numbered}
use Rattle.round_rewrite.proofs.RunLemmas.{Leads}
use Rattle.round_rewrite.proofs.Blocks.{bare-rewritten, rest-rewritten}
use Rattle.round_rewrite.proofs.Frames.{put_routine, IsWorld, Setting, zeros-add}
use Rattle.round_rewrite.proofs.Compose.{Linked, FailThreads, copies, copies_long, to_rounds, from_rounds}
use Rattle.round_rewrite.proofs.GuessLemmas.{Bad, main_at}
use Rattle.round_rewrite.proofs.CheckLemmas.{Fill, guesses_lead, guesses_back, checks_lead, checks_back, linked_rows, rows_linked}
use Rattle.round_rewrite.proofs.StartLemmas.{Ran, fails_lead, starts_back, fails_keep}
use Rattle.round_rewrite.specs.Limits.{most_rounds, round_bits}
use Rattle.round_rewrite.proofs.InTurn.{passes}

module _ (w : Naming Place Place ℕ ℕ) (last : ℕ) where
  bare-guess : (xs : List Place) (k : ℕ) (t : Code) → bare (guess w last xs k t) ≡ guess w last xs k (bare t)
  bare-guess [] k t = refl
  bare-guess (x ∷ xs) k t = refl

  bare-starts : (T : List ℕ) (t : Code) → bare (starts w last T t) ≡ starts w last T (bare t)
  bare-starts [] t = refl
  bare-starts (c ∷ T) t = ap (starts w last (c ∷ [])) (bare-starts T t)

  bare-check : (xs : List Place) (k : ℕ) (t : Code) → bare (check w last xs k t) ≡ check w last xs k (bare t)
  bare-check [] k t = refl
  bare-check (x ∷ xs) k t = ap (check w last (x ∷ []) k) (bare-check xs k t)

  pub bare-main : (xs : List Place) (T : List ℕ) → bare (main w last xs T) ≡ main w last xs T
  bare-main xs T =
      let ends : Code = checks w last xs (numbers 0 last) done in
      passes (guesses w last xs) (guess w last xs) (λ t. refl) (λ k ks t. refl) bare (bare-guess xs) (numbers 1 last)
      (starts w last T ends)
      ∙ ap (guesses w last xs (numbers 1 last)) (bare-starts T ends
      ∙ ap (starts w last T)
      (passes (checks w last xs) (check w last xs) (λ t. refl) (λ k ks t. refl) bare (bare-check xs) (numbers 0 last) done))

flat_copies : (n k : ℕ) → flat (copies k (zeros n)) ≡ zeros (k * n)
flat_copies n zero = ap zeros (let z : zero ≡ zero * n = omega arith in z)
flat_copies n (suc k) = ap (λ z. zeros n ++ z) (flat_copies n k)
    ∙ (sym (zeros-add n (k * n)) ∙ ap zeros (let z : n + k * n ≡ suc k * n = omega arith in z))

zeros_lie : (n last : ℕ)
    → zeros (global_count n last) ≡ lay (copies (suc last) (zeros n)) (copies last (zeros n)) (bits_of last 0 false false)
zeros_lie n last =
    let m : ℕ = round_bits last + 2 in
    let bits : zeros m ≡ bits_of last 0 false false =
    zeros-add (round_bits last) 2 ∙ sym (zero_bits (round_bits last) (false ∷ false ∷ [])) in
    zeros-add (suc last * n + last * n) m
    ∙ (ap (λ z. z ++ zeros m) (zeros-add (suc last * n) (last * n))
    ∙ (append_assoc (zeros (suc last * n)) (zeros (last * n)) (zeros m)
    ∙ ((λ i. sym (flat_copies n (suc last)) i ++ (sym (flat_copies n last) i ++ bits i)))))

module _ (p : Program) (last : ℕ) where
  abbrev pub result : Program
  result = in_text_order (rewritten_program last p)

  bare_rewritten_routine : (o : Option Routine)
      → option_map bare_routine (option_map numbered_routine (option_map (rewritten_routine p.globals last) o))
      ≡ option_map (put_routine p last) o
  bare_rewritten_routine None = refl
  bare_rewritten_routine (Some r) =
      λ i. Some (record {
        places = r.places + Rattle.round_rewrite.specs.Table.temporaries Rattle.round_rewrite.specs.Places.is_global r.body;
        gives = r.gives;
        body =
            (bare-numbered 1 (rewritten (places p.globals last r.places) last r.body)
            ∙ bare-rewritten (places p.globals last r.places) last r.body) i;
      })

  routines_at : (c : ℕ)
      → slice_get result.routines (suc c)
      ≡ option_map numbered_routine (option_map (rewritten_routine p.globals last) (slice_get p.routines c))
  routines_at c =
      slice_get-map numbered_routine (map (rewritten_routine p.globals last) p.routines) c
      ∙ ap (option_map numbered_routine) (slice_get-map (rewritten_routine p.globals last) p.routines c)

  pub is_world : IsWorld p last (world_of result)
  is_world = record {
    enters_is = λ c. ap (option_map bare_routine) (routines_at c) ∙ bare_rewritten_routine (slice_get p.routines c);
    jumps_is = λ c r x e.
        ap (λ o. option_map bare (rest_from x (body_of o) done))
        (routines_at c ∙ ap (λ o. option_map numbered_routine (option_map (rewritten_routine p.globals last) o)) e)
        ∙ (rest-numbered x 1 (rewritten (places p.globals last r.places) last r.body) done done refl
        ∙ rest-rewritten (places p.globals last r.places) last x r.body done done refl);
  }

  abbrev pub body : Code
  body = main (places p.globals last 0) last (all_globals p.globals) p.threads

  abbrev pub start : State
  start = state (zeros (global_count p.globals last)) (frame 0 [] (numbered 1 body) ∷ [])

  pub start_is : bare_state start
      ≡ main_at (lay (copies (suc last) (zeros p.globals)) (copies last (zeros p.globals)) (bits_of last 0 false false)) body
  start_is =
      ap₂ main_at (zeros_lie p.globals last)
      (bare-numbered 1 body ∙ bare-main (places p.globals last 0) last (all_globals p.globals) p.threads)

  module _ (fits : FitsScopes p) (small : last < most_rounds) where
    abbrev n : ℕ
    n = p.globals

    abbrev z : List Bool
    z = zeros n

    abbrev setting : Setting
    setting = record { p = p; last = last; fits = fits; small = small; w = world_of result; isw = is_world }

    first_fill : Fill (world_of result) n last z (length_zeros n) (bits_of last 0 false false) 0 last [] (copies last z) (copies last z)
    first_fill = let c = copies_long n last z (length_zeros n) in record {
      a_long = tt;
      d_long = c.0;
      e_long = c.0;
      a_length = refl;
      d_length = c.1;
      e_length = c.1;
      all = omega arith;
    }

    abbrev checks_code : Code
    checks_code = checks (places n last 0) last (all_globals n) (numbers 0 last) done

    over : (C S : List (List Bool)) → Shape n last C S → (q : ℕ) (s : Bool)
        → Leads (world_of result) (main_at (lay C S (bits_of last q s true)) done) (Bad n last)
    over C S shape q s = (zero, (refl, bad_bit n last C S shape q s true))

    over_back : (C S : List (List Bool)) → Shape n last C S → (q : ℕ) (s b : Bool) (M : ℕ)
        → PlainAfter (world_of result) M (main_at (lay C S (bits_of last q s b)) done) (Bad n last) → b ≡ true
    over_back C S shape q s b zero h = sym (bad_bit n last C S shape q s b) ∙ h.1
    over_back C S shape q s b (suc zero) h = absurd h
    over_back C S shape q s b (suc (suc M)) h = absurd h

    shape_of : (C S : List (List Bool)) → Long n C → Long n S → length C ≡ suc last → length S ≡ last → Shape n last C S
    shape_of C S c s lc ls = record { copies = c; saved = s; rounds = lc; guesses = ls }

    -- unsafe: the rewritten program has a run that ends with bad
    pub unsafe_leads : Unsafe p (suc last)
        → Leads (world_of result) (main_at (lay (copies (suc last) z) (copies last z) (bits_of last 0 false false)) body) (Bad n last)
    unsafe_leads (r, lt, g, ss, rounds, f) =
        let (G, G', e, long, link, ft) =
        from_rounds p n r (last - r) z (map (starting_stack p.routines) p.threads) g ss (length_zeros n) rounds f in
        let eG : length G ≡ last = omega arith in
        rows G G' eG long link ft
      where
        rows : (G G' : List (List Bool)) → length G ≡ last → Long n G → Linked z (z ∷ G) G'
            → FailThreads p (z ∷ G) (map (starting_stack p.routines) p.threads) G'
            → Leads (world_of result) (main_at (lay (copies (suc last) z) (copies last z) (bits_of last 0 false false)) body) (Bad n last)
        rows G [] eG long link ft = absurd link
        rows G (y ∷ G') eG long link ft =
            guesses_lead (world_of result) n last z (length_zeros n) (bits_of last 0 false false)
            (starts (places n last 0) last p.threads checks_code) (Bad n last) last 0 [] (copies last z)
            (copies last z) G first_fill long eG
            (fails_lead setting G (long, eG) (Bad n last) checks_code p.threads fits.threads (z ∷ G)
            ((length_zeros n, long), ap suc eG) (y ∷ G') ft
            (λ q s. let kept = fails_keep p n (z ∷ G) (map (starting_stack p.routines) p.threads) (y ∷ G') (length_zeros n, long) ft in
            let sh : Shape n last (y ∷ G') G = shape_of (y ∷ G') G kept.0 long (kept.1 ∙ ap suc eG) eG in
            checks_lead (world_of result) n last (y ∷ G') G (bits_of last q s true) sh done (Bad n last) last 0 (omega arith)
            (λ i lt. rows_linked G y G' link.1 i (omega arith)) (over (y ∷ G') G sh q s))
            false 0 false)

    -- a run that ends with bad: the source is unsafe
    pub leads_unsafe : (N : ℕ)
        → PlainAfter (world_of result) N
        (main_at (lay (copies (suc last) z) (copies last z) (bits_of last 0 false false)) body) (Bad n last)
        → Unsafe p (suc last)
    leads_unsafe N h =
        let (G, long, eG, M, h1) =
        guesses_back (world_of result) n last z (length_zeros n) (bits_of last 0 false false)
        (starts (places n last 0) last p.threads checks_code) last 0 [] (copies last z) (copies last z) first_fill N h in
        rows G long eG
        (starts_back setting G (long, eG) checks_code p.threads fits.threads (z ∷ G)
        ((length_zeros n, long), ap suc eG) 0 false false M h1)
      where
        fails : (G : List (List Bool)) (y : List Bool) (G' : List (List Bool)) → length G ≡ last → Linked y G G'
            → FailThreads p (z ∷ G) (map (starting_stack p.routines) p.threads) (y ∷ G') → Unsafe p (suc last)
        fails G y G' eG link ft =
            let (r, lt, g, ts, rounds, f) =
            to_rounds p z (z ∷ G) (map (starting_stack p.routines) p.threads) (y ∷ G') (refl, link) ft in
            (r, omega arith, g, ts, rounds, f)

        rows : (G : List (List Bool)) (long : Long n G) (eG : length G ≡ last)
            → Ran setting G (long, eG) p.threads checks_code (z ∷ G) false → Unsafe p (suc last)
        rows G long eG x =
            let sh : Shape n last x.rows G = shape_of x.rows G x.long long (x.same ∙ ap suc eG) eG in
            let (facts, M, run) =
            checks_back (world_of result) n last x.rows G (bits_of last x.round x.stop x.bad) sh done last 0 (omega arith) x.left x.run in
            let is_bad : x.bad ≡ true = over_back x.rows G sh x.round x.stop x.bad M run in
            turned G eG x.rows (x.same ∙ ap suc eG) (λ i lt. facts i (omega arith) (omega arith)) (failing is_bad x.turns)
          where
            failing : {A B : Type 0} → x.bad ≡ true → ((x.bad ≡ false) × A) ⊎ ((x.bad ≡ true) × B) → B
            failing e (inl (e', a)) = absurd (let bad : true ≡ false = sym e ∙ e' in cc)
            failing e (inr (e', b)) = b

            turned : (G : List (List Bool)) → length G ≡ last → (H : List (List Bool)) → length H ≡ suc last
                → ((i : ℕ) → i < last → row G i ≡ row H i)
                → FailThreads p (z ∷ G) (map (starting_stack p.routines) p.threads) H
                → Unsafe p (suc last)
            turned G eG [] eH facts ft = absurd (omega arith)
            turned G eG (y ∷ H) eH facts ft = fails G y H eG (linked_rows G y H (omega arith) (λ k lt. facts k (omega arith))) ft
