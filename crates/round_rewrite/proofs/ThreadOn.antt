-- A thread's turns, or turns that fail, are a run of the rewritten thread down to the first procedure.
use Rattle.std.proofs.Common.{◌≡◌, ℕ, zero, suc, ◌+◌, ◌-◌, ◌≤◌, Bool, true, false, List, [], ◌∷◌, ◌++◌, Option, Some, None, length, map}
use Rattle.std.proofs.Common.{refl, sym, ◌∙◌, ap, ap₂, subst, arith, append_assoc, inl, inr}
use Rattle.std.proofs.lemmas.List.{get_or-set_same, length-set}
use Rattle.std.proofs.Math.Seq.{get_or-append_seam}
use Rattle.language.specs.Tree.{assert, done, one, choose, loop}
use Rattle.language.specs.Value.{Place, global, local, bit, with_bit, IsValue}
use Rattle.language.specs.Rest.{Code}
use Rattle.language.specs.Step.{Frame, frame, State, state, result_of, given_back, StepsTo, AfterSteps, Fails}
use Rattle.round_rewrite.specs.Table.{no_mark, temporaries, side, prologue, stop_test}
use Rattle.round_rewrite.specs.Places.{places, is_global, stop_at, bad_at}
use Rattle.round_rewrite.proofs.LayoutLemmas.{row, with_row, with_middle, bits_of, lay, Shape, Moment, globals_at, turned}
use Rattle.round_rewrite.proofs.LayoutLemmas.{both_with}
use Rattle.round_rewrite.proofs.Plain.{PlainAfter}
use Rattle.round_rewrite.proofs.RunLemmas.{Leads}
use Rattle.round_rewrite.proofs.DrawLemmas.{landed_leads}
use Rattle.round_rewrite.proofs.Prologue.{prologue_goes, prologue_rises, prologue_stops, stop_leads}
use Rattle.round_rewrite.proofs.Frames.{Activation, both, awaiting, given, given_globals, source_values, put_values, Both, source, Good}
use Rattle.round_rewrite.proofs.Frames.{AllGood, GoodStack, put_rest, inner, behind, callers, top, site, frame_site, stack, Setting}
use Rattle.round_rewrite.proofs.Frames.{got, got_back, source_result, source_given, given_good}
use Rattle.round_rewrite.proofs.Forward.{side_at, last_leads, pop_leads, step_leads}
use Rattle.round_rewrite.proofs.Turns.{Turns, FailTurns}
use Rattle.round_rewrite.proofs.ThreadBack.{Seat, reseat, next_seat, moment, length-next}

-- the parts of equal states
pub globals_eq : (g h : List Bool) (s t : List Frame) → state g s ≡ state h t → g ≡ h
globals_eq g h s t e = cc

pub stacks_eq : (g h : List Bool) (s t : List Frame) → state g s ≡ state h t → s ≡ t
stacks_eq g h s t e = cc

module _ (setting : Setting) (S : List (List Bool)) (m : Code) (Q : State → Type 0) where
  open setting use {p, last, small, w}

  abbrev pub At : List (List Bool) → ℕ → Bool → Bool → List Frame → Type 0
  At C q s b fs = Leads w (state (lay C S (bits_of last q s b)) fs) Q

  module _ (C : List (List Bool)) (shape : Shape p.globals last C S) (b : Bool) where
    -- frames that leave if stop is 1, whatever values they have
    unwind : (c : ℕ) (L : List Bool) (bs : List Both) (q : ℕ) → At C q true b (frame 0 [] m ∷ [])
        → At C q true b (frame c L done ∷ callers p last bs m)
    unwind c L [] q (k, h) = (suc k, h)
    unwind c L (d ∷ bs) q h =
        let v : Bool = result_of (w.enters c) L in
        let L' : List Bool = got p last v d in
        let goes_on : Code = behind p last d.own d.awaits (put_rest p last d.own d.rest) in
        let r = stop_leads w small (frame_site p last C S shape d L' bs m) Q q true b goes_on (unwind (suc d.c) L' bs q h) in (
          suc r.0,
          subst (λ z. PlainAfter w r.0 z Q)
              (sym
              (got_back p last v (lay C S (bits_of last q true b)) d (stop_test (places p.globals last d.own) last goes_on)
              (callers p last bs m))) r.1,
        )

    -- the thread stops at a prologue
    stops_at : (q : ℕ) (a : Activation) (t : Code) (bs : List Both) → At C q true b (frame 0 [] m ∷ [])
        → At C q false b (top p last a (prologue (places p.globals last a.own) last no_mark t) bs m)
    stops_at q a t bs out = prologue_stops w small (site p last C S shape a bs m) Q q b t (unwind (suc a.c) (put_values a) bs q out)

    -- the globals in this round
    abbrev in_round : (q : ℕ) → q ≤ last → Moment p.globals last
    in_round q within = record { C = C; S = S; q = q; b = b; shape = shape; within = within }

    module _ (q : ℕ) (within : q ≤ last) (out : (s : Bool) → At C q s b (frame 0 [] m ∷ [])) where
      -- the top frame stops at the start of its rest, where a finished one leaves
      stops_rest : (bs : List Both) → ((a : Activation) → Good p last (both a done) → At C q false b (top p last a done bs m))
          → (a : Activation) (rest : Code) → Good p last (both a rest)
          → At C q false b (top p last a (put_rest p last a.own rest) bs m)
      stops_rest bs leaves a done h = leaves a h
      stops_rest bs leaves a _ h = stops_at q a _ bs (out true)

      -- the same for a caller that has got its value
      stops_caller : (bs : List Both) → ((a : Activation) → Good p last (both a done) → At C q false b (top p last a done bs m))
          → (a : Activation) (o : Option Place) (rest : Code) → Good p last (both a rest)
          → At C q false b (top p last a (behind p last a.own o (put_rest p last a.own rest)) bs m)
      stops_caller bs leaves a (Some (global i)) rest h = stops_at q a _ bs (out true)
      stops_caller bs leaves a _ rest h = stops_rest bs leaves a rest h

      -- a finished frame leaves, and so do those below
      stops_done : (bs : List Both) → AllGood p last bs → (a : Activation) → Good p last (both a done)
          → At C q false b (top p last a done bs m)
      stops_done [] good a h = last_leads setting (in_round q within) m Q a (out false)
      stops_done (d ∷ bs) good a h =
          pop_leads setting (in_round q within) m Q a h d good.0 bs
          (stops_caller bs (stops_done bs good.1) (given (bit a.more 0) d.awaits d.activation) d.awaits d.rest
          (given_good p last (bit a.more 0) d good.0))

      -- the thread stops, and all its frames leave
      stops : (bs : List Both) → GoodStack p last bs → At C q false b (stack p last bs m)
      stops [] good = out false
      stops (a ∷ bs) good = at_top a.activation a.awaits a.rest bs good.0 good.1 good.2
        where
          at_top : (a : Activation) (o : Option Place) (t : Code) (bs : List Both) → o ≡ None
              → Good p last (record { activation = a; awaits = o; rest = t }) → AllGood p last bs
              → At C q false b (top p last a (put_rest p last a.own t) bs m)
          at_top a None t bs e h good = stops_rest bs (stops_done bs good) a t h
          at_top a (Some x) t bs e h good = cc

    -- the round's bits catch up in a prologue
    catch_up : (d q r : ℕ) → q + d ≡ r → r ≤ last → (a : Activation) (t : Code) (bs : List Both)
        → At C r false b (top p last a (prologue (places p.globals last a.own) last no_mark t) bs m)
        → At C q false b (top p last a (prologue (places p.globals last a.own) last no_mark t) bs m)
    catch_up zero q r e within a t bs h =
        let same : r ≡ q = omega arith in
        subst (λ k. At C k false b (top p last a (prologue (places p.globals last a.own) last no_mark t) bs m)) same h
    catch_up (suc d) q r e within a t bs h =
        prologue_rises w small (site p last C S shape a bs m) Q q b t (omega arith)
        (catch_up d (suc q) r (omega arith) within a t bs h)

    -- after the prologue, with the round's bits
    go_in : (q r : ℕ) → q ≤ r → r ≤ last → (a : Activation) (t : Code) (bs : List Both) → At C r false b (top p last a t bs m)
        → At C q false b (top p last a (prologue (places p.globals last a.own) last no_mark t) bs m)
    go_in q r le within a t bs h =
        catch_up (r - q) q r (omega arith) within a t bs (prologue_goes w small (site p last C S shape a bs m) Q r b t h)

  module _ (post : List (List Bool)) (r : Seat p.globals last S post) (b : Bool) where
    within : length r.pre ≤ last
    within = (moment r b).within

    -- the rows, with these globals in the round of the thread
    abbrev rows : List Bool → List (List Bool)
    rows g = r.pre ++ g ∷ post

    -- the globals of the rewritten program, with these in the round of the thread
    abbrev now_at : (g : List Bool) → length g ≡ p.globals → Moment p.globals last
    now_at g eg = moment (reseat r g eg) b

    -- where a row's run may continue
    abbrev pub Onward : List Bool → List Frame → Type 0
    Onward h mid = (q : ℕ) → q ≤ length r.pre → (bs : List Both) → GoodStack p last bs → map source bs ≡ mid
        → length h ≡ p.globals
        → At (rows h) q false b (stack p last bs m)

    -- what is claimed of k steps of the source in one row
    abbrev RecRow : ℕ → List Bool → List Frame → Type 0
    RecRow k h mid = (g : List Bool) → length g ≡ p.globals → (q : ℕ) → q ≤ length r.pre → (bs : List Both)
        → GoodStack p last bs
        → AfterSteps p k (state g (map source bs)) (λ u. u ≡ state h mid) → At (rows g) q false b (stack p last bs m)

    module _ (k : ℕ) (h' : List Bool) (mid : List Frame) (rec : RecRow k h' mid) where
      -- a step after the prologue, and then the k steps
      busy : (g : List Bool) → (eg : length g ≡ p.globals) → (a : Activation) (rest : Code) (bs : List Both)
          → Good p last (both a rest) → AllGood p last bs
          → put_rest p last a.own rest ≡ prologue (places p.globals last a.own) last no_mark (inner p last a.own rest)
          → StepsTo p (state g (map source (both a rest ∷ bs))) (λ t. AfterSteps p k t (λ u. u ≡ state h' mid))
          → At (rows g) (length r.pre) false b (top p last a (inner p last a.own rest) bs m)
      busy g eg a rest bs good goods starts steps =
          step_leads setting (now_at g eg) m Q (λ t. AfterSteps p k t (λ u. u ≡ state h' mid))
          (λ g' bs' eg' goods' run.
          subst (λ y. At y (length r.pre) false b (stack p last bs' m)) (sym (with_middle r.pre g g' post))
          (rec g' eg' (length r.pre) (omega arith) bs' goods' run))
          bs goods a rest good starts
          (subst (λ y. StepsTo p (state y (map source (both a rest ∷ bs))) (λ t. AfterSteps p k t (λ u. u ≡ state h' mid)))
          (sym (get_or-append_seam r.pre g post [])) steps)

      module _ (g : List Bool) (eg : length g ≡ p.globals) (q : ℕ) (le : q ≤ length r.pre) where
        -- the globals when the round's bits lag behind
        abbrev lower : Moment p.globals last
        lower = record {
          C = rows g;
          S = S;
          q = q;
          b = b;
          shape = (now_at g eg).shape;
          within = omega (arith, le, within);
        }

        module _ (a : Activation) (h : Good p last (both a done)) (bs : List Both) (goods : AllGood p last bs) where
          -- the result of the frame that is finished
          abbrev result : Bool
          result = bit a.more 0

          -- what the removal of a finished frame leads to, and then the k steps
          given_steps : (d : Both) → Good p last d
              → StepsTo p (state g (map source (both a done ∷ d ∷ bs))) (λ t. AfterSteps p k t (λ u. u ≡ state h' mid))
              → AfterSteps p k
              (state (given_globals result d.awaits g) (map source (both (given result d.awaits d.activation) d.rest ∷ bs)))
              (λ u. u ≡ state h' mid)
          given_steps d hd steps =
              subst (λ s. AfterSteps p k s (λ u. u ≡ state h' mid))
              (ap (λ v. given_back v g (map source (d ∷ bs))) (source_result p last (both a done) h)
              ∙ source_given p last result g d.activation d.awaits p.globals (temporaries is_global hd.routine.body) d.rest
              (map source bs) hd.long hd.waits)
              steps

          -- a finished frame leaves, its caller gets the result, and then the k steps
          given_on : (d : Activation) (o : Option Place) (t : Code)
              → Good p last (record { activation = d; awaits = o; rest = t })
              → AfterSteps p k (state (given_globals result o g) (map source (both (given result o d) t ∷ bs)))
              (λ u. u ≡ state h' mid)
              → At (rows g) q false b (top p last (given result o d) (behind p last d.own o (put_rest p last d.own t)) bs m)
          given_on d None t hd steps =
              rec g eg q le (both (given result None d) t ∷ bs) (refl, given_good p last result (both d t) hd, goods) steps
          given_on d (Some (local i)) t hd steps =
              rec g eg q le (both (given result (Some (local i)) d) t ∷ bs)
              (refl, given_good p last result (awaiting d (local i) t) hd, goods) steps
          given_on d (Some (global i)) t hd steps =
              let d' : Activation = given result (Some (global i)) d in
              let g' : List Bool = with_bit g i result in
              let there : bit d'.tmp 0 ≡ result =
              get_or-set_same d.tmp 0 result false
              (let e : length d.tmp ≡ temporaries is_global hd.routine.body + length d.more = hd.room in
              let k : 1 ≤ temporaries is_global hd.routine.body = hd.waits.1 in omega arith) in
              let eg' : length g' ≡ p.globals = length-set g i result ∙ eg in
              let ahead : At (rows g') (length r.pre) false b (stack p last (both d' t ∷ bs) m) =
              rec g' eg' (length r.pre) (omega arith) (both d' t ∷ bs)
              (refl, given_good p last result (awaiting d (global i) t) hd, goods) steps in
              let turned_is : turned (now_at g eg) (with_bit (row (rows g) (length r.pre)) i (bit d'.tmp 0))
              ≡ lay (rows g') S (bits_of last (length r.pre) false b) =
              ap (λ y. lay y S (bits_of last (length r.pre) false b))
              (ap₂ (λ z v. with_row (rows g) (length r.pre) (with_bit z i v)) (get_or-append_seam r.pre g post []) there
              ∙ with_middle r.pre g g' post) in
              go_in (rows g) (now_at g eg).shape b q (length r.pre) le within d' _ bs
              (landed_leads w p.globals last d.own (suc d.c) (callers p last bs m) Q (now_at g eg) small d'.l d'.more d'.tmp hd.long i
              (put_rest p last d.own t) hd.waits.0
              (subst (λ y. Leads w (state y (stack p last (both d' t ∷ bs) m)) Q) (sym turned_is) ahead))

        -- a finished frame leaves, and then the k steps
        left_on : (a : Activation) → Good p last (both a done) → (bs : List Both) → AllGood p last bs
            → StepsTo p (state g (map source (both a done ∷ bs))) (λ t. AfterSteps p k t (λ u. u ≡ state h' mid))
            → At (rows g) q false b (top p last a done bs m)
        left_on a h [] goods steps = last_leads setting lower m Q a (rec g eg q le [] tt steps)
        left_on a h (d ∷ bs) goods steps =
            pop_leads setting lower m Q a h d goods.0 bs
            (given_on a h bs goods.1 d.activation d.awaits d.rest goods.0 (given_steps a h bs goods.1 d goods.0 steps))

        -- a step of the top frame, and then the k steps
        top_on : (a : Activation) (o : Option Place) (rest : Code) (bs : List Both) → o ≡ None
            → Good p last (record { activation = a; awaits = o; rest = rest }) → AllGood p last bs
            → StepsTo p (state g (map source (record { activation = a; awaits = o; rest = rest } ∷ bs)))
            (λ t. AfterSteps p k t (λ u. u ≡ state h' mid))
            → At (rows g) q false b (top p last a (put_rest p last a.own rest) bs m)
        top_on a (Some x) rest bs e good goods steps = cc
        top_on a None done bs e good goods steps = left_on a good bs goods steps
        top_on a None (one d s t) bs e good goods steps =
            go_in (rows g) (now_at g eg).shape b q (length r.pre) le within a _ bs
            (busy g eg a (one d s t) bs good goods refl steps)
        top_on a None (choose d s x y t) bs e good goods steps =
            go_in (rows g) (now_at g eg).shape b q (length r.pre) le within a _ bs
            (busy g eg a (choose d s x y t) bs good goods refl steps)
        top_on a None (loop d s x t) bs e good goods steps =
            go_in (rows g) (now_at g eg).shape b q (length r.pre) le within a _ bs
            (busy g eg a (loop d s x t) bs good goods refl steps)

    -- a turn of the source is a run in the round's row
    pub row_on : (k : ℕ) (h : List Bool) (mid : List Frame) → Onward h mid → RecRow k h mid
    row_on zero h mid on g eg q le bs goods e =
        let same : h ≡ g = sym (globals_eq g h (map source bs) mid e) in
        subst (λ y. At (rows y) q false b (stack p last bs m)) same
        (on q le bs goods (stacks_eq g h (map source bs) mid e) (ap length same ∙ eg))
    row_on (suc k) h mid on g eg q le [] goods e = absurd e
    row_on (suc k) h mid on g eg q le (a ∷ bs) goods e =
        top_on k h mid (row_on k h mid on) g eg q le a.activation a.awaits a.rest bs goods.0 goods.1 goods.2 e

    -- a failing assert sets bad and stop, and the thread leaves
    fail_inner : (g : List Bool) → (eg : length g ≡ p.globals) → (a : Activation) (rest : Code) (bs : List Both)
        → Good p last (both a rest) → Fails (state g (map source (both a rest ∷ bs)))
        → At (rows g) (length r.pre) true true (frame 0 [] m ∷ [])
        → At (rows g) (length r.pre) false b (stack p last (both a rest ∷ bs) m)
    fail_inner g eg a (one d (assert v) t) bs good f out =
        let shape : Shape p.globals last (rows g) S = (now_at g eg).shape in
        let X : List Bool = globals_at (now_at g eg) in
        let u = unwind (rows g) shape true (suc a.c) (put_values a) bs (length r.pre) out in
        let zero_is : IsValue (row (rows g) (length r.pre)) (source_values a) v false =
        subst (λ y. IsValue y (source_values a) v false) (sym (get_or-append_seam r.pre g post [])) f in
        let is : IsValue X (put_values a) (side (places p.globals last a.own) last v) false =
        subst (λ T. T) (sym (side_at setting (now_at g eg) m a good.long v good.fits.0.0.test false)) zero_is in
        let writes : with_bit (with_bit X (bad_at p.globals last) true) (stop_at p.globals last) true
        ≡ lay (rows g) S (bits_of last (length r.pre) true true) =
        both_with p.globals last (rows g) S shape (length r.pre) b in
        prologue_goes w small (site p last (rows g) S shape a bs m) Q (length r.pre) b _ (
          suc (suc (suc u.0)),
          (
            false,
            is,
            (
              true ∷ true ∷ [],
              (refl, (refl, tt)),
              subst (λ y. PlainAfter w u.0 (state y (top p last a done bs m)) Q) (sym writes) u.1,
            ),
          ),
        )
    fail_inner g eg a _ bs good f out = absurd f

    -- the same when the round's bits lag behind
    fail_top : (g : List Bool) → (eg : length g ≡ p.globals) → (q : ℕ) → q ≤ length r.pre
        → (a : Activation) (rest : Code) (bs : List Both) → Good p last (both a rest)
        → Fails (state g (map source (both a rest ∷ bs)))
        → At (rows g) (length r.pre) true true (frame 0 [] m ∷ []) → At (rows g) q false b (stack p last (both a rest ∷ bs) m)
    fail_top g eg q le a (one d s t) bs good f out =
        catch_up (rows g) (now_at g eg).shape b (length r.pre - q) q (length r.pre) (omega arith) within a _ bs
        (fail_inner g eg a (one d s t) bs good f out)
    fail_top g eg q le a _ bs good f out = absurd f

    -- a frame that waits does not fail
    fail_waiting : (g : List Bool) → (eg : length g ≡ p.globals) → (q : ℕ) → q ≤ length r.pre
        → (a : Activation) (o : Option Place) (rest : Code) (bs : List Both) → o ≡ None
        → Good p last (record { activation = a; awaits = o; rest = rest })
        → Fails (state g (map source (record { activation = a; awaits = o; rest = rest } ∷ bs)))
        → At (rows g) (length r.pre) true true (frame 0 [] m ∷ [])
        → At (rows g) q false b (top p last a (put_rest p last a.own rest) bs m)
    fail_waiting g eg q le a None rest bs e good f out = fail_top g eg q le a rest bs good f out
    fail_waiting g eg q le a (Some x) rest bs e good f out = cc

    -- the same for a stack
    pub fail_on : (g : List Bool) → (eg : length g ≡ p.globals) → (q : ℕ) → q ≤ length r.pre → (bs : List Both)
        → GoodStack p last bs
        → Fails (state g (map source bs)) → At (rows g) (length r.pre) true true (frame 0 [] m ∷ [])
        → At (rows g) q false b (stack p last bs m)
    fail_on g eg q le [] goods f out = absurd f
    fail_on g eg q le (a ∷ bs) goods f out = fail_waiting g eg q le a.activation a.awaits a.rest bs goods.0 goods.1 f out

  module _ (b : Bool) where
    -- a thread's turns are a run down to the first procedure
    pub turns_on : (post : List (List Bool)) (r : Seat p.globals last S post) (q : ℕ) → q ≤ length r.pre → (bs : List Both)
        → GoodStack p last bs → (g' : List Bool) (post' : List (List Bool)) (s' : List Frame)
        → Turns p (r.g ∷ post) (map source bs) (g' ∷ post') s'
        → ((q' : ℕ) (s : Bool) → At (r.pre ++ g' ∷ post') q' s b (frame 0 [] m ∷ []))
        → At (r.pre ++ r.g ∷ post) q false b (stack p last bs m)
    turns_on [] r q le bs goods g' [] s' (mid, (k, run), rest) out =
        row_on [] r b k g' mid
        (λ q' le' bs' goods' e eg'.
        stops (r.pre ++ g' ∷ []) (moment (reseat r g' eg') b).shape b q'
        (let c : length r.pre + 0 ≡ last = r.zip.count in omega arith) (out q') bs' goods')
        r.g r.long q le bs goods run
    turns_on (h ∷ post) r q le bs goods g' (h' ∷ post') s' (mid, (k, run), rest) out =
        row_on (h ∷ post) r b k g' mid
        (λ q' le' bs' goods' e eg'.
        subst (λ y. At y q' false b (stack p last bs' m)) (append_assoc r.pre (g' ∷ []) (h ∷ post))
        (turns_on post (next_seat (reseat r g' eg')) q'
        (let n : length (r.pre ++ g' ∷ []) ≡ suc (length r.pre) = length-next r.pre g' in omega arith) bs' goods' h' post' s'
        (subst (λ y. Turns p (h ∷ post) y (h' ∷ post') s') (sym e) rest)
        (λ q'' s. subst (λ y. At y q'' s b (frame 0 [] m ∷ [])) (sym (append_assoc r.pre (g' ∷ []) (h' ∷ post'))) (out q'' s))))
        r.g r.long q le bs goods run
    turns_on _ r q le bs goods g' _ s' (mid, (k, run), rest) out = absurd rest

    -- turns that fail are a run down to the first procedure that sets bad
    pub fails_on : (post : List (List Bool)) (r : Seat p.globals last S post) (q : ℕ) → q ≤ length r.pre → (bs : List Both)
        → GoodStack p last bs → (g' : List Bool) (post' : List (List Bool))
        → FailTurns p (r.g ∷ post) (map source bs) (g' ∷ post')
        → ((q' : ℕ) (s : Bool) → At (r.pre ++ g' ∷ post') q' s true (frame 0 [] m ∷ []))
        → At (r.pre ++ r.g ∷ post) q false b (stack p last bs m)
    fails_on post r q le bs goods g' post' (inl (mid, (k, run), f, e)) out =
        row_on post r b k g' mid
        (λ q' le' bs' goods' em eg'.
        fail_on post r b g' eg' q' le' bs' goods' (subst (λ y. Fails (state g' y)) (sym em) f)
        (subst (λ y. At (r.pre ++ g' ∷ y) (length r.pre) true true (frame 0 [] m ∷ [])) e (out (length r.pre) true)))
        r.g r.long q le bs goods run
    fails_on (h ∷ post) r q le bs goods g' (h' ∷ post') (inr (mid, (k, run), rest)) out =
        row_on (h ∷ post) r b k g' mid
        (λ q' le' bs' goods' e eg'.
        subst (λ y. At y q' false b (stack p last bs' m)) (append_assoc r.pre (g' ∷ []) (h ∷ post))
        (fails_on post (next_seat (reseat r g' eg')) q'
        (let n : length (r.pre ++ g' ∷ []) ≡ suc (length r.pre) = length-next r.pre g' in omega arith) bs' goods' h' post'
        (subst (λ y. FailTurns p (h ∷ post) y (h' ∷ post')) (sym e) rest)
        (λ q'' s. subst (λ y. At y q'' s true (frame 0 [] m ∷ [])) (sym (append_assoc r.pre (g' ∷ []) (h' ∷ post'))) (out q'' s))))
        r.g r.long q le bs goods run
    fails_on _ r q le bs goods g' _ (inr (mid, (k, run), rest)) out = absurd rest
