-- A run of a rewritten thread down to the first procedure is the thread's turns, or turns that fail.
use Rattle.std.proofs.Common.{◌≡◌, ℕ, zero, suc, ◌+◌, ◌<◌, ◌≤◌, Bool, true, false, List, [], ◌∷◌, ◌++◌, Option, Some, None, slice_get}
use Rattle.std.proofs.Common.{length, map, refl, sym, ◌∙◌, ap, subst, arith, append_assoc, length-append, ◌⊎◌, inl, inr}
use Rattle.std.proofs.lemmas.List.{get_or-set_same, length-set}
use Rattle.std.proofs.Math.Seq.{get_or-append_seam}
use Rattle.language.specs.Tree.{done, one, choose, loop}
use Rattle.language.specs.Value.{Place, global, local, bit, with_bit}
use Rattle.language.specs.Rest.{Code}
use Rattle.language.specs.Step.{Frame, frame, State, state, result_of, given_back, StepsTo, Fails}
use Rattle.round_rewrite.specs.Table.{no_mark, prologue, received, temporaries}
use Rattle.round_rewrite.specs.Places.{places, is_global}
use Rattle.round_rewrite.proofs.LayoutLemmas.{row, with_middle, Long, long-append, bits_of, lay, Shape, Moment, globals_at}
use Rattle.round_rewrite.proofs.LayoutLemmas.{turned, row_long}
use Rattle.round_rewrite.proofs.Plain.{PlainAfter}
use Rattle.round_rewrite.proofs.Prologue.{Exits, rose, went, stopped, exits}
use Rattle.round_rewrite.proofs.DrawLemmas.{landed, landed_back}
use Rattle.round_rewrite.proofs.Frames.{Activation, both, awaiting, given, given_globals, source_values, put_values, Both, source, Good}
use Rattle.round_rewrite.proofs.Frames.{AllGood, GoodStack, put_rest, inner, callers, top, site, stack, Setting, source_result}
use Rattle.round_rewrite.proofs.Frames.{source_given, given_good}
use Rattle.round_rewrite.proofs.Backward.{Begins, moved, failed, moved_here, step_back, last_back, pop_back, unwind_back, never_below}
use Rattle.round_rewrite.proofs.Turns.{Turns, FailTurns, idle, step_turns, step_fails, no_steps}

-- the rows before and after the round's row, and the saved guesses, have their numbers and lengths
pub record Zip (n last : ℕ) (pre post S : List (List Bool)) : Type 0 where
  pub pre_long : Long n pre
  pub post_long : Long n post
  pub saved : Long n S
  pub count : length pre + length post ≡ last
  pub guesses : length S ≡ last

-- the rows with that of the round have their shape
pub zip_shape : (n last : ℕ) (pre post S : List (List Bool)) (h : List Bool) → Zip n last pre post S → length h ≡ n
    → Shape n last (pre ++ h ∷ post) S
zip_shape n last pre post S h z e = record {
  copies = long-append n pre (h ∷ post) z.pre_long (e, z.post_long);
  saved = z.saved;
  rounds = length-append pre (h ∷ post) ∙ (let c : length pre + length post ≡ last = z.count in omega arith);
  guesses = z.guesses;
}

-- the row of the round is one of those before the next
pub zip_next : (n last : ℕ) (pre post S : List (List Bool)) (g h : List Bool) → Zip n last pre (h ∷ post) S → length g ≡ n
    → Zip n last (pre ++ g ∷ []) post S
zip_next n last pre post S g h z e = record {
  pre_long = long-append n pre (g ∷ []) z.pre_long (e, tt);
  post_long = z.post_long.1;
  saved = z.saved;
  count =
      (let a : length (pre ++ g ∷ []) ≡ length pre + 1 = length-append pre (g ∷ []) in
      let c : length pre + suc (length post) ≡ last = z.count in omega arith);
  guesses = z.guesses;
}

-- one more row
pub length-next : (pre : List (List Bool)) (g : List Bool) → length (pre ++ g ∷ []) ≡ suc (length pre)
length-next pre g = length-append pre (g ∷ []) ∙ omega arith

-- where a thread is in the rows: those before, the globals in its round, and that all fit, with those after
pub record Seat (n last : ℕ) (S post : List (List Bool)) : Type 0 where
  pub pre : List (List Bool)
  pub g : List Bool
  pub zip : Zip n last pre post S
  pub long : length g ≡ n

-- the same place, with other globals
abbrev pub reseat : {n last : ℕ} {S post : List (List Bool)} (r : Seat n last S post) (h : List Bool) → length h ≡ n
    → Seat n last S post
reseat r h e = record { pre = r.pre; g = h; zip = r.zip; long = e }

-- the place one row on
abbrev pub next_seat : {n last : ℕ} {S post : List (List Bool)} {h : List Bool} (r : Seat n last S (h ∷ post)) → Seat n last S post
next_seat {n} {last} {S} {post} {h} r = record {
  pre = r.pre ++ r.g ∷ [];
  g = h;
  zip = zip_next n last r.pre post S r.g h r.zip r.long;
  long = r.zip.post_long.0;
}

-- the globals of the rewritten program in the thread's round
abbrev pub moment : {n last : ℕ} {S post : List (List Bool)} (r : Seat n last S post) → Bool → Moment n last
moment {n} {last} {S} {post} r b = record {
  C = r.pre ++ r.g ∷ post;
  S = S;
  q = length r.pre;
  b = b;
  shape = zip_shape n last r.pre post S r.g r.zip r.long;
  within = (let c : length r.pre + length post ≡ last = r.zip.count in omega arith);
}

-- Where the rewritten program is in a thread: every frame at the start of its rest, or a caller after its call,
-- whose global has still to get the value, while in the source the frame called is finished.
pub data Stand : Type 0 where
  level : List Both → Stand
  landing : Activation → Activation → ℕ → Code → List Both → Stand

-- the open calls of the source
abbrev pub frames_of : Stand → List Both
frames_of (level bs) = bs
frames_of (landing a d i t bs) = both a done ∷ awaiting d (global i) t ∷ bs

module _ (setting : Setting) (S : List (List Bool)) (m : Code) (Q : State → Type 0)
    (single : (g : List Bool) (f f' : Frame) (fs : List Frame) → Q (state g (f ∷ f' ∷ fs)) → ⊥) where
  open setting use {p, last, fits, small, w, isw}

  -- a place in rows of this program
  abbrev Seated : List (List Bool) → Type 0
  Seated post = Seat p.globals last S post

  -- where a run of the rewritten program is
  abbrev put_stand : Stand → List Frame
  put_stand (level bs) = stack p last bs m
  put_stand (landing a d i t bs) =
      top p last (given (bit a.more 0) (Some (global i)) d)
      (received (places p.globals last d.own) last (global i) (put_rest p last d.own t)) bs m

  -- each frame fits
  abbrev GoodStand : Stand → Type 0
  GoodStand (level bs) = GoodStack p last bs
  GoodStand (landing a d i t bs) = AllGood p last (frames_of (landing a d i t bs))

  -- the run comes down to the first procedure
  pub record Down (pre post : List (List Bool)) : Type 0 where
    pub left : ℕ
    pub g' : List Bool
    pub post' : List (List Bool)
    pub long : length g' ≡ p.globals
    pub post_long : Long p.globals post'
    pub same : length post' ≡ length post
    pub round : ℕ
    pub stop : Bool
    pub bad : Bool
    pub run : PlainAfter w left (state (lay (pre ++ g' ∷ post') S (bits_of last round stop bad)) (frame 0 [] m ∷ [])) Q

  -- so many steps bring the run down to the first procedure, and the thread has made its turns
  pub record Ends (N : ℕ) (post : List (List Bool)) (r : Seat p.globals last S post) (b : Bool) (s : List Frame) : Type 0 where
    pub down : Down r.pre post
    pub open down use *
    pub fewer : left ≤ N
    pub turns : ((bad ≡ b) × ((s' : List Frame) × Turns p (r.g ∷ post) s (g' ∷ post') s'))
        ⊎ ((bad ≡ true) × FailTurns p (r.g ∷ post) s (g' ∷ post'))

  -- what is claimed of runs of fewer than f steps, from where the top frame is at the start of its rest
  abbrev Rec : ℕ → Type 0
  Rec f = (N : ℕ) → N < f → (post : List (List Bool)) (r : Seated post) (b : Bool) (s : Stand) → GoodStand s
      → PlainAfter w N (state (globals_at (moment r b)) (put_stand s)) Q → Ends N post r b (map source (frames_of s))

  -- what ends the run ends a longer one
  longer : (N M : ℕ) → M ≤ N → (post : List (List Bool)) (r : Seated post) (b : Bool) (s : List Frame) → Ends M post r b s
      → Ends N post r b s
  longer N M le post r b s e = record {
    down = e.down;
    fewer = (let k : e.left ≤ M = e.fewer in omega arith);
    turns = e.turns;
  }

  -- what ends the run ends it from a step before
  after_step : (N : ℕ) (post : List (List Bool)) (r : Seated post) (h : List Bool) (eh : length h ≡ p.globals) (b : Bool)
      (s t : List Frame) → StepsTo p (state r.g s) (λ u. u ≡ state h t) → Ends N post (reseat r h eh) b t → Ends N post r b s
  after_step N post r h eh b s t step e = record {
    down = e.down;
    fewer = e.fewer;
    turns = elim e.turns [
      | inl (eb, (s', ts)) ↦ inl (eb, (s', step_turns p r.g h post s t e.g' e.post' s' step ts))
      | inr (eb, ts) ↦ inr (eb, step_fails p r.g h post s t e.g' e.post' step ts)
    ];
  }

  -- what ends the run from the next row ends it from this one
  after_row : (N : ℕ) (h : List Bool) (post : List (List Bool)) (r : Seated (h ∷ post)) (b : Bool) (s : List Frame)
      → Ends N post (next_seat r) b s → Ends N (h ∷ post) r b s
  after_row N h post r b s e = record {
    down = record {
      left = e.left;
      g' = r.g;
      post' = e.g' ∷ e.post';
      long = r.long;
      post_long = (e.long, e.post_long);
      same = ap suc e.same;
      round = e.round;
      stop = e.stop;
      bad = e.bad;
      run =
          subst (λ z. PlainAfter w e.left (state (lay z S (bits_of last e.round e.stop e.bad)) (frame 0 [] m ∷ [])) Q)
          (append_assoc r.pre (r.g ∷ []) (e.g' ∷ e.post')) e.run;
    };
    fewer = e.fewer;
    turns = elim e.turns [
      | inl (eb, (s', ts)) ↦ inl (eb, (s', (s, no_steps p (state r.g s), ts)))
      | inr (eb, ts) ↦ inr (eb, inr (s, no_steps p (state r.g s), ts))
    ];
  }

  -- the first procedure is on top, and the rows are as they were
  abbrev down_here : (N : ℕ) (post : List (List Bool)) (r : Seated post) (q : ℕ) (s b : Bool)
      → PlainAfter w N (state (lay (r.pre ++ r.g ∷ post) S (bits_of last q s b)) (frame 0 [] m ∷ [])) Q → Down r.pre post
  down_here N post r q s b run = record {
    left = N;
    g' = r.g;
    post' = post;
    long = r.long;
    post_long = r.zip.post_long;
    same = refl;
    round = q;
    stop = s;
    bad = b;
    run = run;
  }

  -- the thread stops where it is
  ended : (N : ℕ) (post : List (List Bool)) (r : Seated post) (q : ℕ) (s b : Bool) (fs : List Frame)
      → PlainAfter w N (state (lay (r.pre ++ r.g ∷ post) S (bits_of last q s b)) (frame 0 [] m ∷ [])) Q → Ends N post r b fs
  ended N post r q s b fs run =
      record { down = down_here N post r q s b run; fewer = omega arith; turns = inl (refl, (fs, idle p (r.g ∷ post) fs)) }

  module _ (f : ℕ) (rec : Rec f) where
    -- a run that begins with a step of the source, or with its failure
    begun : (N : ℕ) → N ≤ f → (post : List (List Bool)) (r : Seated post) (b : Bool) (a : Activation) (rest : Code) (bs : List Both)
        → Begins setting (moment r b) m Q single N a rest bs → Ends N post r b (map source (both a rest ∷ bs))
    begun N le post r b a rest bs (moved h bs' eh good step (M, lt, run)) =
        let here : List Frame = map source (both a rest ∷ bs) in
        let step' : StepsTo p (state r.g here) (λ u. u ≡ state h (map source bs')) =
        subst (λ y. StepsTo p (state y here) (λ u. u ≡ state h (map source bs'))) (get_or-append_seam r.pre r.g post []) step in
        let run' : PlainAfter w M (state (globals_at (moment (reseat r h eh) b)) (stack p last bs' m)) Q =
        subst (λ y. PlainAfter w M (state (lay y S (bits_of last (length r.pre) false b)) (stack p last bs' m)) Q)
        (with_middle r.pre r.g h post) run in
        longer N M (omega arith) post r b here
        (after_step M post r h eh b here (map source bs') step' (rec M (omega arith) post (reseat r h eh) b (level bs') good run'))
    begun N le post r b a rest bs (failed fails (M, lt, run)) =
        let here : List Frame = map source (both a rest ∷ bs) in
        let fails' : Fails (state r.g here) = subst (λ y. Fails (state y here)) (get_or-append_seam r.pre r.g post []) fails in
        let (M', lt', run') =
        unwind_back setting (moment r b) m Q single (suc a.c) (put_values a) bs (length r.pre) true M run in
        longer N M' (omega arith) post r b here (record {
          down = down_here M' post r (length r.pre) true true run';
          fewer = omega arith;
          turns = inr (refl, inl (here, no_steps p (state r.g here), fails', refl));
        })

    -- a run that continues in the next row
    rose_back : (N : ℕ) → N < f → (post : List (List Bool)) (r : Seated post) (b : Bool) (s : Stand) → GoodStand s
        → length r.pre < last
        → PlainAfter w N (state (lay (r.pre ++ r.g ∷ post) S (bits_of last (suc (length r.pre)) false b)) (put_stand s)) Q
        → Ends N post r b (map source (frames_of s))
    rose_back N lt [] r b s good more run = absurd (let c : length r.pre + 0 ≡ last = r.zip.count in omega arith)
    rose_back N lt (h ∷ post) r b s good more run =
        after_row N h post r b (map source (frames_of s))
        (rec N lt post (next_seat r) b s good
        (subst (λ y. PlainAfter w N (state (lay y S (bits_of last (length (r.pre ++ r.g ∷ [])) false b)) (put_stand s)) Q)
        (sym (append_assoc r.pre (r.g ∷ []) (h ∷ post)))
        (subst (λ k. PlainAfter w N (state (lay (r.pre ++ r.g ∷ h ∷ post) S (bits_of last k false b)) (put_stand s)) Q)
        (sym (length-next r.pre r.g)) run)))

    module _ (N : ℕ) (le : N ≤ f) (post : List (List Bool)) (r : Seated post) (b : Bool) where
      abbrev now : Moment p.globals last
      now = moment r b

      -- a run that has left the prologue of the top frame
      exited : (a : Activation) (rest : Code) (bs : List Both) → Good p last (both a rest) → AllGood p last bs
          → put_rest p last a.own rest ≡ prologue (places p.globals last a.own) last no_mark (inner p last a.own rest)
          → Exits w small (site p last now.C S now.shape a bs m) Q N
          (length r.pre) b (inner p last a.own rest)
          → Ends N post r b (map source (both a rest ∷ bs))
      exited a rest bs h good is (rose more (M, lt, run)) =
          longer N M (omega (arith, le)) post r b (map source (both a rest ∷ bs))
          (rose_back M (omega (arith, le)) post r b (level (both a rest ∷ bs)) (refl, h, good) more
          (subst
          (λ t. PlainAfter w M
          (state (lay now.C S (bits_of last (suc (length r.pre)) false b)) (top p last a t bs m)) Q)
          (sym is) run))
      exited a rest bs h good is (went (M, lt, run)) =
          longer N M (omega arith) post r b (map source (both a rest ∷ bs))
          (begun M (omega (arith, le)) post r b a rest bs (step_back setting now m Q single bs good M a rest h is run))
      exited a rest bs h good is (stopped (M, lt, run)) =
          let (M', lt', run') = unwind_back setting now m Q single (suc a.c) (put_values a) bs (length r.pre) b M run in
          longer N M' (omega arith) post r b (map source (both a rest ∷ bs))
          (ended M' post r (length r.pre) true b (map source (both a rest ∷ bs)) run')

      -- a run from the prologue of a frame on top
      through : (a : Activation) (t : Code) (bs : List Both)
          → PlainAfter w N (state (globals_at now)
          (top p last a (prologue (places p.globals last a.own) last no_mark t) bs m)) Q
          → Exits w small (site p last now.C S now.shape a bs m) Q N
          (length r.pre) b t
      through a t bs run =
          exits w small (site p last now.C S now.shape a bs m) Q
          (never_below setting now m Q single bs) N (length r.pre) b t now.within run

      module _ (a : Activation) (h : Good p last (both a done)) (bs : List Both) (good : AllGood p last bs) where
        -- the result of the frame that is finished
        abbrev result : Bool
        result = bit a.more 0

        -- its removal, in the source
        given_step : (d : Both) → Good p last d
            → given_back (result_of (slice_get p.routines a.c) (source_values a)) (row now.C now.q) (map source (d ∷ bs))
            ≡ state (given_globals result d.awaits (row now.C now.q))
            (map source (both (given result d.awaits d.activation) d.rest ∷ bs))
        given_step d hd =
            ap (λ v. given_back v (row now.C now.q) (map source (d ∷ bs))) (source_result p last (both a done) h)
            ∙ source_given p last result (row now.C now.q) d.activation d.awaits p.globals (temporaries is_global hd.routine.body) d.rest
            (map source bs) hd.long hd.waits

        -- a run that has left the prologue before the global gets the value
        landing_exited : (d : Activation) (i : ℕ) (t : Code) → Good p last (awaiting d (global i) t)
            → Exits w small (site p last now.C S now.shape (given result (Some (global i)) d) bs m) Q N (length r.pre) b
            (landed p.globals last d.own i (put_rest p last d.own t))
            → Ends N post r b (map source (both a done ∷ awaiting d (global i) t ∷ bs))
        landing_exited d i t hd (rose more (M, lt, run)) =
            longer N M (omega (arith, le)) post r b (map source (both a done ∷ awaiting d (global i) t ∷ bs))
            (rose_back M (omega (arith, le)) post r b (landing a d i t bs) (h, (hd, good)) more run)
        landing_exited d i t hd (went (M, lt, run)) =
            let d' : Activation = given result (Some (global i)) d in
            let there : bit d'.tmp 0 ≡ result =
            get_or-set_same d.tmp 0 result false
            (let e : length d.tmp ≡ temporaries is_global hd.routine.body + length d.more = hd.room in
            let k : 1 ≤ temporaries is_global hd.routine.body = hd.waits.1 in omega arith) in
            let (M', lt', run') =
            landed_back w p.globals last d.own (suc d.c) (callers p last bs m) Q now small d'.l d'.more d'.tmp hd.long i
            (put_rest p last d.own t) hd.waits.0 (never_below setting now m Q single bs) M run in
            longer N M (omega arith) post r b (map source (both a done ∷ awaiting d (global i) t ∷ bs))
            (begun M (omega (arith, le)) post r b a done (awaiting d (global i) t ∷ bs)
            (moved (with_bit (row now.C now.q) i result) (both d' t ∷ bs) (length-set (row now.C now.q) i result ∙ row_long now)
            (refl, given_good p last result (awaiting d (global i) t) hd, good)
            (given_step (awaiting d (global i) t) hd) (
              M',
              lt',
              subst
                  (λ v. PlainAfter w M' (state (turned now (with_bit (row now.C now.q) i v)) (stack p last (both d' t ∷ bs) m)) Q) there
                  run',
            )))
        landing_exited d i t hd (stopped (M, lt, run)) =
            let here : List Frame = map source (both a done ∷ awaiting d (global i) t ∷ bs) in
            let (M', lt', run') =
            unwind_back setting now m Q single (suc d.c) (put_values (given result (Some (global i)) d)) bs (length r.pre) b M run in
            longer N M' (omega arith) post r b here (ended M' post r (length r.pre) true b here run')

        -- a finished frame leaves, above a caller
        popped : (d : Activation) (o : Option Place) (t : Code)
            → Good p last (record { activation = d; awaits = o; rest = t })
            → PlainAfter w N
            (state (globals_at now) (top p last a done (record { activation = d; awaits = o; rest = t } ∷ bs) m)) Q
            → Ends N post r b (map source (both a done ∷ record { activation = d; awaits = o; rest = t } ∷ bs))
        popped d None t hd run =
            begun N le post r b a done (both d t ∷ bs)
            (moved_here setting now m Q single N a done (both d t ∷ bs) (both (given result None d) t ∷ bs)
            (refl, given_good p last result (both d t) hd, good) (given_step (both d t) hd)
            (pop_back setting now m Q single a h (both d t) hd bs N run))
        popped d (Some (local i)) t hd run =
            begun N le post r b a done (awaiting d (local i) t ∷ bs)
            (moved_here setting now m Q single N a done (awaiting d (local i) t ∷ bs) (both (given result (Some (local i)) d) t ∷ bs)
            (refl, given_good p last result (awaiting d (local i) t) hd, good) (given_step (awaiting d (local i) t) hd)
            (pop_back setting now m Q single a h (awaiting d (local i) t) hd bs N run))
        popped d (Some (global i)) t hd run =
            let (M, lt, run') = pop_back setting now m Q single a h (awaiting d (global i) t) hd bs N run in
            longer N M (omega arith) post r b (map source (both a done ∷ awaiting d (global i) t ∷ bs))
            (rec M (omega (arith, le)) post r b (landing a d i t bs) (h, (hd, good)) run')

      -- a finished frame leaves
      left : (a : Activation) → Good p last (both a done) → (bs : List Both) → AllGood p last bs
          → PlainAfter w N (state (globals_at now) (top p last a done bs m)) Q
          → Ends N post r b (map source (both a done ∷ bs))
      left a h [] good run =
          begun N le post r b a done []
          (moved_here setting now m Q single N a done [] [] tt refl (last_back setting now m Q single a N run))
      left a h (d ∷ bs) good run = popped a h bs good.1 d.activation d.awaits d.rest good.0 run

      -- a run from the start of the rest of the top frame
      top_back : (a : Activation) (rest : Code) (bs : List Both) → Good p last (both a rest) → AllGood p last bs
          → PlainAfter w N (state (globals_at now) (top p last a (put_rest p last a.own rest) bs m)) Q
          → Ends N post r b (map source (both a rest ∷ bs))
      top_back a done bs h good run = left a h bs good run
      top_back a (one k s t) bs h good run = exited a (one k s t) bs h good refl (through a _ bs run)
      top_back a (choose k q x y t) bs h good run = exited a (choose k q x y t) bs h good refl (through a _ bs run)
      top_back a (loop k q x t) bs h good run = exited a (loop k q x t) bs h good refl (through a _ bs run)

      -- a run from a stack, whose top frame waits for nothing
      level_back : (a : Activation) (o : Option Place) (t : Code) (bs : List Both) → o ≡ None
          → Good p last (record { activation = a; awaits = o; rest = t }) → AllGood p last bs
          → PlainAfter w N (state (globals_at now) (top p last a (put_rest p last a.own t) bs m)) Q
          → Ends N post r b (map source (record { activation = a; awaits = o; rest = t } ∷ bs))
      level_back a None t bs e h good run = top_back a t bs h good run
      level_back a (Some x) t bs e h good run = cc

      -- a run from where the thread is
      stand_back : (s : Stand) → GoodStand s → PlainAfter w N (state (globals_at now) (put_stand s)) Q
          → Ends N post r b (map source (frames_of s))
      stand_back (level []) good run = ended N post r (length r.pre) false b [] run
      stand_back (level (a ∷ bs)) good run = level_back a.activation a.awaits a.rest bs good.0 good.1 good.2 run
      stand_back (landing a d i t bs) good run =
          landing_exited a good.0 bs good.1.1 d i t good.1.0
          (through (given (bit a.more 0) (Some (global i)) d) (landed p.globals last d.own i (put_rest p last d.own t)) bs run)

  -- a run of the rewritten thread is the thread's turns
  pub thread_back : (f : ℕ) → Rec f
  thread_back zero N lt post r b s good run = absurd (omega arith)
  thread_back (suc f) N lt post r b s good run = stand_back f (thread_back f) N (omega arith) post r b s good run
