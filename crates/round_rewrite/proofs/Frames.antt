-- A stack of the source and the temporaries together give the rewritten stack.
use Rattle.std.proofs.Common.{◌≡◌, ℕ, zero, suc, ◌+◌, ◌-◌, ◌*◌, ◌<◌, ◌≤◌, max, Bool, true, false, cond, List}
use Rattle.std.proofs.Common.{[], ◌∷◌, ◌++◌, length, map, Option, Some, None, option_map, slice_get, refl, sym, ◌∙◌, ap}
use Rattle.std.proofs.Common.{ap₂, arith, add_assoc, ◌⊎◌, inl, inr, append_assoc}
use Rattle.std.proofs.lemmas.List.{get_or-set_same, get_or-set_other, set_past, length-set, set-append_left}
use Rattle.language.specs.Tree.{Expression, Simple, assign, call_for, Mark, done, one, choose, loop, RightSide}
use Rattle.language.specs.Value.{Place, global, local, bit, with_bit, written_locals}
use Rattle.language.specs.Rest.{Label, Code, join, rest_from, first_of_two, has_label}
use Rattle.language.specs.Step.{Routine, Program, Frame, frame, state, zeros, fresh, frame_size, result_of, with_result, given_back}
use Rattle.language.specs.Flow.{caller_frame}
use Rattle.round_rewrite.specs.Table.{no_mark, receiver_draws, draws, temporaries, side, prologue, statement, stop_test, received, receiver}
use Rattle.round_rewrite.specs.Table.{draws_of}
use Rattle.language.specs.Parts as parts
use Rattle.round_rewrite.specs.Places.{places, is_global}
use Rattle.round_rewrite.specs.Limits.{most_rounds}
use Rattle.resolved.specs.Scoped.{SimpleInScope, SideInScope, PlaceInScope, Throughout, FitsScopes}
use Rattle.round_rewrite.proofs.Plain.{World}
use Rattle.round_rewrite.proofs.Blocks.{put}
use Rattle.round_rewrite.proofs.LayoutLemmas.{Shape, bit_right, with_right}
use Rattle.round_rewrite.proofs.Prologue.{Site}

-- in scope, with room for a given number of temporaries
abbrev pub Roomy : List Routine → ℕ → ℕ → ℕ → Simple Place ℕ Label → Type 0
Roomy routines n own d s = SimpleInScope routines n own s × (draws_of is_global (parts.plain s) ≤ d)

-- each statement of a block is in scope and has room for its temporaries
abbrev pub Fits : List Routine → ℕ → ℕ → ℕ → Code → Type 0
Fits routines n own d b = Throughout (Roomy routines n own d) (SideInScope n own) b

-- what holds throughout two blocks holds throughout both, joined
pub throughout-join : (S : Simple Place ℕ Label → Type 0) (R : RightSide Place → Type 0) (a b : Code) → Throughout S R a
    → Throughout S R b
    → Throughout S R (join a b)
throughout-join S R done b ha hb = hb
throughout-join S R (one m s t) b ha hb = (ha.0, throughout-join S R t b ha.1 hb)
throughout-join S R (choose m r x y t) b ha hb = (ha.0, ha.1, ha.2, throughout-join S R t b ha.3 hb)
throughout-join S R (loop m r x t) b ha hb = (ha.0, ha.1, throughout-join S R t b ha.2 hb)

-- what is found has a property of all that is there
abbrev pub IfThere : (Code → Type 0) → Option Code → Type 0
IfThere P None = Unit {0}
IfThere P (Some c) = P c

there_cond : (P : Code → Type 0) (c : Bool) (x : Code) (o : Option Code) → P x → IfThere P o → IfThere P (cond c (Some x) o)
there_cond P true x o h k = h
there_cond P false x o h k = k

there_first : (P : Code → Type 0) (o u : Option Code) → IfThere P o → IfThere P u → IfThere P (first_of_two o u)
there_first P None u h k = k
there_first P (Some x) u h k = h

-- what holds throughout a body holds throughout each rest that a jump finds
pub throughout-rest : (S : Simple Place ℕ Label → Type 0) (R : RightSide Place → Type 0) (x : Label) (b k : Code) → Throughout S R b
    → Throughout S R k → IfThere (Throughout S R) (rest_from x b k)
throughout-rest S R x done k hb hk = tt
throughout-rest S R x (one m s t) k hb hk =
    there_cond (Throughout S R) (has_label x m) _ _ (hb.0, throughout-join S R t k hb.1 hk) (throughout-rest S R x t k hb.1 hk)
throughout-rest S R x (choose m r a b t) k hb hk =
    let after : Throughout S R (join t k) = throughout-join S R t k hb.3 hk in
    there_cond (Throughout S R) (has_label x m) _ _ (hb.0, hb.1, hb.2, after)
    (there_first (Throughout S R) _ _ (throughout-rest S R x a (join t k) hb.1 after)
    (there_first (Throughout S R) _ _ (throughout-rest S R x b (join t k) hb.2 after) (throughout-rest S R x t k hb.3 hk)))
throughout-rest S R x (loop m r a t) k hb hk =
    let after : Throughout S R (join t k) = throughout-join S R t k hb.2 hk in
    there_cond (Throughout S R) (has_label x m) _ _ (hb.0, hb.1, after)
    (there_first (Throughout S R) _ _ (throughout-rest S R x a (loop m r a (join t k)) hb.1 (hb.0, hb.1, after))
    (throughout-rest S R x t k hb.2 hk))

room_simple : (s : Simple Place ℕ Label) (t : Code) (m : Mark Label) (d : ℕ) → temporaries is_global (one m s t) ≤ d
    → (draws_of is_global (parts.plain s) ≤ d) × (temporaries is_global t ≤ d)
room_simple s t m d h = (omega arith, omega arith)

-- an assignment with room has room for what it draws
pub draws_room : (routines : List Routine) (n own d : ℕ) (xs : List Place) (rs : List (RightSide Place))
    → Roomy routines n own d (assign xs rs) → draws is_global xs rs ≤ d
draws_room routines n own d xs rs (scope, room) = omega arith

-- a call for a value with room has room for the value
pub takes_room : (routines : List Routine) (n own d : ℕ) (x : Place) (q : ℕ) (es : List (Expression Place))
    → Roomy routines n own d (call_for x q es) → receiver_draws is_global (Some x) ≤ d
takes_room routines n own d x q es (scope, room) = omega arith

-- a block in scope, with room for its temporaries, fits
pub roomy : (routines : List Routine) (n own d : ℕ) (b : Code) → Throughout (SimpleInScope routines n own) (SideInScope n own) b
    → temporaries is_global b ≤ d → Fits routines n own d b
roomy routines n own d done h room = tt
roomy routines n own d (one m s t) h room =
    let both = room_simple s t m d room in
    ((h.0, both.0), roomy routines n own d t h.1 both.1)
roomy routines n own d (choose m r a b t) h room = (
  h.0,
  roomy routines n own d a h.1 (omega arith),
  roomy routines n own d b h.2 (omega arith),
  roomy routines n own d t h.3 (omega arith),
)
roomy routines n own d (loop m r a t) h room =
    (h.0, roomy routines n own d a h.1 (omega arith), roomy routines n own d t h.2 (omega arith))

-- An open call: its procedure, how many places it has of its own, their values, the result after them, if the
-- procedure gives one, and what the rewritten frame has after the places: the temporaries, and the result once more.
pub record Activation : Type 0 where
  pub c : ℕ
  pub own : ℕ
  pub l : List Bool
  pub more : List Bool
  pub tmp : List Bool

-- an open call, the variable that gets the value of its own call, if it waits for one, and what it has left to do: a
-- frame of the source with the temporaries
pub record Both : Type 0 where
  pub activation : Activation
  pub open activation use *
  pub awaits : Option Place
  pub rest : Code

-- an open call that waits for nothing
abbrev pub both : Activation → Code → Both
both a rest = record { activation = a; awaits = None; rest = rest }

-- an open call that waits for a value
abbrev pub awaiting : Activation → Place → Code → Both
awaiting a x rest = record { activation = a; awaits = Some x; rest = rest }

-- how many values a frame has for the result
abbrev pub results : Routine → ℕ
results r = cond r.gives 1 0

-- a call that begins with these values
abbrev pub entered : ℕ → Routine → List Bool → Both
entered q r vs =
    both
    (record {
      c = q;
      own = r.places;
      l = fresh r.places vs;
      more = zeros (results r);
      tmp = zeros (temporaries is_global r.body + results r);
    })
    r.body

-- the values of the source's frame
abbrev pub source_values : Activation → List Bool
source_values a = a.l ++ a.more

-- those of the rewritten frame
abbrev pub put_values : Activation → List Bool
put_values a = a.l ++ a.tmp

-- the frame of the source
abbrev pub source : Both → Frame
source b = caller_frame b.c (source_values b.activation) b.awaits b.rest

-- a caller's places when the value that it waits for is there
abbrev pub given_places : Bool → Option Place → List Bool → List Bool
given_places v None l = l
given_places v (Some (local i)) l = with_bit l i v
given_places v (Some (global i)) l = l

-- its temporaries: the first one has the value for a global
abbrev pub given_temporaries : Bool → Option Place → List Bool → List Bool
given_temporaries v None tmp = tmp
given_temporaries v (Some (local i)) tmp = tmp
given_temporaries v (Some (global i)) tmp = with_bit tmp 0 v

-- the open call when the value that it waits for is there
abbrev pub given : Bool → Option Place → Activation → Activation
given v o a = record a { l = given_places v o a.l; tmp = given_temporaries v o a.tmp }

-- the globals when the source's frame has got the value
abbrev pub given_globals : Bool → Option Place → List Bool → List Bool
given_globals v None g = g
given_globals v (Some (local i)) g = g
given_globals v (Some (global i)) g = with_bit g i v

-- these values when the variable has got the value
abbrev pub given_values : Option Place → Bool → List Bool → List Bool
given_values None v L = L
given_values (Some x) v L = written_locals (x ∷ []) (v ∷ []) L

-- the variable is in scope, and the first temporary is there if it is a global
abbrev pub Waits : ℕ → ℕ → ℕ → Option Place → Type 0
Waits n own d None = Unit {0}
Waits n own d (Some x) = PlaceInScope n own x × (receiver_draws is_global (Some x) ≤ d)

module _ (p : Program) (last : ℕ) where
  -- the frame is one of a procedure that is there, and fits; both results are the same
  pub record Good (b : Both) : Type 0 where
    pub routine : Routine
    pub there : slice_get p.routines b.c ≡ Some routine
    pub own_is : routine.places ≡ b.own
    pub long : length b.l ≡ b.own
    pub gives : length b.more ≡ results routine
    pub room : length b.tmp ≡ temporaries is_global routine.body + length b.more
    pub result : bit b.tmp (temporaries is_global routine.body) ≡ bit b.more 0
    pub waits : Waits p.globals b.own (temporaries is_global routine.body) b.awaits
    pub fits : Fits p.routines p.globals b.own (temporaries is_global routine.body) b.rest

  -- the same for all frames
  abbrev pub AllGood : List Both → Type 0
  AllGood [] = Unit {0}
  AllGood (b ∷ bs) = Good b × AllGood bs

  -- the same for a whole stack, whose top frame waits for nothing
  abbrev pub GoodStack : List Both → Type 0
  GoodStack [] = Unit {0}
  GoodStack (b ∷ bs) = (b.awaits ≡ None) × Good b × AllGood bs

  -- a rest, rewritten
  abbrev pub put_rest : ℕ → Code → Code
  put_rest own rest = put (places p.globals last own) last rest

  -- the rewritten rest after its prologue
  abbrev pub inner : ℕ → Code → Code
  inner own done = done
  inner own (one k s t) = statement (places p.globals last own) last s (put_rest own t)
  inner own (choose k r x y t) =
      choose no_mark (side (places p.globals last own) last r) (put_rest own x) (put_rest own y) (put_rest own t)
  inner own (loop k r x t) =
      loop no_mark (side (places p.globals last own) last r)
      (join (put_rest own x) (prologue (places p.globals last own) last no_mark done)) (put_rest own t)

  -- what a caller has to do after its test of `stop`: if a global waits, it gets the value first
  abbrev pub behind : ℕ → Option Place → Code → Code
  behind own None t = t
  behind own (Some x) t = cond (is_global x) (received (places p.globals last own) last x t) t

  -- the variable of the rewritten program that gets the value
  abbrev pub put_target : ℕ → Option Place → Option Place
  put_target own None = None
  put_target own (Some x) = Some (receiver (places p.globals last own) last x)

  -- the rewritten frames below the top one: each tests `stop` when it continues
  abbrev pub callers : List Both → Code → List Frame
  callers [] m = frame 0 [] m ∷ []
  callers (b ∷ bs) m =
      caller_frame (suc b.c) (put_values b.activation) (put_target b.own b.awaits)
      (stop_test (places p.globals last b.own) last (behind b.own b.awaits (put_rest b.own b.rest))) ∷ callers bs m

  -- the rewritten frames, if the top one has this to do
  abbrev pub top : Activation → Code → List Both → Code → List Frame
  top a rest bs m = frame (suc a.c) (put_values a) rest ∷ callers bs m

  -- the top frame of a rewritten stack, over these rows and saved guesses
  abbrev pub site : (C S : List (List Bool)) → Shape p.globals last C S → Activation → List Both → Code → Site p.globals last
  site C S shape a bs m =
      record { C = C; S = S; shape = shape; c = suc a.c; own = a.own; L = put_values a; fs = callers bs m }

  -- the same for a caller that has got a value, whatever it is
  abbrev pub frame_site : (C S : List (List Bool)) → Shape p.globals last C S → Both → List Bool → List Both → Code
      → Site p.globals last
  frame_site C S shape d L bs m =
      record { C = C; S = S; shape = shape; c = suc d.c; own = d.own; L = L; fs = callers bs m }

  -- the rewritten stack, where `m` is what the first procedure has left to do
  abbrev pub stack : List Both → Code → List Frame
  stack [] m = frame 0 [] m ∷ []
  stack (b ∷ bs) m = top b.activation (put_rest b.own b.rest) bs m

  -- a procedure, rewritten
  abbrev pub put_routine : Routine → Routine
  put_routine r =
      record { places = r.places + temporaries is_global r.body; gives = r.gives; body = put_rest r.places r.body }

  -- the world of the rewritten program, at the procedures of the source
  pub record IsWorld (w : World) : Type 0 where
    pub enters_is : (c : ℕ) → w.enters (suc c) ≡ option_map put_routine (slice_get p.routines c)
    pub jumps_is : (c : ℕ) (r : Routine) (x : Label) → slice_get p.routines c ≡ Some r
        → w.jumps (suc c) x ≡ option_map (put_rest r.places) (rest_from x r.body done)

-- what stays the same in a run: the source, its last round, and the world of the rewritten program
pub record Setting : Type 0 where
  pub p : Program
  pub last : ℕ
  pub fits : FitsScopes p
  pub small : last < most_rounds
  pub w : World
  pub isw : IsWorld p last w

-- zeros after zeros
pub zeros-add : (a b : ℕ) → zeros (a + b) ≡ zeros a ++ zeros b
zeros-add zero b = ap zeros (Rattle.std.proofs.Common.zero-add b)
zeros-add (suc a) b = ap zeros (Rattle.std.proofs.Common.suc-add a b) ∙ ap (λ z. false ∷ z) (zeros-add a b)

-- the values of a new rewritten frame are those of a new frame of the source, and temporaries of 0
pub fresh_more : (own d : ℕ) (vs : List Bool) → length vs ≤ own → fresh (own + d) vs ≡ fresh own vs ++ zeros d
fresh_more own d vs h =
    let e : own + d - length vs ≡ (own - length vs) + d = omega arith in
    ap (λ k. vs ++ zeros k) e
    ∙ (ap (λ z. vs ++ z) (zeros-add (own - length vs) d) ∙ sym (append_assoc vs (zeros (own - length vs)) (zeros d)))

-- the result after other values
behind_places : (gives : Bool) (l more : List Bool) (i : ℕ) → i ≡ length l → length more ≡ cond gives 1 0
    → cond gives (bit (l ++ more) i) false ≡ bit more 0
behind_places true l more i e h = bit_right l more i 0 (omega arith)
behind_places false l [] i e h = refl
behind_places false l (x ∷ more) i e h = absurd (omega arith)

-- the same after temporaries
behind_temporaries : (gives : Bool) (l tmp more : List Bool) (i d : ℕ) → i ≡ length l + d → length more ≡ cond gives 1 0
    → bit tmp d ≡ bit more 0 → cond gives (bit (l ++ tmp) i) false ≡ bit more 0
behind_temporaries true l tmp more i d e h same = bit_right l tmp i d e ∙ same
behind_temporaries false l tmp [] i d e h same = refl
behind_temporaries false l tmp (x ∷ more) i d e h same = absurd (omega arith)

-- a result that is written twice is the same in both places
written_twice : (tmp more : List Bool) (d : ℕ) (v : Bool) → length tmp ≡ d + length more → bit tmp d ≡ bit more 0
    → bit (with_bit tmp d v) d ≡ bit (with_bit more 0 v) 0
written_twice tmp [] d v e same = ap (λ z. bit z d) (set_past tmp d v (omega arith)) ∙ same
written_twice tmp (x ∷ more) d v e same = get_or-set_same tmp d v false (omega arith)

module _ (p : Program) (last : ℕ) where
  -- the result of a frame of the source
  pub source_result : (b : Both) → Good p last b
      → result_of (slice_get p.routines b.c) (source_values b.activation) ≡ bit b.more 0
  source_result b h =
      ap (λ o. result_of o (source_values b.activation)) h.there
      ∙ behind_places h.routine.gives b.l b.more h.routine.places (h.own_is ∙ sym h.long) h.gives

  -- another result of a frame of the source
  pub source_with : (b : Both) → Good p last b → (v : Bool)
      → with_result (slice_get p.routines b.c) (source_values b.activation) v ≡ b.l ++ with_bit b.more 0 v
  source_with b h v =
      ap (λ o. with_result o (source_values b.activation) v) h.there
      ∙ with_right b.l b.more h.routine.places 0 v (let e : h.routine.places ≡ length b.l = h.own_is ∙ sym h.long in omega arith)

  -- the frame that waits gets the value: in the source
  pub source_given : (v : Bool) (g : List Bool) (a : Activation) (o : Option Place) (n d : ℕ) (t : Code) (fs : List Frame)
      → length a.l ≡ a.own → Waits n a.own d o
      → given_back v g (caller_frame a.c (source_values a) o t ∷ fs)
      ≡ state (given_globals v o g) (frame a.c (source_values (given v o a)) t ∷ fs)
  source_given v g a (Some (local i)) n d t fs e h =
      ap (λ z. state g (frame a.c z t ∷ fs)) (set-append_left a.l a.more i v (let k : i < a.own = h.0 in omega arith))
  source_given v g a _ n d t fs e h = refl

  -- the same in the rewritten program, whose globals stay as they are
  pub put_given : (v : Bool) (g : List Bool) (a : Activation) (o : Option Place) (n d : ℕ) (t : Code) (fs : List Frame)
      → length a.l ≡ a.own → Waits n a.own d o
      → given_back v g (caller_frame (suc a.c) (put_values a) (put_target p last a.own o) t ∷ fs)
      ≡ state g (frame (suc a.c) (put_values (given v o a)) t ∷ fs)
  put_given v g a None n d t fs e h = refl
  put_given v g a (Some (local i)) n d t fs e h =
      ap (λ z. state g (frame (suc a.c) z t ∷ fs)) (set-append_left a.l a.tmp i v (let k : i < a.own = h.0 in omega arith))
  put_given v g a (Some (global i)) n d t fs e h =
      ap (λ z. state g (frame (suc a.c) z t ∷ fs)) (with_right a.l a.tmp (a.own + 0) 0 v (ap (λ k. k + 0) (sym e)))

  -- the values of a caller when its frame has got the value, whatever it is
  abbrev pub got : Bool → Both → List Bool
  got v d = given_values (put_target p last d.own d.awaits) v (put_values d.activation)

  -- a rewritten caller gets a value: a place of its frame, or none, has it
  pub got_back : (v : Bool) (g : List Bool) (d : Both) (t : Code) (fs : List Frame)
      → given_back v g (caller_frame (suc d.c) (put_values d.activation) (put_target p last d.own d.awaits) t ∷ fs)
      ≡ state g (frame (suc d.c) (got v d) t ∷ fs)
  got_back v g d t fs = by_target d.awaits
    where
      by_target : (o : Option Place)
          → given_back v g (caller_frame (suc d.c) (put_values d.activation) (put_target p last d.own o) t ∷ fs)
          ≡ state g (frame (suc d.c) (given_values (put_target p last d.own o) v (put_values d.activation)) t ∷ fs)
      by_target None = refl
      by_target (Some (local i)) = refl
      by_target (Some (global i)) = refl

  -- an open call with other values that waits for this and then continues elsewhere in the same procedure
  pub good_as : (b : Both) (h : Good p last b) (l more tmp : List Bool) (awaits : Option Place) (rest : Code)
      → length l ≡ length b.l → length more ≡ length b.more → length tmp ≡ length b.tmp
      → bit tmp (temporaries is_global h.routine.body) ≡ bit more 0
      → Waits p.globals b.own (temporaries is_global h.routine.body) awaits
      → Fits p.routines p.globals b.own (temporaries is_global h.routine.body) rest
      → Good p last (record { activation = record b.activation { l = l; more = more; tmp = tmp }; awaits = awaits; rest = rest })
  good_as b h l more tmp awaits rest el em et same waits fits = record {
    routine = h.routine;
    there = h.there;
    own_is = h.own_is;
    long = el ∙ h.long;
    gives = em ∙ h.gives;
    room = et ∙ (h.room ∙ ap (λ k. temporaries is_global h.routine.body + k) (sym em));
    result = same;
    waits = waits;
    fits = fits;
  }

  -- a frame that has got its value fits
  pub given_good : (v : Bool) (b : Both) → Good p last b → Good p last (both (given v b.awaits b.activation) b.rest)
  given_good v b h =
      good_as b h (given_places v b.awaits b.l) b.more (given_temporaries v b.awaits b.tmp) None b.rest (length-given v b.awaits b.l) refl
      (length-temporaries v b.awaits b.tmp) (kept v b.awaits b.tmp (temporaries is_global h.routine.body) h.waits ∙ h.result) tt h.fits
    where
      length-given : (v : Bool) (o : Option Place) (l : List Bool) → length (given_places v o l) ≡ length l
      length-given v (Some (local i)) l = length-set l i v
      length-given v _ l = refl

      length-temporaries : (v : Bool) (o : Option Place) (tmp : List Bool) → length (given_temporaries v o tmp) ≡ length tmp
      length-temporaries v (Some (global i)) tmp = length-set tmp 0 v
      length-temporaries v _ tmp = refl

      kept : (v : Bool) (o : Option Place) (tmp : List Bool) (d : ℕ) → Waits p.globals b.own d o
          → bit (given_temporaries v o tmp) d ≡ bit tmp d
      kept v (Some (global i)) tmp d w = get_or-set_other tmp 0 d v false (let k : 1 ≤ d = w.1 in omega arith)
      kept v _ tmp d w = refl

-- the rewritten machine and the source's results
module _ (setting : Setting) where
  open setting use {p, last, w, isw}

  -- a procedure of the rewritten program
  put_at : (b : Both) → (h : Good p last b) → w.enters (suc b.c) ≡ Some (put_routine p last h.routine)
  put_at b h = isw.enters_is b.c ∙ ap (option_map (put_routine p last)) h.there

  -- the result of a rewritten frame is that of the source
  pub put_result : (b : Both) → Good p last b → result_of (w.enters (suc b.c)) (put_values b.activation) ≡ bit b.more 0
  put_result b h =
      let e : h.routine.places ≡ length b.l = h.own_is ∙ sym h.long in
      ap (λ o. result_of o (put_values b.activation)) (put_at b h)
      ∙ behind_temporaries h.routine.gives b.l b.tmp b.more (h.routine.places + temporaries is_global h.routine.body)
      (temporaries is_global h.routine.body) (ap (λ k. k + temporaries is_global h.routine.body) e) h.gives h.result

  -- another result of a rewritten frame
  pub put_with : (b : Both) → (h : Good p last b) → (v : Bool)
      → with_result (w.enters (suc b.c)) (put_values b.activation) v ≡ b.l ++ with_bit b.tmp (temporaries is_global h.routine.body) v
  put_with b h v =
      let e : h.routine.places ≡ length b.l = h.own_is ∙ sym h.long in
      ap (λ o. with_result o (put_values b.activation) v) (put_at b h)
      ∙ with_right b.l b.tmp (h.routine.places + temporaries is_global h.routine.body) (temporaries is_global h.routine.body) v
      (ap (λ k. k + temporaries is_global h.routine.body) e)

  -- a frame with another result, at its end
  abbrev pub resulting : (a : Activation) (rest : Code) → Good p last (both a rest) → Bool → Activation
  resulting a rest h v = record a { more = with_bit a.more 0 v; tmp = with_bit a.tmp (temporaries is_global h.routine.body) v }

  pub resulting_good : (a : Activation) (rest : Code) (h : Good p last (both a rest)) (v : Bool)
      → Good p last (both (resulting a rest h v) done)
  resulting_good a rest h v =
      good_as p last (both a rest) h a.l (with_bit a.more 0 v) (with_bit a.tmp (temporaries is_global h.routine.body) v) None done refl
      (length-set a.more 0 v) (length-set a.tmp (temporaries is_global h.routine.body) v)
      (written_twice a.tmp a.more (temporaries is_global h.routine.body) v h.room h.result) tt tt

-- the values of a new frame of the source, and those of a new rewritten frame
pub source_fresh : (r : Routine) (vs : List Bool) → length vs ≤ r.places
    → fresh (frame_size r) vs ≡ fresh r.places vs ++ zeros (results r)
source_fresh r vs h = fresh_more r.places (results r) vs h

pub put_fresh : (p : Program) (last : ℕ) (r : Routine) (vs : List Bool) → length vs ≤ r.places
    → fresh (frame_size (put_routine p last r)) vs ≡ fresh r.places vs ++ zeros (temporaries is_global r.body + results r)
put_fresh p last r vs h =
    ap (λ n. fresh n vs) (add_assoc r.places (temporaries is_global r.body) (results r))
    ∙ fresh_more r.places (temporaries is_global r.body + results r) vs h
