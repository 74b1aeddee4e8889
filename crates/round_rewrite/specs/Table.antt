-- The rewriting for K rounds, as one table over trees. Rounds count from 0 here; `last` is the last
-- of them. (Only the idea, to guess the globals of later rounds and to check the guesses at the end, is that
-- of Lal and Reps 2008.)
use Rattle.std.specs.Prelude.{ℕ, zero, suc, ◌/◌, ◌%◌, Bool, true, false, List, [], ◌∷◌, ◌++◌, Option, Some, None, map}
use Rattle.std.specs.Prelude.{reverse, cond, max}
use Rattle.language.specs.Tree.{Expression, const, var, negation, two, or, xor, and, equal, RightSide, any, value, Simple, skip, assign}
use Rattle.language.specs.Tree.{assert, assume, goto, leave, call, leave_with, call_for, Mark, Block, done, one, choose, loop}
use Rattle.language.specs.Parts as parts
use Rattle.language.specs.Parts.{Head, sides_of}
use Rattle.trees.specs.Parts.{assigned_by, receiver_of}
pub use Rattle.language.specs.Sequential.{numbers}
use Rattle.language.specs.Rest.{join}

-- How the rewritten program writes its variables W, where those of the source are V. The names of one
-- procedure: `is_shared` says of a variable that it is a global, `copy` and `save` write the copy of a
-- global for a round and the guess saved for a round, `kept` writes a formal or local, `drawn` a temporary
-- by its number from 0. `bits` are the bits of the round, the low bit first, by the last round. Procedures are P in
-- the source, Q in the rewritten program, and `called` writes one.
pub record Naming (V W P Q : Type 0) : Type 0 where
  pub is_shared : V → Bool
  pub copy : ℕ → V → W
  pub save : ℕ → V → W
  pub kept : V → W
  pub drawn : ℕ → W
  pub bits : ℕ → List W
  pub stop : W
  pub bad : W
  pub called : P → Q

-- a mark without a label
abbrev pub no_mark : {L : Type 0} → Mark L
no_mark = record { label = None; at = 0 }

-- the variable, or its negation
abbrev pub literal : {W : Type 0} → ℕ → W → Expression W
literal zero bit = negation (var bit)
literal (suc n) bit = var bit

-- the bits, the low bit first, have the value k
abbrev pub has_value : {W : Type 0} → ℕ → List W → Expression W
has_value k [] = const true
has_value k (low ∷ []) = literal (k % 2) low
has_value k (low ∷ next ∷ bits) = two and (has_value (k / 2) (next ∷ bits)) (literal (k % 2) low)

-- the right sides that add 1 to bits, the low bit first, where the carry comes from the bits below
abbrev pub added : {W : Type 0} → Expression W → List W → List (RightSide W)
added carry [] = []
added carry (bit ∷ bits) = value (two xor (var bit) carry) ∷ added (two and (var bit) carry) bits

-- the right sides that add 1 to bits, the low bit first
abbrev pub raised : {W : Type 0} → List W → List (RightSide W)
raised [] = []
raised (low ∷ bits) = value (negation (var low)) ∷ added (var low) bits

-- as many right sides as variables, all the same
abbrev pub each : {W R : Type 0} → R → List W → List R
each r ws = map (λ w. r) ws

-- how many `?` with a global target an assignment has: it draws that many temporaries
abbrev pub draws : {V : Type 0} → (V → Bool) → List V → List (RightSide V) → ℕ
draws is_shared [] rs = 0
draws is_shared (x ∷ xs) [] = 0
draws is_shared (x ∷ xs) (any ∷ rs) = cond (is_shared x) (suc (draws is_shared xs rs)) (draws is_shared xs rs)
draws is_shared (x ∷ xs) (value operand ∷ rs) = draws is_shared xs rs

-- how many temporaries the value of a call takes: one if a global gets it
abbrev pub receiver_draws : {V : Type 0} → (V → Bool) → Option V → ℕ
receiver_draws is_shared None = 0
receiver_draws is_shared (Some x) = cond (is_shared x) 1 0

-- how many temporaries a statement needs, without those that it holds
abbrev pub draws_of : {V P L : Type 0} → (V → Bool) → Head V P L → ℕ
draws_of is_shared head = max (receiver_draws is_shared (receiver_of head)) (draws is_shared (assigned_by head) (sides_of head))

-- how many temporaries a block needs
abbrev pub temporaries : {V P L : Type 0} → (V → Bool) → Block V P L → ℕ
temporaries is_shared done = 0
temporaries is_shared (one mark simple rest) = max (draws_of is_shared (parts.plain simple)) (temporaries is_shared rest)
temporaries is_shared (choose mark right_side if_true if_false rest) =
    max (temporaries is_shared if_true) (max (temporaries is_shared if_false) (temporaries is_shared rest))
temporaries is_shared (loop mark right_side body rest) = max (temporaries is_shared body) (temporaries is_shared rest)

module _ {V W P Q : Type 0} (naming : Naming V W P Q) (last : ℕ) where
  -- the round is this one
  abbrev pub in_round : ℕ → Expression W
  in_round round = has_value round (naming.bits last)

  -- the copy of a variable for the round, if the round is at most this one
  abbrev pub read_by_round : ℕ → V → Expression W
  read_by_round zero variable = two and (in_round 0) (var (naming.copy 0 variable))
  read_by_round (suc round) variable =
      two or (read_by_round round variable) (two and (in_round (suc round)) (var (naming.copy (suc round) variable)))

  -- a read of a variable: of a global the copy for the round, of a local itself
  abbrev pub read : V → Expression W
  read variable = cond (naming.is_shared variable) (read_by_round last variable) (var (naming.kept variable))

  -- an expression, with each read rewritten in this way
  abbrev pub expression_form : Expression V → Expression W
  expression_form (const truth) = const truth
  expression_form (var variable) = read variable
  expression_form (negation operand) = negation (expression_form operand)
  expression_form (two operator left right) = two operator (expression_form left) (expression_form right)

  -- a right side, with each read rewritten in this way
  abbrev pub side : RightSide V → RightSide W
  side any = any
  side (value operand) = value (expression_form operand)

  -- what the copies of a variable get that is assigned: in the round this, in every other its own value
  abbrev pub copy_value : Expression W → V → ℕ → RightSide W
  copy_value operand variable round =
      value (two or (two and (in_round round) operand) (two and (negation (in_round round)) (var (naming.copy round variable))))

  -- the rounds
  abbrev pub all_rounds : List ℕ
  all_rounds = numbers 0 (suc last)

  -- the targets of an assignment: all copies of a global, a local itself; the right sides begin with temporary j
  abbrev pub targets : List V → List (RightSide V) → List W
  targets [] rs = []
  targets (x ∷ xs) [] = []
  targets (x ∷ xs) (right_side ∷ right_sides) =
      cond (naming.is_shared x) (map (λ k. naming.copy k x) all_rounds ++ targets xs right_sides) (naming.kept x ∷ targets xs right_sides)

  -- the right sides to those targets
  abbrev pub sides : ℕ → List V → List (RightSide V) → List (RightSide W)
  sides j [] rs = []
  sides j (x ∷ xs) [] = []
  sides j (x ∷ xs) (any ∷ rs) =
      cond (naming.is_shared x) (map (copy_value (var (naming.drawn j)) x) all_rounds ++ sides (suc j) xs rs) (any ∷ sides j xs rs)
  sides j (x ∷ xs) (value operand ∷ rs) =
      cond (naming.is_shared x) (map (copy_value (expression_form operand) x) all_rounds ++ sides j xs rs)
      (value (expression_form operand) ∷ sides j xs rs)

  -- what the value of a call goes to: a global's to the first temporary, a local's to the local itself
  abbrev pub receiver : V → W
  receiver x = cond (naming.is_shared x) (naming.drawn 0) (naming.kept x)

  -- what is set to 0 before a thread starts: the bits of the round, and `stop`
  abbrev pub reset_targets : List W
  reset_targets = reverse (naming.bits last) ++ naming.stop ∷ []

  module _ {L : Type 0} where
    -- the draw of a given number of temporaries, if any
    abbrev pub drawing : ℕ → Block W Q L → Block W Q L
    drawing zero rest = rest
    drawing (suc n) rest =
        one no_mark (assign (map naming.drawn (numbers 0 (suc n))) (each any (numbers 0 (suc n)))) rest

    -- continue if `stop` is 0, otherwise leave
    abbrev pub stop_test : Block W Q L → Block W Q L
    stop_test rest = choose no_mark (value (var naming.stop)) (one no_mark leave done) (one no_mark skip done) rest

    -- the body of the prologue's loop: on to the next round, if there is one
    abbrev pub rise : Block W Q L
    rise =
        one no_mark (assume (value (negation (in_round last))))
        (one no_mark (assign (reverse (naming.bits last)) (reverse (raised (naming.bits last)))) done)

    -- the prologue: rise by any number of rounds, stop or not, and leave if `stop` is 1
    abbrev pub prologue : Mark L → Block W Q L → Block W Q L
    prologue mark rest =
        loop mark any rise
        (choose no_mark any (one no_mark (assign (naming.stop ∷ []) (value (const true) ∷ [])) done) (one no_mark skip done)
        (stop_test rest))

    -- After the call whose value a global gets: in a round that may be a later one, the global gets what the call
    -- has left in the first temporary.
    abbrev pub received : V → Block W Q L → Block W Q L
    received x rest =
        prologue no_mark
        (one no_mark (assign (map (λ k. naming.copy k x) all_rounds) (map (copy_value (var (naming.drawn 0)) x) all_rounds)) rest)

    -- a statement that holds no others, after its prologue
    abbrev pub statement : Simple V P L → Block W Q L → Block W Q L
    statement skip rest = one no_mark skip rest
    statement (assign xs rs) rest = drawing (draws naming.is_shared xs rs) (one no_mark (assign (targets xs rs) (sides 0 xs rs)) rest)
    statement (assert right_side) rest =
        choose no_mark (side right_side) (one no_mark skip done)
        (one no_mark (assign (naming.bad ∷ naming.stop ∷ []) (value (const true) ∷ value (const true) ∷ []))
        (one no_mark leave done)) rest
    statement (assume right_side) rest = one no_mark (assume (side right_side)) rest
    statement (goto label) rest = one no_mark (goto label) rest
    statement leave rest = one no_mark leave rest
    statement (call callee es) rest = one no_mark (call (naming.called callee) (map expression_form es)) (stop_test rest)
    statement (leave_with operand) rest = one no_mark (leave_with (expression_form operand)) rest
    statement (call_for x callee es) rest =
        one no_mark (call_for (receiver x) (naming.called callee) (map expression_form es))
        (stop_test (cond (naming.is_shared x) (received x rest) rest))

    -- the rewritten block
    abbrev pub rewritten : Block V P L → Block W Q L
    rewritten done = done
    rewritten (one mark simple rest) = prologue mark (statement simple (rewritten rest))
    rewritten (choose mark right_side if_true if_false rest) =
        prologue mark (choose no_mark (side right_side) (rewritten if_true) (rewritten if_false) (rewritten rest))
    rewritten (loop mark right_side body rest) =
        prologue mark (loop no_mark (side right_side) (join (rewritten body) (prologue no_mark done)) (rewritten rest))

    -- the guess of the globals for one round, saved
    abbrev pub guess : List V → ℕ → Block W Q L → Block W Q L
    guess [] round rest = rest
    guess (variable ∷ variables) round rest =
        one no_mark (assign (map (naming.copy round) (variable ∷ variables)) (each any (variable ∷ variables)))
        (one no_mark
        (assign (map (naming.save round) (variable ∷ variables)) (map (λ y. value (var (naming.copy round y))) (variable ∷ variables)))
        rest)

    -- the guesses for several rounds
    abbrev pub guesses : List V → List ℕ → Block W Q L → Block W Q L
    guesses xs [] rest = rest
    guesses xs (round ∷ ks) rest = guess xs round (guesses xs ks rest)

    -- the threads, one after the other, each from round 0
    abbrev pub starts : List P → Block W Q L → Block W Q L
    starts [] rest = rest
    starts (callee ∷ callees) rest =
        one no_mark (assign reset_targets (each (value (const false)) reset_targets))
        (one no_mark (call (naming.called callee) []) (starts callees rest))

    -- the check that a round ended with the guess for the round after it
    abbrev pub check : List V → ℕ → Block W Q L → Block W Q L
    check [] round rest = rest
    check (variable ∷ variables) round rest =
        one no_mark (assume (value (two equal (var (naming.save (suc round) variable)) (var (naming.copy round variable)))))
        (check variables round rest)

    -- the checks of several rounds
    abbrev pub checks : List V → List ℕ → Block W Q L → Block W Q L
    checks xs [] rest = rest
    checks xs (round ∷ ks) rest = check xs round (checks xs ks rest)

    -- the body of the first procedure
    abbrev pub main : List V → List P → Block W Q L
    main xs ps = guesses xs (numbers 1 last) (starts ps (checks xs (numbers 0 last) done))

  -- the globals written for these rounds, round by round
  abbrev pub copied : (ℕ → V → W) → List V → List ℕ → List W
  copied write xs [] = []
  copied write xs (round ∷ ks) = map (write round) xs ++ copied write xs ks

  -- the globals in order: the copies round by round, the guesses saved, the round's bits, stop, bad
  abbrev pub globals : List V → List W
  globals xs =
      copied naming.copy xs all_rounds ++ copied naming.save xs (numbers 1 last) ++ reverse (naming.bits last)
      ++ naming.stop ∷ naming.bad ∷ []
