-- Words that the command line accepts give an order.
use Rattle.std.proofs.Common.{◌&&◌, ◌||◌, ◌∙◌, ◌∷◌, ◌≡◌, ◌≤◌, [], ap, arith, Bool, codes, cond, drop, false}
use Rattle.std.proofs.Common.{find, fold, inl, inr, is_some, List, lit<, None, not, Option, refl, Some, subst}
use Rattle.std.proofs.Common.{suc, sym, true, zero, ℕ}
use Rattle.std.specs.Prelude.{if◌then◌else◌, option_map}
use Rattle.std.specs.Option.{option_map_or}
use Rattle.std.specs.Str.{bytes_eq}
use Rattle.std.proofs.lemmas.Slice.Eq.{bytes_eq-Decides}
use Rattle.std.proofs.lemmas.Bool.{true≢false}
use Rattle.clap.specs.Lexer.{long_of, short_of}
use Rattle.clap.specs.Kinds.{check_kinds, or_else}
use Rattle.clap.specs.Walk.{after_flag, after_step, answers_to, arg_by_index, arg_by_long, bundle, done}
use Rattle.clap.specs.Walk.{Held, idle, long_met, long_or_other, Names, next, nothing_held, option}
use Rattle.clap.specs.Walk.{Outcome, plain, plain_word, positional, refused, Row, Rule, settled, short_or_plain, Step}
use Rattle.clap.specs.Walk.{subcommand, subcommand_met, subcommand_or_other, Text, to_positional, trailing, value}
use Rattle.clap.specs.Walk.{Waiting, waits, Walk, walk, walk_from, walked, walked_from, with_default, word_met}
use Rattle.clap.specs.Simple.{App, argument_words, built, built_leaf, entered, help_shape, inherited, label_of}
use Rattle.clap.specs.Simple.{marked_built, names_of, rows_at, Shape, subcommand_of, with_leaf_noted}
use Rattle.clap.specs.Takes.{is_given}
use Rattle.clap.specs.Faults.{check_fault, defaults_fault, entered_fault, fault_of, level_fault, other_fault}
use Rattle.clap.specs.Faults.{settle_fault, step_fault, turn_fault, walk_fault, word_fault}
use Rattle.clap.specs.declared.error.kind.ErrorKind.TheVariants as kind
use Rattle.clap.specs.declared.builder.value_parser.ValueParser.TheVariants.{Bool as bool}
use Rattle.round_rewrite.specs.declared.rounds.Rounds.{Rounds}
use Rattle.path_sets.specs.declared.edge_limit.EdgeLimit.{EdgeLimit}
use Rattle.round_rewrite.specs.Limits.{most_rounds}
use Rattle.round_rewrite.specs.Programs.{count_of}
use Rattle.path_sets.specs.EdgeLimits.{most_of}
use Rattle.path_sets.specs.Limits.{most_edges}
use Rattle.arguments.specs.Found.{ReadsNumber}
use Rattle.arguments.proofs.Values.{as_flag, number_read, passes, rule, wants}
use Rattle.arguments.proofs.Walks.{AreFit, AreUsable, defaulted, given_row, kept_by_defaults, level_fit, none, row_read}
use Rattle.command_line.specs.Line.{GivesOrder, bebopk, check, Orders, sequential}
use Rattle.orders.specs.declared.order.Order.{Order}
use Rattle.orders.specs.declared.order.Order.TheVariants.{Check, Sequential}

-- the step does not enter the command `help`
abbrev IsNoHelp : Step → Type 0
IsNoHelp (subcommand name) = bytes_eq name (codes "help") ≡ false
IsNoHelp _ = Unit {0}

-- the walk did not stop at the command `help`
abbrev StopsAtNoHelp : Option (Text × List Text) → Type 0
StopsAtNoHelp None = Unit {0}
StopsAtNoHelp (Some p) = bytes_eq p.0 (codes "help") ≡ false

plain_step : (c : List Rule) (waiting : Waiting) (word : Text) (h : Held) → IsNoHelp (plain_word c waiting word h).1
plain_step c (option id) word h = tt
plain_step c idle word h = tt
plain_step c positional word h = tt

flag_step : (c : List Rule) (waiting : Waiting) (word : Text) (h : Held) (o : Outcome)
    → IsNoHelp (after_flag c waiting word h o).1
flag_step c waiting word h done = tt
flag_step c waiting word h (waits id) = tt
flag_step c waiting word h plain = plain_step c waiting word h
flag_step c waiting word h refused = plain_step c waiting word h

other_step : (c : List Rule) (waiting : Waiting) (word : Text) (l : Option (Text × Option Text)) (h : Held)
    → IsNoHelp (long_or_other c waiting word l h).1
other_step c waiting word (Some p) h =
    let met = long_met c (arg_by_long c p.0) p.1 h in
    flag_step c waiting word met.0 met.1
other_step c waiting word None h = go (short_of word)
  where
    go : (o : Option Text) → IsNoHelp (short_or_plain c waiting word o h).1
    go None = plain_step c waiting word h
    go (Some flags) =
        let met = bundle c flags h in
        flag_step c waiting word met.0 met.1

module _ (s : Shape) (names : Names) (helps : s.disable_help_subcommand ≡ false) where
  word_step : (is_trailing : Bool) (waiting : Waiting) (position : ℕ) (word : Text) (h : Held)
      → word_fault s names is_trailing waiting word h ≡ []
      → IsNoHelp (word_met s.rules names is_trailing waiting position word h).1
  word_step true waiting position word h e = tt
  word_step false waiting position word h e = go (subcommand_met names waiting word) e
    where
      dashes : (b : Bool) → IsNoHelp
          (if b then (h, trailing position) else long_or_other s.rules waiting word (long_of word) h).1
      dashes true = tt
      dashes false = other_step s.rules waiting word (long_of word) h

      no_help : (b : Bool) → (if b && not false then kind.DisplayHelp ∷ kind.InvalidSubcommand ∷ [] else []) ≡ []
          → b ≡ false
      no_help true e = cc
      no_help false e = refl

      go : (o : Option Text) → other_fault s o word h ≡ []
          → IsNoHelp (subcommand_or_other s.rules o waiting position word h).1
      go (Some name) e = no_help (bytes_eq name (codes "help")) (rw helps at e)
      go None e = dashes (bytes_eq word (45 ∷ 45 ∷ []))

  step_stop : (word : Text) (w : Walk) (h : Held) (st : Step) → IsNoHelp st → StopsAtNoHelp w.stopped
      → StopsAtNoHelp (after_step s.rules word w h st).stopped
  step_stop word w h (next waiting) n g = g
  step_stop word w h (trailing position) n g = g
  step_stop word w h (subcommand name) n g = n
  step_stop word w h value n g = go (arg_by_index s.rules w.position)
    where
      go : (o : Option Rule) → StopsAtNoHelp (to_positional s.rules o word w h).stopped
      go None = g
      go (Some a) = tt

  turn_stop : (w : Walk) (word : Text) → turn_fault s names w word ≡ [] → StopsAtNoHelp w.stopped
      → StopsAtNoHelp (walked s.rules names w word).stopped
  unfolding walked
  turn_stop w word e g = go w.stopped g e
    where
      go : (stopped : Option (Text × List Text)) → StopsAtNoHelp stopped
          → (if is_some stopped then [] else
          (let met = word_met s.rules names w.is_trailing w.waiting w.position word w.held in
          or_else (word_fault s names w.is_trailing w.waiting word w.held) (step_fault s w.position met.0 met.1))) ≡ []
          → StopsAtNoHelp (walked_from s.rules names stopped w word).stopped
      go (Some p) n e = n
      go None n e =
          let met = word_met s.rules names w.is_trailing w.waiting w.position word w.held in
          let p = none (word_fault s names w.is_trailing w.waiting word w.held) _ e in
          step_stop word w met.0 met.1 (word_step w.is_trailing w.waiting w.position word w.held p.0) g

  walk_stop : (w : Walk) (words : List Text) → walk_fault s names w words ≡ [] → StopsAtNoHelp w.stopped
      → StopsAtNoHelp (fold (walked s.rules names) w words).stopped
  unfolding walk_fault
  walk_stop w [] e g = g
  walk_stop w (word ∷ rest) e g =
      let p = none (turn_fault s names w word) _ e in
      walk_stop (walked s.rules names w word) rest p.1 (turn_stop w word p.0 g)

-- the commands as they are parsed
abbrev above : Shape
above = with_leaf_noted (marked_built bebopk.top)

abbrev check_ready : Shape
check_ready = built_leaf (inherited above check.top)

abbrev sequential_ready : Shape
sequential_ready = built_leaf (inherited above sequential.top)

abbrev help_ready : Shape
help_ready = built_leaf help_shape

ready : (built bebopk).subs ≡ check_ready ∷ sequential_ready ∷ help_ready ∷ []
ready = refl

-- a number from 1 to the most rounds is a number of rounds, and one from 1 to the greatest limit is a limit
as_rounds : (n : ℕ) → 1 ≤ n → n ≤ most_rounds → (r : Rounds) × (n ≡ count_of r)
as_rounds zero low high = absurd (omega arith)
as_rounds (suc k) low high = (record { last = k; few = omega arith }, refl)

as_edges : (n : ℕ) → 1 ≤ n → n ≤ most_edges → (l : EdgeLimit) × (n ≡ most_of l)
as_edges n low high = (record { edges = n; some = low; few = high }, refl)

-- what was found for a command is an order
abbrev IsOrder : Text × List Row → Type 0
IsOrder command = (order : Order) × (path : Text) × Orders command order path

-- if no required argument is missing, both that are required were given
wants_both : (a b : Bool) → check_kinds false false (not a || (not b || false)) ≡ [] → (a ≡ true) × (b ≡ true)
wants_both true true e = (refl, refl)
wants_both true false e = cc
wants_both false b e = cc

check_usable : AreUsable check_ready.rules check_ready.rules
check_usable = (
  record { own = refl; action = inl (inl refl, inl (lit< tt)) },
  (
    record { own = refl; action = inl (inl refl, inl (lit< tt)) },
    (
      record { own = refl; action = inl (inr refl, inr (lit< tt)) },
      (
        record { own = refl; action = inl (inl refl, inl (lit< tt)) },
        (record { own = refl; action = inr (inl refl) }, tt),
      ),
    ),
  ),
)

sequential_usable : AreUsable sequential_ready.rules sequential_ready.rules
sequential_usable = (
  record { own = refl; action = inl (inl refl, inl (lit< tt)) },
  (
    record { own = refl; action = inl (inl refl, inl (lit< tt)) },
    (record { own = refl; action = inr (inl refl) }, tt),
  ),
)

-- the rows of a command without a fault give an order
check_rows : (rows : List Row) → AreFit check_ready.rules (fold with_default rows check_ready.rules)
    → check_fault check_ready (fold with_default rows check_ready.rules) false ≡ []
    → IsOrder (codes "check", fold with_default rows check_ready.rules)
check_rows rows fit fault =
    let c = check_ready.rules in
    let all = fold with_default rows c in
    let first = with_default rows (rule check_ready 0) in
    let second = with_default first (rule check_ready 1) in
    let third = with_default second (rule check_ready 2) in
    let k = number_read c all (codes "rounds") (rule check_ready 0) most_rounds fit refl refl
    (kept_by_defaults (codes "rounds") (drop 1 c) first (defaulted rows (rule check_ready 0) (lit< tt))) in
    let n = number_read c all (codes "edges") (rule check_ready 1) most_edges fit refl refl
    (kept_by_defaults (codes "edges") (drop 2 c) second (defaulted first (rule check_ready 1) (lit< tt))) in
    let s = row_read c all (codes "stats") (rule check_ready 2) fit refl
    (kept_by_defaults (codes "stats") (drop 3 c) third (defaulted second (rule check_ready 2) (lit< tt))) in
    let given = as_flag s.0 (passes false bool s.0 s.3) in
    let path = row_read c all (codes "file") (rule check_ready 3) fit refl
    (given_row (codes "file") all (wants (is_given (codes "file") all) fault)) in
    let rounds = as_rounds k.0 k.1 k.2 in
    let edges = as_edges n.0 n.1 n.2 in (
      Check rounds.0 edges.0 given.0,
      path.0,
      (
        (
          refl,
          subst (ReadsNumber all (codes "rounds")) rounds.1 k.3,
          subst (ReadsNumber all (codes "edges")) edges.1 n.3,
          s.2 ∙ ap Some given.1,
        ),
        path.1,
      ),
    )

sequential_rows : (rows : List Row) → AreFit sequential_ready.rules (fold with_default rows sequential_ready.rules)
    → check_fault sequential_ready (fold with_default rows sequential_ready.rules) false ≡ []
    → IsOrder (codes "sequential", fold with_default rows sequential_ready.rules)
sequential_rows rows fit fault =
    let c = sequential_ready.rules in
    let all = fold with_default rows c in
    let given = wants_both (is_given (codes "rounds") all) (is_given (codes "file") all) fault in
    let k = number_read c all (codes "rounds") (rule sequential_ready 0) most_rounds fit refl refl
    (given_row (codes "rounds") all given.0) in
    let path = row_read c all (codes "file") (rule sequential_ready 1) fit refl (given_row (codes "file") all given.1)
    in
    let rounds = as_rounds k.0 k.1 k.2 in
    (Sequential rounds.0, path.0, ((refl, subst (ReadsNumber all (codes "rounds")) rounds.1 k.3), path.1))

-- what holds for the first two of three commands holds for the command that was entered, if that is not the third
entered_one : (a : App) (x y z : Shape) (R : Text × List Row → Type 0) → a.subs ≡ x ∷ y ∷ z ∷ []
    → ((ws : List Text) → level_fault x [] nothing_held ws false [] ≡ [] → R (rows_at x ws))
    → ((ws : List Text) → level_fault y [] nothing_held ws false [] ≡ [] → R (rows_at y ws))
    → (stop : Option (Text × List Text))
    → ((p : Text × List Text) → stop ≡ Some p → answers_to p.0 (label_of z) ≡ false)
    → is_some (entered a stop) ≡ true → entered_fault a stop ≡ []
    → (c : Text × List Row) × (entered a stop ≡ Some c) × R c
entered_one a x y z R subs first second None third has e = cc
entered_one a x y z R subs first second (Some p) third has e =
    let in_list : (xs : List Shape) → Type 0 = λ xs. is_some (option_map (λ s. rows_at s p.1)
    (find (λ s. answers_to p.0 (label_of s)) xs)) ≡ true
    → option_map_or (λ s. level_fault s [] nothing_held p.1 false [])
    (find (λ s. answers_to p.0 (label_of s)) xs) [] ≡ []
    → (c : Text × List Row) × (option_map (λ s. rows_at s p.1) (find (λ s. answers_to p.0 (label_of s)) xs) ≡ Some c)
    × R c in
    subst in_list (sym subs)
    (go (answers_to p.0 (label_of x)) (answers_to p.0 (label_of y)) (answers_to p.0 (label_of z))
    (third p refl)) has e
  where
    go : (b d f : Bool) → f ≡ false
        → is_some (option_map (λ s. rows_at s p.1) (cond b (Some x) (cond d (Some y) (cond f (Some z) None)))) ≡ true
        → option_map_or (λ s. level_fault s [] nothing_held p.1 false [])
        (cond b (Some x) (cond d (Some y) (cond f (Some z) None))) [] ≡ []
        → (c : Text × List Row)
        × (option_map (λ s. rows_at s p.1) (cond b (Some x) (cond d (Some y) (cond f (Some z) None))) ≡ Some c)
        × R c
    go true d f third has e = (rows_at x p.1, refl, first p.1 e)
    go false true f third has e = (rows_at y p.1, refl, second p.1 e)
    go false false true third has e = absurd (true≢false third)
    go false false false third has e = cc

not_help : (t : Text) → bytes_eq t (codes "help") ≡ false → (bytes_eq (codes "help") t || false) ≡ false
not_help t other = go (bytes_eq (codes "help") t) refl
  where
    go : (b : Bool) → bytes_eq (codes "help") t ≡ b → (b || false) ≡ false
    go true is = absurd (true≢false
        (sym ((bytes_eq-Decides t (codes "help")).1 (sym ((bytes_eq-Decides (codes "help") t).0 is))) ∙ other))
    go false is = refl

-- if no command is missing, one was entered
needs : (x z has : Bool) → check_kinds x (not has && true) z ≡ [] → has ≡ true
needs x z true e = refl
needs true z false e = cc
needs false z false e = cc

-- words that the command line accepts give an order on a file
pub accepted : (words : List Text) → fault_of bebopk words ≡ []
    → (order : Order) × (path : Text) × GivesOrder (subcommand_of bebopk words) order path
accepted words e =
    let a = built bebopk in
    let ws = argument_words bebopk words in
    let end = walk a.top.rules (names_of a) nothing_held ws in
    let stop = end.stopped in
    let p = none (walk_fault a.top (names_of a) (walk_from nothing_held) ws) _ e in
    let q = none (entered_fault a stop) _ p.1 in
    let r = none (settle_fault a.top.rules a.top.args_override_self end.held) _ q.1 in
    let t = none (defaults_fault (settled a.top.rules end.held).rows a.top.rules) _ r.1 in
    let has = needs _ false (is_some (entered a stop)) t.1 in
    let stops = walk_stop a.top (names_of a) refl (walk_from nothing_held) ws p.0 tt in
    let no_help : (o : Text × List Text) → stop ≡ Some o → answers_to o.0 (label_of help_ready) ≡ false =
    λ o is. not_help o.0 (subst StopsAtNoHelp is stops) in
    let met = entered_one a check_ready sequential_ready help_ready IsOrder ready
    (λ ws e. let l = level_fit check_ready [] ws false [] check_usable e in
    check_rows (settled check_ready.rules (walk check_ready.rules [] nothing_held ws).held).rows l.0 l.2)
    (λ ws e. let l = level_fit sequential_ready [] ws false [] sequential_usable e in
    sequential_rows (settled sequential_ready.rules (walk sequential_ready.rules [] nothing_held ws).held).rows l.0 l.2)
    stop no_help has q.0 in
    (met.2.0, met.2.1, (met.0, met.1, met.2.2))
