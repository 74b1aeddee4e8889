-- What a parse finds passes the parsers of its arguments, if the words have no fault.
use Rattle.std.proofs.Common.{◌&&◌, ◌++◌, ◌<◌, ◌==◌, ◌||◌, ◌∙◌, ◌∷◌, ◌≡◌, ◌⊎◌, [], ap, arith, Bool, cond, drop, false}
use Rattle.std.proofs.Common.{find, fold, inl, inr, is_some, length, List, None, Option, refl, Some, subst, suc, sym}
use Rattle.std.proofs.Common.{true, zero, ℕ}
use Rattle.std.specs.Prelude.{encode_utf8, if◌then◌else◌, option_map, slice_get}
use Rattle.std.specs.Option.{option_map_or}
use Rattle.std.specs.Str.{bytes_eq, chars}
use Rattle.std.proofs.lemmas.Option.{none-some, same_Some}
use Rattle.std.proofs.lemmas.Slice.Eq.{bytes_eq-Decides}
use Rattle.std.proofs.lemmas.Bool.{lt-ltb, ne_eqb}
use Rattle.clap.specs.Lexer.{long_of, short_of}
use Rattle.clap.specs.Values.{read_as}
use Rattle.clap.specs.Facts.{explicit_source, parser_of_value, unwrap_or_range}
use Rattle.clap.specs.Kinds.{Kinds, or_else, range_kinds, request_kinds, value_kinds, values_kinds}
use Rattle.clap.specs.Walk.{action_of, after_flag, after_step, arg_by_id, arg_by_index, arg_by_long, arg_by_short, attached_value, bundle}
use Rattle.clap.specs.Walk.{bundle_met, bundle_step, default_rows, done, finished, first_of, flag_met, has_row, Held, idle, is_empty}
use Rattle.clap.specs.Walk.{is_pending, long_met, long_or_other, most_values, Names, next, nothing_held, one_of, option, option_met}
use Rattle.clap.specs.Walk.{option_word, Outcome, plain, plain_word, positional, reacted, reading_by, refused, Row, Rule, settled}
use Rattle.clap.specs.Walk.{settled_rows, short_met, short_or_plain, Step, subcommand, subcommand_met, subcommand_or_other, takes_several}
use Rattle.clap.specs.Walk.{takes_values, Text, to_positional, trailing, used, used_as, used_by_id, value, values_or_missing, Waiting}
use Rattle.clap.specs.Walk.{waits, Walk, walk, walk_from, walked, walked_from, with_default, with_values, without, word_met}
use Rattle.clap.specs.Simple.{Shape}
use Rattle.clap.specs.Faults.{action_fault, bundle_fault, bundle_step_fault, check_fault, default_fault, defaults_fault, flag_word_fault}
use Rattle.clap.specs.Faults.{flags_fault, given_default_fault, level_fault, long_fault, option_fault, other_fault, positional_fault}
use Rattle.clap.specs.Faults.{react_fault, repeat_fault, settle_fault, short_fault, step_fault, stray_fault, turn_fault, use_fault}
use Rattle.clap.specs.Faults.{values_fault, walk_fault, word_fault}
use Rattle.clap.specs.Takes.{is_given}
use Rattle.clap.specs.declared.error.kind.ErrorKind.TheVariants as kind
use Rattle.clap.specs.declared.builder.action.ArgAction.{ArgAction}
use Rattle.clap.specs.declared.builder.action.ArgAction.TheVariants.{Help, Set, SetTrue, Version}
use Rattle.clap.specs.declared.parser.matches.ValueSource.{ValueSource}
use Rattle.clap.specs.declared.parser.matches.ValueSource.TheVariants.{CommandLine, DefaultValue}
use Rattle.clap.specs.declared.builder.value_parser.Reading.{Reading}
use Rattle.clap.specs.declared.builder.value_parser.ValueParser.{ValueParser}

-- if two lists of faults that `or_else` joins have none, each has none
pub none : (a b : Kinds) → or_else a b ≡ [] → (a ≡ []) × (b ≡ [])
none [] b e = (refl, e)
none (x ∷ xs) b e = cc

-- there are values, they pass the parser of the argument with this id, and they are read as it says
pub record Fits (c : List Rule) (id : Text) (values : List Text) (how : Reading) : Type 0 where
  pub rule : Rule
  pub own : arg_by_id c id ≡ Some rule
  pub some : 0 < length values
  pub pass : values_fault rule values ≡ []
  pub read : how ≡ reading_by rule

-- each row fits its argument
abbrev pub AreFit : List Rule → List Row → Type 0
AreFit c [] = Unit {0}
AreFit c (r ∷ rs) = Fits c r.id r.values r.reading × AreFit c rs

-- a use of the argument without a fault has a value
abbrev HasValue : Rule → Type 0
HasValue a = (0 < (unwrap_or_range a.range).start_inclusive) ⊎ (0 < length a.missing)

-- the argument is the one with its id, and it sets a value, or asks for help or for the version
pub record IsUsable (c : List Rule) (a : Rule) : Type 0 where
  pub own : arg_by_id c a.id ≡ Some a
  pub action : (((action_of a ≡ Set) ⊎ (action_of a ≡ SetTrue)) × HasValue a)
      ⊎ ((action_of a ≡ Help) ⊎ (action_of a ≡ Version))

abbrev pub AreUsable : List Rule → List Rule → Type 0
AreUsable c [] = Unit {0}
AreUsable c (a ∷ rest) = IsUsable c a × AreUsable c rest

-- an argument that is found is usable
found : (c xs : List Rule) (p : Rule → Bool) (a : Rule) → AreUsable c xs → find p xs ≡ Some a → IsUsable c a
found c [] p a h e = absurd (none-some a e)
found c (x ∷ xs) p a h e = go (p x) (found c xs p a h.1) e
  where
    go : (b : Bool) → (find p xs ≡ Some a → IsUsable c a) → cond b (Some x) (find p xs) ≡ Some a → IsUsable c a
    go true rest e = subst (IsUsable c) (same_Some x a e) h.0
    go false rest e = rest e

both_pass : (i : Bool) (p : ValueParser) (xs ys : List Text) → values_kinds i p xs ≡ [] → values_kinds i p ys ≡ []
    → values_kinds i p (xs ++ ys) ≡ []
both_pass i p [] ys e f = f
both_pass i p (x ∷ xs) ys e f =
    let h = none (value_kinds i p x) (values_kinds i p xs) e in
    rw h.0 (both_pass i p xs ys h.1 f)

longer : (xs ys : List Text) → 0 < length xs → 0 < length (xs ++ ys)
longer [] ys h = absurd (omega arith)
longer (x ∷ xs) ys h = omega arith

module _ (c : List Rule) where
  -- rows stay fit if fitting values are written to them
  pub with_fit : (id : Text) (how : Reading) (s : ValueSource) (vs : List Text) (rows : List Row) → Fits c id vs how
      → AreFit c rows → AreFit c (with_values id how s vs rows)
  with_fit id how s vs [] f h = (f, tt)
  with_fit id how s vs (r ∷ rs) f h = go (bytes_eq r.id id) refl (with_fit id how s vs rs f h.1)
    where
      go : (b : Bool) → bytes_eq r.id id ≡ b → AreFit c (with_values id how s vs rs)
          → AreFit c (with_values id how s vs (r ∷ rs))
      go true e rest =
          let same : r.id ≡ id = (bytes_eq-Decides r.id id).0 e in
          let one : f.rule ≡ h.0.rule = same_Some f.rule h.0.rule (sym f.own ∙ ap (arg_by_id c) (sym same) ∙ h.0.own) in
          let pass : values_fault h.0.rule vs ≡ [] = subst (λ (a : Rule). values_fault a vs ≡ []) one f.pass in
          rw e (
            record {
              rule = h.0.rule;
              own = h.0.own;
              some = longer r.values vs h.0.some;
              pass = both_pass h.0.rule.ignore_case (parser_of_value h.0.rule.parser) r.values vs h.0.pass pass;
              read = h.0.read;
            },
            h.1,
          )
      go false e rest = rw e (h.0, rest)

  without_fit : (id : Text) (rows : List Row) → AreFit c rows → AreFit c (without id rows)
  without_fit id [] h = tt
  without_fit id (r ∷ rs) h = go (bytes_eq r.id id) refl (without_fit id rs h.1)
    where
      go : (b : Bool) → bytes_eq r.id id ≡ b → AreFit c (without id rs) → AreFit c (without id (r ∷ rs))
      go true e rest = rw e h.1
      go false e rest = rw e (h.0, rest)

  some_values : (a : Rule) (values : List Text) → HasValue a
      → range_kinds (unwrap_or_range a.range).start_inclusive (most_values a) (length values) ≡ []
      → 0 < length (values_or_missing a values)
  some_values a (v ∷ vs) u e = omega arith
  some_values a [] u e = elim u [
    | inr h ↦ h
    | inl h ↦
        let bad = rw (lt-ltb 0 (unwrap_or_range a.range).start_inclusive h) at e in
        cc
  ]

-- rows stay fit over each step of a walk that has no fault
module _ (c : List Rule) (again : Bool) (all : AreUsable c c) where
  set_fit : (a : Rule) (values : List Text) (rows : List Row) → IsUsable c a → HasValue a
      → range_kinds (unwrap_or_range a.range).start_inclusive (most_values a) (length values) ≡ []
      → values_fault a (values_or_missing a values) ≡ [] → AreFit c rows
      → AreFit c (with_values a.id (reading_by a) CommandLine (values_or_missing a values) (without a.id rows))
  set_fit a values rows u has range pass h =
      let f : Fits c a.id (values_or_missing a values) (reading_by a) = record {
        rule = a;
        own = u.own;
        some = some_values c a values has range;
        pass = pass;
        read = refl;
      } in
      with_fit c a.id (reading_by a) CommandLine (values_or_missing a values) (without a.id rows) f
      (without_fit c a.id rows h)

  used_fit : (a : Rule) (values : List Text) (rows : List Row) → IsUsable c a → use_fault again a values rows ≡ []
      → AreFit c rows → AreFit c (used a values rows)
  used_fit a values rows u e h =
      let p = none (range_kinds (unwrap_or_range a.range).start_inclusive (most_values a) (length values)) _ e in
      elim u.action [
        | inl (inl is, has) ↦ go Set is has p.0 p.1 (inl refl)
        | inl (inr is, has) ↦ go SetTrue is has p.0 p.1 (inr refl)
        | inr (inl is) ↦
            let bad = rw is at p.1 in
            cc
        | inr (inr is) ↦
            let bad = rw is at p.1 in
            cc
      ]
    where
      set : (x : ArgAction) → (x ≡ Set) ⊎ (x ≡ SetTrue) → HasValue a
          → range_kinds (unwrap_or_range a.range).start_inclusive (most_values a) (length values) ≡ []
          → action_fault x again a (values_or_missing a values) rows ≡ []
          → AreFit c (used_as x a.id (reading_by a) (values_or_missing a values) rows)
      set x (inl is) has range e =
          let pass = (none (repeat_fault again a.id rows) _ (rw is at e)).1 in
          rw is (set_fit a values rows u has range pass h)
      set x (inr is) has range e =
          let pass = (none (repeat_fault again a.id rows) _ (rw is at e)).1 in
          rw is (set_fit a values rows u has range pass h)

      go : (x : ArgAction) → action_of a ≡ x → HasValue a
          → range_kinds (unwrap_or_range a.range).start_inclusive (most_values a) (length values) ≡ []
          → action_fault (action_of a) again a (values_or_missing a values) rows ≡ [] → (x ≡ Set) ⊎ (x ≡ SetTrue)
          → AreFit c (used a values rows)
      go x is has range e which =
          rw is (set x which has range
          (subst (λ (y : ArgAction). action_fault y again a (values_or_missing a values) rows ≡ []) is e))

  settled_fit : (h : Held) → settle_fault c again h ≡ [] → AreFit c h.rows → AreFit c (settled c h).rows
  settled_fit h e g = pending h.pending e
    where
      by_id : (o : Option Rule) (id : Text) (vs : List Text) → arg_by_id c id ≡ o
          → option_map_or (λ a. use_fault again a vs h.rows) o [] ≡ [] → AreFit c (used_by_id o vs h.rows)
      by_id None id vs is e = g
      by_id (Some a) id vs is e = used_fit a vs h.rows (found c c _ a all is) e g

      pending : (o : Option (Text × List Text))
          → option_map_or (λ p. option_map_or (λ a. use_fault again a p.1 h.rows) (arg_by_id c p.0) []) o [] ≡ []
          → AreFit c (settled_rows c o h.rows)
      pending None e = g
      pending (Some p) e = by_id (arg_by_id c p.0) p.0 p.1 refl e

  reacted_fit : (a : Rule) (values : List Text) (h : Held) → IsUsable c a → react_fault c again a values h ≡ []
      → AreFit c h.rows → AreFit c (reacted c a values h).rows
  reacted_fit a values h u e g =
      let p = none (settle_fault c again h) _ e in
      used_fit a values (settled c h).rows u p.1 (settled_fit h p.0 g)

  option_fit : (a : Rule) (v : Option Text) (h : Held) → IsUsable c a → option_fault c again a v h ≡ []
      → AreFit c h.rows
      → AreFit c (option_met c a v h).0.rows
  option_fit a (Some v) h u e g = reacted_fit a (v ∷ []) h u e g
  option_fit a None h u e g = settled_fit h e g

  long_fit : (o : Option Rule) (v : Option Text) (h : Held) → ((a : Rule) → o ≡ Some a → IsUsable c a)
      → long_fault c again o v h ≡ [] → AreFit c h.rows → AreFit c (long_met c o v h).0.rows
  long_fit None v h u e g = g
  long_fit (Some a) v h u e g = go (takes_values a) v e
    where
      go : (b : Bool) (v : Option Text)
          → (if b then option_fault c again a v h
          else (if is_some v then kind.TooManyValues ∷ [] else react_fault c again a [] h)) ≡ []
          → AreFit c (if b then option_met c a v h else flag_met c a v h).0.rows
      go true v e = option_fit a v h (u a refl) e g
      go false (Some v) e = g
      go false None e = reacted_fit a [] h (u a refl) e g

  bundle_fit : (k : ℕ) (flags : Text) (skip : ℕ) (so_far : Outcome) (h : Held) → flags_fault c again k flags skip h ≡ []
      → AreFit c h.rows → AreFit c (bundle_met c k flags skip so_far h).0.rows
  unfolding bundle_met flags_fault
  bundle_fit zero flags skip so_far h e g = g
  bundle_fit (suc k) flags skip so_far h e g =
      step (λ flags skip so_far h e g. bundle_fit k flags skip so_far h e g) (slice_get (chars flags) 0) skip e
    where
      Rest : Type 0
      Rest = (flags : Text) (skip : ℕ) (so_far : Outcome) (h : Held) → flags_fault c again k flags skip h ≡ []
          → AreFit c h.rows → AreFit c (bundle_met c k flags skip so_far h).0.rows

      flag : Rest → (rest : Text) (a : Rule) (b : Bool) → IsUsable c a
          → (if b then option_fault c again a (attached_value rest) h
          else or_else (react_fault c again a [] h) (flags_fault c again k rest 0 (reacted c a [] h))) ≡ []
          → AreFit c (if b then option_met c a (attached_value rest) h
          else bundle_met c k rest 0 done (reacted c a [] h)).0.rows
      flag more rest a true u e = option_fit a (attached_value rest) h u e g
      flag more rest a false u e =
          let p = none (react_fault c again a [] h) _ e in
          more rest 0 done (reacted c a [] h) p.1 (reacted_fit a [] h u p.0 g)

      short : Rest → (o : Option Rule) (rest : Text) → ((a : Rule) → o ≡ Some a → IsUsable c a)
          → short_fault c again o rest h (flags_fault c again k rest 0) ≡ []
          → AreFit c (short_met c o rest h (bundle_met c k rest 0 done)).0.rows
      short more None rest u e = g
      short more (Some a) rest u e = flag more rest a (takes_values a) (u a refl) e

      step : Rest → (o : Option ℕ) (skip : ℕ) → bundle_step_fault c again o flags skip h (flags_fault c again k) ≡ []
          → AreFit c (bundle_step c o flags skip so_far h (bundle_met c k)).0.rows
      step more None skip e = g
      step more (Some x) zero e =
          short more (arg_by_short c x) (drop (length (encode_utf8 x)) flags) (λ a is. found c c _ a all is) e
      step more (Some x) (suc n) e = more (drop (length (encode_utf8 x)) flags) n so_far h e g

  plain_fit : (waiting : Waiting) (word : Text) (h : Held) → AreFit c h.rows
      → AreFit c (plain_word c waiting word h).0.rows
  plain_fit (option id) word h g = go (arg_by_id c id)
    where
      go : (o : Option Rule) → AreFit c (option_word o id word h).0.rows
      go None = g
      go (Some a) = g
  plain_fit idle word h g = g
  plain_fit positional word h g = g

  flag_fit : (waiting : Waiting) (word : Text) (h : Held) (o : Outcome) → AreFit c h.rows
      → AreFit c (after_flag c waiting word h o).0.rows
  flag_fit waiting word h done g = g
  flag_fit waiting word h (waits id) g = g
  flag_fit waiting word h plain g = plain_fit waiting word h g
  flag_fit waiting word h refused g = plain_fit waiting word h g

  other_fit : (waiting : Waiting) (word : Text) (l : Option (Text × Option Text)) (h : Held)
      → flag_word_fault c again l word h ≡ [] → AreFit c h.rows → AreFit c (long_or_other c waiting word l h).0.rows
  other_fit waiting word (Some p) h e g =
      let met = long_met c (arg_by_long c p.0) p.1 h in
      flag_fit waiting word met.0 met.1 (long_fit (arg_by_long c p.0) p.1 h (λ a is. found c c _ a all is) e g)
  other_fit waiting word None h e g = go (short_of word) e
    where
      go : (o : Option Text) → option_map_or (λ flags. bundle_fault c again flags h) o [] ≡ []
          → AreFit c (short_or_plain c waiting word o h).0.rows
      go None e = plain_fit waiting word h g
      go (Some flags) e =
          let met = bundle c flags h in
          flag_fit waiting word met.0 met.1 (bundle_fit (length flags) flags h.skip plain (record h { skip = 0 }) e g)

module _ (s : Shape) (names : Names) (all : AreUsable s.rules s.rules) where
  word_fit : (is_trailing : Bool) (waiting : Waiting) (position : ℕ) (word : Text) (h : Held)
      → word_fault s names is_trailing waiting word h ≡ [] → AreFit s.rules h.rows
      → AreFit s.rules (word_met s.rules names is_trailing waiting position word h).0.rows
  word_fit true waiting position word h e g = g
  word_fit false waiting position word h e g = go (subcommand_met names waiting word) e
    where
      dashes : (b : Bool) → (if b then [] else flag_word_fault s.rules s.args_override_self (long_of word) word h) ≡ []
          → AreFit s.rules (if b then (h, trailing position) else long_or_other s.rules waiting word
          (long_of word) h).0.rows
      dashes true e = g
      dashes false e = other_fit s.rules s.args_override_self all waiting word (long_of word) h e g

      go : (o : Option Text) → other_fault s o word h ≡ []
          → AreFit s.rules (subcommand_or_other s.rules o waiting position word h).0.rows
      go (Some name) e = g
      go None e = dashes (bytes_eq word (45 ∷ 45 ∷ [])) e

  step_fit : (word : Text) (w : Walk) (h : Held) (st : Step) → step_fault s w.position h st ≡ [] → AreFit s.rules h.rows
      → AreFit s.rules (after_step s.rules word w h st).held.rows
  step_fit word w h (next waiting) e g = g
  step_fit word w h (trailing position) e g = g
  step_fit word w h (subcommand name) e g = g
  step_fit word w h value e g = go (arg_by_index s.rules w.position) e
    where
      held : (a : Rule) (b : Bool) → (if b then [] else settle_fault s.rules s.args_override_self h) ≡ []
          → AreFit s.rules (if b then h else settled s.rules h).rows
      held a true e = g
      held a false e = settled_fit s.rules s.args_override_self all h e g

      go : (o : Option Rule)
          → option_map_or (λ a. positional_fault s.rules s.args_override_self a h) o (stray_fault s) ≡ []
          → AreFit s.rules (to_positional s.rules o word w h).held.rows
      go None e = g
      go (Some a) e = held a (is_pending a h.pending && takes_several a) e

  turn_fit : (w : Walk) (word : Text) → turn_fault s names w word ≡ [] → AreFit s.rules w.held.rows
      → AreFit s.rules (walked s.rules names w word).held.rows
  unfolding walked
  turn_fit w word e g = go w.stopped e
    where
      go : (stopped : Option (Text × List Text))
          → (if is_some stopped then [] else
          (let met = word_met s.rules names w.is_trailing w.waiting w.position word w.held in
          or_else (word_fault s names w.is_trailing w.waiting word w.held) (step_fault s w.position met.0 met.1))) ≡ []
          → AreFit s.rules (walked_from s.rules names stopped w word).held.rows
      go (Some p) e = g
      go None e =
          let met = word_met s.rules names w.is_trailing w.waiting w.position word w.held in
          let p = none (word_fault s names w.is_trailing w.waiting word w.held) _ e in
          step_fit word w met.0 met.1 p.1 (word_fit w.is_trailing w.waiting w.position word w.held p.0 g)

  walk_fit : (w : Walk) (words : List Text) → walk_fault s names w words ≡ [] → AreFit s.rules w.held.rows
      → AreFit s.rules (fold (walked s.rules names) w words).held.rows
  unfolding walk_fault
  walk_fit w [] e g = g
  walk_fit w (word ∷ rest) e g =
      let p = none (turn_fault s names w word) _ e in
      walk_fit (walked s.rules names w word) rest p.1 (turn_fit w word p.0 g)

defaults_fit : (c xs : List Rule) (rows : List Row) → AreUsable c xs → defaults_fault rows xs ≡ [] → AreFit c rows
    → AreFit c (fold with_default rows xs)
unfolding defaults_fault
defaults_fit c [] rows all e g = g
defaults_fit c (a ∷ rest) rows all e g =
    let p = none (default_fault rows a) _ e in
    defaults_fit c rest (with_default rows a) all.1 p.1 (go (has_row a.id rows) a.defaults p.0)
  where
    go : (b : Bool) (vs : List Text) → (if b || is_empty vs then [] else given_default_fault a vs) ≡ []
        → AreFit c (if b then rows else default_rows a.id (reading_by a) vs rows)
    go true vs e = g
    go false [] e = g
    go false (v ∷ vs) e =
        let filled : (length (v ∷ vs) == 0) ≡ false = ne_eqb (length (v ∷ vs)) 0 (λ h. absurd (omega arith)) in
        let given : given_default_fault a (v ∷ vs) ≡ [] = rw filled at e in
        let pass = (none (request_kinds (action_of a)) (values_fault a (v ∷ vs)) given).1 in
        with_fit c a.id (reading_by a) DefaultValue (v ∷ vs) rows
        (record { rule = a; own = all.0.own; some = omega arith; pass = pass; read = refl }) g

-- the rows that a level finds are fit, if it has no fault
pub level_fit : (s : Shape) (names : Names) (words : List Text) (has : Bool) (below : Kinds) → AreUsable s.rules s.rules
    → level_fault s names nothing_held words has below ≡ []
    → AreFit s.rules (finished s.rules (walk s.rules names nothing_held words).held)
    × (below ≡ []) × (check_fault s (finished s.rules (walk s.rules names nothing_held words).held) has ≡ [])
level_fit s names words has below all e =
    let end = (walk s.rules names nothing_held words).held in
    let p = none (walk_fault s names (walk_from nothing_held) words) _ e in
    let q = none below _ p.1 in
    let r = none (settle_fault s.rules s.args_override_self end) _ q.1 in
    let t = none (defaults_fault (settled s.rules end).rows s.rules) _ r.1 in
    let walked_fit = walk_fit s names all (walk_from nothing_held) words p.0 tt in
    let rows = settled_fit s.rules s.args_override_self all end r.0 walked_fit in
    (defaults_fit s.rules s.rules (settled s.rules end).rows all t.0 rows, q.0, t.1)

-- a row that exists has a value that passes its argument's parser
pub row_read : (c : List Rule) (rows : List Row) (id : Text) (a : Rule) → AreFit c rows → arg_by_id c id ≡ Some a
    → has_row id rows ≡ true
    → (v : Text) × (first_of id rows ≡ Some v) × (one_of id rows ≡ Some (read_as (reading_by a) v))
    × (value_kinds a.ignore_case (parser_of_value a.parser) v ≡ [])
row_read c [] id a h is e = cc
row_read c (r ∷ rs) id a h is e = go (bytes_eq r.id id) refl (row_read c rs id a h.1 is) e
  where
    Read : List Row → Type 0
    Read rows = (v : Text) × (first_of id rows ≡ Some v) × (one_of id rows ≡ Some (read_as (reading_by a) v))
        × (value_kinds a.ignore_case (parser_of_value a.parser) v ≡ [])

    here : (vs : List Text) → 0 < length vs → values_fault a vs ≡ []
        → (v : Text) × (slice_get vs 0 ≡ Some v) × (value_kinds a.ignore_case (parser_of_value a.parser) v ≡ [])
    here [] some pass = absurd (omega arith)
    here (v ∷ vs) some pass = (v, refl, (none (value_kinds a.ignore_case (parser_of_value a.parser) v) _ pass).0)

    go : (b : Bool) → bytes_eq r.id id ≡ b → (has_row id rs ≡ true → Read rs) → (b || has_row id rs) ≡ true
        → Read (r ∷ rs)
    go true same rest e =
        let key : r.id ≡ id = (bytes_eq-Decides r.id id).0 same in
        let one : h.0.rule ≡ a = same_Some h.0.rule a (sym h.0.own ∙ ap (arg_by_id c) key ∙ is) in
        let v = here r.values h.0.some (subst (λ (x : Rule). values_fault x r.values ≡ []) one h.0.pass) in
        let how : r.reading ≡ reading_by a = h.0.read ∙ ap reading_by one in
        rw same (v.0, v.1, ap (option_map (read_as r.reading)) v.1 ∙ ap (λ x. Some (read_as x v.0)) how, v.2)
    go false same rest e = rw same (rest e)

-- an id to which values are written has a row, and every row stays
made : (id : Text) (how : Reading) (src : ValueSource) (vs : List Text) (rows : List Row)
    → bytes_eq id id ≡ true → has_row id (with_values id how src vs rows) ≡ true
made id how src vs [] self = rw self refl
made id how src vs (r ∷ rs) self = go (bytes_eq r.id id) refl (made id how src vs rs self)
  where
    go : (b : Bool) → bytes_eq r.id id ≡ b → has_row id (with_values id how src vs rs) ≡ true
        → has_row id (with_values id how src vs (r ∷ rs)) ≡ true
    go true e rest = rw (e, e) refl
    go false e rest = rw (e, e) rest

kept : (other id : Text) (how : Reading) (src : ValueSource) (vs : List Text) (rows : List Row)
    → has_row other rows ≡ true → has_row other (with_values id how src vs rows) ≡ true
kept other id how src vs [] has = cc
kept other id how src vs (r ∷ rs) has = go (bytes_eq r.id id) refl (bytes_eq r.id other) refl
    (kept other id how src vs rs) has
  where
    go : (b : Bool) → bytes_eq r.id id ≡ b → (d : Bool) → bytes_eq r.id other ≡ d
        → (has_row other rs ≡ true → has_row other (with_values id how src vs rs) ≡ true)
        → (d || has_row other rs) ≡ true → has_row other (with_values id how src vs (r ∷ rs)) ≡ true
    go true e true f rest has = rw (e, f) refl
    go true e false f rest has = rw (e, f) has
    go false e true f rest has = rw (e, f) refl
    go false e false f rest has = rw (e, f) (rest has)

kept_by_default : (other : Text) (rows : List Row) (a : Rule) → has_row other rows ≡ true
    → has_row other (with_default rows a) ≡ true
kept_by_default other rows a has = go (has_row a.id rows) a.defaults
  where
    go : (b : Bool) (vs : List Text)
        → has_row other (if b then rows else default_rows a.id (reading_by a) vs rows) ≡ true
    go true vs = has
    go false [] = has
    go false (v ∷ vs) = kept other a.id (reading_by a) DefaultValue (v ∷ vs) rows has

-- a row stays while arguments without one get their defaults
pub kept_by_defaults : (other : Text) (xs : List Rule) (rows : List Row) → has_row other rows ≡ true
    → has_row other (fold with_default rows xs) ≡ true
kept_by_defaults other [] rows has = has
kept_by_defaults other (a ∷ rest) rows has = kept_by_defaults other rest (with_default rows a)
    (kept_by_default other rows a has)

-- an argument with a default has a row
pub defaulted : (rows : List Row) (a : Rule) → 0 < length a.defaults → has_row a.id (with_default rows a) ≡ true
defaulted rows a some = go (has_row a.id rows) refl a.defaults some
  where
    go : (b : Bool) → has_row a.id rows ≡ b → (vs : List Text) → 0 < length vs
        → has_row a.id (if b then rows else default_rows a.id (reading_by a) vs rows) ≡ true
    go true e vs some = e
    go false e [] some = absurd (omega arith)
    go false e (v ∷ vs) some = made a.id (reading_by a) DefaultValue (v ∷ vs) rows ((bytes_eq-Decides a.id a.id).1 refl)

-- what the words gave has a row
pub given_row : (id : Text) (rows : List Row) → is_given id rows ≡ true → has_row id rows ≡ true
given_row id [] e = cc
given_row id (r ∷ rs) e = go (bytes_eq r.id id) e (given_row id rs)
  where
    go : (b : Bool) → option_map_or (λ (x : Row). explicit_source x.source)
        (cond b (Some r) (find (λ x. bytes_eq x.id id) rs)) false ≡ true
        → (is_given id rs ≡ true → has_row id rs ≡ true) → (b || has_row id rs) ≡ true
    go true e rest = refl
    go false e rest = rest e
