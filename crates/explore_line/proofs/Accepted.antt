-- Words that the command line accepts have a value for each argument.
use Rattle.std.proofs.Common.{◌≡◌, ◌≤◌, ◌∙◌, ℕ, Bool, List, [], Option, None, Some, false, ap, codes, drop, fold, inl, inr}
use Rattle.std.proofs.Common.{is_some, lit<, refl, subst}
use Rattle.clap.specs.Walk.{nothing_held, Row, settled, Text, walk, with_default}
use Rattle.clap.specs.Simple.{argument_words, built, entered, matches_of, names_of, Shape}
use Rattle.clap.specs.Takes.{is_given}
use Rattle.clap.specs.Faults.{check_fault, entered_fault, fault_of}
use Rattle.clap.specs.declared.builder.value_parser.ValueParser.TheVariants.{Bool as bool}
use Rattle.exploration.specs.declared.limits.WorkLimit.{WorkLimit}
use Rattle.exploration.specs.Limits.{most_of}
use Rattle.arguments.specs.Found.{ReadsNumber}
use Rattle.arguments.proofs.Values.{as_flag, number_read, passes, rule, wants}
use Rattle.arguments.proofs.Walks.{AreFit, AreUsable, defaulted, given_row, kept_by_defaults, level_fit, row_read}
use Rattle.explore_line.specs.Line.{bebopk_explore, greatest, HasAll}

-- the command as it is parsed
abbrev ready : Shape
ready = (built bebopk_explore).top

usable : AreUsable ready.rules ready.rules
usable = (
  record { own = refl; action = inl (inl refl, inl (lit< tt)) },
  (
    record { own = refl; action = inl (inl refl, inl (lit< tt)) },
    (
      record { own = refl; action = inl (inr refl, inr (lit< tt)) },
      (
        record { own = refl; action = inl (inl refl, inl (lit< tt)) },
        (record { own = refl; action = inr (inl refl) }, (record { own = refl; action = inr (inr refl) }, tt)),
      ),
    ),
  ),
)

-- no command is entered, since there is none
none_entered : (stop : Option (Text × List Text)) → is_some (entered (built bebopk_explore) stop) ≡ false
none_entered None = refl
none_entered (Some p) = refl

-- a number from 1 on is a limit
as_limit : (n : ℕ) → 1 ≤ n → (l : WorkLimit) × (n ≡ most_of l)
as_limit n low = (record { most = n; some = low }, refl)

-- the rows of a parse without a fault have a value for each argument
rows_have : (rows : List Row) → AreFit ready.rules (fold with_default rows ready.rules)
    → check_fault ready (fold with_default rows ready.rules) false ≡ [] → HasAll (fold with_default rows ready.rules)
rows_have rows fit fault =
    let c = ready.rules in
    let all = fold with_default rows c in
    let first = with_default rows (rule ready 0) in
    let second = with_default first (rule ready 1) in
    let third = with_default second (rule ready 2) in
    let t = row_read c all (codes "rounds") (rule ready 0) fit refl
    (kept_by_defaults (codes "rounds") (drop 1 c) first (defaulted rows (rule ready 0) (lit< tt))) in
    let n = number_read c all (codes "limit") (rule ready 1) greatest fit refl refl
    (kept_by_defaults (codes "limit") (drop 2 c) second (defaulted first (rule ready 1) (lit< tt))) in
    let s = row_read c all (codes "stats") (rule ready 2) fit refl
    (kept_by_defaults (codes "stats") (drop 3 c) third (defaulted second (rule ready 2) (lit< tt))) in
    let given = as_flag s.0 (passes false bool s.0 s.3) in
    let path = row_read c all (codes "file") (rule ready 3) fit refl
    (given_row (codes "file") all (wants (is_given (codes "file") all) fault)) in
    let limit = as_limit n.0 n.1 in (
      t.0,
      limit.0,
      given.0,
      path.0,
      subst (λ (k : ℕ). k ≤ greatest) limit.1 n.2,
      (t.1, subst (ReadsNumber all (codes "limit")) limit.1 n.3, s.2 ∙ ap Some given.1, path.1),
    )

pub accepted : (words : List Text) → fault_of bebopk_explore words ≡ [] → HasAll (matches_of bebopk_explore words)
accepted words e =
    let a = built bebopk_explore in
    let ws = argument_words bebopk_explore words in
    let end = walk a.top.rules (names_of a) nothing_held ws in
    let l = level_fit a.top (names_of a) ws (is_some (entered a end.stopped)) (entered_fault a end.stopped) usable e in
    let rows = (settled a.top.rules end.held).rows in
    rows_have rows l.0
    (subst (λ (b : Bool). check_fault ready (fold with_default rows ready.rules) b ≡ []) (none_entered end.stopped) l.2)
