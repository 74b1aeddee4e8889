-- The values that were found for arguments whose words have no fault.
use Rattle.std.proofs.Common.{◌==◌, ◌||◌, ◌∙◌, ◌∷◌, ◌≡◌, ◌≤◌, [], ap, Bool, codes, cond, drop, false, arith}
use Rattle.std.proofs.Common.{List, None, not, pos, refl, Some, subst, sym, true, unwrap_or, ℕ}
use Rattle.std.specs.Prelude.{if◌then◌else◌}
use Rattle.std.specs.List.{slice_index_or}
use Rattle.std.specs.Str.{bytes_eq}
use Rattle.std.specs.Str.Parse.{digits_value, IsNumeral, starts_with_minus, without_leading_plus}
use Rattle.std.proofs.lemmas.Slice.Eq.{bytes_eq-Decides}
use Rattle.std.proofs.lemmas.Int.{ints}
use Rattle.clap.specs.Lexer.{without_minus}
use Rattle.clap.specs.Values.{Accepts, IsSignedIn, read_as, reading_of, refused_kind}
use Rattle.clap.specs.Facts.{parser_of_value}
use Rattle.clap.specs.ValueTests.{accepts}
use Rattle.clap.specs.Kinds.{check_kinds, value_kinds}
use Rattle.clap.specs.Walk.{arg_by_id, has_row, one_of, Row, Rule, Text}
use Rattle.clap.specs.Simple.{Shape}
use Rattle.clap.specs.declared.builder.value_parser.ValueParser.{ValueParser}
use Rattle.clap.specs.declared.builder.value_parser.ValueParser.TheVariants.{Signed}
use Rattle.clap.proofs.ValueTestLemmas.{accepts-Accepts}
use Rattle.arguments.specs.Found.{ReadsNumber, flag_text}
use Rattle.arguments.specs.Rules.{file}
use Rattle.arguments.proofs.Walks.{AreFit, row_read}

without_minus-cond : (t : Text) → without_minus t ≡ cond (starts_with_minus t) (drop 1 t) t
without_minus-cond [] = refl
without_minus-cond (x ∷ xs) = go (x == 45)
  where
    go : (b : Bool) → unwrap_or (cond b (Some xs) None) (x ∷ xs) ≡ cond b xs (x ∷ xs)
    go true = refl
    go false = refl

-- a text that passed the parser of a range from 1 reads as a number in that range
pub in_range : (high : ℕ) (t : Text) → IsSignedIn (pos 1) (pos high) t
    → (n : ℕ) × (1 ≤ n) × (n ≤ high) × IsNumeral 10 (without_leading_plus (without_minus t))
    × (digits_value 10 (without_leading_plus (without_minus t)) ≡ n)
in_range high t passed = go (starts_with_minus t) refl
  where
    go : (b : Bool) → starts_with_minus t ≡ b
        → (n : ℕ) × (1 ≤ n) × (n ≤ high) × IsNumeral 10 (without_leading_plus (without_minus t))
        × (digits_value 10 (without_leading_plus (without_minus t)) ≡ n)
    go true minus =
        let low_ok = rw minus at passed.2 in
        absurd (omega (arith, ints))
    go false minus =
        let low_ok = rw minus at passed.2 in
        let high_ok = rw minus at passed.3 in
        let numeral : IsNumeral 10 (without_leading_plus t) = rw minus at passed.0 in
        let same : t ≡ without_minus t = sym (without_minus-cond t ∙ ap (λ (b : Bool). cond b (drop 1 t) t) minus) in (
          digits_value 10 (without_leading_plus t),
          omega (arith, ints),
          omega (arith, ints),
          subst (λ (u : Text). IsNumeral 10 (without_leading_plus u)) same numeral,
          ap (λ (u : Text). digits_value 10 (without_leading_plus u)) (sym same),
        )

-- a value without a fault passes its parser
pub passes : (i : Bool) (p : ValueParser) (t : Text) → value_kinds i p t ≡ [] → Accepts i p t
passes i p t e = accepts-Accepts i p t (go (accepts i p t) e)
  where
    go : (b : Bool) → (if b then [] else refused_kind p ∷ []) ≡ [] → b ≡ true
    go true e = refl
    go false e = cc

-- a text that passed the parser of an option without a value says whether the option was given
pub as_flag : (t : Text) → (bytes_eq t (codes "true") || bytes_eq t (codes "false")) ≡ true → (b : Bool) × (t ≡ flag_text b)
as_flag t e = go (bytes_eq t (codes "true")) refl e
  where
    go : (b : Bool) → bytes_eq t (codes "true") ≡ b → (b || bytes_eq t (codes "false")) ≡ true → (b : Bool)
        × (t ≡ flag_text b)
    go true is e = (true, (bytes_eq-Decides t (codes "true")).0 is)
    go false is e = (false, (bytes_eq-Decides t (codes "false")).0 e)

-- if no required argument is missing, the one that is required was given
pub wants : (b : Bool) → check_kinds false false (not b || false) ≡ [] → b ≡ true
wants true e = refl
wants false e = cc

-- a row of an option that takes a number from 1 to the greatest one reads as such a number
pub number_read : (c : List Rule) (rows : List Row) (id : Text) (a : Rule) (most : ℕ) → AreFit c rows
    → arg_by_id c id ≡ Some a
    → a.parser ≡ Some (Signed (pos 1) (pos most)) → has_row id rows ≡ true
    → (n : ℕ) × (1 ≤ n) × (n ≤ most) × ReadsNumber rows id n
number_read c rows id a most fit is parser has =
    let row = row_read c rows id a fit is has in
    let v = row.0 in
    let by : parser_of_value a.parser ≡ Signed (pos 1) (pos most) = ap parser_of_value parser in
    let pass = subst (λ (p : ValueParser). value_kinds a.ignore_case p v ≡ []) by row.3 in
    let n = in_range most v (passes a.ignore_case (Signed (pos 1) (pos most)) v pass) in
    let one : one_of id rows ≡ Some (without_minus v) = row.2
    ∙ ap (λ (p : ValueParser). Some (read_as (reading_of p) v)) by in
    (n.0, n.1, n.2, (without_minus v, one, (n.3, n.4)))

-- an argument of a command by its place
abbrev pub rule : Shape → ℕ → Rule
rule s i = slice_index_or s.rules i file
