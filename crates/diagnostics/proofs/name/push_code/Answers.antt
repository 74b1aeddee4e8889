-- What is written by `{:02x}` are the two digits of the code.
use Rattle.std.proofs.Common.{◌≡◌, ◌<◌, ◌/◌, ◌%◌, ℕ, [], ◌∷◌, Some, false, ap, subst}
use Rattle.std.specs.Prelude.{OnOk, codes}
use Rattle.std.specs.Fmt.{AppendsText, ◌++?◌, digit_glyph, digits, digits_output, format_spec, styled_digits_output}
use Rattle.std.specs.String.{string_bytes}
use Rattle.std.proofs.lemmas.Fmt.{hex_byte}
use Rattle.diagnostics.proofs.name.push_code.Goals as goal

two_digits : (d : _) (s : _) (n m : ℕ) → m ≡ n → n < 256 → digits_output d ≡ Some (digits 16 false m)
    → s ≡ format_spec 32 0 4 2 18446744073709551615
    → styled_digits_output d s ≡ Some (digit_glyph false (n / 16) ∷ digit_glyph false (n % 16) ∷ [])
two_digits d s n m same small output spec =
    rw spec (rw output (rw same (ap Some (hex_byte false n small))))

pub returns : goal.returns
returns g c =
    let old = string_bytes c.args.message.now in
    let new = string_bytes c.write.new.self in
    let digits = two_digits c.in_radix.result c.laid_out.result c.args.character c.from.result c.from.ensures c.requires
    c.in_radix.ensures c.laid_out.ensures in
    subst (λ o. OnOk c.write.result (AppendsText old new (Some (codes "\\x") ++? o))) digits c.write.ensures.bytes
