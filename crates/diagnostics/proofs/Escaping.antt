-- What is written for a name has no control character.
use Rattle.std.proofs.Common.{◌≡◌, ◌<◌, ◌≤◌, ◌/◌, ◌%◌, ◌==◌, ◌&&◌, ℕ, Bool, true, false, List}
use Rattle.std.proofs.Common.{[], ◌∷◌, ◌++◌, ap, append-nil, arith, if◌then◌else◌, lit<, lit≤, refl, subst, ◌∙◌}
use Rattle.std.specs.Prelude.{codes}
use Rattle.std.specs.Char.{encode_utf8, is_control}
use Rattle.std.specs.Fmt.{digit_glyph}
use Rattle.std.specs.List.{All, flat_map}
use Rattle.std.specs.Str.{IsAscii, IsUtf8, chars}
use Rattle.std.proofs.Math.Utf8.{encodes, scalar, scalars}
use Rattle.std.proofs.lemmas.Bool.{cond_both}
use Rattle.std.proofs.lemmas.Bool.Decides.{nat_tests}
use Rattle.std.proofs.lemmas.List.Concat.{flat_map-cons}
use Rattle.std.proofs.lemmas.List.Elements.{All-append, All-cons, All-nil, All-tail}
use Rattle.std.proofs.lemmas.Str.{IsUtf8-from_ascii, chars-IsAscii, chars-append, chars-encodes, chars-nil}
use Rattle.std.proofs.lemmas.Str.{encodes-chars, scalars-chars}
use Rattle.std.proofs.lemmas.Str.Ascii.{IsAscii-from_all}
use Rattle.diagnostics.specs.Name.{HasNoControl, by_code, escape, escaped, written}

-- the character is no control character
abbrev IsNoControl : ℕ → Type 0
IsNoControl c = is_control c ≡ false

-- the byte is a printable ASCII character
abbrev IsPrintable : ℕ → Type 0
IsPrintable b = (32 ≤ b) × (b < 127)

-- each byte is one
abbrev Printable : List ℕ → Type 0
Printable bs = All IsPrintable bs

glyph : (d : ℕ) → d < 16 → IsPrintable (digit_glyph false d)
glyph d small = grind (arith, nat_tests)

-- what is printable has no control character
ascii : (bs : List ℕ) → Printable bs → IsAscii bs
ascii bs p = IsAscii-from_all bs (λ k d h. omega (arith, (p k d h).1))

plain : (b : ℕ) → IsPrintable b → IsNoControl b
plain b p = grind (arith, nat_tests)

no_control : (bs : List ℕ) → Printable bs → HasNoControl bs
no_control bs p = rw (chars-IsAscii bs (ascii bs p)) (λ k d h. plain _ (p k d h))

-- an escape is printable
two : (a b : ℕ) → IsPrintable a → IsPrintable b → Printable (a ∷ b ∷ [])
two a b p q = All-cons IsPrintable a (b ∷ []) p (All-cons IsPrintable b [] q (All-nil IsPrintable))

letter : (b : ℕ) → IsPrintable b → Printable (92 ∷ b ∷ [])
letter b p = two 92 b (lit≤ tt, lit< tt) p

printable_code : (c : ℕ) → c < 256 → Printable (by_code c)
printable_code c small =
    All-append IsPrintable (codes "\\x") (digit_glyph false (c / 16) ∷ digit_glyph false (c % 16) ∷ [])
    (letter 120 (lit≤ tt, lit< tt)) (two _ _ (glyph (c / 16) (omega arith)) (glyph (c % 16) (omega arith)))

printable_escape : (c : ℕ) → c < 256 → Printable (escape c)
printable_escape c small =
    cond_both (c == 9) _ _ Printable (λ _. letter 116 (lit≤ tt, lit< tt))
    (λ _. cond_both (c == 10) _ _ Printable (λ _. letter 110 (lit≤ tt, lit< tt))
    (λ _. cond_both (c == 13) _ _ Printable (λ _. letter 114 (lit≤ tt, lit< tt)) (λ _. printable_code c small)))

control_small : (c : ℕ) → is_control c ≡ true → c < 256
control_small c h = grind (arith, nat_tests)

-- what is written for a character is a text without a control character
abbrev IsShown : List ℕ → Type 0
IsShown bs = IsUtf8 bs × HasNoControl bs

as_it_is : (c : ℕ) → scalar c ≡ true → is_control c ≡ false → IsShown (encode_utf8 c)
as_it_is c ok n =
    let one : scalars (c ∷ []) ≡ true = rw ok refl in
    let same : encodes (c ∷ []) ≡ encode_utf8 c = append-nil (encode_utf8 c) in (
      (c ∷ [], (one, same)),
      subst HasNoControl same (rw (chars-encodes (c ∷ []) one) (All-cons IsNoControl c [] n (All-nil IsNoControl))),
    )

by_escape : (c : ℕ) → is_control c ≡ true → IsShown (escape c)
by_escape c h =
    let p = printable_escape c (control_small c h) in
    (IsUtf8-from_ascii (escape c) (ascii (escape c) p), no_control (escape c) p)

shown : (c : ℕ) → scalar c ≡ true → IsShown (written c)
shown c ok = cond_both (is_control c) _ _ IsShown (by_escape c) (as_it_is c ok)

both : (a b : Bool) → (a && b) ≡ true → (a ≡ true) × (b ≡ true)
both true b h = (refl, h)
both false b h = absurd (cc h)

-- so is what is written for several characters
all_shown : (cs : List ℕ) → scalars cs ≡ true → HasNoControl (flat_map written cs)
all_shown [] ok = rw chars-nil (All-nil IsNoControl)
all_shown (c ∷ cs) ok =
    let parts = both (scalar c) (scalars cs) ok in
    let one = shown c parts.0 in
    rw (flat_map-cons written c cs, chars-append (written c) (flat_map written cs) one.0)
    (All-append IsNoControl (chars (written c)) (chars (flat_map written cs)) one.1 (all_shown cs parts.1))

pub escaped_shown : (name : List ℕ) → IsUtf8 name → HasNoControl (escaped name)
unfolding escaped
escaped_shown name text = all_shown (chars name) (scalars-chars name text)

-- without a control character nothing changes
unchanged : (cs : List ℕ) → All IsNoControl cs → flat_map written cs ≡ encodes cs
unchanged [] plain = refl
unchanged (c ∷ cs) plain =
    let e : IsNoControl c = plain 0 c (omega arith) in
    ap (λ b. (if b then escape c else encode_utf8 c) ++ flat_map written cs) e
    ∙ ap (λ rest. encode_utf8 c ++ rest) (unchanged cs (All-tail IsNoControl c cs plain))

pub escaped_same : (name : List ℕ) → IsUtf8 name → HasNoControl name → escaped name ≡ name
unfolding escaped
escaped_same name text plain = unchanged (chars name) plain ∙ encodes-chars name text
