-- What a walk over the tokens finds.
use Rattle.std.proofs.Common.{◌≡◌, ◌∙◌, sym, ap, ◌∷◌, [], ℕ, suc, ◌+◌, ◌<◌, List, Bool, true, false, arith, refl, cond, drop, drop-cons}
use Rattle.std.proofs.Common.{◌-◌, get_or, length, take}
use Rattle.std.proofs.lemmas.List.{length-drop, take_all}
use Rattle.tokens.specs.declared.vocabulary.Kind.TheVariants as kind
use Rattle.tokens.specs.declared.vocabulary.Token.{Token}
use Rattle.fault_details.specs.Seeking.{seek, stands}
use Rattle.fault_details.specs.declared.seeking.Sought.{Sought}

-- the token that an index past the end stands for
pub blank : Token
blank = record { kind = kind.Decl; at = 0; text = record { ref_ptr = (0, 0); now = [] } }

-- all that is left
pub whole : (ts : List Token) (i : ℕ) → take (length ts - i) (drop i ts) ≡ drop i ts
whole ts i = take_all (length ts - i) (drop i ts) (rw length-drop (omega arith))

-- what stands in all that is left stands there
pub stands_there : {here : Bool} (what : Sought) (word : List ℕ) (ts : List Token) (i : ℕ)
    → here ≡ stands what word (take (length ts - i) (drop i ts)) → {so : Bool} → here ≡ so → stands what word (drop i ts) ≡ so
stands_there what word ts i is e = ap (stands what word) (sym (whole ts i)) ∙ sym is ∙ e

-- what is sought stands first
pub found : (what : Sought) (word : List ℕ) (ts : List Token) → stands what word ts ≡ true → ts ≡ seek what word ts
unfolding seek
found what word [] here = refl
found what word (t ∷ ts) here = sym (ap (λ b. cond b (t ∷ ts) (seek what word ts)) here)

-- it does not
later : (what : Sought) (word : List ℕ) (t : Token) (ts : List Token) → stands what word (t ∷ ts) ≡ false
    → seek what word (t ∷ ts) ≡ seek what word ts
unfolding seek
later what word t ts not_here = ap (λ b. cond b (t ∷ ts) (seek what word ts)) not_here

pub passed : (what : Sought) (word : List ℕ) (ts : List Token) (i : ℕ) → i < length ts
    → stands what word (drop i ts) ≡ false → seek what word (drop (i + 1) ts) ≡ seek what word (drop i ts)
passed what word ts i within not_here =
    let t = get_or ts i blank in
    let e : i + 1 ≡ suc i = omega arith in
    let rest : drop i ts ≡ t ∷ drop (i + 1) ts = drop-cons ts i blank within ∙ ap (λ n. t ∷ drop n ts) (sym e) in
    let none = ap (stands what word) (sym rest) ∙ not_here in
    sym (ap (seek what word) rest ∙ later what word t (drop (i + 1) ts) none)

-- nothing is left
pub nowhere : (what : Sought) (word : List ℕ) → seek what word [] ≡ []
unfolding seek
nowhere what word = refl
