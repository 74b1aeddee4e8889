-- What is read for the options that were found.
use Rattle.std.proofs.Common.{◌≡◌, ◌∙◌, ◌<◌, ◌^◌, ℕ, Bool, true, false, List, Option, None, Some, Result, Ok, Err}
use Rattle.std.proofs.Common.{refl, sym, ap, subst}
use Rattle.std.specs.Bool.{MatchBool}
use Rattle.std.specs.Str.Parse.{ExplainsUnsignedError, HasUnsignedDigitsIfOk, ParsesBool, ParsesUnsigned, false_text, true_text}
use Rattle.std.specs.declared.num.ParseIntError.{ParseIntError}
use Rattle.std.proofs.lemmas.Option.{none-some}
use Rattle.clap.specs.Words.{ReadsOne, Text, one_text, rows_of}
use Rattle.clap.specs.declared.parser.matches.Found.{Found}
use Rattle.clap.proofs.WalkLemmas.{one_text-rows}
use Rattle.arguments.specs.Found.{IsGiven, ReadsNumber, flag_text}

-- what the text of a number with a given number of bits is read as
abbrev pub ParsesAs : ℕ → List ℕ → Result ℕ ParseIntError → Type 0
ParsesAs bits t r = ParsesUnsigned bits 10 t r × ExplainsUnsignedError 10 t r × HasUnsignedDigitsIfOk t r

-- a number that is returned for an option is what its text reads as
pub reads : {E : Type 0} (gives : List ℕ → Result ℕ E → Type 0) (bits : ℕ)
    → ((t : List ℕ) (n : ℕ) → gives t (Ok n) → ParsesUnsigned {E = E} bits 10 t (Ok n))
    → (f : Found) (id : Text) (r : Option ℕ) (n : ℕ) → r ≡ Some n → (one_text f id ≡ None → r ≡ None)
    → ((t : List ℕ) → one_text f id ≡ Some t → ReadsOne gives t r)
    → ReadsNumber (rows_of f) id n
reads gives bits parses f id r n some none value = go (one_text f id) refl
  where
    go : (o : Option Text) → one_text f id ≡ o → ReadsNumber (rows_of f) id n
    go None e = absurd (none-some n (sym (none e) ∙ some))
    go (Some t) e =
        let p = parses t n (subst (ReadsOne gives t) some (value t e)) in
        (t, sym (one_text-rows f id) ∙ e, (p.0.0, sym p.1))

-- a text that parses as a truth value is the text of that value
same_flag : (t : Text) (b : Bool) → MatchBool b (t ≡ true_text) (t ≡ false_text) → t ≡ flag_text b
same_flag t true e = e
same_flag t false e = e

-- what is returned for an option without a value is whether it was given
pub is_given : (E : Type 0) (f : Found) (id : Text) (r : Option Bool) (b : Bool) → r ≡ Some b → (one_text f id ≡ None → r ≡ None)
    → ((t : List ℕ) → one_text f id ≡ Some t → ReadsOne {E = E} ParsesBool t r) → IsGiven (rows_of f) id b
is_given E f id r b some none value = go (one_text f id) refl
  where
    go : (o : Option Text) → one_text f id ≡ o → IsGiven (rows_of f) id b
    go None e = absurd (none-some b (sym (none e) ∙ some))
    go (Some t) e = sym (one_text-rows f id) ∙ e ∙ ap Some (same_flag t b (subst (ReadsOne {E = E} ParsesBool t) some (value t e)))

-- the number that an option reads as is returned for it, if it fits the width
pub number : {E : Type 0} (gives : List ℕ → Result ℕ E → Type 0) (bits : ℕ)
    → ((t : List ℕ) (r : Result ℕ E) → gives t r → ParsesUnsigned {E = E} bits 10 t r)
    → (f : Found) (id : Text) (r : Option ℕ) (n : ℕ) → n < 2 ^ bits → ReadsNumber (rows_of f) id n
    → ((t : List ℕ) → one_text f id ≡ Some t → ReadsOne gives t r) → r ≡ Some n
number gives bits parses f id r n fits h value = go r (value h.0 (one_text-rows f id ∙ h.1))
  where
    go : (o : Option ℕ) → ReadsOne gives h.0 o → o ≡ Some n
    go (Some v) g = ap Some ((parses h.0 (Ok v) g).1 ∙ h.2.1)
    go None g = absurd (parses h.0 (Err g.0) g.1 (h.2.0, subst (λ k. k < 2 ^ bits) (sym h.2.1) fits))

-- whether an option without a value was given is what is returned for it
pub flag : (E : Type 0) (f : Found) (id : Text) (r : Option Bool) (b : Bool) → IsGiven (rows_of f) id b
    → ((t : List ℕ) → one_text f id ≡ Some t → ReadsOne {E = E} ParsesBool t r) → r ≡ Some b
flag E f id r b h value = go b r (value (flag_text b) (one_text-rows f id ∙ h))
  where
    go : (c : Bool) (o : Option Bool) → ReadsOne {E = E} ParsesBool (flag_text c) o → o ≡ Some c
    go true (Some true) g = refl
    go true (Some false) g = cc
    go true None g = absurd (g.1.0 refl)
    go false (Some true) g = cc
    go false (Some false) g = refl
    go false None g = absurd (g.1.1 refl)
