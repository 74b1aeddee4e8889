-- A rewritten block gives a value if the block does.
use Rattle.std.proofs.Common.{◌≡◌, ℕ, zero, suc, Bool, true, false, ◌||◌, cond, List, [], ◌∷◌, refl, sym, ◌∙◌, ap, ap₂}
use Rattle.language.specs.Tree.{Simple, assign, call_for, Block, done, one, choose}
use Rattle.language.specs.Tree.{loop}
use Rattle.language.specs.Parts as parts
use Rattle.language.specs.Rest.{join}
use Rattle.language.specs.Resolve.{gives_value}
use Rattle.round_rewrite.specs.Table.{Naming, numbers, no_mark, targets, sides, draws, drawing, prologue, received, statement, rewritten}
use Rattle.round_rewrite.specs.Table.{guess, guesses, starts, check, checks, main}
use Rattle.std.proofs.Math.Bool.{or-false}
use Rattle.round_rewrite.proofs.InTurn.{keep}

or_assoc : (x y z : Bool) → ((x || y) || z) ≡ (x || (y || z))
or_assoc true y z = refl
or_assoc false y z = refl

gives-join : {V P L : Type 0} (a b : Block V P L) → gives_value (join a b) ≡ (gives_value a || gives_value b)
gives-join done b = refl
gives-join (one m s t) b =
    ap (λ z. parts.gives (parts.plain s) || z) (gives-join t b)
    ∙ sym (or_assoc (parts.gives (parts.plain s)) (gives_value t) (gives_value b))
gives-join (choose m r x y t) b =
    ap (λ z. gives_value x || (gives_value y || z)) (gives-join t b)
    ∙ (ap (λ z. gives_value x || z) (sym (or_assoc (gives_value y) (gives_value t) (gives_value b)))
    ∙ sym (or_assoc (gives_value x) (gives_value y || gives_value t) (gives_value b)))
gives-join (loop m r x t) b =
    ap (λ z. gives_value x || z) (gives-join t b) ∙ sym (or_assoc (gives_value x) (gives_value t) (gives_value b))

-- either of two blocks that give alike
gives-cond : {V P L : Type 0} (c : Bool) (a b : Block V P L) → gives_value a ≡ gives_value b
    → gives_value (cond c a b) ≡ gives_value b
gives-cond true a b e = e
gives-cond false a b e = refl

module _ {V W P Q L : Type 0} (w : Naming V W P Q) (last : ℕ) where
  gives-drawing : (d : ℕ) (k : Block W Q L) → gives_value (drawing w last d k) ≡ gives_value k
  gives-drawing zero k = refl
  gives-drawing (suc d) k = refl

  gives-statement : (s : Simple V P L) (k : Block W Q L)
      → gives_value (statement w last s k) ≡ (parts.gives (parts.plain s) || gives_value k)
  gives-statement (assign xs rs) k =
      gives-drawing (draws w.is_shared xs rs) (one no_mark (assign (targets w last xs rs) (sides w last 0 xs rs)) k)
  gives-statement (call_for x p es) k = gives-cond (w.is_shared x) (received w last x k) k refl
  gives-statement _ k = refl

  pub gives_rewritten : (b : Block V P L) → gives_value (rewritten w last b) ≡ gives_value b
  gives_rewritten done = refl
  gives_rewritten (one m s t) =
      gives-statement s (rewritten w last t) ∙ ap (λ z. parts.gives (parts.plain s) || z) (gives_rewritten t)
  gives_rewritten (choose m r a b t) = λ i. gives_rewritten a i || (gives_rewritten b i || gives_rewritten t i)
  gives_rewritten (loop m r a t) =
      ap₂ (λ x y. x || y)
      (gives-join (rewritten w last a) (prologue w last no_mark done)
      ∙ (or-false (gives_value (rewritten w last a)) ∙ gives_rewritten a))
      (gives_rewritten t)

  -- the first procedure gives no value
  gives-guess : (xs : List V) (k : ℕ) (t : Block W Q L) → gives_value t ≡ false → gives_value (guess w last xs k t) ≡ false
  gives-guess [] k t e = e
  gives-guess (x ∷ xs) k t e = e

  gives-starts : (ps : List P) (t : Block W Q L) → gives_value t ≡ false → gives_value (starts w last ps t) ≡ false
  gives-starts [] t e = e
  gives-starts (p ∷ ps) t e = gives-starts ps t e

  gives-check : (xs : List V) (k : ℕ) (t : Block W Q L) → gives_value t ≡ false → gives_value (check w last xs k t) ≡ false
  gives-check [] k t e = e
  gives-check (x ∷ xs) k t e = gives-check xs k t e

pub gives_main : {V W P Q : Type 0} (L : Type 0) (w : Naming V W P Q) (last : ℕ) (xs : List V) (ps : List P)
    → (let body : Block W Q L = main w last xs ps in gives_value body) ≡ false
gives_main {V} {W} {P} {Q} L w last xs ps =
    let ends : Block W Q L = checks w last xs (numbers 0 last) done in
    keep (guesses w last xs) (guess w last xs) (λ t. refl) (λ k ks t. refl) (λ t. gives_value t ≡ false) (gives-guess w last xs)
    (numbers 1 last) (starts w last ps ends)
    (gives-starts w last ps ends
    (keep (checks w last xs) (check w last xs) (λ t. refl) (λ k ks t. refl) (λ t. gives_value t ≡ false) (gives-check w last xs)
    (numbers 0 last) done refl))
