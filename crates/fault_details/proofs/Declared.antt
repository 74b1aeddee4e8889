-- A walk over the tokens finds the first name that is declared.
use Rattle.std.proofs.Common.{◌≡◌, ◌∙◌, sym, ap, ◌++◌, ◌∷◌, [], suc, ◌+◌, ◌<◌, ℕ, List, Bool, true, false, Option, Some, None, arith}
use Rattle.std.proofs.Common.{◌-◌, drop, drop-cons, get_or, length, refl, take}
use Rattle.std.specs.Prelude.{find}
use Rattle.std.specs.Option.{is_some, option_or}
use Rattle.std.proofs.lemmas.List.Folds.{find-append}
use Rattle.tokens.specs.declared.vocabulary.Token.{Token}
use Rattle.fault_details.specs.Visible.{declared, list_tokens}
use Rattle.fault_details.proofs.Suffixes.{blank, whole}

-- the names of a list, and then those of the later ones
step : (ts : List Token) (i : ℕ) → i < length ts → declared (drop i ts) ≡ list_tokens (drop i ts) ++ declared (drop (i + 1) ts)
unfolding declared
step ts i within =
    let e : i + 1 ≡ suc i = omega arith in
    let rest : drop i ts ≡ get_or ts i blank ∷ drop (i + 1) ts =
    drop-cons ts i blank within ∙ ap (λ n. get_or ts i blank ∷ drop n ts) (sym e) in
    ap declared rest ∙ ap (λ l. list_tokens l ++ declared (drop (i + 1) ts)) (sym rest)

in_turn : (p : Token → Bool) (ts : List Token) (i : ℕ) → i < length ts
    → find p (declared (drop i ts)) ≡ option_or (find p (list_tokens (drop i ts))) (find p (declared (drop (i + 1) ts)))
in_turn p ts i within = ap (find p) (step ts i within) ∙ find-append p (list_tokens (drop i ts)) (declared (drop (i + 1) ts))

-- what is found in the list of an index, or later
module _ (p : Token → Bool) (ts : List Token) (i : ℕ) (within : i < length ts) where
  in_list : (listed : List Token) (found : Option Token) → listed ≡ list_tokens (take (length ts - i) (drop i ts)) → found ≡ find p listed
      → find p (declared (drop i ts)) ≡ option_or found (find p (declared (drop (i + 1) ts)))
  in_list listed found is e =
      in_turn p ts i within
      ∙ ap (λ o. option_or o (find p (declared (drop (i + 1) ts)))) (sym (e ∙ ap (find p) (is ∙ ap list_tokens (whole ts i))))

  -- what is found in a list is found first
  pub at_list : (listed : List Token) (found : Option Token) → listed ≡ list_tokens (take (length ts - i) (drop i ts))
      → found ≡ find p listed → is_some found ≡ true → found ≡ find p (declared (drop i ts))
  at_list listed None is e some = cc
  at_list listed (Some t) is e some = sym (in_list listed (Some t) is e)

  -- else what is found later
  pub past_list : (listed : List Token) (found : Option Token) → listed ≡ list_tokens (take (length ts - i) (drop i ts))
      → found ≡ find p listed → is_some found ≡ false → find p (declared (drop (i + 1) ts)) ≡ find p (declared (drop i ts))
  past_list listed None is e none = sym (in_list listed None is e)
  past_list listed (Some t) is e none = cc

-- without tokens nothing is declared
pub none_declared : declared [] ≡ []
unfolding declared
none_declared = refl

-- what is found in three lists
pub joined : (p : Token → Bool) (xs ys zs : List Token)
    → find p (xs ++ (ys ++ zs)) ≡ option_or (find p xs) (option_or (find p ys) (find p zs))
joined p xs ys zs = find-append p xs (ys ++ zs) ∙ ap (option_or (find p xs)) (find-append p ys zs)
