-- Bytes are cut in one way, or are bad in one place.
use Rattle.std.proofs.Common.{◌≡◌, ℕ, ◌+◌, List, ◌∷◌, ◌++◌, length, refl, sym, ap, subst, ◌∙◌}
use Rattle.std.proofs.lemmas.List.{append_cancel_left}
use Rattle.tokens.specs.declared.vocabulary.Kind.{Kind}
use Rattle.tokens.specs.Token.{Tok}
use Rattle.tokens.specs.Cuts.{IsGap, IsToken, Cuts, nothing, gap, token, BadAt, here, past_gap, past_token}
use Rattle.tokens.proofs.Fronts.{token_no_gap, one_gap, one_token}
use Rattle.tokens.proofs.Reached.{past_the_gap, past_the_token, nothing_left, uncut}

-- No bytes are cut in two ways.
pub one_cut : (at : ℕ) (bs : List ℕ) (ts us : List Tok) → Cuts at bs ts → Cuts at bs us → ts ≡ us
one_cut at bs ts us nothing other = sym (nothing_left at us other)
one_cut at bs ts us (gap text rest e is cut) other = one_cut (at + length text) rest ts us cut (past_the_gap at bs text rest us e is other)
one_cut at bs ts us (token {tokens = more} k text rest e is cut) other =
    let (others, join, left) = past_the_token at bs k text rest us e is other in
    ap (λ v. record { kind = k; at = at; text = text } ∷ v) (one_cut (at + length text) rest more others cut left) ∙ sym join

-- Bytes that are bad in some place are not cut.
pub never_both : (at place : ℕ) (bs : List ℕ) (ts : List Tok) → BadAt at bs place → Cuts at bs ts → ⊥
never_both at place bs ts (here is) cut = uncut at bs ts is cut
never_both at place bs ts (past_gap text rest e is bad) cut =
    never_both (at + length text) place rest ts bad (past_the_gap at bs text rest ts e is cut)
never_both at place bs ts (past_token k text rest e is bad) cut =
    let (others, join, left) = past_the_token at bs k text rest ts e is cut in
    never_both (at + length text) place rest others bad left

-- What is bad after a gap,
bad_past_gap : (at place : ℕ) (bs text rest : List ℕ) → bs ≡ text ++ rest → IsGap text rest → BadAt at bs place
    → BadAt (at + length text) rest place
bad_past_gap at place bs text rest e is (here bad) = absurd (bad.no_gap text rest e is)
bad_past_gap at place bs text rest e is (past_gap other left f also bad) =
    let same : text ≡ other = one_gap text rest other left (sym e ∙ f) is also in
    let ends : rest ≡ left = append_cancel_left text rest left (sym e ∙ f ∙ ap (λ v. v ++ left) (sym same)) in
    subst (λ v. BadAt (at + length v) rest place) (sym same) (subst (λ v. BadAt (at + length other) v place) (sym ends) bad)
bad_past_gap at place bs text rest e is (past_token k other left f also bad) =
    absurd (token_no_gap k other left text rest (sym f ∙ e) also is)

-- and after a token.
bad_past_token : (at place : ℕ) (bs : List ℕ) (k : Kind) (text rest : List ℕ) → bs ≡ text ++ rest → IsToken k text rest → BadAt at bs place
    → BadAt (at + length text) rest place
bad_past_token at place bs k text rest e is (here bad) = absurd (bad.no_token k text rest e is)
bad_past_token at place bs k text rest e is (past_gap other left f also bad) =
    absurd (token_no_gap k text rest other left (sym e ∙ f) is also)
bad_past_token at place bs k text rest e is (past_token j other left f also bad) =
    let same : text ≡ other = (one_token k j text rest other left (sym e ∙ f) is also).1 in
    let ends : rest ≡ left = append_cancel_left text rest left (sym e ∙ f ∙ ap (λ v. v ++ left) (sym same)) in
    subst (λ v. BadAt (at + length v) rest place) (sym same) (subst (λ v. BadAt (at + length other) v place) (sym ends) bad)

-- No bytes are bad in two places.
pub one_place : (at p q : ℕ) (bs : List ℕ) → BadAt at bs p → BadAt at bs q → p ≡ q
one_place at p q bs (here is) (here also) = refl
one_place at p q bs (here is) (past_gap text rest e also bad) = absurd (is.no_gap text rest e also)
one_place at p q bs (here is) (past_token k text rest e also bad) = absurd (is.no_token k text rest e also)
one_place at p q bs (past_gap text rest e is bad) other =
    one_place (at + length text) p q rest bad (bad_past_gap at q bs text rest e is other)
one_place at p q bs (past_token k text rest e is bad) other =
    one_place (at + length text) p q rest bad (bad_past_token at q bs k text rest e is other)
