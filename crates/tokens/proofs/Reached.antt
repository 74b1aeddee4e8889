-- How far a text has been cut.
use Rattle.std.proofs.Common.{◌≡◌, true, ℕ, ◌+◌, ◌-◌, ◌<◌, List, [], ◌∷◌, ◌++◌, length, take, drop, refl, sym, ap, subst, ◌∙◌, arith}
use Rattle.std.proofs.Common.{append_assoc, append-nil, length-append}
use Rattle.std.proofs.Math.Seq.{drop-append_seam}
use Rattle.std.proofs.lemmas.List.{take-append-drop, append_cancel_left, map_push}
use Rattle.std.specs.Prelude.{◌==◌}
use Rattle.std.specs.Str.{IsAscii}
use Rattle.std.proofs.lemmas.Bool.Decides.{nat_tests}
use Rattle.std.proofs.lemmas.Str.{IsAscii-drop}
use Rattle.tokens.specs.declared.vocabulary.Kind.{Kind}
use Rattle.std.specs.List.{slice_range}
use Rattle.tokens.specs.declared.vocabulary.Token.{Token}
use Rattle.tokens.specs.Token.{Tok, tok_of, toks_of}
use Rattle.tokens.proofs.Runs.{from_start}
use Rattle.tokens.specs.Cuts.{IsGap, IsToken, Cuts, nothing, gap, token, IsBad, BadAt, past_gap, past_token}
use Rattle.tokens.proofs.Fronts.{gap_some, token_some, token_no_gap, one_gap, one_token, token_long}

-- The tokens so far and those of the rest are those of the whole, whichever they are, and if the rest is bad the
-- whole is.
pub record Reached (text : List ℕ) (so_far : List Tok) (at : ℕ) (rest : List ℕ) : Type 0 where
  pub within : at + length rest ≡ length text
  pub ascii : IsAscii rest
  pub joins : (others : List Tok) → Cuts at rest others → Cuts 0 text (so_far ++ others)
  pub parts : (all : List Tok) → Cuts 0 text all → (others : List Tok) × (all ≡ so_far ++ others) × Cuts at rest others
  pub bad : (place : ℕ) → BadAt at rest place → BadAt 0 text place

pub start : (text : List ℕ) → IsAscii text → Reached text [] 0 text
start text ascii = record {
  within = omega arith;
  ascii = ascii;
  joins = λ others cut. cut;
  parts = λ all cut. (all, refl, cut);
  bad = λ place is. is;
}

-- What is cut after a gap.
pub past_the_gap : (at : ℕ) (bs text rest : List ℕ) (tokens : List Tok) → bs ≡ text ++ rest → IsGap text rest → Cuts at bs tokens
    → Cuts (at + length text) rest tokens
past_the_gap at bs text rest tokens e is nothing = absurd (gap_some text rest e is)
past_the_gap at bs text rest tokens e is (gap other left f also cut) =
    let same : text ≡ other = one_gap text rest other left (sym e ∙ f) is also in
    let ends : rest ≡ left = append_cancel_left text rest left (sym e ∙ f ∙ ap (λ v. v ++ left) (sym same)) in
    subst (λ v. Cuts (at + length v) rest tokens) (sym same) (subst (λ v. Cuts (at + length other) v tokens) (sym ends) cut)
past_the_gap at bs text rest tokens e is (token k other left f also cut) = absurd (token_no_gap k other left text rest (sym f ∙ e) also is)

-- What is cut after a token.
pub past_the_token : (at : ℕ) (bs : List ℕ) (k : Kind) (text rest : List ℕ) (tokens : List Tok) → bs ≡ text ++ rest → IsToken k text rest
    → Cuts at bs tokens
    → (others : List Tok) × (tokens ≡ record { kind = k; at = at; text = text } ∷ others) × Cuts (at + length text) rest others
past_the_token at bs k text rest tokens e is nothing = absurd (token_some k text rest e is)
past_the_token at bs k text rest tokens e is (gap other left f also cut) = absurd (token_no_gap k text rest other left (sym e ∙ f) is also)
past_the_token at bs k text rest tokens e is (token {tokens = others} j other left f also cut) =
    let both : (k ≡ j) × (text ≡ other) = one_token k j text rest other left (sym e ∙ f) is also in
    let same : text ≡ other = both.1 in
    let kinds : k ≡ j = both.0 in
    let ends : rest ≡ left = append_cancel_left text rest left (sym e ∙ f ∙ ap (λ v. v ++ left) (sym same)) in
    (others, cc, subst (λ v. Cuts (at + length v) rest others) (sym same) (subst (λ v. Cuts (at + length other) v others) (sym ends) cut))

module _ (text : List ℕ) (so_far : List Tok) (at : ℕ) (bs v w : List ℕ) (e : bs ≡ v ++ w) (r : Reached text so_far at bs) where
  within_rest : at + length v + length w ≡ length text
  within_rest = omega (arith, r.within, ap length e ∙ length-append v w)

  ascii_rest : IsAscii w
  ascii_rest = subst IsAscii (ap (drop (length v)) e ∙ drop-append_seam v w) (IsAscii-drop bs (length v) r.ascii)

  -- A step over a gap.
  pub step_gap : IsGap v w → Reached text so_far (at + length v) w
  step_gap is = record {
    within = within_rest;
    ascii = ascii_rest;
    joins = λ others cut. r.joins others (gap v w e is cut);
    parts = λ all cut. let (others, join, rest) = r.parts all cut in (others, join, past_the_gap at bs v w others e is rest);
    bad = λ place is_bad. r.bad place (past_gap v w e is is_bad);
  }

  -- A step over a token.
  pub step_token : (k : Kind) → IsToken k v w → Reached text (so_far ++ record { kind = k; at = at; text = v } ∷ []) (at + length v) w
  step_token k is = record {
    within = within_rest;
    ascii = ascii_rest;
    joins =
        λ others cut.
        subst (Cuts 0 text) (sym (append_assoc so_far (record { kind = k; at = at; text = v } ∷ []) others))
        (r.joins (record { kind = k; at = at; text = v } ∷ others) (token k v w e is cut));
    parts = λ all cut. let (found, join, rest) = r.parts all cut in
        let (others, heads, left) = past_the_token at bs k v w found e is rest in (
          others,
          join ∙ ap (λ ts. so_far ++ ts) heads ∙ sym (append_assoc so_far (record { kind = k; at = at; text = v } ∷ []) others),
          left,
        );
    bad = λ place is_bad. r.bad place (past_token k v w e is is_bad);
  }

-- What is bad is not cut.
pub uncut : (at : ℕ) (bs : List ℕ) (tokens : List Tok) → IsBad bs → Cuts at bs tokens → ⊥
uncut at bs tokens is nothing = omega (arith, is.some)
uncut at bs tokens is (gap text rest e also cut) = is.no_gap text rest e also
uncut at bs tokens is (token k text rest e also cut) = is.no_token k text rest e also

-- Of no bytes no tokens are cut.
pub nothing_left : (at : ℕ) (tokens : List Tok) → Cuts at [] tokens → tokens ≡ []
nothing_left at tokens nothing = refl
nothing_left at tokens (gap text rest e is cut) = absurd (gap_some text rest e is)
nothing_left at tokens (token k text rest e is cut) = absurd (token_some k text rest e is)

-- Bytes of no length are none.
pub at_end : (text : List ℕ) (so_far : List Tok) (at : ℕ) (bs : List ℕ) → true ≡ (length bs == 0) → Reached text so_far at bs
    → Reached text so_far at []
at_end text so_far at [] e r = r
at_end text so_far at (b ∷ bs) e r = absurd (grind (arith, nat_tests))

-- At the end all is cut,
pub all_cut : (text : List ℕ) (so_far : List Tok) (at : ℕ) → Reached text so_far at [] → Cuts 0 text so_far
all_cut text so_far at r = subst (Cuts 0 text) (append-nil so_far) (r.joins [] nothing)

-- in this way only.
pub only_cut : (text : List ℕ) (so_far : List Tok) (at : ℕ) → Reached text so_far at [] → (others : List Tok) → Cuts 0 text others
    → others ≡ so_far
only_cut text so_far at r others cut =
    let (left, join, none) = r.parts others cut in join ∙ ap (λ ts. so_far ++ ts) (nothing_left at left none) ∙ append-nil so_far

-- If the rest is bad, the whole is not cut.
pub never_cut : (text : List ℕ) (so_far : List Tok) (at : ℕ) (bs : List ℕ) → Reached text so_far at bs → IsBad bs → (others : List Tok)
    → Cuts 0 text others → ⊥
never_cut text so_far at bs r is others cut = let (left, join, rest) = r.parts others cut in uncut at bs left is rest

-- The rest after a token is shorter.
pub token_shortens : (k : Kind) (bs : List ℕ) (n : ℕ) (rest : List ℕ) → IsToken k (take n bs) (drop n bs) → rest ≡ drop n bs
    → length rest < length bs
token_shortens k bs n rest is e =
    omega (arith, token_long k _ _ is, ap length e, sym (length-append (take n bs) (drop n bs)) ∙ ap length (take-append-drop n bs))

-- A step over a gap of n bytes.
pub over_gap : (text : List ℕ) (so_far : List Tok) (at : ℕ) (bs : List ℕ) (n : ℕ) (rest : List ℕ) → Reached text so_far at bs
    → IsGap (take n bs) (drop n bs) → rest ≡ drop n bs → Reached text so_far (length text - length rest) rest
over_gap text so_far at bs n rest r is e =
    let next : Reached text so_far (at + length (take n bs)) (drop n bs) =
    step_gap text so_far at bs (take n bs) (drop n bs) (sym (take-append-drop n bs)) r is in
    let place : at + length (take n bs) ≡ length text - length (drop n bs) = omega (arith, next.within) in
    subst (λ v. Reached text so_far (length text - length v) v) (sym e) (subst (λ m. Reached text so_far m (drop n bs)) place next)

-- A step over a token of n bytes.
over_token : (text : List ℕ) (so_far : List Tok) (at : ℕ) (bs : List ℕ) (k : Kind) (n : ℕ) (front rest : List ℕ)
    → Reached text so_far at bs → IsToken k (take n bs) (drop n bs) → front ≡ take n bs → rest ≡ drop n bs
    → Reached text (so_far ++ record { kind = k; at = at; text = front } ∷ []) (length text - length rest) rest
over_token text so_far at bs k n front rest r is e f =
    let next : Reached text (so_far ++ record { kind = k; at = at; text = take n bs } ∷ []) (at + length (take n bs)) (drop n bs) =
    step_token text so_far at bs (take n bs) (drop n bs) (sym (take-append-drop n bs)) r k is in
    let place : at + length (take n bs) ≡ length text - length (drop n bs) = omega (arith, next.within) in
    subst (λ v. Reached text (so_far ++ record { kind = k; at = at; text = v } ∷ []) (length text - length rest) rest) (sym e)
    (subst (λ v. Reached text (so_far ++ record { kind = k; at = at; text = take n bs } ∷ []) (length text - length v) v) (sym f)
    (subst (λ m. Reached text (so_far ++ record { kind = k; at = at; text = take n bs } ∷ []) m (drop n bs)) place next))

-- The token pushed, and the text after it left.
pub pushed : (text : List ℕ) (items after : List Token) (t : Token) (bs : List ℕ) (n : ℕ) (rest : List ℕ)
    → Reached text (toks_of items) t.at bs → IsToken t.kind (take n bs) (drop n bs) → t.text.now ≡ slice_range bs 0 n → rest ≡ drop n bs
    → after ≡ items ++ t ∷ [] → Reached text (toks_of after) (length text - length rest) rest
pushed text items after t bs n rest r is e f grown =
    subst (λ ts. Reached text ts (length text - length rest) rest) (sym (ap toks_of grown ∙ map_push tok_of items t))
    (over_token text (toks_of items) t.at bs t.kind n t.text.now rest r is (e ∙ from_start bs n) f)
