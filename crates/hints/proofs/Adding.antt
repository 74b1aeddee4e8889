-- The line of a hint follows the tokens of the text before its place.
use Rattle.std.proofs.Common.{◌≡◌, ℕ, List, Result, Ok, Err, drop, inl, subst, take}
use Rattle.std.specs.Prelude.{OnOk}
use Rattle.tokens.specs.Cuts.{Cuts}
use Rattle.tokens.specs.Token.{toks_of}
use Rattle.tokens.specs.declared.vocabulary.Token.{Token}
use Rattle.hints.specs.Hint.{AddsHint, AddsRow}
use Rattle.hints.specs.Place.{surroundings_at}
use Rattle.hints.specs.Tables.{row_for}

pub added : {T E : Type 0} (r : Result T E) (text before rest old new : List ℕ) (at : ℕ) (tokens : List Token)
    → before ≡ take at text → rest ≡ drop at text → Cuts 0 before (toks_of tokens)
    → OnOk r (AddsRow text tokens (row_for (surroundings_at tokens rest)) old new) → OnOk r (AddsHint text at old new)
added (Ok _) text before rest old new at tokens b d cuts adds =
    let there = subst (λ x. AddsRow text tokens (row_for (surroundings_at tokens x)) old new) d adds in
    inl (tokens, subst (λ x. Cuts 0 x (toks_of tokens)) b cuts, there)
added (Err _) text before rest old new at tokens b d cuts adds = tt
