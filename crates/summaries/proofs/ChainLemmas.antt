-- Chains of what calls leave.
use Rattle.std.proofs.Common.{◌≡◌, ◌≤◌, ◌<◌, ℕ, suc, cond, Bool, true, false, List, [], ◌∷◌, ◌++◌, Some, length, reverse}
use Rattle.std.proofs.Common.{Result, Ok, Err, slice_get, inl, inr, refl, sym, ap, ◌∙◌, subst, arith}
use Rattle.std.specs.Map.{lookup}
use Rattle.std.specs.Result.{OnOk, OnErr}
use Rattle.std.proofs.lemmas.Bool.{eq-eqb, ne_eqb}
use Rattle.std.proofs.lemmas.List.{length-reverse, reverse-append, reverse-reverse}
use Rattle.std.proofs.lemmas.Option.{none-some}
use Rattle.path_sets.proofs.GrowthLemmas.{got_from}
use Rattle.summaries.specs.declared.calls.KnownCall.{KnownCall}
use Rattle.summaries.specs.declared.chains.Link.{Link}
use Rattle.summaries.specs.declared.edge.CallKey.{CallKey}
use Rattle.summaries.specs.Chains.{chain_among, chain_of, LeadBack}
use Rattle.summaries.specs.KnownCalls.{call_eq, chain_if_any}

-- a chain of older links is what it was
among_older : (last : Link) (older : List Link) (chain : ℕ) → chain ≤ length older
    → chain_among (last ∷ older) chain ≡ chain_among older chain
among_older last older chain old =
    ap (λ b. cond b (chain_among older last.before ++ last.exit ∷ []) (chain_among older chain))
    (ne_eqb chain (suc (length older)) (λ e. absurd (omega (arith, e, old))))

-- the chain of the latest link ends with that
among_last : (last : Link) (older : List Link) (chain : ℕ) → chain ≡ suc (length older)
    → chain_among (last ∷ older) chain ≡ chain_among older last.before ++ last.exit ∷ []
among_last last older chain is =
    ap (λ b. cond b (chain_among older last.before ++ last.exit ∷ []) (chain_among older chain))
    (eq-eqb chain (suc (length older)) is)

-- a link is added
module _ (links more : List Link) (last : Link) (is : more ≡ links ++ last ∷ []) where
  behind : reverse more ≡ last ∷ reverse links
  behind = ap reverse is ∙ reverse-append links (last ∷ [])

  -- other chains are what they were
  pub chain_older : (chain : ℕ) → chain ≤ length links → chain_of more chain ≡ chain_of links chain
  chain_older chain old =
      ap (λ l. chain_among l chain) behind
      ∙ among_older last (reverse links) chain (subst (λ n. chain ≤ n) (sym (length-reverse links)) old)

  -- and that of the link ends with it
  pub chain_added : (chain : ℕ) → chain ≡ length more → chain_of more chain ≡ chain_of links last.before ++ last.exit ∷ []
  chain_added chain end =
      ap (λ l. chain_among l chain) behind
      ∙ among_last last (reverse links) chain (end ∙ sym (length-reverse more) ∙ ap length behind)

-- a chain of no link tells nothing
none_among : (older : List Link) → chain_among older 0 ≡ []
none_among [] = refl
none_among (last ∷ older) = among_older last older 0 (omega arith) ∙ none_among older

pub chain_none : (links : List Link) (chain : ℕ) → chain ≡ 0 → chain_of links chain ≡ []
chain_none links chain is = ap (chain_of links) is ∙ none_among (reverse links)

-- nor does one past the links
past_among : (older : List Link) (chain : ℕ) → length older < chain → chain_among older chain ≡ []
past_among [] chain past = refl
past_among (last ∷ older) chain past =
    ap (λ b. cond b (chain_among older last.before ++ last.exit ∷ []) (chain_among older chain))
    (ne_eqb chain (suc (length older)) (λ e. absurd (omega (arith, e, past))))
    ∙ past_among older chain (omega (arith, past))

pub chain_past : (links : List Link) (chain : ℕ) → length links < chain → chain_of links chain ≡ []
chain_past links chain past =
    past_among (reverse links) chain (subst (λ n. n < chain) (sym (length-reverse links)) past)

-- the chain of the link at an index ends with that
at_among : (older : List Link) (at : ℕ) (here : Link) → slice_get (reverse older) at ≡ Some here → here.before ≤ at
    → chain_among older (suc at) ≡ chain_among older here.before ++ here.exit ∷ []
at_among [] at here is back = absurd (none-some here is)
at_among (last ∷ older) at here is back =
    let kept : here.before ≤ length older → chain_among older here.before ++ here.exit ∷ []
    ≡ chain_among (last ∷ older) here.before ++ here.exit ∷ [] =
    λ old. ap (λ l. l ++ here.exit ∷ []) (sym (among_older last older here.before old)) in
    let size = length-reverse older in
    elim (got_from (reverse older) last here at (sym (ap (λ l. slice_get l at) (reverse-append (last ∷ []) older)) ∙ is)) [
      | inl (less, was) ↦ among_older last older (suc at) (omega (arith, less, size)) ∙ at_among older at here was back
          ∙ kept (omega (arith, less, size, back))
      | inr (end, same) ↦ among_last last older (suc at) (ap suc (end ∙ size))
          ∙ ap (λ (l : Link). chain_among older l.before ++ l.exit ∷ []) (sym same) ∙ kept (omega (arith, end, size, back))
    ]

pub chain_at : (links : List Link) (at : ℕ) (here : Link) (chain : ℕ) → LeadBack links → slice_get links at ≡ Some here
    → chain ≡ suc at → chain_of links chain ≡ chain_of links here.before ++ here.exit ∷ []
chain_at links at here chain back is next =
    ap (chain_of links) next
    ∙ at_among (reverse links) at here (ap (λ l. slice_get l at) (reverse-reverse links) ∙ is) (back at here is)

-- if a link is added behind a chain of those before it, each link still is behind such a chain
leads_back : (links more : List Link) (last : Link) → more ≡ links ++ last ∷ [] → LeadBack links → last.before ≤ length links
    → LeadBack more
leads_back links more last is back low at here there =
    elim (got_from links last here at (ap (λ l. slice_get l at) (sym is) ∙ there)) [
      | inl (less, was) ↦ back at here was
      | inr (end, same) ↦ omega (arith, low, end, ap (λ (l : Link). l.before) same)
    ]

-- and so it is if the link was refused
pub lead_back_after : {T E : Type 0} (answer : Result T E) (links more : List Link) (last : Link)
    → OnOk answer (more ≡ links ++ last ∷ []) → OnErr answer (more ≡ links) → LeadBack links → last.before ≤ length links
    → LeadBack more
lead_back_after (Ok _) links more last is same = leads_back links more last is
lead_back_after (Err _) links more last is same = λ back low. subst LeadBack (sym same) back

-- if what is known of a call is written, each chain is within the links if that of the call is
pub within_after : {A : Type 0} (es fs : List (CallKey × KnownCall A)) (k : CallKey) (new : KnownCall A)
    → ((j : CallKey) → lookup (call_eq j) fs ≡ cond (call_eq k j) (Some new) (lookup (call_eq j) es))
    → (old n : ℕ) → ((j : CallKey) → chain_if_any (lookup (call_eq j) es) ≤ old) → old ≤ n → new.chain ≤ n
    → (j : CallKey) → chain_if_any (lookup (call_eq j) fs) ≤ n
within_after es fs k new is old n within more less j =
    subst (λ o. chain_if_any o ≤ n) (sym (is j)) (by (call_eq k j))
  where
    by : (b : Bool) → chain_if_any (cond b (Some new) (lookup (call_eq j) es)) ≤ n
    by true = less
    by false = let was = within j in omega (arith, was, more)
