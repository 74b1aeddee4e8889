-- Chains of what calls leave.
use Rattle.std.specs.Prelude.{◌≡◌, ◌≤◌, ℕ, suc, cond, nat_eq, List, [], ◌∷◌, ◌++◌, Some, length, reverse, slice_get}
use Rattle.flow_graph.specs.declared.exit.Exit.{Exit}
use Rattle.summaries.specs.declared.chains.Link.{Link}

-- the link that tells what is left, behind a chain
abbrev pub link : Exit → ℕ → Link
link exit before = record { exit = exit; before = before }

-- What is told by the chain of this number, in the order of adding, where the links are listed with the latest first.
abbrev pub chain_among : List Link → ℕ → List Exit
chain_among [] chain = []
chain_among (last ∷ older) chain =
    cond (nat_eq chain (suc (length older))) (chain_among older last.before ++ last.exit ∷ []) (chain_among older chain)

-- the same, where the links are listed in the order of adding
abbrev pub chain_of : List Link → ℕ → List Exit
chain_of links = chain_among (reverse links)

-- each link is behind a chain of links before it
abbrev pub LeadBack : List Link → Type 0
LeadBack links = (at : ℕ) (here : Link) → slice_get links at ≡ Some here → here.before ≤ at
