use Rattle.std.proofs.Common.{◌∙◌, ℕ, length, ap, sym, nat_eq}
use Rattle.std.proofs.lemmas.List.{length-map}
use Rattle.trees.specs.Trees.{name_of}
use Rattle.scopes.proofs.threads.takes_nothing.Goals as goal

pub returns : goal.returns
returns g c = c.is_empty.ensures ∙ ap (λ l. nat_eq (length l) 0) c.as_slice.ensures.value
    ∙ ap (λ (n : ℕ). nat_eq n 0) (sym (length-map c.args.proc.now.formals.items name_of))
