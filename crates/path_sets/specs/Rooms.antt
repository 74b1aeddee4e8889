-- Room for what is gathered.
use Rattle.std.specs.Prelude.{◌≡◌, ◌<◌, ◌≤◌, [], length}
use Rattle.path_sets.specs.declared.diagrams.batches.Batches.{Batches}
use Rattle.path_sets.specs.Batches.{gathered_at}

-- if as many masks waited as may, and there was a batch, the one that was the oldest then has none
abbrev pub HasMadeRoom : {A : Type 0} → Batches A → Batches A → Type 0
HasMadeRoom old new = old.most ≤ old.waiting → old.oldest < length old.batches.items → gathered_at new.batches.items old.oldest ≡ []
