use Rattle.refusals.proofs.lines.line.Goals as goal

pub returns-in-TooWide-clause-memory : goal.returns-in-TooWide-clause-memory
returns-in-TooWide-clause-memory g c = tt
