-- The line about the file has the words of the refusal; the rounds are those of the order.
use Rattle.refusals.proofs.explanation.explain.Goals as goal

pub returns-in-NoWorker : goal.returns-in-NoWorker
returns-in-NoWorker g c = rw c.in-NoWorker.is c.push_about.ensures

pub returns-in-Spent : goal.returns-in-Spent
returns-in-Spent g c = rw c.in-Spent.is c.push_about-in-Spent.ensures

pub returns-in-TooWide : goal.returns-in-TooWide
returns-in-TooWide g c = rw (c.in-TooWide.is, ← c.rounds_in.ensures) c.too_wide.ensures
