use Rattle.stack_sets.proofs.inclusions.holds.Goals as goal

pub returns-in-Some-Some : goal.returns-in-Some-Some
returns-in-Some-Some g c t =
    (c.in-Some-Some.one.now, c.in-Some-Some.other.now, c.in-Some-Some.ensures, c.in-Some-Some.ensures', c.has_all.ensures t)
