use Rattle.summaries.proofs.reading.summary_of.Goals as goal

pub returns : goal.returns
returns g c =
    let entries = c.in_ok-entries.ensures in
    let pairs = c.in_ok-pairs.ensures in
    record { ascend = entries.ascend; entries = entries.entries; pairs_ascend = pairs.ascend; pairs = pairs.pairs }
