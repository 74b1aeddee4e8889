use Rattle.checked.proofs.checked.Checked.new.Goals as goal

pub invariant_of-result : goal.invariant_of-result
invariant_of-result g c = record { checked = c.requires }
