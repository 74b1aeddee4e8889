use Rattle.summaries.proofs.Steps.{opening_fits}
use Rattle.summaries.proofs.laws.the_opening_fits_the_first_mailbox.Goals as goal

pub returns : goal.returns
returns g c = opening_fits
