use Rattle.switchboard.proofs.Staying.{closed_answers, closed_known, closed_same}
use Rattle.switchboard.proofs.laws.the_close_stays.Goals as goal

pub returns-clause-answers : goal.returns-clause-answers
returns-clause-answers g c = closed_answers g.M.Mail.fits

pub returns-clause-knows : goal.returns-clause-knows
returns-clause-knows g c = closed_known g.M.Mail.fits

pub returns-clause-same : goal.returns-clause-same
returns-clause-same g c = closed_same g.M.Mail.fits
