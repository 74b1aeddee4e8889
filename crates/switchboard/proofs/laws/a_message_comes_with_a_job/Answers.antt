use Rattle.switchboard.proofs.Jobs.{job_new, job_other}
use Rattle.switchboard.proofs.laws.a_message_comes_with_a_job.Goals as goal

pub returns-clause-has : goal.returns-clause-has
returns-clause-has g c = job_new g.M.Mail.fits

pub returns-clause-other : goal.returns-clause-other
returns-clause-other g c = job_other g.M.Mail.fits
