use Rattle.switchboard.proofs.Jobs.{kept_none, takes_keep, post_keeps, done_keeps, abort_keeps}
use Rattle.switchboard.proofs.laws.a_job_lasts_until_it_is_done.Goals as goal

pub returns-clause-takes : goal.returns-clause-takes
returns-clause-takes g c = takes_keep g.M.Mail.fits

pub returns-clause-posts : goal.returns-clause-posts
returns-clause-posts g c = λ s t job to m r j p. post_keeps g.M.Mail.fits s t job to m r p j

pub returns-clause-dones : goal.returns-clause-dones
returns-clause-dones g c = done_keeps g.M.Mail.fits

pub returns-clause-aborts : goal.returns-clause-aborts
returns-clause-aborts g c = abort_keeps g.M.Mail.fits

pub returns-clause-tales : goal.returns-clause-tales
returns-clause-tales g c = λ s t told j l. kept_none g.M.Mail.fits s t j l.none
