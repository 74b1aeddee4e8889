use Rattle.switchboard.proofs.Staying.{abort_answers, abort_posts, abort_refusals}
use Rattle.switchboard.proofs.laws.an_abort_stays.Goals as goal

pub returns-clause-takes : goal.returns-clause-takes
returns-clause-takes g c = abort_answers g.M.Mail.fits

pub returns-clause-posts : goal.returns-clause-posts
returns-clause-posts g c = abort_posts g.M.Mail.fits

pub returns-clause-refusals : goal.returns-clause-refusals
returns-clause-refusals g c = abort_refusals g.M.Mail.fits
