use Rattle.switchboard.proofs.Staying.{known_to_posts, closed_to_posts}
use Rattle.switchboard.proofs.laws.nothing_is_posted_after_the_close.Goals as goal

pub returns-clause-known : goal.returns-clause-known
returns-clause-known g c = known_to_posts g.M.Mail.fits

pub returns-clause-closed : goal.returns-clause-closed
returns-clause-closed g c = closed_to_posts g.M.Mail.fits
