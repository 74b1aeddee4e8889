use Rattle.language.proofs.Rests.{rest_in_loop}
use Rattle.language.proofs.laws.a_label_in_a_loop_leads_back_to_the_loop.Goals as goal

pub returns : goal.returns
returns c = rest_in_loop
