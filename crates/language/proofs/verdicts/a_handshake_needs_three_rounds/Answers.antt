use Rattle.language.proofs.Handshake.{handshake_needs_three}
use Rattle.language.proofs.verdicts.a_handshake_needs_three_rounds.Goals as goal

pub returns : goal.returns
returns c = handshake_needs_three
