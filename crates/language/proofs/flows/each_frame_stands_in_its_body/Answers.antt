use Rattle.language.proofs.Standing.{frame_stands, waiting_stands}
use Rattle.language.proofs.flows.each_frame_stands_in_its_body.Goals as goal

pub returns : goal.returns
returns c = λ p g stack q l r reaches. (
  frame_stands p g stack q l r reaches,
  λ x. waiting_stands p g stack q l x r reaches,
)
