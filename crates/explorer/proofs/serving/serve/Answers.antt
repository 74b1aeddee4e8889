-- What is promised with a stream for messages holds without one.
use Rattle.explorer.proofs.serving.serve.Goals as goal

pub returns-clause-serves : goal.returns-clause-serves
returns-clause-serves g c = ((_, _), c.serve_telling.ensures.serves)

pub returns-clause-answers : goal.returns-clause-answers
returns-clause-answers g c = λ few. ((_, _), c.serve_telling.ensures.answers few)
