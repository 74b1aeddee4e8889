-- Each step does to the number what it does to the stack.
use Rattle.std.proofs.Common.{◌∙◌, sym, ap, subst, length, [], ◌∷◌}
use Rattle.flow_graph.specs.Bits.{bit_of, coded}
use Rattle.flow_graph.specs.Postfix.{IsShallow, after_step}
use Rattle.flow_graph.proofs.Stacks.{pushed, read_worth, byte_worth}
use Rattle.flow_graph.proofs.postfix.stepped.Goals as goal

pub returns-in-Read : goal.returns-in-Read
returns-in-Read c s e shallow =
    let room = subst (λ t. IsShallow (length s) (t ∷ [])) c.in-Read.is shallow in
    pushed c.args.stack _ (bit_of c.args.values c.in-Read.b) s e room.0 (c.bit.ensures ∙ read_worth c.args.values c.in-Read.b room.1.0)
    ∙ ap (λ t. coded (after_step (bit_of c.args.values) t s)) (sym c.in-Read.is)

pub returns-in-Constant : goal.returns-in-Constant
returns-in-Constant c s e shallow =
    let room = subst (λ t. IsShallow (length s) (t ∷ [])) c.in-Constant.is shallow in
    pushed c.args.stack _ c.in-Constant.b s e room.0 (byte_worth c.in-Constant.b)
    ∙ ap (λ t. coded (after_step (bit_of c.args.values) t s)) (sym c.in-Constant.is)
