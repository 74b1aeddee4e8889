use Rattle.std.proofs.Common.{◌≡◌, true, false, refl, arith}
use Rattle.std.proofs.lemmas.Grind.{common_steps}
use Rattle.tokens.specs.Token.{toks_of}
use Rattle.tokens.proofs.Deep.{nests, nests_deep, deep_nests}
use Rattle.tokens.proofs.depth.nests_too_deep.Goals as goal

pub returns-then-openings-closings : goal.returns-then-openings-closings
returns-then-openings-closings c =
    let found : nests 0 0 (toks_of c.args.tokens.now) ≡ true = grind (arith, common_steps) in
    (λ holds. nests_deep _ found, λ deep. refl)

pub returns : goal.returns
returns c =
    let missed : nests 0 0 (toks_of c.args.tokens.now) ≡ false = grind (arith, common_steps) in
    (λ fails. cc, λ deep. let found = deep_nests _ deep in cc)
