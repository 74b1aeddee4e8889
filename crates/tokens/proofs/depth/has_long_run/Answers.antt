use Rattle.std.proofs.Common.{◌≡◌, true, false, refl, arith}
use Rattle.std.proofs.lemmas.Grind.{common_steps}
use Rattle.tokens.specs.Token.{toks_of}
use Rattle.tokens.proofs.Deep.{runs, runs_long, long_runs}
use Rattle.tokens.proofs.depth.has_long_run.Goals as goal

pub returns-then-operators-gt-LIMIT : goal.returns-then-operators-gt-LIMIT
returns-then-operators-gt-LIMIT c =
    let found : runs 0 (toks_of c.args.tokens.now) ≡ true = grind (arith, common_steps) in
    (λ holds. runs_long _ found, λ long. refl)

pub returns : goal.returns
returns c =
    let missed : runs 0 (toks_of c.args.tokens.now) ≡ false = grind (arith, common_steps) in
    (λ fails. cc, λ long. let found = long_runs _ long in cc)
