use Rattle.std.proofs.Common.{◌∙◌, arith}
use Rattle.path_sets.proofs.HalvesLemmas.{high_goes, high_rest, low_ends, low_goes}
use Rattle.path_sets.proofs.diagrams.insertion.next_two_bits.Goals as goal
use Rattle.path_sets.proofs.diagrams.insertion.next_two_bits.Goals.{else-rest-eq0-via-then-rest-eq0+else-insertion-eq0}
use Rattle.path_sets.proofs.diagrams.insertion.next_two_bits.Goals.{else-rest-eq0-via-else-rest-eq0}

pub returns-then-insertion-eq0-clause-none : goal.returns-then-insertion-eq0-clause-none
returns-then-insertion-eq0-clause-none c _ =
    let insertion = c.args.insertion.now in
    low_ends insertion.low insertion.high c.args.level c.if-level-lt-HALF.true c.if-rest-eq0.true c.if-insertion-eq0.true

pub returns-then-level-lt-HALF-clause-some : goal.returns-then-level-lt-HALF-clause-some
returns-then-level-lt-HALF-clause-some c =
    let insertion = c.args.insertion.now in
    let less = c.if-level-lt-HALF.true in elim c.else-rest-eq0.branch [
      | else-rest-eq0-via-then-rest-eq0+else-insertion-eq0 w ↦
          low_goes insertion.low insertion.high c.args.level less (λ rest high. w.if-insertion-eq0.false high)
      | else-rest-eq0-via-else-rest-eq0 w ↦ low_goes insertion.low insertion.high c.args.level less (λ rest high. w.if-rest-eq0.false rest)
    ]

pub returns-then-rest-eq0-2-clause-none : goal.returns-then-rest-eq0-2-clause-none
returns-then-rest-eq0-2-clause-none c _ =
    let insertion = c.args.insertion.now in
    high_rest insertion.low insertion.high c.args.level (omega arith) c.if-level-lt-HALF.false ∙ c.if-rest-eq0-2.true

pub returns-clause-some : goal.returns-clause-some
returns-clause-some c =
    let insertion = c.args.insertion.now in
    high_goes insertion.low insertion.high c.args.level (omega arith) c.if-level-lt-HALF.false c.if-rest-eq0-2.false
