-- What is returned is what the matches have, and if nothing is returned, they lack something.
use Rattle.std.proofs.Common.{◌∙◌, arith, option_map, sym, ap, subst, codes}
use Rattle.std.proofs.lemmas.Bool.{true≢false}
use Rattle.std.proofs.lemmas.Option.{none-some, same_Some}
use Rattle.clap.specs.Words.{found_of, rows_of}
use Rattle.clap.proofs.WalkLemmas.{first_value-rows}
use Rattle.exploration.specs.Limits.{most_of}
use Rattle.arguments.specs.Found.{ReadsNumber}
use Rattle.arguments.proofs.Reading.{ParsesAs, flag, is_given, number, reads}
use Rattle.explore_line.proofs.line.values_of.Goals as goal

pub returns-in_err-rounds : goal.returns-in_err-rounds
returns-in_err-rounds c =
    let found = found_of c.args.matches.now in
    rw c.from_residual.ensures (λ all. none-some all.0
    (c.in_err-rounds.ensures ∙ first_value-rows found (codes "rounds") ∙ all.5.0))

pub returns-in_err-most : goal.returns-in_err-most
returns-in_err-most c =
    let found = found_of c.args.matches.now in
    rw c.from_residual-in_err-most.ensures (λ all.
    none-some (most_of all.1) (sym c.in_err-most.was
    ∙ number (ParsesAs 32) 32 (λ t r g. g.0) found (codes "limit") c.get_one.result (most_of all.1)
    (omega (arith, all.4)) all.5.1 c.get_one.ensures.value))

pub returns-in_err-limit : goal.returns-in_err-limit
returns-in_err-limit c =
    let found = found_of c.args.matches.now in
    rw c.from_residual-in_err-limit.ensures (λ all.
    let same = same_Some c.in_ok-most.most (most_of all.1) (sym c.in_ok-most.was
    ∙ number (ParsesAs 32) 32 (λ t r g. g.0) found (codes "limit") c.get_one.result (most_of all.1)
    (omega (arith, all.4)) all.5.1 c.get_one.ensures.value) in
    true≢false (sym (c.in_err-limit.ensures.some.1 (omega (arith, same, all.1.some)))))

pub returns-in_err-stats : goal.returns-in_err-stats
returns-in_err-stats c =
    let found = found_of c.args.matches.now in
    rw c.from_residual-in_err-stats.ensures (λ all.
    none-some all.2 (sym c.in_err-stats.was
    ∙ flag _ found (codes "stats") c.get_one-2.result all.2 all.5.2 c.get_one-2.ensures.value))

pub returns-in_err-path : goal.returns-in_err-path
returns-in_err-path c =
    let found = found_of c.args.matches.now in
    rw c.from_residual-in_err-path.ensures (λ all. none-some all.3
    (c.in_err-path.ensures ∙ first_value-rows found (codes "file") ∙ all.5.3))

pub returns : goal.returns
returns c =
    let found = found_of c.args.matches.now in
    let most = reads (ParsesAs 32) 32 (λ t n g. g.0) found (codes "limit") c.get_one.result c.in_ok-most.most
    c.in_ok-most.was c.get_one.ensures.none c.get_one.ensures.value in
    let stats = is_given _ found (codes "stats") c.get_one-2.result c.in_ok-stats.stats c.in_ok-stats.was
    c.get_one-2.ensures.none c.get_one-2.ensures.value in (
      sym (first_value-rows found (codes "rounds")) ∙ sym c.get_str.ensures
          ∙ ap (option_map (λ s. s.now)) c.in_ok-rounds.was,
      subst (ReadsNumber (rows_of found) (codes "limit")) (sym c.in_ok-limit.ensures.most) most,
      stats,
      sym (first_value-rows found (codes "file")) ∙ sym c.get_str-2.ensures
          ∙ ap (option_map (λ s. s.now)) c.in_ok-path.was,
    )
