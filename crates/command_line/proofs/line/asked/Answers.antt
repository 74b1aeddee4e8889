-- An order that is returned is what the matches give, and if none is returned, they give none.
use Rattle.std.proofs.Common.{◌≡◌, ◌∙◌, ℕ, Bool, Some, option_map, sym, ap, codes}
use Rattle.std.proofs.lemmas.Option.{none-some, same_Some}
use Rattle.clap.specs.Words.{found_of, rows_of}
use Rattle.clap.proofs.WalkLemmas.{first_value-rows}
use Rattle.arguments.specs.Found.{IsGiven, ReadsNumber}
use Rattle.arguments.proofs.Reading.{ParsesAs, flag, is_given, number, reads}
use Rattle.command_line.proofs.Reading.{gives, has_rounds, is_met, is_named, of_command}
use Rattle.command_line.proofs.line.asked.Goals as goal

pub returns-in_err-rounds : goal.returns-in_err-rounds
returns-in_err-rounds c =
    let m = c.args.matches.now in
    let found = found_of c.in_ok-name.found.now in
    let is = is_met (λ p. p.0.now) (λ p. found_of p.1.now) m c.subcommand.result _ c.in_ok-name.was
    c.subcommand.ensures.name c.subcommand.ensures.rows in
    rw c.from_residual-in_err-rounds.ensures (λ order path asks.
    let rounds = has_rounds c.in_ok-name.name.now (rows_of found) order (of_command _ _ order path is asks).0 in
    none-some rounds.0 (sym c.in_err-rounds.was
    ∙ number (ParsesAs 8) 8 (λ t r g. g.0) found (codes "rounds") c.get_one.result rounds.0 rounds.1 rounds.2
    c.get_one.ensures.value))

pub returns-in_err-file : goal.returns-in_err-file
returns-in_err-file c =
    let m = c.args.matches.now in
    let found = found_of c.in_ok-name.found.now in
    let is = is_met (λ p. p.0.now) (λ p. found_of p.1.now) m c.subcommand.result _ c.in_ok-name.was
    c.subcommand.ensures.name c.subcommand.ensures.rows in
    rw c.from_residual-in_err-file.ensures (λ order path asks.
    none-some path (c.in_err-file.ensures ∙ first_value-rows found (codes "file")
    ∙ (of_command _ _ order path is asks).1))

pub returns-in_err-order : goal.returns-in_err-order
returns-in_err-order c =
    let m = c.args.matches.now in
    let name = c.in_ok-name.name.now in
    let found = found_of c.in_ok-name.found.now in
    let is = is_met (λ p. p.0.now) (λ p. found_of p.1.now) m c.subcommand.result _ c.in_ok-name.was
    c.subcommand.ensures.name c.subcommand.ensures.rows in
    rw c.from_residual-in_err-order.ensures (λ order path asks.
    c.in_err-order.ensures order
    (is_named name (rows_of found) c.in_ok-rounds.rounds c.get_one-edges.result c.get_one-stats.result order
    (of_command _ _ order path is asks).0
    (λ n fits h. same_Some c.in_ok-rounds.rounds n (sym c.in_ok-rounds.was
    ∙ number (ParsesAs 8) 8 (λ t r g. g.0) found (codes "rounds") c.get_one.result n fits h c.get_one.ensures.value))
    (λ n fits h. number (ParsesAs 32) 32 (λ t r g. g.0) found (codes "edges") c.get_one-edges.result n fits h
    c.get_one-edges.ensures.value)
    (λ b h. flag _ found (codes "stats") c.get_one-stats.result b h c.get_one-stats.ensures.value)))

pub returns : goal.returns
returns c =
    let m = c.args.matches.now in
    let name = c.in_ok-name.name.now in
    let found = found_of c.in_ok-name.found.now in
    let is = is_met (λ p. p.0.now) (λ p. found_of p.1.now) m c.subcommand.result _ c.in_ok-name.was
    c.subcommand.ensures.name c.subcommand.ensures.rows in
    let rounds = reads (ParsesAs 8) 8 (λ t n g. g.0) found (codes "rounds") c.get_one.result c.in_ok-rounds.rounds
    c.in_ok-rounds.was c.get_one.ensures.none c.get_one.ensures.value in
    let edges : (e : ℕ) → c.get_one-edges.result ≡ Some e → ReadsNumber (rows_of found) (codes "edges") e =
    λ e was. reads (ParsesAs 32) 32 (λ t n g. g.0) found (codes "edges") c.get_one-edges.result e was
    c.get_one-edges.ensures.none c.get_one-edges.ensures.value in
    let stats : (b : Bool) → c.get_one-stats.result ≡ Some b → IsGiven (rows_of found) (codes "stats") b =
    λ b was. is_given _ found (codes "stats") c.get_one-stats.result b was c.get_one-stats.ensures.none
    c.get_one-stats.ensures.value in
    let order = gives name
    (rows_of found) c.in_ok-rounds.rounds _ _ c.in_ok-order.order c.in_ok-order.ensures rounds edges
    stats in
    let file = sym (first_value-rows found (codes "file")) ∙ sym c.get_str.ensures
    ∙ ap (option_map (λ s. s.now)) c.in_ok-file.was in
    ((name, rows_of found), is, (order, file))
