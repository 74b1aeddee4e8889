-- The order is the one that the command line that is written down gives for the words.
use Rattle.std.proofs.Common.{◌≡◌, ◌∙◌, ◌⊎◌, List, Some, map, sym, ap, subst, codes, inl, inr}
use Rattle.std.specs.String.{string_bytes}
use Rattle.clap.specs.Words.{App, IsAmong, Text, app_of, fault_of, first_of, is_simple, is_simple_and_free, kind_of, matches_of}
use Rattle.clap.specs.declared.error.kind.ErrorKind.TheVariants.{OutOfMemory}
use Rattle.arguments.specs.Faults.{Refuses}
use Rattle.arguments.specs.declared.line_fault.LineFault.{LineFault}
use Rattle.arguments.specs.declared.line_fault.LineFault.TheVariants.{Help, Memory, Refused}
use Rattle.arguments.proofs.Refusing.{refuses}
use Rattle.explore_line.specs.Line as line
use Rattle.explore_line.proofs.Accepted.{accepted}
use Rattle.explore_line.proofs.line.order.Goals as goal

-- words that the command line does not accept give no order
not_taken : (words : List Text) (why : LineFault) → Refuses line.bebopk_explore words why → line.RefusesWords words why
not_taken words (Help t) h = h
not_taken words (Refused t) h = inl h
not_taken words Memory h = tt

-- nor do words that name no rounds
without_rounds : (words : List Text) (why : LineFault) → line.IsRefusedOrMemory why → line.NamesNoRounds words
    → line.RefusesWords words why
without_rounds words (Help t) never h = absurd never
without_rounds words (Refused t) is h = inr h
without_rounds words Memory is h = tt

pub returns-in-Err-clause-refuses : goal.returns-in-Err-clause-refuses
returns-in-Err-clause-refuses c =
    let words = map string_bytes c.args.words.now in
    let is : app_of c.in-Ok.command ≡ line.bebopk_explore = c.in-Ok.ensures.0 in
    not_taken words c.fault_of.result
    (refuses line.bebopk_explore words (kind_of c.in-Err.error) c.fault_of.result c.fault_of.ensures
    (subst (λ (a : App). (kind_of c.in-Err.error ≡ OutOfMemory) ⊎ IsAmong (kind_of c.in-Err.error) (fault_of a words)) is
    (c.in-Err.ensures.kinds (ap is_simple_and_free is))))

pub unreachable-requires : goal.unreachable-requires
unreachable-requires c =
    let words = map string_bytes c.args.words.now in
    let is : app_of c.in-Ok.command ≡ line.bebopk_explore = c.in-Ok.ensures.0 in
    let taken = sym (ap (λ (a : App). fault_of a words) is)
    ∙ c.in-Ok-try_get_matches_from.ensures.kinds (ap is_simple_and_free is) in
    let met = (c.in-Ok-try_get_matches_from.ensures.matches (ap is_simple is)).0
    ∙ ap (λ (a : App). matches_of a words) is in
    c.in_default-values_of.ensures (subst line.HasAll (sym met) (accepted words taken))

pub returns-in_default-rounds_of-clause-refuses : goal.returns-in_default-rounds_of-clause-refuses
returns-in_default-rounds_of-clause-refuses c =
    let words = map string_bytes c.args.words.now in
    let is : app_of c.in-Ok.command ≡ line.bebopk_explore = c.in-Ok.ensures.0 in
    let met = (c.in-Ok-try_get_matches_from.ensures.matches (ap is_simple is)).0
    ∙ ap (λ (a : App). matches_of a words) is in
    without_rounds words c.no_rounds.result c.no_rounds.ensures (record {
      taken = sym (ap (λ (a : App). fault_of a words) is)
          ∙ c.in-Ok-try_get_matches_from.ensures.kinds (ap is_simple_and_free is);
      text = c.in-Some.values.rounds.now;
      found = sym (ap (first_of (codes "rounds")) met) ∙ c.in-Some.ensures.0;
      none = c.in_default-rounds_of.ensures;
    })

pub returns-in-Ok-from_str-clause-asks : goal.returns-in-Ok-from_str-clause-asks
returns-in-Ok-from_str-clause-asks c =
    let words = map string_bytes c.args.words.now in
    let is : app_of c.in-Ok.command ≡ line.bebopk_explore = c.in-Ok.ensures.0 in
    let met = (c.in-Ok-try_get_matches_from.ensures.matches (ap is_simple is)).0
    ∙ ap (λ (a : App). matches_of a words) is in
    let values = c.in-Some.values in
    let has = subst (λ rows. line.Has rows values.rounds.now values.limit values.stats values.path.now) met c.in-Some.ensures in
    record {
      taken = sym (ap (λ (a : App). fault_of a words) is)
          ∙ c.in-Ok-try_get_matches_from.ensures.kinds (ap is_simple_and_free is);
      orders = (
        values.rounds.now,
        (has.0, has.1, has.2, has.3 ∙ ap Some (sym c.in-Ok-from_str.ensures.ok)),
        c.in-Some-rounds_of.ensures,
      );
    }
