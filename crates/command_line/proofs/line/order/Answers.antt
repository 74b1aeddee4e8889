-- The order is the one that the command line that is written down gives for the words.
use Rattle.std.proofs.Common.{◌≡◌, ◌∙◌, ◌⊎◌, Some, map, sym, ap, subst}
use Rattle.std.specs.String.{string_bytes}
use Rattle.clap.specs.Words.{App, IsAmong, app_of, fault_of, is_simple, is_simple_and_free, kind_of, subcommand_of}
use Rattle.clap.specs.declared.error.kind.ErrorKind.TheVariants.{OutOfMemory}
use Rattle.arguments.proofs.Refusing.{refuses}
use Rattle.command_line.specs.Line as line
use Rattle.command_line.proofs.Accepted.{accepted}
use Rattle.command_line.proofs.line.order.Goals as goal

pub returns-in-Err-clause-refuses : goal.returns-in-Err-clause-refuses
returns-in-Err-clause-refuses c =
    let words = map string_bytes c.args.words.now in
    let is : app_of c.in-Ok.command ≡ line.bebopk = c.in-Ok.ensures in
    refuses line.bebopk words (kind_of c.in-Err.error) c.fault_of.result c.fault_of.ensures
    (subst (λ (a : App). (kind_of c.in-Err.error ≡ OutOfMemory) ⊎ IsAmong (kind_of c.in-Err.error) (fault_of a words)) is
    (c.in-Err.ensures.kinds (ap is_simple_and_free is)))

pub unreachable-requires : goal.unreachable-requires
unreachable-requires c =
    let words = map string_bytes c.args.words.now in
    let is : app_of c.in-Ok.command ≡ line.bebopk = c.in-Ok.ensures in
    let taken = sym (ap (λ (a : App). fault_of a words) is)
    ∙ c.in-Ok-try_get_matches_from.ensures.kinds (ap is_simple_and_free is) in
    let given = accepted words taken in
    let met = (c.in-Ok-try_get_matches_from.ensures.matches (ap is_simple is)).1
    ∙ ap (λ (a : App). subcommand_of a words) is in
    let asked = subst (λ found. line.GivesOrder found given.0 given.1) (sym met) given.2 in
    c.in_default-asked.ensures given.0 given.1 asked

pub returns-in-Ok-from_str-clause-asks : goal.returns-in-Ok-from_str-clause-asks
returns-in-Ok-from_str-clause-asks c =
    let words = map string_bytes c.args.words.now in
    let is : app_of c.in-Ok.command ≡ line.bebopk = c.in-Ok.ensures in
    let met = (c.in-Ok-try_get_matches_from.ensures.matches (ap is_simple is)).1 in
    record {
      taken = sym (ap (λ (a : App). fault_of a words) is) ∙ c.in-Ok-try_get_matches_from.ensures.kinds (ap is_simple_and_free is);
      command = c.in-Some.ensures.0;
      met = sym (met ∙ ap (λ (a : App). subcommand_of a words) is) ∙ c.in-Some.ensures.1;
      orders = (c.in-Some.ensures.2.0, c.in-Some.ensures.2.1 ∙ ap Some (sym c.in-Ok-from_str.ensures.ok));
    }
