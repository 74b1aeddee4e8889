-- The entry has the link to its last pair, if it is there.
use Rattle.std.proofs.Common.{nat_eq, sym, arith}
use Rattle.std.proofs.lemmas.Map.Views.{exact_unsigned_eq}
use Rattle.summaries.specs.Exits.{count_of}
use Rattle.groups.proofs.GroupLemmas.{key_at}
use Rattle.summaries.proofs.LinkLemmas.{found_at}
use Rattle.summaries.proofs.PairLemmas.{leads_to, none_of}
use Rattle.summaries.proofs.exits.Exits.last_of.Goals as goal

pub returns-in-Some : goal.returns-in-Some
returns-in-Some g c =
    let self = c.args.self.now in
    let entry = c.args.entry in
    let known = c.in-Some.known.now in
    let es = self.by_entry.entries in
    let (owner, here) = found_at nat_eq exact_unsigned_eq es entry known (sym c.in-Some.ensures.value) in
    leads_to self owner entry (count_of self) known.last (key_at es owner (entry, known) here) (self.last owner entry known here)

pub returns-in-None : goal.returns-in-None
returns-in-None g c = record {
  there = λ at is. absurd (omega (arith, is));
  rest = λ at b less is. absurd (none_of c.args.self.now c.args.entry (sym c.in-None.ensures.value) at b is);
}
