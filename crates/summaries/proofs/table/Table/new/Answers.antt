use Rattle.std.proofs.Common.{◌≡◌, ℕ, [], length, map, refl, sym, ap, ◌∙◌, subst, arith}
use Rattle.std.proofs.lemmas.Option.{none-some}
use Rattle.language.specs.Lists.{Member}
use Rattle.summaries.specs.declared.found.Found.{Found}
use Rattle.summaries.specs.Found.{mail_of, calls_in, pairs_in, mails_in, IsEmpty}
use Rattle.summaries.proofs.Mails.{answers_none}
use Rattle.summaries.proofs.StepLemmas.{no_message, empty_grounded, empty_complete}
use Rattle.summaries.proofs.TableInvariants.{quiet_table}
use Rattle.summaries.proofs.table.Table.new.Goals as goal

-- no message is given
none_sent : {A : Type 0} (q : ℕ) (f : Found A) → IsEmpty f → mails_in q f ≡ []
none_sent q f empty = ap (map (mail_of (calls_in f) (pairs_in f) q)) empty.given

pub returns-clause-new : goal.returns-clause-new
returns-clause-new g c =
    let graph = c.graph.result.now in
    let found = c.new.result in
    let es = g.S.PathSet.members c.empty.result in
    let none = c.empty.ensures in
    let empty = c.new.ensures in record {
      table = record {
        edges = λ x m. absurd (subst (Member x) none m);
        within = let short = ap length none in omega (arith, short);
        holds = λ _. (empty_grounded graph c.args.procedure found es empty none, empty_complete graph c.args.procedure found es empty none);
        many = λ is. absurd (none-some _ is);
      };
      nothing = no_message graph c.args.procedure found es empty none;
      answered = answers_none (mails_in c.args.procedure found) found.outbox.answered (none_sent c.args.procedure found empty);
      fault = refl;
    }

pub returns-clause-quiet : goal.returns-clause-quiet
returns-clause-quiet g c =
    let new = returns-clause-new g c in
    let held = new.table.holds refl in
    quiet_table g.S.PathSet.members _ held.0 held.1 c.new.ensures.pending
    (new.answered ∙ sym (none_sent c.args.procedure c.new.result c.new.ensures))

pub returns-clause-graph : goal.returns-clause-graph
returns-clause-graph g c = c.graph.ensures
