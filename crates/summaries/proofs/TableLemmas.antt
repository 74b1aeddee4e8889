-- What the table of a procedure keeps, answers and fails for, in the words of its program.
use Rattle.std.proofs.Common.{◌≡◌, ℕ, List, Some, None, sym, subst, drop}
use Rattle.std.proofs.lemmas.List.{take-append-drop}
use Rattle.language.specs.Step.{Program}
use Rattle.language.specs.Sequential.{IsDue}
use Rattle.language.specs.Lists.{Member, NoneTwice}
use Rattle.language.proofs.Members.{member_left}
use Rattle.path_sets.specs.Triples.{Triple}
use Rattle.flow_graph.specs.Numbers.{NumberedMessage, Sends, IsNumberOf, AreNumbersOfEdge}
use Rattle.flow_graph.proofs.DueLemmas.{edges_reached, due_sent}
use Rattle.flow_graph.proofs.Pairs.{edge_numbers}
use Rattle.summaries.specs.declared.due.Due.{Due}
use Rattle.summaries.specs.declared.table.Table.{Table}
use Rattle.summaries.specs.declared.table_fault.TableFault.TheVariants.{EdgeLimit}
use Rattle.summaries.specs.Mails.{AddressedMail, mail}
use Rattle.summaries.specs.Dues.{due_of}
use Rattle.summaries.specs.Found.{calls_in, pairs_in, mails_in, TookMessage}
use Rattle.summaries.specs.Tables.{answers_of, IsReached, IsAnswer, IsTable}
use Rattle.summaries.specs.Tabulated.{HasMoreEdges}
use Rattle.summaries.specs.Together.{IsTableOf}
use Rattle.path_sets.specs.EdgeLimits.{most_of}
use Rattle.summaries.proofs.Mails.{none_twice_first}
use Rattle.summaries.proofs.PlaceLemmas.{mails_once}
use Rattle.summaries.proofs.Quiet.{owed_sent}

-- no message is answered twice
pub answers_once : {G A S : Type 0} (members : S → List Triple) (t : Table G A S) → IsTable members t → t.fault ≡ None →
    NoneTwice (answers_of t)
answers_once members t is whole =
    let kept = (is.holds whole).0.indexed in
    none_twice_first t.found.outbox.answered (mails_in t.procedure t.found)
    (mails_once t.procedure (calls_in t.found) (pairs_in t.found) kept.calls_once kept.pairs_once t.found.outbox.sent.items kept.placed
    t.found.outbox.once)

module _ {G A S : Type 0} (members : S → List Triple) (p : Program) (q : ℕ) (t : Table G A S) (is : IsTableOf members p q t) where
  -- what is reached are path edges
  pub reached_edge : (x : Triple) → IsReached t x → AreNumbersOfEdge p q x.entry x.point x.values
  reached_edge x reached =
      (edge_numbers p q x.entry x.point x.values).0
      (edges_reached p is.fit q t.graph.now is.graph (TookMessage t.found) is.due x.entry x.point x.values reached)

  -- so are the edges kept
  pub kept_edge : (x : Triple) → Member x (members t.edges) → AreNumbersOfEdge p q x.entry x.point x.values
  kept_edge x m = reached_edge x (is.table.edges x m)

  -- what is sent is due
  pub sent_due : (s : ℕ) (k : NumberedMessage) → Sends t.graph.now t.procedure (TookMessage t.found) s k → IsNumberOf (IsDue p s) k
  sent_due s k sends =
      due_sent p is.fit q t.graph.now is.graph (TookMessage t.found) is.due is.in_order s k
      (subst (λ n. Sends t.graph.now n (TookMessage t.found) s k) is.number sends)

  -- so is a message that is answered
  pub answer_due : (old : Table G A S) (to : ℕ) (d : Due) → IsAnswer old t to d → (k : NumberedMessage) → due_of k ≡ d →
      IsNumberOf (IsDue p to) k
  answer_due old to d answer k e = sent_due to k (answer.due k e)

  -- and so are all that were answered
  pub answered_due : t.fault ≡ None → (x : AddressedMail) → Member x (answers_of t) → (k : NumberedMessage) → due_of k ≡ x.due →
      IsNumberOf (IsDue p x.to) k
  answered_due whole x m k e =
      let keys = mails_in t.procedure t.found in
      let given : Member x keys = subst (Member x) (take-append-drop t.found.outbox.answered keys)
      (member_left x (answers_of t) (drop t.found.outbox.answered keys) m) in
      let sound = (is.table.holds whole).0 in
      sent_due x.to k (owed_sent t.graph.now t.procedure t.found (members t.edges) sound x.to k
      (sound.given x.to k (subst (λ d. Member (mail x.to d) keys) (sym e) given)))

  -- if the table has failed for its limit there are more path edges
  pub over_limit : t.fault ≡ Some EdgeLimit → HasMoreEdges p q (most_of t.limit)
  over_limit failed = let (ts, once, more, all) = is.table.many failed in (ts, once, more, λ x m. reached_edge x (all x m))
