-- What tables hold together if one of them takes or answers a message.
use Rattle.std.proofs.Common.{◌≡◌, ◌⊎◌, ℕ, zero, suc, List, [], ◌∷◌, Some, None, slice_get, slice_set, inl, inr, sym, ap, ◌∙◌, subst}
use Rattle.std.proofs.Math.Seq.{map-set_same}
use Rattle.std.proofs.lemmas.Option.{get_or_from_slice_get, same_Some}
use Rattle.language.specs.Step.{Program}
use Rattle.language.specs.Sequential.{IsDue}
use Rattle.language.specs.Lists.{Member}
use Rattle.path_sets.specs.Triples.{Triple}
use Rattle.flow_graph.specs.Graphs.{AreDrawnFrom}
use Rattle.flow_graph.specs.Numbers.{NumberedMessage, numbered_entry, numbered_summary, IsNumberOf}
use Rattle.summaries.specs.declared.found.Found.{Found}
use Rattle.summaries.specs.declared.table.Table.{Table}
use Rattle.groups.specs.Under.{under}
use Rattle.summaries.specs.Mails.{AddressedMail}
use Rattle.summaries.specs.Dues.{caller_of}
use Rattle.summaries.specs.Found.{call, TookMessage}
use Rattle.summaries.specs.Tables.{graph_of, answers_of, IsTable, StaysAs, TookSame}
use Rattle.summaries.specs.Together.{opening, IsTaken, IsReceived, HaveLimit, AreTables}
use Rattle.summaries.proofs.ReplaceLemmas.{set_get, each_then}
use Rattle.std.proofs.Common.{nat_eq}
use Rattle.path_sets.specs.EdgeLimits.{most_of}

-- what is taken stays so if the same was taken
pub same_taken : {A : Type 0} (old new : Found A) → TookSame old new → (k : NumberedMessage) → TookMessage old k → TookMessage new k
same_taken old new same (numbered_entry from a) h = subst (λ e. Member (caller_of from) (under nat_eq e.by_key a)) (sym same.0) h
same_taken old new same (numbered_summary s e b) h = subst (λ left. Member b (left (call s e))) (sym same.1) h

pub same_taken_back : {A : Type 0} (old new : Found A) → TookSame old new → (k : NumberedMessage) → TookMessage new k → TookMessage old k
same_taken_back old new same k h = same_taken new old (sym same.0, sym same.1) k h

module _ {G A S : Type 0} where
  -- what a table has taken it has taken still, if one is replaced by one that has taken as much
  pub taken_stays : (ts : List (Table G A S)) (i : ℕ) (t t' : Table G A S) → slice_get ts i ≡ Some t →
      ((k : NumberedMessage) → TookMessage t.found k → TookMessage t'.found k)
      → (q : ℕ) (k : NumberedMessage) → IsTaken (slice_get ts q) k → IsTaken (slice_get (slice_set ts i t') q) k
  taken_stays [] i t t' is keeps q k h = absurd h
  taken_stays (x ∷ xs) zero t t' is keeps zero k h = keeps k (subst (λ (z : Table G A S). TookMessage z.found k) (same_Some x t is) h)
  taken_stays (x ∷ xs) zero t t' is keeps (suc q) k h = h
  taken_stays (x ∷ xs) (suc i) t t' is keeps zero k h = h
  taken_stays (x ∷ xs) (suc i) t t' is keeps (suc q) k h = taken_stays xs i t t' is keeps q k h

  -- each has its limit still
  pub limits_stay : (n : ℕ) (ts : List (Table G A S)) (i : ℕ) (t t' : Table G A S) → slice_get ts i ≡ Some t → StaysAs t t'
      → HaveLimit n ts → HaveLimit n (slice_set ts i t')
  limits_stay n ts i t t' is stays have =
      each_then (λ q u. most_of u.limit ≡ n) ts i t' have (ap most_of stays.limit ∙ have i t is)

module _ {G A S : Type 0} (members : S → List Triple) (p : Program) where
  -- A table becomes another one of the procedure, which has not failed, has taken what it had, and only what is due.
  pub record Becomes (q : ℕ) (t t' : Table G A S) : Type 0 where
    pub table : IsTable members t'
    pub whole : t'.fault ≡ None
    pub stays : StaysAs t t'
    pub keeps : (k : NumberedMessage) → TookMessage t.found k → TookMessage t'.found k
    pub due : (k : NumberedMessage) → TookMessage t'.found k → IsNumberOf (IsDue p q) k

  module _ (Before After : AddressedMail → Type 0) (ts : List (Table G A S)) (i : ℕ) (t t' : Table G A S)
      (are : AreTables members p Before ts) (is : slice_get ts i ≡ Some t) (becomes : Becomes i t t')
      (answers : (x : AddressedMail) → Member x (answers_of t') → Member x (answers_of t) ⊎ After x)
      (settles : (x : AddressedMail) → Before x → After x ⊎ IsReceived (slice_set ts i t') x) where
    received : (x : AddressedMail) → IsReceived ts x → IsReceived (slice_set ts i t') x
    received x h = λ k e. taken_stays ts i t t' is becomes.keeps x.to k (h k e)

    settled : (x : AddressedMail) → Before x ⊎ IsReceived ts x → After x ⊎ IsReceived (slice_set ts i t') x
    settled x (inl h) = settles x h
    settled x (inr h) = inr (received x h)

    was : (q : ℕ) (u : Table G A S) → slice_get (slice_set ts i t') q ≡ Some u → (w : Table G A S) × (slice_get ts q ≡ Some w)
    was q u e = elim (set_get ts i q t' u e) [ inl h ↦ (t, ap (slice_get ts) h.0 ∙ is) | inr h ↦ (u, h.1) ]

    sends : (q : ℕ) (u : Table G A S) (x : AddressedMail) → slice_get (slice_set ts i t') q ≡ Some u → Member x (answers_of u) →
        After x ⊎ IsReceived (slice_set ts i t') x
    sends q u x e m =
        elim (set_get ts i q t' u e) [
          | inl h ↦ elim (answers x (subst (λ (z : Table G A S). Member x (answers_of z)) h.1 m)) [
            | inl old ↦ settled x (are.answers i t x is old)
            | inr new ↦ inl new
          ]
          | inr h ↦ settled x (are.answers q u x h.1 m)
        ]

    -- so the tables are those of the program's procedures still
    pub replaced : AreTables members p After (slice_set ts i t')
    replaced = record {
      drawn =
          subst (AreDrawnFrom p)
          (sym (map-set_same graph_of ts i t' t (becomes.stays.graph ∙ ap graph_of (sym (get_or_from_slice_get ts i t t is))))) are.drawn;
      table = each_then (λ q u. IsTable members u) ts i t' are.table becomes.table;
      whole = each_then (λ q u. u.fault ≡ None) ts i t' are.whole becomes.whole;
      number = each_then (λ q u. u.procedure ≡ q) ts i t' are.number (becomes.stays.procedure ∙ are.number i t is);
      due = λ q u k e h. each_then (λ n (z : Table G A S). (k : NumberedMessage) → TookMessage z.found k →
          IsNumberOf (IsDue p n) k) ts i t' (λ n z is' k taken. are.due n z k is' taken) becomes.due q u e k h;
      opened = λ u e. let (w, is') = was 0 u e in settled opening (are.opened w is');
      answers = sends;
    }
