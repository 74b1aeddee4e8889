-- What a table promises, between its calls.
use Rattle.std.proofs.Common.{◌≡◌, ℕ, Option, None, List, [], ◌∷◌, ◌++◌, inl, refl, sym, ap, ◌∙◌, subst, take, drop, map}
use Rattle.std.proofs.lemmas.List.{take-append-drop, take-map, map-append}
use Rattle.language.specs.Lists.{Member, NoneTwice}
use Rattle.language.proofs.Members.{member_left, member_right}
use Rattle.path_sets.specs.Triples.{Triple}
use Rattle.flow_graph.specs.Numbers.{NumberedMessage}
use Rattle.flow_graph.proofs.ReachLemmas.{reaches_more}
use Rattle.summaries.specs.declared.edge.CallKey.{CallKey}
use Rattle.summaries.specs.declared.found.Found.{Found}
use Rattle.summaries.specs.declared.outbox.Outgoing.{Outgoing}
use Rattle.summaries.specs.declared.pair.Pair.{Pair}
use Rattle.summaries.specs.Exits.{ArePairsOnce}
use Rattle.summaries.specs.declared.table.Table.{Table}
use Rattle.summaries.specs.Mails.{mail}
use Rattle.summaries.specs.Dues.{due_of}
use Rattle.summaries.specs.Found.{mail_of, pairs_in, mails_in, TookMessage, IsPlaced, IsGrounded, IsSaturated}
use Rattle.summaries.specs.Tables as tables
use Rattle.summaries.specs.Tables.{answers_of, IsReached, IsTable, KeepsTable}
use Rattle.summaries.proofs.Mails.{next_new}
use Rattle.summaries.proofs.PlaceLemmas.{mails_once}
use Rattle.summaries.proofs.Quiet.{is_exact, is_left}
use Rattle.summaries.proofs.StepLemmas.{same_to, same_step, still_holds}

module _ {G A S : Type 0} (members : S → List Triple) (t : Table G A S) (g : Found A)
    (paired : (at : ℕ) → pairs_in g at ≡ pairs_in t.found at) (gave : g.outbox.sent.items ≡ t.found.outbox.sent.items)
    (pended : g.pending.items ≡ t.found.pending.items) where
  abbrev there : Found A
  there = same_to t.graph.now t.procedure t.found g (members t.edges) paired gave pended

  taken : (k : NumberedMessage) → TookMessage t.found k → TookMessage there k
  taken = (same_step t.graph.now t.procedure t.found g (members t.edges) paired gave pended).taken

  -- a table stays one if nothing that it finds changes
  pub same_table : IsTable members t
      → IsTable members
      (record { graph = t.graph; procedure = t.procedure; limit = t.limit; edges = t.edges; found = there; fault = t.fault })
  same_table old = record {
    edges = λ x m. reaches_more t.graph.now (TookMessage t.found) (TookMessage there) taken x.entry x.point x.values (old.edges x m);
    within = old.within;
    holds = λ none.
        let step = same_step t.graph.now t.procedure t.found g (members t.edges) paired gave pended in
        still_holds t.graph.now t.procedure t.found there (members t.edges) (members t.edges) step (λ x. ⊥) (old.holds none);
    many = λ is.
        let (ts, once, more, all) = old.many is in (
          ts,
          once,
          more,
          λ x m. reaches_more t.graph.now (TookMessage t.found) (TookMessage there) taken x.entry x.point
              x.values (all x m),
        );
  }

module _ {G A S : Type 0} (members : S → List Triple) (t : Table G A S) (g : Found A)
    (paired : (at : ℕ) → pairs_in g at ≡ pairs_in t.found at) (gave : g.outbox.sent.items ≡ t.found.outbox.sent.items)
    (pended : g.pending.items ≡ t.found.pending.items) where
  -- and keeps what it has taken
  pub same_keeps : IsTable members t → t.fault ≡ None →
      KeepsTable members None t (record {
        graph = t.graph;
        procedure = t.procedure;
        limit = t.limit;
        edges = t.edges;
        found = there members t g paired gave pended;
        fault = t.fault;
      })
  same_keeps old none = record {
    table = same_table members t g paired gave pended old;
    taken = (refl, refl);
    stays = record { graph = refl; procedure = refl; limit = refl };
    fault = none;
  }

-- the message that is answered next comes after those answered, and is not one of them
module _ (q : ℕ) (cs : List CallKey) (ps : ℕ → Option Pair) (xs : List Outgoing) (n m : ℕ) (x : Outgoing)
    (next : take m xs ≡ take n xs ++ x ∷ []) where
  pub next_behind : take m (map (mail_of cs ps q) xs) ≡ take n (map (mail_of cs ps q) xs) ++ mail_of cs ps q x ∷ []
  next_behind =
      take-map (mail_of cs ps q) m xs ∙ ap (map (mail_of cs ps q)) next ∙ map-append (mail_of cs ps q) (take n xs) (x ∷ [])
      ∙ ap (λ l. l ++ mail_of cs ps q x ∷ []) (sym (take-map (mail_of cs ps q) n xs))

  -- it is given
  pub next_given : Member x xs
  next_given =
      subst (Member x) (take-append-drop m xs)
      (member_left x (take m xs) (drop m xs) (subst (Member x) (sym next) (member_right x (take n xs) (x ∷ []) (inl refl))))

  pub next_once : NoneTwice cs → ArePairsOnce ps → ((y : Outgoing) → Member y xs → IsPlaced cs ps y) → NoneTwice xs
      → Member (mail_of cs ps q x) (take n (map (mail_of cs ps q) xs)) → ⊥
  next_once calls pairs placed once =
      next_new (map (mail_of cs ps q) xs) n m (mail_of cs ps q x) next_behind (mails_once q cs ps calls pairs xs placed once)

-- a table with nothing pending that has answered all it gave is quiet
pub quiet_table : {G A S : Type 0} (members : S → List Triple) (t : Table G A S) →
    IsGrounded t.graph.now t.procedure t.found (members t.edges) →
    IsSaturated t.graph.now t.procedure t.found (members t.edges) (λ x. ⊥) →
    t.found.pending.items ≡ [] → answers_of t ≡ mails_in t.procedure t.found → tables.IsQuiet members t
quiet_table members t sound complete none all =
    let quiet = is_exact t.graph.now t.procedure t.found (members t.edges) complete none sound in record {
      edges = quiet.0;
      sends =
          λ s k. (
            λ h. subst (Member (mail s (due_of k))) (sym all) ((quiet.1 s k).0 h),
            λ m. (quiet.1 s k).1 (subst (Member (mail s (due_of k))) all m),
          );
      leaves = λ a b. (sound.exit a b, is_left t.graph.now t.procedure t.found (members t.edges) complete none a b);
    }
