-- What a table's work comes to, by its answer.
use Rattle.std.proofs.Common.{◌≡◌, ◌≤◌, List, Result, Err, length, ◌∙◌}
use Rattle.std.specs.Result.{IsErrAnd, OnOk}
use Rattle.std.proofs.lemmas.Result.{IfOk-weaker}
use Rattle.language.specs.Lists.{Member, NoneTwice}
use Rattle.path_sets.specs.Triples.{Triple}
use Rattle.summaries.specs.declared.edge.PathEdge.{PathEdge}
use Rattle.summaries.specs.declared.table.Table.{Table}
use Rattle.summaries.specs.declared.table_fault.TableFault.{TableFault}
use Rattle.summaries.specs.declared.table_fault.TableFault.TheVariants.{Memory, EdgeLimit}
use Rattle.summaries.specs.Grows.{Adds}
use Rattle.summaries.proofs.FrontierLemmas.{no_limit, failed_ok}
use Rattle.summaries.proofs.StepLemmas.{has_more}
use Rattle.summaries.specs.Tables.{answers_of, HasMore, Holds, IsReached, StaysAs, Worked}
use Rattle.path_sets.specs.EdgeLimits.{most_of}

module _ {G A S : Type 0} (members : S → List Triple) where
  module _ {T : Type 0} (Aside : Triple → Type 0) (r : Result T TableFault) (old new : Table G A S)
      (edges : (x : Triple) → Member x (members new.edges) → IsReached new x)
      (within : length (members new.edges) ≤ most_of new.limit) (stays : StaysAs old new) (fault : new.fault ≡ old.fault) where
    -- if the answer is a fault
    pub failed_worked : (P : TableFault → Type 0) → IsErrAnd r P →
        (r ≡ Err EdgeLimit → HasMore (most_of new.limit) (IsReached new)) → Worked members Aside r old new
    failed_worked P told many = record {
      holds = failed_ok _ P r told;
      edges = edges;
      within = within;
      many = many;
      answers = failed_ok _ P r told;
      stays = stays;
      fault = fault;
    }

    -- if memory is refused
    pub refused_worked : IsErrAnd r (λ e. e ≡ Memory) → Worked members Aside r old new
    refused_worked told = failed_worked (λ e. e ≡ Memory) told (λ is. absurd (no_limit r told is))

  -- if edges were to be added, and nothing else has changed except what is found
  pub added_worked : (W Aside : Triple → Type 0) {T : Type 0} (r : Result T TableFault) (old new : Table G A S) (es : List Triple)
      (before after : List PathEdge) → Adds W r (most_of new.limit) es (members new.edges) before after → NoneTwice (members new.edges) →
      ((x : Triple) → Member x (members new.edges) → IsReached new x) → ((x : Triple) → W x → IsReached new x) →
      OnOk r (Holds members Aside new) → OnOk r (answers_of new ≡ answers_of old) → StaysAs old new → new.fault ≡ old.fault →
      Worked members Aside r old new
  added_worked W Aside r old new es before after adds once edges reached holds answers stays fault = record {
    holds = holds;
    edges = edges;
    within = adds.within;
    many = λ is.
        let (t, w, fresh, full) = adds.limit is in
        has_more (most_of new.limit) (members new.edges) _ once edges t (reached t w) fresh full;
    answers = answers;
    stays = stays;
    fault = fault;
  }

  -- work that continues from other work, and leaves other edges aside
  pub then_worked : {T : Type 0} (Aside Exit : Triple → Type 0) (r : Result T TableFault) (old mid new : Table G A S) →
      StaysAs old mid → mid.fault ≡ old.fault
      → answers_of mid ≡ answers_of old → OnOk r (Holds members Exit new) → Worked members Aside r mid new → Worked members Exit r old new
  then_worked Aside Exit r old mid new stays fault same holds worked = record {
    holds = holds;
    edges = worked.edges;
    within = worked.within;
    many = worked.many;
    answers = IfOk-weaker r _ _ (λ _ more. more ∙ same) worked.answers;
    stays = record {
      graph = worked.stays.graph ∙ stays.graph;
      procedure =
          worked.stays.procedure ∙ stays.procedure;
      limit = worked.stays.limit ∙ stays.limit;
    };
    fault = worked.fault ∙ fault;
  }
