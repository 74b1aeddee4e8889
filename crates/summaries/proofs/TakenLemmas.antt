-- What a table that takes a message promises.
use Rattle.std.proofs.Common.{◌≡◌, Result, Ok, Err, None, List, refl, sym, ap, ◌∙◌}
use Rattle.std.specs.Result.{OnOk}
use Rattle.std.proofs.lemmas.Option.{none-some, same_Some}
use Rattle.path_sets.specs.Triples.{Triple}
use Rattle.summaries.specs.declared.due.Due.{Due}
use Rattle.summaries.specs.declared.table.Table.{Table}
use Rattle.summaries.specs.declared.table_fault.TableFault.{TableFault}
use Rattle.summaries.specs.Tables.{TableTakes, TookAlso, TookOnly, Worked, failed_by}

-- what has worked on a message has taken it, and has failed if the answer is a fault
module _ {G A S : Type 0} (members : S → List Triple) (message : Due) (old mid : Table G A S)
    (none : old.fault ≡ None) where
  pub has_taken : {T : Type 0} (r : Result T TableFault) → Worked members (λ t. ⊥) r old mid
      → OnOk r (TookAlso message old.found mid.found) → TookOnly message old.found mid.found
      → TableTakes members message r old (failed_by r mid)
  has_taken (Ok _) worked taken only = record {
    table = record {
      edges = worked.edges;
      within = worked.within;
      holds = λ _. worked.holds;
      many = λ is. absurd (none-some _ (sym (worked.fault ∙ none) ∙ is));
    };
    taken = taken;
    only = only;
    answers = worked.answers;
    stays = worked.stays;
    fault = worked.fault ∙ none;
    again = λ e is. absurd (none-some e (sym none ∙ is));
  }
  has_taken (Err fault) worked taken only = record {
    table = record {
      edges = worked.edges;
      within = worked.within;
      holds = λ is. absurd (none-some fault (sym is));
      many = λ is. worked.many (ap Err (same_Some fault _ is));
    };
    taken = tt;
    only = only;
    answers = tt;
    stays = record { graph = worked.stays.graph; procedure = worked.stays.procedure; limit = worked.stays.limit };
    fault = refl;
    again = λ e is. absurd (none-some e (sym none ∙ is));
  }
