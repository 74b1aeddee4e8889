-- From findings to what a report says.
use Rattle.std.proofs.Common.{◌≡◌, ◌≢◌, ◌⊎◌, ◌<◌, Result, Ok, Err, inl, inr, ℕ, List, [], ◌∷◌, map, length, codes}
use Rattle.std.proofs.Common.{Some, refl, sym, ap, ◌∙◌, slice_get, subst}
use Rattle.std.specs.Prelude.{Bool, ◌↔◌, IfOk, IfErr}
use Rattle.std.proofs.lemmas.Option.{slice_get_within}
use Rattle.atomic_table.specs.Seated.{TableId}
use Rattle.post_ledger.specs.declared.event.Event.{Event}
use Rattle.post_ledger.proofs.Orders.{element_at}
use Rattle.language.specs.Tree.{Tree}
use Rattle.language.specs.Resolve.{meaning_of, number_of}
use Rattle.language.specs.Rounds.{Unsafe}
use Rattle.language.specs.Step.{Program}
use Rattle.path_sets.specs.Triples.{Triple}
use Rattle.language.specs.Sequential.{SomeBad, sequential_of}
use Rattle.round_rewrite.specs.Law.{KeepsTree}
use Rattle.round_rewrite.specs.Names.{rewritten_for, sequential_for}
use Rattle.round_rewrite.specs.Narrow.{IsNarrowFor}
use Rattle.flow_graph.specs.declared.graph.Graphs.{Graphs}
use Rattle.flow_graph.specs.Drawn.{graphs_of}
use Rattle.flow_graph.specs.Graphs.{AreDrawnFrom}
use Rattle.summaries.specs.declared.due.Due.{Due}
use Rattle.path_sets.specs.declared.edge_limit.EdgeLimit.{EdgeLimit}
use Rattle.summaries.specs.declared.no_verdict.NoVerdict.{NoVerdict}
use Rattle.summaries.specs.declared.no_verdict.NoVerdict.TheVariants as verdict
use Rattle.summaries.specs.declared.table.Table.{Table}
use Rattle.summaries.specs.Effects.{Effects}
use Rattle.summaries.specs.Fitting.{FitsIn}
use Rattle.path_sets.specs.EdgeLimits.{most_of}
use Rattle.summaries.specs.Tabulated.{AreSummaries, HasMoreEdges, SomePairBad}
use Rattle.switchboard.specs.declared.calls.Cause.{Cause}
use Rattle.switchboard.specs.declared.calls.Cause.TheVariants as cause
use Rattle.switchboard.specs.Sights.{Sight}
use Rattle.switchboard.specs.Promises.{Settles}
use Rattle.procedure_worker.specs.declared.outcome.End.{End}
use Rattle.procedure_worker.specs.declared.outcome.End.TheVariants.{Closed, Failed}
use Rattle.procedure_worker.specs.declared.outcome.Outcome.{Outcome}
use Rattle.procedure_worker.specs.Works.{begun, EndsSo}
use Rattle.jobs.specs.declared.jobs.JobResult.{JobResult}
use Rattle.jobs.specs.Jobs.{first_of, second_of}
use Rattle.gather.specs.declared.finding.Finding.{Finding}
use Rattle.gather.specs.Findings.{ends_in}
use Rattle.gather.specs.Ends.{HaveEnded, HaveLeft, AreOfBoard}
use Rattle.gather.specs.Gathered.{verdict_for, NoneFailed, AllClosed, IsCause, IsGathered}
use Rattle.gather.specs.Reports.{AreDueOnce, IsFound, IsNoReport, IsTabulated}
use Rattle.gather.specs.Through.{AreThrough}
use Rattle.gather.proofs.Full.{ends_of, through}
use Rattle.gather.proofs.ReadingLemmas.{same_ends}
use Rattle.gather.proofs.PostedLemmas.{due_once}
use Rattle.path_sets.proofs.PlaceLemmas.{got_map}

-- if every end is at the close, none names a cause
none_failed : (ends : List End) → AllClosed ends → NoneFailed ends
none_failed ends all c there = let same : Failed c ≡ Closed = all (Failed c) there in cc

-- the limit is named only if the worker of that procedure has failed for it
by_limit : (ends : List End) (q procedure : ℕ) (c : Cause) → slice_get ends procedure ≡ Some (Failed c)
    → verdict.EdgeLimit q ≡ verdict_for procedure c → slice_get ends q ≡ Some (Failed cause.EdgeLimit)
by_limit ends q procedure cause.Memory named is = let no : ⊥ = cc in absurd no
by_limit ends q procedure cause.EdgeLimit named is =
    let same : procedure ≡ q = cc in subst (λ n. slice_get ends n ≡ Some (Failed cause.EdgeLimit)) same named
by_limit ends q procedure cause.NoWorker named is = let no : ⊥ = cc in absurd no
by_limit ends q procedure cause.Spent named is = let no : ⊥ = cc in absurd no

limit_named : (ends : List End) (why : NoVerdict) (q : ℕ) → IsCause ends why → why ≡ verdict.EdgeLimit q
    → slice_get ends q ≡ Some (Failed cause.EdgeLimit)
limit_named ends why q (inl (failure, least, told)) is =
    by_limit ends q failure.procedure failure.cause least.named (sym is ∙ told)
limit_named ends why q (inr (memory, all)) is = let no : ⊥ = cc in absurd no

-- no end says that a program is too wide
pub not_wide : (ends : List End) (why : NoVerdict) → IsCause ends why → why ≢ verdict.TooWide
not_wide ends why (inl (failure, least, told)) is = apart failure.procedure failure.cause (sym is ∙ told)
  where
    apart : (procedure : ℕ) (c : Cause) → verdict.TooWide ≡ verdict_for procedure c → ⊥
    apart procedure cause.Memory same = cc
    apart procedure cause.EdgeLimit same = cc
    apart procedure cause.NoWorker same = cc
    apart procedure cause.Spent same = cc
not_wide ends why (inr (memory, all)) is = cc

-- some pair of the rewriting has `bad__` if and only if some run fails
pub keeps_answer : (rounds : ℕ) (source tree : Tree) → tree ≡ rewritten_for rounds source → KeepsTree rounds source → (bad : ℕ)
    → bad ≡ number_of (codes "bad__") tree.globals → (P : Type 0) → P ↔ SomeBad (sequential_for rounds source) bad
    → P ↔ Unsafe (meaning_of source) rounds
keeps_answer rounds source tree same keeps bad is P some =
    let at : bad ≡ number_of (codes "bad__") (rewritten_for rounds source).globals =
    is ∙ ap (λ (t : Tree). number_of (codes "bad__") t.globals) same in
    let found : P ↔ SomeBad (sequential_for rounds source) (number_of (codes "bad__") (rewritten_for rounds source).globals) =
    subst (λ n. P ↔ SomeBad (sequential_for rounds source) n) at some in
    (λ p. keeps.1 (found.0 p), λ unsafe. found.1 (keeps.0 unsafe))

-- why the workers found nothing is why there is no report
pub no_report : (source : Tree) (rounds most : ℕ) (why : NoVerdict) → IsNarrowFor rounds source → why ≢ verdict.TooWide
    → ((q : ℕ) → why ≡ verdict.EdgeLimit q → HasMoreEdges (sequential_for rounds source) q most)
    → IsNoReport source rounds most why
no_report source rounds most verdict.TooWide narrow other more = absurd (other refl)
no_report source rounds most (verdict.EdgeLimit q) narrow other more = (narrow, more q refl)
no_report source rounds most verdict.Memory narrow other more = narrow
no_report source rounds most verdict.NoWorker narrow other more = narrow
no_report source rounds most verdict.Spent narrow other more = narrow

-- what one thread tabulates of the rewriting says about the source
pub tabulated : (rounds most : ℕ) (source tree : Tree) → tree ≡ rewritten_for rounds source → KeepsTree rounds source
    → IsNarrowFor rounds source → (r : Result Effects NoVerdict) → IfOk r (AreSummaries (sequential_of tree))
    → IfOk r (λ s. SomePairBad s ↔ SomeBad (sequential_of tree) (number_of (codes "bad__") tree.globals))
    → IfOk r (λ s. (q : ℕ) → HasMoreEdges (sequential_of tree) q most → ⊥) → IfOk r (IsTabulated source rounds most)
tabulated rounds most source tree same keeps narrow (Err why) summaries bad few = tt
tabulated rounds most source tree same keeps narrow (Ok s) summaries bad few = record {
  summaries = subst (λ (t : Tree). AreSummaries (sequential_of t) s) same summaries;
  few = subst (λ (t : Tree). (q : ℕ) → HasMoreEdges (sequential_of t) q most → ⊥) same few;
  bad = keeps_answer rounds source tree same keeps (number_of (codes "bad__") tree.globals) refl (SomePairBad s)
      (subst (λ (t : Tree). SomePairBad s ↔ SomeBad (sequential_of t) (number_of (codes "bad__") tree.globals)) same bad);
  narrow = narrow;
}

pub not_tabulated : (rounds most : ℕ) (source tree : Tree) → tree ≡ rewritten_for rounds source → IsNarrowFor rounds source
    → (r : Result Effects NoVerdict)
    → ((q : ℕ) → r ≡ Err (verdict.EdgeLimit q) → HasMoreEdges (sequential_of tree) q most)
    → IfErr r (λ e. (e ≡ verdict.Memory) ⊎ ((q : ℕ) × (e ≡ verdict.EdgeLimit q))) → IfErr r (IsNoReport source rounds most)
not_tabulated rounds most source tree same narrow (Ok s) limit cause = tt
not_tabulated rounds most source tree same narrow (Err why) limit cause =
    no_report source rounds most why narrow (λ is. elim cause [ inl memory ↦ cc | inr edges ↦ (let named = edges.1 in cc) ])
    (λ q is. subst (λ (t : Tree). HasMoreEdges (sequential_of t) q most) same (limit q (ap Err is)))

-- what tabulates without a board has neither refused a thread nor used up calls
pub alone : (r : Result Effects NoVerdict)
    → IfErr r (λ e. (e ≡ verdict.Memory) ⊎ ((q : ℕ) × (e ≡ verdict.EdgeLimit q)))
    → IfErr r (λ e. (e ≢ verdict.NoWorker) × (e ≢ verdict.Spent))
alone (Ok s) cause = tt
alone (Err why) (inl memory) = (λ same. cc, λ same. cc)
alone (Err why) (inr edges) = let named = edges.1 in (λ same. cc, λ same. cc)

-- the images of images
map_twice : {X Y Z : Type 0} (f : Y → Z) (h : X → Y) (xs : List X) → map f (map h xs) ≡ map (λ x. f (h x)) xs
map_twice f h [] = refl
map_twice f h (x ∷ xs) = ap (λ l. f (h x) ∷ l) (map_twice f h xs)

other_cause : Failed cause.EdgeLimit ≡ Failed cause.NoWorker → ⊥
other_cause same = cc

module _ {G A S : Type 0} (members : S → List Triple) (graphs : Graphs G) (limit : EdgeLimit) (board : TableId) where
  -- what lanes returned, split into passes and findings
  pub split_results : {P : Type 0} (sight : P → Sight Due (Graphs G)) (results : List (JobResult (P × Finding A))) (passes : List P)
      (findings : List (Finding A)) → passes ≡ map first_of results
      → findings ≡ map second_of results
      → HaveLeft members graphs limit board (map (λ c. sight (first_of c)) results) (map second_of results)
      → HaveLeft members graphs limit board (map sight passes) findings
  split_results sight results passes findings firsts seconds lanes =
      subst (HaveLeft members graphs limit board (map sight passes)) (sym seconds)
      (subst (λ l. HaveLeft members graphs limit board l (map second_of results))
      (sym (ap (map sight) firsts ∙ map_twice sight first_of results)) lanes)

  module _ (passes : List (Sight Due (Graphs G))) (findings : List (Finding A))
      (lanes : HaveLeft members graphs limit board passes findings) where
    abbrev outcomes : List (Outcome G A S)
    outcomes = lanes.outcomes

    abbrev ended : HaveEnded members graphs limit board passes outcomes
    ended = lanes.ended

    same : ends_in findings ≡ ends_of outcomes
    same = same_ends outcomes findings lanes.left

    passed_by : (p : Program) → AreDrawnFrom p (graphs_of graphs) → (q : ℕ) (s : Sight Due (Graphs G)) (e : End)
        (t : Table G A S) (took : List Due) (sent : List (ℕ × Due)) → e ≡ Failed cause.EdgeLimit
        → EndsSo (begun graphs q limit board) members e s t took sent → HasMoreEdges p q (most_of limit)
    passed_by p drawn q s e t took sent is so =
        (subst (λ z. EndsSo (begun graphs q limit board) members z s t took sent) is so).1.stood p drawn

    -- a procedure that is named for the limit has more path edges
    pub limit_passed : (why : NoVerdict) (q : ℕ) → IsCause (ends_in findings) why → why ≡ verdict.EdgeLimit q → (p : Program)
        → AreDrawnFrom p (graphs_of graphs) → HasMoreEdges p q (most_of limit)
    limit_passed why q named is p drawn =
        let at = limit_named (ends_of outcomes) why q (subst (λ ends. IsCause ends why) same named) is in
        let (o, there, end) = got_map (λ (x : Outcome G A S). x.end) outcomes q (Failed cause.EdgeLimit) at in
        let near = subst (λ n. q < n) (ended.each_outcome ∙ sym ended.each_pass) (slice_get_within outcomes q o there) in
        let (s, here) = element_at passes q near in
        elim (ended.ends q s o here there) [
          | inl e ↦ passed_by p drawn q s o.end e.0 e.2.0 e.2.1 end e.2.2
          | inr idle ↦ absurd (other_cause (sym end ∙ idle.named))
        ]

    module _ (boxes : ℕ) (count : boxes ≡ length (graphs_of graphs)) (histories : List (List (Event Due))) (closed : Bool)
        (left : Settles FitsIn boxes passes histories closed) where
      abbrev settled : Settles FitsIn (length (graphs_of graphs)) passes histories closed
      settled = subst (λ n. Settles FitsIn n passes histories closed) count left

      -- the findings are those of the board
      abbrev pub of_board : AreOfBoard members graphs histories closed findings
      of_board = record { limit = limit; board = board; passes = passes; lanes = lanes; settled = settled }

      -- what was gathered is what the workers have found
      pub found : (s : Effects) → IsGathered graphs (most_of limit) closed (ends_in findings) s → (p : Program)
          → AreDrawnFrom p (graphs_of graphs) → IsFound p (most_of limit) histories s
      found s gathered p drawn = record {
        through = subst (λ n. AreThrough n histories) drawn.2.0
            (through FitsIn (length (graphs_of graphs)) passes histories closed settled gathered.shut);
        due = λ q h at. subst (AreDueOnce p q) (sym (settled.parts q h at))
            (due_once members graphs limit board passes outcomes histories closed ended settled
            (none_failed (ends_of outcomes) (subst AllClosed same gathered.ended)) p drawn q
            (subst (λ n. q < n) settled.count (slice_get_within histories q h at)));
        summaries = gathered.summaries p drawn;
        few = gathered.few p drawn;
      }
