-- From an opened board to a crew and its lanes, and from lanes that have ended to the passes of their board.
use Rattle.std.proofs.Common.{◌≡◌, inl, inr, ℕ, zero, suc, ◌+◌, ◌<◌, List, [], ◌∷◌, ◌++◌, None, Some, map, slice_get, length}
use Rattle.std.proofs.Common.{refl, sym, ap, ◌∙◌, subst, arith}
use Rattle.std.specs.Prelude.{Option}
use Rattle.std.proofs.lemmas.Option.{none-some, same_Some, slice_get_within}
use Rattle.std.proofs.lemmas.List.{length-map}
use Rattle.atomic_table.specs.Seated.{TableId}
use Rattle.post_ledger.proofs.Histories.{at_push_cases}
use Rattle.post_ledger.proofs.Orders.{element_at}
use Rattle.language.specs.Step.{Program}
use Rattle.path_sets.specs.Triples.{Triple}
use Rattle.flow_graph.specs.declared.graph.Graphs.{Graphs}
use Rattle.flow_graph.specs.Drawn.{graphs_of}
use Rattle.flow_graph.specs.Graphs.{AreDrawnFrom}
use Rattle.summaries.specs.declared.due.Due.{Due}
use Rattle.path_sets.specs.declared.edge_limit.EdgeLimit.{EdgeLimit}
use Rattle.summaries.specs.declared.table.Table.{Table}
use Rattle.summaries.specs.Together.{opening}
use Rattle.switchboard.specs.Sights.{Sight, BoardState, opened, fresh_sight, fresh_sights}
use Rattle.switchboard.specs.Promises.{AreAll}
use Rattle.switchboard.proofs.Opening.{sights_count}
use Rattle.procedure_worker.specs.declared.outcome.End.{End}
use Rattle.procedure_worker.specs.declared.outcome.End.TheVariants.{Closed, Aborted, Failed}
use Rattle.procedure_worker.specs.declared.outcome.Outcome.{Outcome}
use Rattle.procedure_worker.specs.Works.{Start, begun, IsPassOf, IsFresh, EndsSo}
use Rattle.procedure_worker.proofs.Works.{new_fresh}
use Rattle.procedure_worker.specs.declared.memory.OutOfMemory.{OutOfMemory}
use Rattle.gather.specs.declared.finding.Finding.{Finding}
use Rattle.gather.specs.declared.finding.Finding.TheVariants as finding
use Rattle.gather.specs.Findings.{finding_end, IsLeftOf}
use Rattle.gather.specs.declared.lane.Lane.{Lane}
use Rattle.gather.specs.Ends.{LaneEnds, HaveEnded, HaveLeft, HasWorked, WasDeclined, HaveReturned, IsCrew}
use Rattle.jobs.specs.declared.jobs.JobResult.{JobResult}
use Rattle.jobs.specs.declared.jobs.JobResult.TheVariants.{Run, Declined}
use Rattle.jobs.specs.Jobs.{first_of, second_of, IsResultOf, AreResults}
use Rattle.gather.specs.Lanes.{lane_start, MayWork, RunsSo, DeclinesSo, AreOwn, AreLanes}
use Rattle.path_sets.proofs.PlaceLemmas.{got_map}

-- a pass of a new board
at_fresh : {M W : Type 0} (id : TableId) (budget : ℕ) (s : BoardState M W) (first count j : ℕ) (p : Sight M W)
    → slice_get (fresh_sights id budget s first count) j ≡ Some p → (j < count) × (p ≡ fresh_sight id budget s (first + j))
at_fresh id budget s first zero j p e = absurd (none-some p e)
at_fresh id budget s first (suc count) zero p e =
    (omega arith, sym (same_Some (fresh_sight id budget s first) p e) ∙ ap (fresh_sight id budget s) (omega arith))
at_fresh id budget s first (suc count) (suc j) p e =
    let (near, is) = at_fresh id budget s (suc first) count j p e in
    (omega (arith, near), is ∙ ap (fresh_sight id budget s) (omega arith))

-- the passes of a board of flow graphs that was just opened are a crew
pub new_crew : {G : Type 0} (graphs : Graphs G) (limit : EdgeLimit) (id : TableId) (budget n : ℕ)
    → ((p : Program) × AreDrawnFrom p (graphs_of graphs)) → n ≡ length (graphs_of graphs)
    → (passes : List (Sight Due (Graphs G))) → passes ≡ fresh_sights id budget (opened graphs n 0 opening.due) 0 n
    → IsCrew graphs limit id passes
new_crew graphs limit id budget n drawn count passes are = record {
  drawn = drawn;
  all = ap length are ∙ (sights_count id budget (opened graphs n 0 opening.due) 0 n ∙ count);
  fresh = λ q s at.
      let (near, is) = at_fresh id budget (opened graphs n 0 opening.due) 0 n q s (subst (λ l. slice_get l q ≡ Some s) are at) in
      subst (IsFresh (begun graphs q limit id)) (sym is)
      (subst (λ k. IsFresh (begun graphs q limit id) (fresh_sight id budget (opened graphs n 0 opening.due) k)) (omega arith)
      (new_fresh graphs id budget n q limit count near));
}

module _ {G A S : Type 0} (members : S → List Triple) where
  -- a lane that has ended has the pass with its number
  pass_ended : (b : Start G) (e : End) (s : Sight Due (Graphs G)) (t : Table G A S) (took : List Due) (sent : List (ℕ × Due))
      → EndsSo b members e s t took sent → IsPassOf b s
  pass_ended b Closed s t took sent (((goes, sent_all), quiet), knows, closed) = goes.stands.pass
  pass_ended b Aborted s t took sent so = so.0.pass
  pass_ended b (Failed c) s t took sent so = so.0.pass

  lane_pass : (b : Start G) (s : Sight Due (Graphs G)) (o : Outcome G A S) → LaneEnds members b s o → IsPassOf b s
  lane_pass b s o (inl e) = pass_ended b o.end s e.0 e.2.0 e.2.1 e.2.2
  lane_pass b s o (inr idle) = idle.pass

  module _ (graphs : Graphs G) (limit : EdgeLimit) (board : TableId) (passes : List (Sight Due (Graphs G)))
      (outcomes : List (Outcome G A S)) (ended : HaveEnded members graphs limit board passes outcomes) where
    lane_at : (q : ℕ) (s : Sight Due (Graphs G)) → slice_get passes q ≡ Some s
        → (o : Outcome G A S) × (slice_get outcomes q ≡ Some o) × LaneEnds members (begun graphs q limit board) s o
    lane_at q s is =
        let near : q < length (graphs_of graphs) = subst (λ n. q < n) ended.each_pass (slice_get_within passes q s is) in
        let (o, there) = element_at outcomes q (subst (λ n. q < n) (sym ended.each_outcome) near) in
        (o, there, ended.ends q s o is there)

    -- the passes are all of the board's
    pub all_passes : (n : ℕ) → n ≡ length (graphs_of graphs) → AreAll board n passes
    all_passes n count = (
      ended.each_pass ∙ sym count,
      λ q s is.
          let (o, there, ends) = lane_at q s is in
          let pass = lane_pass (begun graphs q limit board) s o ends in
          (pass.board, pass.number, pass.boxes ∙ sym count),
    )

module _ {R G A S B K P : Type 0} (identity : B → TableId) (sight : P → Sight Due (Graphs G)) (graphs : Graphs G)
    (limit : EdgeLimit) (board : TableId) where
  -- one more lane
  pub own_push : (old new : List (Lane R P G A B S K)) (l : Lane R P G A B S K) (n : ℕ) → new ≡ old ++ l ∷ []
      → length old ≡ n → lane_start identity sight l ≡ begun graphs n limit board → MayWork identity sight l
      → AreOwn identity sight graphs limit board old → AreOwn identity sight graphs limit board new
  own_push old new l n is many starts may own q x at =
      elim (at_push_cases old l x q (subst (λ z. slice_get z q ≡ Some x) is at)) [
        | inl before ↦ own q x before
        | inr last ↦
            subst (λ z. (lane_start identity sight z ≡ begun graphs q limit board) × MayWork identity sight z) last.1
            (subst (λ k. lane_start identity sight l ≡ begun graphs k limit board) (sym many ∙ sym last.0) starts, may)
      ]

  -- each lane has returned what the lane of its procedure returns
  pub all_returned : (members : S → List Triple) (lanes : List (Lane R P G A B S K))
      (results : List (JobResult (P × Finding A))) → AreLanes identity sight graphs limit board lanes
      → AreResults (RunsSo identity sight members) (DeclinesSo identity sight members) lanes results
      → HaveReturned members sight graphs limit board results
  all_returned members lanes results are come = record {
    all = come.all ∙ are.all;
    each = λ q c here.
        let (l, lane) = element_at lanes q (subst (λ n. q < n) come.all (slice_get_within results q c here)) in
        subst (λ b. IsResultOf (HasWorked members sight b) (WasDeclined members sight b) q c) (are.own q l lane).0
        (come.each q l c lane here);
    behind = come.behind;
  }

-- of two lists with one more item each
pair_at : {X Y : Type 0} (R : ℕ → X → Y → Type 0) (x : X) (y : Y) (xs : List X) (ys : List Y) → R 0 x y
    → ((q : ℕ) (a : X) (b : Y) → slice_get xs q ≡ Some a → slice_get ys q ≡ Some b → R (suc q) a b)
    → (q : ℕ) (a : X) (b : Y) → slice_get (x ∷ xs) q ≡ Some a → slice_get (y ∷ ys) q ≡ Some b → R q a b
pair_at R x y xs ys first rest zero a b at there =
    subst (λ z. R 0 z b) (same_Some x a at) (subst (R 0 x) (same_Some y b there) first)
pair_at R x y xs ys first rest (suc q) a b at there = rest q a b at there

-- if each item of a list has a partner, there is a list of the partners
partners : {X Y : Type 0} (R : ℕ → X → Y → Type 0) (xs : List X)
    → ((q : ℕ) (x : X) → slice_get xs q ≡ Some x → (y : Y) × R q x y)
    → (ys : List Y) × (length ys ≡ length xs)
    × ((q : ℕ) (x : X) (y : Y) → slice_get xs q ≡ Some x → slice_get ys q ≡ Some y → R q x y)
partners R [] has = ([], refl, λ q x y at there. absurd (none-some x at))
partners R (x ∷ xs) has =
    let (y, first) = has 0 x refl in
    let (ys, all, each) = partners (λ q. R (suc q)) xs (λ q. has (suc q)) in
    (y ∷ ys, ap suc all, pair_at R x y xs ys first each)

-- the evidence with which a lane failed
abbrev lack_in : {A : Type 0} → Finding A → Option OutOfMemory
lack_in (finding.Closed s) = None
lack_in (finding.Unread evidence) = None
lack_in finding.Aborted = None
lack_in (finding.Failed c out_of_memory) = out_of_memory

module _ {G A S P : Type 0} (members : S → List Triple) (sight : P → Sight Due (Graphs G)) (graphs : Graphs G)
    (limit : EdgeLimit) (board : TableId) where
  -- what a lane has returned is left of an outcome with which it has ended
  came_end : (b : Start G) (n : ℕ) (c : JobResult (P × Finding A))
      → IsResultOf (HasWorked members sight b) (WasDeclined members sight b) n c
      → (o : Outcome G A S) × (LaneEnds members b (sight (first_of c)) o × IsLeftOf o (second_of c))
  came_end b n (Run r) come = (come.0, (inl come.1, come.2))
  came_end b n (Declined r none) come = (
    record { table = None; end = finding_end r.1; out_of_memory = lack_in r.1 },
    (
      inr come.0,
      record { ended = refl; out_of_memory = λ c l is. ap lack_in is; found = λ t s there is. absurd (none-some t there) },
    ),
  )

  -- if each lane has returned, all have ended, and this is what they left
  pub all_left : (results : List (JobResult (P × Finding A))) → HaveReturned members sight graphs limit board results
      → HaveLeft members graphs limit board (map (λ (c : JobResult (P × Finding A)). sight (first_of c)) results)
      (map (second_of {P = P} {O = Finding A}) results)
  all_left results returned =
      let (outcomes, all, each) = partners (λ q (c : JobResult (P × Finding A)) (o : Outcome G A S).
      LaneEnds members (begun graphs q limit board) (sight (first_of c)) o × IsLeftOf o (second_of c)) results
      (λ q c here. came_end (begun graphs q limit board) q c (returned.each q c here)) in
      record {
        outcomes = outcomes;
        ended = record {
          each_pass = length-map results (λ (c : JobResult (P × Finding A)). sight (first_of c)) ∙ returned.all;
          each_outcome = all ∙ returned.all;
          ends = λ q s o at there.
              let (c, here, pass) = got_map (λ (c : JobResult (P × Finding A)). sight (first_of c)) results q s at in
              subst (λ z. LaneEnds members (begun graphs q limit board) z o) pass (each q c o here there).0;
        };
        left = record {
          all = length-map results (second_of {P = P} {O = Finding A}) ∙ sym all;
          each = λ q o f there at.
              let (c, here, is) = got_map (second_of {P = P} {O = Finding A}) results q f at in
              subst (IsLeftOf o) is (each q c o here there).1;
        };
      }
