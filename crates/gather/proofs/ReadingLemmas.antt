-- What lanes left is what their tables found.
use Rattle.std.proofs.Common.{◌≡◌, ◌⊎◌, inl, inr, List, [], ◌∷◌, ◌++◌, suc, Some, map, slice_get, length, refl, sym, ap, ◌∙◌, subst, arith}
use Rattle.std.specs.Prelude.{Bool, true, Option}
use Rattle.std.proofs.lemmas.List.{length-map, map-append}
use Rattle.post_ledger.specs.declared.event.Event.{Event}
use Rattle.language.specs.Step.{Program}
use Rattle.language.specs.Lists.{Member}
use Rattle.language.proofs.Members.{member_left, member_right}
use Rattle.path_sets.specs.Triples.{Triple}
use Rattle.path_sets.specs.EdgeLimits.{most_of}
use Rattle.flow_graph.specs.declared.graph.Graphs.{Graphs}
use Rattle.flow_graph.specs.Drawn.{graphs_of}
use Rattle.flow_graph.specs.Graphs.{AreDrawnFrom}
use Rattle.summaries.specs.declared.due.Due.{Due}
use Rattle.summaries.specs.declared.table.Table.{Table}
use Rattle.summaries.specs.Effects.{Effect}
use Rattle.summaries.specs.Together.{AreFull, AreReadOff, HaveLimit}
use Rattle.procedure_worker.specs.declared.outcome.End.TheVariants as end
use Rattle.procedure_worker.specs.declared.outcome.Outcome.{Outcome}
use Rattle.switchboard.specs.declared.calls.Cause.{Cause}
use Rattle.procedure_worker.specs.declared.memory.OutOfMemory.{OutOfMemory}
use Rattle.gather.specs.declared.finding.Finding.{Finding}
use Rattle.gather.specs.declared.finding.Finding.TheVariants as finding
use Rattle.gather.specs.Findings.{closed_with, finding_end, ends_in, AreLeftOf}
use Rattle.gather.specs.Ends.{AreOfBoard}
use Rattle.gather.specs.Gathered.{NoneFailed, AllClosed, AreRead}
use Rattle.gather.proofs.Full.{ends_of, outcome_of, tables_all, ts, served, all_closed, shut, full, limits}
use Rattle.path_sets.proofs.PlaceLemmas.{get_map}

module _ {A : Type 0} where
  ends_more : (fs : List (Finding A)) (f : Finding A) → ends_in (fs ++ f ∷ []) ≡ ends_in fs ++ finding_end f ∷ []
  ends_more fs f = map-append finding_end fs (f ∷ [])

  -- one more lane, whose table was read off
  pub read_more : (fs : List (Finding A)) (ss : List Effect) (f : Finding A) (s : Effect) → f ≡ closed_with s → AreRead fs ss
      → AreRead (fs ++ f ∷ []) (ss ++ s ∷ [])
  read_more fs ss f s is read all =
      let front : AllClosed (ends_in fs) = λ e there.
      all e (subst (Member e) (sym (ends_more fs f)) (member_left e (ends_in fs) (finding_end f ∷ []) there)) in
      (λ i. read front i ++ is i ∷ []) ∙ sym (map-append closed_with ss (s ∷ []))

  -- one more lane that did not end at the close: so not every worker did
  pub read_other : (fs : List (Finding A)) (ss : List Effect) (f : Finding A) → (finding_end f ≡ end.Closed → ⊥)
      → AreRead (fs ++ f ∷ []) ss
  read_other fs ss f other all = absurd (other (all (finding_end f)
      (subst (Member (finding_end f)) (sym (ends_more fs f)) (member_right (finding_end f) (ends_in fs) (finding_end f ∷ []) (inl refl)))))

  -- a lane that was aborted or has failed did not end at the close
  pub not_closed : (f : Finding A)
      → (f ≡ finding.Aborted) ⊎ ((c : Cause) × (l : Option OutOfMemory) × (f ≡ finding.Failed c l)) → finding_end f ≡ end.Closed → ⊥
  not_closed f (inl is) same = let now : end.Aborted ≡ end.Closed = sym (ap finding_end is) ∙ same in cc
  not_closed f (inr (c, l, is)) same = let now : end.Failed c ≡ end.Closed = sym (ap finding_end is) ∙ same in cc

module _ {G A S : Type 0} where
  -- the findings say how the workers ended
  pub same_ends : (os : List (Outcome G A S)) (fs : List (Finding A)) → AreLeftOf os fs → ends_in fs ≡ ends_of os
  same_ends [] [] left = refl
  same_ends [] (f ∷ fs) left = absurd (omega (arith, left.all))
  same_ends (o ∷ os) [] left = absurd (omega (arith, left.all))
  same_ends (o ∷ os) (f ∷ fs) left =
      let rest = same_ends os fs (record { all = omega (arith, left.all); each = λ q. left.each (suc q) }) in
      λ i. sym (left.each 0 o f refl refl).ended i ∷ rest i

  module _ (members : S → List Triple) (graphs : Graphs G) (histories : List (List (Event Due))) (closed : Bool)
      (findings : List (Finding A)) (of : AreOfBoard members graphs histories closed findings)
      (none : NoneFailed (ends_in findings)) where
    abbrev outcomes : List (Outcome G A S)
    outcomes = of.lanes.outcomes

    abbrev same : ends_in findings ≡ ends_of outcomes
    same = same_ends outcomes findings of.lanes.left

    abbrev no_end : NoneFailed (ends_of outcomes)
    no_end = subst NoneFailed same none

    -- each worker ended at the close, and the board is closed
    pub every_closed : AllClosed (ends_in findings)
    every_closed = subst AllClosed (sym same)
        (all_closed members graphs of.limit of.board of.passes outcomes histories closed of.lanes.ended of.settled no_end)

    pub board_closed : closed ≡ true
    board_closed = shut members graphs of.limit of.board of.passes outcomes histories closed of.lanes.ended of.settled no_end

    -- the tables of the workers
    abbrev pub tables : List (Table G A S)
    tables = ts members graphs of.limit of.board of.passes outcomes histories closed of.lanes.ended of.settled no_end

    pub tables_full : (p : Program) → AreDrawnFrom p (graphs_of graphs) → AreFull members p tables
    tables_full = full members graphs of.limit of.board of.passes outcomes histories closed of.lanes.ended of.settled no_end

    pub tables_limit : HaveLimit (most_of of.limit) tables
    tables_limit = limits members graphs of.limit of.board of.passes outcomes histories closed of.lanes.ended of.settled no_end

    -- what was read is read off the tables
    pub all_read : (ss : List Effect) → AreRead findings ss → AreReadOff tables ss
    all_read ss read =
        let are : findings ≡ map closed_with ss = read every_closed in
        record {
          all = sym (length-map ss (closed_with {Alloc = A})) ∙ sym (ap length are) ∙ of.lanes.left.all ∙ of.lanes.ended.each_outcome
              ∙ sym (tables_all members graphs of.limit of.board of.passes outcomes histories closed of.lanes.ended of.settled no_end);
          each = λ q t s is_t is_s.
              let (o, there, is) = outcome_of members graphs of.limit of.board of.passes outcomes histories closed
              of.lanes.ended of.settled no_end q t is_t in
              let v = served members graphs of.limit of.board of.passes outcomes histories closed of.lanes.ended of.settled
              no_end q o there in
              let at : slice_get findings q ≡ Some (closed_with s) =
              subst (λ l. slice_get l q ≡ Some (closed_with s)) (sym are) (get_map closed_with ss q s is_s) in
              (of.lanes.left.each q o (closed_with s) there at).found t s (v.is ∙ ap Some is) refl;
        }
