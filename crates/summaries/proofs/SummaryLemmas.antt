-- The step of a table that takes a summary.
use Rattle.std.proofs.Common.{◌≡◌, ◌⊎◌, ℕ, List, [], ◌∷◌, ◌++◌, Some, false, true, inl, inr, refl, sym, ap, ◌∙◌, subst, take, slice_get}
use Rattle.std.specs.Prelude.{Vec}
use Rattle.std.proofs.lemmas.Option.{same_Some}
use Rattle.indexmap.specs.IndexMap.{keys}
use Rattle.indexmap.specs.IndexSet.{insert_key}
use Rattle.language.specs.Lists.{Member}
use Rattle.path_sets.specs.Triples.{Triple, triple}
use Rattle.flow_graph.specs.Flows.{entered_by}
use Rattle.flow_graph.specs.Returns.{resumed_at}
use Rattle.flow_graph.specs.Numbers.{NumberedMessage, numbered_entry, numbered_summary, GraphReaches, returns}
use Rattle.flow_graph.specs.declared.graph.Graph.{Graph}
use Rattle.flow_graph.specs.declared.exit.Exit.{Exit}
use Rattle.flow_graph.proofs.ReachLemmas.{reaches_more}
use Rattle.summaries.specs.declared.edge.CallKey.{CallKey}
use Rattle.summaries.specs.declared.edge.PathEdge.{PathEdge}
use Rattle.summaries.specs.declared.found.Found.{Found}
use Rattle.summaries.specs.declared.calls.Calls.{Calls}
use Rattle.summaries.specs.Calls.{call_eq, sites_of, summaries_of}
use Rattle.summaries.specs.Mails.{mail, summary_due}
use Rattle.summaries.specs.Dues.{caller_of, due_of}
use Rattle.summaries.specs.Found.{call, path_edge, calls_in, mails_in, answers_in, TookMessage, IsIndexed, IsGrounded}
use Rattle.summaries.specs.Grows.{Grows, OfSome, IsBehind}
use Rattle.summaries.specs.Tables.{TookAlso}
use Rattle.groups.proofs.AddedLemmas.{added_or, added_keeps, added_is}
use Rattle.summaries.proofs.AddLemmas.{same_call}
use Rattle.summaries.proofs.CallLemmas.{asked_indexed, mails_before}
use Rattle.summaries.proofs.Dues.{same_summary, apart}
use Rattle.summaries.proofs.StepLemmas.{Step, all_reached}

module _ {A G : Type 0} (graph : Graph G) (q : ℕ) (f : Found A) (calls : Calls A) (pending : Vec PathEdge A) (k : CallKey) (b : Exit)
    (added : summaries_of calls k ≡ summaries_of f.calls k ++ b ∷ [])
    (others : (j : CallKey) → call_eq k j ≡ false → summaries_of calls j ≡ summaries_of f.calls j) where
  -- what is found, with what the call leaves added and edges pending
  abbrev pub resumed_to : Found A
  resumed_to = record f { calls = calls; pending = pending }

  abbrev M : NumberedMessage → Type 0
  M = TookMessage resumed_to

  summary_or : (j : CallKey) (y : Exit) → Member y (summaries_of calls j) → Member y (summaries_of f.calls j) ⊎ ((k ≡ j) × (b ≡ y))
  summary_or = added_or call_eq same_call (summaries_of f.calls) (summaries_of calls) k b added others

  -- the messages taken stay
  pub taken_resumed : (m : NumberedMessage) → TookMessage f m → TookMessage resumed_to m
  taken_resumed (numbered_entry c x) h = h
  taken_resumed (numbered_summary s x y) h =
      added_keeps call_eq same_call (summaries_of f.calls) (summaries_of calls) k b added others (call s x) y h

  -- the summary is taken
  left_so : Member b (summaries_of calls k)
  left_so = added_is call_eq same_call (summaries_of f.calls) (summaries_of calls) k b added others

  -- and no other
  pub resumed_also : TookAlso (summary_due k.callee k.entered b) f resumed_to
  resumed_also (numbered_entry c x) =
      (λ h. inr h, λ w. elim w [ inl is ↦ absurd (apart (caller_of c) k.callee x k.entered b is) | inr was ↦ was ])
  resumed_also (numbered_summary s x y) = (
    λ h.
        elim (summary_or (call s x) y h) [
          | inl was ↦ inr was
          | inr is ↦ inl (λ i. summary_due (sym is.0 i).callee (sym is.0 i).entered (sym is.1 i))
        ],
    λ w. elim w [
      | inl is ↦
          let (same, at) = same_summary s k.callee x k.entered y b is in
          subst (λ j. Member y (summaries_of calls j)) same (subst (λ z. Member z (summaries_of calls k)) at left_so)
      | inr was ↦ taken_resumed (numbered_summary s x y) was
    ],
  )

  module _ (es ds : List Triple) (sound : IsGrounded graph q f es) where
    -- what is after a call is reached
    pub resumed_reached : (t : Triple) → OfSome (λ y. IsBehind graph y b) (sites_of f.calls k) t →
        GraphReaches graph M t.entry t.point t.values
    resumed_reached t (y, m, (s, x, n, (fl, at, en), is)) =
        let (reached, (back, (flow, here, enters))) = sound.site k.callee k.entered y.entry y.point y.values m in
        let call : (s, x, n) ≡ (k.callee, k.entered, back) =
        same_Some (s, x, n) (k.callee, k.entered, back)
        (sym en ∙ ap (λ w. entered_by w y.values) (same_Some fl flow (sym at ∙ here)) ∙ enters) in
        subst (λ u. GraphReaches graph M u.entry u.point u.values)
        (sym (is ∙ ap (λ (c : ℕ × ℕ × ℕ). triple y.entry c.2 (resumed_at graph y.point y.values b)) call))
        (returns y.entry y.point y.values k.callee k.entered back b flow
        (reaches_more graph (TookMessage f) M taken_resumed y.entry y.point y.values reached) here enters left_so)

    -- so all edges are, if nothing else is added
    pub resume_only : ((t : Triple) → Member t ds → OfSome (λ y. IsBehind graph y b) (sites_of f.calls k) t ⊎ Member t es)
        → (t : Triple) → Member t ds → GraphReaches graph M t.entry t.point t.values
    resume_only only t m = elim (only t m) [
      | inl w ↦ resumed_reached t w
      | inr was ↦ all_reached graph q f resumed_to es sound taken_resumed t was
    ]

    module _ (at : ℕ) (placed : sites_of calls ≡ sites_of f.calls) (keyed : keys calls.by_key ≡ insert_key call_eq (calls_in f) k)
        (here : slice_get (keys calls.by_key) at ≡ Some k) where
      -- what is kept by place is
      resumed_indexed : IsIndexed f → IsIndexed resumed_to
      resumed_indexed = asked_indexed q f f.outbox calls pending k at keyed here true refl tt

      -- the messages given are the same
      resumed_mails : mails_in q resumed_to ≡ mails_in q f
      resumed_mails = mails_before q f f.outbox calls pending k at keyed here true refl tt sound.indexed

      -- so are those answered
      pub resumed_answers : answers_in q resumed_to ≡ answers_in q f
      resumed_answers = ap (take f.outbox.answered) resumed_mails

      site_before : (s e : ℕ) (y : PathEdge) → Member y (sites_of calls (call s e)) → Member y (sites_of f.calls (call s e))
      site_before s e y = subst (λ sites. Member y (sites (call s e))) placed

      pub resume_step : Grows (OfSome (λ y. IsBehind graph y b) (sites_of f.calls k)) es ds f.pending.items pending.items →
          Step graph q f resumed_to es ds
      resume_step grown = record {
        taken = taken_resumed;
        kept = grown.kept;
        edge = λ t m. elim (grown.only t m) [ inl w ↦ inr (resumed_reached t w) | inr was ↦ inl was ];
        new = grown.pending;
        stays = grown.stays;
        pending = grown.edges;
        sites = λ s e a n v m. subst (λ sites. Member (path_edge a n v) (sites (call s e))) (sym placed) m;
        called = λ s e a n v m. inl (site_before s e (path_edge a n v) m);
        exits = λ a y m. m;
        exit = λ a y m. inl m;
        gives = λ s m h. subst (Member (mail s (due_of m))) (sym resumed_mails) h;
        given = λ s m h. inl (subst (Member (mail s (due_of m))) resumed_mails h);
        begun = λ from a h. inl h;
        ended = λ s x y c n v back at enters taken. elim (summary_or (call s x) y taken) [
          | inl was ↦ inl (site_before s x (path_edge c n v) at, was)
          | inr is ↦ inr (grown.all (triple c back (resumed_at graph n v y)) (
            path_edge c n v,
            subst (λ j. Member (path_edge c n v) (sites_of f.calls j)) (sym is.0) (site_before s x (path_edge c n v) at),
            (s, x, back, enters, ap (λ z. triple c back (resumed_at graph n v z)) (sym is.1)),
          ))
        ];
        asks = λ s e a n v m. inl (site_before s e (path_edge a n v) m);
        tells = λ a y c m h. inl (m, h);
        callers_once = λ old. old;
        led = λ x m. inl m;
        indexed = resumed_indexed;
      }
