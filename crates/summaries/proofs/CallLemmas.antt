-- The step of a table at an edge that calls.
use Rattle.std.proofs.Common.{Option, ◌≡◌, ℕ, Some, List, [], ◌∷◌, ◌++◌, ◌⊎◌, Bool, true, false, inl, inr, refl}
use Rattle.std.proofs.Common.{sym, ap, ◌∙◌, subst, slice_get, get_or, map, if◌then◌else◌, true≢false}
use Rattle.std.specs.Bool.{OnTrue, OnFalse}
use Rattle.std.specs.List.{list_any}
use Rattle.std.specs.Prelude.{Vec}
use Rattle.std.proofs.lemmas.List.{append-nil, get_or_append_left, map-append}
use Rattle.std.proofs.lemmas.Option.{same_Some, slice_get_within, get_or_from_slice_get}
use Rattle.indexmap.specs.IndexMap.{keys}
use Rattle.indexmap.specs.IndexSet.{insert_key}
use Rattle.language.specs.Lists.{Member, NoneTwice}
use Rattle.language.proofs.Members.{member_map}
use Rattle.path_sets.specs.Triples.{Triple, triple}
use Rattle.flow_graph.specs.Flows.{entered_by}
use Rattle.flow_graph.specs.Returns.{resumed_at}
use Rattle.flow_graph.specs.Numbers.{NumberedMessage, numbered_summary, GraphReaches, returns}
use Rattle.flow_graph.specs.declared.flow.Flow.{Flow}
use Rattle.flow_graph.specs.declared.graph.Graph.{Graph}
use Rattle.flow_graph.proofs.ReachLemmas.{reaches_more}
use Rattle.summaries.specs.declared.due.Caller.TheVariants.{Proc}
use Rattle.summaries.specs.declared.due.Due.TheVariants.{Entry}
use Rattle.summaries.specs.declared.edge.CallKey.{CallKey}
use Rattle.summaries.specs.declared.edge.PathEdge.{PathEdge}
use Rattle.summaries.specs.declared.found.Found.{Found}
use Rattle.summaries.specs.declared.outbox.Outbox.{Outbox}
use Rattle.summaries.specs.declared.outbox.Outgoing.{Outgoing}
use Rattle.summaries.specs.declared.outbox.Outgoing.TheVariants.{EntryFor}
use Rattle.summaries.specs.declared.calls.Calls.{Calls}
use Rattle.summaries.specs.declared.pair.Pair.{Pair}
use Rattle.summaries.specs.contracts.edge.CallKeyEq.TheImpl.Laws.{laws-law}
use Rattle.summaries.specs.Calls.{call_eq, sites_of, summaries_of}
use Rattle.summaries.specs.Mails.{mail}
use Rattle.summaries.specs.Dues.{due_of}
use Rattle.summaries.specs.Found.{call, path_edge, calls_in, pairs_in, entry_mail, mail_of, mails_in, TookMessage, HasSite}
use Rattle.summaries.specs.Found.{IsPlaced}
use Rattle.summaries.specs.Found.{IsIndexed}
use Rattle.summaries.specs.Found.{IsOwed, IsGrounded}
use Rattle.summaries.specs.Grows.{EntersAt, Grows, AddsTo, OfSome, IsBehind, triple_of}
use Rattle.groups.proofs.AddedLemmas.{added_or, added_keeps, added_is}
use Rattle.summaries.proofs.AddLemmas.{same_call}
use Rattle.summaries.proofs.Dues.{due_told}
use Rattle.summaries.proofs.StepLemmas.{Step, taken_as}
use Rattle.path_sets.proofs.KeyLemmas.{is_found}
use Rattle.path_sets.proofs.PlaceLemmas.{last_or}
use Rattle.summaries.proofs.Mails.{none_twice_with}
use Rattle.summaries.proofs.PlaceLemmas.{HasMoreBehind, none_moved, placed_still, mails_still}
use Rattle.summaries.proofs.TellLemmas.{gives_kept, gives_one, gives_known}

module _ {A G : Type 0} (graph : Graph G) (q : ℕ) (f : Found A) (given : Outbox A) (calls : Calls A) (pending : Vec PathEdge A) where
  -- what is found, with other calls, messages given and edges pending
  abbrev pub asked_to : Found A
  asked_to = record {
    entries = f.entries;
    calls = calls;
    exits = f.exits;
    outbox = given;
    expanded = f.expanded;
    pending = pending;
    last_exit = f.last_exit;
    last_entry = f.last_entry;
  }

  -- the messages taken are the same, if each call leaves what it left
  pub taken_there : summaries_of calls ≡ summaries_of f.calls → (k : NumberedMessage) → TookMessage f k → TookMessage asked_to k
  taken_there same = taken_as f asked_to (λ a. refl) (λ c. ap (λ left. left c) same)

  taken_before : summaries_of calls ≡ summaries_of f.calls → (k : NumberedMessage) → TookMessage asked_to k → TookMessage f k
  taken_before same = taken_as asked_to f (λ a. refl) (λ c. ap (λ left. left c) (sym same))

  module _ (left : summaries_of calls ≡ summaries_of f.calls) (es ds : List Triple) (e : PathEdge) (s x back : ℕ) (flow : Flow G)
      (sound : IsGrounded graph q f es)
      (there : Member (triple_of e) es)
      (here : slice_get graph.flows.items e.point ≡ Some flow) (enters : entered_by flow e.values ≡ Some (s, x, back)) where
    reached : GraphReaches graph (TookMessage asked_to) e.entry e.point e.values
    reached = reaches_more graph (TookMessage f) (TookMessage asked_to) (taken_there left) e.entry e.point e.values
        (sound.edge e.entry e.point e.values there)

    -- what is after the call is reached
    pub behind_reached : (t : Triple) →
        OfSome (IsBehind graph e) (summaries_of f.calls (call s x)) t →
        GraphReaches graph (TookMessage asked_to) t.entry t.point t.values
    behind_reached t (b, m, (s', x', n', (fl, at, en), is)) =
        let call : (s', x', n') ≡ (s, x, back) =
        same_Some (s', x', n') (s, x, back)
        (sym en ∙ ap (λ w. entered_by w e.values) (same_Some fl flow (sym at ∙ here)) ∙ enters) in
        subst (λ u. GraphReaches graph (TookMessage asked_to) u.entry u.point u.values)
        (sym (is ∙ ap (λ (c : ℕ × ℕ × ℕ). triple e.entry c.2 (resumed_at graph e.point e.values b)) call))
        (returns e.entry e.point e.values s x back b flow reached here enters (taken_there left (numbered_summary s x b) m))

    -- so all edges are, if nothing else is added
    pub ask_only : ((t : Triple) → Member t ds →
        OfSome (IsBehind graph e) (summaries_of f.calls (call s x)) t ⊎
        Member t es) →
        (t : Triple) → Member t ds → GraphReaches graph (TookMessage asked_to) t.entry t.point t.values
    ask_only only t m = elim (only t m) [
      | inl w ↦ behind_reached t w
      | inr was ↦ reaches_more graph (TookMessage f) (TookMessage asked_to) (taken_there left) t.entry t.point t.values
          (sound.edge t.entry t.point t.values was)
    ]

    module _ (gave : AddsTo (λ m. m ≡ mail s (Entry (Proc q) x)) (mails_in q f) (mails_in q asked_to))
        (added : sites_of calls (call s x) ≡ sites_of f.calls (call s x) ++ e ∷ [])
        (others : (k : CallKey) → call_eq (call s x) k ≡ false → sites_of calls k ≡ sites_of f.calls k)
        (grown : Grows (OfSome (IsBehind graph e)
        (summaries_of f.calls (call s x))) es ds f.pending.items pending.items) where
      abbrev M : NumberedMessage → Type 0
      M = TookMessage asked_to

      pub asked_site : HasSite asked_to s x e
      asked_site = added_is call_eq same_call (sites_of f.calls) (sites_of calls) (call s x) e added others

      site_or : (k : CallKey) (y : PathEdge) → Member y (sites_of calls k) → Member y (sites_of f.calls k) ⊎ ((call s x ≡ k) × (e ≡ y))
      site_or = added_or call_eq same_call (sites_of f.calls) (sites_of calls) (call s x) e added others

      -- what is reached at the call of a site
      abbrev AtCall : CallKey → PathEdge → Type 0
      AtCall k y = GraphReaches graph M y.entry y.point y.values × ((n : ℕ) × EntersAt graph y.point y.values k.callee k.entered n)

      at_call : AtCall (call s x) e
      at_call = (reached, (back, (flow, here, enters)))

      pub ask_step : (IsIndexed f → IsIndexed asked_to) → Step graph q f asked_to es ds
      ask_step indexed = record {
        taken = taken_there left;
        kept = grown.kept;
        edge = λ t m. elim (grown.only t m) [
          | inl w ↦ inr (behind_reached t w)
          | inr was ↦ inl was
        ];
        new = grown.pending;
        stays = grown.stays;
        pending = grown.edges;
        sites = λ s' x' a n v m. added_keeps call_eq same_call (sites_of f.calls) (sites_of calls) (call s x) e added others
            (call s' x') (path_edge a n v) m;
        called = λ s' x' a n v m. elim (site_or (call s' x') (path_edge a n v) m) [
          | inl was ↦ inl was
          | inr is ↦ inr (subst (AtCall (call s' x')) is.1 (subst (λ k. AtCall k e) is.0 at_call))
        ];
        exits = λ a b m. m;
        exit = λ a b m. inl m;
        gives = λ s' k m. gives_kept (λ m. m ≡ mail s (Entry (Proc q) x)) (mails_in q f) (mails_in q asked_to) gave
            (mail s' (due_of k)) m;
        given = λ s' k m. elim (gave.only (mail s' (due_of k)) m) [
          | inl is ↦ inr (subst (λ to. IsOwed asked_to q to k) (sym (ap (λ m. m.to) is))
              (subst (IsOwed asked_to q s) (sym (due_told k (Entry (Proc q) x) (ap (λ m. m.due) is)))
              (refl, (e, asked_site))))
          | inr was ↦ inl was
        ];
        begun = λ from a h. inl h;
        ended = λ s' x' b a n v n' at enters' taken. elim (site_or (call s' x') (path_edge a n v) at) [
          | inl was ↦ inl (was, taken_before left (numbered_summary s' x' b) taken)
          | inr is ↦ inr (grown.all (triple a n' (resumed_at graph n v b)) (
            b,
            subst (λ k. Member b (summaries_of f.calls k)) (sym is.0) (taken_before left (numbered_summary s' x' b) taken),
            subst (λ (y : PathEdge). IsBehind graph y b (triple a n' (resumed_at graph n v b))) (sym is.1) (s', x', n', enters', refl),
          ))
        ];
        asks = λ s' x' a n v m. elim (site_or (call s' x') (path_edge a n v) m) [
          | inl was ↦ inl was
          | inr is ↦ inr (gave.all (mail s' (Entry (Proc q) x')) (ap (λ k. mail k.callee (Entry (Proc q) k.entered)) (sym is.0)))
        ];
        tells = λ a b c m h. inl (m, h);
        callers_once = λ old. old;
        led = λ x m. inl m;
        indexed = indexed;
      }

-- a call is where an equal one is
pub stands_there : (ds : List CallKey) (k : CallKey) (at : ℕ) → (x : CallKey) × (slice_get ds at ≡ Some x) × (call_eq k x ≡ true)
    → slice_get ds at ≡ Some k
stands_there ds k at (x, here, same) = here ∙ ap Some (sym (same_call k x same))

-- a key is appended to those of a list, unless it is among them
module _ (cs ds : List CallKey) (k : CallKey) (keys : ds ≡ insert_key call_eq cs k) where
  pub calls_more : HasMoreBehind cs ds
  calls_more = by (list_any (call_eq k) cs) keys
    where
      by : (b : Bool) → ds ≡ (if b then cs else cs ++ k ∷ []) → HasMoreBehind cs ds
      by true is = ([], is ∙ sym (append-nil cs))
      by false is = (k ∷ [], is)

  pub calls_stay_once : NoneTwice cs → NoneTwice ds
  calls_stay_once once = by (list_any (call_eq k) cs) refl keys
    where
      by : (b : Bool) → list_any (call_eq k) cs ≡ b → ds ≡ (if b then cs else cs ++ k ∷ []) → NoneTwice ds
      by true known is = subst NoneTwice (sym is) once
      by false new is = subst NoneTwice (sym is)
          (none_twice_with k cs (λ m. true≢false (sym (is_found call_eq laws-law.refl k cs m) ∙ new)) once)

-- an entry that was given by the place of its call was given
pub was_given : {A : Type 0} (q : ℕ) (f : Found A) (ds : List CallKey) (k : CallKey) (at : ℕ) → ds ≡ insert_key call_eq (calls_in f) k
    → slice_get ds at ≡ Some k → IsIndexed f → Member (EntryFor at) f.outbox.sent.items → Member (entry_mail q k) (mails_in q f)
was_given q f ds k at added here old m =
    let cs = calls_in f in
    let more = calls_more cs ds k added in
    let same : get_or cs at (call 0 0) ≡ k =
    sym (get_or_append_left cs more.0 (call 0 0) at (old.placed (EntryFor at) m)) ∙ ap (λ l. get_or l at (call 0 0)) (sym more.1)
    ∙ get_or_from_slice_get ds at k (call 0 0) here in
    subst (λ c. Member (entry_mail q c) (mails_in q f)) same
    (member_map (mail_of cs (pairs_in f) q) f.outbox.sent.items (EntryFor at) m)

-- The entry of a call at its place among the calls is given, unless the call was known.
module _ {A : Type 0} (q : ℕ) (f : Found A) (given : Outbox A) (calls : Calls A) (pending : Vec PathEdge A) (k : CallKey) (at : ℕ)
    (added : keys calls.by_key ≡ insert_key call_eq (calls_in f) k) (here : slice_get (keys calls.by_key) at ≡ Some k) (known : Bool)
    (same : OnTrue known (given.sent.items ≡ f.outbox.sent.items))
    (more : OnFalse known (given.sent.items ≡ f.outbox.sent.items ++ EntryFor at ∷ [])) (old : IsIndexed f) where
  abbrev there : Found A
  there = record f { calls = calls; outbox = given; pending = pending }

  abbrev ps : ℕ → Option Pair
  ps = pairs_in f

  abbrev ds : List CallKey
  ds = keys calls.by_key

  still : (x : Outgoing) → Member x f.outbox.sent.items → IsPlaced ds ps x
  still x m = placed_still q (calls_in f) ps ds ps (calls_more (calls_in f) ds k added) (none_moved ps) x (old.placed x m)

  placed_in : (b : Bool) → OnTrue b (given.sent.items ≡ f.outbox.sent.items)
      → OnFalse b (given.sent.items ≡ f.outbox.sent.items ++ EntryFor at ∷ []) → (x : Outgoing) → Member x given.sent.items
      → IsPlaced ds ps x
  placed_in true same more x m = still x (subst (Member x) same m)
  placed_in false same more x m =
      elim (last_or f.outbox.sent.items (EntryFor at) x (subst (Member x) more m)) [
        | inl was ↦ still x was
        | inr is ↦ subst (IsPlaced ds ps) (sym is) (slice_get_within ds at k here)
      ]

  pub asked_indexed : IsIndexed there
  asked_indexed = record {
    placed = placed_in known same more;
    calls_once = calls_stay_once (calls_in f) ds k added old.calls_once;
    pairs_once = old.pairs_once;
  }

  pub mails_before : map (mail_of ds ps q) f.outbox.sent.items ≡ mails_in q f
  mails_before =
      mails_still q (calls_in f) ps ds ps (calls_more (calls_in f) ds k added) (none_moved ps) f.outbox.sent.items old.placed

  gave_in : (b : Bool) → OnTrue b (given.sent.items ≡ f.outbox.sent.items)
      → OnFalse b (given.sent.items ≡ f.outbox.sent.items ++ EntryFor at ∷ []) → OnTrue b (Member (entry_mail q k) (mails_in q f))
      → AddsTo (λ m. m ≡ entry_mail q k) (mails_in q f) (mails_in q there)
  gave_in true same more given =
      subst (AddsTo (λ m. m ≡ entry_mail q k) (mails_in q f)) (sym (ap (map (mail_of ds ps q)) same ∙ mails_before))
      (gives_known (entry_mail q k) (mails_in q f) given)
  gave_in false same more given =
      gives_one (entry_mail q k) (mails_in q f) (mails_in q there)
      (ap (map (mail_of ds ps q)) more ∙ map-append (mail_of ds ps q) f.outbox.sent.items (EntryFor at ∷ [])
      ∙ λ i. mails_before i ++ entry_mail q (get_or_from_slice_get ds at k (call 0 0) here i) ∷ [])

  pub asked_gave : OnTrue known (Member (entry_mail q k) (mails_in q f))
      → AddsTo (λ m. m ≡ entry_mail q k) (mails_in q f) (mails_in q there)
  asked_gave = gave_in known same more
