-- What a table holds while it takes a step: nothing more than is reached and sent, and nothing left out.
use Rattle.std.proofs.Common.{◌≡◌, ◌≤◌, ◌⊎◌, ℕ, List, [], ◌∷◌, ◌++◌, length}
use Rattle.std.proofs.Common.{inl, inr, refl, sym, ap, ◌∙◌, subst, nat_eq, arith, Result, Ok, Err, Option, map}
use Rattle.std.proofs.lemmas.Option.{none-some}
use Rattle.std.specs.Result.{OnOk}
use Rattle.std.specs.Prelude.{Vec}
use Rattle.language.specs.Sequential.{Caller, caller}
use Rattle.language.specs.Lists.{Member, NoneTwice}
use Rattle.language.proofs.Members.{member_left, member_right}
use Rattle.path_sets.specs.Triples.{Triple, triple}
use Rattle.flow_graph.specs.Returns.{left_by, resumed_at}
use Rattle.flow_graph.specs.Numbers.{NumberedMessage, numbered_entry, numbered_summary, GraphReaches, Leaves}
use Rattle.flow_graph.specs.declared.graph.Graph.{Graph}
use Rattle.flow_graph.specs.declared.exit.Exit.{Exit}
use Rattle.flow_graph.proofs.ReachLemmas.{reaches_more}
use Rattle.summaries.specs.declared.edge.CallKey.{CallKey}
use Rattle.summaries.specs.declared.edge.PathEdge.{PathEdge}
use Rattle.summaries.specs.declared.pair.Pair.{Pair}
use Rattle.summaries.specs.declared.found.Found.{Found}
use Rattle.summaries.specs.declared.outbox.Outbox.{Outbox}
use Rattle.summaries.specs.declared.outbox.Outgoing.{Outgoing}
use Rattle.groups.specs.declared.groups.Groups.{Groups}
use Rattle.summaries.specs.declared.due.Caller as rust
use Rattle.groups.specs.Under.{under}
use Rattle.summaries.specs.Mails.{AddressedMail, mail}
use Rattle.summaries.specs.Dues.{caller_of, due_of}
use Rattle.summaries.specs.Calls.{summaries_of}
use Rattle.summaries.specs.Found.{call, path_edge, pair, mail_of, calls_in, pairs_in, mails_in, TookMessage, HasSite}
use Rattle.summaries.specs.Found.{HasExit, HasGiven, IsPlaced, IsIndexed, IsOwed, IsPending, IsGrounded, IsWorked, IsSaturated, IsEmpty}
use Rattle.summaries.specs.Found.{IsExpanded}
use Rattle.summaries.specs.Grows.{EntersAt, Grows, triple_of}
use Rattle.summaries.specs.Tables.{HasMore}
use Rattle.path_sets.proofs.PlaceLemmas.{last_or}

-- A step of the table of procedure q from f, with the edges es, to g, with the edges ds: what comes to be held is
-- reached and sent, nothing goes, and what is then to be held beside it is held.
pub record Step {A G : Type 0} (graph : Graph G) (q : ℕ) (f g : Found A) (es ds : List Triple) : Type 0 where
  pub taken : (k : NumberedMessage) → TookMessage f k → TookMessage g k
  pub kept : (t : Triple) → Member t es → Member t ds
  pub edge : (t : Triple) → Member t ds → Member t es ⊎ GraphReaches graph (TookMessage g) t.entry t.point t.values
  pub new : (t : Triple) → Member t ds → Member t es ⊎ IsPending g t.entry t.point t.values
  pub stays : (e : PathEdge) → Member e f.pending.items → Member e g.pending.items
  pub pending : (e : PathEdge) → Member e g.pending.items → Member e f.pending.items ⊎ Member (triple_of e) ds
  pub sites : (s e a n v : ℕ) → HasSite f s e (path_edge a n v) → HasSite g s e (path_edge a n v)
  pub called : (s e a n v : ℕ) → HasSite g s e (path_edge a n v) →
      HasSite f s e (path_edge a n v) ⊎ (GraphReaches graph (TookMessage g) a n v × ((back : ℕ) × EntersAt graph n v s e back))
  pub exits : (a : ℕ) (b : Exit) → HasExit f a b → HasExit g a b
  pub exit : (a : ℕ) (b : Exit) → HasExit g a b → HasExit f a b ⊎ Leaves graph (TookMessage g) a b
  pub gives : (s : ℕ) (k : NumberedMessage) → HasGiven f q s k → HasGiven g q s k
  pub given : (s : ℕ) (k : NumberedMessage) → HasGiven g q s k → HasGiven f q s k ⊎ IsOwed g q s k
  pub begun : (from : Caller) (a : ℕ) → TookMessage g (numbered_entry from a) →
      TookMessage f (numbered_entry from a) ⊎ Member (triple a graph.start a) ds
  pub ended : (s e : ℕ) (b : Exit) (a n v back : ℕ) → HasSite g s e (path_edge a n v) → EntersAt graph n v s e back →
      TookMessage g (numbered_summary s e b) →
      HasSite f s e (path_edge a n v) × TookMessage f (numbered_summary s e b) ⊎ Member (triple a back (resumed_at graph n v b)) ds
  pub asks : (s e a n v : ℕ) → HasSite g s e (path_edge a n v)
      → HasSite f s e (path_edge a n v) ⊎ HasGiven g q s (numbered_entry (caller q) e)
  pub tells : (a : ℕ) (b : Exit) (c : ℕ) → HasExit g a b → TookMessage g (numbered_entry (caller c) a) →
      HasExit f a b × TookMessage f (numbered_entry (caller c) a) ⊎ HasGiven g q c (numbered_summary q a b)
  pub callers_once : ((a : ℕ) → NoneTwice (under nat_eq f.entries.by_key a)) → (a : ℕ) →
      NoneTwice (under nat_eq g.entries.by_key a)
  pub led : (x : PathEdge) → Member x g.expanded.keys → Member x f.expanded.keys ⊎ IsExpanded graph ds x
  pub indexed : IsIndexed f → IsIndexed g

module _ {A G : Type 0} (graph : Graph G) (q : ℕ) (f g : Found A) (es ds : List Triple) (step : Step graph q f g es ds) where
  -- after a step all is reached and sent
  pub still_grounded : IsGrounded graph q f es → IsGrounded graph q g ds
  still_grounded old = record {
    edge = λ a n v m. elim (step.edge (triple a n v) m) [ inl was ↦ more a n v (old.edge a n v was) | inr is ↦ is ];
    site = λ s e a n v m. elim (step.called s e a n v m) [
      | inl was ↦ let (reached, at) = old.site s e a n v was in (more a n v reached, at)
      | inr is ↦ is
    ];
    exit =
        λ a b m.
        elim (step.exit a b m) [ inl was ↦ let (v, reached, is) = old.exit a b was in (v, more a 0 v reached, is) | inr is ↦ is ];
    given = λ s k m. elim (step.given s k m) [ inl was ↦ owed s k (old.given s k was) | inr is ↦ is ];
    pending =
        λ a n v m. elim (step.pending (path_edge a n v) m) [ inl was ↦ step.kept (triple a n v) (old.pending a n v was) | inr is ↦ is ];
    callers_once = step.callers_once old.callers_once;
    indexed = step.indexed old.indexed;
  }
    where
      owed : (s : ℕ) (k : NumberedMessage) → IsOwed f q s k → IsOwed g q s k
      owed s (numbered_entry from e) (is, (x, at)) = (is, (x, step.sites s e x.entry x.point x.values at))
      owed s (numbered_summary p a b) (is, left, taken) =
          (is, step.exits a b left, step.taken (numbered_entry (caller s) a) taken)

      more : (a n v : ℕ) → GraphReaches graph (TookMessage f) a n v → GraphReaches graph (TookMessage g) a n v
      more = reaches_more graph (TookMessage f) (TookMessage g) step.taken

  -- what was worked on is
  still_worked : (a n v : ℕ) → IsWorked graph q f es a n v → IsWorked graph q g ds a n v
  still_worked a n v old = record {
    flows = λ flow i n' v' here most next. step.kept (triple a n' v') (old.flows flow i n' v' here most next);
    calls = λ flow s e n' here enters. step.sites s e a n v (old.calls flow s e n' here enters);
    leaves = λ is. step.exits a (left_by graph v) (old.leaves is);
  }

  -- and nothing is left out
  pub still_complete : (Aside : Triple → Type 0) → IsSaturated graph q f es Aside → IsSaturated graph q g ds Aside
  still_complete Aside old = record {
    begun =
        λ from a m. elim (step.begun from a m) [ inl was ↦ step.kept (triple a graph.start a) (old.begun from a was) | inr is ↦ is ];
    worked = λ a n v m. elim (step.new (triple a n v) m) [
      | inl was ↦ elim (old.worked a n v was) [
        | inl aside ↦ inl aside
        | inr rest ↦
            elim rest [
              | inl pending ↦ inr (inl (step.stays (path_edge a n v) pending))
              | inr worked ↦ inr (inr (still_worked a n v worked))
            ]
      ]
      | inr is ↦ inr (inl is)
    ];
    ended = λ s e b a n v back at enters taken. elim (step.ended s e b a n v back at enters taken) [
      | inl was ↦ step.kept (triple a back (resumed_at graph n v b)) (old.ended s e b a n v back was.0 enters was.1)
      | inr is ↦ is
    ];
    asks =
        λ s e a n v m.
        elim (step.asks s e a n v m) [ inl was ↦ step.gives s (numbered_entry (caller q) e) (old.asks s e a n v was) | inr is ↦ is ];
    tells = λ a b c m taken. elim (step.tells a b c m taken) [
      | inl was ↦ step.gives c (numbered_summary q a b) (old.tells a b c was.0 was.1)
      | inr is ↦ is
    ];
    led = λ x m. elim (step.led x m) [
      | inl was ↦
          let (flow, from, n, here, first, all) = old.led x was in
          (flow, from, n, here, first, λ i n' v' most next. step.kept (triple x.entry n' v') (all i n' v' most next))
      | inr is ↦ is
    ];
  }

module _ {A G : Type 0} (graph : Graph G) (q : ℕ) (f g : Found A) (es ds : List Triple) (step : Step graph q f g es ds)
    (Aside : Triple → Type 0) where
  -- after a step all still holds
  pub still_holds : IsGrounded graph q f es × IsSaturated graph q f es Aside → IsGrounded graph q g ds × IsSaturated graph q g ds Aside
  still_holds old = (still_grounded graph q f g es ds step old.0, still_complete graph q f g es ds step Aside old.1)

module _ {A G : Type 0} (graph : Graph G) (q : ℕ) (f : Found A) (es : List Triple) where
  -- an edge that was left aside and is worked on need not be
  pub worked_off : (a n v : ℕ) → IsWorked graph q f es a n v → IsSaturated graph q f es (λ t. t ≡ triple a n v)
      → IsSaturated graph q f es (λ t. ⊥)
  worked_off a n v worked old = record {
    begun = old.begun;
    worked = λ b m w there. elim (old.worked b m w there) [
      | inl is ↦ inr (inr (subst (λ t. IsWorked graph q f es t.entry t.point t.values) (sym is) worked))
      | inr rest ↦ inr rest
    ];
    ended = old.ended;
    asks = old.asks;
    tells = old.tells;
    led = old.led;
  }

-- more edges than a limit are reached, if one is reached beside as many as the limit
pub has_more : (limit : ℕ) (es : List Triple) (P : Triple → Type 0) → NoneTwice es → ((t : Triple) → Member t es → P t)
    → (t : Triple)
    → P t → (Member t es → ⊥) → limit ≤ length es → HasMore limit P
has_more limit es P once all t is new full =
    (t ∷ es, (new, once), omega (arith, full), λ u m. elim m [ inl e ↦ subst P (sym e) is | inr was ↦ all u was ])

-- by the same messages taken the edges of a table are reached
pub all_reached : {A G : Type 0} (graph : Graph G) (q : ℕ) (f g : Found A) (es : List Triple) →
    IsGrounded graph q f es → ((k : NumberedMessage) → TookMessage f k → TookMessage g k) →
    (t : Triple) → Member t es → GraphReaches graph (TookMessage g) t.entry t.point t.values
all_reached graph q f g es sound taken t m =
    reaches_more graph (TookMessage f) (TookMessage g) taken t.entry t.point t.values
    (sound.edge t.entry t.point t.values m)

-- if the entries and the summaries are the same, so are the messages taken
pub taken_as : {A : Type 0} (f g : Found A) → ((a : ℕ) → under nat_eq g.entries.by_key a ≡ under nat_eq f.entries.by_key a)
    → ((c : CallKey) → summaries_of g.calls c ≡ summaries_of f.calls c) →
    (k : NumberedMessage) → TookMessage f k → TookMessage g k
taken_as f g entries summaries (numbered_entry from a) h = subst (Member (caller_of from)) (sym (entries a)) h
taken_as f g entries summaries (numbered_summary s a b) h = subst (Member b) (sym (summaries (call s a))) h

-- what is kept by place is, with other messages given that have a place
pub indexed_as : {A : Type 0} (f g : Found A) → calls_in g ≡ calls_in f → ((at : ℕ) → pairs_in g at ≡ pairs_in f at)
    → ((x : Outgoing) → Member x g.outbox.sent.items → IsPlaced (calls_in f) (pairs_in f) x) → IsIndexed f → IsIndexed g
indexed_as f g calls pairs placed old = record {
  placed = λ x m. subst (λ (ps : ℕ → Option Pair). IsPlaced (calls_in g) ps x) (λ i at. sym (pairs at) i)
      (subst (λ cs. IsPlaced cs (pairs_in f) x) (sym calls) (placed x m));
  calls_once = subst NoneTwice (sym calls) old.calls_once;
  pairs_once = λ x y p at_x at_y. old.pairs_once x y p (sym (pairs x) ∙ at_x) (sym (pairs y) ∙ at_y);
}

-- g has other entries, messages given and edges pending than f
module _ {A G : Type 0} (graph : Graph G) (q : ℕ) (f : Found A) (entries : Groups ℕ rust.Caller A) (given : Outbox A)
    (pending : Vec PathEdge A) where
  -- what is found, with these
  abbrev pub grown_to : Found A
  grown_to = record {
    entries = entries;
    calls = f.calls;
    exits = f.exits;
    outbox = given;
    expanded = f.expanded;
    pending = pending;
    last_exit = f.last_exit;
    last_entry = f.last_entry;
  }

  module _ (es ds : List Triple) (W : Triple → Type 0) (taken : (k : NumberedMessage) → TookMessage f k → TookMessage grown_to k)
      (reached : (t : Triple) → W t → GraphReaches graph (TookMessage grown_to) t.entry t.point t.values) where
    -- all edges are, if nothing is added but what is reached
    pub grown_reached : IsGrounded graph q f es → ((t : Triple) → Member t ds → W t ⊎ Member t es) →
        (t : Triple) → Member t ds → GraphReaches graph (TookMessage grown_to) t.entry t.point t.values
    grown_reached sound only t m = elim (only t m) [
      | inl w ↦ reached t w
      | inr was ↦ all_reached graph q f grown_to es sound taken t was
    ]

    -- the edges grow by what is reached, and what is known of calls and the exits are the same
    pub grown_step : Grows W es ds f.pending.items pending.items
        → ((s : ℕ) (k : NumberedMessage) → HasGiven f q s k → HasGiven grown_to q s k)
        → ((s : ℕ) (k : NumberedMessage) → HasGiven grown_to q s k → HasGiven f q s k ⊎ IsOwed grown_to q s k)
        → ((from : Caller) (a : ℕ) → TookMessage grown_to (numbered_entry from a) →
        TookMessage f (numbered_entry from a) ⊎ Member (triple a graph.start a) ds)
        → ((a : ℕ) (b : Exit) (c : ℕ) → HasExit f a b → TookMessage grown_to (numbered_entry (caller c) a) →
        TookMessage f (numbered_entry (caller c) a) ⊎ HasGiven grown_to q c (numbered_summary q a b))
        → (((a : ℕ) → NoneTwice (under nat_eq f.entries.by_key a)) → (a : ℕ) →
        NoneTwice (under nat_eq entries.by_key a))
        → ((x : Outgoing) → IsIndexed f → Member x given.sent.items → IsPlaced (calls_in f) (pairs_in f) x)
        → Step graph q f grown_to es ds
    grown_step grown gives given begun tells callers_once placed = record {
      taken = taken;
      kept = grown.kept;
      edge = λ t m. elim (grown.only t m) [ inl w ↦ inr (reached t w) | inr was ↦ inl was ];
      new = grown.pending;
      stays = grown.stays;
      pending = grown.edges;
      sites = λ s e a n v m. m;
      called = λ s e a n v m. inl m;
      exits = λ a b m. m;
      exit = λ a b m. inl m;
      gives = gives;
      given = given;
      begun = begun;
      ended = λ s e b a n v back at enters took. inl (at, took);
      asks = λ s e a n v m. inl m;
      tells = λ a b c m took. elim (tells a b c m took) [ inl was ↦ inl (m, was) | inr is ↦ inr is ];
      callers_once = callers_once;
      led = λ x m. inl m;
      indexed = λ old. indexed_as f grown_to refl (λ at. refl) (λ x. placed x old) old;
    }

-- what follows from two facts if the answer is Ok
pub both_ok : {T E P Q R : Type 0} (r : Result T E) → (P → Q → R) → OnOk r P → OnOk r Q → OnOk r R
both_ok (Ok _) f p q = f p q
both_ok (Err _) f p q = tt

-- g has pairs, messages given and edges pending as f has
module _ {A G : Type 0} (graph : Graph G) (q : ℕ) (f g : Found A) (es : List Triple)
    (paired : (at : ℕ) → pairs_in g at ≡ pairs_in f at) (gave : g.outbox.sent.items ≡ f.outbox.sent.items)
    (pended : g.pending.items ≡ f.pending.items) where
  -- what is found, with these
  abbrev pub same_to : Found A
  same_to = record f { exits = g.exits; outbox = g.outbox; pending = g.pending; last_exit = g.last_exit }

  -- the messages given are the same
  pub same_mails : mails_in q same_to ≡ mails_in q f
  same_mails = λ i. map (mail_of (calls_in f) (λ at. paired at i) q) (gave i)

  -- nothing changes
  pub same_step : Step graph q f same_to es es
  same_step = record {
    taken = taken_as f same_to (λ a. refl) (λ c. refl);
    kept = λ t m. m;
    edge = λ t m. inl m;
    new = λ t m. inl m;
    stays = λ e m. subst (Member e) (sym pended) m;
    pending = λ e m. inl (subst (Member e) pended m);
    sites = λ s x a n v m. m;
    called = λ s x a n v m. inl m;
    exits = λ a b m. (m.0, paired m.0 ∙ m.1);
    exit = λ a b m. inl (m.0, sym (paired m.0) ∙ m.1);
    gives = λ s k m. subst (Member (mail s (due_of k))) (sym same_mails) m;
    given = λ s k m. inl (subst (Member (mail s (due_of k))) same_mails m);
    begun = λ from a h. inl h;
    ended = λ s x b a n v back at enters taken. inl (at, taken);
    asks = λ s x a n v m. inl m;
    tells = λ a b c m h. inl ((m.0, sym (paired m.0) ∙ m.1), h);
    callers_once = λ old. old;
    led = λ x m. inl m;
    indexed = λ old. indexed_as f same_to refl paired (λ x m. old.placed x (subst (Member x) gave m)) old;
  }

module _ {A G : Type 0} (graph : Graph G) (q : ℕ) (f : Found A) (es : List Triple) (pending : Vec PathEdge A) (e : PathEdge)
    (popped : f.pending.items ≡ pending.items ++ e ∷ []) where
  -- what is found, with the last edge no longer pending
  abbrev pub popped_to : Found A
  popped_to = record f { pending = pending }

  taken_there : (k : NumberedMessage) → TookMessage f k → TookMessage popped_to k
  taken_there = taken_as f popped_to (λ a. refl) (λ c. refl)

  more : (a n v : ℕ) → GraphReaches graph (TookMessage f) a n v → GraphReaches graph (TookMessage popped_to) a n v
  more = reaches_more graph (TookMessage f) (TookMessage popped_to) taken_there

  -- what was pending is pending or is the edge
  was : (x : PathEdge) → Member x f.pending.items → Member x pending.items ⊎ (x ≡ e)
  was x m = last_or pending.items e x (subst (Member x) popped m)

  pub popped_grounded : IsGrounded graph q f es → IsGrounded graph q popped_to es
  popped_grounded old = record {
    edge = λ a n v m. more a n v (old.edge a n v m);
    site = λ s x a n v m. let (reached, at) = old.site s x a n v m in (more a n v reached, at);
    exit = λ a b m. let (v, reached, is) = old.exit a b m in (v, more a 0 v reached, is);
    given = λ s k m. owed s k (old.given s k m);
    pending =
        λ a n v m.
        old.pending a n v (subst (Member (path_edge a n v)) (sym popped) (member_left (path_edge a n v) pending.items (e ∷ []) m));
    callers_once = old.callers_once;
    indexed = indexed_as f popped_to refl (λ at. refl) old.indexed.placed old.indexed;
  }
    where
      owed : (s : ℕ) (k : NumberedMessage) → IsOwed f q s k → IsOwed popped_to q s k
      owed s (numbered_entry from e) h = h
      owed s (numbered_summary p a b) h = h

  -- the edge may be left aside
  pub popped_complete : IsSaturated graph q f es (λ t. ⊥) → IsSaturated graph q popped_to es (λ t. t ≡ triple_of e)
  popped_complete old = record {
    begun = λ from a h. old.begun from a h;
    worked = λ a n v m. elim (old.worked a n v m) [
      | inl none ↦ absurd none
      | inr rest ↦ elim rest [
        | inl pend ↦ elim (was (path_edge a n v) pend) [ inl there ↦ inr (inl there) | inr is ↦ inl (ap triple_of is) ]
        | inr worked ↦ inr (inr (record { flows = worked.flows; calls = worked.calls; leaves = worked.leaves }))
      ]
    ];
    ended = old.ended;
    asks = old.asks;
    tells = λ a b c m h. old.tells a b c m h;
    led = old.led;
  }

  -- it is an edge
  pub popped_edge : IsGrounded graph q f es → Member (triple_of e) es
  popped_edge old =
      old.pending e.entry e.point e.values (subst (Member e) (sym popped) (member_right e pending.items (e ∷ []) (inl refl)))

-- nothing is found yet
module _ {A G : Type 0} (graph : Graph G) (q : ℕ) (f : Found A) (es : List Triple) (empty : IsEmpty f) (none : es ≡ []) where
  no_edge : (t : Triple) → Member t es → ⊥
  no_edge t m = subst (Member t) none m

  no_site : (s e : ℕ) (x : PathEdge) → HasSite f s e x → ⊥
  no_site s e x m = subst (Member x) (empty.sites (call s e)) m

  no_exit : (a : ℕ) (b : Exit) → HasExit f a b → ⊥
  no_exit a b m = none-some (pair a b) (sym (empty.pairs m.0) ∙ m.1)

  pub no_message : (k : NumberedMessage) → TookMessage f k → ⊥
  no_message (numbered_entry from a) h = subst (Member (caller_of from)) (empty.entries a) h
  no_message (numbered_summary s a b) h = subst (Member b) (empty.summaries (call s a)) h

  no_mail : (m : AddressedMail) → Member m (mails_in q f) → ⊥
  no_mail m there = subst (λ xs. Member m (map (mail_of (calls_in f) (pairs_in f) q) xs)) empty.given there

  empty_indexed : IsIndexed f
  empty_indexed = record {
    placed = λ x m. absurd (subst (Member x) empty.given m);
    calls_once = subst NoneTwice (sym empty.calls) tt;
    pairs_once = λ x y p at_x at_y. absurd (none-some p (sym (empty.pairs x) ∙ at_x));
  }

  pub empty_grounded : IsGrounded graph q f es
  empty_grounded = record {
    edge = λ a n v m. absurd (no_edge (triple a n v) m);
    site = λ s e a n v m. absurd (no_site s e (path_edge a n v) m);
    exit = λ a b m. absurd (no_exit a b m);
    given = λ s k m. absurd (no_mail (mail s (due_of k)) m);
    pending = λ a n v m. absurd (subst (Member (path_edge a n v)) empty.pending m);
    callers_once = λ a. subst NoneTwice (sym (empty.entries a)) tt;
    indexed = empty_indexed;
  }

  pub empty_complete : IsSaturated graph q f es (λ t. ⊥)
  empty_complete = record {
    begun = λ from a h. absurd (no_message (numbered_entry from a) h);
    worked = λ a n v m. absurd (no_edge (triple a n v) m);
    ended = λ s e b a n v back at enters taken. absurd (no_site s e (path_edge a n v) at);
    asks = λ s e a n v m. absurd (no_site s e (path_edge a n v) m);
    tells = λ a b c m h. absurd (no_exit a b m);
    led = λ x m. absurd (subst (Member x) empty.led m);
  }
