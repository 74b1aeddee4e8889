-- The step of a table that takes an entry.
use Rattle.std.proofs.Common.{◌≡◌, ◌⊎◌, ℕ, List, [], ◌∷◌, ◌++◌, false, nat_eq, inl, inr, refl, sym, ap, subst, map}
use Rattle.std.specs.Prelude.{Vec}
use Rattle.std.proofs.lemmas.Map.Views.{exact_unsigned_eq}
use Rattle.language.specs.Lists.{Member}
use Rattle.language.proofs.Members.{member_map}
use Rattle.path_sets.specs.Triples.{Triple, triple}
use Rattle.flow_graph.specs.Numbers.{NumberedMessage, numbered_entry, numbered_summary, GraphReaches, starts}
use Rattle.flow_graph.specs.declared.graph.Graph.{Graph}
use Rattle.flow_graph.specs.declared.exit.Exit.{Exit}
use Rattle.summaries.specs.declared.due.Caller as rust
use Rattle.summaries.specs.declared.due.Caller.TheVariants.{Proc}
use Rattle.summaries.specs.declared.due.Due.TheVariants.{Entry}
use Rattle.summaries.specs.declared.edge.PathEdge.{PathEdge}
use Rattle.summaries.specs.declared.found.Found.{Found}
use Rattle.summaries.specs.declared.outbox.Outbox.{Outbox}
use Rattle.summaries.specs.declared.outbox.Outgoing.{Outgoing}
use Rattle.groups.specs.declared.groups.Groups.{Groups}
use Rattle.groups.specs.Under.{under}
use Rattle.summaries.specs.Mails.{AddressedMail, mail, summary_due}
use Rattle.summaries.specs.Dues.{caller_of, due_of}
use Rattle.summaries.specs.Found.{pair, calls_in, pairs_in, mail_of, mails_in, TookMessage, HasExit, IsOwed, IsPlaced, IsIndexed}
use Rattle.summaries.specs.Found.{IsGrounded}
use Rattle.summaries.specs.Grows.{Grows, AddsTo, IsToldOf, IsSummaryTold}
use Rattle.summaries.specs.Tables.{TookAlso}
use Rattle.groups.proofs.AddedLemmas.{added_or, added_keeps, added_is}
use Rattle.summaries.proofs.AddLemmas.{added_once}
use Rattle.summaries.proofs.Dues.{who, who_is, due_told, same_entry, apart}
use Rattle.summaries.proofs.StepLemmas.{Step, grown_to, grown_reached, grown_step}
use Rattle.summaries.proofs.PlaceLemmas.{adds_mapped}
use Rattle.summaries.proofs.TellLemmas.{gives_kept, gives_as, told_mail, mail_told}

-- a message is the summary of an exit of this entry, for the caller
abbrev pub IsExitTold : {A : Type 0} → ℕ → Found A → ℕ → rust.Caller → AddressedMail → Type 0
IsExitTold q f a from m = (b : Exit) × HasExit f a b × IsSummaryTold q a b from m

module _ {A G : Type 0} (graph : Graph G) (q : ℕ) (f : Found A) (entries : Groups ℕ rust.Caller A) (given : Outbox A)
    (pending : Vec PathEdge A)
    (a : ℕ) (from : rust.Caller)
    (added : under nat_eq entries.by_key a ≡ under nat_eq f.entries.by_key a ++ from ∷ [])
    (others : (k : ℕ) → nat_eq a k ≡ false → under nat_eq entries.by_key k ≡ under nat_eq f.entries.by_key k) where
  -- what is found, with other entries, messages given and edges pending
  abbrev pub entered_to : Found A
  entered_to = grown_to graph q f entries given pending

  abbrev M : NumberedMessage → Type 0
  M = TookMessage entered_to

  entry_or : (x : ℕ) (c : rust.Caller) → Member c (under nat_eq entries.by_key x)
      → Member c (under nat_eq f.entries.by_key x) ⊎ ((a ≡ x) × (from ≡ c))
  entry_or = added_or nat_eq exact_unsigned_eq (under nat_eq f.entries.by_key) (under nat_eq entries.by_key) a from added others

  -- the messages taken stay
  pub taken_entered : (k : NumberedMessage) → TookMessage f k → TookMessage entered_to k
  taken_entered (numbered_entry c x) h =
      added_keeps nat_eq exact_unsigned_eq (under nat_eq f.entries.by_key) (under nat_eq entries.by_key) a from added others x
      (caller_of c) h
  taken_entered (numbered_summary s x y) h = h

  -- the entry is taken
  entered : M (numbered_entry (who from) a)
  entered = subst (λ c. Member c (under nat_eq entries.by_key a)) (sym (who_is from))
      (added_is nat_eq exact_unsigned_eq (under nat_eq f.entries.by_key) (under nat_eq entries.by_key) a from added others)

  -- and no other
  pub entered_also : TookAlso (Entry from a) f entered_to
  entered_also (numbered_entry c x) = (
    λ h. elim (entry_or x (caller_of c) h) [ inl was ↦ inr was | inr is ↦ inl (λ i. Entry (sym is.1 i) (sym is.0 i)) ],
    λ w. elim w [
      | inl is ↦
          let (same, at) = same_entry (caller_of c) from x a is in
          subst (λ y. Member (caller_of c) (under nat_eq entries.by_key y)) at
          (subst (λ d. Member d (under nat_eq entries.by_key a)) same
          (added_is nat_eq exact_unsigned_eq (under nat_eq f.entries.by_key) (under nat_eq entries.by_key) a from added others))
      | inr was ↦ taken_entered (numbered_entry c x) was
    ],
  )
  entered_also (numbered_summary s x y) = (λ h. inr h, λ w. elim w [ inl is ↦ absurd (apart from s a x y (sym is)) | inr was ↦ was ])

  module _ (es ds : List Triple) (sound : IsGrounded graph q f es) where
    -- the start is reached
    pub start_reached : (t : Triple) → t ≡ triple a graph.start a → GraphReaches graph M t.entry t.point t.values
    start_reached t is = subst (λ u. GraphReaches graph M u.entry u.point u.values) (sym is) (starts (who from) a entered)

    -- so all edges are, if nothing else is added
    pub enter_only : ((t : Triple) → Member t ds → (t ≡ triple a graph.start a) ⊎ Member t es) → (t : Triple) →
        Member t ds → GraphReaches graph M t.entry t.point t.values
    enter_only =
        grown_reached graph q f entries given pending es ds (λ t. t ≡ triple a graph.start a) taken_entered start_reached sound

    told : (s : ℕ) (k : NumberedMessage) → IsExitTold q f a from (mail s (due_of k)) → IsOwed entered_to q s k
    told s k (b, m, (c, is, same)) =
        subst (λ to. IsOwed entered_to q to k) (sym (ap (λ x. x.to) same))
        (subst (IsOwed entered_to q c) (sym (due_told k (summary_due q a b) (ap (λ x. x.due) same))) (
          refl,
          m,
          subst (λ d. Member d (under nat_eq entries.by_key a)) is
              (added_is nat_eq exact_unsigned_eq (under nat_eq f.entries.by_key)
              (under nat_eq entries.by_key) a from added others),
        ))

    pub enter_step : (Member from (under nat_eq f.entries.by_key a) → ⊥)
        → Grows (λ t. t ≡ triple a graph.start a) es ds f.pending.items pending.items
        → ((x : Outgoing) → IsIndexed f → Member x given.sent.items → IsPlaced (calls_in f) (pairs_in f) x)
        → AddsTo (IsExitTold q f a from) (mails_in q f) (mails_in q entered_to) → Step graph q f entered_to es ds
    enter_step new grown placed gave =
        grown_step graph q f entries given pending es ds (λ t. t ≡ triple a graph.start a) taken_entered start_reached grown
        (λ s k m. gives_kept (IsExitTold q f a from) (mails_in q f) (mails_in q entered_to) gave (mail s (due_of k)) m)
        (λ s k m. elim (gave.only (mail s (due_of k)) m) [ inl w ↦ inr (told s k w) | inr was ↦ inl was ])
        (λ c x h. elim (entry_or x (caller_of c) h) [
          | inl was ↦ inl was
          | inr is ↦ inr (grown.all (triple x graph.start x) (ap (λ y. triple y graph.start y) (sym is.0)))
        ])
        (λ x y c m h. elim (entry_or x (Proc c) h) [
          | inl was ↦ inl was
          | inr is ↦ inr (gave.all (mail c (summary_due q x y)) (
            y,
            subst (λ z. HasExit f z y) (sym is.0) m,
            (c, is.1, ap (λ z. mail c (summary_due q z y)) (sym is.0)),
          ))
        ])
        (added_once nat_eq exact_unsigned_eq (under nat_eq f.entries.by_key) (under nat_eq entries.by_key) a from
        added others new)
        placed

-- the pairs of an entry, with a caller that is told of them
module _ {A : Type 0} (f : Found A) (a : ℕ) where
  -- a new caller has been told nothing yet
  pub none_told : {G : Type 0} (graph : Graph G) (q : ℕ) (es : List Triple) → IsGrounded graph q f es
      → (from : rust.Caller) → (Member from (under nat_eq f.entries.by_key a) → ⊥)
      → (x : Outgoing) → IsToldOf f.exits a from x → Member x f.outbox.sent.items → ⊥
  none_told graph q es sound from new x (at, (b, here), told) given =
      let cs = calls_in f in
      let ps = pairs_in f in
      let (c, is, mailed) = told_mail q cs ps a b at here from x told in
      let (own, left, taken) = sound.given c (numbered_summary q a b)
      (subst (λ y. Member y (mails_in q f)) mailed (member_map (mail_of cs ps q) f.outbox.sent.items x given)) in
      new (subst (λ d. Member d (under nat_eq f.entries.by_key a)) (sym is) taken)

  -- They are told to a caller, by messages that have places.
  module _ (q : ℕ) (given : Outbox A) (from : rust.Caller)
      (told : AddsTo (IsToldOf f.exits a from) f.outbox.sent.items given.sent.items) where
    pub exits_placed : IsIndexed f → (x : Outgoing) → Member x given.sent.items → IsPlaced (calls_in f) (pairs_in f) x
    exits_placed old x m = elim (told.only x m) [
      | inl (at, (b, here), w) ↦ subst (IsPlaced (calls_in f) (pairs_in f)) (sym w.2) (pair a b, here)
      | inr was ↦ old.placed x was
    ]

    -- so the summaries of all exits are given
    pub exits_told : AddsTo (IsExitTold q f a from) (mails_in q f) (map (mail_of (calls_in f) (pairs_in f) q) given.sent.items)
    exits_told =
        let cs = calls_in f in
        let ps = pairs_in f in
        gives_as _ (IsExitTold q f a from) _ _
        (λ m (x, (at, (b, here), w), is).
        (b, (at, here), subst (IsSummaryTold q a b from) (sym is) (told_mail q cs ps a b at here from x w)))
        (λ m (b, (at, here), w).
        let (x, is_told, is) = mail_told q cs ps a b at here from m w in
        (x, (at, (b, here), is_told), is))
        (adds_mapped (mail_of cs ps q) (IsToldOf f.exits a from) f.outbox.sent.items given.sent.items told)
