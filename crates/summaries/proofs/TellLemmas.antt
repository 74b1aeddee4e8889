-- How messages come to be given, one by one.
use Rattle.std.proofs.Common.{◌≡◌, ◌<◌, ◌+◌, ℕ, false, List, [], ◌∷◌, ◌++◌, ◌⊎◌, Some, take, length, get_or}
use Rattle.std.proofs.Common.{Option, unwrap_or}
use Rattle.std.proofs.Common.{inl, inr, refl, sym, subst, ap, ◌∙◌, arith}
use Rattle.std.proofs.lemmas.List.{append-nil, append_assoc, length-map, take_more}
use Rattle.std.proofs.Math.Seq.{take-length}
use Rattle.language.specs.Lists.{Member, NoneTwice}
use Rattle.language.proofs.Members.{member_left, member_right}
use Rattle.flow_graph.specs.declared.exit.Exit.{Exit}
use Rattle.summaries.specs.declared.due.Caller.{Caller}
use Rattle.summaries.specs.declared.due.Caller.TheVariants.{Proc}
use Rattle.summaries.specs.declared.edge.CallKey.{CallKey}
use Rattle.summaries.specs.declared.outbox.Outgoing.{Outgoing}
use Rattle.summaries.specs.declared.outbox.Outgoing.TheVariants.{EntryFor, SummaryFor}
use Rattle.summaries.specs.declared.pair.Pair.{Pair}
use Rattle.summaries.specs.Mails.{AddressedMail, mail, summary_due}
use Rattle.summaries.specs.declared.found.Found.{Found}
use Rattle.summaries.specs.Found.{pair, left, summary_mail, mail_of, calls_in, pairs_in, mails_in, answers_in}
use Rattle.summaries.specs.Grows.{AddsTo, OfSome, IsTold, IsSummaryTold}
use Rattle.summaries.proofs.Eaches.{each_at, each_left, each_last, each_or_last}
use Rattle.summaries.proofs.Mails.{next_new, answers_still}
use Rattle.path_sets.proofs.PlaceLemmas.{last_or}

-- one message is given
pub gives_one : {X : Type 0} (m : X) (old new : List X) → new ≡ old ++ m ∷ [] → AddsTo (λ x. x ≡ m) old new
gives_one m old new more = record {
  all = λ x w. subst (Member x) (sym more) (member_right x old (m ∷ []) (inl w));
  only = λ x n. elim (last_or old m x (subst (Member x) more n)) [ inl was ↦ inr was | inr e ↦ inl e ];
  behind = (m ∷ [], more);
}

-- a message that was given is
pub gives_known : {X : Type 0} (m : X) (old : List X) → Member m old → AddsTo (λ x. x ≡ m) old old
gives_known m old known = record {
  all = λ x w. subst (λ y. Member y old) (sym w) known;
  only = λ x n. inr n;
  behind = ([], sym (append-nil old));
}

-- the same messages, called otherwise
pub gives_as : {X : Type 0} (V W : X → Type 0) (old new : List X) → ((x : X) → V x → W x) → ((x : X) → W x → V x)
    → AddsTo V old new
    → AddsTo W old new
gives_as V W old new to from gives = record {
  all = λ x w. gives.all x (from x w);
  only = λ x n. elim (gives.only x n) [ inl v ↦ inl (to x v) | inr was ↦ inr was ];
  behind = gives.behind;
}

-- what was given stays
pub gives_kept : {X : Type 0} (W : X → Type 0) (old new : List X) → AddsTo W old new → (x : X) → Member x old → Member x new
gives_kept W old new gives x m = subst (Member x) (sym gives.behind.1) (member_left x old gives.behind.0 m)

-- one giving after another
pub gives_both : {X : Type 0} (V W U : X → Type 0) (old mid new : List X) → AddsTo V old mid → AddsTo W mid new
    → ((x : X) → U x → V x ⊎ W x)
    → ((x : X) → V x ⊎ W x → U x) →
    AddsTo U old new
gives_both V W U old mid new first second from to = record {
  all = λ x u. elim (from x u) [ inl v ↦ gives_kept W mid new second x (first.all x v) | inr w ↦ second.all x w ];
  only = λ x n. elim (second.only x n) [
    | inl w ↦ inl (to x (inr w))
    | inr m ↦ elim (first.only x m) [ inl v ↦ inl (to x (inl v)) | inr was ↦ inr was ]
  ];
  behind = (
    first.behind.0 ++ second.behind.0,
    second.behind.1 ∙ ap (λ l. l ++ second.behind.0) first.behind.1 ∙ append_assoc old first.behind.0 second.behind.0,
  );
}

-- the items of a list, one after the other
module _ {X T : Type 0} (W : X → T → Type 0) (xs : List X) (i : ℕ) (old mid : List T) (first : AddsTo (OfSome W (take i xs)) old mid) where
  -- What is given for an item was not given for those before it, if no item occurs twice and each is given its own.
  pub still_new : ((y z : X) (x : T) → W y x → W z x → y ≡ z) → (d : X) → i < length xs → NoneTwice xs
      → ((x : T) → OfSome W xs x → Member x old → ⊥) → (x : T) → W (get_or xs i d) x → Member x mid → ⊥
  still_new same d within once new x w m = elim (first.only x m) [
    | inl told ↦ next_new xs i (i + 1) (get_or xs i d) (take_more xs i d within) once
        (subst (λ y. Member y (take i xs)) (same told.0 (get_or xs i d) x told.2 w) told.1)
    | inr was ↦ new x (each_at W xs i d within x w) was
  ]

  -- with the next one
  pub gives_next : (d : X) → i < length xs → (new : List T) → AddsTo (W (get_or xs i d)) mid new
      → AddsTo (OfSome W (take (i + 1) xs)) old new
  gives_next d within new second =
      let y = get_or xs i d in
      gives_both _ (W y) _ old mid new first second
      (λ x w. each_or_last W (take i xs) y x (subst (λ l. OfSome W l x) (take_more xs i d within) w))
      (λ x w. subst (λ l. OfSome W l x) (sym (take_more xs i d within)) (elim w [
        | inl n ↦ each_left W (take i xs) (y ∷ []) x n
        | inr l ↦ each_last W (take i xs) y x l
      ]))

  -- all of them
  pub gives_all : i ≡ length xs → AddsTo (OfSome W xs) old mid
  gives_all end = subst (λ l. AddsTo (OfSome W l) old mid) (ap (λ n. take n xs) end ∙ take-length xs) first

-- the caller that a message is told to, and the place of the pair told
to_in : Outgoing → ℕ
to_in (EntryFor call) = 0
to_in (SummaryFor to at) = to

place_in : Outgoing → ℕ
place_in (EntryFor call) = 0
place_in (SummaryFor to at) = at

-- a summary is told to no two callers
pub one_caller : (at : ℕ) (y z : Caller) (x : Outgoing) → IsTold at y x → IsTold at z x → y ≡ z
unfolding to_in
one_caller at y z x (c, is_c, by_c) (d, is_d, by_d) = is_c ∙ ap (λ m. Proc (to_in m)) (sym by_c ∙ by_d) ∙ sym is_d

-- and is one pair's
pub one_pair : (from : Caller) (y z : ℕ) (x : Outgoing) → IsTold y from x → IsTold z from x → y ≡ z
unfolding place_in
one_pair from y z x (c, is_c, by_c) (d, is_d, by_d) = ap place_in (sym by_c ∙ by_d)

-- with more messages appended, those that were answered are the same
pub answers_kept : {A : Type 0} (q : ℕ) (f g : Found A) (W : AddressedMail → Type 0) → g.outbox.answered ≡ f.outbox.answered
    → AddsTo W (mails_in q f) (mails_in q g) → answers_in q g ≡ answers_in q f
answers_kept q f g W same gave =
    let long = length-map f.outbox.sent.items (mail_of (calls_in f) (pairs_in f) q) in
    let within = f.outbox.within in
    answers_still (mails_in q f) (mails_in q g) f.outbox.answered g.outbox.answered (omega (arith, long, within)) same gave.behind

module _ (q : ℕ) (cs : List CallKey) (ps : ℕ → Option Pair) (a : ℕ) (b : Exit) (at : ℕ) (here : ps at ≡ Some (pair a b)) where
  told_of : (c : ℕ) → mail_of cs ps q (SummaryFor c at) ≡ mail c (summary_due q a b)
  told_of c = ap (λ p. summary_mail q c (unwrap_or p (pair 0 (left 0 false)))) here

  -- what is told of the pair at a place is its summary
  pub told_mail : (from : Caller) (x : Outgoing) → IsTold at from x → IsSummaryTold q a b from (mail_of cs ps q x)
  told_mail from x (c, is, same) = (c, is, ap (mail_of cs ps q) same ∙ told_of c)

  -- and nothing else is
  pub mail_told : (from : Caller) (m : AddressedMail) → IsSummaryTold q a b from m
      → (x : Outgoing) × IsTold at from x × (m ≡ mail_of cs ps q x)
  mail_told from m (c, is, same) = (SummaryFor c at, (c, is, refl), same ∙ sym (told_of c))
