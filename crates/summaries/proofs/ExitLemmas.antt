-- The step of a table at an edge at the exit.
use Rattle.std.proofs.Common.{◌≡◌, ◌⊎◌, ℕ, List, nat_eq, Option, None, Some, inl, inr, refl, sym, ap, subst, ◌∙◌}
use Rattle.std.proofs.lemmas.Option.{none-some, same_Some}
use Rattle.std.specs.Option.{IfSome, IfNone}
use Rattle.language.specs.Lists.{Member}
use Rattle.path_sets.specs.Triples.{Triple, triple}
use Rattle.flow_graph.specs.Returns.{left_by}
use Rattle.flow_graph.specs.Numbers.{NumberedMessage, GraphReaches, Leaves}
use Rattle.flow_graph.specs.declared.graph.Graph.{Graph}
use Rattle.flow_graph.specs.declared.exit.Exit.{Exit}
use Rattle.flow_graph.proofs.ReachLemmas.{reaches_more}
use Rattle.summaries.specs.declared.due.Caller.{Caller}
use Rattle.summaries.specs.declared.due.Caller.TheVariants.{Proc}
use Rattle.summaries.specs.declared.outbox.Outgoing.{Outgoing}
use Rattle.summaries.specs.declared.exits.Exits.{Exits}
use Rattle.summaries.specs.declared.found.Found.{Found}
use Rattle.summaries.specs.declared.pair.Pair.{Pair}
use Rattle.groups.specs.Under.{under}
use Rattle.summaries.specs.Exits.{IsPairAdded}
use Rattle.summaries.specs.Mails.{mail, summary_due}
use Rattle.summaries.specs.Dues.{due_of}
use Rattle.summaries.specs.Found.{pair, left, summary_mail, mail_of, calls_in, pairs_in, mails_in, TookMessage, HasExit, IsOwed}
use Rattle.summaries.specs.Found.{IsPlaced, IsIndexed, IsGrounded}
use Rattle.summaries.specs.Grows.{AddsTo, OfSome, IsTold, IsSummaryTold}
use Rattle.summaries.proofs.Dues.{due_told}
use Rattle.summaries.proofs.StepLemmas.{Step, taken_as}
use Rattle.summaries.proofs.PlaceLemmas.{adds_mapped, none_behind, KeepsPairs, placed_still, mails_still}
use Rattle.summaries.proofs.TellLemmas.{gives_kept, gives_as, told_mail, mail_told}

-- a pair that comes to be at a place, beside those that are at others
module _ {A : Type 0} (f g : Found A) (p : Pair) (at : ℕ) (added : IsPairAdded p at f.exits g.exits) where
  -- the others stay
  pub keeps_pairs : KeepsPairs (pairs_in f) (pairs_in g)
  keeps_pairs x found is = elim (added.others x) [
    | inl same ↦ absurd (none-some found (sym added.free ∙ ap (pairs_in f) (sym same) ∙ is))
    | inr stays ↦ stays ∙ is
  ]

  -- and there are no more
  pub pair_or : (x : ℕ) (found : Pair) → pairs_in g x ≡ Some found → (pairs_in f x ≡ Some found) ⊎ (p ≡ found)
  pair_or x found is = elim (added.others x) [
    | inl same ↦ inr (same_Some p found (sym added.there ∙ ap (pairs_in g) (sym same) ∙ is))
    | inr stays ↦ inl (sym stays ∙ is)
  ]

-- g has other exits and messages given
module _ {A G : Type 0} (graph : Graph G) (q : ℕ) (f g : Found A) where
  -- what is found, with other exits and messages given
  abbrev pub left_to : Found A
  left_to = record f { exits = g.exits; outbox = g.outbox; last_exit = g.last_exit; last_entry = g.last_entry }

  -- the messages taken are the same
  pub taken_left : (k : NumberedMessage) → TookMessage f k → TookMessage left_to k
  taken_left = taken_as f left_to (λ a. refl) (λ c. refl)

  module _ (es : List Triple) (a v : ℕ) (b : Exit) (is_left : b ≡ left_by graph v) (sound : IsGrounded graph q f es)
      (there : Member (triple a 0 v) es)
      (at : ℕ) (added : IsPairAdded (pair a b) at f.exits g.exits) (indexed : IsIndexed f → IsIndexed left_to)
      (gave : AddsTo (OfSome (IsSummaryTold q a b) (under nat_eq f.entries.by_key a)) (mails_in q f) (mails_in q left_to)) where
    abbrev M : NumberedMessage → Type 0
    M = TookMessage left_to

    reached : GraphReaches graph M a 0 v
    reached = reaches_more graph (TookMessage f) M taken_left a 0 v (sound.edge a 0 v there)

    exit_or : (x : ℕ) (y : Exit) → HasExit left_to x y → HasExit f x y ⊎ (pair a b ≡ pair x y)
    exit_or x y (i, here) = elim (pair_or f g (pair a b) at added i (pair x y) here) [ inl was ↦ inl (i, was) | inr is ↦ inr is ]

    exit_keeps : (x : ℕ) (y : Exit) → HasExit f x y → HasExit left_to x y
    exit_keeps x y (i, here) = (i, keeps_pairs f g (pair a b) at added i (pair x y) here)

    pub left_exit : HasExit left_to a b
    left_exit = (at, added.there)

    told : (s : ℕ) (k : NumberedMessage) → OfSome (IsSummaryTold q a b) (under nat_eq f.entries.by_key a) (mail s (due_of k)) →
        IsOwed left_to q s k
    told s k (from, m, (c, is, same)) =
        subst (λ to. IsOwed left_to q to k) (sym (ap (λ x. x.to) same))
        (subst (IsOwed left_to q c) (sym (due_told k (summary_due q a b) (ap (λ x. x.due) same)))
        (refl, left_exit, subst (λ y. Member y (under nat_eq f.entries.by_key a)) is m))

    pub leave_step : Step graph q f left_to es es
    leave_step = record {
      taken = taken_left;
      kept = λ t m. m;
      edge = λ t m. inl m;
      new = λ t m. inl m;
      stays = λ e m. m;
      pending = λ e m. inl m;
      sites = λ s x c n w m. m;
      called = λ s x c n w m. inl m;
      exits = exit_keeps;
      exit = λ x y m. elim (exit_or x y m) [
        | inl was ↦ inl was
        | inr is ↦ inr (subst (λ (p : Pair). Leaves graph M p.a (left p.b p.r)) is (v, reached, is_left))
      ];
      gives = λ s k m. gives_kept
          (OfSome (IsSummaryTold q a b) (under nat_eq f.entries.by_key a)) (mails_in q f) (mails_in q left_to) gave
          (mail s (due_of k)) m;
      given = λ s k m. elim (gave.only (mail s (due_of k)) m) [ inl w ↦ inr (told s k w) | inr was ↦ inl was ];
      begun = λ from x h. inl h;
      ended = λ s x y c n w back at enters taken. inl (at, taken);
      asks = λ s x c n w m. inl m;
      tells = λ x y c m h. elim (exit_or x y m) [
        | inl was ↦ inl (was, h)
        | inr is ↦ inr (gave.all (mail c (summary_due q x y)) (
          Proc c,
          subst (λ (p : Pair). Member (Proc c) (under nat_eq f.entries.by_key p.a)) (sym is) h,
          (c, refl, λ i. summary_mail q c (sym is i)),
        ))
      ];
      callers_once = λ old. old;
      led = λ x m. inl m;
      indexed = indexed;
    }

-- A pair that is new has a place of its own, which is told to its callers.
module _ {A : Type 0} (q : ℕ) (f g : Found A) (a : ℕ) (b : Exit) (at : ℕ) (callers : List Caller) (old : IsIndexed f)
    (added : IsPairAdded (pair a b) at f.exits g.exits)
    (told : AddsTo (OfSome (IsTold at) callers) f.outbox.sent.items g.outbox.sent.items) where
  abbrev there : Found A
  there = record f { exits = g.exits; outbox = g.outbox; last_exit = g.last_exit; last_entry = g.last_entry }

  keeps : KeepsPairs (pairs_in f) (pairs_in g)
  keeps = keeps_pairs f g (pair a b) at added

  abbrev still : (x : Outgoing) → IsPlaced (calls_in f) (pairs_in f) x → IsPlaced (calls_in f) (pairs_in g) x
  still = placed_still q (calls_in f) (pairs_in f) (calls_in f) (pairs_in g) (none_behind (calls_in f)) keeps

  pub left_indexed : IsIndexed there
  left_indexed = record {
    placed = λ x m. elim (told.only x m) [
      | inl w ↦ subst (IsPlaced (calls_in f) (pairs_in g)) (sym w.2.2) (pair a b, added.there)
      | inr was ↦ still x (old.placed x was)
    ];
    calls_once = old.calls_once;
    pairs_once = λ x y p at_x at_y. elim (added.others x) [
      | inl is_x ↦ elim (added.others y) [
        | inl is_y ↦ is_x ∙ sym is_y
        | inr stays ↦ absurd (added.apart y (sym stays ∙ at_y ∙ sym at_x ∙ ap (pairs_in g) is_x ∙ added.there))
      ]
      | inr stays_x ↦ elim (added.others y) [
        | inl is_y ↦ absurd (added.apart x (sym stays_x ∙ at_x ∙ sym at_y ∙ ap (pairs_in g) is_y ∙ added.there))
        | inr stays ↦ old.pairs_once x y p (sym stays_x ∙ at_x) (sym stays ∙ at_y)
      ]
    ];
  }

  -- so its summary is given to each
  pub left_told : AddsTo (OfSome (IsSummaryTold q a b) callers) (mails_in q f) (mails_in q there)
  left_told =
      let cs = calls_in f in
      let ps = pairs_in g in
      let mailed = adds_mapped (mail_of cs ps q) (OfSome (IsTold at) callers) f.outbox.sent.items g.outbox.sent.items told in
      subst (λ ms. AddsTo (OfSome (IsSummaryTold q a b) callers) ms (mails_in q there))
      (mails_still q cs (pairs_in f) cs ps (none_behind cs) keeps f.outbox.sent.items old.placed)
      (gives_as _ _ _ _
      (λ m (x, (from, is_in, w), is). (
        from,
        is_in,
        subst (IsSummaryTold q a b from) (sym is) (told_mail q cs ps a b at added.there from x w),
      ))
      (λ m (from, is_in, w). let (x, is_told, is) = mail_told q cs ps a b at added.there from m w in (x, (from, is_in, is_told), is))
      mailed)

-- no caller has been told of a new pair yet
pub none_told : {A : Type 0} (f g : Found A) → IsIndexed f → (p : Pair) (at : ℕ) (callers : List Caller)
    → IsPairAdded p at f.exits g.exits → (x : Outgoing) → OfSome (IsTold at) callers x → Member x f.outbox.sent.items → ⊥
none_told f g old p at callers added x (from, m, (c, is, same)) given =
    let (told, here) = subst (IsPlaced (calls_in f) (pairs_in f)) same (old.placed x given) in
    none-some told (sym added.free ∙ here)

-- the pair that was added, by an answer
pub added_by : {A : Type 0} (old new : Exits A) (p found : Pair) (r : Option ℕ) (at : ℕ) → r ≡ Some at → p ≡ found
    → IfSome r (λ x. IsPairAdded p x old new) → IsPairAdded found at old new
added_by old new p found r at is same told =
    subst (λ s. IsPairAdded s at old new) same (subst (λ (o : Option ℕ). IfSome o (λ x. IsPairAdded p x old new)) is told)

pub if_none : {X P : Type 0} (r : Option X) → r ≡ None → IfNone r P → P
if_none {P = P} r is told = subst (λ o. IfNone o P) is told
