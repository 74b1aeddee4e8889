-- What a pass knows after it was told what another had seen.
use Rattle.std.proofs.Common.{◌≡◌, ◌⊎◌, inl, inr, ℕ, ◌<◌, Bool, List, [], ◌∷◌, Some, None}
use Rattle.std.proofs.Common.{length, length-append, refl, sym, ap, ◌∙◌, subst, arith}
use Rattle.std.specs.Prelude.{Option}
use Rattle.std.proofs.Common.{lt_of_not-le}
use Rattle.std.proofs.lemmas.Bool.{not-true}
use native.Mathlib.Decide.{dec_le}
use Rattle.ticket_lock.specs.Lanes.{Standing, Told}
use Rattle.ticket_lock.specs.History.{StartsWith, EndsIn, longer}
use Rattle.ticket_lock.specs.Promises as lock
use Rattle.ticket_lock.specs.Proved.Facts.{EndsIn-same}
use Rattle.ticket_lock.proofs.HistoryFacts.{rises_last, EndsIn-some, StartsWith-whole, StartsWith-length}
use Rattle.ticket_lock.proofs.LoneSteps.{longer_first, longer_second}
use Rattle.post_ledger.specs.declared.entry.Entry.{Entry}
use Rattle.post_ledger.specs.Orders.{own}
use Rattle.post_ledger.proofs.Orders.{own-append}
use Rattle.switchboard.specs.declared.calls.Abort.{Abort}
use Rattle.switchboard.specs.Sights.{BoardState, Before, IsSound}
use Rattle.switchboard.specs.Promises.{Learned}
use Rattle.switchboard.specs.Passes.{is_by, is_complete, calls_of, share, account_of, Comes, IsPass, IsTold}
use Rattle.switchboard.proofs.Visits.{latest_is, showing, some_later, complete_is, complete_stays}

-- whether the abort is the pass's own, if it stays from first to last, is the same in between
by_between : (n : ℕ) (o p q : Option Abort) → ((a : Abort) → o ≡ Some a → p ≡ Some a) → ((a : Abort) → p ≡ Some a → q ≡ Some a)
    → is_by n q ≡ is_by n o → is_by n p ≡ is_by n o
by_between n (Some a) p q f h same = ap (is_by n) (f a refl)
by_between n None None q f h same = refl
by_between n None (Some b) q f h same = sym (ap (is_by n) (h b refl)) ∙ same

module _ {M W : Type 0} where
  -- a later order has a longer own list
  own_more : (n : ℕ) (s t : BoardState M W) → Before s t → StartsWith (own n t.order) (own n s.order)
  own_more n s t b = (own n b.order.0, ap (own n) b.order.1 ∙ own-append n s.order b.order.0)

  -- an own list that stays from first to last is the same in between
  own_between : (n : ℕ) (s t u : BoardState M W) → Before s t → Before t u → own n u.order ≡ own n s.order → own n t.order ≡ own n s.order
  own_between n s t u p q same =
      let short = StartsWith-length (own n u.order) (own n t.order) (own_more n t u q) in
      StartsWith-whole (own n t.order) (own n s.order) (own_more n s t p) (omega (arith, short, ap length same))

  module _ (fits : W → ℕ → M → Type 0) where
    -- what the pass has seen last, after it learned
    pub record News (n : ℕ) (last y : BoardState M W) : Type 0 where
      pub before : Before last y
      pub sound : IsSound fits y
      pub part : share n y ≡ share n last

    -- what is seen ends in some state
    pub ends_after : {a : Standing (BoardState M W)} {w : W} {boxes : ℕ} {kept : Bool} (p : IsPass fits a w boxes kept)
        (seen : List (BoardState M W)) →
        StartsWith seen a.seen → (y : BoardState M W) × EndsIn seen y
    ends_after {a} p seen mine =
        EndsIn-some seen (omega (arith, StartsWith-length seen a.seen mine, ap length p.ends.1, length-append p.ends.0 (p.last ∷ [])))

    pub news_is : (note : Told (BoardState M W)) (a b : Standing (BoardState M W)) (w : W) (boxes : ℕ) (kept : Bool)
        (p : IsPass fits a w boxes kept)
        → lock.LearnedNote (Comes fits) share note a b → (y : BoardState M W) → EndsIn b.seen y → News a.number p.last y
    news_is note a b w boxes kept p l y ends =
        let on = rises_last (Comes fits) b.seen a.seen p.last y l.rises l.mine p.ends ends in
        let z = l.own p.left p.has in
        let to = z.2 y ends in
        let same = z.1 ∙ sym p.own_part in
        let list = own_between a.number p.last y z.0 on.0 to.0 (ap (λ (q : List (Entry M) × Bool). q.0) same) in
        let by =
        by_between a.number p.last.aborted y.aborted z.0.aborted on.0.aborted to.0.aborted
        (ap (λ (q : List (Entry M) × Bool). q.1) same) in
        record { before = on.0; sound = on.1 p.sound; part = λ i. (list i, by i) }

    pub pass_learned : (note : Told (BoardState M W)) (a b : Standing (BoardState M W)) (w : W) (boxes : ℕ) (kept : Bool)
        (p : IsPass fits a w boxes kept) → lock.LearnedNote (Comes fits) share note a b → (y : BoardState M W) → EndsIn b.seen y
        → IsPass fits b w boxes kept
    pass_learned note a b w boxes kept p l y ends =
        let n = news_is note a b w boxes kept p l y ends in
        let number : b.number ≡ a.number = ap (λ (z : Standing (BoardState M W)). z.number) l.lane in
        record {
          waits = ap (λ (z : Standing (BoardState M W)). z.tickets) l.lane ∙ p.waits;
          outside = ap (λ (z : Standing (BoardState M W)). z.inside) l.lane ∙ p.outside;
          last = y;
          ends = ends;
          sound = n.sound;
          same_world = n.before.world ∙ p.same_world;
          same_boxes = n.before.boxes ∙ p.same_boxes;
          left = p.left;
          has = ap (λ (z : Standing (BoardState M W)). z.own) l.lane ∙ p.has;
          own_part = subst (λ k. share k y ≡ share k p.left) (sym number) (n.part ∙ p.own_part);
          number = subst (λ k. k < boxes) (sym number) p.number;
          few = p.few;
          ticket = λ e. subst (λ k. 0 < k) (sym (ap (λ (z : Standing (BoardState M W)). z.left) l.lane)) (p.ticket e);
          not_by = λ e. ap (λ k. is_by k p.left.aborted) number ∙ p.not_by e;
          knows = λ e. some_later fits p.last y n.before (p.knows e);
        }

    -- it is what one of the two had seen last
    pub one_of : (note : Told (BoardState M W)) (a b : Standing (BoardState M W)) → lock.LearnedNote (Comes fits) share note a b
        → (x y : BoardState M W)
        → EndsIn a.seen x → EndsIn b.seen y → (y ≡ x) ⊎ EndsIn note.seen y
    one_of note a b l x y ends_a ends =
        let seen : b.seen ≡ longer a.seen note.seen = ap (λ (z : Standing (BoardState M W)). z.seen) l.lane in
        elim (dec_le (length note.seen) (length a.seen)) [
          | yes d ↦ inl (EndsIn-same a.seen y x (subst (λ s. EndsIn s y) (seen ∙ longer_first a.seen note.seen d) ends) ends_a)
          | no d ↦ (let lt = lt_of_not-le d in inr (subst (λ s. EndsIn s y) (seen ∙ longer_second a.seen note.seen lt) ends))
        ]

    pub learned_is : (note : Told (BoardState M W)) (a b : Standing (BoardState M W)) (w : W) (boxes : ℕ) (kept : Bool)
        (p : IsPass fits a w boxes kept) → lock.LearnedNote (Comes fits) share note a b → IsTold fits note
        → (y : BoardState M W) → EndsIn b.seen y → Learned fits (account_of note) (showing fits a kept p.last)
        (showing fits b kept y)
    learned_is note a b w boxes kept p l told y ends =
        let n = news_is note a b w boxes kept p l y ends in
        let z = told.last in
        let theirs = rises_last (Comes fits) b.seen note.seen z y l.rises l.theirs told.ends ends in
        let order = latest_is (λ (s : BoardState M W). s.order) [] note.seen z told.ends in
        let aborted = latest_is (λ (s : BoardState M W). s.aborted) None note.seen z told.ends in
        let knew = ap is_complete order in
        let one = one_of note a b l p.last y p.ends ends in
        let from : EndsIn note.seen y → z ≡ y = EndsIn-same note.seen z y told.ends in
        let board = ap (λ (q : Standing (BoardState M W)). q.lock) l.lane in
        let number = ap (λ (q : Standing (BoardState M W)). q.number) l.lane in
        let left = ap (λ (q : Standing (BoardState M W)). q.left) l.lane in
        record {
          none = record {
            goes = record {
              board = board;
              number = number;
              before = n.before;
              sound = n.sound;
              made = λ made. some_later fits p.last y n.before (p.knows (not-true kept made));
              knows = λ done. complete_stays fits p.last y p.sound n.before n.sound done;
              close = complete_is fits y n.sound;
            };
            made = refl;
            own = ap (λ (q : List (Entry M) × Bool). q.0) n.part;
          };
          calls = ap (λ k. calls_of kept k) left;
          theirs = subst (λ o. StartsWith y.order o) (sym order) theirs.0.order;
          longer = elim one [
            | inl same ↦ inl (ap (λ (s : BoardState M W). s.order) same)
            | inr told_last ↦ inr (ap (λ (s : BoardState M W). s.order) (sym (from told_last)) ∙ sym order)
          ];
          abort = λ q is. theirs.0.aborted q (sym aborted ∙ is);
          either = elim one [
            | inl same ↦ inl (ap (λ (s : BoardState M W). s.aborted) same)
            | inr told_last ↦ inr (ap (λ (s : BoardState M W). s.aborted) (sym (from told_last)) ∙ sym aborted)
          ];
          close = λ done. complete_stays fits z y told.sound theirs.0 n.sound (sym knew ∙ done);
          known = λ done. elim one [
            | inl same ↦ inl (ap (λ (s : BoardState M W). is_complete s.order) (sym same) ∙ done)
            | inr told_last ↦ inr (knew ∙ (ap (λ (s : BoardState M W). is_complete s.order) (from told_last) ∙ done))
          ];
        }
