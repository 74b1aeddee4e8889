-- What each call of a mailbox keeps.
use Rattle.std.proofs.Common.{◌≡◌, ℕ, zero, suc, ◌+◌, ◌^◌, ◌<◌, ◌≤◌, List, [], ◌∷◌, ◌++◌, Some, true, false, length, slice_get, Contains}
use Rattle.std.proofs.Common.{refl, sym, ◌∙◌, ap, ap₂, subst, arith, ◌-◌, ◌⊎◌, inl, inr, nat_eq, ltb, get_or, map, set}
use Rattle.std.proofs.lemmas.List.{append-nil, length-map, length_push, map-append}
use Rattle.std.proofs.lemmas.List.Concat.{flat_map-append}
use Rattle.std.proofs.lemmas.Slice.Zip.{length-zip}
use Rattle.std.proofs.Math.Seq.{map-set_same}
use Rattle.std.proofs.lemmas.Option.{none-some, same_Some, slice_get-map, slice_get_read, slice_get_within}
use Rattle.std.specs.List.{IsDistinct, list_any, zip}
use Rattle.std.specs.Option.{option_map}
use Rattle.std.specs.Cmp.{nat_eq_equiv}
use Rattle.std.proofs.lemmas.Bool.{cases_Bool, or_cases, eqb-true, ltb-true, false≢true}
use Rattle.std.proofs.lemmas.List.Folds.{list_any-append}
use Rattle.std.proofs.lemmas.Map.Keys.{IsDistinct-push}
use Rattle.std.proofs.lemmas.Map.Views.{Contains-from_any}
use Rattle.std.proofs.lemmas.Map.Steps.{length-le_from_distinct_below}
use Rattle.post_ledger.specs.declared.event.Event.{Event}
use Rattle.post_ledger.specs.declared.event.Event.TheVariants.{Post, Take, Done}
use Rattle.post_ledger.specs.History.{posts, takes, dones}
use Rattle.post_ledger.specs.declared.mailbox.Kind.TheVariants as kind
use Rattle.post_ledger.specs.declared.mailbox.Step.{Step}
use Rattle.post_ledger.specs.Kept.{AreNumbered, FieldCounts, HistoryCounts, IsNumbered, MailboxCounts, NumberedEvent}
use Rattle.post_ledger.specs.Kept.{event_of, events_of, numbered_of, post_of, posted_of, take_of}
use Rattle.post_ledger.proofs.Histories.{posts-append, takes-append, dones-append, legal_push, at_seam, element_at}

-- the lists of a history with one more event
takes_post : {M : Type 0} (h : List (Event M)) (s : ℕ) (m : M) → takes (h ++ Post s m ∷ []) ≡ takes h
takes_post h s m = takes-append h (Post s m ∷ []) ∙ append-nil (takes h)

dones_post : {M : Type 0} (h : List (Event M)) (s : ℕ) (m : M) → dones (h ++ Post s m ∷ []) ≡ dones h
dones_post h s m = dones-append h (Post s m ∷ []) ∙ append-nil (dones h)

posts_take : {M : Type 0} (h : List (Event M)) (s : ℕ) (m : M) → posts (h ++ Take s m ∷ []) ≡ posts h
posts_take h s m = posts-append h (Take s m ∷ []) ∙ append-nil (posts h)

dones_take : {M : Type 0} (h : List (Event M)) (s : ℕ) (m : M) → dones (h ++ Take s m ∷ []) ≡ dones h
dones_take h s m = dones-append h (Take s m ∷ []) ∙ append-nil (dones h)

posts_done : {M : Type 0} (h : List (Event M)) (t : ℕ) → posts (h ++ Done t ∷ []) ≡ posts h
posts_done h t = posts-append h (Done t ∷ []) ∙ append-nil (posts h)

takes_done : {M : Type 0} (h : List (Event M)) (t : ℕ) → takes (h ++ Done t ∷ []) ≡ takes h
takes_done h t = takes-append h (Done t ∷ []) ∙ append-nil (takes h)

-- a history with one more Post
history_post : {M : Type 0} (h : List (Event M)) (posted : List (ℕ × M)) (t o s : ℕ) (m : M) → HistoryCounts h posted t o
    → HistoryCounts (h ++ Post s m ∷ []) (posted ++ (s, m) ∷ []) t o
history_post h posted t o s m kept = record {
  legal = legal_push h (Post s m) kept.legal tt;
  all_posted = posts-append h (Post s m ∷ []) ∙ ap (λ l. l ++ (s, m) ∷ []) kept.all_posted;
  all_taken = ap length (takes_post h s m) ∙ kept.all_taken;
  all_open = kept.all_open ∙ ap (λ l. length l + o) (sym (dones_post h s m));
  once = subst (IsDistinct nat_eq) (sym (dones_post h s m)) kept.once;
  earlier = subst (λ l. (q : ℕ) → list_any (nat_eq q) l ≡ true → q < t) (sym (dones_post h s m)) kept.earlier;
}

-- with the Take of the oldest Post that was not taken
history_take : {M : Type 0} (h : List (Event M)) (posted : List (ℕ × M)) (t o s : ℕ) (m : M) → HistoryCounts h posted t o
    → slice_get posted t ≡ Some (s, m) → HistoryCounts (h ++ Take s m ∷ []) posted (t + 1) (o + 1)
history_take h posted t o s m kept here =
    let more : length (takes (h ++ Take s m ∷ [])) ≡ length (takes h) + 1 = ap length (takes-append h (Take s m ∷ []))
    ∙ length_push (takes h) (s, m) in
    record {
      legal = legal_push h (Take s m) kept.legal
          (subst (λ l. slice_get l (length (takes h)) ≡ Some (s, m)) (sym kept.all_posted)
          (subst (λ n. slice_get posted n ≡ Some (s, m)) (sym kept.all_taken) here));
      all_posted = posts_take h s m ∙ kept.all_posted;
      all_taken = omega (arith, more, kept.all_taken);
      all_open = omega (arith, ap length (dones_take h s m), kept.all_open);
      once = subst (IsDistinct nat_eq) (sym (dones_take h s m)) kept.once;
      earlier =
          subst (λ l. (q : ℕ) → list_any (nat_eq q) l ≡ true → q < t + 1) (sym (dones_take h s m)) (λ q e. omega (arith, kept.earlier q e));
    }

-- a number that is not in a list is not found there
pub not_found : (xs : List ℕ) (q : ℕ) → (Contains xs q → ⊥) → list_any (nat_eq q) xs ≡ false
not_found xs q fresh =
    elim (cases_Bool (list_any (nat_eq q) xs)) [ inl found ↦ absurd (fresh (Contains-from_any eqb-true q xs found)) | inr none ↦ none ]

-- what is found with one more at the end is found before, or is that one
found_push : (xs : List ℕ) (x q : ℕ) → list_any (nat_eq q) (xs ++ x ∷ []) ≡ true → (list_any (nat_eq q) xs ≡ true) ⊎ (q ≡ x)
found_push xs x q e =
    elim (or_cases (list_any (nat_eq q) xs) (list_any (nat_eq q) (x ∷ [])) (sym (list_any-append (nat_eq q) xs (x ∷ [])) ∙ e)) [
      | inl found ↦ inl found
      | inr last ↦ inr (elim (or_cases (nat_eq q x) false last) [ inl same ↦ eqb-true q x same | inr never ↦ absurd (false≢true never) ])
    ]

-- the numbers of completed Takes with one more
pub more_earlier : (xs : List ℕ) (t q : ℕ) → ((k : ℕ) → list_any (nat_eq k) xs ≡ true → k < t) → q < t → (k : ℕ)
    → list_any (nat_eq k) (xs ++ q ∷ []) ≡ true → k < t
more_earlier xs t q earlier old k e = elim (found_push xs q k e) [ inl found ↦ earlier k found | inr same ↦ omega (arith, same) ]

-- a Take that no Done names is open
some_open : {M : Type 0} (h : List (Event M)) (posted : List (ℕ × M)) (t o q : ℕ) → HistoryCounts h posted t o
    → q < length (takes h) → (Contains (dones h) q → ⊥) → 0 < o
some_open h posted t o q kept old fresh =
    let early : q < t = omega (arith, kept.all_taken) in
    let more =
    length-le_from_distinct_below (dones h ++ q ∷ []) t
    (IsDistinct-push nat_eq_equiv (dones h) q kept.once (not_found (dones h) q fresh))
    (more_earlier (dones h) t q kept.earlier early) in
    omega (arith, more, length_push (dones h) q, kept.all_open)

-- with the Done of an open Take
history_done : {M : Type 0} (h : List (Event M)) (posted : List (ℕ × M)) (t o q : ℕ) → HistoryCounts h posted t o
    → q < length (takes h) → (Contains (dones h) q → ⊥) → HistoryCounts (h ++ Done q ∷ []) posted t (o - 1)
history_done h posted t o q kept old fresh =
    let open_one : 0 < o = some_open h posted t o q kept old fresh in
    let early : q < t = omega (arith, kept.all_taken) in
    let names : dones (h ++ Done q ∷ []) ≡ dones h ++ q ∷ [] = dones-append h (Done q ∷ []) in
    let more : length (dones (h ++ Done q ∷ [])) ≡ length (dones h) + 1 = ap length names ∙ length_push (dones h) q in
    record {
      legal = legal_push h (Done q) kept.legal (old, fresh);
      all_posted = posts_done h q ∙ kept.all_posted;
      all_taken = ap length (takes_done h q) ∙ kept.all_taken;
      all_open = omega (arith, more, kept.all_open);
      once = subst (IsDistinct nat_eq) (sym names) (IsDistinct-push nat_eq_equiv (dones h) q kept.once (not_found (dones h) q fresh));
      earlier = subst (λ l. (k : ℕ) → list_any (nat_eq k) l ≡ true → k < t) (sym names) (more_earlier (dones h) t q kept.earlier early);
    }

-- ---- the steps

-- an element of a list is at its place with one more at the end
get_front : {X : Type 0} (xs : List X) (y : X) (i : ℕ) → i < length xs → slice_get (xs ++ y ∷ []) i ≡ slice_get xs i
get_front [] y i h = absurd (omega (arith, h))
get_front (x ∷ xs) y zero h = refl
get_front (x ∷ xs) y (suc i) h = get_front xs y i (omega (arith, h))

module _ {M : Type 0} where
  -- one more Post changes no event before it
  same_event : (posted : List (ℕ × M)) (p : ℕ × M) (s : NumberedEvent) → IsNumbered (length posted) s
      → event_of (posted ++ p ∷ []) s ≡ event_of posted s
  same_event posted p (kind.Post, number) h = ap post_of (get_front posted p number h)
  same_event posted p (kind.Take, number) h = ap take_of (get_front posted p number h)
  same_event posted p (kind.Done, number) h = refl

  same_events : (posted : List (ℕ × M)) (p : ℕ × M) (ss : List NumberedEvent) → AreNumbered (length posted) ss
      → events_of (posted ++ p ∷ []) ss ≡ events_of posted ss
  same_events posted p [] h = refl
  same_events posted p (s ∷ ss) h = ap₂ (λ x y. x ++ y) (same_event posted p s h.0) (same_events posted p ss h.1)

-- numbers below a count are below a greater one
number_below : (few many : ℕ) (s : NumberedEvent) → few ≤ many → IsNumbered few s → IsNumbered many s
number_below few many (kind.Post, number) le h = omega (arith, h)
number_below few many (kind.Take, number) le h = omega (arith, h)
number_below few many (kind.Done, number) le h = tt

numbers_below : (few many : ℕ) (ss : List NumberedEvent) → few ≤ many → AreNumbered few ss → AreNumbered many ss
numbers_below few many [] le h = tt
numbers_below few many (s ∷ ss) le h = (number_below few many s le h.0, numbers_below few many ss le h.1)

numbers_push : (count : ℕ) (ss : List NumberedEvent) (s : NumberedEvent) → AreNumbered count ss → IsNumbered count s
    → AreNumbered count (ss ++ s ∷ [])
numbers_push count [] s h new = (new, tt)
numbers_push count (x ∷ ss) s h new = (h.0, numbers_push count ss s h.1 new)

-- ---- the mailbox

-- an empty mailbox
pub counts_new : {M : Type 0} (capacity : ℕ) → MailboxCounts {M = M} [] [] capacity 0 0
unfolding IsDistinct
counts_new capacity = record {
  history = record {
    legal = λ i e h. cc;
    all_posted = refl;
    all_taken = refl;
    all_open = refl;
    once = tt;
    earlier = λ t h. cc;
  };
  numbered = tt;
  within = omega arith;
  few = omega arith;
  room = omega arith;
}

-- the events with one more step
pub posted_event : {M : Type 0} (posted : List (ℕ × M)) (ss : List NumberedEvent) (s : ℕ) (m : M) → AreNumbered (length posted) ss
    → events_of (posted ++ (s, m) ∷ []) (ss ++ (kind.Post, length posted) ∷ []) ≡ events_of posted ss ++ Post s m ∷ []
posted_event posted ss s m numbered =
    let all = posted ++ (s, m) ∷ [] in
    flat_map-append (event_of all) ss ((kind.Post, length posted) ∷ [])
    ∙ ap₂ (λ x y. x ++ (y ++ [])) (same_events posted (s, m) ss numbered)
    (ap post_of (at_seam posted (s, m) [] (length posted) refl))

pub taken_event : {M : Type 0} (posted : List (ℕ × M)) (ss : List NumberedEvent) (n s : ℕ) (m : M) → slice_get posted n ≡ Some (s, m)
    → events_of posted (ss ++ (kind.Take, n) ∷ []) ≡ events_of posted ss ++ Take s m ∷ []
taken_event posted ss n s m here =
    flat_map-append (event_of posted) ss ((kind.Take, n) ∷ []) ∙ ap (λ y. events_of posted ss ++ (take_of y ++ [])) here

pub done_event : {M : Type 0} (posted : List (ℕ × M)) (ss : List NumberedEvent) (q : ℕ)
    → events_of posted (ss ++ (kind.Done, q) ∷ []) ≡ events_of posted ss ++ Done q ∷ []
done_event posted ss q = flat_map-append (event_of posted) ss ((kind.Done, q) ∷ [])

-- a Post, if the room was reserved
pub counts_post : {M : Type 0} (posted : List (ℕ × M)) (ss : List NumberedEvent) (cap cap' t o s : ℕ) (m : M)
    → MailboxCounts posted ss cap t o → length posted < 2 ^ 32
    → length ss + ((length posted - t) + (length posted - t) + o + 3) ≤ cap'
    → MailboxCounts (posted ++ (s, m) ∷ []) (ss ++ (kind.Post, length posted) ∷ []) cap' t o
counts_post posted ss cap cap' t o s m kept short room =
    let more : length (posted ++ (s, m) ∷ []) ≡ length posted + 1 = length_push posted (s, m) in
    let long = length_push ss (kind.Post, length posted) in
    let all = length (posted ++ (s, m) ∷ []) in
    let last : IsNumbered all (kind.Post, length posted) = omega (arith, more) in
    record {
      history = subst (λ h. HistoryCounts h (posted ++ (s, m) ∷ []) t o) (sym (posted_event posted ss s m kept.numbered))
          (history_post (events_of posted ss) posted t o s m kept.history);
      numbered = numbers_push all ss (kind.Post, length posted)
          (numbers_below (length posted) all ss (omega (arith, more)) kept.numbered) last;
      within = omega (arith, more, kept.within);
      few = omega (arith, more, short);
      room = omega (arith, more, long, room, kept.within);
    }

-- the Take of the oldest Post that was not taken
pub counts_take : {M : Type 0} (posted : List (ℕ × M)) (ss : List NumberedEvent) (cap t o s : ℕ) (m : M) → MailboxCounts posted ss cap t o
    → slice_get posted t ≡ Some (s, m) → MailboxCounts posted (ss ++ (kind.Take, t) ∷ []) cap (t + 1) (o + 1)
counts_take posted ss cap t o s m kept here =
    let inside : t < length posted = slice_get_within posted t (s, m) here in
    let long = length_push ss (kind.Take, t) in
    record {
      history = subst (λ h. HistoryCounts h posted (t + 1) (o + 1)) (sym (taken_event posted ss t s m here))
          (history_take (events_of posted ss) posted t o s m kept.history here);
      numbered = numbers_push (length posted) ss (kind.Take, t) kept.numbered inside;
      within = omega (arith, inside);
      few = kept.few;
      room = omega (arith, long, inside, kept.room);
    }

-- the Done of an open Take
pub counts_done : {M : Type 0} (posted : List (ℕ × M)) (ss : List NumberedEvent) (cap t o q : ℕ) → MailboxCounts posted ss cap t o
    → q < length (takes (events_of posted ss)) → (Contains (dones (events_of posted ss)) q → ⊥)
    → MailboxCounts posted (ss ++ (kind.Done, q) ∷ []) cap t (o - 1)
counts_done posted ss cap t o q kept old fresh =
    let some = some_open (events_of posted ss) posted t o q kept.history old fresh in
    let long = length_push ss (kind.Done, q) in
    record {
      history = subst (λ h. HistoryCounts h posted t (o - 1)) (sym (done_event posted ss q))
          (history_done (events_of posted ss) posted t o q kept.history old fresh);
      numbered = numbers_push (length posted) ss (kind.Done, q) kept.numbered tt;
      within = kept.within;
      few = kept.few;
      room = omega (arith, long, some, kept.room);
    }

-- such a Take is open also in what the mailbox is in clauses
pub open_now : {M : Type 0} {posted : List (ℕ × M)} {ss : List NumberedEvent} {cap t o : ℕ} (h : List (Event M)) (q : ℕ)
    → MailboxCounts posted ss cap t o → events_of posted ss ≡ h → q < length (takes h) → (Contains (dones h) q → ⊥) → 0 < o
open_now {posted = posted} {t = t} {o = o} h q kept is =
    some_open h posted t o q (subst (λ l. HistoryCounts l posted t o) is kept.history)

-- the messages and steps of these lists, with more room
pub counts_fields : {M : Type 0} {posted : List (ℕ × M)} {ss : List NumberedEvent} {cap t o : ℕ} (ms : List M) (steps : List Step)
    (cap' : ℕ) → posted_of ms steps ≡ posted → map numbered_of steps ≡ ss → cap ≤ cap' → length posted ≡ length ms
    → MailboxCounts posted ss cap t o → FieldCounts ms steps cap' t o
counts_fields {posted = posted} {t = t} {o = o} ms steps cap' same events grown sent kept = record {
  counts = subst (λ l. MailboxCounts l (map numbered_of steps) cap' t o) (sym same)
      (subst (λ l. MailboxCounts posted l cap' t o) (sym events) (record {
        history = kept.history;
        numbered = kept.numbered;
        within = kept.within;
        few = kept.few;
        room = omega (arith, grown, kept.room);
      }));
  all_sent = ap length same ∙ sent;
}

-- ---- messages and steps

zip_none : {X Y : Type 0} (xs : List X) → zip {X = Y} xs [] ≡ []
zip_none [] = refl
zip_none (x ∷ xs) = refl

-- a message that has a sender has a step
pub enough_steps : {M : Type 0} (ms : List M) (ss : List Step) → length (posted_of ms ss) ≡ length ms → length ms ≤ length ss
enough_steps ms ss h = omega (arith, h, length-zip (map (λ s. s.sender) ss) ms, length-map ss (λ s. s.sender))

-- the Post of a number has the sender in the step of that number
pub posted_there : {M : Type 0} (ms : List M) (ss : List Step) (n : ℕ) (s : Step) (m : M) → slice_get ss n ≡ Some s
    → slice_get ms n ≡ Some m → slice_get (posted_of ms ss) n ≡ Some (s.sender, m)
posted_there ms [] n s m at here = absurd (none-some s at)
posted_there [] (x ∷ ss) n s m at here = absurd (none-some m here)
posted_there (y ∷ ms) (x ∷ ss) zero s m at here = ap₂ (λ a b. Some (a.sender, b)) (same_Some x s at) (same_Some y m here)
posted_there (y ∷ ms) (x ∷ ss) (suc n) s m at here = posted_there ms ss n s m at here

-- one more step has its event, and changes no Post
step_changes_none : {M : Type 0} (ms : List M) (ss : List Step) (x : Step) → length ms ≤ length ss
    → posted_of ms (ss ++ x ∷ []) ≡ posted_of ms ss
step_changes_none [] ss x h = zip_none _ ∙ sym (zip_none _)
step_changes_none (m ∷ ms) [] x h = absurd (omega (arith, h))
step_changes_none (m ∷ ms) (s ∷ ss) x h = ap (λ l. (s.sender, m) ∷ l) (step_changes_none ms ss x (omega (arith, h)))

pub step_more : {M : Type 0} (ms : List M) (ss ss' : List Step) (x : Step) (e : NumberedEvent) → length (posted_of ms ss) ≡ length ms
    → ss' ≡ ss ++ x ∷ [] → numbered_of x ≡ e
    → (posted_of ms ss' ≡ posted_of ms ss) × (map numbered_of ss' ≡ map numbered_of ss ++ e ∷ [])
step_more ms ss ss' x e sent new is = (
  ap (posted_of ms) new ∙ step_changes_none ms ss x (enough_steps ms ss sent),
  ap (map numbered_of) new ∙ map-append numbered_of ss (x ∷ []) ∙ ap (λ y. map numbered_of ss ++ y ∷ []) is,
)

-- one more message, with its sender in the step of its number
message_joins : {M : Type 0} (ms : List M) (ss : List Step) (m : M) (s : Step) → length ms < length ss
    → posted_of (ms ++ m ∷ []) (set ss (length ms) s) ≡ posted_of ms ss ++ (s.sender, m) ∷ []
message_joins ms [] m s h = absurd (omega (arith, h))
message_joins [] (x ∷ ss) m s h = ap (λ l. (s.sender, m) ∷ l) (zip_none _)
message_joins (y ∷ ms) (x ∷ ss) m s h = ap (λ l. (x.sender, y) ∷ l) (message_joins ms ss m s (omega (arith, h)))

-- one more step, and then one more message, whose sender goes into the step `now`
pub message_more : {M : Type 0} (ms ms' : List M) (ss pushed : List Step) (x now s : Step) (m : M) (n : ℕ) (e : NumberedEvent)
    → length (posted_of ms ss) ≡ length ms → ms' ≡ ms ++ m ∷ [] → pushed ≡ ss ++ x ∷ [] → n ≡ length ms → numbered_of x ≡ e
    → now ≡ get_or pushed n now → numbered_of s ≡ numbered_of now
    → (posted_of ms' (set pushed n s) ≡ posted_of ms ss ++ (s.sender, m) ∷ [])
    × (map numbered_of (set pushed n s) ≡ map numbered_of ss ++ e ∷ [])
message_more ms ms' ss pushed x now s m n e sent messages new last is read same =
    let more = step_more ms ss pushed x e sent new is in
    let room : length ms < length pushed = omega (arith, ap length new, length_push ss x, enough_steps ms ss sent) in (
      ap₂ (λ l k. posted_of l (set pushed k s)) messages last ∙ message_joins ms pushed m s room
          ∙ ap (λ l. l ++ (s.sender, m) ∷ []) more.0,
      map-set_same numbered_of pushed n s now (same ∙ ap numbered_of read) ∙ more.1,
    )

-- ---- the event of a number

-- what was read at a place of the steps is the numbered event of that place
pub read_there : (steps read : List Step) (i : ℕ) (s : Step) (e : NumberedEvent) → read ≡ steps → true ≡ ltb i (length read)
    → s ≡ get_or read i s → numbered_of s ≡ e → slice_get (map numbered_of steps) i ≡ Some e
read_there steps read i s e same inside here is =
    slice_get-map numbered_of steps i
    ∙ ap (option_map numbered_of) (subst (λ l. slice_get l i ≡ Some s) same
    (slice_get_read read (length read) i s refl (ltb-true i (length read) (sym inside)) here))
    ∙ ap Some is

-- a numbered step is one event
pub one_event : {M : Type 0} (posted : List (ℕ × M)) (s : NumberedEvent) → IsNumbered (length posted) s
    → (e : Event M) × (event_of posted s ≡ e ∷ [])
one_event posted (kind.Post, number) h = let (p, at) = element_at posted number h in (Post p.0 p.1, ap post_of at)
one_event posted (kind.Take, number) h = let (p, at) = element_at posted number h in (Take p.0 p.1, ap take_of at)
one_event posted (kind.Done, number) h = (Done number, refl)

-- as many events as steps
pub as_many : {M : Type 0} (posted : List (ℕ × M)) (ss : List NumberedEvent) → AreNumbered (length posted) ss
    → length (events_of posted ss) ≡ length ss
as_many posted [] h = refl
as_many posted (s ∷ ss) h =
    let (e, one) = one_event posted s h.0 in
    ap (λ l. length (l ++ events_of posted ss)) one ∙ ap suc (as_many posted ss h.1)

-- the number of a step of a list is below the count
pub number_there : (count : ℕ) (ss : List NumberedEvent) (i : ℕ) (s : NumberedEvent) → AreNumbered count ss → slice_get ss i ≡ Some s
    → IsNumbered count s
number_there count [] i s h at = absurd (none-some s at)
number_there count (x ∷ ss) zero s h at = subst (IsNumbered count) (same_Some x s at) h.0
number_there count (x ∷ ss) (suc i) s h at = number_there count ss i s h.1 at

-- the event of the step with a number is the event with that number
pub event_there : {M : Type 0} (posted : List (ℕ × M)) (ss : List NumberedEvent) (i : ℕ) (s : NumberedEvent) (e : Event M)
    → AreNumbered (length posted) ss → slice_get ss i ≡ Some s → event_of posted s ≡ e ∷ []
    → slice_get (events_of posted ss) i ≡ Some e
event_there posted [] i s e h at is = absurd (none-some s at)
event_there posted (x ∷ ss) zero s e h at is =
    ap (λ l. slice_get (l ++ events_of posted ss) 0) (ap (event_of posted) (same_Some x s at) ∙ is)
event_there posted (x ∷ ss) (suc i) s e h at is =
    let (f, one) = one_event posted x h.0 in
    ap (λ l. slice_get (l ++ events_of posted ss) (suc i)) one ∙ event_there posted ss i s e h.1 at is
