-- How an order grows, and what its counts say of its histories.
use Rattle.std.proofs.Common.{◌≡◌, ◌≢◌, inl, inr, ℕ, zero, suc, ◌+◌, ◌*◌, ◌<◌, ◌≤◌, eqb, cond, Bool, true, false, List, [], ◌∷◌, ◌++◌, Some}
use Rattle.std.proofs.Common.{length, take, slice_get, Contains, nat_eq, refl, sym, ap, ◌∙◌, subst, arith, eq-eqb, ne_eqb}
use Rattle.std.specs.Prelude.{◌↔◌}
use Rattle.std.proofs.lemmas.List.{append-nil, length_push, take-append-le, take_at}
use Rattle.std.proofs.lemmas.Option.{slice_get_within}
use Rattle.std.proofs.lemmas.Bool.{cases_eq, cases_lt}
use Rattle.std.proofs.Math.Seq.{take-length}
use Rattle.std.specs.List.{IsDistinct, list_any}
use Rattle.std.specs.Cmp.{nat_eq_equiv}
use Rattle.std.proofs.lemmas.Map.Keys.{IsDistinct-push}
use Rattle.std.proofs.lemmas.Map.Steps.{length-le_from_distinct_below}
use Rattle.post_ledger.specs.declared.event.Event.{Event}
use Rattle.post_ledger.specs.declared.event.Event.TheVariants.{Post, Take, Done}
use Rattle.post_ledger.specs.declared.entry.Entry.{Entry}
use Rattle.post_ledger.specs.declared.entry.Entry.TheVariants.{Posted, Taken, Completed}
use Rattle.post_ledger.specs.History.{posts, takes, dones, MayFollow, IsLegal}
use Rattle.post_ledger.specs.Orders.{mailbox_of, event_of, maker_of, part, own, posted, completed, HasJob, IsLawful, IsCompleted, IsClosed}
use Rattle.post_ledger.proofs.Histories.{posts-append, takes-append, dones-append, at_push_cases, legal_push, split_at_element, at_seam}
use Rattle.post_ledger.proofs.Keeping.{not_found, more_earlier}
pub use Rattle.post_ledger.proofs.Histories.{element_at}

-- the first element of a list that is kept or not stays in front of what is appended
front_kept : {X : Type 0} (b : Bool) (x : X) (l m r : List X) → r ≡ l ++ m → cond b (x ∷ r) r ≡ cond b (x ∷ l) l ++ m
front_kept true x l m r e = ap (λ t. x ∷ t) e
front_kept false x l m r e = e

module _ {M : Type 0} where
  pub part-append : (q : ℕ) (a b : List (Entry M)) → part q (a ++ b) ≡ part q a ++ part q b
  part-append q [] b = refl
  part-append q (e ∷ a) b = front_kept (eqb (mailbox_of e) q) (event_of e) (part q a) (part q b) (part q (a ++ b)) (part-append q a b)

  pub own-append : (p : ℕ) (a b : List (Entry M)) → own p (a ++ b) ≡ own p a ++ own p b
  own-append p [] b = refl
  own-append p (e ∷ a) b = front_kept (eqb (maker_of e) p) e (own p a) (own p b) (own p (a ++ b)) (own-append p a b)

  pub posted-append : (a b : List (Entry M)) → posted (a ++ b) ≡ posted a + posted b
  posted-append [] b = omega arith
  posted-append (e ∷ a) b = omega (arith, posted-append a b)

  pub completed-append : (a b : List (Entry M)) → completed (a ++ b) ≡ completed a + completed b
  completed-append [] b = omega arith
  completed-append (e ∷ a) b = omega (arith, completed-append a b)

  -- an entry is in the history of its mailbox
  pub part_here : (q : ℕ) (e : Entry M) (es : List (Entry M)) → mailbox_of e ≡ q → part q (e ∷ es) ≡ event_of e ∷ part q es
  part_here q e es is = rw (eq-eqb (mailbox_of e) q is) refl

  -- and in no other
  pub part_else : (q : ℕ) (e : Entry M) (es : List (Entry M)) → mailbox_of e ≢ q → part q (e ∷ es) ≡ part q es
  part_else q e es ne = rw (ne_eqb (mailbox_of e) q ne) refl

  pub own_here : (p : ℕ) (e : Entry M) (es : List (Entry M)) → maker_of e ≡ p → own p (e ∷ es) ≡ e ∷ own p es
  own_here p e es is = rw (eq-eqb (maker_of e) p is) refl

  pub own_else : (p : ℕ) (e : Entry M) (es : List (Entry M)) → maker_of e ≢ p → own p (e ∷ es) ≡ own p es
  own_else p e es ne = rw (ne_eqb (maker_of e) p ne) refl

  -- What the counts of a legal history are: no more Takes than Posts, each Take completed at most once, and none
  -- that does not exist.
  pub record Sizes (h : List (Event M)) : Type 0 where
    pub fewer : length (takes h) ≤ length (posts h)
    pub once : IsDistinct nat_eq (dones h)
    pub earlier : (t : ℕ) → list_any (nat_eq t) (dones h) ≡ true → t < length (takes h)

  pub dones_few : (h : List (Event M)) → Sizes h → length (dones h) ≤ length (takes h)
  dones_few h s = length-le_from_distinct_below (dones h) (length (takes h)) s.once s.earlier

  -- a Take that is not completed makes the Dones fewer
  pub dones_fewer : (h : List (Event M)) (t : ℕ) → Sizes h → t < length (takes h) → (Contains (dones h) t → ⊥)
      → length (dones h) < length (takes h)
  dones_fewer h t s old fresh =
      let more =
      length-le_from_distinct_below (dones h ++ t ∷ []) (length (takes h))
      (IsDistinct-push nat_eq_equiv (dones h) t s.once (not_found (dones h) t fresh))
      (more_earlier (dones h) (length (takes h)) t s.earlier old) in
      omega (arith, more, length_push (dones h) t)

  pub sizes_push : (h : List (Event M)) (e : Event M) → Sizes h → MayFollow h e → Sizes (h ++ e ∷ [])
  sizes_push h (Post s m) z may =
      let taken = takes-append h (Post s m ∷ []) ∙ append-nil (takes h) in
      let done = dones-append h (Post s m ∷ []) ∙ append-nil (dones h) in record {
        fewer = omega (arith, ap length taken, ap length (posts-append h (Post s m ∷ [])), length_push (posts h) (s, m), z.fewer);
        once = subst (IsDistinct nat_eq) (sym done) z.once;
        earlier = λ t found. omega (arith, z.earlier t (subst (λ l. list_any (nat_eq t) l ≡ true) done found), ap length taken);
      }
  sizes_push h (Take s m) z may =
      let taken = takes-append h (Take s m ∷ []) in
      let done = dones-append h (Take s m ∷ []) ∙ append-nil (dones h) in
      let longer = length_push (takes h) (s, m) in record {
        fewer =
            omega (
              arith,
              slice_get_within (posts h) (length (takes h)) (s, m) may,
              ap length taken,
              longer,
              ap length (posts-append h (Take s m ∷ []) ∙ append-nil (posts h)),
            );
        once = subst (IsDistinct nat_eq) (sym done) z.once;
        earlier = λ t found. omega (arith, z.earlier t (subst (λ l. list_any (nat_eq t) l ≡ true) done found), ap length taken, longer);
      }
  sizes_push h (Done q) z may =
      let taken = takes-append h (Done q ∷ []) ∙ append-nil (takes h) in
      let done = dones-append h (Done q ∷ []) in record {
        fewer = omega (arith, ap length taken, ap length (posts-append h (Done q ∷ []) ∙ append-nil (posts h)), z.fewer);
        once = subst (IsDistinct nat_eq) (sym done) (IsDistinct-push nat_eq_equiv (dones h) q z.once (not_found (dones h) q may.1));
        earlier = λ t found. omega (
          arith,
          more_earlier (dones h) (length (takes h)) q z.earlier may.0 t (subst (λ l. list_any (nat_eq t) l ≡ true) done found),
          ap length taken,
        );
      }

  pub sizes_to : (h : List (Event M)) → IsLegal h → (n : ℕ) → n ≤ length h → Sizes (take n h)
  sizes_to h legal zero le = record { fewer = omega arith; once = unfold IsDistinct in tt; earlier = λ t found. cc }
  sizes_to h legal (suc n) le =
      let at = element_at h n (omega arith) in
      let parts = split_at_element h n at.0 at.1 in
      subst Sizes (sym parts.2) (sizes_push (take n h) at.0 (sizes_to h legal n (omega arith)) (legal n at.0 at.1))

  pub sizes_of : (h : List (Event M)) → IsLegal h → Sizes h
  sizes_of h legal = subst Sizes (take-length h) (sizes_to h legal (length h) (omega arith))

  -- what an entry needs to come after an order: its mailbox, that its event may follow there, and a Post its job
  abbrev pub UnderJob : List (Entry M) → Entry M → Type 0
  UnderJob order (Posted to s m t) = HasJob s t order
  UnderJob order (Taken of s m) = Unit {0}
  UnderJob order (Completed of t) = Unit {0}

  pub lawful_push : (boxes : ℕ) (order : List (Entry M)) (e : Entry M) → IsLawful boxes order → mailbox_of e < boxes
      → MayFollow (part (mailbox_of e) order) (event_of e) → UnderJob order e → IsLawful boxes (order ++ e ∷ [])
  lawful_push boxes order e law short may under = record {
    opens = (law.opens.0, law.opens.1, law.opens.2 ++ e ∷ [], ap (λ l. l ++ e ∷ []) law.opens.3);
    inside =
        λ i x at.
        elim (at_push_cases order e x i at) [ inl old ↦ law.inside i x old | inr last ↦ subst (λ y. mailbox_of y < boxes) last.1 short ];
    legal = λ q. elim (cases_eq (mailbox_of e) q) [
      | inl same ↦
          subst IsLegal (sym (part-append q order (e ∷ []) ∙ ap (λ l. part q order ++ l) (part_here q e [] same)))
          (legal_push (part q order) (event_of e) (law.legal q) (subst (λ k. MayFollow (part k order) (event_of e)) same may))
      | inr other ↦
          subst IsLegal
          (sym (part-append q order (e ∷ []) ∙ (ap (λ l. part q order ++ l) (part_else q e [] other) ∙ append-nil (part q order))))
          (law.legal q)
    ];
    jobs = λ i to s m t later at. elim (at_push_cases order e (Posted to s m t) i at) [
      | inl old ↦
          (let few : i ≤ length order = omega (arith, slice_get_within order i (Posted to s m t) old) in
          subst (λ l. HasJob s t l) (sym (take-append-le i order (e ∷ []) few)) (law.jobs i to s m t later old))
      | inr last ↦ subst (λ l. HasJob s t l) (sym (take_at order (e ∷ []) i (sym last.0))) (subst (UnderJob order) last.1 under)
    ];
  }

  -- the opening post alone
  pub lawful_open : (boxes to : ℕ) (m : M) → to < boxes → IsLawful boxes (Posted to boxes m 0 ∷ [])
  lawful_open boxes to m short = record {
    opens = (to, m, [], refl);
    inside = λ i e at. only_one i e at (λ x. mailbox_of x < boxes) short;
    legal = λ q. elim (cases_eq to q) [
      | inl same ↦
          subst IsLegal (sym (part_here q (Posted to boxes m 0) [] same))
          (λ i e at.
          elim (at_push_cases [] (Post boxes m) e i at) [
            | inl none ↦ cc
            | inr last ↦ subst (λ x. MayFollow (take i (Post boxes m ∷ [])) x) last.1 tt
          ])
      | inr other ↦ subst IsLegal (sym (part_else q (Posted to boxes m 0) [] other)) (λ i e at. cc)
    ];
    jobs =
        λ i to' s m' t later at.
        elim (at_push_cases [] (Posted to boxes m 0) (Posted to' s m' t) i at) [
          | inl none ↦ cc
          | inr last ↦ absurd (omega (arith, last.0))
        ];
  }
    where
      only_one : (i : ℕ) (e : Entry M) → slice_get (Posted to boxes m 0 ∷ []) i ≡ Some e → (P : Entry M → Type 0) → P (Posted to boxes m 0)
          → P e
      only_one i e at P here = elim (at_push_cases [] (Posted to boxes m 0) e i at) [ inl none ↦ cc | inr last ↦ subst P last.1 here ]

-- the numbers below n, each with its value, added up
abbrev pub sum_to : (ℕ → ℕ) → ℕ → ℕ
sum_to f zero = 0
sum_to f (suc n) = f n + sum_to f n

pub sum_same : (f g : ℕ → ℕ) (n : ℕ) → ((i : ℕ) → i < n → f i ≡ g i) → sum_to f n ≡ sum_to g n
sum_same f g zero same = refl
sum_same f g (suc n) same = omega (arith, same n (omega arith), sum_same f g n (λ i h. same i (omega arith)))

pub sum_le : (f g : ℕ → ℕ) (n : ℕ) → ((i : ℕ) → i < n → f i ≤ g i) → sum_to f n ≤ sum_to g n
sum_le f g zero le = omega arith
sum_le f g (suc n) le = omega (arith, le n (omega arith), sum_le f g n (λ i h. le i (omega arith)))

-- if one value is k more and the others are the same, the sum is k more
pub sum_more : (f g : ℕ → ℕ) (m k n : ℕ) → m < n → f m ≡ k + g m → ((i : ℕ) → i ≢ m → f i ≡ g i) → sum_to f n ≡ k + sum_to g n
sum_more f g m k zero short here else = absurd (omega arith)
sum_more f g m k (suc n) short here else = elim (cases_eq n m) [
  | inl same ↦
      (let top : f n ≡ k + g n = subst (λ j. f j ≡ k + g j) (sym same) here in
      omega (arith, top, sum_same f g n (λ i h. else i (λ e. omega arith))))
  | inr other ↦ (let below : m < n = omega arith in omega (arith, else n other, sum_more f g m k n below here else))
]

-- if no value is above and the sums are the same, each value is
pub sum_tight : (f g : ℕ → ℕ) (n i : ℕ) → ((j : ℕ) → j < n → f j ≤ g j) → sum_to f n ≡ sum_to g n → i < n → f i ≡ g i
sum_tight f g zero i le same short = absurd (omega arith)
sum_tight f g (suc n) i le same short = elim (cases_eq i n) [
  | inl last ↦
      (let less = sum_le f g n (λ j h. le j (omega arith)) in let top = le n (omega arith) in let e : f n ≡ g n = omega arith in
      subst (λ j. f j ≡ g j) (sym last) e)
  | inr other ↦
      (let less = sum_le f g n (λ j h. le j (omega arith)) in let top = le n (omega arith) in
      sum_tight f g n i (λ j h. le j (omega arith)) (omega arith) (omega arith))
]

-- if no value is above and one is below, so is the sum
pub sum_less : (f g : ℕ → ℕ) (n k : ℕ) → ((i : ℕ) → i < n → f i ≤ g i) → k < n → f k < g k → sum_to f n < sum_to g n
sum_less f g zero k le short less = absurd (omega arith)
sum_less f g (suc n) k le short less = elim (cases_eq k n) [
  | inl last ↦ (let top : f n < g n = subst (λ j. f j < g j) last less in omega (arith, sum_le f g n (λ i h. le i (omega arith))))
  | inr other ↦
      (let below : k < n = omega arith in omega (arith, le n (omega arith), sum_less f g n k (λ i h. le i (omega arith)) below less))
]

pub sum_thrice : (f : ℕ → ℕ) (n : ℕ) → sum_to (λ i. 3 * f i) n ≡ 3 * sum_to f n
sum_thrice f zero = refl
sum_thrice f (suc n) = omega (arith, sum_thrice f n)

module _ {M : Type 0} where
  -- a history has a count of its own kind: each event's, added up
  pub split_count : (f : List (Event M) → ℕ) → ((e : Event M) (h : List (Event M)) → f (e ∷ h) ≡ f (e ∷ []) + f h) → f [] ≡ 0
      → (count : List (Entry M) → ℕ) → count [] ≡ 0
      → ((e : Entry M) (es : List (Entry M)) → count (e ∷ es) ≡ f (event_of e ∷ []) + count es)
      → (boxes : ℕ) (order : List (Entry M)) → ((i : ℕ) (e : Entry M) → slice_get order i ≡ Some e → mailbox_of e < boxes)
      → count order ≡ sum_to (λ q. f (part q order)) boxes
  split_count f cons none count count_none count_cons boxes [] inside = count_none
      ∙ sym (sum_same (λ q. f []) (λ q. 0) boxes (λ i h. none) ∙ zeros boxes)
    where
      zeros : (n : ℕ) → sum_to (λ q. 0) n ≡ 0
      zeros zero = refl
      zeros (suc n) = omega (arith, zeros n)
  split_count f cons none count count_none count_cons boxes (e ∷ es) inside =
      let rest = split_count f cons none count count_none count_cons boxes es (λ i x at. inside (suc i) x at) in
      let more =
      sum_more (λ q. f (part q (e ∷ es))) (λ q. f (part q es)) (mailbox_of e) (f (event_of e ∷ [])) boxes (inside 0 e refl)
      (ap f (part_here (mailbox_of e) e es refl) ∙ cons (event_of e) (part (mailbox_of e) es))
      (λ i ne. ap f (part_else i e es (λ h. ne (sym h)))) in
      omega (arith, rest, more, count_cons e es)

  posts_cons : (e : Event M) (h : List (Event M)) → length (posts (e ∷ h)) ≡ length (posts (e ∷ [])) + length (posts h)
  posts_cons (Post s m) h = omega arith
  posts_cons (Take s m) h = omega arith
  posts_cons (Done t) h = omega arith

  dones_cons : (e : Event M) (h : List (Event M)) → length (dones (e ∷ h)) ≡ length (dones (e ∷ [])) + length (dones h)
  dones_cons (Post s m) h = omega arith
  dones_cons (Take s m) h = omega arith
  dones_cons (Done t) h = omega arith

  pub posted_is : (boxes : ℕ) (order : List (Entry M)) → IsLawful boxes order
      → posted order ≡ sum_to (λ q. length (posts (part q order))) boxes
  posted_is boxes order law = split_count (λ h. length (posts h)) posts_cons refl posted refl (λ e es. refl) boxes order law.inside

  pub completed_is : (boxes : ℕ) (order : List (Entry M)) → IsLawful boxes order
      → completed order ≡ sum_to (λ q. length (dones (part q order))) boxes
  completed_is boxes order law = split_count (λ h. length (dones h)) dones_cons refl completed refl (λ e es. refl) boxes order law.inside

  -- no mailbox has a number that is not below theirs
  part_outside : (q boxes : ℕ) (order : List (Entry M)) → boxes ≤ q
      → ((i : ℕ) (e : Entry M) → slice_get order i ≡ Some e → mailbox_of e < boxes) → part q order ≡ []
  part_outside q boxes [] far inside = refl
  part_outside q boxes (e ∷ es) far inside =
      let near = inside 0 e refl in
      part_else q e es (λ same. omega arith) ∙ part_outside q boxes es far (λ i x at. inside (suc i) x at)

  pub counted_closed : (boxes : ℕ) (order : List (Entry M)) → IsLawful boxes order → (posted order ≡ completed order) ↔ IsClosed order
  counted_closed boxes order law = (
    (λ same q. elim (cases_lt q boxes) [
      | inl near ↦ (
          let z = sizes_of (part q order) (law.legal q) in
          let few = dones_few (part q order) z in
          let e = sum_tight (λ k. length (dones (part k order))) (λ k. length (posts (part k order))) boxes q
          (λ k h. let y = sizes_of (part k order) (law.legal k) in omega (arith, dones_few (part k order) y, y.fewer))
          (sym (completed_is boxes order law) ∙ (sym same ∙ posted_is boxes order law)) near in
          (omega (arith, z.fewer), omega (arith, z.fewer)))
      | inr far ↦ subst IsCompleted (sym (part_outside q boxes order far law.inside)) (refl, refl)
    ]),
    λ closed. posted_is boxes order law
        ∙ (sum_same (λ q. length (posts (part q order))) (λ q. length (dones (part q order))) boxes (λ q h. (closed q).0 ∙ (closed q).1)
        ∙ sym (completed_is boxes order law)),
  )

  -- nobody has a job if the order is closed
  pub no_job : (boxes : ℕ) (order : List (Entry M)) (p t : ℕ) → IsLawful boxes order → IsClosed order → HasJob p t order → ⊥
  no_job boxes order p t law closed job =
      let fewer = dones_fewer (part p order) t (sizes_of (part p order) (law.legal p)) job.0 job.1 in
      let all = (closed p).1 in
      omega arith

  -- nothing may come after a closed order
  nothing_may : (boxes : ℕ) (order : List (Entry M)) (e : Entry M) → IsLawful boxes order → IsClosed order
      → MayFollow (part (mailbox_of e) order) (event_of e) → UnderJob order e → ⊥
  nothing_may boxes order (Posted to s m t) law closed may under = no_job boxes order s t law closed under
  nothing_may boxes order (Taken of s m) law closed may under =
      (let inside = slice_get_within (posts (part of order)) (length (takes (part of order))) (s, m) may in let all = (closed of).0 in
      omega arith)
  nothing_may boxes order (Completed of t) law closed may under = no_job boxes order of t law closed may

  -- an entry of a lawful order may come after those before it
  pub entry_may : (boxes : ℕ) (order rest : List (Entry M)) (e : Entry M) → IsLawful boxes (order ++ e ∷ rest) → 0 < length order
      → MayFollow (part (mailbox_of e) order) (event_of e) × UnderJob order e
  entry_may boxes order rest e law later =
      let q : ℕ = mailbox_of e in
      let whole : part q (order ++ e ∷ rest) ≡ part q order ++ event_of e ∷ part q rest = part-append q order (e ∷ rest)
      ∙ ap (λ l. part q order ++ l) (part_here q e rest refl) in
      let at : slice_get (part q (order ++ e ∷ rest)) (length (part q order)) ≡ Some (event_of e) =
      subst (λ l. slice_get l (length (part q order)) ≡ Some (event_of e)) (sym whole)
      (at_seam (part q order) (event_of e) (part q rest) (length (part q order)) refl) in
      let before : take (length (part q order)) (part q (order ++ e ∷ rest)) ≡ part q order = ap (take (length (part q order))) whole
      ∙ take_at (part q order) (event_of e ∷ part q rest) (length (part q order)) refl in (
        subst (λ l. MayFollow l (event_of e)) before (law.legal q (length (part q order)) (event_of e) at),
        job e
            (λ to s m t is.
            subst (λ l. HasJob s t l) (take_at order (e ∷ rest) (length order) refl)
            (law.jobs (length order) to s m t later (at_seam order e rest (length order) refl ∙ ap Some is))),
      )
    where
      job : (x : Entry M) → ((to s : ℕ) (m : M) (t : ℕ) → x ≡ Posted to s m t → HasJob s t order) → UnderJob order x
      job (Posted to s m t) has = has to s m t refl
      job (Taken of s m) has = tt
      job (Completed of t) has = tt

  pub nothing_follows : (boxes : ℕ) (order rest : List (Entry M)) → IsLawful boxes order → IsClosed order → IsLawful boxes (order ++ rest)
      → rest ≡ []
  nothing_follows boxes order [] law closed longer = refl
  nothing_follows boxes order (e ∷ rest) law closed longer =
      let some_of : 0 < length order = omega (arith, ap length law.opens.3) in
      let may = entry_may boxes order rest e longer some_of in
      absurd (nothing_may boxes order e law closed may.0 may.1)

  -- an event is a Post, a Take or a Done
  events_are : (h : List (Event M)) → length h ≡ length (posts h) + length (takes h) + length (dones h)
  events_are [] = refl
  events_are (Post s m ∷ h) = omega (arith, events_are h)
  events_are (Take s m ∷ h) = omega (arith, events_are h)
  events_are (Done t ∷ h) = omega (arith, events_are h)

  length_is : (boxes : ℕ) (order : List (Entry M)) → IsLawful boxes order → length order ≡ sum_to (λ q. length (part q order)) boxes
  length_is boxes order law = split_count length (λ e h. omega arith) refl length refl (λ e es. omega arith) boxes order law.inside

  thrice_is : (boxes : ℕ) (order : List (Entry M)) → IsLawful boxes order
      → 3 * posted order ≡ sum_to (λ q. 3 * length (posts (part q order))) boxes
  thrice_is boxes order law = omega (arith, posted_is boxes order law, sum_thrice (λ q. length (posts (part q order))) boxes)

  history_short : (boxes : ℕ) (order : List (Entry M)) → IsLawful boxes order → (q : ℕ)
      → length (part q order) ≤ 3 * length (posts (part q order))
  history_short boxes order law q = let z = sizes_of (part q order) (law.legal q) in
      omega (arith, events_are (part q order), dones_few (part q order) z, z.fewer)

  -- each Post has two more events at most
  pub order_short : (boxes : ℕ) (order : List (Entry M)) → IsLawful boxes order → length order ≤ 3 * posted order
  order_short boxes order law =
      omega (
        arith,
        length_is boxes order law,
        thrice_is boxes order law,
        sum_le (λ q. length (part q order)) (λ q. 3 * length (posts (part q order))) boxes (λ q h. history_short boxes order law q),
      )

  -- and fewer, if a mailbox has a Post that is not taken, or a Take that is not completed
  pub order_shorter : (boxes : ℕ) (order : List (Entry M)) (q : ℕ) → IsLawful boxes order → q < boxes
      → length (dones (part q order)) < length (posts (part q order)) → length order < 3 * posted order
  order_shorter boxes order q law short owes =
      let z = sizes_of (part q order) (law.legal q) in
      let less : length (part q order) < 3 * length (posts (part q order)) =
      omega (arith, events_are (part q order), dones_few (part q order) z, z.fewer) in
      omega (
        arith,
        length_is boxes order law,
        thrice_is boxes order law,
        sum_less (λ q. length (part q order)) (λ q. 3 * length (posts (part q order))) boxes q
            (λ k h. history_short boxes order law k) short less,
      )

  -- whoever has a job has a mailbox
  pub job_inside : (boxes : ℕ) (order : List (Entry M)) (p t : ℕ) → IsLawful boxes order → HasJob p t order → p < boxes
  job_inside boxes order p t law job = elim (cases_lt p boxes) [
    | inl near ↦ near
    | inr far ↦
        (let none : length (takes (part p order)) ≡ 0 = ap (λ h. length (takes h)) (part_outside p boxes order far law.inside) in
        absurd (omega (arith, job.0)))
  ]
