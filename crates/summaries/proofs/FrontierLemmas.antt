-- How path edges and those pending grow, step by step.
use Rattle.std.specs.Bool.{IsTrue, OnFalse}
use Rattle.std.specs.Result.{IsErrAnd, OnOk}
use Rattle.std.proofs.Common.{Option, Some, None, ◌≤◌, eq-or-lt_of_le, ◌≡◌, Bool, true, false, true≢false, List, [], ◌∷◌}
use Rattle.std.proofs.Common.{◌++◌, ◌⊎◌, inl, inr, sym, ap, subst, ◌∙◌, ℕ, zero, suc, ◌+◌, Result, Ok, Err, length}
use Rattle.std.proofs.Common.{if◌then◌else◌, arith, length-append, ◌<◌, ◌↔◌, nat_lt, refl, take, get_or}
use Rattle.std.proofs.Math.Seq.{take-length}
use Rattle.summaries.proofs.Eaches.{each_left, each_last, each_or_last, each_at, each_until}
use Rattle.std.proofs.lemmas.Bool.{ltb-true, ltb-false}
use Rattle.std.proofs.lemmas.Result.{IfOk-weaker}
use Rattle.std.proofs.lemmas.Option.{same_Some}
use Rattle.std.proofs.lemmas.List.{take_more}
use Rattle.language.specs.Lists.{Member}
use Rattle.language.proofs.Members.{member_left, member_right}
use Rattle.path_sets.specs.Triples.{Triple, triple}
use Rattle.summaries.specs.declared.edge.PathEdge.{PathEdge}
use Rattle.flow_graph.specs.Flows.{last_of, next_of}
use Rattle.flow_graph.specs.declared.flow.Flow.{Flow}
use Rattle.summaries.specs.declared.table_fault.TableFault.{TableFault}
use Rattle.summaries.specs.declared.table_fault.TableFault.TheVariants.{Memory, EdgeLimit}
use Rattle.summaries.specs.Grows.{Grows, Adds, OfSome, IsAt, IsFoundBy, IsOtherBefore, IsOther, IsNext, triple_of, edge_of}
use Rattle.path_sets.proofs.PlaceLemmas.{last_or}

-- an edge that was there adds nothing
pub known : (e : PathEdge) (old new : List Triple) (before : List PathEdge) (answer : Bool) → answer ≡ false
    → OnFalse answer (Member (triple_of e) old) →
    ((t : Triple) → (Member t new → (t ≡ triple_of e) ⊎ Member t old) × ((t ≡ triple_of e) ⊎ Member t old → Member t new))
    → length new ≡ length old + (if answer then 1 else 0) → Grows (λ t. t ≡ triple_of e) old new before before
known e old new before true is there members longer = absurd (true≢false is)
known e old new before false is there members longer = record {
  all = λ t w. (members t).1 (inl w);
  kept = λ t m. (members t).1 (inr m);
  only = λ t m. (members t).0 m;
  stays = λ x m. m;
  pending = λ t m. inl (elim ((members t).0 m) [ inl w ↦ subst (λ u. Member u old) (sym w) there | inr was ↦ was ]);
  edges = λ x m. inl m;
  more = omega (arith, longer);
  longer = omega (arith, longer);
}

-- an edge that is new is pending
pub added : (e : PathEdge) (old new : List Triple) (before : List PathEdge)
    → ((t : Triple) → (Member t new → (t ≡ triple_of e) ⊎ Member t old) × ((t ≡ triple_of e) ⊎ Member t old → Member t new))
    → length new ≡ length old + 1 → Grows (λ t. t ≡ triple_of e) old new before (before ++ e ∷ [])
added e old new before members longer = record {
  all = λ t is. (members t).1 (inl is);
  kept = λ t m. (members t).1 (inr m);
  only = λ t m. (members t).0 m;
  stays = λ x m. member_left x before (e ∷ []) m;
  pending = λ t m. elim ((members t).0 m) [
    | inl is ↦ inr (member_right (edge_of t) before (e ∷ []) (inl (ap edge_of is)))
    | inr was ↦ inl was
  ];
  edges = λ x m. elim (last_or before e x m) [ inl was ↦ inl was | inr is ↦ inr ((members (triple_of x)).1 (inl (ap triple_of is))) ];
  more = let l = length-append before (e ∷ []) in omega (arith, l, longer);
  longer = omega (arith, longer);
}

-- one step after another
pub both : (V W U : Triple → Type 0) (old mid new : List Triple) (before between after : List PathEdge) →
    Grows V old mid before between → Grows W mid new between after → ((t : Triple) → U t → V t ⊎ W t) → ((t : Triple) → V t ⊎ W t → U t) →
    Grows U old new before after
both V W U old mid new before between after first second from to = record {
  all = λ t u. elim (from t u) [ inl v ↦ second.kept t (first.all t v) | inr w ↦ second.all t w ];
  kept = λ t m. second.kept t (first.kept t m);
  only = λ t m. elim (second.only t m) [
    | inl w ↦ inl (to t (inr w))
    | inr n ↦ elim (first.only t n) [ inl v ↦ inl (to t (inl v)) | inr was ↦ inr was ]
  ];
  stays = λ x m. second.stays x (first.stays x m);
  pending = λ t m. elim (second.pending t m) [
    | inl n ↦ elim (first.pending t n) [ inl was ↦ inl was | inr p ↦ inr (second.stays (edge_of t) p) ]
    | inr p ↦ inr p
  ];
  edges = λ x m. elim (second.edges x m) [
    | inl p ↦ elim (first.edges x p) [ inl was ↦ inl was | inr n ↦ inr (second.kept (triple_of x) n) ]
    | inr n ↦ inr n
  ];
  more = let e = first.more in let f = second.more in omega (arith, e, f);
  longer = let e = first.longer in let f = second.longer in omega (arith, e, f);
}

-- what is added in one step after another
pub adds_both : (V W U : Triple → Type 0) {T : Type 0} (answer : Result T TableFault) (most : ℕ) (old mid new : List Triple)
    (before between after : List PathEdge) → Grows V old mid before between → Adds W answer most mid new between after →
    ((t : Triple) → U t → V t ⊎ W t) → ((t : Triple) → V t ⊎ W t → U t) → Adds U answer most old new before after
adds_both V W U answer most old mid new before between after first second from to = record {
  ok = IfOk-weaker answer _ _ (λ _ grown. both V W U old mid new before between after first grown from to) second.ok;
  only = λ t m. elim (second.only t m) [
    | inl w ↦ inl (to t (inr w))
    | inr n ↦ elim (first.only t n) [ inl v ↦ inl (to t (inl v)) | inr was ↦ inr was ]
  ];
  within = second.within;
  limit = λ is. let (t, w, fresh, full) = second.limit is in (t, to t (inr w), fresh, full);
}

-- one more item
pub each_more : {X : Type 0} (W : X → Triple → Type 0) (xs : List X) (x : X) (old mid new : List Triple)
    (before between after : List PathEdge) →
    Grows (OfSome W xs) old mid before between → Grows (W x) mid new between after → Grows (OfSome W (xs ++ x ∷ [])) old new before after
each_more W xs x old mid new before between after first second =
    both (OfSome W xs) (W x) (OfSome W (xs ++ x ∷ [])) old mid new before between after first second (each_or_last W xs x)
    (λ t w. elim w [ inl n ↦ each_left W xs (x ∷ []) t n | inr l ↦ each_last W xs x t l ])

-- what holds for an error holds for the one that is answered
pub fault_of : {T F : Type 0} (P : F → Type 0) (r : Result T F) (fault : F) → IsErrAnd r P → r ≡ Err fault → P fault
fault_of P r fault told is = subst (λ s. IsErrAnd s P) is told

-- a new edge makes the list longer by one
pub longer_by : (n o : ℕ) (answer : Bool) → answer ≡ true → n ≡ o + (if answer then 1 else 0) → n ≡ o + 1
longer_by n o true is e = e
longer_by n o false is e = absurd (true≢false (sym is))

-- what is reached, called otherwise
pub grows_as : (V W : Triple → Type 0) (old new : List Triple) (before after : List PathEdge) → ((t : Triple) → V t → W t)
    → ((t : Triple) → W t → V t) →
    Grows V old new before after → Grows W old new before after
grows_as V W old new before after to from grows = record {
  all = λ t w. grows.all t (from t w);
  kept = grows.kept;
  only = λ t m. elim (grows.only t m) [ inl v ↦ inl (to t v) | inr was ↦ inr was ];
  stays = grows.stays;
  pending = grows.pending;
  edges = grows.edges;
  more = grows.more;
  longer = grows.longer;
}

-- the place where the run continues
pub is_at : (e : PathEdge) (next : Option (ℕ × ℕ)) (n v : ℕ) → next ≡ Some (n, v) → (t : Triple) → t ≡ triple e.entry n v → IsAt e next t
is_at e next n v is t at = (n, v, is, at)

pub at_is : (e : PathEdge) (next : Option (ℕ × ℕ)) (n v : ℕ) → next ≡ Some (n, v) → (t : Triple) → IsAt e next t → t ≡ triple e.entry n v
at_is e next n v is t (n', v', is', at) = at ∙ ap (λ x. triple e.entry x.0 x.1) (same_Some (n', v') (n, v) (sym is' ∙ is))

-- a choice with none after it is the last
pub is_last : (k last : ℕ) (more : Bool) → (IsTrue more ↔ (k < last)) → more ≡ false → last ≤ k
is_last k last more tells none = go (nat_lt k last) refl
  where
    go : (b : Bool) → nat_lt k last ≡ b → last ≤ k
    go true e = absurd (true≢false (sym (tells.1 (ltb-true k last e)) ∙ none))
    go false e = ltb-false k last e

module _ {G : Type 0} (flow : Flow G) (e : PathEdge) where
  module _ (k : ℕ) (behind : 1 ≤ k) where
    -- one more choice
    next_more : (t : Triple) → IsOtherBefore (k + 1) flow e t
        → IsOtherBefore k flow e t ⊎ IsAt e (next_of flow e.values k) t
    next_more t (i, from, less, at) =
        elim (eq-or-lt_of_le {n = i} {m = k} (omega (arith, less))) [
          | inl same ↦ inr (subst (λ j. IsAt e (next_of flow e.values j) t) same at)
          | inr before ↦ inl (i, from, before, at)
        ]

    next_so_far : (t : Triple) → IsOtherBefore k flow e t ⊎ IsAt e (next_of flow e.values k) t
        → IsOtherBefore (k + 1) flow e t
    next_so_far t (inl (i, from, less, at)) = (i, from, omega (arith, less), at)
    next_so_far t (inr at) = (k, behind, omega arith, at)

    -- what one more choice leads to grows on what those before it lead to
    pub one_choice_more : (next : Option (ℕ × ℕ)) (old mid new : List Triple) (before between after : List PathEdge) →
        Grows (IsOtherBefore k flow e) old mid before between → next ≡ next_of flow e.values k
        → Grows (IsAt e next) mid new between after →
        Grows (IsOtherBefore (k + 1) flow e) old new before after
    one_choice_more next old mid new before between after first is second =
        both (IsOtherBefore k flow e) (IsAt e (next_of flow e.values k)) (IsOtherBefore (k + 1) flow e)
        old mid new before between after first (subst (λ n. Grows (IsAt e n) mid new between after) is second) next_more next_so_far

  -- the choices to the last are all
  pub others_all : (k : ℕ) → last_of flow ≤ k → (t : Triple) → IsOther flow e t → IsOtherBefore (k + 1) flow e t
  others_all k least t (i, from, most, at) = (i, from, omega (arith, most, least), at)

  -- what results from some choice so far results from one
  pub some_other : (k : ℕ) → k ≤ last_of flow + 1 → (t : Triple) → IsOtherBefore k flow e t → IsOther flow e t
  some_other k most t (i, from, less, at) = (i, from, omega (arith, less, most), at)

  -- where a choice leads is where the first does, or one of the others
  pub first_or_other : (t : Triple) → IsNext flow e t → IsAt e (next_of flow e.values 0) t ⊎ IsOther flow e t
  first_or_other t (zero, most, at) = inl at
  first_or_other t (suc i, most, at) = inr (suc i, omega arith, most, at)

  pub is_some_next : (t : Triple) → IsAt e (next_of flow e.values 0) t ⊎ IsOther flow e t → IsNext flow e t
  is_some_next t (inl at) = (0, omega arith, at)
  is_some_next t (inr (i, from, most, at)) = (i, most, at)

-- Ok is not a fault
pub ok_err : {T : Type 0} {x : T} {e : TableFault} → Ok x ≡ Err e → ⊥
ok_err is = cc

abbrev found_or : PathEdge → Result (Option PathEdge) TableFault → PathEdge
found_or other (Ok (Some found)) = found
found_or other (Ok None) = other
found_or other (Err fault) = other

-- one edge was found
pub same_found : (e found : PathEdge) → ◌≡◌ {A = Result (Option PathEdge) TableFault} (Ok (Some e)) (Ok (Some found)) → found ≡ e
same_found e found is = sym (ap (found_or e) is)

-- no edge is found by an answer that has none
pub none_is_found : (t : Triple) → IsFoundBy {Fault = TableFault} (Ok None) t → ⊥
none_is_found t (found, is, at) = absurd cc

-- nothing is added where there is nowhere to go
pub adds_none : (W : Triple → Type 0) (most : ℕ) (old : List Triple) (before : List PathEdge) → ((t : Triple) → W t → ⊥)
    → length old ≤ most → Adds W (Ok (tt {0})) most old old before before
adds_none W most old before none within = record {
  ok = record {
    all = λ t w. absurd (none t w);
    kept = λ t m. m;
    only = λ t m. inr m;
    stays = λ x m. m;
    pending = λ t m. inl m;
    edges = λ x m. inl m;
    more = refl;
    longer = omega arith;
  };
  only = λ t m. inr m;
  within = within;
  limit = λ is. absurd (ok_err is);
}

-- the two faults are not the same
two_faults : EdgeLimit ≡ Memory → ⊥
two_faults e = cc

-- if memory is refused the limit is not passed
pub no_limit : {T : Type 0} (r : Result T TableFault) → IsErrAnd r (λ e. e ≡ Memory) → r ≡ Err EdgeLimit → ⊥
no_limit r told is = two_faults (subst (λ s. IsErrAnd s (λ e. e ≡ Memory)) is told)

-- for an answer that is a fault, nothing is said about Ok
pub failed_ok : {T E : Type 0} (Q : Type 0) (P : E → Type 0) (r : Result T E) → IsErrAnd r P → OnOk r Q
failed_ok Q P (Ok _) told = absurd told
failed_ok Q P (Err _) told = tt

-- all are added
pub done_adds : (W : Triple → Type 0) {u : Unit {0}} (most : ℕ) (old new : List Triple) (before after : List PathEdge)
    → Grows W old new before after → length new ≤ most → Adds W (Ok u) most old new before after
done_adds W most old new before after all within = record {
  ok = all;
  only = all.only;
  within = within;
  limit = λ is. absurd (ok_err is);
}

-- the items of a list, one after the other
module _ {X : Type 0} (W : X → Triple → Type 0) (xs : List X) (i : ℕ) (old now : List Triple) (before at : List PathEdge)
    (first : Grows (OfSome W (take i xs)) old now before at) where
  -- with the next one
  pub each_next : (d : X) → i < length xs → (new : List Triple) (after : List PathEdge) → Grows (W (get_or xs i d)) now new at after →
      Grows (OfSome W (take (i + 1) xs)) old new before after
  each_next d within new after next =
      subst (λ l. Grows (OfSome W l) old new before after) (sym (take_more xs i d within))
      (each_more W (take i xs) (get_or xs i d) old now new before at after first next)

  -- at which adding fails
  pub each_failed : {T U : Type 0} {inner : Result T TableFault} {answer : Result U TableFault} {most : ℕ} (d : X) → i < length xs →
      (new : List Triple) (after : List PathEdge) → Adds (W (get_or xs i d)) inner most now new at after →
      OnOk answer (Grows (OfSome W xs) old new before after) → (answer ≡ Err EdgeLimit → inner ≡ Err EdgeLimit) →
      Adds (OfSome W xs) answer most old new before after
  each_failed d within new after failed none told = record {
    ok = none;
    only = λ t m. each_until W xs i d within t (failed.only t m) (first.only t);
    within = failed.within;
    limit = λ is. let (t, w, out, full) = failed.limit (told is) in (t, each_at W xs i d within t w, out, full);
  }

  -- all of them
  pub each_done : {u : Unit {0}} (most : ℕ) → i ≡ length xs → length now ≤ most → Adds (OfSome W xs) (Ok u) most old now before at
  each_done most end within =
      done_adds (OfSome W xs) most old now before at
      (subst (λ l. Grows (OfSome W l) old now before at) (ap (λ n. take n xs) end ∙ take-length xs) first) within

-- the items of a list from the last one on: some are done, and x is the next
module _ {X : Type 0} (W : X → Triple → Type 0) (xs rest : List X) (x : X) (done : List X) (whole : rest ++ x ∷ done ≡ xs)
    (old now : List Triple) (before at : List PathEdge) (first : Grows (OfSome W done) old now before at) where
  -- with the next one
  pub back_next : (new : List Triple) (after : List PathEdge) → Grows (W x) now new at after
      → Grows (OfSome W (x ∷ done)) old new before after
  back_next new after next =
      both (OfSome W done) (W x) (OfSome W (x ∷ done)) old now new before at after first next
      (λ t (y, m, w). elim m [ inl e ↦ inr (subst (λ z. W z t) e w) | inr n ↦ inl (y, n, w) ])
      (λ t v. elim v [ inl some ↦ (some.0, inr some.1, some.2) | inr w ↦ (x, inl refl, w) ])

  -- at which adding fails
  pub back_failed : {T U : Type 0} {inner : Result T TableFault} {answer : Result U TableFault} {most : ℕ}
      (new : List Triple) (after : List PathEdge) → Adds (W x) inner most now new at after →
      OnOk answer (Grows (OfSome W xs) old new before after) → (answer ≡ Err EdgeLimit → inner ≡ Err EdgeLimit) →
      Adds (OfSome W xs) answer most old new before after
  back_failed new after failed none told = record {
    ok = none;
    only = λ t m. elim (failed.only t m) [
      | inl w ↦ inl (some t (x, inl refl, w))
      | inr mid ↦ elim (first.only t mid) [ inl (y, n, w) ↦ inl (some t (y, inr n, w)) | inr was ↦ inr was ]
    ];
    within = failed.within;
    limit = λ is. let (t, w, out, full) = failed.limit (told is) in (t, some t (x, inl refl, w), out, full);
  }
    where
      some : (t : Triple) → OfSome W (x ∷ done) t → OfSome W xs t
      some t (y, m, w) = (y, subst (Member y) whole (member_right y rest (x ∷ done) m), w)

-- no other items are left
pub back_done : {X : Type 0} (W : X → Triple → Type 0) (xs rest done : List X) (most : ℕ) (old now : List Triple)
    (before at : List PathEdge)
    → rest ≡ [] → rest ++ done ≡ xs → Grows (OfSome W done) old now before at → length now ≤ most
    → {u : Unit {0}} → Adds (OfSome W xs) (Ok u) most old now before at
back_done W xs rest done most old now before at none whole all within {u} =
    done_adds (OfSome W xs) most old now before at
    (subst (λ l. Grows (OfSome W l) old now before at) (ap (λ l. l ++ done) (sym none) ∙ whole) all) within

module _ {X : Type 0} (W : X → Triple → Type 0) {x y : X} (same : x ≡ y) {old new : List Triple} {before after : List PathEdge} where
  -- what is added for an item is added for one that is the same
  pub adds_for : {T : Type 0} {answer : Result T TableFault} {most : ℕ} → Adds (W x) answer most old new before after
      → Adds (W y) answer most old new before after
  adds_for {T} {answer} {most} = subst (λ z. Adds (W z) answer most old new before after) same

  pub grows_for : Grows (W x) old new before after → Grows (W y) old new before after
  grows_for = subst (λ z. Grows (W z) old new before after) same
