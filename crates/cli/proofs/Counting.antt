-- What is counted of procedures is how many entries, pairs and messages they have.
use Rattle.std.proofs.Common.{◌≡◌, ◌∙◌, ◌⊎◌, ◌<◌, ◌++◌, ℕ, zero, suc, List, [], ◌∷◌, Some, inl, inr, refl}
use Rattle.std.proofs.Common.{sym, ap, ap₂, subst, true, false, true≢false, ◌+◌, ◌≤◌, add-one, append_assoc, append-nil}
use Rattle.std.proofs.Common.{arith, get_or, length, map, option_map, slice_get, take}
use Rattle.std.specs.String.{string_bytes}
use Rattle.trees.specs.Trees.{proc_of}
use Rattle.trees.specs.declared.tree.Proc.{Proc}
use Rattle.std.proofs.lemmas.List.{length-map, take_all}
use Rattle.std.proofs.lemmas.Option.{same_Some, slice_get-map, slice_get_read}
use Rattle.language.specs.Tree.{Procedure, Tree}
use Rattle.language.specs.Resolve.{meaning_of, routine_of}
use Rattle.language.specs.Sequential.{numbered_routine}
use Rattle.round_rewrite.specs.Limits.{last_round}
use Rattle.round_rewrite.specs.Names.{rewritten_for, rewritten_procedure, sequential_for}
use Rattle.language.specs.Step.{Program}
use Rattle.language.specs.Lists.{Member, NoneTwice}
use Rattle.post_ledger.specs.declared.event.Event.{Event}
use Rattle.post_ledger.specs.History.{takes}
use Rattle.summaries.specs.declared.due.Due.{Due}
use Rattle.summaries.specs.declared.pair.Pair.{Pair}
use Rattle.summaries.specs.Found.{left}
use Rattle.summaries.specs.Effects.{Effect, Effects}
use Rattle.summaries.specs.Fitting.{IsDueFor}
use Rattle.summaries.specs.Tabulated.{ArePairsAscending, AreSummaries, IsAscending, IsPairBefore, IsSummary}
use Rattle.cli.specs.Counts.{AreCountsOf, AreSoMany, Counts, TellCounts, counts_line, counts_lines, procedure_names}
use Rattle.cli.specs.Counted.{counted, counted_each}

-- of ascending numbers, the first is less than each of the others
above : (x : ℕ) (xs : List ℕ) (y : ℕ) → IsAscending (x ∷ xs) → Member y xs → x < y
above x [] y up m = absurd m
above x (z ∷ zs) y up (inl e) = subst (λ k. x < k) (sym e) up.0
above x (z ∷ zs) y up (inr m) = let next = above z zs y up.1 m in let first = up.0 in omega (arith, next, first)

rest_ascends : (x : ℕ) (xs : List ℕ) → IsAscending (x ∷ xs) → IsAscending xs
rest_ascends x [] up = tt
rest_ascends x (y ∷ ys) up = up.1

-- ascending numbers occur once
numbers_once : (xs : List ℕ) → IsAscending xs → NoneTwice xs
numbers_once [] up = tt
numbers_once (x ∷ xs) up =
    (λ m. let less = above x xs x up m in omega (arith, less), numbers_once xs (rest_ascends x xs up))

-- one pair comes before another, among those with one entry valuation
abbrev LeavesBefore : Pair → Pair → Type 0
LeavesBefore x y = (x.b < y.b) ⊎ ((x.b ≡ y.b) × (x.r ≡ false) × (y.r ≡ true))

leaves_all : (x y z : Pair) → LeavesBefore x y → LeavesBefore y z → LeavesBefore x z
leaves_all x y z (inl a) (inl b) = inl (omega arith)
leaves_all x y z (inl a) (inr b) = inl (let e = b.0 in omega (arith, e))
leaves_all x y z (inr a) (inl b) = inl (let e = a.0 in omega (arith, e))
leaves_all x y z (inr a) (inr b) = absurd (true≢false (sym a.2 ∙ b.1))

before_all : (x y z : Pair) → IsPairBefore x y → IsPairBefore y z → IsPairBefore x z
before_all x y z (inl a) (inl b) = inl (omega arith)
before_all x y z (inl a) (inr b) = inl (let e = b.0 in omega (arith, e))
before_all x y z (inr a) (inl b) = inl (let e = a.0 in omega (arith, e))
before_all x y z (inr a) (inr b) = inr (a.0 ∙ b.0, leaves_all x y z a.1 b.1)

before_itself : (x : Pair) → IsPairBefore x x → ⊥
before_itself x (inl a) = omega arith
before_itself x (inr a) = elim a.1 [ inl b ↦ omega (arith, b) | inr r ↦ true≢false (sym r.2 ∙ r.1) ]

-- of ascending pairs, the first is before each other
before : (x : Pair) (xs : List Pair) (y : Pair) → ArePairsAscending (x ∷ xs) → Member y xs → IsPairBefore x y
before x [] y up m = absurd m
before x (z ∷ zs) y up (inl e) = subst (IsPairBefore x) (sym e) up.0
before x (z ∷ zs) y up (inr m) = before_all x z y up.0 (before z zs y up.1 m)

rest_pairs : (x : Pair) (xs : List Pair) → ArePairsAscending (x ∷ xs) → ArePairsAscending xs
rest_pairs x [] up = tt
rest_pairs x (y ∷ ys) up = up.1

-- ascending pairs occur once
pairs_once : (xs : List Pair) → ArePairsAscending xs → NoneTwice xs
pairs_once [] up = tt
pairs_once (x ∷ xs) up = (λ m. before_itself x (before x xs x up m), pairs_once xs (rest_pairs x xs up))

-- by its summary and the history of its mailbox, what is counted of a procedure
counts_of : (p : Program) (q : ℕ) (s : Effect) (history : List (Event Due)) → IsSummary p q s
    → AreSoMany (IsDueFor p q) (length (takes history))
    → AreCountsOf p q (counted s history)
counts_of p q s history is due = record {
  entries = record { all = s.entries; once = numbers_once s.entries is.ascend; members = is.entries; many = refl };
  pairs = record {
    all = s.pairs;
    once = pairs_once s.pairs is.pairs_ascend;
    members = λ x. is.pairs x.a (left x.b x.r);
    many = refl;
  };
  taken = due;
}

-- what is at an index of the counts
at_number : (ss : List Effect) (hs : List (List (Event Due))) (q : ℕ) (c : Counts)
    → slice_get (counted_each ss hs) q ≡ Some c
    → (s : Effect) × (h : List (Event Due)) × (slice_get ss q ≡ Some s) × (slice_get hs q ≡ Some h) × (c ≡ counted s h)
at_number [] hs q c e = cc
at_number (s ∷ ss) [] q c e = cc
at_number (s ∷ ss) (h ∷ hs) zero c e = (s, h, refl, refl, cc)
at_number (s ∷ ss) (h ∷ hs) (suc q) c e = at_number ss hs q c e

-- the same for each procedure
pub counts_of_each : (p : Program) (ss : List Effect) (hs : List (List (Event Due)))
    → ((q : ℕ) (s : Effect) → slice_get ss q ≡ Some s → IsSummary p q s)
    → ((q : ℕ) (h : List (Event Due)) → slice_get hs q ≡ Some h → AreSoMany (IsDueFor p q) (length (takes h)))
    → (q : ℕ) (c : Counts) → slice_get (counted_each ss hs) q ≡ Some c → AreCountsOf p q c
counts_of_each p ss hs summaries due q c e =
    let (s, h, at, there, is) = at_number ss hs q c e in
    subst (AreCountsOf p q) (sym is) (counts_of p q s h (summaries q s at) (due q h there))

-- there are as many counts as procedures
pub counted_length : (ss : List Effect) (hs : List (List (Event Due))) → length hs ≡ length ss
    → length (counted_each ss hs) ≡ length ss
counted_length [] hs e = refl
counted_length (s ∷ ss) [] e = cc
counted_length (s ∷ ss) (h ∷ hs) e =
    ap suc (counted_length ss hs (let f : length hs ≡ length ss = omega (arith, e) in f))

-- what is counted of the procedure of a number
pub at_each : (ss : List Effect) (hs : List (List (Event Due))) (k : ℕ) (s : Effect) (h : List (Event Due))
    → slice_get ss k ≡ Some s
    → slice_get hs k ≡ Some h → slice_get (counted_each ss hs) k ≡ Some (counted s h)
at_each [] hs k s h e f = cc
at_each (x ∷ ss) [] k s h e f = cc
at_each (x ∷ ss) (y ∷ hs) zero s h e f = cc
at_each (x ∷ ss) (y ∷ hs) (suc k) s h e f = at_each ss hs k s h e f

-- one more line
pub one_line_more : (names : List (List ℕ)) (cs : List Counts) (k : ℕ) (name : List ℕ) (c : Counts)
    → slice_get names k ≡ Some name
    → slice_get cs k ≡ Some c → counts_lines (take (suc k) names) (take (suc k) cs)
    ≡ counts_lines (take k names) (take k cs) ++ counts_line name c.entries c.pairs c.taken
one_line_more [] cs k name c e f = cc
one_line_more (n ∷ ns) [] k name c e f = cc
one_line_more (n ∷ ns) (d ∷ ds) zero name c e f =
    append-nil (counts_line n d.entries d.pairs d.taken)
    ∙ ap₂ (λ x (y : Counts). counts_line x y.entries y.pairs y.taken) (same_Some n name e) (same_Some d c f)
one_line_more (n ∷ ns) (d ∷ ds) (suc k) name c e f =
    ap (λ l. counts_line n d.entries d.pairs d.taken ++ l) (one_line_more ns ds k name c e f)
    ∙ sym (append_assoc (counts_line n d.entries d.pairs d.taken) (counts_lines (take k ns) (take k ds))
    (counts_line name c.entries c.pairs c.taken))

-- the rewriting has a procedure for each name
pub as_many_names : (rounds : ℕ) (t : Tree)
    → length (sequential_for rounds t).routines ≡ length (procedure_names t)
as_many_names rounds t =
    let tree = rewritten_for rounds t in
    length-map (meaning_of tree).routines numbered_routine ∙ (length-map tree.procedures (routine_of tree)
    ∙ ap suc (length-map t.procedures (rewritten_procedure (last_round rounds))
    ∙ sym (length-map t.procedures (λ (p : Procedure). p.name.text))))

-- by the summaries of the rewriting and the histories of its mailboxes, the lines give what is counted
pub tell_counts : (t : Tree) (rounds : ℕ) (s : Effects) (hs : List (List (Event Due)))
    → AreSummaries (sequential_for rounds t) s
    → length hs ≡ length (sequential_for rounds t).routines
    → ((q : ℕ) (h : List (Event Due)) → slice_get hs q ≡ Some h
    → AreSoMany (IsDueFor (sequential_for rounds t) q) (length (takes h)))
    → TellCounts rounds t (counts_lines (procedure_names t) (counted_each s.procedures hs))
tell_counts t rounds s hs summaries boxes due = record {
  counts = counted_each s.procedures hs;
  each = counted_length s.procedures hs (boxes ∙ sym summaries.0) ∙ (summaries.0 ∙ as_many_names rounds t);
  are = counts_of_each (sequential_for rounds t) s.procedures hs summaries.1 due;
  same = refl;
}

-- the line of the procedure of a number is written after those before it
pub line_pushed : (names : List (List ℕ)) (ss : List Effect) (hs : List (List (Event Due))) (k : ℕ)
    (first old new name : List ℕ) (s : Effect)
    (h : List (Event Due)) (entries : List ℕ) (pairs : List Pair) (taken : ℕ) → slice_get names k ≡ Some name
    → slice_get ss k ≡ Some s
    → slice_get hs k ≡ Some h → entries ≡ s.entries → pairs ≡ s.pairs → taken ≡ length (takes h)
    → old ≡ first ++ counts_lines (take k names) (take k (counted_each ss hs))
    → new ≡ old ++ counts_line name (length entries) (length pairs) taken
    → new ≡ first ++ counts_lines (take (k + 1) names) (take (k + 1) (counted_each ss hs))
line_pushed names ss hs k first old new name s h entries pairs taken named at there e p t was now =
    let cs = counted_each ss hs in
    let lines = counts_lines (take k names) (take k cs) in
    let more = one_line_more names cs k name (counted s h) named (at_each ss hs k s h at there) in
    let told = counts_line name (length entries) (length pairs) taken in
    let due = counts_line name (length s.entries) (length s.pairs) (length (takes h)) in
    let line : told ≡ due =
    ap (λ x. counts_line name (length x) (length pairs) taken) e
    ∙ ap (λ x. counts_line name (length s.entries) (length x) taken) p
    ∙ ap (counts_line name (length s.entries) (length s.pairs)) t in
    now ∙ ap (λ l. l ++ told) was ∙ append_assoc first lines told
    ∙ ap (λ l. first ++ l) (ap (λ l. lines ++ l) line ∙ sym more
    ∙ ap (λ n. counts_lines (take n names) (take n cs)) (sym (add-one k)))

-- if there are no more, all lines are written
pub all_written : (names : List (List ℕ)) (ss : List Effect) (hs : List (List (Event Due))) (k : ℕ)
    (first lines : List ℕ) → length names ≤ k
    → length ss ≤ k → length hs ≡ length ss → lines ≡ first ++ counts_lines (take k names) (take k (counted_each ss hs))
    → lines ≡ first ++ counts_lines names (counted_each ss hs)
all_written names ss hs k first lines past past_ss same e =
    let cs = counted_each ss hs in
    let many : length cs ≤ k = let l = counted_length ss hs same in omega (arith, l, past_ss) in
    e ∙ ap₂ (λ x y. first ++ counts_lines x y) (take_all k names past) (take_all k cs many)

-- there is something at each number below the length
pub there : {X : Type 0} (xs : List X) (i : ℕ) → i < length xs → (x : X) × (slice_get xs i ≡ Some x)
there [] i lt = absurd (omega (arith, lt))
there (x ∷ xs) zero lt = (x, refl)
there (x ∷ xs) (suc i) lt = there xs i (omega (arith, lt))

-- the name at a number is that of the procedure there
pub named_at : {A : Type 0} (ps : List (Proc A)) (i : ℕ) (x : Proc A) → i < length ps → x ≡ get_or ps i x
    → slice_get (map (λ (p : Procedure). p.name.text) (map proc_of ps)) i ≡ Some (string_bytes x.name.text)
named_at ps i x lt is =
    slice_get-map (λ (p : Procedure). p.name.text) (map proc_of ps) i
    ∙ ap (option_map (λ (p : Procedure). p.name.text)) (slice_get-map proc_of ps i
    ∙ ap (option_map proc_of) (slice_get_read ps (length ps) i x refl lt is))
