-- If what graphs send is taken, and nothing that is not due, what is taken is what is due.
use Rattle.std.proofs.Common.{◌≡◌, ◌↔◌, ℕ, zero, suc, List, [], ◌∷◌, length, Some, slice_get, refl, sym, ◌∙◌, ap, subst, arith}
use Rattle.std.proofs.lemmas.Option.{none-some}
use Rattle.language.specs.Rest.{Code}
use Rattle.language.specs.Step.{Program, zeros, frame_size}
use Rattle.language.specs.Sequential.{Valuation, starter, caller, Message, entry, IsZero, IsDue, in_text_order}
use Rattle.language.specs.Messages as by_messages
use Rattle.language.specs.Messages.{Reached, Owes, IsMessageTo, ArgumentsFit, HasOpening, HasOwed, EdgeTo}
use Rattle.language.proofs.ByMessages.{reached_entry}
use Rattle.language.proofs.Entering.{due_there}
use Rattle.language.proofs.Gathered.{gathered, reached_edge}
use Rattle.language.proofs.Points.{bodies_numbered}
use Rattle.language.proofs.Sound.{owed_due}
use Rattle.language.proofs.StepKinds.{routine_found}
use Rattle.language.proofs.Widths.{due_message}
use Rattle.language.specs.Step as step
use Rattle.flow_graph.specs.Nodes.{point_at}
use Rattle.flow_graph.specs.Flows.{code}
use Rattle.flow_graph.specs.Graphs.{IsGraph, AreGraphs, IsInTextOrder}
use Rattle.flow_graph.specs.Numbers.{NumberedMessage, numbered_entry, by_numbers, GraphReaches, Sends, IsNumberOf, AreNumbersOf}
use Rattle.flow_graph.specs.declared.graph.Graph.{Graph}
use Rattle.flow_graph.proofs.NumberLemmas.{coded_zeros}
use Rattle.flow_graph.proofs.StepLemmas.{reaches_reached, reached_reaches, sends_owed, owed_sends}

-- two lists of the same length: there is a second item if there is a first
pub there_too : {X Y : Type 0} (xs : List X) (ys : List Y) (q : ℕ) (x : X) → length xs ≡ length ys → slice_get xs q ≡ Some x
    → (y : Y) × (slice_get ys q ≡ Some y)
there_too [] ys q x h e = absurd (none-some x e)
there_too (z ∷ zs) [] q x h e = absurd (omega (arith, h))
there_too (z ∷ zs) (y ∷ ys) zero x h e = (y, refl)
there_too (z ∷ zs) (y ∷ ys) (suc q) x h e = there_too zs ys q x (omega (arith, h)) e

-- ---- messages that are due

module _ {A : Type 0} (p : Program) (fit : ArgumentsFit p) (q : ℕ) (graph : Graph A) (is : IsGraph p q graph) (K : NumberedMessage → Type 0)
    (due : (k : NumberedMessage) → K k → IsNumberOf (IsDue p q) k) where
  -- a message that is due and there by numbers
  abbrev M : Message → Type 0
  M m = IsDue p q m × K (by_numbers m)

  right : (m : Message) → M m → IsMessageTo p q m
  right m h = due_message p fit q m h.0

  tells_of : (k : NumberedMessage) → K k → IsNumberOf M k
  tells_of k h = let (m, d, e) = due k h in (m, (d, subst K e h), e)

  pub edges_reached : (a n v : ℕ) → GraphReaches graph K a n v → AreNumbersOf (EdgeTo p q) a n v
  edges_reached a n v h =
      let (x, y, r, got, ea, en, ev) = reached_reaches p q graph is M K right fit tells_of a n v h in
      (x, y, r, reached_edge p q M (λ m d. d.0) x y r got, ea, en, ev)

  pub due_sent : IsInTextOrder p → (s : ℕ) (k : NumberedMessage) → Sends graph q K s k → IsNumberOf (IsDue p s) k
  due_sent order s k h =
      let (m, owed, e) = owed_sends p q graph is M K right fit tells_of order s k h in
      (m, owed_due p q M (λ m d. d.0) s m owed, e)

-- whoever owes a message has an entry
owes_entry : (p : Program) (q : ℕ) (M : Message → Type 0) (s : ℕ) (m : Message) → Owes p q M s m → (k : Message) × M k
owes_entry p q M _ _ (by_messages.asks a v e r s reached calls) = let (from, is) = reached_entry p q M a v r reached in (entry from a, is)
owes_entry p q M _ _ (by_messages.tells a v s is reached) = (entry (caller s) a, is)

-- the first valuation is the number 0
code_zero : (p : Program) (a : Valuation) → IsZero p a → code a ≡ 0
code_zero p a begins =
    let (routine, is, e) =
    routine_found (slice_get p.routines 0) (λ r. a ≡ record { globals = zeros p.globals; places = zeros (frame_size r) }) begins in
    ap code e ∙ coded_zeros p.globals (frame_size routine)

-- T says which messages each procedure took
module _ {A : Type 0} (p : Program) (graphs : List (Graph A)) (T : ℕ → NumberedMessage → Type 0) (fit : ArgumentsFit p)
    (are : AreGraphs p graphs)
    (opening : T 0 (numbered_entry starter 0))
    (sent : (q s : ℕ) (graph : Graph A) (k : NumberedMessage) → slice_get graphs q ≡ Some graph → Sends graph q (T q) s k → T s k)
    (due : (q : ℕ) (k : NumberedMessage) → T q k → IsNumberOf (IsDue p q) k) where
  -- the messages that are due for a procedure and that it took
  abbrev Had : ℕ → Message → Type 0
  Had q m = IsDue p q m × T q (by_numbers m)

  opened : HasOpening p Had
  opened a begins = ((refl, begins), subst (λ n. T 0 (numbered_entry starter n)) (sym (code_zero p a begins)) opening)

  sent_taken : (q s : ℕ) (m : Message) (graph : Graph A) → slice_get graphs q ≡ Some graph → Owes p q (Had q) s m → T s (by_numbers m)
  sent_taken q s m graph here owed =
      sent q s graph (by_numbers m) here
      (sends_owed p q graph (are.1 q graph here) (Had q) (T q) (λ n h. due_message p fit q n h.0) (λ n h. h.1) s m owed)

  closed : HasOwed p Had
  closed q s m owed =
      let (k, had) = owes_entry p q (Had q) s m owed in
      let (routine, is) = due_there p q k had.0 in
      let (graph, here) = there_too p.routines graphs q routine (sym are.0) is in
      (owed_due p q (Had q) (λ n h. h.0) s m owed, sent_taken q s m graph here owed)

  edges_had : (q : ℕ) (x y : Valuation) (r : Code) → EdgeTo p q x y r → Reached p q (Had q) x y r
  edges_had q x y r = ((gathered p Had opened closed (λ s m d. d.0) q).1 x y r).1

  pub taken_due : (q : ℕ) (k : NumberedMessage) → T q k ↔ IsNumberOf (IsDue p q) k
  taken_due q k = (
    due q k,
    λ h. subst (T q) (sym h.2) (((gathered p Had opened closed (λ s m d. d.0) q).0 h.0).1 h.1).1,
  )

  pub edges_taken : (q : ℕ) (graph : Graph A) → slice_get graphs q ≡ Some graph → (a n v : ℕ) →
      GraphReaches graph (T q) a n v ↔ AreNumbersOf (EdgeTo p q) a n v
  edges_taken q graph here a n v = (edges_reached p fit q graph (are.1 q graph here) (T q) (due q) a n v, back)
    where
      back : AreNumbersOf (EdgeTo p q) a n v → GraphReaches graph (T q) a n v
      back (x, y, r, edge, ea, en, ev) =
          let got = edges_had q x y r edge in
          let by = reaches_reached p q graph (are.1 q graph here) (Had q) (T q) (λ m h. due_message p fit q m h.0) (λ m h. h.1) x y r got in
          subst (GraphReaches graph (T q) a n) (sym ev)
          (subst (λ i. GraphReaches graph (T q) a i (code y)) (sym en)
          (subst (λ i. GraphReaches graph (T q) i (point_at r) (code y)) (sym ea) by))

-- a program whose statements are marked with their numbers is
pub ordered : (p : Program) → IsInTextOrder (in_text_order p)
ordered p q = (step.body_of (slice_get p.routines q), bodies_numbered p.routines q)
