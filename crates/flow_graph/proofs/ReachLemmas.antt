-- What is reached and sent by numbers: the least that holds, more by more messages, and within the widths.
use Rattle.std.proofs.Common.{◌≡◌, ◌↔◌, ◌≤◌, ◌<◌, ◌+◌, ◌^◌, ℕ, List, length, Some, slice_get, sym, subst}
use Rattle.std.proofs.lemmas.Option.{slice_get_within}
use Rattle.language.specs.Step.{Routine, Program, frame_size, AtRoutine}
use Rattle.language.specs.Sequential.{Caller, caller, Message, entry}
use Rattle.language.specs.Lists.{Member}
use Rattle.language.specs.Messages as by_messages
use Rattle.language.specs.Messages.{Owes, IsMessageTo, ArgumentsFit}
use Rattle.language.proofs.ByMessages.{reached_entry, reached_stands}
use Rattle.language.proofs.Widths.{reached_valuation}
use Rattle.flow_graph.specs.Flows.{code, last_of, next_of, entered_by}
use Rattle.flow_graph.specs.Returns.{left_by, resumed_at}
use Rattle.flow_graph.specs.Graphs.{IsGraph, IsInTextOrder}
use Rattle.flow_graph.specs.Numbers.{NumberedMessage, numbered_entry, numbered_summary, by_numbers, GraphReaches, starts}
use Rattle.flow_graph.specs.Numbers.{flows, returns, Sends, asks, tells, IsNumberOf, IsNumberOfValuation}
use Rattle.flow_graph.specs.Triples.{HoldStarts, HoldFlows, HoldReturns, HoldAsks, HoldTells}
use Rattle.flow_graph.specs.declared.flow.Flow.{Flow}
use Rattle.flow_graph.specs.declared.graph.Graph.{Graph}
use Rattle.flow_graph.specs.declared.exit.Exit.{Exit}
use Rattle.flow_graph.proofs.NumberLemmas.{code_small}
use Rattle.flow_graph.proofs.StepLemmas.{called_valuation, flow_at, reached_reaches, owed_sends}

module _ {A : Type 0} (graph : Graph A) (M : NumberedMessage → Type 0) where
  -- what is reached is the least that has the starts and follows the flows and the returns
  pub reaches_least : (T : ℕ → ℕ → ℕ → Type 0) → ((from : Caller) (a : ℕ) → M (numbered_entry from a) → T a graph.start a)
      → ((a n v n' v' i : ℕ) (flow : Flow A) → T a n v → slice_get graph.flows.items n ≡ Some flow → i ≤ last_of flow
      → next_of flow v i ≡ Some (n', v') → T a n' v')
      → ((a n v s e n' : ℕ) (b : Exit) (flow : Flow A) → T a n v → slice_get graph.flows.items n ≡ Some flow
      → entered_by flow v ≡ Some (s, e, n') → M (numbered_summary s e b) → T a n' (resumed_at graph n v b))
      → (a n v : ℕ) → GraphReaches graph M a n v → T a n v
  reaches_least T begins goes comes _ _ _ (starts from a k) = begins from a k
  reaches_least T begins goes comes _ _ _ (flows a n v n' v' i flow reached here most next) =
      goes a n v n' v' i flow (reaches_least T begins goes comes a n v reached) here most next
  reaches_least T begins goes comes _ _ _ (returns a n v s e n' b flow reached here enters k) =
      comes a n v s e n' b flow (reaches_least T begins goes comes a n v reached) here enters k

  -- what is sent is the least that has what is asked and told from what is reached
  pub sends_least : (q : ℕ) (T : ℕ → ℕ → ℕ → Type 0) → ((a n v : ℕ) → GraphReaches graph M a n v → T a n v) →
      (S : ℕ → NumberedMessage → Type 0)
      → ((a n v s e n' : ℕ) (flow : Flow A) → T a n v → slice_get graph.flows.items n ≡ Some flow → entered_by flow v ≡ Some (s, e, n')
      → S s (numbered_entry (caller q) e))
      → ((a v s : ℕ) → M (numbered_entry (caller s) a) → T a 0 v → S s (numbered_summary q a (left_by graph v)))
      → (s : ℕ) (k : NumberedMessage) → Sends graph q M s k → S s k
  sends_least q T least S asked told _ _ (asks a n v s e n' flow reached here enters) =
      asked a n v s e n' flow (least a n v reached) here enters
  sends_least q T least S asked told _ _ (tells a v s k reached) = told a v s k (least a 0 v reached)

  -- what is reached from a number has an entry with it
  pub reaches_entry : (a n v : ℕ) → GraphReaches graph M a n v → (from : Caller) × M (numbered_entry from a)
  reaches_entry _ _ _ (starts from a k) = (from, k)
  reaches_entry _ _ _ (flows a n v n' v' i flow reached here most next) = reaches_entry a n v reached
  reaches_entry _ _ _ (returns a n v s e n' b flow reached here enters k) = reaches_entry a n v reached

  module _ (N : NumberedMessage → Type 0) (more : (k : NumberedMessage) → M k → N k) where
    pub reaches_more : (a n v : ℕ) → GraphReaches graph M a n v → GraphReaches graph N a n v
    reaches_more _ _ _ (starts from a k) = starts from a (more (numbered_entry from a) k)
    reaches_more _ _ _ (flows a n v n' v' i flow reached here most next) =
        flows a n v n' v' i flow (reaches_more a n v reached) here most next
    reaches_more _ _ _ (returns a n v s e n' b flow reached here enters k) =
        returns a n v s e n' b flow (reaches_more a n v reached) here enters (more (numbered_summary s e b) k)

    pub sends_more : (q s : ℕ) (k : NumberedMessage) → Sends graph q M s k → Sends graph q N s k
    sends_more q _ _ (asks a n v s e n' flow reached here enters) = asks a n v s e n' flow (reaches_more a n v reached) here enters
    sends_more q _ _ (tells a v s k reached) = tells a v s (more (numbered_entry (caller s) a) k) (reaches_more a 0 v reached)

module _ {A : Type 0} (graph : Graph A) (ms : List NumberedMessage) (ts : List (ℕ × ℕ × ℕ)) (begins : HoldStarts graph ms ts)
    (goes : HoldFlows graph ts)
    (comes : HoldReturns graph ms ts) where
  pub held : (a n v : ℕ) → GraphReaches graph (λ k. Member k ms) a n v → Member (a, n, v) ts
  held = reaches_least graph (λ k. Member k ms) (λ a n v. Member (a, n, v) ts) begins goes comes

  pub held_sent : (q : ℕ) (sent : List (ℕ × NumberedMessage)) → HoldAsks graph q ts sent → HoldTells graph q ms ts sent
      → (s : ℕ) (k : NumberedMessage) → Sends graph q (λ j. Member j ms) s k
      → Member (s, k) sent
  held_sent q sent asked told =
      sends_least graph (λ k. Member k ms) q (λ a n v. Member (a, n, v) ts) held (λ s k. Member (s, k) sent) asked told

-- triples of all that is reached, and of nothing else, follow
module _ {A : Type 0} (graph : Graph A) (ms : List NumberedMessage) (ts : List (ℕ × ℕ × ℕ))
    (all : (a n v : ℕ) → Member (a, n, v) ts ↔ GraphReaches graph (λ k. Member k ms) a n v) where
  pub reached_follow : HoldStarts graph ms ts × HoldFlows graph ts × HoldReturns graph ms ts
  reached_follow = (
    λ from a k. (all a graph.start a).1 (starts from a k),
    λ a n v n' v' i flow held here most next. (all a n' v').1 (flows a n v n' v' i flow ((all a n v).0 held) here most next),
    λ a n v s e n' b flow held here enters k.
        (all a n' (resumed_at graph n v b)).1 (returns a n v s e n' b flow ((all a n v).0 held) here enters k),
  )

  pub sent_follow : (q : ℕ) (sent : List (ℕ × NumberedMessage))
      → ((s : ℕ) (k : NumberedMessage) → Member (s, k) sent ↔ Sends graph q (λ j. Member j ms) s k)
      → HoldAsks graph q ts sent × HoldTells graph q ms ts sent
  sent_follow q sent each = (
    λ a n v s e n' flow held here enters.
        (each s (numbered_entry (caller q) e)).1 (asks a n v s e n' flow ((all a n v).0 held) here enters),
    λ a v s k held. (each s (numbered_summary q a (left_by graph v))).1 (tells a v s k ((all a 0 v).0 held)),
  )

-- what a procedure owes by messages of its widths has the widths of its receiver
owed_message : (p : Program) → ArgumentsFit p → (q : ℕ) (M : Message → Type 0) → ((m : Message) → M m → IsMessageTo p q m)
    → (s : ℕ) (m : Message) → Owes p q M s m → IsMessageTo p s m
owed_message p fit q M right _ _ (by_messages.asks a v e r s reached calls) =
    called_valuation p fit q v r s e (reached_valuation p q M right a v r reached).0 (reached_stands p q M a v r reached) calls
owed_message p fit q M right _ _ (by_messages.tells a v s m reached) =
    (right (entry (caller s) a) m, (reached_valuation p q M right a v _ reached).0)

module _ {A : Type 0} (p : Program) (fit : ArgumentsFit p) (q : ℕ) (graph : Graph A) (is : IsGraph p q graph) (K : NumberedMessage → Type 0)
    (wide : (k : NumberedMessage) → K k → IsNumberOf (IsMessageTo p q) k) where
  abbrev M : Message → Type 0
  M m = IsMessageTo p q m × K (by_numbers m)

  tells_of : (k : NumberedMessage) → K k → IsNumberOf M k
  tells_of k h = let (m, d, e) = wide k h in (m, (d, subst K e h), e)

  -- what is reached has a flow at its point, and the numbers are of valuations
  pub reaches_wide : (a n v : ℕ) → GraphReaches graph K a n v →
      (n < length graph.flows.items) × IsNumberOfValuation p q a × IsNumberOfValuation p q v
  reaches_wide a n v h =
      let (x, y, r, got, ea, en, ev) = reached_reaches p q graph is M K (λ m d. d.0) fit tells_of a n v h in
      let (flow, here, steps) = flow_at p q graph is r (reached_stands p q M x y r got) in
      let (from, began) = reached_entry p q M x y r got in (
        subst (λ i. i < length graph.flows.items) (sym en) (slice_get_within graph.flows.items _ flow here),
        (x, began.0, ea),
        (y, reached_valuation p q M (λ m d. d.0) x y r got, ev),
      )

  pub sends_wide : IsInTextOrder p → (s : ℕ) (k : NumberedMessage) → Sends graph q K s k → IsNumberOf (IsMessageTo p s) k
  sends_wide order s k h =
      let (m, owed, e) = owed_sends p q graph is M K (λ m d. d.0) fit tells_of order s k h in
      (m, owed_message p fit q M (λ m d. d.0) s m owed, e)

-- the number of a valuation has as many bits as the procedure has globals and places
pub valuation_small : (p : Program) (q : ℕ) (routine : Routine) (n : ℕ) → slice_get p.routines q ≡ Some routine → IsNumberOfValuation p q n
    → n < 2 ^ (p.globals + frame_size routine)
valuation_small p q routine n is (x, wide, e) =
    let places : length x.places ≡ frame_size routine = subst (λ o. AtRoutine o (λ r. length x.places ≡ frame_size r)) is wide.1 in
    subst (λ i. i < 2 ^ (p.globals + frame_size routine)) (sym e) (subst (λ w. code x < 2 ^ w) (λ i. wide.0 i + places i) (code_small x))
