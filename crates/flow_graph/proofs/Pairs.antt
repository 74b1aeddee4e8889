-- What graphs leave by numbers are the pairs.
use Rattle.std.proofs.Common.{◌≡◌, ◌↔◌, ℕ, true, List, Some, slice_get, inl, inr, refl, sym, ◌∙◌, ap, subst}
use Rattle.language.specs.Tree.{done}
use Rattle.language.specs.Rest.{Code}
use Rattle.language.specs.Step.{Program, body_of}
use Rattle.language.specs.Sequential.{point_of, Valuation, exit_of, Caller, starter, caller, Message, entry, summary, IsDue, SomeBad}
use Rattle.language.specs.Flow.{IsRestOf}
use Rattle.language.specs.Messages.{Reached, EdgeTo, IsValuationOf, IsMessageTo, ArgumentsFit}
use Rattle.language.proofs.ByMessages.{reached_entry, reached_stands}
use Rattle.language.proofs.Entering.{due_entered}
use Rattle.language.proofs.Gathered.{edge_reached, edge_point, pair_exit}
use Rattle.language.proofs.Sound.{owed_due}
use Rattle.language.proofs.Widths.{due_message, reached_valuation}
use Rattle.flow_graph.specs.Bits.{bit_of}
use Rattle.flow_graph.specs.Nodes.{point_number, point_at}
use Rattle.flow_graph.specs.Flows.{code, exit_code}
use Rattle.flow_graph.specs.Returns.{left_by}
use Rattle.flow_graph.specs.Graphs.{AreGraphs, IsInTextOrder}
use Rattle.flow_graph.specs.Numbers.{NumberedMessage, numbered_entry, by_numbers, Leaves}
use Rattle.flow_graph.specs.Numbers.{IsNumberOf, AreNumbersOf, IsNumberOfEntry, AreNumbersOfEdge, AreNumbersOfPair, Sends}
use Rattle.flow_graph.specs.declared.graph.Graph.{Graph}
use Rattle.flow_graph.specs.declared.exit.Exit.{Exit}
use Rattle.flow_graph.proofs.StepLemmas.{valuation_told, message_told, rest_in_order_told, entry_of, entry_is}
use Rattle.flow_graph.proofs.DueLemmas.{taken_due, edges_taken}
use Rattle.flow_graph.proofs.Worths.{coded_bit}

-- the numbers of a path edge, by its rest or by its point
pub edge_numbers : (p : Program) (q a n v : ℕ) → AreNumbersOf (EdgeTo p q) a n v ↔ AreNumbersOfEdge p q a n v
edge_numbers p q a n v = (there, back)
  where
    there : AreNumbersOf (EdgeTo p q) a n v → AreNumbersOfEdge p q a n v
    there (x, y, r, edge, ea, en, ev) = (x, y, point_of r, (edge_point p q x y (point_of r)).1 (r, refl, edge), ea, en, ev)

    back : AreNumbersOfEdge p q a n v → AreNumbersOf (EdgeTo p q) a n v
    back (x, y, point, edge, ea, en, ev) = let (r, is, inside) = (edge_point p q x y point).0 edge in
        (x, y, r, inside, ea, en ∙ ap point_number is, ev)

module _ (p : Program) (fit : ArgumentsFit p) where
  -- a path edge is reached by the messages that are due
  edge_by_due : (q : ℕ) (x y : Valuation) (r : Code) → EdgeTo p q x y r → Reached p q (IsDue p q) x y r
  edge_by_due q x y r =
      edge_reached p (IsDue p) (λ a begins. (refl, begins)) (λ k s m owed. owed_due p k (IsDue p k) (λ n d. d) s m owed) q x y r

  -- so it has the widths of its procedure, and what is left can be left of its body
  edge_wide : (q : ℕ) (x y : Valuation) (r : Code) → EdgeTo p q x y r → IsValuationOf p q y
  edge_wide q x y r edge = reached_valuation p q (IsDue p q) (due_message p fit q) x y r (edge_by_due q x y r edge)

  edge_begins : (q : ℕ) (x y : Valuation) (r : Code) → EdgeTo p q x y r → IsValuationOf p q x
  edge_begins q x y r edge =
      let (from, is) = reached_entry p q (IsDue p q) x y r (edge_by_due q x y r edge) in
      due_message p fit q (entry from x) is

  edge_stands : (q : ℕ) (x y : Valuation) (r : Code) → EdgeTo p q x y r → IsRestOf (body_of (slice_get p.routines q)) r
  edge_stands q x y r edge = reached_stands p q (IsDue p q) x y r (edge_by_due q x y r edge)

  -- the numbers of a message and of a path edge determine them
  pub due_told : (q : ℕ) (m : Message) → IsMessageTo p q m → IsNumberOf (IsDue p q) (by_numbers m) ↔ IsDue p q m
  due_told q m wide = (
    λ h. subst (IsDue p q) (sym (message_told p q m h.0 wide (due_message p fit q h.0 h.1) h.2)) h.1,
    λ is. (m, is, refl),
  )

  pub edge_told : IsInTextOrder p → (q : ℕ) (x y : Valuation) (r : Code) → IsValuationOf p q x → IsValuationOf p q y
      → IsRestOf (body_of (slice_get p.routines q)) r
      → AreNumbersOf (EdgeTo p q) (code x) (point_at r) (code y) ↔ EdgeTo p q x y r
  edge_told order q x y r begins wide stands = (there, λ edge. (x, y, r, edge, refl, refl, refl))
    where
      there : AreNumbersOf (EdgeTo p q) (code x) (point_at r) (code y) → EdgeTo p q x y r
      there (x', y', r', edge, ex, en, ey) =
          let ax : x' ≡ x = sym (valuation_told p q x x' begins (edge_begins q x' y' r' edge) ex) in
          let ay : y' ≡ y = sym (valuation_told p q y y' wide (edge_wide q x' y' r' edge) ey) in
          let ar : r' ≡ r = sym (rest_in_order_told p order q r r' stands (edge_stands q x' y' r' edge) en) in
          subst (EdgeTo p q x y) ar (subst (λ z. EdgeTo p q x z r') ay (subst (λ z. EdgeTo p q z y' r') ax edge))

module _ {A : Type 0} (p : Program) (graphs : List (Graph A)) (T : ℕ → NumberedMessage → Type 0) (fit : ArgumentsFit p)
    (are : AreGraphs p graphs)
    (opening : T 0 (numbered_entry starter 0))
    (sent : (q s : ℕ) (graph : Graph A) (k : NumberedMessage) → slice_get graphs q ≡ Some graph → Sends graph q (T q) s k → T s k)
    (due : (q : ℕ) (k : NumberedMessage) → T q k → IsNumberOf (IsDue p q) k) where
  pub pairs_left : IsInTextOrder p → (q : ℕ) (graph : Graph A) → slice_get graphs q ≡ Some graph → (a : ℕ) (b : Exit)
      → Leaves graph (T q) a b ↔ AreNumbersOfPair p q a b
  pairs_left order q graph here a b = (there, back)
    where
      there : Leaves graph (T q) a b → AreNumbersOfPair p q a b
      there (v, reached, eb) =
          let (x, y, r, edge, ea, en, ev) = (edges_taken p graphs T fit are opening sent due q graph here a 0 v).0 reached in
          let exit : r ≡ done = rest_in_order_told p order q r done (edge_stands p fit q x y r edge) (inl refl) (sym en) in
          let inside : EdgeTo p q x y done = subst (EdgeTo p q x y) exit edge in
          let wide = edge_wide p fit q x y r edge in (
            x,
            exit_of p q y,
            (pair_exit p q x (exit_of p q y)).1 (y.places, refl, inside),
            ea,
            eb ∙ ap (left_by graph) ev ∙ (are.1 q graph here).left y wide,
          )

      back : AreNumbersOfPair p q a b → Leaves graph (T q) a b
      back (x, g, pair, ea, eb) =
          let (l, given, edge) = (pair_exit p q x g).0 pair in
          let y : Valuation = record { globals = g.globals; places = l } in
          let wide = edge_wide p fit q x y done edge in (
            code y,
            (edges_taken p graphs T fit are opening sent due q graph here a 0 (code y)).1 (x, y, done, edge, ea, refl, refl),
            eb ∙ (λ i. exit_code (record { globals = g.globals; result = given i })) ∙ sym ((are.1 q graph here).left y wide),
          )

  -- some pair of the first procedure has `bad` if its graph is left with that bit
  pub bad_left : IsInTextOrder p → (graph : Graph A) → slice_get graphs 0 ≡ Some graph → (bad : ℕ)
      → SomeBad p bad ↔ ((a : ℕ) × (b : Exit) × Leaves graph (T 0) a b × (bit_of b.globals bad ≡ true))
  bad_left order graph here bad = (
    λ h. (
      code h.0,
      exit_code h.1,
      (pairs_left order 0 graph here (code h.0) (exit_code h.1)).1 (h.0, h.1, h.2, refl, refl),
      coded_bit h.1.globals bad ∙ h.3,
    ),
    back,
  )
    where
      back : (a : ℕ) × (b : Exit) × Leaves graph (T 0) a b × (bit_of b.globals bad ≡ true) → SomeBad p bad
      back (a, b, leaves, is) =
          let (x, g, pair, ea, eb) = (pairs_left order 0 graph here a b).0 leaves in
          (x, g, pair, sym (coded_bit g.globals bad) ∙ ap (λ (n : Exit). bit_of n.globals bad) (sym eb) ∙ is)

  -- the entries taken are those with which procedures are entered
  pub entries_taken : (q a : ℕ) → ((from : Caller) × T q (numbered_entry from a)) ↔ IsNumberOfEntry p q a
  entries_taken q a = (there, back)
    where
      of : (from : Caller) (m : Message) → IsDue p q m → numbered_entry from a ≡ by_numbers m → IsNumberOfEntry p q a
      of from (entry c x) is e = (x, due_entered p q c x is, ap entry_of e)
      of from (summary s x b) is e = absurd (entry_is from a s (code x) (exit_code b) e)

      there : (from : Caller) × T q (numbered_entry from a) → IsNumberOfEntry p q a
      there (from, had) = let (m, is, e) = due q (numbered_entry from a) had in of from m is e

      has : (from : Caller) (x : Valuation) → IsDue p q (entry from x) → a ≡ code x → (c : Caller) × T q (numbered_entry c a)
      has from x is e =
          (from, (taken_due p graphs T fit are opening sent due q (numbered_entry from a)).1 (entry from x, is, ap (numbered_entry from) e))

      back : IsNumberOfEntry p q a → (from : Caller) × T q (numbered_entry from a)
      back (x, inl begins, e) = has starter x begins e
      back (x, inr (c, asking), e) = has (caller c) x asking e
