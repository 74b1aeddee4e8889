-- What a search begins with.
use Rattle.std.proofs.Common.{◌≡◌, ◌⊎◌, ℕ, zero, suc, ◌+◌, ◌<◌, ◌≤◌, true, false, Option, None, Result, Ok, Err, List, [], ◌∷◌, ◌++◌, Some}
use Rattle.std.proofs.Common.{length, map, set, slice_get, get_or, inl, inr, refl, sym, ◌∙◌, ap, subst, arith, true≢false}
use Rattle.std.proofs.lemmas.Bool.{cases_lt}
use Rattle.language.specs.Lists.{Member}
use Rattle.std.proofs.lemmas.Option.{slice_get_past, same_Some, none-some}
use Rattle.std.specs.Result.{OkIff, result_ok}
use Rattle.turns.specs.Numbered.{first_frame, placed}
use Rattle.flow_graph.specs.Drawn.{graphs_of, opening_point}
use Rattle.flow_graph.specs.declared.graph.Graph.{Graph}
use Rattle.source_graphs.specs.declared.source.SourceGraphs.{SourceGraphs}
use Rattle.turns.specs.Between.{Threads, Between, begins}
use Rattle.turns.specs.Stacks.{InNode}
use Rattle.turns.specs.declared.numbered_frame.NumberedFrame.{NumberedFrame}
use Rattle.stack_sets.specs.Nodes.{AtNode, IsNumbered, HasContent, MayAdd, by_number, head_over, IsPrefix}
use Rattle.stack_sets.specs.declared.node.Head.{Head}
use Rattle.stack_sets.specs.declared.node.Node.{Node}
use Rattle.stack_sets.specs.Turns.{AreWhole}
use Rattle.exploration.specs.declared.kept_turns.KeptTurn.{KeptTurn}
use Rattle.exploration.specs.declared.tuple.Tuple.{Tuple}
use Rattle.exploration.specs.Met.{Stacks, Adds, AreHeld, AreMet}
use Rattle.exploration.specs.Searched.{threads_by, IsReached, IsTuple, HasCome}
use Rattle.exploration.specs.Starts.{first_stack, IsAlone, AreBegun, IsFirstTuple}
use Rattle.exploration.proofs.ComeLemmas.{less_or_same, met_at_first, holds_at_first}
use Rattle.exploration.proofs.GrowLemmas.{get_member}
use Rattle.stack_sets.proofs.GrowLemmas.{in_later, in_before, in_within}
use Rattle.exploration.proofs.SearchLemmas.{threads_count}
use Rattle.exploration.proofs.TurnLemmas.{prefix_length}

module _ {Alloc : Type 0} where
  -- a node that is added is the last one
  at_last : (old : List (Node Alloc)) (x : Node Alloc) (n : ℕ) (P : Node Alloc → Type 0) → AtNode (slice_get (old ++ x ∷ []) n) P
      → AtNode (slice_get old n) P ⊎ P x
  at_last [] x zero P at = inr at
  at_last [] x (suc n) P at = absurd at
  at_last (y ∷ old) x zero P at = inl at
  at_last (y ∷ old) x (suc n) P at = at_last old x n P at

  pub alone_later : (old new : List (Node Alloc)) → IsPrefix old new → AreWhole old → (q : ℕ) (stack : List NumberedFrame)
      → IsAlone old q stack → IsAlone new q stack
  alone_later old new prefix whole q stack alone = λ other.
      let here : InNode (by_number old) q stack = (alone stack).1 refl in (
        λ is. (alone other).0 (in_before old new prefix whole q other (in_within old q stack here) is),
        λ e. in_later old new prefix q other ((alone other).1 e),
      )

  begun_add : (old : List (Node Alloc)) (node : Node Alloc) (f : NumberedFrame) → AreBegun old → node.heads.items ≡ head_over f 0 ∷ []
      → AreBegun (old ++ node ∷ [])
  begun_add old node f begun heads =
      let new : List (Node Alloc) = old ++ node ∷ [] in
      let prefix : IsPrefix old new = (node ∷ [], refl) in
      let bottom : IsAlone new 0 [] = alone_later old new prefix begun.whole 0 [] begun.bottom in
      let there : InNode (by_number new) 0 [] = (bottom []).1 refl in
      let longer : length old ≤ length new = prefix_length old new prefix in
      let over : (k : NumberedFrame) (r : ℕ) → Member (head_over k r) node.heads.items → r ≡ 0 = λ k r m.
      elim (subst (Member (head_over k r)) heads m) [ inl e ↦ ap (λ (z : Head). z.below) e | inr none ↦ absurd none ] in record {
        whole = record {
          within = λ q k r has. elim (at_last old node q (λ z. Member (head_over k r) z.heads.items) has) [
            | inl is ↦ let less : r < length old = begun.whole.within q k r is in omega (arith, less, longer)
            | inr m ↦ subst (λ z. z < length new) (sym (over k r m)) (in_within new 0 [] there)
          ];
          full = λ q k r has. elim (at_last old node q (λ z. Member (head_over k r) z.heads.items) has) [
            | inl is ↦ let (stack, inside) = begun.whole.full q k r is in (stack, in_later old new prefix r stack inside)
            | inr m ↦ ([], subst (λ z. InNode (by_number new) z []) (sym (over k r m)) there)
          ];
        };
        bottom = bottom;
      }

  pub begun_may : (old new : List (Node Alloc)) (node : Node Alloc) (f : NumberedFrame) → AreBegun old
      → node.heads.items ≡ head_over f 0 ∷ [] → MayAdd node old new → AreBegun new
  begun_may old new node f begun heads (inl e) = subst AreBegun (sym e) (begun_add old node f begun heads)
  begun_may old new node f begun heads (inr e) = subst AreBegun (sym e) begun

  -- the node of one head over the first node
  pub alone_head : (nodes : List (Node Alloc)) (node : Node Alloc) (n : ℕ) (f : NumberedFrame) → AreBegun nodes → node.bare ≡ false
      → node.heads.items ≡ head_over f 0 ∷ [] → HasContent nodes n node → IsAlone nodes n (f ∷ [])
  alone_head nodes node n f begun bare heads has = by (slice_get nodes n) refl has
    where
      by : (o : Option (Node Alloc)) → slice_get nodes n ≡ o → AtNode o (λ z. (z.bare ≡ node.bare) × (z.heads.items ≡ node.heads.items))
          → IsAlone nodes n (f ∷ [])
      by None e at = absurd at
      by (Some z) e (same, same') = λ other. (there other, back other)
        where
          there : (other : List NumberedFrame) → InNode (by_number nodes) n other → other ≡ f ∷ []
          there [] is =
              let is' : z.bare ≡ true = subst (λ o. AtNode o (λ x. x.bare ≡ true)) e is in
              absurd (true≢false (sym is' ∙ same ∙ bare))
          there (k ∷ ks) (r, is, rest) =
              let is' : Member (head_over k r) z.heads.items = subst (λ o. AtNode o (λ x. Member (head_over k r) x.heads.items)) e is in
              elim (subst (Member (head_over k r)) (same' ∙ heads) is') [
                | inl here ↦
                    let low : r ≡ 0 = ap (λ (h : Head). h.below) here in
                    let none : ks ≡ [] = (begun.bottom ks).0 (subst (λ q. InNode (by_number nodes) q ks) low rest) in
                    let top : k ≡ f = ap (λ (h : Head). h.frame) here in
                    λ i. top i ∷ none i
                | inr none ↦ absurd none
              ]

          back : (other : List NumberedFrame) → other ≡ f ∷ [] → InNode (by_number nodes) n other
          back other e' =
              let m : Member (head_over f 0) z.heads.items = subst (Member (head_over f 0)) (sym (same' ∙ heads)) (inl refl) in
              let is : InNode (by_number nodes) n (f ∷ []) =
              (0, subst (λ o. AtNode o (λ x. Member (head_over f 0) x.heads.items)) (sym e) m, (begun.bottom []).1 refl) in
              subst (InNode (by_number nodes) n) (sym e') is

  -- one node that is bare and has no heads
  pub begun_first : (nodes : List (Node Alloc)) → length nodes ≡ 1 → IsNumbered nodes 0 true [] → AreBegun nodes
  begun_first [] one is = absurd (omega (arith, one))
  begun_first (x ∷ y ∷ nodes) one is = absurd (omega (arith, one))
  begun_first (x ∷ []) one (bare, none) = record {
    whole = record {
      within = λ q f r has. absurd (no_heads q f r has);
      full = λ q f r has. absurd (no_heads q f r has);
    };
    bottom = λ other. (there other, λ e. subst (InNode (by_number (x ∷ [])) 0) (sym e) bare);
  }
    where
      no_heads : (q : ℕ) (f : NumberedFrame) (r : ℕ) → (by_number (x ∷ [])).Has q f r → ⊥
      no_heads zero f r m = subst (Member (head_over f r)) none m
      no_heads (suc q) f r at = at

      there : (other : List NumberedFrame) → InNode (by_number (x ∷ [])) 0 other → other ≡ []
      there [] is = refl
      there (f ∷ fs) (r, has, rest) = absurd (no_heads 0 f r has)

-- the first stack of a procedure that has a graph
pub first_there : {G : Type 0} (graphs : List (Graph G)) (procedure point : ℕ) (graph : Graph G) → slice_get graphs procedure ≡ Some graph
    → point ≡ opening_point graph → first_stack graphs procedure ≡ placed procedure point 0 ∷ []
first_there graphs procedure point graph at start =
    ap (first_frame graphs procedure) at ∙ ap (λ z. placed procedure z 0 ∷ []) (sym start)

-- and of one that has none
pub first_absent : {G : Type 0} (graphs : List (Graph G)) (procedure : ℕ) → length graphs ≤ procedure → first_stack graphs procedure ≡ []
first_absent graphs procedure past = ap (first_frame graphs procedure) (slice_get_past graphs procedure past)

-- what a write leaves
pub get_set_same : (qs : List ℕ) (i m : ℕ) → i < length qs → get_or (set qs i m) i 0 ≡ m
get_set_same [] i m small = absurd (omega (arith, small))
get_set_same (q ∷ qs) zero m small = refl
get_set_same (q ∷ qs) (suc i) m small = get_set_same qs i m (omega (arith, small))

pub get_set_other : (qs : List ℕ) (i m k : ℕ) → (k ≡ i → ⊥) → get_or (set qs i m) k 0 ≡ get_or qs k 0
get_set_other [] i m k other = refl
get_set_other (q ∷ qs) zero m zero other = absurd (other refl)
get_set_other (q ∷ qs) zero m (suc k) other = refl
get_set_other (q ∷ qs) (suc i) m zero other = refl
get_set_other (q ∷ qs) (suc i) m (suc k) other = get_set_other qs i m k (λ e. other (ap suc e))

-- what is in a list is read somewhere
member_at : (q : ℕ) (qs : List ℕ) → Member q qs → (k : ℕ) × (q ≡ get_or qs k 0)
member_at q [] m = absurd m
member_at q (x ∷ qs) (inl e) = (0, e)
member_at q (x ∷ qs) (inr m) = let (k, e) = member_at q qs m in (suc k, e)

module _ {Alloc G : Type 0} (nodes : List (Node Alloc)) (graphs : List (Graph G)) where
  abbrev AreAlone : List ℕ → List ℕ → Type 0
  AreAlone procedures qs = (k : ℕ) → k < length procedures → IsAlone nodes (get_or qs k 0) (first_stack graphs (get_or procedures k 0))

  held_from : (procedures qs : List ℕ) → length procedures ≤ length qs → AreAlone procedures qs
      → AreHeld nodes (map (first_stack graphs) procedures) qs
  held_from [] qs few alone = tt
  held_from (c ∷ procedures) [] few alone = absurd (omega (arith, few))
  held_from (c ∷ procedures) (q ∷ qs) few alone = (
    (alone 0 (omega arith) (first_stack graphs c)).1 refl,
    held_from procedures qs (omega (arith, few)) (λ k small. alone (suc k) (omega (arith, small))),
  )

  only_from : (procedures qs : List ℕ) → AreAlone procedures qs → (stacks : Stacks) → length stacks ≡ length procedures
      → AreHeld nodes stacks qs → stacks ≡ map (first_stack graphs) procedures
  only_from [] qs alone [] n held = refl
  only_from [] qs alone (s ∷ stacks) n held = absurd (omega (arith, n))
  only_from (c ∷ procedures) qs alone [] n held = absurd (omega (arith, n))
  only_from (c ∷ procedures) [] alone (s ∷ stacks) n held = absurd held
  only_from (c ∷ procedures) (q ∷ qs) alone (s ∷ stacks) n held =
      let top : s ≡ first_stack graphs c = (alone 0 (omega arith) s).0 held.0 in
      let rest : stacks ≡ map (first_stack graphs) procedures =
      only_from procedures qs (λ k small. alone (suc k) (omega (arith, small))) stacks (omega (arith, n)) held.1 in
      λ i. top i ∷ rest i

  pub first_is : (procedures qs : List ℕ) → length procedures ≤ 8 → length qs ≡ 8 → AreBegun nodes → AreAlone procedures qs
      → ((k : ℕ) → length procedures ≤ k → get_or qs k 0 ≡ 0) → (t : Tuple) → t.globals ≡ 0 → t.thread ≡ 0 → t.nodes ≡ qs
      → IsFirstTuple nodes graphs procedures t
  first_is procedures qs few places begun alone rest t globals thread same = record {
    globals = globals;
    thread = thread;
    places = ap length same ∙ places;
    full = λ q m. let (k, e) = member_at q qs (subst (Member q) same m) in
        subst (λ z. (stack : List NumberedFrame) × InNode (by_number nodes) z stack) (sym e) (some k);
    held =
        subst (AreHeld nodes (map (first_stack graphs) procedures)) (sym same) (held_from procedures qs (omega (arith, few, places)) alone);
    only = λ stacks n held. only_from procedures qs alone stacks n (subst (AreHeld nodes stacks) same held);
  }
    where
      some : (k : ℕ) → (stack : List NumberedFrame) × InNode (by_number nodes) (get_or qs k 0) stack
      some k = elim (cases_lt k (length procedures)) [
        | inr past ↦ ([], subst (λ z. InNode (by_number nodes) z []) (sym (rest k past)) ((begun.bottom []).1 refl))
        | inl small ↦ (first_stack graphs (get_or procedures k 0), (alone k small (first_stack graphs (get_or procedures k 0))).1 refl)
      ]

-- a search with one tuple, the first
module _ {Alloc G : Type 0} (source : SourceGraphs G) (procedures : List ℕ) (nodes : List (Node Alloc)) (t : Tuple)
    (first : IsFirstTuple nodes (graphs_of source.graphs) procedures t) where
  abbrev p : Threads ℕ NumberedFrame
  p = threads_by source procedures

  first_reached : IsReached p nodes 0 t
  first_reached had left place count held = by had place count held
    where
      by : (had : Stacks) → length had ≡ t.thread → length had + length left ≡ length p.stacks → AreHeld nodes (had ++ left) t.nodes
          → (r : ℕ) × (r ≤ 0) × Between p r t.globals had left
      by (s ∷ had) place count held = let e = first.thread in absurd (omega (arith, place, e))
      by [] place count held =
          let n = threads_count source procedures in
          let all : left ≡ p.stacks = first.only left (omega (arith, count, n)) held in
          let at : Between p 0 t.globals [] left =
          subst (λ z. Between p 0 z [] left) (sym first.globals) (subst (λ z. Between p 0 0 [] z) (sym all) begins) in
          (0, omega arith, at)

  pub has_begun : AreBegun nodes → 0 < length procedures → (turns : List (KeptTurn Alloc)) → turns ≡ [] → (tuples : List Tuple)
      → Adds (λ z. z ≡ t) [] tuples → Member t tuples → HasCome p nodes turns tuples 0 0 0
  has_begun begun some turns none tuples (more, e, ps) m =
      let n = threads_count source procedures in
      let within : 0 < length p.stacks = omega (arith, n, some) in
      let is_first : (z : Tuple) → Member z tuples → z ≡ t = λ z m. ps z (subst (Member z) e m) in
      let is : IsTuple p nodes t =
      record { thread = subst (λ z. z < length p.stacks) (sym first.thread) within; places = first.places; full = first.full } in
      let starts : AreMet nodes tuples p.globals [] p.stacks = met_start p.stacks within first.held in record {
        searched = record {
          whole = begun.whole;
          made = λ turn m. absurd (subst (Member turn) none m);
          each = λ z m. subst (IsTuple p nodes) (sym (is_first z m)) is;
          starts = starts;
          done = λ j z small at. absurd (omega (arith, small));
          few = omega arith;
        };
        within = within;
        waits = λ j z few at. ap (λ (x : Tuple). x.thread) (is_first z (get_member tuples j z at)) ∙ first.thread;
        reached = λ z m. subst (IsReached p nodes 0) (sym (is_first z m)) first_reached;
        met = met_at_first p nodes tuples starts;
        holds = holds_at_first p;
      }
    where
      met_start : (stacks : Stacks) → 0 < length stacks → AreHeld nodes stacks t.nodes → AreMet nodes tuples 0 [] stacks
      met_start [] some held = absurd (omega (arith, some))
      met_start (s ∷ stacks) some held = (t, m, first.thread, first.globals, held)

-- a number that fits is the same
pub fits_same : {E : Type 0} (r : Result ℕ E) (P : Type 0) (v x : ℕ) → OkIff r P v → result_ok r ≡ Some x → x ≡ v
fits_same (Ok y) P v x is e = let same : y ≡ x = same_Some y x e in sym same ∙ is.1
fits_same (Err y) P v x is e = absurd (none-some x e)

-- one thread's node more
pub alone_more : {Alloc G : Type 0} (old new : List (Node Alloc)) (graphs : List (Graph G)) (procedures qs : List ℕ) (i m x : ℕ)
    → IsPrefix old new → AreWhole old → i < length qs → x ≡ m
    → ((k : ℕ) → k < i → IsAlone old (get_or qs k 0) (first_stack graphs (get_or procedures k 0)))
    → IsAlone new m (first_stack graphs (get_or procedures i 0))
    → (k : ℕ) → k < i + 1 → IsAlone new (get_or (set qs i x) k 0) (first_stack graphs (get_or procedures k 0))
alone_more old new graphs procedures qs i m x prefix whole small same done here k less =
    elim (less_or_same k i (omega (arith, less))) [
      | inl before ↦ subst (λ z. IsAlone new z (first_stack graphs (get_or procedures k 0)))
          (sym (get_set_other qs i x k (λ e. omega (arith, before, e))))
          (alone_later old new prefix whole (get_or qs k 0) (first_stack graphs (get_or procedures k 0)) (done k before))
      | inr e ↦ subst (λ z. IsAlone new (get_or (set qs i x) z 0) (first_stack graphs (get_or procedures z 0))) (sym e)
          (subst (λ z. IsAlone new z (first_stack graphs (get_or procedures i 0))) (sym (get_set_same qs i x small ∙ same)) here)
    ]
