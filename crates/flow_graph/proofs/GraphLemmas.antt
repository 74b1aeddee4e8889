-- A graph whose flows do what happens at the points of a procedure's body has the procedure's steps.
use Rattle.std.proofs.Common.{◌≡◌, ◌↔◌, ◌≤◌, ◌+◌, ◌-◌, ℕ, zero, suc, Bool, Option, Some}
use Rattle.std.proofs.Common.{None, option_map, List, [], ◌∷◌, ◌++◌, length}
use Rattle.std.proofs.Common.{map, slice_get, inl, inr, refl, sym, ◌∙◌, ap, subst, arith, ◌*◌, ◌⊎◌, get_or}
use Rattle.std.proofs.lemmas.List.{length-map, append_assoc}
use Rattle.std.proofs.lemmas.Option.{none-some, same_Some, slice_get-map, slice_get-get_or, slice_get_within}
use Rattle.language.specs.Tree.{Expression, goto, call, call_for, done, one}
use Rattle.language.specs.Tree.{Procedure}
use Rattle.language.specs.Value.{Place, values_of}
use Rattle.language.specs.Rest.{Code, rest_from, called_by, target_of}
use Rattle.language.specs.Resolve.{Scope, resolve_block, gives_value}
use Rattle.language.specs.Step.{Routine, Program, zeros, fresh, frame_size, result_of, AtRoutine, body_of}
use Rattle.language.specs.Sequential.{statements, numbered, Valuation, AtCall, resumed_with, sequential_of}
use Rattle.language.specs.Flow.{rests, IsRestOf, after_first}
use Rattle.language.specs.Lists.{Member}
use Rattle.language.specs.Messages.{IsValuationOf, ArgumentsFit}
use Rattle.language.proofs.Entering.{call_shape}
use Rattle.language.proofs.RestPoints.{rest_at_point, rests_count}
use Rattle.language.proofs.Lengths.{length_values, places_within}
use Rattle.language.proofs.StepKinds.{routine_found}
use Rattle.trees.specs.declared.tree.Program as tree
use Rattle.trees.specs.declared.tree.Proc.{Proc}
use Rattle.trees.specs.declared.tree.Name.{Name}
use Rattle.trees.specs.declared.tree.Stmt.{Stmt}
use Rattle.trees.specs.Trees.{tree_of, proc_of, procs_of, names_of, block_of}
use Rattle.resolved.specs.Resolves.{Resolves}
use Rattle.resolved.specs.Narrow.{AllNarrow}
use Rattle.resolved.proofs.Sequences.{resolving_fit, routines_counted, routine_at, narrow_places}
use Rattle.flow_graph.specs.Bits.{has_any, worth_of, coded}
use Rattle.flow_graph.specs.Nodes.{Node, point_number, point_at, node_of, nodes_of, goes_to, target_in, Leads, NodeCalls}
use Rattle.flow_graph.specs.Flows.{code, Widths, widths_of, HasWidths, NodeEnters, Does, AllDo, Lowered}
use Rattle.flow_graph.specs.Graphs.{StepEnters, HasSteps, AtFlow, IsGraph}
use Rattle.flow_graph.specs.Drawing.{IsGraphOf, ScopeHasRoom, names_in, drawn_routine}
use Rattle.flow_graph.specs.declared.flow.Flow.{Flow}
use Rattle.flow_graph.specs.declared.graph.Graph.{Graph}
use Rattle.flow_graph.proofs.Nodes.{flow_leads, lead_flows}
use Rattle.flow_graph.specs.declared.flow.Flow.TheVariants as flow
use Rattle.flow_graph.proofs.NumberLemmas.{left_coded}
use Rattle.flow_graph.proofs.FlowLemmas.{does_return}
use Rattle.flow_graph.proofs.Returns.{result_code}
use Rattle.resolved.specs.Limits.{most_places}

-- the flow at a place does what happens at the node there
all_do_at : {A : Type 0} (fs : List (Flow A)) (ns : List Node) (w : Widths) (i : ℕ) (n : Node) → AllDo fs ns w →
    slice_get ns i ≡ Some n → (f : Flow A) × (slice_get fs i ≡ Some f) × Does f n w
all_do_at fs [] w i n a e = absurd (none-some _ e)
all_do_at [] (x ∷ ns) w i n a e = absurd a
all_do_at (f ∷ fs) (x ∷ ns) w zero n a e = (f, refl, subst (λ z. Does f z w) (same_Some x n e) a.0)
all_do_at (f ∷ fs) (x ∷ ns) w (suc i) n a e = all_do_at fs ns w i n a.1 e

all_do_length : {A : Type 0} (fs : List (Flow A)) (ns : List Node) (w : Widths) → AllDo fs ns w → length fs ≡ length ns
all_do_length [] [] w a = refl
all_do_length (f ∷ fs) (n ∷ ns) w a = ap suc (all_do_length fs ns w a.1)
all_do_length _ _ w a = absurd a

-- a member has a place
member_place : {A : Type 0} (x : A) (xs : List A) → Member x xs → (i : ℕ) × (slice_get xs i ≡ Some x)
member_place x [] h = absurd h
member_place x (y ∷ ys) (inl e) = (0, ap Some (sym e))
member_place x (y ∷ ys) (inr h) = let (i, is) = member_place x ys h in (suc i, is)

-- each rest is at its point, the exit first
pub rest_placed : (b r : Code) → IsRestOf (numbered 1 b) r → slice_get (done ∷ rests (numbered 1 b) done) (point_at r) ≡ Some r
rest_placed b r (inl e) = subst (λ z. slice_get (done ∷ rests (numbered 1 b) done) (point_at z) ≡ Some z) (sym e) refl
rest_placed b r (inr h) =
    let (i, is) = member_place r (rests (numbered 1 b) done) h in
    let point = ((rest_at_point b r i).0 is).1 in
    ap (λ o. slice_get (done ∷ rests (numbered 1 b) done) (point_number o)) point ∙ is

-- places of 0 add nothing to a number
coded_fresh : (g : List Bool) (n : ℕ) (args : List Bool) → coded (g ++ fresh n args) ≡ coded (g ++ args)
coded_fresh g n args = ap coded (sym (append_assoc g args (zeros (n - length args)))) ∙ above (g ++ args) (n - length args)
  where
    above : (xs : List Bool) (n : ℕ) → coded (xs ++ zeros n) ≡ coded xs
    above [] zero = refl
    above [] (suc n) = let e : coded (zeros n) ≡ 0 = above [] n in omega (arith, e)
    above (x ∷ xs) n = ap (λ k. worth_of x + 2 * k) (above xs n)

-- only a node of a call calls, and it calls what the statement calls
module _ (routine : Routine) (v : Valuation) (s n : ℕ) (args : List Bool) where
  no_jump : (o : Option Code) → NodeCalls (goes_to o) v s args n → ⊥
  no_jump None h = h
  no_jump (Some r) h = h

  asks_shape : (r : Code) → NodeCalls (node_of routine r) v s args n →
      (es : List (Expression Place)) × (called_by r ≡ Some (s, es)) × (args ≡ values_of v.globals v.places es)
      × (n ≡ point_at (after_first r))
  asks_shape (one m (goto x) t) h = absurd (no_jump (rest_from x routine.body done) h)
  asks_shape (one m (call p es) t) (same, are, to) = (es, ap (λ k. Some (k, es)) (sym same), are, to)
  asks_shape (one m (call_for x p es) t) (same, are, to) = (es, ap (λ k. Some (k, es)) (sym same), are, to)
  asks_shape _ h = absurd h

  called : (p : ℕ) (us es : List (Expression Place)) (k : ℕ) → ◌≡◌ {A = ℕ × List (Expression Place)} (p, us) (s, es) →
      args ≡ values_of v.globals v.places es → n ≡ k → (s ≡ p) × (args ≡ values_of v.globals v.places us) × (n ≡ k)
  called p us es k e are to = (
    sym (ap (λ (z : ℕ × List (Expression Place)). z.0) e),
    are ∙ ap (λ (z : ℕ × List (Expression Place)). values_of v.globals v.places z.1) (sym e),
    to,
  )

  calls_shape : (r : Code) (es : List (Expression Place)) → called_by r ≡ Some (s, es) → args ≡ values_of v.globals v.places es →
      n ≡ point_at (after_first r) → NodeCalls (node_of routine r) v s args n
  calls_shape (one m (call p us) t) es e are to = called p us es (point_at t) (same_Some (p, us) (s, es) e) are to
  calls_shape (one m (call_for x p us) t) es e are to = called p us es (point_at t) (same_Some (p, us) (s, es) e) are to
  calls_shape _ es e are to = absurd (none-some (s, es) e)

-- the variable that a node calls for is the one that the statement calls for
module _ (routine : Routine) where
  jumps_for_none : (o : Option Code) → target_in (goes_to o) ≡ None
  jumps_for_none None = refl
  jumps_for_none (Some r) = refl

  called_for : (r : Code) → target_in (node_of routine r) ≡ target_of r
  called_for (one m (goto x) t) = jumps_for_none (rest_from x routine.body done)
  called_for _ = refl

-- the widths of a procedure of the program
abbrev widths_in : Program → Routine → Widths
widths_in p routine = record { globals = p.globals; places = frame_size routine; procedures = length p.routines }

module _ (p : Program) (q : ℕ) (routine : Routine) (there : slice_get p.routines q ≡ Some routine) (fit : ArgumentsFit p)
    (narrow : (s : ℕ) (r : Routine) → slice_get p.routines s ≡ Some r → p.globals + frame_size r ≤ most_places) where
  abbrev body : Code
  body = body_of (slice_get p.routines q)

  wide : (v : Valuation) → IsValuationOf p q v → HasWidths (widths_in p routine) v
  wide v w = (w.0, subst (λ o. AtRoutine o (λ r. length v.places ≡ frame_size r)) there w.1)

  -- what a node calls is what a step enters
  node_enters : (r : Code) → IsRestOf body r → (v : Valuation) (s e n : ℕ) → IsValuationOf p q v →
      NodeEnters (node_of routine r) (length p.routines) v s e n ↔ StepEnters p r v s e n
  node_enters r rest v s e n w = (there_too, back)
    where
      there_too : NodeEnters (node_of routine r) (length p.routines) v s e n → StepEnters p r v s e n
      there_too (args, asks, less, few, is) =
          let (es, at, are, to) = asks_shape routine v s n args r asks in
          let callee = get_or p.routines s routine in
          let found : slice_get p.routines s ≡ Some callee = slice_get-get_or p.routines s routine less in
          let values = values_of v.globals v.places es in
          let a : Valuation = record { globals = v.globals; places = fresh (frame_size callee) values } in
          let Is : List (Expression Place) → Routine → Type 0 =
          λ us z. a ≡ record { globals = v.globals; places = fresh (frame_size z) (values_of v.globals v.places us) } in (
            a,
            subst (λ o. AtCall o (λ k us. (k ≡ s) × AtRoutine (slice_get p.routines s) (Is us))) (sym at)
                (refl, subst (λ o. AtRoutine o (Is es)) (sym found) refl),
            is ∙ ap (λ bs. coded (v.globals ++ bs)) are ∙ sym (coded_fresh v.globals (frame_size callee) values),
            to,
          )

      back : StepEnters p r v s e n → NodeEnters (node_of routine r) (length p.routines) v s e n
      back (a, calls, is, to) =
          let (es, at, h) = call_shape p v.globals v.places r s a calls in
          let args = values_of v.globals v.places es in
          let Is : Routine → Type 0 = λ z. a ≡ record { globals = v.globals; places = fresh (frame_size z) args } in
          let (callee, found, made) = routine_found (slice_get p.routines s) Is h in
          let at_call = fit q s r es rest at in
          let room : length es ≤ callee.places = subst (λ o. AtRoutine o (λ z. length es ≤ z.places)) found at_call in
          let few = narrow s callee found in (
            args,
            calls_shape routine v s n args r es at refl to,
            slice_get_within p.routines s callee found,
            omega (arith, few, room, places_within callee, length_values v.globals v.places es, w.0),
            is ∙ ap code made ∙ coded_fresh v.globals (frame_size callee) args,
          )

  has_steps : {A : Type 0} (f : Flow A) (r : Code) → IsRestOf body r → Does f (node_of routine r) (widths_in p routine) →
      HasSteps p q r f
  has_steps f r rest d = record {
    leads = λ v n k w. (
      λ h.
          let (v', leads, is) = (d.leads v n k (wide v w)).0 h in
          let (r', flow, to) = lead_flows p q routine there v v' r n leads in
          (v', r', flow, to, is),
      λ h.
          let (v', r', flow, to, is) = h in
          (d.leads v n k (wide v w)).1
          (v', subst (λ z. Leads (node_of routine r) v z v') (sym to) (flow_leads p q routine there v v' r r' flow), is),
    );
    once = λ v i j n k w. d.once v i j n k (wide v w);
    enters = λ v s e n w. (
      λ h. (node_enters r rest v s e n w).0 ((d.enters v s e n (wide v w)).0 h),
      λ h. (d.enters v s e n (wide v w)).1 ((node_enters r rest v s e n w).1 h),
    );
    resumes = λ v x s e n w count h.
        d.resumes v x s e n (wide v w) count h ∙ ap (λ t. code (resumed_with t v x)) (called_for routine r);
  }

-- a drawn graph is that of the procedure with its number
pub drawn_graph : {N A : Type 0} (t : tree.Program N) (q : ℕ) (proc : Proc N) (graph : Graph A) → Resolves (tree_of t)
    → AllNarrow (tree_of t) → slice_get t.procs.items q ≡ Some proc → IsGraphOf t proc graph →
    IsGraph (sequential_of (tree_of t)) q graph
drawn_graph {N} {A} t q proc graph resolves narrow is draws = record {
  globals = draws.0;
  start = draws.1 ∙ ap point_at (sym same);
  points =
      all_do_length graph.flows.items (nodes_of own) _ draws.2
      ∙ ap suc (length-map (rests own.body done) (node_of own) ∙ sym (numbers_counted own.body))
      ∙ ap (λ b. suc (statements b)) (sym same);
  steps = λ r rest. flow_at r (subst (λ b. IsRestOf b r) same rest);
  left = λ v wide i. record {
    globals = left_coded graph.globals v (wide.0 ∙ sym draws.0) i;
    result = (ap (has_any (code v)) draws.3 ∙ result_code own (length (names_in t proc).globals) v wide.0
        ∙ ap (λ o. result_of o v.places) (sym there)) i;
  };
}
  where
    p : Program
    p = sequential_of (tree_of t)

    own : Routine
    own = drawn_routine t proc

    there : slice_get p.routines q ≡ Some own
    there = routine_at (tree_of t) q (proc_of proc) (slice_get-map proc_of t.procs.items q ∙ ap (option_map proc_of) is)

    same : body_of (slice_get p.routines q) ≡ own.body
    same = ap body_of there

    numbers_counted : (b : Code) → statements b ≡ length (rests b done)
    numbers_counted b = sym (rests_count b done)

    procedures : length (names_in t proc).procedures ≡ length p.routines
    procedures = length-map (tree_of t).procedures _ ∙ sym (routines_counted (tree_of t))

    flow_at : (r : Code) → IsRestOf own.body r → AtFlow (slice_get graph.flows.items (point_at r)) (HasSteps p q r)
    flow_at r rest =
        let placed = slice_get-map (node_of own) (done ∷ rests own.body done) (point_at r) ∙
        ap (option_map (node_of own)) (rest_placed (resolve_block (names_in t proc) (proc_of proc).body) r rest) in
        let flows = graph.flows.items in
        let (f, at_r, does) = all_do_at flows (nodes_of own) _ (point_at r) (node_of own r) draws.2 placed in
        let widths : ℕ → Widths = λ m. record { globals = p.globals; places = frame_size own; procedures = m } in
        subst (λ o. AtFlow o (HasSteps p q r)) (sym at_r)
        (has_steps p q own there (resolving_fit (tree_of t) resolves) (narrow_places (tree_of t) narrow) f r
        (subst (λ b. IsRestOf b r) (sym same) rest) (subst (λ m. Does f (node_of own r) (widths m)) procedures does))

-- the names in a scope and a procedure, by what declares them
abbrev pub scope_in : {N : Type 0} → List (Name N) → List (Name N) → List (Name N) → List (Proc N) → Scope
scope_in gs fs ls ps = record {
  globals = names_of gs;
  locals = names_of fs ++ names_of ls;
  procedures = map (λ (p : Procedure). p.name) (procs_of ps);
}

abbrev pub routine_in : {N : Type 0} → List (Name N) → List (Name N) → List (Name N) → List (Proc N) → List (Stmt N) → Routine
routine_in gs fs ls ps b = record {
  places = length (names_of fs ++ names_of ls);
  gives = gives_value (block_of b);
  body = numbered 1 (resolve_block (scope_in gs fs ls ps) (block_of b));
}

abbrev DrawnIn : {N A : Type 0} → List (Name N) → List (Name N) → List (Name N) → List (Proc N) → List (Stmt N) → List (Flow A) → Type 0
DrawnIn gs fs ls ps b flows =
    AllDo flows (nodes_of (routine_in gs fs ls ps b)) (widths_of (scope_in gs fs ls ps) (gives_value (block_of b)))

-- what happens at the points of the body, numbered from n on
abbrev nodes_in : {N : Type 0} → List (Name N) → List (Name N) → List (Name N) → List (Proc N) → List (Stmt N) → ℕ →
    List Node
nodes_in gs fs ls ps b n =
    map (node_of (routine_in gs fs ls ps b)) (rests (numbered n (resolve_block (scope_in gs fs ls ps) (block_of b))) done)

-- after the exit's flow, those of the body
pub drawn_flows : {N A : Type 0} (gs gs' fs fs' ls ls' : List (Name N)) (ps ps' : List (Proc N)) (b b' : List (Stmt N))
    (old new : List (Flow A)) → gs ≡ gs' → fs ≡ fs' → ls ≡ ls' → ps ≡ ps' → b ≡ b' → old ≡ flow.Return ∷ [] →
    Lowered old new (nodes_in gs fs ls ps b (length old)) (widths_of (scope_in gs fs ls ps) (gives_value (block_of b))) →
    DrawnIn gs' fs' ls' ps' b' new
drawn_flows {N} {A} gs gs' fs fs' ls ls' ps ps' b b' old new eg ef el ep eb start (behind, is, all) =
    subst (λ z. DrawnIn z fs' ls' ps' b' new) eg
    (subst (λ z. DrawnIn gs z ls' ps' b' new) ef
    (subst (λ z. DrawnIn gs fs z ps' b' new) el
    (subst (λ z. DrawnIn gs fs ls z b' new) ep
    (subst (λ z. DrawnIn gs fs ls ps z new) eb
    (subst (λ z. DrawnIn gs fs ls ps b z) (sym (is ∙ ap (λ o. o ++ behind) start)) (
      does_return _,
      subst (λ n. AllDo behind (nodes_in gs fs ls ps b n) (widths_of (scope_in gs fs ls ps) (gives_value (block_of b)))) (ap length start)
          all,
    ))))))

-- each of these is made of the procedure with its number
abbrev pub AllMade : {P X : Type 0} → (P → X → Type 0) → List P → List X → Type 0
AllMade {P} {X} Makes ps xs = (q : ℕ) (x : X) → slice_get xs q ≡ Some x → (proc : P) × (slice_get ps q ≡ Some proc) × Makes proc x

at_end : {X : Type 0} (xs : List X) (x y : X) (q : ℕ) → slice_get (xs ++ (x ∷ [])) q ≡ Some y
    → (slice_get xs q ≡ Some y) ⊎ ((q ≡ length xs) × (x ≡ y))
at_end [] x y zero e = inr (refl, same_Some x y e)
at_end [] x y (suc q) e = absurd (none-some _ e)
at_end (z ∷ xs) x y zero e = inl e
at_end (z ∷ xs) x y (suc q) e =
    elim (at_end xs x y q e) [ inl h ↦ inl h | inr h ↦ inr (ap suc h.0, h.1) ]

pub made_more : {P X : Type 0} (Makes : P → X → Type 0) (ps : List P) (old new : List X) (i : ℕ) (proc : P) (x : X)
    → AllMade Makes ps old → length old ≡ i → slice_get ps i ≡ Some proc → Makes proc x → new ≡ old ++ (x ∷ []) → AllMade Makes ps new
made_more Makes ps old new i proc x all count is makes e q found h =
    elim (at_end old x found q (sym (ap (λ l. slice_get l q) e) ∙ h)) [
      | inl there ↦ all q found there
      | inr (at_q, same) ↦ (proc, ap (slice_get ps) (at_q ∙ count) ∙ is, subst (Makes proc) same makes)
    ]

-- in a narrow program there is room for each procedure's valuations
pub has_room : {N : Type 0} (t : tree.Program N) (q : ℕ) (proc : Proc N) → AllNarrow (tree_of t) → slice_get t.procs.items q ≡ Some proc
    → length t.procs.items ≤ 32 → ScopeHasRoom t proc
has_room t q proc narrow is few = (
  narrow_places (tree_of t) narrow q (drawn_routine t proc)
      (routine_at (tree_of t) q (proc_of proc) (slice_get-map proc_of t.procs.items q ∙ ap (option_map proc_of) is)),
  few,
)
