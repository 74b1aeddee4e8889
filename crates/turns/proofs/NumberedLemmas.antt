-- What a program's threads do is what they do by numbers.
use Rattle.std.proofs.Common.{◌≡◌, ◌↔◌, ◌≤◌, ◌<◌, ℕ, ◌+◌, ◌*◌, ◌%◌, ◌^◌, Bool, true, Option, Some, None, List, [], ◌∷◌}
use Rattle.std.proofs.Common.{◌++◌, length, map, slice_get, inl, inr, refl, sym, ◌∙◌, ap, subst, arith}
use Rattle.std.proofs.lemmas.Option.{same_Some, slice_get_within, slice_get_cases, slice_get_past}
use Rattle.language.specs.Tree.{done}
use Rattle.language.specs.Value.{values_of}
use Rattle.language.specs.Rest.{Code, target_of}
use Rattle.language.specs.Step.{Program, Routine, Frame, frame, State, state, zeros, fresh, frame_size, AtRoutine, body_of, result_of}
use Rattle.language.specs.Step.{given_back, Fails}
use Rattle.language.specs.Sequential as calls
use Rattle.language.specs.Sequential.{Valuation, AtCall, Exit as ExitValues, exit_of, resumed_with}
use Rattle.language.specs.Flow.{IsRestOf, Flow, after_first, caller_frame}
use Rattle.language.specs.Messages.{IsValuationOf, ArgumentsFit}
use Rattle.language.specs.Rounds.{starting_stack}
use Rattle.language.proofs.Entering.{call_shape, call_follows}
use Rattle.language.proofs.Lengths.{length_zeros}
use Rattle.language.proofs.RestMembers.{rest_follows}
use Rattle.language.proofs.RunsOver.{given_caller}
use Rattle.language.proofs.Standing.{whole_stands, flow_stays}
use Rattle.language.proofs.StepKinds.{routine_found}
use Rattle.language.proofs.Widths.{flow_widths, same_valuation, resumed_widths}
use Rattle.flow_graph.specs.Bits.{coded}
use Rattle.flow_graph.specs.Nodes.{point_at}
use Rattle.flow_graph.specs.Flows.{code, next_of, entered_by, resumed_by}
use Rattle.flow_graph.specs.Returns.{left_by}
use Rattle.flow_graph.specs.Graphs.{HasSteps, IsGraph, AreGraphs, IsInTextOrder}
use Rattle.flow_graph.specs.Drawn.{flows_of, opening_point, globals_of}
use Rattle.flow_graph.specs.declared.graph.Graph.{Graph}
use Rattle.flow_graph.specs.declared.flow.Flow as flow
use Rattle.flow_graph.proofs.NumberLemmas.{coded_append, coded_zeros, left_coded, code_small}
use Rattle.flow_graph.proofs.StepLemmas.{flow_at, rest_in_order_told, called_valuation}
use Rattle.turns.specs.declared.numbered_frame.NumberedFrame.{NumberedFrame}
use Rattle.turns.specs.Between.{FailsBelow}
use Rattle.turns.specs.Programs as program
use Rattle.turns.specs.Programs.{valued, machine_of, threads_of, IsFinished}
use Rattle.language.specs.Words.{word_bits}
use Rattle.std.proofs.Math.Nat.{mod-eq_of_lt, lt_of_lt_of_le, pow-le-pow_right}
use Rattle.turns.specs.Numbered.{placed, AreNarrow, Failures, valuation_at, globals_in, places_in, Moves, CallsFrom, ReturnsTo}
use Rattle.turns.specs.Numbered.{numbered_machine, first_frame, numbered_threads, TellFailures}
use Rattle.turns.specs.Simulations.{Simulates, AreAlike, AreLikeStacks}
use Rattle.turns.proofs.SimulationLemmas.{simulated_fails}

-- values of 0 before others are no more than a place for them
zeros_code : (n : ℕ) (l : List Bool) → code (valued (zeros n) l) ≡ coded l * 2 ^ n
zeros_code n l =
    let whole : coded (zeros n ++ l) ≡ coded l * 2 ^ length (zeros n) + coded (zeros n) = coded_append (zeros n) l in
    let none : coded (zeros n ++ zeros 0) ≡ 0 = coded_zeros n 0 in
    let same : zeros n ++ [] ≡ zeros n = all_of (zeros n) in
    let low : coded (zeros n) ≡ 0 = sym (ap coded same) ∙ none in
    let wide : coded l * 2 ^ length (zeros n) ≡ coded l * 2 ^ n = ap (λ k. coded l * 2 ^ k) (length_zeros n) in
    omega (arith, whole, low, wide)
  where
    all_of : (xs : List Bool) → xs ++ [] ≡ xs
    all_of [] = refl
    all_of (x ∷ xs) = ap (λ l. x ∷ l) (all_of xs)

module _ {A : Type 0} (p : Program) (graphs : List (Graph A)) (fit : ArgumentsFit p) (order : IsInTextOrder p) (are : AreGraphs p graphs)
    (narrow : AreNarrow p) where
  abbrev body : ℕ → Code
  body c = body_of (slice_get p.routines c)

  -- as many values as a frame of the procedure has
  abbrev IsWide : ℕ → List Bool → Type 0
  IsWide c l = AtRoutine (slice_get p.routines c) (λ z. length l ≡ frame_size z)

  -- the number of a frame's values
  abbrev own : List Bool → ℕ
  own l = code (valued (zeros p.globals) l)

  -- the number of the globals
  abbrev LikeGlobals : List Bool → ℕ → Type 0
  LikeGlobals g n = (length g ≡ p.globals) × (n ≡ coded g)

  -- the numbers of a frame on top of a stack
  abbrev LikeOnTop : Frame → NumberedFrame → Type 0
  LikeOnTop f k = (c : ℕ) × (l : List Bool) × (r : Code) × IsRestOf (body c) r × IsWide c l × (f ≡ frame c l r)
      × (k ≡ placed c (point_at r) (own l))

  -- the numbers of a frame below another: its rest begins with a call
  abbrev LikeBelow : Frame → NumberedFrame → Type 0
  LikeBelow f k =
      (c : ℕ) × (l : List Bool) × (r : Code) × IsRestOf (body c) r × IsWide c l
      × ((n : ℕ) × (a : Valuation) × calls.Calls p (zeros p.globals) l r n a)
      × (f ≡ caller_frame c l (target_of r) (after_first r)) × (k ≡ placed c (point_at r) (own l))

  -- the number of a valuation is the sum of those of its globals and of its places
  summed : (g l : List Bool) → length g ≡ p.globals → coded g + own l ≡ code (valued g l)
  summed g l wide =
      let whole : code (valued g l) ≡ coded l * 2 ^ length g + coded g = coded_append g l in
      let same : coded l * 2 ^ length g ≡ coded l * 2 ^ p.globals = ap (λ k. coded l * 2 ^ k) wide in
      let mine = zeros_code p.globals l in
      omega (arith, whole, same, mine)

  -- and it has no more bits than a number has
  joined : (c : ℕ) (g l : List Bool) → length g ≡ p.globals → IsWide c l → (coded g + own l) % 2 ^ word_bits ≡ code (valued g l)
  joined c g l wide_g wide =
      let (routine, is, has) = routine_found (slice_get p.routines c) (λ z. length l ≡ frame_size z) wide in
      let few : p.globals + frame_size routine ≤ word_bits = narrow c routine is in
      let bits : length g + length l ≤ word_bits = omega (arith, wide_g, has, few) in
      let small : code (valued g l) < 2 ^ word_bits =
      lt_of_lt_of_le (code_small (valued g l)) (let two : 0 < 2 = omega arith in pow-le-pow_right two bits) in
      ap (λ n. n % 2 ^ word_bits) (summed g l wide_g) ∙ mod-eq_of_lt small

  -- a procedure that is there has its graph
  graph_there : (c : ℕ) (P : Routine → Type 0) → AtRoutine (slice_get p.routines c) P
      → (graph : Graph A) × (slice_get graphs c ≡ Some graph) × IsGraph p c graph
  graph_there c P at =
      let (routine, is, has) = routine_found (slice_get p.routines c) P at in
      let within : c < length p.routines = slice_get_within p.routines c routine is in
      let count : length graphs ≡ length p.routines = are.0 in
      elim (slice_get_cases graphs c).1 [
        | inl (graph, less, here, same) ↦ (graph, here, are.1 c graph here)
        | inr (past, none) ↦ absurd (omega (arith, within, count, past))
      ]

  module _ (c : ℕ) (graph : Graph A) (is : IsGraph p c graph) where
    globals_out : (v : Valuation) → length v.globals ≡ p.globals → globals_in graph (code v) ≡ coded v.globals
    globals_out v wide = ap (λ n. code v % 2 ^ n) is.globals ∙ left_coded p.globals v wide

    places_out : (v : Valuation) → length v.globals ≡ p.globals → places_in graph (code v) ≡ own v.places
    places_out v wide =
        let low : code v % 2 ^ globals_of graph ≡ coded v.globals = globals_out v wide in
        let whole : coded v.globals + own v.places ≡ code v = summed v.globals v.places wide in
        omega (arith, low, whole)

    -- the flow at the point of a rest is the one with the steps from there
    steps_at : (r : Code) (flow : flow.Flow A) → IsRestOf (body c) r → slice_get (flows_of graph) (point_at r) ≡ Some flow
        → HasSteps p c r flow
    steps_at r flow rest here =
        let (flow', here', steps) = flow_at p c graph is r rest in
        subst (HasSteps p c r) (same_Some flow' flow (sym here' ∙ here)) steps

  -- ---- moves

  -- frames that are like another frame of the procedure, with these globals
  abbrev After : (ℕ → NumberedFrame → Type 0) → List Bool → Frame → Type 0
  After Is h k = (h' : ℕ) × (k' : NumberedFrame) × Is h' k' × LikeGlobals h h' × LikeOnTop k k'

  wide_after : (c : ℕ) (g h l l' : List Bool) (r r' : Code) → length g ≡ p.globals → IsWide c l → Flow p c (valued g l) r (valued h l') r'
      → IsValuationOf p c (valued h l')
  wide_after c g h l l' r r' wide_g wide flow =
      same_valuation p c (valued g l) (valued h l') (flow_widths p c (valued g l) (valued h l') r r' flow) (wide_g, wide)

  rest_after : (c : ℕ) (v v' : Valuation) (l : List Bool) (r r' : Code) → IsWide c l → IsRestOf (body c) r → Flow p c v r v' r'
      → IsRestOf (body c) r'
  rest_after c v v' l r r' wide rest flow =
      let (routine, is, has) = routine_found (slice_get p.routines c) (λ z. length l ≡ frame_size z) wide in
      let same : body c ≡ routine.body = ap body_of is in
      subst (λ b. IsRestOf b r') (sym same) (flow_stays p c routine v v' r r' is (subst (λ b. IsRestOf b r) same rest) flow)

  move_there : (c : ℕ) (g h l l' : List Bool) (r r' : Code) → length g ≡ p.globals → IsRestOf (body c) r → IsWide c l
      → Flow p c (valued g l) r (valued h l') r' → After (Moves graphs (coded g) (placed c (point_at r) (own l))) h (frame c l' r')
  move_there c g h l l' r r' wide_g rest wide step =
      let (graph, here, is) = graph_there c (λ z. length l ≡ frame_size z) wide in
      let (flow, at, steps) = flow_at p c graph is r rest in
      let after = wide_after c g h l l' r r' wide_g wide step in
      let (choice, (most, next)) =
      (steps.leads (valued g l) (point_at r') (code (valued h l')) (wide_g, wide)).1 (valued h l', r', step, refl, refl) in (
        coded h,
        placed c (point_at r') (own l'),
        (
          graph,
          flow,
          here,
          at,
          (
            choice,
            point_at r',
            code (valued h l'),
            most,
            ap (λ n. next_of flow n choice) (joined c g l wide_g wide) ∙ next,
            sym (globals_out c graph is (valued h l') after.0),
            ap (λ n. placed c (point_at r') n) (sym (places_out c graph is (valued h l') after.0)),
          ),
        ),
        (after.0, refl),
        (c, l', r', rest_after c (valued g l) (valued h l') l r r' wide rest step, after.1, refl, refl),
      )

  -- globals and a frame of the program that are like these numbers
  abbrev Before : (List Bool → Frame → Type 0) → ℕ → NumberedFrame → Type 0
  Before Is h k = (h' : List Bool) × (k' : Frame) × Is h' k' × LikeGlobals h' h × LikeOnTop k' k

  move_back : (c : ℕ) (g l : List Bool) (r : Code) (h : ℕ) (k : NumberedFrame) → length g ≡ p.globals → IsRestOf (body c) r → IsWide c l
      → Moves graphs (coded g) (placed c (point_at r) (own l)) h k → Before (program.Moves p g (frame c l r)) h k
  move_back c g l r h k wide_g rest wide (graph, flow, here, at, (choice, point, values, most, next, same_h, same_k)) =
      let is : IsGraph p c graph = are.1 c graph here in
      let steps : HasSteps p c r flow = steps_at c graph is r flow rest at in
      let leads : next_of flow (code (valued g l)) choice ≡ Some (point, values) =
      ap (λ n. next_of flow n choice) (sym (joined c g l wide_g wide)) ∙ next in
      let (v, r', step, same_point, same_values) = (steps.leads (valued g l) point values (wide_g, wide)).0 (choice, (most, leads)) in
      let after = wide_after c g v.globals l v.places r r' wide_g wide step in (
        v.globals,
        frame c v.places r',
        (v.places, r', step, refl),
        (after.0, same_h ∙ ap (globals_in graph) same_values ∙ globals_out c graph is v after.0),
        (
          c,
          v.places,
          r',
          rest_after c (valued g l) v l r r' wide rest step,
          after.1,
          refl,
          same_k ∙ (λ i. placed c (same_point i) (places_in graph (same_values i)))
              ∙ ap (λ n. placed c (point_at r') n) (places_out c graph is v after.0),
        ),
      )

  -- ---- calls

  -- what calls with some globals calls with others
  calls_with : (g h l : List Bool) (r : Code) (n : ℕ) (a : Valuation) → calls.Calls p g l r n a → (e : Valuation) × calls.Calls p h l r n e
  calls_with g h l r n a asks =
      let (es, at, has) = call_shape p g l r n a asks in
      let (routine, is, same) =
      routine_found (slice_get p.routines n) (λ z. a ≡ record { globals = g; places = fresh (frame_size z) (values_of g l es) }) has in
      let e : Valuation = record { globals = h; places = fresh (frame_size routine) (values_of h l es) } in
      let entered : AtRoutine (slice_get p.routines n) (λ z. e ≡ record { globals = h; places = fresh (frame_size z) (values_of h l es) }) =
      subst (λ o. AtRoutine o (λ z. e ≡ record { globals = h; places = fresh (frame_size z) (values_of h l es) })) (sym is) refl in (
        e,
        subst (λ o. AtCall o (λ callee es'.
            (callee ≡ n)
            × AtRoutine (slice_get p.routines n) (λ z. e ≡ record { globals = h; places = fresh (frame_size z) (values_of h l es') })))
            (sym at) (refl, entered),
      )

  -- a call of the program, with its callers as they lie below
  below_like : (c : ℕ) (g l : List Bool) (r : Code) (n : ℕ) (a : Valuation) → IsRestOf (body c) r → IsWide c l → calls.Calls p g l r n a
      → LikeBelow (caller_frame c l (target_of r) (after_first r)) (placed c (point_at r) (own l))
  below_like c g l r n a rest wide asks =
      let (e, again) = calls_with g (zeros p.globals) l r n a asks in
      (c, l, r, rest, wide, (n, e, again), refl, refl)

  -- the first frame of a call
  first_like : (n : ℕ) (a : Valuation) (called : Graph A) → IsValuationOf p n a → IsGraph p n called
      → LikeOnTop (frame n a.places (body n)) (placed n (opening_point called) (places_in called (code a)))
  first_like n a called wide is = (
    n,
    a.places,
    body n,
    whole_stands (body n),
    wide.1,
    refl,
    (λ i. placed n (is.start i) (places_in called (code a))) ∙ ap (λ k. placed n (point_at (body n)) k) (places_out n called is a wide.0),
  )

  call_there : (c : ℕ) (g l : List Bool) (r : Code) (n : ℕ) (a : Valuation) → length g ≡ p.globals → IsRestOf (body c) r → IsWide c l
      → calls.Calls p g l r n a
      → (e : NumberedFrame) × (w : NumberedFrame) × CallsFrom graphs (coded g) (placed c (point_at r) (own l)) e w
      × LikeOnTop (frame n a.places (body n)) e × LikeBelow (caller_frame c l (target_of r) (after_first r)) w
  call_there c g l r n a wide_g rest wide asks =
      let (graph, here, is) = graph_there c (λ z. length l ≡ frame_size z) wide in
      let (flow, at, steps) = flow_at p c graph is r rest in
      let entered = (steps.enters (valued g l) n (code a) (point_at (after_first r)) (wide_g, wide)).1 (a, asks, refl, refl) in
      let wide_a : IsValuationOf p n a = called_valuation p fit c (valued g l) r n a wide_g rest asks in
      let (called, there, is_called) = graph_there n (λ z. length a.places ≡ frame_size z) wide_a.1 in (
        placed n (opening_point called) (places_in called (code a)),
        placed c (point_at r) (own l),
        (
          graph,
          flow,
          here,
          at,
          (
            n,
            code a,
            point_at (after_first r),
            called,
            ap (entered_by flow) (joined c g l wide_g wide) ∙ entered,
            there,
            refl,
            refl,
          ),
        ),
        first_like n a called wide_a is_called,
        below_like c g l r n a rest wide asks,
      )

  call_back : (c : ℕ) (g l : List Bool) (r : Code) (e w : NumberedFrame) → length g ≡ p.globals → IsRestOf (body c) r → IsWide c l
      → CallsFrom graphs (coded g) (placed c (point_at r) (own l)) e w
      → (e' : Frame) × (w' : Frame) × program.CallsFrom p g (frame c l r) e' w' × LikeOnTop e' e × LikeBelow w' w
  call_back c g l r e w wide_g rest wide (graph, flow, here, at, (n, entered, back, called, enters, there, same_e, same_w)) =
      let is : IsGraph p c graph = are.1 c graph here in
      let steps : HasSteps p c r flow = steps_at c graph is r flow rest at in
      let (a, asks, same_a, same_back) =
      (steps.enters (valued g l) n entered back (wide_g, wide)).0 (ap (entered_by flow) (sym (joined c g l wide_g wide)) ∙ enters) in
      let wide_a : IsValuationOf p n a = called_valuation p fit c (valued g l) r n a wide_g rest asks in (
        frame n a.places (body n),
        caller_frame c l (target_of r) (after_first r),
        (n, a, asks, refl, refl),
        subst (LikeOnTop (frame n a.places (body n)))
            (sym (same_e ∙ ap (λ k. placed n (opening_point called) (places_in called k)) same_a))
            (first_like n a called wide_a (are.1 n called there)),
        subst (LikeBelow (caller_frame c l (target_of r) (after_first r))) (sym same_w) (below_like c g l r n a rest wide asks),
      )

  -- ---- returns

  -- what a finished frame leaves
  abbrev left_of : ℕ → List Bool → List Bool → ExitValues
  left_of d g k = exit_of p d (valued g k)

  -- the valuation with which a caller continues
  abbrev resumed : List Bool → Code → ExitValues → Valuation
  resumed l r exit = resumed_with (target_of r) (valued (zeros p.globals) l) exit

  wide_resumed : (c : ℕ) (l : List Bool) (r : Code) (exit : ExitValues) → length exit.globals ≡ p.globals → IsWide c l
      → IsValuationOf p c (resumed l r exit)
  wide_resumed c l r exit wide_g wide =
      same_valuation p c (record { globals = exit.globals; places = l }) (resumed l r exit)
      (resumed_widths (target_of r) (valued (zeros p.globals) l) exit) (wide_g, wide)

  rest_behind : (c : ℕ) (g l : List Bool) (r : Code) (n : ℕ) (a : Valuation) → IsRestOf (body c) r → calls.Calls p g l r n a
      → IsRestOf (body c) (after_first r)
  rest_behind c g l r n a rest asks =
      let (es, at, has) = call_shape p g l r n a asks in
      rest_follows (body c) r (after_first r) rest (call_follows r n es at)

  resumed_like : (c : ℕ) (g l : List Bool) (r : Code) (n : ℕ) (a : Valuation) (exit : ExitValues) → length exit.globals ≡ p.globals
      → IsRestOf (body c) r → IsWide c l → calls.Calls p g l r n a
      → LikeOnTop (frame c (resumed l r exit).places (after_first r)) (placed c (point_at (after_first r)) (own (resumed l r exit).places))
  resumed_like c g l r n a exit wide_g rest wide asks =
      (c, (resumed l r exit).places, after_first r, rest_behind c g l r n a rest asks, (wide_resumed c l r exit wide_g wide).1, refl, refl)

  -- what a flow that calls continues with has the number of what the caller continues with
  resumed_number : (c : ℕ) (graph : Graph A) (flow : flow.Flow A) (g l k : List Bool) (r : Code) (d : ℕ) (callee entered back : ℕ)
      (mine : Graph A) → length g ≡ p.globals → IsWide c l → IsWide d k → IsGraph p d mine → HasSteps p c r flow
      → entered_by flow (own l) ≡ Some (callee, entered, back)
      → resumed_by flow (own l) (left_by mine ((coded g + own k) % 2 ^ word_bits)) ≡ code (resumed l r (left_of d g k))
  resumed_number c graph flow g l k r d callee entered back mine wide_g wide wide_k is_mine steps enters =
      let zero : length (zeros p.globals) ≡ p.globals = length_zeros p.globals in
      ap (λ n. resumed_by flow (own l) (left_by mine n)) (joined d g k wide_g wide_k)
      ∙ ap (resumed_by flow (own l)) (is_mine.left (valued g k) (wide_g, wide_k))
      ∙ steps.resumes (valued (zeros p.globals) l) (left_of d g k) callee entered back (zero, wide) (wide_g ∙ sym zero) enters

  -- globals and frames that are told by a state of one frame
  abbrev globals_of_state : State → List Bool
  globals_of_state (state g stack) = g

  abbrev top_of_state : Frame → State → Frame
  top_of_state f (state g []) = f
  top_of_state f (state g (k ∷ stack)) = k

  return_there : (d : ℕ) (g k : List Bool) (c : ℕ) (l : List Bool) (r : Code) (n : ℕ) (a : Valuation) (h : List Bool) (f : Frame)
      → length g ≡ p.globals → IsWide d k → IsRestOf (body c) r → IsWide c l → calls.Calls p (zeros p.globals) l r n a
      → given_back (result_of (slice_get p.routines d) k) g (caller_frame c l (target_of r) (after_first r) ∷ []) ≡ state h (f ∷ [])
      → After (ReturnsTo graphs (coded g) (placed d 0 (own k)) (placed c (point_at r) (own l))) h f
  return_there d g k c l r n a h f wide_g wide_k rest wide asks given =
      let (mine, there, is_mine) = graph_there d (λ z. length k ≡ frame_size z) wide_k in
      let (graph, here, is) = graph_there c (λ z. length l ≡ frame_size z) wide in
      let (flow, at, steps) = flow_at p c graph is r rest in
      let zero : length (zeros p.globals) ≡ p.globals = length_zeros p.globals in
      let entered =
      (steps.enters (valued (zeros p.globals) l) n (code a) (point_at (after_first r)) (zero, wide)).1 (a, asks, refl, refl) in
      let exit : ExitValues = left_of d g k in
      let whole : state (resumed l r exit).globals (frame c (resumed l r exit).places (after_first r) ∷ []) ≡ state h (f ∷ []) =
      sym (given_caller c (valued (zeros p.globals) l) (target_of r) (after_first r) [] exit) ∙ given in
      let number =
      resumed_number c graph flow g l k r d n (code a) (point_at (after_first r)) mine wide_g wide wide_k is_mine steps entered in
      let after = wide_resumed c l r exit wide_g wide in
      let same_h : (resumed l r exit).globals ≡ h = ap globals_of_state whole in
      let same_f : frame c (resumed l r exit).places (after_first r) ≡ f = ap (top_of_state f) whole in (
        coded (resumed l r exit).globals,
        placed c (point_at (after_first r)) (own (resumed l r exit).places),
        (
          mine,
          there,
          refl,
          (
            graph,
            flow,
            here,
            at,
            (
              n,
              code a,
              point_at (after_first r),
              entered,
              sym (ap (globals_in graph) number ∙ globals_out c graph is (resumed l r exit) after.0),
              ap (λ z. placed c (point_at (after_first r)) z)
                  (sym (ap (places_in graph) number ∙ places_out c graph is (resumed l r exit) after.0)),
            ),
          ),
        ),
        (ap length (sym same_h) ∙ after.0, ap coded same_h),
        subst (λ z. LikeOnTop z (placed c (point_at (after_first r)) (own (resumed l r exit).places))) same_f
            (resumed_like c (zeros p.globals) l r n a exit wide_g rest wide asks),
      )

  return_back : (d : ℕ) (g k : List Bool) (t : Code) (c : ℕ) (l : List Bool) (r : Code) (n : ℕ) (a : Valuation) (h : ℕ) (f : NumberedFrame)
      → length g ≡ p.globals → IsRestOf (body d) t → IsWide d k → IsRestOf (body c) r → IsWide c l → calls.Calls p (zeros p.globals) l r n a
      → ReturnsTo graphs (coded g) (placed d (point_at t) (own k)) (placed c (point_at r) (own l)) h f
      → Before (program.ReturnsTo p g (frame d k t) (caller_frame c l (target_of r) (after_first r))) h f
  return_back d g k t c l r n a h f wide_g rest_t wide_k rest wide asks
      (mine, there, at_exit, (graph, flow, here, at, (callee, entered, back, enters, same_h, same_f))) =
      let is_mine : IsGraph p d mine = are.1 d mine there in
      let is : IsGraph p c graph = are.1 c graph here in
      let steps : HasSteps p c r flow = steps_at c graph is r flow rest at in
      let finished : t ≡ done = rest_in_order_told p order d t done rest_t (inl refl) at_exit in
      let zero : length (zeros p.globals) ≡ p.globals = length_zeros p.globals in
      let exit : ExitValues = left_of d g k in
      let number = resumed_number c graph flow g l k r d callee entered back mine wide_g wide wide_k is_mine steps enters in
      let (e, asks', same_e, same_back) = (steps.enters (valued (zeros p.globals) l) callee entered back (zero, wide)).0 enters in
      let after = wide_resumed c l r exit wide_g wide in (
        (resumed l r exit).globals,
        frame c (resumed l r exit).places (after_first r),
        (finished, given_caller c (valued (zeros p.globals) l) (target_of r) (after_first r) [] exit),
        (after.0, same_h ∙ ap (globals_in graph) number ∙ globals_out c graph is (resumed l r exit) after.0),
        subst (LikeOnTop (frame c (resumed l r exit).places (after_first r)))
            (sym (same_f ∙ (λ i. placed c (same_back i) (places_in graph (number i)))
            ∙ ap (λ z. placed c (point_at (after_first r)) z) (places_out c graph is (resumed l r exit) after.0)))
            (resumed_like c (zeros p.globals) l r n a exit wide_g rest wide asks),
      )

  -- ---- the first stacks

  abbrev Alike : List Frame → List NumberedFrame → Type 0
  Alike s k = AreLikeStacks LikeOnTop LikeBelow s k

  abbrev AlikeBack : List NumberedFrame → List Frame → Type 0
  AlikeBack k s = AreLikeStacks (λ k f. LikeOnTop f k) (λ k f. LikeBelow f k) k s

  abbrev Both : List Frame → List NumberedFrame → Type 0
  Both s k = Alike s k × AlikeBack k s

  -- the stack of a thread before its first step
  abbrev stack_of : ℕ → Option Routine → List Frame
  stack_of t None = []
  stack_of t (Some z) = frame t (zeros (frame_size z)) z.body ∷ []

  first_is_like : (t : ℕ) (z : Routine) (graph : Graph A) → slice_get p.routines t ≡ Some z → IsGraph p t graph
      → LikeOnTop (frame t (zeros (frame_size z)) z.body) (placed t (opening_point graph) 0)
  first_is_like t z graph there is =
      let same : body t ≡ z.body = ap body_of there in
      let none : own (zeros (frame_size z)) ≡ 0 = coded_zeros p.globals (frame_size z) in (
        t,
        zeros (frame_size z),
        z.body,
        subst (λ b. IsRestOf b z.body) (sym same) (whole_stands z.body),
        subst (λ o. AtRoutine o (λ y. length (zeros (frame_size z)) ≡ frame_size y)) (sym there) (length_zeros (frame_size z)),
        refl,
        (λ i. placed t ((is.start ∙ ap point_at same) i) (sym none i)),
      )

  start_like : (t : ℕ) → Both (starting_stack p.routines t) (first_frame graphs t (slice_get graphs t))
  start_like t =
      elim (slice_get_cases p.routines t).1 [
        | inl (z, less, there, same) ↦
            let (graph, here, is) = graph_there t (λ y. Unit {0}) (subst (λ o. AtRoutine o (λ y. Unit {0})) (sym there) tt) in
            let like = first_is_like t z graph there is in
            subst (λ s. Both s (first_frame graphs t (slice_get graphs t))) (sym (ap (stack_of t) there))
            (subst (Both (stack_of t (Some z))) (sym (ap (first_frame graphs t) here)) ((like, tt), (like, tt)))
        | inr (past, none) ↦
            let short : length graphs ≤ t = (let count : length graphs ≡ length p.routines = are.0 in omega (arith, count, past)) in
            subst (λ s. Both s (first_frame graphs t (slice_get graphs t))) (sym (ap (stack_of t) none))
            (subst (Both []) (sym (ap (first_frame graphs t) (slice_get_past graphs t short))) (tt, tt))
      ]

  starts_like : (ts : List ℕ)
      → AreAlike Alike (map (starting_stack p.routines) ts) (map (λ t. first_frame graphs t (slice_get graphs t)) ts)
      × AreAlike AlikeBack (map (λ t. first_frame graphs t (slice_get graphs t)) ts) (map (starting_stack p.routines) ts)
  starts_like [] = (tt, tt)
  starts_like (t ∷ ts) =
      let (one, back) = start_like t in
      let (others, others_back) = starts_like ts in
      ((one, others), (back, others_back))

  -- ---- both ways

  module _ (fails : Failures) (tell : TellFailures p fails) where
    moves_there : (g : List Bool) (n : ℕ) (f : Frame) (k : NumberedFrame) (h : List Bool) (f' : Frame) → LikeGlobals g n → LikeOnTop f k
        → program.Moves p g f h f' → After (Moves graphs n k) h f'
    moves_there g n f k h f' (wide_g, same_g) (c, l, r, rest, wide, same_f, same_k) is =
        let (l', r', step, same_f') = subst (λ z. program.Moves p g z h f') same_f is in
        subst (λ z. After (Moves graphs n k) h z) (sym same_f')
        (subst (λ z. After (Moves graphs n z) h (frame c l' r')) (sym same_k)
        (subst (λ z. After (Moves graphs z (placed c (point_at r) (own l))) h (frame c l' r')) (sym same_g)
        (move_there c g h l l' r r' wide_g rest wide step)))

    moves_back : (n : ℕ) (g : List Bool) (k : NumberedFrame) (f : Frame) (h : ℕ) (k' : NumberedFrame) → LikeGlobals g n → LikeOnTop f k
        → Moves graphs n k h k' → Before (program.Moves p g f) h k'
    moves_back n g k f h k' (wide_g, same_g) (c, l, r, rest, wide, same_f, same_k) is =
        subst (λ z. Before (program.Moves p g z) h k') (sym same_f)
        (move_back c g l r h k' wide_g rest wide
        (subst (λ z. Moves graphs z (placed c (point_at r) (own l)) h k') same_g (subst (λ z. Moves graphs n z h k') same_k is)))

    abbrev CallsLike : (NumberedFrame → NumberedFrame → Type 0) → Frame → Frame → Type 0
    CallsLike Is e w = (e' : NumberedFrame) × (w' : NumberedFrame) × Is e' w' × LikeOnTop e e' × LikeBelow w w'

    calls_there : (g : List Bool) (n : ℕ) (f : Frame) (k : NumberedFrame) (e w : Frame) → LikeGlobals g n → LikeOnTop f k
        → program.CallsFrom p g f e w → CallsLike (CallsFrom graphs n k) e w
    calls_there g n f k e w (wide_g, same_g) (c, l, r, rest, wide, same_f, same_k) is =
        let (callee, a, asks, same_e, same_w) = subst (λ z. program.CallsFrom p g z e w) same_f is in
        subst (λ z. CallsLike (CallsFrom graphs n k) z w) (sym same_e)
        (subst (λ z. CallsLike (CallsFrom graphs n k) (frame callee a.places (body callee)) z) (sym same_w)
        (subst
        (λ z. CallsLike (CallsFrom graphs n z) (frame callee a.places (body callee)) (caller_frame c l (target_of r) (after_first r)))
        (sym same_k)
        (subst (λ z. CallsLike (CallsFrom graphs z (placed c (point_at r) (own l))) (frame callee a.places (body callee))
        (caller_frame c l (target_of r) (after_first r))) (sym same_g)
        (call_there c g l r callee a wide_g rest wide asks))))

    abbrev CallsLikeBack : (Frame → Frame → Type 0) → NumberedFrame → NumberedFrame → Type 0
    CallsLikeBack Is e w = (e' : Frame) × (w' : Frame) × Is e' w' × LikeOnTop e' e × LikeBelow w' w

    calls_back : (n : ℕ) (g : List Bool) (k : NumberedFrame) (f : Frame) (e w : NumberedFrame) → LikeGlobals g n → LikeOnTop f k
        → CallsFrom graphs n k e w → CallsLikeBack (program.CallsFrom p g f) e w
    calls_back n g k f e w (wide_g, same_g) (c, l, r, rest, wide, same_f, same_k) is =
        subst (λ z. CallsLikeBack (program.CallsFrom p g z) e w) (sym same_f)
        (call_back c g l r e w wide_g rest wide
        (subst (λ z. CallsFrom graphs z (placed c (point_at r) (own l)) e w) same_g (subst (λ z. CallsFrom graphs n z e w) same_k is)))

    returns_there : (g : List Bool) (n : ℕ) (f : Frame) (k : NumberedFrame) (w : Frame) (u : NumberedFrame) (h : List Bool) (f' : Frame)
        → LikeGlobals g n → LikeOnTop f k → LikeBelow w u → program.ReturnsTo p g f w h f' → After (ReturnsTo graphs n k u) h f'
    returns_there g n f k w u h f' (wide_g, same_g) (d, m, t, rest_t, wide_m, same_f, same_k) (
      c,
      l,
      r,
      rest,
      wide,
      (callee, a, asks),
      same_w,
      same_u,
    ) is =
        let (finished, given) = subst (λ z. program.ReturnsTo p g z w h f') same_f is in
        let at_exit : placed d (point_at t) (own m) ≡ placed d 0 (own m) = ap (λ z. placed d (point_at z) (own m)) finished in
        let back = subst (λ z. given_back (result_of (slice_get p.routines d) m) g (z ∷ []) ≡ state h (f' ∷ [])) same_w given in
        subst (λ z. After (ReturnsTo graphs n z u) h f') (sym (same_k ∙ at_exit))
        (subst (λ z. After (ReturnsTo graphs n (placed d 0 (own m)) z) h f') (sym same_u)
        (subst (λ z. After (ReturnsTo graphs z (placed d 0 (own m)) (placed c (point_at r) (own l))) h f') (sym same_g)
        (return_there d g m c l r callee a h f' wide_g wide_m rest wide asks back)))

    returns_back : (n : ℕ) (g : List Bool) (k : NumberedFrame) (f : Frame) (u : NumberedFrame) (w : Frame) (h : ℕ) (k' : NumberedFrame)
        → LikeGlobals g n → LikeOnTop f k → LikeBelow w u → ReturnsTo graphs n k u h k' → Before (program.ReturnsTo p g f w) h k'
    returns_back n g k f u w h k' (wide_g, same_g) (d, m, t, rest_t, wide_m, same_f, same_k) (
      c,
      l,
      r,
      rest,
      wide,
      (callee, a, asks),
      same_w,
      same_u,
    ) is =
        subst (λ z. Before (program.ReturnsTo p g z w) h k') (sym same_f)
        (subst (λ z. Before (program.ReturnsTo p g (frame d m t) z) h k') (sym same_w)
        (return_back d g m t c l r callee a h k' wide_g rest_t wide_m rest wide asks
        (subst (λ z. ReturnsTo graphs z (placed d (point_at t) (own m)) (placed c (point_at r) (own l)) h k') same_g
        (subst (λ z. ReturnsTo graphs n z (placed c (point_at r) (own l)) h k') same_k
        (subst (λ z. ReturnsTo graphs n k z h k') same_u is)))))

    ends_there : (f : Frame) (k : NumberedFrame) → LikeOnTop f k → IsFinished f → k.point ≡ 0
    ends_there f k (c, l, r, rest, wide, same_f, same_k) is =
        let finished : r ≡ done = subst IsFinished same_f is in
        ap (λ (z : NumberedFrame). z.point) same_k ∙ ap point_at finished

    ends_back : (k : NumberedFrame) (f : Frame) → LikeOnTop f k → k.point ≡ 0 → IsFinished f
    ends_back k f (c, l, r, rest, wide, same_f, same_k) at_exit =
        subst IsFinished (sym same_f)
        (rest_in_order_told p order c r done rest (inl refl) (sym (ap (λ (z : NumberedFrame). z.point) same_k) ∙ at_exit))

    -- a failure is told by the numbers of the frame
    abbrev IsTold : ℕ → NumberedFrame → Type 0
    IsTold n k = fails k.procedure k.point (valuation_at n k) ≡ true

    told : (c : ℕ) (g l : List Bool) (r : Code) → length g ≡ p.globals → IsRestOf (body c) r → IsWide c l
        → IsTold (coded g) (placed c (point_at r) (own l)) ↔ Fails (state g (frame c l r ∷ []))
    told c g l r wide_g rest wide =
        let both = tell c (valued g l) r rest (wide_g, wide) in (
          λ is. both.0 (ap (fails c (point_at r)) (sym (joined c g l wide_g wide)) ∙ is),
          λ bad. ap (fails c (point_at r)) (joined c g l wide_g wide) ∙ both.1 bad,
        )

    fails_there : (g : List Bool) (n : ℕ) (f : Frame) (k : NumberedFrame) → LikeGlobals g n → LikeOnTop f k → Fails (state g (f ∷ []))
        → IsTold n k
    fails_there g n f k (wide_g, same_g) (c, l, r, rest, wide, same_f, same_k) bad =
        subst (λ z. IsTold n z) (sym same_k)
        (subst (λ z. IsTold z (placed c (point_at r) (own l))) (sym same_g)
        ((told c g l r wide_g rest wide).1 (subst (λ z. Fails (state g (z ∷ []))) same_f bad)))

    fails_back : (n : ℕ) (g : List Bool) (k : NumberedFrame) (f : Frame) → LikeGlobals g n → LikeOnTop f k → IsTold n k
        → Fails (state g (f ∷ []))
    fails_back n g k f (wide_g, same_g) (c, l, r, rest, wide, same_f, same_k) is =
        subst (λ z. Fails (state g (z ∷ []))) (sym same_f)
        ((told c g l r wide_g rest wide).0
        (subst (λ z. IsTold z (placed c (point_at r) (own l))) same_g (subst (λ z. IsTold n z) same_k is)))

    there : Simulates (machine_of p) (numbered_machine graphs fails) LikeGlobals LikeOnTop LikeBelow
    there = record {
      moves = λ g n f k h f' like top is. moves_there g n f k h f' like top is;
      calls = λ g n f k e w like top is. calls_there g n f k e w like top is;
      returns = λ g n f k w u h f' like top below is. returns_there g n f k w u h f' like top below is;
      ends = λ g n f k like top is. ends_there f k top is;
      fails = λ g n f k like top is. fails_there g n f k like top is;
    }

    back : Simulates (numbered_machine graphs fails) (machine_of p) (λ n g. LikeGlobals g n) (λ k f. LikeOnTop f k) (λ k f. LikeBelow f k)
    back = record {
      moves = λ n g k f h k' like top is. moves_back n g k f h k' like top is;
      calls = λ n g k f e w like top is. calls_back n g k f e w like top is;
      returns = λ n g k f u w h k' like top below is. returns_back n g k f u w h k' like top below is;
      ends = λ n g k f like top is. ends_back k f top is;
      fails = λ n g k f like top is. fails_back n g k f like top is;
    }

    none_coded : coded (zeros p.globals) ≡ 0
    none_coded =
        let whole : own [] ≡ 0 = zeros_code p.globals [] ∙ (let none : 0 * 2 ^ p.globals ≡ 0 = omega arith in none) in
        let sum : coded (zeros p.globals) + own [] ≡ code (valued (zeros p.globals) []) =
        summed (zeros p.globals) [] (length_zeros p.globals) in
        omega (arith, whole, sum)

    -- by numbers a turn fails if and only if one of the program does
    pub numbers_fail : (k : ℕ) → FailsBelow (threads_of p) k ↔ FailsBelow (numbered_threads graphs fails p.threads) k
    numbers_fail k =
        let like : LikeGlobals (zeros p.globals) 0 = (length_zeros p.globals, sym none_coded) in (
          simulated_fails (threads_of p) (numbered_threads graphs fails p.threads) LikeGlobals LikeOnTop LikeBelow there like
              (starts_like p.threads).0 k,
          simulated_fails (numbered_threads graphs fails p.threads) (threads_of p) (λ n g. LikeGlobals g n) (λ k f. LikeOnTop f k)
              (λ k f. LikeBelow f k) back like (starts_like p.threads).1 k,
        )
