-- What a flow graph reaches and sends by numbers is what its procedure reaches and owes.
use Rattle.std.proofs.Common.{◌≡◌, ◌↔◌, ◌⊎◌, ℕ, suc, ◌+◌, ◌≤◌, ◌++◌, length, Option, Some, None, slice_get, inl, inr, refl, sym, ◌∙◌, ap}
use Rattle.std.proofs.Common.{ap₂, subst, arith, false}
use Rattle.std.proofs.lemmas.Option.{same_Some}
use Rattle.language.specs.Tree.{done, one, choose, loop}
use Rattle.language.specs.Value.{values_of}
use Rattle.language.specs.Rest.{Code, join, target_of}
use Rattle.language.specs.Step.{Program, fresh, frame_size, AtRoutine, body_of}
use Rattle.language.specs.Sequential.{statements, marked, numbered, point_of, Valuation, Calls}
use Rattle.language.specs.Sequential.{Caller, caller, Message, entry, summary, Exit as ExitValues, exit_of, resumed_with}
use Rattle.language.specs.Flow.{rests, IsRestOf, after_first}
use Rattle.language.specs.Lists.{Member}
use Rattle.language.specs.Messages as by_messages
use Rattle.language.specs.Messages.{Reached, Owes, IsValuationOf, IsMessageTo, ArgumentsFit}
use Rattle.language.proofs.ByMessages.{reached_entry, reached_stands}
use Rattle.language.proofs.Entering.{call_shape}
use Rattle.language.proofs.Lengths.{length_fresh, length_values, places_within}
use Rattle.language.proofs.Members.{member_append}
use Rattle.language.proofs.RestPoints.{point_tells_rest}
use Rattle.language.proofs.StepKinds.{routine_found}
use Rattle.language.proofs.Widths.{reached_valuation}
use Rattle.flow_graph.specs.Nodes.{point_at}
use Rattle.flow_graph.specs.Flows.{code, exit_code, next_of, entered_by, resumed_by}
use Rattle.flow_graph.specs.Returns.{left_by, behind, resumed_at}
use Rattle.flow_graph.specs.Graphs.{HasSteps, AtFlow, IsGraph, IsInTextOrder}
use Rattle.flow_graph.specs.Numbers.{NumberedMessage, numbered_entry, numbered_summary, by_numbers, GraphReaches, starts}
use Rattle.flow_graph.specs.Numbers.{flows, returns, Sends, asks, tells, IsNumberOf, AreNumbersOf}
use Rattle.flow_graph.specs.declared.flow.Flow.{Flow}
use Rattle.flow_graph.specs.declared.graph.Graph.{Graph}
use Rattle.flow_graph.specs.declared.exit.Exit.{Exit}
use Rattle.flow_graph.proofs.NumberLemmas.{coded_tells, code_tells}

-- ---- messages

abbrev caller_of : NumberedMessage → Caller
caller_of (numbered_entry from a) = from
caller_of (numbered_summary s a b) = caller s

abbrev procedure_of : NumberedMessage → ℕ
procedure_of (numbered_entry from a) = 0
procedure_of (numbered_summary s a b) = s

abbrev pub entry_of : NumberedMessage → ℕ
entry_of (numbered_entry from a) = a
entry_of (numbered_summary s a b) = a

abbrev left_of : NumberedMessage → Exit
left_of (numbered_entry from a) = record { globals = 0; result = false }
left_of (numbered_summary s a b) = b

-- 0 for an entry, 1 for a summary
abbrev kind_of : NumberedMessage → ℕ
kind_of (numbered_entry from a) = 0
kind_of (numbered_summary s a b) = 1

-- an entry is not a summary
pub entry_is : (from : Caller) (a s x : ℕ) (b : Exit) → numbered_entry from a ≡ numbered_summary s x b → ⊥
entry_is from a s x b e = let z : 0 ≡ 1 = ap kind_of e in omega (arith, z)

-- two valuations of one procedure have as many values
same_widths : (p : Program) (q : ℕ) (v w : Valuation) → IsValuationOf p q v → IsValuationOf p q w
    → (length v.globals ≡ length w.globals) × (length v.places ≡ length w.places)
same_widths p q v w (g, l) (g', l') =
    let (routine, is, few) = routine_found (slice_get p.routines q) (λ r. length v.places ≡ frame_size r) l in
    let few' : length w.places ≡ frame_size routine = subst (λ o. AtRoutine o (λ r. length w.places ≡ frame_size r)) is l' in
    (g ∙ sym g', few ∙ sym few')

-- a number determines the valuation of a procedure
pub valuation_told : (p : Program) (q : ℕ) (v w : Valuation) → IsValuationOf p q v → IsValuationOf p q w → code v ≡ code w → v ≡ w
valuation_told p q v w is is' e = let (g, l) = same_widths p q v w is is' in code_tells v w g l e

-- numbers determine the message to a procedure
pub message_told : (p : Program) (q : ℕ) (m n : Message) → IsMessageTo p q m → IsMessageTo p q n → by_numbers m ≡ by_numbers n → m ≡ n
message_told p q (entry from v) (entry from' w) is is' e =
    ap₂ entry (ap caller_of e) (valuation_told p q v w is is' (ap entry_of e))
message_told p q (entry from v) (summary s w b) is is' e = absurd (let z : 0 ≡ 1 = ap kind_of e in omega (arith, z))
message_told p q (summary s v b) (entry from w) is is' e = absurd (let z : 1 ≡ 0 = ap kind_of e in omega (arith, z))
message_told p q (summary s v b) (summary s' w b') is is' e =
    let es : s ≡ s' = ap procedure_of e in
    let ev = valuation_told p s v w is.0 (subst (λ i. IsValuationOf p i w) (sym es) is'.0) (ap entry_of e) in
    let eb = coded_tells b.globals b'.globals (is.1 ∙ sym is'.1) (ap (λ k. (left_of k).globals) e) in
    let er = ap (λ k. (left_of k).result) e in
    λ i. summary (es i) (ev i) (record { globals = eb i; result = er i })

-- what is entered by a call that fits has the widths of its procedure
pub called_valuation : (p : Program) → ArgumentsFit p → (q : ℕ) (v : Valuation) (r : Code) (s : ℕ) (e : Valuation)
    → length v.globals ≡ p.globals
    → IsRestOf (body_of (slice_get p.routines q)) r → Calls p v.globals v.places r s e → IsValuationOf p s e
called_valuation p fit q v r s e wide rest calls =
    let (es, at, h) = call_shape p v.globals v.places r s e calls in
    let (routine, is, made) =
    routine_found (slice_get p.routines s) (λ z. e
    ≡ record { globals = v.globals; places = fresh (frame_size z) (values_of v.globals v.places es) }) h in
    let few : length es ≤ routine.places = subst (λ o. AtRoutine o (λ z. length es ≤ z.places)) is (fit q s r es rest at) in
    let count : length (values_of v.globals v.places es) ≡ length es = length_values v.globals v.places es in
    let places : length e.places ≡ frame_size routine = ap (λ (z : Valuation). length z.places) made
    ∙ length_fresh (frame_size routine) (values_of v.globals v.places es) (omega (arith, few, count, places_within routine)) in (
      ap (λ (z : Valuation). length z.globals) made ∙ wide,
      subst (λ o. AtRoutine o (λ z. length e.places ≡ frame_size z)) (sym is) places,
    )

-- ---- points

-- no rest of a block that is numbered from a number above 0 on begins at point 0
no_rest_at_0 : (n : ℕ) (b k r : Code) → Member r (rests (numbered (suc n) b) k) → point_at r ≡ 0 → ⊥
no_rest_at_0 n done k r f e = f
no_rest_at_0 n (one m s t) k r (inr f) e = no_rest_at_0 (suc n) t k r f e
no_rest_at_0 n (choose m c a b t) k r (inr f) e =
    let i : ℕ = suc n + statements a in
    let j : ℕ = suc n + (statements a + statements b) in
    let si : suc (suc n) + statements a ≡ suc i = omega arith in
    let sj : suc (suc n) + (statements a + statements b) ≡ suc j = omega arith in
    let b' : Code = numbered (suc (suc n) + statements a) b in
    let t' : Code = numbered (suc (suc n) + (statements a + statements b)) t in
    elim (member_append r (rests (numbered (suc (suc n)) a) (join t' k)) (rests b' (join t' k) ++ rests t' k) f) [
      | inl g ↦ no_rest_at_0 (suc n) a (join t' k) r g e
      | inr g ↦ elim (member_append r (rests b' (join t' k)) (rests t' k) g) [
        | inl h ↦ no_rest_at_0 i b (join t' k) r (subst (λ z. Member r (rests (numbered z b) (join t' k))) si h) e
        | inr h ↦ no_rest_at_0 j t k r (subst (λ z. Member r (rests (numbered z t) k)) sj h) e
      ]
    ]
no_rest_at_0 n (loop m c a t) k r (inr f) e =
    let i : ℕ = suc n + statements a in
    let si : suc (suc n) + statements a ≡ suc i = omega arith in
    let a' : Code = numbered (suc (suc n)) a in
    let t' : Code = numbered (suc (suc n) + statements a) t in
    elim (member_append r (rests a' (loop (marked (suc n) m) c a' (join t' k))) (rests t' k) f) [
      | inl g ↦ no_rest_at_0 (suc n) a (loop (marked (suc n) m) c a' (join t' k)) r g e
      | inr h ↦ no_rest_at_0 i t k r (subst (λ z. Member r (rests (numbered z t) k)) si h) e
    ]
no_rest_at_0 n _ k r (inl same) e = let z : suc n ≡ 0 = sym (ap point_at same) ∙ e in omega (arith, z)

-- only nothing is left at point 0
rest_at_exit : (b r : Code) → IsRestOf (numbered 1 b) r → point_at r ≡ 0 → r ≡ done
rest_at_exit b r (inl same) e = same
rest_at_exit b r (inr f) e = absurd (no_rest_at_0 0 b done r f e)

-- a rest has a point, or is nothing
pointed : (r : Code) → (r ≡ done) ⊎ (point_of r ≡ Some (point_at r))
pointed done = inl refl
pointed _ = inr refl

-- the number of a point determines what is left to run
pub rest_told : (b r r' : Code) → IsRestOf (numbered 1 b) r → IsRestOf (numbered 1 b) r' → point_at r ≡ point_at r' → r ≡ r'
rest_told b r r' is is' e = go (pointed r) (pointed r')
  where
    go : (r ≡ done) ⊎ (point_of r ≡ Some (point_at r)) → (r' ≡ done) ⊎ (point_of r' ≡ Some (point_at r')) → r ≡ r'
    go (inl h) h' = h ∙ sym (rest_at_exit b r' is' (sym e ∙ ap point_at h))
    go (inr h) (inl h') = rest_at_exit b r is (e ∙ ap point_at h') ∙ sym h'
    go (inr h) (inr h') = point_tells_rest 1 b r r' is is' (h ∙ ap Some e ∙ sym h')

pub rest_in_order_told : (p : Program) → IsInTextOrder p → (q : ℕ) (r r' : Code) → IsRestOf (body_of (slice_get p.routines q)) r
    → IsRestOf (body_of (slice_get p.routines q)) r' → point_at r ≡ point_at r' → r ≡ r'
rest_in_order_told p order q r r' is is' e =
    let (b, numbering) = order q in
    rest_told b r r' (subst (λ k. IsRestOf k r) numbering is) (subst (λ k. IsRestOf k r') numbering is') e

-- ---- graphs

at_flow : {A : Type 0} (o : Option (Flow A)) (P : Flow A → Type 0) → AtFlow o P → (flow : Flow A) × (o ≡ Some flow) × P flow
at_flow None P h = absurd h
at_flow (Some flow) P h = (flow, refl, h)

module _ {A : Type 0} (p : Program) (q : ℕ) (graph : Graph A) (is : IsGraph p q graph) where
  abbrev body : Code
  body = body_of (slice_get p.routines q)

  -- at a rest of the body there is a flow with the steps from there
  pub flow_at : (r : Code) → IsRestOf body r →
      (flow : Flow A) × (slice_get graph.flows.items (point_at r) ≡ Some flow) × HasSteps p q r flow
  flow_at r rest = at_flow (slice_get graph.flows.items (point_at r)) (HasSteps p q r) (is.steps r rest)

  -- the flow at the point has the steps from there
  steps_at : (n : ℕ) (r : Code) (flow : Flow A) → IsRestOf body r → n ≡ point_at r →
      slice_get graph.flows.items n ≡ Some flow → HasSteps p q r flow
  steps_at n r flow rest e here =
      let (flow', here', steps) = flow_at r rest in
      subst (HasSteps p q r) (same_Some flow' flow (sym here' ∙ ap (slice_get graph.flows.items) (sym e) ∙ here)) steps

  -- a caller at the point continues as its flow does
  goes_on : (n : ℕ) (flow : Flow A) → slice_get graph.flows.items n ≡ Some flow → (v : ℕ) (b : Exit)
      → resumed_at graph n v b ≡ resumed_by flow v b
  goes_on n flow here v b = ap (λ o. behind o v b) here

  module _ (M : Message → Type 0) (K : NumberedMessage → Type 0) (right : (m : Message) → M m → IsMessageTo p q m) where
    -- ---- what is reached and owed has its numbers

    module _ (gives : (m : Message) → M m → K (by_numbers m)) where
      pub reaches_reached : (a v : Valuation) (r : Code) → Reached p q M a v r → GraphReaches graph K (code a) (point_at r) (code v)
      reaches_reached _ _ _ (by_messages.starts from a m) =
          subst (λ n. GraphReaches graph K (code a) n (code a)) is.start (starts from (code a) (gives (entry from a) m))
      reaches_reached _ _ _ (by_messages.flows a v v' r r' reached step) =
          let (flow, here, steps) = flow_at r (reached_stands p q M a v r reached) in
          let wide = reached_valuation p q M right a v r reached in
          let (i, (most, next)) = (steps.leads v (point_at r') (code v') wide).1 (v', r', step, refl, refl) in
          flows (code a) (point_at r) (code v) (point_at r') (code v') i flow (reaches_reached a v r reached) here most next
      reaches_reached _ _ _ (by_messages.returns a v e r s b reached calls m) =
          let (flow, here, steps) = flow_at r (reached_stands p q M a v r reached) in
          let wide = reached_valuation p q M right a v r reached in
          let enters = (steps.enters v s (code e) (point_at (after_first r)) wide).1 (e, calls, refl, refl) in
          let count = (right (summary s e b) m).1 ∙ sym wide.0 in
          let back : resumed_at graph (point_at r) (code v) (exit_code b) ≡ code (resumed_with (target_of r) v b) =
          goes_on (point_at r) flow here (code v) (exit_code b)
          ∙ steps.resumes v b s (code e) (point_at (after_first r)) wide count enters in
          subst (GraphReaches graph K (code a) (point_at (after_first r))) back
          (returns (code a) (point_at r) (code v) s (code e) (point_at (after_first r)) (exit_code b) flow
          (reaches_reached a v r reached) here enters (gives (summary s e b) m))

      pub sends_owed : (s : ℕ) (m : Message) → Owes p q M s m → Sends graph q K s (by_numbers m)
      sends_owed _ _ (by_messages.asks a v e r s reached calls) =
          let (flow, here, steps) = flow_at r (reached_stands p q M a v r reached) in
          let wide = reached_valuation p q M right a v r reached in
          asks (code a) (point_at r) (code v) s (code e) (point_at (after_first r)) flow (reaches_reached a v r reached) here
          ((steps.enters v s (code e) (point_at (after_first r)) wide).1 (e, calls, refl, refl))
      sends_owed _ _ (by_messages.tells a v s m reached) =
          let wide = reached_valuation p q M right a v done reached in
          subst (λ n. Sends graph q K s (numbered_summary q (code a) n)) (is.left v wide)
          (tells (code a) (code v) s (gives (entry (caller s) a) m) (reaches_reached a v done reached))

    -- ---- what is reached and sent by numbers is reached and owed

    module _ (fit : ArgumentsFit p) (tells_of : (k : NumberedMessage) → K k → IsNumberOf M k) where
      begun : (from : Caller) (a : ℕ) (m : Message) → M m → numbered_entry from a ≡ by_numbers m
          → AreNumbersOf (Reached p q M) a graph.start a
      begun from a (entry c x) had e = (x, x, body, by_messages.starts c x had, ap entry_of e, is.start, ap entry_of e)
      begun from a (summary s x b) had e = absurd (let z : 0 ≡ 1 = ap kind_of e in omega (arith, z))

      resumed_after : (a : ℕ) (x y e : Valuation) (r : Code) (v s w n k : ℕ) (b : Exit) (m : Message) → Reached p q M x y r
          → a ≡ code x
          → v ≡ code y → Calls p y.globals y.places r s e → w ≡ code e → n ≡ point_at (after_first r) →
          ((z : ExitValues) → length z.globals ≡ length y.globals
          → resumed_at graph k (code y) (exit_code z) ≡ code (resumed_with (target_of r) y z))
          → M m → numbered_summary s w b ≡ by_numbers m →
          AreNumbersOf (Reached p q M) a n (resumed_at graph k v b)
      resumed_after a x y e r v s w n k b (entry c z) reached ea ev calls ew en back had same =
          absurd (let z : 1 ≡ 0 = ap kind_of same in omega (arith, z))
      resumed_after a x y e r v s w n k b (summary s' z b') reached ea ev calls ew en back had same =
          let wide = reached_valuation p q M right x y r reached in
          let whole : IsValuationOf p s e = called_valuation p fit q y r s e wide.0 (reached_stands p q M x y r reached) calls in
          let theirs = right (summary s' z b') had in
          let es : s ≡ s' = ap procedure_of same in
          let eb : b ≡ exit_code b' = ap left_of same in
          let ez : z ≡ e =
          valuation_told p s z e (subst (λ i. IsValuationOf p i z) (sym es) theirs.0) whole (sym (ap entry_of same) ∙ ew) in
          let m : M (summary s e b') = subst (λ u. M (summary s u b')) ez (subst (λ i. M (summary i z b')) (sym es) had) in (
            x,
            resumed_with (target_of r) y b',
            after_first r,
            by_messages.returns x y e r s b' reached calls m,
            ea,
            en,
            (λ i. resumed_at graph k (ev i) (eb i)) ∙ back b' (theirs.1 ∙ sym wide.0),
          )

      pub reached_reaches : (a n v : ℕ) → GraphReaches graph K a n v → AreNumbersOf (Reached p q M) a n v
      reached_reaches _ _ _ (starts from a k) = let (m, had, e) = tells_of (numbered_entry from a) k in begun from a m had e
      reached_reaches _ _ _ (flows a n v n' v' i flow reached here most next) =
          let (x, y, r, got, ea, en, ev) = reached_reaches a n v reached in
          let steps : HasSteps p q r flow = steps_at n r flow (reached_stands p q M x y r got) en here in
          let wide = reached_valuation p q M right x y r got in
          let led = ap (λ z. next_of flow z i) (sym ev) ∙ next in
          let (y', r', step, en', ev') = (steps.leads y n' v' wide).0 (i, (most, led)) in
          (x, y', r', by_messages.flows x y y' r r' got step, ea, en', ev')
      reached_reaches _ _ _ (returns a n v s w n' b flow reached here enters k) =
          let (x, y, r, got, ea, en, ev) = reached_reaches a n v reached in
          let steps : HasSteps p q r flow = steps_at n r flow (reached_stands p q M x y r got) en here in
          let wide = reached_valuation p q M right x y r got in
          let entered = ap (entered_by flow) (sym ev) ∙ enters in
          let (e, calls, ew, en') = (steps.enters y s w n' wide).0 entered in
          let (m, had, same) = tells_of (numbered_summary s w b) k in
          resumed_after a x y e r v s w n' n b m got ea ev calls ew en'
          (λ z count. goes_on n flow here (code y) (exit_code z) ∙ steps.resumes y z s w n' wide count entered) had same

      told : (order : IsInTextOrder p) (a v s : ℕ) (x y : Valuation) (r : Code) (m : Message) → Reached p q M x y r →
          a ≡ code x → 0 ≡ point_at r → v ≡ code y → M m → numbered_entry (caller s) a ≡ by_numbers m
          → IsNumberOf (Owes p q M s) (numbered_summary q a (left_by graph v))
      told order a v s x y r (summary s' z b') got ea en ev had same = absurd (let z : 0 ≡ 1 = ap kind_of same in omega (arith, z))
      told order a v s x y r (entry c z) got ea en ev had same =
          let (b, numbering) = order q in
          let exit : r ≡ done = rest_at_exit b r (subst (λ k. IsRestOf k r) numbering (reached_stands p q M x y r got)) (sym en) in
          let (from, began) = reached_entry p q M x y r got in
          let ez : z ≡ x = valuation_told p q z x (right (entry c z) had) (right (entry from x) began) (sym (ap entry_of same) ∙ ea) in
          let m : M (entry (caller s) x) =
          subst (λ u. M (entry (caller s) u)) ez (subst (λ u. M (entry u z)) (sym (ap caller_of same)) had) in
          let wide = reached_valuation p q M right x y r got in (
            summary q x (exit_of p q y),
            by_messages.tells x y s m (subst (Reached p q M x y) exit got),
            ap₂ (numbered_summary q) ea (ap (left_by graph) ev ∙ is.left y wide),
          )

      pub owed_sends : IsInTextOrder p → (s : ℕ) (k : NumberedMessage) → Sends graph q K s k → IsNumberOf (Owes p q M s) k
      owed_sends order _ _ (asks a n v s w n' flow reached here enters) =
          let (x, y, r, got, ea, en, ev) = reached_reaches a n v reached in
          let steps : HasSteps p q r flow = steps_at n r flow (reached_stands p q M x y r got) en here in
          let wide = reached_valuation p q M right x y r got in
          let (e, calls, ew, en') = (steps.enters y s w n' wide).0 (ap (entered_by flow) (sym ev) ∙ enters) in
          (entry (caller q) e, by_messages.asks x y e r s got calls, ap (numbered_entry (caller q)) ew)
      owed_sends order _ _ (tells a v s k reached) =
          let (x, y, r, got, ea, en, ev) = reached_reaches a 0 v reached in
          let (m, had, same) = tells_of (numbered_entry (caller s) a) k in
          told order a v s x y r m got ea en ev had same

    -- ---- both

    module _ (gives : (m : Message) → M m → K (by_numbers m)) (fit : ArgumentsFit p)
        (tells_of : (k : NumberedMessage) → K k → IsNumberOf M k) where
      pub reaches_numbers : (a n v : ℕ) → GraphReaches graph K a n v ↔ AreNumbersOf (Reached p q M) a n v
      reaches_numbers a n v = (reached_reaches fit tells_of a n v, back)
        where
          back : AreNumbersOf (Reached p q M) a n v → GraphReaches graph K a n v
          back (x, y, r, got, ea, en, ev) =
              subst (GraphReaches graph K a n) (sym ev)
              (subst (λ i. GraphReaches graph K a i (code y)) (sym en)
              (subst (λ i. GraphReaches graph K i (point_at r) (code y)) (sym ea) (reaches_reached gives x y r got)))

      pub sends_numbers : IsInTextOrder p → (s : ℕ) (k : NumberedMessage) → Sends graph q K s k ↔ IsNumberOf (Owes p q M s) k
      sends_numbers order s k = (
        owed_sends fit tells_of order s k,
        λ h. subst (Sends graph q K s) (sym h.2) (sends_owed gives s h.0 h.1),
      )
