-- Flows that do what happens at nodes.
use Rattle.std.proofs.Common.{◌≡◌, ◌≤◌, ◌<◌, ℕ, zero, suc, ◌+◌, Bool, true, false, cond, Option}
use Rattle.std.proofs.Common.{Some, List, [], ◌∷◌}
use Rattle.std.proofs.Common.{◌++◌, length, map, refl, sym, ◌∙◌, ap, subst, arith, ◌*◌, ◌^◌, ◌⊎◌, inl, inr}
use Rattle.std.proofs.lemmas.List.{length-map}
use Rattle.std.proofs.Math.Nat.{mul_comm}
use Rattle.std.proofs.lemmas.Option.{none-some, same_Some}
use Rattle.std.proofs.lemmas.Bool.{true≢false}
use Rattle.language.specs.Tree.{Name, Expression, RightSide, any, value}
use Rattle.language.specs.Value.{Place, local, value_of, values_of, IsValue, written_globals, written_locals}
use Rattle.language.specs.Step.{Routine}
use Rattle.language.specs.Resolve.{Scope, place_of, resolve_expression, resolve_side}
use Rattle.language.specs.Sequential.{Valuation}
use Rattle.language.proofs.Lengths.{length_values}
use Rattle.flow_graph.specs.Bits.{bit_of, worth_of, coded}
use Rattle.flow_graph.specs.Formulas.{says, SaysSide}
use Rattle.flow_graph.specs.Assignments.{masked, after_writes}
use Rattle.flow_graph.specs.Assigning.{HasPlaces, Assigns, WritesOne, after_values}
use Rattle.flow_graph.specs.Nodes.{goes, stops, tests, assigns, calls, returns}
use Rattle.flow_graph.specs.Flows.{code, assigned, exit_code, Widths, widths_of, HasWidths, Does}
use Rattle.flow_graph.proofs.Assignments.{got_same}
use Rattle.flow_graph.proofs.Nodes.{only_value}
use Rattle.flow_graph.proofs.Rows.{first_bit}
use Rattle.flow_graph.specs.declared.side.CompiledSide.{CompiledSide}
use Rattle.flow_graph.specs.declared.side.CompiledSide.TheVariants as side
use Rattle.flow_graph.specs.declared.assignment.Assignment.{Assignment}
use Rattle.flow_graph.specs.declared.flow.Flow.{Flow}
use Rattle.flow_graph.specs.declared.flow.Flow.TheVariants.{Assign, Test}
use Rattle.flow_graph.specs.declared.flow.Flow.TheVariants as flow
use Rattle.flow_graph.specs.declared.call.Call.{Call}
use Rattle.flow_graph.specs.declared.formula.Formula.{Formula}
use Rattle.flow_graph.specs.Calls.{call_entry, resumed}
use Rattle.flow_graph.specs.Located.{target_mask, given_mask}
use Rattle.flow_graph.specs.Returns.{HasTarget}
use Rattle.flow_graph.proofs.NumberLemmas.{coded_append, left_coded}
use Rattle.flow_graph.proofs.Returns.{resumed_code, given_code}
use Rattle.resolved.specs.Limits.{most_places}

-- the two parts of a pair that is there
same_first : (a b c d : ℕ) → ◌≡◌ {A = Option (ℕ × ℕ)} (Some (a, b)) (Some (c, d)) → a ≡ c
same_first a b c d e = ap (λ (z : ℕ × ℕ). z.0) (same_Some (a, b) (c, d) e)

same_second : (a b c d : ℕ) → ◌≡◌ {A = Option (ℕ × ℕ)} (Some (a, b)) (Some (c, d)) → b ≡ d
same_second a b c d e = ap (λ (z : ℕ × ℕ). z.1) (same_Some (a, b) (c, d) e)

-- a flow that continues without a write does a test whose two points are the same
pub does_same : {A : Type 0} (f : Flow A) (r : RightSide Place) (j k : ℕ) (w : Widths) → j ≡ k → Does f (goes j) w →
    Does f (tests r j k) w
does_same {A} f r j k w e d = record {
  leads = λ v n m wide. (
    λ h. let (v', (vs, are, to, same), is) = (d.leads v n m wide).0 h in (v', has r v to same, is),
    λ h. let (v', (b, is, to, same), at) = h in (d.leads v n m wide).1 (v', ([], tt, to ∙ at_j b, same), at),
  );
  once = d.once;
  enters = λ v s e n wide. (λ h. absurd ((d.enters v s e n wide).0 h).1, λ h. absurd h.1);
  resumes = λ v x s e n wide count h. absurd ((d.enters v s e n wide).0 h).1;
}
  where
    at_j : (b : Bool) → cond b j k ≡ j
    at_j true = refl
    at_j false = sym e

    has : (r : RightSide Place) (v : Valuation) {n : ℕ} {v' : Valuation} → n ≡ j → v' ≡ v →
        (b : Bool) × IsValue v.globals v.places r b × (n ≡ cond b j k) × (v' ≡ v)
    has any v to same = (true, tt, to, same)
    has (value x) v to same =
        let b = value_of v.globals v.places x in
        (b, refl, to ∙ sym (at_j b), same)

-- an assignment that writes nothing continues
pub does_goes : {A : Type 0} (a : Assignment A) (to : ℕ) (w : Widths) → a.writes.items ≡ [] → a.last ≡ 0 →
    Does (Assign a to) (goes to) w
does_goes {A} a to w none last = record {
  leads = λ v n m wide. (
    λ h.
        let (i, (le, is)) = h in
        let next = assigned a (code v) i in
        (v, ([], tt, sym (same_first to next n m is), refl), sym (same_second to next n m is) ∙ stays (code v) i),
    λ h.
        let (v', (vs, are, is, same), at) = h in
        (0, (omega arith, λ t. Some (sym is t, (stays (code v) 0 ∙ ap code (sym same) ∙ sym at) t))),
  );
  once = λ v i j n m wide one other. omega (arith, one.0, other.0, last);
  enters = λ v s e n wide. (λ h. absurd (none-some _ h), λ h. absurd h.1);
  resumes = λ v x s e n wide count h. absurd (none-some _ h);
}
  where
    stays : (values i : ℕ) → assigned a values i ≡ values
    stays values i = ap (λ ws. after_writes ws values i values) none

-- a procedure's valuations have a place for each formal and local
wide_enough : (s : Scope) (gives : Bool) (v : Valuation) → HasWidths (widths_of s gives) v → HasPlaces s v
wide_enough s gives v wide = (wide.0, omega (arith, wide.1))

pub does_assigns : {A : Type 0} (a : Assignment A) (s : Scope) (gives : Bool) (xs : List Name) (rs : List (RightSide Name)) (to : ℕ) →
    Assigns a s xs rs →
    Does (Assign a to) (assigns (map (place_of s) xs) (map (resolve_side s) rs) to) (widths_of s gives)
does_assigns {A} a s gives xs rs to d = record {
  leads = λ v n w wide. (
    λ h.
        let (i, (le, is)) = h in
        let next = assigned a (code v) i in
        let (vs, are, at) = (d.leads v w (enough v wide)).0 (i, (le, same_second to next n w is)) in
        (after_values s xs vs v, (vs, are, sym (same_first to next n w is), refl), at),
    λ h.
        let (v', (vs, are, is, same), at) = h in
        let (i, (le, next)) = (d.leads v w (enough v wide)).1 (vs, are, at ∙ ap code same) in
        (i, (le, λ t. Some (sym is t, next t))),
  );
  once = λ v i j n w wide one other.
      d.once v i j w (enough v wide) (one.0, same_second to (assigned a (code v) i) n w one.1)
      (other.0, same_second to (assigned a (code v) j) n w other.1);
  enters = λ v s e n wide. (λ h. absurd (none-some _ h), λ h. absurd h.1);
  resumes = λ v x s e n wide count h. absurd (none-some _ h);
}
  where
    enough : (v : Valuation) → HasWidths (widths_of s gives) v → HasPlaces s v
    enough = wide_enough s gives

-- a value after_writes to the bit of the result is returned
pub does_returned : {A : Type 0} (a : Assignment A) (s : Scope) (r : Routine) (e : Expression Name) → r.places ≡ length s.locals →
    WritesOne a (given_mask (length s.globals) r) s e →
    Does (Assign a 0) (assigns (local r.places ∷ []) (value (resolve_expression s e) ∷ []) 0) (widths_of s r.gives)
does_returned {A} a s r e count (w, items, last, masks, says_so) = record {
  leads = λ v n m wide. (
    λ h.
        let (i, (le, is)) = h in
        let next = assigned a (code v) i in (
          returned v (got v),
          (got v, (refl, tt), sym (same_first 0 next n m is), refl),
          sym (same_second 0 next n m is) ∙ leads_to v i wide,
        ),
    λ h.
        let (v', (vs, are, is, same), at) = h in
        let after = same ∙ ap (returned v) (only_value v.globals v.places (resolve_expression s e) vs are) in
        (0, (omega arith, λ t. Some (sym is t, (leads_to v 0 wide ∙ ap code (sym after) ∙ sym at) t))),
  );
  once = λ v i j n m wide one other. omega (arith, one.0, other.0, last);
  enters = λ v q x n wide. (λ h. absurd (none-some _ h), λ h. absurd h.1);
  resumes = λ v y q x n wide few h. absurd (none-some _ h);
}
  where
    got : Valuation → List Bool
    got v = value_of v.globals v.places (resolve_expression s e) ∷ []

    returned : Valuation → List Bool → Valuation
    returned v bs = record {
      globals = written_globals (local r.places ∷ []) bs v.globals;
      places = written_locals (local r.places ∷ []) bs v.places;
    }

    leads_to : (v : Valuation) (i : ℕ) → HasWidths (widths_of s r.gives) v → assigned a (code v) i ≡ code (returned v (got v))
    leads_to v i wide =
        ap (λ ws. after_writes ws (code v) i (code v)) items
        ∙ (λ t. masked (code v) (masks t) (got_same s v.globals v.places w.side (value e) i wide.0 says_so t))
        ∙ given_code r (length s.globals) v (value_of v.globals v.places (resolve_expression s e)) wide.0
        (wide.1 ∙ ap (λ n. n + cond r.gives 1 0) (sym count))

-- the choice of a value
abbrev chosen : Bool → ℕ
chosen b = worth_of b + 2 * 0

chosen_small : (b : Bool) → chosen b ≤ 1
chosen_small true = omega arith
chosen_small false = omega arith

-- two choices that lead to one of two points are the same
one_choice : (i j a b : ℕ) → (a ≡ b → ⊥) → i ≤ 1 → j ≤ 1 → cond (bit_of i 0) a b ≡ cond (bit_of j 0) a b → i ≡ j
one_choice zero (suc zero) a b ne le lj e =
    absurd (ne (sym (ap (λ x. cond x a b) (sym (first_bit false 0)) ∙ e ∙ ap (λ x. cond x a b) (first_bit true 0))))
one_choice (suc zero) zero a b ne le lj e =
    absurd (ne (ap (λ x. cond x a b) (sym (first_bit true 0)) ∙ e ∙ ap (λ x. cond x a b) (first_bit false 0)))
one_choice (suc (suc i)) j a b ne le lj e = absurd (omega (arith, le))
one_choice i (suc (suc j)) a b ne le lj e = absurd (omega (arith, lj))
one_choice _ _ a b ne le lj e = refl

pub does_tests : {A : Type 0} (sd : CompiledSide A) (r : RightSide Name) (s : Scope) (gives : Bool) (j k : ℕ) → (j ≡ k → ⊥)
    → SaysSide sd s r →
    Does (Test sd j k) (tests (resolve_side s r) j k) (widths_of s gives)
does_tests side.Any any s gives j k ne d = record {
  leads = λ v n w wide. (
    λ h.
        let (i, (le, is)) = h in
        let to = cond (bit_of i 0) j k in
        (v, (bit_of i 0, tt, sym (same_first to (code v) n w is), refl), sym (same_second to (code v) n w is)),
    λ h.
        let (v', (b, is, to, same), at) = h in
        let here = ap (λ x. cond x j k) (first_bit b 0) ∙ sym to in
        (chosen b, (chosen_small b, λ t. Some (here t, (ap code (sym same) ∙ sym at) t))),
  );
  once = λ v i i' n w wide one other.
      one_choice i i' j k ne one.0 other.0
      (same_first (cond (bit_of i 0) j k) (code v) (cond (bit_of i' 0) j k) (code v) (one.1 ∙ sym other.1));
  enters = λ v s e n wide. (λ h. absurd (none-some _ h), λ h. absurd h.1);
  resumes = λ v x s e n wide count h. absurd (none-some _ h);
}
does_tests (side.Value f) (value e) s gives j k ne d = record {
  leads = λ v n w wide. (
    λ h.
        let (i, (le, is)) = h in
        let b = says f (code v) in
        let to = cond b j k in (
          v,
          (b, d v.globals v.places wide.0, sym (same_first to (code v) n w is), refl),
          sym (same_second to (code v) n w is),
        ),
    λ h.
        let (v', (b, is, to, same), at) = h in
        let here = ap (λ x. cond x j k) (d v.globals v.places wide.0 ∙ sym is) ∙ sym to in
        (0, (omega arith, λ t. Some (here t, (ap code (sym same) ∙ sym at) t))),
  );
  once = λ v i i' n w wide one other. omega (arith, one.0, other.0);
  enters = λ v s e n wide. (λ h. absurd (none-some _ h), λ h. absurd h.1);
  resumes = λ v x s e n wide count h. absurd (none-some _ h);
}
does_tests _ _ s gives j k ne d = absurd d

-- a flow on which no run continues does a call that no run makes
pub does_no_call : {A : Type 0} (f : Flow A) (x : Option Place) (p : ℕ) (es : List (Expression Place)) (k : ℕ) (w : Widths) →
    ((p < w.procedures → ⊥) ⊎ (w.globals + length es ≤ most_places → ⊥)) → Does f stops w →
    Does f (calls x p es k) w
does_no_call f x p es k w ne d = record {
  leads = λ v n m wide. (λ h. absurd (true≢false ((d.leads v n m wide).0 h).1.0), λ h. absurd h.1);
  once = d.once;
  enters = λ v q e n wide. (
    λ h. absurd ((d.enters v q e n wide).0 h).1,
    λ h.
        let (args, (is, same, to), less, few, at) = h in
        let count = ap length same ∙ length_values v.globals v.places es in
        absurd (refused (subst (λ z. z < w.procedures) is less) (omega (arith, few, count, wide.0)) ne),
  );
  resumes = λ v y q e n wide count h. absurd ((d.enters v q e n wide).0 h).1;
}
  where
    refused : p < w.procedures → w.globals + length es ≤ most_places →
        ((p < w.procedures → ⊥) ⊎ (w.globals + length es ≤ most_places → ⊥)) → ⊥
    refused a b (inl h) = h a
    refused a b (inr h) = h b

-- each formula gives the value of its expression, for valuations with a given number of globals
abbrev pub AllSay : {A : Type 0} → List (Formula A) → Scope → List (Expression Place) → Type 0
AllSay fs s es = (gs ls : List Bool) → length gs ≡ length s.globals → map (λ f. says f (coded (gs ++ ls))) fs ≡ values_of gs ls es

entry_code : {A : Type 0} (fs : List (Formula A)) (s : Scope) (es : List (Expression Place)) (v : Valuation) → AllSay fs s es
    → length v.globals ≡ length s.globals →
    call_entry (length s.globals) fs (code v) ≡ coded (v.globals ++ values_of v.globals v.places es)
entry_code fs s es v all e =
    let said = ap coded (all v.globals v.places e) in
    let low = left_coded (length s.globals) v e in
    let whole = coded_append v.globals (values_of v.globals v.places es) in
    let above : 2 ^ length s.globals * coded (map (λ f. says f (code v)) fs) ≡ coded
    (values_of v.globals v.places es) * 2 ^ length v.globals =
    mul_comm (2 ^ length s.globals) (coded (map (λ f. says f (code v)) fs)) ∙ λ t. said t * 2 ^ sym e t in
    omega (arith, low, whole, above)

-- a target has a place if there are more
target_within : (n k : ℕ) (x : Option Place) → n ≤ k → HasTarget n x → HasTarget k x
target_within n k (Some (local i)) le has = omega (arith, le, has)
target_within n k _ le has = tt

pub does_calls : {A : Type 0} (c : Call A) (x : Option Place) (p : ℕ) (es : List (Expression Place)) (s : Scope)
    (gives : Bool) → c.callee ≡ p → c.globals ≡ length s.globals → p < length s.procedures → AllSay c.arguments.items s es →
    c.target ≡ target_mask (length s.globals) x → HasTarget (length s.locals) x →
    Does (flow.Call c) (calls x p es c.back) (widths_of s gives)
does_calls {A} c x p es s gives to_p globals there all masks has = record {
  leads = λ v n w wide. (λ h. absurd (none-some _ h.1.1), λ h. absurd h.1);
  once = λ v i j n w wide one other. absurd (none-some _ one.1);
  enters = λ v q e n wide. (
    λ h.
        let entry_number = call_entry c.globals c.arguments.items (code v) in
        let part : ◌≡◌ {A = ℕ × ℕ × ℕ} (c.callee, entry_number, c.back) (q, e, n) = same_Some _ _ h in
        let to : p ≡ q = sym to_p ∙ ap (λ (z : ℕ × ℕ × ℕ). z.0) part in (
          values_of v.globals v.places es,
          (sym to, refl, sym (ap (λ (z : ℕ × ℕ × ℕ). z.2) part)),
          subst (λ z. z < length s.procedures) to there,
          room v wide,
          sym (ap (λ (z : ℕ × ℕ × ℕ). z.1) part) ∙ entry v wide,
        ),
    λ h.
        let (args, (is, same, back), less, few, at) = h in
        let enters = entry v wide ∙ ap (λ bs. coded (v.globals ++ bs)) (sym same) ∙ sym at in
        λ t. Some ((to_p ∙ sym is) t, enters t, sym back t),
  );
  resumes = λ v y q e n wide count h.
      (λ t. resumed (globals t) (masks t) (code v) (exit_code y))
      ∙ resumed_code (length s.globals) x v y wide.0 (count ∙ wide.0)
      (target_within (length s.locals) (length v.places) x (enough v wide) has);
}
  where
    enough : (v : Valuation) → HasWidths (widths_of s gives) v → length s.locals ≤ length v.places
    enough v wide = (wide_enough s gives v wide).1

    entry : (v : Valuation) → HasWidths (widths_of s gives) v →
        call_entry c.globals c.arguments.items (code v) ≡ coded (v.globals ++ values_of v.globals v.places es)
    entry v wide =
        ap (λ n. call_entry n c.arguments.items (code v)) globals ∙ entry_code c.arguments.items s es v all wide.0

    room : (v : Valuation) → HasWidths (widths_of s gives) v →
        length v.globals + length (values_of v.globals v.places es) ≤ most_places
    room v wide =
        let said = ap length (all v.globals v.places wide.0) in
        let count = length-map c.arguments.items (λ f. says f (code v)) in
        omega (arith, c.fits, globals, wide.0, said, count)

-- at the exit nothing happens inside the call
pub does_return : {A : Type 0} (w : Widths) → Does {Alloc = A} flow.Return returns w
does_return w = record {
  leads = λ v n k wide. (λ h. absurd (none-some _ h.1.1), λ h. absurd h.1);
  once = λ v i j n k wide one other. absurd (none-some _ one.1);
  enters = λ v s e n wide. (λ h. absurd (none-some _ h), λ h. absurd h.1);
  resumes = λ v x s e n wide count h. absurd (none-some _ h);
}

-- one more formula gives one more value
pub more_said : {A : Type 0} (f : A → Bool) (fs : List A) (x : A) (b : Bool) (bs : List Bool) → f x ≡ b
    → map f (fs ++ (x ∷ [])) ++ bs ≡ map f fs ++ (b ∷ bs)
more_said f [] x b bs e = ap (λ v. v ∷ bs) e
more_said f (y ∷ fs) x b bs e = ap (λ l. f y ∷ l) (more_said f fs x b bs e)
