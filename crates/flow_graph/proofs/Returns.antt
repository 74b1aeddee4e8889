-- What a procedure leaves at its exit, and what a caller continues with after a call, by numbers.
use Rattle.std.proofs.Common.{◌≡◌, ◌<◌, ℕ, ◌+◌, ◌*◌, ◌^◌, ◌==◌, Bool, true, false, not, cond, nat_lt, Option}
use Rattle.std.proofs.Common.{Some, None, List, [], ◌∷◌, ◌++◌, length, refl, sym, ◌∙◌, ap, arith, length-append}
use Rattle.std.specs.Int.Bits.{bit_or, and_zero_r, or_zero_r, xor_zero_r}
use Rattle.std.proofs.lemmas.Bool.{ltb-true, ne_eqb}
use Rattle.std.proofs.lemmas.List.{set_past, get_or-append-add}
use Rattle.std.proofs.lemmas.Nat.{pow_pos}
use Rattle.std.proofs.lemmas.Nat.Bits.{and_pow}
use Rattle.language.specs.Value.{Place, global, local, bit, with_bit, written_globals, written_locals}
use Rattle.language.specs.Step.{Routine, frame_size, result_of}
use Rattle.language.specs.Sequential.{Valuation, Exit, resumed_with}
use Rattle.language.proofs.TestLemmas.{at_test}
use Rattle.flow_graph.specs.Assignments.{masked}
use Rattle.flow_graph.specs.Bits.{bit_of, has_any, worth_of, coded}
use Rattle.flow_graph.specs.Calls.{resumed}
use Rattle.flow_graph.specs.Flows.{code, exit_code}
use Rattle.flow_graph.specs.Located.{bit_of_place, mask_of, target_mask, given_mask}
use Rattle.flow_graph.specs.Returns.{HasTarget}
use Rattle.flow_graph.proofs.Assignments.{put, agree_kept, written_bits, same_bits}
use Rattle.flow_graph.proofs.NumberLemmas.{resumed_coded}
use Rattle.flow_graph.proofs.Stacks.{bit_worth}
use Rattle.flow_graph.proofs.Worths.{coded_bit}

-- a mask without a bit changes nothing
masked_none : (n : ℕ) (v : Bool) → masked n 0 v ≡ n
masked_none n true = or_zero_r n
masked_none n false = xor_zero_r (bit_or n 0) ∙ or_zero_r n

-- a mask of one bit writes the value there
masked_coded : (bs : List Bool) (b : ℕ) (v : Bool) → b < length bs → masked (coded bs) (2 ^ b) v ≡ coded (with_bit bs b v)
masked_coded bs b v inside =
    same_bits (masked (coded bs) (2 ^ b) v) (coded (with_bit bs b v))
    (λ k. agree_kept b v v [] (coded bs) bs refl inside (λ j free. coded_bit bs j) k refl ∙ sym (coded_bit (with_bit bs b v) k))

-- the bit of a variable is one of the valuation's
bit_inside : (gs ls : List Bool) (x : Place) (b : ℕ) → HasTarget (length ls) (Some x) → bit_of_place (length gs) x ≡ Some b
    → b < length (gs ++ ls)
bit_inside gs ls (local i) b has e =
    let same : length gs + i ≡ b = cc in omega (arith, same, has, length-append gs ls)
bit_inside gs ls (global i) b has e = go (nat_lt i (length gs)) refl e
  where
    go : (c : Bool) → nat_lt i (length gs) ≡ c → cond c (Some i) None ≡ Some b → b < length (gs ++ ls)
    go true is h =
        let same : i ≡ b = cc in
        let less = ltb-true i (length gs) is in
        omega (arith, same, less, length-append gs ls)
    go false is h = cc

-- what is written to a variable is written to its bit
masked_place : (gs ls : List Bool) (x : Place) (v : Bool) → HasTarget (length ls) (Some x) →
    masked (coded (gs ++ ls)) (target_mask (length gs) (Some x)) v
    ≡ coded (written_globals (x ∷ []) (v ∷ []) gs ++ written_locals (x ∷ []) (v ∷ []) ls)
masked_place gs ls x v has =
    at_bit (bit_of_place (length gs) x) (λ b e. bit_inside gs ls x b has e)
    ∙ ap coded (sym (written_bits (length gs) (x ∷ []) (v ∷ []) gs ls refl))
  where
    at_bit : (o : Option ℕ) → ((b : ℕ) → o ≡ Some b → b < length (gs ++ ls)) →
        masked (coded (gs ++ ls)) (mask_of o) v ≡ coded (put (o ∷ []) (v ∷ []) (gs ++ ls))
    at_bit None inside = masked_none (coded (gs ++ ls)) v
    at_bit (Some b) inside = masked_coded (gs ++ ls) b v (inside b refl)

-- after a call the caller has the globals left, its own places, and the result in the variable that it called for
pub resumed_code : (g : ℕ) (target : Option Place) (v : Valuation) (e : Exit) → length v.globals ≡ g → length e.globals ≡ g →
    HasTarget (length v.places) target →
    resumed g (target_mask g target) (code v) (exit_code e) ≡ code (resumed_with target v e)
resumed_code g None v e wide count has = masked_none _ e.result ∙ resumed_coded g v e.globals wide count
resumed_code g (Some x) v e wide count has =
    ap (λ n. masked n (target_mask g (Some x)) e.result) (resumed_coded g v e.globals wide count)
    ∙ ap (λ n. masked (coded (e.globals ++ v.places)) (target_mask n (Some x)) e.result) (sym count)
    ∙ masked_place e.globals v.places x e.result has

-- ---- the result

-- some bit of a mask of one bit is 1 if that bit is
has_bit : (n b : ℕ) → has_any n (2 ^ b) ≡ bit_of n b
has_bit n b = ap (λ k. not (k == 0)) (and_pow n b ∙ ap (λ k. k * 2 ^ b) (bit_worth n b))
    ∙ at_test (λ c. not (worth_of c * 2 ^ b == 0) ≡ c) (bit_of n b)
    (λ _. ap not (ne_eqb (1 * 2 ^ b) 0 (λ e. omega (arith, e, pow_pos b))))
    (λ _. ap (λ k. not (k == 0)) (let e : 0 * 2 ^ b ≡ 0 = omega arith in e))

-- the bit of the result has the result
pub result_code : (r : Routine) (g : ℕ) (v : Valuation) → length v.globals ≡ g →
    has_any (code v) (given_mask g r) ≡ result_of (Some r) v.places
result_code r g v e = go r.gives
  where
    go : (c : Bool) → has_any (code v) (cond c (2 ^ (g + r.places)) 0) ≡ cond c (bit v.places r.places) false
    go true =
        has_bit (code v) (g + r.places) ∙ coded_bit (v.globals ++ v.places) (g + r.places)
        ∙ ap (λ k. bit (v.globals ++ v.places) (k + r.places)) (sym e) ∙ get_or-append-add v.globals v.places r.places false
    go false = ap (λ n. not (n == 0)) (and_zero_r (code v))

-- a value that is written to the bit of the result is the result
pub given_code : (r : Routine) (g : ℕ) (v : Valuation) (b : Bool) → length v.globals ≡ g → length v.places ≡ frame_size r →
    masked (code v) (given_mask g r) b ≡ code (record { globals = v.globals; places = with_bit v.places r.places b })
given_code r g v b e wide = go r.gives wide
  where
    go : (c : Bool) → length v.places ≡ r.places + cond c 1 0 →
        masked (code v) (cond c (2 ^ (g + r.places)) 0) b ≡ coded (v.globals ++ with_bit v.places r.places b)
    go true w =
        ap (λ n. masked (code v) (2 ^ (n + r.places)) b) (sym e)
        ∙ masked_place v.globals v.places (local r.places) b (omega (arith, w))
    go false w =
        masked_none (code v) b ∙ ap (λ l. coded (v.globals ++ l)) (sym (set_past v.places r.places b (omega (arith, w))))
