-- The value of an expression over bits is that of the expression.
use Rattle.std.proofs.Common.{◌≡◌, ◌≤◌, ℕ, zero, suc, ◌+◌, Bool, true, false, cond, not, nat_lt, ◌==◌, Some, None, List, [], ◌∷◌, ◌++◌}
use Rattle.std.proofs.Common.{length, refl, sym, ◌∙◌, ap, arith}
use Rattle.std.proofs.lemmas.Bool.{ltb-true, ltb-false}
use Rattle.std.proofs.lemmas.List.{get_or_append_left, get_or-append-add}
use Rattle.std.proofs.lemmas.Nat.Bits.{bit_at-zero}
use Rattle.language.specs.Tree.{Name, Expression, const, var, negation, two}
use Rattle.language.specs.Value.{Place, global, local, bit, look_up, operate, value_of}
use Rattle.language.specs.Resolve.{Scope, place_of, resolve_expression}
use Rattle.flow_graph.specs.Bits.{bit_of, coded}
use Rattle.flow_graph.specs.Located.{bit_of_place, read_of, located, worth}
use Rattle.flow_graph.specs.Formulas.{bit_of_variable}
use Rattle.flow_graph.proofs.Rows.{first_bit, later_bit}
use Rattle.std.proofs.lemmas.Option.{none-some, same_Some}

-- a bit of the number of values is the value there, and 0 past the end
pub coded_bit : (bs : List Bool) (i : ℕ) → bit_of (coded bs) i ≡ bit bs i
coded_bit [] i = ap (λ n. n == 1) (bit_at-zero i)
coded_bit (b ∷ bs) zero = first_bit b (coded bs)
coded_bit (b ∷ bs) (suc i) = later_bit b (coded bs) i ∙ coded_bit bs i

bit_past : (xs : List Bool) (i : ℕ) → length xs ≤ i → bit xs i ≡ false
bit_past [] i h = refl
bit_past (x ∷ xs) zero h = absurd (omega (arith, h))
bit_past (x ∷ xs) (suc i) h = bit_past xs i (omega (arith, h))

-- a read of a place, by its bit
read_worth : (n : ℕ) (gs ls : List Bool) (p : Place) → length gs ≡ n
    → worth (bit_of (coded (gs ++ ls))) (read_of (bit_of_place n p)) ≡ look_up gs ls p
read_worth n gs ls (local i) e = coded_bit (gs ++ ls) (n + i) ∙ ap (λ k. bit (gs ++ ls) (k + i)) (sym e) ∙ get_or-append-add gs ls i false
read_worth n gs ls (global i) e = go (nat_lt i n) refl
  where
    go : (b : Bool) → nat_lt i n ≡ b → worth (bit_of (coded (gs ++ ls))) (read_of (cond b (Some i) None)) ≡ bit gs i
    go true is = coded_bit (gs ++ ls) i ∙ get_or_append_left gs ls false i (let less = ltb-true i n is in omega (arith, less, e))
    go false is = sym (bit_past gs i (let least = ltb-false i n is in omega (arith, least, e)))

pub worth_is_value : (s : Scope) (gs ls : List Bool) (e : Expression Name) → length gs ≡ length s.globals
    → worth (bit_of (coded (gs ++ ls))) (located s e) ≡ value_of gs ls (resolve_expression s e)
worth_is_value s gs ls (const b) h = refl
worth_is_value s gs ls (var x) h = read_worth (length s.globals) gs ls (place_of s x) h
worth_is_value s gs ls (negation e) h = ap not (worth_is_value s gs ls e h)
worth_is_value s gs ls (two o a b) h =
    ap (λ v. operate o v (worth (bit_of (coded (gs ++ ls))) (located s b))) (worth_is_value s gs ls a h)
    ∙ ap (operate o (value_of gs ls (resolve_expression s a))) (worth_is_value s gs ls b h)

-- a variable has the value of its bit
pub read_bit : (e : Expression ℕ) (b n : ℕ) → bit_of_variable e ≡ Some b → bit_of n b ≡ worth (bit_of n) e
read_bit (var x) b n is = ap (bit_of n) (sym (same_Some x b is))
read_bit _ b n is = absurd (none-some b is)
