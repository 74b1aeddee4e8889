-- Bits of a valuation that are read together.
use Rattle.std.proofs.Common.{◌≡◌, ◌<◌, ◌≤◌, ℕ, zero, suc, ◌+◌, ◌-◌, ◌*◌, ◌/◌, ◌%◌, ◌^◌}
use Rattle.std.proofs.Common.{max, bit_and, bit_or}
use Rattle.std.proofs.Common.{Bool, true, false, nat_lt, List, [], ◌∷◌, ◌++◌, length, map, take, get_or}
use Rattle.std.proofs.Common.{append-nil, append_assoc, pow_pos}
use Rattle.std.proofs.Common.{pow-suc, refl, sym, ◌∙◌, ap, subst, arith, shr-shr}
use Rattle.std.specs.Int.{bit_at, rotate_right, w64}
use Rattle.std.proofs.Math.Pow.{split}
use Rattle.std.proofs.lemmas.List.{length-append, length-map, map-append, take_more}
use Rattle.std.proofs.Math.Pow.{pow_mono}
use Rattle.std.proofs.lemmas.Bool.{ltb-true, ltb-false}
use Rattle.std.proofs.lemmas.Nat.{mod-pow-add}
use Rattle.std.proofs.lemmas.Nat.Bits.{and_high, bit_at_above, bit_at_cat_high, bit_at_cat_low, bit_at_or, bit_at-zero}
use Rattle.language.specs.Words.{word_bits}
use Rattle.flow_graph.specs.Bits.{bit_of, worth_of, coded}
use Rattle.flow_graph.specs.Tables.{most_inputs}
use Rattle.flow_graph.specs.Windows.{span, seen, IsWindow, AreWindows}
use Rattle.flow_graph.specs.declared.windows.Window.{Window}
use Rattle.flow_graph.proofs.NumberLemmas.{coded_append}
use Rattle.flow_graph.proofs.Stacks.{bit_worth, coded_small}

-- ---- a rotated word

-- what is left of a number by a power of 2 has the low bits
pub low_bit : (w n i : ℕ) → i < w → bit_at (n % 2 ^ w) i ≡ bit_at n i
low_bit w n i low = sym (bit_at_cat_low (n / 2 ^ w) w (n % 2 ^ w) i low) ∙ ap (λ x. bit_at x i) (split n w)

-- bits shifted up
raised_low : (n k j : ℕ) → j < k → bit_at (n * 2 ^ k) j ≡ 0
raised_low n k j low =
    ap (λ x. bit_at x j) (let z : n * 2 ^ k ≡ n * 2 ^ k + 0 = omega arith in z) ∙ bit_at_cat_low n k 0 j low ∙ bit_at-zero j

pub raised : (n k j : ℕ) → k ≤ j → bit_at (n * 2 ^ k) j ≡ bit_at n (j - k)
raised n k j high =
    ap (λ x. bit_at x j) (let z : n * 2 ^ k ≡ n * 2 ^ k + 0 = omega arith in z)
    ∙ bit_at_cat_high n k 0 j (pow_pos k) high

-- and down
lowered : (n k j : ℕ) → bit_at (n / 2 ^ k) j ≡ bit_at n (k + j)
lowered n k j = ap (λ x. x % 2) (shr-shr n k j)

max_zero : (n : ℕ) → max n 0 ≡ n
max_zero n = omega arith

-- a bit of a word that is rotated to the right is the bit of the word that many places up, where the places after the
-- word's end are those from its beginning on
pub rotated : (n r j : ℕ) → n < 2 ^ 64 → r < 64 → j < 64 → bit_at (rotate_right w64 n r) j ≡ bit_at n ((j + r) % 64)
rotated n zero j fits small below =
    let same : (j + 0) % 64 ≡ j = omega (arith, below) in
    let down : n / 1 ≡ n = omega arith in
    let up : n * 1 % 2 ^ 64 ≡ n = omega (arith, fits) in
    bit_at_or (n / 1) (n * 1 % 2 ^ 64) j
    ∙ ap (λ x. max (bit_at x j) (bit_at (n * 1 % 2 ^ 64) j)) down ∙ ap (λ x. max (bit_at n j) (bit_at x j)) up
    ∙ (let z : max (bit_at n j) (bit_at n j) ≡ bit_at n j = omega arith in z) ∙ ap (bit_at n) (sym same)
rotated n (suc q) j fits small below =
    let r : ℕ = suc q in
    let k : ℕ = 64 - r in
    let turn : r % 64 ≡ r = omega (arith, small) in
    let back : (64 - r) % 64 ≡ k = omega arith in
    ap (λ x. bit_at (bit_or (n / 2 ^ x) ((n * 2 ^ ((64 - x) % 64)) % 2 ^ 64)) j) turn
    ∙ ap (λ x. bit_at (bit_or (n / 2 ^ r) ((n * 2 ^ x) % 2 ^ 64)) j) back
    ∙ bit_at_or (n / 2 ^ r) ((n * 2 ^ k) % 2 ^ 64) j
    ∙ ap (λ x. max x (bit_at ((n * 2 ^ k) % 2 ^ 64) j)) (lowered n r j)
    ∙ ap (max (bit_at n (r + j))) (low_bit 64 (n * 2 ^ k) j below)
    ∙ at_last (nat_lt j k) refl
  where
    at_last : (b : Bool) → nat_lt j (64 - suc q) ≡ b
        → max (bit_at n (suc q + j)) (bit_at (n * 2 ^ (64 - suc q)) j) ≡ bit_at n ((j + suc q) % 64)
    at_last true is =
        let low : j < 64 - suc q = ltb-true _ _ is in
        ap (max (bit_at n (suc q + j))) (raised_low n (64 - suc q) j low) ∙ max_zero _
        ∙ ap (bit_at n) (let z : suc q + j ≡ (j + suc q) % 64 = omega (arith, low) in z)
    at_last false is =
        let high : 64 - suc q ≤ j = ltb-false _ _ is in
        ap (λ x. max x (bit_at (n * 2 ^ (64 - suc q)) j)) (bit_at_above n 64 (suc q + j) fits (omega (arith, high)))
        ∙ (let z : max 0 (bit_at (n * 2 ^ (64 - suc q)) j) ≡ bit_at (n * 2 ^ (64 - suc q)) j = omega arith in z)
        ∙ raised n (64 - suc q) j high
        ∙ ap (bit_at n) (let z : j - (64 - suc q) ≡ (j + suc q) % 64 = omega (arith, high, small, below) in z)

-- ---- a window

-- bits of a number, read together, if they are those of a valuation from a bit on
pub read_together : (x p s v n : ℕ) → ((i : ℕ) → i < n → bit_at x (p + i) ≡ bit_at v (s + i))
    → x / 2 ^ p % 2 ^ n ≡ coded (map (bit_of v) (span s n))
read_together x p s v zero same = omega arith
read_together x p s v (suc n) same =
    let y : ℕ = x / 2 ^ p in
    let parts : y % 2 ^ (n + 1) ≡ (y / 2 ^ 1 % 2 ^ n) * 2 ^ 1 + y % 2 ^ 1 = mod-pow-add y n 1 in
    let next : y / 2 ^ 1 ≡ x / 2 ^ (p + 1) = shr-shr x p 1 in
    let later = read_together x (p + 1) (suc s) v n (λ i less. ap (bit_at x) (let z : p + 1 + i ≡ p + suc i = omega arith in z)
    ∙ same (suc i) (omega (arith, less)) ∙ ap (bit_at v) (let z : s + suc i ≡ suc s + i = omega arith in z)) in
    let first : y % 2 ≡ worth_of (bit_of v s) =
    ap (bit_at x) (let z : p ≡ p + 0 = omega arith in z) ∙ same 0 (omega arith)
    ∙ ap (bit_at v) (let z : s + 0 ≡ s = omega arith in z) ∙ bit_worth v s in
    ap (λ k. y % 2 ^ k) (let z : suc n ≡ n + 1 = omega arith in z) ∙ parts ∙ ap (λ k. k % 2 ^ n * 2 ^ 1 + y % 2 ^ 1) next
    ∙ omega (arith, later, first)

-- the bits of a window are read to the places after those in front of it
pub window_read : (v half front : ℕ) (w : Window) → half < 2 ^ 64
    → ((i : ℕ) → i < word_bits → i / 64 ≡ w.first / 64 → bit_at half (i % 64) ≡ bit_at v i)
    → w.count + front ≤ most_inputs → IsWindow front w
    → bit_and (rotate_right w64 half w.rotation) w.mask ≡ coded (map (bit_of v) (span w.first w.count)) * 2 ^ front
window_read v half front w fits halved few is =
    let word : ℕ = rotate_right w64 half w.rotation in
    let small : w.rotation < 64 = omega (arith, is.1.1.0) in
    ap (bit_and word) is.1.1.1 ∙ and_high word w.count front
    ∙ ap (λ x. x * 2 ^ front) (read_together word front w.first v w.count (λ i less.
    rotated half w.rotation (front + i) fits small (omega (arith, less, few))
    ∙ ap (bit_at half) (let z : (front + i + w.rotation) % 64 ≡ (w.first + i) % 64 = omega (arith, less, few, is.0, is.1.1.0) in z)
    ∙ halved (w.first + i) (omega (arith, less, is.1.0)) (omega (arith, less, is.0))))

-- ---- windows

pub length_span : (first count : ℕ) → length (span first count) ≡ count
length_span first zero = refl
length_span first (suc count) = ap suc (length_span (suc first) count)

-- one bit more
pub span_next : (first count : ℕ) → span first (suc count) ≡ span first count ++ (first + count) ∷ []
span_next first zero = ap (λ n. n ∷ []) (let z : first ≡ first + 0 = omega arith in z)
span_next first (suc count) =
    ap (◌∷◌ first) (span_next (suc first) count ∙ ap (λ n. span (suc first) count ++ n ∷ [])
    (let z : suc first + count ≡ first + suc count = omega arith in z))

pub seen_last : (ws : List Window) (w : Window) → seen (ws ++ w ∷ []) ≡ seen ws ++ span w.first w.count
seen_last [] w = append-nil _
seen_last (x ∷ ws) w =
    ap (◌++◌ (span x.first x.count)) (seen_last ws w)
    ∙ sym (append_assoc (span x.first x.count) (seen ws) (span w.first w.count))

-- none are in front of the first
none : (front : ℕ) → front ≡ 0 + front
none front = omega arith

-- there is room for the bits of the first windows
pub room : (front k : ℕ) (ws : List Window) → AreWindows front ws → length (seen (take k ws)) + front ≤ most_inputs
room front zero [] laid = omega (arith, laid)
room front (suc k) [] laid = omega (arith, laid)
room front zero (w ∷ ws) laid =
    let more = room (w.count + front) 0 ws laid.1 in
    omega (arith, more)
room front (suc k) (w ∷ ws) laid =
    let more = room (w.count + front) k ws laid.1 in
    let both = length-append (span w.first w.count) (seen (take k ws)) in
    omega (arith, more, both, length_span w.first w.count)

-- a window after others
pub window_at : (front i : ℕ) (ws : List Window) (d : Window) → AreWindows front ws → i < length ws
    → IsWindow (length (seen (take i ws)) + front) (get_or ws i d)
window_at front i [] d laid less = absurd (omega (arith, less))
window_at front zero (w ∷ ws) d laid less = subst (λ n. IsWindow n w) (none front) laid.0
window_at front (suc i) (w ∷ ws) d laid less =
    subst (λ n. IsWindow n (get_or ws i d)) (let both = length-append (span w.first w.count) (seen (take i ws)) in
    let z : length (seen (take i ws)) + (w.count + front) ≡ length (seen (take (suc i) (w ∷ ws))) + front =
    omega (arith, both, length_span w.first w.count) in z)
    (window_at (w.count + front) i ws d laid.1 (omega (arith, less)))

pub laid_last : (front : ℕ) (ws : List Window) (w : Window) → AreWindows front ws → IsWindow (length (seen ws) + front) w
    → w.count + (length (seen ws) + front) ≤ most_inputs → AreWindows front (ws ++ w ∷ [])
laid_last front [] w laid is few = (subst (λ n. IsWindow n w) (sym (none front)) is, omega (arith, few))
laid_last front (x ∷ ws) w laid is few =
    let both = length-append (span x.first x.count) (seen ws) in
    let same : length (span x.first x.count ++ seen ws) + front ≡ length (seen ws) + (x.count + front) =
    omega (arith, both, length_span x.first x.count) in (
      laid.0,
      laid_last (x.count + front) ws w laid.1 (subst (λ n. IsWindow n w) same is)
          (subst (λ n. w.count + n ≤ most_inputs) same few),
    )

pub laid_split : (front : ℕ) (ws : List Window) (w : Window) → AreWindows front (ws ++ w ∷ [])
    → AreWindows front ws × (IsWindow (length (seen ws) + front) w × (w.count + (length (seen ws) + front) ≤ most_inputs))
laid_split front [] w laid = (omega (arith, laid.1), (subst (λ n. IsWindow n w) (none front) laid.0, omega (arith, laid.1)))
laid_split front (x ∷ ws) w laid =
    let both = length-append (span x.first x.count) (seen ws) in
    let same : length (seen ws) + (x.count + front) ≡ length (span x.first x.count ++ seen ws) + front =
    omega (arith, both, length_span x.first x.count) in
    let rest = laid_split (x.count + front) ws w laid.1 in
    ((laid.0, rest.0), (subst (λ n. IsWindow n w) same rest.1.0, subst (λ n. w.count + n ≤ most_inputs) same rest.1.1))

-- the last window takes in the next bit of its half
pub widened : (ws : List Window) (last w : Window) (bit front : ℕ) → AreWindows 0 (ws ++ last ∷ [])
    → front ≡ length (seen (ws ++ last ∷ [])) → front < most_inputs → bit < word_bits
    → last.first + last.count ≡ bit → (bit % 64 ≡ 0 → ⊥)
    → w.first ≡ last.first → w.count ≡ last.count + 1 → w.rotation ≡ last.rotation → w.mask ≡ last.mask + 2 ^ front
    → AreWindows 0 (ws ++ w ∷ []) × (seen (ws ++ w ∷ []) ≡ seen (ws ++ last ∷ []) ++ bit ∷ [])
widened ws last w bit front laid at few within next inner first count turn mask =
    let parts = laid_split 0 ws last laid in
    let is = parts.1.0 in
    let n : ℕ = length (seen ws) + 0 in
    let behind : front ≡ last.count + n =
    (let both = ap length (seen_last ws last) ∙ length-append (seen ws) (span last.first last.count) in
    omega (arith, at, both, length_span last.first last.count)) in
    let low : w.first % 64 + w.count ≤ 64 = omega (arith, is.0, first, count, next, inner) in
    let high : w.first + w.count ≤ word_bits = omega (arith, first, count, next, within) in
    let double : 2 ^ (w.count + n) ≡ 2 ^ (last.count + n) * 2 =
    ap (λ k. 2 ^ k) (let z : w.count + n ≡ suc (last.count + n) = omega (arith, count) in z) ∙ pow-suc 2 (last.count + n) in
    let more : 2 ^ n ≤ 2 ^ (last.count + n) = pow_mono (let z : n ≤ last.count + n = omega arith in z) in
    let place : 2 ^ front ≡ 2 ^ (last.count + n) = ap (λ k. 2 ^ k) behind in
    let masked : w.mask ≡ 2 ^ (w.count + n) - 2 ^ n = omega (arith, mask, is.1.1.1, double, more, place) in
    let turned : w.rotation ≡ (w.first % 64 + 64 - n) % 64 =
    turn ∙ is.1.1.0 ∙ ap (λ k. (k % 64 + 64 - n) % 64) (sym first) in (
      laid_last 0 ws w parts.0 (low, (high, (turned, masked))) (omega (arith, count, behind, few)),
      seen_last ws w ∙ ap (λ k. seen ws ++ span k w.count) first
          ∙ ap (λ k. seen ws ++ span last.first k) (let z : w.count ≡ suc last.count = omega (arith, count) in z)
          ∙ ap (◌++◌ (seen ws)) (span_next last.first last.count ∙ ap (λ k. span last.first last.count ++ k ∷ []) next)
          ∙ sym (append_assoc (seen ws) (span last.first last.count) (bit ∷ []))
          ∙ ap (λ bits. bits ++ bit ∷ []) (sym (seen_last ws last)),
    )

-- or a new window does
pub opened : (ws : List Window) (w : Window) (bit front : ℕ) → AreWindows 0 ws → front ≡ length (seen ws) → front < most_inputs
    → IsWindow front w → w.first ≡ bit → w.count ≡ 1
    → AreWindows 0 (ws ++ w ∷ []) × (seen (ws ++ w ∷ []) ≡ seen ws ++ bit ∷ [])
opened ws w bit front laid at few is first count = (
  laid_last 0 ws w laid (subst (λ n. IsWindow n w) (let z : front ≡ length (seen ws) + 0 = omega (arith, at) in z) is)
      (omega (arith, at, few, count)),
  seen_last ws w ∙ ap (λ k. seen ws ++ span k w.count) first ∙ ap (λ k. seen ws ++ span bit k) count,
)

-- ---- rows

-- the row of the first windows is small
pub row_small : (f : ℕ → Bool) (k : ℕ) (ws : List Window) → AreWindows 0 ws → coded (map f (seen (take k ws))) < 1024
row_small f k ws laid =
    let bits = seen (take k ws) in
    let few : length (map f bits) ≤ 10 = omega (arith, length-map bits f, room 0 k ws laid) in
    let most : 2 ^ length (map f bits) ≤ 2 ^ 10 = pow_mono few in
    omega (arith, most, coded_small (map f bits))

-- the next window adds its bits
pub row_next : (v i half row : ℕ) (ws : List Window) (d : Window) → AreWindows 0 ws → i < length ws → half < 2 ^ 64
    → ((k : ℕ) → k < word_bits → k / 64 ≡ (get_or ws i d).first / 64 → bit_at half (k % 64) ≡ bit_at v k)
    → row ≡ coded (map (bit_of v) (seen (take i ws)))
    → row + bit_and (rotate_right w64 half (get_or ws i d).rotation) (get_or ws i d).mask ≡ coded (map (bit_of v) (seen (take (i + 1) ws)))
row_next v i half row ws d laid less fits halved so_far =
    let w = get_or ws i d in
    let f = bit_of v in
    let front = seen (take i ws) in
    let more : seen (take (i + 1) ws) ≡ front ++ span w.first w.count = ap seen (take_more ws i d less) ∙ seen_last (take i ws) w in
    let within : w.count + length front ≤ most_inputs =
    (let all = room 0 (i + 1) ws laid in
    let both = ap length more ∙ length-append front (span w.first w.count) in
    omega (arith, all, both, length_span w.first w.count)) in
    let is : IsWindow (length front) w =
    subst (λ n. IsWindow n w) (let z : length front + 0 ≡ length front = omega arith in z) (window_at 0 i ws d laid less) in
    let part = window_read v half (length front) w fits halved within is in
    let whole = ap (λ bits. coded (map f bits)) more ∙ ap coded (map-append f front (span w.first w.count))
    ∙ coded_append (map f front) (map f (span w.first w.count))
    ∙ ap (λ n. coded (map f (span w.first w.count)) * 2 ^ n + coded (map f front)) (length-map front f) in
    omega (arith, so_far, part, whole)
