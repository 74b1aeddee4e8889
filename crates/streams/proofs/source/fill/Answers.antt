-- A read fills the room from where the last one ended; one that is made again gave nothing.
use Rattle.std.proofs.Common.{◌≡◌, ◌∙◌, ◌+◌, ◌-◌, ◌≤◌, ◌++◌, ℕ, List, Option, ap, arith, drop_at, le_refl}
use Rattle.std.proofs.Common.{length, length-take-le, rules, slice_range, subst, sym, take}
use Rattle.std.proofs.lemmas.Slice.{take-put_mid_below}
use Rattle.std.specs.Io.KnownBytes.{Consumes, Keeps}
use Rattle.std.proofs.KnownBytes.{Consumes-kept, Consumes-trans}
use borrow.Rule.Slice.PartMut.{post_of, put_mid}
use lib.Seq.{take-add, take-append-le}
use Rattle.streams.proofs.source.fill.Goals as goal
use Rattle.streams.proofs.source.fill.Goals.{in-Ok, in-Err+else-ne}

take_split : (a b : ℕ) (old new : List ℕ) → a ≤ b → take a new ≡ take a old
    → take a old ++ slice_range new a b ≡ take b new
take_split a b old new h front =
    let same : a + (b - a) ≡ b = omega arith in
    ap (λ l. l ++ slice_range new a b) (sym front) ∙ sym (take-add a (b - a) new) ∙ ap (λ n. take n new) same

slice_range-put_mid : (a k n : ℕ) (xs ys : List ℕ) → a ≤ length xs → n ≤ length ys → slice_range (put_mid a k xs ys) a
    (a + n) ≡ take n ys
slice_range-put_mid a k n xs ys within fits =
    let same : (a + n) - a ≡ n = omega arith in
    let after = post_of a k xs in
    ap (take ((a + n) - a)) (drop_at (take a xs) (ys ++ after) a (length-take-le a xs within))
    ∙ ap (λ m. take m (ys ++ after)) same ∙ take-append-le n ys after fits

-- what was given before, and what a read gives after it
gave_more : (a b c : Option (List ℕ)) (room part : List ℕ) (at k n m : ℕ) → m ≡ at + n → at ≤ length room
    → n ≤ length part
    → Consumes a b (take at room) → Consumes b c (take n part) → Consumes a c (take m (put_mid at k room part))
gave_more a b c room part at k n m is within fits before more =
    let new = put_mid at k room part in
    let upto : at ≤ at + n = omega arith in
    let joined = take_split at (at + n) room new upto (take-put_mid_below at k room part at (le_refl at) within) in
    let behind = ap (λ l. take at room ++ l) (sym (slice_range-put_mid at k n room part within fits)) in
    subst (Consumes a c) (behind ∙ joined ∙ ap (λ i. take i new) (sym is)) (Consumes-trans a b c _ _ before more)

-- if a read gives nothing
gave_same : (a b c : Option (List ℕ)) (room part : List ℕ) (at k m : ℕ) → m ≡ at → at ≤ length room
    → Consumes a b (take at room) → Keeps b c → Consumes a c (take m (put_mid at k room part))
gave_same a b c room part at k m is within before kept =
    let new = put_mid at k room part in
    subst (Consumes a c) (sym (take-put_mid_below at k room part at (le_refl at) within) ∙ ap (λ i. take i new)
    (sym is)) (Consumes-kept a b c _ before kept)

pub loop-turn-preserved : goal.loop-turn-preserved
loop-turn-preserved g c =
    let at = c.loop-turn.filled in
    let room = c.loop-turn.room in
    let k = length room - at in
    let part = c.read.new.buf in
    let before = c.loop-turn.invariant in
    let first = g.R.Read.remaining c.args.reader.now in
    let old = g.R.Read.remaining c.loop-turn.reader in
    let new = g.R.Read.remaining c.read.new.self in
    elim c.match-read.branch [
      | in-Ok w ↦ record {
        same = search rules;
        within = search rules;
        gave = gave_more first old new room part at k w.in-Ok.count c.match-read.filled w.filled-is before.within
            w.in-Ok.ensures.bound.0 before.gave w.in-Ok.ensures.bytes.0;
      }
      | in-Err+else-ne w ↦ record {
        same = search rules;
        within = search rules;
        gave = gave_same first old new room part at k c.match-read.filled w.filled-is before.within before.gave
            w.in-Err.ensures.bytes;
      }
    ]
