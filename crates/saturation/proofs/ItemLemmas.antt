-- Items that compare as equal are the same.
use Rattle.std.proofs.Common.{◌≡◌, Bool, true, ◌&&◌, nat_eq, sym, ap, true≢false}
use Rattle.std.proofs.lemmas.Map.Views.{exact_unsigned_eq}
use Rattle.std.proofs.lemmas.Bool.{and_parts}
use Rattle.stack_sets.proofs.NodeLemmas.{frame_eq, same_frame}
use Rattle.saturation.specs.Calls.{entry_eq}
use Rattle.saturation.specs.contracts.item.BelowPartialEq.TheImpl as below
use Rattle.saturation.specs.contracts.item.ItemPartialEq.TheImpl as derived
use Rattle.saturation.specs.declared.item.Entry.{Entry}
use Rattle.saturation.specs.declared.item.Below.{Below}
use Rattle.saturation.specs.declared.item.Below.TheVariants.{Old, Call}
use Rattle.saturation.specs.declared.item.Top.{Top}
use Rattle.saturation.specs.declared.item.Caller.{Caller}
use Rattle.saturation.specs.declared.item.Item.{Item}
use Rattle.saturation.specs.declared.item.Item.TheVariants.{Head, Waits, Gone}

abbrev below_eq : Below → Below → Bool
below_eq x y = below.eq-value.it x y

abbrev top_eq : Top → Top → Bool
top_eq x y = nat_eq x.globals y.globals && (frame_eq x.frame y.frame && below_eq x.below y.below)

abbrev caller_eq : Caller → Caller → Bool
caller_eq x y = entry_eq x.entry y.entry && (frame_eq x.frame y.frame && below_eq x.below y.below)

pub same_entry : (x y : Entry) → entry_eq x y ≡ true → x ≡ y
same_entry x y h =
    let (a, b) = and_parts (nat_eq x.globals y.globals) (frame_eq x.frame y.frame) h in
    let a' = exact_unsigned_eq x.globals y.globals a in
    let b' = same_frame x.frame y.frame b in
    λ i. record { globals = a' i; frame = b' i }

same_below : (x y : Below) → below_eq x y ≡ true → x ≡ y
same_below (Old q) (Old r) h = ap Old (exact_unsigned_eq q r h)
same_below (Call x) (Call y) h = ap Call (same_entry x y h)
same_below (Old q) (Call y) h = absurd (true≢false (sym h))
same_below (Call x) (Old r) h = absurd (true≢false (sym h))

same_top : (x y : Top) → top_eq x y ≡ true → x ≡ y
same_top x y h =
    let (a, rest) = and_parts (nat_eq x.globals y.globals) (frame_eq x.frame y.frame && below_eq x.below y.below) h in
    let (b, c) = and_parts (frame_eq x.frame y.frame) (below_eq x.below y.below) rest in
    let a' = exact_unsigned_eq x.globals y.globals a in
    let b' = same_frame x.frame y.frame b in
    let c' = same_below x.below y.below c in
    λ i. record { globals = a' i; frame = b' i; below = c' i }

same_caller : (x y : Caller) → caller_eq x y ≡ true → x ≡ y
same_caller x y h =
    let (a, rest) = and_parts (entry_eq x.entry y.entry) (frame_eq x.frame y.frame && below_eq x.below y.below) h in
    let (b, c) = and_parts (frame_eq x.frame y.frame) (below_eq x.below y.below) rest in
    let a' = same_entry x.entry y.entry a in
    let b' = same_frame x.frame y.frame b in
    let c' = same_below x.below y.below c in
    λ i. record { entry = a' i; frame = b' i; below = c' i }

pub exact : (x y : Item) → derived.eq-value.it x y ≡ true → x ≡ y
exact (Head t) (Head u) h = ap Head (same_top t u h)
exact (Waits t) (Waits u) h = ap Waits (same_caller t u h)
exact (Gone n) (Gone m) h = ap Gone (exact_unsigned_eq n m h)
exact (Head t) (Waits u) h = absurd (true≢false (sym h))
exact (Head t) (Gone m) h = absurd (true≢false (sym h))
exact (Waits t) (Head u) h = absurd (true≢false (sym h))
exact (Waits t) (Gone m) h = absurd (true≢false (sym h))
exact (Gone n) (Head u) h = absurd (true≢false (sym h))
exact (Gone n) (Waits u) h = absurd (true≢false (sym h))
