-- The named sets of a turn have the stacks with which it can end.
use Rattle.std.proofs.Common.{◌≡◌, ◌↔◌, ◌<◌, ◌+◌, ◌++◌, ℕ, List, [], ◌∷◌, true, Some, slice_get, length, inl, inr, refl, sym, ap, ◌∙◌}
use Rattle.std.proofs.Common.{subst, get_or, arith}
use Rattle.std.proofs.lemmas.List.{length-append}
use Rattle.std.proofs.lemmas.Option.{same_Some, slice_get-get_or, slice_get_within}
use Rattle.language.specs.Lists.{Member}
use Rattle.turns.specs.Machines.{Machine}
use Rattle.turns.specs.Parts as sets
use Rattle.turns.specs.Parts.{parts_of, PartIsBare, PartHas, AreNamed}
use Rattle.turns.specs.Stacks.{InNode, IsSimulation}
use Rattle.turns.specs.Turn as turn
use Rattle.turns.specs.Turn.{LiesBelow, IsStackOf, TurnEnds, SomeHeadFails, SomeStackFails}
use Rattle.turns.specs.declared.numbered_frame.NumberedFrame.{NumberedFrame}
use Rattle.turns.proofs.FailLemmas.{has_below}
use Rattle.turns.proofs.NodeLemmas.{no_more_stacks}
use Rattle.turns.proofs.PartLemmas.{into, named_stacks}
use Rattle.turns.proofs.TurnLemmas.{found_ends}
use Rattle.stack_sets.specs.Nodes.{IsPrefix, by_number, head_over}
use Rattle.stack_sets.specs.Turns.{AreWhole, AreEndings}
use Rattle.stack_sets.specs.declared.node.Node.{Node}
use Rattle.stack_sets.specs.declared.turn.Ending as endings
use Rattle.saturation.specs.Items.{Found, IsAmong}
use Rattle.saturation.specs.declared.item.Item.{Item}
use Rattle.naming.specs.declared.named.Named as kept
use Rattle.naming.specs.declared.part.Part.{Part}
use Rattle.naming.specs.declared.part.Part.TheVariants.{Call, Ending}
use Rattle.naming.specs.Moves.{IsNumber, ReachBelow, AreKept}
use Rattle.naming.specs.Pruned.{ArePruned}
use Rattle.naming.specs.Names.{put, IsAt, HasName, IsEndingAt, IsLevel, AreListed}
use Rattle.naming.specs.Holds.{HasEnding, Holds, HaveSome, HoldsFor}
use Rattle.naming.proofs.HoldLemmas.{holds_as, ending_as}
use Rattle.stack_sets.proofs.GrowLemmas.{in_within}
use Rattle.stack_sets.proofs.PlaceLemmas.{at_left, at_before, at_right, right_at, at_either}
use Rattle.naming.proofs.PruneLemmas.{pruned_length, pruned_reach, pruned_stacks, pruned_whole}
use Rattle.naming.proofs.StackLemmas.{kept_stacks, kept_within, kept_whole}

-- what lies below a frame
abbrev Lower : Type 0
Lower = turn.Below ℕ ℕ NumberedFrame

-- what is at a place is one thing
same_at : (parts : List Part) (i : ℕ) (p q : Part) → slice_get parts i ≡ Some p → slice_get parts i ≡ Some q → p ≡ q
same_at parts i p q at at' = same_Some p q (sym at ∙ at')

module _ {Alloc : Type 0} (m : Machine ℕ NumberedFrame) (before : List (Node Alloc)) (g0 start : ℕ) (whole : AreWhole before)
    (parts : List Part) (nodes : List (Node Alloc)) (level : length nodes ≡ length parts)
    (holds : Holds (turn.Found m (by_number before) g0 start) (length before) parts nodes) where
  abbrev Is : Found → Type 0
  Is x = turn.Found m (by_number before) g0 start x

  abbrev base : ℕ
  base = length before

  abbrev after : List (Node Alloc)
  after = before ++ nodes

  abbrev Bears : NumberedFrame → ℕ → Node Alloc → Type 0
  Bears f n node = Member (head_over f n) node.heads.items

  abbrev IsBare : Node Alloc → Type 0
  IsBare node = node.bare ≡ true

  -- some frames lie below whatever is over a set
  lies_below : (p : Part) (f : NumberedFrame) (b : Lower) → Is (put p f b)
      → (fs : List NumberedFrame) × LiesBelow (by_number before) Is b fs
  lies_below (Call entry) f b found =
      has_below m (by_number before) g0 start whole.full (turn.caller entry.globals entry.frame f b) found
  lies_below (Ending g) f b found = has_below m (by_number before) g0 start whole.full (turn.head g f b) found

  -- a node that has a stack is there
  -- the names of sets: a node from before is its own
  abbrev Named : sets.Part ℕ ℕ NumberedFrame → ℕ → Type 0
  Named (sets.below (turn.old q)) n = (n ≡ q) × (q < base)
  Named (sets.below (turn.call g e)) n = IsAt base parts (Call (record { globals = g; frame = e })) n
  Named (sets.ending g) n = IsAt base parts (Ending g) n

  named_below : (b : Lower) (n : ℕ) (fs : List NumberedFrame) → LiesBelow (by_number before) Is b fs → HasName base parts b n
      → Named (sets.below b) n
  named_below (turn.old q) n fs lies same = (same, in_within before q fs lies)
  named_below (turn.call g e) n fs lies name = name

  named_over : (p : Part) (f : NumberedFrame) (b : Lower) (n : ℕ) → Is (put p f b) → HasName base parts b n → Named (sets.below b) n
  named_over p f b n found name = let (fs, lies) = lies_below p f b found in named_below b n fs lies name

  -- ---- what the new nodes have

  new_has : (p : Part) (n : ℕ) → IsAt base parts p n → (f : NumberedFrame) (c : Lower) → Is (put p f c)
      → (k : ℕ) × (by_number after).Has n f k × Named (sets.below c) k
  new_has p n (i, at, is) f c found =
      let (j, k, at', has, name) = holds.heads_all p f c found in
      let e : base + j ≡ n = ap (λ z. base + z) (holds.once j i p at' at) ∙ sym is in
      (k, subst (λ z. (by_number after).Has z f k) e (at_right (Bears f k) before nodes j has), named_over p f c k found name)

  new_bare : (g n : ℕ) → IsAt base parts (Ending g) n → Is (turn.gone g) → (by_number after).Bare n
  new_bare g n (i, at, is) found =
      let (j, at', bare) = holds.bare_all g found in
      let e : base + j ≡ n = ap (λ z. base + z) (holds.once j i (Ending g) at' at) ∙ sym is in
      subst (λ z. (by_number after).Bare z) e (at_right IsBare before nodes j bare)

  has_only : (p : Part) (n : ℕ) → IsAt base parts p n → (f : NumberedFrame) (k : ℕ) → (by_number after).Has n f k
      → (c : Lower) × Is (put p f c) × Named (sets.below c) k
  has_only p n (i, at, is) f k has =
      let here = right_at (Bears f k) before nodes i (subst (λ z. (by_number after).Has z f k) is has) in
      let (q, c, at', found, name) = holds.heads_only i f k here in
      (c, subst (λ z. Is (put z f c)) (same_at parts i q p at' at) found, named_over q f c k found name)

  bare_only : (p : Part) (n : ℕ) → IsAt base parts p n → (by_number after).Bare n → (g : ℕ) × (Ending g ≡ p) × Is (turn.gone g)
  bare_only p n (i, at, is) bare =
      let here = right_at IsBare before nodes i (subst (λ z. (by_number after).Bare z) is bare) in
      let (g, at', found) = holds.bare_only i here in
      (g, same_at parts i (Ending g) p at' at, found)

  -- ---- the names

  there : IsSimulation (parts_of (by_number before) Is) (by_number after) Named
  there (sets.below (turn.old q)) r (same, small) = (
    λ bare. subst (λ z. (by_number after).Bare z) (sym same) (at_left IsBare before nodes q bare),
    λ f b (k, e, has). (
      k,
      subst (λ z. (by_number after).Has z f k) (sym same) (at_left (Bears f k) before nodes q has),
      subst (λ z. Named z k) (sym e) (refl, whole.within q f k has),
    ),
  )
  there (sets.below (turn.call g e)) r at = (
    λ none. absurd none,
    λ f b (c, same, found).
        let (k, has, named) = new_has (Call (record { globals = g; frame = e })) r at f c found in
        (k, has, subst (λ z. Named z k) (sym same) named),
  )
  there (sets.ending g) r at = (
    λ found. new_bare g r at found,
    λ f b (c, same, found).
        let (k, has, named) = new_has (Ending g) r at f c found in
        (k, has, subst (λ z. Named z k) (sym same) named),
  )

  back : IsSimulation (by_number after) (parts_of (by_number before) Is) (λ n part. Named part n)
  back n (sets.below (turn.old q)) (same, small) = (
    λ bare. at_before IsBare before nodes q small (subst (λ z. (by_number after).Bare z) same bare),
    λ f k has.
        let was : (by_number before).Has q f k =
        at_before (Bears f k) before nodes q small (subst (λ z. (by_number after).Has z f k) same has) in
        (sets.below (turn.old k), (k, refl, was), (refl, whole.within q f k was)),
  )
  back n (sets.below (turn.call g e)) at = (
    λ bare. let (h, same, found) = bare_only (Call (record { globals = g; frame = e })) n at bare in absurd (cc),
    λ f k has.
        let (c, found, named) = has_only (Call (record { globals = g; frame = e })) n at f k has in
        (sets.below c, (c, refl, found), named),
  )
  back n (sets.ending g) at = (
    λ bare.
        let (h, same, found) = bare_only (Ending g) n at bare in
        let same_g : h ≡ g = cc in
        subst (λ z. Is (turn.gone z)) same_g found,
    λ f k has.
        let (c, found, named) = has_only (Ending g) n at f k has in
        (sets.below c, (c, refl, found), named),
  )

  -- ---- the nodes

  -- frames that can lie below are in the node by that name
  below_in : (c : Lower) (n : ℕ) (fs : List NumberedFrame) → Named (sets.below c) n → LiesBelow (by_number before) Is c fs
      → InNode (by_number after) n fs
  below_in c n fs named lies =
      no_more_stacks (parts_of (by_number before) Is) (by_number after) Named there fs (sets.below c) n named
      (into (by_number before) Is fs c lies)

  at_small : (p : Part) (n : ℕ) → IsAt base parts p n → n < length after
  at_small p n (i, at, is) =
      let small : i < length parts = slice_get_within parts i p at in
      omega (arith, small, level, is, length-append before nodes)

  named_small : (c : Lower) (n : ℕ) → Named (sets.below c) n → n < length after
  named_small (turn.old q) n (same, small) = omega (arith, same, small, length-append before nodes)
  named_small (turn.call g e) n at = at_small (Call (record { globals = g; frame = e })) n at

  over_what : (q : ℕ) (f : NumberedFrame) (n : ℕ) → (by_number after).Has q f n
      → (c : Lower) × (fs : List NumberedFrame) × Named (sets.below c) n × LiesBelow (by_number before) Is c fs
  over_what q f n has =
      elim (at_either (Bears f n) before nodes q has) [
        | inl was ↦ let (fs, is) = whole.full q f n was in (turn.old n, fs, (refl, whole.within q f n was), is)
        | inr (i, now) ↦
            let (p, c, at, found, name) = holds.heads_only i f n now in
            let (fs, lies) = lies_below p f c found in
            (c, fs, named_below c n fs lies name, lies)
      ]

  pub after_whole : AreWhole after
  after_whole = record {
    within = λ q f n has. let (c, fs, named, lies) = over_what q f n has in named_small c n named;
    full = λ q f n has. let (c, fs, named, lies) = over_what q f n has in (fs, below_in c n fs named lies);
  }

  -- ---- the endings

  ending_stacks : (h n : ℕ) → IsAt base parts (Ending h) n → (stack : List NumberedFrame)
      → InNode (by_number after) n stack ↔ IsStackOf (by_number before) Is h stack
  ending_stacks h n at stack =
      named_stacks (by_number before) Is (by_number after) Named (record { there = there; back = back }) h n at stack

  ending_at : (h : ℕ) (stack : List NumberedFrame) → IsStackOf (by_number before) Is h stack
      → (i : ℕ) × (slice_get parts i ≡ Some (Ending h))
  ending_at h [] found = let (i, at, bare) = holds.bare_all h found in (i, at)
  ending_at h (f ∷ fs) (b, found, lies) = let (i, k, at, has, name) = holds.heads_all (Ending h) f b found in (i, at)

  some_stack : (h : ℕ) → HasEnding Is h → (stack : List NumberedFrame) × IsStackOf (by_number before) Is h stack
  some_stack h (inl found) = ([], found)
  some_stack h (inr (f, b, found)) = let (fs, lies) = lies_below (Ending h) f b found in (f ∷ fs, (b, found, lies))

  -- the nodes of the turn reach no further than to each other
  turn_reaches : ReachBelow (base + length nodes) nodes
  turn_reaches i f r has =
      let small : r < length after = after_whole.within (base + i) f r (at_right (Bears f r) before nodes i has) in
      omega (arith, small, length-append before nodes)

  -- ---- the nodes with fewer heads

  module _ (fewer : List (Node Alloc)) (pruned : ArePruned after nodes fewer) where
    pub fewer_reach : ReachBelow (base + length fewer) fewer
    fewer_reach = pruned_reach before nodes fewer pruned base turn_reaches

    -- ---- the nodes that are kept for them

    module _ (there : List (Node Alloc)) (prefix : IsPrefix before there) (names : List ℕ) (count : length names ≡ length fewer)
        (kept : AreKept base (IsNumber names) (IsNumber names) fewer there) where
      pub there_whole : AreWhole there
      there_whole =
          kept_whole before fewer there whole prefix (IsNumber names) kept (pruned_whole before nodes fewer pruned after_whole)

      -- each ending has a number
      named_at : (i h : ℕ) → slice_get parts i ≡ Some (Ending h) → (n : ℕ) × IsNumber names i n
      named_at i h at =
          let small : i < length parts = slice_get_within parts i (Ending h) at in
          let same = pruned_length after nodes fewer pruned in
          let small' : i < length names = omega (arith, small, level, same, count) in
          (get_or names i 0, slice_get-get_or names i 0 small')

      there_stacks : (h n : ℕ) → IsEndingAt names parts h n → (stack : List NumberedFrame)
          → InNode (by_number there) n stack ↔ IsStackOf (by_number before) Is h stack
      there_stacks h n (i, at, name) stack =
          let first = kept_stacks before fewer there whole prefix (IsNumber names) kept (base + i) n (inr (i, refl, name)) stack in
          let second = pruned_stacks before nodes fewer pruned (base + i) stack in
          let third = ending_stacks h (base + i) (i, at, refl) stack in
          (λ inside. third.0 (second.0 (first.0 inside)), λ is. first.1 (second.1 (third.1 is)))

      pub are_endings : HaveSome Is parts → (listed : List endings.Ending) → AreListed names parts listed
          → AreEndings m before there g0 start listed
      are_endings some listed all = record {
        only = λ h n stack member inside.
            (found_ends m (by_number before) g0 start h stack).0 ((there_stacks h n ((all h n).0 member) stack).0 inside);
        all = λ h stack ends.
            let is = (found_ends m (by_number before) g0 start h stack).1 ends in
            let (i, at) = ending_at h stack is in
            let (n, name) = named_at i h at in
            (n, (all h n).1 (i, at, name), (there_stacks h n (i, at, name) stack).1 is);
        within = λ h n member.
            let (i, at, name) = (all h n).0 member in
            kept_within before fewer there whole prefix (IsNumber names) kept (base + i) n (inr (i, refl, name));
        some = λ h n member.
            let at = (all h n).0 member in
            let (stack, is) = some_stack h (some at.0 h at.1) in
            (stack, (there_stacks h n at stack).1 is);
      }

-- ---- the whole turn

module _ {Alloc : Type 0} (m : Machine ℕ NumberedFrame) (before : List (Node Alloc)) (g0 start : ℕ) (whole : AreWhole before)
    (items : List Item) (all : (x : Found) → IsAmong items x ↔ turn.Found m (by_number before) g0 start x) (n : ℕ)
    (is_base : n ≡ length before) (named : kept.Named Alloc) (level : IsLevel named) (holds : HoldsFor n items named) where
  holds_found : Holds (turn.Found m (by_number before) g0 start) (length before) named.parts.keys named.nodes.items
  holds_found =
      holds_as (length before) (IsAmong items) (turn.Found m (by_number before) g0 start) (λ x is. (all x).0 is) (λ x is. (all x).1 is)
      named.parts.keys named.nodes.items
      (subst (λ b. Holds (IsAmong items) b named.parts.keys named.nodes.items) is_base holds.0)

  some_found : HaveSome (turn.Found m (by_number before) g0 start) named.parts.keys
  some_found i h at = ending_as (IsAmong items) (turn.Found m (by_number before) g0 start) (λ x is. (all x).0 is) h (holds.1 i h at)

  module _ (fewer : List (Node Alloc)) (pruned : ArePruned (before ++ named.nodes.items) named.nodes.items fewer) where
    -- heads lie over nodes that get final numbers
    pub reach_then : ReachBelow (n + length fewer) fewer
    reach_then = subst (λ b. ReachBelow (b + length fewer) fewer) (sym is_base)
        (fewer_reach m before g0 start whole named.parts.keys named.nodes.items level holds_found fewer pruned)

    module _ (there : List (Node Alloc)) (prefix : IsPrefix before there) (names : List ℕ) (count : length names ≡ length fewer)
        (are : AreKept n (IsNumber names) (IsNumber names) fewer there) where
      are_kept : AreKept (length before) (IsNumber names) (IsNumber names) fewer there
      are_kept = subst (λ b. AreKept b (IsNumber names) (IsNumber names) fewer there) is_base are

      -- the nodes after the turn are whole
      pub whole_then : AreWhole there
      whole_then =
          there_whole m before g0 start whole named.parts.keys named.nodes.items level holds_found fewer pruned there prefix names count
          are_kept

      -- and the listed endings are those of the turn
      pub endings_then : (listed : List endings.Ending) → AreListed names named.parts.keys listed
          → AreEndings m before there g0 start listed
      endings_then listed is =
          are_endings m before g0 start whole named.parts.keys named.nodes.items level holds_found fewer pruned there prefix names count
          are_kept some_found listed is
