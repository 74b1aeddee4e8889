-- A turn's sets of stacks when what was found is put into them.
use Rattle.std.proofs.Common.{◌≡◌, ◌<◌, ◌≤◌, ◌+◌, ◌++◌, ℕ, List, [], ◌∷◌, Some, slice_get, length, inl, inr, refl, sym, ap, ◌∙◌}
use Rattle.std.proofs.Common.{subst, arith}
use Rattle.std.proofs.Math.ListN.{length-set}
use Rattle.std.proofs.lemmas.List.{length-append}
use Rattle.std.proofs.lemmas.Option.{slice_get_within, none-some}
use Rattle.turns.specs.Turn as turn
use Rattle.turns.specs.declared.numbered_frame.NumberedFrame.{NumberedFrame}
use Rattle.stack_sets.specs.Nodes.{head_over}
use Rattle.stack_sets.specs.declared.node.Head.{Head}
use Rattle.stack_sets.specs.declared.node.Node.{Node}
use Rattle.saturation.specs.Items.{Found, IsAmong, below_of, item_of}
use Rattle.saturation.specs.declared.item.Below.{Below}
use Rattle.saturation.specs.declared.item.Below.TheVariants as below
use Rattle.saturation.specs.declared.item.Item.{Item}
use Rattle.saturation.specs.declared.item.Item.TheVariants.{Gone}
use Rattle.naming.specs.declared.named.Named.{Named}
use Rattle.naming.specs.declared.part.Part.{Part}
use Rattle.naming.specs.declared.part.Part.TheVariants.{Call, Ending}
use Rattle.naming.specs.Names.{put, HasName, IsLevel, AddsPart, AddsBelow, IsPut, IsBared, endings_in}
use Rattle.naming.specs.Holds.{HasEnding, Holds, HaveSome, HoldsFor}
use Rattle.naming.proofs.ListLemmas.{endings_append}
use Rattle.naming.proofs.PlaceLemmas.{get_last}
use Rattle.naming.proofs.HoldLemmas.{Plus, among_last, among_more, among_split, ending_as, name_more, holds_as, add_holds, put_holds}
use Rattle.naming.proofs.HoldLemmas.{empty_holds}

ending_more : (done : List Item) (item : Item) (g : ℕ) → HasEnding (IsAmong done) g → HasEnding (IsAmong (done ++ item ∷ [])) g
ending_more done item g has =
    ending_as (IsAmong done) (IsAmong (done ++ item ∷ [])) (λ x is. among_more done item x (inl is)) g has

one_ending : (part : Part) → endings_in (part ∷ []) ≤ 1
one_ending (Call entry) = omega arith
one_ending (Ending g) = omega arith

module _ {Alloc : Type 0} where
  -- ---- a set more

  pub adds_level : (part : Part) (old new : Named Alloc) → AddsPart part old new → IsLevel old → IsLevel new
  adds_level part old new (inl (parts, nodes)) level = ap length nodes ∙ level ∙ sym (ap length parts)
  adds_level part old new (inr (absent, parts, node, bare, none, nodes)) level =
      let a : length new.parts.keys ≡ length old.parts.keys + 1 = ap length parts ∙ length-append old.parts.keys (part ∷ []) in
      let b : length new.nodes.items ≡ length old.nodes.items + 1 = ap length nodes ∙ length-append old.nodes.items (node ∷ []) in
      omega (arith, a, b, level)

  pub below_level : (b : Below) (old new : Named Alloc) → AddsBelow b old new → IsLevel old → IsLevel new
  below_level (below.Old q) old new stays level = adds_level (Ending 0) old new (inl stays) level
  below_level (below.Call entry) old new adds level = adds_level (Call entry) old new adds level

  -- a set is one ending more, or none
  adds_endings : (part : Part) (old new : Named Alloc) → AddsPart part old new
      → endings_in new.parts.keys ≤ endings_in old.parts.keys + endings_in (part ∷ [])
  adds_endings part old new (inl (parts, nodes)) = let e = ap endings_in parts in omega (arith, e)
  adds_endings part old new (inr (absent, parts, node, bare, none, nodes)) =
      let e = ap endings_in parts ∙ endings_append old.parts.keys (part ∷ []) in
      omega (arith, e)

  pub adds_few : (part : Part) (old new : Named Alloc) → AddsPart part old new
      → endings_in new.parts.keys ≤ endings_in old.parts.keys + 1
  adds_few part old new adds = let a = adds_endings part old new adds in let b = one_ending part in omega (arith, a, b)

  -- and the set of a call none
  pub below_few : (b : Below) (old new : Named Alloc) → AddsBelow b old new → endings_in new.parts.keys ≤ endings_in old.parts.keys
  below_few (below.Old q) old new (parts, nodes) = let e = ap endings_in parts in omega (arith, e)
  below_few (below.Call entry) old new adds = let a = adds_endings (Call entry) old new adds in omega (arith, a)

  -- a head that is put on a node leaves as many
  pub put_level : (named : Named Alloc) (head : Head) (i : ℕ) (nodes : List (Node Alloc)) → IsPut head named.nodes.items i nodes
      → IsLevel named → length nodes ≡ length named.parts.keys
  put_level named head i nodes (x, y, at, is, bare, heads) level = ap length is ∙ length-set named.nodes.items i y ∙ level

  -- a set that is there has a node
  pub has_node : (named : Named Alloc) (i : ℕ) (part : Part) → IsLevel named → slice_get named.parts.keys i ≡ Some part
      → i < length named.nodes.items
  has_node named i part level at =
      let small : i < length named.parts.keys = slice_get_within named.parts.keys i part at in
      omega (arith, small, level)

  module _ (base : ℕ) (part : Part) (old new : Named Alloc) (adds : AddsPart part old new) where
    pub adds_name : (b : turn.Below ℕ ℕ NumberedFrame) (m : ℕ) → HasName base old.parts.keys b m → HasName base new.parts.keys b m
    adds_name b m name =
        elim adds [
          | inl (parts, nodes) ↦ subst (λ l. HasName base l b m) (sym parts) name
          | inr (absent, parts, node, bare, none, nodes) ↦
              subst (λ l. HasName base l b m) (sym parts) (name_more base old.parts.keys (part ∷ []) b m name)
        ]

    pub adds_holds : (Is : Found → Type 0) → Holds Is base old.parts.keys old.nodes.items → Holds Is base new.parts.keys new.nodes.items
    adds_holds Is holds =
        elim adds [
          | inl (parts, nodes) ↦
              subst (λ l. Holds Is base l new.nodes.items) (sym parts) (subst (λ l. Holds Is base old.parts.keys l) (sym nodes) holds)
          | inr (absent, parts, node, bare, none, nodes) ↦
              subst (λ l. Holds Is base l new.nodes.items) (sym parts)
              (subst (λ l. Holds Is base (old.parts.keys ++ part ∷ []) l) (sym nodes)
              (add_holds base Is old.parts.keys old.nodes.items holds part absent node bare none))
        ]

    pub adds_some : (Is : Found → Type 0) → ((g : ℕ) → part ≡ Ending g → HasEnding Is g) → HaveSome Is old.parts.keys
        → HaveSome Is new.parts.keys
    adds_some Is own some i g at =
        elim adds [
          | inl (parts, nodes) ↦ some i g (subst (λ l. slice_get l i ≡ Some (Ending g)) parts at)
          | inr (absent, parts, node, bare, none, nodes) ↦
              elim (get_last old.parts.keys part i (Ending g) (subst (λ l. slice_get l i ≡ Some (Ending g)) parts at)) [
                | inl was ↦ some i g was
                | inr (e, same) ↦ own g same
              ]
        ]

  module _ (base : ℕ) (b : Below) (old new : Named Alloc) (adds : AddsBelow b old new) (Is : Found → Type 0) where
    below_holds : Holds Is base old.parts.keys old.nodes.items → Holds Is base new.parts.keys new.nodes.items
    below_holds holds = go b adds
      where
        go : (b : Below) → AddsBelow b old new → Holds Is base new.parts.keys new.nodes.items
        go (below.Old q) stays = adds_holds base (Ending 0) old new (inl stays) Is holds
        go (below.Call entry) adds = adds_holds base (Call entry) old new adds Is holds

    below_some : HaveSome Is old.parts.keys → HaveSome Is new.parts.keys
    below_some some = go b adds
      where
        go : (b : Below) → AddsBelow b old new → HaveSome Is new.parts.keys
        go (below.Old q) (parts, nodes) = λ i g at. some i g (subst (λ l. slice_get l i ≡ Some (Ending g)) parts at)
        go (below.Call entry) adds = adds_some base (Call entry) old new adds Is (λ g same. absurd (cc)) some

  -- ---- an item more

  -- of a head over a set
  pub put_done : (base : ℕ) (done : List Item) (item : Item) (part : Part) (f : NumberedFrame) (b : Below) (n i : ℕ)
      (old named new : Named Alloc) (nodes : List (Node Alloc)) → put part f (below_of b) ≡ item_of item → AddsBelow b old named
      → HasName base named.parts.keys (below_of b) n → AddsPart part named new → slice_get new.parts.keys i ≡ Some part
      → IsPut (head_over f n) new.nodes.items i nodes → HoldsFor base done old
      → Holds (IsAmong (done ++ item ∷ [])) base new.parts.keys nodes × HaveSome (IsAmong (done ++ item ∷ [])) new.parts.keys
  put_done base done item part f b n i old named new nodes same below name adds at is (holds, some) =
      let Is : Found → Type 0 = IsAmong done in
      let Js : Found → Type 0 = IsAmong (done ++ item ∷ []) in
      let x : Found = put part f (below_of b) in
      let first = below_holds base b old named below Is holds in
      let second = adds_holds base part named new adds Is first in
      let name' = adds_name base part named new adds (below_of b) n name in
      let third = put_holds base Is new.parts.keys new.nodes.items nodes second i part f (below_of b) n at name' is in
      let there : (y : Found) → Plus Is x y → Js y = λ y has. among_more done item y (subst (λ z. Plus Is z y) same has) in
      let back : (y : Found) → Js y → Plus Is x y = λ y has. subst (λ z. Plus Is z y) (sym same) (among_split done item y has) in
      let here : Js x = there x (inr refl) in
      let own : (g : ℕ) → part ≡ Ending g → HasEnding Js g = λ g is_it.
      inr (f, below_of b, subst (λ z. Js (put z f (below_of b))) is_it here) in
      let before : HaveSome Js old.parts.keys = λ j g has. ending_more done item g (some j g has) in (
        holds_as base (Plus Is x) Js there back new.parts.keys nodes third,
        adds_some base part named new adds Js own (below_some base b old named below Js before),
      )

  -- of the empty stack
  pub empty_done : (base : ℕ) (done : List Item) (g i : ℕ) (old new : Named Alloc) (nodes : List (Node Alloc))
      → AddsPart (Ending g) old new → slice_get new.parts.keys i ≡ Some (Ending g) → IsBared new.nodes.items i nodes
      → HoldsFor base done old
      → Holds (IsAmong (done ++ Gone g ∷ [])) base new.parts.keys nodes × HaveSome (IsAmong (done ++ Gone g ∷ [])) new.parts.keys
  empty_done base done g i old new nodes adds at is (holds, some) =
      let item : Item = Gone g in
      let Is : Found → Type 0 = IsAmong done in
      let Js : Found → Type 0 = IsAmong (done ++ item ∷ []) in
      let first = adds_holds base (Ending g) old new adds Is holds in
      let second = empty_holds base Is new.parts.keys new.nodes.items nodes first i g at is in
      let own : (h : ℕ) → Ending g ≡ Ending h → HasEnding Js h = λ h same.
      let same_g : g ≡ h = cc in
      inl (subst (λ z. Js (turn.gone z)) same_g (among_last done item)) in
      let before : HaveSome Js old.parts.keys = λ j h has. ending_more done item h (some j h has) in (
        holds_as base (Plus Is (turn.gone g)) Js (among_more done item) (among_split done item) new.parts.keys nodes second,
        adds_some base (Ending g) old new adds Js own before,
      )

-- nothing is found yet
pub none_done : {Alloc : Type 0} (base : ℕ) (named : Named Alloc) → named.parts.keys ≡ [] → named.nodes.items ≡ [] → HoldsFor base [] named
none_done {Alloc} base named parts nodes = (
  subst (λ l. Holds (IsAmong []) base l named.nodes.items) (sym parts)
      (subst (λ l. Holds (IsAmong []) base [] l) (sym nodes) (no_holds base)),
  λ i g at. absurd (none-some (Ending g) (subst (λ l. slice_get l i ≡ Some (Ending g)) parts at)),
)
  where
    no_holds : (base : ℕ) → Holds {Alloc = Alloc} (IsAmong []) base [] []
    no_holds base = record {
      once = λ i j p at at'. absurd (none-some p at);
      bare_only = λ i bare. absurd bare;
      bare_all = λ g (item, m, same). absurd m;
      heads_only = λ i f m has. absurd has;
      heads_all = λ p f b (item, m, same). absurd m;
    }
