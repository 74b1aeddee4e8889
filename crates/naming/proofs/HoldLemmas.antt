-- The nodes of a turn's sets have what was found, also when a set or an item is added.
use Rattle.std.proofs.Common.{◌≡◌, ◌⊎◌, ◌++◌, ℕ, List, [], ◌∷◌, true, false, Some, slice_get, inl, inr, refl}
use Rattle.std.specs.Prelude.{slice_set}
use Rattle.std.proofs.Common.{sym, ap, ◌∙◌, subst, true≢false}
use Rattle.language.specs.Lists.{Member}
use Rattle.language.proofs.Members.{member_append, member_left, member_right}
use Rattle.turns.specs.Turn as turn
use Rattle.turns.specs.declared.numbered_frame.NumberedFrame.{NumberedFrame}
use Rattle.stack_sets.specs.Nodes.{AtNode, by_number, head_over}
use Rattle.stack_sets.specs.declared.node.Head.{Head}
use Rattle.stack_sets.specs.declared.node.Node.{Node}
use Rattle.saturation.specs.Items.{Found, IsAmong, item_of}
use Rattle.saturation.specs.declared.item.Item.{Item}
use Rattle.naming.specs.declared.part.Part.{Part}
use Rattle.naming.specs.declared.part.Part.TheVariants.{Call, Ending}
use Rattle.naming.specs.Names.{put, HasName, IsPut, IsBared}
use Rattle.naming.specs.Holds.{HasEnding, Holds}
use Rattle.stack_sets.proofs.PlaceLemmas.{at_is, is_at, at_left, at_last, set_at, at_set}
use Rattle.naming.proofs.PlaceLemmas.{get_left, get_last, get_member, set_here}
use Rattle.naming.proofs.PartLemmas.{put_same, put_gone}

-- ---- what is found, and one item more

abbrev pub Plus : (Found → Type 0) → Found → Found → Type 0
Plus Is x y = Is y ⊎ (y ≡ x)

pub among_last : (done : List Item) (item : Item) → IsAmong (done ++ item ∷ []) (item_of item)
among_last done item = (item, member_right item done (item ∷ []) (inl refl), refl)

pub among_more : (done : List Item) (item : Item) (x : Found) → Plus (IsAmong done) (item_of item) x → IsAmong (done ++ item ∷ []) x
among_more done item x (inl (one, m, same)) = (one, member_left one done (item ∷ []) m, same)
among_more done item x (inr same) = (item, member_right item done (item ∷ []) (inl refl), sym same)

pub among_split : (done : List Item) (item : Item) (x : Found) → IsAmong (done ++ item ∷ []) x → Plus (IsAmong done) (item_of item) x
among_split done item x (one, m, same) =
    elim (member_append one done (item ∷ []) m) [
      | inl was ↦ inl (one, was, same)
      | inr (inl now) ↦ inr (sym same ∙ ap item_of now)
      | inr (inr none) ↦ absurd none
    ]

pub ending_as : (Is Js : Found → Type 0) → ((x : Found) → Is x → Js x) → (g : ℕ) → HasEnding Is g → HasEnding Js g
ending_as Is Js there g (inl is) = inl (there (turn.gone g) is)
ending_as Is Js there g (inr (f, b, is)) = inr (f, b, there (turn.head g f b) is)

-- ---- names that stay

pub name_more : (base : ℕ) (parts more : List Part) (b : turn.Below ℕ ℕ NumberedFrame) (m : ℕ) → HasName base parts b m
    → HasName base (parts ++ more) b m
name_more base parts more (turn.old q) m same = same
name_more base parts more (turn.call g e) m (i, at, is) = (i, get_left parts more i (Call (record { globals = g; frame = e })) at, is)

module _ {Alloc : Type 0} (base : ℕ) where
  -- the same for sets of items that have the same
  pub holds_as : (Is Js : Found → Type 0) → ((x : Found) → Is x → Js x) → ((x : Found) → Js x → Is x) → (parts : List Part)
      (nodes : List (Node Alloc)) → Holds Is base parts nodes → Holds Js base parts nodes
  holds_as Is Js there back parts nodes holds = record {
    once = holds.once;
    bare_only = λ i bare. let (g, at, is) = holds.bare_only i bare in (g, at, there (turn.gone g) is);
    bare_all = λ g is. holds.bare_all g (back (turn.gone g) is);
    heads_only = λ i f m has. let (p, b, at, is, name) = holds.heads_only i f m has in (p, b, at, there (put p f b) is, name);
    heads_all = λ p f b is. holds.heads_all p f b (back (put p f b) is);
  }

  -- ---- a set more

  module _ (Is : Found → Type 0) (parts : List Part) (nodes : List (Node Alloc)) (holds : Holds Is base parts nodes) (part : Part)
      (new : Member part parts → ⊥) (node : Node Alloc) (bare : node.bare ≡ false) (none : node.heads.items ≡ []) where
    once_more : (i j : ℕ) (p : Part) → slice_get (parts ++ part ∷ []) i ≡ Some p → slice_get (parts ++ part ∷ []) j ≡ Some p → i ≡ j
    once_more i j p at at' =
        elim (get_last parts part i p at) [
          | inl here ↦ elim (get_last parts part j p at') [
            | inl there ↦ holds.once i j p here there
            | inr (e, same) ↦ absurd (new (subst (λ z. Member z parts) (sym same) (get_member parts i p here)))
          ]
          | inr (e, same) ↦ elim (get_last parts part j p at') [
            | inl there ↦ absurd (new (subst (λ z. Member z parts) (sym same) (get_member parts j p there)))
            | inr (e', same') ↦ e ∙ sym e'
          ]
        ]

    bare_was : (i : ℕ) → (by_number (nodes ++ node ∷ [])).Bare i → (by_number nodes).Bare i
    bare_was i is = elim (at_last (λ n. n.bare ≡ true) nodes node i is) [ inl was ↦ was | inr now ↦ absurd (true≢false (sym now ∙ bare)) ]

    head_was : (i : ℕ) (f : NumberedFrame) (m : ℕ) → (by_number (nodes ++ node ∷ [])).Has i f m → (by_number nodes).Has i f m
    head_was i f m is =
        elim (at_last (λ n. Member (head_over f m) n.heads.items) nodes node i is) [
          | inl was ↦ was
          | inr now ↦ absurd (subst (Member (head_over f m)) none now)
        ]

    pub add_holds : Holds Is base (parts ++ part ∷ []) (nodes ++ node ∷ [])
    add_holds = record {
      once = once_more;
      bare_only = λ i is. let (g, at, found) = holds.bare_only i (bare_was i is) in (g, get_left parts (part ∷ []) i (Ending g) at, found);
      bare_all = λ g is.
          let (i, at, has) = holds.bare_all g is in
          (i, get_left parts (part ∷ []) i (Ending g) at, at_left (λ n. n.bare ≡ true) nodes (node ∷ []) i has);
      heads_only = λ i f m is.
          let (p, b, at, found, name) = holds.heads_only i f m (head_was i f m is) in
          (p, b, get_left parts (part ∷ []) i p at, found, name_more base parts (part ∷ []) b m name);
      heads_all = λ p f b is.
          let (i, m, at, has, name) = holds.heads_all p f b is in (
            i,
            m,
            get_left parts (part ∷ []) i p at,
            at_left (λ n. Member (head_over f m) n.heads.items) nodes (node ∷ []) i has,
            name_more base parts (part ∷ []) b m name,
          );
    }

  -- ---- an item more

  module _ (Is : Found → Type 0) (parts : List Part) (old new : List (Node Alloc)) (holds : Holds Is base parts old) (i : ℕ) where
    -- a head over a set
    module _ (p : Part) (f : NumberedFrame) (b : turn.Below ℕ ℕ NumberedFrame) (m : ℕ) (at : slice_get parts i ≡ Some p)
        (name : HasName base parts b m) (is : IsPut (head_over f m) old i new) where
      abbrev x : Node Alloc
      x = is.0

      abbrev y : Node Alloc
      y = is.1

      bare_back : (j : ℕ) → (by_number new).Bare j → (by_number old).Bare j
      bare_back j bare =
          elim (set_at (λ n. n.bare ≡ true) old i y j (subst (λ l. (by_number l).Bare j) is.3 bare)) [
            | inl was ↦ was
            | inr (e, now) ↦ subst (λ k. (by_number old).Bare k) (sym e) (at_is (λ n. n.bare ≡ true) old i x is.2 (sym is.4 ∙ now))
          ]

      bare_there : (j : ℕ) → (by_number old).Bare j → (by_number new).Bare j
      bare_there j bare = subst (λ l. (by_number l).Bare j) (sym is.3) (
          elim (at_set (λ n. n.bare ≡ true) old i y j bare) [
            | inl stays ↦ stays
            | inr e ↦
                let was : x.bare ≡ true = is_at (λ n. n.bare ≡ true) old i x is.2 (subst (λ k. (by_number old).Bare k) e bare) in
                subst (λ k. AtNode (slice_get (slice_set old i y) k) (λ n. n.bare ≡ true)) (sym e)
                (at_is (λ n. n.bare ≡ true) (slice_set old i y) i y (set_here old i x y is.2) (is.4 ∙ was))
          ]
          )

      abbrev HasHead : NumberedFrame → ℕ → Node Alloc → Type 0
      HasHead k n node = Member (head_over k n) node.heads.items

      head_back : (j : ℕ) (k : NumberedFrame) (n : ℕ) → (by_number new).Has j k n
          → (by_number old).Has j k n ⊎ ((j ≡ i) × (head_over k n ≡ head_over f m))
      head_back j k n has =
          elim (set_at (HasHead k n) old i y j (subst (λ l. (by_number l).Has j k n) is.3 has)) [
            | inl was ↦ inl was
            | inr (e, now) ↦
                elim (member_append (head_over k n) x.heads.items (head_over f m ∷ []) (subst (Member (head_over k n)) is.5 now)) [
                  | inl was ↦ inl (subst (λ k'. (by_number old).Has k' k n) (sym e) (at_is (HasHead k n) old i x is.2 was))
                  | inr (inl same) ↦ inr (e, same)
                  | inr (inr none) ↦ absurd none
                ]
          ]

      head_there : (j : ℕ) (k : NumberedFrame) (n : ℕ) → (by_number old).Has j k n → (by_number new).Has j k n
      head_there j k n has = subst (λ l. (by_number l).Has j k n) (sym is.3) (
          elim (at_set (HasHead k n) old i y j has) [
            | inl stays ↦ stays
            | inr e ↦
                let was : HasHead k n x = is_at (HasHead k n) old i x is.2 (subst (λ k'. (by_number old).Has k' k n) e has) in
                subst (λ k'. AtNode (slice_get (slice_set old i y) k') (HasHead k n)) (sym e)
                (at_is (HasHead k n) (slice_set old i y) i y (set_here old i x y is.2)
                (subst (Member (head_over k n)) (sym is.5) (member_left (head_over k n) x.heads.items (head_over f m ∷ []) was)))
          ]
          )

      head_new : (by_number new).Has i f m
      head_new = subst (λ l. (by_number l).Has i f m) (sym is.3)
          (at_is (HasHead f m) (slice_set old i y) i y (set_here old i x y is.2)
          (subst (Member (head_over f m)) (sym is.5) (member_right (head_over f m) x.heads.items (head_over f m ∷ []) (inl refl))))

      put_only : (j : ℕ) (k : NumberedFrame) (n : ℕ) → (by_number new).Has j k n
          → (q : Part) × (c : turn.Below ℕ ℕ NumberedFrame) × (slice_get parts j ≡ Some q) × Plus Is (put p f b) (put q k c)
          × HasName base parts c n
      put_only j k n has =
          elim (head_back j k n has) [
            | inl was ↦ let (q, c, at', found, name') = holds.heads_only j k n was in (q, c, at', inl found, name')
            | inr (e, same) ↦
                let same_f : k ≡ f = ap (λ (h : Head). h.frame) same in
                let same_m : n ≡ m = ap (λ (h : Head). h.below) same in (
                  p,
                  b,
                  subst (λ z. slice_get parts z ≡ Some p) (sym e) at,
                  inr (ap (λ z. put p z b) same_f),
                  subst (λ z. HasName base parts b z) (sym same_m) name,
                )
          ]

      put_all : (q : Part) (k : NumberedFrame) (c : turn.Below ℕ ℕ NumberedFrame) → Plus Is (put p f b) (put q k c)
          → (j : ℕ) × (n : ℕ) × (slice_get parts j ≡ Some q) × (by_number new).Has j k n × HasName base parts c n
      put_all q k c (inl found) =
          let (j, n, at', has, name') = holds.heads_all q k c found in (j, n, at', head_there j k n has, name')
      put_all q k c (inr same) =
          let (same_p, same_f, same_b) = put_same q p k f c b same in (
            i,
            m,
            subst (λ z. slice_get parts i ≡ Some z) (sym same_p) at,
            subst (λ z. (by_number new).Has i z m) (sym same_f) head_new,
            subst (λ z. HasName base parts z m) (sym same_b) name,
          )

      pub put_holds : Holds (Plus Is (put p f b)) base parts new
      put_holds = record {
        once = holds.once;
        bare_only = λ j bare. let (g, at', found) = holds.bare_only j (bare_back j bare) in (g, at', inl found);
        bare_all = λ g has.
            elim has [
              | inl found ↦ let (j, at', bare) = holds.bare_all g found in (j, at', bare_there j bare)
              | inr same ↦ absurd (put_gone p f b g (sym same))
            ];
        heads_only = put_only;
        heads_all = put_all;
      }

    -- the empty stack in an ending
    module _ (g : ℕ) (at : slice_get parts i ≡ Some (Ending g)) (is : IsBared old i new) where
      abbrev x' : Node Alloc
      x' = is.0

      abbrev y' : Node Alloc
      y' = is.1

      abbrev Bears : NumberedFrame → ℕ → Node Alloc → Type 0
      Bears k n node = Member (head_over k n) node.heads.items

      empty_back : (j : ℕ) → (by_number new).Bare j → (by_number old).Bare j ⊎ (j ≡ i)
      empty_back j bare =
          elim (set_at (λ n. n.bare ≡ true) old i y' j (subst (λ l. (by_number l).Bare j) is.3 bare)) [
            | inl was ↦ inl was
            | inr (e, now) ↦ inr e
          ]

      empty_new : (by_number new).Bare i
      empty_new = subst (λ l. (by_number l).Bare i) (sym is.3)
          (at_is (λ n. n.bare ≡ true) (slice_set old i y') i y' (set_here old i x' y' is.2) is.4)

      empty_there : (j : ℕ) → (by_number old).Bare j → (by_number new).Bare j
      empty_there j bare =
          elim (at_set (λ n. n.bare ≡ true) old i y' j bare) [
            | inl stays ↦ subst (λ l. (by_number l).Bare j) (sym is.3) stays
            | inr e ↦ subst (λ k. (by_number new).Bare k) (sym e) empty_new
          ]

      bears_back : (j : ℕ) (k : NumberedFrame) (n : ℕ) → (by_number new).Has j k n → (by_number old).Has j k n
      bears_back j k n has =
          elim (set_at (Bears k n) old i y' j (subst (λ l. (by_number l).Has j k n) is.3 has)) [
            | inl was ↦ was
            | inr (e, now) ↦
                subst (λ k'. (by_number old).Has k' k n) (sym e)
                (at_is (Bears k n) old i x' is.2 (subst (Member (head_over k n)) is.5 now))
          ]

      bears_there : (j : ℕ) (k : NumberedFrame) (n : ℕ) → (by_number old).Has j k n → (by_number new).Has j k n
      bears_there j k n has = subst (λ l. (by_number l).Has j k n) (sym is.3) (
          elim (at_set (Bears k n) old i y' j has) [
            | inl stays ↦ stays
            | inr e ↦
                let was : Bears k n x' = is_at (Bears k n) old i x' is.2 (subst (λ k'. (by_number old).Has k' k n) e has) in
                subst (λ k'. AtNode (slice_get (slice_set old i y') k') (Bears k n)) (sym e)
                (at_is (Bears k n) (slice_set old i y') i y' (set_here old i x' y' is.2) (subst (Member (head_over k n)) (sym is.5) was))
          ]
          )

      empty_all : (h : ℕ) → Plus Is (turn.gone g) (turn.gone h) → (j : ℕ) × (slice_get parts j ≡ Some (Ending h)) × (by_number new).Bare j
      empty_all h (inl found) = let (j, at', bare) = holds.bare_all h found in (j, at', empty_there j bare)
      empty_all h (inr same) =
          let same_g : h ≡ g = cc in
          (i, subst (λ z. slice_get parts i ≡ Some (Ending z)) (sym same_g) at, empty_new)

      pub empty_holds : Holds (Plus Is (turn.gone g)) base parts new
      empty_holds = record {
        once = holds.once;
        bare_only = λ j bare.
            elim (empty_back j bare) [
              | inl was ↦ let (h, at', found) = holds.bare_only j was in (h, at', inl found)
              | inr e ↦ (g, subst (λ z. slice_get parts z ≡ Some (Ending g)) (sym e) at, inr refl)
            ];
        bare_all = empty_all;
        heads_only = λ j k n has.
            let (q, c, at', found, name) = holds.heads_only j k n (bears_back j k n has) in (q, c, at', inl found, name);
        heads_all = λ q k c has.
            elim has [
              | inl found ↦ let (j, n, at', bears, name) = holds.heads_all q k c found in (j, n, at', bears_there j k n bears, name)
              | inr same ↦ absurd (put_gone q k c g same)
            ];
      }
