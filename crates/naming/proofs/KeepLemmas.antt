-- Nodes that are kept over final numbers.
use Rattle.std.proofs.Common.{◌≡◌, ◌⊎◌, ◌<◌, ◌≤◌, ◌+◌, ◌++◌, ℕ, Option, None, Some, List, [], ◌∷◌, length, take, slice_get}
use Rattle.std.proofs.Common.{inl, inr, refl, sym, ap, ◌∙◌, subst, arith}
use Rattle.std.specs.Prelude.{slice_set}
use Rattle.std.proofs.Math.ListN.{length-set}
use Rattle.std.proofs.lemmas.List.{length-append}
use Rattle.std.proofs.lemmas.Option.{same_Some, slice_get_within, get_or_from_slice_get}
use Rattle.language.specs.Lists.{Member}
use Rattle.turns.specs.declared.numbered_frame.NumberedFrame.{NumberedFrame}
use Rattle.stack_sets.specs.Nodes.{HasContent, IsNumbered, IsPrefix, MayAdd, by_number, head_over}
use Rattle.stack_sets.specs.declared.node.Node.{Node}
use Rattle.stack_sets.proofs.NodeLemmas.{last_is}
use Rattle.naming.specs.Moves.{IsNumber, HasNumber, NoneHas, IsMoved, ReachBelow, ReachesBelow, IsMovedNode, IsKept, AreKept}
use Rattle.naming.specs.Moves.{HaveNumbers, MayAddMoved, filled, missing}
use Rattle.naming.proofs.ListLemmas.{take_one}
use Rattle.naming.proofs.MoveLemmas.{at_on, prefix_last, moved_as, are_moved_as, set_gives, set_keeps}
use Rattle.naming.proofs.MoveLemmas.{filled_length, filled_has, filled_none, missing_last}
use Rattle.stack_sets.proofs.PlaceLemmas.{at_is, at_last, at_within}

-- the node has this number, and is one of the first so many, or had it before
abbrev pub Done : List (Option ℕ) → List ℕ → ℕ → ℕ → ℕ → Type 0
Done names all k j n = IsNumber all j n × ((j < k) ⊎ ((m : ℕ) × HasNumber names j m))

module _ {Alloc : Type 0} (base : ℕ) where
  -- ---- what is kept stays

  kept_on : (Is Js : ℕ → ℕ → Type 0) → ((i n : ℕ) → Is i n → Js i n) → (there there' : List (Node Alloc)) → IsPrefix there there'
      → (node : Node Alloc) (n : ℕ) → IsKept base Is there node n → IsKept base Js there' node n
  kept_on Is Js sub there there' prefix node n (heads, are, is) = (
    heads,
    are_moved_as base Is Js sub node.heads.items heads are,
    at_on (λ x. (x.bare ≡ node.bare) × (x.heads.items ≡ heads)) there there' prefix n is,
  )

  -- the heads of a node that is added lie over final numbers
  module _ (Is Js : ℕ → ℕ → Type 0) (sub : (i n : ℕ) → Is i n → Js i n) (Done : ℕ → ℕ → Type 0) (nodes there : List (Node Alloc))
      (are : AreKept base Is Done nodes there) (i : ℕ) (node moved : Node Alloc) (at : slice_get nodes i ≡ Some node)
      (is : IsMovedNode base Is node moved) where
    abbrev Over : NumberedFrame → ℕ → Type 0
    Over f r = (j : ℕ) × (m : ℕ) × (by_number nodes).Has j f m × IsMoved base Js m r

    moved_on : (q : ℕ) (f : NumberedFrame) (r : ℕ) → base ≤ q → (by_number there).Has q f r → Over f r
    moved_on q f r large has = let (j, m, has', mv) = are.moved q f r large has in (j, m, has', moved_as base Is Js sub m r mv)

    moved_new : (f : NumberedFrame) (r : ℕ) → Member (head_over f r) moved.heads.items → Over f r
    moved_new f r member =
        let (m, member', mv) = is.1.1 f r member in
        (i, m, at_is (λ x. Member (head_over f m) x.heads.items) nodes i node at member', moved_as base Is Js sub m r mv)

    moved_more : (there' : List (Node Alloc)) → MayAdd moved there there' → (q : ℕ) (f : NumberedFrame) (r : ℕ) → base ≤ q
        → (by_number there').Has q f r → Over f r
    moved_more there' (inl grown) q f r large has =
        elim (at_last (λ x. Member (head_over f r) x.heads.items) there moved q (subst (λ l. (by_number l).Has q f r) grown has)) [
          | inl was ↦ moved_on q f r large was
          | inr now ↦ moved_new f r now
        ]
    moved_more there' (inr same) q f r large has = moved_on q f r large (subst (λ l. (by_number l).Has q f r) same has)

  -- ---- a node gets its number

  module _ (nodes there there' : List (Node Alloc)) (names : List (Option ℕ)) (i n : ℕ) (node moved : Node Alloc)
      (at : slice_get nodes i ≡ Some node) (none : slice_get names i ≡ Some None)
      (is : IsMovedNode base (HasNumber names) node moved) (content : HasContent there' n moved) (prefix : IsPrefix there there')
      (adds : MayAdd moved there there') where
    abbrev Now : ℕ → ℕ → Type 0
    Now = HasNumber (slice_set names i (Some n))

    stay : (j m : ℕ) → HasNumber names j m → Now j m
    stay j m has = set_keeps names i n j m none has

    it : IsKept base Now there' node n
    it = (
      moved.heads.items,
      are_moved_as base (HasNumber names) Now stay node.heads.items moved.heads.items is.1,
      subst (λ b. IsNumbered there' n b moved.heads.items) is.0 content,
    )

    pub keep_one : HaveNumbers base nodes names there → HaveNumbers base nodes (slice_set names i (Some n)) there'
    keep_one (count, are) = (
      length-set names i (Some n) ∙ count,
      record {
        kept = λ j m has.
            elim (set_gives names i j (Some n) (Some m) has) [
              | inl was ↦
                  let (x, at', is') = are.kept j m was in
                  (x, at', kept_on (HasNumber names) Now stay there there' prefix x m is')
              | inr (e, same) ↦ (
                node,
                subst (λ z. slice_get nodes z ≡ Some node) (sym e) at,
                subst (λ z. IsKept base Now there' node z) (same_Some n m same) it,
              )
            ];
        moved = moved_more (HasNumber names) Now stay (HasNumber names) nodes there are i node moved at is there' adds;
      },
    )

  -- no node has one
  pub none_kept : (nodes there : List (Node Alloc)) (names : List (Option ℕ)) → base ≡ length there → length names ≡ length nodes
      → NoneHas names → HaveNumbers base nodes names there
  none_kept nodes there names is_base count none = (
    count,
    record {
      kept = λ i n has. absurd (none i n has);
      moved = λ q f r large has.
          let small : q < length there = at_within (λ x. Member (head_over f r) x.heads.items) there q has in
          absurd (omega (arith, small, large, is_base));
    },
  )

  -- ---- nodes that were left

  module _ (nodes : List (Node Alloc)) (names : List (Option ℕ)) (all : List ℕ) (first : ℕ) (is_all : all ≡ filled first names) where
    -- a number that was there stays
    stays : (j m : ℕ) → HasNumber names j m → IsNumber all j m
    stays j m has = subst (λ l. IsNumber l j m) (sym is_all) (filled_has first names j m has)

    pub all_length : length names ≡ length nodes → length all ≡ length nodes
    all_length count = ap length is_all ∙ filled_length first names ∙ count

    pub rest_init : (there : List (Node Alloc)) → HaveNumbers base nodes names there
        → AreKept base (IsNumber all) (Done names all 0) nodes there
    rest_init there (count, are) = record {
      kept = λ j n done.
          elim done.1 [
            | inl none ↦ absurd (omega (arith, none))
            | inr (m, has) ↦
                let (x, at, is) = are.kept j m has in
                let same : m ≡ n = same_Some m n (sym (stays j m has) ∙ done.0) in (
                  x,
                  at,
                  subst (IsKept base (IsNumber all) there x) same
                      (kept_on (HasNumber names) (IsNumber all) stays there there ([], nothing there) x m is),
                )
          ];
      moved = λ q f r large has.
          let (j, m, has', mv) = are.moved q f r large has in
          (j, m, has', moved_as base (HasNumber names) (IsNumber all) stays m r mv);
    }
      where
        nothing : (xs : List (Node Alloc)) → xs ≡ xs ++ []
        nothing [] = refl
        nothing (x ∷ xs) = ap (λ l. x ∷ l) (nothing xs)

    module _ (there there' : List (Node Alloc)) (i : ℕ) (node : Node Alloc) (at : slice_get nodes i ≡ Some node)
        (count : length there ≡ first + missing (take i names))
        (are : AreKept base (IsNumber all) (Done names all i) nodes there) where
      same : (j n : ℕ) → IsNumber all j n → IsNumber all j n
      same j n is = is

      -- of those before the next, one is the last
      last : (j : ℕ) → j < i + 1 → (j < i) ⊎ (j ≡ i)
      last j small = grind (arith)

      number_known : (m : ℕ) → slice_get names i ≡ Some (Some m) → there' ≡ there
          → AreKept base (IsNumber all) (Done names all (i + 1)) nodes there'
      number_known m has grown = subst (λ l. AreKept base (IsNumber all) (Done names all (i + 1)) nodes l) (sym grown) (record {
        kept = λ j n done.
            are.kept j n (
              done.0,
              elim done.1 [
                | inl small ↦ elim (last j small) [
                  | inl smaller ↦ inl smaller
                  | inr e ↦ inr (m, subst (λ z. HasNumber names z m) (sym e) has)
                ]
                | inr was ↦ inr was
              ],
            );
        moved = are.moved;
      })

      number_new : slice_get names i ≡ Some None → (moved : Node Alloc) → IsMovedNode base (IsNumber all) node moved
          → there' ≡ there ++ moved ∷ [] → AreKept base (IsNumber all) (Done names all (i + 1)) nodes there'
      number_new none moved is grown = record {
        kept = kept;
        moved = moved_more (IsNumber all) (IsNumber all) same (Done names all i) nodes there are i node moved at is there' (inl grown);
      }
        where
          mine : IsNumber all i (length there)
          mine = subst (λ z. IsNumber all i z) (sym count) (subst (λ l. IsNumber l i (first + missing (take i names))) (sym is_all)
              (filled_none first names i none))

          placed : slice_get there' (length there) ≡ Some moved
          placed = ap (λ l. slice_get l (length there)) grown ∙ last_is there moved

          here : IsKept base (IsNumber all) there' node (length there)
          here = (
            moved.heads.items,
            is.1,
            at_is (λ x. (x.bare ≡ node.bare) × (x.heads.items ≡ moved.heads.items)) there' (length there) moved placed (is.0, refl),
          )

          older : (j n : ℕ) → Done names all i j n
              → (x : Node Alloc) × (slice_get nodes j ≡ Some x) × IsKept base (IsNumber all) there' x n
          older j n done =
              let (x, at', is') = are.kept j n done in
              (x, at', kept_on (IsNumber all) (IsNumber all) same there there' (prefix_last there there' moved grown) x n is')

          kept : (j n : ℕ) → Done names all (i + 1) j n
              → (x : Node Alloc) × (slice_get nodes j ≡ Some x) × IsKept base (IsNumber all) there' x n
          kept j n (number, inr was) = older j n (number, inr was)
          kept j n (number, inl small) =
              elim (last j small) [
                | inl smaller ↦ older j n (number, inl smaller)
                | inr e ↦
                    let now : IsNumber all i n = subst (λ z. IsNumber all z n) e number in
                    let is_last : length there ≡ n = same_Some (length there) n (sym mine ∙ now) in (
                      node,
                      subst (λ z. slice_get nodes z ≡ Some node) (sym e) at,
                      subst (λ z. IsKept base (IsNumber all) there' node z) is_last here,
                    )
              ]

      pub rest_one : (name : Option ℕ) → slice_get names i ≡ Some name
          → MayAddMoved base (IsNumber all) node name there there'
          → AreKept base (IsNumber all) (Done names all (i + 1)) nodes there'
      rest_one (Some m) has grown = number_known m has grown
      rest_one None none (moved, is, grown) = number_new none moved is grown

      pub rest_count : (name : Option ℕ) → slice_get names i ≡ Some name
          → MayAddMoved base (IsNumber all) node name there there' → length there' ≡ first + missing (take (i + 1) names)
      rest_count name at_name adds = by name at_name adds
        where
          taken : (name : Option ℕ) → slice_get names i ≡ Some name
              → missing (take (i + 1) names) ≡ missing (take i names) + missing (name ∷ [])
          taken name at_name =
              let small : i < length names = slice_get_within names i name at_name in
              ap missing (take_one names i name small) ∙ missing_last (take i names) _
              ∙ ap (λ z. missing (take i names) + missing (z ∷ [])) (get_or_from_slice_get names i name name at_name)

          by : (name : Option ℕ) → slice_get names i ≡ Some name
              → MayAddMoved base (IsNumber all) node name there there' → length there' ≡ first + missing (take (i + 1) names)
          by (Some m) has grown = let e = taken (Some m) has in let l = ap length grown in omega (arith, e, l, count)
          by None none (moved, is, grown) =
              let e = taken None none in
              let l = ap length grown ∙ length-append there (moved ∷ []) in
              omega (arith, e, l, count)

    -- all are done
    pub rest_done : (there : List (Node Alloc)) (k : ℕ) → length nodes ≤ k → length names ≡ length nodes
        → AreKept base (IsNumber all) (Done names all k) nodes there → AreKept base (IsNumber all) (IsNumber all) nodes there
    rest_done there k large count are = record {
      kept = λ j n number.
          let small : j < length all = slice_get_within all j n number in
          let many = all_length count in
          are.kept j n (number, inl (omega (arith, small, many, large)));
      moved = are.moved;
    }

-- one node reaches no further than all do
pub reaches : {Alloc : Type 0} (nodes : List (Node Alloc)) (bound bound' : ℕ) → bound' ≡ bound → ReachBelow bound nodes → (i : ℕ)
    (node : Node Alloc) → slice_get nodes i ≡ Some node → ReachesBelow bound' node
reaches nodes bound bound' e reach i node at f r member =
    subst (λ z. r < z) (sym e) (reach i f r (at_is (λ x. Member (head_over f r) x.heads.items) nodes i node at member))
