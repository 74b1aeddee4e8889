-- Places in batches when one batch is replaced by another, and what the diagrams have of them.
use Rattle.std.proofs.Common.{◌≡◌, ◌⊎◌, ◌<◌, ◌≤◌, ◌+◌, ◌*◌, ◌/◌, ℕ, zero, suc, Bool, true, false}
use Rattle.std.proofs.Common.{List, [], ◌∷◌, ◌++◌, length}
use Rattle.std.proofs.Common.{None, Some, slice_get, slice_set, inl, inr, refl, sym, ap, ◌∙◌, subst}
use Rattle.std.proofs.Common.{true≢false, ◌==◌, ◌%◌, ◌↔◌, arith}
use Rattle.std.specs.Prelude.{Option}
use Rattle.std.specs.List.{IsDistinct}
use Rattle.std.specs.Map.{keys_of, lookup}
use Rattle.std.specs.Option.{option_map_or}
use Rattle.std.proofs.lemmas.Nat.Bits.{bit_at-zero}
use Rattle.std.proofs.lemmas.Bool.{cases_eq}
use Rattle.std.proofs.lemmas.Option.{same_Some, slice_get_past, slice_get_within}
use Rattle.language.specs.Lists.{Member}
use Rattle.language.proofs.Members.{member_left, member_right, member_append}
use Rattle.path_sets.specs.declared.diagrams.batch.Batch.{Batch}
use Rattle.path_sets.specs.declared.points.mask_key.MaskKey.{MaskKey}
use Rattle.path_sets.specs.declared.diagrams.quad.Quad.{Quad}
use Rattle.path_sets.specs.declared.diagrams.roots.DiagramKey.{DiagramKey}
use Rattle.path_sets.specs.declared.diagrams.gathered_key.GatheredKey.{GatheredKey}
use Rattle.path_sets.specs.Batches.{AllWithin, AreHome, CoversEach, masks_in, gathered_at}
use Rattle.path_sets.specs.Insertions.{diagram_at, RootsStay}
use Rattle.path_sets.specs.Diagrams.{merged_has, diagram_eq, TakesGiven}
use Rattle.path_sets.specs.Edges.{edge_at, mask_edges}
use Rattle.path_sets.specs.Masks.{bit_of}
use Rattle.path_sets.specs.Members.{all_edges, Covers, IsEdgeThere, PutsEdge}
use Rattle.path_sets.specs.Quads.{points_of}
use Rattle.path_sets.specs.GatheredKeys.{mask_key_at, mask_key_in, masks_of, gathered_key_eq}
use Rattle.path_sets.specs.Triples.{Triple}
use Rattle.path_sets.proofs.InsertionLemmas.{edges_append}
use Rattle.path_sets.proofs.EdgesLemmas.{in_group, only_in_group}
use Rattle.path_sets.proofs.MaskLemmas.{bits_hold, bits_known}
use Rattle.path_sets.proofs.GatheredKeyLemmas.{at_masks, distinct_masks, in_gathered_key, key_masks, one_index}
use Rattle.path_sets.proofs.GatheredKeyLemmas.{one_gathered_key}
use Rattle.path_sets.proofs.GatheredKeyLemmas.{mask_key_is, masks_key, masks_stay, still_within}
use Rattle.path_sets.proofs.RootLemmas.{diagram_self}
use Rattle.path_sets.proofs.TakesLemmas.{takes_nothing, takes_of}
use Rattle.path_sets.proofs.QuadLemmas.{no_points}
use Rattle.path_sets.proofs.KeyLemmas.{not_found}
use Rattle.path_sets.proofs.PlaceLemmas.{at_index, index_of, item_there, set_elsewhere, set_there}
use Rattle.path_sets.proofs.MembersLemmas.{any_member, member_any, members_stay}

-- the key of an entry is a key
pub key_of : {K V : Type 0} (es : List (K × V)) (c : K × V) → Member c es → Member c.0 (keys_of es)
key_of [] c m = elim m [ ]
key_of (e ∷ es) c (inl is) = inl (ap (λ h. h.0) is)
key_of (e ∷ es) c (inr later) = inr (key_of es c later)

-- the diagram of a path edge of a key
pub diagram_of_edge : (r : DiagramKey) (values bit : ℕ) → bit < 64 → diagram_at (edge_at (mask_key_in r values) bit) ≡ r
diagram_of_edge r values bit small =
    let block : (64 * r.block + bit) / 64 ≡ r.block = omega (arith, small) in
    λ j. record { entry = r.entry; block = block j }

-- so the diagram of a key is that of its path edges
key_diagram : (diagrams : List DiagramKey) (s : GatheredKey) (bit : ℕ) → s.diagram < length diagrams → bit < 64
    → slice_get diagrams s.diagram ≡ Some (diagram_at (edge_at (mask_key_at diagrams s) bit))
key_diagram diagrams s bit inside small =
    let (r, at) = item_there diagrams s.diagram inside in
    at ∙ ap Some (sym (ap (λ p. diagram_at (edge_at p bit)) (mask_key_is diagrams s r at) ∙ diagram_of_edge r s.values bit small))

module _ {A : Type 0} where
  abbrev entries : Option (Batch A) → List (GatheredKey × ℕ)
  entries batch = option_map_or (λ (b : Batch A). b.masks.entries) batch []

  pub gathered_is : (bs : List (Batch A)) (k : ℕ) (b : Batch A) → slice_get bs k ≡ Some b → gathered_at bs k ≡ b.masks.entries
  gathered_is bs k b at = ap entries at

  pub gathered_behind : (bs : List (Batch A)) (k : ℕ) → length bs ≤ k → gathered_at bs k ≡ []
  gathered_behind bs k behind = ap entries (slice_get_past bs k behind)

  -- a batch that is set is there, and the others stay
  pub set_within : (bs : List (Batch A)) (k : ℕ) (w : Batch A) → k < length bs → gathered_at (slice_set bs k w) k ≡ w.masks.entries
  set_within bs k w less = ap entries (set_there bs k w less)

  pub set_here : (bs : List (Batch A)) (k : ℕ) (b w : Batch A) → slice_get bs k ≡ Some b
      → gathered_at (slice_set bs k w) k ≡ w.masks.entries
  set_here bs k b w at = set_within bs k w (slice_get_within bs k b at)

  pub set_others : (bs : List (Batch A)) (k : ℕ) (w : Batch A) (j : ℕ) → (j ≡ k → ⊥)
      → gathered_at (slice_set bs k w) j ≡ gathered_at bs j
  set_others bs k w j ne = ap entries (set_elsewhere bs k w j ne)

  -- one more batch, which is empty, makes no difference
  pub one_more_gathered : (bs : List (Batch A)) (w : Batch A) (k : ℕ) → w.masks.entries ≡ []
      → gathered_at (bs ++ w ∷ []) k ≡ gathered_at bs k
  one_more_gathered [] w zero none = none
  one_more_gathered [] w (suc k) none = refl
  one_more_gathered (b ∷ bs) w zero none = refl
  one_more_gathered (b ∷ bs) w (suc k) none = one_more_gathered bs w k none

  module _ (diagrams : List DiagramKey) where
    pub one_more_masks : (bs : List (Batch A)) (w : Batch A) → w.masks.entries ≡ []
        → masks_in diagrams (bs ++ w ∷ []) ≡ masks_in diagrams bs
    one_more_masks [] w none = ap (λ es. masks_of diagrams es ++ []) none
    one_more_masks (b ∷ bs) w none = ap (λ gs. masks_of diagrams b.masks.entries ++ gs) (one_more_masks bs w none)

    -- each path edge of the masks is in a batch
    pub in_batch : (bs : List (Batch A)) (t : Triple) → Member t (mask_edges (masks_in diagrams bs))
        → (k : ℕ) × Member t (mask_edges (masks_of diagrams (gathered_at bs k)))
    in_batch [] t m = elim m [ ]
    in_batch (b ∷ bs) t m =
        elim (member_append t (mask_edges (masks_of diagrams b.masks.entries)) (mask_edges (masks_in diagrams bs))
        (subst (Member t) (edges_append (masks_of diagrams b.masks.entries) (masks_in diagrams bs)) m)) [
          | inl first ↦ (0, first)
          | inr later ↦ let (k, there) = in_batch bs t later in (suc k, there)
        ]

    -- and what is in a batch is one of them
    pub of_batch : (bs : List (Batch A)) (k : ℕ) (t : Triple) → Member t (mask_edges (masks_of diagrams (gathered_at bs k)))
        → Member t (mask_edges (masks_in diagrams bs))
    of_batch [] k t m = m
    of_batch (b ∷ bs) zero t m =
        subst (Member t) (sym (edges_append (masks_of diagrams b.masks.entries) (masks_in diagrams bs)))
        (member_left t (mask_edges (masks_of diagrams b.masks.entries)) (mask_edges (masks_in diagrams bs)) m)
    of_batch (b ∷ bs) (suc k) t m =
        subst (Member t) (sym (edges_append (masks_of diagrams b.masks.entries) (masks_in diagrams bs)))
        (member_right t (mask_edges (masks_of diagrams b.masks.entries)) (mask_edges (masks_in diagrams bs)) (of_batch bs k t m))

    -- a batch with a path edge is there
    pub batch_within : (bs : List (Batch A)) (k : ℕ) (t : Triple) → Member t (mask_edges (masks_of diagrams (gathered_at bs k)))
        → k < length bs
    batch_within [] k t m = elim m [ ]
    batch_within (b ∷ bs) zero t m = omega arith
    batch_within (b ∷ bs) (suc k) t m = let less = batch_within bs k t m in omega (arith, less)

    -- a batch with the same masks makes no difference, and one with the same path edges none to these
    pub same_masks : (bs : List (Batch A)) (k : ℕ) (b w : Batch A) → slice_get bs k ≡ Some b
        → w.masks.entries ≡ b.masks.entries → masks_in diagrams (slice_set bs k w) ≡ masks_in diagrams bs
    same_masks [] k b w at same = refl
    same_masks (c ∷ bs) zero b w at same =
        ap (λ es. masks_of diagrams es ++ masks_in diagrams bs) (same ∙ sym (ap (λ (h : Batch A). h.masks.entries) (same_Some c b at)))
    same_masks (c ∷ bs) (suc k) b w at same = ap (λ gs. masks_of diagrams c.masks.entries ++ gs) (same_masks bs k b w at same)

    pub same_edges : (bs : List (Batch A)) (k : ℕ) (b w : Batch A) → slice_get bs k ≡ Some b
        → mask_edges (masks_of diagrams w.masks.entries) ≡ mask_edges (masks_of diagrams b.masks.entries)
        → mask_edges (masks_in diagrams (slice_set bs k w)) ≡ mask_edges (masks_in diagrams bs)
    same_edges [] k b w at same = refl
    same_edges (c ∷ bs) zero b w at same =
        edges_append (masks_of diagrams w.masks.entries) (masks_in diagrams bs)
        ∙ ap (λ ts. ts ++ mask_edges (masks_in diagrams bs))
        (same ∙ sym (ap (λ (h : Batch A). mask_edges (masks_of diagrams h.masks.entries)) (same_Some c b at)))
        ∙ sym (edges_append (masks_of diagrams c.masks.entries) (masks_in diagrams bs))
    same_edges (c ∷ bs) (suc k) b w at same =
        edges_append (masks_of diagrams c.masks.entries) (masks_in diagrams (slice_set bs k w))
        ∙ ap (λ ts. mask_edges (masks_of diagrams c.masks.entries) ++ ts) (same_edges bs k b w at same)
        ∙ sym (edges_append (masks_of diagrams c.masks.entries) (masks_in diagrams bs))

    -- a path edge of a batch is of the diagram of one of its keys
    of_key : (bs : List (Batch A)) → AllWithin diagrams bs → (k : ℕ) (t : Triple)
        → Member t (mask_edges (masks_of diagrams (gathered_at bs k)))
        → (s : GatheredKey) × Member s (keys_of (gathered_at bs k)) × (slice_get diagrams s.diagram ≡ Some (diagram_at t))
    of_key bs within k t m =
        let (c, mem, is) = in_gathered_key diagrams (gathered_at bs k) t m in
        let key = key_of (gathered_at bs k) c mem in
        let (r, at) = item_there diagrams c.0.diagram (within k c.0 key) in
        let mask_key = mask_key_is diagrams c.0 r at in
        let same : r ≡ diagram_at t = λ n. record {
          entry = (ap (λ (p : MaskKey). p.entry) (sym mask_key) ∙ sym is.0) n;
          block = (ap (λ (p : MaskKey). p.block) (sym mask_key) ∙ sym is.1) n;
        } in
        (c.0, key, at ∙ ap Some same)

    module _ (homes : List ℕ) (bs : List (Batch A)) (home : AreHome homes bs) (within : AllWithin diagrams bs)
        (distinct : IsDistinct diagram_eq diagrams) where
      -- a path edge of a batch is of a diagram that has this batch, so it is in no other
      pub one_home : (j k i : ℕ) (t : Triple) → Member t (mask_edges (masks_of diagrams (gathered_at bs j)))
          → slice_get diagrams i ≡ Some (diagram_at t) → slice_get homes i ≡ Some k → j ≡ k
      one_home j k i t m there own =
          let (s, key, at) = of_key bs within j t m in
          let diagram = one_index diagrams distinct s.diagram i (diagram_at t) at there in
          same_Some j k (sym (home j s key) ∙ ap (slice_get homes) diagram ∙ own)

    -- what is taken of a batch is taken of all
    takes_all : (ss : List (Batch A)) (k : ℕ) (ns ms : List Quad) (rs qs : List (DiagramKey × ℕ))
        → TakesGiven (λ t. Member t (mask_edges (masks_of diagrams (gathered_at ss k)))) ns ms rs qs
        → TakesGiven (λ t. Member t (mask_edges (masks_in diagrams ss))) ns ms rs qs
    takes_all ss k ns ms rs qs = takes_of _ _ ns ms rs qs (of_batch ss k)

    -- one batch is replaced by another
    module _ (ss ts : List (Batch A)) (k : ℕ) (others : (j : ℕ) → (j ≡ k → ⊥) → gathered_at ts j ≡ gathered_at ss j) where
      -- a path edge of the masks then is one of the new batch, or was one of the others
      pub new_or_old : (t : Triple) → Member t (mask_edges (masks_in diagrams ts))
          → Member t (mask_edges (masks_of diagrams (gathered_at ts k))) ⊎ Member t (mask_edges (masks_in diagrams ss))
      new_or_old t m =
          let (j, there) = in_batch ts t m in elim (cases_eq j k) [
            | inl is ↦ inl (subst (λ n. Member t (mask_edges (masks_of diagrams (gathered_at ts n)))) is there)
            | inr ne ↦ inr (of_batch ss j t (subst (λ es. Member t (mask_edges (masks_of diagrams es))) (others j ne) there))
          ]

      -- and one that was there was one of the old batch, or is still
      pub gone_or_still : (t : Triple) → Member t (mask_edges (masks_in diagrams ss))
          → Member t (mask_edges (masks_of diagrams (gathered_at ss k))) ⊎ Member t (mask_edges (masks_in diagrams ts))
      gone_or_still t m =
          let (j, there) = in_batch ss t m in elim (cases_eq j k) [
            | inl is ↦ inl (subst (λ n. Member t (mask_edges (masks_of diagrams (gathered_at ss n)))) is there)
            | inr ne ↦ inr (of_batch ts j t (subst (λ es. Member t (mask_edges (masks_of diagrams es))) (sym (others j ne)) there))
          ]

      -- what is put into the only batch that may have it is put into all
      pub puts_all : (ns : List Quad) (rs : List (DiagramKey × ℕ)) (x : Triple)
          → ((j : ℕ) → Member x (mask_edges (masks_of diagrams (gathered_at ss j))) → j ≡ k)
          → (mask_edges (masks_of diagrams (gathered_at ts k)) ≡ mask_edges (masks_of diagrams (gathered_at ss k))
          → mask_edges (masks_in diagrams ts) ≡ mask_edges (masks_in diagrams ss))
          → (b : Bool) → PutsEdge ns rs x (masks_of diagrams (gathered_at ss k)) (masks_of diagrams (gathered_at ts k)) b
          → PutsEdge ns rs x (masks_in diagrams ss) (masks_in diagrams ts) b
      puts_all ns rs x only same true (new, all) = (
        λ is. new (elim is [
          | inl merged ↦ inl merged
          | inr there ↦
              let (j, m) = in_batch ss x there in
              inr (subst (λ n. Member x (mask_edges (masks_of diagrams (gathered_at ss n)))) (only j m) m)
        ]),
        λ t. (
          λ is. elim is [
            | inl merged ↦ inr (inl merged)
            | inr there ↦ elim (new_or_old t there) [
              | inl here ↦ elim ((all t).0 (inr here)) [
                | inl it ↦ inl it
                | inr was ↦ inr (elim was [ inl merged ↦ inl merged | inr old ↦ inr (of_batch ss k t old) ])
              ]
              | inr old ↦ inr (inr old)
            ]
          ],
          λ is. elim is [
            | inl it ↦ elim ((all t).1 (inl it)) [ inl merged ↦ inl merged | inr here ↦ inr (of_batch ts k t here) ]
            | inr was ↦ elim was [
              | inl merged ↦ inl merged
              | inr there ↦ elim (gone_or_still t there) [
                | inl here ↦ elim ((all t).1 (inr (inr here))) [ inl merged ↦ inl merged | inr now ↦ inr (of_batch ts k t now) ]
                | inr still ↦ inr still
              ]
            ]
          ],
        ),
      )
      puts_all ns rs x only same false (is, kept) = (
        elim is [ inl merged ↦ inl merged | inr there ↦ inr (of_batch ss k x there) ],
        same kept,
      )

      -- a batch that is in the diagrams may be emptied
      pub members_merged : (ns ms : List Quad) (rs qs : List (DiagramKey × ℕ)) → gathered_at ts k ≡ []
          → TakesGiven (λ t. Member t (mask_edges (masks_of diagrams (gathered_at ss k)))) ns ms rs qs
          → ((t : Triple) → Member t (mask_edges (masks_of diagrams (gathered_at ss k))) → merged_has ms qs t ≡ true)
          → all_edges ms qs (masks_in diagrams ts) ≡ all_edges ns rs (masks_in diagrams ss)
      members_merged ns ms rs qs none takes done =
          members_stay ns ms rs qs (masks_in diagrams ss) (masks_in diagrams ts) (takes_all ss k ns ms rs qs takes)
          (λ t m. elim (new_or_old t m) [
            | inl never ↦ absurd (subst (λ es. Member t (mask_edges (masks_of diagrams es)) → ⊥) (sym none) (λ n. elim n [ ]) never)
            | inr old ↦ old
          ])
          (λ t m. elim (gone_or_still t m) [ inl gone ↦ inl (done t gone) | inr still ↦ inr still ])

    -- and if all stay gathered, the members are the same
    pub members_still : (ss : List (Batch A)) (k : ℕ) (ns ms : List Quad) (rs qs : List (DiagramKey × ℕ))
        → TakesGiven (λ t. Member t (mask_edges (masks_of diagrams (gathered_at ss k)))) ns ms rs qs
        → all_edges ms qs (masks_in diagrams ss) ≡ all_edges ns rs (masks_in diagrams ss)
    members_still ss k ns ms rs qs takes =
        members_stay ns ms rs qs (masks_in diagrams ss) (masks_in diagrams ss) (takes_all ss k ns ms rs qs takes)
        (λ t m. m) (λ t m. inr m)

  -- one batch is replaced by another
  module _ (ss ts : List (Batch A)) (k : ℕ) (others : (j : ℕ) → (j ≡ k → ⊥) → gathered_at ts j ≡ gathered_at ss j) where
    -- what holds for the keys of the old batches holds for those of the new ones, if it does for those of the one that is new
    each_set : (P : ℕ → GatheredKey → Type 0) → ((j : ℕ) (q : GatheredKey) → Member q (keys_of (gathered_at ss j)) → P j q)
        → ((q : GatheredKey) → Member q (keys_of (gathered_at ts k)) → P k q)
        → (j : ℕ) (q : GatheredKey) → Member q (keys_of (gathered_at ts j)) → P j q
    each_set P old new j q m = elim (cases_eq j k) [
      | inl is ↦ subst (λ n. P n q) (sym is) (new q (subst (λ n. Member q (keys_of (gathered_at ts n))) is m))
      | inr ne ↦ old j q (subst (λ es. Member q (keys_of es)) (others j ne) m)
    ]

    abbrev HasHome : List ℕ → ℕ → GatheredKey → Type 0
    HasHome homes j q = slice_get homes q.diagram ≡ Some j

    abbrev IsWithin : List DiagramKey → ℕ → GatheredKey → Type 0
    IsWithin diagrams j q = q.diagram < length diagrams

    pub home_set : (homes : List ℕ) (s : GatheredKey) → AreHome homes ss → slice_get homes s.diagram ≡ Some k
        → ((q : GatheredKey) → Member q (keys_of (gathered_at ts k)) → Member q (keys_of (gathered_at ss k)) ⊎ (q ≡ s))
        → AreHome homes ts
    home_set homes s home own keys = each_set (HasHome homes) home
        (λ q m. elim (keys q m) [ inl was ↦ home k q was | inr same ↦ subst (HasHome homes k) (sym same) own ])

    pub within_set : (diagrams : List DiagramKey) (s : GatheredKey) → AllWithin diagrams ss → s.diagram < length diagrams
        → ((q : GatheredKey) → Member q (keys_of (gathered_at ts k)) → Member q (keys_of (gathered_at ss k)) ⊎ (q ≡ s))
        → AllWithin diagrams ts
    within_set diagrams s within own keys = each_set (IsWithin diagrams) within
        (λ q m. elim (keys q m) [ inl was ↦ within k q was | inr same ↦ subst (IsWithin diagrams k) (sym same) own ])

    no_key : gathered_at ts k ≡ [] → (q : GatheredKey) → Member q (keys_of (gathered_at ts k)) → ⊥
    no_key none q m = subst (λ es. Member q (keys_of es)) none m

    pub home_cleared : (homes : List ℕ) → AreHome homes ss → gathered_at ts k ≡ [] → AreHome homes ts
    home_cleared homes home none = each_set (HasHome homes) home (λ q m. absurd (no_key none q m))

    pub within_cleared : (diagrams : List DiagramKey) → AllWithin diagrams ss → gathered_at ts k ≡ [] → AllWithin diagrams ts
    within_cleared diagrams within none = each_set (IsWithin diagrams) within (λ q m. absurd (no_key none q m))

    pub covers_set : (ns : List Quad) (rs : List (DiagramKey × ℕ)) → CoversEach ns rs ss
        → Covers ns rs (masks_of (keys_of rs) (gathered_at ts k)) → CoversEach ns rs ts
    covers_set ns rs covers here j = elim (cases_eq j k) [
      | inl is ↦ subst (λ n. Covers ns rs (masks_of (keys_of rs) (gathered_at ts n))) (sym is) here
      | inr ne ↦ subst (λ es. Covers ns rs (masks_of (keys_of rs) es)) (sym (others j ne)) (covers j)
    ]

  -- a diagram whose batch has no keys may get another
  pub home_moved : (homes more : List ℕ) (ss ts : List (Batch A)) (diagram at : ℕ) → AreHome homes ss
      → ((i k : ℕ) → slice_get homes i ≡ Some k → slice_get more i ≡ Some k)
      → ((k : ℕ) → gathered_at ts k ≡ gathered_at ss k)
      → ((k : ℕ) → slice_get homes diagram ≡ Some k → gathered_at ss k ≡ []) → AreHome (slice_set more diagram at) ts
  home_moved homes more ss ts diagram at home stay same empty k s m =
      let there = subst (λ es. Member s (keys_of es)) (same k) m in
      let own = home k s there in elim (cases_eq s.diagram diagram) [
        | inl is ↦ elim (subst (λ es. Member s (keys_of es)) (empty k (ap (slice_get homes) (sym is) ∙ own)) there) [ ]
        | inr ne ↦ set_elsewhere more diagram at s.diagram ne ∙ stay s.diagram k own
      ]

  pub home_as : (homes more : List ℕ) (ss ts : List (Batch A)) → AreHome homes ss
      → ((i k : ℕ) → slice_get homes i ≡ Some k → slice_get more i ≡ Some k)
      → ((k : ℕ) → gathered_at ts k ≡ gathered_at ss k) → AreHome more ts
  home_as homes more ss ts home stay same k s m = stay s.diagram k (home k s (subst (λ es. Member s (keys_of es)) (same k) m))

  -- the same keys are within, and covered, still
  pub within_as : (diagrams : List DiagramKey) (ss ts : List (Batch A)) → ((k : ℕ) → gathered_at ts k ≡ gathered_at ss k)
      → AllWithin diagrams ss
      → AllWithin diagrams ts
  within_as diagrams ss ts same within k s m = within k s (subst (λ es. Member s (keys_of es)) (same k) m)

  pub covers_as : (ns : List Quad) (rs : List (DiagramKey × ℕ)) (ss ts : List (Batch A)) → ((k : ℕ) → gathered_at ts k ≡ gathered_at ss k)
      → CoversEach ns rs ss → CoversEach ns rs ts
  covers_as ns rs ss ts same covers k = subst (λ es. Covers ns rs (masks_of (keys_of rs) es)) (sym (same k)) (covers k)

  -- the batch of a diagram takes a key
  module _ (bs : List (Batch A)) (k : ℕ) (b w : Batch A) (at : slice_get bs k ≡ Some b) (s : GatheredKey)
      (keys : (q : GatheredKey) → Member q (keys_of w.masks.entries) → Member q (keys_of b.masks.entries) ⊎ (q ≡ s)) where
    abbrev set : List (Batch A)
    set = slice_set bs k w

    keys_put : (q : GatheredKey) → Member q (keys_of (gathered_at set k)) → Member q (keys_of (gathered_at bs k)) ⊎ (q ≡ s)
    keys_put q m = elim (keys q (subst (λ es. Member q (keys_of es)) (set_here bs k b w at) m)) [
      | inl old ↦ inl (subst (λ es. Member q (keys_of es)) (sym (gathered_is bs k b at)) old)
      | inr is ↦ inr is
    ]

    pub home_put : (homes : List ℕ) → AreHome homes bs → slice_get homes s.diagram ≡ Some k → AreHome homes set
    home_put homes home own = home_set bs set k (set_others bs k w) homes s home own keys_put

    pub within_put : (diagrams : List DiagramKey) → AllWithin diagrams bs → s.diagram < length diagrams → AllWithin diagrams set
    within_put diagrams within own = within_set bs set k (set_others bs k w) diagrams s within own keys_put

    pub covers_put : (ns : List Quad) (rs : List (DiagramKey × ℕ)) → CoversEach ns rs bs
        → Covers ns rs (masks_of (keys_of rs) w.masks.entries) → CoversEach ns rs set
    covers_put ns rs covers own =
        covers_set bs set k (set_others bs k w) ns rs covers
        (subst (λ es. Covers ns rs (masks_of (keys_of rs) es)) (sym (set_here bs k b w at)) own)

    pub puts_in : (homes : List ℕ) (ns : List Quad) (rs : List (DiagramKey × ℕ)) (bit : ℕ) → AreHome homes bs
        → slice_get homes s.diagram ≡ Some k → AllWithin (keys_of rs) bs → IsDistinct diagram_eq (keys_of rs)
        → s.diagram < length (keys_of rs) → bit < 64 → (added : Bool)
        → PutsEdge ns rs (edge_at (mask_key_at (keys_of rs) s) bit) (masks_of (keys_of rs) b.masks.entries)
        (masks_of (keys_of rs) w.masks.entries) added
        → PutsEdge ns rs (edge_at (mask_key_at (keys_of rs) s) bit) (masks_in (keys_of rs) bs) (masks_in (keys_of rs) set) added
    puts_in homes ns rs bit home own within distinct inside small added puts =
        let diagrams = keys_of rs in
        let x = edge_at (mask_key_at diagrams s) bit in
        puts_all diagrams bs set k (set_others bs k w) ns rs x
        (λ j m. one_home diagrams homes bs home within distinct j k s.diagram x m (key_diagram diagrams s bit inside small) own)
        (λ e. same_edges diagrams bs k b w at
        (ap (λ es. mask_edges (masks_of diagrams es)) (sym (set_here bs k b w at)) ∙ e
        ∙ ap (λ es. mask_edges (masks_of diagrams es)) (gathered_is bs k b at)))
        added
        (subst (λ es. PutsEdge ns rs x (masks_of diagrams es) (masks_of diagrams (gathered_at set k)) added) (sym (gathered_is bs k b at))
        (subst (λ es. PutsEdge ns rs x (masks_of diagrams b.masks.entries) (masks_of diagrams es) added) (sym (set_here bs k b w at)) puts))

  -- diagrams that take a batch have no more at the masks of any
  pub covers_merged : (homes : List ℕ) (bs : List (Batch A)) (ns ms : List Quad) (rs qs : List (DiagramKey × ℕ)) (k : ℕ)
      → AreHome homes bs → AllWithin (keys_of rs) bs → IsDistinct diagram_eq (keys_of rs) → keys_of qs ≡ keys_of rs
      → CoversEach ns rs bs
      → TakesGiven (λ t. Member t (mask_edges (masks_of (keys_of rs) (gathered_at bs k)))) ns ms rs qs → CoversEach ms qs bs
  covers_merged homes bs ns ms rs qs k home within distinct same covers takes j =
      subst (λ diagrams. Covers ms qs (masks_of diagrams (gathered_at bs j))) (sym same) (λ p bit small key has.
      elim (takes.sound (edge_at p bit) has) [
        | inl was ↦ covers j p bit small key was
        | inr given ↦
            let (s, own, is) = masks_key (keys_of rs) (gathered_at bs j) p key in
            let diagram = key_diagram (keys_of rs) s bit (within j s own) small ∙ ap (λ x. Some (diagram_at (edge_at x bit))) (sym is) in
            let one = one_home (keys_of rs) homes bs home within distinct k j s.diagram (edge_at p bit) given diagram (home j s own) in
            member_any (edge_at p bit) (mask_edges (masks_of (keys_of rs) (gathered_at bs j)))
            (subst (λ n. Member (edge_at p bit) (mask_edges (masks_of (keys_of rs) (gathered_at bs n)))) one given)
      ])

  -- more diagrams
  module _ (ns : List Quad) (rs qs : List (DiagramKey × ℕ)) (stay : RootsStay rs qs) where
    pub within_stay : (bs : List (Batch A)) → AllWithin (keys_of rs) bs → AllWithin (keys_of qs) bs
    within_stay bs within k s m = still_within (keys_of rs) (keys_of qs) stay.indexes s.diagram (within k s m)

    pub all_stay : (bs : List (Batch A)) → AllWithin (keys_of rs) bs → masks_in (keys_of qs) bs ≡ masks_in (keys_of rs) bs
    all_stay [] within = refl
    all_stay (b ∷ bs) within =
        let head = masks_stay (keys_of rs) (keys_of qs) stay.indexes b.masks.entries (within 0) in
        let tail = all_stay bs (λ k. within (suc k)) in
        λ j. head j ++ tail j

    pub covers_stay : (bs : List (Batch A)) → AllWithin (keys_of rs) bs → CoversEach ns rs bs → CoversEach ns qs bs
    covers_stay bs within covers k =
        subst (Covers ns qs) (sym (masks_stay (keys_of rs) (keys_of qs) stay.indexes (gathered_at bs k) (within k)))
        (λ p bit small key has. covers k p bit small key
        (elim ((takes_nothing (λ t. ⊥) ns rs qs stay).sound (edge_at p bit) has) [ inl was ↦ was | inr never ↦ absurd never ]))

    pub members_as_they_were : (bs : List (Batch A)) → AllWithin (keys_of rs) bs
        → all_edges ns qs (masks_in (keys_of qs) bs) ≡ all_edges ns rs (masks_in (keys_of rs) bs)
    members_as_they_were bs within =
        ap (all_edges ns qs) (all_stay bs within)
        ∙ members_stay ns ns rs qs (masks_in (keys_of rs) bs) (masks_in (keys_of rs) bs)
        (takes_nothing (λ t. Member t (mask_edges (masks_in (keys_of rs) bs))) ns rs qs stay) (λ t m. m) (λ t m. inr m)

  -- no key occurs twice in a batch
  gathered_once : (bs : List (Batch A)) (k : ℕ) → IsDistinct gathered_key_eq (keys_of (gathered_at bs k))
  unfolding IsDistinct
  gathered_once [] k = tt
  gathered_once (b ∷ bs) zero = b.unique
  gathered_once (b ∷ bs) (suc k) = gathered_once bs k

  module _ (homes : List ℕ) (ns : List Quad) (rs : List (DiagramKey × ℕ)) (bs : List (Batch A)) (home : AreHome homes bs)
      (within : AllWithin (keys_of rs) bs) (distinct : IsDistinct diagram_eq (keys_of rs)) (covers : CoversEach ns rs bs) where
    abbrev all : List (MaskKey × ℕ)
    all = masks_in (keys_of rs) bs

    -- the mask of a key has exactly the points that are there
    module _ (k : ℕ) (s : GatheredKey) (m bit : ℕ) (own : Member (s, m) (gathered_at bs k)) (small : bit < 64) where
      abbrev x : Triple
      x = edge_at (mask_key_at (keys_of rs) s) bit

      abbrev here : List (MaskKey × ℕ)
      here = masks_of (keys_of rs) (gathered_at bs k)

      key : Member s (keys_of (gathered_at bs k))
      key = key_of (gathered_at bs k) (s, m) own

      found : (i : ℕ) × (slice_get here i ≡ Some (mask_key_at (keys_of rs) s, m))
      found = let (i, at) = index_of (gathered_at bs k) (s, m) own in (i, at_masks (keys_of rs) (gathered_at bs k) i (s, m) at)

      in_here : Member x (mask_edges here) → bit_of m bit ≡ true
      in_here there =
          (bits_known m bit 64 (only_in_group here found.0 (mask_key_at (keys_of rs) s) m bit small
          (distinct_masks (keys_of rs) distinct (gathered_at bs k) (within k) (gathered_once bs k)) found.1 there)).1

      pub mask_is : (bit_of m bit ≡ true) ↔ IsEdgeThere ns rs all x
      mask_is = (
        λ set. inr (of_batch (keys_of rs) bs k x
            (in_group here found.0 (mask_key_at (keys_of rs) s) m bit found.1 (bits_hold m bit 64 small set))),
        λ is. elim is [
          | inl merged ↦ in_here (any_member x (mask_edges here)
              (covers k (mask_key_at (keys_of rs) s) bit small (key_masks (keys_of rs) (gathered_at bs k) s key) merged))
          | inr gathered ↦
              let (j, there) = in_batch (keys_of rs) bs x gathered in
              let one = one_home (keys_of rs) homes bs home within distinct j k s.diagram x there
              (key_diagram (keys_of rs) s bit (within k s key) small) (home k s key) in
              in_here (subst (λ n. Member x (mask_edges (masks_of (keys_of rs) (gathered_at bs n)))) one there)
        ],
      )

    -- a key without a mask has no path edge
    pub not_gathered : (s : GatheredKey) (bit : ℕ) → bit < 64 → s.diagram < length (keys_of rs)
        → ((k : ℕ) → Member s (keys_of (gathered_at bs k)) → ⊥)
        → Member (edge_at (mask_key_at (keys_of rs) s) bit) (mask_edges all) → ⊥
    not_gathered s bit small inside none there =
        let diagrams = keys_of rs in
        let p = mask_key_at diagrams s in
        let (j, m) = in_batch diagrams bs (edge_at p bit) there in
        let (c, mem, is) = in_gathered_key diagrams (gathered_at bs j) (edge_at p bit) m in
        let own = key_of (gathered_at bs j) c mem in
        let block : p.block ≡ (64 * p.block + bit) / 64 = omega (arith, small) in
        let mask_key : p ≡ mask_key_at diagrams c.0 = λ n. record { entry = is.0 n; values = is.2 n; block = (block ∙ is.1) n } in
        let same = one_gathered_key diagrams distinct s c.0 inside (within j c.0 own) mask_key in
        none j (subst (λ q. Member q (keys_of (gathered_at bs j))) (sym same) own)

    -- a diagram that is not there has no path edge
    pub no_diagram : (x : Triple) → lookup (diagram_eq (diagram_at x)) rs ≡ None → IsEdgeThere ns rs all x → ⊥
    no_diagram x none (inl merged) =
        true≢false (sym merged ∙ ap (λ o. bit_of (points_of ns (option_map_or (λ n. n) o 0) x.values) (x.point % 64)) none
        ∙ ap (λ m. bit_of m (x.point % 64)) (no_points ns 0 x.values (omega arith)) ∙ ap (λ b. b == 1) (bit_at-zero (x.point % 64)))
    no_diagram x none (inr gathered) =
        let diagrams = keys_of rs in
        let (j, m) = in_batch diagrams bs x gathered in
        let (s, key, at) = of_key diagrams bs within j x m in
        not_found diagram_eq diagram_self rs (diagram_at x) none (at_index diagrams (diagram_at x) s.diagram at)
