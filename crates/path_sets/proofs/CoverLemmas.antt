-- What is gathered has what the diagrams have at its masks.
use Rattle.std.proofs.Common.{◌≡◌, ℕ, ◌+◌, ◌<◌, Bool, true, false, length, List, [], ◌∷◌, ◌++◌, None, ◌⊎◌, ◌↔◌, inl, inr}
use Rattle.std.proofs.Common.{sym, ap, ◌∙◌, subst, true≢false}
use Rattle.std.specs.Map.{keys_of, lookup}
use Rattle.std.proofs.lemmas.Bool.{cases_eq}
use Rattle.std.proofs.lemmas.List.{map-append}
use Rattle.language.specs.Lists.{Member}
use Rattle.language.proofs.Members.{map_member, member_append, member_left, member_map, member_right}
use Rattle.path_sets.specs.declared.points.mask_key.MaskKey.{MaskKey}
use Rattle.path_sets.specs.declared.diagrams.quad.Quad.{Quad}
use Rattle.path_sets.specs.declared.diagrams.roots.DiagramKey.{DiagramKey}
use Rattle.path_sets.specs.Masks.{bit_of, bits_below, AddsPoint}
use Rattle.path_sets.specs.Triples.{Triple}
use Rattle.path_sets.specs.Edges.{edge_at, mask_edges, edges_in, mask_key_eq}
use Rattle.path_sets.specs.Inserts.{PutsIn}
use Rattle.path_sets.specs.Diagrams.{merged_has}
use Rattle.path_sets.specs.Members.{all_edges, Covers, IsEdgeThere, PutsEdge}
use Rattle.path_sets.proofs.InsertionLemmas.{edges_append}
use Rattle.path_sets.proofs.PlaceLemmas.{last_or}
use Rattle.path_sets.proofs.EdgesLemmas.{absent, Groups, no_edge}
use Rattle.path_sets.proofs.InsertsLemmas.{is_in, is_new_or_old, stays_in}
use Rattle.path_sets.proofs.MaskLemmas.{bits_hold, bits_known}
use Rattle.path_sets.proofs.MembersLemmas.{any_member, Fits, is_member, member_any, member_is, members_more, one_longer, same_gathered}

-- a key of entries and one more
pub one_more_key : {K V : Type 0} (es : List (K × V)) (p q : K) (w : V) → Member q (keys_of (es ++ (p, w) ∷ []))
    → Member q (keys_of es) ⊎ (q ≡ p)
one_more_key es p q w m = last_or (keys_of es) p q (subst (Member q) (map-append (λ e. e.0) es ((p, w) ∷ [])) m)

module _ (ns : List Quad) (rs : List (DiagramKey × ℕ)) (p : MaskKey) (bit : ℕ) (small : bit < 64) (old new : Groups)
    (covers : Covers ns rs old) where
  abbrev x : Triple
  x = edge_at p bit

  -- a point that is put into a mask leaves all that was gathered
  more_edges : (added : Bool) → PutsIn x (mask_edges old) (mask_edges new) added → (t : Triple) → Member t (mask_edges old)
      → Member t (mask_edges new)
  more_edges true (more, apart) t m = stays_in x t (mask_edges old) (mask_edges new) more m
  more_edges false (same, there) t m = subst (λ es. Member t es) (sym same) m

  -- a point is put into the mask of a key that is gathered
  pub covers_marked : (added : Bool) → PutsIn x (mask_edges old) (mask_edges new) added → keys_of new ≡ keys_of old → Covers ns rs new
  covers_marked added settles same q b less key has =
      member_any (edge_at q b) (mask_edges new) (more_edges added settles (edge_at q b) (any_member (edge_at q b) (mask_edges old)
      (covers q b less (subst (λ ks. Member q ks) same key) has)))

  pub puts_marked : Member p (keys_of old) → (added : Bool) → PutsIn x (mask_edges old) (mask_edges new) added
      → PutsEdge ns rs x old new added
  puts_marked key true (more, apart) = (
    λ is. elim is [ inl merged ↦ apart (any_member x (mask_edges old) (covers p bit small key merged)) | inr gathered ↦ apart gathered ],
    λ t. (
      λ is. elim is [
        | inl merged ↦ inr (inl merged)
        | inr gathered ↦
            elim (is_new_or_old x t (mask_edges old) (mask_edges new) more gathered) [ inl own ↦ inl own | inr was ↦ inr (inr was) ]
      ],
      λ is. elim is [
        | inl own ↦ inr (subst (λ k. Member k (mask_edges new)) (sym own) (is_in x (mask_edges old) (mask_edges new) more))
        | inr was ↦ elim was [ inl merged ↦ inl merged | inr gathered ↦ inr (stays_in x t (mask_edges old) (mask_edges new) more gathered) ]
      ],
    ),
  )
  puts_marked key false (same, there) = (inr there, same)

  module _ (known mask : ℕ) (none : lookup (mask_key_eq p) old ≡ None)
      (knows : (b : ℕ) → b < 64 → bit_of known b ≡ merged_has ns rs (edge_at p b)) where
    module _ (marks : AddsPoint bit known mask true) (made : new ≡ old ++ (p, mask) ∷ []) where
      parts : mask_edges new ≡ mask_edges old ++ (edges_in p mask ++ [])
      parts = ap mask_edges made ∙ edges_append old ((p, mask) ∷ [])

      -- what is gathered now is at the key, or it was gathered
      now : (t : Triple) → Member t (mask_edges new) → Member t (mask_edges old) ⊎ Member t (edges_in p mask)
      now t m = elim (member_append t (mask_edges old) (edges_in p mask ++ []) (subst (λ es. Member t es) parts m)) [
        | inl was ↦ inl was
        | inr own ↦ elim (member_append t (edges_in p mask) [] own) [ inl here ↦ inr here | inr never ↦ elim never [ ] ]
      ]

      was : (t : Triple) → Member t (mask_edges old) → Member t (mask_edges new)
      was t m = subst (λ es. Member t es) (sym parts) (member_left t (mask_edges old) (edges_in p mask ++ []) m)

      own : (b : ℕ) → b < 64 → bit_of mask b ≡ true → Member (edge_at p b) (mask_edges new)
      own b less set =
          subst (λ es. Member (edge_at p b) es) (sym parts)
          (member_right (edge_at p b) (mask_edges old) (edges_in p mask ++ []) (member_left (edge_at p b) (edges_in p mask) []
          (member_map (edge_at p) (bits_below mask 64) b (bits_hold mask b 64 less set))))

      -- the mask has the new point and those that the diagrams have
      marked : (b : ℕ) → bit_of mask b ≡ true → (b ≡ bit) ⊎ (bit_of known b ≡ true)
      marked b set = elim (cases_eq b bit) [ inl is ↦ inl is | inr ne ↦ inr (sym (marks.2 b ne) ∙ set) ]

      pub covers_begun : Covers ns rs new
      covers_begun q b less key has = member_any (edge_at q b) (mask_edges new)
          (elim (one_more_key old p q mask (subst (λ es. Member q (keys_of es)) made key)) [
            | inl before ↦ was (edge_at q b) (any_member (edge_at q b) (mask_edges old) (covers q b less before has))
            | inr is ↦
                let set = knows b less ∙ ap (λ k. merged_has ns rs (edge_at k b)) (sym is) ∙ has in
                subst (λ k. Member (edge_at k b) (mask_edges new)) (sym is) (own b less (elim (cases_eq b bit) [
                  | inl same ↦ ap (bit_of mask) same ∙ marks.1
                  | inr ne ↦ marks.2 b ne ∙ set
                ]))
          ])

      pub puts_begun : PutsEdge ns rs x old new true
      puts_begun = (
        λ is. elim is [
          | inl merged ↦ true≢false (sym (knows bit small ∙ merged) ∙ marks.0)
          | inr gathered ↦ no_edge old p bit small (absent old p none) gathered
        ],
        λ t. (
          λ is. elim is [
            | inl merged ↦ inr (inl merged)
            | inr gathered ↦ elim (now t gathered) [
              | inl before ↦ inr (inr before)
              | inr here ↦
                  let (b, there, same) = map_member (edge_at p) (bits_below mask 64) t here in
                  let (less, set) = bits_known mask b 64 there in
                  elim (marked b set) [
                    | inl is_bit ↦ inl (same ∙ ap (edge_at p) is_bit)
                    | inr knew ↦ inr (inl (ap (merged_has ns rs) same ∙ sym (knows b less) ∙ knew))
                  ]
            ]
          ],
          λ is. elim is [
            | inl same ↦ inr (subst (λ k. Member k (mask_edges new)) (sym same) (own bit small marks.1))
            | inr had ↦ elim had [ inl merged ↦ inl merged | inr gathered ↦ inr (was t gathered) ]
          ],
        ),
      )

-- a path edge that is put in, by the members
module _ (ns : List Quad) (rs : List (DiagramKey × ℕ)) (x own : Triple) (old new : Groups) (all : List Triple) (fits : Fits x)
    (edge : own ≡ x)
    (same : all_edges ns rs old ≡ all) where
  module _ (puts : PutsEdge ns rs own old new true) where
    more_there : (t : Triple) → IsEdgeThere ns rs new t ↔ ((t ≡ x) ⊎ IsEdgeThere ns rs old t)
    more_there = subst (λ k. (t : Triple) → IsEdgeThere ns rs new t ↔ ((t ≡ k) ⊎ IsEdgeThere ns rs old t)) edge puts.1

    -- it was not a member
    pub was_new : Member x all → ⊥
    was_new m =
        puts.0 (subst (IsEdgeThere ns rs old) (sym edge) (member_is ns rs old x (subst (λ l. Member x l) (sym same) m)))

    pub members_put : (t : Triple) → Member t (all_edges ns rs new) ↔ ((t ≡ x) ⊎ Member t all)
    members_put t =
        subst (λ l. Member t (all_edges ns rs new) ↔ ((t ≡ x) ⊎ Member t l)) same (members_more ns rs old new x fits more_there t)

    pub longer : length (all_edges ns rs new) ≡ length all + 1
    longer =
        one_longer ns rs old new x fits more_there (λ m. was_new (subst (λ l. Member x l) same m)) ∙ ap (λ l. length l + 1) same

  module _ (puts : PutsEdge ns rs own old new false) where
    -- it was one
    pub was_known : Member x all
    was_known = subst (λ l. Member x l) same (is_member ns rs old x fits (subst (IsEdgeThere ns rs old) edge puts.0))

    pub members_same : all_edges ns rs new ≡ all
    members_same = same_gathered ns rs old new puts.1 ∙ same

    pub members_kept : (t : Triple) → Member t (all_edges ns rs new) ↔ ((t ≡ x) ⊎ Member t all)
    members_kept t = (
      λ m. inr (subst (λ l. Member t l) members_same m),
      λ h. elim h [
        | inl is ↦ subst (λ k. Member k (all_edges ns rs new)) (sym is) (subst (λ l. Member x l) (sym members_same) was_known)
        | inr m ↦ subst (λ l. Member t l) (sym members_same) m
      ],
    )
