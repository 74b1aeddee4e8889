-- The diagram of one point's members.
use Rattle.std.proofs.Common.{◌≡◌, ℕ, ◌+◌, ◌*◌, ◌/◌, ◌%◌, ◌^◌, ◌<◌, true, ◌↔◌, inl, inr, List, [], ◌∷◌, sym, ap, ◌∙◌, subst, arith}
use Rattle.std.specs.Prelude.{Result, IfOk}
use Rattle.language.specs.Lists.{Member}
use Rattle.language.specs.Words.{word_bits}
use Rattle.path_sets.specs.declared.counting.bit_node.BitNode.{BitNode}
use Rattle.path_sets.specs.declared.diagrams.quad.Quad.{Quad}
use Rattle.path_sets.specs.declared.points.mask_key.MaskKey.{MaskKey}
use Rattle.path_sets.specs.declared.diagrams.roots.DiagramKey.{DiagramKey}
use Rattle.path_sets.specs.Triples.{Triple, triple}
use Rattle.path_sets.specs.Edges.{edge_at, mask_edges}
use Rattle.path_sets.specs.Masks.{bit_of}
use Rattle.path_sets.specs.Quads.{points_of}
use Rattle.path_sets.specs.Diagrams.{accepts, merged_has, root_of, TakesGiven}
use Rattle.path_sets.specs.Members.{all_edges, has_edge, universe}
use Rattle.path_sets.specs.Suffixes.{Apart, HasNodes, Prefix, SameSuffixes}
use Rattle.path_sets.proofs.FilterLemmas.{kept_is}
use Rattle.path_sets.proofs.MembersLemmas.{Fits, is_member, member_is, values_fit}
use Rattle.std.proofs.lemmas.Result.{IfOk-weaker}

same_on : (S T : ℕ → Type 0) → ((v : ℕ) → S v ↔ T v) → (l p q : ℕ) → SameSuffixes S l p q → SameSuffixes T l p q
same_on S T alike l p q same u = (
  λ h. (alike (q + u * 2 ^ l)).0 ((same u).0 ((alike (p + u * 2 ^ l)).1 h)),
  λ h. (alike (p + u * 2 ^ l)).0 ((same u).1 ((alike (q + u * 2 ^ l)).1 h)),
)

turned : (S T : ℕ → Type 0) → ((v : ℕ) → S v ↔ T v) → (v : ℕ) → T v ↔ S v
turned S T alike v = ((alike v).1, (alike v).0)

still_apart : (S T : ℕ → Type 0) → ((v : ℕ) → S v ↔ T v) → (ps : List Prefix) → Apart S ps → Apart T ps
still_apart S T alike [] apart = tt
still_apart S T alike (x ∷ xs) (own, rest) = (
  λ y m level same. own y m level (same_on T S (turned S T alike) x.level x.bits y.bits same),
  still_apart S T alike xs rest,
)

-- two descriptions of one set have one diagram
pub alike_nodes : (w n : ℕ) (S T : ℕ → Type 0) → ((v : ℕ) → S v ↔ T v) → HasNodes w S n → HasNodes w T n
alike_nodes w n S T alike has = record {
  prefixes = has.prefixes;
  nodes = record {
    each = λ x m. let h = has.nodes.each x m in
        (h.0, h.1, λ same. h.2 (same_on T S (turned S T alike) (x.level + 1) x.bits (x.bits + 2 ^ x.level) same));
    all = λ level p less short depends.
        let found = has.nodes.all level p less short (λ same. depends (same_on S T alike (level + 1) p (p + 2 ^ level) same)) in
        (found.0, found.1, same_on S T alike level p found.0 found.2);
    apart = still_apart S T alike has.prefixes has.nodes.apart;
  };
  counted = has.counted;
}

-- whether a valuation is at a bit of a block of points
pub bit_at_point : (ns : List Quad) (rs : List (DiagramKey × ℕ)) (e b i v : ℕ) → i < 64
    → merged_has ns rs (triple e (64 * b + i) v) ≡ bit_of (points_of ns (root_of rs e b) v) i
bit_at_point ns rs e b i v small =
    let block : (64 * b + i) / 64 ≡ b = omega arith in
    let bit : (64 * b + i) % 64 ≡ i = omega arith in
    λ j. bit_of (points_of ns (root_of rs e (block j)) v) (bit j)

-- the diagram of one point has the valuations that are at it
pub point_nodes : (qs : List Quad) (rs : List (DiagramKey × ℕ)) (e b i root : ℕ) (ns : List BitNode) (n : ℕ) {E : Type 0} (r : Result ℕ E)
    → i < 64
    → root ≡ root_of rs e b
    → ((v : ℕ) → v < 2 ^ word_bits → accepts ns n v ≡ bit_of (points_of qs root v) i)
    → IfOk r (HasNodes word_bits (λ v. (v < 2 ^ word_bits) × (accepts ns n v ≡ true)))
    → IfOk r (HasNodes word_bits (λ v. (v < 2 ^ word_bits) × (merged_has qs rs (triple e (64 * b + i) v) ≡ true)))
point_nodes qs rs e b i root ns n r small at same has =
    IfOk-weaker r (HasNodes word_bits S) (HasNodes word_bits T)
    (λ k. alike_nodes word_bits k S T (λ v. (λ h. (h.0, is v h.0 ∙ h.1), λ h. (h.0, sym (is v h.0) ∙ h.1)))) has
  where
    S : ℕ → Type 0
    S v = (v < 2 ^ word_bits) × (accepts ns n v ≡ true)

    T : ℕ → Type 0
    T v = (v < 2 ^ word_bits) × (merged_has qs rs (triple e (64 * b + i) v) ≡ true)

    is : (v : ℕ) → v < 2 ^ word_bits → merged_has qs rs (triple e (64 * b + i) v) ≡ accepts ns n v
    is v less = bit_at_point qs rs e b i v small ∙ ap (λ k. bit_of (points_of qs k v) i) (sym at) ∙ sym (same v less)

module _ (ns ms os : List Quad) (rs ss ts : List (DiagramKey × ℕ)) (masks : List (MaskKey × ℕ)) (e p : ℕ) (entry : e < 2 ^ word_bits)
    (point : p < 2 ^ 64)
    (alone : (v : ℕ) → merged_has ms ss (triple e p v) ≡ merged_has ns rs (triple e p v))
    (takes : TakesGiven (λ t. Member t (mask_edges masks)) ms os ss ts)
    (all : (t : Triple) → Member t (mask_edges masks) → merged_has os ts t ≡ true) where
  -- a point's set alone, with what is gathered put in, has the members at that point
  members_there : (v : ℕ)
      → ((v < 2 ^ word_bits) × (merged_has os ts (triple e p v) ≡ true)) ↔ Member (triple e p v) (all_edges ns rs masks)
  members_there v = (
    λ h.
        let fits : Fits (triple e p v) = record { entry = entry; point = point; values = h.0 } in
        is_member ns rs masks (triple e p v) fits (elim (takes.sound (triple e p v) h.1) [
          | inl was ↦ inl (sym (alone v) ∙ was)
          | inr given ↦ inr given
        ]),
    λ m.
        let fits = values_fit (triple e p v) (kept_is (has_edge ns rs masks) universe (triple e p v) m).0 in (
          fits,
          elim (member_is ns rs masks (triple e p v) m) [
            | inl merged ↦ takes.kept (triple e p v) (alone v ∙ merged)
            | inr gathered ↦ all (triple e p v) gathered
          ],
        ),
  )

-- so the diagram there is that of the members
pub member_nodes : (ns ms os : List Quad) (rs ss ts : List (DiagramKey × ℕ)) (masks : List (MaskKey × ℕ)) (mask_key : MaskKey)
    (i e p v : ℕ) {E : Type 0} (r : Result ℕ E) → e < 2 ^ word_bits
    → p < 2 ^ 64
    → i < 64
    → edge_at mask_key i ≡ triple e p v
    → ((j v : ℕ) → j < 64
    → merged_has ms ss (triple e (64 * mask_key.block + j) v) ≡ merged_has ns rs (triple e (64 * mask_key.block + j) v))
    → TakesGiven (λ t. Member t (mask_edges masks)) ms os ss ts
    → ((t : Triple) → Member t (mask_edges masks) → merged_has os ts t ≡ true)
    → IfOk r (HasNodes word_bits (λ v. (v < 2 ^ word_bits) × (merged_has os ts (triple e (64 * mask_key.block + i) v) ≡ true)))
    → IfOk r (HasNodes word_bits (λ v. Member (triple e p v) (all_edges ns rs masks)))
member_nodes ns ms os rs ss ts masks mask_key i e p v r entry point small at alone takes all has =
    IfOk-weaker r (HasNodes word_bits S) (HasNodes word_bits T)
    (λ n. alike_nodes word_bits n S T (members_there ns ms os rs ss ts masks e p entry point alone' takes all))
    (subst (λ q. IfOk r (HasNodes word_bits (λ v. (v < 2 ^ word_bits) × (merged_has os ts (triple e q v) ≡ true)))) there has)
  where
    S : ℕ → Type 0
    S v = (v < 2 ^ word_bits) × (merged_has os ts (triple e p v) ≡ true)

    T : ℕ → Type 0
    T v = Member (triple e p v) (all_edges ns rs masks)

    there : 64 * mask_key.block + i ≡ p
    there = ap (λ (t : Triple). t.point) at

    alone' : (v : ℕ) → merged_has ms ss (triple e p v) ≡ merged_has ns rs (triple e p v)
    alone' v = subst (λ q. merged_has ms ss (triple e q v) ≡ merged_has ns rs (triple e q v)) there (alone i v small)
