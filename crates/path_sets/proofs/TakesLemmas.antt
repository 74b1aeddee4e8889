-- Diagrams that take path edges, one time after another.
use Rattle.std.proofs.Common.{◌≡◌, ℕ, ◌/◌, ◌%◌, true, List, inl, inr, sym, ap, ◌∙◌, subst, arith}
use Rattle.path_sets.specs.declared.diagrams.quad.Quad.{Quad}
use Rattle.path_sets.specs.declared.diagrams.insertion.Insertion.{Insertion}
use Rattle.path_sets.specs.declared.diagrams.roots.DiagramKey.{DiagramKey}
use Rattle.path_sets.specs.Masks.{bit_of}
use Rattle.path_sets.specs.Triples.{Triple}
use Rattle.path_sets.specs.Walks.{IsNumber}
use Rattle.path_sets.specs.Quads.{Joins, KeepQuads, points_of}
use Rattle.path_sets.specs.Insertions.{RootsStay}
use Rattle.path_sets.specs.Diagrams.{HaveNumbers, InRun, GivesRoot, TakesGiven, merged_has, root_of}
use Rattle.path_sets.proofs.RootLemmas.{is_diagram}

-- more is taken
pub takes_on : (given : Triple → Type 0) (ns ms os : List Quad) (rs ss ts : List (DiagramKey × ℕ)) → TakesGiven given ns ms rs ss
    → TakesGiven given ms os ss ts
    → TakesGiven given ns os rs ts
takes_on given ns ms os rs ss ts a b = record {
  kept = λ t h. b.kept t (a.kept t h);
  sound = λ t h. elim (b.sound t h) [ inl was ↦ a.sound t was | inr new ↦ inr new ];
}

-- of fewer
pub takes_of : (few more : Triple → Type 0) (ns ms : List Quad) (rs ss : List (DiagramKey × ℕ)) → ((t : Triple) → few t → more t)
    → TakesGiven few ns ms rs ss → TakesGiven more ns ms rs ss
takes_of few more ns ms rs ss wider a = record {
  kept = a.kept;
  sound = λ t h. elim (a.sound t h) [ inl was ↦ inl was | inr new ↦ inr (wider t new) ];
}

-- more nodes leave each diagram its number
pub numbers_stay : (ns ms : List Quad) (rs : List (DiagramKey × ℕ)) → KeepQuads ns ms → HaveNumbers ns rs → HaveNumbers ms rs
numbers_stay ns ms rs keeps numbers e b =
    let longer = keeps.longer in
    let was = numbers e b in
    omega (arith, longer, was)

-- a diagram that is given a number has one, and so have the others
pub numbers_on : (ms : List Quad) (rs ss : List (DiagramKey × ℕ)) (diagram : DiagramKey) (number : ℕ) → HaveNumbers ms rs
    → IsNumber ms number
    → GivesRoot rs diagram number ss
    → HaveNumbers ms ss
numbers_on ms rs ss diagram number have inside roots e b = elim (is_diagram e b diagram) [
  | inl (at, at') ↦ subst (IsNumber ms) (sym ((λ j. root_of ss (at j) (at' j)) ∙ roots.here)) inside
  | inr ne ↦ subst (IsNumber ms) (sym (roots.others e b ne)) (have e b)
]

-- a diagram's diagram takes the points of insertions, and the others stay
module _ (diagram : DiagramKey) (insertions : List Insertion) (number : ℕ) (ns ms : List Quad) (rs ss : List (DiagramKey × ℕ))
    (keeps : KeepQuads ns ms)
    (have : HaveNumbers ns rs)
    (joins : Joins insertions 0 (points_of ns (root_of rs diagram.entry diagram.block)) (points_of ms number))
    (roots : GivesRoot rs diagram number ss) where
  here : (t : Triple) → (t.entry ≡ diagram.entry) × (t.point / 64 ≡ diagram.block)
      → (merged_has ms ss t ≡ bit_of (points_of ms number t.values) (t.point % 64))
      × (merged_has ns rs t ≡ bit_of (points_of ns (root_of rs diagram.entry diagram.block) t.values) (t.point % 64))
  here t (entry, block) = (
    (λ j. bit_of (points_of ms (root_of ss (entry j) (block j)) t.values) (t.point % 64))
        ∙ ap (λ n. bit_of (points_of ms n t.values) (t.point % 64)) roots.here,
    λ j. bit_of (points_of ns (root_of rs (entry j) (block j)) t.values) (t.point % 64),
  )

  there : (t : Triple) → ((t.entry ≡ diagram.entry) × (t.point / 64 ≡ diagram.block) → ⊥) → merged_has ms ss t ≡ merged_has ns rs t
  there t ne =
      ap (λ n. bit_of (points_of ms n t.values) (t.point % 64)) (roots.others t.entry (t.point / 64) ne)
      ∙ ap (λ m. bit_of m (t.point % 64))
      (keeps.same (root_of rs t.entry (t.point / 64)) t.values (have t.entry (t.point / 64)))

  pub takes_diagram : TakesGiven (InRun diagram insertions) ns ms rs ss
  takes_diagram = record {
    kept = λ t h. elim (is_diagram t.entry (t.point / 64) diagram) [
      | inl at ↦ let e = here t at in e.0 ∙ (joins t.values (t.point % 64)).1 (inl (sym e.1 ∙ h))
      | inr ne ↦ there t ne ∙ h
    ];
    sound = λ t h. elim (is_diagram t.entry (t.point / 64) diagram) [
      | inl at ↦ let e = here t at in elim ((joins t.values (t.point % 64)).0 (sym e.0 ∙ h)) [
        | inl was ↦ inl (e.1 ∙ was)
        | inr given ↦ inr (at.0, at.1, given)
      ]
      | inr ne ↦ inl (sym (there t ne) ∙ h)
    ];
  }

  pub all_in_diagram : (t : Triple) → InRun diagram insertions t → merged_has ms ss t ≡ true
  all_in_diagram t (entry, block, given) =
      let e = here t (entry, block) in
      e.0 ∙ (joins t.values (t.point % 64)).1 (inr given)

-- diagrams that stay leave the diagrams as they are
pub takes_nothing : (given : Triple → Type 0) (ns : List Quad) (rs ss : List (DiagramKey × ℕ)) → RootsStay rs ss
    → TakesGiven given ns ns rs ss
takes_nothing given ns rs ss stay =
    let same = λ (t : Triple). ap (λ n. bit_of (points_of ns n t.values) (t.point % 64)) (stay.numbers t.entry (t.point / 64)) in
    record { kept = λ t h. same t ∙ h; sound = λ t h. inl (sym (same t) ∙ h) }
