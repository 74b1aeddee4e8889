use Rattle.std.proofs.Common.{◌≡◌, ◌≤◌, ◌<◌, ◌↔◌, ◌∙◌, ℕ, Bool, true, false, not, None, Some, Option, ap, sym}
use Rattle.std.proofs.Common.{refl, arith, length, is_some, true≢false}
use Rattle.std.proofs.lemmas.Bool.{false≢true}
use Rattle.std.proofs.lemmas.List.{length-map}
use Rattle.language.specs.Tree.{Tree}
use Rattle.trees.specs.Trees.{name_of, names_of, tree_of}
use Rattle.resolved.specs.Limits.{most_places}
use Rattle.round_rewrite.specs.Narrow.{IsFirstWide, IsNarrow, rewritten_width}
use Rattle.round_rewrite.specs.Places.{global_count}
use Rattle.round_rewrite.specs.declared.width.Wide.{Wide}
use Rattle.round_rewrite.proofs.Widths.{narrow, narrow_globals, narrow_sources, wide_stands}
use Rattle.round_rewrite.proofs.width.is_narrow.Goals as goal

-- if the globals are few, the program is narrow if no procedure of the source is too wide
tells : (t : Tree) (last n : ℕ) (is : global_count (length t.globals) last ≡ n) → n ≤ most_places → (wide : Option Wide) →
    IsFirstWide last t wide → (b : Bool) → is_some wide ≡ not b → (b ≡ true) ↔ IsNarrow last t
tells t last n is few None all true e = (λ h. narrow t last n is few all, λ h. refl)
tells t last n is few None all false e = absurd (false≢true e)
tells t last n is few (Some w) stands true e = absurd (true≢false e)
tells t last n is few (Some w) (i, p, at, name, places, large, before) false e =
    let more : most_places < rewritten_width last t p = omega (arith, places, large) in (
      λ h. absurd (false≢true h),
      λ h. absurd (wide_stands t last n is t.procedures i p at more (narrow_sources t last n is h)),
    )

pub returns : goal.returns
returns g c =
    let t = tree_of c.args.program.now in
    let last = c.args.rounds.last in
    let len : length (names_of c.args.program.now.globals.items) ≡ length c.as_slice.result.now =
    length-map c.args.program.now.globals.items name_of ∙ ap length (sym c.as_slice.ensures.value) in
    tells t last c.global_count-globals.result (ap (λ m. global_count m last) len ∙ sym c.global_count-globals.ensures.count)
    (omega (arith, c.if-globals.false)) c.first_wide.result c.first_wide.ensures _ c.is_none.ensures

pub returns-then-globals : goal.returns-then-globals
returns-then-globals g c =
    let t = tree_of c.args.program.now in
    let last = c.args.rounds.last in
    let len : length (names_of c.args.program.now.globals.items) ≡ length c.as_slice.result.now =
    length-map c.args.program.now.globals.items name_of ∙ ap length (sym c.as_slice.ensures.value) in
    let is = ap (λ m. global_count m last) len ∙ sym c.global_count-globals.ensures.count in (
      λ h. absurd (false≢true h),
      λ h. let few = narrow_globals t last c.global_count-globals.result is h in absurd (omega (arith, few, c.if-globals.true)),
    )
