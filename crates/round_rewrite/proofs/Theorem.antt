-- The rewriting theorem over places.
use Rattle.std.proofs.Common.{◌≡◌, ℕ, suc, ◌<◌, Bool, true, false, List, [], ◌∷◌, None, refl, sym, subst, inl, inr}
use Rattle.language.specs.Tree.{done}
use Rattle.language.specs.Value.{bit}
use Rattle.language.specs.Rest.{Code}
use Rattle.language.specs.Step.{Program, frame, State, state, zeros, AfterSteps, Runs}
use Rattle.language.specs.Rounds.{Unsafe}
use Rattle.language.specs.Sequential.{numbered, in_text_order, Valuation, point_of, Entered, SomeBad}
use Rattle.round_rewrite.specs.Table.{main}
use Rattle.round_rewrite.specs.Places.{places, all_globals, rewritten_program, bad_at, global_count}
use Rattle.resolved.specs.Scoped.{FitsScopes}
use Rattle.round_rewrite.specs.Law.{KeepsFailures}
use Rattle.round_rewrite.proofs.Plain.{PlainAfter, bare_state, world_of, plain_after}
use Rattle.round_rewrite.proofs.Turns.{after_map, after_pick}
use Rattle.round_rewrite.proofs.GuessLemmas.{Bad}
use Rattle.round_rewrite.proofs.Assembly.{start_is, unsafe_leads, leads_unsafe}
use Rattle.round_rewrite.proofs.EntryLemmas.{never_asked}
use Rattle.round_rewrite.specs.Limits.{most_rounds}

module _ (p : Program) (last : ℕ) (fits : FitsScopes p) (small : last < most_rounds) where
  abbrev result : Program
  result = in_text_order (rewritten_program last p)

  abbrev body : Code
  body = main (places p.globals last 0) last (all_globals p.globals) p.threads

  abbrev start : State
  start = state (zeros (global_count p.globals last)) (frame 0 [] (numbered 1 body) ∷ [])

  abbrev zero_valuation : Valuation
  zero_valuation = record { globals = zeros (global_count p.globals last); places = [] }

  to_pair : (n : ℕ) (u : State) → AfterSteps result n start (λ v. v ≡ u) → Bad p.globals last (bare_state u) →
      SomeBad result (bad_at p.globals last)
  to_pair n (state g (frame c l done ∷ [])) run h = (
    zero_valuation,
    record { globals = g; result = false },
    (
      l,
      refl,
      (
        inl (refl, refl),
        (
          done,
          refl,
          (n, subst (λ k. AfterSteps result n start (λ v. v ≡ state g (frame k l done ∷ []))) h.0 run),
        ),
      ),
    ),
    h.1,
  )
  to_pair n _ run h = absurd h

  pub unsafe_bad : Unsafe p (suc last) → SomeBad result (bad_at p.globals last)
  unsafe_bad unsafe =
      let (n, h) = unsafe_leads p last fits small unsafe in
      let h1 : PlainAfter (world_of result) n (bare_state start) (Bad p.globals last) =
      subst (λ s. PlainAfter (world_of result) n s (Bad p.globals last)) (sym (start_is p last)) h in
      let h2 : AfterSteps result n start (λ u. Bad p.globals last (bare_state u)) =
      subst (λ T. T) (sym (plain_after result n start (Bad p.globals last))) h1 in
      let (u, run, bad) = after_pick result n start (λ u. Bad p.globals last (bare_state u)) h2 in
      to_pair n u run bad

  from_run : (n : ℕ) (b l : List Bool) (rest : Code) → None ≡ point_of rest →
      AfterSteps result n start (λ v. v ≡ state b (frame 0 l rest ∷ [])) → bit b (bad_at p.globals last) ≡ true →
      Unsafe p (suc last)
  from_run n b l done e run bad =
      let h : AfterSteps result n start (λ u. Bad p.globals last (bare_state u)) =
      after_map result n start (λ v. v ≡ state b (frame 0 l done ∷ [])) (λ u. Bad p.globals last (bare_state u))
      (λ u eu. subst (λ v. Bad p.globals last (bare_state v)) (sym eu) (refl, bad)) run in
      let h1 : PlainAfter (world_of result) n (bare_state start) (Bad p.globals last) =
      subst (λ T. T) (plain_after result n start (Bad p.globals last)) h in
      leads_unsafe p last fits small n (subst (λ s. PlainAfter (world_of result) n s (Bad p.globals last)) (start_is p last) h1)
  from_run n b l _ e run bad = cc

  from_entry : (a : Valuation) (b l : List Bool) (rest : Code) → None ≡ point_of rest → Entered result 0 a →
      Runs result (state a.globals (frame 0 a.places (numbered 1 body) ∷ [])) (state b (frame 0 l rest ∷ [])) →
      bit b (bad_at p.globals last) ≡ true → Unsafe p (suc last)
  from_entry a b l rest e (inl (q, is)) run bad =
      let run' : Runs result start (state b (frame 0 l rest ∷ [])) =
      subst
      (λ (v : Valuation). Runs result (state v.globals (frame 0 v.places (numbered 1 body) ∷ [])) (state b (frame 0 l rest ∷ []))) is
      run in
      from_run run'.0 b l rest e run'.1 bad
  from_entry a b l rest e (inr (c, asks)) run bad = absurd (never_asked last p c a asks)

  pub bad_unsafe : SomeBad result (bad_at p.globals last) → Unsafe p (suc last)
  bad_unsafe (a, b, (l, none, (entered, (rest, e, run))), bad) = from_entry a b.globals l rest e entered run bad

-- the theorem
pub keeps : (p : Program) (last : ℕ) → FitsScopes p → last < most_rounds → KeepsFailures (suc last) p
keeps p last fits small = (unsafe_bad p last fits small, bad_unsafe p last fits small)
