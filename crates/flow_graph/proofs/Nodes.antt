-- Nodes lead where flows lead.
use Rattle.std.proofs.Common.{◌≡◌, ℕ, Bool, true, false, List, [], ◌∷◌, Option, Some, None, slice_get, refl, sym, ◌∙◌}
use Rattle.std.proofs.Common.{ap, subst}
use Rattle.std.proofs.lemmas.Bool.{true≢false}
use Rattle.language.specs.Tree.{Expression, value, skip, assign, assert, assume, goto, leave, call, leave_with, call_for, done, one, choose}
use Rattle.language.specs.Tree.{loop}
use Rattle.language.specs.Value.{Place, local, value_of, AreValues, written_globals, written_locals}
use Rattle.language.specs.Rest.{Code, join, rest_from}
use Rattle.language.specs.Step.{Routine, Program, frame, waiting, State, state, with_result, AtRest, body_of}
use Rattle.language.specs.Sequential.{Valuation}
use Rattle.language.specs.Flow.{Flow}
use Rattle.language.proofs.Callers.{no_flow_from_call, no_flow_from_exit}
use Rattle.flow_graph.specs.Nodes.{point_at, node_of, goes_to, Leads}

-- the values and the rest of the top frame
abbrev values_in : State → Valuation
values_in (state g []) = record { globals = g; places = [] }
values_in (state g (frame q l r ∷ fs)) = record { globals = g; places = l }
values_in (state g (waiting q l x r ∷ fs)) = record { globals = g; places = l }

abbrev rest_in : State → Code
rest_in (state g []) = done
rest_in (state g (frame q l r ∷ fs)) = r
rest_in (state g (waiting q l x r ∷ fs)) = r

-- a flow of q leads on with this valuation to a rest that begins at the point
abbrev FlowsOn : Program → ℕ → Valuation → Code → ℕ → Valuation → Type 0
FlowsOn p q v r n v' = (r' : Code) × Flow p q v r v' r' × (n ≡ point_at r')

-- one expression has one value
pub only_value : (g l : List Bool) (e : Expression Place) (vs : List Bool) → AreValues g l (value e ∷ []) vs
    → vs ≡ value_of g l e ∷ []
only_value g l e [] are = absurd are
only_value g l e (b ∷ []) are = ap (λ c. c ∷ []) are.0
only_value g l e (b ∷ c ∷ bs) are = absurd are.1

module _ (p : Program) (q : ℕ) (routine : Routine) (there : slice_get p.routines q ≡ Some routine) where
  abbrev alone : Valuation → Code → State
  alone v r = state v.globals (frame q v.places r ∷ [])

  jump_leads : (o : Option Code) (v v' : Valuation) (r' : Code) → AtRest o (λ rest. alone v rest ≡ alone v' r') →
      Leads (goes_to o) v (point_at r') v'
  jump_leads None v v' r' h = absurd h
  jump_leads (Some r) v v' r' h = ([], tt, sym (ap (λ s. point_at (rest_in s)) h), sym (ap values_in h))

  -- the valuation after a return of this value
  abbrev given : Option Routine → Valuation → Bool → Valuation
  given o v b = record { globals = v.globals; places = with_result o v.places b }

  pub flow_leads : (v v' : Valuation) (r r' : Code) → Flow p q v r v' r' → Leads (node_of routine r) v (point_at r') v'
  flow_leads v v' done r' h = absurd (no_flow_from_exit p q v v' r' h)
  flow_leads v v' (one m (assign xs rs) t) r' (vs, are, h) = (vs, are, sym (ap (λ s. point_at (rest_in s)) h), sym (ap values_in h))
  flow_leads v v' (one m (assert r) t) r' (is, h) = (is, sym (ap (λ s. point_at (rest_in s)) h), sym (ap values_in h))
  flow_leads v v' (one m (assume r) t) r' (is, h) = (is, sym (ap (λ s. point_at (rest_in s)) h), sym (ap values_in h))
  flow_leads v v' (one m (goto x) t) r' h =
      jump_leads (rest_from x routine.body done) v v' r'
      (subst (λ o. AtRest (rest_from x (body_of o) done) (λ rest. alone v rest ≡ alone v' r')) there h)
  flow_leads v v' (one m (call n es) t) r' h = absurd (no_flow_from_call p q n v v' es (one m (call n es) t) r' refl h)
  flow_leads v v' (one m (leave_with e) t) r' h =
      let b = value_of v.globals v.places e in
      (b ∷ [], (refl, tt), sym (ap (λ s. point_at (rest_in s)) h), sym (ap values_in h) ∙ ap (λ o. given o v b) there)
  flow_leads v v' (one m (call_for x n es) t) r' h = absurd (no_flow_from_call p q n v v' es (one m (call_for x n es) t) r' refl h)
  flow_leads v v' (choose m r a b t) r' (true, is, h) = (true, is, sym (ap (λ s. point_at (rest_in s)) h), sym (ap values_in h))
  flow_leads v v' (choose m r a b t) r' (false, is, h) = (false, is, sym (ap (λ s. point_at (rest_in s)) h), sym (ap values_in h))
  flow_leads v v' (loop m r a t) r' (true, is, h) = (true, is, sym (ap (λ s. point_at (rest_in s)) h), sym (ap values_in h))
  flow_leads v v' (loop m r a t) r' (false, is, h) = (false, is, sym (ap (λ s. point_at (rest_in s)) h), sym (ap values_in h))
  flow_leads v v' _ r' h = ([], tt, sym (ap (λ s. point_at (rest_in s)) h), sym (ap values_in h))

  -- a node that continues with unchanged values follows a step that does
  went : (v v' : Valuation) (r : Code) (n : ℕ) → n ≡ point_at r → v' ≡ v →
      (r' : Code) × (alone v r ≡ alone v' r') × (n ≡ point_at r')
  went v v' r n to same = (r, ap (λ u. alone u r) (sym same), to)

  jumps : (o : Option Code) (v v' : Valuation) (n : ℕ) → Leads (goes_to o) v n v' →
      (r' : Code) × AtRest o (λ rest. alone v rest ≡ alone v' r') × (n ≡ point_at r')
  jumps None v v' n (is, to, same) = absurd (true≢false is)
  jumps (Some r) v v' n (vs, are, to, same) = went v v' r n to same

  pub lead_flows : (v v' : Valuation) (r : Code) (n : ℕ) → Leads (node_of routine r) v n v' → FlowsOn p q v r n v'
  lead_flows v v' (one m skip t) n (vs, are, to, same) = went v v' t n to same
  lead_flows v v' (one m (assign xs rs) t) n (vs, are, is, same) =
      (t, (vs, are, ap (λ u. alone u t) (sym same)), is)
  lead_flows v v' (one m (assert r) t) n (is, to, same) = let (r', e, f) = went v v' t n to same in (r', (is, e), f)
  lead_flows v v' (one m (assume r) t) n (is, to, same) = let (r', e, f) = went v v' t n to same in (r', (is, e), f)
  lead_flows v v' (one m (goto x) t) n h =
      let (r', at, to) = jumps (rest_from x routine.body done) v v' n h in
      (r', subst (λ o. AtRest (rest_from x (body_of o) done) (λ rest. alone v rest ≡ alone v' r')) (sym there) at, to)
  lead_flows v v' (one m leave t) n (vs, are, to, same) = went v v' done n to same
  lead_flows v v' (one m (leave_with e) t) n (vs, are, to, same) =
      let xs : List Place = local routine.places ∷ [] in
      let written : List Bool → Valuation =
      λ ws. record { globals = written_globals xs ws v.globals; places = written_locals xs ws v.places } in
      let after =
      ap (λ o. given o v (value_of v.globals v.places e)) there ∙ ap written (sym (only_value v.globals v.places e vs are))
      ∙ sym same in
      (done, ap (λ u. alone u done) after, to)
  lead_flows v v' (choose m r a b t) n (true, is, to, same) = let (r', e, f) = went v v' (join a t) n to same in (r', (true, is, e), f)
  lead_flows v v' (choose m r a b t) n (false, is, to, same) = let (r', e, f) = went v v' (join b t) n to same in (r', (false, is, e), f)
  lead_flows v v' (loop m r a t) n (true, is, to, same) = let (r', e, f) = went v v' (join a (loop m r a t)) n to same in
      (r', (true, is, e), f)
  lead_flows v v' (loop m r a t) n (false, is, to, same) = let (r', e, f) = went v v' t n to same in (r', (false, is, e), f)
  lead_flows v v' _ n h = absurd h
