-- The joint table is made of the rows of all that is read; a choice is put at the first of the bits.
use Rattle.std.proofs.Common.{◌≡◌, ◌≤◌, true, length, refl, sym, subst, ◌∙◌, arith}
use Rattle.flow_graph.specs.Joining.{all_read_few, read_bits}
use Rattle.flow_graph.specs.Tables.{is_input, most_inputs, AreBits}
use Rattle.resolved.specs.Limits.{most_places}
use Rattle.flow_graph.proofs.JointLemmas.{none_any, joint_right, read_inside, read_places}
use Rattle.flow_graph.proofs.ChosenLemmas.{chosen_right}
use Rattle.flow_graph.proofs.joining.form_of.Goals as goal

pub rows_of-requires-clause-bits : goal.rows_of-requires-clause-bits
rows_of-requires-clause-bits g c =
    subst AreBits (sym (c.as_slice.ensures.value ∙ c.in-Some-inputs_of.ensures.some.0))
    (read_places c.args.writes.now most_places (omega arith))

pub rows_of-requires-clause-few : goal.rows_of-requires-clause-few
rows_of-requires-clause-few g c =
    subst (λ bits. length bits ≤ most_inputs) (sym c.as_slice.ensures.value) c.in-Some-inputs_of.ensures.some.1

pub new-inputs-requires-clause-few : goal.new-inputs-requires-clause-few
new-inputs-requires-clause-few g c =
    subst (λ bits. length bits ≤ most_inputs) (sym c.as_slice-2.ensures.value) c.in-Some-inputs_of.ensures.some.1

pub new-inputs-requires-clause-places : goal.new-inputs-requires-clause-places
new-inputs-requires-clause-places g c =
    subst AreBits (sym (c.as_slice-2.ensures.value ∙ c.in-Some-inputs_of.ensures.some.0))
    (read_places c.args.writes.now most_places (omega arith))

pub returns-in-Some : goal.returns-in-Some
returns-in-Some g c =
    chosen_right c.args.writes.now c.in-Some.first c.unwritten-kept.result c.in-Some.ensures.some.1 c.unwritten-kept.ensures (omega arith)

pub returns-in_default-inputs_of : goal.returns-in_default-inputs_of
returns-in_default-inputs_of g c = (
  λ few. c.in_default-inputs_of.ensures.none refl,
  c.in_default.ensures.none refl,
)

pub returns : goal.returns
returns g c =
    let ws = c.args.writes.now in
    let few : all_read_few ws ≡ true = sym c.all_read_few.ensures ∙ c.if-not-all_read_few.false in
    let bits = c.as_slice.result.now in
    let are : bits ≡ read_bits ws most_places = c.as_slice.ensures.value ∙ c.in-Some-inputs_of.ensures.some.0 in (
      none_any ws few,
      joint_right ws bits _ _ _ few
          (λ k less there. subst (λ xs. is_input k xs ≡ true) (sym are) (read_inside ws most_places k less there)) c.in_ok-rows.ensures
          (c.new-inputs.ensures ∙ c.as_slice-2.ensures.value ∙ sym c.as_slice.ensures.value) c.unwritten-kept-2.ensures,
    )
