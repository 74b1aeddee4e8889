-- The words of each slot are right in each of their 1,024 rows, by evaluation.
use Rattle.std.proofs.Common.{◌≡◌, ◌∙◌, ◌∷◌, [], ℕ, replicate, sym, ap, refl, arith}
use Rattle.flow_graph.specs.Bits.{bit_of}
use Rattle.flow_graph.proofs.Rows.{rows_of_slot}
use Rattle.flow_graph.proofs.outputs.outputs_of_slot.Goals as goal

-- every other word, every other two, four and eight of them are 1
abbrev ones : ℕ
ones = 18446744073709551615

pub returns-in-0 : goal.returns-in-0
returns-in-0 c j less = rows_of_slot (replicate 16 12297829382473034410) 0 refl j less ∙ ap (bit_of j) (sym c.in-0.is)

pub returns-in-1 : goal.returns-in-1
returns-in-1 c j less = rows_of_slot (replicate 16 14757395258967641292) 1 refl j less ∙ ap (bit_of j) (sym c.in-1.is)

pub returns-in-2 : goal.returns-in-2
returns-in-2 c j less = rows_of_slot (replicate 16 17361641481138401520) 2 refl j less ∙ ap (bit_of j) (sym c.in-2.is)

pub returns-in-3 : goal.returns-in-3
returns-in-3 c j less = rows_of_slot (replicate 16 18374966859414961920) 3 refl j less ∙ ap (bit_of j) (sym c.in-3.is)

pub returns-in-4 : goal.returns-in-4
returns-in-4 c j less = rows_of_slot (replicate 16 18446462603027742720) 4 refl j less ∙ ap (bit_of j) (sym c.in-4.is)

pub returns-in-5 : goal.returns-in-5
returns-in-5 c j less = rows_of_slot (replicate 16 18446744069414584320) 5 refl j less ∙ ap (bit_of j) (sym c.in-5.is)

pub returns-in-6 : goal.returns-in-6
returns-in-6 c j less =
    rows_of_slot
    (0 ∷ ones ∷ 0 ∷ ones ∷ 0 ∷ ones ∷ 0 ∷ ones ∷ 0 ∷ ones ∷ 0 ∷ ones ∷ 0 ∷ ones ∷ 0 ∷ ones ∷ []) 6 refl j
    less ∙ ap (bit_of j) (sym c.in-6.is)

pub returns-in-7 : goal.returns-in-7
returns-in-7 c j less =
    rows_of_slot
    (0 ∷ 0 ∷ ones ∷ ones ∷ 0 ∷ 0 ∷ ones ∷ ones ∷ 0 ∷ 0 ∷ ones ∷ ones ∷ 0 ∷ 0 ∷ ones ∷ ones ∷ []) 7 refl j
    less ∙ ap (bit_of j) (sym c.in-7.is)

pub returns-in-8 : goal.returns-in-8
returns-in-8 c j less =
    rows_of_slot
    (0 ∷ 0 ∷ 0 ∷ 0 ∷ ones ∷ ones ∷ ones ∷ ones ∷ 0 ∷ 0 ∷ 0 ∷ 0 ∷ ones ∷ ones ∷ ones ∷ ones ∷ []) 8 refl j
    less ∙ ap (bit_of j) (sym c.in-8.is)

pub returns-in_default : goal.returns-in_default
returns-in_default c j less =
    rows_of_slot
    (0 ∷ 0 ∷ 0 ∷ 0 ∷ 0 ∷ 0 ∷ 0 ∷ 0 ∷ ones ∷ ones ∷ ones ∷ ones ∷ ones ∷ ones ∷ ones ∷ ones ∷ []) 9 refl j
    less ∙ ap (bit_of j) (let nine : 9 ≡ c.args.slot = omega (arith, c.requires, c.in_default) in nine)
