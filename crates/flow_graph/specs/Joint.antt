-- Joint tables: all that an assignment writes, by the bits that its right sides read.
use mathlib.Core.HLevel.{×_prop, Π_prop}
use native.Mathlib.Nat.{ℕ_set}
use mathlib.Core.Bool.{Bool-set}
use Rattle.std.specs.Prelude.{◌≡◌, ◌<◌, ◌-◌, ◌*◌, ◌%◌, ◌^◌, ℕ, true, false, List, length, get_or, map}
use Rattle.std.specs.Int.RustNames.{bit_and, bit_or}
use Rattle.language.specs.Words.{word_bits}
use Rattle.flow_graph.specs.Assignments.{after_writes, anys}
use Rattle.flow_graph.specs.Bits.{bit_of, coded}
use Rattle.flow_graph.specs.Joining.{all_bits, all_choose, all_read_few, read_bits}
use Rattle.flow_graph.specs.Postfix.{few_prop}
use Rattle.flow_graph.specs.Tables.{most_inputs}
use Rattle.flow_graph.specs.Windows.{seen}
use Rattle.flow_graph.specs.declared.assignment.Write.{Write}
use Rattle.flow_graph.specs.declared.joint.Form.{Form}
use Rattle.flow_graph.specs.declared.joint.Form.TheVariants.{Same, Joint, Chosen as ChosenOf, Each}
use Rattle.flow_graph.specs.declared.joint.Chosen.{Chosen}
use Rattle.flow_graph.specs.declared.joint.JointTable.{JointTable}
use Rattle.resolved.specs.Limits.{most_places}

-- the next valuation: the bits that are not written stay, and the others are those in the row of the bits read
abbrev pub joint_next : {Alloc : Type 0} → JointTable Alloc → ℕ → ℕ
joint_next table values =
    bit_or (bit_and values table.kept) (get_or table.rows.items (coded (map (bit_of values) (seen table.inputs.items.items))) 0)

-- the next valuation: the bits that are not written stay, and the others are those of the choice, moved up to the first
abbrev pub chosen_next : Chosen → ℕ → ℕ → ℕ
chosen_next chosen values choice =
    bit_or (bit_and values chosen.kept) (bit_and (choice * 2 ^ chosen.first % 2 ^ word_bits) (all_bits - chosen.kept))

-- In the first two forms no right side is `?`, and the valuation after the writes is the one before, or that of the joint
-- table. In the third it is that of the choice put in its place. One write after the other is made only if some right side is
-- no variable or truth table, or they read too many bits, and if not all are `?` for neighbouring bits.
abbrev pub IsFormOf : {Alloc : Type 0} → Form Alloc → List (Write Alloc) → Type 0
IsFormOf Same writes = (anys writes ≡ 0) × ((values choice : ℕ) → after_writes writes values choice values ≡ values)
IsFormOf (Joint table) writes =
    (anys writes ≡ 0)
    × ((values choice : ℕ) → values < 2 ^ word_bits → after_writes writes values choice values ≡ joint_next table values)
IsFormOf (ChosenOf chosen) writes =
    (values choice : ℕ) → values < 2 ^ word_bits → after_writes writes values choice values ≡ chosen_next chosen values choice
IsFormOf Each writes =
    (all_read_few writes ≡ true → most_inputs < length (read_bits writes most_places))
    × ((first : ℕ) → first < most_places → all_choose writes first ≡ false)

-- this has at most one proof, so a type may carry it
pub IsFormOf-prop : {Alloc : Type 0} (form : Form Alloc) (writes : List (Write Alloc)) → IsProp (IsFormOf form writes)
IsFormOf-prop Same writes = ×_prop (ℕ_set _ _) (Π_prop (λ values. Π_prop (λ choice. ℕ_set _ _)))
IsFormOf-prop (Joint table) writes = ×_prop (ℕ_set _ _) (Π_prop (λ values. Π_prop (λ choice. Π_prop (λ fits. ℕ_set _ _))))
IsFormOf-prop (ChosenOf chosen) writes = Π_prop (λ values. Π_prop (λ choice. Π_prop (λ fits. ℕ_set _ _)))
IsFormOf-prop Each writes = ×_prop (Π_prop (λ few. few_prop _ _)) (Π_prop (λ first. Π_prop (λ less. Bool-set _ _)))
