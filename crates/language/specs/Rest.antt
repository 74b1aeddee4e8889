-- What is left to run in a frame, as a list of statements.
use Rattle.std.specs.Prelude.{ℕ, Bool, false, List, Option, Some, None, cond}
use Rattle.std.specs.Str.{bytes_eq}
use Rattle.language.specs.Tree.{Expression, call, call_for, Mark, Block, done, one, choose, loop}
use Rattle.language.specs.Value.{Place}

-- a label's text
abbrev pub Label : Type 0
Label = List ℕ

-- the statements of a resolved program: variables are places, procedures are numbers
abbrev pub Code : Type 0
Code = Block Place ℕ Label

-- the statements of the one, then those of the next
abbrev pub join : {V P L : Type 0} → Block V P L → Block V P L → Block V P L
join done next = next
join (one mark statement rest) next = one mark statement (join rest next)
join (choose mark side if_true if_false rest) next = choose mark side if_true if_false (join rest next)
join (loop mark side body rest) next = loop mark side body (join rest next)

-- the same bytes
abbrev pub same_text : List ℕ → List ℕ → Bool
same_text = bytes_eq

-- the mark has this label
abbrev pub has_label : Label → Mark Label → Bool
has_label label mark = labelled mark.label
  where
    labelled : Option Label → Bool
    labelled None = false
    labelled (Some y) = same_text label y

-- the first that is there
abbrev pub first_of_two : {A : Type 0} → Option A → Option A → Option A
first_of_two None b = b
first_of_two (Some a) b = Some a

-- What is left to run from the first statement with this label on, where `next` comes after the block: after
-- a branch comes what follows its `if`, after a loop's body the loop again.
abbrev pub rest_from : Label → Code → Code → Option Code
rest_from label done next = None
rest_from label (one mark statement rest) next =
    cond (has_label label mark) (Some (one mark statement (join rest next))) (rest_from label rest next)
rest_from label (choose mark side if_true if_false rest) next =
    cond (has_label label mark) (Some (choose mark side if_true if_false (join rest next)))
    (first_of_two (rest_from label if_true (join rest next))
    (first_of_two (rest_from label if_false (join rest next)) (rest_from label rest next)))
rest_from label (loop mark side body rest) next =
    cond (has_label label mark) (Some (loop mark side body (join rest next)))
    (first_of_two (rest_from label body (loop mark side body (join rest next))) (rest_from label rest next))

-- the procedure that the first statement calls, and the arguments, if it calls one
abbrev pub called_by : Code → Option (ℕ × List (Expression Place))
called_by (one mark (call callee es) rest) = Some (callee, es)
called_by (one mark (call_for x callee es) rest) = Some (callee, es)
called_by rest = None

-- the variable that the first statement calls for, if it calls for a value
abbrev pub target_of : Code → Option Place
target_of (one mark (call_for x callee es) rest) = Some x
target_of rest = None
