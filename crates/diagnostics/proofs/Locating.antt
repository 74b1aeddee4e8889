-- What is written about a place locates it.
use Rattle.std.proofs.Common.{◌≡◌, ◌++◌, ℕ, List, Result, Ok, Err}
use Rattle.std.specs.Prelude.{OnOk}
use Rattle.diagnostics.specs.Position.{IsPosition}
use Rattle.diagnostics.specs.Message.{Locates, WritesPlace, caret_line, message_head, line_and_column, source_line}

pub located : {T E : Type 0} (r : Result T E) (path text : List ℕ) (at line column : ℕ) (before behind : List ℕ)
    (told : List ℕ → List ℕ) (old new : List ℕ) → IsPosition text at line column before behind
    → OnOk r (new ≡ old ++ (message_head path line column ++ (told behind ++ (source_line before behind ++ caret_line before))))
    → OnOk r (Locates path text at told old new)
located (Ok _) path text at line column before behind told old new place message =
    record { line = line; column = column; before = before; behind = behind; place = place; message = message }
located (Err _) path text at line column before behind told old new place message = tt

-- so does its line and its column alone
pub placed : {T E : Type 0} (r : Result T E) (text : List ℕ) (at line column : ℕ) (before behind old new : List ℕ)
    → IsPosition text at line column before behind → OnOk r (new ≡ old ++ line_and_column line column)
    → OnOk r (WritesPlace text at old new)
placed (Ok _) text at line column before behind old new place message =
    record { line = line; column = column; before = before; behind = behind; place = place; message = message }
placed (Err _) text at line column before behind old new place message = tt
