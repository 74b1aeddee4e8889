-- What a program does for the words of its command line.
use Rattle.std.specs.Prelude.{◌≡◌, ◌⊎◌, ℕ, true, List, [], Option, Result, Ok, Err, codes}
use Rattle.std.specs.String.{string_bytes}
use Rattle.std.specs.IoError.{error_kind}
use Rattle.std.specs.declared.io.Error.{Error}
use Rattle.clap.specs.Words.{Text}
use Rattle.arguments.specs.declared.line_fault.LineFault.{LineFault}
use Rattle.arguments.specs.declared.line_fault.LineFault.TheVariants.{Help, Memory, Refused}
use Rattle.streams.specs.Served.{Answered, Serves, TellsUnread, without_memory}
use Rattle.streams.specs.Streams.{Said, Says, Stays, Streams, StreamTakes}

-- what is written if the words give no order: help, with status 0; a line and the reason; or that memory ran
-- out
abbrev pub declined : LineFault → Said
declined (Help text) = record { reply = string_bytes text; status = 0; message = [] }
declined (Refused why) = record { reply = codes "refused: line\n"; status = 2; message = string_bytes why }
declined Memory = without_memory

-- What is due for words that give no order was written.
abbrev pub Declines : LineFault → Streams → Streams → ℕ → Type 0
Declines fault old new result = Says old new (declined fault) result

-- `opens` says what the opening of a file by its name may give, and `remaining` what a file has left; `IsReply` says
-- what is written about the text in a file of this name for an order.
module _ {Order F : Type 0} (opens : Text → Result F Error → Type 0) (remaining : F → Option (List ℕ))
    (IsReply : List ℕ → List ℕ → Order → Said → Type 0) where
  -- The file with this name was opened, and what is due for its contents was written; or it was not opened, and
  -- that was written.
  abbrev pub ServesFile : Text → Order → Streams → Streams → ℕ → Type 0
  ServesFile path order old new result =
      ((file : F) × opens path (Ok file)
      × ((left : Option (List ℕ)) × Serves IsReply path order (remaining file) left old new result))
      ⊎ ((error : Error) × opens path (Err error) × TellsUnread path (error_kind error) old new result)

-- `AskFor` says which order on which file words ask for, and `RefusesWords` which words give none, and why.
module _ {Order F : Type 0} (opens : Text → Result F Error → Type 0) (remaining : F → Option (List ℕ))
    (IsReply : List ℕ → List ℕ → Order → Said → Type 0) (AskFor : List Text → Order → Text → Type 0)
    (RefusesWords : List Text → LineFault → Type 0) where
  -- The words give no order, and the reply says so; or they give one, and a reply is due for the file that they
  -- name.
  abbrev pub RunsWords : List Text → Streams → Streams → ℕ → Type 0
  RunsWords words old new result =
      ((fault : LineFault) × RefusesWords words fault × Declines fault old new result)
      ⊎ ((order : Order) × (path : Text) × AskFor words order path
      × ServesFile opens remaining IsReply path order old new result)

-- `Replies` says which bytes, with which status, are the answer to a text for an order.
module _ {Order F : Type 0} (opens : Text → Result F Error → Type 0) (remaining : F → Option (List ℕ))
    (Replies : List ℕ → Order → List ℕ → ℕ → Type 0) (AskFor : List Text → Order → Text → Type 0)
    (RefusesWords : List Text → LineFault → Type 0) where
  -- The words ask for help, and the standard output took exactly that; or they give an order, and it took exactly the
  -- reply to all bytes of the file that they name. The standard error took nothing.
  abbrev pub AnswersWords : List Text → Streams → Streams → ℕ → Type 0
  AnswersWords words old new result =
      ((fault : LineFault) × RefusesWords words fault × ((declined fault).status ≡ 0) × (result ≡ 0)
      × StreamTakes old.output new.output (declined fault).reply true × Stays old.log new.log)
      ⊎ ((order : Order) × (path : Text) × AskFor words order path
      × ((file : F) × opens path (Ok file)
      × ((left : Option (List ℕ)) × Answered Replies order (remaining file) left old new result)))
