-- What is read from a reader, and what is written about it.
use Rattle.std.specs.Prelude.{◌≡◌, ◌≢◌, ◌⊎◌, ◌+◌, ◌<◌, ◌≤◌, ℕ, true, List, Option, codes, length}
use Rattle.std.specs.Io.KnownBytes.{Consumes, IsAtEnd}
use Rattle.std.specs.declared.io.ErrorKind.{ErrorKind}
use Rattle.std.specs.declared.io.ErrorKind.TheVariants.{OutOfMemory}
use Rattle.tokens.specs.Limits.{most_bytes}
use Rattle.refusals.specs.Explained.{no_memory}
use Rattle.refusals.specs.Lines.{memory_line}
use Rattle.streams.specs.Streams.{Said, Says, Stays, Streams, StreamTakes}
use Rattle.streams.specs.Told.{IsReason}

-- how many bytes are read at most: one more than a text may have
abbrev pub most_read : ℕ
most_read = most_bytes + 1

-- The reader gave these bytes, at most `most`, and all that it had if they are fewer.
pub record Gave (most : ℕ) (old new : Option (List ℕ)) (bytes : List ℕ) : Type 0 where
  pub gave : Consumes old new bytes
  pub few : length bytes ≤ most
  pub end : length bytes < most → IsAtEnd new

-- The reader gave some bytes, fewer than the number given.
abbrev pub GavePart : ℕ → Option (List ℕ) → Option (List ℕ) → Type 0
GavePart most old new = (bytes : List ℕ) × Consumes old new bytes × (length bytes < most)

-- The reader gave these bytes, and they are all that it had.
abbrev pub GaveAll : Option (List ℕ) → Option (List ℕ) → List ℕ → Type 0
GaveAll old new bytes = Consumes old new bytes × IsAtEnd new

-- the line if the file can't be read
abbrev pub file_line : List ℕ
file_line = codes "refused: file\n"

-- what is written if memory ran out
abbrev pub without_memory : Said
without_memory = record { reply = memory_line; status = 3; message = no_memory }

-- This is written about a file that the system, with an error of this kind, does not open or read: that it can't be
-- read, and why; or that memory ran out, if the error says so.
abbrev pub IsUnread : List ℕ → ErrorKind → Said → Type 0
IsUnread path kind said =
    ((kind ≢ OutOfMemory) × (said.reply ≡ file_line) × (said.status ≡ 2) × IsReason path said.message)
    ⊎ ((kind ≡ OutOfMemory) × (said ≡ without_memory))

-- What is due for a file that is not opened or read was written.
pub record TellsUnread (path : List ℕ) (kind : ErrorKind) (old new : Streams) (result : ℕ) : Type 0 where
  pub said : Said
  pub unread : IsUnread path kind said
  pub says : Says old new said result

-- `Order` is what may be asked about a text, and `IsReply` says what is written about the text in a file of this name
-- for an order.
module _ {Order : Type 0} (IsReply : List ℕ → List ℕ → Order → Said → Type 0) where
  -- The reader gave a text, and this is the reply to it; or reading failed, and this says so.
  abbrev pub ReplyIsDue : List ℕ → Order → Option (List ℕ) → Option (List ℕ) → Said → Type 0
  ReplyIsDue path order given left said =
      ((text : List ℕ) × Gave most_read given left text × IsReply path text order said)
      ⊎ (GavePart most_read given left × ((kind : ErrorKind) × IsUnread path kind said))

  -- What is due for what the reader gave was written.
  pub record Serves (path : List ℕ) (order : Order) (given left : Option (List ℕ)) (old new : Streams)
      (result : ℕ) : Type 0 where
    pub said : Said
    pub due : ReplyIsDue path order given left said
    pub says : Says old new said result

-- `Replies` says which bytes, with which status, are the answer to a text for an order.
module _ {Order : Type 0} (Replies : List ℕ → Order → List ℕ → ℕ → Type 0) where
  -- The reader gave all its bytes, and the standard output took exactly the reply to them, and the standard error
  -- nothing.
  pub record Answered (order : Order) (given left : Option (List ℕ)) (old new : Streams) (result : ℕ) : Type 0 where
    pub text : List ℕ
    pub bytes : List ℕ
    pub all : GaveAll given left text
    pub reply : Replies text order bytes result
    pub wrote : StreamTakes old.output new.output bytes true
    pub quiet : Stays old.log new.log
