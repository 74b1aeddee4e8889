-- What is written about a text that is read from a reader.
use Rattle.std.specs.Prelude.{ℕ, List, Option}
use Rattle.orders.specs.declared.order.Order.{Order}
use Rattle.refusals.specs.Explained.{Explains}
use Rattle.refusals.specs.Lines.{line_of, status_of}
use Rattle.streams.specs.Replied as replied
use Rattle.streams.specs.Served as served
use Rattle.streams.specs.Streams.{Said, Streams}
use Rattle.cli.specs.Replies.{Replies, Stands}

-- This is written about a text in the file with this name: what was asked for, and no message; or the line of a
-- refusal that stands, with its status, and the reason.
abbrev pub IsReply : List ℕ → List ℕ → Order → Said → Type 0
IsReply path text order said = replied.IsReply Explains Replies Stands line_of status_of path text order said

-- The reader gave a text, and this is the reply to it; or reading failed, and this says so.
abbrev pub ReplyIsDue : List ℕ → Order → Option (List ℕ) → Option (List ℕ) → Said → Type 0
ReplyIsDue path order given left said = served.ReplyIsDue IsReply path order given left said

-- What is due for what the reader gave was written.
abbrev pub Serves : List ℕ → Order → Option (List ℕ) → Option (List ℕ) → Streams → Streams → ℕ → Type 0
Serves path order given left old new result = served.Serves IsReply path order given left old new result

-- The reader gave all its bytes, and the standard output took exactly the reply to them, and the standard error
-- nothing.
abbrev pub Answered : Order → Option (List ℕ) → Option (List ℕ) → Streams → Streams → ℕ → Type 0
Answered order given left old new result = served.Answered Replies order given left old new result
