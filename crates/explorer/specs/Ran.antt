-- What the program does for the words of its command line.
use Rattle.std.specs.Prelude.{ℕ, List, Option, Result}
use Rattle.std.specs.declared.io.Error.{Error}
use Rattle.clap.specs.Words.{Text}
use Rattle.explore_line.specs.Line as line
use Rattle.explore_line.specs.declared.asked.Order.{Order}
use Rattle.streams.specs.Ran as ran
use Rattle.streams.specs.Streams.{Streams}
use Rattle.explorer.specs.Replies.{Replies}
use Rattle.explorer.specs.Served.{IsReply}

-- `opens` says what the opening of a file by its name may give, and `remaining` what a file has left.
module _ {F : Type 0} (opens : List ℕ → Result F Error → Type 0) (remaining : F → Option (List ℕ)) where
  -- The file with this name was opened, and what is due for its contents was written; or it was not opened, and
  -- that was written.
  abbrev pub ServesFile : Text → Order → Streams → Streams → ℕ → Type 0
  ServesFile path order old new result = ran.ServesFile opens remaining IsReply path order old new result

  -- The words give no order, and the reply says so; or they give one, and a reply is due for the file that they
  -- name.
  abbrev pub RunsWords : List Text → Streams → Streams → ℕ → Type 0
  RunsWords words old new result = ran.RunsWords opens remaining IsReply line.AskFor line.RefusesWords words old new result

  -- The words ask for help, and the standard output took exactly that; or they give an order, and it took exactly the
  -- reply to all bytes of the file that they name. The standard error took nothing.
  abbrev pub AnswersWords : List Text → Streams → Streams → ℕ → Type 0
  AnswersWords words old new result =
      ran.AnswersWords opens remaining Replies line.AskFor line.RefusesWords words old new result
