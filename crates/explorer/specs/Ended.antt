-- What the program does, started by the system.
use Rattle.std.specs.Prelude.{ℕ, List, Option, Result}
use Rattle.std.specs.declared.io.Error.{Error}
use Rattle.clap.specs.Words.{Text}
use Rattle.streams.specs.Ended as ended
use Rattle.streams.specs.Streams.{Streams}
use Rattle.explorer.specs.Ran.{AnswersWords, RunsWords}

-- `gives` says which words the system may pass on, and `text_of` what they are; `opens` what the opening of a file by
-- its name may give, and `remaining` what a file has left.
module _ {V F : Type 0} (gives : Result V Error → Type 0) (text_of : V → List Text)
    (opens : Text → Result F Error → Type 0) (remaining : F → Option (List ℕ)) where
  -- What the words that were passed on ask for was done; or none were passed on, and that was reported.
  abbrev pub ProgramEnds : Streams → Streams → ℕ → Type 0
  ProgramEnds old new result = ended.ProgramEnds gives text_of (RunsWords opens remaining) old new result

  -- Words were passed on, and what they ask for was answered.
  abbrev pub EndsAnswered : Streams → Streams → ℕ → Type 0
  EndsAnswered old new result = ended.EndsAnswered gives text_of (AnswersWords opens remaining) old new result
