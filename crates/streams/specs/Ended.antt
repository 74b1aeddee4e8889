-- What a program does, started by the system.
use Rattle.std.specs.Prelude.{◌≡◌, ◌≢◌, ◌⊎◌, ℕ, List, Result, Ok, Err, codes}
use Rattle.std.specs.IoError.{error_kind}
use Rattle.std.specs.declared.io.Error.{Error}
use Rattle.std.specs.declared.io.ErrorKind.{ErrorKind}
use Rattle.std.specs.declared.io.ErrorKind.TheVariants.{InvalidData}
use Rattle.clap.specs.Words.{Text}
use Rattle.streams.specs.Served.{without_memory}
use Rattle.streams.specs.Streams.{Said, Says, Streams}

-- what is written about a word that is not a text
abbrev pub no_utf8 : Said
no_utf8 =
    record { reply = codes "refused: line\n"; status = 2; message = codes "error: a word of the command line is no UTF-8\n" }

-- This is written about words that the system, with an error of this kind, does not pass on: that one is not a text, if
-- the error says so, and otherwise that memory ran out.
abbrev pub AreUnread : ErrorKind → Said → Type 0
AreUnread kind said = ((kind ≡ InvalidData) × (said ≡ no_utf8)) ⊎ ((kind ≢ InvalidData) × (said ≡ without_memory))

-- What is due for words that were not passed on was written.
pub record TellsNotPassed (kind : ErrorKind) (old new : Streams) (result : ℕ) : Type 0 where
  pub said : Said
  pub unread : AreUnread kind said
  pub says : Says old new said result

-- `gives` says which words the system may pass on, and `text_of` what they are.
module _ {V : Type 0} (gives : Result V Error → Type 0) (text_of : V → List Text) where
  -- What the words that were passed on ask for was done, as `runs` says of words; or none were passed on, and that was
  -- reported.
  abbrev pub ProgramEnds : (List Text → Streams → Streams → ℕ → Type 0) → Streams → Streams → ℕ → Type 0
  ProgramEnds runs old new result =
      ((words : V) × gives (Ok words) × runs (text_of words) old new result)
      ⊎ ((error : Error) × gives (Err error) × TellsNotPassed (error_kind error) old new result)

  -- Words were passed on, and what they ask for was answered, as `answers` says of words.
  abbrev pub EndsAnswered : (List Text → Streams → Streams → ℕ → Type 0) → Streams → Streams → ℕ → Type 0
  EndsAnswered answers old new result = (words : V) × gives (Ok words) × answers (text_of words) old new result
