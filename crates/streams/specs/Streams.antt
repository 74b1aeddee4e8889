-- What a stream that is written to holds, and what it takes.
use Rattle.std.specs.Prelude.{◌≡◌, ◌⊎◌, ◌<◌, ℕ, Bool, true, false, IsTrue, List, [], Option, codes, length, take}
use Rattle.std.specs.Io.KnownBytes.{Appends}
use Rattle.streams.specs.Told.{IsReason}

-- what is known of a stream: the bytes that it holds, if they are known, and whether a write to it may have failed
pub record KnownStream : Type 0 where
  pub bytes : Option (List ℕ)
  pub may_have_failed : Bool

-- The stream took all of these bytes and no others; or a write to it may have failed, and it took a part of them that
-- is not the whole.
abbrev pub StreamTakes : KnownStream → KnownStream → List ℕ → Bool → Type 0
StreamTakes old new bytes true = Appends old.bytes new.bytes bytes
StreamTakes old new bytes false =
    IsTrue new.may_have_failed × ((n : ℕ) × (n < length bytes) × Appends old.bytes new.bytes (take n bytes))

-- The stream took all of these bytes, or, if a write to it failed, a part, and no others.
abbrev pub Logs : KnownStream → KnownStream → List ℕ → Type 0
Logs old new bytes = (all : Bool) × StreamTakes old new bytes all

-- The stream holds what it held.
abbrev pub Stays : KnownStream → KnownStream → Type 0
Stays old new = StreamTakes old new [] true

-- the standard output and the standard error
pub record Streams : Type 0 where
  pub output : KnownStream
  pub log : KnownStream

-- the standard output and the standard error, by what each holds
abbrev pub streams : KnownStream → KnownStream → Streams
streams output log = record { output = output; log = log }

-- what is to be written: the reply, its status, and the message about it
pub record Said : Type 0 where
  pub reply : List ℕ
  pub status : ℕ
  pub message : List ℕ

-- The stream took the reason why the standard output did not take all of a reply, or that memory ran out for it.
abbrev pub LogsCut : KnownStream → KnownStream → Type 0
LogsCut old new = (why : List ℕ) × IsReason (codes "standard output") why × Logs old new why

-- The standard output took all of these bytes, the standard error nothing, and the result is their status; or a write
-- failed: the standard output took a part, the standard error the reason, and the result is 3.
abbrev pub Writes : Streams → Streams → List ℕ → ℕ → ℕ → Type 0
Writes old new bytes status result =
    (StreamTakes old.output new.output bytes true × (new.log ≡ old.log) × (result ≡ status))
    ⊎ (StreamTakes old.output new.output bytes false × LogsCut old.log new.log × (result ≡ 3))

-- The standard error took the message, and then the standard output the reply, each once and as a whole, or a part if a
-- write failed; if the standard output took a part, the standard error then took the reason. The result is the status,
-- or 3 if a write of the reply failed.
abbrev pub Says : Streams → Streams → Said → ℕ → Type 0
Says old new said result =
    (told : KnownStream) × Logs old.log told said.message
    × Writes (streams old.output told) new said.reply said.status result
