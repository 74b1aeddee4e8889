-- What standard error says about a file or a stream.
use Rattle.std.specs.Prelude.{◌≡◌, ◌⊎◌, ℕ, List, [], ◌++◌, bytes_eq, codes, if◌then◌else◌}
use Rattle.diagnostics.specs.Name.{escaped}
use Rattle.refusals.specs.Explained.{no_memory}
use Rattle.streams.specs.declared.saying.TheConstants.{STDIN}

-- what helps if a file of this name cannot be read, which is so of `-` alone
abbrev pub file_hint : List ℕ → List ℕ
file_hint path = if bytes_eq path (codes "-") then STDIN.now else []

-- The message is the name of the file, with an escape for each control character, the system's words after it, and what
-- helps; or it says that memory ran out for it.
abbrev pub IsReason : List ℕ → List ℕ → Type 0
IsReason path message =
    ((words : List ℕ) × (message ≡ escaped path ++ (codes ": " ++ (words ++ (codes "\n" ++ file_hint path)))))
    ⊎ (message ≡ no_memory)
