-- Why words give no order.
use Rattle.std.specs.Prelude.{◌≡◌, ◌≢◌, ◌⊎◌, ⊤, List}
use Rattle.clap.specs.Words.{App, IsAmong, Text, fault_of}
use Rattle.clap.specs.declared.error.kind.ErrorKind.{ErrorKind}
use Rattle.clap.specs.declared.error.kind.ErrorKind.TheVariants as kind
use Rattle.arguments.specs.declared.line_fault.LineFault.{LineFault}
use Rattle.arguments.specs.declared.line_fault.LineFault.TheVariants.{Help, Memory, Refused}

-- An error of this kind only shows help or the version.
abbrev pub IsShown : ErrorKind → Type 0
IsShown error_kind = (error_kind ≡ kind.DisplayHelp) ⊎ (error_kind ≡ kind.DisplayVersion)

-- An error of this kind is the fault.
abbrev pub IsOfKind : ErrorKind → LineFault → Type 0
IsOfKind error_kind (Help text) = IsShown error_kind × (error_kind ≢ kind.OutOfMemory)
IsOfKind error_kind (Refused text) = ¬ IsShown error_kind × (error_kind ≢ kind.OutOfMemory)
IsOfKind error_kind Memory = ⊤

-- This command line does not accept the words: they ask for help or for the version, or have another fault. Memory may
-- run out for any words.
abbrev pub Refuses : App → List Text → LineFault → Type 0
Refuses line words (Help text) = (k : ErrorKind) × IsAmong k (fault_of line words) × IsShown k
Refuses line words (Refused text) = (k : ErrorKind) × IsAmong k (fault_of line words) × ¬ IsShown k
Refuses line words Memory = ⊤
