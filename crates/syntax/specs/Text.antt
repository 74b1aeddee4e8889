-- The texts of the language, and the faults of other texts.
use Rattle.std.specs.Prelude.{ℕ, ◌<◌, ◌≤◌, ◌⊎◌, List, length}
use Rattle.std.specs.Str.{IsAscii}
use Rattle.language.specs.Tree.{Tree}
use Rattle.tokens.specs.Limits.{most_bytes}
use Rattle.tokens.specs.Token.{Tok}
use Rattle.tokens.specs.Cuts.{Cuts, BadAt}
use Rattle.tokens.specs.Depth.{TooDeep}
use Rattle.syntax.specs.declared.fault.ReadFault.{ReadFault}
use Rattle.syntax.specs.declared.fault.ReadFault.TheVariants as fault
use Rattle.grammar.specs.Grammar.{IsProgram}
use Rattle.syntax.specs.Offsets.{SameButOffsets}

-- The bytes are the text of a program with this tree: they are at most 65,536 and ASCII, they are cut into tokens
-- that are not too deep, and the tokens are a program with this tree by the grammar.
pub record Text (bytes : List ℕ) (tree : Tree) : Type 0 where
  pub within : length bytes ≤ most_bytes
  pub ascii : IsAscii bytes
  pub tokens : List Tok
  pub cut : Cuts 0 bytes tokens
  pub shallow : TooDeep tokens → ⊥
  pub program : IsProgram tokens tree

-- The bytes are cut into tokens that are too deep.
abbrev pub DeepTokens : List ℕ → Type 0
DeepTokens bytes = (tokens : List Tok) × Cuts 0 bytes tokens × TooDeep tokens

-- The bytes are cut into tokens that are not too deep and not a program.
abbrev pub NoProgram : List ℕ → Type 0
NoProgram bytes = (tokens : List Tok) × Cuts 0 bytes tokens × (TooDeep tokens → ⊥) × ((tree : Tree) → IsProgram tokens tree → ⊥)

-- The fault stands, and none that is tested before it: too many bytes; a byte that is not ASCII; a place up to
-- which the bytes are cut into tokens and where no token begins; tokens that are too deep; tokens that are not a
-- program. Lack of memory may come wherever the bytes are not too many and ASCII: those two tests take none.
abbrev pub ReadFaultStands : ReadFault → List ℕ → Type 0
ReadFaultStands fault.TooLong bytes = most_bytes < length bytes
ReadFaultStands fault.NotAscii bytes = (length bytes ≤ most_bytes) × (IsAscii bytes → ⊥)
ReadFaultStands (fault.Syntax at) bytes = (length bytes ≤ most_bytes) × IsAscii bytes × (BadAt 0 bytes at ⊎ NoProgram bytes)
ReadFaultStands fault.TooDeep bytes = (length bytes ≤ most_bytes) × IsAscii bytes × DeepTokens bytes
ReadFaultStands fault.Memory bytes = (length bytes ≤ most_bytes) × IsAscii bytes

-- The faults are tested in the order of these numbers, but whether the tokens are a program is tested last.
abbrev pub fault_number : ReadFault → ℕ
fault_number fault.TooLong = 1
fault_number fault.NotAscii = 2
fault_number (fault.Syntax at) = 3
fault_number fault.TooDeep = 4
fault_number fault.Memory = 5

-- The bytes are within the limits of texts: at most 65,536 (`most_bytes`), and not cut into tokens that are too deep.
pub record WithinLimits (bytes : List ℕ) : Type 0 where
  pub few : length bytes ≤ most_bytes
  pub shallow : DeepTokens bytes → ⊥

-- The bytes are the text of a program with this tree, offsets aside.
abbrev pub IsTextOf : List ℕ → Tree → Type 0
IsTextOf bytes tree = (read : Tree) × Text bytes read × SameButOffsets read tree
