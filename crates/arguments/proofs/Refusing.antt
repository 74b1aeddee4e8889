-- Why words give no order, by the kind of the error.
use Rattle.std.proofs.Common.{◌≡◌, ◌⊎◌, List, inl, inr}
use Rattle.clap.specs.Words.{App, IsAmong, Text, fault_of}
use Rattle.clap.specs.declared.error.kind.ErrorKind.{ErrorKind}
use Rattle.clap.specs.declared.error.kind.ErrorKind.TheVariants.{OutOfMemory}
use Rattle.arguments.specs.declared.line_fault.LineFault.{LineFault}
use Rattle.arguments.specs.declared.line_fault.LineFault.TheVariants.{Help, Memory, Refused}
use Rattle.arguments.specs.Faults.{IsOfKind, Refuses}

pub refuses : (line : App) (words : List Text) (k : ErrorKind) (why : LineFault) → IsOfKind k why
    → (k ≡ OutOfMemory) ⊎ IsAmong k (fault_of line words) → Refuses line words why
refuses line words k (Help t) h (inl e) = absurd (h.1 e)
refuses line words k (Help t) h (inr m) = (k, m, h.0)
refuses line words k (Refused t) h (inl e) = absurd (h.1 e)
refuses line words k (Refused t) h (inr m) = (k, m, h.0)
refuses line words k Memory h f = tt
