-- Faults of the cutting, as faults of the reading.
use Rattle.tokens.specs.declared.cutting.CutFault.{CutFault}
use Rattle.tokens.specs.declared.cutting.CutFault.TheVariants as cut
use Rattle.syntax.specs.declared.fault.ReadFault.{ReadFault}
use Rattle.syntax.specs.declared.fault.ReadFault.TheVariants as fault

-- a fault of the cutting, as a fault of the reading
abbrev pub fault_of : CutFault → ReadFault
fault_of cut.Memory = fault.Memory
fault_of (cut.Syntax at) = fault.Syntax at
