use Rattle.syntax.proofs.Parts.{strict_name}
use Rattle.syntax.proofs.reader.Reader.declaration.Goals as goal

pub listed-requires : goal.listed-requires
listed-requires g c = strict_name
