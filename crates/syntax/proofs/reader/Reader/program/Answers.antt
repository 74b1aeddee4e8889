use Rattle.tokens.specs.Token.{toks_of}
use Rattle.syntax.proofs.Programs.{strict_procedure, strict_thread_line, program_is}
use Rattle.syntax.proofs.reader.Reader.program.Goals as goal

pub repeated-requires : goal.repeated-requires
repeated-requires g c = strict_procedure

pub repeated-requires-2 : goal.repeated-requires-2
repeated-requires-2 g c = strict_thread_line

pub returns : goal.returns
returns g c = record {
  gives = program_is (toks_of c.args.tokens.now) c.in_ok-globals.ensures.gives
      c.in_ok-procs.ensures.gives c.in_ok-threads.ensures.gives;
}
