use Rattle.std.proofs.Common.{Some, ap, sym}
use Rattle.tokens.proofs.words.reserved.Goals as goal

pub returns-in-decl-clause-some : goal.returns-in-decl-clause-some
returns-in-decl-clause-some c = ap Some (sym c.in-decl.is)

pub returns-in-begin-clause-some : goal.returns-in-begin-clause-some
returns-in-begin-clause-some c = ap Some (sym c.in-begin.is)

pub returns-in-end-clause-some : goal.returns-in-end-clause-some
returns-in-end-clause-some c = ap Some (sym c.in-end.is)

pub returns-in-thread-clause-some : goal.returns-in-thread-clause-some
returns-in-thread-clause-some c = ap Some (sym c.in-thread.is)

pub returns-in-skip-clause-some : goal.returns-in-skip-clause-some
returns-in-skip-clause-some c = ap Some (sym c.in-skip.is)

pub returns-in-if-clause-some : goal.returns-in-if-clause-some
returns-in-if-clause-some c = ap Some (sym c.in-if.is)

pub returns-in-then-clause-some : goal.returns-in-then-clause-some
returns-in-then-clause-some c = ap Some (sym c.in-then.is)

pub returns-in-else-clause-some : goal.returns-in-else-clause-some
returns-in-else-clause-some c = ap Some (sym c.in-else.is)

pub returns-in-fi-clause-some : goal.returns-in-fi-clause-some
returns-in-fi-clause-some c = ap Some (sym c.in-fi.is)

pub returns-in-while-clause-some : goal.returns-in-while-clause-some
returns-in-while-clause-some c = ap Some (sym c.in-while.is)

pub returns-in-do-clause-some : goal.returns-in-do-clause-some
returns-in-do-clause-some c = ap Some (sym c.in-do.is)

pub returns-in-od-clause-some : goal.returns-in-od-clause-some
returns-in-od-clause-some c = ap Some (sym c.in-od.is)

pub returns-in-assert-clause-some : goal.returns-in-assert-clause-some
returns-in-assert-clause-some c = ap Some (sym c.in-assert.is)

pub returns-in-assume-clause-some : goal.returns-in-assume-clause-some
returns-in-assume-clause-some c = ap Some (sym c.in-assume.is)

pub returns-in-goto-clause-some : goal.returns-in-goto-clause-some
returns-in-goto-clause-some c = ap Some (sym c.in-goto.is)

pub returns-in-return-clause-some : goal.returns-in-return-clause-some
returns-in-return-clause-some c = ap Some (sym c.in-return.is)

pub returns-in-text-clause-some : goal.returns-in-text-clause-some
returns-in-text-clause-some c = ap Some (sym c.in-text.is)

pub returns-in-text-2-clause-some : goal.returns-in-text-2-clause-some
returns-in-text-2-clause-some c = ap Some (sym c.in-text-2.is)
