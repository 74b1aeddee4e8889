-- The messages of tables, as messages by numbers.
use Rattle.language.specs.Sequential as sequential
use Rattle.language.specs.Sequential.{starter, caller}
use Rattle.flow_graph.specs.Numbers.{NumberedMessage, numbered_entry, numbered_summary}
use Rattle.summaries.specs.declared.due.Caller.{Caller}
use Rattle.summaries.specs.declared.due.Caller.TheVariants.{Starter, Proc}
use Rattle.summaries.specs.declared.due.Due.{Due}
use Rattle.summaries.specs.declared.due.Due.TheVariants.{Entry}
use Rattle.summaries.specs.Mails.{summary_due}

-- who enters a procedure
abbrev pub caller_of : sequential.Caller → Caller
caller_of starter = Starter
caller_of (caller procedure) = Proc procedure

-- the message with these numbers
abbrev pub due_of : NumberedMessage → Due
due_of (numbered_entry from entry) = Entry (caller_of from) entry
due_of (numbered_summary callee entry exit) = summary_due callee entry exit
