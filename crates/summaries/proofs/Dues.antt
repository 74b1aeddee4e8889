-- Messages by numbers are determined by what tables call them.
use Rattle.std.proofs.Common.{◌≡◌, ℕ, refl, sym, ap, ◌∙◌, subst}
use Rattle.language.specs.Sequential as sequential
use Rattle.language.specs.Sequential.{starter, caller}
use Rattle.flow_graph.specs.Numbers.{NumberedMessage, numbered_entry, numbered_summary}
use Rattle.flow_graph.specs.declared.exit.Exit.{Exit}
use Rattle.summaries.specs.declared.due.Caller.{Caller}
use Rattle.summaries.specs.declared.due.Caller.TheVariants.{Starter, Proc}
use Rattle.summaries.specs.declared.due.Due.{Due}
use Rattle.summaries.specs.declared.due.Due.TheVariants.{Entry, Summary}
use Rattle.summaries.specs.declared.edge.CallKey.{CallKey}
use Rattle.summaries.specs.Mails.{summary_due}
use Rattle.summaries.specs.Dues.{caller_of, due_of}
use Rattle.summaries.specs.Found.{call, left}

-- the caller by number
abbrev pub who : Caller → sequential.Caller
who Starter = starter
who (Proc q) = caller q

pub who_is : (from : Caller) → caller_of (who from) ≡ from
who_is Starter = refl
who_is (Proc q) = refl

is_who : (from : sequential.Caller) → from ≡ who (caller_of from)
is_who starter = refl
is_who (caller q) = refl

-- the message by numbers
abbrev pub message_of : Due → NumberedMessage
message_of (Entry from a) = numbered_entry (who from) a
message_of (Summary s r a b) = numbered_summary s a (left b r)

is_message : (k : NumberedMessage) → k ≡ message_of (due_of k)
is_message (numbered_entry from a) = ap (λ c. numbered_entry c a) (is_who from)
is_message (numbered_summary s a b) = refl

-- what a table calls a message determines it
pub due_told : (k : NumberedMessage) (d : Due) → due_of k ≡ d → k ≡ message_of d
due_told k d e = is_message k ∙ ap message_of e

-- who enters a procedure, or the one given
caller_in : Caller → Due → Caller
caller_in c (Entry from a) = from
caller_in c (Summary s r a b) = c

-- the valuation on entry
entry_in : Due → ℕ
entry_in (Entry from a) = a
entry_in (Summary s r a b) = a

-- what was called, or the one given
call_in : CallKey → Due → CallKey
call_in k (Entry from a) = k
call_in k (Summary s r a b) = call s a

-- what it left, or what is given
left_in : Exit → Due → Exit
left_in e (Entry from a) = e
left_in e (Summary s r a b) = left b r

IsSummary : Due → Type 0
IsSummary (Entry from a) = ⊥
IsSummary (Summary s r a b) = Unit {0}

-- the parts of messages that are the same are
pub same_entry : (from to : Caller) (a b : ℕ) → Entry from a ≡ Entry to b → (to ≡ from) × (b ≡ a)
unfolding caller_in entry_in
same_entry from to a b e = (sym (ap (caller_in from) e), sym (ap entry_in e))

pub same_summary : (s p a x : ℕ) (b y : Exit) → summary_due s a b ≡ summary_due p x y → (call p x ≡ call s a) × (y ≡ b)
unfolding call_in left_in
same_summary s p a x b y e = (sym (ap (call_in (call s a)) e), sym (ap (left_in b) e))

-- an entry is not a summary
pub apart : (from : Caller) (s a x : ℕ) (b : Exit) → Entry from a ≡ summary_due s x b → ⊥
unfolding IsSummary
apart from s a x b e = subst IsSummary (sym e) tt
