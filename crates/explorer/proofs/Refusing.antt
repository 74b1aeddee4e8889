-- Which refusal a reply reports: one that stands.
use Rattle.std.proofs.Common.{◌≡◌, ◌⊎◌, ◌≤◌, ◌++◌, ℕ, Bool, List, None, inl, inr, arith, subst, sym}
use Rattle.language.specs.Tree.{Tree}
use Rattle.syntax.specs.Text.{Text}
use Rattle.syntax.specs.declared.fault.ReadFault.TheVariants as read
use Rattle.checked.specs.Checked.{IsFirstFault}
use Rattle.checked.specs.declared.fault.ScopeFault.{ScopeFault}
use Rattle.checked.specs.declared.fault.ScopeFault.TheVariants as scope
use Rattle.exploration.specs.Reports.{IsCause}
use Rattle.exploration.specs.declared.report.Answer.{Answer}
use Rattle.exploration.specs.declared.report.Answer.TheVariants.{Safe, Unsafe}
use Rattle.exploration.specs.declared.report.NoVerdict.{NoVerdict}
use Rattle.exploration.specs.declared.report.NoVerdict.TheVariants as cause
use Rattle.exploration.specs.declared.report.Report.{Report}
use Rattle.explorer.specs.Lines.{NamesOffset, answer_line, answer_status, line_behind}
use Rattle.explorer.specs.Refused.{HasPlace, IsProgramOf, IsToldAs, RefusalStands}
use Rattle.streams.specs.Written.{bytes_of}
use Rattle.explorer.specs.Replies.{Refuses, Reports, TellsOrLacks, TellsRefusal}
use Rattle.explore_line.specs.declared.asked.Order.{Order}
use Rattle.explorer.specs.declared.refusal.Refusal.{Refusal}
use Rattle.explorer.specs.declared.refusal.Refusal.TheVariants.{Unread, Unchecked, Memory}
use Rattle.streams.specs.declared.reply.Reply.{Reply}

-- a fault of scopes that is not lack of memory has its place
fault_place : (text : List ℕ) (fault : ScopeFault) → NamesOffset (Unchecked fault)
    → (t : Tree) × Text text t × ((fault ≡ scope.Memory) ⊎ IsFirstFault t fault) → HasPlace text
fault_place text scope.Memory names stands = absurd names
fault_place text fault names (t, of, inr first) = inr (t, fault, of, first)
fault_place text _ names (t, of, inl e) = cc

-- a refusal whose line names an offset has its place
has_place : (text : List ℕ) (why : Refusal) → NamesOffset why → RefusalStands text why → HasPlace text
has_place text (Unread (read.Syntax at)) names stands = inl (at, stands)
has_place text (Unread fault) names stands = absurd names
has_place text (Unchecked fault) names stands = fault_place text fault names stands
has_place text _ names stands = absurd names

-- what is reported if a refusal stands is a refusal that stands
pub refuses : {A : Type 0} (text : List ℕ) (order : Order) (why : Refusal) (reply : Reply Refusal A) → RefusalStands text why
    → TellsOrLacks why reply → Refuses text order reply
refuses text order why reply stands (inl told) = (why, stands, told)
refuses text order why reply stands (inr lacks) = (Memory, inr (has_place text why lacks.0 stands), lacks.1)

-- a cause that holds is told as a refusal that stands
pub told_stands : (text : List ℕ) (t : Tree) (cause : NoVerdict) (why : Refusal) → IsProgramOf text t → IsCause t cause
    → IsToldAs t cause why → RefusalStands text why
told_stands text t cause.TooWide why of is (wide, same, first) = subst (RefusalStands text) (sym same) (t, of, first)
told_stands text t cause.Memory why of is same = subst (RefusalStands text) (sym same) (inl (t, of, is))
told_stands text t (cause.Limit rounds) why of is same = subst (RefusalStands text) (sym same) (t, of, is.0, is.1)

-- the status of an answer is at most 1
few : (answer : Answer) → answer_status answer ≤ 1
few Safe = omega arith
few Unsafe = omega arith

-- what a reply to a report is
abbrev pub IsReported : {A : Type 0} → Report → Bool → Reply Refusal A → Type 0
IsReported report stats reply =
    (bytes_of reply ≡ answer_line report.answer ++ line_behind stats report) × (reply.status ≡ answer_status report.answer)
    × (reply.refusal ≡ None)

-- a reply to a report with a greater status says that memory ran out
pub reported_refuses : {A : Type 0} (text : List ℕ) (order : Order) (report : Report) (reply : Reply Refusal A) (P : Type 0)
    → Reports text order report → IsReported report order.stats reply ⊎ P × TellsRefusal Memory reply
    → 2 ≤ reply.status → Refuses text order reply
reported_refuses text order report reply P is (inl told) many =
    let least = few report.answer in
    let same = told.1 in
    absurd (omega (arith, least, same, many))
reported_refuses text order report reply P is (inr lacks) many = (Memory, inl (is.tree, is.of, is.narrow), lacks.1)
