-- Which refusal a reply reports: one that stands.
use Rattle.std.proofs.Common.{◌≡◌, ◌∙◌, ◌⊎◌, ◌≤◌, ℕ, Bool, List, Option, None, Some, inl, inr}
use Rattle.std.proofs.Common.{ap, refl, sym, arith, codes, get_or}
use Rattle.language.specs.Tree.{Tree}
use Rattle.syntax.specs.Text.{Text}
use Rattle.syntax.specs.declared.fault.ReadFault.TheVariants as read
use Rattle.checked.specs.Checked.{IsFirstFault}
use Rattle.checked.specs.declared.fault.ScopeFault.{ScopeFault}
use Rattle.checked.specs.declared.fault.ScopeFault.TheVariants as scope
use Rattle.refusals.specs.Lines.{NamesOffset, line_of, status_of}
use Rattle.cli.specs.Refused.{HasPlace, HasRewriting, IsPast, IsPastAt, RefusalStands}
use Rattle.cli.specs.Replies.{IsSequential, RefusesFor, TellsOrLacks}
use Rattle.cli.specs.Rewritten.{IsRewriting}
use Rattle.cli.specs.Verdict.{Answers}
use Rattle.streams.specs.Written.{bytes_of}
use Rattle.refusals.specs.declared.refusal.Refusal.{Refusal}
use Rattle.refusals.specs.declared.refusal.Refusal.TheVariants.{EdgeLimit, Memory, NoWorker, Spent, Unchecked, Unread}
use Rattle.streams.specs.declared.reply.Reply.{Reply}

-- a fault of scopes that is not lack of memory has its place
fault_place : (text : List ℕ) (fault : ScopeFault) → NamesOffset (Unchecked fault)
    → (t : Tree) × Text text t × ((fault ≡ scope.Memory) ⊎ IsFirstFault t fault) → HasPlace text
fault_place text scope.Memory names stands = absurd names
fault_place text fault names (t, of, inr first) = inr (t, fault, of, first)
fault_place text _ names (t, of, inl e) = cc

-- a refusal whose line names an offset has its place
has_place : (text : List ℕ) (rounds : ℕ) (limit : Option ℕ) (why : Refusal) → NamesOffset why
    → RefusalStands text rounds limit why → HasPlace text
has_place text rounds limit (Unread (read.Syntax at)) names stands = inl (at, stands)
has_place text rounds limit (Unread fault) names stands = absurd names
has_place text rounds limit (Unchecked fault) names stands = fault_place text fault names stands
has_place text rounds limit _ names stands = absurd names

-- what is reported if a refusal stands is a refusal that stands
pub refuses : {A : Type 0} (text : List ℕ) (rounds : ℕ) (limit : Option ℕ) (why : Refusal) (reply : Reply Refusal A)
    → RefusalStands text rounds limit why → TellsOrLacks why reply → RefusesFor text rounds limit reply
refuses text rounds limit why reply stands (inl told) = (why, stands, told)
refuses text rounds limit why reply stands (inr lacks) =
    (Memory, inr (has_place text rounds limit why lacks.0 stands), lacks.1)

-- an answer has a status of at most 1
pub answers_few : (text : List ℕ) (rounds edges : ℕ) (stats : Bool) (bytes : List ℕ) (status : ℕ)
    → Answers text rounds edges stats bytes status → status ≤ 1
answers_few text rounds edges stats bytes status (t, of, checked, within, (lines, follows, inl (b, e, bad))) =
    omega (arith, e)
answers_few text rounds edges stats bytes status (t, of, checked, within, (lines, follows, inr (b, e, good))) =
    omega (arith, e)

-- and so has what is rewritten
pub rewriting_few : (text : List ℕ) (rounds : ℕ) (bytes : List ℕ) (status : ℕ)
    → (status ≡ 0) × IsSequential text rounds bytes → status ≤ 1
rewriting_few text rounds bytes status (e, is) = omega (arith, e)

-- a reply with a greater status gives the reason
pub tells_many : {A : Type 0} (text : List ℕ) (rounds : ℕ) (limit : Option ℕ) (reply : Reply Refusal A) (V : Type 0)
    → (V → reply.status ≤ 1) → V × (reply.refusal ≡ None) ⊎ RefusesFor text rounds limit reply → 2 ≤ reply.status
    → RefusesFor text rounds limit reply
tells_many text rounds limit reply V few (inl v) many = let least = few v.0 in absurd (omega (arith, least, many))
tells_many text rounds limit reply V few (inr why) many = why

-- the status of a refusal is at least 2
pub status_many : (why : Refusal) → 2 ≤ status_of why
status_many (Unread read.Memory) = omega arith
status_many (Unchecked scope.Memory) = omega arith
status_many _ = omega arith

-- a reply with a smaller status gives no reason
pub tells_none : {A : Type 0} (text : List ℕ) (rounds : ℕ) (limit : Option ℕ) (reply : Reply Refusal A) (V : Type 0)
    → V × (reply.refusal ≡ None) ⊎ RefusesFor text rounds limit reply → reply.status ≤ 1 → reply.refusal ≡ None
tells_none text rounds limit reply V (inl v) few = v.1
tells_none text rounds limit reply V (inr (why, stands, told)) few =
    let least = status_many why in
    let same = told.1 in
    absurd (omega (arith, least, same, few))

abbrev edge_line : List ℕ
edge_line = codes "no verdict: edge limit\n"

-- a line of a refused text is another one: it begins with another byte
refused : (xs : List ℕ) → get_or xs 0 0 ≡ 114 → xs ≡ edge_line → ⊥
refused xs is e = let same : 114 ≡ 110 = sym is ∙ ap (λ l. get_or l 0 0) e in absurd (omega (arith, same))

-- and so is one that says something else after the same words
other : (xs : List ℕ) (x : ℕ) → get_or xs 12 0 ≡ x → (x ≡ 101 → ⊥) → xs ≡ edge_line → ⊥
other xs x is not_e e = not_e (sym is ∙ ap (λ l. get_or l 12 0) e)

-- a limit that a procedure at a place has passed is passed
past_there : (text : List ℕ) (rounds : ℕ) (limit at : Option ℕ) → IsPastAt text rounds limit at → IsPast text rounds limit
past_there text rounds None at never = never
past_there text rounds (Some edges) at (t, of, checked, (q, more, named)) = (t, of, checked, (q, more))

-- if the line is that of the edge limit, it is passed
past_by : (text : List ℕ) (rounds : ℕ) (limit : Option ℕ) (why : Refusal) → RefusalStands text rounds limit why
    → line_of why ≡ edge_line → IsPast text rounds limit
past_by text rounds limit (EdgeLimit at) stands e = past_there text rounds limit at stands
past_by text rounds limit (Unread read.Memory) stands e = absurd (other _ 109 refl (λ same. omega (arith, same)) e)
past_by text rounds limit (Unchecked scope.Memory) stands e = absurd (other _ 109 refl (λ same. omega (arith, same)) e)
past_by text rounds limit Memory stands e = absurd (other _ 109 refl (λ same. omega (arith, same)) e)
past_by text rounds limit NoWorker stands e = absurd (other _ 110 refl (λ same. omega (arith, same)) e)
past_by text rounds limit Spent stands e = absurd (other _ 115 refl (λ same. omega (arith, same)) e)
past_by text rounds limit _ stands e = absurd (refused _ refl e)

pub is_past : {A : Type 0} (text : List ℕ) (rounds : ℕ) (limit : Option ℕ) (reply : Reply Refusal A)
    → RefusesFor text rounds limit reply → bytes_of reply ≡ edge_line → IsPast text rounds limit
is_past text rounds limit reply (why, stands, told) e = past_by text rounds limit why stands (sym told.0 ∙ e)
