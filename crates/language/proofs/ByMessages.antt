-- What is reached begins with an entry, is at a rest of the procedure's body, and stays reached by more messages.
use Rattle.std.proofs.Common.{ℕ, slice_get}
use Rattle.language.specs.Tree.{done}
use Rattle.language.specs.Rest.{Code}
use Rattle.language.specs.Step.{Program, body_of}
use Rattle.language.specs.Sequential.{Valuation, Caller, caller, Message, entry, summary}
use Rattle.language.specs.Flow.{after_first}
use Rattle.language.specs.Messages.{Reached, starts, flows, returns, Owes, asks, tells}
use Rattle.language.proofs.RestMembers.{rest_follows}
use Rattle.language.proofs.Standing.{Stands, whole_stands, flow_stands}
use Rattle.language.proofs.Entering.{call_shape, call_follows}

-- what is reached from a valuation has an entry with it
pub reached_entry : (p : Program) (q : ℕ) (M : Message → Type 0) (a v : Valuation) (r : Code) → Reached p q M a v r
    → (from : Caller) × M (entry from a)
reached_entry p q M _ _ _ (starts from a is) = (from, is)
reached_entry p q M _ _ _ (flows a v v' r r' reached flow) = reached_entry p q M a v r reached
reached_entry p q M _ _ _ (returns a v e r s b reached calls is) = reached_entry p q M a v r reached

-- what is left to run where something is reached can be left of the procedure's body
pub reached_stands : (p : Program) (q : ℕ) (M : Message → Type 0) (a v : Valuation) (r : Code) → Reached p q M a v r → Stands p q r
reached_stands p q M _ _ _ (starts from a is) = whole_stands (body_of (slice_get p.routines q))
reached_stands p q M _ _ _ (flows a v v' r r' reached flow) = flow_stands p q v v' r r' (reached_stands p q M a v r reached) flow
reached_stands p q M _ _ _ (returns a v e r s b reached calls is) =
    let (es, is, h) = call_shape p v.globals v.places r s e calls in
    rest_follows (body_of (slice_get p.routines q)) r (after_first r) (reached_stands p q M a v r reached) (call_follows r s es is)

pub reached_more : (p : Program) (q : ℕ) (M N : Message → Type 0) → ((m : Message) → M m → N m) → (a v : Valuation) (r : Code) →
    Reached p q M a v r → Reached p q N a v r
reached_more p q M N more _ _ _ (starts from a is) = starts from a (more (entry from a) is)
reached_more p q M N more _ _ _ (flows a v v' r r' reached flow) = flows a v v' r r' (reached_more p q M N more a v r reached) flow
reached_more p q M N more _ _ _ (returns a v e r s b reached calls is) =
    returns a v e r s b (reached_more p q M N more a v r reached) calls (more (summary s e b) is)

pub owed_more : (p : Program) (q : ℕ) (M N : Message → Type 0) → ((m : Message) → M m → N m) → (s : ℕ) (m : Message) → Owes p q M s m
    → Owes p q N s m
owed_more p q M N more _ _ (asks a v e r s reached calls) = asks a v e r s (reached_more p q M N more a v r reached) calls
owed_more p q M N more _ _ (tells a v s is reached) =
    tells a v s (more (entry (caller s) a) is) (reached_more p q M N more a v done reached)
