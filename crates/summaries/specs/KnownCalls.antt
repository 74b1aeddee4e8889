-- What is known of a call.
use Rattle.std.specs.Prelude.{◌&&◌, ℕ, Bool, List, [], Option, None, Some, nat_eq}
use Rattle.summaries.specs.declared.edge.PathEdge.{PathEdge}
use Rattle.summaries.specs.declared.edge.CallKey.{CallKey}
use Rattle.summaries.specs.declared.calls.KnownCall.{KnownCall}
use Rattle.groups.specs.Under.{values_in}

-- whether two calls are the same
abbrev pub call_eq : CallKey → CallKey → Bool
call_eq x y = nat_eq x.callee y.callee && nat_eq x.entered y.entered

module _ {Alloc : Type 0} where
  -- the sites of a call, by what is known of it, if anything is
  abbrev pub sites_if_any : Option (KnownCall Alloc) → List PathEdge
  sites_if_any None = []
  sites_if_any (Some known) = values_in known.sites

  -- the same of the chain of what it leaves
  abbrev pub chain_if_any : Option (KnownCall Alloc) → ℕ
  chain_if_any None = 0
  chain_if_any (Some known) = known.chain
