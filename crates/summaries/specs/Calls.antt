-- Where calls stand, and what they leave.
use Rattle.std.specs.Prelude.{List}
use Rattle.indexmap.specs.IndexMap.{get}
use Rattle.flow_graph.specs.declared.exit.Exit.{Exit}
use Rattle.summaries.specs.declared.edge.PathEdge.{PathEdge}
use Rattle.summaries.specs.declared.edge.CallKey.{CallKey}
use Rattle.summaries.specs.declared.calls.Calls.{Calls}
use Rattle.summaries.specs.Chains.{chain_of}
pub use Rattle.summaries.specs.KnownCalls.{call_eq}
use Rattle.summaries.specs.KnownCalls.{sites_if_any, chain_if_any}

module _ {Alloc : Type 0} where
  -- the sites of a call, in the order of adding
  abbrev pub sites_of : Calls Alloc → CallKey → List PathEdge
  sites_of calls called = sites_if_any (get call_eq calls.by_key called)

  -- what the call leaves, in the order of adding
  abbrev pub summaries_of : Calls Alloc → CallKey → List Exit
  summaries_of calls called = chain_of calls.left.links.items (chain_if_any (get call_eq calls.by_key called))
