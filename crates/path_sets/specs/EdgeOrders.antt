-- Path edges in order.
use Rattle.std.specs.Prelude.{List, map}
use Rattle.std.specs.Ordering.{nat_cmp, ordering_then}
use Rattle.std.specs.declared.cmp.Ordering.{Ordering}
use Rattle.path_sets.specs.declared.ordered_edges.Edge.{Edge}
use Rattle.path_sets.specs.Triples.{Triple, triple}

-- path edges are ordered by entry, then by point, and then by valuation
abbrev pub edge_cmp : Edge → Edge → Ordering
edge_cmp x y = ordering_then (nat_cmp x.entry y.entry) (ordering_then (nat_cmp x.point y.point) (nat_cmp x.values y.values))

-- a path edge as a triple
abbrev pub triple_of : Edge → Triple
triple_of edge = triple edge.entry edge.point edge.values

-- path edges as triples, in their order
abbrev pub triples_of : List Edge → List Triple
triples_of edges = map triple_of edges
