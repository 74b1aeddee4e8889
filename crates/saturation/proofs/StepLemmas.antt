-- What a call and a return lead to is determined by the graphs.
use Rattle.std.proofs.Common.{◌≡◌, ◌↔◌, ℕ, Some, List, slice_get, refl, sym, ap, ◌∙◌}
use Rattle.std.proofs.lemmas.Option.{same_Some}
use Rattle.flow_graph.specs.Drawn.{flows_of, opening_point, called_procedure, back_of, entered_from, resumed_from}
use Rattle.flow_graph.specs.Flows.{entered_by, resumed_by}
use Rattle.flow_graph.specs.Returns.{left_by}
use Rattle.flow_graph.specs.declared.call.Call as call
use Rattle.flow_graph.specs.declared.flow.Flow.{Flow}
use Rattle.flow_graph.specs.declared.flow.Flow.TheVariants.{Call}
use Rattle.flow_graph.specs.declared.graph.Graph.{Graph}
use Rattle.turns.specs.Numbered.{valuation_at, globals_in, places_in, placed, CallsFrom, ReturnsTo}
use Rattle.turns.specs.declared.numbered_frame.NumberedFrame.{NumberedFrame}

module _ {A : Type 0} (graphs : List (Graph A)) where
  -- the flow at the point of a frame is determined
  pub same_flow : (f : NumberedFrame) (graph graph' : Graph A) (flow flow' : Flow A) → slice_get graphs f.procedure ≡ Some graph
      → slice_get (flows_of graph) f.point ≡ Some flow → slice_get graphs f.procedure ≡ Some graph'
      → slice_get (flows_of graph') f.point ≡ Some flow'
      → (graph ≡ graph') × (flow ≡ flow')
  same_flow f graph graph' flow flow' here at here' at' =
      let same : graph ≡ graph' = same_Some graph graph' (sym here ∙ here') in
      (same, same_Some flow flow' (sym at ∙ ap (λ z. slice_get (flows_of z) f.point) same ∙ at'))

  module _ (g : ℕ) (f : NumberedFrame) (graph called : Graph A) (c : call.Call A) (here : slice_get graphs f.procedure ≡ Some graph)
      (at : slice_get (flows_of graph) f.point ≡ Some (Call c)) (there : slice_get graphs (called_procedure c) ≡ Some called) where
    abbrev entry : ℕ
    entry = entered_from c (valuation_at g f)

    -- the first frame of the call
    abbrev pub first : NumberedFrame
    first = placed (called_procedure c) (opening_point called) (places_in called entry)

    calls_first : (e w : NumberedFrame) → CallsFrom graphs g f e w → (Some first ≡ Some e) × (w ≡ f)
    calls_first e w (graph', flow', here', at', (n, entered, back, called', enters, there', same_e, same_w)) =
        let same_graphs = same_flow f graph graph' (Call c) flow' here at here' at' in
        let parts : (called_procedure c, entry, back_of c) ≡ (n, entered, back) =
        same_Some _ _ (ap (λ z. entered_by z (valuation_at g f)) same_graphs.1 ∙ enters) in
        let same_n : called_procedure c ≡ n = ap (λ (z : ℕ × ℕ × ℕ). z.0) parts in
        let same_entry : entry ≡ entered = ap (λ (z : ℕ × ℕ × ℕ). z.1) parts in
        let same_called : called ≡ called' = same_Some called called' (sym there ∙ ap (slice_get graphs) same_n ∙ there') in
        (ap Some ((λ i. placed (same_n i) (opening_point (same_called i)) (places_in (same_called i) (same_entry i))) ∙ sym same_e), same_w)

    first_called : (e w : NumberedFrame) → (Some first ≡ Some e) × (w ≡ f) → CallsFrom graphs g f e w
    first_called e w (same, same_w) =
        (graph, Call c, here, at, (called_procedure c, entry, back_of c, called, refl, there, sym (same_Some first e same), same_w))

    pub called_is : (e w : NumberedFrame) → CallsFrom graphs g f e w ↔ ((Some first ≡ Some e) × (w ≡ f))
    called_is e w = (calls_first e w, first_called e w)

  module _ (g : ℕ) (f w : NumberedFrame) (own graph : Graph A) (c : call.Call A) (finished : f.point ≡ 0)
      (mine : slice_get graphs f.procedure ≡ Some own) (here : slice_get graphs w.procedure ≡ Some graph)
      (at : slice_get (flows_of graph) w.point ≡ Some (Call c)) where
    abbrev values : ℕ
    values = resumed_from c w.places (left_by own (valuation_at g f))

    -- the globals and the frame with which the caller continues
    abbrev pub after : ℕ × NumberedFrame
    after = (globals_in graph values, placed w.procedure (back_of c) (places_in graph values))

    returns_after : (h : ℕ) (k : NumberedFrame) → ReturnsTo graphs g f w h k → Some after ≡ Some (h, k)
    returns_after h k (own', mine', finished', (graph', flow', here', at', (n, entered, back, enters, same_h, same_k))) =
        let same_own : own ≡ own' = same_Some own own' (sym mine ∙ mine') in
        let same_graphs = same_flow w graph graph' (Call c) flow' here at here' at' in
        let parts : (called_procedure c, entered_from c w.places, back_of c) ≡ (n, entered, back) =
        same_Some _ _ (ap (λ z. entered_by z w.places) same_graphs.1 ∙ enters) in
        let same_back : back_of c ≡ back = ap (λ (z : ℕ × ℕ × ℕ). z.2) parts in
        let same_values : values ≡ resumed_by flow' w.places (left_by own' (valuation_at g f)) =
        (λ i. resumed_by (same_graphs.1 i) w.places (left_by (same_own i) (valuation_at g f))) in
        ap Some
        ((λ i.
        (globals_in (same_graphs.0 i) (same_values i), placed w.procedure (same_back i) (places_in (same_graphs.0 i) (same_values i))))
        ∙ (λ i. (sym same_h i, sym same_k i)))

    after_returned : (h : ℕ) (k : NumberedFrame) → Some after ≡ Some (h, k) → ReturnsTo graphs g f w h k
    after_returned h k same =
        let parts : after ≡ (h, k) = same_Some after (h, k) same in (
          own,
          mine,
          finished,
          (
            graph,
            Call c,
            here,
            at,
            (
              called_procedure c,
              entered_from c w.places,
              back_of c,
              refl,
              sym (ap (λ (z : ℕ × NumberedFrame). z.0) parts),
              sym (ap (λ (z : ℕ × NumberedFrame). z.1) parts),
            ),
          ),
        )

    pub returned_is : (h : ℕ) (k : NumberedFrame) → ReturnsTo graphs g f w h k ↔ (Some after ≡ Some (h, k))
    returned_is h k = (returns_after h k, after_returned h k)
