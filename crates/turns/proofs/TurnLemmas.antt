-- What a turn finds is what it can end with.
use Rattle.std.proofs.Common.{◌↔◌, List, [], ◌∷◌}
use Rattle.turns.specs.Machines as machine
use Rattle.turns.specs.Machines.{Machine, Step, Runs, no_step, one_more}
use Rattle.turns.specs.Stacks.{Nodes, InNode}
use Rattle.turns.specs.Turn.{Below, old, call, Item, head, caller, gone, Found, starts, is_gone, moves, enters, stays}
use Rattle.turns.specs.Turn.{returns, comes_out, goes, LiesBelow, IsStackOf, TurnEnds}
use Rattle.turns.proofs.RunLemmas.{runs_then, runs_over}

module _ {Name Globals Frame : Type 0} (m : Machine Globals Frame) (nodes : Nodes Name Frame) (g0 : Globals) (start : Name) where
  abbrev Is : Item Name Globals Frame → Type 0
  Is item = Found m nodes g0 start item

  -- a turn can lead to these globals and this stack
  abbrev Ends : Globals → List Frame → Type 0
  Ends g stack = TurnEnds m nodes g0 start g stack

  -- a run inside the call, or a turn, leads to the frame on top
  abbrev LeadsTo : Below Name Globals Frame → Globals → Frame → Type 0
  LeadsTo (old q) g f = (fs : List Frame) → InNode nodes q fs → Ends g (f ∷ fs)
  LeadsTo (call h e) g f = Runs m h (e ∷ []) g (f ∷ [])

  -- what is found is true
  abbrev IsTrue : Item Name Globals Frame → Type 0
  IsTrue (head g f b) = LeadsTo b g f
  IsTrue (caller g e w b) = (f : Frame) × LeadsTo b g f × m.Calls g f e w
  IsTrue (gone g) = Ends g []

  ends_step : (g h : Globals) (stack stack' : List Frame) → Ends g stack → Step m g stack h stack' → Ends h stack'
  ends_step g h stack stack' (s, is, run) step = (s, is, one_more g0 s g stack h stack' run step)

  -- a run to a call, the call, the run inside it, and the return
  through : (x : Globals) (s : List Frame) (g : Globals) (f e w : Frame) (i : Globals) (f' : Frame) (h : Globals) (k : Frame)
      (fs : List Frame)
      → Runs m x s g (f ∷ fs) → m.Calls g f e w → Runs m g (e ∷ []) i (f' ∷ []) → m.Returns i f' w h k → Runs m x s h (k ∷ fs)
  through x s g f e w i f' h k fs run is inside back =
      let here : Runs m x s g (e ∷ w ∷ fs) = one_more x s g (f ∷ fs) g (e ∷ w ∷ fs) run (machine.calls g f e w fs is) in
      let there : Runs m x s i (f' ∷ w ∷ fs) = runs_then m x g i s (e ∷ w ∷ fs) (f' ∷ w ∷ fs) here
      (runs_over m (w ∷ fs) g i (e ∷ []) (f' ∷ []) tt inside) in
      one_more x s i (f' ∷ w ∷ fs) h (k ∷ fs) there (machine.returns i f' w h k fs back)

  move_on : (b : Below Name Globals Frame) (g h : Globals) (f f' : Frame) → LeadsTo b g f → m.Moves g f h f' → LeadsTo b h f'
  move_on (old q) g h f f' leads is = λ fs in_node. ends_step g h (f ∷ fs) (f' ∷ fs) (leads fs in_node) (machine.moves g f h f' fs is)
  move_on (call i e) g h f f' leads is = one_more i (e ∷ []) g (f ∷ []) h (f' ∷ []) leads (machine.moves g f h f' [] is)

  return_on : (b : Below Name Globals Frame) (g : Globals) (e : Frame) (i : Globals) (f' w : Frame) (h : Globals) (k : Frame)
      → LeadsTo (call g e) i f' → IsTrue (caller g e w b) → m.Returns i f' w h k → LeadsTo b h k
  return_on (old q) g e i f' w h k inside (f, leads, is) back = λ fs in_node.
      let (s, in_start, run) = leads fs in_node in
      (s, in_start, through g0 s g f e w i f' h k fs run is inside back)
  return_on (call j d) g e i f' w h k inside (f, leads, is) back = through j (d ∷ []) g f e w i f' h k [] leads is inside back

  -- all that is found is true
  found_true : (item : Item Name Globals Frame) → Is item → IsTrue item
  found_true _ (starts f q has) = λ fs is. (f ∷ fs, (q, has, is), no_step g0 (f ∷ fs))
  found_true _ (is_gone bare) = ([], bare, no_step g0 [])
  found_true _ (moves g f h f' b found is) = move_on b g h f f' (found_true _ found) is
  found_true _ (enters g f e w b found is) = no_step g (e ∷ [])
  found_true _ (stays g f e w b found is) = (f, found_true _ found, is)
  found_true _ (returns g e i f w b h f' found waits is) = return_on b g e i f w h f' (found_true _ found) (found_true _ waits) is
  found_true _ (comes_out g f q w r h f' found has is) = λ fs in_node.
      ends_step g h (f ∷ w ∷ fs) (f' ∷ fs) (found_true _ found (w ∷ fs) (r, has, in_node)) (machine.returns g f w h f' fs is)
  found_true _ (goes g f q found bare is) = ends_step g g (f ∷ []) [] (found_true _ found [] bare) (machine.ends g f is)

  -- a turn can end with each stack over a head that is found
  over_below : (fs : List Frame) (b : Below Name Globals Frame) (g : Globals) (f : Frame) → LeadsTo b g f → LiesBelow nodes Is b fs
      → Ends g (f ∷ fs)
  over_below fs (old q) g f leads lies = leads fs lies
  over_below [] (call h e) g f leads lies = absurd lies
  over_below (w ∷ fs) (call h e) g f leads (b, waits, lies) =
      let (asks, before, is) = found_true (caller h e w b) waits in
      let (s, in_start, run) = over_below fs b h asks before lies in (
        s,
        in_start,
        runs_then m g0 h g s (e ∷ w ∷ fs) (f ∷ w ∷ fs) (one_more g0 s h (asks ∷ fs) h (e ∷ w ∷ fs) run (machine.calls h asks e w fs is))
            (runs_over m (w ∷ fs) h g (e ∷ []) (f ∷ []) tt leads),
      )

  sound : (g : Globals) (stack : List Frame) → IsStackOf nodes Is g stack → Ends g stack
  sound g [] found = found_true (gone g) found
  sound g (f ∷ fs) (b, found, lies) = over_below fs b g f (found_true (head g f b) found) lies

  -- what a finished frame leaves is found
  return_found : (b : Below Name Globals Frame) (g : Globals) (f w : Frame) (h : Globals) (f' : Frame) (fs : List Frame) → Is (head g f b)
      → LiesBelow nodes Is b (w ∷ fs) → m.Returns g f w h f' → IsStackOf nodes Is h (f' ∷ fs)
  return_found (old q) g f w h f' fs found (next, has, lies) is = (old next, comes_out g f q w next h f' found has is, lies)
  return_found (call i e) g f w h f' fs found (b, waits, lies) is = (b, returns i e g f w b h f' found waits is, lies)

  end_found : (b : Below Name Globals Frame) (g : Globals) (f : Frame) → Is (head g f b) → LiesBelow nodes Is b [] → m.Ends g f
      → IsStackOf nodes Is g []
  end_found (old q) g f found bare is = goes g f q found bare is
  end_found (call i e) g f found lies is = absurd lies

  -- a step leads from a stack that is found to one that is found
  step_found : (g h : Globals) (s t : List Frame) → Step m g s h t → IsStackOf nodes Is g s → IsStackOf nodes Is h t
  step_found _ _ _ _ (machine.moves g f h f' fs is) (b, found, lies) = (b, moves g f h f' b found is, lies)
  step_found _ _ _ _ (machine.calls g f e w fs is) (b, found, lies) =
      (call g e, enters g f e w b found is, (b, stays g f e w b found is, lies))
  step_found _ _ _ _ (machine.returns g f w h f' fs is) (b, found, lies) = return_found b g f w h f' fs found lies is
  step_found _ _ _ _ (machine.ends g f is) (b, found, lies) = end_found b g f found lies is

  start_found : (stack : List Frame) → InNode nodes start stack → IsStackOf nodes Is g0 stack
  start_found [] bare = is_gone bare
  start_found (f ∷ fs) (q, has, is) = (old q, starts f q has, is)

  run_found : (g h : Globals) (s t : List Frame) → IsStackOf nodes Is g s → Runs m g s h t → IsStackOf nodes Is h t
  run_found _ _ _ _ is (no_step g s) = is
  run_found _ _ _ _ is (one_more g s h t i u run step) = step_found h i t u step (run_found g h s t is run)

  complete : (g : Globals) (stack : List Frame) → Ends g stack → IsStackOf nodes Is g stack
  complete g stack (s, is, run) = run_found g0 g s stack (start_found s is) run

  -- what a turn finds is what it can end with
  pub found_ends : (g : Globals) (stack : List Frame) → IsStackOf nodes Is g stack ↔ Ends g stack
  found_ends g stack = (sound g stack, complete g stack)
