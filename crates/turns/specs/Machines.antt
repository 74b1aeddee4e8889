-- Pushdown systems: one thread's globals and its stack of frames (after Bouajjani, Esparza and Maler 1997).
use Rattle.std.specs.Prelude.{List, [], ◌∷◌}

-- A pushdown system, over globals and frames. Its parts say what the top frame does with the globals: it moves inside
-- its call; it calls, and leaves a frame below the first one of the call; it is finished, and the frame below it
-- continues; it is finished, and nothing is below; it fails.
pub record Machine (Globals Frame : Type 0) : Type 1 where
  pub Moves : Globals → Frame → Globals → Frame → Type 0
  pub Calls : Globals → Frame → Frame → Frame → Type 0
  pub Returns : Globals → Frame → Frame → Globals → Frame → Type 0
  pub Ends : Globals → Frame → Type 0
  pub Fails : Globals → Frame → Type 0

-- One step leads from globals and a stack, its top first, to globals and a stack.
pub data Step {Globals Frame : Type 0} (machine : Machine Globals Frame) : Globals → List Frame → Globals → List Frame → Type 0 where
  moves : (g : Globals) (f : Frame) (h : Globals) (f' : Frame) (fs : List Frame) → machine.Moves g f h f'
      → Step machine g (f ∷ fs) h (f' ∷ fs)
  calls : (g : Globals) (f e w : Frame) (fs : List Frame) → machine.Calls g f e w → Step machine g (f ∷ fs) g (e ∷ w ∷ fs)
  returns : (g : Globals) (f w : Frame) (h : Globals) (f' : Frame) (fs : List Frame) → machine.Returns g f w h f'
      → Step machine g (f ∷ w ∷ fs) h (f' ∷ fs)
  ends : (g : Globals) (f : Frame) → machine.Ends g f → Step machine g (f ∷ []) g []

-- Some number of steps, perhaps none, leads from globals and a stack to globals and a stack.
pub data Runs {Globals Frame : Type 0} (machine : Machine Globals Frame) : Globals → List Frame → Globals → List Frame → Type 0 where
  no_step : (g : Globals) (s : List Frame) → Runs machine g s g s
  one_more : (g : Globals) (s : List Frame) (h : Globals) (t : List Frame) (i : Globals) (u : List Frame) → Runs machine g s h t
      → Step machine h t i u → Runs machine g s i u

-- the top frame fails
abbrev pub FailsOnTop : {Globals Frame : Type 0} → Machine Globals Frame → Globals → List Frame → Type 0
FailsOnTop machine g [] = ⊥
FailsOnTop machine g (f ∷ fs) = machine.Fails g f

-- a turn from these globals and this stack comes to a top frame that fails
abbrev pub TurnFails : {Globals Frame : Type 0} → Machine Globals Frame → Globals → List Frame → Type 0
TurnFails {Globals} {Frame} machine g stack = (h : Globals) × (stack' : List Frame) × Runs machine g stack h stack'
    × FailsOnTop machine h stack'
