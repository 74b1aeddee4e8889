-- Runs of a pushdown system, and what lies below them.
use Rattle.std.proofs.Common.{List, [], ◌∷◌, ◌++◌}
use Rattle.turns.specs.Machines.{Machine, Step, moves, calls, returns, ends, Runs, no_step, one_more}

module _ {Globals Frame : Type 0} (m : Machine Globals Frame) where
  -- one run after another
  pub runs_then : (g h i : Globals) (s t u : List Frame) → Runs m g s h t → Runs m h t i u → Runs m g s i u
  runs_then g _ _ s _ _ first (no_step h t) = first
  runs_then g _ _ s _ _ first (one_more h t i u j v second step) = one_more g s i u j v (runs_then g h i s t u first second) step

  -- a run begins with a step
  pub runs_front : (g h i : Globals) (s t u : List Frame) → Step m g s h t → Runs m h t i u → Runs m g s i u
  runs_front g h i s t u step run = runs_then g h i s t u (one_more g s g s h t (no_step g s) step) run

  -- there is a top frame
  abbrev pub HasTop : List Frame → Type 0
  HasTop [] = ⊥
  HasTop (f ∷ fs) = Unit {0}

  has_top : (g h : Globals) (s t : List Frame) → Step m g s h t → HasTop s
  has_top _ _ _ _ (moves g f h f' fs is) = tt
  has_top _ _ _ _ (calls g f e w fs is) = tt
  has_top _ _ _ _ (returns g f w h f' fs is) = tt
  has_top _ _ _ _ (ends g f is) = tt

  step_over : (below : List Frame) (g h : Globals) (s t : List Frame) → HasTop t → Step m g s h t → Step m g (s ++ below) h (t ++ below)
  step_over below _ _ _ _ has (moves g f h f' fs is) = moves g f h f' (fs ++ below) is
  step_over below _ _ _ _ has (calls g f e w fs is) = calls g f e w (fs ++ below) is
  step_over below _ _ _ _ has (returns g f w h f' fs is) = returns g f w h f' (fs ++ below) is
  step_over below _ _ _ _ has (ends g f is) = absurd has

  -- what lies below a run does not matter to it, as long as it ends with a top frame
  pub runs_over : (below : List Frame) (g h : Globals) (s t : List Frame) → HasTop t → Runs m g s h t → Runs m g (s ++ below) h (t ++ below)
  runs_over below _ _ _ _ has (no_step g s) = no_step g (s ++ below)
  runs_over below _ _ _ _ has (one_more g s h t i u run step) =
      one_more g (s ++ below) h (t ++ below) i (u ++ below) (runs_over below g h s t (has_top h i t u step) run)
      (step_over below h i t u has step)
