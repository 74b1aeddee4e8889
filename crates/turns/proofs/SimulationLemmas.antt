-- Where threads simulate others, a turn of theirs fails if one of the others' does.
use Rattle.std.proofs.Common.{ℕ, suc, ◌<◌, List, [], ◌∷◌, ◌++◌}
use Rattle.turns.specs.Machines as machine
use Rattle.turns.specs.Machines.{Machine, Step, Runs, no_step, one_more, FailsOnTop, TurnFails}
use Rattle.turns.specs.Between.{Threads, Between, begins, takes_turn, ends_round, FailsBelow}
use Rattle.turns.specs.Simulations.{Simulates, AreAlike, AreLikeStacks}

module _ {G F G' F' : Type 0} (m : Machine G F) (n : Machine G' F') (Like : G → G' → Type 0) (LikeOnTop LikeBelow : F → F' → Type 0)
    (simulates : Simulates m n Like LikeOnTop LikeBelow) where
  -- globals and a stack of the second system that are like these
  abbrev HasLike : (G' → List F' → Type 0) → G → List F → Type 0
  HasLike Is h t = (h' : G') × (t' : List F') × Is h' t' × Like h h' × AreLikeStacks LikeOnTop LikeBelow t t'

  abbrev Alike : List F → List F' → Type 0
  Alike s s' = AreLikeStacks LikeOnTop LikeBelow s s'

  moves_there : (g : G) (g' : G') (f : F) (h : G) (k : F) (fs : List F) (s' : List F') → m.Moves g f h k → Like g g' → Alike (f ∷ fs) s'
      → HasLike (Step n g' s') h (k ∷ fs)
  moves_there g g' f h k fs [] is like alike = absurd alike
  moves_there g g' f h k fs (f' ∷ fs') is like (top, below) =
      let (h', k', does, like', top') = simulates.moves g g' f f' h k like top is in
      (h', k' ∷ fs', machine.moves g' f' h' k' fs' does, like', (top', below))

  calls_there : (g : G) (g' : G') (f e w : F) (fs : List F) (s' : List F') → m.Calls g f e w → Like g g' → Alike (f ∷ fs) s'
      → HasLike (Step n g' s') g (e ∷ w ∷ fs)
  calls_there g g' f e w fs [] is like alike = absurd alike
  calls_there g g' f e w fs (f' ∷ fs') is like (top, below) =
      let (e', w', does, top', kept) = simulates.calls g g' f f' e w like top is in
      (g', e' ∷ w' ∷ fs', machine.calls g' f' e' w' fs' does, like, (top', (kept, below)))

  returns_there : (g : G) (g' : G') (f w : F) (h : G) (k : F) (fs : List F) (s' : List F') → m.Returns g f w h k → Like g g'
      → Alike (f ∷ w ∷ fs) s' → HasLike (Step n g' s') h (k ∷ fs)
  returns_there g g' f w h k fs [] is like alike = absurd alike
  returns_there g g' f w h k fs (f' ∷ []) is like (top, below) = absurd below
  returns_there g g' f w h k fs (f' ∷ w' ∷ fs') is like (top, (kept, below)) =
      let (h', k', does, like', top') = simulates.returns g g' f f' w w' h k like top kept is in
      (h', k' ∷ fs', machine.returns g' f' w' h' k' fs' does, like', (top', below))

  ends_there : (g : G) (g' : G') (f : F) (s' : List F') → m.Ends g f → Like g g' → Alike (f ∷ []) s' → HasLike (Step n g' s') g []
  ends_there g g' f [] is like alike = absurd alike
  ends_there g g' f (f' ∷ []) is like (top, below) = (g', [], machine.ends g' f' (simulates.ends g g' f f' like top is), like, tt)
  ends_there g g' f (f' ∷ w' ∷ fs') is like (top, below) = absurd below

  step_there : (g h : G) (s t : List F) (g' : G') (s' : List F') → Step m g s h t → Like g g' → Alike s s' → HasLike (Step n g' s') h t
  step_there _ _ _ _ g' s' (machine.moves g f h k fs is) like alike = moves_there g g' f h k fs s' is like alike
  step_there _ _ _ _ g' s' (machine.calls g f e w fs is) like alike = calls_there g g' f e w fs s' is like alike
  step_there _ _ _ _ g' s' (machine.returns g f w h k fs is) like alike = returns_there g g' f w h k fs s' is like alike
  step_there _ _ _ _ g' s' (machine.ends g f is) like alike = ends_there g g' f s' is like alike

  runs_like : (g h : G) (s t : List F) (g' : G') (s' : List F') → Runs m g s h t → Like g g' → Alike s s' → HasLike (Runs n g' s') h t
  runs_like _ _ _ _ g' s' (no_step g s) like alike = (g', s', no_step g' s', like, alike)
  runs_like _ _ _ _ g' s' (one_more g s h t i u run step) like alike =
      let (h', t', run', like', alike') = runs_like g h s t g' s' run like alike in
      let (i', u', step', like'', alike'') = step_there h i t u h' t' step like' alike' in
      (i', u', one_more g' s' h' t' i' u' run' step', like'', alike'')

  top_fails : (g : G) (g' : G') (s : List F) (s' : List F') → Like g g' → Alike s s' → FailsOnTop m g s → FailsOnTop n g' s'
  top_fails g g' [] s' like alike bad = absurd bad
  top_fails g g' (f ∷ fs) [] like alike bad = absurd alike
  top_fails g g' (f ∷ fs) (f' ∷ fs') like (top, below) bad = simulates.fails g g' f f' like top bad

  turn_fails_like : (g : G) (g' : G') (s : List F) (s' : List F') → Like g g' → Alike s s' → TurnFails m g s → TurnFails n g' s'
  turn_fails_like g g' s s' like alike (h, t, run, bad) =
      let (h', t', run', like', alike') = runs_like g h s t g' s' run like alike in
      (h', t', run', top_fails h h' t t' like' alike' bad)

module _ {G F G' F' : Type 0} (p : Threads G F) (q : Threads G' F') (Like : G → G' → Type 0) (LikeOnTop LikeBelow : F → F' → Type 0)
    (simulates : Simulates p.machine q.machine Like LikeOnTop LikeBelow) (globals : Like p.globals q.globals)
    (stacks : AreAlike (AreLikeStacks LikeOnTop LikeBelow) p.stacks q.stacks) where
  abbrev AllAlike : List (List F) → List (List F') → Type 0
  AllAlike ss ss' = AreAlike (AreLikeStacks LikeOnTop LikeBelow) ss ss'

  added : (ss : List (List F)) (ss' : List (List F')) (s : List F) (s' : List F') → AllAlike ss ss' → AreLikeStacks LikeOnTop LikeBelow s s'
      → AllAlike (ss ++ s ∷ []) (ss' ++ s' ∷ [])
  added [] [] s s' all one = (one, tt)
  added [] (y ∷ ys) s s' all one = absurd all
  added (x ∷ xs) [] s s' all one = absurd all
  added (x ∷ xs) (y ∷ ys) s s' (first, all) one = (first, added xs ys s s' all one)

  -- the other threads are at the same place, with globals and stacks that are like these
  abbrev BetweenLike : ℕ → G → List (List F) → List (List F) → Type 0
  BetweenLike r g had left =
      (g' : G') × (had' : List (List F')) × (left' : List (List F')) × Between q r g' had' left' × Like g g' × AllAlike had had'
      × AllAlike left left'

  turn_like : (r : ℕ) (g h : G) (had : List (List F)) (s t : List F) (left : List (List F)) → BetweenLike r g had (s ∷ left)
      → Runs p.machine g s h t → BetweenLike r h (had ++ t ∷ []) left
  turn_like r g h had s t left (g', had', [], at, like, all, none) run = absurd none
  turn_like r g h had s t left (g', had', s' ∷ left', at, like, all, (one, others)) run =
      let (h', t', run', like', alike') = runs_like p.machine q.machine Like LikeOnTop LikeBelow simulates g h s t g' s' run like one in
      (h', had' ++ t' ∷ [], left', takes_turn r g' h' had' s' t' left' at run', like', added had had' t t' all alike', others)

  round_like : (r : ℕ) (g : G) (had : List (List F)) → BetweenLike r g had [] → BetweenLike (suc r) g [] had
  round_like r g had (g', had', [], at, like, all, none) = (g', [], had', ends_round r g' had' at, like, tt, all)
  round_like r g had (g', had', s' ∷ left', at, like, all, none) = absurd none

  between_like : (r : ℕ) (g : G) (had left : List (List F)) → Between p r g had left → BetweenLike r g had left
  between_like _ _ _ _ begins = (q.globals, [], q.stacks, begins, globals, tt, stacks)
  between_like _ _ _ _ (takes_turn r g h had s t left at run) = turn_like r g h had s t left (between_like r g had (s ∷ left) at) run
  between_like _ _ _ _ (ends_round r g had at) = round_like r g had (between_like r g had [] at)

  fails_like : (k r : ℕ) (g : G) (had : List (List F)) (s : List F) (left : List (List F)) → r < k → BetweenLike r g had (s ∷ left)
      → TurnFails p.machine g s → FailsBelow q k
  fails_like k r g had s left small (g', had', [], at, like, all, none) bad = absurd none
  fails_like k r g had s left small (g', had', s' ∷ left', at, like, all, (one, others)) bad =
      (r, small, g', had', s', left', at, turn_fails_like p.machine q.machine Like LikeOnTop LikeBelow simulates g g' s s' like one bad)

  -- where the one threads fail, so do the others, which simulate them
  pub simulated_fails : (k : ℕ) → FailsBelow p k → FailsBelow q k
  simulated_fails k (r, small, g, had, s, left, at, bad) = fails_like k r g had s left small (between_like r g had (s ∷ left) at) bad
