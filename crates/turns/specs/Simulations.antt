-- Pushdown systems that simulate each other.
use Rattle.std.specs.Prelude.{List, [], ◌∷◌}
use Rattle.turns.specs.Machines.{Machine}

-- The second system does, with globals and frames that are like those of the first, whatever the first does: `Like`
-- says which globals are alike, `LikeOnTop` which frames on top of a stack, `LikeBelow` which frames below another.
pub record Simulates {G F G' F' : Type 0} (first : Machine G F) (second : Machine G' F') (Like : G → G' → Type 0)
    (LikeOnTop : F → F' → Type 0)
    (LikeBelow : F → F' → Type 0) : Type 0 where
  pub moves : (g : G) (g' : G') (f : F) (f' : F') (h : G) (k : F) → Like g g' → LikeOnTop f f' → first.Moves g f h k
      → (h' : G') × (k' : F') × second.Moves g' f' h' k' × Like h h' × LikeOnTop k k'
  pub calls : (g : G) (g' : G') (f : F) (f' : F') (e w : F) → Like g g' → LikeOnTop f f' → first.Calls g f e w
      → (e' : F') × (w' : F') × second.Calls g' f' e' w' × LikeOnTop e e' × LikeBelow w w'
  pub returns : (g : G) (g' : G') (f : F) (f' : F') (w : F) (w' : F') (h : G) (k : F) → Like g g' → LikeOnTop f f' → LikeBelow w w'
      → first.Returns g f w h k → (h' : G') × (k' : F') × second.Returns g' f' w' h' k' × Like h h' × LikeOnTop k k'
  pub ends : (g : G) (g' : G') (f : F) (f' : F') → Like g g' → LikeOnTop f f' → first.Ends g f → second.Ends g' f'
  pub fails : (g : G) (g' : G') (f : F) (f' : F') → Like g g' → LikeOnTop f f' → first.Fails g f → second.Fails g' f'

-- the members of the lists are alike, one by one
abbrev pub AreAlike : {A B : Type 0} → (A → B → Type 0) → List A → List B → Type 0
AreAlike Like [] [] = Unit {0}
AreAlike Like [] (y ∷ ys) = ⊥
AreAlike Like (x ∷ xs) [] = ⊥
AreAlike Like (x ∷ xs) (y ∷ ys) = Like x y × AreAlike Like xs ys

-- the stacks are alike
abbrev pub AreLikeStacks : {A B : Type 0} → (A → B → Type 0) → (A → B → Type 0) → List A → List B → Type 0
AreLikeStacks LikeOnTop LikeBelow [] [] = Unit {0}
AreLikeStacks LikeOnTop LikeBelow [] (y ∷ ys) = ⊥
AreLikeStacks LikeOnTop LikeBelow (x ∷ xs) [] = ⊥
AreLikeStacks LikeOnTop LikeBelow (x ∷ xs) (y ∷ ys) = LikeOnTop x y × AreAlike LikeBelow xs ys
