-- What is at an index of a list, if there is something.
use Rattle.std.proofs.Common.{◌≡◌, ℕ, ◌<◌, ◌≤◌, List, length, get_or, map, Option, Some, None, sym, ◌∙◌, ap, arith}
use Rattle.std.specs.Prelude.{slice_get, option_map}
use Rattle.std.proofs.lemmas.List.{length-map}
use Rattle.std.proofs.lemmas.Option.{slice_get-map, slice_get_past, slice_get-get_or}
use Rattle.scopes.specs.Find.{Finds}
use Rattle.resolved.specs.There.{IsThere}
use Rattle.scopes.proofs.Found.{moved, nowhere, only}

pub placed : {X Y : Type 0} (f : X → Y) (place : Y → ℕ) (xs : List X) (i : ℕ) (x : X) (m : ℕ) → i < length xs → x ≡ get_or xs i x
    → place (f x) ≡ m
    → Finds (λ n. IsThere (slice_get (map f xs) i) (λ y. place y ≡ n)) (Some m)
placed {X} {Y} f place xs i x m lt is e =
    let found : slice_get (map f xs) i ≡ Some (f x) = slice_get-map f xs i
    ∙ ap (option_map f) (slice_get-get_or xs i x lt ∙ ap Some (sym is)) in
    moved (λ (o : Option Y) n. IsThere o (λ y. place y ≡ n)) (Some (f x)) (slice_get (map f xs) i) (Some m) found
    (only m e (λ k h. sym e ∙ h))

pub unplaced : {X Y : Type 0} (f : X → Y) (place : Y → ℕ) (xs : List X) (i : ℕ) → length xs ≤ i
    → Finds (λ n. IsThere (slice_get (map f xs) i) (λ y. place y ≡ n)) None
unplaced {X} {Y} f place xs i le =
    let l : length (map f xs) ≡ length xs = length-map xs f in
    moved (λ (o : Option Y) n. IsThere o (λ y. place y ≡ n)) None (slice_get (map f xs) i) None (slice_get_past (map f xs) i (omega arith))
    (nowhere (λ n h. h))
