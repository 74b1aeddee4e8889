-- The points of what is left to run in a numbered block.
use Rattle.std.proofs.Common.{◌≡◌, ◌↔◌, Bool, true, false, ℕ, zero, suc, ◌+◌, ◌<◌, List, [], ◌∷◌, ◌++◌, length, Option, Some, None, map}
use Rattle.std.proofs.Common.{slice_get, inl, inr, refl, sym, ◌∙◌, ap, ap₂, arith, length-append}
use Rattle.std.proofs.lemmas.List.{map-append}
use Rattle.std.proofs.lemmas.Option.{none-some, same_Some}
use Rattle.std.proofs.lemmas.Bool.{true≢false}
use Rattle.language.specs.Tree.{done, one, choose, loop}
use Rattle.language.specs.Rest.{Code, join}
use Rattle.language.specs.Sequential.{statements, numbered, points, numbers, point_of}
use Rattle.language.specs.Flow.{rests, IsRestOf}
use Rattle.language.specs.Lists.{Member}
use Rattle.language.proofs.Points.{points_numbered}

-- the points of the rests are the numbers that the statements are marked with
rest_points : (b k : Code) → map point_of (rests b k) ≡ map Some (points b)
rest_points done k = refl
rest_points (one m s t) k = ap (λ z. Some m.at ∷ z) (rest_points t k)
rest_points (choose m r a b t) k =
    ap (λ z. Some m.at ∷ z)
    (map-append point_of (rests a (join t k)) (rests b (join t k) ++ rests t k)
    ∙ ap₂ (λ x y. x ++ y) (rest_points a (join t k))
    (map-append point_of (rests b (join t k)) (rests t k)
    ∙ ap₂ (λ x y. x ++ y) (rest_points b (join t k)) (rest_points t k)
    ∙ sym (map-append Some (points b) (points t)))
    ∙ sym (map-append Some (points a) (points b ++ points t)))
rest_points (loop m r a t) k =
    ap (λ z. Some m.at ∷ z)
    (map-append point_of (rests a (loop m r a (join t k))) (rests t k)
    ∙ ap₂ (λ x y. x ++ y) (rest_points a (loop m r a (join t k))) (rest_points t k)
    ∙ sym (map-append Some (points a) (points t)))

pub numbered_rests : (n : ℕ) (b k : Code) → map point_of (rests (numbered n b) k) ≡ map Some (numbers n (statements b))
numbered_rests n b k = rest_points (numbered n b) k ∙ ap (map Some) (points_numbered n b)

-- the number of a point, and 0 of the exit
abbrev number_or_0 : Option ℕ → ℕ
number_or_0 None = 0
number_or_0 (Some n) = n

abbrev head_or : Option ℕ → List (Option ℕ) → Option ℕ
head_or d [] = d
head_or d (x ∷ xs) = x

abbrev rest_of : List (Option ℕ) → List (Option ℕ)
rest_of [] = []
rest_of (x ∷ xs) = xs

not_empty : (x : Option ℕ) (xs : List (Option ℕ)) → x ∷ xs ≡ [] → ⊥
not_empty x xs e = true≢false (ap has_some e)
  where
    has_some : List (Option ℕ) → Bool
    has_some [] = false
    has_some (y ∷ ys) = true

-- a member's point is a number from the first on
point_above : (k n : ℕ) (xs : List Code) (x : Code) → map point_of xs ≡ map Some (numbers k n) → Member x xs →
    (j : ℕ) × (point_of x ≡ Some j) × (k < suc j)
point_above k n [] x e f = absurd f
point_above k zero (y ∷ ys) x e f = absurd (not_empty (point_of y) (map point_of ys) e)
point_above k (suc n) (y ∷ ys) x e (inl same) = (k, ap point_of same ∙ ap (head_or None) e, omega arith)
point_above k (suc n) (y ∷ ys) x e (inr f) =
    let (j, at, above) = point_above (suc k) n ys x (ap rest_of e) f in
    (j, at, omega arith)

-- of members whose points are numbers in order, no two have the same point
same_member : (k n : ℕ) (xs : List Code) (x y : Code) → map point_of xs ≡ map Some (numbers k n) → Member x xs → Member y xs →
    point_of x ≡ point_of y → x ≡ y
same_member k n [] x y e f g same = absurd f
same_member k zero (z ∷ zs) x y e f g same = absurd (not_empty (point_of z) (map point_of zs) e)
same_member k (suc n) (z ∷ zs) x y e (inl f) (inl g) same = f ∙ sym g
same_member k (suc n) (z ∷ zs) x y e (inl f) (inr g) same =
    let (j, at, above) = point_above (suc k) n zs y (ap rest_of e) g in
    let first : k ≡ j = ap number_or_0 (sym (ap (head_or None) e) ∙ sym (ap point_of f) ∙ same ∙ at) in
    absurd (omega arith)
same_member k (suc n) (z ∷ zs) x y e (inr f) (inl g) same =
    let (j, at, above) = point_above (suc k) n zs x (ap rest_of e) f in
    let first : k ≡ j = ap number_or_0 (sym (ap (head_or None) e) ∙ sym (ap point_of g) ∙ sym same ∙ at) in
    absurd (omega arith)
same_member k (suc n) (z ∷ zs) x y e (inr f) (inr g) same = same_member (suc k) n zs x y (ap rest_of e) f g same

-- a member is not the exit
not_the_exit : (n : ℕ) (b r : Code) → Member r (rests (numbered n b) done) → point_of r ≡ None → ⊥
not_the_exit n b r f e =
    let (j, at, above) = point_above n (statements b) (rests (numbered n b) done) r (numbered_rests n b done) f in
    none-some j (sym e ∙ at)

pub point_tells_rest : (n : ℕ) (b r r' : Code) → IsRestOf (numbered n b) r → IsRestOf (numbered n b) r' → point_of r ≡ point_of r' → r ≡ r'
point_tells_rest n b r r' (inl e) (inl e') same = e ∙ sym e'
point_tells_rest n b r r' (inl e) (inr f') same = absurd (not_the_exit n b r' f' (sym same ∙ ap point_of e))
point_tells_rest n b r r' (inr f) (inl e') same = absurd (not_the_exit n b r f (same ∙ ap point_of e'))
point_tells_rest n b r r' (inr f) (inr f') same =
    same_member n (statements b) (rests (numbered n b) done) r r' (numbered_rests n b done) f f' same

-- the place of a member in a list whose points are numbers in order, and its point
place_gives_point : (k n : ℕ) (xs : List Code) (r : Code) (i j : ℕ) → map point_of xs ≡ map Some (numbers k n) → j ≡ k + i
    → slice_get xs i ≡ Some r →
    Member r xs × (point_of r ≡ Some j)
place_gives_point k n [] r i j e sum at = absurd (none-some r at)
place_gives_point k zero (x ∷ xs) r i j e sum at = absurd (not_empty (point_of x) (map point_of xs) e)
place_gives_point k (suc n) (x ∷ xs) r zero j e sum at =
    let same : x ≡ r = same_Some x r at in
    let number : k ≡ j = omega arith in
    (inl (sym same), ap point_of (sym same) ∙ ap (head_or None) e ∙ ap Some number)
place_gives_point k (suc n) (x ∷ xs) r (suc i) j e sum at =
    let (f, point) = place_gives_point (suc k) n xs r i j (ap rest_of e) (omega arith) at in
    (inr f, point)

point_gives_place : (k n : ℕ) (xs : List Code) (r : Code) (i j : ℕ) → map point_of xs ≡ map Some (numbers k n) → j ≡ k + i → Member r xs
    → point_of r ≡ Some j →
    slice_get xs i ≡ Some r
point_gives_place k n [] r i j e sum f point = absurd f
point_gives_place k zero (x ∷ xs) r i j e sum f point = absurd (not_empty (point_of x) (map point_of xs) e)
point_gives_place k (suc n) (x ∷ xs) r zero j e sum (inl same) point = ap Some (sym same)
point_gives_place k (suc n) (x ∷ xs) r (suc i) j e sum (inl same) point =
    let first : k ≡ j = ap number_or_0 (sym (ap (head_or None) e) ∙ ap point_of (sym same) ∙ point) in
    absurd (omega arith)
point_gives_place k (suc n) (x ∷ xs) r zero j e sum (inr f) point =
    let (h, at, above) = point_above (suc k) n xs r (ap rest_of e) f in
    let first : h ≡ j = ap number_or_0 (sym at ∙ point) in
    absurd (omega arith)
point_gives_place k (suc n) (x ∷ xs) r (suc i) j e sum (inr f) point =
    point_gives_place (suc k) n xs r i j (ap rest_of e) (omega arith) f point

pub rest_at_point : (b r : Code) (i : ℕ) →
    (slice_get (rests (numbered 1 b) done) i ≡ Some r) ↔ (IsRestOf (numbered 1 b) r × (point_of r ≡ Some (suc i)))
rest_at_point b r i = (forth, λ h. back h.0 h.1)
  where
    forth : slice_get (rests (numbered 1 b) done) i ≡ Some r → IsRestOf (numbered 1 b) r × (point_of r ≡ Some (suc i))
    forth at =
        let (f, point) =
        place_gives_point 1 (statements b) (rests (numbered 1 b) done) r i (suc i) (numbered_rests 1 b done) (omega arith) at in
        (inr f, point)

    back : IsRestOf (numbered 1 b) r → point_of r ≡ Some (suc i) → slice_get (rests (numbered 1 b) done) i ≡ Some r
    back (inl e) point = absurd (none-some (suc i) (sym (ap point_of e) ∙ point))
    back (inr f) point =
        point_gives_place 1 (statements b) (rests (numbered 1 b) done) r i (suc i) (numbered_rests 1 b done) (omega arith) f point

pub rests_count : (b k : Code) → length (rests b k) ≡ statements b
rests_count done k = refl
rests_count (one m s t) k = ap suc (rests_count t k)
rests_count (choose m r a b t) k =
    ap suc (length-append (rests a (join t k)) (rests b (join t k) ++ rests t k)
    ∙ ap₂ (λ x y. x + y) (rests_count a (join t k))
    (length-append (rests b (join t k)) (rests t k) ∙ ap₂ (λ x y. x + y) (rests_count b (join t k)) (rests_count t k)))
rests_count (loop m r a t) k =
    ap suc (length-append (rests a (loop m r a (join t k))) (rests t k)
    ∙ ap₂ (λ x y. x + y) (rests_count a (loop m r a (join t k))) (rests_count t k))
