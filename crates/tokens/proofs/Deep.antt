-- Counting along the tokens finds out whether they are too deep.
use Rattle.std.proofs.Common.{◌≡◌, ℕ, ◌+◌, ◌≤◌, ◌<◌, Bool, true, false, cond, ◌⊎◌, inl, inr, List, [], ◌∷◌, ◌++◌, refl, sym, ap, subst}
use Rattle.std.proofs.Common.{arith}
use Rattle.std.specs.Prelude.{nat_lt, count_by}
use Rattle.std.specs.List.{AllByRecursion}
use Rattle.std.proofs.lemmas.Bool.Decides.{nat_tests}
use Rattle.std.proofs.lemmas.List.Sums.{sum_by-cons}
use borrow.Author.Tests.{ltb-true}
use Rattle.tokens.specs.Token.{Tok, is_operator}
use Rattle.tokens.specs.Depth.{opens, closes, ends_run, openings, closings, operators, NestsTooDeep, HasLongRun}

-- One for a test that holds.
abbrev pub one : Bool → ℕ
one b = cond b 1 0

-- A count of a first token and the others.
count-cons : (test : Tok → Bool) (t : Tok) (ts : List Tok) → count_by test (t ∷ ts) ≡ one (test t) + count_by test ts
count-cons test t ts = sum_by-cons (λ x. cond (test x) 1 0) t ts

-- Whether the tokens nest too deep after tokens of which given numbers open and close.
abbrev pub nests : ℕ → ℕ → List Tok → Bool
nests o c [] = false
nests o c (t ∷ ts) =
    cond (nat_lt (64 + (c + one (closes t.kind))) (o + one (opens t.kind))) true
    (nests (o + one (opens t.kind)) (c + one (closes t.kind)) ts)

-- If it finds more than 64, some front has them,
nests_sound : (o c : ℕ) (ts : List Tok) → nests o c ts ≡ true
    → (front rest : List Tok) × (ts ≡ front ++ rest) × (64 + (c + closings front) < o + openings front)
nests_sound o c [] e = cc
nests_sound o c (t ∷ ts) e =
    by_test (nat_lt (64 + (c + one (closes t.kind))) (o + one (opens t.kind))) refl e
    (nests_sound (o + one (opens t.kind)) (c + one (closes t.kind)) ts)
  where
    by_test : (b : Bool) → nat_lt (64 + (c + one (closes t.kind))) (o + one (opens t.kind)) ≡ b
        → cond b true (nests (o + one (opens t.kind)) (c + one (closes t.kind)) ts) ≡ true
        → (nests (o + one (opens t.kind)) (c + one (closes t.kind)) ts ≡ true
        → (front rest : List Tok) × (ts ≡ front ++ rest)
        × (64 + (c + one (closes t.kind) + closings front) < o + one (opens t.kind) + openings front))
        → (front rest : List Tok) × (t ∷ ts ≡ front ++ rest) × (64 + (c + closings front) < o + openings front)
    by_test true f found more = (t ∷ [], ts, refl, omega (arith, ltb-true, f))
    by_test false f found more = let (front, rest, cut, deep) = more found in (
      t ∷ front,
      rest,
      ap (λ v. t ∷ v) cut,
      omega (arith, deep, count-cons (λ x. opens x.kind) t front, count-cons (λ x. closes x.kind) t front),
    )

-- and if some front has them, it finds them.
nests_complete : (o c : ℕ) (front rest : List Tok) → o ≤ 64 + c → 64 + (c + closings front) < o + openings front
    → nests o c (front ++ rest) ≡ true
nests_complete o c [] rest low deep = absurd (omega arith)
nests_complete o c (t ∷ front) rest low deep =
    by_test (nat_lt (64 + (c + one (closes t.kind))) (o + one (opens t.kind))) refl
    (λ now.
    nests_complete (o + one (opens t.kind)) (c + one (closes t.kind)) front rest now
    (omega (arith, deep, count-cons (λ x. opens x.kind) t front, count-cons (λ x. closes x.kind) t front)))
  where
    by_test : (b : Bool) → nat_lt (64 + (c + one (closes t.kind))) (o + one (opens t.kind)) ≡ b
        → (o + one (opens t.kind) ≤ 64 + (c + one (closes t.kind))
        → nests (o + one (opens t.kind)) (c + one (closes t.kind)) (front ++ rest) ≡ true)
        → cond b true (nests (o + one (opens t.kind)) (c + one (closes t.kind)) (front ++ rest)) ≡ true
    by_test true f more = refl
    by_test false f more = more (grind (arith, nat_tests))

-- Whether a run is too long, after a given number of operators of the same run.
abbrev pub runs : ℕ → List Tok → Bool
runs n [] = false
runs n (t ∷ ts) =
    cond (ends_run t.kind) (runs 0 ts) (cond (nat_lt 64 (n + one (is_operator t.kind))) true (runs (n + one (is_operator t.kind)) ts))

-- A token that ends no run.
abbrev pub GoesOn : Tok → Type 0
GoesOn t = ends_run t.kind ≡ false

-- The run that has begun becomes too long.
abbrev pub RunsOn : ℕ → List Tok → Type 0
RunsOn n ts = (front rest : List Tok) × (ts ≡ front ++ rest) × AllByRecursion GoesOn front × (64 < n + operators front)

-- A long run after one more token.
longer : (t : Tok) (ts : List Tok) → HasLongRun ts → HasLongRun (t ∷ ts)
longer t ts is = let (before, stretch, after, cut, on, long) = is in (t ∷ before, stretch, after, ap (λ v. t ∷ v) cut, on, long)

-- If it finds a run too long, there is one,
runs_sound : (n : ℕ) (ts : List Tok) → runs n ts ≡ true → RunsOn n ts ⊎ HasLongRun ts
runs_sound n [] e = cc
runs_sound n (t ∷ ts) e = by_end (ends_run t.kind) refl e (runs_sound 0 ts) (runs_sound (n + one (is_operator t.kind)) ts)
  where
    by_test : (b : Bool) → nat_lt 64 (n + one (is_operator t.kind)) ≡ b → GoesOn t
        → cond b true (runs (n + one (is_operator t.kind)) ts) ≡ true
        → (runs (n + one (is_operator t.kind)) ts ≡ true → RunsOn (n + one (is_operator t.kind)) ts ⊎ HasLongRun ts)
        → RunsOn n (t ∷ ts) ⊎ HasLongRun (t ∷ ts)
    by_test true f on found more = inl (t ∷ [], ts, refl, (on, tt), omega (arith, ltb-true, f))
    by_test false f on found more = elim (more found) [
      | inl (front, rest, cut, all, long) ↦
          inl (t ∷ front, rest, ap (λ v. t ∷ v) cut, (on, all), omega (arith, long, count-cons (λ x. is_operator x.kind) t front))
      | inr is ↦ inr (longer t ts is)
    ]

    by_end : (b : Bool) → ends_run t.kind ≡ b
        → cond b (runs 0 ts) (cond (nat_lt 64 (n + one (is_operator t.kind))) true (runs (n + one (is_operator t.kind)) ts)) ≡ true
        → (runs 0 ts ≡ true → RunsOn 0 ts ⊎ HasLongRun ts)
        → (runs (n + one (is_operator t.kind)) ts ≡ true → RunsOn (n + one (is_operator t.kind)) ts ⊎ HasLongRun ts)
        → RunsOn n (t ∷ ts) ⊎ HasLongRun (t ∷ ts)
    by_end true f found anew more = elim (anew found) [
      | inl (front, rest, cut, all, long) ↦ inr (t ∷ [], front, rest, ap (λ v. t ∷ v) cut, all, omega (arith, long))
      | inr is ↦ inr (longer t ts is)
    ]
    by_end false f found anew more = by_test (nat_lt 64 (n + one (is_operator t.kind))) refl f found more

-- and if the run that has begun becomes too long, it finds that,
runs_on_complete : (n : ℕ) (front rest : List Tok) → n ≤ 64 → AllByRecursion GoesOn front → 64 < n + operators front
    → runs n (front ++ rest) ≡ true
runs_on_complete n [] rest low on long = absurd (omega arith)
runs_on_complete n (t ∷ front) rest low on long =
    rw on.0
    (by_test (nat_lt 64 (n + one (is_operator t.kind))) refl
    (λ now.
    runs_on_complete (n + one (is_operator t.kind)) front rest now on.1
    (omega (arith, long, count-cons (λ x. is_operator x.kind) t front))))
  where
    by_test : (b : Bool) → nat_lt 64 (n + one (is_operator t.kind)) ≡ b
        → (n + one (is_operator t.kind) ≤ 64 → runs (n + one (is_operator t.kind)) (front ++ rest) ≡ true)
        → cond b true (runs (n + one (is_operator t.kind)) (front ++ rest)) ≡ true
    by_test true f more = refl
    by_test false f more = more (grind (arith, nat_tests))

-- as it does for any other stretch.
runs_complete : (n : ℕ) (before stretch after : List Tok) → n ≤ 64 → AllByRecursion GoesOn stretch → 64 < operators stretch
    → runs n (before ++ (stretch ++ after)) ≡ true
runs_complete n [] stretch after low on long = runs_on_complete n stretch after low on (omega arith)
runs_complete n (t ∷ before) stretch after low on long =
    by_end (ends_run t.kind) (runs_complete 0 before stretch after (omega arith) on long)
    (by_test (nat_lt 64 (n + one (is_operator t.kind))) refl
    (λ now. runs_complete (n + one (is_operator t.kind)) before stretch after now on long))
  where
    by_test : (b : Bool) → nat_lt 64 (n + one (is_operator t.kind)) ≡ b
        → (n + one (is_operator t.kind) ≤ 64 → runs (n + one (is_operator t.kind)) (before ++ (stretch ++ after)) ≡ true)
        → cond b true (runs (n + one (is_operator t.kind)) (before ++ (stretch ++ after))) ≡ true
    by_test true f more = refl
    by_test false f more = more (grind (arith, nat_tests))

    by_end : (b : Bool) → runs 0 (before ++ (stretch ++ after)) ≡ true
        → cond (nat_lt 64 (n + one (is_operator t.kind))) true (runs (n + one (is_operator t.kind)) (before ++ (stretch ++ after))) ≡ true
        → cond b (runs 0 (before ++ (stretch ++ after)))
        (cond (nat_lt 64 (n + one (is_operator t.kind))) true (runs (n + one (is_operator t.kind)) (before ++ (stretch ++ after)))) ≡ true
    by_end true anew more = anew
    by_end false anew more = more

-- What is found is true: tokens nest too deep,
pub nests_deep : (ts : List Tok) → nests 0 0 ts ≡ true → NestsTooDeep ts
nests_deep ts e = let (front, rest, cut, deep) = nests_sound 0 0 ts e in (front, rest, cut, omega (arith, deep))

-- or have a long run.
pub runs_long : (ts : List Tok) → runs 0 ts ≡ true → HasLongRun ts
runs_long ts e = elim (runs_sound 0 ts e) [
  | inl (front, rest, cut, on, long) ↦ ([], front, rest, cut, on, omega (arith, long))
  | inr is ↦ is
]

-- What is true is found.
pub deep_nests : (ts : List Tok) → NestsTooDeep ts → nests 0 0 ts ≡ true
deep_nests ts is =
    let (front, rest, cut, deep) = is in
    subst (λ v. nests 0 0 v ≡ true) (sym cut) (nests_complete 0 0 front rest (omega arith) (omega (arith, deep)))

pub long_runs : (ts : List Tok) → HasLongRun ts → runs 0 ts ≡ true
long_runs ts is =
    let (before, stretch, after, cut, on, long) = is in
    subst (λ v. runs 0 v ≡ true) (sym cut) (runs_complete 0 before stretch after (omega arith) on long)
