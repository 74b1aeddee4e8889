-- One entry after the other may come.
use Rattle.std.proofs.Common.{◌≡◌, ℕ, [], ◌∷◌, List, false, nat_eq, refl, sym, ◌∙◌, arith, lit<, Contains}
use Rattle.std.specs.List.{list_any}
use Rattle.std.specs.Cmp.{nat_eq_equiv}
use Rattle.std.proofs.lemmas.Bool.{false≢true}
use Rattle.std.proofs.lemmas.Map.Views.{list_any-from_Contains}
use Rattle.post_ledger.specs.declared.entry.Entry.{Entry}
use Rattle.post_ledger.specs.declared.entry.Entry.TheVariants.{Posted, Taken, Completed}
use Rattle.post_ledger.specs.Orders.{IsLawful, posted, completed}
use Rattle.post_ledger.specs.Row.{row, beginning}
use Rattle.post_ledger.proofs.Orders.{lawful_open, lawful_push, counted_closed}
use Rattle.post_ledger.proofs.laws.a_run_of_two_mailboxes.Goals as goal

absent : (l : List ℕ) (t : ℕ) → list_any (nat_eq t) l ≡ false → Contains l t → ⊥
absent l t none there = false≢true (sym none ∙ list_any-from_Contains nat_eq_equiv t l there)

half : IsLawful 2 beginning
half =
    let a : List (Entry ℕ) = Posted 0 2 10 0 ∷ [] in
    let b : List (Entry ℕ) = Posted 0 2 10 0 ∷ Taken 0 2 10 ∷ [] in
    let c : List (Entry ℕ) = Posted 0 2 10 0 ∷ Taken 0 2 10 ∷ Posted 1 0 11 0 ∷ [] in
    let d : List (Entry ℕ) = Posted 0 2 10 0 ∷ Taken 0 2 10 ∷ Posted 1 0 11 0 ∷ Posted 1 0 12 0 ∷ [] in
    let e : List (Entry ℕ) = Posted 0 2 10 0 ∷ Taken 0 2 10 ∷ Posted 1 0 11 0 ∷ Posted 1 0 12 0 ∷ Taken 1 0 11 ∷ [] in
    let law_b = lawful_push 2 a (Taken 0 2 10) (lawful_open 2 0 10 (lit< tt)) (lit< tt) refl tt in
    let law_c = lawful_push 2 b (Posted 1 0 11 0) law_b (lit< tt) tt (lit< tt, absent [] 0 refl) in
    let law_d = lawful_push 2 c (Posted 1 0 12 0) law_c (lit< tt) tt (lit< tt, absent [] 0 refl) in
    let law_e = lawful_push 2 d (Taken 1 0 11) law_d (lit< tt) refl tt in
    lawful_push 2 e (Taken 1 0 12) law_e (lit< tt) refl tt

whole : IsLawful 2 row
whole =
    let g : List (Entry ℕ) =
    Posted 0 2 10 0 ∷ Taken 0 2 10 ∷ Posted 1 0 11 0 ∷ Posted 1 0 12 0 ∷ Taken 1 0 11 ∷ Taken 1 0 12 ∷ Completed 1 0 ∷ [] in
    let h : List (Entry ℕ) =
    Posted 0 2 10 0 ∷ Taken 0 2 10 ∷ Posted 1 0 11 0 ∷ Posted 1 0 12 0 ∷ Taken 1 0 11 ∷ Taken 1 0 12 ∷ Completed 1 0 ∷ Completed 1 1
    ∷ [] in
    let law_g = lawful_push 2 beginning (Completed 1 0) half (lit< tt) (lit< tt, absent [] 0 refl) tt in
    let law_h = lawful_push 2 g (Completed 1 1) law_g (lit< tt) (lit< tt, absent (0 ∷ []) 1 refl) tt in
    lawful_push 2 h (Completed 0 0) law_h (lit< tt) (lit< tt, absent [] 0 refl) tt

pub returns-clause-lawful : goal.returns-clause-lawful
returns-clause-lawful c = (whole, (counted_closed 2 row whole).0 refl)

apart : (m n : ℕ) → m ≡ n → m ≡ 3 → n ≡ 0 → ⊥
apart m n same three none = omega arith

pub returns-clause-open : goal.returns-clause-open
returns-clause-open c = λ closed. apart (posted beginning) (completed beginning) ((counted_closed 2 beginning half).1 closed) refl refl
