-- Where a label stands, by the first statement and those after it.
use Rattle.std.proofs.Common.{◌≡◌, ℕ, suc, ◌+◌, ◌<◌, ◌≤◌, Bool, true, false, cond, Option, Some, None, option_map}
use Rattle.std.proofs.Common.{List, [], ◌∷◌, drop, get_or, length, refl, sym, ◌∙◌, ap, ap₂, arith}
use Rattle.std.proofs.lemmas.List.{drop_more, drop_all}
use Rattle.language.specs.Tree as tree
use Rattle.language.specs.Tree.{Mark, done, one, choose, loop}
use Rattle.language.specs.Resolve.{Scope, resolve_mark, resolve_simple, resolve_side, resolve_block}
use Rattle.language.specs.Rest.{Label, Code, join, has_label, first_of_two, rest_from}
use Rattle.language.specs.Sequential.{statements, numbered, marked}
use Rattle.language.proofs.Rests.{first_none}
use Rattle.trees.specs.declared.tree.Stmt.{Stmt}
use Rattle.trees.specs.Trees.{Deed, simple, branch, repeat, item_of, deed_of, block_of}
use Rattle.trees.specs.Parts.{first_inside, second_inside}
use Rattle.trees.proofs.Folds.{item_deed}
use Rattle.flow_graph.specs.Nodes.{point_at}
use Rattle.flow_graph.specs.Points.{IsLabelFound}
use Rattle.flow_graph.proofs.CountLemmas.{alone_counts}
use Rattle.flow_graph.proofs.NumberedCodeLemmas.{Names, led, tail, inner, inner_second, behind_two}
use Rattle.flow_graph.proofs.NumberedCodeLemmas.{resolved_statements, behind_simple, behind_branch, behind_repeat}

-- the point of the first statement with this label
abbrev pub place : Label → Code → Code → Option ℕ
place x b k = option_map point_at (rest_from x b k)

pub place_of_two : (a b : Option Code) →
    option_map point_at (first_of_two a b) ≡ first_of_two (option_map point_at a) (option_map point_at b)
place_of_two None b = refl
place_of_two (Some r) b = refl

-- one of three, as the first of two and the third
of_three : (a b c : Option Code) →
    option_map point_at (first_of_two a (first_of_two b c)) ≡ first_of_two
    (option_map point_at (first_of_two a (first_of_two b None))) (option_map point_at c)
of_three None None c = refl
of_three _ _ c = refl

of_two : (a c : Option Code) →
    option_map point_at (first_of_two a c) ≡ first_of_two (option_map point_at (first_of_two a None))
    (option_map point_at c)
of_two None c = refl
of_two (Some r) c = refl

-- a label stands at the first statement, or inside of it, or after it
pub place_split : (x : Label) (n : ℕ) (s : Scope) (m : Mark tree.Name) (d : Deed) (t : Names) (k : Code) →
    place x (led n s m d t) k ≡ first_of_two (place x (led n s m d done) (join (tail n s m d t) k)) (place x (tail n s m d t) k)
place_split x n s m (simple c) t k = go (tail n s m (simple c) t) (behind_simple n s m t c) (has_label x (resolve_mark m))
  where
    go : (T : Code) → numbered (suc n) (resolve_block s t) ≡ T → (h : Bool) →
        option_map point_at (cond h (Some
        (one (marked n (resolve_mark m)) (resolve_simple s c) (join (numbered (suc n) (resolve_block s t)) k)))
        (rest_from x (numbered (suc n) (resolve_block s t)) k))
        ≡ first_of_two (option_map point_at
        (cond h (Some (one (marked n (resolve_mark m)) (resolve_simple s c) (join T k))) None)) (place x T k)
    go T e true = refl
    go T e false = ap (λ z. place x z k) e
place_split x n s m (branch r a b) t k = go (tail n s m (branch r a b) t) (behind_branch n s m t r a b) (has_label x (resolve_mark m))
  where
    A : Code
    A = inner n s a

    B : Code
    B = inner_second n s a b

    T' : Code
    T' = behind_two n s a b t

    go : (T : Code) → T' ≡ T → (h : Bool) →
        option_map point_at (cond h (Some (choose (marked n (resolve_mark m)) (resolve_side s r) A B (join T' k)))
        (first_of_two (rest_from x A (join T' k)) (first_of_two (rest_from x B (join T' k)) (rest_from x T' k))))
        ≡ first_of_two (option_map point_at
        (cond h (Some (choose (marked n (resolve_mark m)) (resolve_side s r) A B (join T k)))
        (first_of_two (rest_from x A (join T k)) (first_of_two (rest_from x B (join T k)) None)))) (place x T k)
    go T e true = refl
    go T e false =
        of_three (rest_from x A (join T' k)) (rest_from x B (join T' k)) (rest_from x T' k)
        ∙ ap (λ z. first_of_two (option_map point_at
        (first_of_two (rest_from x A (join z k)) (first_of_two (rest_from x B (join z k)) None))) (place x z k)) e
place_split x n s m (repeat r a) t k = go (tail n s m (repeat r a) t) (behind_repeat n s m t r a) (has_label x (resolve_mark m))
  where
    A : Code
    A = inner n s a

    T' : Code
    T' = inner_second n s a t

    go : (T : Code) → T' ≡ T → (h : Bool) →
        option_map point_at (cond h (Some (loop (marked n (resolve_mark m)) (resolve_side s r) A (join T' k)))
        (first_of_two (rest_from x A (loop (marked n (resolve_mark m)) (resolve_side s r) A (join T' k)))
        (rest_from x T' k)))
        ≡ first_of_two (option_map point_at
        (cond h (Some (loop (marked n (resolve_mark m)) (resolve_side s r) A (join T k)))
        (first_of_two (rest_from x A (loop (marked n (resolve_mark m)) (resolve_side s r) A (join T k))) None)))
        (place x T k)
    go T e true = refl
    go T e false =
        of_two (rest_from x A (loop (marked n (resolve_mark m)) (resolve_side s r) A (join T' k))) (rest_from x T' k)
        ∙ ap (λ z. first_of_two (option_map point_at
        (first_of_two (rest_from x A (loop (marked n (resolve_mark m)) (resolve_side s r) A (join z k))) None))
        (place x z k)) e

-- what is left to run after the first block inside of a statement: after the body of a loop the loop again
abbrev behind_first : ℕ → Scope → Mark tree.Name → Deed → Code → Code
behind_first n s m (simple c) k = k
behind_first n s m (branch r a b) k = k
behind_first n s m (repeat r a) k = loop (marked n (resolve_mark m)) (resolve_side s r) (numbered (suc n) (resolve_block s a)) k

-- a label that is not the statement's stands in its first block, or in its second
place_inside : (x : Label) (n : ℕ) (s : Scope) (m : Mark tree.Name) (d : Deed) (k : Code) → has_label x (resolve_mark m) ≡ false →
    place x (led n s m d done) k
    ≡ first_of_two (place x (inner n s (first_inside d)) (behind_first n s m d k))
    (place x (inner_second n s (first_inside d) (second_inside d)) k)
place_inside x n s m (simple c) k e =
    ap (λ h. option_map point_at (cond h (Some (one (marked n (resolve_mark m)) (resolve_simple s c) k)) None)) e
place_inside x n s m (branch r a b) k e =
    let A = inner n s a in
    let B = inner_second n s a b in
    ap (λ h. option_map point_at (cond h (Some (choose (marked n (resolve_mark m)) (resolve_side s r) A B k))
    (first_of_two (rest_from x A k) (first_of_two (rest_from x B k) None)))) e
    ∙ place_of_two (rest_from x A k) (first_of_two (rest_from x B k) None)
    ∙ ap (λ z. first_of_two (place x A k) (option_map point_at z)) (first_none (rest_from x B k))
place_inside x n s m (repeat r a) k e =
    let A = inner n s a in
    let again = loop (marked n (resolve_mark m)) (resolve_side s r) A k in
    ap (λ h. option_map point_at (cond h (Some again) (first_of_two (rest_from x A again) None))) e
    ∙ ap (option_map point_at) (first_none (rest_from x A again))
    ∙ sym (first_none (place x A again))

-- the first statement of a list, by its place in it
pub place_next : {A : Type 0} (x : Label) (n j : ℕ) (s : Scope) (l : List (Stmt A)) (i : ℕ) (stmt : Stmt A) (k : Code) → i < length l
    → stmt ≡ get_or l i stmt →
    j ≡ n + statements (block_of (stmt ∷ [])) →
    place x (numbered n (resolve_block s (block_of (drop i l)))) k
    ≡ first_of_two
    (place x (numbered n (resolve_block s (block_of (stmt ∷ [])))) (join (numbered j (resolve_block s (block_of (drop (i + 1) l)))) k))
    (place x (numbered j (resolve_block s (block_of (drop (i + 1) l)))) k)
place_next {A} x n j s l i stmt k lt is e =
    ap (λ z. place x (numbered n (resolve_block s (block_of z))) k)
    (drop_more l i stmt lt ∙ ap (λ (y : Stmt A). y ∷ drop (i + 1) l) (sym is))
    ∙ place_split x n s (item_of stmt).mark (item_of stmt).deed (block_of (drop (i + 1) l)) k
    ∙ ap (λ z. first_of_two
    (place x (numbered n (resolve_block s (block_of (stmt ∷ [])))) (join (numbered z (resolve_block s (block_of (drop (i + 1) l)))) k))
    (place x (numbered z (resolve_block s (block_of (drop (i + 1) l)))) k)) (sym e)

pub place_nowhere : {A : Type 0} (x : Label) (n : ℕ) (s : Scope) (l : List (Stmt A)) (i : ℕ) (k : Code) → length l ≤ i
    → place x (numbered n (resolve_block s (block_of (drop i l)))) k ≡ None
place_nowhere x n s l i k le = ap (λ z. place x (numbered n (resolve_block s (block_of z))) k) (drop_all i l le)

module _ {A : Type 0} (x : Label) (stmt : Stmt A) (n at : ℕ)
    (without : has_label x (resolve_mark (item_of stmt).mark) ≡ false) where
  -- the first statement inside has the next number, if that is one of 64 bits
  abbrev pub Inside : Type 0
  Inside = n + statements (block_of (stmt ∷ [])) ≤ 18446744073709551615 → at ≡ suc n

  -- the label is found in the first branch, or not there and in the second as it is, or in a loop's body
  module _ (first second : List (Stmt A)) (is_first : block_of first ≡ first_inside (deed_of stmt.core))
      (is_second : block_of second ≡ second_inside (deed_of stmt.core)) (inside : Inside) where
    -- if the two blocks are those inside of the statement as its item has it
    parts : (block_of first ≡ first_inside (item_of stmt).deed) × (block_of second ≡ second_inside (item_of stmt).deed)
    parts = (is_first ∙ sym (ap first_inside (item_deed stmt)), is_second ∙ sym (ap second_inside (item_deed stmt)))

    counted : statements (block_of (stmt ∷ [])) ≡ suc (statements (block_of first) + statements (block_of second))
    counted = alone_counts stmt ∙ sym (ap₂ (λ a b. suc (statements a + statements b)) is_first is_second)

    -- the place of the label, by the two blocks
    in_two : (s : Scope) (k : Code) → n + statements (block_of (stmt ∷ [])) ≤ 18446744073709551615 →
        (place x (numbered n (resolve_block s (block_of (stmt ∷ [])))) k
        ≡ first_of_two
        (place x (numbered at (resolve_block s (block_of first))) (behind_first n s (item_of stmt).mark (item_of stmt).deed k))
        (place x (numbered (at + statements (block_of first)) (resolve_block s (block_of second))) k))
    in_two s k most =
        let i = item_of stmt in
        let next = inside most in
        let number : suc n + statements (resolve_block s (first_inside i.deed)) ≡ at + statements (block_of first) =
        (λ j. sym next j + (resolved_statements s (first_inside i.deed) ∙ sym (ap statements parts.0)) j) in
        place_inside x n s i.mark i.deed k without
        ∙ (λ j. first_of_two (place x (numbered (sym next j) (resolve_block s (sym parts.0 j))) (behind_first n s i.mark i.deed k))
        (place x (numbered (number j) (resolve_block s (sym parts.1 j))) k))

    pub found_first : (found : ℕ) → IsLabelFound x first at (Some found) → IsLabelFound x (stmt ∷ []) n (Some found)
    found_first found there s k most =
        let one = there s (behind_first n s (item_of stmt).mark (item_of stmt).deed k) (omega (arith, inside most, counted, most)) in
        sym (in_two s k most
        ∙ ap (λ o. first_of_two o (place x (numbered (at + statements (block_of first)) (resolve_block s (block_of second))) k)) (sym one))

    pub found_second : (j : ℕ) (found : Option ℕ) →
        (n + statements (block_of (stmt ∷ [])) ≤ 18446744073709551615 → j ≡ at + statements (block_of first)) →
        IsLabelFound x first at None → IsLabelFound x second j found → IsLabelFound x (stmt ∷ []) n found
    found_second j found behind none there s k most =
        let at_j = behind most in
        let no = none s (behind_first n s (item_of stmt).mark (item_of stmt).deed k) (omega (arith, inside most, counted, most)) in
        let other = there s k (omega (arith, inside most, at_j, counted, most)) in
        other ∙ sym (in_two s k most
        ∙ (ap (λ o. first_of_two o (place x (numbered (at + statements (block_of first)) (resolve_block s (block_of second))) k)) (sym no)
        ∙ ap (λ z. place x (numbered z (resolve_block s (block_of second))) k) (sym at_j)))
