-- Texts of statements, as they grow.
use Rattle.std.proofs.Common.{◌≡◌, ℕ, ◌+◌, ◌<◌, ◌≤◌, List, [], ◌∷◌, ◌++◌, length, drop, get_or, refl, sym, ◌∙◌, ap, append_assoc}
use Rattle.std.proofs.Common.{append-nil, zero, suc, add-one, option_map}
use Rattle.std.proofs.lemmas.List.{drop_more, drop_all}
use Rattle.language.specs.Tree.{Name, Mark, Block}
use Rattle.tokens.specs.Parts.{text_of}
use Rattle.tokens.proofs.PartsCut.{text_of-append}
use Rattle.trees.specs.declared.tree.Stmt.{Stmt}
use Rattle.trees.specs.Trees.{name_of, Deed, simple, branch, repeat, Item, deed_of, marked_before, before, block_of}
use Rattle.trees.proofs.Folds.{item_is}
use Rattle.grammar.specs.Printed.{label_parts, margin, block_parts}
use Rattle.syntax.specs.PrintedDeed.{deed_parts, head_parts, arms_parts}

-- one more level
margin_more : (level : ℕ) → text_of (margin (suc level)) ≡ text_of (margin level) ++ (32 ∷ 32 ∷ [])
margin_more zero = refl
margin_more (suc level) = ap (λ (t : List ℕ). 32 ∷ 32 ∷ t) (margin_more level)

pub two_more : (level : ℕ) (old mid new : List ℕ) → mid ≡ old ++ text_of (margin level) → new ≡ mid ++ (32 ∷ 32 ∷ [])
    → new ≡ old ++ text_of (margin (level + 1))
two_more level old mid new h e = e ∙ ap (λ (t : List ℕ). t ++ (32 ∷ 32 ∷ [])) h ∙ append_assoc old _ _
    ∙ ap (λ (t : List ℕ). old ++ t) (sym (ap (λ (n : ℕ). text_of (margin n)) (add-one level) ∙ margin_more level))

-- A statement's text: its margin, its label, and what it does, in front of the statements after it.
marked_text : (level : ℕ) (m : Mark Name) (d : Deed) (k : Block Name Name Name)
    → text_of (block_parts level (marked_before m d k))
    ≡ text_of (margin level) ++ (text_of (label_parts m.label) ++ (text_of (deed_parts level d) ++ text_of (block_parts level k)))
marked_text level m (simple s) k = simp (text_of-append, append_assoc)
marked_text level m _ k = simp (text_of-append, append_assoc)

pub first_text : {A : Type 0} (level : ℕ) (s : Stmt A) (k : List (Stmt A))
    → text_of (block_parts level (block_of (s ∷ k)))
    ≡ text_of (margin level)
    ++ (text_of (label_parts (option_map name_of s.label))
    ++ (text_of (deed_parts level (deed_of s.core)) ++ text_of (block_parts level (block_of k))))
first_text level s k =
    ap (λ (i : Item). text_of (block_parts level (before i (block_of k)))) (item_is s)
    ∙ marked_text level (record { label = option_map name_of s.label; at = s.at }) (deed_of s.core) (block_of k)

-- what a statement does is printed on its first line, and after it
deed_text : (level : ℕ) (d : Deed) → text_of (head_parts d) ++ text_of (arms_parts level d) ≡ text_of (deed_parts level d)
deed_text level (simple s) = append-nil _
deed_text level (branch side a b) = simp (text_of-append, append_assoc)
deed_text level (repeat side a) = simp (text_of-append, append_assoc)

pub deed_printed : (level : ℕ) (d : Deed) (s mid new : List ℕ) → mid ≡ s ++ text_of (head_parts d) → new ≡ mid ++ text_of (arms_parts level d)
    → new ≡ s ++ text_of (deed_parts level d)
deed_printed level d s mid new h e =
    e ∙ ap (λ (t : List ℕ). t ++ text_of (arms_parts level d)) h ∙ append_assoc s _ _ ∙ ap (λ (t : List ℕ). s ++ t) (deed_text level d)

-- one more statement is printed
pub one_printed : {A : Type 0} (level : ℕ) (l : List (Stmt A)) (i : ℕ) (s : Stmt A) (old s1 s2 new w : List ℕ) → i < length l
    → s ≡ get_or l i s
    → old ++ text_of (block_parts level (block_of (drop i l))) ≡ w
    → s1 ≡ old ++ text_of (margin level) → s2 ≡ s1 ++ text_of (label_parts (option_map name_of s.label))
    → new ≡ s2 ++ text_of (deed_parts level (deed_of s.core))
    → new ++ text_of (block_parts level (block_of (drop (i + 1) l))) ≡ w
one_printed {A} level l i s old s1 s2 new w lt is h h1 h2 h3 =
    let step : drop i l ≡ s ∷ drop (i + 1) l = drop_more l i s lt ∙ ap (λ (y : Stmt A). y ∷ drop (i + 1) l) (sym is) in
    let text : text_of (block_parts level (block_of (drop i l))) ≡ text_of
    (margin level)
    ++ (text_of (label_parts (option_map name_of s.label))
    ++ (text_of (deed_parts level (deed_of s.core)) ++ text_of (block_parts level (block_of (drop (i + 1) l))))) =
    ap (λ (x : List (Stmt A)). text_of (block_parts level (block_of x))) step ∙ first_text level s (drop (i + 1) l) in
    rw (h3, h2, h1) (simp append_assoc (ap (λ (t : List ℕ). old ++ t) (sym text) ∙ h))

pub none_left : {A : Type 0} (level : ℕ) (l : List (Stmt A)) (i : ℕ) (old w : List ℕ) → length l ≤ i
    → old ++ text_of (block_parts level (block_of (drop i l))) ≡ w → old ≡ w
none_left {A} level l i old w le h =
    sym (append-nil old) ∙ ap (λ (x : List (Stmt A)). old ++ text_of (block_parts level (block_of x))) (sym (drop_all i l le)) ∙ h
