-- Statements appended to others.
use Rattle.std.proofs.Common.{◌≡◌, List, [], ◌∷◌, ◌++◌, refl, ◌∙◌, ap, option_map}
use Rattle.std.proofs.lemmas.List.{map-append}
use Rattle.language.specs.Tree as tree
use Rattle.language.specs.Tree.{Mark}
use Rattle.std.specs.Prelude.{Result, Ok, Err, IfOk, IsOkAnd}
use Rattle.trees.specs.declared.tree.Stmt.{Stmt}
use Rattle.trees.specs.declared.tree.Core.{Core}
use Rattle.trees.specs.declared.tree.Core.TheFolds.{fold_out-Stmt}
use Rattle.trees.specs.Trees.{Deed, Item, name_of, core_step, stmt_step, item_of, items_of, deed_of, before, marked_before, all_before}
use Rattle.round_rewrite.specs.Writing.{TextBlock, Lays}

all_before_last : (is : List Item) (i : Item) (k : TextBlock) → all_before (is ++ i ∷ []) k ≡ all_before is (before i k)
all_before_last [] i k = refl
all_before_last (j ∷ is) i k = ap (before j) (all_before_last is i k)

pub lays_pushed : {A : Type 0} (old : List (Stmt A)) (s : Stmt A) {new : List (Stmt A)} → new ≡ old ++ s ∷ []
    → Lays old new (λ k. marked_before (record { label = option_map name_of s.label; at = s.at }) (deed_of s.core) k)
lays_pushed {A} old s e k =
    ap (λ ss. all_before (items_of ss) k) e
    ∙ (ap (λ is. all_before is k) (map-append item_of old (s ∷ []))
    ∙ (all_before_last (items_of old) (item_of s) k
    ∙ ap (λ i. all_before (items_of old) (before i k)) (fold_out-Stmt A Deed Item core_step stmt_step s)))

-- one statement, whose deed is said otherwise
pub laid : {A : Type 0} (a b : List (Stmt A)) (m : Mark tree.Name) (d d' : Deed) → Lays a b (λ k. marked_before m d k) → d ≡ d'
    → Lays a b (λ k. marked_before m d' k)
laid a b m d d' l e k = l k ∙ ap (λ x. all_before (items_of a) (marked_before m x k)) e

-- one statement that could be made
pub made : {A E : Type 0} (r : Result (Core A) E) (a b : List (Stmt A)) (m : Mark tree.Name) (d : Deed)
    → IsOkAnd r (λ c. Lays a b (λ k. marked_before m (deed_of c) k)) → IfOk r (λ c. deed_of c ≡ d)
    → Lays a b (λ k. marked_before m d k)
made (Ok c) a b m d l e = laid a b m (deed_of c) d l e
made (Err f) a b m d l e = absurd l
