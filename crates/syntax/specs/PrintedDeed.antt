-- What is printed for one statement.
use Rattle.std.specs.Prelude.{ℕ, suc, List, [], ◌∷◌, ◌++◌}
use Rattle.language.specs.Tree.{Name, Block}
use Rattle.tokens.specs.declared.vocabulary.Kind.{Kind}
use Rattle.tokens.specs.declared.vocabulary.Kind.TheVariants as kind
use Rattle.tokens.specs.Parts.{Part, line, fixed}
use Rattle.trees.specs.Trees.{Deed, simple, branch, repeat}
use Rattle.grammar.specs.Printed.{simple_parts, test_parts, block_parts, line_parts}

-- What a statement prints after its margin and its label.
abbrev pub deed_parts : ℕ → Deed → List Part
deed_parts level (simple statement) = simple_parts statement ++ (line ∷ [])
deed_parts level (branch side if_true if_false) =
    test_parts kind.If side kind.Then ++ (line ∷ (block_parts (suc level) if_true
    ++ (line_parts level (fixed kind.Else ∷ []) ++ (block_parts (suc level) if_false ++ line_parts level (fixed kind.Fi ∷ [])))))
deed_parts level (repeat side body) =
    test_parts kind.While side kind.Do ++ (line ∷ (block_parts (suc level) body ++ line_parts level (fixed kind.Od ∷ [])))

-- What its first line has after its margin and its label.
abbrev pub head_parts : Deed → List Part
head_parts (simple statement) = simple_parts statement ++ (line ∷ [])
head_parts (branch side if_true if_false) = test_parts kind.If side kind.Then ++ (line ∷ [])
head_parts (repeat side body) = test_parts kind.While side kind.Do ++ (line ∷ [])

-- A block one level further in, and the line that ends it.
abbrev pub arm_parts : ℕ → Block Name Name Name → Kind → List Part
arm_parts level block last = block_parts (suc level) block ++ line_parts level (fixed last ∷ [])

-- What it prints after its first line.
abbrev pub arms_parts : ℕ → Deed → List Part
arms_parts level (simple statement) = []
arms_parts level (branch side if_true if_false) = arm_parts level if_true kind.Else ++ arm_parts level if_false kind.Fi
arms_parts level (repeat side body) = arm_parts level body kind.Od
