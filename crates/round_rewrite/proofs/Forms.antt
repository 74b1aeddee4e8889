-- Statements rewritten, one after the other.
use Rattle.std.proofs.Common.{◌≡◌, ℕ, zero, suc, ◌+◌, ◌*◌, ◌<◌, ◌≤◌, List, [], ◌∷◌, length, get_or, drop, map}
use Rattle.std.proofs.Common.{Option, option_map, refl, sym, ◌∙◌, ap, arith}
use Rattle.std.proofs.lemmas.List.{drop_more, drop_all}
use Rattle.std.proofs.lemmas.Result.{IfOk-weaker}
use Rattle.std.specs.Prelude.{Result, IfOk}
use Rattle.language.specs.Tree as tree
use Rattle.language.specs.Tree.{RightSide, any, assign, Block, done, one, choose, loop}
use Rattle.language.specs.Rest.{join}
use Rattle.language.specs.Sequential.{statements}
use Rattle.trees.specs.declared.tree.Stmt.{Stmt}
use Rattle.trees.specs.declared.tree.Core.{Core}
use Rattle.trees.specs.declared.tree.Core.TheFolds.{fold_out-Stmt}
use Rattle.trees.specs.Trees.{Deed, simple, branch, repeat, Item, name_of, core_step, stmt_step, items_of, deed_of, marked_before}
use Rattle.trees.specs.Trees.{all_before, block_of}
use Rattle.trees.specs.Parts.{first_inside, second_inside}
use Rattle.trees.proofs.Held.{held}
use Rattle.round_rewrite.specs.Table.{Naming, numbers, each, no_mark, side, drawing, prologue, statement, rewritten}
use Rattle.round_rewrite.specs.Writing.{TextBlock, Lays, bare_form, form, forms}
use Rattle.language.proofs.Rests.{join_done}
use Rattle.round_rewrite.proofs.Blocks.{statement-join}

-- the measure falls from a statement to the first statements that it holds
pub first_smaller : (d : Deed) (b : TextBlock) → first_inside d ≡ b → 2 * statements b < 2 * held d + 1
first_smaller d b e =
    let f = ap statements e in
    omega (arith, f)

-- the measure falls from a statement to the second statements that it holds
pub second_smaller : (d : Deed) (b : TextBlock) → second_inside d ≡ b → 2 * statements b < 2 * held d + 1
second_smaller d b e =
    let f = ap statements e in
    omega (arith, f)

module _ (w : Naming tree.Name tree.Name tree.Name tree.Name) (last : ℕ) where
  -- statements rewritten in front of others are the rewritten block, joined with the others
  pub forms_rewritten : (is : List Item) (k : TextBlock) → forms w last is k ≡ join (rewritten w last (all_before is done)) k
  forms_rewritten [] k = refl
  forms_rewritten (i ∷ is) k = by_deed i.deed (forms_rewritten is k)
    where
      by_deed : (d : Deed) → forms w last is k ≡ join (rewritten w last (all_before is done)) k
          → prologue w last i.mark (bare_form w last d (forms w last is k))
          ≡ join (rewritten w last (marked_before i.mark d (all_before is done))) k
      by_deed (simple s) e =
          ap (prologue w last i.mark) (ap (statement w last s) e
          ∙ sym (statement-join w last s (rewritten w last (all_before is done)) k))
      by_deed (branch r a b) e =
          ap (λ t. prologue w last i.mark (choose no_mark (side w last r) (rewritten w last a) (rewritten w last b) t)) e
      by_deed (repeat r a) e =
          ap (λ t. prologue w last i.mark (loop no_mark (side w last r) (join (rewritten w last a) (prologue w last no_mark done)) t)) e

  -- a block rewritten from nothing, with others after it
  pub block_whole : {M N : Type 0} (start new : List (Stmt M)) (body items : List (Stmt N)) → start ≡ [] → body ≡ items
      → Lays start new (λ k. forms w last (items_of body) k) → (k : TextBlock)
      → all_before (items_of new) k ≡ join (rewritten w last (block_of items)) k
  block_whole start new body items e f l k =
      l k
      ∙ (ap (λ s. all_before (items_of s) (forms w last (items_of body) k)) e
      ∙ (ap (λ b. forms w last (items_of b) k) f ∙ forms_rewritten (items_of items) k))

  -- a block rewritten from nothing
  pub block_done : {M N : Type 0} (start new : List (Stmt M)) (body items : List (Stmt N)) → start ≡ [] → body ≡ items
      → Lays start new (λ k. forms w last (items_of body) k) → block_of new ≡ rewritten w last (block_of items)
  block_done start new body items e f l = block_whole start new body items e f l done ∙ join_done (rewritten w last (block_of items))

  pub drawing_some : (n : ℕ) (k : TextBlock) → (n ≡ 0 → ⊥)
      → drawing w last n k ≡ one no_mark (assign (map w.drawn (numbers 0 n)) (each any (numbers 0 n))) k
  drawing_some zero k some = absurd (some refl)
  drawing_some (suc n) k some = refl

  -- what one statement is rewritten to
  pub by_core : {M N : Type 0} (a b : List (Stmt M)) (core : Core N) (d : Deed) → deed_of core ≡ d
      → Lays a b (λ k. bare_form w last d k)
      → Lays a b (λ k. bare_form w last (deed_of core) k)
  by_core a b core d e l k = l k ∙ ap (λ x. all_before (items_of a) (bare_form w last x k)) (sym e)

  -- the same for a list that came if memory did not run out
  pub core_is : {M N V E : Type 0} (r : Result V E) (items : V → List (Stmt M)) (a : List (Stmt M)) (core : Core N)
      (d : Deed) → d ≡ deed_of core → IfOk r (λ v. Lays a (items v) (λ k. bare_form w last d k))
      → IfOk r (λ v. Lays a (items v) (λ k. bare_form w last (deed_of core) k))
  core_is r items a core d e h = IfOk-weaker r _ _ (λ v l. by_core a (items v) core d (sym e) l) h

  -- a statement that becomes one statement, which is pushed
  pub pushed_is : {M N V E : Type 0} (r : Result V E) (new a : List (Stmt M)) (core : Core N) (d p p' : Deed) → deed_of core ≡ d
      → p' ≡ p → ((k : TextBlock) → marked_before no_mark p k ≡ bare_form w last d k)
      → IfOk r (λ v. Lays a new (λ k. marked_before no_mark p' k))
      → IfOk r (λ v. Lays a new (λ k. bare_form w last (deed_of core) k))
  pushed_is r new a core d p p' e f same h =
      IfOk-weaker r _ _ (λ v l k. l k ∙ (ap (λ x. all_before (items_of a) (marked_before no_mark x k)) f
      ∙ (ap (all_before (items_of a)) (same k) ∙ ap (λ x. all_before (items_of a) (bare_form w last x k)) (sym e)))) h

  -- an `if` whose branches are rewritten
  pub if_is : {M N V E : Type 0} (r : Result V E) (items : V → List (Stmt M)) (a : List (Stmt M)) (core : Core N)
      (s : RightSide tree.Name) (x y x' y' : TextBlock) → deed_of core ≡ branch s x y → x' ≡ rewritten w last x
      → y' ≡ rewritten w last y → IfOk r (λ v. Lays a (items v) (λ k. choose no_mark (side w last s) x' y' k))
      → IfOk r (λ v. Lays a (items v) (λ k. bare_form w last (deed_of core) k))
  if_is r items a core s x y x' y' d e f h =
      core_is r items a core (branch s x y) (sym d)
      (IfOk-weaker r _ _ (λ v l k. l k ∙ (λ i. all_before (items_of a) (choose no_mark (side w last s) (e i) (f i) k))) h)

  -- a `while` whose body is rewritten
  pub while_is : {M N V E : Type 0} (r : Result V E) (items : V → List (Stmt M)) (a : List (Stmt M)) (core : Core N)
      (s : RightSide tree.Name) (x x' : TextBlock) → deed_of core ≡ repeat s x
      → x' ≡ join (rewritten w last x) (prologue w last no_mark done)
      → IfOk r (λ v. Lays a (items v) (λ k. loop no_mark (side w last s) x' k))
      → IfOk r (λ v. Lays a (items v) (λ k. bare_form w last (deed_of core) k))
  while_is r items a core s x x' d e h =
      core_is r items a core (repeat s x) (sym d)
      (IfOk-weaker r _ _ (λ v l k. l k ∙ (λ i. all_before (items_of a) (loop no_mark (side w last s) (e i) k))) h)

  module _ {M N : Type 0} (ss : List (Stmt N)) (i : ℕ) where
    module _ (s : Stmt N) (lt : i < length ss) (is : s ≡ get_or ss i s) where
      -- one more statement is rewritten
      pub one_more : (old mid new : List (Stmt M)) (label : Option tree.Name)
          → label ≡ option_map name_of s.label → Lays old mid (λ k. prologue w last (record { label = label; at = s.at }) k)
          → Lays mid new (λ k. bare_form w last (deed_of s.core) k) → (whole : TextBlock → TextBlock)
          → ((rest : TextBlock) → all_before (items_of old) (forms w last (items_of (drop i ss)) rest) ≡ whole rest)
          → (rest : TextBlock)
          → all_before (items_of new) (forms w last (items_of (drop (i + 1) ss)) rest) ≡ whole rest
      one_more old mid new label named begun laid whole so rest =
          let k = forms w last (items_of (drop (i + 1) ss)) rest in
          let here = ap items_of (drop_more ss i s lt ∙ ap (λ (y : Stmt N). y ∷ drop (i + 1) ss) (sym is)) in
          laid k
          ∙ (begun (bare_form w last (deed_of s.core) k)
          ∙ (ap
          (λ l. all_before (items_of old) (prologue w last (record { label = l; at = s.at }) (bare_form w last (deed_of s.core) k))) named
          ∙ (sym (ap (λ j. all_before (items_of old) (form w last j k)) (fold_out-Stmt N Deed Item core_step stmt_step s))
          ∙ (sym (ap (λ is'. all_before (items_of old) (forms w last is' rest)) here) ∙ so rest))))

    -- all statements are rewritten
    pub no_more : length ss ≤ i → (new : List (Stmt M)) (whole : TextBlock → TextBlock)
        → ((rest : TextBlock) → all_before (items_of new) (forms w last (items_of (drop i ss)) rest) ≡ whole rest)
        → (rest : TextBlock)
        → all_before (items_of new) rest ≡ whole rest
    no_more le new whole so rest =
        sym (ap (λ l. all_before (items_of new) (forms w last (items_of l) rest)) (drop_all i ss le)) ∙ so rest
