-- Statements lowered one after the other.
use Rattle.std.proofs.Common.{◌≡◌, ℕ, suc, ◌+◌, ◌<◌, Option, Some, None, option_map, List, [], ◌++◌, ◌∷◌, length, map, refl, sym, ◌∙◌, ap}
use Rattle.std.proofs.Common.{arith}
use Rattle.std.proofs.lemmas.List.{map-append, append_assoc, append-nil}
use Rattle.std.proofs.lemmas.Option.{none-some, same_Some}
use Rattle.language.specs.Tree as tree
use Rattle.language.specs.Tree.{Mark, done, one, choose, loop}
use Rattle.language.specs.Resolve.{Scope, resolve_mark, resolve_simple, resolve_side, resolve_block}
use Rattle.language.specs.Rest.{Code, join}
use Rattle.language.specs.Step.{Routine}
use Rattle.language.specs.Sequential.{statements, numbered, marked}
use Rattle.language.specs.Flow.{rests}
use Rattle.trees.specs.declared.tree.Stmt.{Stmt}
use Rattle.trees.specs.Trees.{Deed, simple, branch, repeat, item_of, block_of}
use Rattle.flow_graph.specs.Nodes.{Node, point_at, node_of, goes, stops, goes_to, tests}
use Rattle.flow_graph.specs.Flows.{Widths, Does, AllDo, Lowered}
use Rattle.flow_graph.specs.declared.flow.Flow.{Flow}
use Rattle.flow_graph.proofs.NumberedCodeLemmas.{Names, led, tail, inner, inner_second, behind_two}
use Rattle.flow_graph.proofs.NumberedCodeLemmas.{resolved_statements, behind_simple, behind_branch, behind_repeat}

-- a first statement begins at its number
begins_led : (n : ℕ) (s : Scope) (m : Mark tree.Name) (d : Deed) (t : Names) (k : Code) → n ≡ point_at (join (led n s m d t) k)
begins_led n s m (simple c) t k = refl
begins_led n s m _ t k = refl

pub begins : {A : Type 0} (l : List (Stmt A)) (n : ℕ) (s : Scope) (k : Code) → 0 < length l →
    n ≡ point_at (join (numbered n (resolve_block s (block_of l))) k)
begins [] n s k h = absurd (omega (arith, h))
begins (x ∷ l) n s k h = begins_led n s (item_of x).mark (item_of x).deed (block_of l) k

-- a label that is found, and one that is not
pub goes_found : (o : Option Code) (to : ℕ) → option_map point_at o ≡ Some to → goes_to o ≡ goes to
goes_found None to e = absurd (none-some _ e)
goes_found (Some r) to e = ap goes (same_Some (point_at r) to e)

pub goes_lost : (o : Option Code) → option_map point_at o ≡ None → goes_to o ≡ stops
goes_lost None e = refl
goes_lost (Some r) e = absurd (none-some _ (sym e))

-- what can be left to run from a statement and those inside of it on, and then from those after it on
rests_led : (n : ℕ) (s : Scope) (m : Mark tree.Name) (d : Deed) (t : Names) (k : Code)
    → rests (led n s m d t) k ≡ rests (led n s m d done) (join (tail n s m d t) k) ++ rests (tail n s m d t) k
rests_led n s m (simple c) t k =
    ap (λ T. rests (one (marked n (resolve_mark m)) (resolve_simple s c) done) (join T k) ++ rests T k) (behind_simple n s m t c)
rests_led n s m (branch r a b) t k =
    let A = inner n s a in
    let B = inner_second n s a b in
    let T' = behind_two n s a b t in
    ap (λ l. choose (marked n (resolve_mark m)) (resolve_side s r) A B (join T' k) ∷ l)
    (ap (λ l. rests A (join T' k) ++ (l ++ rests T' k)) (sym (append-nil (rests B (join T' k))))
    ∙ sym (append_assoc (rests A (join T' k)) (rests B (join T' k) ++ []) (rests T' k)))
    ∙ ap (λ T. rests (choose (marked n (resolve_mark m)) (resolve_side s r) A B done) (join T k) ++ rests T k)
    (behind_branch n s m t r a b)
rests_led n s m (repeat r a) t k =
    let A = inner n s a in
    let T' = inner_second n s a t in
    let again : Code → Code = λ z. loop (marked n (resolve_mark m)) (resolve_side s r) A z in
    ap (λ l. again (join T' k) ∷ (l ++ rests T' k)) (sym (append-nil (rests A (again (join T' k)))))
    ∙ ap (λ T. rests (again done) (join T k) ++ rests T k) (behind_repeat n s m t r a)

pub nodes_split : {A : Type 0} (routine : Routine) (n j : ℕ) (s : Scope) (x : Stmt A) (l : List (Stmt A)) (k : Code)
    → j ≡ n + statements (block_of (x ∷ [])) →
    map (node_of routine) (rests (numbered n (resolve_block s (block_of (x ∷ l)))) k)
    ≡ map (node_of routine)
    (rests (numbered n (resolve_block s (block_of (x ∷ [])))) (join (numbered j (resolve_block s (block_of l))) k))
    ++ map (node_of routine) (rests (numbered j (resolve_block s (block_of l))) k)
nodes_split routine n j s x l k e =
    ap (map (node_of routine)) (rests_led n s (item_of x).mark (item_of x).deed (block_of l) k)
    ∙ map-append (node_of routine)
    (rests (numbered n (resolve_block s (block_of (x ∷ []))))
    (join (numbered (n + statements (block_of (x ∷ []))) (resolve_block s (block_of l))) k))
    (rests (numbered (n + statements (block_of (x ∷ []))) (resolve_block s (block_of l))) k)
    ∙ ap
    (λ i.
    map (node_of routine) (rests (numbered n (resolve_block s (block_of (x ∷ [])))) (join (numbered i (resolve_block s (block_of l))) k))
    ++ map (node_of routine) (rests (numbered i (resolve_block s (block_of l))) k)) (sym e)

-- flows appended to flows
all_do : {A : Type 0} (fs gs : List (Flow A)) (ns ms : List Node) (w : Widths) → AllDo fs ns w → AllDo gs ms w →
    AllDo (fs ++ gs) (ns ++ ms) w
all_do [] gs [] ms w a b = b
all_do (f ∷ fs) gs (n ∷ ns) ms w a b = (a.0, all_do fs gs ns ms w a.1 b)
all_do _ gs _ ms w a b = absurd a

pub lowered_then : {A : Type 0} (old mid new : List (Flow A)) (ns ms : List Node) (w : Widths) → Lowered old mid ns w →
    Lowered mid new ms w → Lowered old new (ns ++ ms) w
lowered_then old mid new ns ms w (fs, e, a) (gs, f, b) =
    (fs ++ gs, f ∙ ap (λ x. x ++ gs) e ∙ append_assoc old fs gs, all_do fs gs ns ms w a b)

pub lowered_none : {A : Type 0} (fs : List (Flow A)) (w : Widths) → Lowered fs fs [] w
lowered_none fs w = ([], sym (append-nil fs), tt)

pub lowered_one : {A : Type 0} (old new : List (Flow A)) (f : Flow A) (n : Node) (w : Widths) → new ≡ old ++ (f ∷ []) →
    Does f n w → Lowered old new (n ∷ []) w
lowered_one old new f n w e d = (f ∷ [], e, (d, tt))

-- what happens at a statement, by what it does
pub node_simple : (routine : Routine) (n : ℕ) (s : Scope) (m : Mark tree.Name) (d : Deed) (c : tree.Simple tree.Name tree.Name tree.Name)
    (k : Code) → d ≡ simple c →
    node_of routine (join (led n s m d done) k) ≡ node_of routine (one (marked n (resolve_mark m)) (resolve_simple s c) k)
node_simple routine n s m d c k is = ap (λ z. node_of routine (join (led n s m z done) k)) is

pub node_branch : (routine : Routine) (n : ℕ) (s : Scope) (m : Mark tree.Name) (d : Deed) (r : tree.RightSide tree.Name)
    (a b : Names) (k : Code) → d ≡ branch r a b →
    node_of routine (join (led n s m d done) k)
    ≡ tests (resolve_side s r) (point_at (join (numbered (suc n) (resolve_block s a)) k))
    (point_at (join (numbered (suc n + statements a) (resolve_block s b)) k))
node_branch routine n s m d r a b k is =
    ap (λ z. node_of routine (join (led n s m z done) k)) is
    ∙ ap (λ j. tests (resolve_side s r) (point_at (join (numbered (suc n) (resolve_block s a)) k))
    (point_at (join (numbered (suc n + j) (resolve_block s b)) k))) (resolved_statements s a)

pub node_repeat : (routine : Routine) (n : ℕ) (s : Scope) (m : Mark tree.Name) (d : Deed) (r : tree.RightSide tree.Name)
    (a : Names) (k : Code) → d ≡ repeat r a →
    node_of routine (join (led n s m d done) k)
    ≡ tests (resolve_side s r) (point_at
    (join (numbered (suc n) (resolve_block s a))
    (loop (marked n (resolve_mark m)) (resolve_side s r) (numbered (suc n) (resolve_block s a)) k))) (point_at k)
node_repeat routine n s m d r a k is = ap (λ z. node_of routine (join (led n s m z done) k)) is

-- what happens at a statement and at those inside of it, which have these numbers
pub nodes_simple : (routine : Routine) (n : ℕ) (s : Scope) (m : Mark tree.Name) (d : Deed) (c : tree.Simple tree.Name tree.Name tree.Name)
    (k : Code) → d ≡ simple c →
    map (node_of routine) (rests (led n s m d done) k) ≡ node_of routine (join (led n s m d done) k) ∷ []
nodes_simple routine n s m d c k is =
    ap (λ z. map (node_of routine) (rests (led n s m z done) k)) is
    ∙ ap (λ z. node_of routine (join (led n s m z done) k) ∷ []) (sym is)

pub nodes_branch : (routine : Routine) (n i j : ℕ) (s : Scope) (m : Mark tree.Name) (d : Deed)
    (r : tree.RightSide tree.Name) (a b : Names) (k : Code) → d ≡ branch r a b → i ≡ suc n → j ≡ suc n + statements a →
    map (node_of routine) (rests (led n s m d done) k)
    ≡ node_of routine (join (led n s m d done) k)
    ∷ (map (node_of routine) (rests (numbered i (resolve_block s a)) k)
    ++ map (node_of routine) (rests (numbered j (resolve_block s b)) k))
nodes_branch routine n i j s m d r a b k is at_i at_j =
    ap (λ z. map (node_of routine) (rests (led n s m z done) k)) is
    ∙ ap (λ l. head ∷ l)
    (ap (λ l. map (node_of routine) (rests A k ++ l)) (append-nil (rests B k)) ∙ map-append (node_of routine) (rests A k) (rests B k))
    ∙ (λ t.
    node_of routine (join (led n s m (sym is t) done) k)
    ∷ (map (node_of routine) (rests (numbered (sym at_i t) (resolve_block s a)) k) ++ map (node_of routine)
    (rests (numbered ((ap (λ z. suc n + z) (resolved_statements s a) ∙ sym at_j) t) (resolve_block s b)) k)))
  where
    A : Code
    A = numbered (suc n) (resolve_block s a)

    B : Code
    B = numbered (suc n + statements (resolve_block s a)) (resolve_block s b)

    head : Node
    head = node_of routine (join (led n s m (branch r a b) done) k)

pub nodes_repeat : (routine : Routine) (n i : ℕ) (s : Scope) (m : Mark tree.Name) (d : Deed) (r : tree.RightSide tree.Name) (a : Names)
    (k : Code) → d ≡ repeat r a → i ≡ suc n →
    map (node_of routine) (rests (led n s m d done) k)
    ≡ node_of routine (join (led n s m d done) k) ∷ map (node_of routine)
    (rests (numbered i (resolve_block s a))
    (loop (marked n (resolve_mark m)) (resolve_side s r) (numbered (suc n) (resolve_block s a)) k))
nodes_repeat routine n i s m d r a k is at_i =
    ap (λ z. map (node_of routine) (rests (led n s m z done) k)) is
    ∙ ap (λ l. node_of routine (join (led n s m (repeat r a) done) k) ∷ map (node_of routine) l)
    (append-nil (rests (numbered (suc n) (resolve_block s a)) again))
    ∙ (λ t.
    node_of routine (join (led n s m (sym is t) done) k)
    ∷ map (node_of routine) (rests (numbered (sym at_i t) (resolve_block s a)) again))
  where
    again : Code
    again = loop (marked n (resolve_mark m)) (resolve_side s r) (numbered (suc n) (resolve_block s a)) k
