-- Asserts compiled one after the other, and what they tell of the states of a program.
use Rattle.std.proofs.Common.{◌≡◌, ◌↔◌, ◌≤◌, ℕ, suc, ◌+◌, ◌<◌, Bool, true, false, not, Option, Some, None, option_map, List, [], ◌∷◌, ◌++◌}
use Rattle.std.proofs.Common.{length, map, slice_get, drop, get_or, inl, inr, refl, sym, ◌∙◌, ap, ap₂, subst, arith}
use Rattle.std.specs.Prelude.{Result, Ok, IfOk}
use Rattle.std.proofs.lemmas.Bool.{false≢true}
use Rattle.std.proofs.lemmas.List.{map-append, append_assoc, append-nil, drop_more, drop_all, length-map}
use Rattle.std.proofs.lemmas.Option.{none-some, same_Some, slice_get-map, slice_get_cases, slice_get_within}
use Rattle.language.specs.Tree as tree
use Rattle.language.specs.Tree.{RightSide, any, value, assert, skip, assign, assume, goto, leave, call, leave_with, call_for}
use Rattle.language.specs.Tree.{Mark, Block, done, one, choose, loop}
use Rattle.language.specs.Parts.{plain}
use Rattle.language.specs.Value.{Place, value_of}
use Rattle.language.specs.Rest.{Code, join}
use Rattle.language.specs.Step.{Routine, Program, Frame, frame, state, body_of, Fails}
use Rattle.language.specs.Resolve.{Scope, resolve_block, resolve_side}
use Rattle.language.specs.Sequential.{numbered, statements, sequential_of}
use Rattle.language.specs.Flow.{rests, IsRestOf}
use Rattle.language.proofs.StepKinds.{routine_found}
use Rattle.resolved.proofs.Sequences.{routines_counted, routine_at}
use Rattle.trees.specs.Trees.{Deed, simple, branch, repeat, item_of, deed_of, block_of, proc_of, tree_of, marked_before}
use Rattle.trees.specs.Parts.{head_of, first_inside, second_inside}
use Rattle.trees.specs.declared.tree.Stmt.{Stmt}
use Rattle.trees.specs.declared.tree.Proc.{Proc}
use Rattle.trees.specs.declared.tree.Program as declared
use Rattle.trees.proofs.Folds.{item_deed}
use Rattle.flow_graph.specs.Bits.{coded}
use Rattle.flow_graph.specs.Nodes.{point_at}
use Rattle.flow_graph.specs.Asserted.{asserted_by, asserts_in, is_refuted, may_be_0, may_be_0_at, SaysAssert, fails_in}
use Rattle.flow_graph.specs.Asserted.{TellFailures}
use Rattle.flow_graph.specs.Asserted.{AreAssertsOf}
use Rattle.flow_graph.specs.Drawing.{names_in, drawn_routine, AreAssertsIn}
use Rattle.flow_graph.specs.declared.side.CompiledSide.{CompiledSide}
use Rattle.flow_graph.specs.declared.asserts.ProcedureAsserts.{ProcedureAsserts}
use Rattle.flow_graph.specs.declared.asserts.Asserts.{Asserts}
use Rattle.flow_graph.proofs.GraphLemmas.{rest_placed, AllMade}

abbrev Names : Type 0
Names = Block tree.Name tree.Name tree.Name

-- what a statement asserts, then what those inside of it do, then those after it
before_asserts : (m : Mark tree.Name) (d : Deed) (k : Names) → asserts_in (marked_before m d k)
    ≡ asserted_by (head_of d) ∷ (asserts_in (first_inside d) ++ (asserts_in (second_inside d) ++ asserts_in k))
before_asserts m (simple s) k = refl
before_asserts m (branch r a b) k = refl
before_asserts m (repeat r a) k = refl

first_asserts : {A : Type 0} (s : Stmt A) (l : List (Stmt A)) → asserts_in (block_of (s ∷ l))
    ≡ asserted_by (head_of (deed_of s.core))
    ∷ (asserts_in (first_inside (deed_of s.core)) ++ (asserts_in (second_inside (deed_of s.core)) ++ asserts_in (block_of l)))
first_asserts s l =
    before_asserts (item_of s).mark (item_of s).deed (block_of l)
    ∙ ap (λ d. asserted_by (head_of d) ∷ (asserts_in (first_inside d) ++ (asserts_in (second_inside d) ++ asserts_in (block_of l))))
    (item_deed s)

own_asserts : {A : Type 0} (s : Stmt A) → asserts_in (block_of (s ∷ []))
    ≡ (asserted_by (head_of (deed_of s.core)) ∷ [])
    ++ (asserts_in (first_inside (deed_of s.core)) ++ asserts_in (second_inside (deed_of s.core)))
own_asserts s =
    first_asserts s []
    ∙ ap (λ l. asserted_by (head_of (deed_of s.core)) ∷ (asserts_in (first_inside (deed_of s.core)) ++ l))
    (append-nil (asserts_in (second_inside (deed_of s.core))))

split_asserts : {A : Type 0} (s : Stmt A) (l : List (Stmt A))
    → asserts_in (block_of (s ∷ l)) ≡ asserts_in (block_of (s ∷ [])) ++ asserts_in (block_of l)
split_asserts s l =
    let d = deed_of s.core in
    first_asserts s l
    ∙ ap (λ z. asserted_by (head_of d) ∷ z)
    (sym (append_assoc (asserts_in (first_inside d)) (asserts_in (second_inside d)) (asserts_in (block_of l))))
    ∙ ap (λ z. z ++ asserts_in (block_of l)) (sym (own_asserts s))

next_asserts : {A : Type 0} (l : List (Stmt A)) (i : ℕ) (s : Stmt A) → i < length l → s ≡ get_or l i s →
    asserts_in (block_of (drop i l)) ≡ asserts_in (block_of (s ∷ [])) ++ asserts_in (block_of (drop (i + 1) l))
next_asserts {A} l i s lt is =
    ap (λ x. asserts_in (block_of x)) (drop_more l i s lt ∙ ap (λ (y : Stmt A). y ∷ drop (i + 1) l) (sym is))
    ∙ split_asserts s (drop (i + 1) l)

abbrev Sides : Type 0 → Type 0
Sides A = List (Option (CompiledSide A))

module _ {A : Type 0} (s : Scope) where
  -- for each of these has been appended to others what says whether 0 is a value of it
  abbrev pub Put : Sides A → Sides A → List (Option (RightSide tree.Name)) → Type 0
  Put old new asserted =
      (gs ls : List Bool) → length gs ≡ length s.globals →
      map (λ side. may_be_0 side (coded (gs ++ ls))) new
      ≡ map (λ side. may_be_0 side (coded (gs ++ ls))) old ++ map (λ o. is_refuted gs ls (option_map (resolve_side s) o)) asserted

  pub put_none : (old : Sides A) → Put old old []
  put_none old gs ls wide = sym (append-nil (map (λ side. may_be_0 side (coded (gs ++ ls))) old))

  pub put_then : (old mid new : Sides A) (os us : List (Option (RightSide tree.Name))) → Put old mid os → Put mid new us
      → Put old new (os ++ us)
  put_then old mid new os us first second gs ls wide =
      let says : Option (CompiledSide A) → Bool = λ side. may_be_0 side (coded (gs ++ ls)) in
      let refuted : Option (RightSide tree.Name) → Bool = λ o. is_refuted gs ls (option_map (resolve_side s) o) in
      second gs ls wide
      ∙ ap (λ l. l ++ map refuted us) (first gs ls wide)
      ∙ append_assoc (map says old) (map refuted os) (map refuted us)
      ∙ ap (λ l. map says old ++ l) (sym (map-append refuted os us))

  pub put_one : (old new : Sides A) (side : Option (CompiledSide A)) (o : Option (RightSide tree.Name)) → new ≡ old ++ side ∷ []
      → SaysAssert side s o → Put old new (o ∷ [])
  put_one old new side o is says gs ls wide =
      let f : Option (CompiledSide A) → Bool = λ z. may_be_0 z (coded (gs ++ ls)) in
      ap (map f) is ∙ map-append f old (side ∷ []) ∙ ap (λ b. map f old ++ b ∷ []) (says gs ls wide)

  -- the next statement of a list
  pub put_next : {N : Type 0} (stmts : List (Stmt N)) (i : ℕ) (stmt : Stmt N) (old mid new : Sides A) → i < length stmts
      → stmt ≡ get_or stmts i stmt
      → Put old mid (asserts_in (block_of (stmt ∷ []))) → Put mid new (asserts_in (block_of (drop (i + 1) stmts)))
      → Put old new (asserts_in (block_of (drop i stmts)))
  put_next stmts i stmt old mid new lt is here more =
      subst (Put old new) (sym (next_asserts stmts i stmt lt is))
      (put_then old mid new (asserts_in (block_of (stmt ∷ []))) (asserts_in (block_of (drop (i + 1) stmts))) here more)

  pub put_end : {N : Type 0} (stmts : List (Stmt N)) (i : ℕ) (old : Sides A) → length stmts ≤ i
      → Put old old (asserts_in (block_of (drop i stmts)))
  put_end stmts i old past = subst (λ l. Put old old (asserts_in (block_of l))) (sym (drop_all i stmts past)) (put_none old)

  -- a statement, and those inside of it
  pub put_own : {N E : Type 0} (stmt : Stmt N) (first second : List (Stmt N)) (old head mid new : Sides A)
      (made : Result (Option (CompiledSide A)) E)
      → IfOk made (λ side. SaysAssert side s (asserted_by (head_of (deed_of stmt.core))))
      → (side : Option (CompiledSide A)) × (made ≡ Ok side) × (head ≡ old ++ side ∷ [])
      → block_of first ≡ first_inside (deed_of stmt.core) → block_of second ≡ second_inside (deed_of stmt.core)
      → Put head mid (asserts_in (block_of first)) → Put mid new (asserts_in (block_of second))
      → Put old new (asserts_in (block_of (stmt ∷ [])))
  put_own stmt first second old head mid new made says (side, is, pushed) at_first at_second left right =
      let d = deed_of stmt.core in
      let o = asserted_by (head_of d) in
      let inside = asserts_in (first_inside d) in
      let inside_second = asserts_in (second_inside d) in
      subst (Put old new) (sym (own_asserts stmt))
      (put_then old head new (o ∷ []) (inside ++ inside_second)
      (put_one old head side o pushed (subst (λ r. IfOk r (λ z. SaysAssert z s o)) is says))
      (put_then head mid new inside inside_second (subst (λ b. Put head mid (asserts_in b)) at_first left)
      (subst (λ b. Put mid new (asserts_in b)) at_second right)))

-- what the first statement of a rest asserts, if it is an assert
abbrev first_asserted : Code → Option (RightSide Place)
first_asserted done = None
first_asserted (one m s t) = asserted_by (plain s)
first_asserted (choose m r a b t) = None
first_asserted (loop m r a t) = None

-- the rests of a block begin with its asserts
rests_asserts : (b k : Code) → map first_asserted (rests b k) ≡ asserts_in b
rests_asserts done k = refl
rests_asserts (one m s t) k = ap (λ l. asserted_by (plain s) ∷ l) (rests_asserts t k)
rests_asserts (choose m r a b t) k =
    ap (λ l. None ∷ l)
    (map-append first_asserted (rests a (join t k)) (rests b (join t k) ++ rests t k)
    ∙ ap₂ (λ x y. x ++ y) (rests_asserts a (join t k))
    (map-append first_asserted (rests b (join t k)) (rests t k)
    ∙ ap₂ (λ x y. x ++ y) (rests_asserts b (join t k)) (rests_asserts t k)))
rests_asserts (loop m r a t) k =
    ap (λ l. None ∷ l)
    (map-append first_asserted (rests a (loop m r a (join t k))) (rests t k)
    ∙ ap₂ (λ x y. x ++ y) (rests_asserts a (loop m r a (join t k))) (rests_asserts t k))

-- numbers don't matter to what is asserted
numbered_asserts : (n : ℕ) (b : Code) → asserts_in (numbered n b) ≡ asserts_in b
numbered_asserts n done = refl
numbered_asserts n (one m s t) = ap (λ l. asserted_by (plain s) ∷ l) (numbered_asserts (suc n) t)
numbered_asserts n (choose m r a b t) =
    ap (λ l. None ∷ l)
    (ap₂ (λ x y. x ++ y) (numbered_asserts (suc n) a)
    (ap₂ (λ x y. x ++ y) (numbered_asserts (suc n + statements a) b)
    (numbered_asserts (suc n + (statements a + statements b)) t)))
numbered_asserts n (loop m r a t) =
    ap (λ l. None ∷ l)
    (ap₂ (λ x y. x ++ y) (numbered_asserts (suc n) a) (numbered_asserts (suc n + statements a) t))

-- what is asserted by places is what is asserted by names
resolved_asserts : (s : Scope) (b : Names) → asserts_in (resolve_block s b) ≡ map (option_map (resolve_side s)) (asserts_in b)
resolved_asserts s done = refl
resolved_asserts s (one m (assert r) t) = ap (λ l. Some (resolve_side s r) ∷ l) (resolved_asserts s t)
resolved_asserts s (one m _ t) = ap (λ l. None ∷ l) (resolved_asserts s t)
resolved_asserts s (choose m r a b t) =
    ap (λ l. None ∷ l)
    (ap₂ (λ x y. x ++ y) (resolved_asserts s a)
    (ap₂ (λ x y. x ++ y) (resolved_asserts s b) (resolved_asserts s t)
    ∙ sym (map-append (option_map (resolve_side s)) (asserts_in b) (asserts_in t)))
    ∙ sym (map-append (option_map (resolve_side s)) (asserts_in a) (asserts_in b ++ asserts_in t)))
resolved_asserts s (loop m r a t) =
    ap (λ l. None ∷ l)
    (ap₂ (λ x y. x ++ y) (resolved_asserts s a) (resolved_asserts s t)
    ∙ sym (map-append (option_map (resolve_side s)) (asserts_in a) (asserts_in t)))

-- a state fails where 0 is a value of what the first statement of its top frame asserts
module _ (gs ls : List Bool) (q : ℕ) (fs : List Frame) where
  refuted_side : (r : RightSide Place) (m : Mark (List ℕ)) (t : Code) → (is_refuted gs ls (Some r) ≡ true)
      ↔ Fails (state gs (frame q ls (one m (assert r) t) ∷ fs))
  refuted_side any m t = (λ e. tt, λ u. refl)
  refuted_side (value e) m t = (there (value_of gs ls e), λ is. ap not (sym is))
    where
      there : (b : Bool) → not b ≡ true → false ≡ b
      there false h = refl
      there true h = absurd (false≢true h)

  refuted_fails : (r : Code) → (is_refuted gs ls (first_asserted r) ≡ true) ↔ Fails (state gs (frame q ls r ∷ fs))
  refuted_fails (one m (assert r) t) = refuted_side r m t
  refuted_fails (one m skip t) = (λ e. absurd (false≢true e), λ h. absurd h)
  refuted_fails (one m (assign xs rs) t) = (λ e. absurd (false≢true e), λ h. absurd h)
  refuted_fails (one m (assume r) t) = (λ e. absurd (false≢true e), λ h. absurd h)
  refuted_fails (one m (goto x) t) = (λ e. absurd (false≢true e), λ h. absurd h)
  refuted_fails (one m leave t) = (λ e. absurd (false≢true e), λ h. absurd h)
  refuted_fails (one m (call n es) t) = (λ e. absurd (false≢true e), λ h. absurd h)
  refuted_fails (one m (leave_with e) t) = (λ e. absurd (false≢true e), λ h. absurd h)
  refuted_fails (one m (call_for x n es) t) = (λ e. absurd (false≢true e), λ h. absurd h)
  refuted_fails done = (λ e. absurd (false≢true e), λ h. absurd h)
  refuted_fails (choose m r a b t) = (λ e. absurd (false≢true e), λ h. absurd h)
  refuted_fails (loop m r a t) = (λ e. absurd (false≢true e), λ h. absurd h)

said_there : {A : Type 0} (o : Option (Option (CompiledSide A))) (n : ℕ) (b : Bool) → option_map (λ side. may_be_0 side n) o ≡ Some b
    → may_be_0_at o n ≡ b
said_there None n b e = absurd (none-some b e)
said_there (Some side) n b e = same_Some _ b e

-- the asserts of a procedure tell which states fail
module _ {N A : Type 0} (t : declared.Program N) (q : ℕ) (proc : Proc N) (asserts : ProcedureAsserts A)
    (is : slice_get t.procs.items q ≡ Some proc) (are : AreAssertsIn t proc asserts) where
  abbrev p : Program
  p = sequential_of (tree_of t)

  abbrev own : Routine
  own = drawn_routine t proc

  same : body_of (slice_get p.routines q) ≡ own.body
  same = ap body_of (routine_at (tree_of t) q (proc_of proc) (slice_get-map proc_of t.procs.items q ∙ ap (option_map proc_of) is))

  told : (gs ls : List Bool) (r : Code) → length gs ≡ p.globals → IsRestOf own.body r
      → fails_in (Some asserts) (point_at r) (coded (gs ++ ls)) ≡ is_refuted gs ls (first_asserted r)
  told gs ls r wide rest =
      let s = names_in t proc in
      let block = (proc_of proc).body in
      let says : Option (CompiledSide A) → Bool = λ side. may_be_0 side (coded (gs ++ ls)) in
      let refuted : Option (RightSide Place) → Bool = is_refuted gs ls in
      let body = rests own.body done in
      let asserted : map first_asserted body ≡ map (option_map (resolve_side s)) (asserts_in block) =
      rests_asserts own.body done ∙ numbered_asserts 1 (resolve_block s block) ∙ resolved_asserts s block in
      let first : map (λ z. refuted (first_asserted z)) (done ∷ body) ≡ map says asserts.sides.items =
      ap (λ l. false ∷ l)
      (sym (maps_two refuted first_asserted body) ∙ ap (map refuted) asserted
      ∙ maps_two refuted (option_map (resolve_side s)) (asserts_in block))
      ∙ sym (are gs ls wide) in
      said_there (slice_get asserts.sides.items (point_at r)) (coded (gs ++ ls)) (refuted (first_asserted r))
      (sym (slice_get-map says asserts.sides.items (point_at r))
      ∙ ap (λ l. slice_get l (point_at r)) (sym first)
      ∙ slice_get-map (λ z. refuted (first_asserted z)) (done ∷ body) (point_at r)
      ∙ ap (option_map (λ z. refuted (first_asserted z))) (rest_placed (resolve_block s block) r rest))
    where
      maps_two : {X Y Z : Type 0} (g : Y → Z) (f : X → Y) (l : List X) → map g (map f l) ≡ map (λ x. g (f x)) l
      maps_two g f [] = refl
      maps_two g f (x ∷ l) = ap (λ z. g (f x) ∷ z) (maps_two g f l)

  pub asserts_tell : TellFailures p q (Some asserts)
  asserts_tell r v callers rest wide =
      let here = told v.globals v.places r wide.0 (subst (λ b. IsRestOf b r) same rest) in
      let fails = refuted_fails v.globals v.places q callers r in
      (λ e. fails.0 (sym here ∙ e), λ h. here ∙ fails.1 h)

-- the asserts of all procedures, one for each, are those of the program
pub all_tell : {N A : Type 0} (t : declared.Program N) (asserts : Asserts A)
    → AllMade (AreAssertsIn t) t.procs.items asserts.procedures.items
    → length asserts.procedures.items ≡ length t.procs.items → AreAssertsOf (sequential_of (tree_of t)) asserts
all_tell {N} {A} t asserts all count q =
    elim (slice_get_cases asserts.procedures.items q).1 [
      | inl (own, within, is, at) ↦
          let (proc, there, are) = all q own is in
          subst (TellFailures p q) (sym is) (asserts_tell t q proc own there are)
      | inr (past, none) ↦ subst (TellFailures p q) (sym none) (no_procedure past)
    ]
  where
    p : Program
    p = sequential_of (tree_of t)

    no_procedure : length asserts.procedures.items ≤ q → TellFailures {Alloc = A} p q None
    no_procedure past r v callers rest wide =
        let (routine, found, places) = routine_found (slice_get p.routines q) _ wide.1 in
        absurd
        (omega (
          arith,
          past,
          count,
          slice_get_within p.routines q routine found,
          routines_counted (tree_of t),
          length-map t.procs.items proc_of,
        ))
