-- Each statement of a checked tree rewritten works: its variables are declared, what it calls and goes to is there, and
-- each target has its right side. So the rewritten tree resolves.
use Rattle.std.proofs.Common.{◌≡◌, ℕ, zero, suc, ◌+◌, ◌<◌, ◌≤◌, Bool, true, false, cond, List, [], ◌∷◌, ◌++◌, length, map, reverse, codes}
use Rattle.std.proofs.Common.{Option, Some, None, option_map, inl, inr, refl, sym, ◌∙◌, ap, subst, ap₂, arith, append_assoc}
use Rattle.std.proofs.lemmas.List.{length-map, reverse-reverse}
use Rattle.std.specs.List.{AllByRecursion}
use Rattle.language.specs.Tree.{Name, const, var, RightSide, any, value, Simple, skip, assign, assert, assume, goto, leave, call}
use Rattle.language.specs.Tree.{leave_with, call_for, Mark, Block, done, one, choose, loop, Procedure, ThreadLine, Tree}
use Rattle.language.specs.Rest.{same_text, join}
use Rattle.language.specs.Resolve.{is_declared}
use Rattle.language.proofs.Names.{declared_first}
use Rattle.checked.specs.Checked.{IsChecked}
use Rattle.checked.specs.Faults.{named, known}
use Rattle.resolved.specs.There.{IsThere}
use Rattle.language.specs.Parts.{Head, plain, tests}
use Rattle.resolved.specs.Statements.{Statement, statements_of, variables_of_side, variables_of_sides, label_of, labels_of}
use Rattle.resolved.specs.Resolves.{Resolves}
use Rattle.checked.specs.Rewritable.{IsRewritable}
use Rattle.resolved.proofs.Each.{each_left, each_right}
use Rattle.checked.proofs.Works.{in_either, named_declared, Works, IsGood, Starts, good, threads_start}
use Rattle.checked.proofs.Resolving.{labels_append, working_resolves}
use Rattle.checked.proofs.Rewriting.{checked_rewritable}
use Rattle.round_rewrite.specs.Table as table
use Rattle.round_rewrite.specs.Table.{Naming, numbers, temporaries, raised, each, reset_targets, expression_form, side, targets, sides}
use Rattle.round_rewrite.specs.Table.{draws, drawing, stop_test, prologue, receiver_draws, received, statement, rewritten, guess, guesses}
use Rattle.round_rewrite.specs.Table.{starts, check, checks, copied, globals}
use Rattle.round_rewrite.specs.Names as renamed
use Rattle.round_rewrite.specs.Names.{bit_names, copy_name, save_name, drawn_name, by_names, rewritten_procedure, main_procedure}
use Rattle.round_rewrite.specs.Names.{rewritten_tree}
use Rattle.round_rewrite.proofs.SpellingLemmas.{same_text_refl}
use Rattle.round_rewrite.proofs.NumberingLemmas.{number_right, number_left, in_rows}
use Rattle.round_rewrite.proofs.PlaceLemmas.{last_names, numbered_spelled}
use Rattle.language.proofs.TestLemmas.{at_test}
use Rattle.round_rewrite.proofs.ResolutionLemmas.{rest_room}
use Rattle.round_rewrite.proofs.MeaningLemmas.{not_main}
use Rattle.round_rewrite.proofs.InTurn.{keep_below}
use Rattle.round_rewrite.proofs.Uses.{each_both, any_uses, written_each, numbered_each, each_reversed, rise_uses, rise_even, zeros_use}
use Rattle.round_rewrite.proofs.Uses.{sides_even, Held, at_uses, arguments_use, side_uses}
use Rattle.round_rewrite.proofs.Uses.{targets_held, sides_use, receiver_held, landing_has}
use Rattle.round_rewrite.specs.Limits.{most_rounds, round_bits}

-- a name that is declared in the second of two lists is declared in both
pub declared_right : (x : List ℕ) (xs ys : List Name) → is_declared x ys ≡ true → is_declared x (xs ++ ys) ≡ true
declared_right x xs ys h =
    at_test (λ c. is_declared x (xs ++ ys) ≡ true) (is_declared x xs) (λ e. (number_left x xs ys e).1)
    (λ e. (number_right x xs ys e).1 ∙ h)

-- each of the names is declared
each_declared : (xs ys : List Name) → ((x : List ℕ) → is_declared x xs ≡ true → is_declared x ys ≡ true)
    → AllByRecursion (λ (x : Name). is_declared x.text ys ≡ true) xs
each_declared [] ys f = tt
each_declared (x ∷ xs) ys f = (
  f x.text (ap (λ c. cond c true (is_declared x.text xs)) (same_text_refl x.text)),
  each_declared xs ys (λ z h. f z (declared_right z (x ∷ []) xs h)),
)

temporary_declared : (e j d : ℕ) → e < d → is_declared (drawn_name (j + e)).text (map drawn_name (numbers j d)) ≡ true
temporary_declared e j zero lt = absurd (omega arith)
temporary_declared zero j (suc d) lt =
    let z : j ≡ j + zero = omega arith in
    subst (λ k. is_declared (drawn_name k).text (map drawn_name (numbers j (suc d))) ≡ true) z
    (ap (λ c. cond c true (is_declared (drawn_name j).text (map drawn_name (numbers (suc j) d)))) (same_text_refl (drawn_name j).text))
temporary_declared (suc e) j (suc d) lt =
    let z : suc j + e ≡ j + suc e = omega arith in
    declared_right (drawn_name (j + suc e)).text (drawn_name j ∷ []) (map drawn_name (numbers (suc j) d))
    (subst (λ k. is_declared (drawn_name k).text (map drawn_name (numbers (suc j) d)) ≡ true) z
    (temporary_declared e (suc j) d (omega arith)))

-- what holds for each statement of two blocks holds for each of both joined
each_join : (P : Statement → Type 0) (a b : Block Name Name Name) → AllByRecursion P (statements_of a) → AllByRecursion P (statements_of b)
    → AllByRecursion P (statements_of (join a b))
each_join P done b h g = g
each_join P (one m c t) b h g = (h.0, each_join P t b h.1 g)
each_join P (choose m r x y t) b h g =
    let rest = each_right P (statements_of x) _ h.1 in (
      h.0,
      each_both P (statements_of x) _ (each_left P (statements_of x) _ h.1)
          (each_both P (statements_of y) _ (each_left P (statements_of y) _ rest)
          (each_join P t b (each_right P (statements_of y) _ rest) g)),
    )
each_join P (loop m r x t) b h g = (
  h.0,
  each_both P (statements_of x) _ (each_left P (statements_of x) _ h.1) (each_join P t b (each_right P (statements_of x) _ h.1) g),
)

-- lists of statements with the same labels
labels_both : (xs xs' ys ys' : List Statement) → labels_of xs ≡ labels_of xs' → labels_of ys ≡ labels_of ys'
    → labels_of (xs ++ ys) ≡ labels_of (xs' ++ ys')
labels_both xs xs' ys ys' e f = labels_append xs ys ∙ (ap₂ (λ a b. a ++ b) e f ∙ sym (labels_append xs' ys'))

-- what stands before lists with the same labels makes no difference
labels_behind : (xs ys ys' : List Statement) → labels_of ys ≡ labels_of ys' → labels_of (xs ++ ys) ≡ labels_of (xs ++ ys')
labels_behind xs ys ys' = labels_both xs xs ys ys' refl

labels_join : (a b : Block Name Name Name) → labels_of (statements_of b) ≡ []
    → labels_of (statements_of (join a b)) ≡ labels_of (statements_of a)
labels_join done b e = e
labels_join (one m c t) b e = ap (λ l. label_of m.label ++ l) (labels_join t b e)
labels_join (choose m r x y t) b e =
    ap (λ l. label_of m.label ++ l)
    (labels_behind (statements_of x) _ _ (labels_behind (statements_of y) _ _ (labels_join t b e)))
labels_join (loop m r x t) b e = ap (λ l. label_of m.label ++ l) (labels_behind (statements_of x) _ _ (labels_join t b e))

-- the labels of a rewritten block are those of the block
module _ (own : List Name) (last : ℕ) where
  abbrev naming : Naming Name Name Name Name
  naming = by_names own

  drawing_labels : (n : ℕ) (k : Block Name Name Name)
      → labels_of (statements_of (drawing naming last n k)) ≡ labels_of (statements_of k)
  drawing_labels zero k = refl
  drawing_labels (suc n) k = refl

  statement_labels : (c : Simple Name Name Name) (k : Block Name Name Name)
      → labels_of (statements_of (statement naming last c k)) ≡ labels_of (statements_of k)
  statement_labels (assign xs rs) k =
      drawing_labels (draws naming.is_shared xs rs) (one table.no_mark (assign (targets naming last xs rs) (sides naming last 0 xs rs)) k)
  statement_labels (call_for x q es) k = landing_labels (naming.is_shared x)
    where
      landing_labels : (c : Bool) → labels_of (statements_of (cond c (received naming last x k) k)) ≡ labels_of (statements_of k)
      landing_labels true = refl
      landing_labels false = refl
  statement_labels _ k = refl

  pub labels_kept : (b : Block Name Name Name) → labels_of (statements_of (rewritten naming last b)) ≡ labels_of (statements_of b)
  labels_kept done = refl
  labels_kept (one m c k) = ap (λ l. label_of m.label ++ l) (statement_labels c (rewritten naming last k) ∙ labels_kept k)
  labels_kept (choose m r a b k) =
      ap (λ l. label_of m.label ++ l)
      (labels_both (statements_of (rewritten naming last a)) (statements_of a) _ _ (labels_kept a)
      (labels_both (statements_of (rewritten naming last b)) (statements_of b) _ _ (labels_kept b) (labels_kept k)))
  labels_kept (loop m r a k) =
      ap (λ l. label_of m.label ++ l)
      (labels_both (statements_of (join (rewritten naming last a) (prologue naming last table.no_mark done))) (statements_of a) _ _
      (labels_join (rewritten naming last a) (prologue naming last table.no_mark done) refl ∙ labels_kept a) (labels_kept k))

-- the procedure of a name, rewritten
named_rewritten : (last : ℕ) (x : List ℕ) (ps : List Procedure)
    → named x (map (rewritten_procedure last) ps) ≡ option_map (rewritten_procedure last) (named x ps)
named_rewritten last x [] = refl
named_rewritten last x (p ∷ ps) = go (same_text x p.name.text) (named_rewritten last x ps)
  where
    go : (b : Bool) → named x (map (rewritten_procedure last) ps) ≡ option_map (rewritten_procedure last) (named x ps)
        → cond b (Some (rewritten_procedure last p)) (named x (map (rewritten_procedure last) ps))
        ≡ option_map (rewritten_procedure last) (cond b (Some p) (named x ps))
    go true h = refl
    go false h = h

-- a procedure is there, with a given number of formals
abbrev Takes : Option Procedure → ℕ → Type 0
Takes o n = (o ≡ None → ⊥) × IsThere o (λ r. length r.formals ≡ n)

takes_rewritten : (last n : ℕ) (o : Option Procedure) → Takes o n → Takes (option_map (rewritten_procedure last) o) n
takes_rewritten last n None h = absurd (h.0 refl)
takes_rewritten last n (Some r) h = ((λ e. cc), h.1)

module _ (t : Tree) (last : ℕ) (ok : IsChecked t) (small : last < most_rounds) where
  abbrev t' : Tree
  t' = rewritten_tree last t

  rewritable : IsRewritable t
  rewritable = checked_rewritable t ok

  -- what a call finds in the source is found, rewritten
  takes_there : (q : Name) (n : ℕ) → Takes (named q.text t.procedures) n → Takes (named q.text t'.procedures) n
  takes_there q n h =
      let other : same_text q.text (codes "main__") ≡ false = not_main t rewritable q.text (named_declared q.text t.procedures h.0) in
      let e : named q.text t'.procedures ≡ option_map (rewritten_procedure last) (named q.text t.procedures) =
      ap (λ c. cond c (Some (main_procedure last t)) (named q.text (map (rewritten_procedure last) t.procedures))) other
      ∙ named_rewritten last q.text t.procedures in
      subst (λ o. Takes o n) (sym e) (takes_rewritten last n (named q.text t.procedures) h)

  -- the globals of the rewritten tree, part by part
  abbrev A : List Name
  A = copied (by_names []) last copy_name t.globals (numbers 0 (suc last))

  abbrev B : List Name
  B = copied (by_names []) last save_name t.globals (numbers 1 last)

  abbrev bits : List Name
  bits = reverse (bit_names (round_bits last))

  copies_there : (x : Name) → is_declared x.text t.globals ≡ true → (k : ℕ) → k ≤ last
      → is_declared (copy_name k x).text t'.globals ≡ true
  copies_there x h k le =
      let z : 0 + k ≡ k = omega arith in
      let inA : is_declared (copy_name k x).text A ≡ true =
      subst (λ y. is_declared (copy_name y x).text A ≡ true) z
      (in_rows (by_names []) last copy_name t.globals (numbered_spelled (codes "__")) x h k 0 (suc last) (omega arith) (omega arith)).0 in
      declared_first (copy_name k x).text (A ++ B ++ bits) last_names
      (declared_first (copy_name k x).text (A ++ B) bits (declared_first (copy_name k x).text A B inA))

  saves_there : (x : Name) → is_declared x.text t.globals ≡ true → (k : ℕ) → k < last
      → is_declared (save_name (suc k) x).text t'.globals ≡ true
  saves_there x h k lt =
      let z : 1 + k ≡ suc k = omega arith in
      let inB : is_declared (save_name (suc k) x).text B ≡ true =
      subst (λ y. is_declared (save_name y x).text B ≡ true) z
      (in_rows (by_names []) last save_name t.globals (numbered_spelled (codes "__s")) x h k 1 last lt (omega arith)).0 in
      declared_first (save_name (suc k) x).text (A ++ B ++ bits) last_names
      (declared_first (save_name (suc k) x).text (A ++ B) bits (declared_right (save_name (suc k) x).text A B inB))

  bits_there : (x : List ℕ) → is_declared x bits ≡ true → is_declared x t'.globals ≡ true
  bits_there x h =
      declared_first x (A ++ B ++ bits) last_names (declared_right x (A ++ B) bits h)

  lasts_there : (x : List ℕ) → is_declared x last_names ≡ true → is_declared x t'.globals ≡ true
  lasts_there x h =
      declared_right x (A ++ B ++ bits) last_names h

  -- in a procedure of the rewritten tree
  module _ (p' : Procedure) where
    -- the name is declared
    abbrev In : Name → Type 0
    In x = is_declared x.text (known t' p') ≡ true

    abbrev Work : List Statement → Type 0
    Work ss = AllByRecursion (λ (s : Statement). Works t' p' s.head) ss

    in_globals : (x : Name) → is_declared x.text t'.globals ≡ true → In x
    in_globals x h = declared_right x.text (p'.formals ++ p'.locals) t'.globals h

    bits_in : AllByRecursion In bits
    bits_in = each_declared bits (known t' p') (λ x h. declared_right x (p'.formals ++ p'.locals) t'.globals (bits_there x h))

    stop_in : In (renamed.fresh_name (codes "stop__"))
    stop_in = in_globals (renamed.fresh_name (codes "stop__")) (lasts_there (codes "stop__") refl)

    bad_in : In (renamed.fresh_name (codes "bad__"))
    bad_in = in_globals (renamed.fresh_name (codes "bad__")) (lasts_there (codes "bad__") refl)

    -- statements that neither call nor go anywhere
    test_works : (r : RightSide Name) → AllByRecursion In (variables_of_side r) → Works t' p' (tests r)
    test_works r h = record { variables = each_both In (variables_of_side r) [] h tt; called = tt; sides = λ is. refl; labelled = tt }

    assume_works : (r : RightSide Name) → AllByRecursion In (variables_of_side r) → Works t' p' (plain (assume r))
    assume_works r h = record { variables = each_both In (variables_of_side r) [] h tt; called = tt; sides = λ is. refl; labelled = tt }

    assign_works : (xs : List Name) (rs : List (RightSide Name)) → AllByRecursion In (xs ++ variables_of_sides rs) → length xs ≡ length rs
        → Works t' p' (plain (assign xs rs))
    assign_works xs rs h e = record {
      variables = each_both In xs (variables_of_sides rs ++ []) (each_left In xs (variables_of_sides rs) h)
          (each_both In (variables_of_sides rs) [] (each_right In xs (variables_of_sides rs) h) tt);
      called = tt;
      sides = λ is. e;
      labelled = tt;
    }

    skip_works : Works t' p' (plain skip)
    skip_works = record { variables = tt; called = tt; sides = λ is. refl; labelled = tt }

    leave_works : Works t' p' (plain leave)
    leave_works = record { variables = tt; called = tt; sides = λ is. refl; labelled = tt }

    stop_test_works : (k : Block Name Name Name) (own : List Name) → Work (statements_of k)
        → Work (statements_of (stop_test (by_names own) last k))
    stop_test_works k own h = (test_works _ (stop_in, tt), (leave_works, (skip_works, h)))

  -- in a procedure that is rewritten
  module _ (p : Procedure) where
    abbrev own : List Name
    own = p.formals ++ p.locals

    -- the names in the rewritten procedure, and a block of it rewritten
    abbrev N : Naming Name Name Name Name
    N = by_names own

    abbrev put : Block Name Name Name → Block Name Name Name
    put = rewritten N last

    abbrev drawn : ℕ
    drawn = temporaries N.is_shared p.body

    abbrev temps : List Name
    temps = map drawn_name (numbers 0 drawn)

    abbrev p' : Procedure
    p' = rewritten_procedure last p

    abbrev Was : Head Name Name Name → Type 0
    Was h = Works t p h

    abbrev Known : Name → Type 0
    Known x = is_declared x.text (known t p) ≡ true

    own_in : (x : Name) → is_declared x.text (own ++ temps) ≡ true → In p' x
    own_in x h =
        declared_first x.text (p.formals ++ (p.locals ++ temps)) t'.globals
        (subst (λ ns. is_declared x.text ns ≡ true) (append_assoc p.formals p.locals temps) h)

    copied_in : (x : Name) → Known x → is_declared x.text own ≡ false → (k : ℕ) → k ≤ last → In p' (copy_name k x)
    copied_in x h hidden k le =
        elim (in_either x.text own t.globals h) [
          | inl e ↦ absurd (let bad : true ≡ false = sym e ∙ hidden in cc)
          | inr e ↦ in_globals p' (copy_name k x) (copies_there x e k le)
        ]

    held : Held own last drawn (In p') Known
    held = record {
      bits = subst (AllByRecursion (In p')) (reverse-reverse (bit_names (round_bits last))) (each_reversed (In p') bits (bits_in p'));
      stop = stop_in p';
      bad = bad_in p';
      copied = copied_in;
      kept = λ x h e. own_in x (declared_first x.text own temps e);
      drawn =
          λ j lt.
          own_in (drawn_name j) (declared_right (drawn_name j).text own temps
          (let z : 0 + j ≡ j = omega arith in
          subst (λ k. is_declared (drawn_name k).text temps ≡ true) z (temporary_declared j 0 drawn lt)));
    }

    prologue_works : (m : Mark Name) (k : Block Name Name Name) → Work p' (statements_of k)
        → Work p' (statements_of (prologue N last m k))
    prologue_works m k h =
        let rise =
        assign_works p' bits (reverse (raised (bit_names (round_bits last))))
        (each_both (In p') bits _ (bits_in p') (rise_uses (In p') (bit_names (round_bits last)) held.bits))
        (rise_even (bit_names (round_bits last))) in (
          test_works p' any tt,
          (
            assume_works p' _ (at_uses own last drawn (In p') Known held last),
            (rise, (test_works p' any tt, (assign_works p' _ _ (stop_in p', tt) refl, (skip_works p', stop_test_works p' k own h)))),
          ),
        )

    drawing_works : (n : ℕ) (k : Block Name Name Name) → n ≤ drawn → Work p' (statements_of k)
        → Work p' (statements_of (drawing N last n k))
    drawing_works zero k le h = h
    drawing_works (suc n) k le h = (
      assign_works p' (map drawn_name (numbers 0 (suc n))) (map (λ x. any) (numbers 0 (suc n)))
          (each_both (In p') (map drawn_name (numbers 0 (suc n))) _
          (numbered_each (In p') drawn_name drawn held.drawn 0 (suc n) (omega arith)) (any_uses (In p') (numbers 0 (suc n))))
          (simp length-map),
      h,
    )

    -- what a right side uses is declared once it is rewritten
    side_works : (r : RightSide Name) → AllByRecursion Known (variables_of_side r ++ [])
        → AllByRecursion (In p') (variables_of_side (side N last r))
    side_works r h = side_uses own last drawn (In p') Known held r (each_left _ (variables_of_side r) [] h)

    label_there : (l : Name) → is_declared l.text (labels_of (statements_of p.body)) ≡ true
        → is_declared l.text (labels_of (statements_of p'.body)) ≡ true
    label_there l h = ap (is_declared l.text) (labels_kept own last p.body) ∙ h

    statement_works : (m : Mark Name) (c : Simple Name Name Name) (b k : Block Name Name Name) → Was (plain c)
        → temporaries N.is_shared (one m c b) ≤ drawn → Work p' (statements_of k)
        → Work p' (statements_of (statement N last c k))
    statement_works m skip b k w room h = (skip_works p', h)
    statement_works m (assign xs rs) b k w room h =
        let before = each_left _ xs _ w.variables in
        let after = each_left _ (variables_of_sides rs) [] (each_right _ xs _ w.variables) in
        drawing_works (draws N.is_shared xs rs) (one table.no_mark (assign (targets N last xs rs) (sides N last 0 xs rs)) k) (omega arith) (
          assign_works p' (targets N last xs rs) (sides N last 0 xs rs)
              (each_both (In p') (targets N last xs rs) _ (targets_held own last drawn (In p') Known held xs rs before)
              (sides_use own last drawn (In p') Known held 0 xs rs before after (omega arith))) (sides_even own last 0 xs rs),
          h,
        )
    statement_works m (assert r) b k w room h = (
      test_works p' (side N last r) (side_works r w.variables),
      (skip_works p', (assign_works p' _ _ (bad_in p', (stop_in p', tt)) refl, (leave_works p', h))),
    )
    statement_works m (assume r) b k w room h = (assume_works p' (side N last r) (side_works r w.variables), h)
    statement_works m (goto l) b k w room h =
        (record { variables = tt; called = tt; sides = λ is. refl; labelled = label_there l w.labelled }, h)
    statement_works m leave b k w room h = (leave_works p', h)
    statement_works m (leave_with e) b k w room h = (
      record {
        variables = arguments_use own last drawn (In p') Known held (e ∷ []) w.variables;
        called = tt;
        sides = λ is. refl;
        labelled = tt;
      },
      h,
    )
    statement_works m (call_for x q es) b k w room h =
        let taken : receiver_draws N.is_shared (Some x) ≤ drawn = omega arith in (
          record {
            variables = (
              receiver_held own last drawn (In p') Known held x w.variables.0 taken,
              arguments_use own last drawn (In p') Known held es w.variables.1,
            );
            called =
                subst (λ n. Takes (named q.text t'.procedures) n) (sym (length-map es (expression_form N last)))
                (takes_there q (length es) w.called);
            sides = λ is. cc;
            labelled = tt;
          },
          stop_test_works p' (cond (N.is_shared x) (received N last x k) k) own
              (landing_has own last drawn (In p') Known held (λ b. Work p' (statements_of b)) x k w.variables.0 taken h
              (λ xs rs some even hx hr.
              prologue_works table.no_mark (one table.no_mark (assign xs rs) k)
              (assign_works p' xs rs (each_both (In p') xs (variables_of_sides rs) hx hr) even, h))),
        )
    statement_works m (call q es) b k w room h = (
      record {
        variables = arguments_use own last drawn (In p') Known held es w.variables;
        called =
            subst (λ n. Takes (named q.text t'.procedures) n) (sym (length-map es (expression_form N last)))
            (takes_there q (length es) w.called);
        sides = λ is. refl;
        labelled = tt;
      },
      stop_test_works p' k own h,
    )

    block_works : (b : Block Name Name Name) → AllByRecursion (λ (s : Statement). Was s.head) (statements_of b)
        → temporaries N.is_shared b ≤ drawn → Work p' (statements_of (put b))
    block_works done h room = tt
    block_works (one m c k) h room =
        prologue_works m (statement N last c (put k))
        (statement_works m c k (put k) h.0 room
        (block_works k h.1 (rest_room N.is_shared drawn m c k room)))
    block_works (choose m r a b k) h room =
        let inside = each_right _ (statements_of a) _ h.1 in
        prologue_works m (choose table.no_mark (side N last r) (put a) (put b) (put k)) (
          test_works p' (side N last r) (side_works r h.0.variables),
          each_both _ (statements_of (put a)) _ (block_works a (each_left _ (statements_of a) _ h.1) (omega arith))
              (each_both _ (statements_of (put b)) _ (block_works b (each_left _ (statements_of b) _ inside) (omega arith))
              (block_works k (each_right _ (statements_of b) _ inside) (omega arith))),
        )
    block_works (loop m r a k) h room =
        let body : Block Name Name Name = join (put a) (prologue N last table.no_mark done) in
        prologue_works m (loop table.no_mark (side N last r) body (put k)) (
          test_works p' (side N last r) (side_works r h.0.variables),
          each_both _ (statements_of body) _
              (each_join _ (put a) (prologue N last table.no_mark done) (block_works a (each_left _ (statements_of a) _ h.1) (omega arith))
              (prologue_works table.no_mark done tt))
              (block_works k (each_right _ (statements_of a) _ h.1) (omega arith)),
        )

  procedures_work : (ps : List Procedure) → AllByRecursion (IsGood t) ps
      → AllByRecursion (λ p. AllByRecursion (λ (s : Statement). Works t' p s.head) (statements_of p.body))
      (map (rewritten_procedure last) ps)
  procedures_work [] h = tt
  procedures_work (p ∷ ps) h = (block_works p p.body h.0.statements (omega arith), procedures_work ps h.1)

  -- in the first procedure
  abbrev first : Procedure
  first = main_procedure last t

  abbrev Global : Name → Type 0
  Global x = is_declared x.text t.globals ≡ true

  copies_read : (k : ℕ) (xs : List Name) → k ≤ last → AllByRecursion Global xs
      → AllByRecursion (In first) (Rattle.resolved.specs.Statements.variables_of_sides (map (λ y. value (var (copy_name k y))) xs))
  copies_read k [] le h = tt
  copies_read k (x ∷ xs) le h = (in_globals first (copy_name k x) (copies_there x h.0 k le), copies_read k xs le h.1)

  guess_works : (xs : List Name) (k : ℕ) (b : Block Name Name Name) → k < last → AllByRecursion Global xs → Work first (statements_of b)
      → Work first (statements_of (guess (by_names []) last xs (suc k) b))
  guess_works [] k b lt g h = h
  guess_works (x ∷ xs) k b lt g h =
      let copies : AllByRecursion (In first) (map (copy_name (suc k)) (x ∷ xs)) =
      written_each (In first) Global (copy_name (suc k)) (x ∷ xs)
      (λ y i. in_globals first (copy_name (suc k) y) (copies_there y i (suc k) (omega arith))) g in
      let saves : AllByRecursion (In first) (map (save_name (suc k)) (x ∷ xs)) =
      written_each (In first) Global (save_name (suc k)) (x ∷ xs)
      (λ y i. in_globals first (save_name (suc k) y) (saves_there y i k lt)) g in (
        assign_works first (map (copy_name (suc k)) (x ∷ xs)) (map (λ y. any) (x ∷ xs))
            (each_both (In first) (map (copy_name (suc k)) (x ∷ xs)) _ copies (any_uses (In first) (x ∷ xs)))
            (simp length-map),
        (
          assign_works first (map (save_name (suc k)) (x ∷ xs)) (map (λ y. value (var (copy_name (suc k) y))) (x ∷ xs))
              (each_both (In first) (map (save_name (suc k)) (x ∷ xs)) _ saves (copies_read (suc k) (x ∷ xs) (omega arith) g))
              (simp length-map),
          h,
        ),
      )

  guesses_work : (xs : List Name) (k m : ℕ) (b : Block Name Name Name) → k + m ≤ last → AllByRecursion Global xs
      → Work first (statements_of b)
      → Work first (statements_of (guesses (by_names []) last xs (numbers (suc k) m) b))
  guesses_work xs k zero b le g h = h
  guesses_work xs k (suc m) b le g h =
      guess_works xs k (guesses (by_names []) last xs (numbers (suc (suc k)) m) b) (omega arith) g
      (guesses_work xs (suc k) m b (omega arith) g h)

  starts_work : (lines : List ThreadLine) (b : Block Name Name Name) → AllByRecursion (Starts t.procedures) lines
      → Work first (statements_of b)
      → Work first (statements_of (starts (by_names []) last (map (λ (line : ThreadLine). line.name) lines) b))
  starts_work [] b s h = h
  starts_work (line ∷ lines) b s h = (
    assign_works first (reset_targets (by_names []) last) (each (value (const false)) (reset_targets (by_names []) last))
        (each_both (In first) (reset_targets (by_names []) last) _
        (each_both (In first) bits (renamed.fresh_name (codes "stop__") ∷ []) (bits_in first) (stop_in first, tt))
        (zeros_use (In first) (reset_targets (by_names []) last)))
        (simp length-map),
    (record { variables = tt; called = takes_there line.name 0 s.0; sides = λ is. refl; labelled = tt }, starts_work lines b s.1 h),
  )

  check_works : (xs : List Name) (k : ℕ) (b : Block Name Name Name) → k < last → AllByRecursion Global xs → Work first (statements_of b)
      → Work first (statements_of (check (by_names []) last xs k b))
  check_works [] k b lt g h = h
  check_works (x ∷ xs) k b lt g h = (
    assume_works first _ (
      in_globals first (save_name (suc k) x) (saves_there x g.0 k lt),
      (in_globals first (copy_name k x) (copies_there x g.0 k (omega arith)), tt),
    ),
    check_works xs k b lt g.1 h,
  )

  main_works : AllByRecursion (λ (s : Statement). Works t' first s.head) (statements_of first.body)
  main_works =
      let g : AllByRecursion Global t.globals = each_declared t.globals t.globals (λ x h. h) in
      guesses_work t.globals 0 last
      (starts (by_names []) last (map (λ (line : ThreadLine). line.name) t.threads)
      (checks (by_names []) last t.globals (numbers 0 last) done)) (omega arith) g
      (starts_work t.threads (checks (by_names []) last t.globals (numbers 0 last) done) (threads_start t ok)
      (keep_below (checks (by_names []) last t.globals) (check (by_names []) last t.globals) (λ b. refl) (λ k ks b. refl)
      (λ b. Work first (statements_of b)) last (λ k b lt. check_works t.globals k b lt g) 0 last (omega arith) done tt))

  -- the rewritten tree resolves
  pub rewritten_resolves : Resolves (rewritten_tree last t)
  rewritten_resolves = working_resolves t' (main_works, procedures_work t.procedures (good t ok)) (((λ e. cc), refl), tt)
