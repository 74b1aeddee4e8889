-- A checked tree resolves.
use Rattle.std.proofs.Common.{◌≡◌, ℕ, Bool, true, false, cond, List, [], ◌∷◌, ◌++◌, length, Option, Some, None, ◌⊎◌}
use Rattle.std.proofs.Common.{inl, inr, refl, sym, ◌∙◌, ap, subst, append_assoc}
use Rattle.std.proofs.lemmas.Option.{IfSome_then}
use Rattle.std.specs.List.{AllByRecursion}
use Rattle.language.specs.Tree.{Name, Block, done, one, choose, loop, Procedure, Tree}
use Rattle.language.specs.Value.{global, local}
use Rattle.language.specs.Rest.{Code, same_text, has_label, first_of_two, join, rest_from}
use Rattle.language.specs.Step.{AtRest}
use Rattle.language.specs.Resolve.{number_of, is_declared, Scope, scope_of, place_of, resolve_mark, resolve_side, resolve_block}
use Rattle.language.proofs.Names.{number_less}
use Rattle.language.specs.Parts.{Head, arguments_of, callee_of, jump_of}
use Rattle.resolved.specs.Statements.{Statement, statements_of, used_by, label_of, labels_of}
use Rattle.checked.specs.Faults.{known}
use Rattle.resolved.specs.There.{IsThere}
use Rattle.checked.specs.Checked.{IsChecked}
use Rattle.resolved.specs.Resolves.{IsPlaceIn, GoesSomewhere, Resolves}
use Rattle.checked.proofs.Works.{each_of, in_either, named_is, Called, Labelled, Works, Starts, good, threads_start}

placed : (t : Tree) (p : Procedure) (x : Name) → is_declared x.text (known t p) ≡ true → IsPlaceIn t p (place_of (scope_of t p) x)
placed t p x h = go (is_declared x.text (p.formals ++ p.locals)) refl (in_either x.text (p.formals ++ p.locals) t.globals h)
  where
    go : (b : Bool) → is_declared x.text (p.formals ++ p.locals) ≡ b
        → (is_declared x.text (p.formals ++ p.locals) ≡ true) ⊎ (is_declared x.text t.globals ≡ true)
        → IsPlaceIn t p (cond b (local (number_of x.text (p.formals ++ p.locals))) (global (number_of x.text t.globals)))
    go true e k = number_less x.text (p.formals ++ p.locals) e
    go false e (inl k) = absurd (let bad : true ≡ false = sym k ∙ e in cc)
    go false e (inr k) = number_less x.text t.globals k

-- there is a rest
abbrev IsRest : Option Code → Type 0
IsRest o = AtRest o (λ rest. Unit {0})

marked : (x : List ℕ) (l : Option Name) (at : ℕ) → is_declared x (label_of l) ≡ true
    → has_label x (resolve_mark (record { label = l; at = at })) ≡ true
marked x None at h = h
marked x (Some n) at h = go (same_text x n.text) h
  where
    go : (b : Bool) → cond b true false ≡ true → b ≡ true
    go true h = refl
    go false h = h

here_or : (b : Bool) (o r : Option Code) → IsRest o → (b ≡ true) ⊎ IsRest r → IsRest (cond b o r)
here_or true o r h k = h
here_or false o r h (inl e) = absurd (cc)
here_or false o r h (inr k) = k

one_of : (a b : Option Code) → IsRest a ⊎ IsRest b → IsRest (first_of_two a b)
one_of None b (inl h) = absurd h
one_of None b (inr h) = h
one_of (Some a) b h = tt

pub labels_append : (xs ys : List Statement) → labels_of (xs ++ ys) ≡ labels_of xs ++ labels_of ys
labels_append [] ys = refl
labels_append (s ∷ xs) ys =
    ap (λ l. label_of s.mark.label ++ l) (labels_append xs ys) ∙ sym (append_assoc (label_of s.mark.label) (labels_of xs) (labels_of ys))

either_block : (x : List ℕ) (xs ys : List Statement) → is_declared x (labels_of (xs ++ ys)) ≡ true
    → (is_declared x (labels_of xs) ≡ true) ⊎ (is_declared x (labels_of ys) ≡ true)
either_block x xs ys h = in_either x (labels_of xs) (labels_of ys) (ap (is_declared x) (sym (labels_append xs ys)) ∙ h)

-- from a label that is defined in a block there is a rest
rest_there : (s : Scope) (x : List ℕ) (b : Block Name Name Name) (k : Code) → is_declared x (labels_of (statements_of b)) ≡ true
    → IsRest (rest_from x (resolve_block s b) k)
rest_there s x done k h = absurd (cc)
rest_there s x (one m c t) k h =
    here_or _ _ _ tt
    (elim (in_either x (label_of m.label) (labels_of (statements_of t)) h) [
      | inl e ↦ inl (marked x m.label m.at e)
      | inr e ↦ inr
          (rest_there s x t k e)
    ])
rest_there s x (choose m r a b t) k h =
    here_or _ _ _ tt
    (elim (in_either x (label_of m.label) (labels_of (statements_of a ++ (statements_of b ++ statements_of t))) h) [
      | inl e ↦ inl (marked x m.label m.at e)
      | inr e ↦ inr (one_of _ _ (elim (either_block x (statements_of a) (statements_of b ++ statements_of t) e) [
        | inl f ↦ inl (rest_there s x a (join (resolve_block s t) k) f)
        | inr f ↦ inr (one_of _ _ (elim (either_block x (statements_of b) (statements_of t) f) [
          | inl g ↦ inl (rest_there s x b (join (resolve_block s t) k) g)
          | inr g ↦ inr (rest_there s x t k g)
        ]))
      ]))
    ])
rest_there s x (loop m r a t) k h =
    here_or _ _ _ tt
    (elim (in_either x (label_of m.label) (labels_of (statements_of a ++ statements_of t)) h) [
      | inl e ↦ inl (marked x m.label m.at e)
      | inr e ↦ inr (one_of _ _ (elim (either_block x (statements_of a) (statements_of t) e) [
        | inl f ↦ inl (rest_there s x a (loop (resolve_mark m) (resolve_side s r) (resolve_block s a) (join (resolve_block s t) k)) f)
        | inr f ↦ inr (rest_there s x t k f)
      ]))
    ])

target_there : (t : Tree) (p : Procedure) (h : Head Name Name Name) → Called t.procedures h
    → Labelled (labels_of (statements_of p.body)) h → GoesSomewhere t p h
target_there t p h called labelled = (
  IfSome_then (callee_of h) called
      (λ q k. subst (λ o. IsThere o (λ r. length r.formals ≡ length (arguments_of h))) (named_is q.text t.procedures) k.1),
  IfSome_then (jump_of h) labelled (λ l k. rest_there (scope_of t p) l.text p.body done k),
)

-- a tree resolves if each statement works and each thread starts
pub working_resolves : (t : Tree) → AllByRecursion
    (λ (p : Procedure). AllByRecursion (λ (s : Statement). Works t p s.head) (statements_of p.body)) t.procedures
    → AllByRecursion (Starts t.procedures) t.threads → Resolves t
working_resolves t work start = record {
  statements = each_of t.procedures (λ p g. each_of (statements_of p.body) (λ s w. record {
    variables = each_of (used_by s.head) (λ x h. placed t p x h) w.variables;
    target = target_there t p s.head w.called w.labelled;
    sides = w.sides;
  }) g) work;
  threads =
      each_of t.threads (λ line h. subst (λ o. IsThere o (λ r. length r.formals ≡ 0)) (named_is line.name.text t.procedures) h.1) start;
}

pub checked_resolves : (t : Tree) → IsChecked t → Resolves t
checked_resolves t ok = working_resolves t (each_of t.procedures (λ p g. g.statements) (good t ok)) (threads_start t ok)
