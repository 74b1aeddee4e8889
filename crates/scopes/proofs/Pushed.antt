-- Loops that append one after the other, or look for a name.
use Rattle.std.proofs.Common.{◌≡◌, ℕ, ◌+◌, ◌<◌, ◌≤◌, List, [], ◌∷◌, ◌++◌, length, map, drop, get_or, Bool, true, false, cond, Option, Some}
use Rattle.std.proofs.Common.{option_map, sym, ◌∙◌, ap, append_assoc, append-nil}
use Rattle.std.proofs.lemmas.List.{map-append, drop_more, drop_all}
use Rattle.language.specs.Tree.{Name, Procedure}
use Rattle.language.specs.Rest.{same_text}
use Rattle.trees.specs.declared.tree.Proc.{Proc}
use Rattle.trees.specs.declared.tree.Stmt.{Stmt}
use Rattle.trees.specs.Trees.{name_of, proc_of, procs_of}
use Rattle.resolved.specs.Statements.{lent_statements, label_of, labels_of}
use Rattle.checked.specs.Faults.{named}
use Rattle.scopes.proofs.Heads.{label_is}
use denote.Ref.{Bor}

-- what is appended to nothing is all there is
pub behind_none : {X Y Z : Type 0} (f : X → Y) (g : List Z → List Y) {got : List Y} {first : List X} {d x : List Z}
    → got ≡ map f first ++ g d → first ≡ [] → d ≡ x → got ≡ g x
behind_none f g {got} {first} {d} {x} e none same = e ∙ ap (λ l. map f l ++ g d) none ∙ ap g same

pub one_pushed : {X Y Z : Type 0} (f : X → Z) (h : Y → Z) (old : List X) (x : X) (l : List Y) (i : ℕ) (y : Y)
    (w : List Z) → i < length l → y ≡ get_or l i y → f x ≡ h y
    → map f old ++ map h (drop i l) ≡ w → map f (old ++ x ∷ []) ++ map h (drop (i + 1) l) ≡ w
one_pushed f h old x l i y w lt is e so =
    let others = map h (drop (i + 1) l) in
    ap (λ zs. zs ++ others) (map-append f old (x ∷ []))
    ∙ (append_assoc (map f old) (f x ∷ []) others
    ∙ (ap (λ z. map f old ++ z ∷ others) e
    ∙ (ap (λ m. map f old ++ map h m) (sym (drop_more l i y lt ∙ ap (λ z. z ∷ drop (i + 1) l) (sym is))) ∙ so)))

pub all_pushed : {Y Z : Type 0} (h : Y → Z) (old : List Z) (l : List Y) (i : ℕ) (w : List Z) → length l ≤ i
    → old ++ map h (drop i l) ≡ w → old ≡ w
all_pushed h old l i w le so = sym (append-nil old) ∙ (sym (ap (λ m. old ++ map h m) (drop_all i l le)) ∙ so)

-- one more statement's label, if it has one
pub labelled : {A : Type 0} (ss : List (Bor (Stmt A))) (i : ℕ) (s : Bor (Stmt A)) (old new w : List Name)
    → i < length ss → s ≡ get_or ss i s → new ≡ old ++ label_of (option_map name_of s.now.label)
    → old ++ labels_of (lent_statements (drop i ss)) ≡ w → new ++ labels_of (lent_statements (drop (i + 1) ss)) ≡ w
labelled {A} ss i s old new w lt is e so =
    let rest = labels_of (lent_statements (drop (i + 1) ss)) in
    let here = ap (λ (l : List (Bor (Stmt A))). labels_of (lent_statements l))
    (drop_more ss i s lt ∙ ap (λ (x : Bor (Stmt A)). x ∷ drop (i + 1) ss) (sym is))
    ∙ ap (λ (o : Option Name). label_of o ++ rest) (label_is s.now) in
    ap (λ (x : List Name). x ++ rest) e
    ∙ (append_assoc old (label_of (option_map name_of s.now.label)) rest
    ∙ (ap (λ (x : List Name). old ++ x) (sym here) ∙ so))

pub all_labelled : {A : Type 0} (ss : List (Bor (Stmt A))) (i : ℕ) (old w : List Name) → length ss ≤ i
    → old ++ labels_of (lent_statements (drop i ss)) ≡ w → old ≡ w
all_labelled {A} ss i old w le so = sym (append-nil old) ∙
    (sym (ap (λ (l : List (Bor (Stmt A))). old ++ labels_of (lent_statements l)) (drop_all i ss le)) ∙ so)

-- one more procedure that is looked at for its name
at_name : {A : Type 0} (text : List ℕ) (ps : List (Proc A)) (i : ℕ) (p : Proc A) (w : Option Procedure) (b : Bool)
    → i < length ps → p ≡ get_or ps i p → w ≡ named text (procs_of (drop i ps)) → same_text text
    (name_of p.name).text ≡ b
    → w ≡ cond b (Some (proc_of p)) (named text (procs_of (drop (i + 1) ps)))
at_name {A} text ps i p w b lt is so e =
    so
    ∙ (ap (λ (l : List (Proc A)). named text (procs_of l))
    (drop_more ps i p lt ∙ ap (λ (x : Proc A). x ∷ drop (i + 1) ps) (sym is))
    ∙ ap (λ (t : Bool). cond t (Some (proc_of p)) (named text (procs_of (drop (i + 1) ps)))) e)

pub named_here : {A : Type 0} (text : List ℕ) (ps : List (Proc A)) (i : ℕ) (p : Proc A) (w : Option Procedure)
    → i < length ps → p ≡ get_or ps i p → w ≡ named text (procs_of (drop i ps)) → same_text text
    (name_of p.name).text ≡ true → w ≡ Some (proc_of p)
named_here text ps i p w lt is so e = at_name text ps i p w true lt is so e

pub named_later : {A : Type 0} (text : List ℕ) (ps : List (Proc A)) (i : ℕ) (p : Proc A) (w : Option Procedure)
    → i < length ps → p ≡ get_or ps i p → w ≡ named text (procs_of (drop i ps)) → same_text text
    (name_of p.name).text ≡ false → w ≡ named text (procs_of (drop (i + 1) ps))
named_later text ps i p w lt is so e = at_name text ps i p w false lt is so e
