-- Path edges in order as triples.
use Rattle.std.proofs.Common.{◌≡◌, ◌⊎◌, Bool, true, false, List, [], ◌∷◌, inl, inr, refl, sym, ap, ◌∙◌, arith, subst, true≢false, not, cond}
use Rattle.std.specs.declared.cmp.Ordering.TheVariants.{Less, Equal}
use Rattle.std.specs.BTreeMap.{is_at}
use Rattle.std.specs.Ordering.{is_eq}
use Rattle.std.specs.List.{list_any, AllByRecursion}
use Rattle.std.specs.List.Sorted.{IsStrictlySortedBy}
use Rattle.std.proofs.lemmas.Bool.{not-false}
use Rattle.std.proofs.lemmas.Grind.{common_steps}
use Rattle.language.specs.Lists.{Member, NoneTwice}
use Rattle.language.proofs.Members.{member_map, map_member}
use Rattle.path_sets.specs.declared.ordered_edges.Edge.{Edge}
use Rattle.path_sets.specs.EdgeOrders.{edge_cmp, triple_of, triples_of}
use Rattle.path_sets.specs.Inserts.{HasAlso, IsNewIf}
use Rattle.path_sets.specs.Triples.{Triple}
use Rattle.path_sets.proofs.FilterLemmas.{map_none_twice}
use Rattle.path_sets.proofs.KeyLemmas.{found_is_in, is_found}

-- the path edge of a triple
abbrev pub edge_of : Triple → Edge
edge_of t = record { entry = t.entry; point = t.point; values = t.values }

-- path edges of which neither is below the other are the same
same_edge : (x y : Edge) → is_at (edge_cmp x) y ≡ true → x ≡ y
same_edge x y e =
    let a : x.entry ≡ y.entry = grind (arith, common_steps, e) in
    let b : x.point ≡ y.point = grind (arith, common_steps, e) in
    let c : x.values ≡ y.values = grind (arith, common_steps, e) in
    λ i. record { entry = a i; point = b i; values = c i }

-- no path edge is below itself
itself : (x : Edge) → edge_cmp x x ≡ Equal
itself x = grind (arith, common_steps)

-- a triple is a member exactly if the set finds it
pub found_is_member : (t : Triple) (es : List Edge) → list_any (is_at (edge_cmp (edge_of t))) es ≡ true → Member t (triples_of es)
found_is_member t es e =
    member_map triple_of es (edge_of t) (found_is_in (λ x y. is_at (edge_cmp x) y) same_edge (edge_of t) es e)

pub member_is_found : (t : Triple) (es : List Edge) → Member t (triples_of es) → list_any (is_at (edge_cmp (edge_of t))) es ≡ true
member_is_found t es m =
    let (x, there, is) = map_member triple_of es t m in
    is_found (λ x y. is_at (edge_cmp x) y) (λ x. ap is_eq (itself x)) (edge_of t) es (subst (λ y. Member y es) (sym (ap edge_of is)) there)

-- so a triple that was put in is new if the set did not find it
pub is_new : (x : Edge) (es : List Edge) (added : Bool) → added ≡ not (list_any (is_at (edge_cmp x)) es)
    → IsNewIf (triple_of x) (triples_of es) added
is_new x es true e = ((λ m. true≢false (e ∙ ap not (member_is_found (triple_of x) es m))), tt)
is_new x es false e = (tt, found_is_member (triple_of x) es (not-false _ (sym e)))

-- the members are those that there were and one more
pub has_also : (x : Edge) (es fs : List Edge)
    → ((q : Edge) → list_any (is_at (edge_cmp q)) fs ≡ cond (is_at (edge_cmp x) q) true (list_any (is_at (edge_cmp q)) es))
    → HasAlso (triple_of x) (triples_of es) (triples_of fs)
has_also x es fs h t = (
  λ m. is_old_or_new (is_at (edge_cmp x) (edge_of t)) refl (sym (h (edge_of t)) ∙ member_is_found t fs m),
  λ m. found_is_member t fs (h (edge_of t) ∙ is_found_now m),
)
  where
    is_old_or_new : (b : Bool) → is_at (edge_cmp x) (edge_of t) ≡ b → cond b true (list_any (is_at (edge_cmp (edge_of t))) es) ≡ true
        → (t ≡ triple_of x) ⊎ Member t (triples_of es)
    is_old_or_new true same e = inl (sym (ap triple_of (same_edge x (edge_of t) same)))
    is_old_or_new false same e = inr (found_is_member t es e)

    true_anyway : (b : Bool) → cond b true true ≡ true
    true_anyway true = refl
    true_anyway false = refl

    is_found_now : (t ≡ triple_of x) ⊎ Member t (triples_of es)
        → cond (is_at (edge_cmp x) (edge_of t)) true (list_any (is_at (edge_cmp (edge_of t))) es) ≡ true
    is_found_now (inl is) =
        ap (λ b. cond b true (list_any (is_at (edge_cmp (edge_of t))) es))
        (ap is_eq (subst (λ y. edge_cmp x y ≡ Equal) (sym (ap edge_of is)) (itself x)))
    is_found_now (inr m) =
        ap (cond (is_at (edge_cmp x) (edge_of t)) true) (member_is_found t es m) ∙ true_anyway (is_at (edge_cmp x) (edge_of t))

less_is_not_equal : Less ≡ Equal → ⊥
less_is_not_equal e = true≢false (sym (ap is_eq e))

-- a path edge below others is not among them
not_below : (x : Edge) (es : List Edge) → AllByRecursion (λ y. edge_cmp x y ≡ Less) es → Member x es → ⊥
not_below x [] _ there = elim there [ ]
not_below x (y ∷ es) (less, all) (inl is) = less_is_not_equal (sym (subst (λ z. edge_cmp x z ≡ Less) (sym is) less) ∙ itself x)
not_below x (y ∷ es) (less, all) (inr later) = not_below x es all later

each_once : (es : List Edge) → IsStrictlySortedBy edge_cmp es → NoneTwice es
unfolding IsStrictlySortedBy
each_once [] sorted = tt
each_once (x ∷ es) (all, sorted) = (not_below x es all, each_once es sorted)

-- no triple occurs twice if the path edges ascend
pub once : (es : List Edge) → IsStrictlySortedBy edge_cmp es → NoneTwice (triples_of es)
once es sorted = map_none_twice triple_of es (λ x y m n same. ap edge_of same) (each_once es sorted)
