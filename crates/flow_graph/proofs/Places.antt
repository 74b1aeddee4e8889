-- The bit of a variable, by the list of names that declares it.
use Rattle.std.proofs.Common.{◌≡◌, ℕ, ◌+◌, ◌<◌, ◌≤◌, List, ◌++◌, Bool, true, false, cond, nat_lt, Option, Some}
use Rattle.std.proofs.Common.{None, length, refl, sym, ◌∙◌, ap, subst, arith}
use Rattle.std.proofs.lemmas.Bool.{lt-ltb, ltb-true}
use Rattle.std.proofs.lemmas.List.{length-map}
use Rattle.language.specs.Tree.{Name}
use Rattle.language.specs.Value.{Place}
use Rattle.language.specs.Resolve as resolve
use Rattle.language.specs.Resolve.{number_of, is_declared, place_of}
use Rattle.language.proofs.Names.{declared_first, declared_second, number_first, number_second, number_less, place_declared, place_other}
use Rattle.trees.specs.Trees.{name_of, names_of}
use Rattle.trees.specs.declared.tree.Name as declared
use Rattle.flow_graph.specs.Located.{bit_of_place, bit_of_name}
use Rattle.flow_graph.specs.Returns.{HasTarget}
use Rattle.flow_graph.specs.Views.{scope_seen, IsSmall}
use Rattle.flow_graph.specs.declared.scope.Scope.{Scope}
use Rattle.resolved.specs.Limits.{most_places}

-- a variable of a scope that is called for has a place
pub named_target : (s : resolve.Scope) (x : Name) → HasTarget (length s.locals) (Some (place_of s x))
named_target s x = go (is_declared x.text s.locals) refl
  where
    Has : Place → Type 0
    Has place = HasTarget (length s.locals) (Some place)

    go : (b : Bool) → is_declared x.text s.locals ≡ b → Has (place_of s x)
    go true is = subst Has (sym (place_declared s x is)) (number_less x.text s.locals is)
    go false is = subst Has (sym (place_other s x is)) tt

module _ (gs fs ls ps : List Name) (x : Name) where
  abbrev scope : resolve.Scope
  scope = record { globals = gs; locals = fs ++ ls; procedures = ps }

  among_formals : is_declared x.text fs ≡ true →
      bit_of_place (length gs) (place_of scope x) ≡ Some (length gs + number_of x.text fs)
  among_formals h =
      ap (bit_of_place (length gs)) (place_declared scope x (declared_first x.text fs ls h))
      ∙ ap (λ n. Some (length gs + n)) (number_first x.text fs ls h)

  among_locals : is_declared x.text fs ≡ false → is_declared x.text ls ≡ true →
      bit_of_place (length gs) (place_of scope x) ≡ Some (length gs + (length fs + number_of x.text ls))
  among_locals out h =
      ap (bit_of_place (length gs)) (place_declared scope x (declared_second x.text fs ls out ∙ h))
      ∙ ap (λ n. Some (length gs + n)) (number_second x.text fs ls out)

  among_globals : is_declared x.text fs ≡ false → is_declared x.text ls ≡ false →
      bit_of_place (length gs) (place_of scope x)
      ≡ cond (nat_lt (number_of x.text gs) (length gs)) (Some (number_of x.text gs)) None
  among_globals out neither =
      ap (bit_of_place (length gs)) (place_other scope x (declared_second x.text fs ls out ∙ neither))

module _ {N : Type 0} (me : Scope N) (x : declared.Name N) (t : List ℕ) (number : ℕ) where
  abbrev gs : List Name
  gs = names_of me.globals.now

  abbrev fs : List Name
  fs = names_of me.formals.now

  abbrev ls : List Name
  ls = names_of me.locals.now

  -- a name that is declared after a given number of variables has a number that is a place
  within : (xs : List (declared.Name N)) (before : ℕ) → is_declared t (names_of xs) ≡ true →
      number ≡ number_of t (names_of xs) → before + length xs ≤ most_places → before + number < most_places
  within xs before h is few =
      let less = number_less t (names_of xs) h in
      let same : length (names_of xs) ≡ length xs = length-map xs name_of in
      omega (arith, less, same, is, few)

  pub formal_small : IsSmall me → is_declared t fs ≡ true → number ≡ number_of t fs →
      length me.globals.now + number < most_places
  formal_small small h is = within me.formals.now (length me.globals.now) h is (omega (arith, small))

  pub local_small : IsSmall me → is_declared t ls ≡ true → number ≡ number_of t ls →
      length me.globals.now + length me.formals.now + number < most_places
  local_small small h is =
      within me.locals.now (length me.globals.now + length me.formals.now) h is (omega (arith, small))

  -- the bit of the name, whose text this is, by the list that declares it
  module _ (text : t ≡ (name_of x).text) where
    abbrev bit : Option ℕ
    bit = bit_of_name (scope_seen me) (name_of x)

    the_same : (xs : List Name) (b : Bool) → is_declared t xs ≡ b → is_declared (name_of x).text xs ≡ b
    the_same xs b h = ap (λ u. is_declared u xs) (sym text) ∙ h

    counted : (xs : List Name) → number ≡ number_of t xs → number ≡ number_of (name_of x).text xs
    counted xs is = is ∙ ap (λ u. number_of u xs) text

    pub formal_bit : is_declared t fs ≡ true → number ≡ number_of t fs → Some (length me.globals.now + number) ≡ bit
    formal_bit h is =
        (λ i. Some (sym (length-map me.globals.now name_of) i + counted fs is i))
        ∙ sym (among_formals gs fs ls (scope_seen me).procedures (name_of x) (the_same fs true h))

    pub local_bit : is_declared t fs ≡ false → is_declared t ls ≡ true → number ≡ number_of t ls →
        Some (length me.globals.now + length me.formals.now + number) ≡ bit
    local_bit out h is =
        let g = length-map me.globals.now name_of in
        let f = length-map me.formals.now name_of in
        let same : length me.globals.now + length me.formals.now + number ≡ length gs + (length fs + number_of (name_of x).text ls) =
        omega (arith, g, f, counted ls is) in
        ap Some same
        ∙ sym (among_locals gs fs ls (scope_seen me).procedures (name_of x) (the_same fs false out) (the_same ls true h))

    -- a global is what its number says, if it is below the number of globals
    global_bit : is_declared t fs ≡ false → is_declared t ls ≡ false → number ≡ number_of t gs →
        cond (nat_lt number (length me.globals.now)) (Some number) None ≡ bit
    global_bit out neither is =
        (λ i. cond (nat_lt (counted gs is i) (sym (length-map me.globals.now name_of) i)) (Some (counted gs is i)) None)
        ∙ sym (among_globals gs fs ls (scope_seen me).procedures (name_of x) (the_same fs false out)
        (the_same ls false neither))

    module _ (out : is_declared t fs ≡ false) (neither : is_declared t ls ≡ false) (is : number ≡ number_of t gs) where
      pub global_inside : number < length me.globals.now → Some number ≡ bit
      global_inside h =
          ap (λ b. cond b (Some number) None) (sym (lt-ltb number (length me.globals.now) h)) ∙ global_bit out neither is

      pub global_outside : length me.globals.now ≤ number → None ≡ bit
      global_outside h = go (nat_lt number (length me.globals.now)) refl ∙ global_bit out neither is
        where
          go : (b : Bool) → nat_lt number (length me.globals.now) ≡ b → None ≡ cond b (Some number) None
          go false e = refl
          go true e = absurd (let less = ltb-true number (length me.globals.now) e in omega (arith, less, h))
