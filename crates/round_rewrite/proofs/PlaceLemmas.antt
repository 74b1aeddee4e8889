-- The printed names are at their places.
use Rattle.std.proofs.Common.{◌≡◌, ℕ, zero, suc, ◌+◌, ◌*◌, ◌<◌, ◌≤◌, true, false, cond, List, [], ◌∷◌}
use Rattle.std.proofs.lemmas.List.{length-map, length-reverse}
use Rattle.std.proofs.Common.{◌++◌, length, map, reverse, codes, refl, sym, ◌∙◌, ap, ap₂, arith, append_assoc, length-append}
use Rattle.std.specs.Prelude.{decimal}
use Rattle.language.specs.Tree.{Name}
use Rattle.language.specs.Value.{global, local}
use Rattle.language.specs.Rest.{same_text}
use Rattle.language.specs.Resolve.{number_of, is_declared, Scope, place_of}
use Rattle.round_rewrite.specs.Table.{numbers, copied, globals}
use Rattle.round_rewrite.specs.Places.{copy_at, save_at, bits_at, bits_from, stop_at, bad_at, global_count}
use Rattle.round_rewrite.specs.Names.{fresh_name, bit_name, bit_names, numbered_name, copy_name, save_name, drawn_name, by_names}
use Rattle.checked.specs.Rewritable.{has_double, AreFree}
use Rattle.round_rewrite.proofs.SpellingLemmas.{same_text_refl, same_text_false, same_text-append, numbered_differ}
use Rattle.round_rewrite.proofs.SpellingLemmas.{save_no_copy, low_no_numbered, drawn_differ, no_drawn, digit_is}
use Rattle.round_rewrite.proofs.NumberingLemmas.{number_right, number_left, not_free, free_name, Spelled, length-rows, none_in_rows}
use Rattle.round_rewrite.proofs.NumberingLemmas.{in_rows}
use Rattle.resolved.specs.Limits.{most_places}
use Rattle.round_rewrite.specs.Limits.{most_rounds, round_bits}
use Rattle.round_rewrite.proofs.RoundBitLemmas.{bits_few}

pub numbered_spelled : (mark : List ℕ) → Spelled (numbered_name mark)
numbered_spelled mark = record {
  alike = λ k x y. same_text-append x.text y.text (mark ++ decimal (suc k));
  unlike = λ k j x y hk hj ne. numbered_differ mark x.text y.text k j hk hj ne;
}

-- among temporaries
no_temporary : (t : List ℕ) (j d : ℕ) → ((i : ℕ) → same_text t (drawn_name i).text ≡ false)
    → is_declared t (map drawn_name (numbers j d)) ≡ false
no_temporary t j zero h = refl
no_temporary t j (suc d) h = ap (λ c. cond c true (is_declared t (map drawn_name (numbers (suc j) d)))) (h j)
    ∙ no_temporary t (suc j) d h

the_temporary : (e j d : ℕ) → e < d → j + d ≤ most_places →
    (is_declared (drawn_name (j + e)).text (map drawn_name (numbers j d)) ≡ true) ×
    (number_of (drawn_name (j + e)).text (map drawn_name (numbers j d)) ≡ e)
the_temporary e j zero lt all = absurd (omega arith)
the_temporary zero j (suc d) lt all =
    let z : j + zero ≡ j = omega arith in
    let same : same_text (drawn_name (j + zero)).text (drawn_name j).text ≡ true =
    ap (λ k. same_text (drawn_name k).text (drawn_name j).text) z ∙ same_text_refl (drawn_name j).text in (
      ap (λ c. cond c true (is_declared (drawn_name (j + zero)).text (map drawn_name (numbers (suc j) d)))) same,
      ap (λ c. cond c 0 (suc (number_of (drawn_name (j + zero)).text (map drawn_name (numbers (suc j) d))))) same,
    )
the_temporary (suc e) j (suc d) lt all =
    let z : j + suc e ≡ suc j + e = omega arith in
    let other : same_text (drawn_name (j + suc e)).text (drawn_name j).text ≡ false =
    drawn_differ (j + suc e) j (omega arith) (omega arith) (λ q. omega arith) in
    let ih = the_temporary e (suc j) d (omega arith) (omega arith) in (
      ap (λ c. cond c true (is_declared (drawn_name (j + suc e)).text (map drawn_name (numbers (suc j) d)))) other
          ∙ (ap (λ k. is_declared (drawn_name k).text (map drawn_name (numbers (suc j) d))) z ∙ ih.0),
      ap (λ c. cond c 0 (suc (number_of (drawn_name (j + suc e)).text (map drawn_name (numbers (suc j) d))))) other
          ∙ ap suc (ap (λ k. number_of (drawn_name k).text (map drawn_name (numbers (suc j) d))) z ∙ ih.1),
    )

pub length-numbers : (j d : ℕ) → length (numbers j d) ≡ d
length-numbers j zero = refl
length-numbers j (suc d) = ap suc (length-numbers (suc j) d)

pub length-bit_names : (count : ℕ) → length (reverse (bit_names count)) ≡ count
length-bit_names count =
    length-reverse (bit_names count) ∙ (length-map (numbers 0 count) bit_name ∙ length-numbers 0 count)

-- the globals that come last
abbrev pub last_names : List Name
last_names = fresh_name (codes "stop__") ∷ fresh_name (codes "bad__") ∷ []

pub length-globals : (last : ℕ) (xs : List Name) → length (globals (by_names []) last xs) ≡ global_count (length xs) last
length-globals last xs =
    let first : List Name = copied (by_names []) last copy_name xs (numbers 0 (suc last)) in
    let second : List Name = copied (by_names []) last save_name xs (numbers 1 last) in
    let bits : List Name = reverse (bit_names (round_bits last)) in
    let a : length first ≡ suc last * length xs = length-rows (by_names []) last copy_name xs 0 (suc last) in
    let b : length second ≡ last * length xs = length-rows (by_names []) last save_name xs 1 last in
    let c : length bits ≡ round_bits last = length-bit_names (round_bits last) in
    let d : length (first ++ second) ≡ length first + length second = length-append first second in
    let e : length (first ++ second ++ bits) ≡ length (first ++ second) + length bits = length-append (first ++ second) bits in
    length-append (first ++ second ++ bits) last_names
    ∙ (ap (λ z. z + 2) (e ∙ ap₂ (λ x y. x + y) (d ∙ ap₂ (λ x y. x + y) a b) c) ∙ omega arith)

-- Where a bit's name, `stop__` and `bad__` are among the names after the globals' own: the bits from the highest
-- on.
number_bit : (m j i : ℕ) → 2 ≤ m → m ≤ 3 → suc (j + i) ≡ m
    → number_of (bit_name j).text (reverse (bit_names m) ++ last_names) ≡ i
number_bit (suc (suc zero)) zero i h h' e = let z : 1 ≡ i = omega arith in z
number_bit (suc (suc zero)) (suc zero) i h h' e = let z : 0 ≡ i = omega arith in z
number_bit (suc (suc (suc zero))) zero i h h' e = let z : 2 ≡ i = omega arith in z
number_bit (suc (suc (suc zero))) (suc zero) i h h' e = let z : 1 ≡ i = omega arith in z
number_bit (suc (suc (suc zero))) (suc (suc zero)) i h h' e = let z : 0 ≡ i = omega arith in z
number_bit _ _ i h h' e = absurd (omega arith)

number_last : (m : ℕ) → 2 ≤ m → m ≤ 3 →
    (number_of (codes "stop__") (reverse (bit_names m) ++ last_names) ≡ m) ×
    (number_of (codes "bad__") (reverse (bit_names m) ++ last_names) ≡ m + 1)
number_last (suc (suc zero)) h h' = (refl, refl)
number_last (suc (suc (suc zero))) h h' = (refl, refl)
number_last _ h h' = absurd (omega arith)

-- the names of a program and of one of its procedures, with how many temporaries that needs, and the last round
pub record Vocabulary : Type 0 where
  pub gs : List Name
  pub own : List Name
  pub ps : List Name
  pub d : ℕ
  pub last : ℕ
  pub gs_free : AreFree gs
  pub own_free : AreFree own
  pub few : d ≤ most_places
  pub small : last < most_rounds

module _ (vocabulary : Vocabulary) where
  open vocabulary use {gs, own, ps, d, last, gs_free, own_free, few, small}

  abbrev temps : List Name
  temps = map drawn_name (numbers 0 d)

  abbrev pub scope : Scope
  scope = record { globals = gs; locals = own; procedures = ps }

  abbrev A : List Name
  A = copied (by_names []) last copy_name gs (numbers 0 (suc last))

  abbrev B : List Name
  B = copied (by_names []) last save_name gs (numbers 1 last)

  -- the bits of the round, the highest first
  abbrev bits : List Name
  bits = reverse (bit_names (round_bits last))

  -- the scope of a rewritten procedure
  abbrev pub wider : List Name → Scope
  wider ps' = record { globals = globals (by_names []) last gs; locals = own ++ temps; procedures = ps' }

  length-A : length A ≡ suc last * length gs
  length-A = length-rows (by_names []) last copy_name gs 0 (suc last)

  length-B : length B ≡ last * length gs
  length-B = length-rows (by_names []) last save_name gs 1 last

  -- a name with two underscores that is not a temporary is not a formal or a local either
  outside : (a s : List ℕ) → ((i : ℕ) → same_text (a ++ 95 ∷ 95 ∷ s) (drawn_name i).text ≡ false)
      → is_declared (a ++ 95 ∷ 95 ∷ s) (own ++ temps) ≡ false
  outside a s h = (number_right (a ++ 95 ∷ 95 ∷ s) own temps (not_free a s own own_free)).1
      ∙ no_temporary (a ++ 95 ∷ 95 ∷ s) 0 d h

  as_global : (ps' : List Name) (x : Name) (i j : ℕ) → is_declared x.text (own ++ temps) ≡ false
      → number_of x.text (globals (by_names []) last gs) ≡ i → i ≡ j → place_of (wider ps') x ≡ global j
  as_global ps' x i j h e e' =
      ap (λ c. cond c (local (number_of x.text (own ++ temps))) (global (number_of x.text (globals (by_names []) last gs)))) h
      ∙ ap global (e ∙ e')

  digit_not_t : (k : ℕ) → k < most_rounds → (t r : List ℕ) (x : List ℕ) → has_double x ≡ false →
      x ++ 95 ∷ 95 ∷ decimal (suc k) ≡ 116 ∷ 109 ∷ 112 ∷ 95 ∷ 95 ∷ 116 ∷ r → ⊥
  digit_not_t k h t r x free e =
      no_drawn x (49 + k) [] r free (λ z. omega arith) (ap (λ y. x ++ 95 ∷ 95 ∷ y) (sym (digit_is k h)) ∙ e)

  pub copy_place : (ps' : List Name) (x : Name) (k : ℕ) → k ≤ last → is_declared x.text own ≡ false
      → is_declared x.text gs ≡ true
      → place_of (wider ps') (copy_name k x) ≡ copy_at (length gs) k (place_of scope x)
  copy_place ps' x k le hidden there =
      let free : has_double x.text ≡ false = free_name x.text gs gs_free there in
      let t : List ℕ = (copy_name k x).text in
      let out : is_declared t (own ++ temps) ≡ false =
      outside x.text (decimal (suc k))
      (λ i. same_text_false t (drawn_name i).text (digit_not_t k (omega arith) [] (decimal (suc i)) x.text free)) in
      let r = in_rows (by_names []) last copy_name gs (numbered_spelled (codes "__")) x there k 0 (suc last) (omega arith) (omega arith) in
      let z : 0 + k ≡ k = omega arith in
      let inA : is_declared t A ≡ true = ap (λ y. is_declared (copy_name y x).text A) (sym z) ∙ r.0 in
      let atA : number_of t A ≡ k * length gs + number_of x.text gs = ap (λ y. number_of (copy_name y x).text A) (sym z) ∙ r.1 in
      let l1 = number_left t A B inA in
      let l2 = number_left t (A ++ B) bits l1.1 in
      let l3 = number_left t (A ++ B ++ bits) last_names l2.1 in
      as_global ps' (copy_name k x) (number_of t A) (k * length gs + number_of x.text gs) out (l3.0 ∙ (l2.0 ∙ l1.0)) atA
      ∙ ap (copy_at (length gs) k) (sym (ap (λ c. cond c (local (number_of x.text own)) (global (number_of x.text gs))) hidden))

  pub save_place : (ps' : List Name) (x : Name) (k : ℕ) → k < last → is_declared x.text own ≡ false
      → is_declared x.text gs ≡ true
      → place_of (wider ps') (save_name (suc k) x) ≡ save_at (length gs) last (suc k) (place_of scope x)
  save_place ps' x k lt hidden there =
      let free : has_double x.text ≡ false = free_name x.text gs gs_free there in
      let t : List ℕ = (save_name (suc k) x).text in
      let out : is_declared t (own ++ temps) ≡ false =
      outside x.text (115 ∷ decimal (suc (suc k)))
      (λ i.
      same_text_false t (drawn_name i).text (no_drawn x.text 115 (decimal (suc (suc k))) (decimal (suc i)) free (λ z. omega arith))) in
      let r = in_rows (by_names []) last save_name gs (numbered_spelled (codes "__s")) x there k 1 last lt (omega arith) in
      let z : 1 + k ≡ suc k = omega arith in
      let inB : is_declared t B ≡ true = ap (λ y. is_declared (save_name y x).text B) (sym z) ∙ r.0 in
      let atB : number_of t B ≡ k * length gs + number_of x.text gs = ap (λ y. number_of (save_name y x).text B) (sym z) ∙ r.1 in
      let noA : is_declared t A ≡ false =
      none_in_rows (by_names []) last copy_name gs t 0 (suc last)
      (λ i y l. save_no_copy x.text y.text (suc k) i (omega arith) (omega arith)) in
      let l1 = number_right t A B noA in
      let l2 = number_left t (A ++ B) bits (l1.1 ∙ inB) in
      let l3 = number_left t (A ++ B ++ bits) last_names l2.1 in
      as_global ps' (save_name (suc k) x) (length A + number_of t B) (suc last * length gs + (k * length gs + number_of x.text gs)) out
      (l3.0 ∙ (l2.0 ∙ l1.0)) (ap₂ (λ p q. p + q) length-A atB)
      ∙ ap (save_at (length gs) last (suc k))
      (sym (ap (λ c. cond c (local (number_of x.text own)) (global (number_of x.text gs))) hidden))

  pub kept_place : (ps' : List Name) (x : Name) → is_declared x.text own ≡ true → place_of (wider ps') x ≡ place_of scope x
  kept_place ps' x here =
      let l = number_left x.text own temps here in
      ap (λ c. cond c (local (number_of x.text (own ++ temps))) (global (number_of x.text (globals (by_names []) last gs)))) l.1
      ∙ (ap local l.0 ∙ sym (ap (λ c. cond c (local (number_of x.text own)) (global (number_of x.text gs))) here))

  pub drawn_place : (ps' : List Name) (j : ℕ) → j < d → place_of (wider ps') (drawn_name j) ≡ local (length own + j)
  drawn_place ps' j lt =
      let t : List ℕ = (drawn_name j).text in
      let r = number_right t own temps (not_free (116 ∷ 109 ∷ 112 ∷ []) (116 ∷ decimal (suc j)) own own_free) in
      let z : 0 + j ≡ j = omega arith in
      let k = the_temporary j 0 d lt (omega arith) in
      let ink : is_declared t temps ≡ true = ap (λ y. is_declared (drawn_name y).text temps) (sym z) ∙ k.0 in
      let atk : number_of t temps ≡ j = ap (λ y. number_of (drawn_name y).text temps) (sym z) ∙ k.1 in
      ap (λ c. cond c (local (number_of t (own ++ temps))) (global (number_of t (globals (by_names []) last gs)))) (r.1 ∙ ink)
      ∙ ap local (r.0 ∙ ap (λ y. length own + y) atk)

  -- a name of the rewriting's own that ends in two underscores
  low_place : (ps' : List Name) (a : List ℕ) (m : ℕ) → ((i : ℕ) → same_text (a ++ 95 ∷ 95 ∷ []) (drawn_name i).text ≡ false)
      → number_of (a ++ 95 ∷ 95 ∷ []) (bits ++ last_names) ≡ m
      → place_of (wider ps') (fresh_name (a ++ 95 ∷ 95 ∷ [])) ≡ global (bits_at (length gs) last + m)
  low_place ps' a m differ at =
      let t : List ℕ = a ++ 95 ∷ 95 ∷ [] in
      let split : a ++ 95 ∷ 95 ∷ [] ≡ (a ++ 95 ∷ []) ++ 95 ∷ [] = sym (append_assoc a (95 ∷ []) (95 ∷ [])) in
      let noA : is_declared t A ≡ false =
      none_in_rows (by_names []) last copy_name gs t 0 (suc last)
      (λ i y l. ap (λ z. same_text z (copy_name i y).text) split ∙ low_no_numbered (codes "__") (a ++ 95 ∷ []) y.text i (omega arith)) in
      let noB : is_declared t B ≡ false =
      none_in_rows (by_names []) last save_name gs t 1 last
      (λ i y l. ap (λ z. same_text z (save_name i y).text) split ∙ low_no_numbered (codes "__s") (a ++ 95 ∷ []) y.text i (omega arith)) in
      let r1 = number_right t A B noA in
      let r2 = number_right t (A ++ B) (bits ++ last_names) (r1.1 ∙ noB) in
      let lAB : length (A ++ B) ≡ bits_at (length gs) last = length-append A B ∙ ap₂ (λ p q. p + q) length-A length-B in
      as_global ps' (fresh_name t) (length (A ++ B) + number_of t (bits ++ last_names)) (bits_at (length gs) last + m) (outside a [] differ)
      (ap (number_of t) (append_assoc (A ++ B) bits last_names) ∙ r2.0) (ap₂ (λ p q. p + q) lAB at)

  bit_place : (ps' : List Name) (j i : ℕ) → suc (j + i) ≡ round_bits last
      → place_of (wider ps') (bit_name j) ≡ global (bits_at (length gs) last + i)
  bit_place ps' zero i e =
      low_place ps' (114 ∷ 108 ∷ []) i (λ k. refl) (number_bit (round_bits last) 0 i (bits_few last).0 (bits_few last).1 e)
  bit_place ps' (suc zero) i e =
      low_place ps' (114 ∷ 104 ∷ []) i (λ k. refl) (number_bit (round_bits last) 1 i (bits_few last).0 (bits_few last).1 e)
  bit_place ps' (suc (suc j)) i e =
      low_place ps' (114 ∷ 116 ∷ []) i (λ k. refl) (number_bit (round_bits last) (suc (suc j)) i (bits_few last).0 (bits_few last).1 e)

  places_from : (ps' : List Name) (j m : ℕ) → j + m ≡ round_bits last
      → map (place_of (wider ps')) (map bit_name (numbers j m)) ≡ bits_from (bits_at (length gs) last) m
  places_from ps' j zero e = refl
  places_from ps' j (suc m) e =
      ap₂ (λ x xs. x ∷ xs) (bit_place ps' j m (omega arith)) (places_from ps' (suc j) m (omega arith))

  -- the bits are at their places
  pub bits_placed : (ps' : List Name)
      → map (place_of (wider ps')) (bit_names (round_bits last)) ≡ bits_from (bits_at (length gs) last) (round_bits last)
  bits_placed ps' = places_from ps' 0 (round_bits last) (omega arith)

  pub stop_place : (ps' : List Name) → place_of (wider ps') (fresh_name (codes "stop__")) ≡ global (stop_at (length gs) last)
  stop_place ps' =
      low_place ps' (115 ∷ 116 ∷ 111 ∷ 112 ∷ []) (round_bits last) (λ i. refl)
      (number_last (round_bits last) (bits_few last).0 (bits_few last).1).0

  pub bad_place : (ps' : List Name) → place_of (wider ps') (fresh_name (codes "bad__")) ≡ global (bad_at (length gs) last)
  bad_place ps' =
      low_place ps' (98 ∷ 97 ∷ 100 ∷ []) (round_bits last + 1) (λ i. refl)
      (number_last (round_bits last) (bits_few last).0 (bits_few last).1).1
