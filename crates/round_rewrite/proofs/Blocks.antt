-- How the rewriting goes with joining, with leaving out labels and numbers, and with jumps.
use Rattle.std.proofs.Common.{◌≡◌, ℕ, zero, suc, Bool, true, false, cond, Option, Some, None, option_map, refl, sym, ◌∙◌, ap, ap₂, map}
use Rattle.language.specs.Tree.{Simple, assign, call_for, Mark, Block, done, one}
use Rattle.language.specs.Tree.{choose, loop, RightSide}
use Rattle.language.specs.Value.{Place}
use Rattle.language.specs.Rest.{Label, Code, join, rest_from, first_of_two, has_label}
use Rattle.language.proofs.Rests.{join_join, first_none}
use Rattle.round_rewrite.specs.Table.{Naming, no_mark, draws, drawing, prologue, stop_test, received, receiver, statement, rewritten, side}
use Rattle.round_rewrite.specs.Table.{expression_form}
use Rattle.round_rewrite.proofs.Plain.{bare, bare-join, found, firsts}

first_assoc : {A : Type 0} (x y z : Option A) → first_of_two (first_of_two x y) z ≡ first_of_two x (first_of_two y z)
first_assoc None y z = refl
first_assoc (Some a) y z = refl

cond_first : {A : Type 0} (c : Bool) (a : A) (x y : Option A) → first_of_two (cond c (Some a) x) y ≡ cond c (Some a) (first_of_two x y)
cond_first true a x y = refl
cond_first false a x y = refl

-- where a jump into two blocks leads
rest-join : (x : Label) (a b k : Code) → rest_from x (join a b) k ≡ first_of_two (rest_from x a (join b k)) (rest_from x b k)
rest-join x done b k = refl
rest-join x (one m s t) b k =
    (λ i. cond (has_label x m) (Some (one m s (join_join t b k i))) (rest-join x t b k i))
    ∙ sym (cond_first (has_label x m) (one m s (join t (join b k))) (rest_from x t (join b k)) (rest_from x b k))
rest-join x (choose m r y z t) b k =
    (λ i. cond (has_label x m) (Some (choose m r y z (join_join t b k i)))
    (first_of_two (rest_from x y (join_join t b k i)) (first_of_two (rest_from x z (join_join t b k i)) (rest-join x t b k i))))
    ∙ (ap (cond (has_label x m) (Some (choose m r y z (join t (join b k)))))
    (ap (first_of_two (rest_from x y (join t (join b k))))
    (sym (first_assoc (rest_from x z (join t (join b k))) (rest_from x t (join b k)) (rest_from x b k)))
    ∙ sym
    (first_assoc (rest_from x y (join t (join b k))) (first_of_two (rest_from x z (join t (join b k))) (rest_from x t (join b k)))
    (rest_from x b k)))
    ∙ sym (cond_first (has_label x m) _ _ (rest_from x b k)))
rest-join x (loop m r y t) b k =
    (λ i. cond (has_label x m) (Some (loop m r y (join_join t b k i)))
    (first_of_two (rest_from x y (loop m r y (join_join t b k i))) (rest-join x t b k i)))
    ∙ (ap (cond (has_label x m) (Some (loop m r y (join t (join b k)))))
    (sym (first_assoc (rest_from x y (loop m r y (join t (join b k)))) (rest_from x t (join b k)) (rest_from x b k)))
    ∙ sym (cond_first (has_label x m) _ _ (rest_from x b k)))

-- if a list or another comes after
cond_join : {V P L : Type 0} (c : Bool) (a b k : Block V P L) → join (cond c a b) k ≡ cond c (join a k) (join b k)
cond_join true a b k = refl
cond_join false a b k = refl

bare-cond : (c : Bool) (a b : Code) → bare (cond c a b) ≡ cond c (bare a) (bare b)
bare-cond true a b = refl
bare-cond false a b = refl

rest-same : (x : Label) (c : Bool) (a b k : Code) → rest_from x a k ≡ rest_from x b k
    → rest_from x (cond c a b) k ≡ rest_from x b k
rest-same x true a b k e = e
rest-same x false a b k e = refl

module _ {V W P Q L : Type 0} (w : Naming V W P Q) (last : ℕ) where
  drawing-join : (n : ℕ) (t b : Block W Q L) → join (drawing w last n t) b ≡ drawing w last n (join t b)
  drawing-join zero t b = refl
  drawing-join (suc n) t b = refl

  pub statement-join : (s : Simple V P L) (t b : Block W Q L) → join (statement w last s t) b ≡ statement w last s (join t b)
  statement-join (assign xs rs) t b = drawing-join (draws w.is_shared xs rs) _ b
  statement-join (call_for x p es) t b =
      ap
      (λ z. one no_mark (call_for (receiver w last x) (w.called p) (map (expression_form w last) es)) (stop_test w last z))
      (cond_join (w.is_shared x) (received w last x t) t b)
  statement-join _ t b = refl

module _ (w : Naming Place Place ℕ ℕ) (last : ℕ) where
  pub bare-drawing : (n : ℕ) (t : Code) → bare (drawing w last n t) ≡ drawing w last n (bare t)
  bare-drawing zero t = refl
  bare-drawing (suc n) t = refl

  pub bare-statement : (s : Simple Place ℕ Label) (t : Code) → bare (statement w last s t) ≡ statement w last s (bare t)
  bare-statement (assign xs rs) t = bare-drawing (draws w.is_shared xs rs) _
  bare-statement (call_for x p es) t =
      ap
      (λ z. one no_mark (call_for (receiver w last x) (w.called p) (map (expression_form w last) es)) (stop_test w last z))
      (bare-cond (w.is_shared x) (received w last x t) t)
  bare-statement _ t = refl

  rest-drawing : (x : Label) (n : ℕ) (t k : Code) → rest_from x (drawing w last n t) k ≡ rest_from x t k
  rest-drawing x zero t k = refl
  rest-drawing x (suc n) t k = refl

  rest-statement : (x : Label) (s : Simple Place ℕ Label) (t k : Code) → rest_from x (statement w last s t) k ≡ rest_from x t k
  rest-statement x (assign xs rs) t k = rest-drawing x (draws w.is_shared xs rs) _ k
  rest-statement x (call_for y p es) t k = rest-same x (w.is_shared y) (received w last y t) t k refl
  rest-statement x _ t k = refl

  -- the rewritten block without labels and numbers
  abbrev pub put : Code → Code
  put b = rewritten w last (bare b)

  pub bare-rewritten : (b : Code) → bare (rewritten w last b) ≡ put b
  bare-rewritten done = refl
  bare-rewritten (one m s t) =
      ap (prologue w last no_mark) (bare-statement s (rewritten w last t) ∙ ap (statement w last s) (bare-rewritten t))
  bare-rewritten (choose m r a b t) =
      λ i. prologue w last no_mark (choose no_mark (side w last r) (bare-rewritten a i) (bare-rewritten b i) (bare-rewritten t i))
  bare-rewritten (loop m r a t) =
      λ i. prologue w last no_mark (loop no_mark (side w last r)
      ((bare-join (rewritten w last a) (prologue w last no_mark done) ∙ ap (λ z. join z (prologue w last no_mark done)) (bare-rewritten a))
      i)
      (bare-rewritten t i))

  rewritten-join : (a b : Code) → rewritten w last (join a b) ≡ join (rewritten w last a) (rewritten w last b)
  rewritten-join done b = refl
  rewritten-join (one m s t) b =
      ap (prologue w last m)
      (ap (statement w last s) (rewritten-join t b) ∙ sym (statement-join w last s (rewritten w last t) (rewritten w last b)))
  rewritten-join (choose m r x y t) b =
      ap (λ z. prologue w last m (choose no_mark (side w last r) (rewritten w last x) (rewritten w last y) z)) (rewritten-join t b)
  rewritten-join (loop m r x t) b =
      ap (λ z. prologue w last m (loop no_mark (side w last r) (join (rewritten w last x) (prologue w last no_mark done)) z))
      (rewritten-join t b)

  pub put-join : (a b : Code) → put (join a b) ≡ join (put a) (put b)
  put-join a b = ap (rewritten w last) (bare-join a b) ∙ rewritten-join (bare a) (bare b)

  -- the body of a loop, its end's prologue and the loop again are the rewritten body and loop
  pub put-again : (m : Mark Label) (r : RightSide Place) (a t : Code)
      → put (join a (loop m r a t))
      ≡ join (join (put a) (prologue w last no_mark done))
      (loop no_mark (side w last r) (join (put a) (prologue w last no_mark done)) (put t))
  put-again m r a t =
      put-join a (loop m r a t)
      ∙ sym
      (join_join (put a) (prologue w last no_mark done)
      (loop no_mark (side w last r) (join (put a) (prologue w last no_mark done)) (put t)))

  tails : (t k k' : Code) → bare k ≡ put k' → bare (join (rewritten w last t) k) ≡ put (join t k')
  tails t k k' e = bare-join (rewritten w last t) k ∙ (ap₂ join (bare-rewritten t) e ∙ sym (put-join t k'))

  -- a jump in a rewritten block leads to the rewritten rest
  pub rest-rewritten : (x : Label) (b k k' : Code) → bare k ≡ put k'
      → option_map bare (rest_from x (rewritten w last b) k) ≡ option_map put (rest_from x b k')
  rest-rewritten x done k k' e = refl
  rest-rewritten x (one m s t) k k' e =
      let whole : bare (join (statement w last s (rewritten w last t)) k) ≡ statement w last s (put (join t k')) =
      ap bare (statement-join w last s (rewritten w last t) k)
      ∙ (bare-statement s (join (rewritten w last t) k) ∙ ap (statement w last s) (tails t k k' e)) in
      found bare put (has_label x m) _ _ _ _ (ap (prologue w last no_mark) whole)
      (ap (option_map bare) (rest-statement x s (rewritten w last t) k) ∙ rest-rewritten x t k k' e)
  rest-rewritten x (choose m r a b t) k k' e =
      let after : bare (join (rewritten w last t) k) ≡ put (join t k') = tails t k k' e in
      found bare put (has_label x m) _ _ _ _
      (λ i. prologue w last no_mark (choose no_mark (side w last r) (bare-rewritten a i) (bare-rewritten b i) (after i)))
      (firsts bare put _ _ _ _ (rest-rewritten x a (join (rewritten w last t) k) (join t k') after)
      (firsts bare put _ _ _ _ (rest-rewritten x b (join (rewritten w last t) k) (join t k') after)
      (rest-rewritten x t k k' e)))
  rest-rewritten x (loop m r a t) k k' e =
      let after : bare (join (rewritten w last t) k) ≡ put (join t k') = tails t k k' e in
      let pd : Code = prologue w last no_mark done in
      let body : Code = join (rewritten w last a) pd in
      let bodies : bare body ≡ join (put a) pd = bare-join (rewritten w last a) pd ∙ ap (λ z. join z pd) (bare-rewritten a) in
      let again : Code = loop no_mark (side w last r) body (join (rewritten w last t) k) in
      let agains : bare (join pd again) ≡ put (loop m r a (join t k')) =
      (λ i. prologue w last no_mark (loop no_mark (side w last r) (bodies i) (after i))) in
      found bare put (has_label x m) _ _ _ _ agains
      (firsts bare put _ _ _ _
      (ap (option_map bare) (rest-join x (rewritten w last a) pd again ∙ first_none (rest_from x (rewritten w last a) (join pd again)))
      ∙ rest-rewritten x a (join pd again) (loop m r a (join t k')) agains)
      (rest-rewritten x t k k' e))
