-- Each step of the lock keeps its rule.
use Rattle.std.proofs.Common.{◌≡◌, ◌≢◌, inl, inr, ℕ, ◌+◌, ◌*◌, ◌^◌, ◌<◌, ◌≤◌, List, [], ◌∷◌, ◌++◌, length, set, refl, sym, ap, ◌∙◌, subst}
use Rattle.std.proofs.Common.{arith, Option, Some, length-append, lt_of_not-le}
use mathlib.Core.Option as maybe
use mathlib.Core.Option.{some}
use mathlib.Core.Logic.{dite}
use native.Mathlib.Decide.{ℕ_discrete, dec_le}
use lib.ListN.{get_elem?}
use Rattle.atomic_table.specs.Table.{State}
use Rattle.ticket_lock.specs.declared.hand.Hand.{Hand}
use Rattle.ticket_lock.specs.Count.{times, total}
use Rattle.ticket_lock.specs.History.{StartsWith}
use Rattle.ticket_lock.specs.Core.{in_hand, Fits, TicketCore}
use Rattle.ticket_lock.specs.Turns.{with_ticket, with_entry, with_leave}
use Rattle.ticket_lock.specs.Drawing.{HasDrawn}
use Rattle.ticket_lock.specs.Proved.Facts.{total_set, total_at, total_two, at_set, set_here, at_inside}
use Rattle.ticket_lock.proofs.HistoryFacts.{total_few, total_plus, times-snoc}
use Rattle.ticket_lock.specs.Proved.Facts.{times-one, StartsWith-refl, StartsWith-more, EndsIn-more}
use Rattle.ticket_lock.proofs.HistoryFacts.{times-other, times-without}

module _ {T : Type 0} (serving next : ℕ) (log : List T) (here : maybe.Option (maybe.Option (Option T))) (hands : List (Hand T)) (id : ℕ)
    (h : Hand T) (is_at : get_elem? hands id ≡ some h) (c : TicketCore serving next log here hands) where
  -- a ticket in the hand is served or waits
  pub in_range : (n : ℕ) → 0 < in_hand n h → (serving ≤ n) × (n < next)
  in_range n some_of = (
    elim (dec_le serving n) [
      | yes d ↦ d
      | no d ↦ (let lt = lt_of_not-le d in absurd (omega (arith, c.past n lt, total_at (in_hand n) hands id h is_at)))
    ],
    elim (dec_le next n) [ no d ↦ lt_of_not-le d | yes d ↦ absurd (omega (arith, c.ahead n d, total_at (in_hand n) hands id h is_at)) ],
  )

  -- the numbers do not run out
  pub few_drawn : next ≤ 64 * 2 ^ 56
  few_drawn =
      omega (
        arith,
        total_few (λ (x : Hand T). length x.drawn) (λ (x : Hand T). x.parts) (2 ^ 56) hands (λ j x e. (c.each j x e).few),
        c.drawn,
        c.parts,
      )

  each_set : (serving' : ℕ) (log' : List T) (w : Hand T) → Fits serving' log' w
      → ((j : ℕ) (x : Hand T) → j ≢ id → get_elem? hands j ≡ some x → Fits serving' log' x)
      → (j : ℕ) (x : Hand T) → get_elem? (set hands id w) j ≡ some x → Fits serving' log' x
  each_set serving' log' w mine others j x e =
      elim (at_set hands id j w x e) [ inl t ↦ subst (λ z. Fits serving' log' z) t.1 mine | inr t ↦ others j x t.0 t.1 ]

  pub core_draws : length h.drawn < h.parts * 2 ^ 56 → TicketCore serving (next + 1) log here (set hands id (with_ticket next h))
  core_draws room =
      let w : Hand T = with_ticket next h in
      let mine = c.each id h is_at in
      record {
        served = c.served;
        order = omega (arith, c.order);
        held = λ n lo hi. let s = total_set (in_hand n) hands id h w is_at in let t = times-snoc n h.tickets next in
            dite (ℕ_discrete next n)
            (λ (e : next ≡ n). let one : times n (next ∷ []) ≡ 1 = subst (λ k. times n (k ∷ []) ≡ 1) (sym e) (times-one n) in
            omega (arith, c.ahead n (omega arith)))
            (λ (ne : next ≢ n). let no_more = times-other n next ne in omega (arith, c.held n lo (omega arith)));
        past = λ n lo. let s = total_set (in_hand n) hands id h w is_at in let t = times-snoc n h.tickets next in let o = c.order in
            let no_more = times-other n next (λ e. omega arith) in omega (arith, c.past n lo);
        ahead = λ n hi. let s = total_set (in_hand n) hands id h w is_at in let t = times-snoc n h.tickets next in
            let no_more = times-other n next (λ e. omega arith) in omega (arith, c.ahead n (omega arith));
        drawn_once = λ n hi. let s = total_set (λ (x : Hand T). times n x.drawn) hands id h w is_at in let t = times-snoc n h.drawn next in
            dite (ℕ_discrete next n)
            (λ (e : next ≡ n). let one : times n (next ∷ []) ≡ 1 = subst (λ k. times n (k ∷ []) ≡ 1) (sym e) (times-one n) in
            omega (arith, c.undrawn n (omega arith)))
            (λ (ne : next ≢ n). let no_more = times-other n next ne in omega (arith, c.drawn_once n (omega arith)));
        undrawn = λ n hi. let s = total_set (λ (x : Hand T). times n x.drawn) hands id h w is_at in let t = times-snoc n h.drawn next in
            let no_more = times-other n next (λ e. omega arith) in omega (arith, c.undrawn n (omega arith));
        drawn = omega (arith, total_set (λ (x : Hand T). length x.drawn) hands id h w is_at, c.drawn, length-append h.drawn (next ∷ []));
        parts = omega (arith, total_set (λ (x : Hand T). x.parts) hands id h w is_at, c.parts);
        each = each_set serving log w record {
          begins = mine.begins;
          inside = mine.inside;
          few = omega (arith, length-append h.drawn (next ∷ []));
          idle =
              λ none.
              absurd
              (let z : h.parts ≡ 0 = none in let r : length h.drawn < 0 * 2 ^ 56 = subst (λ k. length h.drawn < k * 2 ^ 56) z room in
              omega arith);
        } (λ j x _ e. c.each j x e);
        home = λ none. c.home (omega (arith, total_set (λ (x : Hand T). length x.inside) hands id h w is_at));
      }

  pub outside : 0 < times serving h.tickets → h.inside ≡ []
  outside some_of =
      let range = in_range serving (omega arith) in
      elim ((c.each id h is_at).inside) [
        | inl e ↦ e
        | inr e ↦
            (let one : times serving h.inside ≡ 1 = subst (λ l. times serving l ≡ 1) (sym e.0) (times-one serving) in
            absurd (omega (arith, c.held serving (omega arith) range.1, total_at (in_hand serving) hands id h is_at)))
      ]

  pub core_enters : (here' : maybe.Option (maybe.Option (Option T))) → 0 < times serving h.tickets
      → TicketCore serving next log here' (set hands id (with_entry serving log h))
  core_enters here' some_of =
      let w : Hand T = with_entry serving log h in
      let mine = c.each id h is_at in
      let out = outside some_of in
      let same : (n : ℕ) → total (in_hand n) (set hands id w) ≡ total (in_hand n) hands = λ n.
      (let none : times n h.inside ≡ 0 = ap (times n) out in
      omega (arith, total_set (in_hand n) hands id h w is_at, times-without serving n h.tickets some_of)) in
      record {
        served = c.served;
        order = c.order;
        held = λ n lo hi. same n ∙ c.held n lo hi;
        past = λ n lo. same n ∙ c.past n lo;
        ahead = λ n hi. same n ∙ c.ahead n hi;
        drawn_once = λ n hi. omega (arith, total_set (λ (x : Hand T). times n x.drawn) hands id h w is_at, c.drawn_once n hi);
        undrawn = λ n hi. omega (arith, total_set (λ (x : Hand T). times n x.drawn) hands id h w is_at, c.undrawn n hi);
        drawn = omega (arith, total_set (λ (x : Hand T). length x.drawn) hands id h w is_at, c.drawn);
        parts = omega (arith, total_set (λ (x : Hand T). x.parts) hands id h w is_at, c.parts);
        each = each_set serving log w record {
          begins = StartsWith-refl log;
          inside = inr (refl, refl);
          few = mine.few;
          idle = λ none. absurd (let z : times serving h.tickets ≡ 0 = ap (times serving) (mine.idle none).0 in omega arith);
        } (λ j x _ e. c.each j x e);
        home =
            λ none.
            absurd (let k =
            total_at (λ (x : Hand T). length x.inside) (set hands id w) id w (set_here hands id w (at_inside hands id h is_at)) in
            omega arith);
      }

  pub core_passes : (y : T) → h.inside ≡ serving ∷ [] → h.seen ≡ log
      → TicketCore (serving + 1) next (log ++ y ∷ []) (some (some (Some y))) (set hands id (with_leave y h))
  core_passes y inside seen =
      let w : Hand T = with_leave y h in
      let mine = c.each id h is_at in
      let one : times serving h.inside ≡ 1 = subst (λ l. times serving l ≡ 1) (sym inside) (times-one serving) in
      let range = in_range serving (omega arith) in
      let held_one = c.held serving (omega arith) range.1 in
      let at_most = total_at (in_hand serving) hands id h is_at in
      let other : (n : ℕ) → serving ≢ n → total (in_hand n) (set hands id w) ≡ total (in_hand n) hands = λ n ne.
      (let none : times n h.inside ≡ 0 = ap (times n) inside ∙ times-other n serving ne in
      omega (arith, total_set (in_hand n) hands id h w is_at)) in
      record {
        served = omega (arith, length-append log (y ∷ []), c.served);
        order = omega arith;
        held = λ n lo hi. other n (λ e. omega arith) ∙ c.held n (omega arith) hi;
        past = λ n lo. dite (ℕ_discrete serving n)
            (λ (e : serving ≡ n).
            subst (λ k. total (in_hand k) (set hands id w) ≡ 0) e (omega (arith, total_set (in_hand serving) hands id h w is_at)))
            (λ (ne : serving ≢ n). other n ne ∙ c.past n (omega arith));
        ahead = λ n hi. other n (λ e. omega arith) ∙ c.ahead n hi;
        drawn_once = λ n hi. omega (arith, total_set (λ (x : Hand T). times n x.drawn) hands id h w is_at, c.drawn_once n hi);
        undrawn = λ n hi. omega (arith, total_set (λ (x : Hand T). times n x.drawn) hands id h w is_at, c.undrawn n hi);
        drawn = omega (arith, total_set (λ (x : Hand T). length x.drawn) hands id h w is_at, c.drawn);
        parts = omega (arith, total_set (λ (x : Hand T). x.parts) hands id h w is_at, c.parts);
        each = each_set (serving + 1) (log ++ y ∷ []) w record {
          begins = subst (λ l. StartsWith (log ++ y ∷ []) (l ++ y ∷ [])) (sym seen) (StartsWith-refl (log ++ y ∷ []));
          inside = inl refl;
          few = mine.few;
          idle = λ none. ((mine.idle none).0, refl);
        } (λ j x ne e. let f = c.each j x e in record {
          begins = StartsWith-more log x.seen y f.begins;
          inside = inl (elim f.inside [
            | inl o ↦ o
            | inr o ↦ (let two = total_two (in_hand serving) hands id j h x (λ s. ne (sym s)) is_at e in
                let also : times serving x.inside ≡ 1 = subst (λ l. times serving l ≡ 1) (sym o.0) (times-one serving) in
                absurd (omega arith))
          ]);
          few = f.few;
          idle = f.idle;
        });
        home = λ none. (y, EndsIn-more log y, refl);
      }

  -- if the ticket that is served waits in this hand, nobody is inside
  pub nobody_inside : 0 < times serving h.tickets → total (λ (x : Hand T). length x.inside) hands ≡ 0
  nobody_inside some_of =
      let range = in_range serving (omega arith) in
      let each_one =
      total_few (λ (x : Hand T). length x.inside) (λ (x : Hand T). times serving x.inside) 1 hands (λ j x e. inside_counts j x e) in
      let both = total_plus (λ (x : Hand T). times serving x.tickets) (λ (x : Hand T). times serving x.inside) hands in
      let mine = total_at (λ (x : Hand T). times serving x.tickets) hands id h is_at in
      omega (arith, c.held serving (omega arith) range.1)
    where
      inside_counts : (j : ℕ) (x : Hand T) → get_elem? hands j ≡ some x → length x.inside ≤ times serving x.inside * 1
      inside_counts j x e = elim ((c.each j x e).inside) [
        | inl o ↦ (let z : length x.inside ≡ 0 = ap length o in omega arith)
        | inr o ↦
            (let z : length x.inside ≡ 1 = ap length o.0 in
            let also : times serving x.inside ≡ 1 = subst (λ l. times serving l ≡ 1) (sym o.0) (times-one serving) in omega arith)
      ]

module _ {T : Type 0} (serving next : ℕ) (log : List T) (here : maybe.Option (maybe.Option (Option T))) (hands : List (Hand T))
    (c : TicketCore serving next log here hands) where
  inside_is : (j : ℕ) (x : Hand T) → get_elem? hands j ≡ some x → length x.inside ≤ in_hand serving x * 1
  inside_is j x e = elim ((c.each j x e).inside) [
    | inl o ↦ (let z : length x.inside ≡ 0 = ap length o in omega arith)
    | inr o ↦
        (let z : length x.inside ≡ 1 = ap length o.0 in
        let also : times serving x.inside ≡ 1 = subst (λ l. times serving l ≡ 1) (sym o.0) (times-one serving) in omega arith)
  ]

  -- at most one hand is inside
  pub at_most_one : total (λ (x : Hand T). length x.inside) hands ≤ 1
  at_most_one =
      let each_one = total_few (λ (x : Hand T). length x.inside) (in_hand serving) 1 hands inside_is in
      elim (dec_le next serving) [
        | yes d ↦ omega (arith, c.ahead serving d)
        | no d ↦ (let lt = lt_of_not-le d in omega (arith, c.held serving (omega arith) lt))
      ]

  -- each number is in one hand at most
  pub held_once : (n : ℕ) → total (in_hand n) hands ≤ 1
  held_once n = elim (dec_le serving n) [
    | no d ↦ omega (arith, c.past n (lt_of_not-le d))
    | yes d ↦ elim (dec_le next n) [
      | yes e ↦ omega (arith, c.ahead n e)
      | no e ↦ omega (arith, c.held n d (lt_of_not-le e))
    ]
  ]

  -- each number was drawn at most once
  pub drawn_at_most_once : (n : ℕ) → total (λ (x : Hand T). times n x.drawn) hands ≤ 1
  drawn_at_most_once n = elim (dec_le next n) [
    | yes d ↦ omega (arith, c.undrawn n d)
    | no d ↦ omega (arith, c.drawn_once n (lt_of_not-le d))
  ]

  -- the rule reads the hands only by what they have in all, and each by itself
  pub core_same : (hands' : List (Hand T)) → ((n : ℕ) → total (in_hand n) hands' ≡ total (in_hand n) hands)
      → ((n : ℕ) → total (λ (x : Hand T). times n x.drawn) hands' ≡ total (λ (x : Hand T). times n x.drawn) hands)
      → total (λ (x : Hand T). length x.drawn) hands' ≡ total (λ (x : Hand T). length x.drawn) hands
      → total (λ (x : Hand T). x.parts) hands' ≡ total (λ (x : Hand T). x.parts) hands
      → total (λ (x : Hand T). length x.inside) hands' ≡ total (λ (x : Hand T). length x.inside) hands
      → ((j : ℕ) (x : Hand T) → get_elem? hands' j ≡ some x → Fits serving log x) → TicketCore serving next log here hands'
  core_same hands' same_hand same_drawn same_count same_parts same_inside each = record {
    served = c.served;
    order = c.order;
    held = λ n lo hi. same_hand n ∙ c.held n lo hi;
    past = λ n lo. same_hand n ∙ c.past n lo;
    ahead = λ n hi. same_hand n ∙ c.ahead n hi;
    drawn_once = λ n hi. same_drawn n ∙ c.drawn_once n hi;
    undrawn = λ n hi. same_drawn n ∙ c.undrawn n hi;
    drawn = same_count ∙ c.drawn;
    parts = omega (arith, c.parts);
    each = each;
    home = λ none. c.home (sym same_inside ∙ none);
  }

-- if no number was drawn twice, what a seat has drawn nobody had drawn before
pub not_drawn_before : {T V : Type 0} (see : V → Hand T) (seat number : ℕ) (s t : State (Option T) V)
    → HasDrawn see seat number s t → total (λ v. times number (see v).drawn) t.views ≤ 1
    → total (λ v. times number (see v).drawn) s.views ≡ 0
not_drawn_before {T} {V} see seat number s t d once =
    let drawn = (λ (x : V). times number (see x).drawn) in
    let all : total drawn (set s.views seat d.after) ≤ 1 = subst (λ l. total drawn l ≤ 1) d.others once in
    let more : drawn d.after ≡ drawn d.before + times number (number ∷ []) =
    ap (λ (h : Hand T). times number h.drawn) d.ticket ∙ times-snoc number (see d.before).drawn number in
    omega (arith, total_set drawn s.views seat d.before d.after d.there, times-one number)
