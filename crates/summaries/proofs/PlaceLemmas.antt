-- What is kept by its place, and the messages that are given by places.
use Rattle.std.proofs.Common.{◌≡◌, ◌<◌, ℕ, zero, suc, false, List, [], ◌∷◌, ◌++◌, map, length}
use Rattle.std.proofs.Common.{Option, Some, unwrap_or, get_or, inl, inr, refl, sym, ap, subst, ◌∙◌, arith}
use Rattle.std.proofs.Common.{length-append}
use Rattle.std.proofs.lemmas.List.{append-nil, get_or_append_left, map-append}
use Rattle.language.specs.Lists.{Member, NoneTwice}
use Rattle.language.proofs.Members.{member_map, map_member}
use Rattle.summaries.specs.declared.due.Caller.TheVariants.{Proc}
use Rattle.summaries.specs.declared.edge.CallKey.{CallKey}
use Rattle.summaries.specs.declared.outbox.Outgoing.{Outgoing}
use Rattle.summaries.specs.declared.outbox.Outgoing.TheVariants.{EntryFor, SummaryFor}
use Rattle.summaries.specs.declared.pair.Pair.{Pair}
use Rattle.summaries.specs.Exits.{ArePairsOnce}
use Rattle.summaries.specs.Found.{call, pair, left, entry_mail, summary_mail, mail_of, IsPlaced}
use Rattle.summaries.specs.Grows.{AddsTo}
use Rattle.summaries.proofs.Dues.{same_entry, same_summary, apart}
use Rattle.path_sets.proofs.FilterLemmas.{map_none_twice}

module _ {X : Type 0} where
  -- what is at a place is in the list
  pub member_at : (xs : List X) (d : X) (i : ℕ) → i < length xs → Member (get_or xs i d) xs
  member_at [] d i near = absurd (omega (arith, near))
  member_at (x ∷ xs) d zero near = inl refl
  member_at (x ∷ xs) d (suc i) near = inr (member_at xs d i (omega (arith, near)))

  -- two places do not hold the same, if nothing occurs twice
  pub one_place : (xs : List X) (d : X) (i j : ℕ) → NoneTwice xs → i < length xs → j < length xs
      → get_or xs i d ≡ get_or xs j d → i ≡ j
  one_place [] d i j once near there same = absurd (omega (arith, near))
  one_place (x ∷ xs) d zero zero once near there same = refl
  one_place (x ∷ xs) d zero (suc j) once near there same =
      absurd (once.0 (subst (λ y. Member y xs) (sym same) (member_at xs d j (omega (arith, there)))))
  one_place (x ∷ xs) d (suc i) zero once near there same =
      absurd (once.0 (subst (λ y. Member y xs) same (member_at xs d i (omega (arith, near)))))
  one_place (x ∷ xs) d (suc i) (suc j) once near there same =
      ap suc (one_place xs d i j once.1 (omega (arith, near)) (omega (arith, there)) same)

module _ {X Y : Type 0} (f : X → Y) where
  -- two functions that agree on the items of a list
  pub map_agrees : (g : X → Y) (xs : List X) → ((x : X) → Member x xs → f x ≡ g x) → map f xs ≡ map g xs
  map_agrees g [] same = refl
  map_agrees g (x ∷ xs) same = λ i. same x (inl refl) i ∷ map_agrees g xs (λ y m. same y (inr m)) i

  -- what is added, each item through a function
  pub adds_mapped : (W : X → Type 0) (old new : List X) → AddsTo W old new
      → AddsTo (λ y. (x : X) × W x × (y ≡ f x)) (map f old) (map f new)
  adds_mapped W old new adds = record {
    all = λ y (x, w, is). subst (λ z. Member z (map f new)) (sym is) (member_map f new x (adds.all x w));
    only = λ y m.
        let (x, there, is) = map_member f new y m in
        elim (adds.only x there) [
          | inl w ↦ inl (x, w, is)
          | inr was ↦ inr (subst (λ z. Member z (map f old)) (sym is) (member_map f old x was))
        ];
    behind = (map f adds.behind.0, ap (map f) adds.behind.1 ∙ map-append f old adds.behind.0);
  }

-- others come after those of a list
abbrev pub HasMoreBehind : {X : Type 0} → List X → List X → Type 0
HasMoreBehind {X} xs ys = (more : List X) × (ys ≡ xs ++ more)

-- none need
pub none_behind : {X : Type 0} (xs : List X) → HasMoreBehind xs xs
none_behind xs = ([], sym (append-nil xs))

-- each place that has a pair keeps it
abbrev pub KeepsPairs : (ℕ → Option Pair) → (ℕ → Option Pair) → Type 0
KeepsPairs ps rs = (at : ℕ) (found : Pair) → ps at ≡ Some found → rs at ≡ Some found

-- as if nothing changes
pub none_moved : (ps : ℕ → Option Pair) → KeepsPairs ps ps
none_moved ps at found is = is

module _ (q : ℕ) (cs : List CallKey) (ps : ℕ → Option Pair) where
  module _ (ds : List CallKey) (rs : ℕ → Option Pair) (calls : HasMoreBehind cs ds) (pairs : KeepsPairs ps rs) where
    -- a message that has a place has it with more calls and pairs appended
    pub placed_still : (x : Outgoing) → IsPlaced cs ps x → IsPlaced ds rs x
    placed_still (EntryFor at) near =
        let longer = ap length calls.1 in let sum = length-append cs calls.0 in omega (arith, near, longer, sum)
    placed_still (SummaryFor to at) (told, is) = (told, pairs at told is)

    -- and is the same
    mail_still : (x : Outgoing) → IsPlaced cs ps x → mail_of ds rs q x ≡ mail_of cs ps q x
    mail_still (EntryFor at) near = ap (entry_mail q)
        (ap (λ l. get_or l at (call 0 0)) calls.1 ∙ get_or_append_left cs calls.0 (call 0 0) at near)
    mail_still (SummaryFor to at) (told, is) =
        ap (λ (p : Option Pair). summary_mail q to (unwrap_or p (pair 0 (left 0 false)))) (pairs at told is ∙ sym is)

    -- so are all of them
    pub mails_still : (xs : List Outgoing) → ((x : Outgoing) → Member x xs → IsPlaced cs ps x)
        → map (mail_of ds rs q) xs ≡ map (mail_of cs ps q) xs
    mails_still xs placed = map_agrees (mail_of ds rs q) (mail_of cs ps q) xs (λ x m. mail_still x (placed x m))

  -- a message that has a place is given by no other
  pub one_sent : NoneTwice cs → ArePairsOnce ps → (x y : Outgoing) → IsPlaced cs ps x → IsPlaced cs ps y →
      mail_of cs ps q x ≡ mail_of cs ps q y → x ≡ y
  one_sent calls pairs (EntryFor i) (EntryFor j) near there e =
      let c = get_or cs i (call 0 0) in
      let d = get_or cs j (call 0 0) in
      let entered = (same_entry (Proc q) (Proc q) c.entered d.entered (ap (λ m. m.due) e)).1 in
      ap EntryFor (one_place cs (call 0 0) i j calls near there (λ k. call (e k).to (sym entered k)))
  one_sent calls pairs (SummaryFor s i) (SummaryFor t j) (a, here) (b, there) e =
      let none = pair 0 (left 0 false) in
      let at_i : unwrap_or (ps i) none ≡ a = ap (λ p. unwrap_or p none) here in
      let at_j : unwrap_or (ps j) none ≡ b = ap (λ p. unwrap_or p none) there in
      let told : summary_mail q s a ≡ summary_mail q t b = ap (summary_mail q s) (sym at_i) ∙ e ∙ ap (summary_mail q t) at_j in
      let same = same_summary q q a.a b.a (left a.b a.r) (left b.b b.r) (ap (λ m. m.due) told) in
      let is : b ≡ a = λ l. pair (same.0 l).entered (same.1 l) in
      λ k. SummaryFor (e k).to (pairs i j a here (there ∙ ap Some is) k)
  one_sent calls pairs (EntryFor i) (SummaryFor t j) near there e =
      let c = get_or cs i (call 0 0) in
      let b = unwrap_or (ps j) (pair 0 (left 0 false)) in
      absurd (apart (Proc q) q c.entered b.a (left b.b b.r) (ap (λ m. m.due) e))
  one_sent calls pairs (SummaryFor s i) (EntryFor j) near there e =
      let a = unwrap_or (ps i) (pair 0 (left 0 false)) in
      let d = get_or cs j (call 0 0) in
      absurd (apart (Proc q) q d.entered a.a (left a.b a.r) (sym (ap (λ m. m.due) e)))

  -- so no message is given twice
  pub mails_once : NoneTwice cs → ArePairsOnce ps → (xs : List Outgoing) → ((x : Outgoing) → Member x xs → IsPlaced cs ps x)
      → NoneTwice xs → NoneTwice (map (mail_of cs ps q) xs)
  mails_once calls pairs xs placed once =
      map_none_twice (mail_of cs ps q) xs (λ x y m n e. one_sent calls pairs x y (placed x m) (placed y n) e) once
