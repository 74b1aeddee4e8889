-- The lists of callers and finished frames, as items are worked on.
use Rattle.std.proofs.Common.{◌≡◌, ◌↔◌, ◌⊎◌, ◌++◌, ℕ, Bool, true, false, List, [], ◌∷◌, inl, inr, sym, ap, ◌∙◌, subst, true≢false}
use Rattle.language.specs.Lists.{Member}
use Rattle.language.proofs.Members.{member_append, member_left, member_right}
use Rattle.groups.proofs.AddedLemmas.{added_or, added_keeps, added_is}
use Rattle.saturation.specs.Calls.{entry_eq, callers_of, finished_of, caller_item, finished_item}
use Rattle.saturation.specs.Work.{ListsAlso, finished_in, resting_at}
use Rattle.saturation.specs.declared.calls.Calls.{Calls}
use Rattle.saturation.specs.declared.item.Below.{Below}
use Rattle.saturation.specs.declared.item.Below.TheVariants.{Old, Call}
use Rattle.saturation.specs.declared.item.Caller.{Caller}
use Rattle.saturation.specs.declared.item.Entry.{Entry}
use Rattle.saturation.specs.declared.item.Item.{Item}
use Rattle.saturation.specs.declared.item.Item.TheVariants.{Head, Waits, Gone}
use Rattle.saturation.specs.declared.item.Top.{Top}
use Rattle.saturation.specs.declared.paired.Finished.{Finished}
use Rattle.saturation.specs.declared.paired.Resting.{Resting}
use Rattle.saturation.proofs.ItemLemmas.{same_entry}

-- ---- what an item is

abbrev pub is_head : Item → Bool
is_head (Head top) = true
is_head (Waits caller) = false
is_head (Gone globals) = false

abbrev pub caller_in : Caller → Item → Caller
caller_in c (Head top) = c
caller_in c (Waits caller) = caller
caller_in c (Gone globals) = c

abbrev pub top_in : Top → Item → Top
top_in t (Head top) = top
top_in t (Waits caller) = t
top_in t (Gone globals) = t

-- an item at the end of others is one of them, or itself
pub last_item : (x y : Item) (done : List Item) → Member x (done ++ y ∷ []) → Member x done ⊎ (x ≡ y)
last_item x y done m = elim (member_append x done (y ∷ []) m) [
  | inl was ↦ inl was
  | inr last ↦ elim last [ inl is ↦ inr is | inr none ↦ absurd none ]
]

pub at_last : (x y : Item) (done : List Item) → x ≡ y → Member x (done ++ y ∷ [])
at_last x y done same = member_right x done (y ∷ []) (inl same)

-- callers are not finished frames
pub no_caller : (entry : Entry) (resting : Resting) (top : Top) → caller_item entry resting ≡ Head top → ⊥
no_caller entry resting top same = true≢false (sym (ap is_head same))

pub no_finished : (entry : Entry) (one : Finished) (caller : Caller) → finished_item entry one ≡ Waits caller → ⊥
no_finished entry one caller same = true≢false (ap is_head same)

-- ---- a caller is added

module _ {A : Type 0} (old new : Calls A) (caller : Caller)
    (added : callers_of new caller.entry ≡ callers_of old caller.entry ++ resting_at caller ∷ [])
    (others : (k : Entry) → entry_eq caller.entry k ≡ false → callers_of new k ≡ callers_of old k)
    (same : (k : Entry) → finished_of new k ≡ finished_of old k) where
  pub lists_caller : ListsAlso (Waits caller) old new
  lists_caller done listed = record { callers = callers; finished = finished }
    where
      callers : (entry : Entry) (resting : Resting)
          → Member resting (callers_of new entry) ↔ Member (caller_item entry resting) (done ++ Waits caller ∷ [])
      callers entry resting = (
        λ m.
            elim (added_or entry_eq same_entry (callers_of old) (callers_of new) caller.entry
            (resting_at caller) added others entry resting m) [
              | inl was ↦ member_left (caller_item entry resting) done (Waits caller ∷ []) ((listed.callers entry resting).0 was)
              | inr (key, value) ↦ at_last (caller_item entry resting) (Waits caller) done (λ i. caller_item (sym key i) (sym value i))
            ],
        λ m. elim (last_item (caller_item entry resting) (Waits caller) done m) [
          | inl was ↦
              added_keeps entry_eq same_entry (callers_of old) (callers_of new) caller.entry (resting_at caller) added others entry resting
              ((listed.callers entry resting).1 was)
          | inr is ↦
              let whole : (record { entry = entry; frame = resting.frame; below = resting.below }) ≡ caller = ap (caller_in caller) is in
              subst (λ (c : Caller). Member (resting_at c) (callers_of new c.entry)) (sym whole)
              (added_is entry_eq same_entry (callers_of old) (callers_of new) caller.entry (resting_at caller) added others)
        ],
      )

      finished : (entry : Entry) (one : Finished) → Member one (finished_of new entry)
          ↔ (Member (finished_item entry one) (done ++ Waits caller ∷ []) × (one.frame.point ≡ 0))
      finished entry one = (
        λ m.
            let (was, exit) = (listed.finished entry one).0 (subst (Member one) (same entry) m) in
            (member_left (finished_item entry one) done (Waits caller ∷ []) was, exit),
        λ (m, exit). subst (Member one) (sym (same entry)) ((listed.finished entry one).1 (
          elim (last_item (finished_item entry one) (Waits caller) done m) [
            | inl was ↦ was
            | inr is ↦ absurd (no_finished entry one caller is)
          ],
          exit,
        )),
      )

-- ---- a finished frame is added

abbrev entry_in : Entry → Below → Entry
entry_in e (Old q) = e
entry_in e (Call x) = x

pub same_call : (x y : Entry) → Call x ≡ Call y → x ≡ y
same_call x y e = ap (entry_in x) e

module _ {A : Type 0} (old new : Calls A) (top : Top) (call : Entry) (over : top.below ≡ Call call) (exit : top.frame.point ≡ 0)
    (added : finished_of new call ≡ finished_of old call ++ finished_in top ∷ [])
    (others : (k : Entry) → entry_eq call k ≡ false → finished_of new k ≡ finished_of old k)
    (same : (k : Entry) → callers_of new k ≡ callers_of old k) where
  pub lists_finished : ListsAlso (Head top) old new
  lists_finished done listed = record { callers = callers; finished = finished }
    where
      callers : (entry : Entry) (resting : Resting)
          → Member resting (callers_of new entry) ↔ Member (caller_item entry resting) (done ++ Head top ∷ [])
      callers entry resting = (
        λ m.
            member_left (caller_item entry resting) done (Head top ∷ [])
            ((listed.callers entry resting).0 (subst (Member resting) (same entry) m)),
        λ m. subst (Member resting) (sym (same entry)) ((listed.callers entry resting).1
            (elim (last_item (caller_item entry resting) (Head top) done m) [
              | inl was ↦ was
              | inr is ↦ absurd (no_caller entry resting top is)
            ])),
      )

      finished : (entry : Entry) (one : Finished) → Member one (finished_of new entry)
          ↔ (Member (finished_item entry one) (done ++ Head top ∷ []) × (one.frame.point ≡ 0))
      finished entry one = (
        λ m. elim (added_or entry_eq same_entry (finished_of old) (finished_of new) call (finished_in top) added others entry one m) [
          | inl was ↦
              let (earlier, at_exit) = (listed.finished entry one).0 was in
              (member_left (finished_item entry one) done (Head top ∷ []) earlier, at_exit)
          | inr (key, value) ↦ (
            at_last (finished_item entry one) (Head top) done
                (ap Head
                (λ i. record {
                  globals = (sym value i).globals;
                  frame = (sym value i).frame;
                  below = (ap Call (sym key) ∙ sym over) i;
                })),
            subst (λ (z : Finished). z.frame.point ≡ 0) value exit,
          )
        ],
        λ (m, at_exit). elim (last_item (finished_item entry one) (Head top) done m) [
          | inl was ↦
              added_keeps entry_eq same_entry (finished_of old) (finished_of new) call (finished_in top) added others entry one
              ((listed.finished entry one).1 (was, at_exit))
          | inr is ↦
              let whole : (record { globals = one.globals; frame = one.frame; below = Call entry }) ≡ top = ap (top_in top) is in
              let key : entry ≡ call = same_call entry call (ap (λ (t : Top). t.below) whole ∙ over) in
              let value : one ≡ finished_in top = ap finished_in whole in
              subst (λ z. Member one (finished_of new z)) (sym key)
              (subst (λ z. Member z (finished_of new call)) (sym value)
              (added_is entry_eq same_entry (finished_of old) (finished_of new) call (finished_in top) added others))
        ],
      )

-- ---- nothing is added

module _ {A : Type 0} (calls : Calls A) where
  -- a top frame that is not finished, or not over a call
  pub lists_top : (top : Top) → ((entry : Entry) → top.below ≡ Call entry → top.frame.point ≡ 0 → ⊥) → ListsAlso (Head top) calls calls
  lists_top top other done listed = record {
    callers = λ entry resting. (
      λ m. member_left (caller_item entry resting) done (Head top ∷ []) ((listed.callers entry resting).0 m),
      λ m. (listed.callers entry resting).1
          (elim (last_item (caller_item entry resting) (Head top) done m) [
            | inl was ↦ was
            | inr is ↦ absurd (no_caller entry resting top is)
          ]),
    );
    finished = λ entry one. (
      λ m.
          let (was, exit) = (listed.finished entry one).0 m in
          (member_left (finished_item entry one) done (Head top ∷ []) was, exit),
      λ (m, exit). (listed.finished entry one).1 (
        elim (last_item (finished_item entry one) (Head top) done m) [
          | inl was ↦ was
          | inr is ↦
              let whole : (record { globals = one.globals; frame = one.frame; below = Call entry }) ≡ top = ap (top_in top) is in
              absurd (other entry (sym (ap (λ (t : Top). t.below) whole)) (subst (λ (t : Top). t.frame.point ≡ 0) whole exit))
        ],
        exit,
      ),
    );
  }

  pub lists_gone : (globals : ℕ) → ListsAlso (Gone globals) calls calls
  lists_gone globals done listed = record {
    callers = λ entry resting. (
      λ m. member_left (caller_item entry resting) done (Gone globals ∷ []) ((listed.callers entry resting).0 m),
      λ m. (listed.callers entry resting).1
          (elim (last_item (caller_item entry resting) (Gone globals) done m) [
            | inl was ↦ was
            | inr is ↦ absurd (true≢false (ap is_caller is))
          ]),
    );
    finished = λ entry one. (
      λ m.
          let (was, exit) = (listed.finished entry one).0 m in
          (member_left (finished_item entry one) done (Gone globals ∷ []) was, exit),
      λ (m, exit). (listed.finished entry one).1 (
        elim (last_item (finished_item entry one) (Gone globals) done m) [ inl was ↦ was | inr is ↦ absurd (true≢false (ap is_head is)) ],
        exit,
      ),
    );
  }
    where
      is_caller : Item → Bool
      is_caller (Head top) = false
      is_caller (Waits caller) = true
      is_caller (Gone globals) = false

-- a node from before is not a call
pub old_is_no_call : (q : ℕ) (entry : Entry) → Old q ≡ Call entry → ⊥
old_is_no_call q entry same = true≢false (ap is_node same)
  where
    is_node : Below → Bool
    is_node (Old r) = true
    is_node (Call x) = false
