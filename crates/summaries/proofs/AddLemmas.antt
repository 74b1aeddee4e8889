-- What is found by keys after one more value was added to a key.
use Rattle.std.proofs.Common.{◌≡◌, ◌⊎◌, Bool, true, false, List, [], ◌∷◌, ◌++◌, inl, inr, refl, sym, subst}
use Rattle.language.specs.Lists.{Member, NoneTwice}
use Rattle.language.proofs.Members.{member_left, member_right}
use Rattle.summaries.specs.declared.edge.CallKey.{CallKey}
use Rattle.summaries.specs.Calls.{call_eq}
use Rattle.summaries.specs.Found.{call}
use Rattle.path_sets.proofs.MaskKeyLemmas.{same_by_two}
use Rattle.summaries.proofs.Mails.{none_twice_with}
use Rattle.path_sets.proofs.PlaceLemmas.{last_or}

-- calls that compare as equal are the same
pub same_call : (x y : CallKey) → call_eq x y ≡ true → x ≡ y
same_call x y = same_by_two call x.callee x.entered y.callee y.entered

module _ {K V : Type 0} (eq : K → K → Bool) (same : (x y : K) → eq x y ≡ true → x ≡ y) (before after : K → List V) (key : K) (value : V)
    (added : after key ≡ before key ++ value ∷ []) (others : (k : K) → eq key k ≡ false → after k ≡ before k) where
  -- nothing occurs twice, if the new one was not there
  pub added_once : (Member value (before key) → ⊥) → ((k : K) → NoneTwice (before k)) → (k : K) → NoneTwice (after k)
  added_once new once k = by (eq key k) refl
    where
      by : (b : Bool) → eq key k ≡ b → NoneTwice (after k)
      by true e =
          subst (λ j. NoneTwice (after j)) (same key k e)
          (subst NoneTwice (sym added) (none_twice_with value (before key) new (once key)))
      by false e = subst NoneTwice (sym (others k e)) (once k)
