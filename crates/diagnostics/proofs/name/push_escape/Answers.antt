use Rattle.std.proofs.Common.{◌≡◌, ℕ, List, cond, is_ok, OnOk, Result, Ok, Err}
use Rattle.diagnostics.proofs.name.push_escape.Goals as goal

on_ok : {B F : Type 0} (r : Result B F) (x a b : List ℕ) → x ≡ cond (is_ok r) a b → OnOk r (x ≡ a)
on_ok (Ok u) x a b e = e
on_ok (Err f) x a b e = tt

pub returns-in-10 : goal.returns-in-10
returns-in-10 g c = rw c.in-10.is (on_ok c.push_str-in-10.result _ _ _ c.push_str-in-10.ensures.bytes)
