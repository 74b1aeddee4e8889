-- The function that reads statements, and the grammar of statements: that it reads no more than it is given.
use Rattle.std.proofs.Common.{◌≡◌, ℕ, suc, ◌<◌, ◌≤◌, Bool, true, false, cond, ◌&&◌, List, [], ◌∷◌, length, Option, Some, None, refl, arith}
use Rattle.language.specs.Tree.{Name, skip, assign, leave, leave_with, call, call_for, Mark, Block, done}
use Rattle.tokens.specs.declared.vocabulary.Kind.TheVariants as kind
use Rattle.tokens.specs.Token.{Tok, same_kind}
use Rattle.syntax.specs.Parser.{Parser, Strict, give, refuse, ◌>>=◌, begins, take}
use Rattle.grammar.specs.Grammar.{name_at}
use Rattle.trees.specs.Trees.{Deed, simple, branch, repeat, before}
use Rattle.syntax.specs.Exact.{condition, marked, assignment, calling, asking, asks_behind, named, giving, returning, branching, repeating}
use Rattle.syntax.specs.Exact.{closed, semicolon_after, jumping, asserting, assuming, deed_by, deed_step, starts_here, item_step}
use Rattle.syntax.specs.Exact.{rest_step, section_step, section}
use Rattle.syntax.proofs.Fixes.{both, Shrinks, Agree, Strict-Shrinks, Shrinks-give, Shrinks-refuse, Strict-take, Shrinks-bind, Strict-bind}
use Rattle.syntax.proofs.Fixes.{Shrinks-Strict-bind, Agree-same, Agree-bind, Agree-Strict-bind, Agree-cond, Shrinks-cond, IsStep}
use Rattle.syntax.proofs.Fixes.{fix_shrinks, fix_is}
use Rattle.syntax.proofs.ChainLemmas.{Shrinks-choice, Strict-closed, Shrinks-closed, Agree-closed}
use Rattle.syntax.proofs.Parts.{strict_name, strict_names, strict_rights, strict_arguments, strict_expression, strict_test}

-- what is read last, and a semicolon after it
strict_ended : {X : Type 0} {p : Parser X} (deed : X → Deed) → Strict p
    → Strict (p >>= λ x. take kind.Semicolon >>= λ _. give (deed x))
strict_ended deed strict =
    Strict-bind strict (λ x. Shrinks-bind (Strict-Shrinks (Strict-take kind.Semicolon)) (λ _. Shrinks-give (deed x)))

pub strict_assignment : Strict assignment
unfolding assignment
strict_assignment =
    Strict-bind (Strict-closed kind.Assign strict_names)
    (λ xs. Shrinks-bind (Strict-Shrinks (Strict-closed kind.Semicolon strict_rights)) (λ rs. Shrinks-give (simple (assign xs rs))))

pub strict_calling : Strict calling
unfolding calling
strict_calling = Strict-bind strict_name (λ p. Strict-Shrinks (strict_ended (λ es. simple (call p es)) strict_arguments))

pub strict_asking : Strict asking
unfolding asking
strict_asking =
    Strict-bind (Strict-closed kind.Assign strict_name)
    (λ x. Shrinks-bind (Strict-Shrinks strict_name) (λ p. Strict-Shrinks (strict_ended (λ es. simple (call_for x p es)) strict_arguments)))

pub strict_giving : Strict giving
unfolding giving
strict_giving = strict_ended (λ e. simple (leave_with e)) strict_expression

pub shrinks_returning : Shrinks returning
shrinks_returning =
    Shrinks-choice (semicolon_after (simple leave)) giving (begins kind.Semicolon) (λ ts. refl)
    (Strict-Shrinks (Strict-bind (Strict-take kind.Semicolon) (λ _. Shrinks-give (simple leave)))) (Strict-Shrinks strict_giving)

pub shrinks_named : (t : Tok) → Shrinks (named t)
unfolding named
shrinks_named t = record { by = λ ts d rest e. by_tests ts d rest (begins kind.Open ts) (asks_behind ts) e }
  where
    by_tests : (ts : List Tok) (d : Deed) (rest : List Tok) (b c : Bool)
        → cond {A = Option (Deed × List Tok)} b (calling (t ∷ ts)) (cond c (asking (t ∷ ts)) (assignment (t ∷ ts)))
        ≡ Some (d, rest)
        → length rest ≤ length ts
    by_tests ts d rest true c e = let j : length rest < length (t ∷ ts) = strict_calling.by (t ∷ ts) d rest e in omega arith
    by_tests ts d rest false true e = let j : length rest < length (t ∷ ts) = strict_asking.by (t ∷ ts) d rest e in omega arith
    by_tests ts d rest false false e = let j : length rest < length (t ∷ ts) = strict_assignment.by (t ∷ ts) d rest e in omega arith

pub shrinks_marked : Shrinks marked
unfolding marked
shrinks_marked = record { by = by_list }
  where
    by_choice : (t : Tok) (ts : List Tok) (m : Mark Name) (rest : List Tok) (b : Bool)
        → cond {A = Option (Mark Name × List Tok)} b ((take kind.Colon >>= λ _. give (record { label = Some (name_at t); at = t.at })) ts)
        (Some (record { label = None; at = t.at }, t ∷ ts)) ≡ Some (m, rest) → length rest ≤ length (t ∷ ts)
    by_choice t ts m rest true e =
        let j : length rest < length ts =
        (Strict-bind (Strict-take kind.Colon) (λ _. Shrinks-give (record { label = Some (name_at t); at = t.at }))).by ts m rest e in
        omega arith
    by_choice t ts m rest false e = let j = (both e).1 in rw (← j) (omega arith)

    by_list : (ts : List Tok) (m : Mark Name) (rest : List Tok) → marked ts ≡ Some (m, rest) → length rest ≤ length ts
    by_list [] m rest e = cc
    by_list (t ∷ ts) m rest e = by_choice t ts m rest (same_kind t.kind kind.Id && begins kind.Colon ts) e

module _ (f g : Parser (Block Name Name Name)) (s : Shrinks f) where
  branching_shrinks : Shrinks (branching f)
  branching_shrinks =
      Shrinks-bind (Strict-Shrinks (Strict-closed kind.Then strict_test))
      (λ r. Shrinks-bind (Shrinks-closed kind.Else s) (λ a. Shrinks-bind (Shrinks-closed kind.Fi s) (λ b. Shrinks-give (branch r a b))))

  repeating_shrinks : Shrinks (repeating f)
  repeating_shrinks =
      Shrinks-bind (Strict-Shrinks (Strict-closed kind.Do strict_test))
      (λ r. Shrinks-bind (Shrinks-closed kind.Od s) (λ a. Shrinks-give (repeat r a)))

  deed_shrinks : (t : Tok) → Shrinks (deed_by f t)
  deed_shrinks t =
      search (
        branching_shrinks,
        repeating_shrinks,
        shrinks_named,
        shrinks_returning,
        strict_name,
        strict_test,
        Strict-closed,
        Strict-take,
        Strict-Shrinks,
        Shrinks-cond,
        Shrinks-bind,
        Shrinks-give,
        Shrinks-refuse,
      ) depth 18

  pub deed_strict : Strict (deed_step f)
  deed_strict = record { by = by_list }
    where
      by_list : (ts : List Tok) (d : Deed) (rest : List Tok) → deed_step f ts ≡ Some (d, rest) → length rest < length ts
      by_list [] d rest e = cc
      by_list (t ∷ ts) d rest e = let j : length rest ≤ length ts = (deed_shrinks t).by ts d rest e in omega arith

  pub item_strict : Strict (item_step f)
  item_strict = Shrinks-Strict-bind shrinks_marked (λ m. Strict-bind deed_strict (λ d. Shrinks-give (record { mark = m; deed = d })))

  rest_shrinks : Shrinks (rest_step f)
  rest_shrinks = Shrinks-choice f (give done) starts_here (λ ts. refl) s (Shrinks-give done)

  branching_agrees : (n : ℕ) → Agree n f g → Agree n (branching f) (branching g)
  branching_agrees n a =
      Agree-bind (Agree-same n (closed kind.Then condition)) (Strict-Shrinks (Strict-closed kind.Then strict_test))
      (λ r. Agree-bind (Agree-closed kind.Else a s) (Shrinks-closed kind.Else s)
      (λ x. Agree-bind (Agree-closed kind.Fi a s) (Shrinks-closed kind.Fi s) (λ y. Agree-same n (give (branch r x y)))))

  repeating_agrees : (n : ℕ) → Agree n f g → Agree n (repeating f) (repeating g)
  repeating_agrees n a =
      Agree-bind (Agree-same n (closed kind.Do condition)) (Strict-Shrinks (Strict-closed kind.Do strict_test))
      (λ r. Agree-bind (Agree-closed kind.Od a s) (Shrinks-closed kind.Od s) (λ x. Agree-same n (give (repeat r x))))

  deed_agrees : (n : ℕ) → Agree n f g → (t : Tok) → Agree n (deed_by f t) (deed_by g t)
  deed_agrees n a t =
      Agree-cond _ (Agree-same n (semicolon_after (simple skip))) (Agree-cond _ (Agree-same n returning)
      (Agree-cond _ (Agree-same n jumping) (Agree-cond _ (Agree-same n asserting) (Agree-cond _ (Agree-same n assuming)
      (Agree-cond _ (branching_agrees n a) (Agree-cond _ (repeating_agrees n a)
      (Agree-same n (cond (same_kind t.kind kind.Id) (named t) refuse))))))))

  deed_step_agrees : (n : ℕ) → Agree n f g → Agree (suc n) (deed_step f) (deed_step g)
  deed_step_agrees n a = record { at = by_list }
    where
      by_list : (ts : List Tok) → length ts < suc n → deed_step f ts ≡ deed_step g ts
      by_list [] below = refl
      by_list (t ∷ ts) below = (deed_agrees n a t).at ts (omega arith)

  item_agrees : (n : ℕ) → Agree n f g → Agree (suc n) (item_step f) (item_step g)
  item_agrees n a =
      Agree-bind (Agree-same (suc n) marked) shrinks_marked (λ m.
      Agree-bind (deed_step_agrees n a) (Strict-Shrinks deed_strict) (λ d. Agree-same (suc n) (give (record { mark = m; deed = d }))))

  rest_agrees : (n : ℕ) → Agree n f g → Agree n (rest_step f) (rest_step g)
  rest_agrees n a = record { at = λ ts below. let j = a.at ts below in rw j refl }

pub section_is_step : IsStep section_step
section_is_step = record {
  keeps =
      λ f s u.
      Shrinks-bind (Strict-Shrinks (item_strict (f tt) (f tt) (s tt)))
      (λ i. Shrinks-bind (rest_shrinks (f tt) (f tt) (s tt)) (λ k. Shrinks-give (before i k)));
  local = λ n f g s a u. Agree-Strict-bind (item_agrees (f tt) (g tt) (s tt) n (a tt)) (item_strict (f tt) (f tt) (s tt))
      (λ i.
      Agree-bind (rest_agrees (f tt) (g tt) (s tt) n (a tt)) (rest_shrinks (f tt) (f tt) (s tt))
      (λ k. Agree-same n (give (before i k))));
}

pub section_is : (ts : List Tok) → section ts ≡ (item_step section >>= λ i. rest_step section >>= λ k. give (before i k)) ts
unfolding section
section_is ts = fix_is section_step section_is_step tt ts

pub section_shrinks : Shrinks section
unfolding section
section_shrinks = fix_shrinks section_step section_is_step tt
