-- The steps of the loops that read lists.
use Rattle.std.proofs.Common.{◌≡◌, Bool, true, false, List, [], ◌∷◌, ◌++◌, Option, Some, None, refl, sym, ◌∙◌, ap, append_assoc, append-nil}
use Rattle.std.proofs.lemmas.List.{map-append}
use Rattle.std.specs.Prelude.{option_and_then, map}
use Rattle.language.specs.Tree.{Name}
use Rattle.tokens.specs.declared.vocabulary.Kind.TheVariants as kind
use Rattle.tokens.specs.Token.{Tok}
use Rattle.syntax.specs.Parser.{Parser, Strict, give, ◌>>=◌, begins, many}
use Rattle.syntax.specs.Exact.{prepend, declaration, all_declarations}
use Rattle.grammar.specs.Grammar.{joined}
use Rattle.syntax.proofs.Fixes.{bind_is}
use Rattle.syntax.proofs.Exactly.{many_is, many_ends}
use Rattle.syntax.proofs.Programs.{strict_declaration}

-- what an append leaves, seen by a view
pub appended : {X Y : Type 0} (f : X → Y) (xs ys zs : List X) → zs ≡ xs ++ ys → map f xs ++ map f ys ≡ map f zs
appended f xs ys zs e = sym (map-append f xs ys) ∙ ap (map f) (sym e)

-- what a push leaves, seen by a view
pub pushed : {X Y : Type 0} (f : X → Y) (xs ys : List X) (x : X) → ys ≡ xs ++ (x ∷ []) → map f xs ++ (f x ∷ []) ≡ map f ys
pushed f xs ys x e = appended f xs (x ∷ []) ys e

prepend_more : {X : Type 0} (xs : List X) (x : X) (p : Parser (List X)) (us : List Tok)
    → prepend xs ((p >>= λ ys. give (x ∷ ys)) us) ≡ prepend (xs ++ (x ∷ [])) (p us)
prepend_more {X} xs x p us = by_option (p us)
  where
    by_option : (r : Option (List X × List Tok))
        → prepend xs (option_and_then (λ (q : List X × List Tok). Some (x ∷ q.0, q.1)) r) ≡ prepend (xs ++ (x ∷ [])) r
    by_option None = refl
    by_option (Some q) = ap (λ (zs : List X). Some (zs, q.1)) (sym (append_assoc xs (x ∷ []) q.0))

prepend_first : {X : Type 0} (x : X) (r : Option (List X × List Tok))
    → option_and_then (λ (q : List X × List Tok). Some (x ∷ q.0, q.1)) r ≡ prepend (x ∷ []) r
prepend_first x None = refl
prepend_first x (Some q) = refl

-- p, and then q while a test holds
abbrev pub and_more : {X : Type 0} → (List Tok → Bool) → Parser X → Parser X → Parser (List X)
and_more test p q = p >>= λ x. many test q >>= λ xs. give (x ∷ xs)

-- What is read so far, with what is read from here on, is the whole.
pub record SoFar {X Y : Type 0} (f : X → Y) (more : Parser (List Y)) (whole : Option (List Y × List Tok))
    (xs : List X) (ts : List Tok) : Type 0 where
  pub is : whole ≡ prepend (map f xs) (more ts)

pub first_read : {X Y : Type 0} (f : X → Y) (test : List Tok → Bool) (p q : Parser Y) (ts : List Tok) {x : X}
    {us : List Tok} {xs : List X} → p ts ≡ Some (f x, us) → xs ≡ x ∷ []
    → SoFar f (many test q) (and_more test p q ts) xs us
first_read {Y = Y} f test p q ts {x} {us} {xs} e same = record {
  is =
      bind_is p (λ y. many test q >>= λ ys. give (y ∷ ys)) ts (f x) us e ∙ prepend_first (f x) (many test q us)
      ∙ ap (λ (ys : List Y). prepend ys (many test q us)) (pushed f [] xs x same);
}

pub first_refused : {Y : Type 0} (test : List Tok → Bool) (p q : Parser Y) (ts : List Tok) → p ts ≡ None
    → and_more test p q ts ≡ None
first_refused test p q ts e = rw e refl

module _ {Y : Type 0} (test : List Tok → Bool) (q : Parser Y) (s : Strict q) where
  others_at : (ts : List Tok) → test ts ≡ true → many test q ts ≡ and_more test q q ts
  others_at ts h = many_is test q s ts ∙ rw h refl

  pub others_refused : {X : Type 0} {f : X → Y} {whole : Option (List Y × List Tok)} {xs : List X} {ts : List Tok}
      → SoFar f (many test q) whole xs ts → test ts ≡ true → q ts ≡ None → whole ≡ None
  others_refused {f = f} {xs = xs} {ts = ts} so h e =
      let n : many test q ts ≡ None = others_at ts h ∙ rw e refl in so.is ∙ ap (prepend (map f xs)) n

  pub others_end : {X : Type 0} {f : X → Y} {whole : Option (List Y × List Tok)} {xs : List X} {ts : List Tok}
      → SoFar f (many test q) whole xs ts → test ts ≡ false → whole ≡ Some (map f xs, ts)
  others_end {f = f} {xs = xs} {ts = ts} so e =
      so.is ∙ ap (prepend (map f xs)) (many_ends test q s ts e)
      ∙ ap (λ (zs : List Y). Some (zs, ts)) (append-nil (map f xs))

  pub next_read : {X : Type 0} {f : X → Y} {whole : Option (List Y × List Tok)} {xs zs : List X} {x : X}
      {ts us : List Tok} → SoFar f (many test q) whole xs ts → test ts ≡ true → q ts ≡ Some (f x, us)
      → zs ≡ xs ++ (x ∷ []) → SoFar f (many test q) whole zs us
  next_read {f = f} {xs = xs} {zs = zs} {x = x} {ts = ts} {us = us} so h e same = record {
    is =
        so.is
        ∙ ap (prepend (map f xs)) (others_at ts h
        ∙ bind_is q (λ y. many test q >>= λ ys. give (y ∷ ys)) ts (f x) us e)
        ∙ prepend_more (map f xs) (f x) (many test q) us
        ∙ ap (λ (ys : List Y). prepend ys (many test q us)) (pushed f xs zs x same);
  }

-- declarations, one list after the other
pub declarations_go_on : (xs : List Name) (ts : List Tok) (ns : List Name) (us : List Tok) → begins kind.Decl ts ≡ true
    → declaration ts ≡ Some (ns, us) → prepend xs (all_declarations ts) ≡ prepend (xs ++ ns) (all_declarations us)
unfolding all_declarations
declarations_go_on xs ts ns us h e =
    ap
    (λ (r : Option (List (List Name) × List Tok)).
    prepend xs (option_and_then (λ (q : List (List Name) × List Tok). Some (joined q.0, q.1)) r))
    (others_at (begins kind.Decl) declaration strict_declaration ts h
    ∙ bind_is declaration (λ x. many (begins kind.Decl) declaration >>= λ xs. give (x ∷ xs)) ts ns us e)
    ∙ by_option (many (begins kind.Decl) declaration us)
  where
    by_option : (r : Option (List (List Name) × List Tok))
        → prepend xs
        (option_and_then (λ (q : List (List Name) × List Tok). Some (joined q.0, q.1))
        (option_and_then (λ (q : List (List Name) × List Tok). Some (ns ∷ q.0, q.1)) r))
        ≡ prepend (xs ++ ns) (option_and_then (λ (q : List (List Name) × List Tok). Some (joined q.0, q.1)) r)
    by_option None = refl
    by_option (Some q) = ap (λ (zs : List Name). Some (zs, q.1)) (sym (append_assoc xs ns (joined q.0)))

pub declarations_refused : (xs : List Name) (ts : List Tok) → begins kind.Decl ts ≡ true → declaration ts ≡ None
    → prepend xs (all_declarations ts) ≡ None
unfolding all_declarations
declarations_refused xs ts h e =
    let f : many (begins kind.Decl) declaration ts ≡ None = others_at (begins kind.Decl) declaration strict_declaration ts h ∙ rw e refl in
    ap
    (λ (r : Option (List (List Name) × List Tok)).
    prepend xs (option_and_then (λ (q : List (List Name) × List Tok). Some (joined q.0, q.1)) r)) f

pub declarations_end : (xs : List Name) (ts : List Tok) → begins kind.Decl ts ≡ false → prepend xs (all_declarations ts) ≡ Some (xs, ts)
unfolding all_declarations
declarations_end xs ts e =
    ap
    (λ (r : Option (List (List Name) × List Tok)).
    prepend xs (option_and_then (λ (q : List (List Name) × List Tok). Some (joined q.0, q.1)) r))
    (many_ends (begins kind.Decl) declaration strict_declaration ts e)
    ∙ ap (λ (zs : List Name). Some (zs, ts)) (append-nil xs)

pub prepend_nothing : {X : Type 0} (r : Option (List X × List Tok)) → r ≡ prepend [] r
prepend_nothing None = refl
prepend_nothing (Some q) = refl

-- what the loop over declarations does
pub ruleset declaration_steps = (declarations_go_on, declarations_refused, declarations_end, prepend_nothing)
