-- The test for a kind, and the kind.
use Rattle.std.proofs.Common.{◌≡◌, true, refl, rules}
use denote.Enum.Bare.{same_true}
use Rattle.tokens.specs.contracts.vocabulary.Kind.{the_type}
use Rattle.tokens.specs.declared.vocabulary.Kind.{Kind}
use Rattle.tokens.specs.declared.vocabulary.Kind.TheVariants as kind
use Rattle.tokens.specs.Token.{same_kind}

pub same_kind-true : {j k : Kind} → same_kind j k ≡ true → j ≡ k
unfolding same_kind
same_kind-true {j} {k} e = same_true the_type (search rules) j k e

pub same_kind-self : (k : Kind) → same_kind k k ≡ true
unfolding same_kind
same_kind-self kind.Decl = refl
same_kind-self _ = refl

pub same_kind-is : {j k : Kind} → j ≡ k → same_kind j k ≡ true
same_kind-is {j} {k} e = rw e (same_kind-self k)
