use Rattle.std.proofs.Common.{ℕ, Option, Some, ◌∙◌, ap, sym, refl}
use Rattle.language.specs.Tree.{Name}
use Rattle.language.specs.Parts.{callee_of}
use Rattle.trees.specs.Trees.{name_of, procs_of}
use Rattle.resolved.specs.There.{IsThere}
use Rattle.std.specs.Prelude.{◌≡◌, None}
use Rattle.checked.specs.Faults.{named}
use Rattle.scopes.proofs.Heads.{head_is}
use Rattle.scopes.proofs.Found.{moved, nowhere, only}
use Rattle.scopes.proofs.undeclared.in_call.Goals as goal

pub returns-in-None : goal.returns-in-None
returns-in-None g c =
    moved (λ (o : Option Name) (n : ℕ). IsThere o (λ q. (q.at ≡ n) × (named q.text (procs_of c.args.procs.now) ≡ None)))
    (Some (name_of c.in_ok-callee.callee.now)) _ _
    (ap callee_of (head_is c.args.stmt.now) ∙ sym c.in_ok-callee.ensures)
    (only c.in_ok-callee.callee.now.at (refl, sym c.in-None.ensures) (λ k h. h.0))

pub returns-in-Some : goal.returns-in-Some
returns-in-Some g c =
    moved (λ (o : Option Name) (n : ℕ). IsThere o (λ q. (q.at ≡ n) × (named q.text (procs_of c.args.procs.now) ≡ None)))
    (Some (name_of c.in_ok-callee.callee.now)) _ _
    (ap callee_of (head_is c.args.stmt.now) ∙ sym c.in_ok-callee.ensures)
    (nowhere (λ n h. let e = h.1 in let f = c.in-Some.ensures in absurd (cc)))
