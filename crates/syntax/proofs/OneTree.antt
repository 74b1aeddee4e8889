-- A text has one tree, and other bytes one fault.
use Rattle.std.proofs.Common.{◌≡◌, ℕ, ◌<◌, List, refl, sym, ◌∙◌, arith, ◌⊎◌, inl, inr}
use Rattle.language.specs.Tree.{Tree}
use Rattle.tokens.specs.Token.{Tok}
use Rattle.tokens.specs.Cuts.{Cuts, BadAt}
use Rattle.tokens.specs.Depth.{TooDeep}
use Rattle.tokens.proofs.OneCut.{one_cut, never_both}
use Rattle.syntax.specs.declared.fault.ReadFault.{ReadFault}
use Rattle.syntax.specs.declared.fault.ReadFault.TheVariants as fault
use Rattle.syntax.specs.Text.{Text, ReadFaultStands, DeepTokens, NoProgram, fault_number}
use Rattle.syntax.proofs.Fixes.{both}
use Rattle.syntax.proofs.Programs.{program_reads}

pub one_tree : (bytes : List ℕ) (tree other : Tree) → Text bytes tree → Text bytes other → tree ≡ other
one_tree bytes tree other s t =
    let same : t.tokens ≡ s.tokens = one_cut 0 bytes t.tokens s.tokens t.cut s.cut in
    (both (sym (program_reads s.tokens tree s.program) ∙ program_reads s.tokens other (rw same at t.program))).0

no_deep : (bytes : List ℕ) (tokens : List Tok) → Cuts 0 bytes tokens → (TooDeep tokens → ⊥) → DeepTokens bytes → ⊥
no_deep bytes tokens cut shallow d = let same : d.0 ≡ tokens = one_cut 0 bytes d.0 tokens d.1 cut in shallow (rw same at d.2)

no_program : (bytes : List ℕ) (tree : Tree) → Text bytes tree → NoProgram bytes → ⊥
no_program bytes tree t n = let same : t.tokens ≡ n.0 = one_cut 0 bytes t.tokens n.0 t.cut n.1 in n.3 tree (rw same at t.program)

no_syntax : (bytes : List ℕ) (tree : Tree) (at : ℕ) → Text bytes tree → BadAt 0 bytes at ⊎ NoProgram bytes → ⊥
no_syntax bytes tree at t (inl bad) = never_both 0 at bytes t.tokens bad t.cut
no_syntax bytes tree at t (inr none) = no_program bytes tree t none

pub no_fault : (bytes : List ℕ) (tree : Tree) (fault : ReadFault) → Text bytes tree → ReadFaultStands fault bytes → fault_number fault ≡ 5
no_fault bytes tree fault.TooLong t s = absurd (let h = t.within in omega arith)
no_fault bytes tree fault.NotAscii t s = absurd (s.1 t.ascii)
no_fault bytes tree (fault.Syntax at) t s = absurd (no_syntax bytes tree at t s.2)
no_fault bytes tree fault.TooDeep t s = absurd (no_deep bytes t.tokens t.cut t.shallow s.2)
no_fault bytes tree fault.Memory t s = refl

syntax_or_deep : (bytes : List ℕ) (at : ℕ) → BadAt 0 bytes at ⊎ NoProgram bytes → DeepTokens bytes → ⊥
syntax_or_deep bytes at (inl bad) d = never_both 0 at bytes d.0 bad d.1
syntax_or_deep bytes at (inr none) d = no_deep bytes none.0 none.1 none.2 d

pub one_fault : (bytes : List ℕ) (f g : ReadFault) → ReadFaultStands f bytes → ReadFaultStands g bytes → fault_number f < 5
    → fault_number g < 5
    → fault_number f ≡ fault_number g
one_fault bytes fault.TooLong fault.TooLong s t a b = refl
one_fault bytes fault.TooLong g s t a b = absurd (let h = t.0 in omega arith)
one_fault bytes f fault.TooLong s t a b = absurd (let h = s.0 in omega arith)
one_fault bytes fault.NotAscii fault.NotAscii s t a b = refl
one_fault bytes fault.NotAscii g s t a b = absurd (s.1 t.1)
one_fault bytes f fault.NotAscii s t a b = absurd (t.1 s.1)
one_fault bytes fault.Memory g s t a b = absurd (omega arith)
one_fault bytes f fault.Memory s t a b = absurd (omega arith)
one_fault bytes (fault.Syntax at) fault.TooDeep s t a b = absurd (syntax_or_deep bytes at s.2 t.2)
one_fault bytes fault.TooDeep (fault.Syntax at) s t a b = absurd (syntax_or_deep bytes at t.2 s.2)
one_fault bytes f g s t a b = refl
