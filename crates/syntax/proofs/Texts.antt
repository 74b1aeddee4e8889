-- What reading the tokens of a text says of the text.
use Rattle.std.specs.Prelude.{Result, Ok, Err, IfOk, IfErr, MatchResult}
use Rattle.std.proofs.Common.{◌≡◌, ℕ, ◌≤◌, List, [], length, Some, refl, sym, ◌∙◌, inr}
use Rattle.std.specs.Str.{IsAscii}
use Rattle.language.specs.Tree.{Tree}
use Rattle.tokens.specs.Limits.{most_bytes}
use Rattle.tokens.specs.Token.{Tok}
use Rattle.tokens.specs.Cuts.{Cuts}
use Rattle.tokens.specs.Depth.{TooDeep}
use Rattle.syntax.specs.declared.fault.ReadFault.{ReadFault}
use Rattle.syntax.specs.declared.fault.ReadFault.TheVariants as fault
use Rattle.trees.specs.declared.tree.Program.{Program}
use Rattle.syntax.specs.Gives.{Gives, RefusesTokens}
use Rattle.syntax.specs.Exact.{program}
use Rattle.syntax.specs.Text.{Text, ReadFaultStands}
use Rattle.trees.specs.Trees.{tree_of}
use Rattle.syntax.proofs.Fixes.{both}
use Rattle.syntax.proofs.Programs.{program_finds, program_reads}

module _ (A : Type 0) (bytes : List ℕ) (tokens : List Tok) (within : length bytes ≤ most_bytes) (ascii : IsAscii bytes)
    (cut : Cuts 0 bytes tokens) (only : (others : List Tok) → Cuts 0 bytes others → others ≡ tokens) (shallow : TooDeep tokens → ⊥) where
  reads : (tree : Tree) → Text bytes tree → program tokens ≡ Some (tree, [])
  reads tree text = program_reads tokens tree (rw (only text.tokens text.cut) at text.program)

  only_memory : (e : ReadFault) (tree : Tree) → Text bytes tree → RefusesTokens {Y = Tree × List Tok} e (program tokens) → e ≡ fault.Memory
  only_memory (fault.Syntax at) tree text f = let h = reads tree text in cc
  only_memory fault.Memory tree text f = refl
  only_memory _ tree text f = absurd f

  stands : (e : ReadFault) → RefusesTokens {Y = Tree × List Tok} e (program tokens) → ReadFaultStands e bytes
  stands (fault.Syntax at) f = (within, ascii, inr (tokens, cut, shallow, λ tree is. let h = program_reads tokens tree is in cc))
  stands fault.Memory f = (within, ascii)
  stands _ f = absurd f

  -- what is read is a text with that tree, each text is read, and a fault stands
  abbrev pub Right : Result (Program A) ReadFault → Type 0
  Right r = record {
    found : IfOk r (λ p. Text bytes (tree_of p));
    only : (tree : Tree) → Text bytes tree → MatchResult r (λ p. tree_of p ≡ tree) (λ e. e ≡ fault.Memory);
    fault : IfErr r (λ e. ReadFaultStands e bytes);
  }

  pub text_read : (r : Result (Program A) ReadFault)
      → Gives {X = Program A} {Y = Tree × List Tok} (λ p. (tree_of p, [])) r (program tokens) → Right r
  text_read (Ok p) gives = record {
    found = record {
      within = within;
      ascii = ascii;
      tokens = tokens;
      cut = cut;
      shallow = shallow;
      program = program_finds tokens (tree_of p) [] gives;
    };
    only = λ tree text. sym (both (sym (reads tree text) ∙ gives)).0;
    fault = tt;
  }
  text_read (Err e) gives = record {
    found = tt;
    only = λ tree text. only_memory e tree text gives;
    fault = stands e gives;
  }
