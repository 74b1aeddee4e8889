-- Texts of declarations, procedures and programs, as they grow.
use Rattle.std.proofs.Common.{◌≡◌, ℕ, ◌+◌, ◌<◌, cond, List, [], ◌∷◌, ◌++◌, length, map, drop, get_or, sym, ◌∙◌, ap, append_assoc, codes}
use Rattle.std.specs.Prelude.{◌==◌, false, Result, IfOk, is_ok}
use Rattle.std.proofs.lemmas.List.{drop_more}
use Rattle.tokens.specs.Parts.{Part, text_of}
use Rattle.tokens.proofs.PartsCut.{text_of-append}
use Rattle.trees.specs.declared.tree.Name.{Name}
use Rattle.trees.specs.declared.tree.Proc.{Proc}
use Rattle.trees.specs.declared.tree.Program.{Program}
use Rattle.grammar.specs.Grammar.{joined}
use Rattle.trees.specs.Trees.{name_of, names_of, proc_of, procs_of, threads_of, tree_of, block_of}
use Rattle.grammar.specs.Printed.{name_parts, separated, margin, block_parts, declaration_parts, procedure_parts, thread_parts, printed}
use Rattle.syntax.proofs.Prints.{pushed_last, put_last}

pub procedure_printed : {A X E : Type 0} (r : Result X E) (p : Proc A) (formals locals : List (Name A)) (body : List _)
    (old s1 s2 s3 s4 s5 s6 new : List ℕ)
    → formals ≡ p.formals.items → locals ≡ p.locals.items → body ≡ p.body.items
    → s1 ≡ old ++ text_of (name_parts (name_of p.name)) → s2 ≡ s1 ++ (40 ∷ [])
    → s3 ≡ s2 ++ text_of (separated name_parts (names_of formals)) → s4 ≡ s3 ++ codes ")\nbegin\n"
    → s5 ≡ s4 ++ text_of (declaration_parts 1 (names_of locals)) → s6 ≡ s5 ++ text_of (block_parts 1 (block_of body))
    → new ≡ cond (is_ok r) (s6 ++ codes "end\n") s6 → IfOk r (λ _. new ≡ old ++ text_of (procedure_parts (proc_of p)))
procedure_printed r p formals locals body old s1 s2 s3 s4 s5 s6 new f l b h1 h2 h3 h4 h5 h6 last =
    pushed_last r new s6 _ _ last (rw (h6, h5, h4, h3, h2, h1, f, l, b) (simp (text_of-append, append_assoc)))

pub declaration_put : {A X E : Type 0} (r : Result X E) (level : ℕ) (names : List (Name A)) (old s new : List ℕ)
    → length names == 0 ≡ false → s ≡ old ++ text_of (margin level)
    → IfOk r (λ _. new ≡ s ++ (codes "decl " ++ (text_of (separated name_parts (names_of names)) ++ codes ";\n")))
    → IfOk r (λ _. new ≡ old ++ text_of (declaration_parts level (names_of names)))
declaration_put r level [] old s new some h last = cc
declaration_put r level (n ∷ names) old s new some h last = put_last r new s _ _ last (rw h (simp (text_of-append, append_assoc)))

-- the formals are printed with what stands around them
pub formals_put : (old t new : List ℕ) → new ≡ old ++ (codes "(" ++ (t ++ codes ")\nbegin\n"))
    → new ≡ ((old ++ codes "(") ++ t) ++ codes ")\nbegin\n"
formals_put old t new h = h ∙ sym (append_assoc old (codes "(") _) ∙ sym (append_assoc (old ++ codes "(") t _)

-- one more of a list is printed
module _ {X Y : Type 0} (show : Y → List Part) (f : X → Y) where
  pub joined_more : (l : List X) (i : ℕ) (x : X) (old new w : List ℕ) → i < length l → x ≡ get_or l i x
      → old ++ text_of (joined (map show (map f (drop i l)))) ≡ w → new ≡ old ++ text_of (show (f x))
      → new ++ text_of (joined (map show (map f (drop (i + 1) l)))) ≡ w
  joined_more l i x old new w lt is h e =
      let step : drop i l ≡ x ∷ drop (i + 1) l = drop_more l i x lt ∙ ap (λ (y : X). y ∷ drop (i + 1) l) (sym is) in
      let text : text_of (joined (map show (map f (drop i l)))) ≡ text_of (show (f x)) ++ text_of
      (joined (map show (map f (drop (i + 1) l)))) =
      ap (λ (xs : List X). text_of (joined (map show (map f xs)))) step
      ∙ text_of-append (show (f x)) (joined (map show (map f (drop (i + 1) l)))) in
      rw e (append_assoc old _ _ ∙ ap (λ (t : List ℕ). old ++ t) (sym text) ∙ h)

pub program_printed : {A : Type 0} (p : Program A) (globals : List (Name A)) (procs : List (Proc A)) (threads : List _)
    (old s1 s2 s3 : List ℕ) → old ≡ []
    → globals ≡ p.globals.items → procs ≡ p.procs.items → threads ≡ p.threads.items
    → s1 ≡ old ++ text_of (declaration_parts 0 (names_of globals)) → s2 ≡ s1 ++ text_of (joined (map procedure_parts (procs_of procs)))
    → s3 ≡ s2 ++ text_of (joined (map thread_parts (threads_of threads)))
    → s3 ≡ printed (tree_of p)
unfolding printed
program_printed p globals procs threads old s1 s2 s3 e g q t h1 h2 h3 = rw (h3, h2, h1, e, g, q, t) (simp (text_of-append, append_assoc))
