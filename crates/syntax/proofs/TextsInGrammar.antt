-- The tree of a text is one of the grammar.
use Rattle.std.proofs.Common.{◌≡◌, ℕ, ◌<◌, List, [], ◌∷◌, ◌++◌, length, arith, None, Some}
use Rattle.std.specs.List.{AllByRecursion}
use Rattle.language.specs.Tree.{Name, Tree}
use Rattle.tokens.specs.declared.vocabulary.Kind.{Kind}
use Rattle.tokens.specs.declared.vocabulary.Kind.TheVariants as kind
use Rattle.tokens.specs.Token.{Tok}
use Rattle.tokens.specs.Spelling as spelling
use Rattle.tokens.specs.Spelling.{reserved_word, sign, IsWord, reserved, name}
use Rattle.tokens.specs.Cuts.{IsToken, word, sign_of, Cuts, nothing, gap, token}
use Rattle.grammar.specs.Grammar as grammar
use Rattle.grammar.specs.Grammar.{Takes, takes, Reads, reads_zero, reads_one, reads_name, reads_not, reads_paren, reads_two, IsName}
use Rattle.grammar.specs.Grammar.{is_name}
use Rattle.grammar.specs.Grammar.{Behind, behind, InParens, in_parens, Many, no_more, one_more, Several, several, Listed, listed, Perhaps}
use Rattle.grammar.specs.Grammar.{something, IsExpression, IsRight, is_any, is_value, IsMarked, bare, labelled, IsSimple, is_skip}
use Rattle.grammar.specs.Grammar.{is_return}
use Rattle.grammar.specs.Grammar.{is_give, is_goto, is_assert, is_assume, is_assign, is_call, is_call_for, Statements, nothing_more}
use Rattle.grammar.specs.Grammar.{statement, if_statement, while_statement, joined, IsDeclaration, is_declaration, Declarations}
use Rattle.grammar.specs.Grammar.{declarations, IsProcedure, is_procedure, IsThread, is_thread, IsProgram, is_program}
use Rattle.grammar.specs.InGrammar.{IsId, AreIds, ExpressionInGrammar, SideInGrammar, SimpleInGrammar, LabelInGrammar, BlockInGrammar}
use Rattle.grammar.specs.InGrammar.{ProcedureInGrammar, ThreadInGrammar, InGrammar}
use Rattle.syntax.specs.Text.{Text}

-- A token that is a name is spelled as one.
abbrev Spelled : Tok → Type 0
Spelled t = t.kind ≡ kind.Id → spelling.IsNameWord t.text

abbrev AllSpelled : List Tok → Type 0
AllSpelled ts = AllByRecursion Spelled ts

no_word : (k : Kind) (text : List ℕ) → reserved_word k ≡ Some text → k ≡ kind.Id → spelling.IsNameWord text
no_word k text e is = let none : None ≡ Some text = rw is at e in cc

no_sign : (k : Kind) (text : List ℕ) → sign k ≡ Some text → k ≡ kind.Id → spelling.IsNameWord text
no_sign k text e is = let none : None ≡ Some text = rw is at e in cc

word_spelled : (k : Kind) (text : List ℕ) → IsWord k text → k ≡ kind.Id → spelling.IsNameWord text
word_spelled k text (reserved e) is = no_word k text e is
word_spelled k text (name n) is = n

token_spelled : (k : Kind) (text rest : List ℕ) → IsToken k text rest → k ≡ kind.Id → spelling.IsNameWord text
token_spelled k text rest (word w stops) is = word_spelled k text w is
token_spelled k text rest (sign_of e longest) is = no_sign k text e is

cut_spelled : (at : ℕ) (bytes : List ℕ) (tokens : List Tok) → Cuts at bytes tokens → AllSpelled tokens
cut_spelled at bytes tokens nothing = tt
cut_spelled at bytes tokens (gap text rest e is others) = cut_spelled _ rest tokens others
cut_spelled at bytes tokens (token k text rest e is others) = (token_spelled k text rest is, cut_spelled _ rest _ others)

-- What P says about tokens whose names are spelled right is true.
abbrev Keeps : {X : Type 0} → (List Tok → X → List Tok → Type 0) → (X → Type 0) → Type 0
Keeps {X} P Ok = (ts rest : List Tok) (x : X) → P ts x rest → AllSpelled ts → Ok x × AllSpelled rest

taken : {k : Kind} (ts rest : List Tok) → Takes k ts rest → AllSpelled ts → AllSpelled rest
taken ts rest (takes is) all = all.1

reads_keep : (l : ℕ) → Keeps (Reads l) ExpressionInGrammar
reads_keep l ts rest x (reads_zero is) all = (tt, all.1)
reads_keep l ts rest x (reads_one is) all = (tt, all.1)
reads_keep l ts rest x (reads_name is) all = (all.0 is, all.1)
reads_keep l ts rest x (reads_not is e) all = reads_keep _ _ rest _ e all.1
reads_keep l ts rest x (reads_paren is e close) all = let h = reads_keep _ _ _ _ e all.1 in (h.0, taken _ rest close h.1)
reads_keep l ts rest x (reads_two o le a is b) all = let h = reads_keep _ ts _ _ a all in let g = reads_keep _ _ rest _ b h.1.1 in
    ((h.0, g.0), g.1)

name_keeps : Keeps IsName IsId
name_keeps ts rest x (is_name is) all = (all.0 is, all.1)

side_keeps : Keeps IsRight SideInGrammar
side_keeps ts rest x (is_any t) all = (tt, taken ts rest t all)
side_keeps ts rest x (is_value e) all = reads_keep 0 ts rest _ e all

module _ {X : Type 0} (P : List Tok → X → List Tok → Type 0) (Ok : X → Type 0) (keeps : Keeps P Ok) where
  behind_keeps : (k : Kind) → Keeps (Behind k P) Ok
  behind_keeps k ts rest x (behind t p) all = keeps _ rest x p (taken ts _ t all)

  parens_keep : Keeps (InParens P) Ok
  parens_keep ts rest x (in_parens t p close) all = let h = keeps _ _ x p (taken ts _ t all) in (h.0, taken _ rest close h.1)

  many_keep : Keeps (Many P) (AllByRecursion Ok)
  many_keep ts rest x no_more all = (tt, all)
  many_keep ts rest x (one_more p others) all = let h = keeps ts _ _ p all in let g = many_keep _ rest _ others h.1 in ((h.0, g.0), g.1)

  several_keep : (ts rest : List Tok) (xs : List X) → Several P ts xs rest → AllSpelled ts
      → (0 < length xs) × AllByRecursion Ok xs × AllSpelled rest
  several_keep ts rest xs (several p others) all = let h = keeps ts _ _ p all in let g = many_keep _ rest _ others h.1 in
      (omega arith, (h.0, g.0), g.1)

module _ {X : Type 0} (P : List Tok → X → List Tok → Type 0) (Ok : X → Type 0) (keeps : Keeps P Ok) where
  list_keeps : (ts rest : List Tok) (xs : List X) → Listed P ts xs rest → AllSpelled ts
      → (0 < length xs) × AllByRecursion Ok xs × AllSpelled rest
  list_keeps ts rest xs (listed p others) all =
      let h = keeps ts _ _ p all in
      let g = many_keep (Behind kind.Comma P) Ok (behind_keeps P Ok keeps kind.Comma) _ rest _ others h.1 in
      (omega arith, (h.0, g.0), g.1)

  perhaps_keeps : Keeps (Perhaps P) (AllByRecursion Ok)
  perhaps_keeps ts rest xs grammar.nothing all = (tt, all)
  perhaps_keeps ts rest xs (something l) all = let h = list_keeps ts rest xs l all in (h.1, h.2)

test_keeps : Keeps (InParens IsRight) SideInGrammar
test_keeps = parens_keep IsRight SideInGrammar side_keeps

arguments_keep : Keeps (InParens (Perhaps IsExpression)) (AllByRecursion ExpressionInGrammar)
arguments_keep =
    parens_keep (Perhaps IsExpression) (AllByRecursion ExpressionInGrammar)
    (perhaps_keeps IsExpression ExpressionInGrammar (reads_keep 0))

simple_keeps : Keeps IsSimple SimpleInGrammar
simple_keeps ts rest x (is_skip t end) all = (tt, taken _ rest end (taken ts _ t all))
simple_keeps ts rest x (is_return t end) all = (tt, taken _ rest end (taken ts _ t all))
simple_keeps ts rest x (is_give t e end) all = let h = reads_keep 0 _ _ _ e (taken ts _ t all) in (h.0, taken _ rest end h.1)
simple_keeps ts rest x (is_goto t l end) all = let h = name_keeps _ _ _ l (taken ts _ t all) in (h.0, taken _ rest end h.1)
simple_keeps ts rest x (is_assert t r end) all = let h = test_keeps _ _ _ r (taken ts _ t all) in (h.0, taken _ rest end h.1)
simple_keeps ts rest x (is_assume t r end) all = let h = test_keeps _ _ _ r (taken ts _ t all) in (h.0, taken _ rest end h.1)
simple_keeps ts rest x (is_assign xs t rs end) all =
    let h = list_keeps IsName IsId name_keeps ts _ _ xs all in
    let g = list_keeps IsRight SideInGrammar side_keeps _ _ _ rs (taken _ _ t h.2) in
    ((h.0, h.1, g.0, g.1), taken _ rest end g.2)
simple_keeps ts rest x (is_call p es end) all =
    let h = name_keeps ts _ _ p all in
    let g = arguments_keep _ _ _ es h.1 in
    ((h.0, g.0), taken _ rest end g.1)
simple_keeps ts rest x (is_call_for v t p es end) all =
    let f = name_keeps ts _ _ v all in
    let h = name_keeps _ _ _ p (taken _ _ t f.1) in
    let g = arguments_keep _ _ _ es h.1 in
    ((f.0, h.0, g.0), taken _ rest end g.1)

mark_keeps : Keeps IsMarked (λ m. LabelInGrammar m.label)
mark_keeps ts rest x bare all = (tt, all)
mark_keeps ts rest x (labelled is colon) all = (all.0 is, taken _ rest colon all.1)

block_keeps : Keeps Statements BlockInGrammar
block_keeps ts rest x nothing_more all = (tt, all)
block_keeps ts rest x (statement m s k) all =
    let h1 = mark_keeps ts _ _ m all in
    let h2 = simple_keeps _ _ _ s h1.1 in
    let h3 = block_keeps _ rest _ k h2.1 in
    ((h1.0, h2.0, h3.0), h3.1)
block_keeps ts rest x (if_statement m t1 r t2 a some_a t3 b some_b t4 k) all =
    let h1 = mark_keeps ts _ _ m all in
    let h2 = test_keeps _ _ _ r (taken _ _ t1 h1.1) in
    let h3 = block_keeps _ _ _ a (taken _ _ t2 h2.1) in
    let h4 = block_keeps _ _ _ b (taken _ _ t3 h3.1) in
    let h5 = block_keeps _ rest _ k (taken _ _ t4 h4.1) in
    ((h1.0, h2.0, some_a, h3.0, some_b, h4.0, h5.0), h5.1)
block_keeps ts rest x (while_statement m t1 r t2 a some_a t3 k) all =
    let h1 = mark_keeps ts _ _ m all in
    let h2 = test_keeps _ _ _ r (taken _ _ t1 h1.1) in
    let h3 = block_keeps _ _ _ a (taken _ _ t2 h2.1) in
    let h4 = block_keeps _ rest _ k (taken _ _ t3 h3.1) in
    ((h1.0, h2.0, some_a, h3.0, h4.0), h4.1)

all_together : (xs ys : List Name) → AreIds xs → AreIds ys → AreIds (xs ++ ys)
all_together [] ys h g = g
all_together (x ∷ xs) ys h g = (h.0, all_together xs ys h.1 g)

all_joined : (xss : List (List Name)) → AllByRecursion AreIds xss → AreIds (joined xss)
all_joined [] all = tt
all_joined (xs ∷ xss) all = all_together xs (joined xss) all.0 (all_joined xss all.1)

declaration_keeps : Keeps IsDeclaration AreIds
declaration_keeps ts rest x (is_declaration t ns end) all = let h = list_keeps IsName IsId name_keeps _ _ _ ns (taken ts _ t all) in
    (h.1, taken _ rest end h.2)

declarations_keep : Keeps Declarations AreIds
declarations_keep ts rest x (declarations many) all = let h = many_keep IsDeclaration AreIds declaration_keeps ts rest _ many all in
    (all_joined _ h.0, h.1)

procedure_keeps : Keeps IsProcedure ProcedureInGrammar
procedure_keeps ts rest x (is_procedure n formals begin locals body some end) all =
    let h1 = name_keeps ts _ _ n all in
    let h2 = parens_keep (Perhaps IsName) AreIds (perhaps_keeps IsName IsId name_keeps) _ _ _ formals h1.1 in
    let h3 = declarations_keep _ _ _ locals (taken _ _ begin h2.1) in
    let h4 = block_keeps _ _ _ body h3.1 in
    (record { name = h1.0; formals = h2.0; locals = h3.0; some = some; body = h4.0 }, taken _ rest end h4.1)

thread_keeps : Keeps IsThread ThreadInGrammar
thread_keeps ts rest x (is_thread is n end) all = let h = name_keeps _ _ _ n all.1 in (h.0, taken _ rest end h.1)

program_keeps : (ts : List Tok) (t : Tree) → IsProgram ts t → AllSpelled ts → InGrammar t
program_keeps ts t (is_program globals procedures threads) all =
    let h1 = declarations_keep ts _ _ globals all in
    let h2 = several_keep IsProcedure ProcedureInGrammar procedure_keeps _ _ _ procedures h1.1 in
    let h3 = several_keep IsThread ThreadInGrammar thread_keeps _ _ _ threads h2.2 in
    record { globals = h1.0; some_procedure = h2.0; procedures = h2.1; some_thread = h3.0; threads = h3.1 }

pub text_in_grammar : (bytes : List ℕ) (t : Tree) → Text bytes t → InGrammar t
text_in_grammar bytes t text = program_keeps text.tokens t text.program (cut_spelled 0 bytes text.tokens text.cut)
