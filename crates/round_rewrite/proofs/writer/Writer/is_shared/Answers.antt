use Rattle.std.proofs.Common.{sym, ◌∙◌, ap, not, ◌++◌}
use Rattle.language.specs.Resolve.{is_declared}
use Rattle.trees.specs.Trees.{names_of}
use Rattle.round_rewrite.proofs.NumberingLemmas.{number_left, number_right}
use Rattle.round_rewrite.proofs.writer.Writer.is_shared.Goals as goal

-- src/expression.rt:55:5
pub returns-then-not-declares : goal.returns-then-not-declares
returns-then-not-declares g c =
    let formals = names_of c.args.self.now.formals.now in
    let locals = names_of c.args.self.now.locals.now in
    let text = c.as_str-text.result.now in
    ap not (c.declares-then-not-declares.ensures
    ∙ (sym ((number_right text formals locals (sym c.declares.ensures ∙ c.if-not-declares.true)).1)
    ∙ ap (λ t. is_declared t (formals ++ locals)) c.as_str-text.ensures.value))

-- src/expression.rt:55:5
pub returns-else-not-declares : goal.returns-else-not-declares
returns-else-not-declares g c =
    let formals = names_of c.args.self.now.formals.now in
    let locals = names_of c.args.self.now.locals.now in
    let text = c.as_str-text.result.now in
    ap not (c.if-not-declares.false
    ∙ (sym ((number_left text formals locals (sym c.declares.ensures ∙ c.if-not-declares.false)).1)
    ∙ ap (λ t. is_declared t (formals ++ locals)) c.as_str-text.ensures.value))
