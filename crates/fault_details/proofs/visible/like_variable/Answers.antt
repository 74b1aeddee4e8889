-- Globals, formals and locals are looked at in turn.
use Rattle.std.proofs.Common.{◌≡◌, ◌∙◌, ap, sym}
use Rattle.std.specs.Prelude.{find}
use Rattle.std.specs.Option.{option_or}
use Rattle.fault_details.specs.Visible.{declared, formal_tokens, global_tokens, is_like, own_tokens}
use Rattle.fault_details.proofs.Declared.{joined}
use Rattle.fault_details.proofs.visible.like_variable.Goals as goal

pub returns : goal.returns
returns c =
    let p = is_like c.args.word.now in
    let here = own_tokens c.args.before.now in
    let global : c.first_like.result ≡ find p (global_tokens c.args.tokens.now) =
    c.first_like.ensures ∙ ap (find p) c.globals.ensures in
    let formal : c.first_like-formal.result ≡ find p (formal_tokens here) =
    c.first_like-formal.ensures ∙ ap (find p) (c.formals.ensures ∙ ap formal_tokens c.own-here.ensures) in
    let local : c.first_declared-local.result ≡ find p (declared here) =
    c.first_declared-local.ensures ∙ ap (λ ts. find p (declared ts)) c.own-here.ensures in
    let own_names = c.or.ensures ∙ ap (λ o. option_or o c.first_declared-local.result) formal
    ∙ ap (option_or (find p (formal_tokens here))) local in
    c.or-2.ensures ∙ ap (λ o. option_or o c.or.result) global ∙ ap (option_or (find p (global_tokens c.args.tokens.now))) own_names
    ∙ sym (joined p (global_tokens c.args.tokens.now) (formal_tokens here) (declared here))
