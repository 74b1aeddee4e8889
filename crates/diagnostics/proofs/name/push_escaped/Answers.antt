-- At the end of the loop every character of the name is written.
use Rattle.std.proofs.Common.{◌++◌, ap, sym, ◌∙◌, map-id}
use Rattle.std.proofs.lemmas.Iterator.{YieldsList-from_chars}
use Rattle.std.proofs.lemmas.Iterator.Consumers.{YieldsList-end}
use Rattle.std.specs.List.{flat_map}
use Rattle.std.specs.String.{string_bytes}
use Rattle.diagnostics.specs.Name.{escaped, written}
use Rattle.diagnostics.proofs.name.push_escaped.Goals as goal

pub returns : goal.returns
unfolding escaped
returns g c =
    let all = YieldsList-from_chars c.args.name.now c.utf8.name cc in
    let loop = c.loop-character in
    let t = YieldsList-end all loop.yielded _ loop.yielded_by _ _ c.in-None.is c.next.ensures.steps in
    loop.invariant
    ∙ ap (λ cs. string_bytes c.args.message.now ++ flat_map written cs) (sym (map-id loop.yielded) ∙ t.0)
