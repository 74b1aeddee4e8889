use Rattle.std.proofs.Common.{refl, sym, ap, ◌∙◌, subst}
use Rattle.std.specs.Map.{keys_of}
use Rattle.std.proofs.lemmas.Option.{same_Some, slice_get_read, IfSome_then}
use Rattle.language.specs.Lists.{Member}
use Rattle.path_sets.specs.Batches.{gathered_at}
use Rattle.path_sets.proofs.BatchLemmas.{gathered_is}
use Rattle.path_sets.proofs.diagrams.batches.Batches.mask.Goals as goal

pub returns-in-Some-clause-some : goal.returns-in-Some-clause-some
returns-in-Some-clause-some g c =
    let bs = c.args.self.now.batches.items in
    let i = c.in-Some.at in
    let at = slice_get_read bs _ i c.index.result.now refl c.in-Some.ensures.some.1 c.index.ensures in
    IfSome_then c.mask.result c.mask.ensures.some
    (λ m own. (i, subst (Member (c.args.key.now, m)) (sym (gathered_is bs i c.index.result.now at)) own))

pub returns-in-Some-clause-none : goal.returns-in-Some-clause-none
returns-in-Some-clause-none g c none j key =
    let s = c.args.self.now in
    let bs = s.batches.items in
    let i = c.in-Some.at in
    let x = c.args.key.now in
    let at = slice_get_read bs _ i c.index.result.now refl c.in-Some.ensures.some.1 c.index.ensures in
    let same = same_Some j i (sym (s.home j x key) ∙ c.in-Some.ensures.some.0) in
    c.mask.ensures.none none
    (subst (λ es. Member x (keys_of es)) (ap (gathered_at bs) same ∙ gathered_is bs i c.index.result.now at) key)

pub returns-in-None-clause-none : goal.returns-in-None-clause-none
returns-in-None-clause-none g c _ j key =
    let s = c.args.self.now in
    let x = c.args.key.now in
    elim (subst (λ es. Member x (keys_of es)) (c.in-None.ensures.none refl j (s.home j x key)) key) [ ]
