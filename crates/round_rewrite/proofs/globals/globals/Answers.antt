use Rattle.std.proofs.Common.{suc, ◌∙◌, ap, [], ◌∷◌, ◌++◌, reverse, codes, append_assoc}
use Rattle.std.proofs.lemmas.Result.{IfOk-weaker}
use Rattle.trees.specs.Trees.{names_of}
use Rattle.round_rewrite.specs.Limits.{round_bits}
use Rattle.round_rewrite.specs.Table.{numbers, copied}
use Rattle.round_rewrite.specs.Names.{fresh_name, bit_names, by_names, copy_name, save_name}
use Rattle.round_rewrite.proofs.globals.globals.Goals as goal

pub returns : goal.returns
returns g c =
    let last = c.args.rounds.last in
    let xs = names_of c.args.xs.now in
    let first = copied (by_names []) last copy_name xs (numbers 0 (suc last)) in
    let second = copied (by_names []) last save_name xs (numbers 1 last) in
    let counted = ap (λ n. copied (by_names []) last copy_name xs (numbers 0 n)) c.count.ensures.count in
    let copied = c.in_ok-copied.ensures last ∙ (λ i. names_of (c.new.ensures.items i) ++ counted i) in
    let saved = c.in_ok-saved.ensures last ∙ ap (λ ns. ns ++ second) copied in
    let bits = c.in_ok-bits.ensures ∙ (λ i. saved i ++ reverse (bit_names (c.bits.ensures.count i))) in
    let stop = c.in_ok-stop.ensures ∙ ap (λ ns. ns ++ fresh_name (codes "stop__") ∷ []) bits in
    IfOk-weaker c.push_name-2.result _ _
    (λ _ bad. bad
    ∙ ap (λ ns. ns ++ fresh_name (codes "bad__") ∷ []) stop
    ∙ append_assoc (first ++ second ++ reverse (bit_names (round_bits last))) (fresh_name (codes "stop__") ∷ [])
    (fresh_name (codes "bad__") ∷ []))
    c.push_name-2.ensures
