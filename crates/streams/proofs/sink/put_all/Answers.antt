-- A write takes the bytes from where the last one ended; one that is made again took nothing.
use Rattle.std.proofs.Common.{◌≡◌, ◌∙◌, ◌+◌, ◌-◌, ◌++◌, ℕ, List, Option, ap, drop, length, rules, subst, sym}
use Rattle.std.proofs.Common.{take}
use Rattle.std.proofs.lemmas.List.{take_rest}
use Rattle.std.specs.Io.KnownBytes.{Appends, Keeps}
use Rattle.std.proofs.KnownBytes.{Appends-kept, Appends-trans}
use lib.Seq.{take-add}
use Rattle.streams.proofs.sink.put_all.Goals as goal
use Rattle.streams.proofs.sink.put_all.Goals.{in-Ok+else-at-bytes, in-Err+else-ne}

-- what was taken before, and what a write takes after it
took_more : (a b c : Option (List ℕ)) (all : List ℕ) (at n m : ℕ) → m ≡ at + n → Appends a b (take at all)
    → Appends b c (take n (take (length all - at) (drop at all))) → Appends a c (take m all)
took_more a b c all at n m is before more =
    let rest = ap (λ l. take at all ++ take n l) (take_rest all at) in
    subst (Appends a c) (rest ∙ sym (take-add at n all) ∙ ap (λ i. take i all) (sym is))
    (Appends-trans a b c _ _ before more)

-- if a write takes nothing
took_same : (a b c : Option (List ℕ)) (all : List ℕ) (at m : ℕ) → m ≡ at → Appends a b (take at all) → Keeps b c
    → Appends a c (take m all)
took_same a b c all at m is before kept = subst (λ i. Appends a c (take i all)) (sym is)
    (Appends-kept a b c _ before kept)

pub loop-turn-preserved : goal.loop-turn-preserved
loop-turn-preserved g c =
    let at = c.loop-turn.at in
    let all = c.args.bytes.now in
    let before = c.loop-turn.invariant in
    let first = g.W.Write.contents c.args.writer.now in
    let old = g.W.Write.contents c.loop-turn.writer in
    let new = g.W.Write.contents c.write.new.self in
    elim c.match-write.branch [
      | in-Ok+else-at-bytes w ↦ record {
        within = search rules;
        took = took_more first old new all at w.in-Ok.count c.match-write.at w.at-is before.took w.in-Ok.ensures.bytes;
      }
      | in-Err+else-ne w ↦ record {
        within = search rules;
        took = took_same first old new all at c.match-write.at w.at-is before.took w.in-Err.ensures.bytes;
      }
    ]
