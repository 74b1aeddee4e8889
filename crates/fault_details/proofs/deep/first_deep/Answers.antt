-- All tokens are too deep and none are not; at the end the two indices are neighbours.
use Rattle.std.proofs.Common.{◌≡◌, ◌+◌, ◌<◌, arith, length, subst, sym, take}
use Rattle.std.proofs.Math.Seq.{take-length}
use Rattle.std.proofs.lemmas.Option.{slice_get-get_or}
use Rattle.tokens.specs.Depth.{TooDeep}
use Rattle.tokens.specs.Token.{toks_of}
use Rattle.fault_details.proofs.Shallow.{found_deep, nothing_is_shallow, some_tokens}
use Rattle.fault_details.proofs.deep.first_deep.Goals as goal

pub loop-deep-init : goal.loop-deep-init
loop-deep-init c =
    let ts = c.args.tokens.now in
    let deep : TooDeep (toks_of ts) = found_deep ts c.is_too_deep.result c.is_too_deep.ensures c.if-not-is_too_deep.false in
    record {
      apart = some_tokens ts deep;
      within = omega arith;
      shallow = nothing_is_shallow;
      deep = subst (λ l. TooDeep (toks_of l)) (sym (take-length ts)) deep;
    }

pub returns : goal.returns
returns c =
    let ts = c.args.tokens.now in
    let i = c.loop-deep.shallow in
    let known = c.loop-deep.invariant in
    let e : c.loop-deep.deep ≡ i + 1 = omega arith in
    let within : i < length ts = omega arith in
    (i, slice_get-get_or ts i _ within, (known.shallow, subst (λ n. TooDeep (toks_of (take n ts))) e known.deep))
