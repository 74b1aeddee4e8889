use Rattle.std.proofs.Common.{◌≡◌, List, arith}
use Rattle.std.specs.Prelude.{IsTrue}
use Rattle.tokens.specs.Token.{Tok, toks_of}
use Rattle.tokens.specs.Cuts.{Cuts}
use Rattle.tokens.specs.Depth.{TooDeep}
use Rattle.syntax.proofs.Texts.{text_read}
use Rattle.syntax.proofs.reading.read.Goals as goal

pub returns : goal.returns
returns g c =
    let same = c.in-Some.ensures.same in
    let cut : Cuts 0 c.args.bytes.now (toks_of c.in_ok-tokens.tokens.items) = rw same at c.in_ok-tokens.ensures.cuts in
    let only : (others : List Tok) → Cuts 0 c.args.bytes.now others → others ≡ toks_of c.in_ok-tokens.tokens.items =
    λ others h. c.in_ok-tokens.ensures.only others (rw same h) in
    let shallow : TooDeep (toks_of c.in_ok-tokens.tokens.items) → ⊥ = λ deep. let is : IsTrue c.is_too_deep.result =
    c.is_too_deep.ensures.1 (rw c.deref.ensures.value deep) in let no = c.if-is_too_deep.false in cc in
    text_read g.row.A.Denot c.args.bytes.now (toks_of c.in_ok-tokens.tokens.items) c.if-bytes-gt-MOST_BYTES.false
    c.in-Some.ensures.ascii cut only shallow
    c.program.result (rw c.deref-2.ensures.value at c.program.ensures.gives)

pub returns-then-bytes-gt-MOST_BYTES : goal.returns-then-bytes-gt-MOST_BYTES
returns-then-bytes-gt-MOST_BYTES g c =
    let long = c.if-bytes-gt-MOST_BYTES.true in
    record { found = tt; only = λ tree text. absurd (omega (arith, long, text.within)); fault = long }
