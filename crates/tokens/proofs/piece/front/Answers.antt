use Rattle.std.proofs.Common.{◌≡◌, length, [], ◌∷◌, take, sym, ap, subst, ◌∙◌, arith, Some, None}
use Rattle.std.specs.List.{prefix_len}
use Rattle.std.proofs.lemmas.Str.{IsCharBoundary-from_ascii}
use Rattle.std.proofs.lemmas.List.Sums.{prefix_len-le-length}
use Rattle.std.proofs.lemmas.Slice.Eq.{strip_prefix_is}
use Rattle.std.proofs.lemmas.Bool.Decides.{Decides-eqb}
use Rattle.tokens.specs.Cuts.{is_in_line}
use Rattle.tokens.specs.Spelling.{is_word_byte, AreWordBytes, IsWord}
use Rattle.tokens.proofs.Runs.{run_passes, from_start}
use Rattle.tokens.proofs.InFront.{word_in_front, bad_word, blank_in_front, comment_in_front, sign_in_front, bad_front}
use Rattle.tokens.proofs.piece.front.Goals as goal

pub range-requires-clause-end_boundary : goal.range-requires-clause-end_boundary
range-requires-clause-end_boundary c =
    IsCharBoundary-from_ascii _ _ c.requires.ascii
    (omega (
      arith,
      c.word_len-length.ensures,
      ap length c.as_bytes-bytes.ensures.value,
      prefix_len-le-length is_word_byte c.as_bytes-bytes.result.now,
    ))

pub word_kind-requires-clause-bytes : goal.word_kind-requires-clause-bytes
word_kind-requires-clause-bytes c =
    let text = c.as_bytes-bytes.ensures.value in
    let length_is : c.word_len-length.result ≡ prefix_len is_word_byte c.args.text.now = c.word_len-length.ensures
    ∙ ap (prefix_len is_word_byte) text in
    subst AreWordBytes (ap (λ n. take n c.args.text.now) (sym length_is) ∙ sym (from_start _ _) ∙ sym c.range.ensures.value)
    (run_passes is_word_byte c.args.text.now)

pub returns-in-Some : goal.returns-in-Some
returns-in-Some c =
    let text = c.as_bytes-bytes.ensures.value in
    word_in_front _ _ _ (c.word_len-length.ensures ∙ ap (prefix_len is_word_byte) text)
    (subst (IsWord c.in-Some.kind) (c.range.ensures.value ∙ from_start _ _) c.in-Some.ensures.some)

pub returns-in-None : goal.returns-in-None
returns-in-None c =
    let text = c.as_bytes-bytes.ensures.value in
    bad_word _ _ c.requires.some (rw text at (sym c.is_word_byte.ensures ∙ c.if-is_word_byte.true))
    (c.word_len-length.ensures ∙ ap (prefix_len is_word_byte) text)
    (λ k is. c.in-None.ensures.none k (subst (IsWord k) (sym (c.range.ensures.value ∙ from_start _ _)) is))

pub returns-then-is_blank : goal.returns-then-is_blank
returns-then-is_blank c =
    blank_in_front _ c.requires.some (rw c.as_bytes-bytes.ensures.value at (sym c.is_blank.ensures ∙ c.if-is_blank.true))

pub overflow_add-result : goal.overflow_add-result
overflow_add-result c =
    omega (
      arith,
      c.line_len.ensures,
      prefix_len-le-length is_in_line c.in-Some-strip_prefix.comment.now,
      c.in-Some-strip_prefix.ensures.cases.2,
      c.as_bytes-bytes.type_inv.0,
    )

pub returns-in-Some-strip_prefix : goal.returns-in-Some-strip_prefix
returns-in-Some-strip_prefix c =
    comment_in_front _ _ _
    (sym c.as_bytes-bytes.ensures.value
    ∙ strip_prefix_is Decides-eqb c.as_bytes-bytes.result.now (47 ∷ 47 ∷ [])
    (Some c.in-Some-strip_prefix.comment) c.in-Some-strip_prefix.ensures.cases) c.line_len.ensures

pub returns-in-Some-sign_at_front : goal.returns-in-Some-sign_at_front
returns-in-Some-sign_at_front c =
    let found = c.in-Some-sign_at_front.ensures in
    rw c.as_bytes-bytes.ensures.value at (sign_in_front _ _ _ found.within found.some found.longest)

pub returns-in-None-sign_at_front : goal.returns-in-None-sign_at_front
returns-in-None-sign_at_front c =
    let text = c.as_bytes-bytes.ensures.value in
    bad_front _ c.requires.some (rw text at (sym c.is_word_byte.ensures ∙ c.if-is_word_byte.false))
    (rw text at (sym c.is_blank.ensures ∙ c.if-is_blank.false))
    (rw text at (strip_prefix_is Decides-eqb c.as_bytes-bytes.result.now (47 ∷ 47 ∷ []) None c.in_default.ensures.cases))
    (rw text at c.in-None-sign_at_front.ensures.none)
