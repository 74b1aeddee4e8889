-- The words are compared after what they have in common.
use Rattle.std.proofs.Common.{◌≡◌, ◌∙◌, ◌&&◌, ◌||◌, ◌-◌, ap, sym, drop, length, take}
use Rattle.std.specs.Str.{str_eq_ignore_ascii_case, str_to_ascii_lowercase}
use Rattle.std.proofs.lemmas.Bool.Decides.{same_from_decides}
use Rattle.std.proofs.lemmas.Slice.Eq.{bytes_eq-Decides}
use Rattle.fault_details.specs.Nearness.{are_close, common, have_letters}
use Rattle.fault_details.proofs.Words.{left}
use Rattle.fault_details.proofs.nearness.is_near.Goals as goal

pub returns-then-have_letters : goal.returns-then-have_letters
returns-then-have_letters c =
    let w = c.args.word.now in
    let o = c.args.other.now in
    let n = c.common-same.result in
    let close = are_close (drop (common w o) w) (drop (common w o) o) in
    let is : c.are_close.result ≡ close =
    c.are_close.ensures ∙ ap (λ x. are_close x (take (length o - n) (drop n o))) (left w n) ∙ ap (are_close (drop n w)) (left o n)
    ∙ ap (λ k. are_close (drop k w) (drop k o)) c.common-same.ensures.value in
    let cased : c.eq_ignore_ascii_case.result ≡ str_eq_ignore_ascii_case w o =
    same_from_decides _ _ c.eq_ignore_ascii_case.ensures.test (bytes_eq-Decides (str_to_ascii_lowercase w) (str_to_ascii_lowercase o)) in
    is ∙ sym (ap (λ h. h && close) (sym c.have_letters.ensures ∙ c.if-have_letters.true))
    ∙ sym (ap (λ s. s || have_letters w o && close) (sym cased ∙ c.if-eq_ignore_ascii_case.false))
