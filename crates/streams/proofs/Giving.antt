-- What its answer says about a text.
use Rattle.std.proofs.Common.{◌≡◌, ◌≤◌, List, ℕ, Option, None, arith, inl, inr, subst}
use Rattle.std.proofs.lemmas.Bool.{cases_lt}
use Rattle.streams.specs.Replied.{IsMessage, IsReply, Refuses}
use Rattle.streams.specs.Written.{bytes_of}
use Rattle.streams.specs.declared.reply.Reply.{Reply}

module _ {Order Why A : Type 0} (Explains : List ℕ → List ℕ → Order → Why → List ℕ → List ℕ → Type 0)
    (Replies : List ℕ → Order → List ℕ → ℕ → Type 0) (Stands : List ℕ → Order → Why → Type 0)
    (line_of : Why → List ℕ) (status_of : Why → ℕ) where
  -- an answer to a text is a reply to it, with the message about it
  pub replied : (path text : List ℕ) (order : Order) (reply : Reply Why A) (message : List ℕ)
      → (reply.status ≤ 1 → Replies text order (bytes_of reply) reply.status)
      → (reply.status ≤ 1 → reply.refusal ≡ None)
      → (2 ≤ reply.status → Refuses line_of status_of Stands text order reply)
      → IsMessage Explains path text order reply.refusal message
      → IsReply Explains Replies Stands line_of status_of path text order
      (record { reply = bytes_of reply; status = reply.status; message = message })
  replied path text order reply message answers silent refuses about =
      elim (cases_lt reply.status 2) [
        | inl few ↦
            let most : reply.status ≤ 1 = omega arith in
            let none = subst (λ (o : Option Why). IsMessage Explains path text order o message) (silent most) about in
            inl (most, answers most, none)
        | inr many ↦
            let (why, stands, told) = refuses many in
            let why_told = subst (λ (o : Option Why). IsMessage Explains path text order o message) told.2 about in
            inr (why, stands, told.0, told.1, why_told)
      ]
