-- What a reply says about a text: the answer, or why there is none.
use Rattle.std.specs.Prelude.{◌≡◌, ◌⊎◌, ◌≤◌, ℕ, List, [], Option, None, Some}
use Rattle.refusals.specs.Explained.{no_memory}
use Rattle.streams.specs.declared.reply.Reply.{Reply}
use Rattle.streams.specs.Streams.{Said}
use Rattle.streams.specs.Written.{bytes_of}

-- `Why` says why a text may be refused; `line_of` is the line that says so, and `status_of` its status.
module _ {Why : Type 0} (line_of : Why → List ℕ) (status_of : Why → ℕ) where
  -- The reply reports this refusal, and is its line with its status.
  abbrev pub TellsRefusal : {A : Type 0} → Why → Reply Why A → Type 0
  TellsRefusal why reply = (bytes_of reply ≡ line_of why) × (reply.status ≡ status_of why) × (reply.refusal ≡ Some why)

-- `Order` is what may be asked about a text, and `Stands` says which refusals stand for a text and an order.
module _ {Order Why : Type 0} (line_of : Why → List ℕ) (status_of : Why → ℕ) (Stands : List ℕ → Order → Why → Type 0) where
  -- Some refusal stands for what was asked, and the reply reports it, and is its line with its status.
  abbrev pub Refuses : {A : Type 0} → List ℕ → Order → Reply Why A → Type 0
  Refuses text order reply = (why : Why) × Stands text order why × TellsRefusal line_of status_of why reply

-- `Explains` says what is added to a message to explain a refusal: the name of the file, the text, the order, the
-- refusal, the message before and after.
module _ {Order Why : Type 0} (Explains : List ℕ → List ℕ → Order → Why → List ℕ → List ℕ → Type 0) where
  -- The message explains why this text gets no verdict, or says that memory ran out for it.
  abbrev pub IsExplanation : List ℕ → List ℕ → Order → Why → List ℕ → Type 0
  IsExplanation path text order why message = Explains path text order why [] message ⊎ (message ≡ no_memory)

  -- The message explains why this text gets no verdict, if it gets none, and otherwise it is empty.
  abbrev pub IsMessage : List ℕ → List ℕ → Order → Option Why → List ℕ → Type 0
  IsMessage path text order None message = message ≡ []
  IsMessage path text order (Some why) message = IsExplanation path text order why message

-- `Replies` says which bytes, with which status, are the answer to a text for an order.
module _ {Order Why : Type 0} (Explains : List ℕ → List ℕ → Order → Why → List ℕ → List ℕ → Type 0)
    (Replies : List ℕ → Order → List ℕ → ℕ → Type 0) (Stands : List ℕ → Order → Why → Type 0)
    (line_of : Why → List ℕ) (status_of : Why → ℕ) where
  -- This is written about a text in the file with this name: what was asked for, and no message; or the line of a
  -- refusal that stands, with its status, and the reason.
  abbrev pub IsReply : List ℕ → List ℕ → Order → Said → Type 0
  IsReply path text order said =
      ((said.status ≤ 1) × Replies text order said.reply said.status × (said.message ≡ []))
      ⊎ ((why : Why) × Stands text order why × (said.reply ≡ line_of why) × (said.status ≡ status_of why)
      × IsExplanation Explains path text order why said.message)
