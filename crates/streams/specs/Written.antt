-- The bytes of a reply.
use Rattle.std.specs.Prelude.{◌≡◌, ℕ, List}
use Rattle.std.specs.Cow.{cow_slice_items}
use Rattle.streams.specs.declared.reply.Reply.{Reply}

module _ {Why A : Type 0} where
  -- what a reply writes
  abbrev pub bytes_of : Reply Why A → List ℕ
  bytes_of reply = cow_slice_items reply.bytes

  -- the reply writes these bytes and has this status
  abbrev pub IsReplyWith : List ℕ → ℕ → Reply Why A → Type 0
  IsReplyWith bytes status reply = (bytes_of reply ≡ bytes) × (reply.status ≡ status)
