-- What is written with the status of an answer is the answer.
use Rattle.std.proofs.Common.{◌≡◌, ◌<◌, ◌≤◌, ℕ, true, false, List, [], Option, ap, arith, inl, inr, length, subst, sym}
use Rattle.std.specs.declared.io.ErrorKind.{ErrorKind}
use Rattle.tokens.specs.Limits.{most_bytes}
use Rattle.streams.specs.Replied.{IsReply}
use Rattle.streams.specs.Served.{Answered, Gave, IsUnread, ReplyIsDue, Serves, most_read}
use Rattle.streams.specs.Streams.{KnownStream, Logs, Said, Stays, StreamTakes, Streams, Writes, streams}

-- the status about a file that is not read is none of an answer
unread_status : (path : List ℕ) (kind : ErrorKind) (said : Said) → IsUnread path kind said → 2 ≤ said.status
unread_status path kind said (inl u) = let two = u.2 in omega (arith, two)
unread_status path kind said (inr u) = let three : said.status ≡ 3 = ap (λ (s : Said). s.status) u.1 in omega (arith, three)

-- a stream that took an empty message holds what it held
took_nothing : (old told : KnownStream) → Logs old told [] → Stays old told
took_nothing old told (true, takes) = takes
took_nothing old told (false, takes) = let none : takes.1.0 < 0 = takes.1.1 in absurd (omega (arith, none))

-- what was written with a status below 3 was written as a whole
wrote_all : (old new : Streams) (bytes : List ℕ) (status result : ℕ) → result ≤ 1 → Writes old new bytes status result
    → StreamTakes old.output new.output bytes true × (new.log ≡ old.log) × (result ≡ status)
wrote_all old new bytes status result few (inl whole) = whole
wrote_all old new bytes status result few (inr cut) = let three = cut.2 in absurd (omega (arith, three, few))

module _ {Order Why : Type 0} (Explains : List ℕ → List ℕ → Order → Why → List ℕ → List ℕ → Type 0)
    (Replies : List ℕ → Order → List ℕ → ℕ → Type 0) (Stands : List ℕ → Order → Why → Type 0)
    (line_of : Why → List ℕ) (status_of : Why → ℕ) (refused : (why : Why) → 2 ≤ status_of why) where
  -- a reply that is due and has the status of an answer is the answer to what the reader gave, without a message
  is_answer : (path : List ℕ) (order : Order) (given left : Option (List ℕ)) (said : Said) → said.status ≤ 1
      → ReplyIsDue (IsReply Explains Replies Stands line_of status_of) path order given left said
      → (text : List ℕ) × Gave most_read given left text × Replies text order said.reply said.status × (said.message ≡ [])
  is_answer path order given left said few (inl (text, gave, inl reply)) = (text, gave, reply.1, reply.2)
  is_answer path order given left said few (inl (text, gave, inr reply)) =
      let least = refused reply.0 in
      let same : said.status ≡ status_of reply.0 = reply.3 in
      absurd (omega (arith, least, same, few))
  is_answer path order given left said few (inr unread) =
      let least = unread_status path unread.1.0 said unread.1.1 in
      absurd (omega (arith, least, few))

  -- If no refusal has the status of an answer, and only texts within the limit have an answer, then what is written
  -- with the status of an answer is the answer to all that the reader gave.
  pub answered : (within : (text : List ℕ) (order : Order) (bytes : List ℕ) (status : ℕ) → Replies text order bytes status
      → length text ≤ most_bytes)
      (path : List ℕ) (order : Order) (given left : Option (List ℕ)) (old new : Streams) (result : ℕ)
      → Serves (IsReply Explains Replies Stands line_of status_of) path order given left old new result → result ≤ 1
      → Answered Replies order given left old new result
  answered within path order given left old new result serves few =
      let said = serves.said in
      let (told, logs, writes) = serves.says in
      let (wrote, stays, same) = wrote_all (streams old.output told) new said.reply said.status result few writes in
      let least : said.status ≤ 1 = subst (λ n. n ≤ 1) same few in
      let (text, gave, reply, silent) = is_answer path order given left said least serves.due in
      let short : length text < most_read = let most = within text order said.reply said.status reply in omega (arith, most) in
      let quiet = took_nothing old.log told (subst (λ m. Logs old.log told m) silent logs) in
      record {
        text = text;
        bytes = said.reply;
        all = (gave.gave, gave.end short);
        reply = subst (Replies text order said.reply) (sym same) reply;
        wrote = wrote;
        quiet = subst (λ l. Stays old.log l) (sym stays) quiet;
      }
