-- What the tables look at.
use Rattle.std.specs.Prelude.{ℕ, ◌-◌, List, [], Option, None, Some, if◌then◌else◌, false, Bool, length, option_map, slice_get, take}
use Rattle.tokens.specs.Token.{same_kind}
use Rattle.tokens.specs.declared.vocabulary.Kind.{Kind}
use Rattle.tokens.specs.declared.vocabulary.Kind.TheVariants as kind
use Rattle.tokens.specs.declared.vocabulary.Token.{Token}
use Rattle.hints.specs.Front.{front_to}
use Rattle.hints.specs.declared.front.Brackets.TheVariants.{Parens, Blocks}
use Rattle.hints.specs.declared.group.Group.TheVariants as group
use Rattle.hints.specs.declared.place.Spot.{Spot}

-- What is seen at a place: the kinds of the last two tokens, of the one that begins the phrase, of the one before a
-- `(`, and of the one that begins the section; the texts of the last token and of the one before the `(`; and the rest
-- of the text.
pub record Surroundings : Type 0 where
  pub last : Option Kind
  pub second : Option Kind
  pub head : Option Kind
  pub owner : Option Kind
  pub block : Option Kind
  pub word : List ℕ
  pub called : List ℕ
  pub rest : List ℕ

-- the last token
abbrev pub last_token : List Token → Option Token
last_token tokens = slice_get tokens (length tokens - 1)

-- its kind
abbrev pub last_kind : List Token → Option Kind
last_kind tokens = option_map (λ t. t.kind) (last_token tokens)

-- the text of a token; none without a token
abbrev pub token_text : Option Token → List ℕ
token_text None = []
token_text (Some token) = token.text.now

-- the text of the last token
abbrev pub last_text : List Token → List ℕ
last_text tokens = token_text (last_token tokens)

-- the tokens before the last one
abbrev pub without_last : List Token → List Token
without_last tokens = take (length tokens - 1) tokens

-- The token is of this kind.
abbrev pub is_of : Kind → Option Kind → Bool
is_of kind None = false
is_of kind (Some other) = same_kind other kind

-- the tokens, without the last one if that is of this kind
abbrev pub without_kind : Kind → List Token → List Token
without_kind kind tokens = if is_of kind (last_kind tokens) then without_last tokens else tokens

-- the tokens up to the one that begins the phrase; a `;` at the end is left out
abbrev pub to_head : List Token → List Token
to_head tokens = front_to Parens group.Head (without_kind kind.Semicolon tokens)

-- the tokens up to a `(`: the one that the last token closes, or else the innermost that is open
abbrev pub to_paren : List Token → List Token
to_paren tokens = front_to Parens (group.Only kind.Open) (without_kind kind.Close tokens)

-- the tokens up to the one that begins the section
abbrev pub to_section : List Token → List Token
to_section tokens = front_to Blocks group.Section tokens

-- what is seen after these tokens, where this is left of the text
abbrev pub surroundings_at : List Token → List ℕ → Surroundings
surroundings_at tokens rest = record {
  last = last_kind tokens;
  second = last_kind (without_last tokens);
  head = last_kind (to_head tokens);
  owner = last_kind (without_last (to_paren tokens));
  block = last_kind (to_section tokens);
  word = last_text tokens;
  called = last_text (without_last (to_paren tokens));
  rest = rest;
}

-- what a place of the program's type stands for
abbrev pub surroundings_of : Spot → Surroundings
surroundings_of place = record {
  last = place.last;
  second = place.second;
  head = place.head;
  owner = place.owner;
  block = place.block;
  word = place.word.now;
  called = place.called.now;
  rest = place.rest.now;
}
