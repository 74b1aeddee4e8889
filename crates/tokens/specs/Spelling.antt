-- How words and signs are spelled.
use Rattle.std.specs.Prelude.{◌≡◌, ◌≢◌, ℕ, Bool, true, false, ◌||◌, ◌==◌, List, [], ◌∷◌, Option, Some, None, codes}
use Rattle.std.specs.Char.{is_ascii_alphanumeric, is_ascii_digit}
use Rattle.std.specs.List.{AllByRecursion}
use Rattle.tokens.specs.declared.vocabulary.Kind.{Kind}
use Rattle.tokens.specs.declared.vocabulary.Kind.TheVariants as kind

-- How the keywords and the two constants are spelled.
abbrev pub reserved_word : Kind → Option (List ℕ)
reserved_word kind.Decl = Some (codes "decl")
reserved_word kind.Begin = Some (codes "begin")
reserved_word kind.End = Some (codes "end")
reserved_word kind.Thread = Some (codes "thread")
reserved_word kind.Skip = Some (codes "skip")
reserved_word kind.If = Some (codes "if")
reserved_word kind.Then = Some (codes "then")
reserved_word kind.Else = Some (codes "else")
reserved_word kind.Fi = Some (codes "fi")
reserved_word kind.While = Some (codes "while")
reserved_word kind.Do = Some (codes "do")
reserved_word kind.Od = Some (codes "od")
reserved_word kind.Assert = Some (codes "assert")
reserved_word kind.Assume = Some (codes "assume")
reserved_word kind.Goto = Some (codes "goto")
reserved_word kind.Return = Some (codes "return")
reserved_word kind.Zero = Some (codes "0")
reserved_word kind.One = Some (codes "1")
reserved_word _ = None

-- How the signs are spelled.
abbrev pub sign : Kind → Option (List ℕ)
sign kind.Comma = Some (codes ",")
sign kind.Semicolon = Some (codes ";")
sign kind.Colon = Some (codes ":")
sign kind.Assign = Some (codes ":=")
sign kind.Open = Some (codes "(")
sign kind.Close = Some (codes ")")
sign kind.Any = Some (codes "?")
sign kind.Implies = Some (codes "=>")
sign kind.Or = Some (codes "|")
sign kind.Xor = Some (codes "^")
sign kind.And = Some (codes "&")
sign kind.Equal = Some (codes "=")
sign kind.Differs = Some (codes "!=")
sign kind.Not = Some (codes "!")
sign _ = None

-- Letters, digits and the underscore make up words.
abbrev pub is_word_byte : ℕ → Bool
is_word_byte b = is_ascii_alphanumeric b || b == 95

-- A list is made of word bytes if each of its bytes is one.
abbrev pub AreWordBytes : List ℕ → Type 0
AreWordBytes bytes = AllByRecursion (λ b. is_word_byte b ≡ true) bytes

-- A name begins with a letter or an underscore.
abbrev pub BeginsName : List ℕ → Type 0
BeginsName [] = ⊥
BeginsName (b ∷ bytes) = is_ascii_digit b ≡ false

-- A name is made of word bytes, begins with no digit, and is not a keyword.
pub record IsNameWord (word : List ℕ) : Type 0 where
  pub begins : BeginsName word
  pub bytes : AreWordBytes word
  pub no_keyword : (k : Kind) → reserved_word k ≢ Some word

-- A word is a keyword, a constant or a name.
pub data IsWord : Kind → List ℕ → Type 0 where
  reserved : {k : Kind} {word : List ℕ} → reserved_word k ≡ Some word → IsWord k word
  name : {word : List ℕ} → IsNameWord word → IsWord kind.Id word
