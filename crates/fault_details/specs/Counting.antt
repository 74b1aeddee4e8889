-- How many items a list of the text has, and how many statements the text.
use Rattle.std.specs.Prelude.{ℕ, ◌+◌, ◌-◌, ◌||◌, Bool, List, count_by, drop, if◌then◌else◌, not, take}
use Rattle.std.specs.List.{prefix_len}
use Rattle.tokens.specs.Token.{same_kind}
use Rattle.tokens.specs.declared.vocabulary.Kind.{Kind}
use Rattle.tokens.specs.declared.vocabulary.Kind.TheVariants as kind
use Rattle.tokens.specs.declared.vocabulary.Token.{Token}
use Rattle.fault_details.specs.Seeking.{comes_first}

-- how many tokens are of this kind
abbrev pub count : Kind → List Token → ℕ
count k tokens = count_by (λ t. same_kind t.kind k) tokens

-- `:=`, `;` and `begin` end a list.
abbrev pub is_listed : Kind → Bool
is_listed k = not (same_kind k kind.Assign || same_kind k kind.Semicolon || same_kind k kind.Begin)

-- how many tokens come before the first that ends a list
abbrev pub list_length : List Token → ℕ
list_length tokens = prefix_len (λ t. is_listed t.kind) tokens

-- how many items the list has that begins with these tokens
abbrev pub items : List Token → ℕ
items tokens = count kind.Comma (take (list_length tokens) tokens) + 1

-- how many arguments or formals are in the parentheses after the first token
abbrev pub argument_count : List Token → ℕ
argument_count tokens = if comes_first kind.Close (drop 2 tokens) then 0 else items tokens

-- how many right sides come after the first `:=`
abbrev pub side_count : List Token → ℕ
side_count tokens = items (drop (list_length tokens + 1) tokens)

-- `;` ends a statement, a declaration or a thread line, unless the statement is an `if` or a `while`.
abbrev pub is_counted : Kind → Bool
is_counted k = same_kind k kind.Semicolon || same_kind k kind.If || same_kind k kind.While

-- A declaration or a thread line begins.
abbrev pub is_line : Kind → Bool
is_line k = same_kind k kind.Decl || same_kind k kind.Thread

-- how many statements a program of these tokens has
abbrev pub statement_count : List Token → ℕ
statement_count tokens = count_by (λ t. is_counted t.kind) tokens - count_by (λ t. is_line t.kind) tokens
