-- Groups of kinds of tokens.
use Rattle.std.specs.Prelude.{Bool, true, false, ◌||◌, not, Option, None, Some}
use Rattle.tokens.specs.Token.{is_operator, same_kind}
use Rattle.tokens.specs.declared.vocabulary.Kind.{Kind}
use Rattle.tokens.specs.declared.vocabulary.Kind.TheVariants as kind
use Rattle.hints.specs.declared.group.Group.{Group}
use Rattle.hints.specs.declared.group.Group.TheVariants as group

-- A name, a constant and `)` end an operand.
abbrev pub is_operand : Kind → Bool
is_operand k = same_kind k kind.Id || same_kind k kind.Zero || same_kind k kind.One || same_kind k kind.Close

-- A phrase begins with a keyword, `;`, `:`, `:=` or `(`: with all but operators, operands, `,` and `?`.
abbrev pub is_head : Kind → Bool
is_head k = not (is_operator k || is_operand k || same_kind k kind.Comma || same_kind k kind.Any)

-- A statement ends with these.
abbrev pub is_ended : Kind → Bool
is_ended k = same_kind k kind.Semicolon || same_kind k kind.Fi || same_kind k kind.Od

-- A block of statements begins after these, inside of an `if` or a `while`.
abbrev pub is_branch : Kind → Bool
is_branch k = same_kind k kind.Then || same_kind k kind.Else || same_kind k kind.Do

-- A statement comes directly after these, unless it has a label.
abbrev pub is_start : Kind → Bool
is_start k = is_ended k || is_branch k || same_kind k kind.Begin

-- `begin`, `if` and `while` are closed by a word of their own.
abbrev pub is_opener : Kind → Bool
is_opener k = same_kind k kind.Begin || same_kind k kind.If || same_kind k kind.While

-- Statements are in the sections that these begin.
abbrev pub is_section : Kind → Bool
is_section k = is_opener k || is_branch k

-- `if`, `while`, `assert` and `assume` have a condition.
abbrev pub is_test : Kind → Bool
is_test k = same_kind k kind.If || same_kind k kind.While || same_kind k kind.Assert || same_kind k kind.Assume

-- The kind is in the group.
abbrev pub includes : Group → Kind → Bool
includes group.Each k = true
includes group.Nothing k = false
includes (group.Only one) k = same_kind k one
includes (group.Either one other) k = same_kind k one || same_kind k other
includes group.Operator k = is_operator k
includes group.Operand k = is_operand k
includes group.Head k = is_head k
includes group.Start k = is_start k
includes group.Ended k = is_ended k
includes group.Opener k = is_opener k
includes group.Section k = is_section k
includes group.Test k = is_test k

-- No token is in these.
abbrev pub allows_nothing : Group → Bool
allows_nothing group.Each = true
allows_nothing group.Nothing = true
allows_nothing _ = false

-- The kind of a token, or no token, is in the group.
abbrev pub allows : Group → Option Kind → Bool
allows group None = allows_nothing group
allows group (Some k) = includes group k
