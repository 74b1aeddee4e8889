-- The grammar, as relations between token lists, trees and the tokens after them.
use Rattle.std.specs.Prelude.{◌≡◌, ℕ, suc, ◌≤◌, true, false, List, [], ◌∷◌, ◌++◌, Option, Some, None}
use Rattle.language.specs.Tree.{Name, Procedure, ThreadLine, Tree, Operator, implies, or, xor, and, equal, differs, Expression, const, var}
use Rattle.language.specs.Tree.{negation, two, RightSide, any, value, Simple, skip, assign, assert, assume, goto, leave, leave_with, call}
use Rattle.language.specs.Tree.{call_for, Mark, Block, done, one, choose, loop}
use Rattle.tokens.specs.declared.vocabulary.Kind.{Kind}
use Rattle.tokens.specs.declared.vocabulary.Kind.TheVariants as kind
use Rattle.tokens.specs.Token.{Tok}

-- A token of this kind comes first.
pub data Takes (token_kind : Kind) : List Tok → List Tok → Type 0 where
  takes : {t : Tok} {rest : List Tok} → t.kind ≡ token_kind → Takes token_kind (t ∷ rest) rest

-- the name that a token is
abbrev pub name_at : Tok → Name
name_at token = record { text = token.text; at = token.at }

-- The operator that a token of this kind is.
abbrev pub operator_at : Kind → Option Operator
operator_at kind.Implies = Some implies
operator_at kind.Or = Some or
operator_at kind.Xor = Some xor
operator_at kind.And = Some and
operator_at kind.Equal = Some equal
operator_at kind.Differs = Some differs
operator_at _ = None

-- How strongly an operator binds: => least, then |, ^ and &, and = and != most.
abbrev pub level : Operator → ℕ
level implies = 0
level or = 1
level xor = 2
level and = 3
level equal = 4
level differs = 4

-- On the left of => is what binds more strongly; on the left of each other operator also what binds as it
-- does.
abbrev pub left_level : Operator → ℕ
left_level implies = 1
left_level operator = level operator

-- On the right of => may also be another =>; on the right of each other operator is what binds more strongly.
abbrev pub right_level : Operator → ℕ
right_level implies = 0
right_level operator = suc (level operator)

-- The tokens begin with an expression that binds at this level or above, without parentheses around it:
-- a constant, a name, ! and an operand, an expression in parentheses, or two operands and the operator
-- between them.
pub data Reads : ℕ → List Tok → Expression Name → List Tok → Type 0 where
  reads_zero : {l : ℕ} {t : Tok} {rest : List Tok} → t.kind ≡ kind.Zero → Reads l (t ∷ rest) (const false) rest
  reads_one : {l : ℕ} {t : Tok} {rest : List Tok} → t.kind ≡ kind.One → Reads l (t ∷ rest) (const true) rest
  reads_name : {l : ℕ} {t : Tok} {rest : List Tok} → t.kind ≡ kind.Id → Reads l (t ∷ rest) (var (name_at t)) rest
  reads_not : {l : ℕ} {t : Tok} {ts rest : List Tok} {e : Expression Name} → t.kind ≡ kind.Not → Reads 5 ts e rest
      → Reads l (t ∷ ts) (negation e) rest
  reads_paren : {l : ℕ} {t : Tok} {ts us rest : List Tok} {e : Expression Name} → t.kind ≡ kind.Open → Reads 0 ts e us
      → Takes kind.Close us rest → Reads l (t ∷ ts) e rest
  reads_two : {l : ℕ} {t : Tok} {ts us rest : List Tok} {a b : Expression Name} (o : Operator) → l ≤ level o
      → Reads (left_level o) ts a (t ∷ us) → operator_at t.kind ≡ Some o → Reads (right_level o) us b rest → Reads l ts (two o a b) rest

-- A name comes first.
pub data IsName : List Tok → Name → List Tok → Type 0 where
  is_name : {t : Tok} {rest : List Tok} → t.kind ≡ kind.Id → IsName (t ∷ rest) (name_at t) rest

-- After a token of this kind comes what P says.
pub data Behind {X : Type 0} (token_kind : Kind) (P : List Tok → X → List Tok → Type 0) : List Tok → X → List Tok → Type 0 where
  behind : {ts us rest : List Tok} {x : X} → Takes token_kind ts us → P us x rest → Behind token_kind P ts x rest

-- What P says comes in parentheses.
pub data InParens {X : Type 0} (P : List Tok → X → List Tok → Type 0) : List Tok → X → List Tok → Type 0 where
  in_parens : {ts us vs rest : List Tok} {x : X} → Takes kind.Open ts us → P us x vs → Takes kind.Close vs rest → InParens P ts x rest

-- What P says comes any number of times, one after the other.
pub data Many {X : Type 0} (P : List Tok → X → List Tok → Type 0) : List Tok → List X → List Tok → Type 0 where
  no_more : {ts : List Tok} → Many P ts [] ts
  one_more : {ts us rest : List Tok} {x : X} {xs : List X} → P ts x us → Many P us xs rest → Many P ts (x ∷ xs) rest

-- What P says comes once or more often.
pub data Several {X : Type 0} (P : List Tok → X → List Tok → Type 0) : List Tok → List X → List Tok → Type 0 where
  several : {ts us rest : List Tok} {x : X} {xs : List X} → P ts x us → Many P us xs rest → Several P ts (x ∷ xs) rest

-- What P says comes once or more often, with a comma before each but the first.
pub data Listed {X : Type 0} (P : List Tok → X → List Tok → Type 0) : List Tok → List X → List Tok → Type 0 where
  listed : {ts us rest : List Tok} {x : X} {xs : List X} → P ts x us → Many (Behind kind.Comma P) us xs rest → Listed P ts (x ∷ xs) rest

-- Nothing comes, or a list.
pub data Perhaps {X : Type 0} (P : List Tok → X → List Tok → Type 0) : List Tok → List X → List Tok → Type 0 where
  nothing : {ts : List Tok} → Perhaps P ts [] ts
  something : {ts rest : List Tok} {xs : List X} → Listed P ts xs rest → Perhaps P ts xs rest

-- An expression comes first.
abbrev pub IsExpression : List Tok → Expression Name → List Tok → Type 0
IsExpression = Reads 0

-- A right side is ? or an expression.
pub data IsRight : List Tok → RightSide Name → List Tok → Type 0 where
  is_any : {ts rest : List Tok} → Takes kind.Any ts rest → IsRight ts any rest
  is_value : {ts rest : List Tok} {e : Expression Name} → IsExpression ts e rest → IsRight ts (value e) rest

-- A statement begins with its label and a colon, or has none; its offset is that of its first token.
pub data IsMarked : List Tok → Mark Name → List Tok → Type 0 where
  bare : {t : Tok} {ts : List Tok} → IsMarked (t ∷ ts) (record { label = None; at = t.at }) (t ∷ ts)
  labelled : {t : Tok} {ts rest : List Tok} → t.kind ≡ kind.Id → Takes kind.Colon ts rest
      → IsMarked (t ∷ ts) (record { label = Some (name_at t); at = t.at }) rest

-- The statements that hold no others: skip; return, alone or with an expression; goto and a label; assert and assume
-- with a right side in parentheses; an assignment of as many right sides as there are to as many targets as there
-- are; a call, alone or after one target.
pub data IsSimple : List Tok → Simple Name Name Name → List Tok → Type 0 where
  is_skip : {ts us rest : List Tok} → Takes kind.Skip ts us → Takes kind.Semicolon us rest → IsSimple ts skip rest
  is_return : {ts us rest : List Tok} → Takes kind.Return ts us → Takes kind.Semicolon us rest → IsSimple ts leave rest
  is_give : {ts us vs rest : List Tok} {e : Expression Name} → Takes kind.Return ts us → IsExpression us e vs
      → Takes kind.Semicolon vs rest
      → IsSimple ts (leave_with e) rest
  is_goto : {ts us vs rest : List Tok} {l : Name} → Takes kind.Goto ts us → IsName us l vs → Takes kind.Semicolon vs rest
      → IsSimple ts (goto l) rest
  is_assert : {ts us vs rest : List Tok} {r : RightSide Name} → Takes kind.Assert ts us → InParens IsRight us r vs
      → Takes kind.Semicolon vs rest → IsSimple ts (assert r) rest
  is_assume : {ts us vs rest : List Tok} {r : RightSide Name} → Takes kind.Assume ts us → InParens IsRight us r vs
      → Takes kind.Semicolon vs rest → IsSimple ts (assume r) rest
  is_assign : {ts us vs ws rest : List Tok} {xs : List Name} {rs : List (RightSide Name)} → Listed IsName ts xs us
      → Takes kind.Assign us vs → Listed IsRight vs rs ws → Takes kind.Semicolon ws rest → IsSimple ts (assign xs rs) rest
  is_call : {ts us vs rest : List Tok} {p : Name} {es : List (Expression Name)} → IsName ts p us → InParens (Perhaps IsExpression) us es vs
      → Takes kind.Semicolon vs rest → IsSimple ts (call p es) rest
  is_call_for : {ts us vs ws xs rest : List Tok} {x p : Name} {es : List (Expression Name)} → IsName ts x us → Takes kind.Assign us vs
      → IsName vs p ws → InParens (Perhaps IsExpression) ws es xs → Takes kind.Semicolon xs rest
      → IsSimple ts (call_for x p es) rest

-- There is a statement.
abbrev pub IsSome : Block Name Name Name → Type 0
IsSome done = ⊥
IsSome (one mark simple rest) = Unit {0}
IsSome (choose mark side if_true if_false rest) = Unit {0}
IsSome (loop mark side body rest) = Unit {0}

-- Statements come, one after the other: those that hold no others; an `if` with its right side in parentheses, `then`
-- and statements, `else` and statements, `fi`; a `while` with its right side in parentheses, `do`, statements, `od`.
pub data Statements : List Tok → Block Name Name Name → List Tok → Type 0 where
  nothing_more : {ts : List Tok} → Statements ts done ts
  statement : {ts us vs rest : List Tok} {m : Mark Name} {s : Simple Name Name Name} {k : Block Name Name Name} →
      IsMarked ts m us → IsSimple us s vs → Statements vs k rest → Statements ts (one m s k) rest
  if_statement : {ts t1 t2 t3 t4 t5 t6 t7 t8 rest : List Tok} {m : Mark Name} {r : RightSide Name} {a b k : Block Name Name Name} →
      IsMarked ts m t1 → Takes kind.If t1 t2 → InParens IsRight t2 r t3 → Takes kind.Then t3 t4 → Statements t4 a t5 → IsSome a →
      Takes kind.Else t5 t6 → Statements t6 b t7 → IsSome b → Takes kind.Fi t7 t8 → Statements t8 k rest
      → Statements ts (choose m r a b k) rest
  while_statement : {ts t1 t2 t3 t4 t5 t6 rest : List Tok} {m : Mark Name} {r : RightSide Name} {a k : Block Name Name Name} →
      IsMarked ts m t1 → Takes kind.While t1 t2 → InParens IsRight t2 r t3 → Takes kind.Do t3 t4 → Statements t4 a t5 → IsSome a →
      Takes kind.Od t5 t6 → Statements t6 k rest → Statements ts (loop m r a k) rest

-- lists, one after the other
abbrev pub joined : {X : Type 0} → List (List X) → List X
joined [] = []
joined (xs ∷ xss) = xs ++ joined xss

-- A declaration is decl, a list of names, and a semicolon.
pub data IsDeclaration : List Tok → List Name → List Tok → Type 0 where
  is_declaration : {ts us vs rest : List Tok} {ns : List Name} → Takes kind.Decl ts us → Listed IsName us ns vs
      → Takes kind.Semicolon vs rest → IsDeclaration ts ns rest

-- Several declarations of one place give one list of names, in order.
pub data Declarations : List Tok → List Name → List Tok → Type 0 where
  declarations : {ts rest : List Tok} {nss : List (List Name)} → Many IsDeclaration ts nss rest → Declarations ts (joined nss) rest

-- A procedure is its name, its formals in parentheses, begin, its locals, at least one statement, and end.
pub data IsProcedure : List Tok → Procedure → List Tok → Type 0 where
  is_procedure : {ts us vs ws xs ys rest : List Tok} {n : Name} {formals locals : List Name} {body : Block Name Name Name} →
      IsName ts n us → InParens (Perhaps IsName) us formals vs → Takes kind.Begin vs ws → Declarations ws locals xs → Statements xs body ys
      → IsSome body → Takes kind.End ys rest →
      IsProcedure ts (record { name = n; formals = formals; locals = locals; body = body }) rest

-- A thread line is thread, the name of a procedure, and a semicolon; its offset is that of its first token.
pub data IsThread : List Tok → ThreadLine → List Tok → Type 0 where
  is_thread : {t : Tok} {us vs rest : List Tok} {n : Name} → t.kind ≡ kind.Thread → IsName us n vs → Takes kind.Semicolon vs rest
      → IsThread (t ∷ us) (record { at = t.at; name = n }) rest

-- A program is its declarations, one procedure or more, and one thread line or more.
pub data IsProgram : List Tok → Tree → Type 0 where
  is_program : {ts us vs : List Tok} {globals : List Name} {procedures : List Procedure} {threads : List ThreadLine} →
      Declarations ts globals us → Several IsProcedure us procedures vs → Several IsThread vs threads [] →
      IsProgram ts (record { globals = globals; procedures = procedures; threads = threads })
