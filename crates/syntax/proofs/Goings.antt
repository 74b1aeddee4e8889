-- The steps of the loop that reads statements.
use Rattle.std.specs.Prelude.{option_and_then}
use Rattle.std.proofs.Common.{◌≡◌, true, false, List, [], ◌∷◌, ◌++◌, Option, Some, None, refl, sym, ◌∙◌, ap}
use Rattle.language.specs.Tree.{Name, leave, Block, done, Mark}
use Rattle.tokens.specs.declared.vocabulary.Kind.{Kind}
use Rattle.tokens.specs.declared.vocabulary.Kind.TheVariants as kind
use Rattle.tokens.specs.declared.vocabulary.Token.{Token}
use Rattle.tokens.specs.Token.{Tok, toks_of, same_kind}
use Rattle.syntax.specs.Parser.{Parser, give, ◌>>=◌, begins}
use Rattle.trees.specs.Trees.{Deed, simple, Item, before, all_before}
use Rattle.syntax.specs.Exact.{item_step, rest_step, starts_here, section, item, going_on, put_before, marked}
use Rattle.syntax.specs.Exact.{calling, asking, assignment, asks_behind, named, semicolon_after, giving, deed_step, deed_by, deed}
use Rattle.syntax.proofs.Fixes.{bind_is}
use Rattle.syntax.proofs.Sections.{section_is}

all_before_more : (is : List Item) (i : Item) (k : Block Name Name Name) → all_before is (before i k) ≡ all_before (is ++ (i ∷ [])) k
all_before_more [] i k = refl
all_before_more (j ∷ is) i k = ap (before j) (all_before_more is i k)

put_more : (is : List Item) (i : Item) (r : Option (Block Name Name Name × List Tok))
    → put_before is (option_and_then (λ (q : Block Name Name Name × List Tok). Some (before i q.0, q.1)) r) ≡ put_before (is ++ (i ∷ [])) r
put_more is i None = refl
put_more is i (Some q) = ap (λ (b : Block Name Name Name). Some (b, q.1)) (all_before_more is i q.0)

put_none : (r : Option (Block Name Name Name × List Tok)) → put_before [] r ≡ r
put_none None = refl
put_none (Some q) = refl

pub sections_start : (ts : List Tok) (i : Item) (us : List Tok) → item ts ≡ Some (i, us) → section ts ≡ put_before (i ∷ []) (going_on us)
unfolding item going_on
sections_start ts i us e =
    section_is ts ∙ bind_is (item_step section) (λ i. rest_step section >>= λ k. give (before i k)) ts i us e
    ∙ sym (put_none ((rest_step section >>= λ k. give (before i k)) us)) ∙ put_more [] i (rest_step section us)

pub sections_no_start : (ts : List Tok) → item ts ≡ None → section ts ≡ None
unfolding item
sections_no_start ts e = section_is ts ∙ rw e refl

going_at : (ts : List Tok) → starts_here ts ≡ true → going_on ts ≡ section ts
unfolding going_on
going_at ts e = rw e refl

pub sections_go_on : (is : List Item) (ts : List Tok) (i : Item) (us : List Tok) → starts_here ts ≡ true → item ts ≡ Some (i, us)
    → put_before is (going_on ts) ≡ put_before (is ++ (i ∷ [])) (going_on us)
unfolding item going_on
sections_go_on is ts i us h e =
    ap (put_before is)
    (going_at ts h ∙ section_is ts ∙ bind_is (item_step section) (λ i. rest_step section >>= λ k. give (before i k)) ts i us e)
    ∙ put_more is i (rest_step section us)

pub sections_refused : (is : List Item) (ts : List Tok) → starts_here ts ≡ true → item ts ≡ None → put_before is (going_on ts) ≡ None
sections_refused is ts h e = let f : going_on ts ≡ None = going_at ts h ∙ sections_no_start ts e in ap (put_before is) f

pub sections_end : (is : List Item) (ts : List Tok) → starts_here ts ≡ false → put_before is (going_on ts) ≡ Some (all_before is done, ts)
unfolding going_on
sections_end is ts e = rw e refl

-- what the loop over statements does
pub ruleset section_steps = (sections_start, sections_no_start, sections_go_on, sections_refused, sections_end)

-- what a statement does is read as its first word says
pub deed_begins : (k : Kind) (ts us : List Token) (t : Token) → ts ≡ t ∷ us → t.kind ≡ k → deed (toks_of ts)
    ≡ deed_by section (record { kind = k; at = t.at; text = t.text.now }) (toks_of us)
unfolding deed
deed_begins k ts us t e is = rw (e, is) refl

-- `return` stands alone, or a value follows
pub deed_leaves : (ts us : List Token) (t : Token) → ts ≡ t ∷ us → t.kind ≡ kind.Return
    → begins kind.Semicolon (toks_of us) ≡ true → deed (toks_of ts) ≡ semicolon_after (simple leave) (toks_of us)
unfolding deed same_kind
deed_leaves ts us t e is h = rw (e, is, h) refl

pub deed_gives : (ts us : List Token) (t : Token) → ts ≡ t ∷ us → t.kind ≡ kind.Return
    → begins kind.Semicolon (toks_of us) ≡ false → deed (toks_of ts) ≡ giving (toks_of us)
unfolding deed same_kind
deed_gives ts us t e is h = rw (e, is, h) refl

-- a name begins a call, a call for a value or an assignment
pub deed_calls : (ts us : List Token) (t : Token) → ts ≡ t ∷ us → t.kind ≡ kind.Id
    → begins kind.Open (toks_of us) ≡ true → deed (toks_of ts) ≡ calling (toks_of ts)
unfolding deed named same_kind
deed_calls ts us t e is h = rw (e, is, h) refl

pub deed_asks : (ts us : List Token) (t : Token) → ts ≡ t ∷ us → t.kind ≡ kind.Id → begins kind.Open (toks_of us) ≡ false
    → asks_behind (toks_of us) ≡ true → deed (toks_of ts) ≡ asking (toks_of ts)
unfolding deed named same_kind
deed_asks ts us t e is h g = rw (e, is, h, g) refl

pub deed_assigns : (ts us : List Token) (t : Token) → ts ≡ t ∷ us → t.kind ≡ kind.Id → begins kind.Open (toks_of us) ≡ false
    → asks_behind (toks_of us) ≡ false → deed (toks_of ts) ≡ assignment (toks_of ts)
unfolding deed named same_kind
deed_assigns ts us t e is h g = rw (e, is, h, g) refl

-- a statement is a mark and what it does
module _ (ts : List Tok) {m : Mark Name} {us : List Tok} (e : marked ts ≡ Some (m, us)) where
  abbrev with_mark : Parser Item
  with_mark = deed >>= λ d. give (record { mark = m; deed = d })

  item_behind : item ts ≡ with_mark us
  unfolding item deed
  item_behind = bind_is marked (λ m. deed_step section >>= λ d. give (record { mark = m; deed = d })) ts m us e

  pub item_whole : {d : Deed} {rest : List Tok} → deed us ≡ Some (d, rest)
      → item ts ≡ Some (record { mark = m; deed = d }, rest)
  item_whole f = item_behind ∙ rw f refl

  pub item_refused : deed us ≡ None → item ts ≡ None
  item_refused f = item_behind ∙ rw f refl
