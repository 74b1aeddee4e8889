-- The function that reads statements is sound and complete for the grammar of statements.
use Rattle.std.proofs.Common.{◌≡◌, Bool, true, false, cond, ◌&&◌, List, [], ◌∷◌, Some, None, refl}
use Rattle.language.specs.Tree.{Name, RightSide, Simple, assert, assume, leave, Mark, Block}
use Rattle.language.specs.Tree.{done}
use Rattle.tokens.specs.declared.vocabulary.Kind.TheVariants as kind
use Rattle.tokens.specs.Token.{Tok, same_kind}
use Rattle.syntax.specs.Parser.{Parser, give, ◌>>=◌, begins, take}
use Rattle.grammar.specs.Grammar.{Takes, takes, InParens, IsRight, name_at, IsMarked, bare, labelled, IsSimple, is_skip, is_return, is_give}
use Rattle.grammar.specs.Grammar.{is_goto, is_assert, is_assume, is_assign, is_call, is_call_for, IsSome, Statements, nothing_more}
use Rattle.grammar.specs.Grammar.{statement, if_statement, while_statement}
use Rattle.trees.specs.Trees.{Deed, simple, before, marked_before}
use Rattle.syntax.specs.Exact.{name, name_list, expression, rights, argument_list, condition, marked, assignment, calling, asking}
use Rattle.syntax.specs.Exact.{asks_behind}
use Rattle.syntax.specs.Exact.{named, giving, returning, branching, repeating, deed_by, deed_step, starts_here, item_step, rest_step}
use Rattle.syntax.specs.Exact.{closed, section_step, section, semicolon_after, jumping}
use Rattle.syntax.proofs.KindTests.{same_kind-true}
use Rattle.syntax.proofs.Fixes.{Finds, fix_finds}
use Rattle.syntax.proofs.ChainLemmas.{Finding, Finding-give, Finding-refuse, Finding-bind, Finding-last, Finding-kind}
use Rattle.syntax.proofs.ChainLemmas.{Finding-choice, Finding-closed}
use Rattle.syntax.proofs.Parts.{exactly_name, exactly_names, exactly_expression, exactly_rights, exactly_arguments, exactly_test}

-- what is read there, behind a mark and with the statements that continue, is statements
abbrev Continues : List Tok → Deed → List Tok → Type 0
Continues ts d rest = (us : List Tok) (m : Mark Name) → IsMarked us m ts → (k : Block Name Name Name) (vs : List Tok)
    → Statements rest k vs → Statements us (marked_before m d k) vs

-- marks
marked_finds : (ts : List Tok) → Finding marked ts (IsMarked ts)
unfolding marked
marked_finds [] = record { by = λ m rest e. cc }
marked_finds (t ∷ ts) =
    Finding-choice (take kind.Colon >>= λ _. give (record { label = Some (name_at t); at = t.at }))
    (give (record { label = None; at = t.at })) (same_kind t.kind kind.Id && begins kind.Colon ts) refl
    (λ is. Finding-last (λ rest c. labelled (is_id (same_kind t.kind kind.Id) refl is) c)) (λ is. Finding-give bare)
  where
    is_id : (c : Bool) → same_kind t.kind kind.Id ≡ c → c && begins kind.Colon ts ≡ true → t.kind ≡ kind.Id
    is_id true e h = same_kind-true e
    is_id false e h = cc

plain_found : {ts rest : List Tok} {s : Simple Name Name Name} → IsSimple ts s rest → Continues ts (simple s) rest
plain_found h us m marks k vs more = statement marks h more

assignment_finds : (ts : List Tok) → Finding assignment ts (Continues ts)
unfolding assignment
assignment_finds ts =
    Finding-closed name_list (λ xs us vs n a. Finding-closed rights (λ rs ws rest r c.
    Finding-give (plain_found (is_assign (exactly_names.finds ts xs us n) a (exactly_rights.finds vs rs ws r) c))))

calling_finds : (ts : List Tok) → Finding calling ts (Continues ts)
unfolding calling
calling_finds ts =
    Finding-bind name (λ p us n. Finding-bind argument_list (λ es vs h. Finding-last (λ rest c.
    plain_found (is_call (exactly_name.finds ts p us n) (exactly_arguments.finds us es vs h) c))))

asking_finds : (ts : List Tok) → Finding asking ts (Continues ts)
unfolding asking
asking_finds ts =
    Finding-closed name (λ x us vs n a. Finding-bind name (λ p ws c. Finding-bind argument_list (λ es xs h. Finding-last (λ rest s.
    plain_found (is_call_for (exactly_name.finds ts x us n) a (exactly_name.finds vs p ws c) (exactly_arguments.finds ws es xs h) s)))))

named_finds : (t : Tok) (ts : List Tok) → Finding (named t) ts (Continues (t ∷ ts))
unfolding named
named_finds t ts =
    Finding-choice calling (λ us. cond (asks_behind ts) (asking us) (assignment us)) (begins kind.Open ts) refl
    (λ _. calling_finds (t ∷ ts))
    (λ _. Finding-choice asking assignment (asks_behind ts) refl (λ _. asking_finds (t ∷ ts)) (λ _. assignment_finds (t ∷ ts)))

-- what reading statements finds
abbrev Found : Unit {0} → List Tok → Block Name Name Name → List Tok → Type 0
Found u ts b rest = Statements ts b rest × IsSome b × (starts_here rest ≡ false)

module _ (f : Unit {0} → Parser (Block Name Name Name)) (sound : Finds Found f) (t : Tok) (ts : List Tok) where
  return_finds : t.kind ≡ kind.Return → Finding returning ts (Continues (t ∷ ts))
  unfolding giving
  return_finds is =
      Finding-choice (semicolon_after (simple leave)) giving (begins kind.Semicolon ts) refl
      (λ _. Finding-last (λ rest c. plain_found (is_return (takes is) c)))
      (λ _. Finding-bind expression (λ e us r. Finding-last (λ rest c.
      plain_found (is_give (takes is) (exactly_expression.finds ts e us r) c))))

  goto_finds : t.kind ≡ kind.Goto → Finding jumping ts (Continues (t ∷ ts))
  goto_finds is = Finding-bind name (λ l us n. Finding-last (λ rest c. plain_found (is_goto (takes is) (exactly_name.finds ts l us n) c)))

  test_finds : (s : RightSide Name → Simple Name Name Name)
      → ((us rest : List Tok) (r : RightSide Name) → InParens IsRight ts r us → Takes kind.Semicolon us rest
      → IsSimple (t ∷ ts) (s r) rest)
      → Finding (closed kind.Semicolon condition >>= λ r. give (simple (s r))) ts (Continues (t ∷ ts))
  test_finds s is =
      Finding-closed condition (λ r us rest h c. Finding-give (plain_found (is us rest r (exactly_test.finds ts r us h) c)))

  if_finds : t.kind ≡ kind.If → Finding (branching (f tt)) ts (Continues (t ∷ ts))
  if_finds is =
      Finding-closed condition (λ r t2 t3 h th. Finding-closed (f tt) (λ a t4 t5 sa el. Finding-closed (f tt) (λ b t6 t7 sb fi.
      let x = sound tt t3 a t4 sa in
      let y = sound tt t5 b t6 sb in
      Finding-give (λ us m marks k ws more.
      if_statement marks (takes is) (exactly_test.finds ts r t2 h) th x.0 x.1 el y.0 y.1 fi more))))

  while_finds : t.kind ≡ kind.While → Finding (repeating (f tt)) ts (Continues (t ∷ ts))
  while_finds is =
      Finding-closed condition (λ r t2 t3 h th. Finding-closed (f tt) (λ a t4 t5 sa od.
      let x = sound tt t3 a t4 sa in
      Finding-give (λ us m marks k ws more. while_statement marks (takes is) (exactly_test.finds ts r t2 h) th x.0 x.1 od more)))

  deed_by_finds : Finding (deed_by (f tt) t) ts (Continues (t ∷ ts))
  deed_by_finds =
      Finding-kind t (λ is. Finding-last (λ rest c. plain_found (is_skip (takes is) c)))
      (Finding-kind t return_finds
      (Finding-kind t goto_finds
      (Finding-kind t (λ is. test_finds assert (λ us rest r h c. is_assert (takes is) h c))
      (Finding-kind t (λ is. test_finds assume (λ us rest r h c. is_assume (takes is) h c))
      (Finding-kind t if_finds (Finding-kind t while_finds (Finding-kind t (λ is. named_finds t ts) Finding-refuse)))))))

deed_finds : (f : Unit {0} → Parser (Block Name Name Name)) → Finds Found f → (ts : List Tok)
    → Finding (deed_step (f tt)) ts (Continues ts)
deed_finds f sound [] = record { by = λ d rest e. cc }
deed_finds f sound (t ∷ ts) = record { by = (deed_by_finds f sound t ts).by }

item_finds : (f : Unit {0} → Parser (Block Name Name Name)) → Finds Found f → (ts : List Tok)
    → Finding (item_step (f tt)) ts
    (λ i rest. (k : Block Name Name Name) (vs : List Tok) → Statements rest k vs → Statements ts (before i k) vs)
item_finds f sound ts =
    Finding-bind marked (λ m us marks. Finding-bind (deed_step (f tt)) (λ d vs does.
    Finding-give ((deed_finds f sound us).by d vs does ts m ((marked_finds ts).by m us marks))))

rest_finds : (f : Unit {0} → Parser (Block Name Name Name)) → Finds Found f → (ts : List Tok)
    → Finding (rest_step (f tt)) ts (λ k rest. Statements ts k rest × (starts_here rest ≡ false))
rest_finds f sound ts =
    Finding-choice (f tt) (give done) (starts_here ts) refl
    (λ _. record { by = λ k rest e. let h = sound tt ts k rest e in (h.0, h.2) }) (λ is. Finding-give (nothing_more, is))

before_some : (m : Mark Name) (d : Deed) (k : Block Name Name Name) → IsSome (marked_before m d k)
before_some m (simple s) k = tt
before_some m _ k = tt

step_finds : (f : Unit {0} → Parser (Block Name Name Name)) → Finds Found f → Finds Found (section_step f)
step_finds f sound u ts =
    let whole : Finding (section_step f u) ts (Found u ts) =
    Finding-bind (item_step (f tt)) (λ i us first. Finding-bind (rest_step (f tt)) (λ k vs others.
    let tail = (rest_finds f sound us).by k vs others in
    Finding-give ((item_finds f sound ts).by i us first k vs tail.0, before_some i.mark i.deed k, tail.1))) in
    whole.by

-- what is read is statements, at least one, and no other comes next
pub section_finds : (ts : List Tok) (b : Block Name Name Name) (rest : List Tok) → section ts ≡ Some (b, rest)
    → Statements ts b rest × IsSome b × (starts_here rest ≡ false)
unfolding section
section_finds ts b rest e = fix_finds section_step Found step_finds tt ts b rest e
