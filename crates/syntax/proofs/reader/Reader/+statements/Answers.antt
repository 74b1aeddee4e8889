use Rattle.std.proofs.Common.{rules, arith, ◌≡◌, ◌+◌, ◌*◌, ◌<◌, ◌≤◌, ℕ, length, List, [], ◌∷◌, ◌∙◌, ap, sym, Some, refl}
use Rattle.tokens.specs.declared.vocabulary.Kind.TheVariants as kind
use Rattle.tokens.specs.Token.{toks_of, same_kind}
use Rattle.syntax.specs.Exact.{section, going_on, put_before, condition, marked, closed, item, deed, if_deed, while_deed}
use Rattle.trees.specs.Trees.{Item, item_of, items_of, block_of}
use Rattle.syntax.proofs.Closings.{closed_read, closed_shorter, less_still}
use Rattle.trees.proofs.Folds.{item_is, deed_of-Skip, deed_of-Return, deed_of-If, deed_of-While}
use Rattle.syntax.proofs.Goings.{sections_start, sections_go_on}
use Rattle.syntax.proofs.Goings.{item_whole, item_refused, deed_leaves, deed_gives, deed_calls, deed_asks, deed_assigns, deed_begins}
use Rattle.syntax.proofs.Goings.{sections_no_start, sections_refused, sections_end}
use Rattle.syntax.proofs.Exits.{refused, refused_is_well}
use Rattle.syntax.proofs.Loops.{pushed}
use Rattle.syntax.proofs.reader.Reader.+statements.Goals as goal

-- The measures of calls: fewer tokens, or as many and a function further down.
behind_less : {a b : ℕ} → a < b → 5 * a + 5 < 5 * b + 1
behind_less less = omega (arith, less)

before_less : (a : ℕ) → 5 * a + 4 < 5 * a + 5
before_less a = omega arith

word_less : {A : Type 0} {x : A} {xs ys : List A} → ys ≡ x ∷ xs → 5 * length xs + 1 < 5 * length ys + 2
word_less {A} {x} {xs} {ys} is = rw is (omega arith)

mark_less : {a b : ℕ} → a ≤ b → 5 * a + 2 < 5 * b + 3
mark_less less = omega (arith, less)

first_less : (a : ℕ) → 5 * a + 3 < 5 * a + 4
first_less a = omega arith

next_less : {a b : ℕ} → a < b → 5 * a + 3 < 5 * b + 4
next_less less = omega (arith, less)

pub core-branch-self-requires : goal.core-branch-self-requires
core-branch-self-requires g t c κs within = (rw (← c.decreases) (word_less c.in-Some.ensures.cases.0), within)

pub core-repeat-requires : goal.core-repeat-requires
core-repeat-requires g t c κs within = (rw (← c.decreases) (word_less c.in-Some.ensures.cases.0), within)

pub statement-core-requires : goal.statement-core-requires
statement-core-requires g t c κs within = (rw (← c.decreases) (mark_less c.in_ok-label.ensures.no_longer), within)

pub statements-statement-requires : goal.statements-statement-requires
statements-statement-requires g t c κs within = (rw (← c.decreases) (first_less _), within)

pub statements-statement-requires-in-loop-rest : goal.statements-statement-requires-in-loop-rest
statements-statement-requires-in-loop-rest g t c κs within =
    (rw (← c.decreases) (next_less c.loop-rest.invariant.shorter), within)

pub statements_before-statements-requires : goal.statements_before-statements-requires
statements_before-statements-requires g t c κs within = (rw (← c.decreases) (before_less _), within)

pub branch-statements_before-requires : goal.branch-statements_before-requires
branch-statements_before-requires g t c κs within = (rw (← c.decreases) (behind_less c.in_ok-side.ensures.shorter), within)

pub branch-statements_before-requires-2 : goal.branch-statements_before-requires-2
branch-statements_before-requires-2 g t c κs within =
    (rw (← c.decreases) (behind_less (less_still c.in_ok-yes.ensures.shorter c.in_ok-side.ensures.shorter)), within)

pub repeat-statements_before-requires : goal.repeat-statements_before-requires
repeat-statements_before-requires g t c κs within = (rw (← c.decreases) (behind_less c.in_ok-side.ensures.shorter), within)

pub core-returns-in-Skip-clause-gives : goal.core-returns-in-Skip-clause-gives
unfolding same_kind if_deed while_deed
core-returns-in-Skip-clause-gives g t c =
    rw (deed_begins kind.Skip c.args.tokens.now c.in-Some.others.now c.in-Some.first.now c.in-Some.ensures.cases.0
    c.in-Skip.is) (rw (deed_of-Skip g.row.A.Denot) at c.ended.ensures.gives)

pub core-returns-in-Return-clause-gives : goal.core-returns-in-Return-clause-gives
core-returns-in-Return-clause-gives g t c =
    rw (deed_leaves c.args.tokens.now c.in-Some.others.now c.in-Some.first.now c.in-Some.ensures.cases.0
    c.in-Return.is (sym c.begins.ensures ∙ c.if-begins.true)) (rw (deed_of-Return g.row.A.Denot) at c.ended-in-Return.ensures.gives)

pub core-returns-in-Return-2-clause-gives : goal.core-returns-in-Return-2-clause-gives
core-returns-in-Return-2-clause-gives g t c =
    rw (deed_gives c.args.tokens.now c.in-Some.others.now c.in-Some.first.now c.in-Some.ensures.cases.0
    c.in-Return.is (sym c.begins.ensures ∙ c.if-begins.false)) c.giving.ensures.gives

pub core-returns-in-Goto-clause-gives : goal.core-returns-in-Goto-clause-gives
unfolding same_kind if_deed while_deed
core-returns-in-Goto-clause-gives g t c =
    rw (deed_begins kind.Goto c.args.tokens.now c.in-Some.others.now c.in-Some.first.now c.in-Some.ensures.cases.0
    c.in-Goto.is) c.jumping.ensures.gives

pub core-returns-in-Assert-clause-gives : goal.core-returns-in-Assert-clause-gives
unfolding same_kind if_deed while_deed
core-returns-in-Assert-clause-gives g t c =
    rw (deed_begins kind.Assert c.args.tokens.now c.in-Some.others.now c.in-Some.first.now c.in-Some.ensures.cases.0
    c.in-Assert.is) c.asserting.ensures.gives

pub core-returns-in-Assume-clause-gives : goal.core-returns-in-Assume-clause-gives
unfolding same_kind if_deed while_deed
core-returns-in-Assume-clause-gives g t c =
    rw (deed_begins kind.Assume c.args.tokens.now c.in-Some.others.now c.in-Some.first.now c.in-Some.ensures.cases.0
    c.in-Assume.is) c.assuming.ensures.gives

pub core-returns-in-If-clause-gives : goal.core-returns-in-If-clause-gives
unfolding same_kind if_deed while_deed
core-returns-in-If-clause-gives g t c =
    rw (deed_begins kind.If c.args.tokens.now c.in-Some.others.now c.in-Some.first.now c.in-Some.ensures.cases.0
    c.in-If.is) c.branch-self.ensures.gives

pub core-returns-in-While-clause-gives : goal.core-returns-in-While-clause-gives
unfolding same_kind if_deed while_deed
core-returns-in-While-clause-gives g t c =
    rw (deed_begins kind.While c.args.tokens.now c.in-Some.others.now c.in-Some.first.now c.in-Some.ensures.cases.0
    c.in-While.is) c.repeat.ensures.gives

pub statements-loop-rest-init : goal.statements-loop-rest-init
statements-loop-rest-init g t c = record {
  whole =
      sections_start (toks_of c.args.tokens.now) (item_of c.in_ok-first.first) (toks_of c.in_ok-first.rest.now) c.in_ok-first.ensures.gives
      ∙ ap (λ (is : List Item). put_before is (going_on (toks_of c.in_ok-first.rest.now)))
      (pushed item_of [] c.in_ok-list.list.items c.in_ok-first.first c.in_ok-list.ensures.ok);
  shorter = c.in_ok-first.ensures.shorter;
}

pub statements-loop-rest-preserved : goal.statements-loop-rest-preserved
statements-loop-rest-preserved g t c = record {
  whole =
      c.loop-rest.invariant.whole
      ∙ sections_go_on (items_of c.loop-rest.list.items) (toks_of c.loop-rest.rest.now) (item_of c.in_ok-next.next)
      (toks_of c.in_ok-next.after.now) (sym c.begins_statement.ensures ∙ c.loop-rest-test.true) c.in_ok-next.ensures.gives
      ∙ ap (λ (is : List Item). put_before is (going_on (toks_of c.in_ok-next.after.now)))
      (pushed item_of c.loop-rest.list.items c.put.new.list.items c.in_ok-next.next c.in_ok-put.ensures.ok);
  shorter = less_still c.in_ok-next.ensures.shorter c.loop-rest.invariant.shorter;
}

pub core-returns-in-Id-clause-gives : goal.core-returns-in-Id-clause-gives
core-returns-in-Id-clause-gives g t c =
    rw (deed_calls c.args.tokens.now c.in-Some.others.now c.in-Some.first.now c.in-Some.ensures.cases.0
    c.in-Id.is (search rules)) c.calling.ensures.gives

pub core-returns-in-Id-2-clause-gives : goal.core-returns-in-Id-2-clause-gives
core-returns-in-Id-2-clause-gives g t c =
    rw (deed_asks c.args.tokens.now c.in-Some.others.now c.in-Some.first.now c.in-Some.ensures.cases.0
    c.in-Id.is (search rules) (sym c.asks_behind.ensures ∙ c.if-asks_behind.true))
    c.asking.ensures.gives

pub core-returns-in-Id-3-clause-gives : goal.core-returns-in-Id-3-clause-gives
core-returns-in-Id-3-clause-gives g t c =
    rw (deed_assigns c.args.tokens.now c.in-Some.others.now c.in-Some.first.now c.in-Some.ensures.cases.0
    c.in-Id.is (search rules) (sym c.asks_behind.ensures ∙ c.if-asks_behind.false))
    c.assignment.ensures.gives

pub statement-returns-clause-gives : goal.statement-returns-clause-gives
statement-returns-clause-gives g t c =
    item_whole (toks_of c.args.tokens.now) c.in_ok-label.ensures.gives c.in_ok-core.ensures.gives
    ∙ ap (λ (i : Item). Some (i, toks_of c.in_ok-core.rest.now)) (sym (item_is _))

pub statements_before-returns : goal.statements_before-returns
statements_before-returns g t c = record {
  gives =
      closed_read (λ v. block_of v.items) section c.args.kind c.statements.result c.closed.result c.args.tokens.now
      c.statements.ensures.gives c.closed.ensures;
  shorter =
      closed_shorter c.args.kind c.statements.result c.closed.result c.args.tokens.now c.statements.ensures.shorter c.closed.ensures;
}

pub branch-returns : goal.branch-returns
unfolding if_deed
branch-returns g t c = record {
  gives =
      rw (
        c.in_ok-side.ensures.gives,
        c.in_ok-yes.ensures.gives,
        c.in_ok-no.ensures.gives,
        deed_of-If c.in_ok-side.side c.in_ok-yes.yes c.in_ok-no.no,
      ) refl;
  shorter = less_still (less_still c.in_ok-no.ensures.shorter c.in_ok-yes.ensures.shorter) c.in_ok-side.ensures.shorter;
}

pub repeat-returns : goal.repeat-returns
unfolding while_deed
repeat-returns g t c = record {
  gives =
      rw (c.in_ok-side.ensures.gives, c.in_ok-body.ensures.gives, deed_of-While c.in_ok-side.side c.in_ok-body.body) refl;
  shorter = less_still c.in_ok-body.ensures.shorter c.in_ok-side.ensures.shorter;
}

-- If a part is refused, so is the whole.
pub branch-returns-in_err-side : goal.branch-returns-in_err-side
unfolding if_deed
branch-returns-in_err-side g t c = record {
  gives =
      refused _ c.from_residual.result _ (closed kind.Then condition (toks_of c.args.tokens.now)) _
      c.from_residual.ensures.1 (λ none. rw none refl) c.in_err-side.ensures.gives;
  shorter = refused_is_well _ c.from_residual.result _ c.from_residual.ensures.1;
}

pub branch-returns-in_err-yes : goal.branch-returns-in_err-yes
unfolding if_deed
branch-returns-in_err-yes g t c = record {
  gives =
      refused _ c.from_residual-in_err-yes.result _ (closed kind.Else section (toks_of c.in_ok-side.opened.now)) _
      c.from_residual-in_err-yes.ensures.1 (λ none. rw (c.in_ok-side.ensures.gives, none) refl) c.in_err-yes.ensures.gives;
  shorter = refused_is_well _ c.from_residual-in_err-yes.result _ c.from_residual-in_err-yes.ensures.1;
}

pub branch-returns-in_err-no : goal.branch-returns-in_err-no
unfolding if_deed
branch-returns-in_err-no g t c = record {
  gives =
      refused _ c.from_residual-in_err-no.result _ (closed kind.Fi section (toks_of c.in_ok-yes.between.now)) _
      c.from_residual-in_err-no.ensures.1
      (λ none. rw (c.in_ok-side.ensures.gives, c.in_ok-yes.ensures.gives, none) refl) c.in_err-no.ensures.gives;
  shorter = refused_is_well _ c.from_residual-in_err-no.result _ c.from_residual-in_err-no.ensures.1;
}

pub repeat-returns-in_err-side : goal.repeat-returns-in_err-side
unfolding while_deed
repeat-returns-in_err-side g t c = record {
  gives =
      refused _ c.from_residual.result _ (closed kind.Do condition (toks_of c.args.tokens.now)) _
      c.from_residual.ensures.1 (λ none. rw none refl) c.in_err-side.ensures.gives;
  shorter = refused_is_well _ c.from_residual.result _ c.from_residual.ensures.1;
}

pub repeat-returns-in_err-body : goal.repeat-returns-in_err-body
unfolding while_deed
repeat-returns-in_err-body g t c = record {
  gives =
      refused _ c.from_residual-in_err-body.result _ (closed kind.Od section (toks_of c.in_ok-side.opened.now)) _
      c.from_residual-in_err-body.ensures.1 (λ none. rw (c.in_ok-side.ensures.gives, none) refl) c.in_err-body.ensures.gives;
  shorter = refused_is_well _ c.from_residual-in_err-body.result _ c.from_residual-in_err-body.ensures.1;
}

pub statement-returns-in_err-label : goal.statement-returns-in_err-label
unfolding item deed
statement-returns-in_err-label g t c = record {
  gives =
      refused _ c.from_residual.result _ (marked (toks_of c.args.tokens.now)) _
      c.from_residual.ensures.1 (λ none. rw none refl) c.in_err-label.ensures.gives;
  shorter = refused_is_well _ c.from_residual.result _ c.from_residual.ensures.1;
}

pub statement-returns-in_err-core : goal.statement-returns-in_err-core
unfolding item
statement-returns-in_err-core g t c = record {
  gives =
      refused _ c.from_residual-in_err-core.result _ (deed (toks_of c.in_ok-label.others.now)) _
      c.from_residual-in_err-core.ensures.1
      (item_refused (toks_of c.args.tokens.now) c.in_ok-label.ensures.gives) c.in_err-core.ensures.gives;
  shorter = refused_is_well _ c.from_residual-in_err-core.result _ c.from_residual-in_err-core.ensures.1;
}

pub statements-returns-in_err-first : goal.statements-returns-in_err-first
statements-returns-in_err-first g t c = record {
  gives =
      refused _ c.from_residual.result _ (item (toks_of c.args.tokens.now)) _
      c.from_residual.ensures.1 (sections_no_start (toks_of c.args.tokens.now)) c.in_err-first.ensures.gives;
  shorter = refused_is_well _ c.from_residual.result _ c.from_residual.ensures.1;
}

pub statements-returns-in_err-next : goal.statements-returns-in_err-next
statements-returns-in_err-next g t c = record {
  gives =
      refused _ c.from_residual-in_err-next.result _ (item (toks_of c.loop-rest.rest.now)) _
      c.from_residual-in_err-next.ensures.1
      (λ none. c.loop-rest.invariant.whole
      ∙ sections_refused (items_of c.loop-rest.list.items) (toks_of c.loop-rest.rest.now)
      (sym c.begins_statement.ensures ∙ c.loop-rest-test.true) none) c.in_err-next.ensures.gives;
  shorter = refused_is_well _ c.from_residual-in_err-next.result _ c.from_residual-in_err-next.ensures.1;
}

pub statements-returns : goal.statements-returns
statements-returns g t c = record {
  gives =
      c.loop-rest.invariant.whole
      ∙ sections_end (items_of c.loop-rest.list.items) (toks_of c.loop-rest.rest.now)
      (sym c.begins_statement.ensures ∙ c.loop-rest-test.false);
  shorter = c.loop-rest.invariant.shorter;
}
