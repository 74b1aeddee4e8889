-- A step back passes a token or finds the last one of the front.
use Rattle.std.proofs.Common.{◌≡◌, ◌∙◌, ◌+◌, ◌-◌, ◌<◌, length, arith, ap, sym, drop, get_or}
use Rattle.std.proofs.Math.Seq.{drop-length}
use Rattle.hints.specs.Front.{is_closing, closing_count, front_to, opening_count, is_opening}
use Rattle.hints.proofs.Fronts.{blank, counted, ends, ends_not, few, found, nothing, passed}
use Rattle.hints.proofs.front.front_to.Goals as goal

pub loop-left-init : goal.loop-left-init
loop-left-init c =
    let none = drop-length c.args.tokens.now in
    record {
      within = omega arith;
      opened = ap (opening_count c.args.brackets) (sym none);
      closed = ap (closing_count c.args.brackets) (sym none);
      none = ap (front_to c.args.brackets c.args.group) none ∙ nothing c.args.brackets c.args.group;
      few_opened = omega arith;
      few_closed = omega arith;
    }

pub returns-then-opened-closed : goal.returns-then-opened-closed
returns-then-opened-closed c =
    let loop = c.loop-left.invariant in
    let ts = c.args.tokens.now in
    let j = c.loop-left.left - 1 in
    let within : j < length ts = omega arith in
    found c.args.brackets c.args.group ts c.loop-left.left j (omega arith) within
    (ends c.args.brackets c.args.group (get_or ts j blank) (drop c.loop-left.left ts) c.loop-left.opened c.loop-left.closed
    (sym c.includes.ensures ∙ c.if-includes.true) loop.opened loop.closed c.if-opened-closed.true)
    loop.none

pub loop-left-preserved : goal.loop-left-preserved
loop-left-preserved c =
    let loop = c.loop-left.invariant in
    let ts = c.args.tokens.now in
    let b = c.args.brackets in
    let left = c.loop-left.left in
    let j = left - 1 in
    let within : j < length ts = omega arith in
    let e : left ≡ j + 1 = omega arith in
    let at = get_or ts j blank in
    let ends_none =
    ends_not b c.args.group at (drop left ts) c.loop-left.opened c.loop-left.closed c.includes.result c.includes.ensures
    loop.opened loop.closed c.else-includes.either in
    let more_opened =
    counted (λ t. is_opening b t.kind) ts left j c.loop-left.opened c.is_opening.result e within loop.opened c.is_opening.ensures in
    let more_closed =
    counted (λ t. is_closing b t.kind) ts left j c.loop-left.closed c.is_closing.result e within loop.closed c.is_closing.ensures in
    record {
      within = omega arith;
      opened = ap (λ n. c.loop-left.opened + n) c.from-opened.ensures ∙ more_opened;
      closed = ap (λ n. c.loop-left.closed + n) c.from-closed.ensures ∙ more_closed;
      none = passed b c.args.group ts left j e within ends_none loop.none;
      few_opened =
          few c.loop-left.opened left (length ts) c.from-opened.result c.is_opening.result c.from-opened.ensures loop.few_opened
          (omega arith);
      few_closed =
          few c.loop-left.closed left (length ts) c.from-closed.result c.is_closing.result c.from-closed.ensures loop.few_closed
          (omega arith);
    }
