use Rattle.std.proofs.Common.{◌<◌, List, length, take, sym, subst, arith, rules}
use Rattle.language.specs.Tree as tree
use Rattle.trees.specs.Trees.{name_of}
use Rattle.scopes.specs.Known.{AreTexts}
use Rattle.resolved.specs.Statements.{lent}
use Rattle.scopes.proofs.Seen.{begin_seen, one_taken, next_seen, end_seen}
use Rattle.scopes.proofs.known.repeated.Goals as goal

pub loop-name-init : goal.loop-name-init
loop-name-init g c = record { told = search rules; kept = begin_seen (lent c.args.names.now) }

pub loop-name-preserved : goal.loop-name-preserved
loop-name-preserved g c =
    let lt : c.loop-name.name-index < length c.args.names.now = omega arith in
    let told = c.in_ok-seen_again.ensures.told (lent (take c.loop-name.name-index c.args.names.now)) c.loop-name.invariant.told in
    let again = c.in_ok-seen_again.ensures.again (lent (take c.loop-name.name-index c.args.names.now)) c.loop-name.invariant.told in
    record {
      told =
          subst (λ (l : List tree.Name). AreTexts c.seen_again.new.seen l)
          (sym (one_taken (λ r. name_of r.now) c.args.names.now c.loop-name.name-index c.name-item.result lt c.name-item.is)) told;
      kept =
          next_seen
          (λ r. name_of r.now) c.args.names.now c.loop-name.name-index c.name-item.result c.loop-name.found c.in_ok-seen_again.field-0
          c.earlier-found.result lt c.name-item.is c.earlier-found.ensures c.loop-name.invariant.kept again;
    }

pub returns : goal.returns
returns g c =
    end_seen (λ r. name_of r.now) c.args.names.now c.loop-name.name-index c.loop-name.found (omega arith) c.loop-name.invariant.kept
