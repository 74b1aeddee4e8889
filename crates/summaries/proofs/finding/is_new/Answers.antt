use Rattle.std.proofs.Common.{◌≡◌, subst, not, arith}
use Rattle.std.specs.Prelude.{IfOk}
use Rattle.std.specs.Map.{keys_of}
use Rattle.summaries.proofs.FindingLemmas.{hashed_same, hashed_all, hashed_known, hashed_added, hashed_err}
use Rattle.summaries.proofs.finding.is_new.Goals as goal

-- what is found by hashes is what is kept
pub returns-then-count-gt-FEW-clause-new : goal.returns-then-count-gt-FEW-clause-new
returns-then-count-gt-FEW-clause-new g c =
    subst (λ b. IfOk c.insert_hashed.result (λ new. new ≡ not b))
    (hashed_same c.args.many.now.keys (keys_of c.args.pairs.now) c.args.entry c.args.exit c.requires.real
    (c.requires.hashed c.if-count-gt-FEW.true)) c.insert_hashed.ensures.new

pub returns-then-count-gt-FEW-clause-known : goal.returns-then-count-gt-FEW-clause-known
returns-then-count-gt-FEW-clause-known g c =
    hashed_known c.args.many.now.keys (keys_of c.args.pairs.now) c.args.entry c.args.exit c.requires.real c.insert_hashed.new.many.keys
    c.insert_hashed.result c.insert_hashed.ensures.ok c.insert_hashed.ensures.new

pub returns-then-count-gt-FEW-clause-added : goal.returns-then-count-gt-FEW-clause-added
returns-then-count-gt-FEW-clause-added g c =
    hashed_added c.args.many.now.keys (keys_of c.args.pairs.now) c.args.entry c.args.exit c.requires.real c.insert_hashed.new.many.keys
    c.insert_hashed.result c.insert_hashed.ensures.ok

pub returns-then-count-gt-FEW-clause-all : goal.returns-then-count-gt-FEW-clause-all
returns-then-count-gt-FEW-clause-all g c =
    hashed_all c.args.many.now.keys (keys_of c.args.pairs.now) c.args.entry c.args.exit c.args.count
    (c.requires.hashed c.if-count-gt-FEW.true) c.insert_hashed.new.many.keys c.insert_hashed.result c.insert_hashed.ensures.ok

pub returns-then-count-gt-FEW-clause-err : goal.returns-then-count-gt-FEW-clause-err
returns-then-count-gt-FEW-clause-err g c =
    hashed_err c.args.many.now.keys (keys_of c.args.pairs.now) c.requires.real c.insert_hashed.new.many.keys
    c.insert_hashed.result c.insert_hashed.ensures.err

pub returns-else-count-eq-FEW-clause-all : goal.returns-else-count-eq-FEW-clause-all
returns-else-count-eq-FEW-clause-all g c = λ many. absurd (c.if-count-eq-FEW.false (omega (arith, many, c.if-count-gt-FEW.false)))

pub returns-in_ok-hash_all-clause-all : goal.returns-in_ok-hash_all-clause-all
returns-in_ok-hash_all-clause-all g c = λ many. c.in_ok-hash_all.ensures.all
