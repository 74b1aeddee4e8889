use Rattle.std.proofs.Common.{◌≡◌, inl, inr}
use Rattle.std.proofs.lemmas.Result.{IfOk-weaker}
use Rattle.path_sets.specs.Triples.{triple}
use Rattle.summaries.specs.Grows.{IsAt}
use Rattle.summaries.proofs.FrontierLemmas.{grows_as, is_at, at_is}
use Rattle.summaries.proofs.frontier.Frontier.find_next.Goals as goal

pub returns : goal.returns
returns g c =
    let here = is_at c.args.from c.args.next c.in-Some.point c.in-Some.values c.in-Some.is in
    let done = c.find.ensures.adds in record {
      adds = record {
        ok = IfOk-weaker c.find.result _ _
            (λ _. grows_as (λ t. t ≡ triple c.args.from.entry c.in-Some.point c.in-Some.values) (IsAt c.args.from c.args.next) _ _ _ _
            here (at_is c.args.from c.args.next c.in-Some.point c.in-Some.values c.in-Some.is))
            done.ok;
        only = λ t m. elim (done.only t m) [ inl is ↦ inl (here t is) | inr was ↦ inr was ];
        within = done.within;
        limit = λ e. let (t, is, new, full) = done.limit e in (t, here t is, new, full);
      };
      found = c.find.ensures.found;
      there = c.find.ensures.there;
      pending = c.find.ensures.pending;
      stays = c.find.ensures.stays;
    }
