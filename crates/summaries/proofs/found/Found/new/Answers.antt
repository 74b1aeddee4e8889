use Rattle.summaries.proofs.found.Found.new.Goals as goal

pub returns : goal.returns
returns g c = record {
  entries = c.new.ensures;
  summaries = c.new-2.ensures.summaries;
  sites = c.new-2.ensures.sites;
  calls = c.new-2.ensures.keys;
  pairs = c.new-3.ensures;
  given = c.new-4.ensures;
  led = c.new-5.ensures.empty;
  pending = c.new-6.ensures.items;
}
