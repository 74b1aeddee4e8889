use Rattle.summaries.proofs.table.Table.find_next.Goals as goal

pub returns : goal.returns
returns g c =
    let found = c.find_next.ensures in record {
      adds = found.adds;
      found = found.found;
      there = found.there;
      rest = λ i. record c.args.self.now {
        edges = c.find_next.new.self.edges.now;
        found = record c.args.self.now.found { pending = found.pending i };
      };
    }
