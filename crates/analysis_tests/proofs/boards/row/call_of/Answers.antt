-- The call concerns one pass, and one of its places.
use Rattle.analysis_tests.proofs.Leaving.{side_first, side_second}
use Rattle.analysis_tests.proofs.boards.row.call_of.Goals as goal

pub returns-in-J1 : goal.returns-in-J1
returns-in-J1 g c = record {
  zero = c.requires.zero;
  one = side_first _ 1 _ _ _ _ _ c.requires.one c.call-in-J1.ensures;
  told = c.requires.told;
}

pub returns-in-J2 : goal.returns-in-J2
returns-in-J2 g c = record {
  zero = c.requires.zero;
  one = side_second _ 1 _ _ _ _ _ c.requires.one c.call-in-J2.ensures;
  told = c.requires.told;
}
