-- The table of the worker's outcome is read off.
use Rattle.gather.proofs.lane.LanePassHeapHeapJob.run.Goals as goal

pub finding_of-requires : goal.finding_of-requires
finding_of-requires g c = (c.work-pass.ensures.0, c.work-pass.ensures.1)

pub returns : goal.returns
returns g c = (c.work-pass.result.1, c.work-pass.ensures, c.finding_of.ensures)
