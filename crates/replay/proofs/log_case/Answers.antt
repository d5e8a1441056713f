-- The records begin behind the header, within the bytes.
use Rattle.std.proofs.Common.{rules}
use Rattle.replay.proofs.Laws.{opened_inside}
use Rattle.replay.proofs.log_case.Goals as goal

pub slice_bounds-put_records-count : goal.slice_bounds-put_records-count
slice_bounds-put_records-count g c = opened_inside _ _ _ _ _ c.open_run.ensures c.in-Ok.is

pub slice_bounds-put_records-start : goal.slice_bounds-put_records-start
slice_bounds-put_records-start g c = let inside = opened_inside _ _ _ _ _ c.open_run.ensures c.in-Ok.is in search rules
