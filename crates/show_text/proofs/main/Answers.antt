-- `main` is safe and ends: what was read is in the buffer. Assumes nothing.
use Rattle.show_text.proofs.main.Goals as goal

pub slice_bounds-buffer-end : goal.slice_bounds-buffer-end
slice_bounds-buffer-end c = rw c.in-Some.is at c.read_job.ensures.within
