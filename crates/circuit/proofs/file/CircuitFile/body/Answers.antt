-- `circuit::file::CircuitFile::body`: the header is whole.
use Rattle.circuit.proofs.Sized.{call_sized}
use Rattle.circuit.proofs.file.CircuitFile.body.Goals as goal

pub slice_bounds-result-count : goal.slice_bounds-result-count
slice_bounds-result-count c = (call_sized c.args.self.read).least

pub slice_bounds-result-start : goal.slice_bounds-result-start
slice_bounds-result-start c = (call_sized c.args.self.read).least
