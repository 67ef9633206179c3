-- A circuit that isn't refused has few signals.
use Rattle.std.proofs.Common.{arith}
use Rattle.circuit.proofs.Sized.{call_sized}
use Rattle.pair.proofs.check_file.Goals as goal

pub overflow_add-sizes-else-q-sizes : goal.overflow_add-sizes-else-q-sizes
overflow_add-sizes-else-q-sizes c =
    let Z = call_sized c.args.tagged.now.file.read in omega (arith, Z.formed.n_most, Z.formed.fits, Z.is_i, Z.is_o)

pub overflow_mul-sizes-2 : goal.overflow_mul-sizes-2
overflow_mul-sizes-2 c = let Z = call_sized c.args.tagged.now.file.read in omega (arith, Z.formed.n_most, Z.is_n)
