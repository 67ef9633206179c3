-- A circuit that isn't refused has at most 256 inputs, so that none is left out where the first 256 are asked.
use Rattle.std.proofs.Common.{◌≡◌, min, arith}
use Rattle.circuit.specs.Reader.{signals_most}
use Rattle.circuit.proofs.Sized.{call_sized}
use Rattle.circuit.specs.declared.file.CircuitFile.{CircuitFile}

pub all_inputs : (f : CircuitFile) → min f.sizes.i signals_most ≡ f.sizes.i
all_inputs f =
    let Z = call_sized f.read in
    omega (arith, Z.formed.n_most, Z.formed.fits, Z.is_i)
