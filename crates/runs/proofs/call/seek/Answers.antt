-- `runs::call::seek`: what is written is the run of the candidate that the search stopped at.
use Rattle.std.proofs.Common.{◌≡◌, ap, sym, arith, ◌∙◌}
use Rattle.std.proofs.lemmas.List.{length-take-le}
use Rattle.circuit.specs.Run.{values_in}
use Rattle.circuit.specs.Call.{circuit_of}
use Rattle.circuit.specs.declared.file.Constraints.{Constraints}
use Rattle.circuit.proofs.Sized.{call_sized}
use Rattle.runs.specs.Inner.{Sought}
use Rattle.runs.proofs.LevelLaws.{constraints_few}
use Rattle.runs.proofs.SeekLaws as laws
use Rattle.runs.proofs.call.seek.Goals as goal

pub slice_bounds-order-end : goal.slice_bounds-order-end
slice_bounds-order-end c = constraints_few _ _ c.args.file.read

pub by_level-requires : goal.by_level-requires
by_level-requires c =
    rw c.new-constraints.ensures (c.requires.0, length-take-le c.args.file.sizes.m _ (constraints_few _ _ c.args.file.read))

pub slice_bounds-by_level-end : goal.slice_bounds-by_level-end
slice_bounds-by_level-end c = sym (length-take-le c.args.file.sizes.m _ (constraints_few _ _ c.args.file.read))

pub returns : goal.returns
returns c =
    let Z = call_sized c.args.file.read in
    let same : c.new-levels.result.constraints.now.file ≡ c.args.file =
    ap (λ (x : Constraints). x.file) c.new-levels.ensures ∙ c.new-constraints.ensures in
    let sought : Sought (circuit_of c.args.file.bytes.now) (values_in c.args.values) (values_in c.search.new.values) c.search.result =
    rw same at c.search.ensures.sought in
    laws.seek_found c.search.new.values (rw c.if-not-search.false at sought) (omega (arith, c.search.ensures.sized, c.requires.0, Z.is_n))
    (omega (arith, c.requires.2, Z.is_n)) c.copy_from_slice.ensures.after
