use Rattle.solver.proofs.call.told.Goals as goal

pub returns : goal.returns
returns c = rw (c.judgement_of.ensures, c.derivation_size.ensures)
