-- All inputs are asked.
use Rattle.tags.proofs.Inputs.{all_inputs}
use Rattle.tags.proofs.tagged.Tagged.first_broken.Goals as goal

pub returns : goal.returns
returns c = rw (all_inputs c.args.self.now.file) at c.first_broken.ensures
