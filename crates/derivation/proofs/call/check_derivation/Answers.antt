-- `derivation::call::check_derivation`: EXACT and SOUND by what is answered and left.
use Rattle.derivation.proofs.CallLaws.{exact_kept, sound_kept}
use Rattle.derivation.proofs.call.check_derivation.Goals as goal

pub returns-clause-exact : goal.returns-clause-exact
returns-clause-exact c = rw c.from.ensures (exact_kept c.judged.ensures)

pub returns-clause-sound : goal.returns-clause-sound
returns-clause-sound c = rw c.from.ensures (sound_kept c.judged.ensures)
