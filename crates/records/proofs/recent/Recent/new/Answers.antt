-- `records::recent::Recent::new`: nothing is kept yet.
use Rattle.records.proofs.KeptLaws.{kept_start}
use Rattle.records.proofs.recent.Recent.new.Goals as goal

pub returns : goal.returns
returns c = λ R. kept_start R
