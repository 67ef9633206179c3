-- The first of the terms' signals that lies within.
use Rattle.std.proofs.Common.{rules, arith}
use Rattle.std.proofs.lemmas.Iterator.{YieldsList-from_range, YieldsList-from_map, first_from_find}
use Rattle.solver.proofs.SearchLaws as laws
use Rattle.solver.proofs.SearchLaws.{signal_at}
use Rattle.solver.proofs.search.signal_in.Goals as goal

pub returns : goal.returns
unfolding signal_at
returns c =
    laws.signal_first _ _ c.term_count.ensures.0 _
    (first_from_find _ _ _ laws.Inside laws.Outside c.find.ensures.ran
    (YieldsList-from_map _ (signal_at _) (YieldsList-from_range 0 c.term_count.result _ (search rules) (omega arith)) c.map.ensures.closure (λ x r q called. search rules))
    (λ x q called. search rules) (λ x q called. search rules))
