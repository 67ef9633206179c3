-- `runs::search::Levels::search`: each step goes past all that break the same constraint.
use Rattle.std.proofs.Common.{arith}
use Rattle.circuit.proofs.Sized.{call_sized}
use Rattle.runs.proofs.EvalLaws.{candidate_small}
use Rattle.runs.proofs.SearchLaws as laws
use Rattle.runs.proofs.search.Levels.search.Goals as goal

pub loop-broken-init : goal.loop-broken-init
loop-broken-init c =
    let S = c.args.self.now.constraints.now in laws.search_start (call_sized S.file.read) S.placed _ c.requires.1 c.broken-broken.ensures

pub advance-requires : goal.advance-requires
advance-requires c =
    let S = c.args.self.now.constraints.now in
    (omega (arith, c.requires.0), laws.search_candidate (call_sized S.file.read) S.placed _ c.loop-broken.invariant)

pub returns-in_default-advance-clause-sought : goal.returns-in_default-advance-clause-sought
returns-in_default-advance-clause-sought c =
    let S = c.args.self.now.constraints.now in
    laws.search_ended (call_sized S.file.read) S.placed _ (rw c.in-Some.is at c.loop-broken.invariant) c.in_default-advance.ensures.rose

pub loop-broken-smaller : goal.loop-broken-smaller
loop-broken-smaller c =
    let S = c.args.self.now.constraints.now in
    laws.search_fewer (call_sized S.file.read) S.placed _ (rw c.in-Some.is at c.loop-broken.invariant) c.in-Some-advance.ensures.rose

pub loop-broken-preserved : goal.loop-broken-preserved
loop-broken-preserved c =
    let S = c.args.self.now.constraints.now in
    laws.search_again (call_sized S.file.read) S.placed _ (rw c.in-Some.is at c.loop-broken.invariant) c.in-Some-advance.ensures.rose
    c.broken-broken-in-Some.ensures

pub returns-clause-sought : goal.returns-clause-sought
returns-clause-sought c =
    let S = c.args.self.now.constraints.now in
    laws.search_found (call_sized S.file.read) S.placed _ (rw c.in_default.is at c.loop-broken.invariant)

pub broken-broken-requires : goal.broken-broken-requires
broken-broken-requires c =
    let S = c.args.self.now in
    (omega arith, candidate_small S.small S.few c.requires.1)

pub broken-broken-requires-in-Some : goal.broken-broken-requires-in-Some
broken-broken-requires-in-Some c =
    let S = c.args.self.now in
    let Z = call_sized S.constraints.now.file.read in
    let rose = c.in-Some-advance.ensures.rose in
    let next = laws.search_next Z S.constraints.now.placed _ (rw c.in-Some.is at c.loop-broken.invariant) rose in
    (rose.within, candidate_small S.small S.few next)
