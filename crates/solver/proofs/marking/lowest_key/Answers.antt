-- `solver::marking::lowest_key`: each constraint by what is known of it, a loose one by its references.
use Rattle.std.proofs.Common.{arith, rules, refl, ◌≡◌, ◌≤◌, ◌<◌}
use Rattle.laws.proofs.Sum.{true_or_false}
use Rattle.rules.specs.Rows.{nothing, entry_at, signal_on}
use Rattle.rules.specs.View.{view_of}
use Rattle.solver.specs.Bounds.{key_in, least_of}
use Rattle.solver.specs.Marks.{reference_in}
use Rattle.solver.specs.Table.{circuit_in}
use Rattle.solver.proofs.MarkKeyLaws.{known_exact}
use Rattle.solver.proofs.InTable.{sized_in, prepared_in, place_in}
use Rattle.solver.proofs.SweepLaws as laws
use Rattle.solver.proofs.MarkChoice.{sweeping_choice}
use Rattle.solver.proofs.marking.lowest_key.Goals as goal

pub constraints-init : goal.constraints-init
constraints-init c = laws.sweeping_start c.requires (rw (← (sized_in c.args.table.now).is_n) c.zero_step-lowest.ensures)

pub is_passed-requires : goal.is_passed-requires
is_passed-requires c = place_in c.args.table.now (omega arith)

pub constraints-preserved-then-is_passed : goal.constraints-preserved-then-is_passed
constraints-preserved-then-is_passed c =
    laws.sweeping_passed c.constraints.invariant refl (omega (arith, (sized_in c.args.table.now).is_m)) (c.is_passed.ensures c.if-is_passed.true)

pub look_at-requires : goal.look_at-requires
look_at-requires c = (omega arith, omega arith)

pub constraints-preserved-in_default : goal.constraints-preserved-in_default
constraints-preserved-in_default c = laws.sweeping_none c.constraints.invariant refl (c.look_at.ensures _) c.in_default.is

pub constraints-preserved-then-not-is_below : goal.constraints-preserved-then-not-is_below
constraints-preserved-then-not-is_below c =
    let high : least_of c.constraints.lowest ≤ key_in c.key-key.result = search rules in
    laws.sweeping_on c.constraints.invariant refl (c.in-Some.ensures _) (omega (arith, high, c.key-key.ensures))

pub loop-i-init : goal.loop-i-init
loop-i-init c = record { searching = laws.searching_start c.in-Some-prepare.ensures; same_kept = refl; same_lowest = refl }

pub loop-i-preserved : goal.loop-i-preserved
loop-i-preserved c =
    let inv = c.loop-i.invariant in
    record {
      searching = laws.searching_on inv.searching c.loop-i-test.true c.separates_at.ensures c.if-separates_at.false;
      same_kept = inv.same_kept;
      same_lowest = inv.same_lowest;
    }

pub constraints-preserved-then-not-is_loose : goal.constraints-preserved-then-not-is_loose
constraints-preserved-then-not-is_loose c =
    let W = c.constraints.invariant in
    let low : key_in c.key-key.result < least_of c.constraints.lowest = search rules in
    let reference : c.unwrap_or.result ≡ reference_in c.in-Some.candidate.reference = search rules in
    laws.sweeping_new W refl (c.in-Some.ensures _)
    (known_exact _ _ refl (λ d. true_or_false _ (c.is_loose.ensures.1 d) c.if-not-is_loose.true) (c.in-Some.ensures _ W.swept.known).known)
    c.key-key.ensures low (record { bound = search rules; target = search rules }) reference

pub constraints-preserved-then-separates_at : goal.constraints-preserved-then-separates_at
unfolding signal_on entry_at nothing
constraints-preserved-then-separates_at c =
    let inv = c.loop-i.invariant in
    let low : key_in c.key-key.result < least_of c.constraints.lowest = search rules in
    rw inv.same_kept
    (laws.loose_found (prepared_in c.args.table.now) _ _ c.constraints.invariant (omega arith) c.row-row.ensures (c.in-Some.ensures _)
    (c.is_loose.ensures.0 c.if-not-is_loose.false) inv.searching c.loop-i-test.true c.separates_at.ensures c.if-separates_at.true c.key-key.ensures low
    (record { bound = search rules; target = search rules }) refl)

pub constraints-preserved-in_default-prepare : goal.constraints-preserved-in_default-prepare
constraints-preserved-in_default-prepare c =
    laws.loose_hopeless (prepared_in c.args.table.now) _ _ c.constraints.invariant (omega arith) c.row-row.ensures (c.in-Some.ensures _)
    (c.is_loose.ensures.0 c.if-not-is_loose.false) c.in_default-prepare.ensures

pub constraints-preserved : goal.constraints-preserved
constraints-preserved c =
    let inv = c.loop-i.invariant in
    rw (inv.same_kept, inv.same_lowest)
    (laws.loose_tried (prepared_in c.args.table.now) _ _ c.constraints.invariant (omega arith) c.row-row.ensures (c.in-Some.ensures _)
    (c.is_loose.ensures.0 c.if-not-is_loose.false) inv.searching c.loop-i-test.false)

pub returns-clause-chosen : goal.returns-clause-chosen
unfolding view_of
returns-clause-chosen c f =
    let Z = sized_in c.args.table.now in
    let all : c.constraints.passed ≡ (circuit_in c.args.table.now).m = omega (arith, Z.is_m) in
    sweeping_choice (omega (arith, Z.formed.n_most)) (view_of c.args.table.now.constraints.now.file.sizes.p c.args.standing.now.bounds c.args.standing.now.marks c.args.standing.now.nonzeros) (rw all at c.constraints.invariant) f
