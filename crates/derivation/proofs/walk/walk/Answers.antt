-- `derivation::walk::walk`: what a turn finds, by the laws of a turn.
use Rattle.std.proofs.Common.{arith, ℕ, ◌∙◌, sym}
use Rattle.std.proofs.lemmas.List.{length-replicate, get_or-replicate}
use Rattle.std.proofs.lemmas.Result.{err_from_is_err_and}
use Rattle.circuit.proofs.Sized.{call_sized}
use Rattle.derivation.specs.Inner.{problem_of}
use Rattle.derivation.proofs.StepLaws as laws
use Rattle.derivation.proofs.walk.walk.Goals as goal

pub loop-k-init : goal.loop-k-init
loop-k-init c =
    let Z = call_sized c.args.file.now.read in
    let long = length-replicate {A = ℕ} 513 0 in
    (laws.none_made Z long (λ k h. get_or-replicate {A = ℕ} 513 k 0 0 h) c.requires, λ first. laws.walk_starts)

pub returns-in_err-step : goal.returns-in_err-step
returns-in_err-step c =
    let t = c.args.file.now in
    let Z = call_sized t.read in
    let p = err_from_is_err_and c.from_residual.result c.from_residual.ensures.1 in
    rw (p.1, p.2)
    (laws.walks_refused
    (λ first. laws.walk_refused (c.loop-k.invariant.1 first) (omega (arith, c.steps_told-count.ensures)) _ (c.in_err-step.ensures (problem_of t.bytes.now first) (sym Z.is_n) (sym Z.is_m))))

pub returns-in_err-idle : goal.returns-in_err-idle
returns-in_err-idle c =
    let t = c.args.file.now in
    let Z = call_sized t.read in
    let took = λ (first : ℕ → ℕ).
    laws.step_taken c.new-constraints.result c.new-constraints.ensures first _ _ c.in_ok-step.step c.in_ok-step.ensures c.loop-k.invariant.0
    c.from-target.ensures c.from-named.ensures c.from-reference.ensures c.keep_row.ensures c.part_named-part.ensures c.row_of-row.ensures _ _ c.step-outcome.ensures in
    let p = err_from_is_err_and c.from_residual-in_err-idle.result c.from_residual-in_err-idle.ensures.1 in
    let none = laws.idle_none c.step-outcome.result.idle _ (sym c.ok_or.ensures.value ∙ c.in_err-idle.was) in
    rw (p.1, p.2, none.1, c.at.ensures)
    (laws.walks_refused
    (λ first.
    let R = c.in_ok-step.ensures (problem_of t.bytes.now first) (sym Z.is_n) (sym Z.is_m) in
    laws.walk_unmet (c.loop-k.invariant.1 first) (omega (arith, c.steps_told-count.ensures)) _ R (rw none.0 at (took first)).1.0))

pub returns-then-refuse : goal.returns-then-refuse
returns-then-refuse c =
    let t = c.args.file.now in
    let Z = call_sized t.read in
    let took = λ (first : ℕ → ℕ).
    laws.step_taken c.new-constraints.result c.new-constraints.ensures first _ _ c.in_ok-step.step c.in_ok-step.ensures c.loop-k.invariant.0
    c.from-target.ensures c.from-named.ensures c.from-reference.ensures c.keep_row.ensures c.part_named-part.ensures c.row_of-row.ensures _ _ c.step-outcome.ensures in
    rw c.at-then-refuse.ensures
    (laws.walks_refused
    (λ first.
    let R = c.in_ok-step.ensures (problem_of t.bytes.now first) (sym Z.is_n) (sym Z.is_m) in
    laws.walk_idle (c.loop-k.invariant.1 first) (omega (arith, c.steps_told-count.ensures)) _ R
    (rw (laws.idle_some c.step-outcome.result.idle _ (sym c.ok_or.ensures.value ∙ c.in_ok-idle.was)) at (took first)).1
    (sym c.refuse.ensures ∙ c.if-refuse.true)))

pub loop-k-preserved : goal.loop-k-preserved
loop-k-preserved c =
    let t = c.args.file.now in
    let Z = call_sized t.read in
    let took = λ (first : ℕ → ℕ).
    laws.step_taken c.new-constraints.result c.new-constraints.ensures first _ _ c.in_ok-step.step c.in_ok-step.ensures c.loop-k.invariant.0
    c.from-target.ensures c.from-named.ensures c.from-reference.ensures c.keep_row.ensures c.part_named-part.ensures c.row_of-row.ensures _ _ c.step-outcome.ensures in (
      (took (λ s. 0)).0,
      λ first.
          let R = c.in_ok-step.ensures (problem_of t.bytes.now first) (sym Z.is_n) (sym Z.is_m) in
          laws.walk_on (c.loop-k.invariant.1 first) (omega (arith, c.steps_told-count.ensures)) _ R
          (rw (laws.idle_some c.step-outcome.result.idle _ (sym c.ok_or.ensures.value ∙ c.in_ok-idle.was)) at (took first)).1
          (sym c.refuse.ensures ∙ c.if-refuse.false) c.note.ensures,
    )

pub returns : goal.returns
returns c = laws.walks_ended c.loop-k.invariant.1 (omega (arith, c.steps_told-count.ensures))
