-- `records::recent::Recent::pair_with`: the walk from the last record in the bucket, and what it finds.
use Rattle.std.proofs.Common.{arith, refl, sym, ap, ◌∙◌}
use Rattle.circuit.proofs.Sized.{call_sized}
use Rattle.records.specs.Inner.{bucket_of}
use Rattle.records.proofs.RecordLaws as records
use Rattle.records.proofs.WalkLaws as laws
use Rattle.records.proofs.recent.Recent.pair_with.Goals as goal

pub loop-at-init : goal.loop-at-init
loop-at-init c =
    let Z = call_sized c.args.records.file.read in
    laws.walk_start _ c.requires.here c.bucket_of.result _ (c.bucket_of.ensures.0 ∙ ap bucket_of (c.requires.hash ∙ rw (c.requires.here.values, Z.is_i) refl))
    c.bucket_of.ensures.1 refl

pub first_unlike-requires-clause-here : goal.first_unlike-requires-clause-here
first_unlike-requires-clause-here c =
    let count = records.count_is _ c.args.records.file.read c.args.records.bytes.now c.args.k in
    (omega arith, omega (arith, c.loop-at.invariant.order, c.requires.here.most, count))

pub first_unlike-requires-clause-hashed : goal.first_unlike-requires-clause-hashed
first_unlike-requires-clause-hashed c =
    let Z = call_sized c.args.records.file.read in
    rw Z.is_i (laws.hash_at _ c.requires.here c.loop-at.invariant (λ z. omega arith) (omega (arith, c.if-k-at.true, c.requires.here.narrow)))

pub returns-in-None : goal.returns-in-None
returns-in-None c =
    sym
    (laws.walk_agrees _ c.requires.here c.loop-at.invariant (λ z. omega arith)
    (rw (c.in-None.is, c.requires.here.values) at c.first_unlike.ensures))

pub returns-in-Some : goal.returns-in-Some
returns-in-Some c =
    let Z = call_sized c.args.records.file.read in
    sym
    (laws.walk_differs _ c.requires.here c.loop-at.invariant (λ z. omega arith) c.in-Some.q
    (rw (c.in-Some.is, c.requires.here.values) at c.first_unlike.ensures) (omega (arith, c.if-inputs-q.true, Z.is_i)) (omega (arith, c.if-k-at.true)))

pub loop-at-smaller : goal.loop-at-smaller
loop-at-smaller c =
    laws.walk_smaller _ c.requires.here c.loop-at.invariant (λ z. omega arith) _ (omega (arith, c.if-k-at.true, c.requires.here.narrow)) refl

pub loop-at-preserved : goal.loop-at-preserved
loop-at-preserved c =
    let Z = call_sized c.args.records.file.read in
    laws.walk_next _ c.requires.here c.loop-at.invariant (λ z. omega arith) c.in-Some.q _
    (rw (c.in-Some.is, c.requires.here.values) at c.first_unlike.ensures) (omega (arith, c.if-inputs-q.false, Z.is_i))
    (omega (arith, c.if-k-at.true, c.requires.here.narrow)) refl

pub returns-else-k-at : goal.returns-else-k-at
returns-else-k-at c = sym (laws.walk_end _ c.requires.here c.loop-at.invariant (λ z. omega (arith, c.if-k-at.false)))

pub returns-after-loop-at : goal.returns-after-loop-at
returns-after-loop-at c =
    sym (laws.walk_end _ c.requires.here c.loop-at.invariant (λ z. absurd (z (omega (arith, c.loop-at-test.false)))))
