use Rattle.std.proofs.Common.{arith, rules, ◌≡◌, ◌<◌, ◌+◌, ◌∙◌, sym, ap, set, get_or}
use lib.Seq.{set_out}
use Rattle.std.proofs.lemmas.List.{get_or-take, length-take-le}
use Rattle.rules.specs.declared.rows.Entry.{Entry}
use Rattle.rules.specs.Rows.{at, nothing, entry_at, signal_on}
use Rattle.solver.specs.Links.{unlinked, owner_on}
use Rattle.solver.proofs.LinkLaws as laws
use Rattle.solver.proofs.links.link_entries.Goals as goal
use Rattle.solver.proofs.links.link_entries.Goals.{then-signal-lasts, else-signal-lasts}

pub loop-e-init : goal.loop-e-init
loop-e-init c = laws.linking_start c.requires

pub loop-e-preserved : goal.loop-e-preserved
unfolding at signal_on entry_at nothing owner_on unlinked
loop-e-preserved c =
    let signal = c.from-signal.result in
    let found : c.unwrap_or.result ≡ get_or c.loop-e.lasts signal 0 = search rules in
    let noted : c.if-signal-lasts.lasts ≡ set c.loop-e.lasts signal (c.loop-e.e + 1)
    = elim c.if-signal-lasts.branch [
      | then-signal-lasts w ↦ w.lasts-is
      | else-signal-lasts w ↦ w.lasts-is ∙ sym (set_out _ _ _ w.if-signal-lasts.false)
    ] in
    let inv = c.loop-e.invariant in
    let more : c.loop-e.e < c.args.end = omega (arith, length-take-le c.args.end c.args.rows.now c.requires.inside) in
    let is : signal ≡ signal_on c.args.rows.now c.loop-e.e
    = c.from-signal.ensures ∙ ap (λ (x : Entry). x.signal) (get_or-take c.args.end c.args.rows.now c.loop-e.e nothing more) in
    rw found (laws.linked_on c.requires inv.0 inv.1 more signal is noted, laws.owners_on c.requires inv.0 inv.1 more signal is)

pub returns-clause-linked : goal.returns-clause-linked
returns-clause-linked c =
    let all : c.loop-e.e ≡ c.args.end = omega (arith, length-take-le c.args.end c.args.rows.now c.requires.inside) in
    rw all at c.loop-e.invariant.0
