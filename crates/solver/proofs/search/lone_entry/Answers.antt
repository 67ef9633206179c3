-- `solver::search::lone_entry`: each entry after the constant's, by the walk.
use Rattle.std.proofs.Common.{arith, ◌≡◌, ◌<◌, ◌+◌, List, [], ◌∷◌, ◌++◌, length, drop, length-append, length-drop, sym, ◌∙◌}
use Rattle.std.proofs.iter.Yields.{fronts}
use Rattle.std.proofs.lemmas.List.{get_or_read}
use Rattle.std.proofs.lemmas.Iterator.{YieldsList, YieldsList-from_slice}
use Rattle.std.proofs.lemmas.Iterator.Adapters.{YieldsList-from_skip}
use Rattle.std.proofs.lemmas.Iterator.Consumers.{YieldsList-at, YieldsList-turn, YieldsList-end}
use Rattle.std.specs.Iterator.Adapters.{skip_source, skip_count, skip_steps}
use Rattle.std.specs.Slice.Iter.{iter_rest}
use lib.Seq.{get_or-drop}
use Rattle.rules.specs.Rows.{entries, nothing, entry_at, signal_on, forms_on, mark_on}
use Rattle.rules.specs.declared.rows.Entry.{Entry}
use Rattle.solver.proofs.LoneSearch as laws
use Rattle.solver.proofs.search.lone_entry.Goals as goal
use Rattle.solver.proofs.search.lone_entry.Goals.{In-Some}

-- the chain gives the entries after the first
rest_of : {s t : _} (row : List Entry) → iter_rest (skip_source s) ≡ row → skip_count s ≡ 1 → t ≡ s → YieldsList (skip_steps fronts) (λ y. y.now) t (drop 1 row)
rest_of row rest one same = YieldsList-at same (YieldsList-from_skip 1 (YieldsList-from_slice row rest) one)

-- where the entry stands, and the place after it
here : (c : In-Some) → (1 + length c.loop-entry.yielded < entries c.args.row.now)
    × (c.in-Some.entry.now ≡ entry_at c.args.row.now (1 + length c.loop-entry.yielded))
    × (1 + length (c.loop-entry.yielded ++ c.in-Some.entry ∷ []) ≡ 1 + length c.loop-entry.yielded + 1)
unfolding entry_at
here c =
    let row = c.args.row.now in
    let i = length c.loop-entry.yielded in
    let rest = rest_of row (cc) c.skip-entry-items.ensures.count c.into_iter-entry-iterator.ensures.into_iter_gives in
    let t = YieldsList-turn rest c.loop-entry.yielded _ c.loop-entry.yielded_by _ _ _ c.in-Some.is c.next.ensures.steps in (
      omega (arith, t.0, length-drop 1 row),
      get_or_read (drop 1 row) i _ t.0 t.1 nothing ∙ get_or-drop 1 row i nothing,
      simp length-append (omega arith),
    )

pub loop-entry-preserved-then-is_marked : goal.loop-entry-preserved-then-is_marked
unfolding signal_on mark_on entry_at nothing
loop-entry-preserved-then-is_marked c =
    let h = here (goal.at.loop-entry-preserved-then-is_marked c).In-Some in
    rw h.2 (laws.walked_marked c.loop-entry.invariant (rw h.1 at (sym c.is_marked.ensures ∙ c.if-is_marked.true)))

pub returns-then-not-is_one_form : goal.returns-then-not-is_one_form
unfolding signal_on forms_on mark_on entry_at nothing
returns-then-not-is_one_form c p n K W R =
    let h = here (goal.at.returns-then-not-is_one_form c).In-Some in
    laws.lone_shared W R _ (omega arith) h.0 (rw h.1 at (sym c.is_marked.ensures ∙ c.if-is_marked.false)) (rw h.1 at (sym c.is_one_form.ensures ∙ c.if-not-is_one_form.true))

pub returns-then-is_some : goal.returns-then-is_some
unfolding signal_on mark_on entry_at nothing
returns-then-is_some c p n K W R =
    let h = here (goal.at.returns-then-is_some c).In-Some in
    laws.walked_two c.loop-entry.invariant W R (sym c.is_some.ensures ∙ c.if-is_some.true) h.0 (rw h.1 at (sym c.is_marked.ensures ∙ c.if-is_marked.false))

pub loop-entry-preserved : goal.loop-entry-preserved
unfolding signal_on forms_on mark_on entry_at nothing
loop-entry-preserved c =
    let h = here (goal.at.loop-entry-preserved c).In-Some in
    rw (h.2, h.1)
    (laws.walked_found c.loop-entry.invariant (omega arith) h.0 (sym c.is_some.ensures ∙ c.if-is_some.false)
    (rw h.1 at (sym c.is_marked.ensures ∙ c.if-is_marked.false)) (rw h.1 at (sym c.is_one_form.ensures ∙ c.if-not-is_one_form.false)))

pub returns : goal.returns
returns c p n K W R =
    let rest = rest_of c.args.row.now (cc) c.skip-entry-items.ensures.count c.into_iter-entry-iterator.ensures.into_iter_gives in
    let t = YieldsList-end rest c.loop-entry.yielded _ c.loop-entry.yielded_by _ _ c.in-None.is c.next.ensures.steps in
    laws.walked_end c.loop-entry.invariant W R (omega (arith, t.1, length-drop 1 c.args.row.now))
