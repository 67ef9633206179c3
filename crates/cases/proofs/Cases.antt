-- CASES: every row of the table holds of the definitions, by computation.
use mathlib.Core.Path.{◌≡◌, refl}
use mathlib.Core.List.{map}
use Rattle.solver.specs.Call.{own, reached, solved, solver_on, solver_call, solver_output}
use Rattle.derivation.specs.Encoded.{step_bytes, steps_bytes, encoded}
use Rattle.derivation.specs.Call as call
use Rattle.derivation.specs.Call.{marks_from, marks_of, total, output_marked, verdict_of, judged, derivation_on, derivation_call, last_of, derivation_marks}
use Rattle.renewal.specs.Call.{renewed, renewal_on, renewal_call, renewal_output}
use Rattle.derivation.specs.Steps.{numbered, kind_of, step_start, step_at, read_step, walk_from, steps_from, steps_of}
use Rattle.pair.specs.Call.{file_on, runs_on, pair_on, pair_call}
use Rattle.laws.specs.Solver.{solution, bound_steps, nonzero_steps, mark_steps, turns, best_bound, best_of_constraints, best_of_targets, consider, adds_by, new_bound}
use Rattle.laws.specs.Solver.{precedes, first_by, first_up, try, try_references, try_kind, try_kinds, first_adding}
use Rattle.laws.specs.Step as step
use Rattle.laws.specs.Step.{in_range, within, rule_of, met, change, after, replay, fits, adds}
use Rattle.tags.specs.Tag.{limit, least_of, lowered, first_bound, keeps, kept, on_other, is_shown, shown_of, not_missed, shown_by}
use Rattle.tags.specs.Sheet as sheet
use Rattle.tags.specs.Sheet.{read_tag, tag_in, sheet_of, entry_fits, framed, sheet_on}
use Rattle.laws.specs.Rules.{names_none, linear, constant, reduced, occurs, is_zero, names_only, root_met, root, root_bound, sum_weight, ceiling, sum_term}
use Rattle.laws.specs.Rules.{sum_bound, sum_met, zero_met, others_marked, product_met, weight, live, differs, smaller_term, smaller_sum, separate, live_term}
use Rattle.laws.specs.Rules.{separated, digits_met, single, nonzero_met, divisor, divides, quotient_met}
use Rattle.laws.specs.Standing.{put, add, lower, mark, exclude_zero, is_input, none_of, start}
use Rattle.laws.specs.Sum.{sum, all, keep, implies}
use Rattle.circuit.specs.Circuit.{constraint_at, coef, names, value_of, eval}
use Rattle.circuit.specs.Run.{holds}
use Rattle.circuit.specs.Runs.{value_at, run_in, first_from, below, satisfied_by, unsatisfied, agree}
use Rattle.circuit.specs.Call.{circuit_of}
use Rattle.circuit.specs.Bytes.{byte_at, u16_at, u32_at}
use Rattle.circuit.specs.Reader.{read_terms, read_form, read_constraint, read_constraints, has_mark, sizes_fit, read_body, read_circuit}
use Rattle.field.specs.Prime.{trial, no_divisor, odd_prime}
use Rattle.field.specs.Residue.{opposite}
use Rattle.field.specs.Inverse.{inverse_from, inverse}
use Rattle.runs.specs.Order as order
use Rattle.runs.specs.Order.{starting_below, candidates, passing, satisfies, runs_of}
use Rattle.runs.specs.Call.{first_run, next_run, few, first_on, next_on, first_call, next_call}
use Rattle.runs.specs.Call as runs
use Rattle.records.specs.Recorded.{from_record, record_run, records_in, shares, lowest_output, differ, distance, pair_back, pair_at, first_later, watched}
use Rattle.records.specs.Call.{window_of, is_window, allowed, watch_on, watch_call, record_bytes, pair_file, watch_output}
use Rattle.records.specs.Call as records
use Rattle.cases.specs.Encode.{u16_bytes, u32_bytes, terms_bytes, form_bytes, constraints_bytes, circuit_bytes, entries_bytes, sheet_bytes, values_bytes}
use Rattle.cases.specs.Encode.{records_bytes, pair_bytes, one_step}
use Rattle.cases.specs.Table.{Row, bounds_from, table, found}

pub cases : map found table ≡ map (λ (row : Row). row.said) table
unfolding own reached solved solver_on solver_call solver_output step_bytes steps_bytes encoded marks_from marks_of total output_marked verdict_of judged
    call.framed renewed renewal_on renewal_call renewal_output step.less_idle derivation_on derivation_call last_of derivation_marks numbered kind_of step_start step_at read_step walk_from steps_from steps_of first_from value_at run_in
    below file_on satisfied_by agree runs_on pair_on pair_call solution bound_steps nonzero_steps mark_steps turns best_bound best_of_constraints best_of_targets
    consider adds_by new_bound precedes first_by first_up try try_references try_kind try_kinds first_adding in_range within rule_of met change
    after replay fits adds names_none linear constant reduced occurs is_zero names_only root_met root root_bound sum_weight ceiling sum_term sum_bound sum_met
    zero_met others_marked product_met weight live differs smaller_term smaller_sum separate live_term separated digits_met single nonzero_met divisor divides quotient_met put add lower mark exclude_zero
    is_input none_of start sum all keep implies constraint_at coef names value_of eval holds byte_at u16_at u32_at read_terms read_form
    read_constraint read_constraints has_mark sizes_fit read_body read_circuit trial no_divisor odd_prime opposite inverse_from inverse u16_bytes
    u32_bytes terms_bytes form_bytes constraints_bytes circuit_bytes entries_bytes sheet_bytes values_bytes records_bytes pair_bytes one_step bounds_from circuit_of limit least_of
    lowered first_bound keeps kept on_other is_shown shown_of not_missed shown_by sheet.kind_of read_tag tag_in sheet_of entry_fits framed sheet_on
    starting_below candidates passing satisfies unsatisfied runs_of order.precedes first_run next_run few runs.fits first_on next_on first_call next_call
    from_record record_run records_in shares lowest_output differ distance pair_back pair_at first_later watched window_of records.fits is_window allowed watch_on
    watch_call record_bytes pair_file watch_output
cases = refl
