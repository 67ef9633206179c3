-- `records::call::write_pair`: the header, then the two records.
use Rattle.std.proofs.Common.{arith, sym, ap, length, take, ◌≡◌, ◌∙◌}
use Rattle.records.proofs.FileLaws as laws
use Rattle.records.proofs.call.write_pair.Goals as goal

pub overflow_cast-pair : goal.overflow_cast-pair
overflow_cast-pair c = omega (arith, c.requires.placed.small)

pub slice_bounds-copy_from_slice-end-5 : goal.slice_bounds-copy_from_slice-end-5
slice_bounds-copy_from_slice-end-5 c =
    let P = c.requires.placed in
    sym (laws.record_long _ _ _ c.args.pair.earlier c.size-size.ensures.is P.earlier_least P.earlier_most c.from.ensures)

pub copy_from_slice-requires-2 : goal.copy_from_slice-requires-2
copy_from_slice-requires-2 c =
    let P = c.requires.placed in
    let header : length c.copy_from_slice.new.self ≡ 7 = ap length (c.copy_from_slice.ensures.after ∙ c.file_start.ensures) in
    laws.second_room _ c.copy_from_slice.new.self c.args.output.now header (omega (arith, c.requires.room, c.size-size.ensures.is))
    ∙ sym (laws.record_long _ _ _ c.args.pair.earlier c.size-size.ensures.is P.earlier_least P.earlier_most c.from.ensures)

pub slice_bounds-copy_from_slice-end-7 : goal.slice_bounds-copy_from_slice-end-7
slice_bounds-copy_from_slice-end-7 c =
    let P = c.requires.placed in
    sym (laws.record_long _ _ _ c.args.pair.later c.size-size.ensures.is P.later_least P.later_most c.from-2.ensures)

pub copy_from_slice-requires-3 : goal.copy_from_slice-requires-3
copy_from_slice-requires-3 c =
    let P = c.requires.placed in
    let header : length c.copy_from_slice.new.self ≡ 7 = ap length (c.copy_from_slice.ensures.after ∙ c.file_start.ensures) in
    let second : length c.copy_from_slice-2.new.self ≡ c.size-size.result =
    ap length c.copy_from_slice-2.ensures.after ∙ laws.record_long _ _ _ c.args.pair.earlier c.size-size.ensures.is P.earlier_least P.earlier_most c.from.ensures in
    laws.third_room _ c.copy_from_slice.new.self c.args.output.now header (omega (arith, c.requires.room, c.size-size.ensures.is)) _ second
    ∙ sym (laws.record_long _ _ _ c.args.pair.later c.size-size.ensures.is P.later_least P.later_most c.from-2.ensures)

pub returns : goal.returns
returns c =
    laws.file_written _ c.args.output.now c.args.pair c.size-size.ensures.is c.requires.room c.requires.placed
    (c.copy_from_slice.ensures.after ∙ c.file_start.ensures)
    (c.copy_from_slice-2.ensures.after ∙ ap (take c.size-size.result) c.from.ensures)
    (c.copy_from_slice-3.ensures.after ∙ ap (take c.size-size.result) c.from-2.ensures)
