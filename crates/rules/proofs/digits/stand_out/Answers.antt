-- `rules::digits::stand_out`: not with more than 31 digits; else every entry stands out or not.
use Rattle.std.proofs.Common.{rules, arith, ◌≡◌, refl, sym, ◌∙◌, length, take}
use Rattle.std.proofs.lemmas.List.{length-take-le}
use Rattle.rules.proofs.AddedLaws.{sum_listed}
use Rattle.rules.proofs.RowDigits as rows
use Rattle.rules.proofs.digits.stand_out.Goals as goal

pub returns-then-digit_count-gt-DIGITS_MOST : goal.returns-then-digit_count-gt-DIGITS_MOST
returns-then-digit_count-gt-DIGITS_MOST c bounds n K r P L D keeps short scale_is er =
    sym (rows.fails_many L P bounds _ r er _ scale_is (omega arith) (omega (arith, keeps.counted)))

pub returns : goal.returns
returns c bounds n K r P L D keeps short scale_is er =
    c.all_stand_out.ensures ∙ rows.stand_end L P bounds _ r er _ scale_is _ _ keeps (omega arith) D short _ refl refl refl refl

pub invariant_of-weighed : goal.invariant_of-weighed
invariant_of-weighed c =
    let room = c.args.room.now in
    let count = c.args.digit_count in
    let wide_w : length room.weights ≡ 31 = search rules in
    let wide_x : length room.products ≡ 31 = search rules in
    let same : length (take count room.products) ≡ length (take count room.weights) =
    length-take-le count room.products (omega (arith, wide_x)) ∙ sym (length-take-le count room.weights (omega (arith, wide_w))) in
    record {
      together = same;
      modulus = omega arith;
      fits = rw (sym same) (omega (arith, sum_listed (take count room.products), c.requires.1 (omega arith)));
    }
