-- `circuit::reader::check_form_at`: the form's part is the rest of the bytes, and the answer is shifted by its offset.
use mathlib.Core.Path.{◌∙◌}
use native.Mathlib.Omega.{arith}
use Rattle.circuit.specs.Answer.{found_of}
use Rattle.circuit.proofs.ReaderLaws as laws
use Rattle.circuit.proofs.reader.check_form_at.Goals as goal

pub shifted-requires : goal.shifted-requires
shifted-requires c =
    let a = c.args in
    let part = laws.form_part a.n a.p a.s.now a.at (found_of c.check_form-form.result) c.requires c.check_form-form.ensures in
    omega (arith, part.1)

pub returns : goal.returns
returns c =
    let a = c.args in
    let part = laws.form_part a.n a.p a.s.now a.at (found_of c.check_form-form.result) c.requires c.check_form-form.ensures in
    (c.shifted.ensures ∙ part.0, rw (c.shifted.ensures, laws.extent_further a.at (found_of c.check_form-form.result)) part.1)
