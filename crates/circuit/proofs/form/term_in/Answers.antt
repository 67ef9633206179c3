-- `circuit::form::term_in`: six bytes taken from the part are those of the term.
use Rattle.std.proofs.Common.{ℕ, ◌+◌, ◌∙◌, ap, arith}
use Rattle.circuit.specs.Bytes.{u16_at, u32_at}
use Rattle.circuit.proofs.ByteLaws as laws
use Rattle.circuit.proofs.form.term_in.Goals as goal

pub returns-in-Some : goal.returns-in-Some
returns-in-Some c =
    let T = laws.taken_term c.args.part.now c.form_size-start.result _ (omega arith) c.in-Some.ensures.lookup.0.2 in (
      c.u16_at.ensures.0 ∙ T.0 ∙ ap (u16_at c.args.part.now) c.form_size-start.ensures,
      c.u32_at.ensures ∙ T.1 ∙ ap (λ (x : ℕ). u32_at c.args.part.now (x + 2)) c.form_size-start.ensures,
      c.u16_at.ensures.1,
    )
