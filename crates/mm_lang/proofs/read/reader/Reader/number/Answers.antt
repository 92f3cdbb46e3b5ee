use Rattle.std.proofs.Common.{Some, pos, subst, sym, ap, ⊎_elim, ◌∙◌}
use Rattle.std.specs.Int.{w64}
use Rattle.std.specs.Option.{option_or}
use Rattle.std.proofs.lemmas.Bool.{false≢true}
use Rattle.std.proofs.lemmas.Int.{to_z-of_z}
use Rattle.mm_lang.specs.Grammar.{numbered}
use Rattle.mm_lang.specs.steps.Parsing.{Gives, is_limit, shift_literals}
use Rattle.mm_lang.proofs.Operands.{number_past, number_within}
use Rattle.mm_lang.proofs.read.reader.Reader.number.Goals as goal

pub returns-in-Ok : goal.returns-in-Ok
returns-in-Ok c =
    let h = c.in-Ok.ensures in
    subst (λ n. Gives (numbered c.args.is_negative c.args.word.now) shift_literals c.args.self.now c.args.self.now (Some n))
    (sym (to_z-of_z w64 c.in-Ok.number h.2))
    (number_within c.args.is_negative c.args.word.now c.args.self.now c.in-Ok.number h.0 h.1 h.2)

pub returns-in-Err : goal.returns-in-Err
returns-in-Err c =
    let limit = sym c.is_limit.ensures ∙ c.if-is_limit.true in
    ⊎_elim (λ h. absurd (false≢true (sym (ap is_limit h.0) ∙ limit)))
    (λ h. number_past c.args.is_negative c.args.word.now c.args.self.now c.or-self.result (pos 0) h.1 h.2
    (c.or-self.ensures ∙ ap (λ f. option_or c.args.self.now.fault (Some f)) h.0))
    c.in-Err.ensures
