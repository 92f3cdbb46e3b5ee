use Rattle.std.proofs.Common.{Some, ap, sym, ⊎_elim, subst, ◌∙◌}
use Rattle.std.specs.Prelude.{FitsSigned}
use Rattle.std.specs.Int.{w64}
use Rattle.std.specs.Option.{option_or}
use Rattle.std.proofs.lemmas.Bool.{false≢true}
use Rattle.std.proofs.lemmas.Int.{to_z-of_z}
use lib.IntN.{nat_abs}
use Rattle.mm_lang.specs.steps.Parsing.{is_limit}
use Rattle.mm_lang.proofs.SelectReadings.{position_within, position_past}
use Rattle.mm_lang.proofs.read.reader.Reader.position.Goals as goal

pub returns-in-Ok : goal.returns-in-Ok
returns-in-Ok c =
    let h = c.in-Ok.ensures in
    position_within c.args.self.now c.word.new.self c.in_ok-word.word.now c.in_ok-word.ensures h.0 _
    (ap nat_abs (to_z-of_z w64 c.in-Ok.number h.2 ∙ h.1)) (subst (FitsSigned w64) h.1 h.2)

pub returns-in-Err : goal.returns-in-Err
returns-in-Err c =
    let limit = sym c.is_limit.ensures ∙ c.if-is_limit.true in
    ⊎_elim (λ h. absurd (false≢true (sym (ap is_limit h.0) ∙ limit)))
    (λ h. position_past c.args.self.now c.word.new.self c.in_ok-word.word.now c.in_ok-word.ensures h.1 c.or-self.result 0 h.2
    (c.or-self.ensures ∙ ap (λ f. option_or c.word.new.self.fault (Some f)) h.0))
    c.in-Err.ensures
