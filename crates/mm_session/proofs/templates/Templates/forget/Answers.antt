use Rattle.std.proofs.Common.{subst, sym}
use Rattle.std.specs.List.{All}
use Rattle.mm_session.proofs.ReadyStatements.{forgotten_ready, some_ready}
use Rattle.mm_session.specs.steps.Forms.{IsReady}
use Rattle.mm_session.proofs.templates.Templates.forget.Goals as goal

pub returns : goal.returns
returns c schema =
    let slots = c.args.self.now.slots.items in
    subst (All (IsReady schema)) (sym c.forget_bound_forms.ensures) (forgotten_ready schema slots (some_ready c.requires.0 slots c.requires.1))
