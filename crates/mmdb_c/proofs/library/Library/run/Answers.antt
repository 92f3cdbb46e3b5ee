use Rattle.std.proofs.Common.{subst}
use Rattle.mmdb_c.specs.steps.Running.{RunsWith}
use Rattle.mmdb_c.specs.Calls.{RunsCells}
use Rattle.mmdb_c.proofs.Running.{runs_cells}
use Rattle.mmdb_c.proofs.library.Library.run.Goals as goal

pub returns-in-Ok : goal.returns-in-Ok
returns-in-Ok c =
    let status = c.run_values.result in let after = c.run_values.new.session in let values = c.read_values.new.values.items in
    subst (λ before. RunsCells c.args.number c.args.cells.now status before after) c.self.view_is
    (runs_cells c.args.number c.args.cells.now values status c.self.inside.session after (c.in-Ok.ensures).ok
    (subst (λ vs. RunsWith c.args.number vs status c.self.inside.session after) c.as_slice.ensures.value c.run_values.ensures))
