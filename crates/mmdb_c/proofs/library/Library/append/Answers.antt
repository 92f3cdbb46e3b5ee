use Rattle.std.proofs.Common.{rules, ◌≡◌, Ok, Err, refl, subst}
use Rattle.mm_session.specs.Appending.{Appends}
use Rattle.mmdb_c.specs.Statuses.{status_of}
use Rattle.mmdb_c.proofs.library.Library.append.Goals as goal

pub returns-in-Ok : goal.returns-in-Ok
returns-in-Ok c =
    let status_is : c.status_of-status.result ≡ status_of c.append.new.self.reply = search rules in
    record {
      result = Ok c.in-Ok.field-0;
      appends = subst (λ before. Appends c.args.table.now c.args.columns.now before c.append.new.self (Ok c.in-Ok.field-0)) c.self.view_is c.in-Ok.ensures;
      status_is = status_is;
    }

pub returns-in-Err : goal.returns-in-Err
returns-in-Err c = record {
  result = Err c.in-Err.field-0;
  appends = subst (λ before. Appends c.args.table.now c.args.columns.now before c.append.new.self (Err c.in-Err.field-0)) c.self.view_is c.in-Err.ensures;
  status_is = refl;
}
