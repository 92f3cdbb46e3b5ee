use Rattle.std.proofs.Common.{◌≡◌, List, length, sym, ap, subst, arith}
use Rattle.std.proofs.lemmas.List.{drop_all}
use Rattle.mm_row_order.specs.Refs.{Slots}
use Rattle.mm_tables.specs.Log.{before}
use Rattle.mm_tables.specs.Tables.{Stored, at_mark, back, keys_of, state_of}
use Rattle.mm_tables.specs.declared.log_record.LogRecord.{LogRecord}
use Rattle.mm_base.specs.Bases.{AreLawful, Base}
use Rattle.mm_base.proofs.base_tables.BaseTables.mark.Goals as goal

pub returns-clause-lawful : goal.returns-clause-lawful
returns-clause-lawful c =
    let s : Stored = c.args.self.now.stored in
    let now : at_mark s c.mark.result ≡ state_of s.tables =
    ap (λ (log : List LogRecord). before back log (state_of s.tables))
    (drop_all c.mark.result s.log (omega (arith, c.mark.ensures, ap (λ (x : Base). length x.stored.log) c.self.view_is))) in
    subst (λ (state : List Slots). AreLawful (keys_of s.tables) state) (sym now)
    (subst (λ (x : Base). AreLawful (keys_of x.stored.tables) (state_of x.stored.tables)) c.self.view_is c.self.invariant.lawful)
