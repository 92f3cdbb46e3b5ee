use Rattle.std.proofs.Common.{rules, ◌≡◌, FitsSigned, pos, of_z, to_z, sym, ap, ◌∙◌, subst}
use Rattle.std.proofs.lemmas.Int.{to_z-of_z}
use Rattle.std.specs.Prelude.{OnOk}
use Rattle.std.specs.Int.{w64}
use Rattle.std.specs.Option.{unwrap_or}
use Rattle.mm_partition.specs.Views.{viewed}
use Rattle.mm_query.specs.Atoms.{shifted}
use Rattle.mm_query.specs.Queries.{rows_read, value_at}
use Rattle.mm_indexed.specs.Kept.{StoredRows}
use Rattle.mm_store.specs.Tables.{IsAt}
use Rattle.mm_value.specs.Views.{value_of}
use Rattle.mm_value.specs.declared.values.Value.{Value}
use Rattle.mm_value.specs.declared.values.Value.TheVariants.{Int}
use Rattle.mm_join.specs.Equated.{added}
use Rattle.mm_join.specs.AccessMethods.{Finds}
use Rattle.mm_join.proofs.look_up.LookUp.find_partners.Goals as goal

pub returns-in-Int-clause-found : goal.returns-in-Int-clause-found
returns-in-Int-clause-found c =
    let key = c.args.self.now.key in
    let fits : FitsSigned w64 c.in-Int.number = search rules in
    let number : to_z w64 (of_z w64 c.in-Int.number) ≡ c.in-Int.number = to_z-of_z w64 c.in-Int.number fits in
    let own : Int (to_z w64 (of_z w64 c.in-Int.number)) ≡ unwrap_or (value_at (rows_read viewed c.args.rows.now) key.field) (Int (pos 0)) =
    ap Int number ∙ (sym (ap value_of c.in-Int.is) ∙ c.field_value-value.ensures) in
    subst (λ (v : Value). OnOk c.find_number.result ((stored : StoredRows) → IsAt c.args.view.now.store c.args.table stored
    → Finds stored key.column c.args.self.now.among (shifted (added key.shift) v) c.find_number.new.found.items)) own c.find_number.ensures.found

pub returns-in-Text-clause-found : goal.returns-in-Text-clause-found
returns-in-Text-clause-found c =
    let key = c.args.self.now.key in
    let value = value_of c.field_value-value.result in
    let own : value ≡ unwrap_or (value_at (rows_read viewed c.args.rows.now) key.field) (Int (pos 0)) = c.field_value-value.ensures in
    let is = ap value_of c.in-Text.is in
    let stays : value ≡ shifted (added key.shift) value = is ∙ sym (ap (shifted (added key.shift)) is) in
    subst (λ (v : Value). OnOk c.find_value.result ((stored : StoredRows) → IsAt c.args.view.now.store c.args.table stored
    → Finds stored key.column c.args.self.now.among v c.find_value.new.found.items)) (stays ∙ ap (shifted (added key.shift)) own)
    c.find_value.ensures.found
