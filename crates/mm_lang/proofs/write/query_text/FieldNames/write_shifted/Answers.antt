use Rattle.std.proofs.Common.{◌++◌, sym, ap}
use Rattle.std.specs.Int.{w64}
use Rattle.std.proofs.lemmas.Int.{to_z-of_z}
use Rattle.mm_value.proofs.Writing.{Writes-then}
use Rattle.mm_lang.specs.QueryText.{field_text, named_field, shift_text}
use Rattle.mm_lang.proofs.write.query_text.FieldNames.write_shifted.Goals as goal

pub returns : goal.returns
returns g c =
    let field = field_text (named_field c.args.self.now.catalog.now c.args.self.now.from.now c.args.field.now) in
    Writes-then (ap (λ z. field ++ shift_text z) (sym (to_z-of_z w64 c.args.by c.ranges.by))) c.in_ok-write_field.ensures c.write_shift.ensures
