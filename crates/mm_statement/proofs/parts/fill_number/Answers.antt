use Rattle.std.proofs.Common.{rules, FitsSigned, ap, inl, refl, w64}
use Rattle.std.proofs.lemmas.Int.{to_z-of_z}
use Rattle.mm_value.specs.declared.values.Value.TheVariants.{Int}
use Rattle.mm_statement.proofs.Fills.{fills_number, text_for_number}
use Rattle.mm_statement.proofs.parts.fill_number.Goals as goal

pub returns-in_default : goal.returns-in_default
returns-in_default c =
    let fits : FitsSigned w64 c.args.number = search rules in
    inl (
      refl,
      text_for_number c.args.filler.now c.next.new.self c.args.number _ c.unwrap_or-value.result c.next.result
          (ap Int (to_z-of_z w64 c.args.number fits)) c.next.ensures c.unwrap_or-value.ensures c.in_default.ensures,
    )

pub returns : goal.returns
returns c =
    let fits : FitsSigned w64 c.args.number = search rules in
    let given : FitsSigned w64 c.in-Some.given = search rules in
    rw (to_z-of_z w64 c.in-Some.given given)
    (fills_number c.args.filler.now c.next.new.self c.args.number c.in-Some.given _ c.unwrap_or-value.result c.next.result
    (ap Int (to_z-of_z w64 c.args.number fits)) c.next.ensures c.unwrap_or-value.ensures c.in-Some.ensures)
