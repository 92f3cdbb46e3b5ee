use Rattle.std.proofs.Common.{◌≡◌, ◌∙◌, arith, get_or}
use Rattle.std.proofs.lemmas.Grind.{common_steps}
use Rattle.mm_value.proofs.Prefixes.{Spelled-more, Spelled-room}
use Rattle.mm_value.proofs.prefix.first_bytes.Goals as goal

pub overflow_mul-number : goal.overflow_mul-number
overflow_mul-number c = let room = Spelled-room c.args.bytes.now c.loop-i.i c.loop-i.number c.loop-i-test.true c.loop-i.invariant in omega (arith, room)

pub overflow_add-number : goal.overflow_add-number
overflow_add-number c =
    let room = Spelled-room c.args.bytes.now c.loop-i.i c.loop-i.number c.loop-i-test.true c.loop-i.invariant in
    omega (arith, room, c.from.ensures, c.unwrap_or-byte.type_inv)

pub loop-i-preserved : goal.loop-i-preserved
loop-i-preserved c =
    let byte : c.unwrap_or-byte.result ≡ get_or c.args.bytes.now c.loop-i.i 0 = grind (arith, common_steps) in
    Spelled-more c.args.bytes.now c.loop-i.i c.loop-i.number c.from.result c.loop-i-test.true
    (omega (arith, c.from.ensures, c.unwrap_or-byte.type_inv)) (c.from.ensures ∙ byte) c.loop-i.invariant
