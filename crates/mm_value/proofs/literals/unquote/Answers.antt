use Rattle.std.proofs.Common.{◌≡◌, ◌≢◌, ◌++◌, [], ◌∷◌, length, arith, ap, length-append}
use Rattle.std.proofs.lemmas.List.Elements.{All-push}
use Rattle.mm_value.specs.Literal.{doubled}
use Rattle.mm_value.proofs.Closing.{Closes-back, length-doubled, doubled_front_more, buffer_more, buffer_full}
use Rattle.mm_value.proofs.literals.unquote.Goals.{then-len-buffer, else-len-buffer}
use Rattle.mm_value.proofs.literals.unquote.Goals as goal

pub overflow_add-len : goal.overflow_add-len
overflow_add-len c =
    let so_far = c.loop-byte.invariant in
    let front = so_far.0 ++ c.in-Byte.byte ∷ [] in
    let e : c.args.body.now ≡ doubled front ++ c.in-Byte.tail.now = doubled_front_more c.args.body.now so_far.0 c.loop-byte.rest.now
    c.in-Byte.tail.now c.in-Byte.byte so_far.1 c.in-Byte.ensures.0 in
    omega (
      arith,
      c.requires,
      so_far.3,
      length-append so_far.0 (c.in-Byte.byte ∷ []),
      length-doubled front,
      ap length e,
      length-append
          (doubled front) c.in-Byte.tail.now,
    )

pub loop-byte-preserved : goal.loop-byte-preserved
loop-byte-preserved c =
    let so_far = c.loop-byte.invariant in
    let x = c.in-Byte.byte in
    let buffer = c.loop-byte.buffer in (
      so_far.0 ++ x ∷ [],
      doubled_front_more c.args.body.now so_far.0 c.loop-byte.rest.now c.in-Byte.tail.now x so_far.1 c.in-Byte.ensures.0,
      All-push (λ b. b ≢ 10) so_far.0 x so_far.2 c.in-Byte.ensures.1,
      omega (arith, so_far.3, length-append so_far.0 (x ∷ [])),
      elim c.if-len-buffer.branch [
        | then-len-buffer w ↦ rw w.buffer-is (buffer_more buffer so_far.0 x c.loop-byte.len so_far.3 w.if-len-buffer.true (rw so_far.3 so_far.4))
        | else-len-buffer w ↦ rw w.buffer-is (buffer_full buffer so_far.0 x (omega (arith, so_far.3, w.if-len-buffer.false)) so_far.4)
      ],
    )

pub returns-in-Fault : goal.returns-in-Fault
returns-in-Fault c text h =
    let back = Closes-back c.args.body.now c.loop-byte.invariant.0 c.loop-byte.rest.now text c.loop-byte.invariant.1 h in
    c.in-Fault.ensures back.0 back.1
