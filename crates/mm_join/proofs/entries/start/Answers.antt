use Rattle.std.proofs.Common.{◌≡◌, ◌+◌, ◌-◌, ◌<◌, arith, take, subst}
use Rattle.std.specs.List.{All}
use Rattle.std.proofs.lemmas.List.{length-take-le}
use Rattle.mm_join.proofs.Rising.{less_up_to}
use Rattle.mm_join.proofs.entries.start.Goals.{else-last-gt0-via-then-last-gt0+else-entries-last, else-last-gt0-via-else-last-gt0}
use Rattle.mm_join.specs.declared.entries.Entry.{Entry}
use Rattle.mm_join.proofs.entries.start.Goals as goal

pub returns-clause-before : goal.returns-clause-before
returns-clause-before c =
    let entries = c.args.entries.now in
    elim c.else-last-gt0.branch [
      | else-last-gt0-via-then-last-gt0+else-entries-last w ↦
          let more : c.args.last - 1 + 1 ≡ c.args.last = omega (arith, w.if-last-gt0.true) in
          subst (λ n. All (λ (entry : Entry). entry.prefix < c.args.prefix) (take n entries)) more
          (less_up_to entries c.requires.rising c.args.prefix (c.args.last - 1) (record { prefix = 0; at = record { slot = 0 } })
          (omega (arith, w.if-last-gt0.true, c.requires.bound)) w.if-entries-last.false)
      | else-last-gt0-via-else-last-gt0 w ↦ λ k d inside.
          absurd (omega (arith, inside, w.if-last-gt0.false, length-take-le c.args.last entries c.requires.bound))
    ]
