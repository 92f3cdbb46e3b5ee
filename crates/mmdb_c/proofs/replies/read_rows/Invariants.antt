use Rattle.std.proofs.Common.{◌≡◌, ◌+◌, ◌-◌, ◌^◌, ◌<◌, ◌≤◌, drop, length, take}
use Rattle.mm_session.specs.Replies.{reply_lent}
use Rattle.mmdb_c.specs.Replies.{StartsWith, rows_of, values_of}
use Rattle.mmdb_c.proofs.replies.read_rows.Given as goal

abbrev pub decreases-loop-row : goal.decreases-loop-row
decreases-loop-row l = length (rows_of (reply_lent l.reply)) - (l.first + l.count)

-- the rows so far were read, and there is a place for the next
abbrev pub invariant-loop-row : goal.invariant-loop-row
invariant-loop-row l =
    let rows = rows_of (reply_lent l.reply) in let values = values_of (take l.count (drop l.first rows)) in
    record {
      place : l.place ≡ length values;
      read : StartsWith values l.fn.cells l.cells;
      room : l.place ≤ length l.cells;
      there : l.count ≤ length rows - l.first;
      number : l.first + l.count < 2 ^ 64;
    }
