use Rattle.std.proofs.Common.{◌≡◌, ◌<◌, ℕ, List, length, sym, ap, subst, arith}
use Rattle.std.specs.Prelude.{All}
use Rattle.mm_partition.specs.declared.slots.State.{State}
use Rattle.mm_partition.specs.declared.columns.Column.{Column}
use Rattle.mm_partition.specs.Cells.{Fits, row_of}
use Rattle.mm_partition.specs.Stored.{IsFreeStack, IsCut, EndsTaken}
use Rattle.mm_partition.proofs.ContentLemmas.{length-contents, extent_is}
use Rattle.mm_partition.proofs.TrimLemmas.{HoldsSame, HoldsSame-cut, Storable-held, IsUnchanged-held, highest_taken}
use Rattle.mm_partition.proofs.rows.Partitions.trim.Goals as goal

pub truncate_each-requires : goal.truncate_each-requires
truncate_each-requires c k d h = omega (arith, c.drop_highest.ensures.cut.size, (c.self.invariant.cells k d h).size)

-- the remaining states, in the smaller block, and the columns
held : (columns new_columns : List Column) (states dropped left : List State) (extent : ℕ) → IsCut states dropped → left ≡ dropped → extent ≡ length dropped
    → ((k : ℕ) → k < extent → row_of new_columns k ≡ row_of columns k) → HoldsSame columns new_columns states left
held columns new_columns states dropped left extent cut same size rows =
    subst (HoldsSame columns new_columns states) (sym same) (HoldsSame-cut columns new_columns states dropped cut (λ k below. rows k (omega (arith, size))))

pub invariant_of-self : goal.invariant_of-self
invariant_of-self c =
    let dropped : List State = c.drop_highest.new.states.items in
    let left : length c.give_back.new.items.items ≡ length dropped = ap {A = List State} length c.give_back.ensures.items in
    let cut = c.drop_highest.ensures.cut in
    let size : c.len-extent.result ≡ length dropped = omega arith in
    record {
      free_slots = subst (λ xs. IsFreeStack xs c.give_back-2.new.items.items) (sym c.give_back.ensures.items)
          (subst (IsFreeStack dropped) (sym c.give_back-2.ensures.items) c.drop_highest.ensures.stack);
      states_room = omega (arith, c.give_back.ensures.room, c.drop_highest.ensures.states_room, left, size, cut.size, c.self.invariant.states_room);
      free_room = omega (arith, c.give_back-2.ensures.room, c.drop_highest.ensures.free_room, left, size, cut.size, c.self.invariant.free_room);
      few = omega (arith, left, cut.size, c.self.invariant.few);
      cells = subst (λ n. All (Fits n 0) c.truncate_each.new.columns.items)
          (let e : c.len-extent.result ≡ length c.give_back.new.items.items = omega (arith, left, size) in e)
          c.truncate_each.ensures.fits;
      storable = Storable-held c.self.inside.columns.items c.truncate_each.new.columns.items c.self.inside.states.items c.give_back.new.items.items
          (held _ _ _ dropped _ c.len-extent.result cut c.give_back.ensures.items size c.truncate_each.ensures.rows) c.self.invariant.storable;
    }

pub returns-clause-slots : goal.returns-clause-slots
returns-clause-slots c =
    let dropped : List State = c.drop_highest.new.states.items in
    let size : c.len-extent.result ≡ length dropped = omega arith in
    IsUnchanged-held _ c.self.inside.columns.items c.truncate_each.new.columns.items c.self.inside.states.items c.give_back.new.items.items _ 0 c.self.view_is
    (held _ _ _ dropped _ c.len-extent.result c.drop_highest.ensures.cut c.give_back.ensures.items size c.truncate_each.ensures.rows)

pub returns-clause-extent : goal.returns-clause-extent
returns-clause-extent c =
    omega (
      arith,
      length-contents 0 c.truncate_each.new.columns.items c.give_back.new.items.items,
      ap {A = List State} length c.give_back.ensures.items,
      c.drop_highest.ensures.cut.size,
      extent_is _ _ _ _ c.self.view_is,
    )

pub returns-clause-highest : goal.returns-clause-highest
returns-clause-highest c at place =
    highest_taken c.truncate_each.new.columns.items c.give_back.new.items.items 0 at
    (subst EndsTaken (sym c.give_back.ensures.items) c.drop_highest.ensures.highest) place
