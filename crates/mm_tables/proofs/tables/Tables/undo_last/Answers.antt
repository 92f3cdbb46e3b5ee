use Rattle.std.proofs.Common.{map, sym, ap, ◌∙◌, arith}
use Rattle.mm_tables.specs.Tables.{Stored, back, extents_of, shape_of, state_of}
use Rattle.mm_tables.proofs.InTables.{extents-same, shapes-set}
use Rattle.mm_tables.proofs.Logging.{counted_read, last_within, last_stands, last_keys_owed, last_owed, state-undone, IsLogged-pop}
use Rattle.mm_tables.proofs.tables.Tables.undo_last.Goals as goal

pub index_mut-requires : goal.index_mut-requires
index_mut-requires c =
    omega (
      arith,
      last_within c.self.inside.tables.items c.pop.new.self.items c.self.inside.log.items c.in-Some.newest c.in-Some.ensures.items c.self.invariant,
      c.self.inside.tables.ok,
    )

pub undo-requires-clause-stands : goal.undo-requires-clause-stands
undo-requires-clause-stands c =
    last_stands c.self.inside.tables.items c.pop.new.self.items c.self.inside.log.items c.in-Some.newest c.in-Some.ensures.items c.self.invariant
    c.index_mut.result.now c.index_mut.result.now c.index_mut.ensures.value

pub undo-requires-clause-spare : goal.undo-requires-clause-spare
undo-requires-clause-spare c =
    (counted_read c.self.inside.tables.items c.self.inside.log.items c.in-Some.newest.table c.index_mut.result.now
    (last_within c.self.inside.tables.items c.pop.new.self.items c.self.inside.log.items c.in-Some.newest c.in-Some.ensures.items c.self.invariant)
    c.index_mut.ensures.value c.self.invariant).spare

pub undo-requires-clause-owed : goal.undo-requires-clause-owed
undo-requires-clause-owed c =
    omega (
      arith,
      last_owed c.self.inside.tables.items c.pop.new.self.items c.self.inside.log.items c.in-Some.newest c.in-Some.ensures.items c.self.invariant
          c.index_mut.result.now c.index_mut.result.now c.index_mut.ensures.value,
    )

pub undo-requires-clause-owed_keys : goal.undo-requires-clause-owed_keys
undo-requires-clause-owed_keys c =
    omega (
      arith,
      last_keys_owed c.self.inside.tables.items c.pop.new.self.items c.self.inside.log.items c.in-Some.newest c.in-Some.ensures.items c.self.invariant
          c.index_mut.result.now c.index_mut.result.now c.index_mut.ensures.value,
    )

pub invariant_of-self : goal.invariant_of-self
invariant_of-self c =
    IsLogged-pop c.self.inside.tables.items c.pop.new.self.items c.self.inside.log.items c.in-Some.newest c.in-Some.ensures.items c.self.invariant
    c.index_mut.result.now c.undo.new.self c.index_mut.ensures.value c.undo.ensures.slots c.undo.ensures.shape c.undo.ensures.owed c.undo.ensures.spare

pub returns-clause-undone : goal.returns-clause-undone
returns-clause-undone c = record {
  log = sym (ap (λ (s : Stored). s.log) c.self.view_is) ∙ c.in-Some.ensures.items;
  state = state-undone c.self.inside.tables.items c.pop.new.self.items c.self.inside.log.items c.in-Some.newest
      c.in-Some.ensures.items c.self.invariant
      c.index_mut.result.now c.undo.new.self c.index_mut.ensures.value c.undo.ensures.slots
      ∙ ap (λ (s : Stored). back c.in-Some.newest (state_of s.tables)) c.self.view_is;
}

pub returns-clause-shapes : goal.returns-clause-shapes
returns-clause-shapes c =
    shapes-set c.self.inside.tables.items c.in-Some.newest.table c.index_mut.result.now c.undo.new.self
    (last_within c.self.inside.tables.items c.pop.new.self.items c.self.inside.log.items c.in-Some.newest c.in-Some.ensures.items c.self.invariant)
    c.index_mut.ensures.value c.undo.ensures.shape
    ∙ ap (λ (s : Stored). map shape_of s.tables) c.self.view_is

pub returns-clause-extents : goal.returns-clause-extents
returns-clause-extents c =
    extents-same c.self.inside.tables.items c.in-Some.newest.table c.index_mut.result.now c.undo.new.self c.index_mut.ensures.value
    c.undo.ensures.extent
    ∙ ap (λ (s : Stored). extents_of s.tables) c.self.view_is
