use Rattle.std.proofs.Common.{◌≡◌, ◌++◌, map}
use Rattle.std.specs.List.{list_any}
use Rattle.mm_query.specs.Faults.{noted}
use Rattle.mm_query.specs.Placing.{mapped_atom, mismatches}
use Rattle.mm_query.specs.Resolving.{field_lacks_column, field_type, lacks_alias, placed_field, some_side}
use Rattle.mm_query.specs.declared.atom.Atom.{Atom}
use Rattle.mm_query.specs.Fields.{FieldName}
use Rattle.mm_query.proofs.scope.Scope.place_atoms.Given as goal

abbrev pub invariant-loop-atom : goal.invariant-loop-atom
invariant-loop-atom l = record {
  placed : map (mapped_atom (placed_field l.self.catalog.now l.self.from)) l.fn.atoms
      ≡ l.placed ++ map (mapped_atom (placed_field l.self.catalog.now l.self.from)) l.atom-iterator;
  faults : noted (list_any (some_side (field_lacks_column l.self.catalog.now l.self.from)) l.fn.atoms)
      (list_any (some_side (lacks_alias l.self.from)) l.fn.atoms)
      (list_any (λ (a : Atom FieldName). mismatches (field_type l.self.catalog.now l.self.from) a.left a.right) l.fn.atoms) l.initial.faults
      ≡ noted (list_any (some_side (field_lacks_column l.self.catalog.now l.self.from)) l.atom-iterator)
      (list_any (some_side (lacks_alias l.self.from)) l.atom-iterator)
      (list_any (λ (a : Atom FieldName). mismatches (field_type l.self.catalog.now l.self.from) a.left a.right) l.atom-iterator) l.faults;
}
