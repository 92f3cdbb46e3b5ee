use Rattle.std.proofs.Common.{◌≡◌, false, map, take}
use Rattle.std.specs.List.{list_any}
use Rattle.mm_query.specs.Faults.{noted}
use Rattle.mm_query.specs.Resolving.{field_lacks_column, lacks_alias, placed_field}
use Rattle.mm_query.proofs.scope.Scope.place_fields.Given as goal

abbrev pub invariant-loop-field : goal.invariant-loop-field
invariant-loop-field l = record {
  placed : l.placed ≡ map (placed_field l.self.catalog.now l.self.from) (take l.field-index l.fields);
  faults : l.faults ≡ noted (list_any (field_lacks_column l.self.catalog.now l.self.from) (take l.field-index l.fields))
      (list_any (lacks_alias l.self.from) (take l.field-index l.fields)) false l.initial.faults;
}
