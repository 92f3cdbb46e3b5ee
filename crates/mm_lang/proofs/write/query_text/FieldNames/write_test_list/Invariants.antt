use Rattle.std.proofs.Common.{◌≤◌, Ok, map, take}
use Rattle.mm_value.specs.Device.{Writes}
use Rattle.mm_value.specs.declared.device.WriteError.{WriteError}
use Rattle.mm_lang.specs.QueryText.{named_field, tests_text}
use Rattle.mm_lang.proofs.QueryTexts.{named_test}
use Rattle.mm_lang.proofs.write.query_text.FieldNames.write_test_list.Given as goal

-- the tests so far, including the first one, were written
abbrev pub invariant-loop-i : goal.invariant-loop-i
invariant-loop-i g l = record {
  some : 1 ≤ l.i;
  text : Writes {T = Unit {0}} {E = WriteError} g.W.Write.contents l.fn.writer l.writer (Ok tt)
      (tests_text (map (named_test (named_field l.self.catalog.now l.self.from.now)) (take l.i l.tests)));
}
