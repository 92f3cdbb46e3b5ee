-- Texts that are written, and then flushed.
use Rattle.std.proofs.Common.{◌≡◌, ℕ, List, Option, Some, None, Result, Ok, Err, length, sym, subst, ◌∙◌, arith}
use Rattle.std.proofs.Math.Seq.{take-length}
use Rattle.std.specs.Prelude.{is_err}
use Rattle.std.specs.Io.KnownBytes.{Appends, Keeps}
use Rattle.mm_lang.specs.ReplyText.{rows_text}
use Rattle.mm_value.specs.Device.{Writes}
use Rattle.mm_value.specs.Watched.{inner_of, has_failed}
use Rattle.mm_value.specs.declared.device.Watched.{Watched}
use Rattle.mm_value.specs.declared.values.Value.{Value}

-- a text and then nothing more
pub appends_keeps : (a b c : Option (List ℕ)) (text : List ℕ) → Appends a b text → Keeps b c → Appends a c text
appends_keeps None b c text h k = tt
appends_keeps (Some x) None c text h k = absurd h
appends_keeps (Some x) (Some y) None text h k = absurd k
appends_keeps (Some x) (Some y) (Some z) text h k = k ∙ h

-- a text and then a flush, whatever the flush returns
pub writes_flushed : {W S T D E : Type 0} {contents : W → Option (List ℕ)} {old mid new : Watched W} {v : S} (result : Result T E) (text : List ℕ)
    → Writes {E = D} contents old mid (Ok v) text → Keeps (contents (inner_of mid)) (contents (inner_of new)) → has_failed new ≡ is_err result → Writes contents
    old new result text
writes_flushed {contents = contents} {old} {mid} {new} (Ok w) text writes kept failed = record {
  written = appends_keeps (contents (inner_of old)) (contents (inner_of mid)) (contents (inner_of new)) text writes.written kept;
  failed = failed;
}
writes_flushed {contents = contents} {old} {mid} {new} (Err e) text writes kept failed = record {
  written = (
    length text,
    omega arith,
    subst (Appends (contents (inner_of old)) (contents (inner_of new))) (sym (take-length text))
        (appends_keeps (contents (inner_of old)) (contents (inner_of mid)) (contents (inner_of new)) text writes.written kept),
  );
  failed = failed;
}

-- the same rows have the same text
pub writes_as : {W T E : Type 0} {contents : W → Option (List ℕ)} {old new : Watched W} {result : Result T E} {rows rows' : List (List Value)} → rows ≡ rows'
    → Writes contents old new result (rows_text rows) → Writes contents old new result (rows_text rows')
writes_as {contents = contents} {old} {new} {result} is writes = subst (λ r. Writes contents old new result (rows_text r)) is writes
