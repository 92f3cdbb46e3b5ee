use Rattle.std.proofs.lemmas.Result.{err_from_is_err_and}
use Rattle.mm_lang.specs.declared.read.phrase.Separator.TheVariants.{Comma}
use Rattle.mm_lang.specs.Grammar.{literal_of}
use Rattle.mm_lang.specs.Phrases.{one}
use Rattle.mm_lang.specs.steps.Parsing.{only_literal}
use Rattle.mm_lang.specs.steps.Shrinking.{one_never_longer}
use Rattle.mm_lang.proofs.Lists.{items_begin, items_fail, items_end, items_more}
use Rattle.mm_lang.proofs.read.tuples.read_values.Goals as goal

pub loop-reader-init : goal.loop-reader-init
loop-reader-init c = items_begin Comma (one literal_of) only_literal c.args.reader.now c.args.tuple.now

pub returns-in_err-literal : goal.returns-in_err-literal
returns-in_err-literal c =
    let p = err_from_is_err_and c.from_residual.result c.from_residual.ensures.1 in
    rw (p.1, p.2)
    (items_fail Comma (one literal_of) only_literal c.args.reader.now c.args.tuple.now c.loop-reader.reader c.loop-reader.tuple c.loop-reader.invariant
    _ c.in_err-literal.ensures)

pub returns-then-not-skip_separator : goal.returns-then-not-skip_separator
returns-then-not-skip_separator c =
    items_end Comma (one literal_of) only_literal c.args.reader.now c.args.tuple.now c.loop-reader.reader c.loop-reader.tuple c.loop-reader.invariant
    c.literal.new.self c.in_ok-literal.field-0 c.in_ok-literal.ensures c.push.new.self c.in_ok-push.ensures.ok c.skip_separator.new.self
    c.if-not-skip_separator.ensures

pub loop-reader-preserved : goal.loop-reader-preserved
loop-reader-preserved c =
    items_more Comma (one literal_of) only_literal c.args.reader.now c.args.tuple.now c.loop-reader.reader c.loop-reader.tuple c.loop-reader.invariant
    c.literal.new.self c.in_ok-literal.field-0 c.in_ok-literal.ensures c.push.new.self c.in_ok-push.ensures.ok
    (one_never_longer literal_of) c.skip_separator.new.self c.if-not-skip_separator.ensures
