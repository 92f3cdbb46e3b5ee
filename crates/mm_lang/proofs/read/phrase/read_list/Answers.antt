use Rattle.std.proofs.Common.{rules}
use Rattle.std.proofs.lemmas.Result.{err_from_is_err_and}
use Rattle.mm_lang.proofs.Lists.{items_begin, items_fail, items_end, items_more}
use Rattle.mm_lang.proofs.read.phrase.read_list.Goals as goal

pub loop-reader-init : goal.loop-reader-init
loop-reader-init g c = items_begin c.args.separator g.P.Phrase.reading g.P.Phrase.literals c.args.reader.now c.args.items.now.items

pub returns-in_err-read : goal.returns-in_err-read
returns-in_err-read g c =
    let p = err_from_is_err_and c.from_residual.result c.from_residual.ensures.1 in
    rw (p.1, p.2)
    (items_fail c.args.separator g.P.Phrase.reading g.P.Phrase.literals c.args.reader.now c.args.items.now.items c.loop-reader.reader c.loop-reader.items.items
    c.loop-reader.invariant
    _ c.in_err-read.ensures)

pub returns-then-not-skip_separator : goal.returns-then-not-skip_separator
returns-then-not-skip_separator g c =
    items_end c.args.separator g.P.Phrase.reading g.P.Phrase.literals c.args.reader.now c.args.items.now.items c.loop-reader.reader c.loop-reader.items.items
    c.loop-reader.invariant
    c.read.new.reader c.in_ok-read.field-0 c.in_ok-read.ensures c.push.new.self.items c.in_ok-push.ensures.items c.skip_separator.new.self
    c.if-not-skip_separator.ensures

pub loop-reader-preserved : goal.loop-reader-preserved
loop-reader-preserved g c =
    items_more c.args.separator g.P.Phrase.reading g.P.Phrase.literals c.args.reader.now c.args.items.now.items c.loop-reader.reader c.loop-reader.items.items
    c.loop-reader.invariant
    c.read.new.reader c.in_ok-read.field-0 c.in_ok-read.ensures c.push.new.self.items c.in_ok-push.ensures.items
    (g.met.P.Phrase c.lifetimes (search rules)).never_longer c.skip_separator.new.self c.if-not-skip_separator.ensures
