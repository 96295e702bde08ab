use Rattle.std.proofs.Common.{refl}
use Rattle.dwz_def_reading.specs.Classes.{OfCommonEntry, OfCommonText}
use Rattle.dwz_graph.specs.Resolved.{stored}
use Rattle.dwz_label_entries.proofs.PlainLemmas.{as_is}
use Rattle.dwz_label_entries.specs.Plain.{KnowsScope}
use Rattle.dwz_check_labels.specs.Files.{scope_at}
use Rattle.dwz_check_labels.proofs.AloneLemmas.{alone_scope, line_alone, means_alone, plain_beside}
use Rattle.dwz_check_labels.proofs.said.put_said.Goals as goal

pub returns-in-CommonEntry : goal.returns-in-CommonEntry
returns-in-CommonEntry c = λ said name u at v k here line means. (
    let s = scope_at c.args.source.now u in
    let a = stored at c.args.end c.args.pair.now c.args.raw.now in
    c.put_common_entry.ensures s a v c.args.operands.now.items (as_is s a v c.class_of-class.result OfCommonEntry c.class_of-class.ensures c.in-CommonEntry.is means))

pub returns-in-CommonText : goal.returns-in-CommonText
returns-in-CommonText c = λ said name u at v k here line means. (
    let s = scope_at c.args.source.now u in
    let a = stored at c.args.end c.args.pair.now c.args.raw.now in
    c.put_common_text.ensures s at c.args.end v c.args.operands.now.items k.own.says.common
    (as_is s a v c.class_of-class.result OfCommonText c.class_of-class.ensures c.in-CommonText.is means))

pub returns-in_ok-named-in_default : goal.returns-in_ok-named-in_default
returns-in_ok-named-in_default c = λ said name u at v k here line means. (
    let x = c.args.source.now in
    let s = scope_at x u in
    let a = stored at c.args.end c.args.pair.now c.args.raw.now in
    let know : KnowsScope x.own.sections.now c.args.here.now (alone_scope s) = record { sources = refl; alone = refl; offsets = here.base; lists = here.lists } in
    plain_beside s v c.put_plain.new.operands.items c.args.out.now.items c.put_plain.new.out.items c.in_ok-named-in_default.named
    (c.in_ok-named-in_default.ensures (alone_scope s) at v know (line_alone s a x.tables.now c.args.line line)
    (means_alone c.class_of-class.result s a v c.class_of-class.ensures c.in_default.not-CommonEntry c.in_default.not-CommonText means)))
