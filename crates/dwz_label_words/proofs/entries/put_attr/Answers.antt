use Rattle.std.proofs.Common.{ℕ, List, drop, subst}
use Rattle.dwz_def_reading.specs.Documents.{Attr}
use Rattle.dwz_def_reading.specs.Lists.{Each}
use Rattle.dwz_graph.specs.Resolved.{stored}
use Rattle.dwz_graph.proofs.StepLemmas.{value}
use Rattle.dwz_label_entries.specs.Sources.{raw_of, scope_at}
use Rattle.dwz_label_words.specs.Told.{IsUsual}
use Rattle.dwz_label_words.proofs.AttrLemmas.{one_told, skipped}
use Rattle.dwz_label_words.proofs.ValueLemmas.{weaker}
use Rattle.dwz_label_words.proofs.entries.put_attr.Goals as goal

pub returns-then-pair-eq-DW_AT_SIBLING-clause-told : goal.returns-then-pair-eq-DW_AT_SIBLING-clause-told
returns-then-pair-eq-DW_AT_SIBLING-clause-told c = λ u name at values attrs k line h each. (
    let x = c.args.source.now in
    skipped (raw_of x) (scope_at x u) name (stored at c.args.end c.args.pair.now c.args.raw.now) values attrs c.args.names.now.names (drop c.args.next x.refs.now) c.args.out.now.items
    c.if-pair-eq-DW_AT_SIBLING.true h each)

pub returns-clause-told : goal.returns-clause-told
returns-clause-told c = λ u name at values attrs k line h each. (
    let x = c.args.source.now in
    let a = stored at c.args.end c.args.pair.now c.args.raw.now in
    let refs = drop c.args.next x.refs.now in
    let n = value (raw_of x) (scope_at x u) refs a values attrs c.if-pair-eq-DW_AT_SIBLING.false h in
    let usual = (subst (λ (w : List (Attr ℕ)). Each IsUsual w) n.parts each).0 in
    weaker c.put_value.result _ _ (λ behind t. one_told (raw_of x) (scope_at x u) name a values attrs c.put_value.new.names.names refs (drop behind x.refs.now) c.args.out.now.items
    c.put_value.new.out.items n each t) (c.put_value.ensures.told u name at n.value k line n.means usual n.targets))
