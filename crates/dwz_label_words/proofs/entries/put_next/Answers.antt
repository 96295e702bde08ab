use Rattle.std.proofs.Common.{ℕ, List, ◌∷◌, Result, drop, subst, sym}
use Rattle.std.specs.Prelude.{IfOk}
use Rattle.dwz_bytes.specs.Input.{Input}
use Rattle.dwz_def_reading.specs.Documents.{Attr}
use Rattle.dwz_def_reading.specs.Entries.{RawAttr}
use Rattle.dwz_def_reading.specs.Lists.{Each}
use Rattle.dwz_def_reading.specs.Units.{RawUnit}
use Rattle.dwz_def_reading.specs.Values.{Raw}
use Rattle.dwz_def_tops.specs.Spots.{EntryName}
use Rattle.dwz_forms.specs.RawValues.{raw_view}
use Rattle.dwz_graph.specs.Resolved.{value_between}
use Rattle.dwz_graph.specs.Rows.{AreAttrsMeant}
use Rattle.dwz_label_entries.specs.Plain.{KnowsLine}
use Rattle.dwz_label_entries.specs.Sources.{KnowsUnit, raw_of, scope_at}
use Rattle.dwz_label_words.specs.Told.{IsUsual, TellsFirst}
use Rattle.dwz_model.specs.declared.fault.Fault.{Fault}
use Rattle.dwz_label_words.proofs.entries.put_next.Goals as goal

pub returns-clause-told : goal.returns-clause-told
returns-clause-told c =
    let x = c.args.source.now in
    let from = c.args.cursor.now in
    let to = c.known_value-raw.new.cursor in
    let pair = c.args.pair.now in
    let value = raw_view c.known_value-raw.result in
    let refs = drop c.args.next x.refs.now in
    let until : ℕ → RawAttr = λ e. record { at = from.at; end = e; pair = pair; raw = value } in
    subst (λ (w : Result (Raw × Input) Fault). IfOk w (λ y. (u : RawUnit) (name : ℕ → EntryName) (values : List RawAttr) (attrs : List (Attr ℕ))
    → KnowsUnit x c.args.here.now c.args.line u name → KnowsLine (scope_at x u) (value_between from y.1 pair y.0) x.tables.now c.args.line
    → AreAttrsMeant (raw_of x) (scope_at x u) refs (value_between from y.1 pair y.0 ∷ values) attrs → Each IsUsual attrs
    → IfOk c.put_attr.result (λ behind. TellsFirst (raw_of x) (scope_at x u) values name attrs c.put_attr.new.names.names refs (drop behind x.refs.now)
    c.args.out.now.items c.put_attr.new.out.items)))
    (sym c.known_value-raw.ensures.value)
    (λ u name values attrs k line h each.
    let line = subst (λ (e : ℕ). KnowsLine (scope_at x u) (until e) x.tables.now c.args.line) (sym c.at-end.ensures) line in
    let h = subst (λ (e : ℕ). AreAttrsMeant (raw_of x) (scope_at x u) refs (until e ∷ values) attrs) (sym c.at-end.ensures) h in
    c.put_attr.ensures.told u name from.at values attrs k line h each)
