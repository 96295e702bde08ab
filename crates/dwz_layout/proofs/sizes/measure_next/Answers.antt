use Rattle.std.proofs.Common.{◌≡◌, ℕ, ◌++◌, length, Result, refl, sym, subst}
use Rattle.std.specs.Prelude.{IfOk, OnOk}
use Rattle.dwz_model.specs.declared.fault.Fault.{Fault}
use Rattle.dwz_forms.specs.RawValues.{raw_view}
use Rattle.dwz_def_reading.specs.Input.{Input}
use Rattle.dwz_def_reading.specs.Values.{Raw, value_at, written_rows}
use Rattle.dwz_layout.specs.Attributes.{after, here_view, no_numbers, out_attr, stored_all, value_read}
use Rattle.dwz_layout.specs.Stored.{pairs_of, values_bytes}
use Rattle.dwz_layout.proofs.LeftLemmas.{if_read}
use Rattle.dwz_layout.proofs.SizeLemmas.{on_ok}
use Rattle.dwz_layout.proofs.sizes.measure_next.Goals as goal

pub returns-clause-read : goal.returns-clause-read
returns-clause-read c =
    subst (λ (r : Result (Raw × Input) Fault). IfOk r (λ x. OnOk c.measure_value.result (c.known_value-raw.new.cursor ≡ x.1))) (sym c.known_value-raw.ensures.value)
    (on_ok c.measure_value.result refl)

pub returns-clause-pairs : goal.returns-clause-pairs
returns-clause-pairs c =
    let pair = c.args.pair.now in
    let room = c.args.room.now.pairs.items in
    let out = λ (end : ℕ) (raw : Raw). out_attr c.args.known.now c.args.file (here_view c.args.here) c.args.next.now (value_read end pair raw) in
    if_read (value_at written_rows pair c.args.cursor.now) (raw_view c.known_value-raw.result) c.known_value-raw.new.cursor c.at-end.result c.known_value-raw.ensures.value c.at-end.ensures
    (λ end raw. OnOk c.measure_value.result (c.measure_value.new.room.pairs.items ≡ room ++ pairs_of (stored_all no_numbers (out end raw)))) c.measure_value.ensures.pairs

pub returns-clause-size : goal.returns-clause-size
returns-clause-size c =
    let pair = c.args.pair.now in
    let out = λ (end : ℕ) (raw : Raw). out_attr c.args.known.now c.args.file (here_view c.args.here) c.args.next.now (value_read end pair raw) in
    if_read (value_at written_rows pair c.args.cursor.now) (raw_view c.known_value-raw.result) c.known_value-raw.new.cursor c.at-end.result c.known_value-raw.ensures.value c.at-end.ensures
    (λ end raw. IfOk c.measure_value.result (λ size. size ≡ length (values_bytes (stored_all no_numbers (out end raw))))) c.measure_value.ensures.size

pub returns-clause-next : goal.returns-clause-next
returns-clause-next c =
    let pair = c.args.pair.now in
    let next = c.args.next.now in
    if_read (value_at written_rows pair c.args.cursor.now) (raw_view c.known_value-raw.result) c.known_value-raw.new.cursor c.at-end.result c.known_value-raw.ensures.value c.at-end.ensures
    (λ end raw. OnOk c.measure_value.result (c.measure_value.new.next ≡ after (here_view c.args.here) next (value_read end pair raw))) c.measure_value.ensures.next
