use Rattle.std.proofs.Common.{◌≡◌, ℕ, ◌++◌, Result, refl, sym, subst}
use Rattle.std.specs.Prelude.{IfOk, OnOk}
use Rattle.dwz_model.specs.declared.fault.Fault.{Fault}
use Rattle.dwz_forms.specs.RawValues.{raw_view}
use Rattle.dwz_def_reading.specs.Input.{Input}
use Rattle.dwz_def_reading.specs.Values.{Raw, value_at, written_rows}
use Rattle.dwz_layout.specs.Attributes.{after, here_view, out_attr, stored_all, value_read}
use Rattle.dwz_layout.specs.Stored.{values_bytes}
use Rattle.dwz_layout.proofs.LeftLemmas.{if_read}
use Rattle.dwz_layout.proofs.SizeLemmas.{on_ok}
use Rattle.dwz_encode.specs.Views.{numbers_view}
use Rattle.dwz_encode.proofs.values.put_next.Goals as goal

pub returns-clause-read : goal.returns-clause-read
returns-clause-read c =
    subst (λ (r : Result (Raw × Input) Fault). IfOk r (λ x. OnOk c.put_value.result (c.known_value-raw.new.cursor ≡ x.1))) (sym c.known_value-raw.ensures.value)
    (on_ok c.put_value.result refl)

pub returns-clause-bytes : goal.returns-clause-bytes
returns-clause-bytes c =
    let pair = c.args.pair.now in
    let old = c.args.out.now.items in
    let out = λ (end : ℕ) (raw : Raw). out_attr c.args.known.now c.args.file (here_view c.args.here) c.args.next.now (value_read end pair raw) in
    if_read (value_at written_rows pair c.args.cursor.now) (raw_view c.known_value-raw.result) c.known_value-raw.new.cursor c.at-end.result c.known_value-raw.ensures.value c.at-end.ensures
    (λ end raw. OnOk c.put_value.result (c.put_value.new.out.items ≡ old ++ values_bytes (stored_all (numbers_view c.args.numbers) (out end raw)))) c.put_value.ensures.bytes

pub returns-clause-next : goal.returns-clause-next
returns-clause-next c =
    let pair = c.args.pair.now in
    let next = c.args.next.now in
    if_read (value_at written_rows pair c.args.cursor.now) (raw_view c.known_value-raw.result) c.known_value-raw.new.cursor c.at-end.result c.known_value-raw.ensures.value c.at-end.ensures
    (λ end raw. OnOk c.put_value.result (c.put_value.new.next ≡ after (here_view c.args.here) next (value_read end pair raw))) c.put_value.ensures.next
