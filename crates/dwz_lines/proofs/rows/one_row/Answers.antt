use Rattle.std.proofs.Common.{ℕ, List, Option, Some, Bor, sym, ap, ◌∙◌}
use Rattle.std.specs.Option.{option_map}
use Rattle.dwz_bytes.specs.Input.{Input}
use Rattle.dwz_forms.specs.RawValues.{raw_view}
use Rattle.dwz_lines.specs.Reading.{Seen, behind, bind, row_from, row_in, then_row}
use Rattle.dwz_lines.specs.RowViews.{seen_view, strings_view}
use Rattle.dwz_lines.proofs.ValueLemmas.{all_said, no_value, not_said, value_said}
use Rattle.dwz_lines.proofs.rows.one_row.Goals as goal

pub returns-in_err-raw : goal.returns-in_err-raw
unfolding row_in
returns-in_err-raw c =
    let none = no_value (strings_view c.args.strings) c.args.dirs c.args.formats.now c.loop-format.format-index _ c.loop-format-test.true (seen_view c.loop-format.seen) c.loop-format.cursor
    c.in_err-raw.ensures in
    rw c.from_residual.ensures (ap (λ (o : Option (Seen × Input)). bind o then_row) (sym c.loop-format.invariant ∙ none))

pub returns-in_err-seen : goal.returns-in_err-seen
unfolding row_in
returns-in_err-seen c =
    let none = not_said (strings_view c.args.strings) c.args.dirs c.args.formats.now c.loop-format.format-index _ c.loop-format-test.true (seen_view c.loop-format.seen) c.loop-format.cursor
    (raw_view c.in_ok-raw.raw) c.value.new.cursor c.in_ok-raw.ensures (sym c.in_err-seen.ensures) in
    rw c.from_residual-in_err-seen.ensures (ap (λ (o : Option (Seen × Input)). bind o then_row) (sym c.loop-format.invariant ∙ none))

pub loop-format-preserved : goal.loop-format-preserved
loop-format-preserved c =
    let some = value_said (strings_view c.args.strings) c.args.dirs c.args.formats.now c.loop-format.format-index _ c.loop-format-test.true (seen_view c.loop-format.seen) c.loop-format.cursor
    (raw_view c.in_ok-raw.raw) c.value.new.cursor (seen_view c.in_ok-seen.seen) c.in_ok-raw.ensures (sym c.in_ok-seen.ensures) in
    sym some ∙ c.loop-format.invariant

pub returns-in_err-path : goal.returns-in_err-path
unfolding row_in
returns-in_err-path c =
    let all = all_said (strings_view c.args.strings) c.args.dirs c.args.formats.now c.loop-format.format-index (seen_view c.loop-format.seen) c.loop-format.cursor c.loop-format-test.false in
    let ends = ap (λ (p : Option (Bor (List ℕ))). bind (row_from (option_map (λ q. q.now) p) c.loop-format.seen.dir) (behind c.loop-format.cursor)) c.in_err-path.was in
    rw c.from_residual-in_err-path.ensures (ap (λ (o : Option (Seen × Input)). bind o then_row) (sym c.loop-format.invariant ∙ all) ∙ ends)

pub returns : goal.returns
unfolding row_in
returns c =
    let all = all_said (strings_view c.args.strings) c.args.dirs c.args.formats.now c.loop-format.format-index (seen_view c.loop-format.seen) c.loop-format.cursor c.loop-format-test.false in
    let ends = ap (λ (p : Option (Bor (List ℕ))). bind (row_from (option_map (λ q. q.now) p) c.loop-format.seen.dir) (behind c.loop-format.cursor)) c.in_ok-path.was in
    let dir = c.unwrap_or.ensures in
    ap (λ (o : Option (Seen × Input)). bind o then_row) (sym c.loop-format.invariant ∙ all) ∙ ends ∙ (λ n. Some (record { path = c.in_ok-path.path.now; dir = sym dir n }, c.loop-format.cursor))
