use Rattle.std.proofs.Common.{◌≡◌, ℕ, ◌++◌, List, length, map, sym, ap, subst, ◌∙◌, arith}
use Rattle.dwz_unit.specs.Stretches.{AreRead, later_row, later_unit}
use Rattle.dwz_unit.specs.declared.rows.RawUnit.{RawUnit}
use Rattle.dwz_unit.specs.declared.rows.Row.{Row}
use Rattle.dwz_unit.proofs.StretchLemmas.{both_read}
use Rattle.dwz_unit.proofs.joining.joined.Goals as goal

pub returns : goal.returns
returns c = λ info s f g. (
    let front = c.args.front in
    let next = c.args.next in
    let mode = c.args.mode in
    let before : c.len-before.result ≡ length front.entries.items = c.len-before.ensures ∙ front.entries.ok.0 in
    let more : c.len-more.result ≡ length next.entries.items = c.len-more.ensures ∙ next.entries.ok.0 in
    let number : c.len-number.result ≡ length front.units.items = c.len-number.ensures ∙ front.units.ok.0 in
    let room = c.is_room.ensures c.if-not-is_room.false in
    both_read info mode s front.first front.end front.units.items front.entries.items f next.end next.units.items next.entries.items
    (subst (λ (n : ℕ). AreRead info mode s n next.end next.units.items next.entries.items) (sym c.if-front-next.false) g)
    c.len-number.result c.len-before.result _ _ number before (omega (arith, room, before, more))
    (c.in_ok-add_units.ensures c.if-not-branch.false ∙ ap (λ (w : List RawUnit). front.units.items ++ map (later_unit c.len-before.result) w) c.as_slice.ensures.value)
    (c.in_ok-add_rows.ensures c.if-not-branch-2.false ∙ ap (λ (w : List Row). front.entries.items ++ map (later_row c.len-number.result c.len-before.result) w) c.as_slice-more_rows.ensures.value))
