use Rattle.std.proofs.Common.{◌+◌, ◌-◌, List, refl, sym, ap, ◌∙◌}
use Rattle.dwz_model.specs.declared.place.Pair.{Pair}
use Rattle.dwz_lines.specs.Reading.{format_in}
use Rattle.dwz_lines.specs.Views.{format_view, format_views}
use Rattle.dwz_lines.proofs.LoopLemmas.{all_read, formats_counted, none_read, one_read, times_into, views_more}
use Rattle.dwz_lines.proofs.formats.formats.Goals as goal

pub returns-in_default-one_format : goal.returns-in_default-one_format
returns-in_default-one_format c = (
  refl,
  formats_counted c.args.cursor.now c.u8.new.self c.in-Ok.count c.in-Ok.ensures
      ∙ sym c.loop-number.invariant
      ∙ none_read (λ x. x) format_in (format_views c.loop-number.formats.items) c.in-Ok.count c.loop-number._number c.loop-number.cursor c.loop-number-test.true c.in_default-one_format.ensures,
)

pub loop-number-preserved : goal.loop-number-preserved
loop-number-preserved c =
    let step = one_read (λ x. x) format_in (format_views c.loop-number.formats.items) c.in-Ok.count c.loop-number._number c.loop-number.cursor c.loop-number-test.true (format_view c.in-Some.format)
    c.one_format.new.cursor c.in-Some.ensures in
    let more = ap format_views c.in_ok-push.ensures.items ∙ views_more c.loop-number.formats.items c.in-Some.format in
    ap (λ (w : List Pair). times_into (λ x. x) format_in w (c.in-Ok.count - (c.loop-number._number + 1)) c.one_format.new.cursor) more ∙ sym step ∙ c.loop-number.invariant

pub returns : goal.returns
returns c =
    formats_counted c.args.cursor.now c.u8.new.self c.in-Ok.count c.in-Ok.ensures
    ∙ sym c.loop-number.invariant
    ∙ all_read (λ x. x) format_in (format_views c.loop-number.formats.items) c.in-Ok.count c.loop-number._number c.loop-number.cursor c.loop-number-test.false
