use Rattle.dwz_encode.specs.Views.{numbers_view}
use Rattle.dwz_encode.proofs.ValueLemmas.{put_changed, root_bytes}
use Rattle.dwz_encode.proofs.values.put_root.Goals as goal

pub returns : goal.returns
returns c =
    put_changed c.put_four.result c.args.out.now.items c.put_four.new.out.items _ _
    (root_bytes (numbers_view c.args.numbers) c.args.known.now c.args.here c.args.unit c.form_to-form.result c.at_or.result c.number_by_form.result c.form_to-form.ensures.form
    c.at_or.ensures c.number_by_form.ensures) c.put_four.ensures
