use Rattle.std.proofs.Common.{ℕ, ap, sym, ◌∙◌}
use Rattle.dwz_def_reading.specs.Meanings.{Sources}
use Rattle.dwz_def_reading.specs.Meant.{list_meaning}
use Rattle.dwz_graph.specs.Resolved.{stored}
use Rattle.dwz_label_entries.proofs.PlainLemmas.{list_means}
use Rattle.dwz_label_entries.proofs.plain.put_offset_of.Goals as goal

pub returns-then-names_list : goal.returns-then-names_list
returns-then-names_list c = λ s at end v sources means. (
    let a = stored at end c.args.pair.now c.args.raw.now in
    c.put_list_at.ensures s a v (ap (λ (w : Sources). w.lists) sources)
    (ap (λ (n : ℕ). list_meaning s a n) c.offset_of.ensures.value ∙ list_means s a v (sym c.names_list.ensures ∙ c.if-names_list.true) means))
