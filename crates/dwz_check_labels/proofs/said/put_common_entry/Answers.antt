use Rattle.std.proofs.Common.{◌++◌, ap, sym, ◌∙◌}
use Rattle.dwz_def_reading.specs.Documents.{Plain}
use Rattle.dwz_label.specs.Labels.{plain_label}
use Rattle.dwz_check_labels.proofs.AloneLemmas.{common_names}
use Rattle.dwz_check_labels.proofs.said.put_common_entry.Goals as goal

pub returns : goal.returns
returns c = λ s a v operands means. (
    let n = common_names s a v means in
    record { bytes = c.in_ok-put_ref.ensures ∙ ap (λ (w : Plain). c.args.out.now.items ++ plain_label w) (sym n.0); names = (n.1, n.2) })
