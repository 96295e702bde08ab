use Rattle.std.proofs.lemmas.Slice.Eq.{slice_eq-Decides}
use Rattle.dwz_lines.proofs.LocalLemmas.{format_decides}
use Rattle.dwz_lines.proofs.marked_rows.same_formats.Goals as goal

pub returns : goal.returns
returns c = λ same. ((slice_eq-Decides format_decides c.args.one.now c.args.other.now c.eq.result c.eq.ensures).0 same)
