use Rattle.std.proofs.Common.{refl}
use Rattle.dwz_def_expand.specs.Output.{FirstTooNarrow}
use Rattle.dwz_expand_sections.proofs.RefusalLemmas.{in_file_found, in_file_none}
use Rattle.dwz_expand_sections.proofs.refusals.narrow_in.Goals as goal

pub returns-in-None : goal.returns-in-None
returns-in-None c f spoken h = in_file_none (FirstTooNarrow f c.args.section spoken) c.args.file (c.in-None.ensures f spoken h)

pub returns-in-Some : goal.returns-in-Some
returns-in-Some c f spoken h = in_file_found (FirstTooNarrow f c.args.section spoken) c.args.file c.in-Some.fault _ refl (c.in-Some.ensures f spoken h)
