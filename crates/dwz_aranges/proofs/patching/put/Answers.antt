use Rattle.dwz_aranges.proofs.PatchLemmas.{four_written}
use Rattle.dwz_aranges.proofs.patching.put.Goals as goal

pub returns : goal.returns
returns c = four_written c.args.at c.args.number c.args.out.now.items c.to_le_bytes.result c.to_le_bytes.ensures
