use Rattle.dwz_def_reading.proofs.PatchedLemmas.{given_parts, own_filled, patched_length, patched_parts, patched_spelled, patched_value}
use Rattle.dwz_def_reading.proofs.patching.patch_laws.Goals as goal

pub returns-clause-spelled : goal.returns-clause-spelled
returns-clause-spelled g = patched_spelled

pub returns-clause-parts : goal.returns-clause-parts
returns-clause-parts g = patched_parts

pub returns-clause-len : goal.returns-clause-len
returns-clause-len g = patched_length

pub returns-clause-own : goal.returns-clause-own
returns-clause-own g = own_filled

pub returns-clause-value : goal.returns-clause-value
returns-clause-value g = patched_value

pub returns-clause-given : goal.returns-clause-given
returns-clause-given g = given_parts
