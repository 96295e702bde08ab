use Rattle.dwz_aranges.proofs.PatchLemmas.{IsLeft}
use Rattle.dwz_aranges.proofs.patching.patched.Given as goal

abbrev pub invariant-loop-place : goal.invariant-loop-place
invariant-loop-place l = IsLeft l.section l.place-items l.out.items l.at l.place-index
