use Rattle.std.proofs.Common.{ℕ, ◌<◌}
use Rattle.dwz_model.specs.declared.fault.Fault.{Fault}
use Rattle.dwz_def_readback.specs.Files.{CommonFile, Run}
use Rattle.dwz_def_output.specs.Refusals.{SectionsFaultBy}
use Rattle.dwz_def_output.specs.NewFiles.{AreNewBy}
use Rattle.dwz_run_output.proofs.faults.sections_refusal.Given as goal

abbrev pub invariant-loop-file : goal.invariant-loop-file
invariant-loop-file l = (k : CommonFile) (r : Run) (count : ℕ) → AreNewBy k r l.made count → (n : ℕ) → n < l.file → (f : Fault) → ¬ SectionsFaultBy k r n f
