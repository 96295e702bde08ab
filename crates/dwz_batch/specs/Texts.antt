-- What is said of an outcome.
use Rattle.std.specs.Prelude.{ℕ, Bool, true, false, [], Some, None, length}
use Rattle.dwz_report.specs.Texts.{file_text, refusal_text}
use Rattle.dwz_text.specs.Lines.{Text}
use Rattle.dwz_batch.specs.declared.job.Outcome.{Outcome}
use Rattle.dwz_batch.specs.declared.job.Outcome.TheVariants.{Nothing, Bytes, Refused}

-- The line of the file of this name, which had so many bytes before, by what came of it. Where it is to be quiet, a refusal alone is said.
abbrev pub outcome_text : Text → ℕ → Outcome → Bool → Text
outcome_text name before (Refused refusal) _ = refusal_text name refusal
outcome_text name before _ true = []
outcome_text name before Nothing false = file_text (name, before, None)
outcome_text name before (Bytes bytes) false = file_text (name, before, Some (length bytes))
