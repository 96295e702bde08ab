use Rattle.std.proofs.Common.{◌≡◌, ◌++◌, take}
use Rattle.std.specs.List.{flat_map}
use Rattle.dwz_report.specs.Texts.{common_file_text, file_text}
use Rattle.dwz_report.proofs.texts.summary_text.Given as goal

abbrev pub invariant-loop-file : goal.invariant-loop-file
invariant-loop-file l = l.text.items ≡ common_file_text l.lines.common ++ flat_map file_text (take l.file-index l.file-items)
