use Rattle.std.proofs.Common.{◌-◌, length}
use Rattle.dwz_lines.specs.TableViews.{sections}
use Rattle.dwz_lines.proofs.SectionLemmas.{AreRead}
use Rattle.dwz_lines.proofs.section.uses_strp.Given as goal

abbrev pub invariant-loop-place : goal.invariant-loop-place
invariant-loop-place l = AreRead (sections l.strs l.line_strs) l.line l.place l.uses

abbrev pub decreases-loop-place : goal.decreases-loop-place
decreases-loop-place l = length l.line - l.place
