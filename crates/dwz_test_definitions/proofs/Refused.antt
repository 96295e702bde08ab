-- The line of a refusal: of an offset at which no top begins, since the root of a unit does.
use Rattle.std.proofs.Common.{◌≡◌, [], refl}
use Rattle.std.specs.Prelude.{codes}
use Rattle.dwz_def_reading.specs.Reason.TheVariants.{NotMovable}
use Rattle.dwz_report.specs.Texts.{reason_words, refusal_line, section_name}

root : refusal_line (codes "a") (section_name 1) (codes "c") (reason_words NotMovable) [] ≡ codes "dwz: a: .debug_info+0xc: no movable entry here\n"
root = refl
