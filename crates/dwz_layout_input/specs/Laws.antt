-- Laws on the plan of files.
use Rattle.std.specs.Prelude.{◌≡◌, ◌≢◌, ℕ, ◌<◌, false, List, [], length}
use Rattle.std.specs.List.{list_any}
use Rattle.dwz_def_reading.specs.Documents.{Doc}
use Rattle.dwz_def_reading.specs.Lists.{Each, In}
use Rattle.dwz_def_tops.specs.Alike.{IsAlike}
use Rattle.dwz_def_tops.specs.Spots.{EntryName, FileUnit, tops_of, units_of}
use Rattle.dwz_def_images.specs.Homes.{Common, IsChoice, same_home}
use Rattle.dwz_def_images.specs.Moves.{Move}
use Rattle.dwz_def_images.specs.Plan.{PartialUnit, pinned_of}
use Rattle.dwz_def_images.specs.Units.{common_units}
use Rattle.dwz_groups.specs.declared.tops.Tops.{Tops}
use Rattle.dwz_plan.specs.declared.plan.Scope.{Scope}
use Rattle.dwz_plan.specs.declared.plan.Scope.TheVariants.{Each as EachAlone}
use Rattle.dwz_plan.specs.Planned.{Planned}
use Rattle.dwz_move_files.specs.Outlines.{IsOutline}
use Rattle.dwz_label_files.specs.LeastLaws.{flags_of}
use Rattle.dwz_label_files.specs.Shown.{ShowTargets}
use Rattle.dwz_layout_order.specs.Behind.{ArePlannedFirst}
use Rattle.dwz_layout_order.specs.declared.marks.Marks.{Marks}
use Rattle.dwz_layout_order.specs.Marks.{mark_at, mark_of}
use Rattle.dwz_layout_order.specs.Named.{MarksTop}
use Rattle.dwz_plan.specs.MoveOf.{move_of}
use Rattle.dwz_layout_input.specs.Rules.{alike_scope, rule_by}

-- what an outline says of tops is what is asked of those whose least alike ones are looked for
abbrev pub OutlineLaw : Type 0
OutlineLaw = (docs : List (Doc ℕ)) (tops : Tops) → IsOutline docs tops → ShowTargets (units_of docs) (flags_of tops) tops.targets

-- ---- the rule

-- it finds tops alike exactly where they are, in its scope
abbrev pub AlikeLaw : Type 0
AlikeLaw = (sharing : Scope) (docs : List (Doc ℕ)) → IsAlike (alike_scope sharing) (units_of docs) (rule_by sharing docs).alike

-- it chooses alike tops together, and what those that move refer to
abbrev pub ChoiceLaw : Type 0
ChoiceLaw = (sharing : Scope) (docs : List (Doc ℕ)) → IsChoice (units_of docs) (rule_by sharing docs)

-- ---- each file by itself

-- no partial unit has its home in the common file
abbrev pub HomesLaw : Type 0
HomesLaw = (docs : List (Doc ℕ)) (part : PartialUnit) → In part (move_of (rule_by EachAlone docs) docs).parts → part.home ≢ Common

-- as a test
abbrev pub AnyHomeLaw : Type 0
AnyHomeLaw = (docs : List (Doc ℕ)) → list_any (λ part. same_home part.home Common) (move_of (rule_by EachAlone docs) docs).parts ≡ false

-- the common file has no unit
abbrev pub NoUnitsLaw : Type 0
NoUnitsLaw = (docs : List (Doc ℕ)) → common_units (move_of (rule_by EachAlone docs) docs) ≡ []

-- ---- what is known of tops

-- by their rows, and by where they go
abbrev pub MarksLaw : Type 0
MarksLaw =
    (m : Move) (units : List (FileUnit EntryName)) (files : ℕ) (tops : Tops) (plan : Planned) (marks : Marks)
    → ArePlannedFirst m units files tops plan
    → ((k : ℕ) → k < length tops.rows → mark_at marks.tops.now k ≡ mark_of tops.rows plan.homes k)
    → Each (MarksTop m.gone (pinned_of units) marks) (tops_of units)
