-- Which rows show the spaces of files and of a finished common file.
use Rattle.std.specs.Prelude.{◌↔◌, ℕ, Bool, List}
use Rattle.dwz_def_reading.specs.Documents.{Doc}
use Rattle.dwz_def_reading.specs.Lists.{In}
use Rattle.dwz_def_taken.specs.Beside.{reused_of}
use Rattle.dwz_def_taken.specs.Takes.{PartRefers}
use Rattle.dwz_match.specs.RowLaws.{HaveTops, ShowSpaces}
use Rattle.dwz_reuse.specs.SpaceNames.{ShowNames}
use Rattle.dwz_takes.specs.declared.rows.Rows.{Rows}
use Rattle.dwz_takes.specs.Takes.{list_at}

-- rows that have the tops, the names of spaces, and what partial units refer to
abbrev pub SpacesLaw : Type 0
SpacesLaw =
    (docs : List (Doc ℕ)) (common : Doc ℕ) (movable : List Bool) (rows : Rows)
    (names : ShowNames (reused_of docs common) rows.unit_names rows.part_names)
    → HaveTops docs common movable rows
    → ((p q : ℕ) → In q (list_at rows.part_targets p) ↔ PartRefers (reused_of docs common) p q)
    → ShowSpaces (reused_of docs common) names.name rows
