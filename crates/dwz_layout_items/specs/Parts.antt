-- Used in proofs alone: what stays of a row, pinned or not as asked, line by line.
use Rattle.std.specs.Prelude.{ℕ, suc, Bool, true, false, List, [], ◌∷◌, ◌++◌, ◌||◌, ◌&&◌, not, if◌then◌else◌}
use Rattle.dwz_def_reading.specs.Documents.{entries_map, node_map}
use Rattle.dwz_def_tops.specs.Deciding.{same_bool}
use Rattle.dwz_def_tops.specs.Spots.{ASpace, ATop, EntryName, Nothing, Row}
use Rattle.dwz_def_images.specs.Plan.{row_pinned, row_staying}
use Rattle.dwz_layout_items.specs.Lines.{Line, line, lines}
use Rattle.dwz_layout_items.specs.Outline.{View}

unfoldable pub part_lines : View → ℕ → Bool → Row → List (Line EntryName)
part_lines v depth want Nothing = []
part_lines v depth want (ATop t next) =
    (if not (v.gone t.number) && same_bool (v.pinned.top t.number) want then line depth (node_map v.image t.node)
    ∷ lines (suc depth) (entries_map v.image t.below) else [])
    ++ part_lines v depth want next
part_lines v depth want (ASpace e inner next) =
    (if same_bool (v.pinned.space e.at || row_pinned v.pinned (row_staying v.gone inner)) want
    then line depth (node_map v.image e) ∷ part_lines v (suc depth) true inner ++ part_lines v (suc depth) false inner
    else [])
    ++ part_lines v depth want next
