-- What is appended of a kept unit is the unit after.
use Rattle.std.proofs.Common.{◌≡◌, ℕ, Bool, true, false, List, [], ◌∷◌, ◌++◌, map, refl, sym, ap, ◌∙◌}
use Rattle.dwz_def_reading.specs.Documents.{Compile, Kind, OfType, Partial, entries_map}
use Rattle.dwz_def_reading.specs.Trees.{End}
use Rattle.dwz_def_tops.specs.Spots.{EntryName, FileUnit, Row, SpaceName}
use Rattle.dwz_def_images.specs.Moves.{Move, image_in}
use Rattle.dwz_def_images.specs.Plan.{PartialUnit, import_of, part_row, imports, kept_row, pinned_first, row_staying}
use Rattle.dwz_plan.specs.Shows.{import_row}
use Rattle.dwz_def_images.specs.Units.{changes, kept_below, kept_unit, partial_root, partial_unit, tree}
use Rattle.std.proofs.lemmas.List.{append-nil}
use Rattle.dwz_layout_items.specs.Chains.{NamesPartial, ShowsSpaced, partial_lines}
use Rattle.dwz_layout_items.specs.Lines.{Line, line, lines, row_lines, unit_lines}
use Rattle.dwz_layout_items.specs.Order.{Names, import_lines}
use Rattle.dwz_layout_items.specs.Outline.{View}
use Rattle.dwz_layout_items.specs.Parts.{part_lines}
use Rattle.dwz_layout_items.specs.Shows.{NamesKept}
use Rattle.dwz_layout_items.proofs.LineLemmas.{tree_lines}
use Rattle.dwz_layout_items.proofs.RowChains.{partial_row}
use Rattle.dwz_layout_items.proofs.PartLemmas.{first_lines, part_is}

pub import_lines_are : (unit : ℕ) (n : Names EntryName) (parts : List ℕ) → ((part : ℕ) → n.import part ≡ import_of unit part) → lines 2 (import_row unit parts) ≡ import_lines n parts
unfolding lines import_row import_lines
import_lines_are unit n [] same = refl
import_lines_are unit n (part ∷ parts) same = (λ i. line 2 (sym (same part) i) ∷ import_lines_are unit n parts same i)

pub kept_lines : (m : Move) (units : List (FileUnit EntryName)) (i : ℕ) (u : FileUnit EntryName) (n : Names EntryName) (parts : List ℕ) → NamesKept m i u.unit n → u.unit.kind ≡ Compile
    → changes m units u.file ≡ true → imports i 0 m.parts ≡ import_row i parts
    → line 1 n.root ∷ row_lines (image_in m) 2 (kept_row m.gone units i) ++ import_lines n parts ≡ unit_lines (kept_unit m units i u)
kept_lines m units i u n parts names kind moved same =
    let f : EntryName → EntryName = image_in m in
    let below : kept_below m units (changes m units u.file) i u.unit.kind u.unit.below ≡ tree f (kept_row m.gone units i) (import_row i parts) =
    (λ j. kept_below m units (moved j) i (kind j) u.unit.below) ∙ ap (tree f (kept_row m.gone units i)) same in
    let all : lines 2 (kept_below m units (changes m units u.file) i u.unit.kind u.unit.below) ≡ row_lines f 2 (kept_row m.gone units i) ++ import_lines n parts =
    ap (lines 2) below ∙ tree_lines f 2 (kept_row m.gone units i) (import_row i parts) ∙ ap (λ (w : List (Line EntryName)). row_lines f 2 (kept_row m.gone units i) ++ w)
    (import_lines_are i n parts names.import) in
    (λ j. line 1 (names.root j) ∷ sym all j)

-- the two parts of a row are what is kept of it
pub both_parts : (v : View) (row : Row) → part_lines v 2 true row ++ part_lines v 2 false row ≡ row_lines v.image 2 (pinned_first v.pinned (row_staying v.gone row))
both_parts v row = (λ i. part_is v 2 true row i ++ part_is v 2 false row i) ∙ sym (first_lines v.image v.pinned 2 (row_staying v.gone row))

-- all of a unit that stays as it is
pub whole_lines : (m : Move) (units : List (FileUnit EntryName)) (i : ℕ) (u : FileUnit EntryName) (n : Names EntryName) → NamesKept m i u.unit n → (u.unit.kind ≡ Compile
    → changes m units u.file ≡ false)
    → line 1 n.root ∷ lines 2 n.whole ≡ unit_lines (kept_unit m units i u)
whole_lines m units i u n names stays =
    let below : entries_map (image_in m) u.unit.below ≡ kept_below m units (changes m units u.file) i u.unit.kind u.unit.below = by (changes m units u.file) u.unit.kind stays in
    (λ j. line 1 (names.root j) ∷ lines 2 ((names.whole ∙ below) j))
  where
    by : (b : Bool) (kind : Kind EntryName) → (kind ≡ Compile → b ≡ false) → entries_map (image_in m) u.unit.below ≡ kept_below m units b i kind u.unit.below
    by false kind h = refl
    by true Compile h = absurd (let e : true ≡ false = h refl in cc)
    by true (OfType signature main) h = refl
    by true Partial h = refl

-- a partial unit
pub partial_is : (m : Move) (k : ℕ) (part : PartialUnit) (said : ℕ → SpaceName) (n : Names EntryName) (path : ℕ → List ℕ) (l : ℕ → ℕ) → NamesPartial m k said n
    → ShowsSpaced (image_in m) said n path l part.tops → m.rows k ≡ part_row k part
    → partial_lines n path l (map (λ t. t.number) part.tops) ≡ unit_lines (partial_unit m k)
unfolding lines
partial_is m k part said n path l names shown row =
    let below : lines 2 (tree (image_in m) (m.rows k) End) ≡ row_lines (image_in m) 2 (part_row k part) =
    tree_lines (image_in m) 2 (m.rows k) End ∙ append-nil (row_lines (image_in m) 2 (m.rows k)) ∙ ap (row_lines (image_in m) 2) row in
    (λ i. line 1 (names.root i) ∷ sym (partial_row (image_in m) said n path l k names.in_chain part shown) i) ∙ ap (λ (w : List (Line EntryName)). line 1 (partial_root m k) ∷ w) (sym below)
