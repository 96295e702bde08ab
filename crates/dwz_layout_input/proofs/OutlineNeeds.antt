-- What an outline says of tops meets what is asked of those whose least alike ones are looked for, and of which a plan is made.
use Rattle.std.proofs.Common.{◌≡◌, ℕ, suc, ◌<◌, All, Bool, true, false, List, [], ◌∷◌, length, get_or, refl, sym, ap, subst, ◌∙◌, inl, inr, arith}
use Rattle.std.proofs.lemmas.List.{get_or_default, length-map}
use Rattle.dwz_def_reading.specs.Documents.{Doc}
use Rattle.dwz_def_reading.specs.Lists.{In}
use Rattle.dwz_def_reading.proofs.ListFacts.{all_more}
use Rattle.dwz_def_tops.proofs.Members.{nth_below}
use Rattle.dwz_def_tops.specs.Deciding.{is_movable}
use Rattle.dwz_def_tops.specs.Spots.{EntryName, FileUnit, Top, tops_of, units_of}
use Rattle.dwz_def_tops.proofs.TopNumbers.{top_at, tops_numbers}
use Rattle.dwz_def_tops.proofs.Tops.{unit_of}
use Rattle.dwz_def_tops.proofs.Targets.{binds_false}
use Rattle.dwz_groups.specs.declared.tops.TopRow.{TopRow}
use Rattle.dwz_groups.specs.declared.tops.Tops.{Tops}
use Rattle.dwz_plan.specs.Shows.{ShowsRows}
use Rattle.dwz_plan.proofs.ListFacts.{all_from_in}
use Rattle.dwz_label.specs.Nodes.{AreLeast, IsLeastAlike}
use Rattle.dwz_label_files.specs.LeastLaws.{flags_of}
use Rattle.dwz_label_files.specs.Shown.{ShowTargets}
use Rattle.dwz_move_files.specs.Outlines.{IsOutline}
use Rattle.dwz_move_files.proofs.FilesLow.{files_low}
use Rattle.dwz_move_files.proofs.ListParts.{all_none}
use Rattle.dwz_def_reading.specs.Meanings.{IfSo}

-- ---- a top that may move doesn't bind itself

pub outline_shows : (docs : List (Doc ℕ)) (tops : Tops) → IsOutline docs tops → ShowTargets (units_of docs) (flags_of tops) tops.targets
outline_shows docs tops o = record { flags = o.movable; are = λ t there m. o.targets t there (binds_false (units_of docs) t there m) }

pub flags_show : (docs : List (Doc ℕ)) (tops : Tops) (flags : List Bool) → IsOutline docs tops → flags ≡ flags_of tops → ShowTargets (units_of docs) flags tops.targets
flags_show docs tops flags o same = subst (λ (w : List Bool). ShowTargets (units_of docs) w tops.targets) (sym same) (outline_shows docs tops o)

-- ---- the number of files

pub with_files : (docs : List (Doc ℕ)) (tops : Tops) (files : ℕ) → IsOutline docs tops → files ≡ length docs → IsOutline docs (record tops { files = files })
with_files docs tops files o e =
    let low = files_low docs files (omega (arith, e)) in
    record {
      shows = record {
        rows = o.shows.rows;
        weights = o.shows.weights;
        len = o.shows.len;
        targets = o.shows.targets;
        files_of_units = o.shows.files_of_units;
        files = subst (λ (w : List ℕ). All (λ file. file < files) w) (sym o.shows.files_of_units) low;
      };
      places = o.places;
      movable = o.movable;
      targets = o.targets;
      inside = o.inside;
    }

-- ---- how many rows there are

rows_long : (units : List (FileUnit EntryName)) (rows : List TopRow) (tops : List Top) → ShowsRows units rows tops → length rows ≡ length tops
rows_long units [] [] h = refl
rows_long units [] (t ∷ tops) h = absurd h
rows_long units (row ∷ rows) [] h = absurd h
rows_long units (row ∷ rows) (t ∷ tops) h = ap suc (rows_long units rows tops h.1)

pub rows_many : (docs : List (Doc ℕ)) (tops : Tops) → IsOutline docs tops → length tops.rows ≡ length (tops_of (units_of docs))
rows_many docs tops o = rows_long (units_of docs) tops.rows (tops_of (units_of docs)) o.shows.rows

pub units_many : (docs : List (Doc ℕ)) (tops : Tops) → IsOutline docs tops → length tops.files_of_units ≡ length (units_of docs)
units_many docs tops o = ap (λ (w : List ℕ). length w) o.shows.files_of_units ∙ length-map (units_of docs) (λ (f : FileUnit EntryName). f.file)

-- ---- units and targets are there

unit_low : (units : List (FileUnit EntryName)) (t : Top) → In t (tops_of units) → t.unit < length units
unit_low units t there = let o = unit_of units t there in let lt = nth_below 0 units t.unit o.unit o.nth in omega arith

within : (n : ℕ) (units : List (FileUnit EntryName)) (rows : List TopRow) (tops : List Top) → ShowsRows units rows tops → ((t : Top) → In t tops → t.unit < n) → All (λ row. row.unit < n) rows
within n units [] [] h low = all_none (λ (row : TopRow). row.unit < n)
within n units [] (t ∷ tops) h low = absurd h
within n units (row ∷ rows) [] h low = absurd h
within n units (row ∷ rows) (t ∷ tops) h low =
    let here = low t (inl refl) in
    let same = h.0.unit in
    all_more (λ (r : TopRow). r.unit < n) row rows (omega arith) (within n units rows tops h.1 (λ u is. low u (inr is)))

pub rows_low : (docs : List (Doc ℕ)) (tops : Tops) → IsOutline docs tops → All (λ row. row.unit < length tops.files_of_units) tops.rows
rows_low docs tops o =
    subst (λ (n : ℕ). All (λ row. row.unit < n) tops.rows) (sym (units_many docs tops o))
    (within (length (units_of docs)) (units_of docs) tops.rows (tops_of (units_of docs)) o.shows.rows (unit_low (units_of docs)))

pub targets_low : (docs : List (Doc ℕ)) (tops : Tops) → IsOutline docs tops → All (λ ts. All (λ t. t < length tops.targets) ts) tops.targets
targets_low docs tops o k d lt =
    subst (λ (ts : List ℕ). All (λ t. t < length tops.targets) ts) (get_or_default tops.targets k [] d lt)
    (all_from_in (λ t. t < length tops.targets) (get_or tops.targets k []) (λ n there. o.inside k n there))

pub targets_rows : (docs : List (Doc ℕ)) (tops : Tops) → IsOutline docs tops → length tops.targets ≡ length tops.rows
targets_rows docs tops o = o.shows.len ∙ sym (rows_many docs tops o)

pub targets_in_rows : (docs : List (Doc ℕ)) (tops : Tops) → IsOutline docs tops → All (λ ts. All (λ t. t < length tops.rows) ts) tops.targets
targets_in_rows docs tops o = subst (λ (n : ℕ). All (λ ts. All (λ t. t < n) ts) tops.targets) (targets_rows docs tops o) (targets_low docs tops o)

-- ---- least alike tops are there

least_low : (units : List (FileUnit EntryName)) (least : List ℕ) → AreLeast units least → (t : Top) → In t (tops_of units) → t.number < length (tops_of units)
    → get_or least t.number 0 < length (tops_of units)
least_low units least are t there lt = by (is_movable units t) (are.each t there) where
  by : (b : Bool) → IfSo b (IsLeastAlike units t (get_or least t.number 0)) (get_or least t.number 0 ≡ t.number) → get_or least t.number 0 < length (tops_of units)
  by true is = is.inside
  by false is = omega (arith, is)

pub least_in_rows : (docs : List (Doc ℕ)) (tops : Tops) (least : List ℕ) → IsOutline docs tops → AreLeast (units_of docs) least → All (λ n. n < length tops.rows) least
least_in_rows docs tops least o are k d lt =
    let all = tops_of (units_of docs) in
    let len = are.len in
    let many = rows_many docs tops o in
    let t = top_at 0 all k (tops_numbers (units_of docs)) (omega arith) (omega arith) in
    let number = t.2 in
    let low : get_or least t.0.number 0 < length all = least_low (units_of docs) least are t.0 t.1 (omega arith) in
    let same : get_or least t.0.number 0 ≡ get_or least k d = ap (λ (n : ℕ). get_or least n 0) number ∙ get_or_default least k 0 d lt in
    omega arith

pub least_many : (docs : List (Doc ℕ)) (tops : Tops) (least : List ℕ) → IsOutline docs tops → AreLeast (units_of docs) least → length least ≡ length tops.rows
least_many docs tops least o are = are.len ∙ sym (rows_many docs tops o)
