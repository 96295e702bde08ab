-- What was read of a file, and what is read back of it, mean the same.
use Rattle.std.proofs.Common.{◌≡◌, ◌≢◌, ℕ, suc, Bool, true, false, List, [], ◌∷◌, ◌==◌, map, Option, Some, None, refl, sym, ap, subst, ◌∙◌, arith, eq-eqb}
use Rattle.std.proofs.lemmas.Bool.{ne_eqb}
use Rattle.dwz_def_reading.specs.Lists.{Each, In, Nth}
use Rattle.dwz_def_reading.specs.Documents.{Doc, DwUnit, Partial, kind_map, unit_map}
use Rattle.dwz_def_reading.specs.Finished.{given_by}
use Rattle.dwz_def_reading.specs.Meanings.{Common}
use Rattle.dwz_def_reading.specs.OtherPlaces.{AreCommonMapped, IsCommonMapped}
use Rattle.dwz_def_reading.specs.Places.{Place, at_file}
use Rattle.dwz_def_reading.specs.Units.{RawUnit}
use Rattle.dwz_def_tops.specs.Alike.{IsAlike, TopScope}
use Rattle.dwz_def_tops.specs.Shown.{units_keys}
use Rattle.dwz_def_tops.specs.Spots.{EntryName, units_of}
use Rattle.dwz_def_images.specs.Homes.{Common as InCommonFile, Home, IsChoice, Rule, same_home}
use Rattle.dwz_def_images.specs.Moves.{Move}
use Rattle.dwz_def_images.specs.Plan.{PartialUnit}
use Rattle.dwz_def_images.specs.After.{ArePlaced}
use Rattle.dwz_def_images.specs.Units.{changes, common_units, partial_unit, partial_units}
use Rattle.dwz_def_encoding.specs.Meant.{placed_unit, placed_units}
use Rattle.dwz_def_readback.specs.AllFiles.{AllBack, SaysStill}
use Rattle.dwz_def_readback.specs.Back.{IsPlacing, SaysPlaced, SaysUnits, run_of}
use Rattle.dwz_def_readback.specs.Files.{Run, Stored, common_fitted, common_forms, fitted, places}
use Rattle.dwz_def_readback.proofs.SameLemmas.{numbers_in}
use Rattle.dwz_def_readback.proofs.StillPlaces.{nth_number}
use Rattle.dwz_def_encoding.specs.Placing.{fit_unit, fit_units, with_keys}
use Rattle.dwz_def_cross.specs.CrossSame.{CrossSame}
use Rattle.dwz_law_cross.specs.PairLaws.{with_common}
use Rattle.dwz_law_cross.specs.BesideLaws.{IsPlacedFor, new_units, shared_units}
use Rattle.dwz_law_cross.specs.ReadLaws.{doc_in}
use Rattle.dwz_law_cross.specs.CheckLaws.{CheckLaw, MeanSame}
use Rattle.dwz_law_cross.proofs.MeetLemmas.{meet}
use Rattle.dwz_law_cross.proofs.RenumberLemmas.{placed_then, says_renumbered, units_then}

-- ---- the units of the common file are partial

parts_partial : (m : Move) (h : Home) (s : ℕ) (parts : List PartialUnit) → Each (λ u. u.kind ≡ Partial) (partial_units m h s parts)
unfolding partial_units
parts_partial m h s [] = tt
parts_partial m h s (p ∷ parts) = by (same_home p.home h) (parts_partial m h (suc s) parts) where
  by : (b : Bool) → Each (λ u. u.kind ≡ Partial) (partial_units m h (suc s) parts)
      → Each (λ u. u.kind ≡ Partial) (elim b as (λ _. List (DwUnit EntryName)) [ true ↦ partial_unit m s ∷ partial_units m h (suc s) parts | false ↦ partial_units m h (suc s) parts ])
  by true rest = (refl, rest)
  by false rest = rest

maps_partial : {X Y : Type 0} (f : DwUnit X → DwUnit Y) → ((u : DwUnit X) → u.kind ≡ Partial → (f u).kind ≡ Partial) → (units : List (DwUnit X)) → Each (λ u. u.kind ≡ Partial) units
    → Each (λ u. u.kind ≡ Partial) (map f units)
maps_partial f keeps [] h = tt
maps_partial f keeps (u ∷ units) h = (keeps u h.0, maps_partial f keeps units h.1)

pub all_partial : (r : Run) (g : EntryName → Place) → Each (λ u. u.kind ≡ Partial) (shared_units r g)
unfolding common_units common_fitted fit_units
all_partial r g =
    maps_partial (placed_unit (places r) g) (λ u e. ap (kind_map g) e) (common_fitted r)
    (maps_partial (fit_unit (with_keys (common_forms r) (units_keys (common_units r.move)))) (λ u e. e) (common_units r.move) (parts_partial r.move InCommonFile 0 r.move.parts))

-- ---- places with other numbers

abbrev pub number_by : Bool → ℕ → ℕ → ℕ
number_by true new common = new
number_by false new common = common

-- places of the file get the one number, and all others get the other
abbrev pub moved_to : ℕ → ℕ → ℕ → Place → Place
moved_to file new common p = at_file (number_by (p.file == file) new common) p.at

module _ (file shared new common : ℕ) (apart : file ≢ shared) where
  pub own_moved : (n : ℕ) → at_file new n ≡ moved_to file new common (at_file file n)
  own_moved n = ap (λ (b : Bool). at_file (number_by b new common) n) (sym (eq-eqb file file refl))

  pub shared_moved : (n : ℕ) → at_file common n ≡ moved_to file new common (at_file shared n)
  shared_moved n = ap (λ (b : Bool). at_file (number_by b new common) n) (sym (ne_eqb shared file (λ e. apart (sym e))))

  pub given_moved : (bytes : List ℕ) (raw : List RawUnit) → IsCommonMapped (moved_to file new common) (given_by shared bytes raw) (given_by common bytes raw)
  given_moved bytes raw = record { entries = refl; place = λ n h. shared_moved n; strs = refl }

  -- a file that stays, with another number, beside a common file with another one
  pub still_says : (c d : Option (Common Place)) → AreCommonMapped (moved_to file new common) c d → (bytes : List ℕ) (doc : Doc ℕ) → (still : SaysStill c file bytes doc)
      → SaysUnits d new bytes still.raw (doc_in new doc).units
  still_says c d mapped bytes doc still =
      subst (λ (w : List (DwUnit Place)). SaysUnits d new bytes still.raw w) (units_then (at_file file) (moved_to file new common) (at_file new) (λ p. sym (own_moved p)) doc.units)
      (says_renumbered (moved_to file new common) c d file new bytes still.raw (map (unit_map (at_file file)) doc.units) own_moved mapped still.says)

-- and that common file
pub common_says : (r : Run) (g : EntryName → Place) (file new common : ℕ) → file ≢ r.common → (bytes : List ℕ) (c : SaysPlaced r g None r.common bytes (common_fitted r))
    → SaysUnits None common bytes c.raw (shared_units r (λ k. moved_to file new common (g k)))
common_says r g file new common apart bytes c =
    subst (λ (w : List (DwUnit Place)). SaysUnits None common bytes c.raw w) (placed_then (places r) g (moved_to file new common) (common_fitted r))
    (says_renumbered (moved_to file new common) None None r.common common bytes c.raw (placed_units (places r) g (common_fitted r)) (shared_moved file r.common new common apart) tt c.says)

-- the common file has no units where nothing is to stand in it
pub none_shared : (r : Run) (at : EntryName → Place) → common_units r.move ≡ [] → shared_units r at ≡ []
unfolding common_fitted fit_units
none_shared r at e = ap (λ (w : List (DwUnit EntryName)). placed_units (places r) at (map (fit_unit (with_keys (common_forms r) (units_keys w))) w)) e

module _ (scope : TopScope) (docs : List (Doc ℕ)) (rule : Rule) (placed : Each (λ doc. ArePlaced doc.units) docs) (is : IsAlike scope (units_of docs) rule.alike)
    (choice : IsChoice (units_of docs) rule) (input : Stored) (output : ℕ → List ℕ) (file : ℕ) (doc : Doc ℕ) (nth : Nth 0 docs file doc)
    (changed : changes (run_of rule docs input).move (units_of docs) file ≡ true) (old new common : ℕ) (old_apart : old ≢ common) (new_apart : new ≢ common) where
  abbrev r : Run
  r = run_of rule docs input

  there : In file r.files
  there = nth_number 0 docs file doc nth

  apart : file ≢ r.common
  apart e = (let less = numbers_in 0 docs file there in omega (arith, e, less))

  abbrev was : List (DwUnit Place)
  was = map (unit_map (at_file old)) doc.units

  module _ (g : EntryName → Place) (placing : IsPlacing r g) where
    abbrev at : EntryName → Place
    at k = moved_to file new common (g k)

    placed_for : IsPlacedFor r file new common at
    placed_for = record {
      own = λ k h. ap (moved_to file new common) (sym (placing.written file there changed k h)) ∙ sym (own_moved file r.common new common apart ((places r).place k));
      shared = λ k h. ap (moved_to file new common) (sym (placing.common k h)) ∙ sym (shared_moved file r.common new common apart ((places r).place k));
    }

    same : CrossSame (with_common was (shared_units r at)) (with_common (new_units r at file) (shared_units r at))
    same = meet scope docs rule placed is choice input file doc nth old new common old_apart new_apart at placed_for

    new_says : (c d : Option (Common Place)) → AreCommonMapped (moved_to file new common) c d → (says : SaysPlaced r g c file (output file) (fitted r file))
        → SaysUnits d new (output file) says.raw (new_units r at file)
    new_says c d mapped says =
        subst (λ (w : List (DwUnit Place)). SaysUnits d new (output file) says.raw w) (placed_then (places r) g (moved_to file new common) (fitted r file))
        (says_renumbered (moved_to file new common) c d file new (output file) says.raw (placed_units (places r) g (fitted r file)) (own_moved file r.common new common apart) mapped says.says)

    beside : (bytes : List ℕ) (c : SaysPlaced r g None r.common bytes (common_fitted r))
        → SaysPlaced r g (Some (given_by r.common bytes c.raw)) file (output file) (fitted r file) → SaysStill (Some (given_by r.common bytes c.raw)) file (input.bytes file) doc
        → MeanSame (Some bytes) old new common doc (input.bytes file) (output file)
    beside bytes c says still = (
      c.raw,
      shared_units r at,
      common_says r g file new common apart bytes c,
      all_partial r at,
      record {
        old_raw = still.raw;
        old_says = still_says file r.common old common apart (Some (given_by r.common bytes c.raw)) (Some (given_by common bytes c.raw)) (given_moved file r.common old common apart bytes c.raw) (input.bytes file) doc still;
        new_raw = says.raw;
        new_units = new_units r at file;
        new_says = new_says (Some (given_by r.common bytes c.raw)) (Some (given_by common bytes c.raw)) (given_moved file r.common new common apart bytes c.raw) says;
        same = same;
      },
    )

    by_itself : common_units r.move ≡ [] → SaysPlaced r g None file (output file) (fitted r file) → SaysStill None file (input.bytes file) doc → MeanSame None old new common doc (input.bytes file) (output file)
    by_itself none says still = record {
      old_raw = still.raw;
      old_says = still_says file r.common old common apart None None tt (input.bytes file) doc still;
      new_raw = says.raw;
      new_units = new_units r at file;
      new_says = new_says None None tt says;
      same = subst (λ (w : List (DwUnit Place)). CrossSame (with_common was w) (with_common (new_units r at file) w)) (none_shared r at none) same;
    }

    mean : (common_bytes : Option (List ℕ)) → AllBack scope docs rule input output common_bytes g → MeanSame common_bytes old new common doc (input.bytes file) (output file)
    mean None back = by_itself back.common (back.file file there changed) (back.still file doc nth)
    mean (Some bytes) back = beside bytes back.common (back.file file there changed) (back.still file doc nth)

pub checks : CheckLaw
checks scope docs rule placed is choice input output common_bytes back file doc nth changed old new common old_apart new_apart =
    mean scope docs rule placed is choice input output file doc nth changed old new common old_apart new_apart back.place back.placing common_bytes back.back
