-- The declarations of entries, by number.
use Rattle.std.proofs.Common.{◌≡◌, ℕ, ◌<◌, List, length, map, get_or, Option, Some, sym, ap, ◌∙◌}
use Rattle.std.specs.List.{All, slice_get}
use Rattle.std.proofs.lemmas.List.{get_or_default, length-map}
use Rattle.std.proofs.lemmas.Option.{get_or_from_slice_get, same_Some, slice_get-map}
use Rattle.std.proofs.lemmas.Simd.{map-map}
use Rattle.std.specs.Option.{option_map}
use Rattle.dwz_model.specs.declared.place.Pair.{Pair}
use Rattle.dwz_def_reading.specs.Units.{RawUnit, entries_in}
use Rattle.dwz_unit.specs.declared.mode.Mode.{Mode}
use Rattle.dwz_unit.specs.declared.rows.RawUnit.{RawUnit as UnitOfCode}
use Rattle.dwz_unit.specs.declared.rows.Row.{Row}
use Rattle.dwz_unit.specs.Declarations.{AreOf, Declarations}
use Rattle.dwz_unit.specs.Kept.{AreKept, source_of}
use Rattle.dwz_unit.specs.Known.{KnownRow, known_row, pairs_of, row_view}
use Rattle.dwz_unit.specs.Named.{named_count}
use Rattle.dwz_unit.specs.declared.stops.Stop.{Stop}
use Rattle.dwz_unit.specs.Stops.{stops_of}
use Rattle.dwz_unit.specs.Rows.{EntryRow, Source, rows_of, units_of}
use Rattle.dwz_unit.proofs.ShownLemmas.{rows_are, rows_from-length}
use Rattle.dwz_unit.proofs.ThereLemmas.{EntryThere, decl_within, entry_there}

-- ---- as they are kept

module _ (info abbrevs : List ℕ) (mode : Mode) (kept : List UnitOfCode) (rows : List Row) (decls : List (List Pair)) (source : Source) (are : AreKept info abbrevs mode kept rows decls) (view : source_of info abbrevs mode ≡ source) where
  pub decls_within : All (λ (x : Row). x.decl < length decls) rows
  decls_within i d lt =
      let x = get_or rows i d in
      decl_within info decls source i x (entry_there info abbrevs mode kept rows decls source are view i x lt (get_or_default rows i d (get_or rows i d) lt))

  pub declared : AreOf (rows_of (units_of source)) (record { pairs = decls; numbers = map (λ (x : Row). x.decl) rows })
  declared =
      map-map (λ (n : ℕ). slice_get decls n) (λ (x : Row). x.decl) rows
      ∙ sym (map-map (λ (k : KnownRow). k.pairs) (row_view decls) rows)
      ∙ ap (λ (w : List KnownRow). map (λ (k : KnownRow). k.pairs) w) (rows_are info abbrevs mode kept rows decls source are view)
      ∙ map-map (λ (k : KnownRow). k.pairs) known_row (rows_of (units_of source))

-- ---- of one entry

-- there is a number for each entry
pub numbers_length : (units : List RawUnit) (d : Declarations) → AreOf (rows_of units) d → length d.numbers ≡ entries_in units
numbers_length units d are =
    sym (length-map d.numbers (λ (n : ℕ). slice_get d.pairs n)) ∙ ap length are ∙ length-map (rows_of units) (λ (row : EntryRow). Some (pairs_of row.entry)) ∙ rows_from-length units 0 0

-- the declaration with an entry's number has the names and forms of its values
pub pairs_by_number : (rows : List EntryRow) (d : Declarations) → AreOf rows d → (i n : ℕ) (row : EntryRow) → slice_get d.numbers i ≡ Some n → slice_get rows i ≡ Some row
    → slice_get d.pairs n ≡ Some (pairs_of row.entry)
pairs_by_number rows d are i n row number there =
    let e : Some (slice_get d.pairs n) ≡ Some (Some (pairs_of row.entry)) =
    ap (λ (o : Option ℕ). option_map (λ (m : ℕ). slice_get d.pairs m) o) (sym number)
    ∙ sym (slice_get-map (λ (m : ℕ). slice_get d.pairs m) d.numbers i)
    ∙ ap (λ (w : List (Option (List Pair))). slice_get w i) are
    ∙ slice_get-map (λ (r : EntryRow). Some (pairs_of r.entry)) rows i
    ∙ ap (λ (o : Option EntryRow). option_map (λ (r : EntryRow). Some (pairs_of r.entry)) o) there in
    cc

-- ---- how many entries are named

-- what is counted of the declaration of the i-th entry is counted of the entry
pub named_is : (info : List ℕ) (decls : List (List Pair)) (source : Source) (i : ℕ) (x : Row) → EntryThere info decls source i x → (named : List (Option ℕ)) (count : Option ℕ) → named ≡ map named_count decls
    → count ≡ get_or named x.decl count → (row : EntryRow) → slice_get (rows_of (units_of source)) i ≡ Some row → count ≡ named_count (pairs_of row.entry)
named_is info decls source i x there named count are is row found =
    let pairs : slice_get decls x.decl ≡ Some (pairs_of there.row.entry) = ap (λ (w : KnownRow). w.pairs) there.known in
    let both : Some there.row ≡ Some row = sym there.row_is ∙ found in
    let one : there.row ≡ row = cc in
    let got : slice_get named x.decl ≡ Some (named_count (pairs_of there.row.entry)) =
    ap (λ (w : List (Option ℕ)). slice_get w x.decl) are ∙ slice_get-map named_count decls x.decl ∙ ap (λ (o : Option (List Pair)). option_map named_count o) pairs in
    is ∙ get_or_from_slice_get named x.decl (named_count (pairs_of there.row.entry)) count got ∙ ap (λ (r : EntryRow). named_count (pairs_of r.entry)) one

-- ---- stops

-- those of the declaration of the i-th entry are those of its values
pub stops_are : (info : List ℕ) (decls : List (List Pair)) (source : Source) (i : ℕ) (x : Row) → EntryThere info decls source i x → (all : List (List Stop)) (stops : List Stop) (pairs : List Pair) → all ≡ map stops_of decls
    → slice_get all x.decl ≡ Some stops → ((row : EntryRow) → slice_get (rows_of (units_of source)) i ≡ Some row → pairs ≡ pairs_of row.entry) → stops ≡ stops_of pairs
stops_are info decls source i x there all stops pairs are found is =
    let known : slice_get decls x.decl ≡ Some (pairs_of there.row.entry) = ap (λ (w : KnownRow). w.pairs) there.known in
    let got : slice_get all x.decl ≡ Some (stops_of (pairs_of there.row.entry)) =
    ap (λ (w : List (List Stop)). slice_get w x.decl) are ∙ slice_get-map stops_of decls x.decl ∙ ap (λ (o : Option (List Pair)). option_map stops_of o) known in
    same_Some stops (stops_of (pairs_of there.row.entry)) (sym found ∙ got) ∙ ap stops_of (sym (is there.row there.row_is))
