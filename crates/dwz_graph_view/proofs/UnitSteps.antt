-- What is shown of a unit that was found.
use Rattle.std.proofs.Common.{◌≡◌, ℕ, zero, suc, ◌+◌, ◌<◌, ◌≤◌, ◌^◌, List, [], ◌∷◌, length, Option, Some, slice_get, Ok, refl, sym, ap, subst, ◌∙◌, inl, inr, arith}
use Rattle.dwz_model.specs.declared.place.UnitKind.{UnitKind}
use Rattle.dwz_model.specs.declared.place.UnitKind.TheVariants.{TypeUnit as IsTypeUnit}
use Rattle.dwz_def_reading.specs.Documents.{Doc, DwUnit, Kind, Node, first_named, number_of_attr}
use Rattle.dwz_def_reading.specs.Entries.{given}
use Rattle.dwz_def_reading.specs.Files.{Limits, around_of, debug_abbrev, debug_info, file_meaning, longest_file}
use Rattle.dwz_def_reading.specs.Lists.{Each, In}
use Rattle.dwz_def_reading.specs.Meanings.{MeaningContext, MeansKind, MeansNode, MeansUnit, places_of, scope_of}
use Rattle.dwz_def_reading.specs.Units.{CompileUnit, PartialUnit, RawKind, RawUnit, TypeUnit, entries_in}
use Rattle.dwz_def_reading.proofs.FileLemmas.{file_agrees}
use Rattle.dwz_def_reading.proofs.ListFacts.{got_map, in_left, in_right, same_got}
use Rattle.dwz_def_reading.proofs.MeaningUnits.{unit_agrees}
use Rattle.dwz_def_reading.proofs.UnitMeans.{unit_meant}
use Rattle.dwz_def_tops.specs.Seen.{IsPartial}
use Rattle.dwz_def_tops.specs.Spots.{in_file}
use Rattle.dwz_graph.specs.declared.file.File.{File}
use Rattle.dwz_graph.specs.Files.{AreKept, docs_of}
use Rattle.dwz_graph.proofs.IndexRoom.{info_within, many_units}
use Rattle.dwz_graph.proofs.PlaceLemmas.{Ascend, unit_and_entries, units_and_entries_ascend}
use Rattle.dwz_unit.proofs.RowsFound.{row_is}
use Rattle.dwz_graph.proofs.UnitBuilding.{root_within}
use Rattle.dwz_graph.proofs.UnitStarts.{all_whole}
use Rattle.dwz_graph.proofs.UnitsMean.{none_partial, places_number}
use Rattle.dwz_graph.proofs.UnitThere.{same_unit}
use Rattle.dwz_unit.proofs.UnitThere.{UnitThere, root_found, unit_there}
use Rattle.dwz_unit.specs.declared.rows.RawEntry.{RawEntry as EntryOfCode}
use Rattle.dwz_unit.specs.declared.rows.RawUnit.{RawUnit as UnitOfCode}
use Rattle.dwz_unit.specs.Rows.{EntryRow, kind_number, rows_of, shown_entries, shown_units, signature_of, type_offset_of, unit_shown, units_of}
use Rattle.dwz_graph_view.specs.Finding.{HasUnit, IsShownKind}
use Rattle.dwz_graph_view.specs.UnitViews.{IsUnit, ShowsKind, place_in}
use Rattle.dwz_graph_view.proofs.FileDocs.{IsFileOf, file_of}

-- ---- places are small

ascend_in : (ps : List ℕ) (a b p : ℕ) → Ascend a ps b → In p ps → (a ≤ p) × (p < b)
ascend_in [] a b p h i = absurd i
ascend_in (q ∷ ps) a b p h i = elim i [
  | inl e ↦ (let high = last ps (q + 1) b h.1 in let low = h.0 in (omega arith, omega arith))
  | inr j ↦ (let r = ascend_in ps (q + 1) b p h.1 j in let low = h.0 in let from = r.0 in (omega arith, r.1))
] where
  last : (ps : List ℕ) (a b : ℕ) → Ascend a ps b → a ≤ b
  last [] a b h = h
  last (q ∷ ps) a b h = (let r = last ps (q + 1) b h.1 in let low = h.0 in omega arith)

in_unit : (raw : List RawUnit) (n : ℕ) (u : RawUnit) (p : ℕ) → slice_get raw n ≡ Some u → In p (u.at ∷ places_of u) → In p (unit_and_entries raw)
unfolding unit_and_entries
in_unit [] n u p e h = absurd cc
in_unit (w ∷ raw) zero u p e h =
    let same : w ≡ u = cc in
    in_left p (w.at ∷ places_of w) (unit_and_entries raw) (subst (λ (x : RawUnit). In p (x.at ∷ places_of x)) (sym same) h)
in_unit (w ∷ raw) (suc n) u p e h = in_right p (w.at ∷ places_of w) (unit_and_entries raw) (in_unit raw n u p e h)

-- a place of a unit or of an entry of it
pub place_small : (l : Limits) (bytes : List ℕ) (raw : List RawUnit) (doc : Doc ℕ) (n : ℕ) (u : RawUnit) (p : ℕ) → file_meaning l bytes ≡ Ok (raw, doc) → slice_get raw n ≡ Some u
    → In p (u.at ∷ places_of u) → p < 2 ^ 32
unfolding longest_file
place_small l bytes raw doc n u p e got h =
    let r = ((file_agrees l bytes).ok (raw, doc)).0 e in
    let up = units_and_entries_ascend (debug_abbrev bytes) (given l.entries) raw 0 0 (debug_info bytes) r.spelled in
    let at = ascend_in (unit_and_entries raw) 0 (0 + length (debug_info bytes)) p up (in_unit raw n u p got h) in
    let low = at.1 in
    let within = info_within bytes in
    let size = r.size.file in
    omega arith

-- ---- a unit of a file, and what it means

pub record UnitOf (contents : List (List ℕ)) (file k : ℕ) (f : File) : Type 0 where
  pub of : IsFileOf contents file f
  pub u : RawUnit
  pub is_unit : slice_get (units_of f.units) k ≡ Some u
  pub v : DwUnit ℕ
  pub said : slice_get of.read.doc.units k ≡ Some v
  pub means : MeansUnit (around_of of.bytes (units_of f.units)) u v

meant : (contents : List (List ℕ)) (file k : ℕ) (f : File) (u : RawUnit) → IsFileOf contents file f → slice_get (units_of f.units) k ≡ Some u → UnitOf contents file k f
meant contents file k f u o is =
    let raw = units_of f.units in
    let r = ((file_agrees o.limits o.bytes).ok (raw, o.read.doc)).0 o.read.means in
    let around = around_of o.bytes raw in
    let x = unit_meant around raw o.read.doc.units r.means k u is in
    record { of = o; u = u; is_unit = is; v = x.0; said = x.2; means = ((unit_agrees around u).ok x.0).0 x.1 }

-- the number of the unit is one of the file's
pub unit_low : (contents : List (List ℕ)) (files : List File) (n file k : ℕ) (f : File) → AreKept contents files → slice_get files file ≡ Some f → HasUnit contents n file k
    → k < length (units_of f.units)
unit_low contents files n file k f kept got has =
    let o = file_of contents files file f kept got in
    let same = same_got (docs_of contents) file o.read.doc has.doc o.doc_is has.there in
    let many = many_units o.limits o.bytes (units_of f.units) o.read.doc o.read.means in
    let long = ap (λ (w : Doc ℕ). length w.units) same in
    let within = has.within in
    omega arith

-- ---- its kind

-- it isn't partial
whole : (contents : List (List ℕ)) (file k : ℕ) (f : File) (m : UnitOf contents file k f) → IsPartial m.v.kind → ⊥
whole contents file k f m =
    let raw = units_of f.units in
    let o = m.of in
    let r = ((file_agrees o.limits o.bytes).ok (raw, o.read.doc)).0 o.read.means in
    let all = none_partial (around_of o.bytes raw) raw o.read.doc.units r.means (places_number raw (all_whole f.units o.read.given)) in
    each_at o.read.doc.units k m.v all m.said where
      each_at : (vs : List (DwUnit ℕ)) (n : ℕ) (v : DwUnit ℕ) → Each (λ w. IsPartial w.kind → ⊥) vs → slice_get vs n ≡ Some v → IsPartial v.kind → ⊥
      each_at [] n v h e = absurd cc
      each_at (w ∷ vs) zero v h e = let same : w ≡ v = cc in subst (λ (x : DwUnit ℕ). IsPartial x.kind → ⊥) same h.0
      each_at (w ∷ vs) (suc n) v h e = each_at vs n v h.1 e

kind_shows : (s : MeaningContext ℕ) (file first : ℕ) (u : RawUnit) (kind : Kind ℕ) (x : UnitOfCode) (shown : UnitKind) → s.unit ≡ u.at → ((p : ℕ) → s.around.place p ≡ p) → MeansKind s u.kind kind
    → (IsPartial kind → ⊥) → unit_shown first u ≡ x → IsShownKind file x shown → ShowsKind file kind shown
kind_shows s file first u kind x shown at same means other is h = by u.kind means (ap (λ (w : UnitOfCode). w.kind) is) (ap (λ (w : UnitOfCode). w.signature) is) (ap (λ (w : UnitOfCode). w.type_offset) is) where
  by : (k : RawKind) → MeansKind s k kind → kind_number k ≡ x.kind → signature_of k ≡ x.signature → type_offset_of k ≡ x.type_offset → ShowsKind file kind shown
  by CompileUnit e number signed offset = subst (λ (w : Kind ℕ). ShowsKind file w shown) (sym e) (h.other (λ two. omega (arith, number, two)))
  by PartialUnit e number signed offset = absurd (other (subst IsPartial (sym e) tt))
  by (TypeUnit signature type_offset) e number signed offset =
      let here : u.at ≡ x.at = ap (λ (w : UnitOfCode). w.at) is in
      let main : x.at + x.type_offset ≡ s.around.place (s.unit + type_offset) = omega (arith, here, at, offset, same (s.unit + type_offset)) in
      subst (λ (w : Kind ℕ). ShowsKind file w shown) (sym e.1)
      (h.type_unit (sym number) ∙ (λ i. IsTypeUnit (sym signed i) (place_in file (main i))))

kind_room : (s : MeaningContext ℕ) (first : ℕ) (u : RawUnit) (kind : Kind ℕ) (x : UnitOfCode) → s.unit ≡ u.at → s.own ≡ places_of u → MeansKind s u.kind kind → unit_shown first u ≡ x
    → ((p : ℕ) → In p (u.at ∷ places_of u) → p < 2 ^ 32) → x.at + x.type_offset < 2 ^ 32
kind_room s first u kind x at own means is small = by u.kind means (ap (λ (w : UnitOfCode). w.type_offset) is) where
  here : u.at ≡ x.at
  here = ap (λ (w : UnitOfCode). w.at) is

  by : (k : RawKind) → MeansKind s k kind → type_offset_of k ≡ x.type_offset → x.at + x.type_offset < 2 ^ 32
  by CompileUnit e offset = (let low = small u.at (inl refl) in omega (arith, low, here, offset))
  by PartialUnit e offset = (let low = small u.at (inl refl) in omega (arith, low, here, offset))
  by (TypeUnit signature type_offset) e offset =
      let low = small (s.unit + type_offset) (inr (subst (λ (w : List ℕ). In (s.unit + type_offset) w) own e.0)) in
      omega (arith, low, here, at, offset)

-- ---- all of it

module _ (contents : List (List ℕ)) (files : List File) (n file k : ℕ) (f : File) (kept : AreKept contents files) (got : slice_get files file ≡ Some f) (has : HasUnit contents n file k) (x : UnitOfCode)
    (shown : slice_get (shown_units (units_of f.units)) k ≡ Some x) where
  abbrev raw : List RawUnit
  raw = units_of f.units

  abbrev row : UnitThere (rows_of raw) raw 0 k x
  row = unit_there raw k x shown

  abbrev m : UnitOf contents file k f
  m = meant contents file k f row.u (file_of contents files file f kept got) row.is_unit

  pub main_small : x.at + x.type_offset < 2 ^ 32
  main_small =
      let one = same_unit raw k row.u m.u row.is_unit m.is_unit in
      kind_room (scope_of (around_of m.of.bytes raw) m.u) x.first m.u m.v.kind x refl refl m.means.kind (subst (λ (w : RawUnit). unit_shown x.first w ≡ x) one row.shown)
      (λ p i. place_small m.of.limits m.of.bytes raw m.of.read.doc k m.u p m.of.read.means m.is_unit i)

  pub root_there : x.first < entries_in raw
  root_there = root_within raw k x shown

  pub unit_shows : (kind : UnitKind) (tongue : Option _) (e : EntryOfCode) → IsShownKind file x kind → slice_get (shown_entries raw) x.first ≡ Some e
      → ((s : MeaningContext ℕ) (r : EntryRow) (d : Node ℕ) → slice_get (rows_of raw) x.first ≡ Some r → MeansNode s r.entry d → tongue ≡ number_of_attr (first_named 0x13 d.attrs))
      → IsUnit (docs_of contents) n (record { place = place_in file x.at; kind = kind; language = tongue; root = place_in file e.at })
  unit_shows kind tongue e is root speaks =
      let one = same_unit raw k row.u m.u row.is_unit m.is_unit in
      let s : MeaningContext ℕ = scope_of (around_of m.of.bytes raw) m.u in
      let is_shown = subst (λ (w : RawUnit). unit_shown x.first w ≡ x) one row.shown in
      let same = same_got (docs_of contents) file m.of.read.doc has.doc m.of.doc_is has.there in
      let found = root_found raw k x row in
      let begins : row.u.root.at ≡ e.at = ap (λ (w : EntryOfCode). w.at) (row_is raw x.first e _ root found) in
      let means = subst (λ (w : RawUnit). MeansNode s w.root m.v.root) (sym one) m.means.root in
      record {
        unit = in_file file m.v;
        there = has.same ∙ got_map (in_file file) has.doc.units k m.v (subst (λ (w : Doc ℕ). slice_get w.units k ≡ Some m.v) same m.said);
        shows = record {
          place = ap (place_in file) (sym (m.means.place ∙ ap (λ (w : UnitOfCode). w.at) is_shown));
          kind = kind_shows s file x.first m.u m.v.kind x kind refl (λ p. refl) m.means.kind (whole contents file k f m) is_shown is;
          language_is = speaks s _ m.v.root found means;
          root = ap (place_in file) (sym (m.means.root.place ∙ ap (λ (w : RawUnit). w.root.at) (sym one) ∙ begins));
        };
      }
