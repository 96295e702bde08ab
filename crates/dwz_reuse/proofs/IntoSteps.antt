-- The top that an entry of a common file is in, by its number.
use Rattle.std.proofs.Common.{◌≡◌, ℕ, ◌<◌, List, length, map, None, Some, Ok, slice_get, refl, sym, ap, subst, ◌∙◌, arith}
use Rattle.dwz_model.proofs.ListFacts.{got_in, got_index_or, got_map, got_there}
use Rattle.dwz_check_index.specs.Both.{from_top}
use Rattle.dwz_check_index.specs.Index.{Called, CrossIndex, IsCrossIndex, stands_of}
use Rattle.dwz_check_index.specs.declared.index.Stands.{Stands}
use Rattle.dwz_check_index.specs.declared.index.Stands.TheVariants.{InTop}
use Rattle.dwz_check_labels.specs.FilesSaid.{around_given}
use Rattle.dwz_check_labels.proofs.EntryLemmas.{row_of}
use Rattle.dwz_def_check.specs.CrossNames.{AtPath, CrossName, PartRoot, PartSpace, WholeRoot, WholeSpace, cross_names_from}
use Rattle.dwz_def_reading.specs.Documents.{Doc, Node}
use Rattle.dwz_def_reading.specs.Entries.{RawEntry}
use Rattle.dwz_def_reading.specs.Meanings.{MeaningContext, scope_of, without_siblings}
use Rattle.dwz_def_reading.specs.Meant.{attrs_meaning, node_meaning, node_with}
use Rattle.dwz_def_reading.specs.Units.{RawUnit, entries_in}
use Rattle.dwz_def_reading.proofs.PartLemmas.{bind_ok}
use Rattle.dwz_def_taken.specs.Beside.{as_compile, own_tops, reused_of}
use Rattle.dwz_def_tops.specs.Lists.{NoneTwice}
use Rattle.dwz_def_tops.specs.Shown.{units_keys}
use Rattle.dwz_def_tops.specs.Spots.{spots_from, tops_of, units_of}
use Rattle.dwz_def_tops.proofs.NameLists.{firsts, spots_firsts}
use Rattle.dwz_graph.specs.declared.file.File.{File}
use Rattle.dwz_graph.specs.Names.{top_in}
use Rattle.dwz_graph.specs.Resolved.{place_at}
use Rattle.dwz_reuse.specs.Read.{IsCommonRead}
use Rattle.dwz_reuse.proofs.CommonPlaced.{compile_keys}
use Rattle.dwz_reuse.proofs.PlaceNames.{name_at, names_found}
use Rattle.dwz_unit.specs.Rows.{EntryRow, rows_of, units_of as raw_units}
use Rattle.dwz_reuse.specs.Into.{common_name, top_called}
use Rattle.dwz_reuse.proofs.SpotNames.{top_same}

pub stands_top : (x : CrossName) (top : ℕ) → stands_of x ≡ InTop top → Some top ≡ top_called x
stands_top (AtPath n path) top e = (let same : n ≡ top = cc in ap (λ (k : ℕ). Some k) (sym same))
stands_top (WholeRoot n) top e = absurd cc
stands_top (WholeSpace n names) top e = absurd cc
stands_top PartRoot top e = absurd cc
stands_top (PartSpace names) top e = absurd cc

pub stands_else : (x : CrossName) (s : Stands) → s ≡ stands_of x → ((top : ℕ) → s ≡ InTop top → ⊥) → None ≡ top_called x
stands_else (AtPath n path) s e none = absurd (none n e)
stands_else (WholeRoot n) s e none = refl
stands_else (WholeSpace n names) s e none = refl
stands_else PartRoot s e none = refl
stands_else (PartSpace names) s e none = refl

node_place : (s : MeaningContext ℕ) (e : RawEntry) (d : Node ℕ) → node_meaning s e ≡ Ok d → d.at ≡ s.around.place e.at
node_place s e d h =
    let x = bind_ok (attrs_meaning s (without_siblings e.attrs)) (node_with s e) d h in
    let n : Node ℕ = record { at = s.around.place e.at; tag = e.tag; attrs = x.0 } in
    let same : n ≡ d = cc in
    sym (ap (λ (w : Node ℕ). w.at) same)

module _ (docs : List (Doc ℕ)) (f : File) (doc : Doc ℕ) (s : IsCommonRead f doc) (index : CrossIndex) (is : IsCrossIndex (from_top (own_tops (reused_of docs doc))) doc.units index)
    (long : length index.steps ≡ entries_in (raw_units f.units)) where
  abbrev raw : List RawUnit
  raw = raw_units f.units

  abbrev names : List Called
  names = cross_names_from 0 (own_tops (reused_of docs doc)) doc.units

  once : NoneTwice (firsts (spots_from (length (units_of docs)) (length (tops_of (units_of docs))) (map as_compile doc.units)))
  once = subst NoneTwice (sym (spots_firsts (length (units_of docs)) (length (tops_of (units_of docs))) (map as_compile doc.units) (s.parts).kinds)) (s.parts).apart

  keys_once : NoneTwice (units_keys doc.units)
  keys_once = subst NoneTwice (compile_keys doc.units) (s.parts).apart

  pub record EntryTop (i : ℕ) : Type 0 where
    pub called : Called
    pub got : slice_get names i ≡ Some called
    pub same : top_called called.1 ≡ top_in (common_name docs doc (place_at raw i))

  pub entry_top : (i : ℕ) → i < entries_in raw → EntryTop i
  entry_top i lt =
      let many = is.names.len in
      let n = got_there names i (omega (arith, lt, long, many)) in
      let x = got_there index.steps i (omega (arith, lt, long)) in
      let shown = is.names.each i x.0 n.0 x.1 n.1 in
      let r = row_of (around_given f None) raw doc.units i shown.entry s.said.means shown.found in
      let place : place_at raw i ≡ r.row.entry.at = got_index_or (map (λ (w : EntryRow). w.entry.at) (rows_of raw)) i r.row.entry.at 0 (got_map (λ (w : EntryRow). w.entry.at) (rows_of raw) i r.row r.found) in
      let at : (shown.entry.0).at ≡ r.row.entry.at = node_place (scope_of (around_given f None) r.u) r.row.entry shown.entry.0 r.means in
      let here : place_at raw i ≡ (n.0).0 = place ∙ sym at ∙ shown.place in
      record {
        called = n.0;
        got = n.1;
        same = sym (ap (λ (p : ℕ). top_in (common_name docs doc p)) here
            ∙ top_same (length (units_of docs)) (own_tops (reused_of docs doc)) doc.units s.partial once (name_at names) (names_found (own_tops (reused_of docs doc)) doc.units keys_once) (n.0).0 (n.0).1
            (got_in names i n.0 n.1));
      }
