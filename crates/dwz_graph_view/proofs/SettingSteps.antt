-- What is kept of the unit of an entry is what its values stand in.
use Rattle.std.proofs.Common.{◌≡◌, ℕ, zero, suc, ◌<◌, ◌^◌, true, List, [], ◌∷◌, length, Option, Some, slice_get, refl, sym, subst, ◌∙◌, inl, inr}
use Rattle.dwz_model.specs.declared.place.Base.{Base}
use Rattle.dwz_model.specs.declared.place.Base.TheVariants.{Unit as FromUnit, Info as FromInfo}
use Rattle.dwz_def_reading.specs.Files.{Limits, around_of}
use Rattle.dwz_def_reading.specs.Entries.{RawAttr}
use Rattle.dwz_def_reading.specs.Lists.{In}
use Rattle.dwz_def_reading.specs.Meanings.{MeaningContext, all_places, entries_for, has, places_of, scope_of}
use Rattle.dwz_def_reading.specs.Units.{RawUnit}
use Rattle.dwz_def_reading.proofs.ListFacts.{in_cases, same_got}
use Rattle.dwz_def_reading.proofs.MeaningLemmas.{has_in}
use Rattle.dwz_graph.specs.declared.file.File.{File}
use Rattle.dwz_graph.specs.Here.{Here}
use Rattle.dwz_graph.specs.Files.{IsRead}
use Rattle.dwz_graph.specs.Resolved.{IsHere, IsUnitHere, sources_view}
use Rattle.dwz_label_entries.specs.Plain.{KnowsLine}
use Rattle.dwz_label_entries.proofs.AttrsLemmas.{entry_in, line_for}
use Rattle.dwz_unit.proofs.RowsFound.{entry_row}
use Rattle.dwz_graph.proofs.RowUnits.{unit_within}
use Rattle.dwz_unit.specs.Rows.{EntryRow, rows_of, shown_entries, units_of}
use Rattle.dwz_unit.specs.declared.rows.RawEntry.{RawEntry as EntryOfCode}
use Rattle.dwz_unit.specs.declared.rows.RawUnit.{RawUnit as UnitOfCode}
use Rattle.dwz_graph_view.specs.Settings.{KnowsSetting}
use Rattle.dwz_graph_view.specs.declared.setting.Setting.{Setting}
use Rattle.dwz_graph_view.proofs.UnitSteps.{place_small}

-- a place of an entry is one of its unit's
of_some_unit : (raw : List RawUnit) (p : ℕ) → In p (all_places raw) → (n : ℕ) × (u : RawUnit) × (slice_get raw n ≡ Some u) × In p (places_of u)
unfolding all_places
of_some_unit [] p h = absurd h
of_some_unit (u ∷ raw) p h = elim (in_cases p (places_of u) (all_places raw) h) [
  | inl a ↦ (zero, u, refl, a)
  | inr b ↦ (let r = of_some_unit raw p b in (suc r.0, r.1, r.2, r.3))
]

-- the unit of an entry is one of those that were read
pub unit_low : (raw : List RawUnit) (i : ℕ) (x : EntryOfCode) → slice_get (shown_entries raw) i ≡ Some x → x.unit < length raw
unit_low raw i x shown =
    let row = entry_row raw i x shown in
    let low = unit_within raw i row.0 row.1 in
    subst (λ (w : EntryOfCode). w.unit < length raw) row.2 low

module _ (l : Limits) (k : ℕ) (bytes : List ℕ) (f : File) (read : IsRead l k bytes f) (n : ℕ) (u : RawUnit) (is_unit : slice_get (units_of f.units) n ≡ Some u) where
  abbrev raw : List RawUnit
  raw = units_of f.units

  abbrev s : MeaningContext ℕ
  s = scope_of (around_of bytes raw) u

  small : (base : Base) (p : ℕ) → has p (entries_for s base) ≡ true → p < 2 ^ 32
  small FromUnit p h = place_small l bytes raw read.doc n u p read.means is_unit (inr (has_in p (places_of u) h))
  small FromInfo p h =
      let r = of_some_unit raw p (has_in p (all_places raw) h) in
      place_small l bytes raw read.doc r.0 r.1 p read.means r.2 (inr r.3)

  here_is : (x : UnitOfCode) (h : Here) → IsUnitHere raw n x h → IsHere raw u h
  here_is x h is = subst (λ (w : RawUnit). IsHere raw w h) (same_got raw n is.u u is.is_unit is_unit) is.here

  pub known : (x : Setting) (unit : UnitOfCode) → IsUnitHere raw n unit x.here → sources_view x.sections.now ≡ sources_view f.sections → KnowsSetting x s
  known x unit is same =
      let h = here_is unit x.here is in
      record {
        scope = record { sources = sym (same ∙ read.sections); alone = refl; offsets = h.base; lists = h.lists };
        unit = h.at;
        place = λ p. refl;
        small = small;
      }

  pub lines_known : (i : ℕ) (row : EntryRow) (line : Option ℕ) (j : ℕ) (a : RawAttr) → slice_get (rows_of raw) i ≡ Some row → row.unit ≡ n → slice_get f.resolved.lines.items n ≡ Some line
      → slice_get row.entry.attrs j ≡ Some a → KnowsLine s a f.resolved.tables.items line
  lines_known i row line j a found number is got =
      line_for (around_of bytes raw) u f.resolved.tables.items line row.entry j a (read.lines.line n u line is_unit is) (entry_in raw i n row u found number is_unit) got
