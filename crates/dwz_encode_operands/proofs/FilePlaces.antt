-- Of one file: what stands for an entry stands for itself, so its place is known, and the number of an operand and of a reference is so.
use Rattle.std.proofs.Common.{◌≡◌, ℕ, zero, suc, ◌+◌, ◌-◌, ◌<◌, Bool, true, false, List, [], ◌∷◌, ◌++◌, get_or, length, map, Some, slice_get, refl, sym, ap, subst, ◌∙◌, inl, inr, arith}
use Rattle.std.specs.Prelude.{All, slice_index}
use Rattle.std.proofs.lemmas.List.{ext_get_or, length-map}
use Rattle.std.proofs.lemmas.Option.{get_or_from_slice_get}
use Rattle.dwz_def_reading.specs.Lists.{In}
use Rattle.dwz_def_reading.specs.Units.{RawUnit, entries_in}
use Rattle.dwz_def_reading.proofs.ListFacts.{get_first, got_map, got_there, same_got}
use Rattle.dwz_def_reading.specs.Documents.{Doc, unit_map}
use Rattle.dwz_def_reading.specs.Files.{around_of, sources_of}
use Rattle.dwz_def_reading.proofs.FileLemmas.{file_agrees}
use Rattle.dwz_def_reading.proofs.MeaningUnits.{unit_agrees}
use Rattle.dwz_def_tops.specs.Spots.{EntryName, FileUnit, Top, UnitOf, Within, in_file, tops_of}
use Rattle.dwz_def_plan.specs.Moves.{image_in}
use Rattle.dwz_plan.proofs.DistinctLemmas.{get_in}
use Rattle.dwz_def_reading.specs.Places.{at_file}
use Rattle.dwz_def_readback.specs.Files.{places_by}
use Rattle.dwz_def_output.specs.Contents.{operand_number_after_by}
use Rattle.dwz_def_encoding.specs.Writing.{base_place}
use Rattle.dwz_def_encoding.specs.Meant.{led_to}
use Rattle.dwz_unit.specs.Rows.{units_of as raw_units}
use Rattle.dwz_graph.specs.ListOperand.{ListOperand}
use Rattle.dwz_graph.specs.ListRows.{AreOfFile, operand_view, start_of}
use Rattle.dwz_graph.specs.Resolved.{AreEntries, place_at}
use Rattle.dwz_graph.specs.declared.file.File.{File}
use Rattle.dwz_graph.specs.declared.index.Starts.{Starts}
use Rattle.dwz_graph.specs.Index.{Index}
use Rattle.dwz_graph.specs.Names.{names_from}
use Rattle.dwz_graph.proofs.TopNameLemmas.{stand_once}
use Rattle.dwz_graph.proofs.TopLemmas.{get_later}
use Rattle.dwz_graph.specs.Across.{file_units, name_at}
use Rattle.dwz_graph.specs.AcrossLaws.{IsAmong}
use Rattle.dwz_graph.proofs.FileEntries.{all_entries, names_entries, unit_of}
use Rattle.dwz_graph.proofs.FileWalk.{is_among}
use Rattle.dwz_layout_numbers.specs.Images.{AreImages, IsFile, IsImage}
use Rattle.dwz_graph.specs.EntryCounts.{starts_from}
use Rattle.dwz_graph.specs.AllNames.{StandFrom, all_names}
use Rattle.dwz_layout_numbers.specs.Whole.{IsFileAt}
use Rattle.dwz_layout_numbers.proofs.OwnerLemmas.{own_name}
use Rattle.dwz_layout_numbers.proofs.Paths.{paths_of}
use Rattle.dwz_layout_numbers.proofs.WholeLemmas.{file_at}
use Rattle.dwz_law_layout.specs.Beside.{Beside}
use Rattle.dwz_law_layout.specs.Facts.{AreFacts, RunFacts, common, docs, every, move, run, units}
use Rattle.dwz_law_layout.specs.NamedLaws.{IsItself}
use Rattle.dwz_law_layout.proofs.ImagesStand.{old, spot_cases}
use Rattle.dwz_law_layout.proofs.EveryNames.{stand_every}
use Rattle.dwz_encode_operands.specs.Operands.{AreNewNumbers, IsNewNumber}
use Rattle.dwz_encode_operands.specs.NumberLaws.{ArePlaces, AreUnitPlaces, stands_after}
use Rattle.dwz_encode_operands.proofs.RowEntries.{row_led}

module _ {beside : Beside} (f : RunFacts beside) (facts : AreFacts f) where
  abbrev img : EntryName → EntryName
  img = image_in (move f)

  -- what stands for the top stands for itself
  abbrev Settled : ℕ → Type 0
  Settled t = (move f).stand ((move f).stand t) ≡ (move f).stand t

  -- what stands for an entry stands for itself
  twice : (s : EntryName) (i : ℕ) → slice_get (all_names (docs f)) i ≡ Some s → img (img s) ≡ img s
  twice s i e = elim (spot_cases s) [
    | inl c ↦ in_top c.0 c.1 c.2
    | inr c ↦ ap img (c.1 (move f))
  ]
    where
      in_top : (top : ℕ) (path : List ℕ) → s ≡ Within top path → img (img s) ≡ img s
      in_top top path is = subst (λ (w : EntryName). img (img w) ≡ img w) (sym is) (ap (λ (v : ℕ). Within v path) (subst Settled own.2 (by ((move f).gone own.0.number) refl))) where
        own : (u : Top) × In u (tops_of (units f)) × (u.number ≡ top) × In path (paths_of u.below)
        own = own_name (docs f) i top path (e ∙ ap (λ (v : EntryName). Some v) is)

        by : (b : Bool) → (move f).gone own.0.number ≡ b → Settled own.0.number
        by true gone = facts.goes.twice own.0 own.1 gone
        by false e = ap (move f).stand (facts.goes.stays own.0.number e)

  -- its entries begin somewhere among all
  pub start_there : (n : ℕ) (x : File) (index : Index) → slice_get f.indexes n ≡ Some index → (start : ℕ) × (slice_get (starts_from 0 f.indexes) n ≡ Some start)
  unfolding starts_from
  start_there n x index e = by 0 f.indexes n e where
    by : (c : ℕ) (xs : List Index) (k : ℕ) → slice_get xs k ≡ Some index → (start : ℕ) × (slice_get (starts_from c xs) k ≡ Some start)
    by c [] k e = absurd cc
    by c (y ∷ xs) zero e = (c, refl)
    by c (y ∷ xs) (suc k) e = by (c + length y.steps) xs k e

  module _ (n : ℕ) (x : File) (index : Index) (is_file : slice_get f.files n ≡ Some x) (is_index : slice_get f.indexes n ≡ Some index)
      (start : ℕ) (start_is : slice_get (starts_from 0 f.indexes) n ≡ Some start) where
    pub among : IsAmong f.contents n x index
    among = is_among f.contents f.files f.indexes n x index facts.kept facts.indexed is_file is_index

    found : IsFileAt (docs f) n index start
    found = file_at (docs f) f.indexes facts.indexed n start index is_index start_is

    abbrev raw : List RawUnit
    raw = raw_units x.units

    abbrev doc : Doc ℕ
    doc = among.is.kept.read.doc

    abbrev pub names : List EntryName
    names = names_from index.starts.unit index.starts.top among.is.kept.read.doc.units

    stand : StandFrom (all_names (docs f)) names start
    stand =
        let doc_same : found.doc ≡ among.is.kept.read.doc = same_got (docs f) n found.doc among.is.kept.read.doc found.is_doc among.is.doc_is in
        let starts_same : found.starts ≡ index.starts = sym found.index.tops.starts_are in
        subst (λ (w : Starts). StandFrom (all_names (docs f)) (names_from w.unit w.top among.is.kept.read.doc.units) start) starts_same
        (subst (λ (w : Doc ℕ). StandFrom (all_names (docs f)) (names_from found.starts.unit found.starts.top w.units) start) doc_same found.stand)

    pub its_file : IsFile (every f) names index start
    its_file = record { shows = among.is.index.names; stand = stand_every f names start stand }

    abbrev named : ℕ → EntryName
    named i = name_at index.starts among.is.kept.read.doc (place_at (raw_units x.units) i)

    -- ---- units

    pub unit_after : (j : ℕ) → j < length raw → stands_after f n (start_of raw j) ≡ (places_by (common f) (run f)).place (UnitOf (index.starts.unit + j))
    unit_after j lt =
        let got = got_there raw j lt in
        let u = got.0 in
        let is = unit_of f.contents n among.bytes x index among.is j u got.1 in
        let first = unit_first in
        let nth = found.units j (in_file n (unit_map (name_at index.starts among.is.kept.read.doc) is.v)) (first j _ is.named_is) in
        let number : found.starts.unit + j ≡ index.starts.unit + j = ap (λ (w : Starts). w.unit + j) (sym found.index.tops.starts_are) in
        let named_so : name_at index.starts among.is.kept.read.doc is.v.at ≡ UnitOf (found.starts.unit + j) = ((old f facts).units_named (found.starts.unit + j) _ nth).unit in
        let at : is.v.at ≡ u.at = (((unit_agrees (around_of among.bytes raw) u).ok is.v).0 is.means).place in
        let start_at : start_of raw j ≡ u.at = get_or_from_slice_get (map (λ (w : RawUnit). w.at) raw) j u.at 0 (got_map (λ (w : RawUnit). w.at) raw j u got.1) in
        let name : (run f).name (at_file n (start_of raw j)) ≡ UnitOf (index.starts.unit + j) =
        among.is.names (start_of raw j)
        ∙ ap (name_at index.starts among.is.kept.read.doc) (start_at ∙ sym at)
        ∙ named_so
        ∙ ap UnitOf number in
        ap (λ (w : EntryName). (places_by (common f) (run f)).place (img w)) name
      where
        unit_first : (k : ℕ) (u : FileUnit EntryName) → slice_get (file_units index.starts n among.is.kept.read.doc) k ≡ Some u → slice_get (file_units found.starts n found.doc) k ≡ Some u
        unit_first k u e =
            let doc_same : found.doc ≡ among.is.kept.read.doc = same_got (docs f) n found.doc among.is.kept.read.doc found.is_doc among.is.doc_is in
            let starts_same : found.starts ≡ index.starts = sym found.index.tops.starts_are in
            (λ i. slice_get (file_units (starts_same i) n (doc_same i)) k) ∙ e

    pub starts_after : (units_at : List ℕ) → length units_at ≡ length raw → AreUnitPlaces f index.starts.unit raw units_at
        → units_at ≡ map (stands_after f n) (map (λ (u : RawUnit). u.at) raw)
    starts_after units_at many are =
        let starts = map (λ (u : RawUnit). u.at) raw in
        let long = length-map starts (stands_after f n) in
        let as_many = length-map raw (λ (u : RawUnit). u.at) in
        ext_get_or 0 units_at (map (stands_after f n) starts) (many ∙ sym as_many ∙ sym long) (λ j lt.
        (let low : j < length raw = omega (arith, lt, many) in
        let got = got_there raw j low in
        let u = got.0 in
        let there = got_map (λ (w : RawUnit). w.at) raw j u got.1 in
        let start_at : start_of raw j ≡ u.at = get_or_from_slice_get starts j u.at 0 there in
        are j low
        ∙ sym (unit_after j low)
        ∙ ap (stands_after f n) start_at
        ∙ sym (get_or_from_slice_get (map (stands_after f n) starts) j (stands_after f n u.at) 0 (got_map (stands_after f n) starts j u.at there))))

    -- ---- operands name entries

    pub operands_there : All (λ o. o.entry < length index.steps) x.resolved.operands.items
    operands_there = λ k d lt.
        (let low = (among.is.kept.read.of_file (get_or x.resolved.operands.items k d) (get_in x.resolved.operands.items k d lt)).entry in
        let many = all_entries f.contents n among.bytes x index among.is in
        omega (arith, low, many))

    -- ---- where what stands for an entry stands

    pub itself : (i : ℕ) → i < entries_in raw → IsItself f (img ((run f).name (at_file n (place_at raw i))))
    itself i lt =
        let there : slice_get (all_names (docs f)) (start + i) ≡ Some (named i) =
        (λ j. slice_get (stand.parts j) (sym stand.start_is j + i))
        ∙ get_later stand.before (names ++ stand.after) i (named i) (get_first names stand.after i (named i) (names_entries f.contents n among.bytes x index among.is i lt)) in
        subst (λ (w : EntryName). img (img w) ≡ img w) (sym (among.is.names (place_at raw i))) (twice (named i) (start + i) there)

    module _ (at : List ℕ) (are : ArePlaces f n raw at) where
      placed : (i entry : ℕ) → i < entries_in raw → IsImage (every f) (move f) names i entry → slice_index at entry ≡ stands_after f n (place_at raw i)
      placed i entry lt im =
          let both : Some im.name ≡ Some (named i) = sym im.is ∙ names_entries f.contents n among.bytes x index among.is i lt in
          let same : im.name ≡ named i = cc in
          are i entry lt (im.there ∙ ap (λ (w : EntryName). Some (img w)) (same ∙ sym (among.is.names (place_at raw i))))

      targets_from : (refs numbers : List ℕ) → AreEntries raw refs → AreImages (every f) (move f) names refs numbers
          → map (λ i. slice_index at i) numbers ≡ map (stands_after f n) (map (place_at raw) refs)
      targets_from [] [] low h = refl
      targets_from [] (m ∷ numbers) low h = absurd h
      targets_from (i ∷ refs) [] low h = absurd h
      targets_from (i ∷ refs) (m ∷ numbers) low h =
          let one = placed i m low.0 h.0 in
          let rest = targets_from refs numbers low.1 h.1 in
          (λ j. one j ∷ rest j)

      pub targets : (references : List ℕ) → ((some : List EntryName) → IsFile (every f) some index start → AreImages (every f) (move f) some x.resolved.refs.items references)
          → map (λ i. slice_index at i) references ≡ map (stands_after f n) (map (place_at raw) x.resolved.refs.items)
      targets references h = targets_from x.resolved.refs.items references among.is.kept.read.within (h names its_file)

      -- ---- operands

      abbrev rows : List ListOperand
      rows = x.resolved.operands.items

      of_file : AreOfFile raw n rows
      of_file = among.is.kept.read.of_file

      led : (o : ListOperand) → In o rows → led_to (start_of raw o.unit) (operand_view raw o).operand ≡ place_at raw o.entry
      led o there =
          row_led (sources_of among.bytes) raw among.is.kept.read.doc.units
          (((file_agrees among.is.kept.limits among.bytes).ok (raw, among.is.kept.read.doc)).0 among.is.kept.read.means).means
          (stand_once among.is.kept.limits among.bytes raw among.is.kept.read.doc among.is.kept.read.means) rows among.is.kept.read.operands o there (of_file o there).at

      abbrev new : ListOperand → ℕ
      new o = operand_number_after_by (common f) (run f) n (operand_view (raw_units x.units) o)

      module _ (units_at : List ℕ) (of_units : AreUnitPlaces f index.starts.unit raw units_at) where
        one_number : (o : ListOperand) (m : ℕ) → In o rows → IsNewNumber (every f) (move f) names at units_at o m → m ≡ new o
        one_number o m there h =
            let entry = placed o.entry h.entry (of_file o there).entry h.image in
            let low = (of_file o there).unit in
            let unit = of_units o.unit low ∙ sym (unit_after o.unit low) in
            let place : slice_index at h.entry ≡ stands_after f n (led_to (start_of raw o.unit) (operand_view raw o).operand) = entry ∙ ap (stands_after f n) (sym (led o there)) in
            h.is ∙ (λ j. place j - base_place (unit j) o.base)

        some_numbers : (os : List ListOperand) (ms : List ℕ) → ((o : ListOperand) → In o os → In o rows) → AreNewNumbers (every f) (move f) names at units_at os ms → ms ≡ map new os
        some_numbers [] [] low h = refl
        some_numbers [] (m ∷ ms) low h = absurd h
        some_numbers (o ∷ os) [] low h = absurd h
        some_numbers (o ∷ os) (m ∷ ms) low h =
            let one = one_number o m (low o (inl refl)) h.0 in
            let rest = some_numbers os ms (λ p there. low p (inr there)) h.1 in
            (λ j. one j ∷ rest j)

        pub numbers_at : (numbers : List ℕ) → AreNewNumbers (every f) (move f) names at units_at rows numbers → numbers ≡ map new rows
        numbers_at numbers h = some_numbers rows numbers (λ o there. there) h

        pub numbers_are : (numbers : List ℕ) → ((some : List EntryName) → IsFile (every f) some index start → AreNewNumbers (every f) (move f) some at units_at rows numbers) → numbers ≡ map new rows
        numbers_are numbers h = some_numbers rows numbers (λ o there. there) (h names its_file)
