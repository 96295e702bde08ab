-- Facts of files over a finished common file are facts: its entries are numbered behind those of the files, and stand in its units.
use Rattle.std.proofs.Common.{◌≡◌, ℕ, suc, ◌+◌, ◌<◌, ◌^◌, List, [], ◌∷◌, ◌++◌, length, map, Some, slice_get, slice_index_or, refl, sym, ap, subst, ◌∙◌, inl, inr, arith}
use Rattle.std.proofs.lemmas.List.{append-nil, length-append, length-map}
use Rattle.std.proofs.lemmas.Option.{get_or_from_slice_get}
use Rattle.dwz_def_reading.specs.Documents.{Doc, DwUnit}
use Rattle.dwz_def_reading.specs.Meanings.{Around, MeanUnits, scope_of}
use Rattle.dwz_def_reading.specs.Units.{RawUnit, entries_in}
use Rattle.dwz_def_reading.proofs.ListFacts.{got_below, got_map, got_there}
use Rattle.dwz_def_reading.proofs.MeaningUnits.{units_agree}
use Rattle.dwz_def_tops.specs.Spots.{EntryName, Within, file_numbers, top_count}
use Rattle.dwz_def_images.specs.Units.{common_units}
use Rattle.dwz_def_images.specs.Moves.{Move}
use Rattle.dwz_def_taken.specs.Beside.{as_compile, compile_doc, reused_of}
use Rattle.dwz_def_taken.specs.Over.{move_over}
use Rattle.dwz_def_taken.specs.Takes.{free_rule}
use Rattle.dwz_unit.specs.Rows.{EntryRow, rows_of}
use Rattle.dwz_graph.specs.Names.{names_from}
use Rattle.dwz_unit.proofs.RowsFound.{rows-length}
use Rattle.dwz_graph.proofs.ShowLemmas.{unit_many, unit_names}
use Rattle.dwz_graph.proofs.TopLemmas.{get_cases}
use Rattle.dwz_graph.proofs.FileRoom.{size_same}
use Rattle.dwz_plan.specs.ShowsMove.{ShowsMove}
use Rattle.dwz_layout_numbers.specs.Images.{IsPlanned}
use Rattle.dwz_graph.specs.AllNames.{AreTopEntries, all_names}
use Rattle.dwz_layout_numbers.specs.OverLaws.{common_names}
use Rattle.dwz_layout_numbers.specs.OwnerLaws.{HoldTops}
use Rattle.dwz_layout_numbers.specs.Owners.{StandsIn, files_written}
use Rattle.dwz_layout_numbers.proofs.BesideNames.{every_names}
use Rattle.dwz_layout_numbers.proofs.CommonOwned.{common_owned}
use Rattle.dwz_layout_numbers.proofs.OverMoves.{over_holds, over_stands}
use Rattle.dwz_law_layout.specs.Beside.{Beside, Over, Standing}
use Rattle.dwz_law_layout.specs.Facts.{IsMade, RunFacts, StandBehind, common, docs, every, move, run, units}
use Rattle.dwz_law_layout.specs.Moving.{MovesSo}
use Rattle.dwz_law_layout.specs.Whole.{AreWhole}
use Rattle.dwz_law_layout.specs.OverLaws.{AreOver, FactsOverLaw}
use Rattle.dwz_law_layout.proofs.OverMoves.{over_moves}
use Rattle.dwz_law_layout.proofs.OverWhole.{over_whole}

-- ---- how many entries the common file has

-- units read as compile units have a name for each entry
pub named_many : (around : Around ℕ) (raw : List RawUnit) (said : List (DwUnit ℕ)) (unit top : ℕ) → MeanUnits around raw said
    → length (names_from unit top (map as_compile said)) ≡ entries_in raw
unfolding names_from entries_in
named_many around [] [] unit top h = refl
named_many around [] (v ∷ said) unit top h = absurd h
named_many around (u ∷ raw) [] unit top h = absurd h
named_many around (u ∷ raw) (v ∷ said) unit top h =
    let c = as_compile v in
    let rest = names_from (suc unit) (top + top_count c.kind c.below) (map as_compile said) in
    let one = unit_many unit top c (λ is. is) in
    let same = size_same (scope_of around u) u.below v.below h.0.below in
    let more = named_many around raw said (suc unit) (top + top_count c.kind c.below) h.1 in
    let both = length-append (unit_names unit top c) rest in
    omega arith

-- ---- facts

-- those with this rule
abbrev pub facts_over : (s : Standing) → RunFacts (Over s) → RunFacts (Over s)
facts_over s f = record f { rule = free_rule (reused_of (docs f) s.doc) s.fixed }

-- what is known of a move, of what is written by it, and of entries
pub record AreRuled {beside : Beside} (f : RunFacts beside) : Type 0 where
  pub goes : MovesSo (IsMade f) (move f) (units f)
  pub whole : AreWhole (common f) (docs f) (run f)
  pub holds : HoldTops (units f) (move f)
  pub images : (tops : List ℕ) → AreTopEntries (every f) tops → IsPlanned (every f) (move f) f.planned tops
  pub behind : StandBehind f
  pub shows : ShowsMove (move f) (units f) (length (docs f)) f.planned
  pub few : length (all_names (every f)) < 2 ^ 32

module _ (s : Standing) (f : RunFacts (Over s)) (o : AreOver s f) where
  facts_same : facts_over s f ≡ f
  facts_same = λ i. record f { rule = sym o.rule i }

  abbrev ds : List (Doc ℕ)
  ds = docs f

  abbrev m : Move
  m = move_over (reused_of ds s.doc) s.fixed (file_numbers 0 ds)

  pub many : length (common_names (docs f) s.doc) ≡ length (rows_of s.file.raw)
  many = named_many o.around s.file.raw s.doc.units _ _ (((units_agree o.around s.file.raw).ok s.doc.units).0 o.means) ∙ sym (rows-length s.file.raw)

  -- an entry of a top of the common file stands in its unit
  stands : (j top : ℕ) (path : List ℕ) → slice_get (all_names (ds ++ compile_doc s.doc ∷ [])) (length (all_names ds) + j) ≡ Some (Within top path)
      → StandsIn (common_units m) (Within top path) (slice_index_or (map (λ r. r.unit) (rows_of s.file.raw)) j 0)
  unfolding files_written
  stands j top path e =
      let names = common_names ds s.doc in
      let rows = rows_of s.file.raw in
      let both : slice_get (all_names ds ++ names) (length (all_names ds) + j) ≡ Some (Within top path) =
      ap (λ (w : List EntryName). slice_get w (length (all_names ds) + j)) (sym (every_names ds s.doc)) ∙ e in
      let named : slice_get names j ≡ Some (Within top path) = later both in
      let lt = got_below names j (Within top path) named in
      let row = got_there rows j (omega (arith, lt, many)) in
      let owned = common_owned ds s.doc s.fixed o.placed o.fixed o.around s.file.raw o.means [] j row.0 (Within top path) row.1 named (λ i no. cc) in
      let owner : slice_index_or (map (λ (r : EntryRow). r.unit) rows) j 0 ≡ row.0.unit =
      get_or_from_slice_get (map (λ (r : EntryRow). r.unit) rows) j row.0.unit 0 (got_map (λ (r : EntryRow). r.unit) rows j row.0 row.1) in
      subst (StandsIn (common_units m) (Within top path)) (sym owner)
      (subst (λ (us : List (DwUnit EntryName)). StandsIn us (Within top path) row.0.unit) (append-nil (common_units m)) owned)
    where
      later : slice_get (all_names ds ++ common_names ds s.doc) (length (all_names ds) + j) ≡ Some (Within top path) → slice_get (common_names ds s.doc) j ≡ Some (Within top path)
      later e = elim (get_cases (all_names ds) (common_names ds s.doc) (length (all_names ds) + j) (Within top path) e) [
        | inl a ↦ absurd (let lt = got_below (all_names ds) (length (all_names ds) + j) (Within top path) a in omega (arith, lt))
        | inr b ↦ (let at = b.1 in
            let same : b.0 ≡ j = omega (arith, at) in
            subst (λ (i : ℕ). slice_get (common_names ds s.doc) i ≡ Some (Within top path)) same b.2)
      ]

  ruled : AreRuled (facts_over s f)
  ruled =
      let few = o.few in
      record {
        goes = over_moves ds s.doc s.fixed o.placed o.fixed;
        whole = over_whole ds s.doc s.fixed o.placed o.fixed f.input s.file o.stands;
        holds = over_holds ds s.doc s.fixed o.placed o.fixed;
        images = λ tops are. record {
          few = few;
          stand = over_stands ds s.doc s.fixed o.placed o.fixed;
          shows = o.stand_ins;
          tops_are = are;
        };
        behind = record {
          many =
              ap (λ (w : List EntryName). length w) (every_names ds s.doc) ∙ length-append (all_names ds) (common_names ds s.doc)
              ∙ ap (λ (n : ℕ). length (all_names ds) + n) (many ∙ sym (length-map (rows_of s.file.raw) (λ (r : EntryRow). r.unit)));
          stand = stands;
        };
        shows = o.shows;
        few = few;
      }

pub are_facts : FactsOverLaw
are_facts s f o =
    let r = subst (λ (w : RunFacts (Over s)). AreRuled w) (facts_same s f o) (ruled s f o) in
    record {
      bytes = o.bytes;
      kept = o.kept;
      indexed = o.indexed;
      stored = o.stored;
      goes = r.goes;
      whole = r.whole;
      holds = r.holds;
      images = r.images;
      behind = r.behind;
      shows = r.shows;
      numbers = o.numbers;
      few = r.few;
    }
