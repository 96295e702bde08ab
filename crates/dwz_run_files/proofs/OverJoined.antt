-- What was settled, ordered and listed of files over a finished common file makes facts, whose run is that over the common file; and what
-- is written of them is prepared.
use Rattle.std.proofs.Common.{◌≡◌, ◌<◌, ◌^◌, ℕ, Bool, List, [], ◌∷◌, ◌++◌, length, map, Ok, refl, sym, ap, subst, ◌∙◌}
use Rattle.std.proofs.Common.{arith}
use Rattle.std.proofs.lemmas.List.{length-append}
use Rattle.dwz_def_reading.specs.Documents.{Doc}
use Rattle.dwz_def_reading.specs.Files.{section_of}
use Rattle.dwz_def_reading.specs.Lists.{Each}
use Rattle.dwz_def_reading.specs.Meant.{units_meaning}
use Rattle.dwz_def_reading.specs.Units.{RawUnit}
use Rattle.dwz_def_reading.specs.Values.{AreBytes}
use Rattle.dwz_def_reading.proofs.MeaningUnits.{units_agree}
use Rattle.dwz_def_tops.specs.Spots.{EntryName, FileUnit, file_numbers, tops_of, units_of}
use Rattle.dwz_def_images.specs.Units.{common_units}
use Rattle.dwz_def_readback.specs.Back.{run_by}
use Rattle.dwz_def_readback.specs.Files.{imports_common, texts_from}
use Rattle.dwz_def_output.specs.Written.{stored_behind}
use Rattle.dwz_def_taken.specs.Beside.{compile_doc, offsets_doc, reused_of}
use Rattle.dwz_def_taken.proofs.NamesOver.{together_is}
use Rattle.dwz_def_taken.specs.Over.{move_over}
use Rattle.dwz_def_taken.specs.Takes.{free_rule}
use Rattle.dwz_def_over.specs.Over.{AreOverFiles, OverFiles, limits_over, run_over}
use Rattle.dwz_def_over.proofs.CommonOver.{common_is, texts_short}
use Rattle.dwz_graph.specs.declared.file.File.{File}
use Rattle.dwz_graph.specs.Files.{AreKept, FilesRead, docs_of}
use Rattle.dwz_unit.specs.Rows.{units_of as raw_units}
use Rattle.dwz_layout.specs.declared.known.EntryTable.{EntryTable}
use Rattle.dwz_graph.proofs.FilesFew.{all_small}
use Rattle.dwz_layout_numbers.specs.Owners.{AreUnitNumbers}
use Rattle.dwz_graph.specs.AllNames.{all_names}
use Rattle.dwz_layout_numbers.specs.OverLaws.{common_names}
use Rattle.dwz_layout_numbers.proofs.BesideNames.{every_names}
use Rattle.dwz_layout_numbers.proofs.OverMoves.{over_order, over_still}
use Rattle.dwz_law_layout.specs.Beside.{Over, Standing}
use Rattle.dwz_law_layout.specs.Facts.{AreFacts, RunFacts, docs, every, move, run, units, written}
use Rattle.dwz_law_layout.specs.Laid.{AreFew}
use Rattle.dwz_law_layout.specs.Listed.{AreListed, TextsAt}
use Rattle.dwz_law_layout.specs.CommonRows.{AreCommonRows, standing_beside}
use Rattle.dwz_law_layout.specs.OverLaws.{AreOver}
use Rattle.dwz_law_layout.proofs.OverFacts.{are_facts, named_many}
use Rattle.dwz_law_layout.proofs.StandingRows.{standing_rows}
use Rattle.dwz_layout_input.specs.Settled.{AreStored}
use Rattle.dwz_layout_input.specs.SettledOver.{StandsSo}
use Rattle.dwz_layout_input.proofs.Fits.{made}
use Rattle.dwz_layout_input.proofs.FitsOver.{entries_counted}
use Rattle.dwz_layout_input.proofs.FactsOver.{are_over}
use Rattle.dwz_encode_texts.specs.TextLaws.{StandAsRead}
use Rattle.dwz_encode_texts.proofs.LawLemmas.{stand_law}
use Rattle.dwz_encode_common.specs.WithCommon.{IsWithStanding, texts_held}
use Rattle.dwz_run_files.specs.Prepared.{ArePrepared, AreRanks}
use Rattle.dwz_run_files.specs.OverRun.{AreListedOver, AreOrderedOver, AreTheirsOver, IsSettledOver}
use Rattle.dwz_run_files.specs.ReadyOver.{AreOverStanding}
use Rattle.dwz_run_files.specs.declared.ordered.OrderedFiles.{OrderedFiles}
use Rattle.dwz_run_files.specs.declared.settled.SettledRun.{SettledRun}
use Rattle.dwz_run_files.specs.declared.standing.StandingCommon.{StandingCommon}
use Rattle.dwz_run_files.proofs.FilesStored.{are_stored, as_many}
use Rattle.dwz_run_files.proofs.FilesTold.{AreTold}
use Rattle.dwz_run_files.proofs.StandingThere.{docs_same, read_so, stored_alone}
use Rattle.dwz_run_files.proofs.StandOver.{known_over}

-- the files were read beside that common file, and were settled, ordered, and listed as they were read
pub record AreJoinedOver (graph : FilesRead) (files : List File) (prunes : List Bool) (b : StandingCommon) (x : OverFiles) (a : SettledRun)
    (o : OrderedFiles) (k : EntryTable) : Type 0 where
  pub standing : AreOverStanding graph prunes b x
  pub kept : AreKept graph.given files
  pub settled : IsSettledOver (standing_beside x) graph.given a
  pub ordered : AreOrderedOver (standing_beside x) graph.given a o
  pub listed : AreListedOver (standing_beside x) graph.given files a k

module _ (graph : FilesRead) (files : List File) (prunes : List Bool) (b : StandingCommon) (x : OverFiles) (a : SettledRun) (o : OrderedFiles)
    (k : EntryTable) (j : AreJoinedOver graph files prunes b x a o k) where
  abbrev contents : List (List ℕ)
  contents = graph.given

  abbrev s : Standing
  s = standing_beside x

  abbrev pub joined : RunFacts (Over (standing_beside x))
  joined = record {
    contents = graph.given;
    files = files;
    indexes = a.indexes.now;
    rule = free_rule (reused_of (docs_of graph.given) (standing_beside x).doc) x.fixed;
    input = stored_behind (limits_over x) graph.given prunes;
    planned = a.settled.planned.plan;
    commons = j.listed.numbers.commons;
    parts = j.listed.numbers.parts.items;
    olds = j.listed.numbers.olds.items;
  }

  are : AreOverFiles x
  are = j.standing.over.are

  same : graph.given ≡ x.contents
  same = j.standing.over.contents

  says : docs_of graph.given ≡ x.said.docs
  says = docs_same x contents same j.standing.bytes are

  their : Each AreBytes x.contents
  their = subst (Each AreBytes) same j.standing.bytes

  -- the run is that over the common file
  pub run_is : run joined ≡ run_over x
  run_is =
      λ i. run_by (move_over (reused_of (says i) (offsets_doc x.said.common)) x.fixed (file_numbers 0 (says i))) (says i)
      (stored_behind (limits_over x) (same i) (j.standing.over.prunes_are i))

  theirs : AreTheirsOver contents a s joined
  theirs = record {
    contents_are = refl;
    indexes_are = refl;
    rule_is = refl;
    plan_is = refl;
    placed = j.settled.placed;
    fixed = j.settled.fixed;
    planned = j.settled.planned;
  }

  stored : AreStored joined
  stored = record {
    bytes = j.standing.bytes;
    kept = j.kept;
    indexed = j.settled.indexed;
    stored = are_stored (Over s) joined prunes j.kept (stored_alone x contents same j.standing.bytes are prunes);
  }

  few_names : length (all_names (docs_of graph.given ++ compile_doc s.doc ∷ [])) < 2 ^ 32
  few_names =
      let docs = docs_of graph.given in
      let taken = j.standing.standing.taken in
      let raw = raw_units b.common.now.units in
      let small = all_small contents files a.indexes.now j.kept j.settled.indexed in
      let entries = small.entries in
      let counted = entries_counted docs a.indexes.now j.settled.indexed in
      let all = ap (λ (ns : List EntryName). length ns) (every_names docs s.doc) in
      let both = length-append (all_names docs) (common_names docs s.doc) in
      let behind = named_many taken.around raw s.doc.units (length (units_of docs)) (length (tops_of (units_of docs)))
      (((units_agree taken.around raw).ok s.doc.units).0 taken.means) in
      let few = taken.few in
      omega (arith, entries, counted, all, both, behind, few)

  stands : StandsSo s (docs_of graph.given)
  stands = record {
    stands =
        sym (common_is x their are)
        ∙ sym (ap (λ (d : List (Doc ℕ)). common_units (move_over (reused_of d (offsets_doc x.said.common)) x.fixed (file_numbers 0 d))) says);
    around = j.standing.standing.taken.around;
    means = subst (λ (us : List RawUnit). units_meaning j.standing.standing.taken.around us ≡ Ok s.doc.units) j.standing.standing.raw_is
        j.standing.standing.taken.means;
    rows = subst (AreCommonRows s) (sym says) (standing_rows x their are);
    few = few_names;
  }

  -- the flags are those of the files that are written
  flags : a.settled.written.items ≡ written joined
  flags = sym j.ordered.lends.files ∙ (j.settled.settled joined j.ordered.lent theirs j.ordered.lends).files

  numbers : AreUnitNumbers (move joined) (units joined) (written joined) joined.commons joined.parts joined.olds
  numbers =
      subst (λ (w : List Bool). AreUnitNumbers (move joined) (units joined) w joined.commons joined.parts joined.olds) flags
      (j.listed.numbered (move joined) j.settled.planned.shows.own.partials
      (over_order (docs_of contents) s.doc x.fixed j.settled.placed j.settled.fixed)
      (over_still (docs_of contents) s.doc x.fixed j.settled.placed j.settled.fixed) flags)

  pub over : AreOver s joined
  over = are_over contents a.indexes.now a.settled.planned s joined theirs stored stands numbers

  pub facts : AreFacts joined
  facts = are_facts s joined over

  pub prepared : ArePrepared joined j.ordered.lent j.listed.texts k o.orders.items
  prepared = record {
    facts = facts;
    beside_are = over;
    read = read_so x contents same j.standing.bytes are prunes j.standing.over.prunes_are;
    settled = j.settled.settled joined j.ordered.lent theirs j.ordered.lends;
    ordered = j.ordered.are;
    listed = j.listed.listed joined refl (made (Over s) joined j.listed.numbers facts refl refl refl);
  }

  as_read : StandAsRead joined j.listed.texts
  as_read = stand_law joined j.listed.texts j.listed.texts_are j.listed.names

  pub importing : a.settled.importing.items ≡ map (imports_common (move joined) (units joined)) (file_numbers 0 (docs joined))
  importing = j.settled.importing joined theirs

  pub ranks : AreRanks joined o.ranks.items
  ranks = j.ordered.ranks joined flags

  few_texts : AreFew joined
  few_texts = texts_short x their are

  -- with the texts of the common file, what is known is known by the ranks and the first units
  pub told : (sharing : List Bool) → sharing ≡ a.settled.importing.items → (words : List (List ℕ))
      → words ≡ texts_from [] b.common.now.sections.strs.bytes.now → (m : EntryTable) → IsWithStanding files words sharing k m
      → ((f : RunFacts (Over s)) (t : TextsAt) → AreListed f t k → AreListed f (texts_held m) m)
      → AreTold joined contents prunes j.ordered.lent o m
  told sharing shares words words_are m has listed =
      let texts_are : words ≡ texts_from [] (section_of x.common 3) = words_are ∙ ap (texts_from []) j.standing.strs in
      record {
        contents_are = refl;
        prunes_are = λ n. refl;
        bytes_are = λ n. refl;
        known =
            known_over s joined j.ordered.lent j.listed.texts k o.orders.items prepared as_read sharing (shares ∙ importing) m
            (subst (λ (ws : List (List ℕ)). IsWithStanding files ws sharing k m) texts_are has).with_texts
            (listed joined j.listed.texts prepared.listed) few_texts;
        ranks = ranks;
        firsts = j.ordered.firsts;
        long = (as_many contents files j.kept).0;
      }

  -- ---- counts

  pub stand_ins : length a.settled.planned.plan.stand_ins ≡ length (tops_of (units_of (every joined)))
  stand_ins = j.settled.planned.fits.stand_ins ∙ ap (λ (us : List (FileUnit EntryName)). length (tops_of us)) (together_is (docs_of contents) s.doc)

  pub few_parts : length a.settled.planned.plan.partials < 2 ^ 32
  few_parts = j.settled.planned.fits.few_parts
