-- The common file of a graph, over which its files are to be written: it stands as it was read, and the files say the same beside it.
use Rattle.std.proofs.Common.{◌≡◌, ◌≤◌, ◌^◌, ℕ, ◌+◌, Bool, List, Option, Some, Ok, length, refl, sym, ap, subst, ◌∙◌}
use Rattle.std.proofs.lemmas.List.{length-map}
use Rattle.dwz_def_reading.specs.Documents.{Doc, DwUnit, unit_map}
use Rattle.dwz_def_reading.specs.Files.{Limits, ReadAll, file_meaning_by, no_files_before, section_of, sources_of}
use Rattle.dwz_def_reading.specs.Finished.{rule_of_common}
use Rattle.dwz_def_reading.specs.Lists.{Each, In}
use Rattle.dwz_def_reading.specs.Meanings.{Around, Sources, all_places}
use Rattle.dwz_def_reading.specs.Meant.{units_meaning}
use Rattle.dwz_def_reading.specs.Places.{Place}
use Rattle.dwz_def_reading.specs.Rules.{ReadingRule}
use Rattle.dwz_def_reading.specs.Units.{RawUnit, entries_in}
use Rattle.dwz_def_reading.specs.Values.{AreBytes}
use Rattle.dwz_def_reading.proofs.CaseFacts.{ok_same}
use Rattle.dwz_def_reading.proofs.FileLemmas.{file_agrees_by}
use Rattle.dwz_def_reading.proofs.MeaningUnits.{units_agree}
use Rattle.dwz_def_tops.specs.Seen.{IsPartial}
use Rattle.dwz_def_readback.specs.AllFiles.{AreRead}
use Rattle.dwz_def_readback.proofs.ReadBuilt.{own}
use Rattle.dwz_def_output.specs.Written.{raws, stored_behind, stored_of}
use Rattle.dwz_def_taken.specs.Beside.{offsets_doc, own_tops, reused_of}
use Rattle.dwz_def_taken.specs.Laws.{ArePlacedOver}
use Rattle.dwz_def_taken.specs.Takes.{IsFixed}
use Rattle.dwz_def_taken.specs.declared.fixed.Fixed.{Fixed}
use Rattle.dwz_def_over.specs.Over.{AreOverFiles, OverFiles, limits_over}
use Rattle.dwz_def_over.proofs.PlacedOver.{common_partial, means_offsets, over_read, placed_over}
use Rattle.dwz_check_index.specs.Both.{from_top}
use Rattle.dwz_check_index.specs.Index.{IsCrossIndex}
use Rattle.dwz_graph.proofs.IndexRoom.{entries_within}
use Rattle.dwz_graph.specs.ByRule.{doc_placed, numbered_rule}
use Rattle.dwz_graph.specs.Files.{FilesRead, HasCommon, docs_of}
use Rattle.dwz_graph.specs.declared.file.File.{File}
use Rattle.dwz_unit.specs.Rows.{units_of}
use Rattle.dwz_law_layout.specs.CommonRows.{standing_beside}
use Rattle.dwz_layout_input.specs.PlannedOver.{IsTakenFrom}
use Rattle.dwz_run_files.specs.declared.standing.StandingCommon.{StandingCommon}
use Rattle.dwz_run_files.specs.Over.{IsOver}
use Rattle.dwz_run_files.specs.OverRun.{IsStanding}
use Rattle.dwz_run_files.specs.ReadyOver.{AreOverStanding}
use Rattle.dwz_run_files.proofs.ReadBehind.{docs_read, none_leave_more, read_more, stored_same}

-- a common file that was read says its document where its own places stand for numbers
abbrev pub CommonPlaced : Type 0
CommonPlaced =
    (number : ℕ) (l : Limits) (bytes : List ℕ) (raw : List RawUnit) (doc : Doc ℕ)
    → file_meaning_by (numbered_rule (rule_of_common number)) l bytes ≡ Ok (raw, doc)
    → file_meaning_by (rule_of_common number) l bytes ≡ Ok (raw, doc_placed (rule_of_common number) bytes raw doc)

-- ---- what files say

module _ (x : OverFiles) (contents : List (List ℕ)) (same : contents ≡ x.contents) (bytes : Each AreBytes contents) (are : AreOverFiles x) where
  their_bytes : Each AreBytes x.contents
  their_bytes = subst (Each AreBytes) same bytes

  alone : ReadAll no_files_before x.contents x.said.docs
  alone = (read_more (limits_over x) no_files_before x.contents x.said.docs (none_leave_more x.common x.raw) are.files).0

  -- the same as by themselves
  pub docs_same : docs_of contents ≡ x.said.docs
  docs_same = ap docs_of same ∙ docs_read x.contents x.said.docs alone

  -- and they are stored the same
  pub stored_alone : (prunes : List Bool) → stored_behind (limits_over x) contents prunes ≡ stored_of contents prunes
  stored_alone prunes =
      stored_same (limits_over x) contents prunes
      (subst (λ (cs : List (List ℕ)). raws_alike cs) (sym same)
      (read_more (limits_over x) no_files_before x.contents x.said.docs (none_leave_more x.common x.raw) are.files).1)
    where
      raws_alike : List (List ℕ) → Type 0
      raws_alike cs = raws (limits_over x) cs ≡ raws no_files_before cs

  pub read_so : (prunes : List Bool) → prunes ≡ x.prunes → AreRead (stored_behind (limits_over x) contents prunes) (docs_of contents)
  read_so prunes flags =
      subst (λ (d : List (Doc ℕ)). AreRead (stored_behind (limits_over x) contents prunes) d) (sym docs_same)
      (subst (λ (ps : List Bool). AreRead (stored_behind (limits_over x) contents ps) x.said.docs) (sym flags)
      (subst (λ (cs : List (List ℕ)). AreRead (stored_behind (limits_over x) cs x.prunes) x.said.docs) (sym same) (over_read x their_bytes are)))

  pub placed_so : ArePlacedOver (docs_of contents) (offsets_doc x.said.common)
  placed_so = subst (λ (d : List (Doc ℕ)). ArePlacedOver d (offsets_doc x.said.common)) (sym docs_same) (placed_over x their_bytes are)

  pub fixed_so : IsFixed (reused_of (docs_of contents) (offsets_doc x.said.common)) x.fixed
  fixed_so = subst (λ (d : List (Doc ℕ)). IsFixed (reused_of d (offsets_doc x.said.common)) x.fixed) (sym docs_same) are.taken.lists

  -- ---- the common file

  module _ (placed : CommonPlaced) (number : ℕ) (f : File) (h : HasCommon number (Some x.common) (Some f)) where
    abbrev rule : ReadingRule Place
    rule = rule_of_common (length x.contents)

    -- its units are those that were read
    pub raw_same : units_of f.units ≡ x.raw
    raw_same =
        ap (λ (p : List RawUnit × Doc Place). p.0)
        (ok_same (file_meaning_by rule no_files_before x.common) (units_of f.units, doc_placed rule x.common (units_of f.units) h.doc)
        (x.raw, x.said.common) (placed (length x.contents) no_files_before x.common (units_of f.units) h.doc h.means)
        (((file_agrees_by rule no_files_before x.common).ok (x.raw, x.said.common)).1 are.common))

    pub strs_same : f.sections.strs.bytes.now ≡ section_of x.common 3
    strs_same = ap (λ (s : Sources). s.strs) h.sections

    pub entries_few : entries_in (units_of f.units) ≤ 2 ^ 28
    entries_few = entries_within (numbered_rule (rule_of_common number)) no_files_before x.common (units_of f.units) h.doc h.means

    abbrev pub around : Around ℕ
    around = own (sources_of x.common) (all_places x.raw)

    pub means : units_meaning around (units_of f.units) ≡ Ok (offsets_doc x.said.common).units
    means =
        subst (λ (us : List RawUnit). units_meaning around us ≡ Ok (offsets_doc x.said.common).units) (sym raw_same)
        (((units_agree around x.raw).ok (offsets_doc x.said.common).units).1
        (means_offsets (length x.contents) no_files_before x.common x.raw x.said.common are.common))

    partial : (u : DwUnit ℕ) → In u (offsets_doc x.said.common).units → IsPartial u.kind
    partial = common_partial (length x.contents) no_files_before x.common x.raw x.said.common are.common

    roots : length x.fixed.roots ≡ length (offsets_doc x.said.common).units
    roots =
        ap (λ (ns : List ℕ). length ns) are.taken.roots
        ∙ length-map x.said.common.units (λ (u : DwUnit Place). u.root.at.at)
        ∙ sym (length-map x.said.common.units (unit_map (λ (p : Place). p.at)))

    pub is_standing : (b : StandingCommon) → b.common.now ≡ f → b.fixed.now ≡ x.fixed
        → IsCrossIndex (from_top (own_tops (reused_of (docs_of contents) (offsets_doc x.said.common)))) (offsets_doc x.said.common).units b.index
        → length b.index.steps ≤ 2 ^ 28 → IsStanding (standing_beside x) (docs_of contents) b
    is_standing b common fixed index few = record {
      taken =
          subst (λ (c : File). IsTakenFrom (docs_of contents) c b.index b.fixed.now (offsets_doc x.said.common)) (sym common)
          (subst (λ (fx : Fixed). IsTakenFrom (docs_of contents) f b.index fx (offsets_doc x.said.common)) (sym fixed) (record {
            around = around;
            means = means;
            few = entries_few;
            partial = partial;
            index_is = index;
            placed = placed_so;
            roots = roots;
            fixed_is = fixed_so;
          }));
      behind = record { partial = partial; index = index; few = few };
      fixed_is = fixed;
      raw_is = ap (λ (c : File). units_of c.units) common ∙ raw_same;
    }

    -- so the files are over it
    pub over_standing : (graph : FilesRead) (prunes : List Bool) (b : StandingCommon) → graph.given ≡ contents → IsOver graph prunes x.fixed x
        → b.common.now ≡ f → b.fixed.now ≡ x.fixed → IsStanding (standing_beside x) (docs_of contents) b → AreOverStanding graph prunes b x
    over_standing graph prunes b given over common fixed standing = record {
      over = subst (λ (fx : Fixed). IsOver graph prunes fx x) (sym fixed) over;
      bytes = subst (Each AreBytes) (sym given) bytes;
      standing = subst (λ (cs : List (List ℕ)). IsStanding (standing_beside x) (docs_of cs) b) (sym given) standing;
      strs = ap (λ (c : File). c.sections.strs.bytes.now) common ∙ strs_same;
    }

-- ---- of a graph

module _ (graph : FilesRead) (prunes : List Bool) (fixed : Fixed) (x : OverFiles) (over : IsOver graph prunes fixed x)
    (bytes : Each AreBytes graph.given) (placed : CommonPlaced) (f : File)
    (h : HasCommon (length graph.given + length graph.back) graph.common (Some f)) where
  abbrev number : ℕ
  number = length graph.given + length graph.back

  has : HasCommon number (Some x.common) (Some f)
  has = subst (λ (o : Option (List ℕ)). HasCommon number o (Some f)) over.common h

  -- the common file has few entries
  pub room : entries_in (units_of f.units) ≤ 2 ^ 28
  room = entries_few x graph.given over.contents bytes over.are placed number f has

  -- with its index, and what is taken of it, the files are over it
  pub standing_so : (b : StandingCommon) → b.common.now ≡ f → b.fixed.now ≡ fixed → length b.index.steps ≤ 2 ^ 28
      → ((around : Around ℕ) (doc : Doc ℕ) → units_meaning around (units_of f.units) ≡ Ok doc.units
      → IsCrossIndex (from_top (own_tops (reused_of (docs_of graph.given) doc))) doc.units b.index)
      → AreOverStanding graph prunes b x
  standing_so b common fixed_is few index =
      let taken : b.fixed.now ≡ x.fixed = fixed_is ∙ over.fixed_is in
      let doc = offsets_doc x.said.common in
      let standing = is_standing x graph.given over.contents bytes over.are placed number f has b common taken
      (index (around x graph.given over.contents bytes over.are placed number f has) doc (means x graph.given over.contents bytes over.are placed number f has))
      few in
      over_standing x graph.given over.contents bytes over.are placed number f has graph prunes b refl
      (subst (λ (fx : Fixed). IsOver graph prunes fx x) over.fixed_is over) common taken standing
