-- One file after the other.
use Rattle.std.proofs.Common.{◌≡◌, ◌⊎◌, ℕ, All, ◌+◌, ◌<◌, ◌≤◌, ◌^◌, List, [], ◌++◌, length, map, Some, None, Ok, get_or, slice_get, refl, sym, ap, subst, ◌∙◌, inl, inr, ⊎_elim, arith}
use Rattle.dwz_model.proofs.ListFacts.{in_cases, in_left, in_right}
use Rattle.dwz_model.proofs.Members.{each_in}
use Rattle.dwz_def_reading.proofs.FileLemmas.{file_agrees}
use Rattle.dwz_def_reading.proofs.ListFacts.{item_got}
use Rattle.dwz_def_reading.specs.Documents.{Doc}
use Rattle.dwz_def_reading.specs.Files.{Limits, around_of, given_rule}
use Rattle.dwz_def_reading.specs.Lists.{In}
use Rattle.dwz_def_reading.specs.Meanings.{Around, Common, MeanUnits, all_places}
use Rattle.dwz_def_reading.specs.Meant.{units_meaning}
use Rattle.dwz_def_reading.specs.Units.{entries_in}
use Rattle.dwz_def_check.proofs.ReadRefs.{read_mains, refs_named}
use Rattle.dwz_def_check.specs.CrossNames.{cross_tops}
use Rattle.dwz_def_images.specs.After.{ArePlaced}
use Rattle.dwz_def_tops.specs.Lists.{NoneTwice}
use Rattle.dwz_def_tops.specs.Seen.{IsPartial}
use Rattle.dwz_def_tops.specs.Shown.{units_keys}
use Rattle.dwz_def_tops.specs.Spots.{EntryName, FileUnit, Top, in_file, named, tops_among, tops_from, tops_of, units_of}
use Rattle.dwz_graph.specs.Files.{AreKept, IsRead, docs_of}
use Rattle.dwz_graph.specs.Index.{Index}
use Rattle.dwz_graph.specs.Indexed.{AreIndexes}
use Rattle.dwz_graph.specs.Parts.{AreParted, HaveLines}
use Rattle.dwz_graph.specs.declared.file.File.{File}
use Rattle.dwz_graph.specs.declared.index.Starts.{Starts}
use Rattle.dwz_graph.proofs.IndexRoom.{entries_within, many_units}
use Rattle.dwz_graph.proofs.TopNameLemmas.{means_units, read_whole}
use Rattle.dwz_graph.proofs.IndexSteps.{tops_long}
use Rattle.dwz_groups.specs.declared.groups.Edge.{Edge}
use Rattle.dwz_def_tops.proofs.TopNumbers.{number_below, tops_numbers}
use Rattle.dwz_groups.specs.Groups.{grouped}
use Rattle.dwz_groups.proofs.MarkLemmas.{each_pair, edge_grouped, grouped_edge, grouped_length}
use Rattle.dwz_unit.specs.Rows.{units_of as raw_units}
use Rattle.dwz_graph.proofs.FileCounts.{all_ends, are_many, starts_are}
use Rattle.dwz_graph.proofs.FileRoom.{tops_small}
use Rattle.dwz_graph.proofs.FileWalk.{is_among}
use Rattle.dwz_graph.proofs.TopRows.{unit_high}
use Rattle.dwz_graph.specs.Across.{IsPart, file_tops, starts_at, starts_from}
use Rattle.dwz_graph.specs.AcrossLaws.{IsAmong}
use Rattle.dwz_check_labels.specs.FilesSaid.{IsFileSaid, around_given}
use Rattle.dwz_match.specs.MatchRows.{ShowRefers}
use Rattle.dwz_takes.specs.Takes.{AreBelow, list_at}
use Rattle.dwz_reuse.proofs.CrossFew.{cross_fit}
use Rattle.dwz_reuse.specs.Refers.{AreRefers, IsRefersEdge, PutsRefers, own_edge}

-- ---- what a file says by itself

module _ (l : Limits) (number : ℕ) (bytes : List ℕ) (f : File) (r : IsRead l number bytes f) where
  same_around : around_of bytes (raw_units f.units) ≡ around_given f None
  same_around = λ j. record { sources = sym r.sections j; all = all_places (raw_units f.units); place = λ n. n; common = None }

  pub said_alone : IsFileSaid f None r.doc.units
  said_alone = record {
    means = subst (λ (a : Around ℕ). units_meaning a (raw_units f.units) ≡ Ok r.doc.units) same_around (means_units l bytes (raw_units f.units) r.doc r.means);
    refs = r.within;
    parts = subst (λ (a : Around ℕ). AreParted a (raw_units f.units) (entries_in (raw_units f.units)) f.resolved.refs.items f.resolved.starts.items) same_around r.parts;
    lines = subst (λ (a : Around ℕ). HaveLines a (raw_units f.units) (length (raw_units f.units)) f.resolved.tables.items f.resolved.lines.items) same_around r.lines;
    few = entries_within given_rule l bytes (raw_units f.units) r.doc r.means;
  }

  no_common : {c : Common ℕ} → None ≡ Some c → ⊥
  no_common e = cc

  units_mean : MeanUnits (around_of bytes (raw_units f.units)) (raw_units f.units) r.doc.units
  units_mean = (((file_agrees l bytes).ok (raw_units f.units, r.doc)).0 r.means).means

  pub placed_alone : NoneTwice (units_keys r.doc.units) → ArePlaced r.doc.units
  placed_alone once = record {
    apart = once;
    kinds = λ u there. each_in (λ v. IsPartial v.kind → ⊥) u r.doc.units (read_whole l bytes (raw_units f.units) r.doc r.means) there;
    closed = λ e a p is attr ref. elim (refs_named (around_of bytes (raw_units f.units)) (raw_units f.units) r.doc.units units_mean refl e a p is attr ref) [
      | inl s ↦ s
      | inr c ↦ absurd (no_common c.2)
    ];
    mains = read_mains (around_of bytes (raw_units f.units)) (raw_units f.units) r.doc.units units_mean;
  }

-- ---- a file among all

part_there : {X : Type 0} (all part : List X) (before : ℕ) (p : IsPart all before part) (x : X) → In x part → In x all
part_there {X} all part before p x i = subst (λ (w : List X). In x w) (sym p.all_are) (in_right x p.front (part ++ p.back) (in_left x part p.back i))

part_cases : {X : Type 0} (all part : List X) (before : ℕ) (p : IsPart all before part) (x : X) → In x all → In x p.front ⊎ (In x part ⊎ In x p.back)
part_cases {X} all part before p x i = ⊎_elim (λ (a : In x p.front). inl a) (λ (b : In x (part ++ p.back)). inr (in_cases x part p.back b))
    (in_cases x p.front (part ++ p.back) (subst (λ (w : List X). In x w) p.all_are i))

pub index_below : (contents : List (List ℕ)) (files : List File) (indexes : List Index) (k : ℕ) → AreKept contents files → AreIndexes (docs_of contents) indexes → k < length files → k < length indexes
index_below contents files indexes k kept is lt = (let many = are_many contents files indexes kept is in omega arith)

module _ (contents : List (List ℕ)) (files : List File) (indexes : List Index) (k : ℕ) (f : File) (x : Index) (kept : AreKept contents files) (is : AreIndexes (docs_of contents) indexes)
    (lt : k < length files) (fe : f ≡ get_or files k f) (xe : x ≡ get_or indexes k x) where
  of_file : slice_get files k ≡ Some f
  of_file = item_got files k f lt fe

  of_index : slice_get indexes k ≡ Some x
  of_index = item_got indexes k x (index_below contents files indexes k kept is lt) xe

  pub known : IsAmong contents k f x
  known = is_among contents files indexes k f x kept is of_file of_index

  abbrev doc : Doc ℕ
  doc = known.is.kept.read.doc

  abbrev tops : List Top
  tops = tops_of (units_of (docs_of contents))

  abbrev now : Starts
  now = starts_at (docs_of contents) indexes k

  abbrev next : Starts
  next = starts_at (docs_of contents) indexes (k + 1)

  pub said : IsFileSaid f None doc.units
  said = said_alone known.is.kept.limits k known.bytes f known.is.kept.read

  pub placed : ArePlaced doc.units
  placed = placed_alone known.is.kept.limits k known.bytes f known.is.kept.read known.is.once

  pub room : x.starts.top + length (cross_tops doc.units) < 2 ^ 32
  room =
      let begins = ap (λ (s : Starts). s.top) (starts_are contents files indexes k f x kept is of_file of_index).0 in
      let low = tops_small contents files indexes kept is k in
      let all = cross_fit (around_of known.bytes (raw_units f.units)) (raw_units f.units) doc.units (units_mean known.is.kept.limits k known.bytes f known.is.kept.read) in
      let few = said.few in
      omega (arith, begins, low, all, few)

  unit_next : x.starts.unit + length doc.units ≡ next.unit
  unit_next =
      let starts = starts_are contents files indexes k f x kept is of_file of_index in
      let many = many_units known.is.kept.limits known.bytes (raw_units f.units) doc known.is.kept.read.means in
      ap (λ (n : ℕ). x.starts.unit + n) (sym many) ∙ ap (λ (s : Starts). s.unit) starts.1

  top_next : x.starts.top + tops_among doc.units ≡ next.top
  top_next = ap (λ (n : ℕ). x.starts.top + n) (sym (tops_long x.starts doc x known.is.index)) ∙ ap (λ (s : Starts). s.top) (starts_are contents files indexes k f x kept is of_file of_index).1

  begins_at : x.starts ≡ now
  begins_at = (starts_are contents files indexes k f x kept is of_file of_index).0

  pub file_put : (first : Starts) → first ≡ x.starts → (old new : List Edge)
      → PutsRefers (tops_from x.starts.unit first.top (map (in_file k) (named x.starts.unit first.top doc.units))) (first.top + tops_among doc.units) old new
      → PutsRefers (file_tops x.starts k doc) (x.starts.top + tops_among doc.units) old new
  file_put first e old new p =
      subst (λ (s : Starts). PutsRefers (tops_from x.starts.unit s.top (map (in_file k) (named x.starts.unit s.top doc.units))) (s.top + tops_among doc.units) old new) e p

  pub file_next : (old new : List Edge) → AreRefers tops now.unit now.top old → PutsRefers (file_tops x.starts k doc) (x.starts.top + tops_among doc.units) old new → AreRefers tops next.unit next.top new
  file_next old new a p =
      let among = known.is in
      let part = among.tops in
      let own = file_tops x.starts k doc in
      record {
        only = λ e i. ⊎_elim (λ (j : In e old). a.only e j) (λ (r : IsRefersEdge own e). record { top = r.top; there = part_there tops own x.starts.top part r.top r.there; from = r.from; refers = r.refers }) (p.only e i);
        low = λ e i. ⊎_elim (λ (j : In e old). (
            let l = a.low e j in
            let b = ap (λ (s : Starts). s.top) begins_at in
            let n = top_next in
            omega (arith, l, b, n))) (λ (l : e.value < x.starts.top + tops_among doc.units). let n = top_next in omega (arith, l, n)) (p.low e i);
        found = λ t m i l r. elim (part_cases tops own x.starts.top part t i) [
          | inl j ↦ p.kept (own_edge t.number m) (a.found t m i (let b = ap (λ (s : Starts). s.unit) begins_at in let early = among.earlier t j in omega (arith, b, early)) r)
          | inr (inl j) ↦ p.found t m j r
          | inr (inr j) ↦ absurd (let late = among.later t j in let n = unit_next in omega (arith, late, n, l))
        ];
      }

-- ---- none, and all

pub files_begin : (docs : List (Doc ℕ)) (indexes : List Index) (edges : List Edge) → edges ≡ [] → AreRefers (tops_of (units_of docs)) (starts_at docs indexes 0).unit (starts_at docs indexes 0).top edges
unfolding starts_from
files_begin docs indexes edges e = record {
  only = λ d i. absurd (subst (λ (w : List Edge). In d w) e i);
  low = λ d i. absurd (subst (λ (w : List Edge). In d w) e i);
  found = λ t m i l r. absurd (omega (arith, l));
}

module _ (contents : List (List ℕ)) (files : List File) (indexes : List Index) (k count : ℕ) (kept : AreKept contents files) (is : AreIndexes (docs_of contents) indexes) (high : length files ≤ k)
    (most : k ≤ length files) (room : length (tops_of (units_of (docs_of contents))) ≤ count) (edges : List Edge)
    (h : AreRefers (tops_of (units_of (docs_of contents))) (starts_at (docs_of contents) indexes k).unit (starts_at (docs_of contents) indexes k).top edges) where
  abbrev units : List (FileUnit EntryName)
  units = units_of (docs_of contents)

  last : k ≡ length indexes
  last = let many = are_many contents files indexes kept is in omega arith

  unit_last : (starts_at (docs_of contents) indexes k).unit ≡ length units
  unit_last = ap (λ (n : ℕ). (starts_at (docs_of contents) indexes n).unit) last ∙ (all_ends contents indexes is).0

  top_last : (starts_at (docs_of contents) indexes k).top ≡ length (tops_of units)
  top_last = ap (λ (n : ℕ). (starts_at (docs_of contents) indexes n).top) last ∙ (all_ends contents indexes is).1

  number_low : (t : Top) → In t (tops_of units) → t.number < count
  number_low t i = let l = number_below 0 (tops_of units) t (tops_numbers units) i in omega (arith, l, room)

  pub keys_low : All (λ e. e.key < count) edges
  keys_low = each_pair (λ e. e.key < count) edges (λ e i. (let r = h.only e i in let l = number_low r.top r.there in let same = r.from in omega (arith, l, same)))

  pub files_end : (targets : List (List ℕ)) → targets ≡ grouped count edges → ShowRefers units targets
  files_end targets e n m = (
    λ i. (
        let r = h.only (own_edge n m) (grouped_edge count n m edges (subst (λ (w : List (List ℕ)). In m (list_at w n)) e i)) in
        (r.top, r.there, r.from, r.refers)),
    λ x. (
        let unit = unit_high 0 0 units x.0 x.1 in
        let last_unit = unit_last in
        let edge = h.found x.0 m x.1 (omega (arith, unit, last_unit)) x.3 in
        let low = number_low x.0 x.1 in
        subst (λ (w : List (List ℕ)). In m (list_at w n)) (sym e) (subst (λ (w : ℕ). In m (list_at (grouped count edges) w)) x.2 (edge_grouped count x.0.number m edges low edge))),
  )

  pub targets_many : (targets : List (List ℕ)) → targets ≡ grouped count edges → length targets ≡ count
  targets_many targets e = ap (λ (w : List (List ℕ)). length w) e ∙ grouped_length count edges

  pub targets_low : (targets : List (List ℕ)) → targets ≡ grouped count edges → AreBelow count targets
  targets_low targets e n m i = (
      let low = h.low (own_edge n m) (grouped_edge count n m edges (subst (λ (w : List (List ℕ)). In m (list_at w n)) e i)) in
      let same = top_last in
      omega (arith, low, same, room))
