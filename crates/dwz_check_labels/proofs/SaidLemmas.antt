-- Files that were read, with their indexes, are ready for labels to be written.
use Rattle.std.proofs.Common.{◌≡◌, ℕ, suc, ◌+◌, ◌<◌, ◌≤◌, ◌^◌, List, [], ◌∷◌, length, Option, Some, None, Ok, slice_get, refl, sym, subst, ◌∙◌, arith}
use Rattle.dwz_model.proofs.ListFacts.{got_below, got_there}
use Rattle.dwz_def_reading.specs.Documents.{DwUnit}
use Rattle.dwz_def_reading.specs.LineTables.{FileTable}
use Rattle.dwz_def_reading.specs.Lists.{Each, In}
use Rattle.dwz_def_reading.specs.Meanings.{Around, Common, all_places}
use Rattle.dwz_def_reading.specs.Meant.{units_meaning}
use Rattle.dwz_def_reading.specs.Units.{RawUnit, entries_in}
use Rattle.dwz_def_reading.proofs.MeaningUnits.{units_agree}
use Rattle.dwz_def_check.specs.CrossNames.{CrossName, cross_names_from, cross_tops}
use Rattle.dwz_def_check.specs.CrossNodes.{lone_entries}
use Rattle.dwz_graph.specs.declared.file.File.{File}
use Rattle.dwz_graph.specs.Parts.{AreParted, HaveLines}
use Rattle.dwz_graph.specs.Surroundings.{AreAmong, behind_own, sources_view}
use Rattle.dwz_unit.specs.Rows.{units_of}
use Rattle.dwz_check_index.specs.Both.{from_top}
use Rattle.dwz_check_index.specs.Building.{IsFew, nothing_yet, with_units}
use Rattle.dwz_check_index.specs.declared.index.CrossStarts.{CrossStarts}
use Rattle.dwz_check_index.specs.Index.{CrossIndex, IsCrossIndex}
use Rattle.dwz_check_index.proofs.UnitBuilding.{few_units, units_long}
use Rattle.dwz_check_index.proofs.UnitsShown.{is_index}
use Rattle.dwz_check_labels.specs.declared.named_file.NamedFile.{NamedFile}
use Rattle.dwz_check_labels.specs.declared.source.Source.{Source}
use Rattle.dwz_check_labels.specs.Beside.{IsSourceReady, lone_count, top_count}
use Rattle.dwz_check_labels.specs.Files.{AreHeres, IsCommonReady, IsFileReady, KnowsCommon, KnowsSource, around_at, common_of, raw_of, texts_in}
use Rattle.dwz_check_labels.specs.FilesSaid.{IsFileSaid, around_given}
use Rattle.dwz_check_labels.specs.Rows.{AreTopsWithin, AreWithin}
use Rattle.dwz_check_labels.proofs.EntryLemmas.{row_end, row_of}

-- ---- an index

-- it has a step for each entry, and no more tops, roots and spaces than entries
pub record IsLong (x : CrossIndex) (count : ℕ) : Type 0 where
  pub steps : length x.steps ≡ count
  pub tops : length x.tops ≤ count
  pub lone : length x.lone ≤ count

long_as : (starts : CrossStarts) (said : List (DwUnit ℕ)) (x y : CrossIndex) (count : ℕ) → IsCrossIndex starts said x → IsCrossIndex starts said y → length y.steps ≡ count → IsFew y count
    → IsLong x count
long_as starts said x y count k built long few = record {
  steps = k.names.len ∙ sym built.names.len ∙ long;
  tops = subst (λ (n : ℕ). n ≤ count) (built.tops.len ∙ sym k.tops.len) few.tops;
  lone = subst (λ (n : ℕ). n ≤ count) (built.lone.len ∙ sym k.lone.len) few.lone;
}

pub index_long : (around : Around ℕ) (raw : List RawUnit) (said : List (DwUnit ℕ)) (top : ℕ) (x : CrossIndex) → units_meaning around raw ≡ Ok said → IsCrossIndex (from_top top) said x
    → IsLong x (entries_in raw)
index_long around raw said top x means k =
    let none : 0 + entries_in raw ≡ entries_in raw = omega arith in
    let y = with_units 0 0 0 raw (nothing_yet (from_top top)) in
    long_as (from_top top) said x y (entries_in raw) k (is_index around (from_top top) raw said y (((units_agree around raw).ok said).0 means) refl)
    (units_long 0 0 0 raw (nothing_yet (from_top top)) ∙ none)
    (subst (λ (n : ℕ). IsFew y n) none (few_units 0 0 0 raw (nothing_yet (from_top top)) (record { tops = omega arith; lone = omega arith })))

each_from : {X : Type 0} (P : X → Type 0) (xs : List X) → ((k : ℕ) (x : X) → slice_get xs k ≡ Some x → P x) → Each P xs
each_from P [] h = tt
each_from P (x ∷ xs) h = (h 0 x refl, each_from P xs (λ k y e. h (suc k) y e))

module _ (around : Around ℕ) (raw : List RawUnit) (said : List (DwUnit ℕ)) (top : ℕ) (x : CrossIndex) (means : units_meaning around raw ≡ Ok said) (k : IsCrossIndex (from_top top) said x) where
  tops_within : AreTopsWithin (entries_in raw) x.tops
  tops_within = each_from (λ t. (t.entry < entries_in raw) × (t.outer < entries_in raw)) x.tops (λ n t found. (
      let many : length x.steps ≡ length (cross_names_from 0 top said) = k.names.len in
      let steps : length x.steps ≡ entries_in raw = (index_long around raw said top x means k).steps in
      let lt : n < length x.tops = got_below x.tops n t found in
      let len : length x.tops ≡ length (cross_tops said) = k.tops.len in
      let there = got_there (cross_tops said) n (omega arith) in
      let e = k.tops.each n t there.0 found there.1 in
      let a : t.entry < length (cross_names_from 0 top said) = got_below (cross_names_from 0 top said) t.entry _ e.name.1 in
      let b : t.outer < length (cross_names_from 0 top said) = got_below (cross_names_from 0 top said) t.outer _ e.outer_is.1 in
      (omega (arith, a, many, steps), omega (arith, b, many, steps))))

  lone_within : AreWithin (entries_in raw) x.lone
  lone_within = each_from (λ i. i < entries_in raw) x.lone (λ n i found. (
      let lt : n < length x.lone = got_below x.lone n i found in
      let len : length x.lone ≡ length (lone_entries said) = k.lone.len in
      let there = got_there (lone_entries said) n (omega arith) in
      let e = k.lone.each n i there.0 found there.1 in
      let r = row_of around raw said i (there.0, e.0) means e.1 in
      let le = row_end raw i r.row r.found in
      let ends = r.ends in
      omega (arith, le, ends)))

-- ---- what is held of a file, and of what labels are written from

pub record Held : Type 0 where
  pub around : Around ℕ
  pub raw : List RawUnit
  pub refs : List ℕ
  pub starts : List ℕ
  pub tables : List FileTable
  pub lines : List (Option ℕ)
  pub index : CrossIndex
  pub strs : List ℕ

abbrev pub held_of : File → List ℕ → CrossIndex → Option (Common ℕ) → Held
held_of f strs index common = record {
  around = around_given f common;
  raw = units_of f.units;
  refs = f.resolved.refs.items;
  starts = f.resolved.starts.items;
  tables = f.resolved.tables.items;
  lines = f.resolved.lines.items;
  index = index;
  strs = strs;
}

abbrev pub held_in : Source → Held
held_in x = record {
  around = around_at x;
  raw = raw_of x;
  refs = x.refs.now;
  starts = x.starts.now;
  tables = x.tables.now;
  lines = x.lines.now;
  index = x.own.index.now;
  strs = x.own.common_strs.now;
}

-- the file with names is that one, with that index
pub record IsNamedOf (n : NamedFile) (f : File) (strs : List ℕ) (index : CrossIndex) : Type 0 where
  pub units : n.units.now ≡ f.units
  pub sections : n.sections.now ≡ f.sections
  pub texts_are : n.common_strs.now ≡ strs
  pub index_is : n.index.now ≡ index
  pub heres : AreHeres (units_of f.units) n.heres.now

pub record IsSourceOf (x : Source) (f : File) (strs : List ℕ) (index : CrossIndex) (common : Option (Common ℕ)) : Type 0 where
  pub own : IsNamedOf x.own f strs index
  pub given : common_of x.common ≡ common
  pub refs : x.refs.now ≡ f.resolved.refs.items
  pub starts : x.starts.now ≡ f.resolved.starts.items
  pub tables : x.tables.now ≡ f.resolved.tables.items
  pub lines : x.lines.now ≡ f.resolved.lines.items

held_same : (x : Source) (f : File) (strs : List ℕ) (index : CrossIndex) (common : Option (Common ℕ)) → IsSourceOf x f strs index common → held_of f strs index common ≡ held_in x
held_same x f strs index common s = sym (λ i. record {
  around = record { sources = sources_view (s.own.sections i); all = all_places (units_of (s.own.units i)); place = λ n. n; common = s.given i };
  raw = units_of (s.own.units i);
  refs = s.refs i;
  starts = s.starts i;
  tables = s.tables i;
  lines = s.lines i;
  index = s.own.index_is i;
  strs = s.own.texts_are i;
})

record HeldReady (h : Held) : Type 0 where
  steps : length h.index.steps ≡ entries_in h.raw
  refs : AreAmong h.around.common h.raw h.refs
  starts : length h.starts ≡ entries_in h.raw + 1
  lines : length h.lines ≡ length h.raw
  tops : AreTopsWithin (entries_in h.raw) h.index.tops
  lone : AreWithin (entries_in h.raw) h.index.lone
  few_tops : length h.index.tops ≤ 2 ^ 28
  few_lone : length h.index.lone ≤ 2 ^ 28

record HeldKnows (h : Held) (said : List (DwUnit ℕ)) (top : ℕ) : Type 0 where
  means : units_meaning h.around h.raw ≡ Ok said
  index : IsCrossIndex (from_top top) said h.index
  parts : AreParted h.around h.raw (entries_in h.raw) h.refs h.starts
  lines : HaveLines h.around h.raw (length h.raw) h.tables h.lines
  common : texts_in h.around.common ≡ h.strs

module _ (f : File) (common : Option (Common ℕ)) (said : List (DwUnit ℕ)) (top : ℕ) (index : CrossIndex) (is : IsFileSaid f common said) (k : IsCrossIndex (from_top top) said index) where
  held_ready : (strs : List ℕ) → HeldReady (held_of f strs index common)
  held_ready strs =
      let long = index_long (around_given f common) (units_of f.units) said top index is.means k in
      let few = is.few in
      let tops = long.tops in
      let lone = long.lone in
      record {
        steps = long.steps;
        refs = is.refs;
        starts = is.parts.many;
        lines = is.lines.many;
        tops = tops_within (around_given f common) (units_of f.units) said top index is.means k;
        lone = lone_within (around_given f common) (units_of f.units) said top index is.means k;
        few_tops = omega arith;
        few_lone = omega arith;
      }

  held_knows : (strs : List ℕ) → texts_in common ≡ strs → HeldKnows (held_of f strs index common) said top
  held_knows strs texts = record { means = is.means; index = k; parts = is.parts; lines = is.lines; common = texts }

-- ---- a file with names

pub named_ready : (n : NamedFile) (f : File) (strs : List ℕ) (index : CrossIndex) (common : Option (Common ℕ)) (said : List (DwUnit ℕ)) (top : ℕ) → IsNamedOf n f strs index → IsFileSaid f common said
    → IsCrossIndex (from_top top) said index → IsFileReady n
named_ready n f strs index common said top s is k =
    let long = index_long (around_given f common) (units_of f.units) said top index is.means k in
    record {
      steps = (λ i. length (s.index_is i).steps) ∙ long.steps ∙ (λ i. entries_in (units_of (sym s.units i)));
      heres = subst (λ u. AreHeres (units_of u) n.heres.now) (sym s.units) s.heres;
    }

-- the common file, whose entries that function names
pub common_known : (n : NamedFile) (f : File) (index : CrossIndex) (said : List (DwUnit ℕ)) (top : ℕ) (name : ℕ → CrossName) → IsNamedOf n f [] index → IsFileSaid f None said
    → IsCrossIndex (from_top top) said index
    → ((p : ℕ) (y : CrossName) → In (p, y) (cross_names_from 0 top said) → name (behind_own p) ≡ y) → KnowsCommon (Some n) name
common_known n f index said top name s is k named = (
  said,
  record {
    says = record {
      sources = refl;
      common = sym s.texts_are;
      means = subst (λ (w : Around ℕ × List RawUnit). units_meaning w.0 w.1 ≡ Ok said)
          (sym (λ i. (record { sources = sources_view (s.sections i); all = all_places (units_of (s.units i)); place = λ n. n; common = None }, units_of (s.units i)))) is.means;
    };
    top = top;
    index = subst (λ (x : CrossIndex). IsCrossIndex (from_top top) said x) (sym s.index_is) k;
    named = named;
  },
)

-- ---- what labels are written from

pub record SourceReady (x : Source) : Type 0 where
  pub is : IsSourceReady x
  pub tops : top_count x ≤ 2 ^ 28
  pub lone : lone_count x ≤ 2 ^ 28

module _ (x : Source) (f : File) (strs : List ℕ) (index : CrossIndex) (common : Option (Common ℕ)) (s : IsSourceOf x f strs index common) where
  pub source_ready : (said : List (DwUnit ℕ)) (top : ℕ) → IsFileSaid f common said → IsCrossIndex (from_top top) said index → IsCommonReady x.common → SourceReady x
  source_ready said top is k beside =
      let h = subst HeldReady (held_same x f strs index common s) (held_ready f common said top index is k strs) in
      record {
        is = record {
          ready = record { own = named_ready x.own f strs index common said top s.own is k; common = beside; refs = h.refs; starts = h.starts; lines = h.lines };
          tops = h.tops;
          lone = h.lone;
        };
        tops = h.few_tops;
        lone = h.few_lone;
      }

  pub source_known : (said : List (DwUnit ℕ)) (top : ℕ) (name : ℕ → CrossName) → IsFileSaid f common said → IsCrossIndex (from_top top) said index → texts_in common ≡ strs
      → ((p : ℕ) (y : CrossName) → In (p, y) (cross_names_from 0 top said) → name p ≡ y) → KnowsCommon x.common name → KnowsSource x said name
  source_known said top name is k texts named beside =
      let h = subst (λ (w : Held). HeldKnows w said top) (held_same x f strs index common s) (held_knows f common said top index is k strs texts) in
      record {
        own = record { says = record { sources = refl; common = h.common; means = h.means }; top = top; index = h.index; named = named };
        common = beside;
        parts = h.parts;
        lines = h.lines;
      }

-- what a file with names gives to others
pub gives : (n : NamedFile) (f : File) (strs : List ℕ) (index : CrossIndex) → IsNamedOf n f strs index
    → common_of (Some n) ≡ Some (record { entries = all_places (units_of f.units); place = behind_own; strs = f.sections.strs.bytes.now })
gives n f strs index s = λ i. Some (record { entries = all_places (units_of (s.units i)); place = behind_own; strs = (s.sections i).strs.bytes.now })

pub few_all : (a b c d e : ℕ) → a ≤ 2 ^ 28 → b ≤ 2 ^ 28 → c ≤ 2 ^ 28 → d ≤ 2 ^ 28 → e ≤ 2 ^ 28 → a + b + c + d + e < 2 ^ 32
few_all a b c d e p q r s t = omega arith
