-- What is kept of the one file of a graph and of its common file, and the file with places that they are.
use Rattle.std.specs.Prelude.{◌≡◌, ℕ, ◌+◌, ◌<◌, ◌≤◌, ◌^◌, List, [], ◌∷◌, get_or, length, Option, Some, None}
use Rattle.std.specs.Option.{option_map}
use Rattle.dwz_model.specs.Lists.{Each, NoneTwice}
use Rattle.dwz_def_reading.specs.Files.{debug_aranges}
use Rattle.dwz_def_reading.specs.Places.{Place}
use Rattle.dwz_def_reading.specs.Units.{entries_in}
use Rattle.dwz_def_tops.specs.Shown.{units_keys}
use Rattle.dwz_def_cross.specs.Tops.{WithCommon, units_with_common}
use Rattle.dwz_def_expand.specs.Chosen.{choice}
use Rattle.dwz_def_expand.specs.OneFile.{OneFile, ReadsOne, stored_where}
use Rattle.dwz_def_expand.specs.Refusals.{Where}
use Rattle.dwz_def_expand.specs.Source.{Copy}
use Rattle.dwz_encode.specs.Shown.{Keys}
use Rattle.dwz_unit.specs.Rows.{units_of}
use Rattle.dwz_graph.specs.declared.file.File.{File}
use Rattle.dwz_graph.specs.Files.{AreBack, FilesRead, HasCommon}
use Rattle.dwz_graph.specs.Here.{Here}
use Rattle.dwz_graph.specs.Surroundings.{sources_view}
use Rattle.dwz_check_labels.specs.Files.{AreHeres}
use Rattle.dwz_expand_sources.specs.Imports.{same}
use Rattle.dwz_imports.specs.Said.{SaysBeside, raw_beside}
use Rattle.dwz_expand_sources.specs.Numbers.{HasRanges, copy_count}
use Rattle.dwz_expand_sources.specs.Sources.{AreSources, Sources}
use Rattle.dwz_expand_passes.specs.declared.files.SourceFile.{SourceFile}
use Rattle.dwz_expand_sources.specs.Rows.{AreCopies, Copies}
use Rattle.dwz_expand_passes.specs.Faults.{AreReady, KnowsBoth, count_in}
use Rattle.dwz_expand_passes.specs.Files.{IsCommonReady, IsFileReady, raw_in}
use Rattle.dwz_expand_passes.specs.Known.{KnowsKeys}
use Rattle.dwz_expand_layout.specs.Shown.{keys_of}
use Rattle.dwz_expand_passes.specs.Numbered.{key_in}
use Rattle.dwz_expand.specs.Refused.{InFiles, StandForPlaces}
use Rattle.dwz_expand.specs.declared.files.SourceFiles.{SourceFiles}

-- ---- what is kept

-- the texts of the common file; none, where there is no such file
abbrev pub strs_beside : Option File → List ℕ
strs_beside None = []
strs_beside (Some c) = c.sections.strs.bytes.now

-- what the values of the units of the common file stand in, if there is one
abbrev pub AreHeresBeside : Option File → List Here → Type 0
AreHeresBeside None heres = Unit {0}
AreHeresBeside (Some c) heres = AreHeres (units_of c.units) heres

-- it is that file, beside a common one with those texts
pub record IsSourceOf (f : File) (strs : List ℕ) (s : SourceFile) : Type 0 where
  pub units : s.units.now ≡ f.units
  pub sections : s.sections.now ≡ f.sections
  pub texts_are : s.common_strs.now ≡ strs
  pub heres : AreHeres (units_of f.units) s.heres.now
  pub refs : s.refs.now ≡ f.resolved.refs.items
  pub starts : s.starts.now ≡ f.resolved.starts.items
  pub tables : s.tables.now ≡ f.resolved.tables.items
  pub lines : s.lines.now ≡ f.resolved.lines.items

abbrev pub IsCommonOf : Option File → Option SourceFile → Type 0
IsCommonOf None None = Unit {0}
IsCommonOf (Some c) (Some s) = IsSourceOf c [] s
IsCommonOf _ _ = ⊥

pub record AreSourceFiles (own : File) (common : Option File) (s : SourceFiles) : Type 0 where
  pub own_is : IsSourceOf own (strs_beside common) s.own
  pub common_is : IsCommonOf common s.common

-- what is kept of both can be looked up
pub record CanBeLookedUp (s : SourceFiles) : Type 0 where
  pub own : IsFileReady s.own
  pub refs : Each (λ j. j < count_in s.own s.common) s.own.refs.now
  pub common : IsCommonReady s.common
  pub few : count_in s.own s.common < 2 ^ 32

-- ---- plans of new units

-- they say this, and have so few entries that a plan can be made of their new units
pub record CanBePlanned (own : File) (common : Option File) (w : WithCommon ℕ) : Type 0 where
  pub own_few : entries_in (units_of own.units) ≤ 2 ^ 28
  pub common_few : entries_in (raw_beside (option_map (λ f. f.units) common)) ≤ 2 ^ 28
  pub says : SaysBeside (units_of own.units) (raw_beside (option_map (λ f. f.units) common)) w

-- a plan has units of the file, the ranges of each, and so few copies that they can be numbered
pub record HasUnits (s : SourceFiles) (x : Sources) : Type 0 where
  pub units : Each (λ y. y.unit < length (raw_in s.own)) x.units
  pub ranges : Each (HasRanges x.ranges) x.units
  pub few : copy_count x.ranges x.units < 2 ^ 64

-- with the copies of such a plan its values can be looked at
abbrev pub ReadyLaw : Type 0
ReadyLaw =
    (s : SourceFiles) (x : Sources) (starts : List ℕ) (c : Copies) → CanBeLookedUp s → HasUnits s x → AreCopies x starts c
    → length c.first ≡ count_in s.own s.common → AreReady s.own s.common x starts c

-- copies have the numbers that are counted
abbrev pub KeysLaw : Type 0
KeysLaw = (w : WithCommon ℕ) → KnowsKeys w (keys_of (key_in w))

-- ---- the file with places

-- values stand where they do in the file with places
abbrev pub stands_of : OneFile → (ℕ → Place) → Where ℕ
stands_of f place = record {
  value = λ p index. (stored_where f).value (place p) index;
  named = λ p index number. (stored_where f).named (place p) index number;
}

-- Files that a graph has read are that file with places. Both say the units of `w`, where numbers stand for places, no two for one.
pub record IsOneKnown (r : FilesRead) (own : File) (common_file : Option File) (s : SourceFiles) : Type 0 where
  pub f : OneFile
  pub reads : ReadsOne f
  pub content : r.back ≡ f.file.bytes ∷ []
  pub common : r.common ≡ option_map (λ c. c.bytes) f.common
  pub raw : f.file.raw ≡ units_of own.units
  pub aranges : own.sections.aranges.now ≡ debug_aranges f.file.bytes
  pub w : WithCommon ℕ
  pub place : ℕ → Place
  pub stand : StandForPlaces f place same (choice same w (sources_view s.own.sections.now)) (stands_of f place) w
  pub apart : (p q : ℕ) → place p ≡ place q → p ≡ q
  pub once : NoneTwice (units_keys (units_with_common w))
  pub files : InFiles place w
  pub ready : CanBeLookedUp s
  pub planned : CanBePlanned own common_file w
  pub many : length w.own ≡ length (raw_in s.own)
  pub plans : (x : Sources) → AreSources w x → HasUnits s x
  pub knows : (keys : Keys (Copy ℕ)) → KnowsKeys w keys → KnowsBoth s.own s.common w keys (stands_of f place)

-- so it is of the one file of a graph that was read back, and of its common file
abbrev pub OneKnownLaw : Type 0
OneKnownLaw =
    (r : FilesRead) (files : List File) (own : File) (common : Option File) (s : SourceFiles) → length r.back ≡ 1
    → HasCommon (length r.given + length r.back) r.common common → AreBack r.common r.back files → own ≡ get_or files 0 own
    → AreSourceFiles own common s → IsOneKnown r own common s
