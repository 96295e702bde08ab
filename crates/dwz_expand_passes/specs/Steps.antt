-- Inner: What was made of the sources of new units so far.
use Rattle.std.specs.Prelude.{◌≡◌, ℕ, ◌-◌, ◌<◌, List, [], ◌∷◌, ◌++◌, map, nat_lt, slice_get, Option, Some, None, Result, Ok, Err}
use Rattle.dwz_def_cross.specs.CrossSame.{EachTwo}
use Rattle.dwz_def_cross.specs.Tops.{WithCommon}
use Rattle.dwz_def_expand.specs.Refusals.{SiteFault, Where, sites_in, sites_of}
use Rattle.dwz_def_expand.specs.Source.{source_places}
use Rattle.dwz_def_reading.specs.Documents.{Node}
use Rattle.dwz_def_reading.specs.FirstOf.{OfFirst}
use Rattle.dwz_model.specs.Lists.{Each}
use Rattle.dwz_model.specs.declared.fault.Fault.{Fault}
use Rattle.dwz_model.specs.declared.fault.ReadErr.{ReadErr}
use Rattle.dwz_model.specs.declared.fault.ReadErr.TheVariants.{NoMemory, Refused}
use Rattle.dwz_expand_sources.specs.Imports.{same}
use Rattle.dwz_expand_layout.specs.Depths.{DeepLine}
use Rattle.dwz_expand_layout.specs.Entries.{CanStore, NewLine, UnitLines, attr_view}
use Rattle.dwz_expand_layout.specs.Lines.{Line}
use Rattle.dwz_expand_layout.specs.Shown.{keys_of}
use Rattle.dwz_expand_layout.specs.declared.entries.NewKind.{NewKind}
use Rattle.dwz_expand_passes.specs.Files.{Knows, forms_of}
use Rattle.dwz_expand_passes.specs.declared.files.Known.{Known}
use Rattle.dwz_expand_passes.specs.Heads.{IsHeadOf}
use Rattle.dwz_expand_passes.specs.Noted.{AreNotedOf, Noted}
use Rattle.dwz_expand_passes.specs.declared.copied.CopiedEntry.{CopiedEntry}
use Rattle.dwz_expand_passes.specs.declared.copied.Source.{Source}
use Rattle.dwz_expand_passes.specs.CopiesOf.{IsCopyOf, NamesNoRoot}
use Rattle.dwz_expand_passes.specs.Lined.{all_lines}
use Rattle.dwz_expand_passes.specs.Numbered.{key_in}

-- ---- what is known

-- both files say this, and the new unit at hand is one of theirs; the numbers of copies are those that are counted
abbrev pub KnowsHere : Known → WithCommon ℕ → Where ℕ → Type 0
KnowsHere x w stands = Knows x w (keys_of (key_in w)) stands

-- the tag and the depth of a source are those of its entry
pub record IsSource (x : Known) (s : Source) : Type 0 where
  pub tag : 0 < s.head.tag
  pub is : (w : WithCommon ℕ) (stands : Where ℕ) → KnowsHere x w stands → (l : Line ℕ) → slice_get (all_lines w) s.entry ≡ Some l
      → IsHeadOf l s.head

-- behind all a root would follow
abbrev pub depth_at : Option Source → ℕ
depth_at None = 1
depth_at (Some s) = s.head.depth

-- ---- an entry

-- as it is written, before one that stands so deep
abbrev pub line_before : ℕ → DeepLine → NewLine
line_before next d = record { tag = d.tag; children = nat_lt d.depth next; attrs = d.attrs; ends = d.depth - next }

abbrev pub copied_line : CopiedEntry → NewLine
copied_line e = record { tag = e.tag; children = e.children; attrs = map (attr_view e.operands.items) e.attrs.items; ends = e.ends }

abbrev pub copied_deep : ℕ → CopiedEntry → DeepLine
copied_deep depth e = record { depth = depth; tag = e.tag; attrs = map (attr_view e.operands.items) e.attrs.items }

pub record CanBeWritten (e : CopiedEntry) : Type 0 where
  pub tag : 0 < e.tag
  pub attrs : Each CanStore e.attrs.items

-- the first of its values that can't be copied has that fault
abbrev pub RefusesLine : Known → WithCommon ℕ → Where ℕ → Node ℕ → Fault → Type 0
RefusesLine x w stands e = OfFirst (SiteFault same (source_places same w) (forms_of x w) stands) (sites_of x.unit e.at 0 e.attrs)

-- it is the copy of an entry, of which each value can be copied
pub record IsCopied (x : Known) (w : WithCommon ℕ) (stands : Where ℕ) (d : DeepLine) (l : Line ℕ) : Type 0 where
  pub copy : IsCopyOf w (forms_of x w) x.unit d l
  pub free : (f : Fault) → ¬ RefusesLine x w stands l.node f

abbrev pub AnswersLine : {Y : Type 0} → Known → WithCommon ℕ → Where ℕ → Line ℕ → DeepLine → Result Y ReadErr → Type 0
AnswersLine x w stands l d (Ok y) = IsCopied x w stands d l
AnswersLine x w stands l d (Err NoMemory) = Unit {0}
AnswersLine x w stands l d (Err (Refused f)) = RefusesLine x w stands l.node f

-- ---- a unit

abbrev pub a_unit : NewKind → List NewLine → UnitLines
a_unit kind lines = record { kind = kind; lines = lines }

-- entries, before one that stands so deep
abbrev pub deep_or : ℕ → List DeepLine → ℕ
deep_or next [] = next
deep_or next (d ∷ deep) = d.depth

abbrev pub lines_before : ℕ → List DeepLine → List NewLine
lines_before next [] = []
lines_before next (d ∷ deep) = line_before (deep_or next deep) d ∷ lines_before next deep

abbrev pub CopyThere : Known → WithCommon ℕ → Where ℕ → ℕ → DeepLine → Type 0
CopyThere x w stands i d = (l : Line ℕ) → slice_get (all_lines w) i ≡ Some l → IsCopied x w stands d l

-- they are the copies of the entries with these numbers
pub record AreCopied (x : Known) (all : List ℕ) (deep : List DeepLine) : Type 0 where
  pub copies : (w : WithCommon ℕ) (stands : Where ℕ) → KnowsHere x w stands → EachTwo (CopyThere x w stands) all deep
  pub no_roots : Each (λ d. Each NamesNoRoot d.attrs) deep

-- some of them were copied, and the others are these
pub record PassedTo (x : Known) (all rest : List ℕ) (deep : List DeepLine) : Type 0 where
  pub done : List ℕ
  pub whole : all ≡ done ++ rest
  pub copied : AreCopied x done deep

-- the operands of some of them were told, and the others are these
pub record NotedTo (x : Known) (all rest : List ℕ) (given : List Noted) : Type 0 where
  pub done : List ℕ
  pub whole : all ≡ done ++ rest
  pub are : AreNotedOf (KnowsHere x) x.own x.common x.unit done given

-- the next one, and those behind it
abbrev pub rest_of : Option Source → List ℕ → List ℕ
rest_of None walk = []
rest_of (Some s) walk = s.entry ∷ walk

-- the first value of entries that can't be copied has that fault
abbrev pub RefusesLines : Known → WithCommon ℕ → Where ℕ → List (Line ℕ) → Fault → Type 0
RefusesLines x w stands ls =
    OfFirst (SiteFault same (source_places same w) (forms_of x w) stands) (sites_in x.unit (map (λ (l : Line ℕ). l.node) ls))

abbrev pub RefusesIn : {Y : Type 0} → Known → List ℕ → Result Y ReadErr → Type 0
RefusesIn x all (Ok y) = Unit {0}
RefusesIn x all (Err NoMemory) = Unit {0}
RefusesIn x all (Err (Refused f)) =
    (w : WithCommon ℕ) (stands : Where ℕ) → KnowsHere x w stands → (ls : List (Line ℕ))
    → EachTwo (λ i l. slice_get (all_lines w) i ≡ Some l) all ls → RefusesLines x w stands ls f
