-- Which units of a document new units show, once copies have keys.
use Rattle.std.specs.Prelude.{◌≡◌, ℕ, ◌+◌, ◌<◌, suc, Bool, List, [], ◌∷◌, ◌++◌, length, map, replicate}
use Rattle.dwz_def_reading.specs.Documents.{DwUnit, Compile as CompileUnit, Kind, OfType as TypeUnit}
use Rattle.dwz_def_reading.specs.Lists.{Each}
use Rattle.dwz_layout_items.specs.Lines.{Enter, Leave, Step, unit_steps}
use Rattle.dwz_layout.specs.Attributes.{Content, OfEntry, OfParts, OfRoot, OutAttr, Read}
pub use Rattle.dwz_encode.specs.Shown.{Held, HeldAttr, Key, Keys, Parts, Value, attr_held, content_held, expr_held, first_held, held_as}
pub use Rattle.dwz_encode.specs.Shown.{held_of}
use Rattle.dwz_expand_layout.specs.declared.entries.NewKind.{NewKind}
use Rattle.dwz_expand_layout.specs.declared.entries.NewKind.TheVariants.{Compile, OfType}
use Rattle.dwz_expand_layout.specs.Entries.{NewLine, UnitLines}

-- ---- entries

-- an entry begins, with its key and its tag, whether children follow, and what its attributes store; or a list of children ends
pub data ShownStep (K : Type 0) : Type 0 where
  Begins : K → (tag : ℕ) → (children : Bool) → List (HeldAttr K) → ShownStep K
  Ends : ShownStep K

abbrev pub shown_step : {K : Type 0} → Step K → ShownStep K
shown_step (Enter e children) = Begins e.at e.tag children (map held_of e.attrs)
shown_step Leave = Ends

-- no attribute of a new unit names a root by the number of its unit
abbrev pub keys_of : {K : Type 0} → (ℕ → K) → Keys K
keys_of key = record { row = key; root = key; chained = λ unit chain depth. key depth; import = λ unit part. key part }

-- entries, of which the first is the copy with that number
unfoldable pub line_steps : {K : Type 0} → (ℕ → K) → ℕ → List NewLine → List (ShownStep K)
line_steps key number [] = []
line_steps key number (l ∷ lines) = Begins (key number) l.tag l.children (map (attr_held (keys_of key)) l.attrs)
    ∷ (replicate l.ends Ends ++ line_steps key (suc number) lines)

-- ---- units

abbrev pub KindShows : {K : Type 0} → (ℕ → K) → NewKind → Kind K → Type 0
KindShows key Compile CompileUnit = Unit {0}
KindShows key (OfType s main) (TypeUnit signature k) = (s ≡ signature) × (key main ≡ k)
KindShows key _ _ = ⊥

-- the same entries in preorder, whose lists end at the same places, with what these store
pub record ShowsUnit {K : Type 0} (key : ℕ → K) (number : ℕ) (o : UnitLines) (u : DwUnit K) : Type 0 where
  pub kind : KindShows key o.kind u.kind
  pub steps : line_steps key number o.lines ≡ map shown_step (unit_steps u)

-- units one by one, where the root of the first is the copy with that number
abbrev pub ShowUnits : {K : Type 0} → (ℕ → K) → ℕ → List UnitLines → List (DwUnit K) → Type 0
ShowUnits key number [] [] = Unit {0}
ShowUnits key number (o ∷ order) (u ∷ units) = ShowsUnit key number o u × ShowUnits key (number + length o.lines) order units
ShowUnits key number _ _ = ⊥

-- ---- what is named is there: one of so many copies

abbrev pub ContentRefers : ℕ → Content → Type 0
ContentRefers count (Read raw) = Unit {0}
ContentRefers count (OfEntry number) = number < count
ContentRefers count (OfRoot unit) = ⊥
ContentRefers count (OfParts parts numbers) = Each (λ n. n < count) numbers

abbrev pub AttrRefers : ℕ → OutAttr → Type 0
AttrRefers count a = ContentRefers count a.content

abbrev pub LineRefers : ℕ → NewLine → Type 0
LineRefers count l = Each (AttrRefers count) l.attrs

abbrev pub KindRefers : ℕ → NewKind → Type 0
KindRefers count Compile = Unit {0}
KindRefers count (OfType signature main) = main < count

pub record UnitRefers (count : ℕ) (o : UnitLines) : Type 0 where
  pub kind : KindRefers count o.kind
  pub lines : Each (LineRefers count) o.lines
