-- Looks at tops of two files, each with the supplementary file that it refers to.
use Rattle.std.specs.Prelude.{◌≡◌, ℕ, zero, suc, List, [], ◌∷◌}
use Rattle.dwz_def_reading.specs.Documents.{Attr, Compile, DwUnit, Entries, Node}
use Rattle.dwz_def_reading.specs.Lists.{In}
use Rattle.dwz_def_reading.specs.Trees.{End, Entry}
use Rattle.dwz_def_tops.specs.Lists.{Nth}
use Rattle.dwz_def_tops.specs.Seen.{IsPartial}
use Rattle.dwz_def_tops.specs.Spaces.{IsSpace}
use Rattle.dwz_def_cross.specs.Tops.{CrossTop, IsCrossTop, StandsIn, WithCommon, units_with_common, whole_units}

-- ---- what a place is that is in no top

-- the root of the n-th of the units that aren't partial, a compile unit; the root of a type unit is a top
pub record IsRootOf {P : Type 0} (v : WithCommon P) (n : ℕ) (p : P) : Type 0 where
  pub unit : DwUnit P
  pub nth : Nth 0 (whole_units v.own) n unit
  pub kind : unit.kind ≡ Compile
  pub at : unit.root.at ≡ p

pub record IsPartialRoot {P : Type 0} (v : WithCommon P) (p : P) : Type 0 where
  pub unit : DwUnit P
  pub there : In unit (units_with_common v)
  pub kind : IsPartial unit.kind
  pub at : unit.root.at ≡ p

-- the space with these names, of the n-th of the units that aren't partial
pub record IsSpaceOf {P : Type 0} (v : WithCommon P) (n : ℕ) (names : List (List ℕ)) (p : P) : Type 0 where
  pub unit : DwUnit P
  pub nth : Nth 0 (whole_units v.own) n unit
  pub kind : unit.kind ≡ Compile
  pub entry : Node P
  pub space : IsSpace names entry unit.below
  pub at : entry.at ≡ p

pub record IsPartialSpace {P : Type 0} (v : WithCommon P) (names : List (List ℕ)) (p : P) : Type 0 where
  pub unit : DwUnit P
  pub there : In unit (units_with_common v)
  pub kind : IsPartial unit.kind
  pub entry : Node P
  pub space : IsSpace names entry unit.below
  pub at : entry.at ≡ p

-- ---- equal trees, where R holds of the tops of the targets

-- two places are at one path in tops of which R holds; or roots of units with one number, spaces of these with one name list, or both
-- roots, or spaces with one name list, of partial units
pub data CrossTarget {P Q : Type 0} (R : CrossTop P → CrossTop Q → Type 0) (v : WithCommon P) (w : WithCommon Q) (p : P) (q : Q) : Type 0 where
  InTops : (path : List ℕ) (a : CrossTop P) (b : CrossTop Q) → IsCrossTop (units_with_common v) a → IsCrossTop (units_with_common w) b → StandsIn path a p
      → StandsIn path b q → R a b → CrossTarget R v w p q
  Roots : (n : ℕ) → IsRootOf v n p → IsRootOf w n q → CrossTarget R v w p q
  Spaces : (n : ℕ) (names : List (List ℕ)) → IsSpaceOf v n names p → IsSpaceOf w n names q → CrossTarget R v w p q
  PartialRoots : IsPartialRoot v p → IsPartialRoot w q → CrossTarget R v w p q
  PartialSpaces : (names : List (List ℕ)) → IsPartialSpace v names p → IsPartialSpace w names q → CrossTarget R v w p q

abbrev pub CrossRefs : {P Q : Type 0} → (CrossTop P → CrossTop Q → Type 0) → WithCommon P → WithCommon Q → List P → List Q → Type 0
CrossRefs R v w [] [] = Unit {0}
CrossRefs R v w (p ∷ ps) (q ∷ qs) = CrossTarget R v w p q × CrossRefs R v w ps qs
CrossRefs R v w _ _ = ⊥

-- names and values; neither forms nor stored numbers
abbrev pub CrossAttrs : {P Q : Type 0} → (CrossTop P → CrossTop Q → Type 0) → WithCommon P → WithCommon Q → List (Attr P) → List (Attr Q) → Type 0
CrossAttrs R v w [] [] = Unit {0}
CrossAttrs R v w (a ∷ attrs) (b ∷ others) =
    (a.name ≡ b.name) × (a.value.plain ≡ b.value.plain) × CrossRefs R v w a.value.refs b.value.refs × CrossAttrs R v w attrs others
CrossAttrs R v w _ _ = ⊥

pub record CrossNode {P Q : Type 0} (R : CrossTop P → CrossTop Q → Type 0) (v : WithCommon P) (w : WithCommon Q) (d : Node P) (e : Node Q) : Type 0 where
  pub tag : d.tag ≡ e.tag
  pub attrs : CrossAttrs R v w d.attrs e.attrs

abbrev pub CrossEntries : {P Q : Type 0} → (CrossTop P → CrossTop Q → Type 0) → WithCommon P → WithCommon Q → Entries P → Entries Q → Type 0
CrossEntries R v w End End = Unit {0}
CrossEntries R v w (Entry d f g) (Entry e f' g') = CrossNode R v w d e × CrossEntries R v w f f' × CrossEntries R v w g g'
CrossEntries R v w _ _ = ⊥

pub record CrossEqual {P Q : Type 0} (R : CrossTop P → CrossTop Q → Type 0) (v : WithCommon P) (w : WithCommon Q) (a : CrossTop P) (b : CrossTop Q) : Type 0 where
  pub names : a.names ≡ b.names
  pub node : CrossNode R v w a.node b.node
  pub below : CrossEntries R v w a.below b.below

-- looks of each depth; languages aren't compared, since roots are
unfoldable pub CrossLook : {P Q : Type 0} → WithCommon P → WithCommon Q → ℕ → CrossTop P → CrossTop Q → Type 0
CrossLook v w zero a b = Unit {0}
CrossLook v w (suc k) a b = CrossEqual (CrossLook v w k) v w a b

-- looks of every depth find them equal
abbrev pub CrossAlike : {P Q : Type 0} → WithCommon P → WithCommon Q → CrossTop P → CrossTop Q → Type 0
CrossAlike v w a b = (k : ℕ) → CrossLook v w k a b
