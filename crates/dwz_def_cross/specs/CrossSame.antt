-- Two files that mean the same: one with its imports, the other with its own.
use Rattle.std.specs.Prelude.{◌≡◌, ℕ, List, [], ◌∷◌}
use Rattle.dwz_def_reading.specs.Documents.{Compile, DwUnit, Kind, Node, OfType}
use Rattle.dwz_def_tops.specs.Seen.{InCompile}
use Rattle.dwz_def_tops.specs.Spaces.{IsSpace}
use Rattle.dwz_def_cross.specs.Tops.{CrossTop, IsExpanded, StandsAlong, WithCommon, units_with_common, type_top, whole_units}
use Rattle.dwz_def_cross.specs.CrossLook.{CrossAlike, CrossNode}

-- both are compile units; or both are type units with one signature, and one path leads from the root to the type
abbrev pub OneKind : {P Q : Type 0} → DwUnit P → DwUnit Q → Kind P → Kind Q → Type 0
OneKind u x Compile Compile = Unit {0}
OneKind u x (OfType s m) (OfType t n) =
    (s ≡ t) × ((path : List ℕ) × StandsAlong path u.root u.below m × StandsAlong path x.root x.below n)
OneKind u x _ _ = ⊥

-- the roots of type units are alike
abbrev pub TypesAlike : {P Q : Type 0} → WithCommon P → WithCommon Q → DwUnit P → DwUnit Q → Kind P → Type 0
TypesAlike v w u x (OfType signature main) = CrossAlike v w (type_top u) (type_top x)
TypesAlike v w u x _ = Unit {0}

-- Each space of either has a space of the other with its name list, tag and attributes; and so for each name list what stands under it,
-- imports expanded: each entry has one that is alike.
pub record SpacesAlike {P Q : Type 0} (v : WithCommon P) (w : WithCommon Q) (u : DwUnit P) (x : DwUnit Q) : Type 0 where
  pub spaces : (names : List (List ℕ)) (d : Node P) → IsSpace names d u.below → (e : Node Q) × IsSpace names e x.below
      × CrossNode (CrossAlike v w) v w d e
  pub no_more : (names : List (List ℕ)) (e : Node Q) → IsSpace names e x.below → (d : Node P) × IsSpace names d u.below
      × CrossNode (CrossAlike v w) v w d e
  pub tops : (a : CrossTop P) → IsExpanded (units_with_common v) u a → (b : CrossTop Q) × IsExpanded (units_with_common w) x b × (a.names ≡ b.names)
      × CrossAlike v w a b
  pub others : (b : CrossTop Q) → IsExpanded (units_with_common w) x b → (a : CrossTop P) × IsExpanded (units_with_common v) u a × (a.names ≡ b.names)
      × CrossAlike v w a b

-- two units, neither of which is partial, mean the same
pub record UnitsAlike {P Q : Type 0} (v : WithCommon P) (w : WithCommon Q) (u : DwUnit P) (x : DwUnit Q) : Type 0 where
  pub kind : OneKind u x u.kind x.kind
  pub root : CrossNode (CrossAlike v w) v w u.root x.root
  pub types : TypesAlike v w u x u.kind
  pub inside : InCompile u.kind (SpacesAlike v w u x)

-- there are as many, and each two in order are related
abbrev pub EachTwo : {X Y : Type 0} → (X → Y → Type 0) → List X → List Y → Type 0
EachTwo R [] [] = Unit {0}
EachTwo R (x ∷ xs) (y ∷ ys) = R x y × EachTwo R xs ys
EachTwo R _ _ = ⊥

-- both have as many units that aren't partial, and the n-th of the one and the n-th of the other mean the same
abbrev pub CrossSame : {P Q : Type 0} → WithCommon P → WithCommon Q → Type 0
CrossSame v w = EachTwo (UnitsAlike v w) (whole_units v.own) (whole_units w.own)
