-- Attributes and entries as they are stored (DWARF 5, 7.5.3 and 7.5.4).
use Rattle.std.specs.Prelude.{ℕ, Bool, List, [], ◌∷◌, ◌++◌, map}
use Rattle.dwz_model.specs.declared.place.Pair.{Pair}
use Rattle.dwz_def_reading.specs.Values.{Raw, value_bytes}
use Rattle.dwz_def_encoding.specs.Writing.{DeclarationShape, code_bytes, code_in}

-- an attribute: its name and form, and what is stored for it
pub record StoredAttr : Type 0 where
  pub pair : Pair
  pub raw : Raw

abbrev pub pairs_of : List StoredAttr → List Pair
pairs_of attrs = map (λ a. a.pair) attrs

-- the shape of an entry with these attributes
abbrev pub shape_for : ℕ → Bool → List StoredAttr → DeclarationShape
shape_for tag children attrs = record { tag = tag; children = children; pairs = pairs_of attrs }

-- the values, one behind the other
unfoldable pub values_bytes : List StoredAttr → List ℕ
values_bytes [] = []
values_bytes (a ∷ attrs) = value_bytes a.pair.form a.raw ++ values_bytes attrs

-- an entry whose shape is in the table: its code and its values
abbrev pub entry_bytes : List DeclarationShape → DeclarationShape → List StoredAttr → List ℕ
entry_bytes shapes s attrs = code_bytes (code_in 1 shapes s) ++ values_bytes attrs
