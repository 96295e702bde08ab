-- What is shown of an attribute, with its value: an attribute of a document, with the number of the file at each place.
use Rattle.std.specs.Prelude.{◌≡◌, ℕ, List, [], ◌∷◌, map, Option, Some}
use Rattle.std.specs.List.{flat_map}
use Rattle.std.specs.Option.{option_map}
use Rattle.dwz_model.specs.declared.place.Piece.{Piece}
use Rattle.dwz_model.specs.declared.place.Piece.TheVariants.{Raw, Ref as NamesPlace}
use Rattle.dwz_model.specs.declared.place.Place.{Place}
use Rattle.dwz_def_reading.specs.Documents.{Addr, Attr, Block, Expr, File, Flag, Index, Loc, Num, Operand, Part, Same, Sec, Sig, Text, Value}
use Rattle.dwz_def_reading.specs.Documents.{attr_map, only, ref, value_map}
use Rattle.dwz_graph_view.specs.declared.attr_views.AttrView.{AttrView}
use Rattle.dwz_graph_view.specs.declared.value_views.ValueView.{ValueView}
use Rattle.dwz_graph_view.specs.declared.value_views.ValueView.TheVariants as shown
use Rattle.dwz_graph_view.specs.UnitViews.{place_in}

-- ---- expressions (2.5)

-- a piece is a part
abbrev pub part_of : Piece → Part
part_of (Raw bytes) = Same bytes
part_of (NamesPlace place width uleb base) = Operand width uleb base

-- and names an entry, or none
abbrev pub named_in : Piece → List Place
named_in (Raw bytes) = []
named_in (NamesPlace place width uleb base) = place ∷ []

-- ---- values

-- the value that is shown
abbrev pub value_shown : ValueView → Value Place
value_shown (shown.Num width number) = only (Num width number)
value_shown (shown.Flag set) = only (Flag set)
value_shown (shown.Bytes bytes) = only (Block bytes.now)
value_shown (shown.Text text) = only (Text text.now)
value_shown (shown.File path) = only (File path)
value_shown (shown.Ref place) = ref place
value_shown (shown.Sig signature) = only (Sig signature)
value_shown (shown.Addr address) = only (Addr address)
value_shown (shown.Index index) = only (Index index)
value_shown (shown.Sec offset) = only (Sec offset)
value_shown (shown.Expr pieces address) = record {
  plain = Expr (map part_of pieces);
  refs = flat_map named_in pieces;
  address = address;
}
value_shown (shown.Loc exprs address) = record {
  plain = Loc (map (λ pieces. map part_of pieces) exprs);
  refs = flat_map (λ pieces. flat_map named_in pieces) exprs;
  address = address;
}

-- the attribute that is shown
abbrev pub attr_shown : AttrView → Attr Place
attr_shown a = record { name = a.name; form = a.form; raw = a.raw; value = value_shown a.value }

-- the attribute of a document, in the file with that number
abbrev pub attr_in : ℕ → Attr ℕ → Attr Place
attr_in file a = attr_map (place_in file) a

abbrev pub value_in : ℕ → Value ℕ → Value Place
value_in file v = value_map (place_in file) v

-- Inner: it is shown.
abbrev pub Shows : ℕ → Value ℕ → Option ValueView → Type 0
Shows file v o = option_map value_shown o ≡ Some (value_in file v)

-- what it says
abbrev pub value_of_attr : ℕ → Attr ℕ → Value Place
value_of_attr file a = value_in file a.value
