-- Attributes of entries by their numbers, and what is shown of one besides its value.
use Rattle.std.specs.Prelude.{ℕ, List, Option, slice_get}
use Rattle.std.specs.Option.{option_and_then}
use Rattle.dwz_model.specs.declared.place.Place.{Place}
use Rattle.dwz_def_reading.specs.Documents.{Attr, Doc}
use Rattle.dwz_graph_view.specs.declared.attr_forms.AttrForm.{AttrForm}
use Rattle.dwz_graph_view.specs.EntryViews.{entry_at}

-- the attribute with a number, from 0, of the entry at a place (2.2)
abbrev pub attr_at : List (Doc ℕ) → Place → ℕ → Option (Attr ℕ)
attr_at docs p i = option_and_then (λ e. slice_get e.node.attrs i) (entry_at docs p)

-- what is shown of an attribute: its name, its form, and the number that the form stores
abbrev pub form_view : Attr ℕ → AttrForm
form_view a = record { name = a.name; form = a.form; raw = a.raw }
