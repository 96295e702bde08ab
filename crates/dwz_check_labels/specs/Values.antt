-- What is written of attributes, one value after the other.
use Rattle.std.specs.Prelude.{◌≡◌, ℕ, List, ◌++◌, length, map, Ok, drop}
use Rattle.std.specs.List.{flat_map}
use Rattle.dwz_def_reading.specs.Documents.{Attr, Value, attr_map, value_map}
use Rattle.dwz_def_reading.specs.Entries.{RawAttr}
use Rattle.dwz_def_reading.specs.Meanings.{MeaningContext, without_siblings}
use Rattle.dwz_def_reading.specs.Meant.{attrs_meaning}
use Rattle.dwz_def_check.specs.CrossLabels.{cross_attr_label, cross_value_label, names_into}
use Rattle.dwz_def_check.specs.CrossNames.{CrossName}
use Rattle.dwz_graph.specs.Named.{attrs_refs, value_refs}
use Rattle.dwz_check_labels.specs.Told.{Tells}

-- a value was written, and behind what it names the references go on
pub record TellsValue (name : ℕ → CrossName) (v : Value ℕ) (refs others old new before after : List ℕ) : Type 0 where
  pub told : Tells (cross_value_label (value_map name v)) (names_into (map name v.refs)) old new before after
  pub rest : others ≡ drop (length (value_refs v)) refs

-- these values mean the attributes, and the references are those of what they name
pub record AreAttrsMeant (s : MeaningContext ℕ) (place : ℕ → ℕ) (refs : List ℕ) (values : List RawAttr) (attrs : List (Attr ℕ))
    : Type 0 where
  pub means : attrs_meaning s (without_siblings values) ≡ Ok attrs
  pub named : map place refs ≡ attrs_refs attrs

-- what attributes say, one behind the other, and the tops that they lead into
abbrev pub attrs_label : (ℕ → CrossName) → List (Attr ℕ) → List ℕ
attrs_label name attrs = flat_map cross_attr_label (map (attr_map name) attrs)

abbrev pub attrs_into : (ℕ → CrossName) → List (Attr ℕ) → List ℕ
attrs_into name attrs = flat_map (λ a. names_into a.value.refs) (map (attr_map name) attrs)

-- one value was written, and those behind it are left
pub record TellsAttr (s : MeaningContext ℕ) (place : ℕ → ℕ) (values : List RawAttr) (name : ℕ → CrossName) (attrs : List (Attr ℕ))
    (others old new before after : List ℕ) : Type 0 where
  pub left : List (Attr ℕ)
  pub rest : AreAttrsMeant s place others values left
  pub bytes : new ++ attrs_label name left ≡ old ++ attrs_label name attrs
  pub tops : after ++ attrs_into name left ≡ before ++ attrs_into name attrs
