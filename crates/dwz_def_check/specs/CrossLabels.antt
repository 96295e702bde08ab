-- Inner: labels of tops, and of entries alone: bytes that are equal for two exactly if they are the same but for the tops that references
-- go into. Each piece ends by itself, so it can be told from what follows.
use Rattle.std.specs.Prelude.{ℕ, List, [], ◌∷◌, ◌++◌}
use Rattle.std.specs.List.{flat_map}
use Rattle.dwz_def_reading.specs.Documents.{Attr, Entries, Node, Value, entries_map, node_map}
use Rattle.dwz_def_reading.specs.Trees.{End, Entry, size}
use Rattle.dwz_label.specs.Labels.{counted, each_counted, number, plain_label}
use Rattle.dwz_def_cross.specs.Tops.{CrossTop}
use Rattle.dwz_def_check.specs.CrossNames.{AtPath, CrossName, PartRoot, PartSpace, WholeRoot, WholeSpace}

-- ---- names in place of places

abbrev pub cross_top_map : {P Q : Type 0} → (P → Q) → CrossTop P → CrossTop Q
cross_top_map f t = record { names = t.names; node = node_map f t.node; below = entries_map f t.below }

-- ---- labels

-- of what is named, whichever top it is in
abbrev pub name_label : CrossName → List ℕ
name_label (AtPath top path) = 1 ∷ each_counted number path
name_label (WholeRoot unit) = 2 ∷ number unit
name_label (WholeSpace unit names) = 3 ∷ number unit ++ each_counted counted names
name_label PartRoot = 4 ∷ []
name_label (PartSpace names) = 5 ∷ each_counted counted names

abbrev pub cross_value_label : Value CrossName → List ℕ
cross_value_label v = plain_label v.plain ++ each_counted name_label v.refs

abbrev pub cross_attr_label : Attr CrossName → List ℕ
cross_attr_label a = number a.name ++ cross_value_label a.value

-- an entry without what is below it
abbrev pub lone_label : Node CrossName → List ℕ
lone_label e = number e.tag ++ each_counted cross_attr_label e.attrs

-- entries in preorder, each behind how many there are below it
unfoldable pub cross_entries_label : Entries CrossName → List ℕ
cross_entries_label End = []
cross_entries_label (Entry e children next) =
    (number (size children) ++ lone_label e) ++ (cross_entries_label children ++ cross_entries_label next)

-- a top: the names of the spaces that it stands in, its entry, and all below it
abbrev pub cross_label : CrossTop CrossName → List ℕ
cross_label t = each_counted counted t.names ++ ((number (size t.below) ++ lone_label t.node) ++ cross_entries_label t.below)

-- ---- targets

-- the numbers of the tops that these are in, without those that are in none
abbrev pub names_into : List CrossName → List ℕ
names_into [] = []
names_into (AtPath top path ∷ refs) = top ∷ names_into refs
names_into (s ∷ refs) = names_into refs

-- one for each reference of an entry into a top, in order
abbrev pub lone_targets : Node CrossName → List ℕ
lone_targets e = flat_map (λ a. names_into a.value.refs) e.attrs

unfoldable pub cross_entries_targets : Entries CrossName → List ℕ
cross_entries_targets End = []
cross_entries_targets (Entry e children next) = lone_targets e ++ (cross_entries_targets children ++ cross_entries_targets next)

-- one for each reference of a top into a top, in preorder
abbrev pub cross_targets : CrossTop CrossName → List ℕ
cross_targets t = lone_targets t.node ++ cross_entries_targets t.below
