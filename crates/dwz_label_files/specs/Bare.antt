-- Labels without languages: bytes that are equal for two tops exactly if their name lists and their bare trees are.
use Rattle.std.specs.Prelude.{◌≡◌, ◌↔◌, ℕ, List, ◌++◌, map}
use Rattle.dwz_def_reading.specs.Trees.{size}
use Rattle.dwz_def_tops.specs.Alike.{SameEntries, SameNode}
use Rattle.dwz_def_tops.specs.Spots.{Top, name_list, tops_of, units_of}
use Rattle.dwz_graph.specs.Files.{docs_of}
use Rattle.dwz_label.specs.Labels.{counted, each_counted, entries_label, node_label}
use Rattle.dwz_label.specs.Nodes.{Any}

-- a top in whichever language: the names of the spaces that it stands in, its entry, and all below it
unfoldable pub bare_label : Top → List ℕ
bare_label t = each_counted counted (name_list t) ++ (node_label (size t.below) t.node ++ entries_label t.below)

-- those of the tops of all files, in order
abbrev pub bare_labels_of : List (List ℕ) → List (List ℕ)
bare_labels_of contents = map bare_label (tops_of (units_of (docs_of contents)))

-- the same name list and the same bare tree: references go to the same paths, in whichever tops
abbrev pub SameTree : Top → Top → Type 0
SameTree a b = (name_list a ≡ name_list b) × SameNode Any a.node b.node × SameEntries Any a.below b.below

abbrev pub BareLabelLaw : Type 0
BareLabelLaw = (a b : Top) → (bare_label a ≡ bare_label b) ↔ SameTree a b
