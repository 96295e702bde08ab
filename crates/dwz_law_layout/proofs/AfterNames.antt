-- Entries of a file: the name after of each place is the image of its name; and an entry with all below it is also one alone.
use Rattle.std.proofs.Common.{◌≡◌, ℕ, List, ◌++◌, Ok, sym, ap, ◌∙◌}
use Rattle.dwz_def_reading.specs.Trees.{End, Entry, behind, first_below}
use Rattle.dwz_def_reading.proofs.ListFacts.{drop_first}
use Rattle.dwz_def_reading.specs.Documents.{Entries, Node, entries_map, node_map}
use Rattle.dwz_def_reading.specs.Meanings.{scope_of}
use Rattle.dwz_def_tops.specs.Spots.{EntryName}
use Rattle.dwz_def_images.specs.Moves.{image_in}
use Rattle.dwz_def_readback.specs.Files.{name_after}
use Rattle.dwz_graph.proofs.TreeLemmas.{parts}
use Rattle.dwz_graph.specs.declared.file.File.{File}
use Rattle.dwz_graph.specs.Index.{Index}
use Rattle.dwz_unit.specs.Rows.{EntryRow, rows_below, rows_of}
use Rattle.dwz_graph.specs.Across.{IsFileAmong, name_at}
use Rattle.dwz_layout.specs.declared.known.Row.{Row}
use Rattle.dwz_law_layout.specs.Knows.{FileRead, ShowsRow, ShowsTree}
use Rattle.dwz_law_layout.proofs.AfterLemmas.{entries_after, node_after}
use Rattle.dwz_law_layout.specs.Beside.{Beside}
use Rattle.dwz_law_layout.specs.Facts.{RunFacts, move, run}

module _ {beside : Beside} (f : RunFacts beside) (n : ℕ) (bytes : List ℕ) (x : File) (index : Index) (is : IsFileAmong f.contents n bytes x index) where
  abbrev pub name : ℕ → EntryName
  name = name_at index.starts is.kept.read.doc

  pub node_named : (d : Node ℕ) → node_map (image_in (move f)) (node_map name d) ≡ node_map (name_after (run f) n) d
  node_named d = node_after (image_in (move f)) name d ∙ (λ j. node_map (λ p. image_in (move f) (sym (is.names p) j)) d)

  pub entries_named : (g : Entries ℕ) → entries_map (image_in (move f)) (entries_map name g) ≡ entries_map (name_after (run f) n) g
  entries_named g = entries_after (image_in (move f)) name g ∙ (λ j. entries_map (λ p. image_in (move f) (sym (is.names p) j)) g)

pub row_of_tree : (F : FileRead) (r : Row) (node : Node EntryName) (below : Entries EntryName) → ShowsTree F r node below → ShowsRow F r node
unfolding rows_below
row_of_tree F r node below t =
    let row : EntryRow = record { entry = t.e; unit = t.number; depth = t.p.depth; end = (behind t.p t.c).before } in
    let found = drop_first (rows_of F.raw) t.p.before row ((rows_below t.c t.number (first_below t.p) ++ rows_below End t.number (behind t.p t.c)) ++ t.behind) t.stand in
    let x = parts (scope_of F.around t.unit) t.e t.c End (Entry t.d t.g End) t.means in
    let d_is : x.d ≡ t.d = (let is : Entry x.d x.below x.next ≡ Entry t.d t.g End = x.is in cc) in
    record {
      i = t.p.before;
      x = row;
      d = t.d;
      row_is = t.row_is;
      read = record { unit = t.unit; found = found.0; is_unit = t.is_unit; means = x.node ∙ ap (λ (w : Node ℕ). Ok w) d_is };
      node_is = t.node_is;
    }
