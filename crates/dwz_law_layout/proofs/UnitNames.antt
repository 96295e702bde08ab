-- What the numbers in an old unit stand for: tops and spaces by their places among all, with what stands for them after.
use Rattle.std.proofs.Common.{◌≡◌, ℕ, ◌+◌, List, Option, Some, None, slice_get, refl, ap, ◌∙◌, arith}
use Rattle.dwz_def_reading.specs.Trees.{End}
use Rattle.dwz_def_reading.specs.Documents.{DwUnit, Entries, Node, entries_map, node_map}
use Rattle.dwz_def_tops.proofs.Members.{each_of}
use Rattle.dwz_def_tops.specs.Spots.{EntryName, FileUnit, Top, tops_of}
use Rattle.dwz_def_tops.proofs.TopNumbers.{top_there}
use Rattle.dwz_layout_items.specs.Order.{Names}
use Rattle.dwz_layout_items.specs.Shows.{NamesKept}
use Rattle.dwz_def_images.specs.Moves.{Move, image_in}
use Rattle.dwz_def_images.specs.Plan.{import_of}
use Rattle.dwz_layout_order.specs.Named.{NamesAll, NamesSpace, NamesTop}
use Rattle.dwz_layout_order.specs.Spaces.{spaces_of}
use Rattle.dwz_layout_order.proofs.SpaceNumbers.{numbered_by}

-- ---- what a number stands for, or the root for none

abbrev pub top_node : (EntryName → EntryName) → Node EntryName → Option Top → Node EntryName
top_node f root None = root
top_node f root (Some t) = node_map f t.node

abbrev pub top_below : (EntryName → EntryName) → Option Top → Entries EntryName
top_below f None = End
top_below f (Some t) = entries_map f t.below

abbrev pub space_node : (EntryName → EntryName) → Node EntryName → Option (Node EntryName) → Node EntryName
space_node f root None = root
space_node f root (Some e) = node_map f e

abbrev pub kept_names : Move → List (FileUnit EntryName) → ℕ → DwUnit EntryName → Names EntryName
kept_names m units i u = record {
  root = node_map (image_in m) u.root;
  whole = entries_map (image_in m) u.below;
  top = λ t. top_node (image_in m) u.root (slice_get (tops_of units) t);
  below = λ t. top_below (image_in m) (slice_get (tops_of units) t);
  space = λ s. space_node (image_in m) u.root (slice_get (spaces_of units) s);
  in_chain = λ chain depth space. u.root;
  import = λ part. import_of i part;
}

-- ---- the names of a unit

module _ (m : Move) (units : List (FileUnit EntryName)) (i : ℕ) (u : DwUnit EntryName) where
  pub names_all : NamesAll (image_in m) units (kept_names m units i u)
  names_all = record {
    tops =
        each_of (NamesTop (image_in m) (kept_names m units i u)) (tops_of units) (λ t is. record {
          node = ap (λ (o : Option Top). top_node (image_in m) u.root o) (top_there units t is);
          below = ap (λ (o : Option Top). top_below (image_in m) o) (top_there units t is);
        });
    spaces =
        numbered_by (NamesSpace (image_in m) (kept_names m units i u)) 0 (spaces_of units) (λ k e at.
        (let none : 0 + k ≡ k = omega arith in ap (λ (o : Option (Node EntryName)). space_node (image_in m) u.root o) (ap (slice_get (spaces_of units)) none ∙ at)));
  }

  pub names_kept : NamesKept m i u (kept_names m units i u)
  names_kept = record { root = refl; whole = refl; import = λ part. refl }
