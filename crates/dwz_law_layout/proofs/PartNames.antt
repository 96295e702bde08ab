-- What the numbers in the items of a partial unit are named: tops and spaces by their numbers, as they are after, and the spaces of its chains.
use Rattle.std.proofs.Common.{◌≡◌, ℕ, ◌+◌, List, [], Option, Some, slice_get, refl, ap, subst, arith}
use Rattle.std.specs.Option.{option_map_or}
use Rattle.dwz_def_reading.specs.Lists.{In}
use Rattle.dwz_def_reading.specs.Trees.{End}
use Rattle.dwz_def_reading.specs.Documents.{Entries, Node, entries_map, node_map}
use Rattle.dwz_def_tops.proofs.Members.{each_of}
use Rattle.dwz_def_tops.specs.Deciding.{top_in}
use Rattle.dwz_def_tops.specs.Spots.{EntryName, FileUnit, Top, no_name, tops_of}
use Rattle.dwz_def_tops.proofs.TopNumbers.{finds, tops_numbers}
use Rattle.dwz_layout_items.specs.Chains.{NamesPartial}
use Rattle.dwz_layout_items.specs.Order.{Names}
use Rattle.dwz_def_images.specs.Moves.{Move, image_in}
use Rattle.dwz_def_images.specs.Plan.{space_entry}
use Rattle.dwz_def_images.specs.Units.{partial_root}
use Rattle.dwz_layout_order.specs.Named.{NamesAll, NamesSpace, NamesTop}
use Rattle.dwz_layout_order.specs.Spaces.{said_of, spaces_of}
use Rattle.dwz_layout_order.proofs.SpaceNumbers.{numbered_by}

-- of a number that stands for nothing
abbrev pub nothing : Node EntryName
nothing = record { at = no_name; tag = 0; attrs = [] }

abbrev pub top_node : Move → Option Top → Node EntryName
top_node m o = option_map_or (λ (t : Top). node_map (image_in m) t.node) o nothing

abbrev pub top_below : Move → Option Top → Entries EntryName
top_below m o = option_map_or (λ (t : Top). entries_map (image_in m) t.below) o End

abbrev pub space_node : Move → Option (Node EntryName) → Node EntryName
space_node m o = option_map_or (node_map (image_in m)) o nothing

module _ (m : Move) (units : List (FileUnit EntryName)) (p : ℕ) where
  abbrev pub names : Names EntryName
  names = record {
    root = partial_root m p;
    whole = End;
    top = λ t. top_node m (top_in (tops_of units) t);
    below = λ t. top_below m (top_in (tops_of units) t);
    space = λ s. space_node m (slice_get (spaces_of units) s);
    in_chain = λ chain depth s. node_map (image_in m) (space_entry p chain depth (said_of units s));
    import = λ part. nothing;
  }

  pub top_named : (t : Top) → In t (tops_of units) → NamesTop (image_in m) names t
  top_named t is =
      let found = finds 0 (tops_of units) t (tops_numbers units) is in
      record { node = ap (top_node m) found; below = ap (top_below m) found }

  space_named : (s : ℕ) (e : Node EntryName) → slice_get (spaces_of units) s ≡ Some e → NamesSpace (image_in m) names s e
  space_named s e found = ap (space_node m) found

  pub names_all : NamesAll (image_in m) units names
  names_all = record {
    tops = each_of (NamesTop (image_in m) names) (tops_of units) top_named;
    spaces = numbered_by (NamesSpace (image_in m) names) 0 (spaces_of units)
        (λ s e found. (let same : s ≡ 0 + s = omega arith in subst (λ (w : ℕ). NamesSpace (image_in m) names w e) same (space_named s e found)));
  }

  pub names_partial : NamesPartial m p (said_of units) names
  names_partial = record { root = refl; in_chain = λ chain depth space. refl }
