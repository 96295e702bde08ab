-- What stands after for an entry of a file that is written is written, so it has the place of its name.
use Rattle.std.proofs.Common.{◌≡◌, Some, slice_get, sym, ap, ◌∙◌}
use Rattle.dwz_def_tops.specs.Spots.{EntryName}
use Rattle.dwz_def_images.specs.Moves.{image_in}
use Rattle.dwz_def_readback.specs.Files.{name_after}
use Rattle.dwz_unit.specs.Rows.{units_of as raw_units}
use Rattle.dwz_graph.specs.Resolved.{place_at}
use Rattle.dwz_graph.specs.AllNames.{all_names}
use Rattle.dwz_layout.specs.Known.{owner_of}
use Rattle.dwz_law_layout.specs.Facts.{every, move, run}
use Rattle.dwz_law_layout.specs.Laid.{places_of}
use Rattle.dwz_law_layout.proofs.EntriesReach.{reached}
use Rattle.dwz_law_layout.proofs.FileEntries.{here, named}
use Rattle.dwz_law_layout.proofs.Either.{placed_by}
use Rattle.dwz_run_files.specs.Spots.{EntryPlacesLaw}

pub entry_places : EntryPlacesLaw
entry_places beside f t k orders lay n bytes x index h changed e i lt is =
    let o = here f t k lay.facts lay.listed n x index h.file h.index_is in
    let s = image_in (move f) (named f k n x index o e) in
    let name : name_after (run f) n (place_at (raw_units x.units) e) ≡ s =
    ap (image_in (move f)) (o.among.names (place_at (raw_units x.units) e)) in
    let there : slice_get (all_names (every f)) i ≡ Some s = is ∙ ap (λ (w : EntryName). Some w) name in
    let r = reached f t k lay.facts lay.listed n x index o changed e lt i there in
    placed_by beside f t k orders lay.facts lay.beside_are lay.listed lay.order i s there (owner_of k i) r.stands
    ∙ ap (places_of f).place (sym name)
