use Rattle.std.proofs.Common.{false, refl}
use Rattle.dwz_encode_common.specs.WithCommon.{IsWithTexts, kept_numbers}
use Rattle.dwz_encode_common.proofs.ListedWith.{listed_with}
use Rattle.dwz_encode_common.proofs.WithSteps.{many_kept}
use Rattle.dwz_layout.specs.declared.known.EntryTable.{EntryTable}
use Rattle.dwz_encode_common.proofs.known.with_standing.Goals as goal

pub returns-clause-made : goal.returns-clause-made
returns-clause-made c = record {
  with_texts = record {
    places = c.in_ok-places.places.items;
    numbers = kept_numbers c.args.known.files.items;
    many_numbers = many_kept c.args.files.now c.args.known.files.items c.requires;
    files_are = c.in_ok-rows.ensures;
    places_are = c.in_ok-places.ensures;
    spaces_are = c.in_ok-spaces.ensures;
    owners_are = refl;
    tops_are = refl;
    parts_are = refl;
    commons_are = refl;
  };
  numbers_are = refl;
}

pub returns-clause-listed : goal.returns-clause-listed
returns-clause-listed c = λ beside f t h. (
    let known = c.args.known in
    let after : EntryTable = record {
      files = c.in_ok-rows.rows;
      owners = known.owners;
      tops = known.tops;
      spaces = c.in_ok-spaces.spaces;
      parts = known.parts;
      commons = known.commons;
    } in
    let made : IsWithTexts false c.args.files.now c.args.texts.now c.args.sharing.now known after = record {
      places = c.in_ok-places.places.items;
      numbers = kept_numbers known.files.items;
      many_numbers = many_kept c.args.files.now known.files.items c.requires;
      files_are = c.in_ok-rows.ensures;
      places_are = c.in_ok-places.ensures;
      spaces_are = c.in_ok-spaces.ensures;
      owners_are = refl;
      tops_are = refl;
      parts_are = refl;
      commons_are = refl;
    } in
    listed_with f t false c.args.files.now c.args.texts.now c.args.sharing.now known after made c.requires h)
