use Rattle.std.proofs.Common.{refl, true}
use Rattle.dwz_encode_common.specs.WithCommon.{IsWithTexts}
use Rattle.dwz_encode_common.proofs.ListedWith.{listed_with}
use Rattle.dwz_encode_common.proofs.WithSteps.{many_numbers}
use Rattle.dwz_layout.specs.declared.known.EntryTable.{EntryTable}
use Rattle.dwz_encode_common.proofs.known.with_common.Goals as goal

pub returns-clause-made : goal.returns-clause-made
returns-clause-made c = record {
  with_texts = record {
    places = c.in_ok-places.places.items;
    numbers = c.in_ok-numbers.numbers.items;
    many_numbers = many_numbers c.args.files.now c.args.paths.now c.in_ok-numbers.numbers.items c.in_ok-numbers.ensures;
    files_are = c.in_ok-rows.ensures;
    places_are = c.in_ok-places.ensures;
    spaces_are = c.in_ok-spaces.ensures;
    owners_are = refl;
    tops_are = refl;
    parts_are = refl;
    commons_are = refl;
  };
  numbers_are = c.in_ok-numbers.ensures;
}

pub returns-clause-listed : goal.returns-clause-listed
returns-clause-listed c = λ beside f t h. (
    let known = c.args.known in
    let after : EntryTable = record {
      files = c.in_ok-rows.rows;
      owners = known.owners;
      tops = known.tops;
      spaces = c.in_ok-spaces.spaces;
      parts = known.parts;
      commons = known.commons;
    } in
    let made : IsWithTexts true c.args.files.now c.args.texts.now c.args.sharing.now known after = record {
      places = c.in_ok-places.places.items;
      numbers = c.in_ok-numbers.numbers.items;
      many_numbers = many_numbers c.args.files.now c.args.paths.now c.in_ok-numbers.numbers.items c.in_ok-numbers.ensures;
      files_are = c.in_ok-rows.ensures;
      places_are = c.in_ok-places.ensures;
      spaces_are = c.in_ok-spaces.ensures;
      owners_are = refl;
      tops_are = refl;
      parts_are = refl;
      commons_are = refl;
    } in
    listed_with f t true c.args.files.now c.args.texts.now c.args.sharing.now known after made c.requires h)
