-- What the entries of units give is what they mean: their texts, and the names of spaces.
use Rattle.std.proofs.Common.{refl}
use Rattle.dwz_layout.specs.declared.known.EntryTable.{EntryTable}
use Rattle.dwz_law_layout.specs.Beside.{Alone}
use Rattle.dwz_law_layout.specs.Facts.{AreFacts, RunFacts}
use Rattle.dwz_law_layout.specs.Listed.{AreListed, TextsAt}
use Rattle.dwz_encode_common.specs.Gathered.{text_said}
use Rattle.dwz_encode_common.specs.Stored.{origin_texts}
use Rattle.dwz_encode_common.proofs.LineTexts.{line_none}
use Rattle.dwz_encode_common.proofs.PartsSay.{Agree}
use Rattle.dwz_encode_common.proofs.StoredTexts.{name_says, row_says}

pub texts_agree : (f : RunFacts Alone) (t : TextsAt) (k : EntryTable) → AreFacts f → AreListed f t k → Agree f k (origin_texts f.contents k) text_said
texts_agree f t k facts listed = record {
  rows = λ n bytes x index h i r d read. row_says f t k listed n bytes x index h i r d read;
  names = λ n bytes x index h chain space i r d text at read is. name_says f t k listed n bytes x index h i r d read chain space text at is;
  roots = λ place. refl;
  line = line_none;
}
