-- The texts of what is written of the common file, each once, are its texts.
use Rattle.std.proofs.Common.{[], sym, ap, ◌∙◌}
use Rattle.dwz_def_images.specs.Units.{common_units}
use Rattle.dwz_def_encoding.specs.Placing.{attr_text}
use Rattle.dwz_law_layout.specs.Facts.{move}
use Rattle.dwz_encode_common.specs.CommonLaws.{CommonTextsLaw}
use Rattle.dwz_encode_common.specs.Gathered.{text_said, with_all}
use Rattle.dwz_encode_common.specs.Stored.{origin_texts}
use Rattle.dwz_encode_common.proofs.GatheredLemmas.{texts_added, units_found}
use Rattle.dwz_encode_common.proofs.RowTexts.{texts_agree}
use Rattle.dwz_encode_common.proofs.UnitsSay.{order_says}

pub common_texts : CommonTextsLaw
common_texts f k order is =
    ap (with_all []) (order_says f k order is (origin_texts f.contents k) text_said (texts_agree f is.t k is.facts is.listed))
    ∙ sym (units_found attr_text text_said texts_added [] (common_units (move f)))
