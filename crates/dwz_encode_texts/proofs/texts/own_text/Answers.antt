use Rattle.std.proofs.Common.{sym, ◌∙◌, arith}
use Rattle.dwz_forms.specs.RawValues.{raw_view}
use Rattle.dwz_encode_texts.proofs.TextSteps.{strp_small}
use Rattle.dwz_encode_texts.proofs.texts.own_text.Goals as goal

pub str_offset-requires : goal.str_offset-requires
str_offset-requires c = λ e. (
    let small = strp_small c.args.pair.now.form (raw_view c.args.raw.now) (sym c.class_of.ensures ∙ e) c.requires in
    omega (arith, small, c.offset_of.ensures.value))
