use Rattle.std.proofs.Common.{◌≡◌, ◌∙◌, ap, sym, Bool, drop}
use Rattle.std.specs.Prelude.{if◌then◌else◌, is_ok}
use Rattle.std.specs.Str.Parse.{digits_value}
use Rattle.std.proofs.lemmas.Result.{MatchResult-at_ok}
use Rattle.dwz_words.proofs.Offsets.{offset_read, offset_text}
use Rattle.dwz_words.proofs.asked.offset_value.Goals as goal

pub unwrap-digits-requires : goal.unwrap-digits-requires
unwrap-digits-requires c = offset_text _ _ c.args.word.now c.from_utf8.result (sym c.if-not-is_offset.ensures) c.from_utf8.ensures.cases

pub unwrap-requires : goal.unwrap-requires
unwrap-requires c =
    let digits = (MatchResult-at_ok _ _ c.unwrap-digits.result c.unwrap-digits.ensures c.from_utf8.ensures.cases).0 in
    let number = offset_read c.args.word.now c.unwrap-digits.result.now c.from_str_radix.result (sym c.if-not-is_offset.ensures) digits
    c.from_str_radix.ensures.value in
    ap is_ok number

pub returns : goal.returns
returns c =
    let digits = (MatchResult-at_ok _ _ c.unwrap-digits.result c.unwrap-digits.ensures c.from_utf8.ensures.cases).0 in
    let number = offset_read c.args.word.now c.unwrap-digits.result.now c.from_str_radix.result (sym c.if-not-is_offset.ensures) digits
    c.from_str_radix.ensures.value in
    let value : c.unwrap.result ≡ digits_value 16 (drop 2 c.args.word.now) = cc (number, c.unwrap.ensures) in
    value ∙ ap (λ (b : Bool). if b then digits_value 16 (drop 2 c.args.word.now) else 0) c.if-not-is_offset.ensures
