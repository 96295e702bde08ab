use Rattle.std.proofs.Common.{rules, ◌≡◌, ◌<◌, ◌^◌, Some, None, length, drop, sym, ap, ◌∙◌, arith}
use Rattle.std.specs.Option.{option_map}
use Rattle.dwz_def_reading.specs.Texts.{text_in}
use Rattle.dwz_encode_common.specs.Places.{look}
use Rattle.dwz_encode_common.proofs.PlaceLemmas.{all_through, next_text, none_found, none_through, text_room}
use Rattle.dwz_encode_common.proofs.standing_texts.StandingTexts.read.Goals as goal

pub texts-init : goal.texts-init
texts-init c = none_through c.args.section.now (look c.new-starts.result) (none_found c.new-starts.result c.new-starts.ensures.empty)

pub overflow_add-at-in-Some : goal.overflow_add-at-in-Some
overflow_add-at-in-Some c =
    let is : text_in (drop c.texts.at c.args.section.now) ≡ Some c.in-Some.text.now = sym c.text_at.ensures ∙ ap (option_map (λ t. t.now)) c.in-Some.is in
    let room = text_room c.args.section.now c.in-Some.text.now c.texts.at is in
    let size : length c.args.section.now < 2 ^ 64 = search rules in
    omega (arith, room, size)

pub texts-smaller : goal.texts-smaller
texts-smaller c =
    let is : text_in (drop c.texts.at c.args.section.now) ≡ Some c.in-Some.text.now = sym c.text_at.ensures ∙ ap (option_map (λ t. t.now)) c.in-Some.is in
    let room = text_room c.args.section.now c.in-Some.text.now c.texts.at is in
    omega (arith, room)

pub texts-preserved : goal.texts-preserved
texts-preserved c =
    let is : text_in (drop c.texts.at c.args.section.now) ≡ Some c.in-Some.text.now = sym c.text_at.ensures ∙ ap (option_map (λ t. t.now)) c.in-Some.is in
    next_text c.args.section.now c.in-Some.text.now (look c.texts.starts) (look c.put_first.new.starts) c.texts.at c.texts.invariant is c.in_ok-put_first.ensures

pub invariant_of-result : goal.invariant_of-result
invariant_of-result c =
    let none : text_in (drop c.texts.at c.args.section.now) ≡ None = sym c.text_at.ensures ∙ ap (option_map (λ t. t.now)) c.in_default.is in
    all_through c.args.section.now (look c.texts.starts) c.texts.at c.texts.invariant none
