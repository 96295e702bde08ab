use Rattle.std.proofs.Common.{◌≡◌, ◌++◌, ◌∙◌, List, ap, arith, get_or, is_some, sym, ℕ}
use Rattle.std.proofs.lemmas.List.{length-drop}
use Rattle.dwz_def_reading.specs.Texts.{text_at}
use Rattle.dwz_def_reading.proofs.ListFacts.{whole_rest}
use Rattle.dwz_def_encoding.specs.Pruned.{slot_uses}
use Rattle.dwz_encode_sections.proofs.SlotLemmas.{end_of, stand}
use Rattle.dwz_encode_texts.proofs.SlotSteps.{front_is, slot_named, slot_other, slots_end}
use Rattle.dwz_encode_texts.proofs.pruning.put_slots.Goals as goal
use Rattle.dwz_encode_texts.proofs.pruning.put_slots.Goals.{then-names_text+in_ok-push, else-names_text}

pub slice_bounds-front_number-count : goal.slice_bounds-front_number-count
slice_bounds-front_number-count c =
    let end = end_of c.args.offsets.now c.args.places.now c.loop-place.place-index (stand c.args.offsets.now c.args.places.now c.requires) c.loop-place-test.true in
    omega (arith, end)

pub slice_bounds-front_number-start : goal.slice_bounds-front_number-start
slice_bounds-front_number-start c =
    let end = end_of c.args.offsets.now c.args.places.now c.loop-place.place-index (stand c.args.offsets.now c.args.places.now c.requires) c.loop-place-test.true in
    omega (arith, end)

pub front_number-number-requires : goal.front_number-number-requires
front_number-number-requires c =
    let at = get_or c.args.places.now c.loop-place.place-index 0 in
    let end = end_of c.args.offsets.now c.args.places.now c.loop-place.place-index (stand c.args.offsets.now c.args.places.now c.requires) c.loop-place-test.true in
    rw (whole_rest c.args.offsets.now at) (omega (arith, end, length-drop at c.args.offsets.now))

pub loop-place-preserved : goal.loop-place-preserved
loop-place-preserved c =
    let strs = c.args.strs.now in
    let offsets = c.args.offsets.now in
    let places = c.args.places.now in
    let i = c.loop-place.place-index in
    let number = c.front_number-number.result in
    let is = front_is offsets (get_or places i 0) number c.front_number-number.ensures in
    let named : c.names_text.result ≡ is_some (text_at strs number) = c.names_text.ensures ∙ ap (λ (w : List ℕ). is_some (text_at w number)) c.new-texts.ensures in
    let all = c.args.uses.now.items ++ slot_uses strs offsets places in
    elim c.if-names_text.branch [
      | then-names_text+in_ok-push w ↦ rw w.uses-is
          (slot_named strs offsets places i number c.loop-place.uses.items all c.loop-place-test.true is w.push.new.self.items (sym named ∙ w.if-names_text.true) w.in_ok-push.ensures.items
          c.loop-place.invariant)
      | else-names_text w ↦ rw w.uses-is (slot_other strs offsets places i number c.loop-place.uses.items all c.loop-place-test.true is (sym named ∙ w.if-names_text.false) c.loop-place.invariant)
    ]

pub returns : goal.returns
returns c =
    slots_end c.args.strs.now c.args.offsets.now c.args.places.now c.loop-place.place-index c.loop-place.uses.items
    (c.args.uses.now.items ++ slot_uses c.args.strs.now c.args.offsets.now c.args.places.now)
    c.loop-place-test.false c.loop-place.invariant
