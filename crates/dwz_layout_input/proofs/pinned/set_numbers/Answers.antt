use Rattle.std.proofs.Common.{◌≡◌, ◌<◌, ◌≤◌, ◌+◌, ◌∙◌, Some, refl, length, get_or, slice_get, arith}
use Rattle.std.proofs.lemmas.List.{length-set}
use Rattle.std.proofs.lemmas.Option.{slice_get-get_or}
use Rattle.dwz_graph.specs.declared.index.SpaceEntry.{SpaceEntry}
use Rattle.dwz_layout_input.proofs.NumberSteps.{set_last, set_more, set_none}
use Rattle.dwz_layout_input.proofs.pinned.set_numbers.Goals as goal
use Rattle.dwz_layout_input.proofs.pinned.set_numbers.Goals.{else-space-len, then-space-len}

abbrev no_entry : SpaceEntry
no_entry = record { entry = 0; outer = 0 }

pub loop-k-preserved : goal.loop-k-preserved
loop-k-preserved c =
    let first = c.args.first in
    let spaces = c.args.spaces.now in
    let k = c.loop-k.k in
    let items = c.loop-k.numbers.items in
    let x : SpaceEntry = get_or spaces k no_entry in
    let within : k < length spaces = omega arith in
    let got : slice_get spaces k ≡ Some x = slice_get-get_or spaces k no_entry within in
    elim c.if-space-len.branch [
      | then-space-len w ↦ (let low : x.entry < length items = omega (arith, w.if-space-len.true) in
          rw w.numbers-is (record {
            len = length-set items x.entry (Some (first + k)) ∙ c.loop-k.invariant.len;
            set = λ none. set_more first spaces k items x got (c.loop-k.invariant.set none)
                (first + k) refl low;
          }))
      | else-space-len w ↦ (let high : length items ≤ x.entry = omega (arith, w.if-space-len.false) in
          rw w.numbers-is (record { len = c.loop-k.invariant.len; set = λ none. set_none first spaces k items x got (c.loop-k.invariant.set none) high }))
    ]

pub returns-clause-each : goal.returns-clause-each
returns-clause-each c = λ none. set_last c.args.first c.args.spaces.now c.loop-k.k c.loop-k.numbers.items (omega arith) (c.loop-k.invariant.set none)
