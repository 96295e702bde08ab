use Rattle.std.proofs.Common.{◌≡◌, ◌∙◌, ℕ, ◌+◌, Some, ap, sym}
use Rattle.dwz_def_reading.specs.Meanings.{Sources}
use Rattle.dwz_def_reading.specs.Meant.{list_meaning, list_read}
use Rattle.dwz_def_reading.specs.Texts.{slot}
use Rattle.dwz_expand_passes.specs.Known.{scope}
use Rattle.dwz_expand_passes.proofs.lists.check_list_by_slot.Goals as goal

pub returns : goal.returns
returns c = λ q a v l at base offset fits has there means read. (
    let one : Some base ≡ Some c.in-Some.base = sym has ∙ c.in-Some.is in
    let base_is : base ≡ c.in-Some.base = cc in
    let lists = ap (λ (w : Sources). w.lists) fits.sources in
    let two : Some offset ≡ Some c.in-Some-slot.offset =
    sym there ∙ (λ i. slot (lists i) (base_is i) c.args.index) ∙ sym c.slot.ensures ∙ c.in-Some-slot.is in
    let offset_is : offset ≡ c.in-Some-slot.offset = cc in
    let place : base + offset ≡ c.in-Some.base + c.in-Some-slot.offset = λ i. base_is i + offset_is i in
    c.check_list_at.ensures q a v l at fits (ap (λ (n : ℕ). list_meaning (scope q) a n) (sym place) ∙ means) (ap (λ (n : ℕ). list_read (scope q) n) (sym place) ∙ read))
