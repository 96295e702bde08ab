use Rattle.std.proofs.Common.{◌≡◌, ◌∙◌, ℕ, ◌+◌, Some, ap, sym}
use Rattle.dwz_def_reading.specs.Meant.{list_meaning, list_read}
use Rattle.dwz_def_reading.specs.Texts.{slot}
use Rattle.dwz_expand.specs.Gathered.{own_scope}
use Rattle.dwz_expand.proofs.entry.put_list_by_slot.Goals as goal

pub returns : goal.returns
returns c = λ f u t a v l base offset has there means read kept. (
    let x = c.args.x.now in
    let s = own_scope x.file.now u in
    let one : Some base ≡ Some c.in-Some.base = sym has ∙ c.in-Some.is in
    let base_is : base ≡ c.in-Some.base = cc in
    let two : Some offset ≡ Some c.in-Some-slot.offset =
    sym there ∙ (λ i. slot x.file.now.own.sections.now.lists.now (base_is i) c.args.index) ∙ sym c.slot.ensures ∙ c.in-Some-slot.is in
    let offset_is : offset ≡ c.in-Some-slot.offset = cc in
    let place : base + offset ≡ c.in-Some.base + c.in-Some-slot.offset = λ i. base_is i + offset_is i in
    c.put_list_at.ensures f u t a v l (ap (λ (n : ℕ). list_meaning s a n) (sym place) ∙ means) (ap (λ (n : ℕ). list_read s n) (sym place) ∙ read) kept)
