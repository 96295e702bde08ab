use Rattle.std.proofs.Common.{◌≡◌, ◌<◌, ◌^◌, ℕ, pos, ap, sym, subst, ◌∙◌, arith}
use Rattle.dwz_def_reading.specs.Spelling.{le_value, reach}
use Rattle.dwz_def_reading.specs.Shape.TheVariants.{Fixed4}
use Rattle.dwz_def_reading.specs.Forms.{form_rows}
use Rattle.dwz_def_reading.specs.Values.{HasSpelling, Raw, SpellsShape, constant_of, shape_of, written_rows}
use Rattle.dwz_def_reading.proofs.WrittenLemmas.{le_value-less}
use Rattle.dwz_forms.specs.RawValues.{raw_view}
use Rattle.dwz_def_reading.specs.Meanings.{number_of}
use Rattle.dwz_layout_input.proofs.places.line_in.Goals as goal

-- an offset has 4 bytes, and no sign
offset_is : (form : ℕ) (raw : Raw) → form ≡ 0x17 → HasSpelling form raw → (number_of raw ≡ pos (reach (number_of raw))) × (reach (number_of raw) < 4294967296)
unfolding form_rows
offset_is form raw is h =
    let s : SpellsShape Fixed4 (constant_of h.pair) h.bytes raw = subst (λ (n : ℕ). SpellsShape (shape_of written_rows n) (constant_of h.pair) h.bytes raw) (h.of_form ∙ is) h.spelled in
    let number : number_of raw ≡ pos s.content = ap number_of s.value in
    let value : reach (number_of raw) ≡ le_value h.bytes = ap (λ (r : Raw). reach (number_of r)) s.value ∙ s.spelled.value in
    let less : le_value h.bytes < 256 ^ 4 = subst (λ (k : ℕ). le_value h.bytes < 256 ^ k) s.spelled.len (le_value-less h.bytes h.are_bytes) in
    (number ∙ ap (λ (n : ℕ). pos n) (sym (ap reach number)), omega arith)

pub overflow_cast-result : goal.overflow_cast-result
overflow_cast-result c =
    let small = (offset_is c.args.attr.now.pair.form (raw_view c.args.attr.now.raw) c.if-attr-eq-DW_FORM_SEC_OFFSET.true c.requires).1 in
    omega (arith, small, c.offset_of.ensures.value)

pub returns-then-attr-eq-DW_FORM_SEC_OFFSET : goal.returns-then-attr-eq-DW_FORM_SEC_OFFSET
returns-then-attr-eq-DW_FORM_SEC_OFFSET c = (
  c.if-attr-eq-DW_FORM_SEC_OFFSET.true,
  (offset_is c.args.attr.now.pair.form (raw_view c.args.attr.now.raw) c.if-attr-eq-DW_FORM_SEC_OFFSET.true c.requires).0 ∙ ap (λ (n : ℕ). pos n) (sym c.offset_of.ensures.value),
)
