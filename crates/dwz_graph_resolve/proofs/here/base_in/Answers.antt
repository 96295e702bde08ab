use Rattle.std.proofs.Common.{◌≡◌, ℕ, ◌<◌, ◌^◌, ap, subst, ◌∙◌, arith}
use Rattle.dwz_def_reading.specs.Spelling.{le_value, reach}
use Rattle.dwz_def_reading.specs.Values.{HasSpelling, Raw, SpellsShape, constant_of, shape_of, written_rows}
use Rattle.dwz_def_reading.proofs.WrittenLemmas.{le_value-less}
use Rattle.dwz_def_reading.specs.Shape.TheVariants.{Fixed4}
use Rattle.dwz_def_reading.specs.Forms.{form_rows}
use Rattle.dwz_forms.specs.RawValues.{raw_view}
use Rattle.dwz_def_reading.specs.Meanings.{number_of}
use Rattle.dwz_graph_resolve.proofs.here.base_in.Goals as goal

-- an offset has 4 bytes
offset_small : (form : ℕ) (raw : Raw) → form ≡ 0x17 → HasSpelling form raw → reach (number_of raw) < 4294967296
unfolding form_rows
offset_small form raw is h =
    let s : SpellsShape Fixed4 (constant_of h.pair) h.bytes raw = subst (λ (n : ℕ). SpellsShape (shape_of written_rows n) (constant_of h.pair) h.bytes raw) (h.of_form ∙ is) h.spelled in
    let value : reach (number_of raw) ≡ le_value h.bytes = ap (λ (r : Raw). reach (number_of r)) s.value ∙ s.spelled.value in
    let less : le_value h.bytes < 256 ^ 4 = subst (λ (k : ℕ). le_value h.bytes < 256 ^ k) s.spelled.len (le_value-less h.bytes h.are_bytes) in
    omega arith

pub overflow_cast-result : goal.overflow_cast-result
overflow_cast-result c =
    let small = offset_small c.args.attr.now.pair.form (raw_view c.args.attr.now.raw) c.if-attr-eq-DW_FORM_SEC_OFFSET.true c.requires in
    omega (arith, small, c.offset_of.ensures.value)
