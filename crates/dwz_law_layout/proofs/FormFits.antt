-- What is held under each form that is chosen.
use Rattle.std.proofs.Common.{◌≡◌, ℕ, List, [], ◌∷◌, pos, refl, sym, ap}
use Rattle.dwz_def_reading.specs.Values.{Number, Raw}
use Rattle.dwz_def_reading.specs.Documents.{Attr, Expr, Part}
use Rattle.dwz_def_reading.specs.Classes.{class_in}
use Rattle.dwz_def_reading.specs.Classes.{class_rows}
use Rattle.dwz_def_tops.specs.Spots.{EntryName}
use Rattle.dwz_def_encoding.specs.Placing.{InCommon, InFile, InUnit, Reach}
use Rattle.dwz_def_encoding.specs.Placing.{ref_form, with_form}
use Rattle.dwz_layout.specs.declared.known.TextAt.{TextAt}
use Rattle.dwz_layout.specs.declared.known.TextAt.TheVariants.{Own, Pooled, Shared}
use Rattle.dwz_layout.specs.Attributes.{plain_pair}
use Rattle.dwz_encode.specs.Shown.{Held, Key, Parts, Value as ValueHeld, held_of}
use Rattle.dwz_law_layout.specs.Knows.{text_chosen}

abbrev pub as_value : Raw → Held EntryName
as_value r = ValueHeld r

-- ---- what is held under each form that is chosen

pub text_in_form : (t : TextAt) (b : Attr EntryName) → record { pair = plain_pair b.name (text_chosen t).form; held = ValueHeld (Number (text_chosen t).raw) } ≡ held_of (with_form b (text_chosen t))
unfolding class_rows class_in
text_in_form (Own offset) b = refl
text_in_form (Shared offset) b = refl
text_in_form (Pooled offset) b = refl

pub file_held : (n : ℕ) (b : Attr EntryName) → record { pair = plain_pair b.name 0x0f; held = ValueHeld (Number (pos n)) } ≡ held_of (with_form b (record { form = 0x0f; raw = pos n }))
unfolding class_rows class_in
file_held n b = refl

pub entry_held : (r : Reach) (b : Attr EntryName) (x : EntryName) → b.value.refs ≡ x ∷ [] → record { pair = plain_pair b.name (ref_form r); held = Key x } ≡ held_of (with_form b (record {
  form = ref_form r;
  raw = b.raw;
}))
unfolding class_rows class_in
entry_held InUnit b x e = ap (λ (rs : List EntryName). held_of (with_form (record { name = b.name; form = b.form; raw = b.raw; value = record { plain = b.value.plain; refs = rs; address = b.value.address } })
    (record { form = ref_form InUnit; raw = b.raw }))) (sym e)
entry_held InFile b x e = ap (λ (rs : List EntryName). held_of (with_form (record { name = b.name; form = b.form; raw = b.raw; value = record { plain = b.value.plain; refs = rs; address = b.value.address } })
    (record { form = ref_form InFile; raw = b.raw }))) (sym e)
entry_held InCommon b x e = ap (λ (rs : List EntryName). held_of (with_form (record { name = b.name; form = b.form; raw = b.raw; value = record { plain = b.value.plain; refs = rs; address = b.value.address } })
    (record { form = ref_form InCommon; raw = b.raw }))) (sym e)

pub expr_held_is : (b : Attr EntryName) (parts : List Part) → b.form ≡ 0x18 → b.value.plain ≡ Expr parts → record { pair = plain_pair b.name 0x18; held = Parts parts b.value.refs } ≡ held_of b
unfolding class_rows class_in
expr_held_is b parts form plain =
    (λ i. held_of (record { name = b.name; form = sym form i; raw = b.raw; value = record { plain = sym plain i; refs = b.value.refs; address = b.value.address } }))
