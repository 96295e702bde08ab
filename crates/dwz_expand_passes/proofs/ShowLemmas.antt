-- What is stored shows the copy of an attribute, form by form.
use Rattle.std.proofs.Common.{◌≡◌, ℕ, pos, ◌==◌, if◌then◌else◌, Bool, true, false, List, [], ◌∷◌, map, sym, ap, ◌∙◌}
use Rattle.dwz_def_reading.specs.Classes.{class_in, class_of, class_rows}
use Rattle.dwz_def_reading.specs.Documents.{Attr, Text, Value, attr_map}
use Rattle.dwz_def_reading.specs.Entries.{RawAttr}
use Rattle.dwz_def_reading.specs.Values.{Bytes, Number}
use Rattle.dwz_def_encoding.specs.Placing.{Chosen, as_read, with_form}
use Rattle.dwz_def_encoding.specs.Writing.{pair_of, text_or_empty}
use Rattle.dwz_def_expand.specs.Chosen.{chosen_as, copied_string, entry_form}
use Rattle.dwz_def_expand.specs.Source.{Copy}
use Rattle.dwz_layout.specs.Attributes.{plain_pair}
use Rattle.dwz_encode.specs.Shown.{Held, HeldAttr, Key, Value as ValueHeld, held_as, held_of}
use Rattle.dwz_expand_passes.specs.Copied.{KeepsConstant, copied_attr, said}
use Rattle.dwz_expand_passes.specs.Known.{Setting, copied}

-- the attribute with what is chosen for it
abbrev pub chosen_for : Setting → Attr ℕ → Chosen
chosen_for q b = chosen_as (class_of b.form) q.choice q.unit q.source (attr_map (copied q) b)

pub with_chosen : (q : Setting) (b : Attr ℕ) (c : Chosen) → chosen_for q b ≡ c → copied_attr q b ≡ with_form (attr_map (copied q) b) c
with_chosen q b c e = ap (λ (x : Chosen). with_form (attr_map (copied q) b) x) e

-- ---- as it was read

module _ (q : Setting) (a : RawAttr) (v : Value ℕ) where
  abbrev b : Attr ℕ
  b = said q a v

  abbrev x : Attr (Copy ℕ)
  x = attr_map (copied q) b

  pub pair_kept : KeepsConstant a.pair a.raw → a.pair ≡ pair_of x
  pair_kept e = λ i. record { name = a.pair.name; form = a.pair.form; constant = e i }

  -- whatever is held, the same pair and form
  abbrev as_it_was : HeldAttr (Copy ℕ)
  as_it_was = held_of x

  pub shows_kept : (held : Held (Copy ℕ)) → KeepsConstant a.pair a.raw → chosen_for q b ≡ as_read x → held ≡ held_as (class_of a.pair.form) x
      → record { pair = a.pair; held = held } ≡ held_of (copied_attr q b)
  shows_kept held constant chosen is =
      (λ i. let h : HeldAttr (Copy ℕ) = record { pair = pair_kept constant i; held = is i } in h) ∙ sym (ap held_of (with_chosen q b (as_read x) chosen))

  -- ---- another form

  -- an entry: DW_FORM_ref4 where it stands in this unit, and else DW_FORM_ref_addr
  entry_held : (p : ℕ) (t : Bool) → x.value.refs ≡ copied q p ∷ []
      → record { pair = plain_pair a.pair.name (if t then 0x13 else 0x10); held = Key (copied q p) } ≡ held_of (with_form x (record { form = if t then 0x13 else 0x10; raw = pos 0 }))
  unfolding class_rows class_in
  entry_held p true e = ap (λ (rs : List (Copy ℕ)). held_of (with_form (record {
    name = x.name;
    form = x.form;
    raw = x.raw;
    value = record {
      plain = x.value.plain;
      refs = rs;
      address =
          x.value.address;
    };
  })
      (record { form = 0x13; raw = pos 0 }))) (sym e)
  entry_held p false e = ap (λ (rs : List (Copy ℕ)). held_of (with_form (record {
    name = x.name;
    form = x.form;
    raw = x.raw;
    value = record {
      plain = x.value.plain;
      refs = rs;
      address =
          x.value.address;
    };
  })
      (record { form = 0x10; raw = pos 0 }))) (sym e)

  pub shows_entry : (p number unit : ℕ) → b.value.refs ≡ p ∷ [] → chosen_for q b ≡ record { form = entry_form q.unit x.value.refs; raw = pos 0 } → (copied q p).unit ≡ unit
      → q.keys.row number ≡ copied q p
      → record { pair = plain_pair a.pair.name (if unit == q.unit then 0x13 else 0x10); held = Key (q.keys.row number) } ≡ held_of (copied_attr q b)
  shows_entry p number unit refs chosen of_unit key =
      let many : x.value.refs ≡ copied q p ∷ [] = ap (λ (w : List ℕ). map (copied q) w) refs in
      let form : entry_form q.unit x.value.refs ≡ (if unit == q.unit then 0x13 else 0x10) =
      ap (λ (w : List (Copy ℕ)). entry_form q.unit w) many ∙ ap (λ (u : ℕ). if u == q.unit then 0x13 else 0x10) of_unit in
      (λ i. record { pair = plain_pair a.pair.name (if unit == q.unit then 0x13 else 0x10); held = Key (key i) })
      ∙ entry_held p (unit == q.unit) many
      ∙ sym (ap held_of (with_chosen q b _ chosen ∙ ap (λ (f : ℕ). with_form x (record { form = f; raw = pos 0 })) form))

  -- a text: DW_FORM_string
  pub shows_string : (text : List ℕ) → v.plain ≡ Text text → chosen_for q b ≡ copied_string → record { pair = plain_pair a.pair.name 0x08; held = ValueHeld (Bytes text) } ≡ held_of (copied_attr q b)
  unfolding class_rows class_in
  shows_string text plain chosen =
      (λ i. record { pair = plain_pair a.pair.name 0x08; held = ValueHeld (Bytes (text_or_empty (sym plain i))) }) ∙ sym (ap held_of (with_chosen q b copied_string chosen))

  -- a text at an offset: DW_FORM_strp
  pub shows_strp : (offset : ℕ) → chosen_for q b ≡ record { form = 0x0e; raw = pos offset }
      → record { pair = plain_pair a.pair.name 0x0e; held = ValueHeld (Number (pos offset)) } ≡ held_of (copied_attr q b)
  unfolding class_rows class_in
  shows_strp offset chosen = sym (ap held_of (with_chosen q b _ chosen))

  -- the number of a file: DW_FORM_udata
  pub shows_udata : (row : ℕ) → chosen_for q b ≡ record { form = 0x0f; raw = pos row }
      → record { pair = plain_pair a.pair.name 0x0f; held = ValueHeld (Number (pos row)) } ≡ held_of (copied_attr q b)
  unfolding class_rows class_in
  shows_udata row chosen = sym (ap held_of (with_chosen q b _ chosen))
