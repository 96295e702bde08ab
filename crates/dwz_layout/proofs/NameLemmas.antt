-- A loop over the values of a space, up to its name.
use Rattle.std.proofs.Common.{◌≡◌, ◌≢◌, ℕ, ◌+◌, ◌<◌, ◌≤◌, Bool, true, false, List, [], ◌∷◌, drop, get_or, length, Option, Some, None, slice_get, Ok, refl, sym, ap, subst, ◌∙◌, arith, cond, eqb}
use Rattle.std.proofs.Common.{eqb-true}
use Rattle.std.specs.Prelude.{IsOk}
use Rattle.std.specs.Option.{option_map_or}
use Rattle.std.proofs.lemmas.List.{drop_all}
use Rattle.dwz_def_reading.specs.Input.{Input}
use Rattle.dwz_def_reading.specs.Entries.{RawAttr}
use Rattle.dwz_def_reading.specs.Values.{Raw, value_at, written_rows}
use Rattle.dwz_def_reading.proofs.PartLemmas.{same_input, same_value}
use Rattle.dwz_def_reading.proofs.ListFacts.{drop_here}
use Rattle.dwz_model.specs.declared.place.Pair.{Pair}
use Rattle.dwz_unit.specs.Rows.{EntryRow}
use Rattle.dwz_unit.specs.Values.{Reads}
use Rattle.dwz_unit.proofs.ReadsLemmas.{reads_count, reads_next}
use Rattle.dwz_def_encoding.specs.Placing.{UnitRole}
use Rattle.dwz_layout.specs.declared.known.EntryTable.{EntryTable}
use Rattle.dwz_layout.specs.declared.known.SpaceRow.{SpaceRow}
use Rattle.dwz_layout.specs.declared.known.TextAt.{TextAt}
use Rattle.dwz_layout.specs.Attributes.{OutAttr, name_attrs, name_by, space_attrs, value_read}
use Rattle.dwz_layout.specs.Known.{HasValues, row_at, text_held}
use Rattle.dwz_layout.specs.Ways.{rewrite_of}

pub record NameLeft (k : EntryTable) (h : UnitRole) (s : SpaceRow) (pairs : List Pair) (j : ℕ) (at : Input) : Type 0 where
  pub entry : EntryRow
  pub reads : Reads entry.entry.at (drop j pairs) at (drop j entry.entry.attrs)
  pub count : length entry.entry.attrs ≡ length pairs
  pub all : space_attrs k h s ≡ name_attrs h (text_held h s) (drop j entry.entry.attrs)

abbrev by_name : UnitRole → TextAt → RawAttr → List RawAttr → Bool → List OutAttr
by_name h text a attrs test = cond test (name_by text a (rewrite_of h a.pair) ∷ []) (name_attrs h text attrs)

first_name : (h : UnitRole) (text : TextAt) (a : RawAttr) (attrs : List RawAttr) → name_attrs h text (a ∷ attrs) ≡ by_name h text a attrs (eqb a.pair.name 0x03)
unfolding name_attrs
first_name h text a attrs = refl

no_name : (h : UnitRole) (text : TextAt) → name_attrs h text [] ≡ []
unfolding name_attrs
no_name h text = refl

eqb_other : (m n : ℕ) → m ≢ n → eqb m n ≡ false
eqb_other m n ne = go (eqb m n) refl where
  go : (b : Bool) → eqb m n ≡ b → b ≡ false
  go true e = absurd (ne (eqb-true m n e))
  go false e = refl

module _ (k : EntryTable) (h : UnitRole) (s : SpaceRow) (pairs : List Pair) where
  pub name_start : (at : Input) → HasValues k s.row pairs at → NameLeft k h s pairs 0 at
  name_start at has = record {
    entry = has.entry;
    reads = has.reads;
    count = reads_count has.entry.entry.at pairs at has.entry.entry.attrs has.reads;
    all = ap (λ (o : Option EntryRow). option_map_or (λ (r : EntryRow). name_attrs h (text_held h s) r.entry.attrs) o []) has.is;
  }

  module _ (j : ℕ) (d : Pair) (at : Input) (left : NameLeft k h s pairs j at) (lt : j < length pairs) where
    pub name_readable : IsOk (value_at written_rows (get_or pairs j d) at)
    name_readable =
        let x = reads_next left.entry.entry.at pairs j d at left.entry.entry.attrs lt left.reads in
        subst IsOk (sym x.value) refl

    module _ (place : Input) (raw : Raw) (value : value_at written_rows (get_or pairs j d) at ≡ Ok (raw, place)) where
      abbrev a : RawAttr
      a = value_read place.at (get_or pairs j d) raw

      there : slice_get left.entry.entry.attrs j ≡ Some (record { at = at.at; end = place.at; pair = get_or pairs j d; raw = raw })
      there =
          let pair = get_or pairs j d in
          let x = reads_next left.entry.entry.at pairs j d at left.entry.entry.attrs lt left.reads in
          let same_raw = same_value x.raw raw x.place place (value_at written_rows pair at) x.value value in
          let same_place = same_input x.raw raw x.place place (value_at written_rows pair at) x.value value in
          x.is ∙ (λ i. let b : RawAttr = record { at = at.at; end = (same_place i).at; pair = pair; raw = same_raw i } in Some b)

      split : space_attrs k h s ≡ by_name h (text_held h s) a (drop (j + 1) left.entry.entry.attrs) (eqb (get_or pairs j d).name 0x03)
      split =
          let b : RawAttr = record { at = at.at; end = place.at; pair = get_or pairs j d; raw = raw } in
          left.all ∙ ap (name_attrs h (text_held h s)) (drop_here left.entry.entry.attrs j b there) ∙ first_name h (text_held h s) b (drop (j + 1) left.entry.entry.attrs)

      pub name_next : (get_or pairs j d).name ≢ 0x03 → NameLeft k h s pairs (j + 1) place
      name_next ne =
          let pair = get_or pairs j d in
          let x = reads_next left.entry.entry.at pairs j d at left.entry.entry.attrs lt left.reads in
          let same_place = same_input x.raw raw x.place place (value_at written_rows pair at) x.value value in
          record {
            entry = left.entry;
            reads = subst (λ (i : Input). Reads left.entry.entry.at (drop (j + 1) pairs) i (drop (j + 1) left.entry.entry.attrs)) same_place x.rest;
            count = left.count;
            all = split ∙ ap (by_name h (text_held h s) a (drop (j + 1) left.entry.entry.attrs)) (eqb_other pair.name 0x03 ne);
          }

      pub name_found : (t : TextAt) → t ≡ text_held h s → (get_or pairs j d).name ≡ 0x03 → space_attrs k h s ≡ name_by t a (rewrite_of h (get_or pairs j d)) ∷ []
      name_found t is e =
          let yes : eqb (get_or pairs j d).name 0x03 ≡ true = ap (λ (n : ℕ). eqb n 0x03) e in
          split ∙ ap (by_name h (text_held h s) a (drop (j + 1) left.entry.entry.attrs)) yes
          ∙ ap (λ (u : TextAt). name_by u a (rewrite_of h (get_or pairs j d)) ∷ []) (sym is)

  pub name_end : (j : ℕ) (at : Input) → NameLeft k h s pairs j at → length pairs ≤ j → space_attrs k h s ≡ []
  name_end j at left le = left.all ∙ ap (name_attrs h (text_held h s)) (drop_all j left.entry.entry.attrs (omega (arith, le, left.count))) ∙ no_name h (text_held h s)

  pub name_none : row_at k s.row ≡ None → space_attrs k h s ≡ []
  name_none none = ap (λ (o : Option EntryRow). option_map_or (λ (r : EntryRow). name_attrs h (text_held h s) r.entry.attrs) o []) none
