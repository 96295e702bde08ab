-- A set's unit is one of those known, or the set is bad.
use Rattle.std.proofs.Common.{◌≡◌, ◌+◌, ◌≤◌, length, refl, sym, ap, ◌∙◌, inl, inr, arith}
use Rattle.dwz_def_reading.specs.Ranges.{IsBadSet, bad_ranges, set_unit}
use Rattle.dwz_def_reading.specs.Units.{field}
use Rattle.dwz_def_reading.proofs.HeaderLemmas.{field-append}
use Rattle.dwz_def_reading.proofs.RangeLemmas.{set_reads}
use Rattle.dwz_aranges.specs.Views.{Known, NoSet, Unknown, any_unit}

pub known : Known
known is_unit i j set is found =
    let t = (((set_reads any_unit).agrees i).ok (set, j)).0 is in
    let s = t.spelled in
    (((set_reads is_unit).agrees i).ok (set, j)).1 (record {
      front = t.front;
      spelled = record { place = s.place; whole = s.whole; some = s.some; version = s.version; unit = s.unit; known = ap is_unit (sym s.unit) ∙ found };
      parts = t.parts;
      place = t.place;
    })

pub unknown : Unknown
unknown is_unit i j set is missing =
    let t = (((set_reads any_unit).agrees i).ok (set, j)).0 is in
    let s = t.spelled in
    let room : 6 + 4 ≤ length t.front = omega (arith, s.whole, s.some) in
    let unit : set_unit i.rest ≡ set.unit = ap (field 6 4) t.parts ∙ field-append 6 4 t.front j.rest room ∙ sym s.unit in
    (((set_reads is_unit).agrees i).err (bad_ranges i.at)).1 (refl, inr (inr (inr (inr (ap is_unit unit ∙ missing)))))

pub no_set : NoSet
no_set is_unit i is = (((set_reads is_unit).agrees i).err (bad_ranges i.at)).1 (refl, still) where
  still : IsBadSet is_unit i.rest
  still = elim ((((set_reads any_unit).agrees i).err (bad_ranges i.at)).0 is).1 [
    | inl short ↦ inl short
    | inr b ↦ elim b [
      | inl cut ↦ inr (inl cut)
      | inr c ↦ elim c [
        | inl few ↦ inr (inr (inl few))
        | inr d ↦ elim d [
          | inl other ↦ inr (inr (inr (inl other)))
          | inr never ↦ absurd cc
        ]
      ]
    ]
  ]
