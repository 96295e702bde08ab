-- Units stay sound where their texts have new numbers, which are no greater than the section is long.
use Rattle.std.proofs.Common.{◌≡◌, ℕ, pos, ◌<◌, ◌^◌, Bool, true, false, List, [], ◌∷◌, length, map, take, cond, eqb, sym, subst, ◌∙◌, arith}
use Rattle.std.proofs.lemmas.List.{length-take}
use Rattle.dwz_def_reading.specs.Spelling.{le_bytes, reach}
use Rattle.dwz_def_reading.specs.Pruning.{is_kept, new_number}
use Rattle.dwz_def_reading.proofs.PruneLemmas.{length_kept}
use Rattle.dwz_def_reading.specs.Trees.{End, Entry}
use Rattle.dwz_def_reading.specs.Documents.{Attr, DwUnit, Entries}
use Rattle.dwz_def_reading.specs.Classes.{OfTextInStr, Unread}
use Rattle.dwz_def_reading.specs.Classes.{Class}
use Rattle.dwz_def_reading.specs.Lists.{Each}
use Rattle.dwz_def_encoding.specs.Placing.{with_form}
use Rattle.dwz_def_encoding.specs.Pruned.{entries_renumbered, renumbered_attr, renumbered_unit, renumbered_units}
use Rattle.dwz_def_encoding.specs.Sound.{SoundAttr, SoundEntries, SoundUnit, StoresAs}
use Rattle.dwz_def_encoding.proofs.PoolLemmas.{le_are}
use Rattle.dwz_def_encoding.proofs.ChosenValues.{str_class, strp_spelled}

-- the number of a text is at most as great as the section is long
number_less : (strs uses : List ℕ) → length strs < 2 ^ 32 → (n : ℕ) → new_number strs uses n < 2 ^ 32
number_less strs uses small n =
    let kept = length_kept (is_kept strs uses) 0 (take n strs) in
    let front = length-take n strs in
    omega (arith, kept, front, small)

module _ {K : Type 0} (number : ℕ → ℕ) (less : (n : ℕ) → number n < 2 ^ 32) where
  abbrev moved : Attr K → Attr K
  moved a = with_form a (record { form = 0x0e; raw = pos (number (reach a.raw)) })

  attr_sound : (a : Attr K) → SoundAttr a → SoundAttr (renumbered_attr number a)
  attr_sound a sound = by (eqb a.form 0x0e) where
    by : (b : Bool) → SoundAttr (cond b (moved a) a)
    by true = record {
      some_name = sound.some_name;
      name_fits = sound.name_fits;
      no_sibling = sound.no_sibling;
      known = λ u. (let no : OfTextInStr ≡ Unread = sym str_class ∙ u in cc);
      constant = λ e. absurd (omega (arith, e));
      value = subst (λ (d : Class). StoresAs d (moved a)) (sym str_class)
          (record { bytes = le_bytes 4 (number (reach a.raw)); are_bytes = le_are 4 (number (reach a.raw)); spelled = strp_spelled (pos 0) (number (reach a.raw)) (less (reach a.raw)) });
    }
    by false = sound

  attrs_sound : (attrs : List (Attr K)) → Each SoundAttr attrs → Each SoundAttr (map (renumbered_attr number) attrs)
  attrs_sound [] sound = tt
  attrs_sound (a ∷ attrs) sound = (attr_sound a sound.0, attrs_sound attrs sound.1)

  entries_sound : (g : Entries K) → SoundEntries g → SoundEntries (entries_renumbered number g)
  unfolding entries_renumbered
  entries_sound End sound = tt
  entries_sound (Entry e children next) sound = (
    record { some_tag = sound.0.some_tag; tag_fits = sound.0.tag_fits; attrs = attrs_sound e.attrs sound.0.attrs },
    entries_sound children sound.1,
    entries_sound next sound.2,
  )

  each_sound : (units : List (DwUnit K)) → Each SoundUnit units → Each SoundUnit (map (renumbered_unit number) units)
  each_sound [] sound = tt
  each_sound (u ∷ units) sound = (
    record {
      kind = sound.0.kind;
      root = record { some_tag = sound.0.root.some_tag; tag_fits = sound.0.root.tag_fits; attrs = attrs_sound u.root.attrs sound.0.root.attrs };
      below = entries_sound u.below sound.0.below;
    },
    each_sound units sound.1,
  )

pub new_sound : {K : Type 0} (strs uses : List ℕ) → length strs < 2 ^ 32 → (units : List (DwUnit K)) → Each SoundUnit units → Each SoundUnit (renumbered_units (new_number strs uses) units)
unfolding renumbered_units
new_sound strs uses small units sound = each_sound (new_number strs uses) (number_less strs uses small) units sound
