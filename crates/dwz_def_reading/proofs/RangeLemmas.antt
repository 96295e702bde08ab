-- Sets of address ranges are read as they are spelled, and fail with the faults that they have.
use Rattle.std.proofs.Common.{◌≡◌, ℕ, ◌+◌, ◌<◌, ◌≤◌, Bool, true, false, eqb, ltb, List, ◌++◌, length, take, drop, refl, sym, ap, subst, ◌∙◌, inl, inr, arith}
use Rattle.std.proofs.lemmas.Bool.{eqb-false, eqb-true, ltb-false, ltb-true}
use Rattle.std.proofs.lemmas.List.{length-append, length-take, take-append-drop}
use Rattle.dwz_bytes.specs.Input.{Input, past}
use Rattle.dwz_bytes.specs.Reading.{◌>>=◌}
use Rattle.dwz_bytes.proofs.LebLemmas.{drop-front}
use Rattle.dwz_def_reading.specs.Entries.{unless_so}
use Rattle.dwz_def_reading.specs.Ranges.{IsBadSet, IsSetFault, IsSetsFault, RangeSet, SpellsSet, SpellsSets, bad_ranges, is_bad_set, set_at, set_length, set_of, set_unit, set_version, sets_at}
use Rattle.dwz_def_reading.specs.Units.{field}
use Rattle.dwz_def_reading.proofs.AgreeLemmas.{Agrees, agrees_err, agrees_ok, in_words}
use Rattle.dwz_def_reading.proofs.DecideLemmas.{Decides, decides_eq, decides_lt, decides_not, decides_or, decides_words}
use Rattle.dwz_def_reading.proofs.HeaderLemmas.{field-append}
use Rattle.dwz_def_reading.proofs.SequenceLemmas.{IsTaken, ReadsAs, all_read}

module _ (is_unit : ℕ → Bool) where
  pub bad_decides : (bytes : List ℕ) → Decides (is_bad_set is_unit bytes) (IsBadSet is_unit bytes)
  bad_decides bytes =
      decides_or (decides_lt (length bytes) 4)
      (decides_or (decides_lt (length bytes) (set_length bytes + 4))
      (decides_or (decides_lt (set_length bytes) 8)
      (decides_or (decides_not (decides_eq (set_version bytes) 2))
      (decides_words (decides_not (record { yes = λ e. e; no = λ e h. let no : true ≡ false = sym h ∙ e in absurd cc })) unknown known)))) where
        unknown : (is_unit (set_unit bytes) ≡ true → ⊥) → is_unit (set_unit bytes) ≡ false
        unknown h = by (is_unit (set_unit bytes)) refl where
          by : (b : Bool) → is_unit (set_unit bytes) ≡ b → is_unit (set_unit bytes) ≡ false
          by true e = absurd (h e)
          by false e = e

        known : is_unit (set_unit bytes) ≡ false → is_unit (set_unit bytes) ≡ true → ⊥
        known e h = let no : true ≡ false = sym h ∙ e in absurd cc

  -- a set that stands at the front is none that is bad
  good : (set : RangeSet) (start : ℕ) (front rest : List ℕ) → SpellsSet is_unit set start front → IsBadSet is_unit (front ++ rest) → ⊥
  good set start front rest s bad =
      let room : 12 ≤ length front = omega (arith, s.whole, s.some) in
      let same : (at width : ℕ) → at + width ≤ 12 → field at width (front ++ rest) ≡ field at width front = λ at width le. field-append at width front rest (omega (arith, le, room)) in
      let len = same 0 4 (omega arith) in
      elim bad [
        | inl short ↦ omega (arith, short, room, length-append front rest)
        | inr b ↦ elim b [
          | inl cut ↦ omega (arith, cut, len, s.whole, length-append front rest)
          | inr c ↦ elim c [
            | inl few ↦ omega (arith, few, len, s.some)
            | inr d ↦ elim d [
              | inl other ↦ other (same 4 2 (omega arith) ∙ s.version)
              | inr unknown ↦ let no : false ≡ true = sym unknown ∙ ap is_unit (same 6 4 (omega arith)) ∙ s.known in absurd cc
            ]
          ]
        ]
      ]

  not_false : (i : Input) (b : Bool) → is_bad_set is_unit i.rest ≡ b → Agrees (unless_so b (bad_ranges i.at) >>= set_of i) (IsTaken (SpellsSet is_unit) i) (IsSetFault is_unit i.at i.rest)
  not_false i true e = in_words (agrees_err (bad_ranges i.at))
      (λ z. (λ no. absurd no, λ t. good z.0 i.at t.front z.1.rest t.spelled (subst (IsBadSet is_unit) t.parts ((bad_decides i.rest).yes e))))
      (λ f. (λ same. (same, (bad_decides i.rest).yes e), λ h. h.0))
  not_false i false e = in_words (agrees_ok (record { at = i.at; unit = set_unit i.rest }, past (set_length i.rest + 4) i)) (λ z. (to z, from z))
      (λ f. (λ no. absurd no, λ h. (bad_decides i.rest).no e h.1)) where
        fine : IsBadSet is_unit i.rest → ⊥
        fine = (bad_decides i.rest).no e

        at_least : (a b : ℕ) → (a < b → ⊥) → b ≤ a
        at_least a b h = by (ltb a b) refl where
          by : (t : Bool) → ltb a b ≡ t → b ≤ a
          by true is = absurd (h (ltb-true a b is))
          by false is = ltb-false a b is

        size : ℕ
        size = set_length i.rest + 4

        is_whole : set_length i.rest + 4 ≤ length i.rest
        is_whole = at_least (length i.rest) (set_length i.rest + 4) (λ lt. fine (inr (inl lt)))

        is_long : 8 ≤ set_length i.rest
        is_long = at_least (set_length i.rest) 8 (λ lt. fine (inr (inr (inl lt))))

        is_two : set_version i.rest ≡ 2
        is_two = by (eqb (set_version i.rest) 2) refl where
          by : (t : Bool) → eqb (set_version i.rest) 2 ≡ t → set_version i.rest ≡ 2
          by true is = eqb-true (set_version i.rest) 2 is
          by false is = absurd (fine (inr (inr (inr (inl (eqb-false (set_version i.rest) 2 is))))))

        is_known : is_unit (set_unit i.rest) ≡ true
        is_known = by (is_unit (set_unit i.rest)) refl where
          by : (t : Bool) → is_unit (set_unit i.rest) ≡ t → is_unit (set_unit i.rest) ≡ true
          by true is = is
          by false is = absurd (fine (inr (inr (inr (inr is)))))

        to : (z : RangeSet × Input) → z ≡ (record { at = i.at; unit = set_unit i.rest }, past (set_length i.rest + 4) i) → IsTaken (SpellsSet is_unit) i z
        to z same =
            let n = set_length i.rest + 4 in
            let front = take n i.rest in
            let whole : i.rest ≡ front ++ drop n i.rest = sym (take-append-drop n i.rest) in
            let len : length front ≡ n = omega (arith, length-take n i.rest, is_whole) in
            let read : (at width : ℕ) → at + width ≤ 12 → field at width front ≡ field at width i.rest =
            λ at width le. sym (field-append at width front (drop n i.rest) (omega (arith, le, len, is_long))) ∙ ap (field at width) (sym whole) in
            let size_of = read 0 4 (omega arith) in
            let taken : IsTaken (SpellsSet is_unit) i (record { at = i.at; unit = set_unit i.rest }, past n i) = record {
              front = front;
              spelled = record {
                place = refl;
                whole = omega (arith, size_of, len);
                some = omega (arith, size_of, is_long);
                version = read 4 2 (omega arith) ∙ is_two;
                unit = sym (read 6 4 (omega arith));
                known = ap is_unit (read 6 4 (omega arith)) ∙ is_known;
              };
              parts = whole;
              place = ap (λ (m : ℕ). i.at + m) (sym len);
            } in
            subst (IsTaken (SpellsSet is_unit) i) (sym same) taken

        from : (z : RangeSet × Input) → IsTaken (SpellsSet is_unit) i z → z ≡ (record { at = i.at; unit = set_unit i.rest }, past (set_length i.rest + 4) i)
        from z t =
            let s = t.spelled in
            let room : 12 ≤ length t.front = omega (arith, s.whole, s.some) in
            let read : (at width : ℕ) → at + width ≤ 12 → field at width i.rest ≡ field at width t.front =
            λ at width le. ap (field at width) t.parts ∙ field-append at width t.front z.1.rest (omega (arith, le, room)) in
            let len : length t.front ≡ set_length i.rest + 4 = sym s.whole ∙ ap (λ (n : ℕ). n + 4) (sym (read 0 4 (omega arith))) in
            let unit : z.0.unit ≡ set_unit i.rest = s.unit ∙ sym (read 6 4 (omega arith)) in
            let at : z.1.at ≡ i.at + (set_length i.rest + 4) = t.place ∙ ap (λ (n : ℕ). i.at + n) len in
            let rest : z.1.rest ≡ drop (set_length i.rest + 4) i.rest = sym (drop-front t.front z.1.rest) ∙ ap (λ (n : ℕ). drop n (t.front ++ z.1.rest)) len
            ∙ ap (drop (set_length i.rest + 4)) (sym t.parts) in
            λ n. (record { at = s.place n; unit = unit n }, record { at = at n; rest = rest n })

  pub set_reads : ReadsAs (set_at is_unit) (SpellsSet is_unit) (IsSetFault is_unit)
  unfolding set_at
  set_reads = record { agrees = λ i. not_false i (is_bad_set is_unit i.rest) refl }

  set_takes : (set : RangeSet) (start : ℕ) (bytes : List ℕ) → SpellsSet is_unit set start bytes → 0 < length bytes
  set_takes set start bytes s = omega (arith, s.whole)

  pub sets_agree : (i : Input) → Agrees (sets_at is_unit i) (λ sets. SpellsSets is_unit sets i.at i.rest) (IsSetsFault is_unit i.at i.rest)
  sets_agree i = (all_read (set_at is_unit) (SpellsSet is_unit) (IsSetFault is_unit) set_reads set_takes).agrees i
