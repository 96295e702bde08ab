-- Sets of address ranges, one after the other, each of a unit that is known.
use Rattle.std.proofs.Common.{◌≡◌, ℕ, ◌<◌, ◌≤◌, Bool, List, [], ◌∷◌, length, drop, Result, Ok, Err, refl, sym, ap, subst, ◌∙◌, arith}
use Rattle.std.specs.Prelude.{IsOk}
use Rattle.std.proofs.lemmas.List.{length-drop}
use Rattle.dwz_model.specs.declared.fault.Fault.{Fault}
use Rattle.dwz_def_reading.specs.Input.{Input, input}
use Rattle.dwz_def_reading.specs.Reading.{◌>>=◌}
use Rattle.dwz_def_reading.specs.Ranges.{IsSetFault, RangeSet, SpellsSet, set_at, sets_at}
use Rattle.dwz_def_reading.specs.Sequences.{after_one, with_item}
use Rattle.dwz_def_reading.proofs.RangeLemmas.{set_reads}
use Rattle.dwz_def_reading.proofs.SequenceLemmas.{all_none, all_step, input_of}

-- what is answered of one input is answered of another
pub record Leads (X : Type 0) (from to : Result X Fault) : Type 0 where
  pub good : IsOk from → IsOk to
  pub bad : (f : Fault) → from ≡ Err f → to ≡ Err f

pub leads_self : {X : Type 0} (r : Result X Fault) → Leads X r r
leads_self r = record { good = λ h. h; bad = λ f e. e }

module _ (is_unit : ℕ → Bool) where
  set_takes : (set : RangeSet) (start : ℕ) (bytes : List ℕ) → SpellsSet is_unit set start bytes → 0 < length bytes
  set_takes set start bytes s = omega (arith, s.whole)

  begin : (i : Input) → 0 < length i.rest → sets_at is_unit i ≡ (set_at is_unit i >>= after_one (sets_at is_unit))
  begin i some = by i.rest refl where
    by : (bytes : List ℕ) → i.rest ≡ bytes → sets_at is_unit i ≡ (set_at is_unit i >>= after_one (sets_at is_unit))
    by [] same = absurd (let len = ap length same in omega (arith, len, some))
    by (b ∷ bytes) same =
        let whole : i ≡ input_of i.at (b ∷ bytes) = λ n. record { at = i.at; rest = same n } in
        ap (sets_at is_unit) whole ∙ all_step (set_at is_unit) (SpellsSet is_unit) (IsSetFault is_unit) (set_reads is_unit) set_takes i.at b bytes
        ∙ ap (λ (j : Input). set_at is_unit j >>= after_one (sets_at is_unit)) (sym whole)

  pub sets_end : (section : List ℕ) (at : ℕ) → length section ≤ at → IsOk (sets_at is_unit (input section at))
  sets_end section at le = by (drop at section) refl where
    by : (bytes : List ℕ) → drop at section ≡ bytes → IsOk (sets_at is_unit (input section at))
    by [] same =
        let whole : input section at ≡ input_of at [] = λ n. record { at = at; rest = same n } in
        subst IsOk (sym (ap (sets_at is_unit) whole ∙ all_none (set_at is_unit) (SpellsSet is_unit) (IsSetFault is_unit) (set_reads is_unit) set_takes at)) refl
    by (b ∷ bytes) same = absurd (let len = ap length same in omega (arith, len, length-drop at section))

  more : (set : RangeSet) (r : Result (List RangeSet) Fault) → Leads (List RangeSet) r (r >>= with_item set)
  more set (Ok sets) = record { good = λ h. refl; bad = λ f e. absurd cc }
  more set (Err g) = record { good = λ h. h; bad = λ f e. let same : g ≡ f = cc in ap (λ (w : Fault). Err w) same }

  leads_along : {X : Type 0} (a b c : Result X Fault) → Leads X a b → Leads X b c → Leads X a c
  leads_along a b c h k = record { good = λ w. k.good (h.good w); bad = λ f e. k.bad f (h.bad f e) }

  pub set_read : (section : List ℕ) (at behind : ℕ) (set : RangeSet) (whole : Result (List RangeSet) Fault) → at < length section → set_at is_unit (input section at) ≡ Ok (set, input section behind)
      → Leads (List RangeSet) (sets_at is_unit (input section at)) whole → Leads (List RangeSet) (sets_at is_unit (input section behind)) whole
  set_read section at behind set whole lt is h =
      let step = begin (input section at) (omega (arith, length-drop at section)) ∙ ap (λ (r : Result (RangeSet × Input) Fault). r >>= after_one (sets_at is_unit)) is in
      leads_along (sets_at is_unit (input section behind)) (sets_at is_unit (input section at)) whole
      (subst (λ (r : Result (List RangeSet) Fault). Leads (List RangeSet) (sets_at is_unit (input section behind)) r) (sym step) (more set (sets_at is_unit (input section behind)))) h

  pub set_fails : (section : List ℕ) (at : ℕ) (f : Fault) (whole : Result (List RangeSet) Fault) → at < length section → set_at is_unit (input section at) ≡ Err f
      → Leads (List RangeSet) (sets_at is_unit (input section at)) whole → whole ≡ Err f
  set_fails section at f whole lt is h =
      h.bad f (begin (input section at) (omega (arith, length-drop at section)) ∙ ap (λ (r : Result (RangeSet × Input) Fault). r >>= after_one (sets_at is_unit)) is)
