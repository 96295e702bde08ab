-- Files: what is answered for files is what they say, and their first fault is answered.
use Rattle.std.proofs.Common.{◌≡◌, ◌≢◌, ◌↔◌, ◌⊎◌, ℕ, suc, ◌<◌, ◌≤◌, Bool, true, false, List, [], ◌∷◌, ◌++◌, length, Option, Some, None, Result, Ok, Err, refl, sym, ap, subst, ◌∙◌, inl, inr, eqb, ltb}
use Rattle.std.proofs.Common.{arith}
use Rattle.std.specs.Prelude.{◌||◌, not}
use Rattle.std.proofs.lemmas.Bool.{eqb-false, eqb-true, ltb-false, ltb-true, or_parts}
use Rattle.dwz_model.specs.declared.fault.Fault.{Fault}
use Rattle.dwz_model.specs.declared.fault.Reason.TheVariants.{FileSize, Machine}
use Rattle.dwz_model.specs.declared.fault.Refusal.{Refusal}
use Rattle.dwz_bytes.specs.Input.{input}
use Rattle.dwz_bytes.specs.Reading.{◌>>=◌}
use Rattle.dwz_def_reading.specs.Documents.{Doc, DwUnit}
use Rattle.dwz_def_reading.specs.ElfFaults.{ElfManner, IsElfFaultFor, IsFirstElfFaultFor, file_fault}
use Rattle.dwz_def_reading.specs.ElfReading.{elf_fault_for}
use Rattle.dwz_def_reading.specs.Entries.{Mode, unless_so}
use Rattle.dwz_def_reading.specs.Files.{First, HaveGoodRanges, IsFaultBy, IsFileFault, IsForMachine, IsNotTooLong, IsOtherMachine, IsRefusal, IsTooLong, Limits, ReadAll, Reads, ReadsBy, debug_abbrev}
use Rattle.dwz_def_reading.specs.Files.{debug_aranges, debug_info, doc_with, ends_at, file_meaning, file_meaning_by, files_meaning, given_rule, is_other_machine, is_place_of, is_too_long, limits_after, lists_said, refused_in}
use Rattle.dwz_def_reading.specs.Files.{longest_file, machine_at, machine_of, sets_said, units_said}
use Rattle.dwz_def_reading.specs.Meanings.{MeanUnits}
use Rattle.dwz_def_reading.specs.MeaningFaults.{HaveUnitFault}
use Rattle.dwz_def_reading.specs.NamedLists.{lists_of_units}
use Rattle.dwz_def_reading.specs.Ranges.{IsSetsFault, RangeSet, SpellsSets}
use Rattle.dwz_def_reading.specs.Shared.{IsSharedFault, NoneShared}
use Rattle.dwz_def_reading.specs.Rules.{ReadingRule}
use Rattle.dwz_def_reading.specs.Units.{IsUnitsFault, RawUnit, SpellsUnits, units_at}
use Rattle.dwz_def_reading.proofs.AgreeLemmas.{Agrees, Made, Next, OrNext, agrees_err, agrees_ok, and_with, in_words, then_made}
use Rattle.dwz_def_reading.proofs.ElfFaultLemmas.{elf_is_sound}
use Rattle.dwz_def_reading.proofs.ElfFirst.{first_is_one}
use Rattle.dwz_def_reading.proofs.MeaningUnits.{units_agree}
use Rattle.dwz_def_reading.proofs.RangeLemmas.{sets_agree}
use Rattle.dwz_def_reading.proofs.SharedLemmas.{shared_agrees}
use Rattle.dwz_def_reading.proofs.UnitListLemmas.{units_again, units_fault, units_fault_again, units_found}

-- ---- tests

-- a step that only tests, and then the others
and_unless : {Y E : Type 0} {r : Result (Unit {0}) E} {H : Type 0} {F : E → Type 0} {N : Y → Type 0} {G : E → Type 0}
    → Agrees r (λ u. H) F → (k : Unit {0} → Result Y E) → Agrees (k tt) N G → Agrees (r >>= k) (λ y. H × N y) (λ e. F e ⊎ (H × G e))
and_unless {Y} {E} {r} {H} {F} {N} {G} a k others =
    in_words (and_with a k (λ u. others)) (λ y. (λ h. (h.1, h.2), λ h. (tt, h.0, h.1))) (λ e. (
      λ h. elim h [ inl d ↦ inl d | inr p ↦ inr (p.1, p.2) ],
      λ h. elim h [ inl d ↦ inl d | inr p ↦ inr (tt, p.0, p.1) ],
    ))

-- a test that fails, or holds, for what it stands for
test_agrees : (test : Bool) (f : Fault) (Holds Fails : Type 0) → (test ≡ true → Fails) → (test ≡ false → Holds) → (Holds → Fails → ⊥) → Agrees (unless_so test f) (λ u. Holds) (λ g. (g ≡ f) × Fails)
test_agrees true f Holds Fails fails holds apart =
    in_words (agrees_err f) (λ u. (λ none. absurd none, λ h. apart h (fails refl))) (λ g. (λ same. (same, fails refl), λ h. h.0))
test_agrees false f Holds Fails fails holds apart =
    in_words (agrees_ok tt) (λ u. (λ same. holds refl, λ h. refl)) (λ g. (λ none. absurd none, λ h. apart (holds refl) h.1))

pub or_true : (a b : Bool) → (a || b) ≡ true → (a ≡ true) ⊎ (b ≡ true)
or_true true b e = inl refl
or_true false b e = inr e

not_above : (a b : ℕ) → a ≤ b → b < a → ⊥
not_above a b le lt = omega arith

size_agrees : (l : Limits) (bytes : List ℕ) → Agrees (unless_so (is_too_long l bytes) (file_fault FileSize 0)) (λ u. IsNotTooLong l bytes) (λ f. (f ≡ file_fault FileSize 0) × IsTooLong l bytes)
size_agrees l bytes = test_agrees (is_too_long l bytes) (file_fault FileSize 0) (IsNotTooLong l bytes) (IsTooLong l bytes)
    (λ e. elim (or_true (ltb longest_file (length bytes)) (ltb l.bytes (length bytes)) e) [
      | inl h ↦ inl (ltb-true longest_file (length bytes) h)
      | inr h ↦ inr (ltb-true l.bytes (length bytes) h)
    ])
    (λ e.
    let both = or_parts (ltb longest_file (length bytes)) (ltb l.bytes (length bytes)) e in
    record { file = ltb-false longest_file (length bytes) both.0; files = ltb-false l.bytes (length bytes) both.1 })
    (λ is long. elim long [
      | inl h ↦ not_above (length bytes) longest_file is.file h
      | inr h ↦ not_above (length bytes) l.bytes is.files h
    ])

machine_agrees : (other : Option ℕ) (machine : ℕ)
    → Agrees (unless_so (is_other_machine other machine) (file_fault Machine machine_at)) (λ u. IsForMachine other machine) (λ f. (f ≡ file_fault Machine machine_at) × IsOtherMachine other machine)
machine_agrees None machine = test_agrees false (file_fault Machine machine_at) (Unit {0}) ⊥ (λ e. absurd cc) (λ e. tt) (λ h none. none)
machine_agrees (Some other) machine =
    test_agrees (not (eqb machine other)) (file_fault Machine machine_at) (machine ≡ other) (machine ≢ other)
    (λ e. eqb-false machine other (flipped (eqb machine other) e)) (λ e. eqb-true machine other (unflipped (eqb machine other) e)) (λ same differ. differ same) where
      flipped : (b : Bool) → not b ≡ true → b ≡ false
      flipped true e = absurd cc
      flipped false e = refl

      unflipped : (b : Bool) → not b ≡ false → b ≡ true
      unflipped true e = refl
      unflipped false e = absurd cc

elf_agrees : (m : ElfManner) (bytes : List ℕ) → Agrees (ends_at (elf_fault_for m bytes)) (λ u. (g : Fault) → IsElfFaultFor m bytes g → ⊥) (IsFirstElfFaultFor m bytes)
elf_agrees m bytes = by (elf_fault_for m bytes) refl where
  by : (o : Option Fault) → elf_fault_for m bytes ≡ o → Agrees (ends_at o) (λ u. (g : Fault) → IsElfFaultFor m bytes g → ⊥) (IsFirstElfFaultFor m bytes)
  by None none = in_words (agrees_ok tt)
      (λ u. (λ same. (elf_is_sound m bytes).none none, λ h. refl))
      (λ f. (λ no_fault. absurd no_fault, λ h. (elf_is_sound m bytes).none none f (first_is_one m bytes f h)))
  by (Some g) some = in_words (agrees_err g)
      (λ u. (λ no_fault. absurd no_fault, λ h. h g (first_is_one m bytes g (((elf_is_sound m bytes).first g).0 some))))
      (λ f. (
        λ same. subst (IsFirstElfFaultFor m bytes) (sym same) (((elf_is_sound m bytes).first g).0 some),
        λ h. let is = ((elf_is_sound m bytes).first f).1 h in let same : Some f ≡ Some g = sym is ∙ some in cc,
      ))

-- what is told of `.debug_sup` is told, or nothing is
sup_agrees : (o : Option Fault) → Agrees (ends_at o) (λ u. o ≡ None) (λ f. o ≡ Some f)
sup_agrees None = in_words (agrees_ok tt) (λ u. (λ same. refl, λ h. refl)) (λ f. (λ none. absurd none, λ h. absurd (let no : None ≡ Some f = h in cc)))
sup_agrees (Some g) =
    in_words (agrees_err g) (λ u. (λ none. absurd none, λ h. absurd (let no : Some g ≡ None = h in cc))) (λ f. (λ same. ap (λ (x : Fault). Some x) (sym same), λ h. let same : g ≡ f = cc in sym same))

-- ---- a file

abbrev Read : (P : Type 0) → Type 0
Read P = List RawUnit × Doc P

-- reading units agrees with how they are spelled
units_spelled : (abbrevs : List ℕ) (mode : Mode) (bytes : List ℕ)
    → Agrees (units_at abbrevs mode 0 (input bytes 0)) (λ units. SpellsUnits abbrevs mode 0 units 0 bytes) (IsUnitsFault abbrevs mode 0 0 bytes)
units_spelled abbrevs mode bytes = record {
  ok = λ units. (units_found abbrevs mode 0 (input bytes 0) units, units_again abbrevs mode 0 units 0 bytes);
  err = λ f. (units_fault abbrevs mode 0 (input bytes 0) f, units_fault_again abbrevs mode 0 0 bytes f);
}

-- what the sets of address ranges say
abbrev Sets : List ℕ → List RawUnit → List RangeSet → Type 0
Sets bytes units sets = SpellsSets (is_place_of units) sets 0 (debug_aranges bytes)

sets_agreed : (bytes : List ℕ) (units : List RawUnit) → Agrees (sets_said bytes units) (Sets bytes units) (IsSetsFault (is_place_of units) 0 (debug_aranges bytes))
sets_agreed bytes units = sets_agree (is_place_of units) (input (debug_aranges bytes) 0)

module _ {P : Type 0} (rule : ReadingRule P) where
  abbrev doc_of : List ℕ → List RawUnit → List (DwUnit P) → Read P
  doc_of bytes raw units = (raw, record { machine = machine_of bytes; units = units })

  -- the units of a file, where one stands, and what they mean
  abbrev Spelled : Limits → List ℕ → List RawUnit → Type 0
  Spelled l bytes units = SpellsUnits (debug_abbrev bytes) (rule.mode l.entries) 0 units 0 (debug_info bytes)

  abbrev Mean : List ℕ → List RawUnit → List (DwUnit P) → Type 0
  Mean bytes units = MeanUnits (rule.around bytes units) units

  abbrev Free : List ℕ → List RawUnit → Type 0
  Free bytes units = NoneShared (lists_of_units (rule.around bytes units) units)

  -- what is behind the units
  abbrev Behind-units : List ℕ → List RawUnit → Read P → Type 0
  Behind-units bytes units = Next (Mean bytes units) (λ said. Next (Sets bytes units) (λ sets. Next (λ (u : Unit {0}). Free bytes units) (λ good x. x ≡ doc_of bytes units said)))

  abbrev Behind-fault : List ℕ → List RawUnit → Fault → Type 0
  Behind-fault bytes units =
      OrNext (HaveUnitFault (rule.around bytes units) units) (Mean bytes units)
      (λ said. OrNext (IsSetsFault (is_place_of units) 0 (debug_aranges bytes)) (Sets bytes units)
      (λ sets. OrNext (IsSharedFault (lists_of_units (rule.around bytes units) units)) (λ (u : Unit {0}). Free bytes units) (λ good f. ⊥)))

  behind_agrees : (bytes : List ℕ) (units : List RawUnit) → Agrees (units_said rule bytes units) (Behind-units bytes units) (Behind-fault bytes units)
  behind_agrees bytes units =
      and_with (units_agree (rule.around bytes units) units) (λ said. sets_said bytes units >>= λ sets. lists_said (rule.around bytes units) units >>= λ good. doc_with bytes units said)
      (λ said. and_with (sets_agreed bytes units) (λ sets. lists_said (rule.around bytes units) units >>= λ good. doc_with bytes units said)
      (λ sets. and_with (shared_agrees (lists_of_units (rule.around bytes units) units)) (λ good. doc_with bytes units said)
      (λ good. agrees_ok (doc_of bytes units said))))

  units_then : (l : Limits) (bytes : List ℕ)
      → Agrees (units_at (debug_abbrev bytes) (rule.mode l.entries) 0 (input (debug_info bytes) 0) >>= units_said rule bytes)
      (Next (Spelled l bytes) (Behind-units bytes))
      (OrNext (IsUnitsFault (debug_abbrev bytes) (rule.mode l.entries) 0 0 (debug_info bytes)) (Spelled l bytes) (Behind-fault bytes))
  units_then l bytes = and_with (units_spelled (debug_abbrev bytes) (rule.mode l.entries) (debug_info bytes)) (units_said rule bytes) (behind_agrees bytes)

  pub file_agrees_by : (l : Limits) (bytes : List ℕ) → Agrees (file_meaning_by rule l bytes) (λ x. ReadsBy rule l bytes x.0 x.1) (IsFaultBy rule l bytes)
  unfolding file_meaning_by
  file_agrees_by l bytes =
      in_words (and_unless (size_agrees l bytes) (λ size. ends_at (elf_fault_for rule.manner bytes) >>= after_elf)
      (and_unless (elf_agrees rule.manner bytes) after_elf
      (and_unless (machine_agrees l.machine (machine_of bytes)) after_machine
      (and_unless (sup_agrees (rule.sup_fault bytes)) after_sup (units_then l bytes)))))
      means faults where
        after_sup : Unit {0} → Result (Read P) Fault
        after_sup sup = units_at (debug_abbrev bytes) (rule.mode l.entries) 0 (input (debug_info bytes) 0) >>= units_said rule bytes

        after_machine : Unit {0} → Result (Read P) Fault
        after_machine machine = ends_at (rule.sup_fault bytes) >>= after_sup

        after_elf : Unit {0} → Result (Read P) Fault
        after_elf elf = unless_so (is_other_machine l.machine (machine_of bytes)) (file_fault Machine machine_at) >>= after_machine

        means : (x : Read P)
            → (IsNotTooLong l bytes × (((g : Fault) → IsElfFaultFor rule.manner bytes g → ⊥) × (IsForMachine l.machine (machine_of bytes)
            × ((rule.sup_fault bytes ≡ None) × Next (Spelled l bytes) (Behind-units bytes) x))))
            ↔ ReadsBy rule l bytes x.0 x.1
        means x = (
          λ h.
              let n = h.1.1.1.1 in
              let raw = n.0 in
              let m = n.2 in
              let said = m.0 in
              let sets = m.2.0 in
              let free : Free bytes raw = m.2.2.1 in
              let is : x ≡ doc_of bytes raw said = m.2.2.2 in
              let reads : ReadsBy rule l bytes raw (doc_of bytes raw said).1 = record {
                size = h.0;
                elf = h.1.0;
                same_machine = h.1.1.0;
                sup = h.1.1.1.0;
                spelled = n.1;
                means = m.1;
                machine = refl;
                ranges = record { sets = sets; spelled = m.2.1 };
                lists = free;
              } in
              subst (λ (y : Read P). ReadsBy rule l bytes y.0 y.1) (sym is) reads,
          λ r. (
            r.size,
            (
              r.elf,
              (
                r.same_machine,
                (
                  r.sup,
                  (
                    x.0,
                    r.spelled,
                    (
                      x.1.units,
                      r.means,
                      (r.ranges.sets, r.ranges.spelled, (tt, r.lists, λ i. (x.0, record { machine = r.machine i; units = x.1.units }))),
                    ),
                  ),
                ),
              ),
            ),
          ),
        )

        -- what is behind the units, in the words of the definition
        behind : (units : List RawUnit) (f : Fault) → Behind-fault bytes units f
            ↔ (HaveUnitFault (rule.around bytes units) units f
            ⊎ (((said : List (DwUnit P)) × MeanUnits (rule.around bytes units) units said)
            × (IsSetsFault (is_place_of units) 0 (debug_aranges bytes) f
            ⊎ (HaveGoodRanges bytes units × IsSharedFault (lists_of_units (rule.around bytes units) units) f))))
        behind units f = (
          λ h. elim h [
            | inl is ↦ inl is
            | inr p ↦ inr (
              (p.0, p.1),
              elim p.2 [
                | inl is ↦ inl is
                | inr q ↦ inr (record { sets = q.0; spelled = q.1 }, elim q.2 [ inl is ↦ is | inr r ↦ absurd r.2 ])
              ],
            )
          ],
          λ h. elim h [
            | inl is ↦ inl is
            | inr p ↦ inr (
              p.0.0,
              p.0.1,
              elim p.1 [
                | inl is ↦ inl is
                | inr q ↦ inr (q.0.sets, q.0.spelled, inl q.1)
              ],
            )
          ],
        )

        faults : (f : Fault)
            → (((f ≡ file_fault FileSize 0) × IsTooLong l bytes)
            ⊎ (IsNotTooLong l bytes
            × (IsFirstElfFaultFor rule.manner bytes f
            ⊎ (((g : Fault) → IsElfFaultFor rule.manner bytes g → ⊥)
            × (((f ≡ file_fault Machine machine_at) × IsOtherMachine l.machine (machine_of bytes))
            ⊎ (IsForMachine l.machine (machine_of bytes)
            × ((rule.sup_fault bytes ≡ Some f)
            ⊎ ((rule.sup_fault bytes ≡ None)
            × OrNext (IsUnitsFault (debug_abbrev bytes) (rule.mode l.entries) 0 0 (debug_info bytes)) (Spelled l bytes) (Behind-fault bytes) f))))))))
            ↔ IsFaultBy rule l bytes f
        faults f = (
          λ h. elim h [
            | inl is ↦ inl is
            | inr p ↦ inr (
              p.0,
              elim p.1 [
                | inl is ↦ inl is
                | inr q ↦ inr (
                  q.0,
                  elim q.1 [
                    | inl is ↦ inl is
                    | inr m ↦ inr (
                      m.0,
                      elim m.1 [
                        | inl is ↦ inl is
                        | inr s ↦ inr (s.0, elim s.1 [ inl is ↦ inl is | inr u ↦ inr (record { units = u.0; spelled = u.1; fault = (behind u.0 f).0 u.2 }) ])
                      ],
                    )
                  ],
                )
              ],
            )
          ],
          λ h. elim h [
            | inl is ↦ inl is
            | inr p ↦ inr (
              p.0,
              elim p.1 [
                | inl is ↦ inl is
                | inr q ↦ inr (
                  q.0,
                  elim q.1 [
                    | inl is ↦ inl is
                    | inr m ↦ inr (
                      m.0,
                      elim m.1 [
                        | inl is ↦ inl is
                        | inr s ↦ inr (s.0, elim s.1 [ inl is ↦ inl is | inr u ↦ inr (u.units, u.spelled, (behind u.units f).1 u.fault) ])
                      ],
                    )
                  ],
                )
              ],
            )
          ],
        )

pub file_agrees : (l : Limits) (bytes : List ℕ) → Agrees (file_meaning l bytes) (λ x. Reads l bytes x.0 x.1) (IsFileFault l bytes)
file_agrees = file_agrees_by given_rule

-- ---- files

abbrev refusal : ℕ → Fault → Refusal
refusal number f = record { file = number; section = f.section; at = f.at; reason = f.reason }

-- the same answer, in the file with a number
pub refused_agrees : {X : Type 0} {r : Result X Fault} {M : X → Type 0} {F : Fault → Type 0} (number : ℕ) → Agrees r M F
    → Agrees (refused_in number r) M (λ q. (f : Fault) × F f × (q ≡ refusal number f))
refused_agrees {X} {r = Ok y} {M} {F} number a = record {
  ok = λ x. (λ is. let same : y ≡ x = cc in (a.ok x).0 (ap (λ (w : X). Ok w) same), λ m. let is = (a.ok x).1 m in let same : y ≡ x = cc in ap (λ (w : X). Ok w) same);
  err = λ r. (λ is. absurd cc, λ h. absurd (let none = (a.err h.0).1 h.1 in cc));
}
refused_agrees {X} {r = Err f} {M} {F} number a = record {
  ok = λ x. (λ is. absurd cc, λ m. absurd (let none = (a.ok x).1 m in cc));
  err = λ r. (
    λ is. (f, (a.err f).0 refl, let same : refusal number f ≡ r = cc in sym same),
    λ h.
        let is = (a.err h.0).1 h.1 in
        let same : f ≡ h.0 = cc in
        ap (λ (g : Fault). Err (refusal number g)) same ∙ ap (λ (q : Refusal). Err q) (sym h.2),
  );
}

numbered : (number : ℕ) (l : Limits) (bytes : List ℕ) → Agrees (refused_in number (file_meaning l bytes)) (λ x. Reads l bytes x.0 x.1) (IsRefusal l number bytes)
numbered number l bytes =
    in_words (refused_agrees number (file_agrees l bytes)) (λ x. (λ h. h, λ h. h)) (λ q. (λ h. record { fault = h.0; is_fault = h.1; same = h.2 }, λ h. (h.fault, h.is_fault, h.same)))

pub files_agree : (l : Limits) (number : ℕ) (files : List (List ℕ)) → Agrees (files_meaning l number files) (ReadAll l files) (First l number files)
unfolding files_meaning
files_agree l number [] = in_words (agrees_ok []) means (λ r. (λ none. none, λ none. none)) where
  means : (docs : List (Doc ℕ)) → (docs ≡ []) ↔ ReadAll l [] docs
  means [] = (λ same. tt, λ is. refl)
  means (doc ∷ docs) = (λ same. absurd cc, λ none. absurd none)
files_agree l number (bytes ∷ files) =
    in_words (and_with (numbered number l bytes) (λ x. files_meaning (limits_after l bytes x.0) (suc number) files >>= λ docs. Ok (x.1 ∷ docs))
    (λ x. then_made (files_agree (limits_after l bytes x.0) (suc number) files) (λ docs. x.1 ∷ docs)))
    means faults where
      means : (docs : List (Doc ℕ)) → Next (λ (x : Read ℕ). Reads l bytes x.0 x.1) (λ x. Made (ReadAll (limits_after l bytes x.0) files) (λ ds. x.1 ∷ ds)) docs ↔ ReadAll l (bytes ∷ files) docs
      means [] = (λ h. absurd (let none = h.2.2 in cc), λ none. absurd none)
      means (doc ∷ docs) = (
        λ h.
            let same = h.2.2 in
            let head : doc ≡ h.0.1 = cc in
            let tail : docs ≡ h.2.0 = cc in
            (h.0.0, subst (Reads l bytes h.0.0) (sym head) h.1, subst (ReadAll (limits_after l bytes h.0.0) files) (sym tail) h.2.1),
        λ h. ((h.0, doc), h.1, (docs, h.2, refl)),
      )

      faults : (r : Refusal) → OrNext (IsRefusal l number bytes) (λ (x : Read ℕ). Reads l bytes x.0 x.1) (λ x. First (limits_after l bytes x.0) (suc number) files) r ↔ First l number (bytes ∷ files) r
      faults r = (
        λ h. elim h [ inl is ↦ inl is | inr p ↦ inr (p.0.0, p.0.1, p.1, p.2) ],
        λ h. elim h [ inl is ↦ inl is | inr p ↦ inr ((p.0, p.1), p.2, p.3) ],
      )
