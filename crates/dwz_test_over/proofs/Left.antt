-- The file over the other common file: its unit can't take a partial unit that has another type too, and so nothing is put.
use Rattle.std.proofs.Common.{◌≡◌, ◌∙◌, ℕ, zero, suc, ◌<◌, true, false, List, [], ◌∷◌, None, MatchOption, Ok, arith, length, refl, sym, ap, subst, inl, inr}
use Rattle.std.specs.Prelude.{codes}
use Rattle.sha2.specs.Sha256.{compress, digest_bytes, first_words, hash_after, rounds, schedule, sha256}
use Rattle.dwz_def_reading.specs.Refusal.{Refusal}
use Rattle.dwz_def_reading.specs.Fault.{Fault}
use Rattle.dwz_def_reading.specs.Lists.{In, Nth, Rising}
use Rattle.dwz_def_reading.specs.Files.{file_meaning_by, files_meaning, limits_after, no_files_before}
use Rattle.dwz_def_reading.specs.Finished.{common_sup_fault, rule_of_common}
use Rattle.dwz_def_reading.specs.FirstOf.{OfFirst}
use Rattle.dwz_def_reading.specs.Supplementary.{read_sup}
use Rattle.dwz_def_reading.specs.Units.{RawUnit}
use Rattle.dwz_def_reading.proofs.FileLemmas.{file_agrees_by, files_agree}
use Rattle.dwz_def_tops.specs.Alike.{Alike, Together}
use Rattle.dwz_def_tops.specs.Deciding.{alike_test}
use Rattle.dwz_def_tops.specs.Spots.{Top, tops_of}
use Rattle.dwz_def_tops.proofs.AlikeLaws.{alike_decides}
use Rattle.dwz_def_images.specs.Units.{changes}
use Rattle.dwz_def_readback.specs.Files.{Run}
use Rattle.dwz_def_readback.proofs.PrunableDecided.{prunable_decided}
use Rattle.dwz_run_course.specs.declared.output.Output.{Output}
use Rattle.dwz_run_course.specs.declared.output.Said.TheVariants.{Slimmed}
use Rattle.dwz_run_course.specs.Outcome.{writes}
use Rattle.dwz_def_output.specs.Refusals.{FileFaultBy, InFile, OutFaultBy, SectionsFaultBy}
use Rattle.dwz_def_taken.specs.Beside.{Reused, all_attrs, all_below, look_units, reused_beside, then_entries, together}
use Rattle.dwz_def_taken.specs.Over.{common_parts, row_map}
use Rattle.dwz_def_taken.specs.Takes.{Blocked, CanTake, CanTakeAlong, IsFixed, IsImage, IsTaken, Takes, image_at, is_blocked, takes_of}
use Rattle.dwz_def_over.specs.Over.{AreOverFiles, OverFiles, run_over, stands}
use Rattle.dwz_def_run.specs.Out.{sup_name}
use Rattle.dwz_def_run.specs.Comes.{Comes}
use Rattle.dwz_def_run.specs.Reuses.{output_over}
use Rattle.dwz_test_definitions.proofs.Comes.{come, said}
use Rattle.dwz_test_over.proofs.Bytes.{both_file, three_file}
use Rattle.dwz_test_over.proofs.Beside.{over_both, three_doc}
use Rattle.dwz_test_over.proofs.Comes.{asked, left, left_fixed, options}
use Rattle.dwz_test_over.proofs.Taken.{prunable, units_read}
use Rattle.dwz_test_over.proofs.Whole.{one_file}

abbrev r : Reused
r = reused_beside over_both

-- ---- the unit takes nothing

one_unit : length r.units ≡ 1
unfolding come
one_unit = refl

one_part : length r.commons ≡ 1
unfolding come
one_part = refl

own_is : (c : Top) → In c (tops_of r.units) → c.number ≡ 0
unfolding come
own_is c (inl e) = sym (ap (λ (t : Top). t.number) e)
own_is c (inr n) = absurd n

-- the other type
long_is : (c : Top) → Nth 0 (tops_of (together r)) 1 c → In c (tops_of (together r)) × (c.number ≡ 1) × (c.unit ≡ 1)
unfolding come
long_is c (inl (e, f)) = absurd (omega (arith, e))
long_is c (inr (inl (e, f))) = (inr (inl f), sym (ap (λ (t : Top). t.number) f), sym (ap (λ (t : Top). t.unit) f))
long_is c (inr (inr (inl (e, f)))) = absurd (omega (arith, e))
long_is c (inr (inr (inr n))) = absurd n

at_second : (xs : List Top) → 1 < length xs → (x : Top) × Nth 0 xs 1 x
at_second [] low = absurd (omega (arith, low))
at_second (y ∷ []) low = absurd (omega (arith, low))
at_second (y ∷ (x ∷ xs)) low = (x, inr (inl (refl, refl)))

three_tops : length (tops_of (together r)) ≡ 3
unfolding come
three_tops = refl

-- in looks
first_look : (c : Top) → Nth 0 (tops_of (look_units r)) 0 c → In c (tops_of (look_units r)) × (c.number ≡ 0)
unfolding come then_entries all_below all_attrs
first_look c (inl (e, f)) = (inl f, sym (ap (λ (t : Top). t.number) f))
first_look c (inr (inl (e, f))) = absurd (omega (arith, e))
first_look c (inr (inr (inl (e, f)))) = absurd (omega (arith, e))
first_look c (inr (inr (inr n))) = absurd n

second_look : (c : Top) → Nth 0 (tops_of (look_units r)) 1 c → In c (tops_of (look_units r)) × (c.number ≡ 1)
unfolding come then_entries all_below all_attrs
second_look c (inl (e, f)) = absurd (omega (arith, e))
second_look c (inr (inl (e, f))) = (inr (inl f), sym (ap (λ (t : Top). t.number) f))
second_look c (inr (inr (inl (e, f)))) = absurd (omega (arith, e))
second_look c (inr (inr (inr n))) = absurd n

at_first : (xs : List Top) → 1 < length xs → (x : Top) × Nth 0 xs 0 x
at_first [] low = absurd (omega (arith, low))
at_first (x ∷ xs) low = (x, inl (refl, refl))

three_looks : length (tops_of (look_units r)) ≡ 3
unfolding come then_entries all_below all_attrs
three_looks = refl

test_is : alike_test Together (look_units r) 0 1 ≡ false
unfolding come then_entries all_below all_attrs
test_is = refl

unlike : Alike (look_units r) 0 1 → ⊥
unlike h =
    let a = at_first (tops_of (look_units r)) (omega (arith, three_looks)) in
    let b = at_second (tops_of (look_units r)) (omega (arith, three_looks)) in
    let x = first_look a.0 a.1 in
    let y = second_look b.0 b.1 in
    let same = (alike_decides Together (look_units r)).decided a.0 b.0 x.0 y.0 tt
    (subst (λ (m : ℕ). Alike (look_units r) m b.0.number) (sym x.1) (subst (λ (n : ℕ). Alike (look_units r) 0 n) (sym y.1) h)) in
    let z : true ≡ false =
    sym same ∙ ap (λ (m : ℕ). alike_test Together (look_units r) m b.0.number) x.1 ∙ ap (λ (n : ℕ). alike_test Together (look_units r) 0 n) y.1
    ∙ test_is in
    absurd cc

cannot_take : CanTake r 0 0 → ⊥
cannot_take can =
    let c = at_second (tops_of (together r)) (omega (arith, three_tops)) in
    let is = long_is c.0 c.1 in
    let like = can.tops c.0 (is.0, omega (arith, is.2, one_unit)) in
    unlike
    (subst (λ (m : ℕ). Alike (look_units r) m 1) (own_is like.top like.there)
    (subst (λ (n : ℕ). Alike (look_units r) like.top.number n) is.1 like.alike.alike))

takes_first : CanTakeAlong r 0 0 0 → ⊥
unfolding CanTakeAlong
takes_first can = cannot_take can

takes_none : (u p : ℕ) → Takes r u p → ⊥
takes_none zero zero t = takes_first (t.fits 0)
takes_none zero (suc p) t = (let low = t.part in absurd (omega (arith, low, one_part)))
takes_none (suc u) p t = (let low = t.unit in absurd (omega (arith, low, one_unit)))

-- ---- that is what is said

none_said : (u p : ℕ) → In p (takes_of left_fixed u) → ⊥
none_said zero p h = h
none_said (suc zero) p h = h
none_said (suc (suc u)) p h = h

rising : (u : ℕ) → Rising (takes_of left_fixed u)
rising zero = tt
rising (suc zero) = tt
rising (suc (suc u)) = tt

none_taken : (t : Top) → IsTaken r t → ⊥
none_taken t x = takes_none t.unit x.1.part x.1.takes

image_none : (t : Top) (n : ℕ) → MatchOption (image_at left_fixed n) (IsTaken r t → ⊥) (IsImage r t)
image_none t zero = none_taken t
image_none t (suc zero) = none_taken t
image_none t (suc (suc zero)) = none_taken t
image_none t (suc (suc (suc n))) = none_taken t

none_flagged : (n : ℕ) → is_blocked left_fixed n ≡ true → ⊥
none_flagged zero e = absurd cc
none_flagged (suc zero) e = absurd cc
none_flagged (suc (suc zero)) e = absurd cc
none_flagged (suc (suc (suc n))) e = absurd cc

none_blocked : (k n : ℕ) → Blocked r k n → ⊥
unfolding Blocked
none_blocked zero n s = none_taken s.one s.taken
none_blocked (suc k) n (inl b) = none_blocked k n b
none_blocked (suc k) n (inr (t, m, there, number, refers, b)) = none_blocked k m b

two_lists : length left_fixed.takes ≡ length (together r)
unfolding come
two_lists = refl

fixed_is : IsFixed r left_fixed
fixed_is = record {
  units = two_lists;
  takes = λ u p. (λ h. absurd (none_said u p h), λ t. absurd (takes_none u p t));
  rising = rising;
  tops = sym three_tops;
  images = λ t there. image_none t t.number;
  flags = sym three_tops;
  blocked = λ t there. (λ e. absurd (none_flagged t.number e), λ x. absurd (none_blocked x.0 t.number x.1));
}

-- ---- the files

abbrev both_units : List RawUnit
both_units = units_read (file_meaning_by (rule_of_common 1) no_files_before both_file)

both_reads : file_meaning_by (rule_of_common 1) no_files_before both_file ≡ Ok (both_units, over_both.common)
unfolding said common_sup_fault read_sup compress digest_bytes first_words hash_after rounds schedule sha256
both_reads = refl

three_reads : files_meaning (limits_after no_files_before both_file both_units) 0 (three_file ∷ []) ≡ Ok (three_doc ∷ [])
unfolding said common_sup_fault read_sup compress digest_bytes first_words hash_after rounds schedule sha256
three_reads = refl

abbrev over : OverFiles
over = left both_units

left_over : AreOverFiles over
left_over = record {
  common = ((file_agrees_by (rule_of_common 1) no_files_before both_file).ok (both_units, over_both.common)).0 both_reads;
  files = ((files_agree (limits_after no_files_before both_file both_units) 0 (three_file ∷ [])).ok (three_doc ∷ [])).0 three_reads;
  prunable = (((λ e. (prunable_decided three_file three_doc.units).0 prunable), (λ p. refl)), tt);
  taken = record { roots = refl; lists = fixed_is };
}

-- ---- nothing is put

abbrev run : Run
run = run_over over

stays : changes run.move run.units 0 ≡ false
unfolding come then_entries all_below all_attrs row_map common_parts
stays = refl

files_are : run.files ≡ 0 ∷ []
unfolding come
files_are = refl

-- only a file that changes is refused
sections_sound : (f : Fault) → SectionsFaultBy (stands over) run 0 f → ⊥
sections_sound f h = (let z : false ≡ true = sym stays ∙ h.0 in absurd cc)

file_sound : (f : Fault) → FileFaultBy (stands over) (sup_name options) run 0 f → ⊥
file_sound f h = (let z : false ≡ true = sym stays ∙ h.0 in absurd cc)

free : (q : Refusal) → OutFaultBy (stands over) (sup_name options) run q → ⊥
free q (inl n) = n
free q (inr (none, inl x)) =
    one_file (SectionsFaultBy (stands over) run) sections_sound q
    (subst (λ (files : List ℕ). OfFirst (InFile (SectionsFaultBy (stands over) run)) files q) files_are x)
free q (inr (none, inr (neither, x))) =
    one_file (FileFaultBy (stands over) (sup_name options) run) file_sound q
    (subst (λ (files : List ℕ). OfFirst (InFile (FileFaultBy (stands over) (sup_name options) run)) files q) files_are x)

abbrev out : Output
out = record { puts = []; said = Slimmed (record { common = None; files = (codes "three", 424, None) ∷ [] }) 1; differs = false; partly = false }

output_is : output_over options over ≡ out
unfolding come then_entries all_below all_attrs row_map common_parts
output_is = refl

left_comes : Comes asked (both_file ∷ three_file ∷ []) (writes out)
unfolding come
left_comes = (over, (refl, refl), record { read = left_over; free = free }, sym output_is)
