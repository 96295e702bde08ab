-- The file over the first common file is as it was read, and what is said to be taken is just what its unit takes.
use Rattle.std.proofs.Common.{Result, Ok, Err, ◌≡◌, ◌⊎◌, ◌∙◌, ℕ, zero, suc, ◌<◌, true, false, List, [], ◌∷◌, None, Some, MatchOption, arith, length, refl}
use Rattle.std.proofs.Common.{sym, ap, subst, inl, inr}
use Rattle.dwz_def_reading.specs.Units.{RawUnit}
use Rattle.dwz_def_reading.proofs.FileLemmas.{file_agrees_by, files_agree}
use Rattle.dwz_def_reading.specs.Fault.{Fault}
use Rattle.sha2.specs.Sha256.{compress, digest_bytes, first_words, hash_after, rounds, schedule, sha256}
use Rattle.dwz_def_reading.specs.Documents.{Doc}
use Rattle.dwz_def_reading.specs.Files.{file_meaning_by, files_meaning, limits_after, no_files_before}
use Rattle.dwz_def_reading.specs.Finished.{common_sup_fault, rule_of_common}
use Rattle.dwz_def_reading.specs.Places.{Place}
use Rattle.dwz_def_reading.specs.Supplementary.{read_sup}
use Rattle.dwz_def_reading.specs.Lists.{In, Nth, Rising}
use Rattle.dwz_def_tops.specs.Alike.{Together}
use Rattle.dwz_def_tops.specs.Deciding.{alike_test}
use Rattle.dwz_def_tops.specs.Spaces.{IsSpace, space_text}
use Rattle.dwz_def_tops.specs.Spots.{EntryName, FileUnit, Top, tops_of}
use Rattle.dwz_def_tops.proofs.AlikeLaws.{alike_decides}
use Rattle.dwz_def_readback.specs.PrunableTest.{is_prunable, tables_lack_strp}
use Rattle.dwz_def_readback.proofs.PrunableDecided.{prunable_decided}
use Rattle.dwz_def_taken.specs.Beside.{CommonAlike, Reused, all_attrs, all_below, look_units, own_tops, reused_beside, then_entries, together}
use Rattle.dwz_def_taken.specs.Takes.{Blocked, CanTake, CanTakeAlong, HasSpace, IsFixed, IsImage, IsTaken, PartRefers, Takes, image_at, is_blocked, is_of_unit, part_unit, takes_of, unit_goes_to}
use Rattle.dwz_def_over.specs.Over.{AreOverFiles}
use Rattle.dwz_test_definitions.proofs.Comes.{come, said}
use Rattle.dwz_test_over.proofs.Bytes.{common_file, three_file}
use Rattle.dwz_test_over.proofs.Beside.{over_common, three_doc}
use Rattle.dwz_test_over.proofs.Comes.{taken, taken_fixed}

abbrev r : Reused
r = reused_beside over_common

-- ---- the tops

one_unit : length r.units ≡ 1
unfolding come
one_unit = refl

one_part : length r.commons ≡ 1
unfolding come
one_part = refl

one_own : own_tops r ≡ 1
unfolding come
one_own = refl

-- the file's
first_is : (c : Top) → In c (tops_of r.units) → (c.number ≡ 0) × (c.unit ≡ 0)
unfolding come
first_is c (inl e) = (sym (ap (λ (t : Top). t.number) e), sym (ap (λ (t : Top). t.unit) e))
first_is c (inr n) = absurd n

one_first : (c d : Top) → In c (tops_of r.units) → In d (tops_of r.units) → c ≡ d
unfolding come
one_first c d (inl e) (inl f) = sym e ∙ f
one_first c d (inr n) h = absurd n
one_first c d h (inr n) = absurd n

-- and the common file's
all_are : (c : Top) → In c (tops_of (together r)) → In c (tops_of r.units) ⊎ ((c.number ≡ 1) × (c.unit ≡ 1))
unfolding come
all_are c (inl e) = inl (inl e)
all_are c (inr (inl e)) = inr (sym (ap (λ (t : Top). t.number) e), sym (ap (λ (t : Top). t.unit) e))
all_are c (inr (inr n)) = absurd n

second_is : (c : Top) → Nth 0 (tops_of (together r)) 1 c → In c (tops_of (together r)) × (c.number ≡ 1) × (c.unit ≡ 1)
unfolding come
second_is c (inl (e, f)) = absurd (omega (arith, e))
second_is c (inr (inl (e, f))) = (inr (inl f), sym (ap (λ (t : Top). t.number) f), sym (ap (λ (t : Top). t.unit) f))
second_is c (inr (inr n)) = absurd n

at_first : (xs : List Top) → 0 < length xs → (x : Top) × In x xs
at_first [] low = absurd (omega (arith, low))
at_first (x ∷ xs) low = (x, inl refl)

at_second : (xs : List Top) → 1 < length xs → (x : Top) × Nth 0 xs 1 x
at_second [] low = absurd (omega (arith, low))
at_second (y ∷ []) low = absurd (omega (arith, low))
at_second (y ∷ (x ∷ xs)) low = (x, inr (inl (refl, refl)))

two_tops : length (tops_of (together r)) ≡ 2
unfolding come
two_tops = refl

own : (c : Top) × In c (tops_of r.units)
own = at_first (tops_of r.units) (omega (arith, one_own))

common : (c : Top) × Nth 0 (tops_of (together r)) 1 c
common = at_second (tops_of (together r)) (omega (arith, two_tops))

-- they are alike
test_is : alike_test Together (look_units r) 0 1 ≡ true
unfolding come then_entries all_below all_attrs
test_is = refl

alike : (m n : ℕ) → m ≡ 0 → n ≡ 1 → CommonAlike r m n
alike m n e f =
    subst (λ (k : ℕ). CommonAlike r k n) (sym e) (subst (λ (k : ℕ). CommonAlike r 0 k) (sym f) (record {
      common = omega (arith, one_own);
      alike = (alike_decides Together (look_units r)).decides 0 1 test_is;
    }))

-- ---- what the unit takes

no_refs : (q : ℕ) → PartRefers r 0 q → ⊥
unfolding come
no_refs q (f, inl (e, is), goes) =
    let test = is_of_unit (tops_of (together r)) (part_unit r q) in
    let z : false ≡ true = ap (λ (g : FileUnit EntryName). unit_goes_to test g.unit) is ∙ goes in absurd cc
no_refs q (f, inr n, goes) = absurd n

no_space : (names : List (List ℕ)) → HasSpace r.commons 0 names → ⊥
unfolding come
no_space names (f, e, inl (i, is), space) =
    let s = subst (λ (g : FileUnit EntryName). IsSpace names e g.unit.below) (sym is) space in
    elim s.under [
      | inl (nil, de) ↦ (let z : None ≡ Some s.text = ap space_text de ∙ s.own in absurd cc)
      | inr (inl (text, others, has, are, rest)) ↦ (let z : None ≡ Some text = has in absurd cc)
      | inr (inr n) ↦ absurd n
    ]
no_space names (f, e, inr n, space) = absurd n

can_take : CanTake r 0 0
can_take = record {
  some = (let c = second_is common.0 common.1 in (common.0, (c.0, omega (arith, c.2, one_unit))));
  spaces = λ names h. absurd (no_space names h);
  tops = λ c h. elim (all_are c h.0) [
    | inl there ↦ (let is = first_is c there in let at = h.1 in absurd (omega (arith, is.1, at, one_unit)))
    | inr is ↦ (let o = first_is own.0 own.1 in record { top = own.0; there = own.1; unit_is = o.1; alike = alike own.0.number c.number o.0 is.0 })
  ];
}

along : (k : ℕ) → CanTakeAlong r k 0 0
unfolding CanTakeAlong
along zero = can_take
along (suc k) = (along k, λ q h. absurd (no_refs q h))

takes : Takes r 0 0
takes = record { unit = omega (arith, one_unit); part = omega (arith, one_part); fits = along }

-- ---- that is what is said

takes_to : (u p : ℕ) → In p (takes_of taken_fixed u) → Takes r u p
takes_to zero p (inl e) = subst (λ (n : ℕ). Takes r 0 n) e takes
takes_to zero p (inr n) = absurd n
takes_to (suc zero) p h = absurd h
takes_to (suc (suc u)) p h = absurd h

takes_from : (u p : ℕ) → u < 1 → p < 1 → In p (takes_of taken_fixed u)
takes_from zero zero a b = inl refl
takes_from zero (suc p) a b = absurd (omega (arith, b))
takes_from (suc u) p a b = absurd (omega (arith, a))

rising : (u : ℕ) → Rising (takes_of taken_fixed u)
rising zero = (tt, tt)
rising (suc zero) = tt
rising (suc (suc u)) = tt

image : (t : Top) → In t (tops_of r.units) → IsImage r t 1
image t there =
    let is = first_is t there in let c = second_is common.0 common.1 in
    record {
      top = common.0;
      taken = record {
        part = 0;
        takes = subst (λ (u : ℕ). Takes r u 0) (sym is.1) takes;
        in_part = (c.0, omega (arith, c.2, one_unit));
        alike = alike t.number common.0.number is.0 c.1;
      };
      number = c.1;
      least = λ d x. (let low = x.alike.common in omega (arith, low, one_own));
    }

images : (t : Top) → In t (tops_of (together r)) → MatchOption (image_at taken_fixed t.number) (IsTaken r t → ⊥) (IsImage r t)
images t there =
    elim (all_are t there) [
      | inl own_top ↦ subst (λ (n : ℕ). MatchOption (image_at taken_fixed n) (IsTaken r t → ⊥) (IsImage r t)) (sym (first_is t own_top).0) (image t own_top)
      | inr is ↦
          subst (λ (n : ℕ). MatchOption (image_at taken_fixed n) (IsTaken r t → ⊥) (IsImage r t)) (sym is.0)
          (λ (x : IsTaken r t). (let low = x.1.takes.unit in let at = is.1 in absurd (omega (arith, low, at, one_unit))))
    ]

none_flagged : (n : ℕ) → is_blocked taken_fixed n ≡ true → ⊥
none_flagged zero e = absurd cc
none_flagged (suc zero) e = absurd cc
none_flagged (suc (suc n)) e = absurd cc

none_blocked : (k n : ℕ) → Blocked r k n → ⊥
unfolding Blocked
none_blocked zero n s = s.left (subst (λ (c : Top). IsTaken r c) (one_first s.one s.other s.one_there s.other_there) s.taken)
none_blocked (suc k) n (inl b) = none_blocked k n b
none_blocked (suc k) n (inr (t, m, there, number, refers, b)) = none_blocked k m b

two_lists : length taken_fixed.takes ≡ length (together r)
unfolding come
two_lists = refl

fixed_is : IsFixed r taken_fixed
fixed_is = record {
  units = two_lists;
  takes = λ u p. (takes_to u p, λ t. (let a = t.unit in let b = t.part in takes_from u p (omega (arith, a, one_unit)) (omega (arith, b, one_part))));
  rising = rising;
  tops = sym two_tops;
  images = images;
  flags = sym two_tops;
  blocked = λ t there. (λ e. absurd (none_flagged t.number e), λ x. absurd (none_blocked x.0 t.number x.1));
}

-- ---- the files

pub prunable : is_prunable three_file three_doc.units ≡ true
unfolding come tables_lack_strp
prunable = refl

-- the units of the common file, as they are stored
abbrev pub units_read : Result (List RawUnit × Doc Place) Fault → List RawUnit
units_read (Ok x) = x.0
units_read (Err f) = []

abbrev pub common_units : List RawUnit
common_units = units_read (file_meaning_by (rule_of_common 1) no_files_before common_file)

common_reads : file_meaning_by (rule_of_common 1) no_files_before common_file ≡ Ok (common_units, over_common.common)
unfolding said common_sup_fault read_sup compress digest_bytes first_words hash_after rounds schedule sha256
common_reads = refl

three_reads : files_meaning (limits_after no_files_before common_file common_units) 0 (three_file ∷ []) ≡ Ok (three_doc ∷ [])
unfolding said common_sup_fault read_sup compress digest_bytes first_words hash_after rounds schedule sha256
three_reads = refl

-- it reads so
pub taken_over : AreOverFiles (taken common_units)
taken_over = record {
  common = ((file_agrees_by (rule_of_common 1) no_files_before common_file).ok (common_units, over_common.common)).0 common_reads;
  files = ((files_agree (limits_after no_files_before common_file common_units) 0 (three_file ∷ [])).ok (three_doc ∷ [])).0 three_reads;
  prunable = (((λ e. (prunable_decided three_file three_doc.units).0 prunable), (λ p. refl)), tt);
  taken = record { roots = refl; lists = fixed_is };
}
