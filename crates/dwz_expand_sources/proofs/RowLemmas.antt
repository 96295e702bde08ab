-- What rows say, unit by unit.
use Rattle.std.proofs.Common.{◌≡◌, ℕ, ◌+◌, ◌^◌, ◌<◌, ◌≤◌, Bool, true, false, List, [], length, get_or, replicate, take, slice_get, refl, sym, ap, subst, ◌∙◌, arith}
use Rattle.std.proofs.lemmas.List.{get_or-map, get_or-replicate, length-map, length-replicate}
use Rattle.dwz_def_encoding.specs.Placing.{has_key}
use Rattle.dwz_imports.specs.Imports.{same}
use Rattle.dwz_expand_sources.specs.declared.sources.NewUnit.{NewUnit}
use Rattle.dwz_expand_sources.specs.Numbers.{ranges_count, root_numbers}
use Rattle.dwz_expand_sources.specs.Sources.{Sources, ranges_of}
use Rattle.dwz_expand_sources.specs.Copies.{IsCopyNumber}
use Rattle.dwz_expand_sources.specs.Rows.{AreAtHand, AreCopies, AreFirstFrom, Copies, HaveEntries, IsBlank, NameCopies, NotesUnit, copy_at, entry_lists, noted, unit_entries}
use Rattle.dwz_expand_sources.specs.declared.copies.CopyAt.{CopyAt}
use Rattle.dwz_expand_sources.proofs.ForLemmas.{has_below}
use Rattle.dwz_expand_sources.proofs.NotedLemmas.{noted_long, noted_other, noted_own}
use Rattle.dwz_expand_sources.proofs.StartLemmas.{many, roots_long, starts_at}

pub starts_long : (count : ℕ) (s : Sources) (starts : List ℕ) → HaveEntries count s starts → length starts ≡ length s.units
starts_long count s starts have = ap (λ (w : List ℕ). length w) have.numbers ∙ roots_long s.ranges 0 s.units

pub few_entries : (count : ℕ) (s : Sources) (starts : List ℕ) (n : ℕ) (d : NewUnit) → HaveEntries count s starts → n < length s.units
    → get_or starts n 0 + 1 + ranges_count (ranges_of s.ranges (get_or s.units n d)) < 2 ^ 64
few_entries count s starts n d have lt =
    let e : get_or starts n 0 ≡ get_or (root_numbers s.ranges 0 s.units) n 0 = ap (λ (w : List ℕ). get_or w n 0) have.numbers in
    let room = (starts_at s.ranges 0 s.units n d lt).room in
    let few = have.few in
    omega arith

pub notes_unit : (s : Sources) (starts : List ℕ) (n : ℕ) (d : NewUnit) (old new : List CopyAt) → HaveEntries (length old) s starts → n < length s.units
    → new ≡ noted n (get_or starts n 0) (unit_entries s.ranges (get_or s.units n d)) old → NotesUnit (entry_lists s) n old new
notes_unit s starts n d old new have lt e = record {
  len = ap (λ (w : List CopyAt). length w) e ∙ noted_long n number list old;
  own = own;
  others = λ i c h. ap (λ (w : List CopyAt). get_or w i c) e ∙ noted_other n number list old i c (sym (ap (λ (w : List ℕ). has_key same i w) at) ∙ h);
} where
  number : ℕ
  number = get_or starts n 0

  list : List ℕ
  list = unit_entries s.ranges (get_or s.units n d)

  at : get_or (entry_lists s) n [] ≡ list
  at = get_or-map (unit_entries s.ranges) s.units n d [] lt

  start : number ≡ many (take n (entry_lists s))
  start = (let e = ap (λ (w : List ℕ). get_or w n 0) have.numbers in let f = (starts_at s.ranges 0 s.units n d lt).start in omega arith)

  own : (i : ℕ) (c : CopyAt) → i < length old → has_key same i (get_or (entry_lists s) n []) ≡ true
      → ((get_or new i c).unit ≡ n) × IsCopyNumber (entry_lists s) n i (get_or new i c).number
  own i c low h =
      let r = noted_own n number list old i c low (sym (ap (λ (w : List ℕ). has_key same i w) at) ∙ h) in
      let is = ap (λ (w : List CopyAt). get_or w i c) e ∙ r.is in (
        ap (λ (x : CopyAt). x.unit) is,
        record {
          before = r.before;
          counts = ap (λ (x : CopyAt). x.number) is ∙ ap (λ (k : ℕ). k + r.before) start;
          stands = ap (λ (w : List ℕ). slice_get w r.before) at ∙ r.stands;
        },
      )

module _ (units : List (List ℕ)) (n : ℕ) (old new : List CopyAt) (notes : NotesUnit units n old new) where
  low_in : (i : ℕ) → i < length new → i < length old
  low_in i lt = let len = notes.len in omega arith

  pub still_name : NameCopies units old → NameCopies units new
  still_name name i d lt inside = by (has_key same i (get_or units n [])) refl where
    by : (t : Bool) → has_key same i (get_or units n []) ≡ t → IsCopyNumber units (get_or new i d).unit i (get_or new i d).number
    by true h =
        let r = notes.own i d (low_in i lt) h in
        subst (λ (m : ℕ). IsCopyNumber units m i (get_or new i d).number) (sym r.0) r.1
    by false h =
        let e = notes.others i d h in
        subst (λ (c : CopyAt). IsCopyNumber units c.unit i c.number) (sym e)
        (name i d (low_in i lt) (subst (λ (c : CopyAt). c.unit < length units) e inside))

  pub first_more : AreFirstFrom (n + 1) units old → AreFirstFrom n units new
  first_more least i m d lt le has = by (has_key same i (get_or units n [])) refl where
    by : (t : Bool) → has_key same i (get_or units n []) ≡ t → (get_or new i d).unit ≤ m
    by true h = let r = (notes.own i d (low_in i lt) h).0 in omega arith
    by false h =
        let other : m ≡ n → ⊥ = λ (e : m ≡ n). (let at = ap (λ (k : ℕ). has_key same i (get_or units k [])) e in absurd cc) in
        subst (λ (c : CopyAt). c.unit ≤ m) (sym (notes.others i d h)) (least i m d (low_in i lt) (omega (arith, other)) has)

  pub now_at_hand : AreAtHand n units new
  now_at_hand i d lt has = (notes.own i d (low_in i lt) has).0

-- ---- at the start

module _ (s : Sources) (row : List CopyAt) where
  lists_long : length (entry_lists s) ≡ length s.units
  lists_long = length-map s.units (unit_entries s.ranges)

  pub blank_copies : (count number : ℕ) → row ≡ replicate count (copy_at (length s.units) number) → IsBlank (length s.units) row
  blank_copies count number e i d lt =
      let x = copy_at (length s.units) number in
      let long : length row ≡ count = ap (λ (w : List CopyAt). length w) e ∙ length-replicate count x in
      let at : get_or row i d ≡ x = ap (λ (w : List CopyAt). get_or w i d) e ∙ get_or-replicate count i x d (omega arith) in
      ap (λ (c : CopyAt). c.unit) at

  pub blank_name : IsBlank (length s.units) row → NameCopies (entry_lists s) row
  blank_name blank i d lt inside = absurd (let at = blank i d lt in let long = lists_long in omega arith)

  -- no unit from there on has an entry
  pub blank_first : (n : ℕ) → n ≡ length s.units → AreFirstFrom n (entry_lists s) row
  blank_first n e i m d lt le has = absurd (let there = has_below (entry_lists s) m i has in let long = lists_long in omega arith)

  pub blank_hand : AreAtHand (length s.units) (entry_lists s) row
  blank_hand i d lt has = absurd (let there = has_below (entry_lists s) (length s.units) i has in let long = lists_long in omega arith)

pub first_next : (units : List (List ℕ)) (m n : ℕ) (old new : List CopyAt) → m ≡ n + 1 → AreFirstFrom m units old → NotesUnit units n old new → AreFirstFrom n units new
first_next units m n old new e least notes = first_more units n old new notes (subst (λ (k : ℕ). AreFirstFrom k units old) e least)

pub of_length : (m n : ℕ) (s : Sources) (starts : List ℕ) → n ≡ m → HaveEntries m s starts → HaveEntries n s starts
of_length m n s starts e have = subst (λ (k : ℕ). HaveEntries k s starts) (sym e) have

-- another unit is at hand
pub entered : (s : Sources) (starts : List ℕ) (c : Copies) (n : ℕ) (here : List CopyAt) → AreCopies s starts c → NotesUnit (entry_lists s) n c.here here
    → AreCopies s starts (record { units = c.units; first = c.first; here = here; unit = n })
entered s starts c n here copies notes = record {
  entries = copies.entries;
  units = copies.units;
  len = notes.len ∙ copies.len;
  first = copies.first;
  least = copies.least;
  here = still_name (entry_lists s) n c.here here notes copies.here;
  at_hand = now_at_hand (entry_lists s) n c.here here notes;
}

-- no unit is at hand yet
pub made : (s : Sources) (starts : List ℕ) (units count number : ℕ) (first here : List CopyAt) → units ≡ length s.units → HaveEntries count s starts → length first ≡ count
    → NameCopies (entry_lists s) first → AreFirstFrom 0 (entry_lists s) first → here ≡ replicate count (copy_at (length s.units) number)
    → AreCopies s starts (record { units = units; first = first; here = here; unit = units })
made s starts units count number first here e have len name least is =
    subst (λ (n : ℕ). AreCopies s starts (record { units = n; first = first; here = here; unit = n })) (sym e) (record {
      entries = of_length count (length first) s starts len have;
      units = refl;
      len = ap (λ (w : List CopyAt). length w) is ∙ length-replicate count (copy_at (length s.units) number) ∙ sym len;
      first = name;
      least = least;
      here = blank_name s here (blank_copies s here count number is);
      at_hand = blank_hand s here;
    })
