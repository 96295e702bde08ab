-- Names and forms that were read: parts of a row that stay as it grows, and where each begins.
use Rattle.std.proofs.Common.{◌≡◌, ℕ, ◌+◌, ◌-◌, ◌≤◌, List, [], ◌∷◌, ◌++◌, length, drop, take, Some, None, Ok, Err, Result, refl, sym, ap, subst, ◌∙◌, arith, inl, inr}
use Rattle.std.specs.Prelude.{slice_range}
use Rattle.std.specs.List.{slice_get}
use Rattle.std.proofs.Math.ListN.{drop_of_length-le}
use Rattle.std.proofs.lemmas.Bool.{cases_eq}
use Rattle.std.proofs.lemmas.List.{drop-append-le, drop-drop, drop-take, length-append, length-drop, length-take, length_push}
use Rattle.std.proofs.lemmas.List.Elements.{All-push, All-weaker}
use Rattle.std.proofs.lemmas.Option.{get_or_from_slice_get, slice_get_within}
use Rattle.dwz_model.specs.declared.place.Pair.{Pair}
use Rattle.dwz_bytes.specs.Input.{Input, input}
use Rattle.dwz_bytes.specs.declared.error.ByteErr.{ByteErr}
use Rattle.dwz_bytes.specs.Reading.{Gives, fixed_at, uleb_at}
use Rattle.dwz_bytes.specs.Spelling.{SpellsFixed, SpellsUleb}
use Rattle.dwz_bytes.proofs.LebLemmas.{drop-front}
use Rattle.dwz_def_reading.specs.Abbrevs.{Declaration, EndsPairs, IsDeclared, IsPair, declaration_at, pair_at, pair_item, pairs_at}
use Rattle.dwz_def_reading.specs.Faults.{bad_abbrev}
use Rattle.dwz_def_reading.proofs.AbbrevLemmas.{decl_laws, pair_laws}
use Rattle.dwz_def_reading.proofs.ListFacts.{get_last}
use Rattle.dwz_def_reading.proofs.ListLemmas.{Input_at, Takes, items_again, items_found}
use Rattle.dwz_def_reading.proofs.ReadLemmas.{fixed_reads, uleb_reads}
use Rattle.dwz_def_reading.proofs.TableLemmas.{pairs_end, pairs_more}
use Rattle.dwz_abbrev.specs.declared.pair_row.PairPart.{PairPart}
use Rattle.dwz_abbrev.specs.ReadParts.{ArePlaced, AreParts, IsIn, IsPart, IsPartAt}
use Rattle.dwz_abbrev.specs.Written.{Begins}
use Rattle.dwz_abbrev.proofs.PlaceLemmas.{slice_get_old}
use Rattle.dwz_abbrev.proofs.ReadLemmas.{begins_le, part_kept, part_last}

-- ---- places of a section

-- behind what is read from a place there is a place
taken_in : (section : List ℕ) (Spells : List ℕ → Type 0) (i j : Input) → Takes Spells i j → IsIn section i → IsIn section j
taken_in section Spells i j t is =
    let rest : j.rest ≡ drop j.at section =
    sym (drop-front t.front j.rest)
    ∙ ap (drop (length t.front)) (sym t.parts ∙ ap (λ (k : Input). k.rest) is.here)
    ∙ drop-drop (length t.front) i.at section
    ∙ ap (λ (at : ℕ). drop at section) (sym t.place) in
    let left : length i.rest ≡ length section - i.at = ap (λ (k : Input). length k.rest) is.here ∙ length-drop i.at section in
    record { here = ap (Input_at j.at) rest; within = omega (arith, t.place, is.within, left, ap length t.parts, length-append t.front j.rest) }

uleb_in : (section : List ℕ) (i j : Input) (n : ℕ) → uleb_at i ≡ Ok (n, j) → IsIn section i → IsIn section j
uleb_in section i j n read is =
    let t = uleb_reads.found i j n read in
    let taken : Takes (λ bytes. SpellsUleb bytes n) i j = record { front = t.front; spelled = t.spelled; parts = t.parts; place = t.place } in
    taken_in section (λ bytes. SpellsUleb bytes n) i j taken is

byte_in : (section : List ℕ) (i j : Input) (n : ℕ) → fixed_at 1 i ≡ Ok (n, j) → IsIn section i → IsIn section j
byte_in section i j n read is =
    let t = (fixed_reads 1).found i j n read in
    let taken : Takes (λ bytes. SpellsFixed 1 bytes n) i j = record { front = t.front; spelled = t.spelled; parts = t.parts; place = t.place } in
    taken_in section (λ bytes. SpellsFixed 1 bytes n) i j taken is

-- the same of a call, also where it failed
pub uleb_left : (section : List ℕ) (i j : Input) (r : Result ℕ ByteErr) → Gives (λ (n : ℕ). n) i j r (uleb_at i) → IsIn section i → IsIn section j
uleb_left section i j (Ok n) read is = uleb_in section i j n read is
uleb_left section i j (Err e) read is = subst (IsIn section) (sym read.1) is

pub byte_left : (section : List ℕ) (i j : Input) (r : Result ℕ ByteErr) → Gives (λ (n : ℕ). n) i j r (fixed_at 1 i) → IsIn section i → IsIn section j
byte_left section i j (Ok n) read is = byte_in section i j n read is
byte_left section i j (Err e) read is = subst (IsIn section) (sym read.1) is

pub decl_in : (section : List ℕ) (table : List Declaration) (i j : Input) (d : Declaration) → declaration_at table i ≡ Ok (Some d, j) → IsIn section i → IsIn section j
decl_in section table i j d read is = taken_in section (λ bytes. IsDeclared table bytes d) i j (decl_laws.found table i j d read) is

-- ---- pairs that are read one behind the other

-- from the place of each of these pairs on, it and those behind it are read, and then what follows the input
pub record ArePassed (section : List ℕ) (start : ℕ) (pairs : List Pair) (places : List ℕ) (i : Input) : Type 0 where
  pub as_many : length places ≡ length pairs
  pub here : IsIn section i
  pub each : (n place : ℕ) → slice_get places n ≡ Some place → pairs_at start (drop n pairs) i ≡ pairs_at start [] (input section place)

pub passed_none : (section : List ℕ) (start : ℕ) (i : Input) → IsIn section i → ArePassed section start [] [] i
passed_none section start i is = record { as_many = refl; here = is; each = λ n place is. absurd cc }

-- which declaration the pairs are of matters only where they aren't read
any_start : (start other : ℕ) (i j : Input) (pairs : List Pair) → pairs_at start [] i ≡ Ok (pairs, j) → pairs_at other [] i ≡ Ok (pairs, j)
any_start start other i j pairs read =
    let r = items_found IsPair EndsPairs (pair_item start) (bad_abbrev start) (pair_laws start) [] i j pairs read in
    let to = i.at + length r.taken.front in
    ap (λ (w : List ℕ). pairs_at other [] (Input_at i.at w)) r.taken.parts
    ∙ items_again IsPair EndsPairs (pair_item other) (bad_abbrev other) (pair_laws other) r.items [] i.at r.taken.front j.rest r.taken.spelled
    ∙ ap (λ (all : List Pair). Ok (all, Input_at to j.rest)) (sym r.joined)
    ∙ ap (λ (n : ℕ). Ok (pairs, Input_at n j.rest)) (sym r.taken.place)

module _ (section : List ℕ) (start : ℕ) (pairs : List Pair) (places : List ℕ) (i j : Input) (passed : ArePassed section start pairs places i) where
  -- where a pair begins at the input, the places of it and of those before it
  each_now : (n place : ℕ) → slice_get (places ++ i.at ∷ []) n ≡ Some place → pairs_at start (drop n pairs) i ≡ pairs_at start [] (input section place)
  each_now n place is = elim (cases_eq n (length places)) [
    | inl last ↦
        let at : i.at ≡ place = let found = sym (ap (slice_get (places ++ i.at ∷ [])) last ∙ get_last places i.at) ∙ is in cc in
        let none : drop n pairs ≡ [] = drop_of_length-le pairs (omega (arith, last, passed.as_many)) in
        ap (λ (ps : List Pair). pairs_at start ps i) none ∙ ap (pairs_at start []) (passed.here.here ∙ ap (input section) at)
    | inr before ↦ passed.each n place (sym (slice_get_old places i.at n before) ∙ is)
  ]

  pub passed_more : (p : Pair) → pair_at start i ≡ Ok (Some p, j) → ArePassed section start (pairs ++ p ∷ []) (places ++ i.at ∷ []) j
  passed_more p read = record {
    as_many = length_push places i.at ∙ ap (λ (n : ℕ). n + 1) passed.as_many ∙ sym (length_push pairs p);
    here = taken_in section (λ bytes. IsPair [] bytes p) i j ((pair_laws start).found [] i j p read) passed.here;
    each = λ n place is.
        let within = slice_get_within (places ++ i.at ∷ []) n place is in
        let le : n ≤ length pairs = omega (arith, within, length_push places i.at, passed.as_many) in
        ap (λ (ps : List Pair). pairs_at start ps j) (drop-append-le n pairs (p ∷ []) le) ∙ sym (pairs_more start (drop n pairs) i j p read).same ∙ each_now n place is;
  }

  pub passed_end : pair_at start i ≡ Ok (None, j) → ArePlaced section pairs places j.at
  passed_end read =
      let to = taken_in section EndsPairs i j ((pair_laws start).ended [] i j read) passed.here in
      record {
        as_many = passed.as_many;
        each = λ n place is. record {
          within = to.within;
          read = λ other. any_start start other (input section place) (input section j.at) (drop n pairs)
              (sym (passed.each n place is) ∙ pairs_end start (drop n pairs) i j read ∙ ap (λ (k : Input). Ok (drop n pairs, k)) to.here);
        };
      }

-- ---- parts of a row

range_kept : {X : Type 0} (old new : List X) (a b : ℕ) → Begins old new → a ≤ b → b ≤ length old → slice_range new a b ≡ slice_range old a b
range_kept old new a b begins le within =
    let end : a + (b - a) ≡ b = omega (arith, le) in
    subst (λ (e : ℕ). slice_range new a e ≡ slice_range old a e) end (part_kept old new a (b - a) begins (omega (arith, end, within)))

range_last : {X : Type 0} (xs : List X) (a b : ℕ) → a ≤ b → b ≡ length xs → slice_range xs a b ≡ drop a xs
range_last xs a b le is =
    let end : a + (b - a) ≡ b = omega (arith, le) in
    subst (λ (e : ℕ). slice_range xs a e ≡ drop a xs) end (part_last xs a (b - a) (end ∙ is))

range_behind : {X : Type 0} (xs : List X) (a n b : ℕ) → a + n ≤ b → slice_range xs (a + n) b ≡ drop n (slice_range xs a b)
range_behind xs a n b le =
    let count : n + (b - (a + n)) ≡ b - a = omega (arith, le) in
    ap (take (b - (a + n))) (sym (drop-drop n a xs)) ∙ sym (drop-take n (b - (a + n)) (drop a xs)) ∙ ap (λ (k : ℕ). drop n (take k (drop a xs))) count

part_stays : (section : List ℕ) (old new : List Pair) (places more : List ℕ) (p : PairPart) → Begins old new → Begins places more → length places ≡ length old → IsPart section old places p
    → IsPart section new more p
part_stays section old new places more p begins before many is =
    let same : slice_range new p.first p.end ≡ slice_range old p.first p.end = range_kept old new p.first p.end begins is.order is.within in
    let there : slice_range more p.first p.end ≡ slice_range places p.first p.end = range_kept places more p.first p.end before is.order (omega (arith, is.within, many)) in
    record { order = is.order; within = omega (arith, is.within, begins_le old new begins); placed = rw (same, there) is.placed }

-- as the row grows, what was read before stays
parts_stay : (section : List ℕ) (old new : List Pair) (places more : List ℕ) (parts : List PairPart) → Begins old new → Begins places more → length more ≡ length new
    → AreParts section old places parts → AreParts section new more parts
parts_stay section old new places more parts begins before many are = record {
  as_many = many;
  each = All-weaker (IsPart section old places) (IsPart section new more) (λ p is. part_stays section old new places more p begins before are.as_many is) parts are.each;
}

-- the part that was read last
part_read : (section : List ℕ) (row : List Pair) (places : List ℕ) (p : PairPart) → p.first ≤ p.end → p.end ≡ length row → length places ≡ length row
    → ArePlaced section (drop p.first row) (drop p.first places) p.behind → IsPart section row places p
part_read section row places p le is many placed = record {
  order = le;
  within = omega (arith, is);
  placed = rw (range_last row p.first p.end le is, range_last places p.first p.end le (is ∙ sym many)) placed;
}

module _ (section : List ℕ) (old new : List Pair) (places more : List ℕ) (parts : List PairPart) (behind : ℕ) (are : AreParts section old places parts)
    (begins : Begins old new) (before : Begins places more) (placed : ArePlaced section (drop (length old) new) (drop (length old) more) behind) where
  -- what was appended has as many places
  as_many : length more ≡ length new
  as_many = omega (arith, placed.as_many, length-drop (length old) new, length-drop (length old) more, begins_le old new begins, begins_le places more before, are.as_many)

  pub parts_grown : AreParts section new more parts
  parts_grown = parts_stay section old new places more parts begins before as_many are

  pub parts_added : (first end : ℕ) → first ≡ length old → end ≡ length new → AreParts section new more (parts ++ record { first = first; end = end; behind = behind } ∷ [])
  parts_added first end at to =
      let p : PairPart = record { first = first; end = end; behind = behind } in
      let is = part_read section new more p (omega (arith, at, to, begins_le old new begins)) to as_many (rw at placed) in
      record { as_many = as_many; each = All-push (IsPart section new more) parts p parts_grown.each is }

pub part_there : (section : List ℕ) (row : List Pair) (places : List ℕ) (parts : List PairPart) (n : ℕ) (p : PairPart) → AreParts section row places parts → slice_get parts n ≡ Some p
    → IsPart section row places p
part_there section row places parts n p are at = subst (IsPart section row places) (get_or_from_slice_get parts n p p at) (are.each n p (slice_get_within parts n p at))

-- the end of a part, from one of its pairs on
pub part_behind : (section : List ℕ) (row : List Pair) (places : List ℕ) (p : PairPart) (n place : ℕ) → IsPart section row places p → slice_get (slice_range places p.first p.end) n ≡ Some place
    → IsPartAt section row place (record { first = p.first + n; end = p.end; behind = p.behind })
part_behind section row places p n place is at =
    let le : p.first + n ≤ p.end = omega (arith, slice_get_within (slice_range places p.first p.end) n place at, length-take (p.end - p.first) (drop p.first places), is.order) in
    record { order = le; within = is.within; reads = rw (range_behind row p.first n p.end le) (is.placed.each n place at) }
