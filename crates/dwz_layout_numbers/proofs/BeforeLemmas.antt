-- Texts and numbers of files counted entry by entry.
use Rattle.std.proofs.Common.{◌≡◌, ℕ, suc, ◌+◌, ◌*◌, ◌<◌, ◌≤◌, Bool, true, false, List, [], ◌∷◌, ◌++◌, cond, drop, get_or, length, map, Option, Some, slice_get, refl, sym, ap, ◌∙◌, arith, drop-cons}
use Rattle.std.specs.Prelude.{count_by}
use Rattle.std.specs.Option.{option_map, option_map_or}
use Rattle.std.proofs.lemmas.List.{append-nil, append_assoc, drop_all}
use Rattle.std.proofs.lemmas.Option.{get_or_from_slice_get, slice_get-map}
use Rattle.std.proofs.lemmas.List.Sums.{sum_by-cons}
use Rattle.dwz_def_reading.specs.Entries.{RawAttr}
use Rattle.dwz_def_reading.specs.Units.{RawUnit, entries_in}
use Rattle.dwz_model.specs.declared.place.Pair.{Pair}
use Rattle.dwz_unit.specs.Rows.{EntryRow, attr_count, rows_of}
use Rattle.dwz_unit.specs.Declarations.{AreOf, Declarations}
use Rattle.dwz_unit.specs.Known.{pairs_of}
use Rattle.dwz_unit.proofs.DeclarationLemmas.{pairs_by_number}
use Rattle.dwz_unit.proofs.RowsFound.{row_there, rows-length}
use Rattle.dwz_layout_numbers.specs.declared.firsts.CountsBefore.{CountsBefore}
use Rattle.dwz_layout_numbers.specs.declared.firsts.PairCounts.{PairCounts}
use Rattle.dwz_layout_numbers.specs.Befores.{befores_from, behind, counts_of, file_count, is_pair_file, is_pair_placed, text_count}
use Rattle.dwz_layout_numbers.proofs.OwnerSteps.{got}

-- ---- values have the names and forms that they are read with

count_map : {X Y : Type 0} (p : Y → Bool) (f : X → Y) (xs : List X) → count_by p (map f xs) ≡ count_by (λ x. p (f x)) xs
count_map p f [] = refl
count_map {X} {Y} p f (x ∷ xs) = sum_by-cons (λ (y : Y). cond (p y) 1 0) (f x) (map f xs) ∙ ap (λ (n : ℕ). cond (p (f x)) 1 0 + n) (count_map p f xs)
    ∙ sym (sum_by-cons (λ (y : X). cond (p (f y)) 1 0) x xs)

count_le : {X : Type 0} (p : X → Bool) (xs : List X) → count_by p xs ≤ length xs
count_le p [] = omega arith
count_le {X} p (x ∷ xs) =
    let e = sum_by-cons (λ (y : X). cond (p y) 1 0) x xs in
    let h = count_le p xs in
    go (p x) e h
  where
    go : (b : Bool) → count_by p (x ∷ xs) ≡ cond b 1 0 + count_by p xs → count_by p xs ≤ length xs → count_by p (x ∷ xs) ≤ suc (length xs)
    go true e h = omega (arith, e, h)
    go false e h = omega (arith, e, h)

-- ---- entry by entry

pub record Counted (raw : List RawUnit) (i : ℕ) (b : CountsBefore) (befores : List CountsBefore) : Type 0 where
  pub found : befores_from (record { texts = 0; files = 0 }) (rows_of raw) ≡ befores ++ befores_from b (drop i (rows_of raw))
  pub texts : b.texts ≤ i * 4294967295
  pub files : b.files ≤ i * 4294967295

pub counted_first : (raw : List RawUnit) → Counted raw 0 (record { texts = 0; files = 0 }) []
counted_first raw = record { found = refl; texts = omega arith; files = omega arith }

-- what the next entry has
pub record Next (raw : List RawUnit) (i : ℕ) (own : PairCounts) : Type 0 where
  pub row : EntryRow
  pub there : slice_get (rows_of raw) i ≡ Some row
  pub few : length row.entry.attrs < 4294967296
  pub texts : own.texts ≡ text_count row.entry.attrs
  pub files : own.files ≡ file_count row.entry.attrs

-- that is what its declaration has
pub next : (raw : List RawUnit) (i count n : ℕ) (d : Declarations) (counts : List PairCounts) (own : PairCounts) → i < entries_in raw → attr_count raw i ≡ count → count < 4294967296
    → AreOf (rows_of raw) d → slice_get d.numbers i ≡ Some n → counts ≡ map counts_of d.pairs → own ≡ get_or counts n own → Next raw i own
next raw i count n d counts own lt many few are number all is =
    let r = row_there raw i lt in
    let attrs = r.0.entry.attrs in
    let len : attr_count raw i ≡ length attrs = ap (λ o. option_map_or (λ (row : EntryRow). length row.entry.attrs) o 0) r.1 in
    let found : slice_get counts n ≡ Some (counts_of (pairs_of r.0.entry)) =
    ap (λ (w : List PairCounts). slice_get w n) all ∙ slice_get-map counts_of d.pairs n ∙ ap (λ (o : Option (List Pair)). option_map counts_of o) (pairs_by_number (rows_of raw) d are i n r.0 number r.1) in
    let here : own ≡ counts_of (pairs_of r.0.entry) = is ∙ get_or_from_slice_get counts n (counts_of (pairs_of r.0.entry)) own found in
    record {
      row = r.0;
      there = r.1;
      few = omega (arith, len, many, few);
      texts = ap (λ (w : PairCounts). w.texts) here ∙ count_map is_pair_placed (λ (a : RawAttr). a.pair) attrs;
      files = ap (λ (w : PairCounts). w.files) here ∙ count_map is_pair_file (λ (a : RawAttr). a.pair) attrs;
    }

pub texts_few : (raw : List RawUnit) (i : ℕ) (own : PairCounts) → Next raw i own → own.texts < 4294967296
texts_few raw i own n =
    let le = count_le (λ (a : RawAttr). is_pair_placed a.pair) n.row.entry.attrs in
    let few = n.few in
    let texts = n.texts in
    omega (arith, texts, le, few)

pub files_few : (raw : List RawUnit) (i : ℕ) (own : PairCounts) → Next raw i own → own.files < 4294967296
files_few raw i own n =
    let le = count_le (λ (a : RawAttr). is_pair_file a.pair) n.row.entry.attrs in
    let few = n.few in
    let files = n.files in
    omega (arith, files, le, few)

pub counted_next : (raw : List RawUnit) (i : ℕ) (b after : CountsBefore) (old new : List CountsBefore) (own : PairCounts) → i < entries_in raw → Counted raw i b old → Next raw i own
    → after ≡ record { texts = b.texts + own.texts; files = b.files + own.files } → new ≡ old ++ b ∷ [] → Counted raw (i + 1) after new
unfolding befores_from
counted_next raw i b after old new own lt c n sum new_is =
    let nt = n.texts in
    let nf = n.files in
    let is : after ≡ behind b n.row = sum ∙ (λ j. record { texts = b.texts + nt j; files = b.files + nf j }) in
    let rows = rows_of raw in
    let long = rows-length raw in
    let one : suc i ≡ i + 1 = omega arith in
    let left : drop i rows ≡ n.row ∷ drop (i + 1) rows = drop-cons rows i n.row (omega (arith, long, lt)) ∙ (λ j. got rows i n.row n.there j ∷ drop (one j) rows) in
    let few = n.few in
    let texts = count_le (λ (a : RawAttr). is_pair_placed a.pair) n.row.entry.attrs in
    let files = count_le (λ (a : RawAttr). is_pair_file a.pair) n.row.entry.attrs in
    let t = c.texts in
    let f = c.files in
    let at : after.texts ≡ b.texts + text_count n.row.entry.attrs = ap (λ (w : CountsBefore). w.texts) is in
    let af : after.files ≡ b.files + file_count n.row.entry.attrs = ap (λ (w : CountsBefore). w.files) is in
    record {
      found = c.found ∙ ap (λ (w : List EntryRow). old ++ befores_from b w) left ∙ sym (append_assoc old (b ∷ []) (befores_from (behind b n.row) (drop (i + 1) rows)))
          ∙ (λ j. sym new_is j ++ befores_from (sym is j) (drop (i + 1) rows));
      texts = omega (arith, at, texts, few, t);
      files = omega (arith, af, files, few, f);
    }

pub counted_end : (raw : List RawUnit) (i : ℕ) (b : CountsBefore) (befores : List CountsBefore) → Counted raw i b befores → entries_in raw ≤ i
    → befores ≡ befores_from (record { texts = 0; files = 0 }) (rows_of raw)
unfolding befores_from
counted_end raw i b befores c le =
    let long = rows-length raw in
    sym (c.found ∙ ap (λ (w : List EntryRow). befores ++ befores_from b w) (drop_all i (rows_of raw) (omega (arith, long, le))) ∙ append-nil befores)
