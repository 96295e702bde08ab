-- A row that is read is read the same wherever it stands, and whatever is behind it; and so are many.
use Rattle.std.proofs.Common.{◌≡◌, ℕ, zero, suc, ◌+◌, ◌-◌, ◌≤◌, Bool, true, false, cond, List, [], ◌∷◌, ◌++◌, length, drop, map, replicate, set, take, eqb, Decides, Option, Some, None, Result, Ok, Err, refl, sym, ap, subst, ◌∙◌}
use Rattle.std.proofs.Common.{append_assoc, arith, slice_get}
use Rattle.std.proofs.lemmas.List.{drop-append-le, drop-drop, length-append, length-drop, take-append-drop}
use Rattle.std.proofs.lemmas.Bool.Decides.{Decides-and, Decides-eqb}
use Rattle.dwz_model.specs.declared.fault.Fault.{Fault}
use Rattle.dwz_model.specs.declared.place.Pair.{Pair}
use Rattle.std.specs.Prelude.{◌&&◌, IfSome}
use Rattle.dwz_bytes.specs.Input.{Input, input, past}
use Rattle.dwz_bytes.specs.declared.error.ByteErr.{ByteErr}
use Rattle.dwz_bytes.specs.Reading.{fixed_at, uleb_at}
use Rattle.dwz_bytes.proofs.LebLemmas.{drop-front}
use Rattle.dwz_def_reading.specs.Forms.{form_rows}
use Rattle.dwz_def_reading.specs.LineTables.{TextSections, format_of, header_length, is_format, line_length, names_strs}
use Rattle.dwz_def_reading.specs.Values.{Raw, shape_of, value_at}
use Rattle.dwz_def_reading.proofs.ReadLemmas.{Reads, fixed_reads, uleb_reads}
use Rattle.dwz_def_reading.proofs.ValueLemmas.{shape_laws}
use Rattle.dwz_lines.specs.declared.formats.Format.{Format}
use Rattle.dwz_lines.specs.Headers.{AreTables}
use Rattle.dwz_lines.specs.Known.{IsFurther, IsPart, Skips, Spans}
use Rattle.dwz_lines.specs.Marks.{Stands, nth_in}
use Rattle.dwz_lines.specs.Reading.{Dirs, Seen, after_one, behind, bind, dirs_behind, dirs_in, dirs_of, format_in, formats_in, path_of, row_in, row_of, rows_in, seen, seen_with, sure, taken, times_in}
use Rattle.dwz_lines.specs.Reading.{values_in, with_one}
use Rattle.dwz_lines.proofs.MarkLemmas.{nth_more}

-- ---- one

-- what is read stands in the bytes at the front
pub record IsLocal {X : Type 0} (item : Input → Option (X × Input)) (i j : Input) (x : X) : Type 0 where
  pub front : List ℕ
  pub parts : i.rest ≡ front ++ j.rest
  pub place : j.at ≡ i.at + length front
  pub again : (at : ℕ) (rest : List ℕ) → item (record { at = at; rest = front ++ rest }) ≡ Some (x, record { at = at + length front; rest = rest })

abbrev pub AreLocal : {X : Type 0} → (Input → Option (X × Input)) → Type 0
AreLocal {X} item = (i j : Input) (x : X) → item i ≡ Some (x, j) → IsLocal item i j x

some_same : {X : Type 0} (a b : X) → Some a ≡ Some b → a ≡ b
some_same a b e = cc

-- one read behind another
pub local_then : {X Y : Type 0} (first : Input → Option (X × Input)) (second : X → Input → Option (Y × Input)) → AreLocal first → ((x : X) → AreLocal (second x))
    → AreLocal (λ i. bind (first i) (λ x. second x.0 x.1))
local_then {X} {Y} first second one other i k y is = by (first i) refl is where
  by : (o : Option (X × Input)) → first i ≡ o → bind o (λ x. second x.0 x.1) ≡ Some (y, k) → IsLocal (λ i. bind (first i) (λ x. second x.0 x.1)) i k y
  by None was e = absurd cc
  by (Some x) was e =
      let a = one i x.1 x.0 was in
      let b = other x.0 x.1 k y e in
      record {
        front = a.front ++ b.front;
        parts = a.parts ∙ ap (λ (w : List ℕ). a.front ++ w) b.parts ∙ sym (append_assoc a.front b.front k.rest);
        place = let len = length-append a.front b.front in omega (arith, a.place, b.place, len);
        again = λ at rest. (let len = length-append a.front b.front in
            let end : at + length a.front + length b.front ≡ at + length (a.front ++ b.front) = omega (arith, len) in
            ap (λ (w : List ℕ). bind (first (record { at = at; rest = w })) (λ x. second x.0 x.1)) (append_assoc a.front b.front rest)
            ∙ ap (λ (o : Option (X × Input)). bind o (λ x. second x.0 x.1)) (a.again at (b.front ++ rest))
            ∙ b.again (at + length a.front) rest
            ∙ ap (λ (n : ℕ). Some (y, record { at = n; rest = rest })) end);
      }

value_sure : (r : Result (Raw × Input) Fault) (x : Raw × Input) → sure r ≡ Some x → r ≡ Ok x
value_sure (Ok y) x e = let same : y ≡ x = cc in ap (λ (w : Raw × Input). Ok w) same
value_sure (Err f) x e = absurd cc

pub value_local : (pair : Pair) → AreLocal (λ i. sure (value_at form_rows pair i))
value_local pair i j x is =
    let laws = shape_laws (shape_of form_rows pair.form) pair in
    let found = laws.found i j x (value_sure (value_at form_rows pair i) (x, j) is) in
    record {
      front = found.front;
      parts = found.parts;
      place = found.place;
      again = λ at rest. ap (λ (r : Result (Raw × Input) Fault). sure r) (laws.again at x found.front rest found.spelled);
    }

-- what takes no bytes
pub still_local : {X : Type 0} (o : Option X) → AreLocal (λ i. bind o (behind i))
still_local {X} o i j x is = by o refl is where
  by : (p : Option X) → o ≡ p → bind p (behind i) ≡ Some (x, j) → IsLocal (λ i. bind o (behind i)) i j x
  by None was e = absurd cc
  by (Some y) was e =
      let same = some_same (y, i) (x, j) e in
      let value : y ≡ x = ap (λ (w : X × Input). w.0) same in
      let input : i ≡ j = ap (λ (w : X × Input). w.1) same in
      record {
        front = [];
        parts = ap (λ (w : Input). w.rest) input;
        place = let at = ap (λ (w : Input). w.at) input in omega (arith, at);
        again = λ at rest. (let end : at ≡ at + 0 = omega arith in
            ap (λ (p : Option X). bind p (behind (record { at = at; rest = rest }))) (was ∙ ap (λ (w : X). Some w) value)
            ∙ ap (λ (n : ℕ). Some (x, record { at = n; rest = rest })) end);
      }

abbrev seen_behind : TextSections → ℕ → List Pair → Pair → Seen → Raw → Input → Option (Seen × Input)
seen_behind s dirs pairs pair t raw j = bind (seen_with s dirs pair raw t) (λ u. values_in s dirs pairs u j)

pub values_local : (s : TextSections) (dirs : ℕ) (pairs : List Pair) (t : Seen) → AreLocal (values_in s dirs pairs t)
unfolding values_in
values_local s dirs [] t = still_local (Some t)
values_local s dirs (pair ∷ pairs) t = local_then (λ i. sure (value_at form_rows pair i)) (seen_behind s dirs pairs pair t) (value_local pair) (rest (λ u. values_local s dirs pairs u)) where
  others : ((u : Seen) → AreLocal (values_in s dirs pairs u)) → (o : Option Seen) → AreLocal (λ j. bind o (λ u. values_in s dirs pairs u j))
  others those None i j x is = absurd cc
  others those (Some u) i j x is = those u i j x is

  rest : ((u : Seen) → AreLocal (values_in s dirs pairs u)) → (raw : Raw) → AreLocal (seen_behind s dirs pairs pair t raw)
  rest those raw = others those (seen_with s dirs pair raw t)

pub row_local : (s : TextSections) (dirs : ℕ) (pairs : List Pair) → AreLocal (row_in s dirs pairs)
unfolding row_in
row_local s dirs pairs = local_then (values_in s dirs pairs (seen None None)) (λ t j. bind (row_of t) (behind j)) (values_local s dirs pairs (seen None None)) (λ t. still_local (row_of t))

-- ---- many

module _ {X : Type 0} (item : Input → Option (X × Input)) where
  pub skips_none : (i : Input) → Skips item 0 i i
  unfolding times_in
  skips_none i = record { items = []; read = refl }

  pub skips_more : (n : ℕ) (i j k : Input) (x : X) → item i ≡ Some (x, j) → Skips item n j k → Skips item (suc n) i k
  unfolding times_in
  skips_more n i j k x is s = record {
    items = x ∷ s.items;
    read = ap (λ (o : Option (X × Input)). bind o (after_one (times_in item n))) is ∙ ap (λ (o : Option (List X × Input)). bind o (with_one x)) s.read;
  }

  abbrev First : ℕ → Input → Input → Type 0
  First n i k = (x : X × Input) × ((item i ≡ Some x) × Skips item n x.1 k)

  pub skips_back : (n : ℕ) (i k : Input) → Skips item (suc n) i k → First n i k
  unfolding times_in
  skips_back n i k s = by (item i) refl s.read where
    rest : (x : X × Input) → item i ≡ Some x → (o : Option (List X × Input)) → times_in item n x.1 ≡ o → bind o (with_one x.0) ≡ Some (s.items, k) → First n i k
    rest x was None is e = absurd cc
    rest x was (Some r) is e =
        let same = some_same (x.0 ∷ r.0, r.1) (s.items, k) e in
        let end : r.1 ≡ k = ap (λ (w : List X × Input). w.1) same in
        (x, (was, record { items = r.0; read = is ∙ ap (λ (j : Input). Some (r.0, j)) end }))

    by : (o : Option (X × Input)) → item i ≡ o → bind o (after_one (times_in item n)) ≡ Some (s.items, k) → First n i k
    by None was e = absurd cc
    by (Some x) was e = rest x was (times_in item n x.1) refl e

  pub skips_end : (i j : Input) → Skips item 0 i j → i ≡ j
  unfolding times_in
  skips_end i j s = ap (λ (w : List X × Input). w.1) (some_same ([], i) (s.items, j) s.read)

  pub skips_then : (n m : ℕ) (i j k : Input) → Skips item n i j → Skips item m j k → Skips item (n + m) i k
  skips_then zero m i j k a b =
      let same : m ≡ 0 + m = omega arith in
      subst (λ (c : ℕ). Skips item c i k) same (subst (λ (w : Input). Skips item m w k) (sym (skips_end i j a)) b)
  skips_then (suc n) m i j k a b =
      let f = skips_back n i j a in
      let same : suc (n + m) ≡ suc n + m = omega arith in
      subst (λ (c : ℕ). Skips item c i k) same (skips_more (n + m) i f.0.1 k f.0.0 f.1.0 (skips_then n m f.0.1 j k f.1.1 b))

  pub skips_stand : (n : ℕ) (i j : Input) → Skips item n i j → Stands item i n j
  skips_stand zero i j a k =
      let same : 0 + k ≡ k = omega arith in
      ap (λ (c : ℕ). nth_in item c i) same ∙ ap (λ (w : Input). nth_in item k w) (skips_end i j a)
  skips_stand (suc n) i j a k =
      let f = skips_back n i j a in
      let same : suc n + k ≡ suc (n + k) = omega arith in
      ap (λ (c : ℕ). nth_in item c i) same ∙ nth_more item (n + k) i (Some f.0) f.1.0 ∙ skips_stand n f.0.1 j f.1.1 k

  -- ---- at a place of a section

  pub spans_none : (line : List ℕ) (place : ℕ) → Spans item line place 0 0
  spans_none line place = record {
    front = [];
    len = refl;
    here = let same : place ≡ place + 0 = omega arith in ap (λ (n : ℕ). drop n line) same;
    read = λ at rest. (let same : at ≡ at + 0 = omega arith in
        subst (λ (n : ℕ). Skips item 0 (record { at = at; rest = rest }) (record { at = n; rest = rest })) same (skips_none (record { at = at; rest = rest })));
  }

  pub spans_then : (line : List ℕ) (place n m a b : ℕ) → Spans item line place n a → Spans item line (place + a) m b → Spans item line place (n + m) (a + b)
  spans_then line place n m a b one other = record {
    front = one.front ++ other.front;
    len = let len = length-append one.front other.front in omega (arith, len, one.len, other.len);
    here = let same : place + a + b ≡ place + (a + b) = omega arith in
        one.here
        ∙ ap (λ (w : List ℕ). one.front ++ w) (other.here ∙ ap (λ (n : ℕ). other.front ++ drop n line) same)
        ∙ sym (append_assoc one.front other.front (drop (place + (a + b)) line));
    read = λ at rest. (let same : at + a + b ≡ at + (a + b) = omega arith in
        let both = skips_then n m (record { at = at; rest = one.front ++ (other.front ++ rest) }) (record { at = at + a; rest = other.front ++ rest }) (record { at = at + a + b; rest = rest })
        (one.read at (other.front ++ rest)) (other.read (at + a) rest) in
        let last = subst (λ (k : ℕ). Skips item (n + m) (record { at = at; rest = one.front ++ (other.front ++ rest) }) (record { at = k; rest = rest })) same both in
        subst (λ (w : List ℕ). Skips item (n + m) (record { at = at; rest = w }) (record { at = at + (a + b); rest = rest })) (sym (append_assoc one.front other.front rest)) last);
  }

  pub spans_one : (line : List ℕ) (place bytes : ℕ) (x : X) (j : Input) → AreLocal item → item (record { at = place; rest = drop place line }) ≡ Some (x, j)
      → j.at ≡ place + bytes → Spans item line place 1 bytes
  spans_one line place bytes x j local is end =
      let l = local (record { at = place; rest = drop place line }) j x is in
      let len : length l.front ≡ bytes = let p = l.place in omega (arith, p, end) in
      let behind_it : drop (place + bytes) line ≡ j.rest =
      ap (λ (n : ℕ). drop (place + n) line) (sym len) ∙ sym (drop-drop (length l.front) place line) ∙ ap (λ (w : List ℕ). drop (length l.front) w) l.parts ∙ drop-front l.front j.rest in
      record {
        front = l.front;
        len = len;
        here = l.parts ∙ ap (λ (w : List ℕ). l.front ++ w) (sym behind_it);
        read = λ at rest. (let m = subst (λ (n : ℕ). item (record { at = at; rest = l.front ++ rest }) ≡ Some (x, record { at = at + n; rest = rest })) len (l.again at rest) in
            skips_more 0 (record { at = at; rest = l.front ++ rest }) (record { at = at + bytes; rest = rest }) (record { at = at + bytes; rest = rest }) x m (skips_none (record { at = at + bytes; rest = rest })));
      }

  pub spans_same : (line : List ℕ) (place n m a b : ℕ) → n ≡ m → a ≡ b → Spans item line place n a → Spans item line place m b
  spans_same line place n m a b rows bytes s = subst (λ (k : ℕ). Spans item line place m k) bytes (subst (λ (k : ℕ). Spans item line place k a) rows s)

  pub spans_step : (line : List ℕ) (place here n m a b rows bytes : ℕ) → here ≡ place + a → rows ≡ n + m → bytes ≡ a + b → Spans item line place n a → Spans item line here m b
      → Spans item line place rows bytes
  spans_step line place here n m a b rows bytes at both all one other =
      spans_same line place (n + m) rows (a + b) bytes (sym both) (sym all) (spans_then line place n m a b one (subst (λ (k : ℕ). Spans item line k m b) at other))

  -- two lists of the same bytes, of which the longer has the other at its front
  split_front : (front rest more tail : List ℕ) → rest ++ more ≡ front ++ tail → length front ≤ length rest → rest ≡ front ++ drop (length front) rest
  split_front [] rest more tail e le = refl
  split_front (b ∷ front) [] more tail e le = absurd (omega (arith, le))
  split_front (b ∷ front) (c ∷ rest) more tail e le =
      let head : c ≡ b = cc in
      let others : rest ++ more ≡ front ++ tail = cc in
      let fewer : length front ≤ length rest = omega (arith, le) in
      ap (λ (w : List ℕ). c ∷ w) (split_front front rest more tail others fewer) ∙ ap (λ (n : ℕ). n ∷ (front ++ drop (length front) rest)) head

  pub spans_read : (line : List ℕ) (start n bytes : ℕ) (i : Input) → IsPart line start i → Spans item line (start + i.at) n bytes → bytes ≤ length i.rest → Skips item n i (past bytes i)
  spans_read line start n bytes i part s le =
      let fits : length s.front ≤ length i.rest = let l = s.len in omega (arith, l, le) in
      let split = split_front s.front i.rest part.behind (drop (start + i.at + bytes) line) (sym part.parts ∙ s.here) fits in
      let same : i.rest ≡ s.front ++ drop bytes i.rest = split ∙ ap (λ (n : ℕ). s.front ++ drop n i.rest) s.len in
      subst (λ (w : List ℕ). Skips item n (record { at = i.at; rest = w }) (past bytes i)) (sym same) (s.read i.at (drop bytes i.rest))

pub part_past : (line : List ℕ) (start bytes : ℕ) (i : Input) → IsPart line start i → bytes ≤ length i.rest → IsPart line start (past bytes i)
part_past line start bytes i part le = record {
  behind = part.behind;
  parts = let same : start + (i.at + bytes) ≡ start + i.at + bytes = omega arith in
      ap (λ (n : ℕ). drop n line) same ∙ sym (drop-drop bytes (start + i.at) line) ∙ ap (λ (w : List ℕ). drop bytes w) part.parts ∙ drop-append-le bytes i.rest part.behind le;
}

-- ---- what holds of each of a list, by its number

pub set_each : {X : Type 0} (P : ℕ → X → Type 0) (xs : List X) (i : ℕ) (y : X) → ((k : ℕ) (x : X) → slice_get xs k ≡ Some x → P k x) → P i y
    → (k : ℕ) (x : X) → slice_get (set xs i y) k ≡ Some x → P k x
set_each P [] i y all is_so k x is = absurd cc
set_each P (z ∷ xs) zero y all is_so zero x is = let same : y ≡ x = cc in subst (λ w. P 0 w) same is_so
set_each P (z ∷ xs) zero y all is_so (suc k) x is = all (suc k) x is
set_each P (z ∷ xs) (suc i) y all is_so zero x is = all 0 x is
set_each P (z ∷ xs) (suc i) y all is_so (suc k) x is = set_each (λ m. P (suc m)) xs i y (λ m. all (suc m)) is_so k x is

pub same_each : {X : Type 0} (n : ℕ) (y : X) (k : ℕ) (x : X) → slice_get (replicate n y) k ≡ Some x → y ≡ x
same_each zero y k x is = absurd cc
same_each (suc n) y zero x is = cc
same_each (suc n) y (suc k) x is = same_each n y k x is

-- ---- further on in a table

pub further_is : (all : List ℕ) (bytes : ℕ) (i j : Input) → input all i.at ≡ i → j ≡ record { at = i.at + bytes; rest = drop (i.at + bytes) all } → bytes ≤ length all - i.at
    → (j ≡ past bytes i) × (bytes ≤ length i.rest)
further_is all bytes i j here is le =
    let rest : drop i.at all ≡ i.rest = ap (λ (w : Input). w.rest) here in
    let len = length-drop i.at all in
    let same = ap (λ (w : List ℕ). length w) rest in
    (is ∙ ap (λ (w : List ℕ). record { at = i.at + bytes; rest = w }) (sym (drop-drop bytes i.at all) ∙ ap (λ (w : List ℕ). drop bytes w) rest), omega (arith, le, len, same))

pub further_skips : {X : Type 0} (item : Input → Option (X × Input)) (line : List ℕ) (start n m bytes : ℕ) (i : Input) (o : Option Input) → IsFurther bytes i o → IsPart line start i
    → Spans item line (start + i.at) n bytes → n ≡ m → IfSome o (Skips item m i)
further_skips item line start n m bytes i None is part s same = tt
further_skips item line start n m bytes i (Some j) is part s same =
    let skips = subst (λ (k : ℕ). Skips item k i (past bytes i)) same (spans_read item line start n bytes i part s is.1) in
    subst (λ (w : Input). Skips item m i w) (sym is.0) skips

pub further_part : (line : List ℕ) (start bytes : ℕ) (i : Input) (o : Option Input) → IsFurther bytes i o → IsPart line start i → IfSome o (IsPart line start)
further_part line start bytes i None is part = tt
further_part line start bytes i (Some j) is part = subst (λ (w : Input). IsPart line start w) (sym is.0) (part_past line start bytes i part is.1)

-- ---- formats

format_same : (p q : Format) → p.content ≡ q.content → p.form ≡ q.form → p ≡ q
format_same p q content form = (λ i. record { content = content i; form = form i })

pub format_decides : (p q : Format) → Decides (eqb p.content q.content && eqb p.form q.form) (p ≡ q)
format_decides p q =
    let parts = Decides-and (eqb p.content q.content) (eqb p.form q.form) (Decides-eqb p.content q.content) (Decides-eqb p.form q.form) in
    (λ e. format_same p q (parts.0 e).0 (parts.0 e).1, λ e. parts.1 (ap (λ (r : Format). r.content) e, ap (λ (r : Format). r.form) e))

-- ---- what stands before the rows

number_sure : {X : Type 0} (r : Result (X × Input) ByteErr) (x : X × Input) → sure r ≡ Some x → r ≡ Ok x
number_sure {X} (Ok y) x e = let same : y ≡ x = cc in ap (λ (w : X × Input). Ok w) same
number_sure (Err f) x e = absurd cc

reads_local : {X : Type 0} {Spells : List ℕ → X → Type 0} {IsCut IsBig : List ℕ → Type 0} (read : Input → Result (X × Input) ByteErr) → Reads Spells IsCut IsBig read → AreLocal (λ i. sure (read i))
reads_local {X} read laws i j x is =
    let found = laws.found i j x (number_sure (read i) (x, j) is) in
    record {
      front = found.front;
      parts = found.parts;
      place = found.place;
      again = λ at rest. ap (λ (r : Result (X × Input) ByteErr). sure r) (laws.again at x found.front rest found.spelled);
    }

uleb_local : AreLocal (λ i. sure (uleb_at i))
uleb_local = reads_local uleb_at uleb_reads

byte_local : AreLocal (λ i. sure (fixed_at 1 i))
byte_local = reads_local (fixed_at 1) (fixed_reads 1)

times_local : {X : Type 0} (item : Input → Option (X × Input)) → AreLocal item → (n : ℕ) → AreLocal (times_in item n)
unfolding times_in
times_local item one zero = still_local (Some [])
times_local {X} item one (suc n) = local_then item (λ x j. bind (times_in item n j) (with_one x)) one (more (times_local item one n)) where
  more : AreLocal (times_in item n) → (x : X) → AreLocal (λ j. bind (times_in item n j) (with_one x))
  more others x = local_then (times_in item n) (λ xs j. Some (x ∷ xs, j)) others (λ xs. still_local (Some (x ∷ xs)))

taken_local : (pair : Pair) → AreLocal (taken pair)
taken_local pair = by (is_format pair) where
  by : (b : Bool) → AreLocal (λ (j : Input). cond b (Some (pair, j)) None)
  by true = still_local (Some pair)
  by false = λ i j x is. absurd cc

format_local : AreLocal format_in
format_local = local_then (λ i. sure (uleb_at i)) (λ a j. bind (sure (uleb_at j)) (λ m. taken (format_of a m.0) m.1)) uleb_local
    (λ a. local_then (λ i. sure (uleb_at i)) (λ b. taken (format_of a b)) uleb_local (λ b. taken_local (format_of a b)))

formats_local : AreLocal formats_in
unfolding formats_in
formats_local = local_then (λ i. sure (fixed_at 1 i)) (λ n. times_in format_in n) byte_local (times_local format_in format_local)

rows_local : (s : TextSections) (dirs : ℕ) (pairs : List Pair) (n : ℕ) → AreLocal (rows_in s dirs pairs n)
unfolding rows_in
rows_local s dirs pairs n = times_local (row_in s dirs pairs) (row_local s dirs pairs) n

dirs_local : (s : TextSections) → AreLocal (dirs_in s)
unfolding dirs_in
dirs_local s = local_then formats_in (λ pairs j. bind (sure (uleb_at j)) (dirs_behind s pairs)) formats_local counted where
  listed : (pairs : List Pair) (n : ℕ) → AreLocal (λ j. bind (rows_in s n pairs n j) (dirs_of pairs))
  listed pairs n = local_then (rows_in s n pairs n) (λ rows j. Some (record { paths = map path_of rows; strp = names_strs pairs }, j)) (rows_local s n pairs n)
      (λ rows. still_local (Some (record { paths = map path_of rows; strp = names_strs pairs })))

  counted : (pairs : List Pair) → AreLocal (λ j. bind (sure (uleb_at j)) (dirs_behind s pairs))
  counted pairs = local_then (λ i. sure (uleb_at i)) (λ n j. bind (rows_in s n pairs n j) (dirs_of pairs)) uleb_local (listed pairs)

-- ---- the parts of a table stand where it does

part_behind : {X : Type 0} (item : Input → Option (X × Input)) → AreLocal item → (line : List ℕ) (start : ℕ) (i j : Input) (x : X) → item i ≡ Some (x, j) → IsPart line start i → IsPart line start j
part_behind item local line start i j x is part =
    let l = local i j x is in
    let place : start + j.at ≡ start + i.at + length l.front = let p = l.place in omega (arith, p) in
    record {
      behind = part.behind;
      parts =
          ap (λ (n : ℕ). drop n line) place
          ∙ sym (drop-drop (length l.front) (start + i.at) line)
          ∙ ap (λ (w : List ℕ). drop (length l.front) w) (part.parts ∙ ap (λ (w : List ℕ). w ++ part.behind) l.parts ∙ append_assoc l.front j.rest part.behind)
          ∙ drop-front l.front (j.rest ++ part.behind);
    }

pub part_formats : (line : List ℕ) (start : ℕ) (i j : Input) (pairs : List Pair) → formats_in i ≡ Some (pairs, j) → IsPart line start i → IsPart line start j
part_formats = part_behind formats_in formats_local

pub part_count : (line : List ℕ) (start : ℕ) (i j : Input) (n : ℕ) → uleb_at i ≡ Ok (n, j) → IsPart line start i → IsPart line start j
part_count line start i j n is = part_behind (λ k. sure (uleb_at k)) uleb_local line start i j n (ap (λ (r : Result (ℕ × Input) ByteErr). sure r) is)

pub part_dirs : (s : TextSections) (line : List ℕ) (start : ℕ) (i j : Input) (d : Dirs) → dirs_in s i ≡ Some (d, j) → IsPart line start i → IsPart line start j
part_dirs s = part_behind (dirs_in s) (dirs_local s)

drop_both : (n : ℕ) (xs ys : List ℕ) → (w : List ℕ) × (drop n (xs ++ ys) ≡ drop n xs ++ w)
drop_both zero xs ys = (ys, refl)
drop_both (suc n) [] ys = (drop (suc n) ys, refl)
drop_both (suc n) (x ∷ xs) ys = drop_both n xs ys

pub part_tables : (line : List ℕ) (start : ℕ) (i : Input) → AreTables (drop start line) i → IsPart line start i
part_tables line start i tables =
    let bytes = drop start line in
    let unit = 4 + line_length bytes in
    let header = 12 + header_length bytes in
    let inside = take unit bytes in
    let front = take header inside in
    let behind = drop header inside ++ drop unit bytes in
    let whole : front ++ behind ≡ bytes =
    sym (append_assoc front (drop header inside) (drop unit bytes)) ∙ ap (λ (w : List ℕ). w ++ drop unit bytes) (take-append-drop header inside) ∙ take-append-drop unit bytes in
    let both = drop_both i.at front behind in
    let rest : i.rest ≡ drop i.at front = tables.rest ∙ ap (λ (n : ℕ). drop n front) (sym tables.begin) in
    record {
      behind = both.0;
      parts = sym (drop-drop i.at start line) ∙ ap (λ (w : List ℕ). drop i.at w) (sym whole) ∙ both.1 ∙ ap (λ (w : List ℕ). w ++ both.0) (sym rest);
    }
