-- Each entry of a unit is read again from its own place. And no spelling begins another, for all that is read from a place on.
use Rattle.std.proofs.Common.{◌≡◌, ℕ, ◌+◌, ◌-◌, Bool, true, false, List, ◌++◌, length, take, drop, Some, Result, Ok, Err, refl, sym, ap, subst, ◌∙◌, append_assoc, arith}
use Rattle.std.proofs.lemmas.List.{length-append}
use Rattle.dwz_model.specs.declared.fault.Fault.{Fault}
use Rattle.dwz_bytes.specs.Input.{Input}
use Rattle.dwz_bytes.proofs.FixedLemmas.{same_front}
use Rattle.dwz_bytes.proofs.LebLemmas.{drop-front}
use Rattle.dwz_def_reading.specs.Abbrevs.{Declaration, table_at}
use Rattle.dwz_def_reading.specs.Entries.{IsReadAgain, Mode, RawEntry, SpellsEntry, SpellsFront, UnitContext, front_at, root_position}
use Rattle.dwz_def_reading.specs.Parts.{AgainFrom, OneFrom}
use Rattle.dwz_def_reading.specs.Trees.{EachEntry, End, Entry, Forest, IfChildren, Position, SpellsForest, behind, first_below}
use Rattle.dwz_def_reading.specs.Units.{EachEntryOf, RawUnit, SpellsTree, behind_header, context_of, header_size, kind_of, unit_at, unit_size}
use Rattle.dwz_def_reading.proofs.EntryLemmas.{front_again, some_front}
use Rattle.dwz_def_reading.proofs.HeaderLemmas.{header_found, header_passed}
use Rattle.dwz_def_reading.proofs.PartLemmas.{same_input, same_value}
use Rattle.dwz_def_reading.proofs.TreeLemmas.{input_at}
use Rattle.dwz_def_reading.proofs.UnitLemmas.{unit_from, unit_parts}
use Rattle.dwz_def_reading.proofs.UnitTreeLemmas.{has, tree_found}

-- what is read again is spelled once
pub again_one : {X E : Type 0} (Spells : X → ℕ → List ℕ → Type 0) (read : Input → Result (X × Input) E) → AgainFrom Spells read → OneFrom Spells
again_one {X} {E} Spells read again at a b more others x y p q e =
    let left = again at x a more p in
    let right : read (input_at at (a ++ more)) ≡ Ok (y, input_at (at + length b) others) = ap (λ (w : List ℕ). read (input_at at w)) e ∙ again at y b others q in
    let to = same_input x y (input_at (at + length a) more) (input_at (at + length b) others) (read (input_at at (a ++ more))) left right in
    let len : length a ≡ length b = let place = ap (λ (k : Input). k.at) to in omega arith in
    (same_front a b more others len e, same_value x y (input_at (at + length a) more) (input_at (at + length b) others) (read (input_at at (a ++ more))) left right)

-- ---- entries among bytes that begin at base, of which front stands before

-- where something stands among bytes
pub record Among (base : ℕ) (whole : List ℕ) (start : ℕ) (bytes : List ℕ) : Type 0 where
  pub front : List ℕ
  pub rest : List ℕ
  pub place : start ≡ base + length front
  pub parts : whole ≡ front ++ (bytes ++ rest)

Among-first : (base start : ℕ) (whole bytes a b : List ℕ) → bytes ≡ a ++ b → Among base whole start bytes → Among base whole start a
Among-first base start whole bytes a b parts m = record {
  front = m.front;
  rest = b ++ m.rest;
  place = m.place;
  parts = m.parts ∙ ap (λ (w : List ℕ). m.front ++ (w ++ m.rest)) parts ∙ ap (λ (w : List ℕ). m.front ++ w) (append_assoc a b m.rest);
}

Among-second : (base start : ℕ) (whole bytes a b : List ℕ) → bytes ≡ a ++ b → Among base whole start bytes → Among base whole (start + length a) b
Among-second base start whole bytes a b parts m = record {
  front = m.front ++ a;
  rest = m.rest;
  place = omega (arith, m.place, length-append m.front a);
  parts =
      m.parts ∙ ap (λ (w : List ℕ). m.front ++ (w ++ m.rest)) parts ∙ ap (λ (w : List ℕ). m.front ++ w) (append_assoc a b m.rest)
      ∙ sym (append_assoc m.front a (b ++ m.rest));
}

entry_read : (c : UnitContext) (base : ℕ) (whole : List ℕ) (p : Position) (e : RawEntry) (start : ℕ) (bytes : List ℕ) → SpellsEntry c p e start bytes → Among base whole start bytes
    → IsReadAgain c base whole p e
entry_read c base whole p e start bytes is m =
    let some = some_front c p start (Some e) bytes is in
    let skip : e.at - base ≡ length m.front = omega (arith, is.place, m.place) in
    let cut : drop (e.at - base) whole ≡ bytes ++ m.rest = ap (λ (n : ℕ). drop n whole) skip ∙ ap (drop (length m.front)) m.parts ∙ drop-front m.front (bytes ++ m.rest) in
    let len : length whole ≡ length m.front + (length bytes + length m.rest) = omega (arith, ap length m.parts, length-append m.front (bytes ++ m.rest), length-append bytes m.rest) in
    record {
      from = omega (arith, is.place, m.place);
      to = omega (arith, is.place, m.place, len, some);
      behind = input_at (start + length bytes) m.rest;
      read =
          ap (λ (w : List ℕ). front_at c p (input_at e.at w)) cut
          ∙ ap (λ (n : ℕ). front_at c p (input_at n (bytes ++ m.rest))) is.place
          ∙ front_again c p start (Some e) bytes m.rest is;
    }

-- the children of an entry, if it has some
children_read : (flag : Bool) (c : UnitContext) (base : ℕ) (whole : List ℕ) (children : Forest RawEntry) (p : Position) (start : ℕ) (bytes : List ℕ)
    → IfChildren flag children (SpellsForest has (SpellsFront c) children p start bytes) bytes
    → (SpellsForest has (SpellsFront c) children p start bytes → EachEntry (IsReadAgain c base whole) p children) → EachEntry (IsReadAgain c base whole) p children
children_read true c base whole children p start bytes is each = each is
children_read false c base whole children p start bytes is each = subst (λ (f : Forest RawEntry). EachEntry (IsReadAgain c base whole) p f) (sym is.0) tt

list_read : (f : Forest RawEntry) (c : UnitContext) (base : ℕ) (whole : List ℕ) (p : Position) (start : ℕ) (bytes : List ℕ) → SpellsForest has (SpellsFront c) f p start bytes
    → Among base whole start bytes
    → EachEntry (IsReadAgain c base whole) p f
list_read End c base whole p start bytes is m = tt
list_read (Entry e children next) c base whole p start bytes is m =
    let a = is.first_bytes in
    let b = is.second_bytes in
    let d = is.third_bytes in
    let behind_first = Among-second base start whole bytes a (b ++ d) is.parts m in (
      entry_read c base whole p e start a is.first (Among-first base start whole bytes a (b ++ d) is.parts m),
      children_read e.children c base whole children (first_below p) (start + length a) b is.second
          (λ spelled. list_read children c base whole (first_below p) (start + length a) b spelled (Among-first base (start + length a) whole (b ++ d) b d refl behind_first)),
      list_read next c base whole (behind p children) (start + length a + length b) d is.third (Among-second base (start + length a) whole (b ++ d) b d refl behind_first),
    )

-- each entry of a tree
tree_read : (c : UnitContext) (before base : ℕ) (whole : List ℕ) (root : RawEntry) (below : Forest RawEntry) (start : ℕ) (bytes : List ℕ) → SpellsTree c before root below start bytes
    → Among base whole start bytes
    → IsReadAgain c base whole (root_position before) root × EachEntry (IsReadAgain c base whole) (first_below (root_position before)) below
tree_read c before base whole root below start bytes is m =
    let p = root_position before in
    let a = is.first_bytes in
    let b = is.second_bytes in (
      entry_read c base whole p root start a is.first (Among-first base start whole bytes a b is.parts m),
      children_read root.children c base whole below (first_below p) (start + length a) b is.second
          (λ spelled. list_read below c base whole (first_below p) (start + length a) b spelled (Among-second base start whole bytes a b is.parts m)),
    )

abbrev table_or : List Declaration → Result (List Declaration) Fault → List Declaration
table_or d (Ok table) = table
table_or d (Err f) = d

tables_same : (x y : List Declaration) (r : Result (List Declaration) Fault) → r ≡ Ok x → r ≡ Ok y → x ≡ y
tables_same x y r p q = ap (table_or x) (sym p ∙ q)

-- each entry of a unit is read again from its place among the unit's bytes
pub entry_reads : (abbrevs : List ℕ) (mode : Mode) (before : ℕ) (i j : Input) (u : RawUnit) (table : List Declaration) → unit_at abbrevs mode before i ≡ Ok (u, j)
    → table_at abbrevs u.table_offset ≡ Ok table
    → EachEntryOf (IsReadAgain (context_of i mode table) i.at (take (unit_size i.rest) i.rest)) before u
entry_reads abbrevs mode before i j u table e is_table =
    let s = unit_parts abbrevs mode before i u j e in
    let h = header_found mode i (header_passed mode i.rest s.header) in
    let bytes = take (unit_size i.rest) i.rest in
    let c = context_of i mode s.table in
    let t = tree_found c before (behind_header i) s.behind s.tree s.tree_is in
    let m : Among i.at bytes (i.at + header_size (kind_of i.rest)) t.bytes = record {
      front = h.header;
      rest = s.behind.rest;
      place = ap (λ (n : ℕ). i.at + n) (sym h.size);
      parts = h.is_unit ∙ h.parts ∙ ap (λ (w : List ℕ). h.header ++ w) t.takes.parts;
    } in
    let read = tree_read c before i.at bytes s.tree.0 s.tree.1 (i.at + header_size (kind_of i.rest)) t.bytes t.spelled m in
    let made : EachEntryOf (IsReadAgain c i.at bytes) before (unit_from i s.tree) = read in
    let of_unit : EachEntryOf (IsReadAgain c i.at bytes) before u = subst (λ (w : RawUnit). EachEntryOf (IsReadAgain c i.at bytes) before w) s.unit_is made in
    let same : s.table ≡ table = tables_same s.table table (table_at abbrevs u.table_offset) (ap (λ (w : RawUnit). table_at abbrevs w.table_offset) (sym s.unit_is) ∙ s.table_is) is_table in
    subst (λ (w : List Declaration). EachEntryOf (IsReadAgain (context_of i mode w) i.at bytes) before u) same of_unit
