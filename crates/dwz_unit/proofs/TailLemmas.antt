-- Where tables are added, the ends of the others stay.
use Rattle.std.proofs.Common.{◌≡◌, ℕ, ◌<◌, List, [], ◌∷◌, ◌++◌, drop, length, map, Result, Ok, Err, refl, sym, ap, subst, append_assoc, ◌∙◌, arith}
use Rattle.std.proofs.lemmas.List.{append-nil, get_or_append_left, length-append, map-append}
use Rattle.std.proofs.lemmas.List.Elements.{All-head, All-push, All-tail, All-weaker}
use Rattle.std.specs.Prelude.{All}
use Rattle.std.specs.BTreeMap.{BTreeMap}
use Rattle.dwz_def_reading.specs.Abbrevs.{Declaration, table_at}
use Rattle.dwz_def_reading.proofs.ListFacts.{get_last, got_map}
use Rattle.dwz_model.specs.declared.place.Pair.{Pair}
use Rattle.dwz_unit.specs.declared.tail.Tail.{Tail}
use Rattle.dwz_unit.specs.Tables.{Grows, HasTable, Stored}
use Rattle.dwz_def_reading.specs.Faults.{Fails}
use Rattle.dwz_model.specs.declared.fault.ReadErr.{ReadErr}
use Rattle.dwz_unit.specs.Tails.{AnswersTail, AreTables, FindsTail, HasTail, stored, tail_in}
use Rattle.dwz_unit.proofs.NumberLemmas.{numbers_kept}

-- ---- ends of tables

base_kept : (old new : Stored) (t : Tail) → Grows old new → t.base < length old.tables → tail_in new.tables t ≡ tail_in old.tables t
base_kept old new t grows lt =
    ap (λ (w : List (List Declaration)). tail_in w t) grows.tables ∙ ap (drop t.skip) (get_or_append_left old.tables grows.others [] t.base lt)

grown_within : (old new : Stored) (n : ℕ) → Grows old new → n < length old.tables → n < length new.tables
grown_within old new n grows lt = omega (arith, lt, ap length grows.tables, length-append old.tables grows.others)

pub tail_grown : (old new : Stored) (offset : ℕ) (t : Tail) → Grows old new → HasTail old offset t → HasTail new offset t
tail_grown old new offset t grows has = record {
  within = grown_within old new t.base grows has.within;
  read = ap (λ (w : List ℕ). table_at w offset) grows.section ∙ has.read ∙ ap (λ (w : List Declaration). Ok w) (sym (base_kept old new t grows has.within));
}

-- ---- tables that are ends of others

abbrev pub IsWithin : Stored → Tail → Type 0
IsWithin s t = t.base < length s.tables

pub within_grown : (old new : Stored) (tails : List Tail) → Grows old new → All (IsWithin old) tails → All (IsWithin new) tails
within_grown old new tails grows within = All-weaker (IsWithin old) (IsWithin new) (λ t lt. grown_within old new t.base grows lt) tails within

pub within_more : (old new : Stored) (tails all : List Tail) (offset : ℕ) (t : Tail) → Grows old new → All (IsWithin old) tails → HasTail new offset t → all ≡ tails ++ t ∷ [] → All (IsWithin new) all
within_more old new tails all offset t grows within has is = subst (All (IsWithin new)) (sym is) (All-push (IsWithin new) tails t (within_grown old new tails grows within) has.within)

ends_kept : (old new : Stored) (tails : List Tail) → Grows old new → All (IsWithin old) tails → map (tail_in new.tables) tails ≡ map (tail_in old.tables) tails
ends_kept old new [] grows within = refl
ends_kept old new (t ∷ tails) grows within =
    ap (λ (w : List Declaration). w ∷ map (tail_in new.tables) tails) (base_kept old new t grows (All-head (IsWithin old) t tails within))
    ∙ ap (λ (w : List (List Declaration)). tail_in old.tables t ∷ w) (ends_kept old new tails grows (All-tail (IsWithin old) t tails within))

pub stored_grown : (old new : Stored) (tails all more : List Tail) → Grows old new → All (IsWithin old) tails → all ≡ tails ++ more → Grows (stored old tails) (stored new all)
stored_grown old new tails all more grows within is = record {
  section = grows.section;
  others = map (tail_in new.tables) more;
  tables =
      ap (map (tail_in new.tables)) is
      ∙ map-append (tail_in new.tables) tails more
      ∙ ap (λ (w : List (List Declaration)). w ++ map (tail_in new.tables) more) (ends_kept old new tails grows within);
  more = grows.more;
  decls = grows.decls;
}

pub last_number : (s : Stored) (tails all : List Tail) (offset number : ℕ) (t : Tail) → HasTail s offset t → all ≡ tails ++ t ∷ [] → number ≡ length tails → HasTable (stored s all) offset number
last_number s tails all offset number t has is at = record {
  table = tail_in s.tables t;
  stored = got_map (tail_in s.tables) all number t (rw (is, at) (get_last tails t));
  read = has.read;
}

-- tables were added, and no end of one
pub tables_kept : (old new : Stored) (tails all : List Tail) (numbers : BTreeMap ℕ ℕ) → AreTables old tails numbers → Grows old new → all ≡ tails → AreTables new all numbers
tables_kept old new tails all numbers are grows is = record {
  within = subst (All (IsWithin new)) (sym is) (within_grown old new tails grows are.within);
  numbered = numbers_kept (stored old tails) (stored new all) numbers numbers are.numbered (stored_grown old new tails all [] grows are.within (is ∙ sym (append-nil tails))) refl;
}

-- ---- tables that are read ahead

pub grows_none : (s : Stored) → Grows s s
grows_none s = record { section = refl; others = []; tables = sym (append-nil s.tables); more = []; decls = sym (append-nil s.decls) }

pub grows_both : (a b c : Stored) → Grows a b → Grows b c → Grows a c
grows_both a b c first second = record {
  section = second.section ∙ first.section;
  others = first.others ++ second.others;
  tables = second.tables ∙ ap (λ (w : List (List Declaration)). w ++ second.others) first.tables ∙ append_assoc a.tables first.others second.others;
  more = first.more ++ second.more;
  decls = second.decls ∙ ap (λ (w : List (List Pair)). w ++ second.more) first.decls ∙ append_assoc a.decls first.more second.more;
}

answers_before : (a b c : Stored) (offset : ℕ) (r : Result Tail ReadErr) → Grows a b → AnswersTail b c offset r → AnswersTail a c offset r
answers_before a b c offset (Ok t) grows has = has
answers_before a b c offset (Err e) grows fails = subst (λ (w : List ℕ). Fails e (table_at w offset)) grows.section fails

-- what is found among more tables is found
pub found_before : (a b c : Stored) (offset : ℕ) (r : Result Tail ReadErr) → Grows a b → FindsTail b c offset r → FindsTail a c offset r
found_before a b c offset r grows finds = record { grows = grows_both a b c grows finds.grows; answers = answers_before a b c offset r grows finds.answers }
