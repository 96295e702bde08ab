-- Tables that go on with ends of those before them: where one is added, the others stay.
use Rattle.std.proofs.Common.{◌≡◌, ℕ, zero, suc, ◌+◌, ◌<◌, ◌≤◌, List, [], ◌∷◌, ◌++◌, drop, length, Option, Some, None, Ok, refl, sym, ap, subst, append_assoc, ◌∙◌, arith, inl, inr}
use Rattle.std.proofs.lemmas.List.{append-nil, get_or_append_left, get_or_past, length_push}
use Rattle.std.proofs.lemmas.Option.{get_or_from_slice_get, slice_get_within}
use Rattle.std.specs.Prelude.{◌⊎◌, slice_get, slice_index_or}
use Rattle.dwz_def_reading.specs.Abbrevs.{Declaration, find_decl}
use Rattle.dwz_def_reading.proofs.ListFacts.{get_first, get_last, got_map}
use Rattle.dwz_unit.proofs.PastLemmas.{none_past}
use Rattle.dwz_model.specs.declared.place.Pair.{Pair}
use Rattle.dwz_unit.specs.TableViews.{TableView}
use Rattle.dwz_unit.specs.declared.numbered.Numbered.{Numbered}
use Rattle.dwz_unit.specs.Found.{IsOwn, StandsIn, all_pairs, each_pairs, found_view}
use Rattle.dwz_unit.specs.declared.tail.Tail.{Tail}
use Rattle.dwz_unit.specs.Tables.{Grows}
use Rattle.dwz_unit.specs.Tails.{AreReadTables, AreLinked, BeginsAt, HasTail, IsLinked, IsJoined, KnowsStarts, StartsIn, end_in, read_from, tables_behind, whole_tables, tail_in, whole_in}

-- ---- tables and their number

tables_behind-length : (tables : List (List Declaration)) (reads : List TableView) → length (tables_behind tables reads) ≡ length tables + length reads
tables_behind-length tables [] = omega arith
tables_behind-length tables (r ∷ reads) = omega (arith, tables_behind-length (tables ++ whole_in tables r ∷ []) reads, length_push tables (whole_in tables r))

tables_behind-push : (tables : List (List Declaration)) (reads : List TableView) (r : TableView)
    → tables_behind tables (reads ++ r ∷ []) ≡ tables_behind tables reads ++ whole_in (tables_behind tables reads) r ∷ []
tables_behind-push tables [] r = refl
tables_behind-push tables (s ∷ reads) r = tables_behind-push (tables ++ whole_in tables s ∷ []) reads r

pub tables_length : (reads : List TableView) → length (whole_tables reads) ≡ length reads
tables_length reads = omega (arith, tables_behind-length [] reads)

-- the table that is read last
pub tables_push : (reads new : List TableView) (r : TableView) → new ≡ reads ++ r ∷ [] → whole_tables new ≡ whole_tables reads ++ whole_in (whole_tables reads) r ∷ []
tables_push reads new r is = ap whole_tables is ∙ tables_behind-push [] reads r

pub pushed_one : {X : Type 0} (xs : List X) (x : X) (i : ℕ) (y : X) → slice_get (xs ++ x ∷ []) i ≡ Some y → (slice_get xs i ≡ Some y) ⊎ ((i ≡ length xs) × (x ≡ y))
pushed_one [] x zero y e = inr (refl, cc)
pushed_one [] x (suc i) y e = absurd cc
pushed_one (z ∷ xs) x zero y e = inl e
pushed_one (z ∷ xs) x (suc i) y e = elim (pushed_one xs x i y e) [ inl p ↦ inl p | inr p ↦ inr (ap suc p.0, p.1) ]

-- ---- declarations and their numbers

all_pairs-push : (reads : List TableView) (r : TableView) → all_pairs (reads ++ r ∷ []) ≡ all_pairs reads ++ each_pairs r.table
all_pairs-push [] r = append-nil (each_pairs r.table)
all_pairs-push (s ∷ reads) r =
    ap (λ (w : List (List Pair)). each_pairs s.table ++ w) (all_pairs-push reads r) ∙ sym (append_assoc (each_pairs s.table) (all_pairs reads) (each_pairs r.table))

-- those of the table that is read last
pub pairs_push : (reads new : List TableView) (r : TableView) → new ≡ reads ++ r ∷ [] → all_pairs new ≡ all_pairs reads ++ each_pairs r.table
pairs_push reads new r is = ap all_pairs is ∙ all_pairs-push reads r

get_behind : {X : Type 0} (xs ys : List X) (n : ℕ) → slice_get (xs ++ ys) (length xs + n) ≡ slice_get ys n
get_behind {X} [] ys n = let same : zero + n ≡ n = omega arith in ap (slice_get ys) same
get_behind {X} (x ∷ xs) ys n =
    let same : suc (length xs) + n ≡ suc (length xs + n) = omega arith in
    ap (slice_get (x ∷ (xs ++ ys))) same ∙ get_behind xs ys n

stands_kept : (decls more : List (List Pair)) (r : TableView) → StandsIn decls r → StandsIn (decls ++ more) r
stands_kept decls more r stands = λ place d at. get_first decls more (r.first + place) d.pairs (stands place d at)

stands_last : (decls : List (List Pair)) (r : TableView) → r.first ≡ length decls → StandsIn (decls ++ each_pairs r.table) r
stands_last decls r first = λ place d at.
    ap (λ (n : ℕ). slice_get (decls ++ each_pairs r.table) (n + place)) first
    ∙ get_behind decls (each_pairs r.table) place
    ∙ got_map (λ (e : Declaration). e.pairs) r.table place d at

-- a declaration of the table's own has its names and forms at its number
pub own_stands : (decls : List (List Pair)) (r : TableView) (f : Numbered) → StandsIn decls r → IsOwn r f → slice_get decls f.number ≡ Some f.pairs.now
own_stands decls r f stands own = ap (slice_get decls) own.number ∙ stands own.place (found_view f) own.there

-- ---- ends

abbrev IsBelow : List (List Declaration) → Option Tail → Type 0
IsBelow tables next = (t : Tail) → next ≡ Some t → t.base < length tables

end_kept : (tables others : List (List Declaration)) (next : Option Tail) → IsBelow tables next → end_in (tables ++ others) next ≡ end_in tables next
end_kept tables others None below = refl
end_kept tables others (Some t) below = ap (drop t.skip) (get_or_append_left tables others [] t.base (below t refl))

whole_kept : (tables others : List (List Declaration)) (r : TableView) → IsBelow tables r.next → whole_in (tables ++ others) r ≡ whole_in tables r
whole_kept tables others r below = ap (λ (w : List Declaration). r.table ++ w) (end_kept tables others r.next below)

starts_below : (reads : List TableView) (tables : List (List Declaration)) (t : Tail) → AreLinked reads tables → StartsIn reads t → t.base < length tables
starts_below reads tables t linked in_it = slice_get_within tables t.base (whole_in tables in_it.read) (linked t.base in_it.read in_it.base).whole

starts_pushed : (reads : List TableView) (r : TableView) (t : Tail) → StartsIn reads t → StartsIn (reads ++ r ∷ []) t
starts_pushed reads r t in_it = record { read = in_it.read; base = get_first reads (r ∷ []) t.base in_it.read in_it.base; skip = in_it.skip }

-- ---- a table is added

module _ (section : List ℕ) (reads : List TableView) (tables : List (List Declaration)) (offset : ℕ) (r : TableView) (known : AreReadTables section reads tables) (joins : IsJoined section reads tables offset r) (first : r.first ≡ length (all_pairs reads)) where
  -- the tables with that one
  abbrev all : List (List Declaration)
  all = tables ++ whole_in tables r ∷ []

  old_kept : (n : ℕ) (s : TableView) → slice_get reads n ≡ Some s → whole_in all s ≡ whole_in tables s
  old_kept n s at = whole_kept tables (whole_in tables r ∷ []) s (λ t is. starts_below reads tables t known.linked ((known.linked n s at).next t is))

  new_kept : whole_in all r ≡ whole_in tables r
  new_kept = whole_kept tables (whole_in tables r ∷ []) r (λ t is. starts_below reads tables t known.linked (joins.next t is))

  old_linked : (n : ℕ) (s : TableView) → slice_get reads n ≡ Some s → IsLinked (reads ++ r ∷ []) all n s
  old_linked n s at =
      let l = known.linked n s at in
      record {
        whole = get_first tables (whole_in tables r ∷ []) n (whole_in tables s) l.whole ∙ ap (λ (w : List Declaration). Some w) (sym (old_kept n s at));
        before = l.before;
        next = λ t is. starts_pushed reads r t (l.next t is);
        stands = subst (λ (w : List (List Pair)). StandsIn w s) (sym (all_pairs-push reads r)) (stands_kept (all_pairs reads) (each_pairs r.table) s l.stands);
      }

  new_linked : length tables ≡ length reads → IsLinked (reads ++ r ∷ []) all (length reads) r
  new_linked many = record {
    whole = ap (slice_get all) (sym many) ∙ get_last tables (whole_in tables r) ∙ ap (λ (w : List Declaration). Some w) (sym new_kept);
    before = λ t is. let in_it = joins.next t is in slice_get_within reads t.base in_it.read in_it.base;
    next = λ t is. starts_pushed reads r t (joins.next t is);
    stands = subst (λ (w : List (List Pair)). StandsIn w r) (sym (all_pairs-push reads r)) (stands_last (all_pairs reads) r first);
  }

  starts_same : (s : TableView) → whole_in all s ≡ whole_in tables s → KnowsStarts section tables s → KnowsStarts section all s
  starts_same s same starts = λ n place is. let here = starts n place is in (here.0, here.1 ∙ ap (λ (w : List Declaration). Ok (drop n w)) (sym same))

  pub known_more : length tables ≡ length reads → AreReadTables section (reads ++ r ∷ []) all
  known_more many = record {
    linked = λ n s at. elim (pushed_one reads r n s at) [
      | inl old ↦ old_linked n s old
      | inr new ↦ subst (λ (m : ℕ). IsLinked (reads ++ r ∷ []) all m s) (sym new.0) (subst (IsLinked (reads ++ r ∷ []) all (length reads)) new.1 (new_linked many))
    ];
    starts = λ n s at. elim (pushed_one reads r n s at) [
      | inl old ↦ starts_same s (old_kept n s old) (known.starts n s old)
      | inr new ↦ subst (KnowsStarts section all) new.1 (starts_same r new_kept joins.starts)
    ];
  }

pub known_pushed : (section : List ℕ) (reads new : List TableView) (offset : ℕ) (r : TableView) → new ≡ reads ++ r ∷ [] → AreReadTables section reads (whole_tables reads)
    → IsJoined section reads (whole_tables reads) offset r → r.first ≡ length (all_pairs reads) → AreReadTables section new (whole_tables new)
known_pushed section reads new offset r is known joins first =
    subst (λ (w : List TableView). AreReadTables section w (whole_tables w)) (sym is)
    (subst (AreReadTables section (reads ++ r ∷ [])) (sym (tables_push reads (reads ++ r ∷ []) r refl)) (known_more section reads (whole_tables reads) offset r known joins first (tables_length reads)))

pub reads_grow : (section : List ℕ) (reads new : List TableView) (r : TableView) → new ≡ reads ++ r ∷ [] → Grows (read_from section reads) (read_from section new)
reads_grow section reads new r is = record { section = refl; others = whole_in (whole_tables reads) r ∷ []; tables = tables_push reads new r is; more = each_pairs r.table; decls = pairs_push reads new r is }

-- the table that was added has its number
pub last_read : (section : List ℕ) (reads new : List TableView) (offset : ℕ) (r : TableView) (t : Tail) → new ≡ reads ++ r ∷ [] → t.base ≡ length reads → t.skip ≡ 0
    → IsJoined section reads (whole_tables reads) offset r → HasTail (read_from section new) offset t
last_read section reads new offset r t is at none joins =
    let whole = whole_in (whole_tables reads) r in
    let there : slice_get (whole_tables new) t.base ≡ Some whole =
    ap (λ (w : List (List Declaration)). slice_get w t.base) (tables_push reads new r is)
    ∙ ap (slice_get (whole_tables reads ++ whole ∷ [])) (at ∙ sym (tables_length reads))
    ∙ get_last (whole_tables reads) whole in
    record {
      within = slice_get_within (whole_tables new) t.base whole there;
      read = joins.read ∙ ap (λ (w : List Declaration). Ok w) (sym (ap (λ (n : ℕ). drop n (slice_index_or (whole_tables new) t.base [])) none ∙ get_or_from_slice_get (whole_tables new) t.base whole [] there));
    }

-- ---- an end that begins at a place

module _ (section : List ℕ) (reads : List TableView) (place : ℕ) (known : AreReadTables section reads (whole_tables reads)) where
  pub begins_has : (t : Tail) → BeginsAt reads place t → HasTail (read_from section reads) place t
  begins_has t is =
      let there = (known.linked t.base is.read is.base).whole in
      record {
        within = slice_get_within (whole_tables reads) t.base (whole_in (whole_tables reads) is.read) there;
        read = (known.starts t.base is.read is.base t.skip place is.start).1
            ∙ ap (λ (w : List Declaration). Ok (drop t.skip w)) (sym (get_or_from_slice_get (whole_tables reads) t.base (whole_in (whole_tables reads) is.read) [] there));
      }

  pub begins_in : (t : Tail) → BeginsAt reads place t → StartsIn reads t
  begins_in t is = record { read = is.read; base = is.base; skip = omega (arith, (known.starts t.base is.read is.base t.skip place is.start).0) }

-- no table has that number
pub none_there : (reads : List TableView) (t : Tail) (code : ℕ) → length reads ≤ t.base → None ≡ find_decl (tail_in (whole_tables reads) t) code
none_there reads t code past =
    let none : slice_index_or (whole_tables reads) t.base [] ≡ [] = get_or_past (whole_tables reads) t.base [] (omega (arith, past, tables_length reads)) in
    none_past t.skip code ∙ ap (λ (w : List Declaration). find_decl (drop t.skip w) code) (sym none)
