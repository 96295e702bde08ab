-- What is looked up in the end of a table: first among its own declarations, then in the end with which it goes on.
use Rattle.std.proofs.Common.{◌≡◌, ℕ, zero, suc, ◌+◌, ◌-◌, ◌≤◌, ◌<◌, ◌^◌, min, List, [], ◌∷◌, ◌++◌, drop, length, Option, Some, None, refl, sym, ap, subst, ◌∙◌, Bool, true, false, ltb, arith}
use Rattle.std.proofs.Math.ListN.{drop_of_length-le}
use Rattle.std.proofs.lemmas.Bool.{ltb-true, ltb-false}
use Rattle.std.proofs.lemmas.List.{drop-drop}
use Rattle.std.proofs.lemmas.Option.{get_or_from_slice_get}
use Rattle.std.specs.Prelude.{slice_get, slice_index_or}
use Rattle.dwz_def_reading.specs.Abbrevs.{Declaration, find_decl}
use Rattle.dwz_def_reading.proofs.FindLemmas.{found_behind, still_found}
use Rattle.dwz_def_reading.proofs.ListFacts.{same_got}
use Rattle.dwz_unit.specs.TableViews.{TableView}
use Rattle.dwz_unit.specs.declared.tail.Tail.{Tail}
use Rattle.dwz_unit.specs.Tails.{AreLinked, StartsIn, end_in, tail_in, whole_in}

drop_both : (n : ℕ) (own rest : List Declaration) → drop n (own ++ rest) ≡ drop n own ++ drop (n - length own) rest
drop_both zero own rest =
    let none : zero - length own ≡ zero = omega arith in
    ap (λ (k : ℕ). own ++ drop k rest) (sym none)
drop_both (suc n) [] rest =
    let same : suc n - zero ≡ suc n = omega arith in
    ap (λ (k : ℕ). drop k rest) (sym same)
drop_both (suc n) (d ∷ own) rest =
    let same : n - length own ≡ suc n - suc (length own) = omega arith in
    drop_both n own rest ∙ ap (λ (k : ℕ). drop n own ++ drop k rest) same

found_first : (own rest : List Declaration) (code : ℕ) (o : Option Declaration) → find_decl own code ≡ o → find_decl rest code ≡ None → find_decl (own ++ rest) code ≡ o
found_first own rest code None is none = found_behind own rest code is ∙ none
found_first own rest code (Some d) is none = still_found own rest code d is

-- the declaration of the end of a table behind the first so many: one of its own, or one of what follows them
module _ (reads : List TableView) (tables : List (List Declaration)) (linked : AreLinked reads tables) (base : ℕ) (r : TableView) (at : slice_get reads base ≡ Some r) (n code : ℕ) where
  abbrev sought : Option Declaration
  sought = find_decl (drop n (slice_index_or tables base [])) code

  parts : sought ≡ find_decl (drop n r.table ++ drop (n - length r.table) (end_in tables r.next)) code
  parts =
      ap (λ (w : List Declaration). find_decl (drop n w) code) (get_or_from_slice_get tables base (whole_in tables r) [] (linked base r at).whole)
      ∙ ap (λ (w : List Declaration). find_decl w code) (drop_both n r.table (end_in tables r.next))

  pub own_found : (d : Declaration) → Some d ≡ find_decl (drop n r.table) code → Some d ≡ sought
  own_found d is = sym (parts ∙ still_found (drop n r.table) (drop (n - length r.table) (end_in tables r.next)) code d (sym is))

  pub none_own : None ≡ find_decl (drop n r.table) code → sought ≡ find_decl (drop (n - length r.table) (end_in tables r.next)) code
  none_own none = parts ∙ found_behind (drop n r.table) (drop (n - length r.table) (end_in tables r.next)) code (sym none)

-- ---- steps of the look-up

pub no_more : (n code : ℕ) (tables : List (List Declaration)) (next : Option Tail) → next ≡ None → find_decl (drop n (end_in tables next)) code ≡ None
no_more zero code tables next none = ap (λ (o : Option Tail). find_decl (end_in tables o) code) none
no_more (suc n) code tables next none = ap (λ (o : Option Tail). find_decl (drop (suc n) (end_in tables o)) code) none

pub none_past : (n code : ℕ) → None ≡ find_decl (drop n []) code
none_past zero code = refl
none_past (suc n) code = refl

-- a sum that is cut off is past all declarations
sum_cut : (own : List Declaration) (skip past n : ℕ) → length own < 2 ^ 63 → n ≡ min (skip + past) (2 ^ 64 - 1) → drop n own ≡ drop (skip + past) own
sum_cut own skip past n small is = go (ltb (2 ^ 64 - 1) (skip + past)) refl where
  go : (cut : Bool) → ltb (2 ^ 64 - 1) (skip + past) ≡ cut → drop n own ≡ drop (skip + past) own
  go true lt =
      let above = ltb-true (2 ^ 64 - 1) (skip + past) lt in
      drop_of_length-le own (omega (arith, is, above, small)) ∙ sym (drop_of_length-le own (omega (arith, above, small)))
  go false le =
      let same : n ≡ skip + past = omega (arith, is, ltb-false (2 ^ 64 - 1) (skip + past) le) in
      ap (λ (k : ℕ). drop k own) same

module _ (reads : List TableView) (tables : List (List Declaration)) (linked : AreLinked reads tables) (t : Tail) (r : TableView) (at : slice_get reads t.base ≡ Some r) (within : StartsIn reads t) (past code n : ℕ) (small : length r.table < 2 ^ 63) (cut : n ≡ min (t.skip + past) (2 ^ 64 - 1)) where
  one_table : within.read ≡ r
  one_table = same_got reads t.base within.read r within.base at

  pub skip_within : t.skip ≤ length r.table
  skip_within = subst (λ (s : TableView). t.skip ≤ length s.table) one_table within.skip

  both_drops : drop past (tail_in tables t) ≡ drop (t.skip + past) (slice_index_or tables t.base [])
  both_drops = drop-drop past t.skip (slice_index_or tables t.base [])

  pub own_past : (d : Declaration) → Some d ≡ find_decl (drop n r.table) code → Some d ≡ find_decl (drop past (tail_in tables t)) code
  own_past d is =
      own_found reads tables linked t.base r at (t.skip + past) code d (is ∙ ap (λ (w : List Declaration). find_decl w code) (sum_cut r.table t.skip past n small cut))
      ∙ ap (λ (w : List Declaration). find_decl w code) (sym both_drops)

  pub further : (rest : ℕ) → rest ≡ past - (length r.table - t.skip) → None ≡ find_decl (drop n r.table) code → find_decl (drop past (tail_in tables t)) code ≡ find_decl (drop rest (end_in tables r.next)) code
  further rest is none =
      let left : t.skip + past - length r.table ≡ rest = omega (arith, is, skip_within) in
      ap (λ (w : List Declaration). find_decl w code) both_drops
      ∙ none_own reads tables linked t.base r at (t.skip + past) code (none ∙ ap (λ (w : List Declaration). find_decl w code) (sum_cut r.table t.skip past n small cut))
      ∙ ap (λ (k : ℕ). find_decl (drop k (end_in tables r.next)) code) left
