-- The entries of a list that import no unit: what was added, and what is left.
use Rattle.std.proofs.Common.{◌≡◌, ℕ, ◌+◌, ◌<◌, ◌≤◌, Bool, true, false, List, ◌++◌, Some, slice_get, refl, sym, ap, ◌∙◌, arith}
use Rattle.std.specs.Prelude.{slice_index_or}
use Rattle.std.proofs.lemmas.List.{append_assoc}
use Rattle.dwz_def_reading.specs.Entries.{RawEntry}
use Rattle.dwz_def_reading.specs.Trees.{End, Entry, Forest, size}
use Rattle.dwz_def_reading.specs.Units.{RawUnit}
use Rattle.dwz_unit.specs.declared.rows.RawEntry.{RawEntry as EntryOfCode}
use Rattle.dwz_unit.specs.Rows.{shown_entries}
use Rattle.dwz_graph.specs.Building.{HasList, IsList}
use Rattle.dwz_graph.proofs.BelowLemmas.{next_list}
use Rattle.dwz_graph.proofs.ListLemmas.{list_next}
use Rattle.dwz_expand_sources.specs.declared.sources.SourceRange.{SourceRange}
use Rattle.dwz_expand_sources.specs.Building.{kept_ranges, range_if}

module _ {E : Type 0} (importing : List Bool) (from at : ℕ) (e : E) (c n : Forest E) where
  pub kept_plain : slice_index_or importing at false ≡ false → kept_ranges importing from at (Entry e c n) ≡ kept_ranges importing from (at + 1 + size c) n
  unfolding kept_ranges
  kept_plain h = rw (h, kept_ranges) refl

  pub kept_import : slice_index_or importing at false ≡ true
      → kept_ranges importing from at (Entry e c n) ≡ range_if from at ++ kept_ranges importing (at + 1 + size c) (at + 1 + size c) n
  unfolding kept_ranges
  kept_import h = rw (h, kept_ranges) refl

pub kept_end : (E : Type 0) (importing : List Bool) (from at : ℕ) → kept_ranges {E = E} importing from at End ≡ range_if from at
unfolding kept_ranges
kept_end E importing from at = refl

-- a part of the list is left, and what was added and what is left are all
pub record Left (raw : List RawUnit) (importing : List Bool) (first end : ℕ) (old now : List SourceRange) (from at : ℕ) (list : Forest RawEntry) : Type 0 where
  pub left : Forest RawEntry
  pub is : IsList raw at end left
  pub ranges : now ++ kept_ranges importing from at left ≡ old ++ kept_ranges importing first first list

pub record Goes (raw : List RawUnit) (importing : List Bool) (first end : ℕ) (old now : List SourceRange) (from at : ℕ) : Type 0 where
  pub list : HasList raw at end
  pub rest : (list : Forest RawEntry) → IsList raw first end list → Left raw importing first end old now from at list

module _ (raw : List RawUnit) (importing : List Bool) (first end : ℕ) (old : List SourceRange) where
  pub begins : HasList raw first end → Goes raw importing first end old old first first
  begins has = record { list = has; rest = λ list is. record { left = list; is = is; ranges = refl } }

  -- an entry that imports no unit
  pub keeps : (now : List SourceRange) (from at : ℕ) (x : EntryOfCode) → Goes raw importing first end old now from at → at < end → slice_get (shown_entries raw) at ≡ Some x
      → slice_index_or importing at false ≡ false → Goes raw importing first end old now from x.end
  keeps now from at x g lt shown plain =
      record { list = (next_list raw at end x g.list lt shown).1; rest = λ list is. (let l = g.rest list is in by list l.left l.is l.ranges) } where
        by : (list left : Forest RawEntry) → IsList raw at end left → now ++ kept_ranges importing from at left ≡ old ++ kept_ranges importing first first list
            → Left raw importing first end old now from x.end list
        by list End is e = absurd (let z = is.ends in omega arith)
        by list (Entry d c n) is e =
            let r = list_next raw at end x d c n is shown in
            record {
              left = n;
              is = r.next_are;
              ranges = (λ k. now ++ kept_ranges importing from (r.ends k) n) ∙ ap (λ (w : List SourceRange). now ++ w) (sym (kept_plain importing from at d c n plain)) ∙ e;
            }

  -- and one that imports one
  pub skips : (now new : List SourceRange) (from at : ℕ) (x : EntryOfCode) → Goes raw importing first end old now from at → at < end → slice_get (shown_entries raw) at ≡ Some x
      → slice_index_or importing at false ≡ true → new ≡ now ++ range_if from at → Goes raw importing first end old new x.end x.end
  skips now new from at x g lt shown marked put =
      record { list = (next_list raw at end x g.list lt shown).1; rest = λ list is. (let l = g.rest list is in by list l.left l.is l.ranges) } where
        by : (list left : Forest RawEntry) → IsList raw at end left → now ++ kept_ranges importing from at left ≡ old ++ kept_ranges importing first first list
            → Left raw importing first end old new x.end x.end list
        by list End is e = absurd (let z = is.ends in omega arith)
        by list (Entry d c n) is e =
            let r = list_next raw at end x d c n is shown in
            let more = kept_ranges importing (at + 1 + size c) (at + 1 + size c) n in
            record {
              left = n;
              is = r.next_are;
              ranges = (λ k. put k ++ kept_ranges importing (r.ends k) (r.ends k) n)
                  ∙ append_assoc now (range_if from at) more
                  ∙ ap (λ (w : List SourceRange). now ++ w) (sym (kept_import importing from at d c n marked))
                  ∙ e;
            }

  pub ends : (now new : List SourceRange) (from at : ℕ) → Goes raw importing first end old now from at → end ≤ at → new ≡ now ++ range_if from end → (list : Forest RawEntry)
      → IsList raw first end list → new ≡ old ++ kept_ranges importing first first list
  ends now new from at g le put list is = (let l = g.rest list is in by l.left l.is l.ranges) where
    by : (left : Forest RawEntry) → IsList raw at end left → now ++ kept_ranges importing from at left ≡ old ++ kept_ranges importing first first list
        → new ≡ old ++ kept_ranges importing first first list
    by End is e =
        let same : end ≡ at = (let z = is.ends in omega arith) in
        put ∙ (λ k. now ++ range_if from (same k)) ∙ ap (λ (w : List SourceRange). now ++ w) (sym (kept_end RawEntry importing from at)) ∙ e
    by (Entry d c n) is e = absurd (let z = is.ends in omega arith)
