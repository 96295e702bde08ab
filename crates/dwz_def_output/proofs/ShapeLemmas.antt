-- The new file as its parts: how long it is, what stands where, and that the kept bytes are the old ones.
use Rattle.std.proofs.Common.{◌≡◌, ◌⊎◌, inr, ℕ, ◌+◌, ◌-◌, ◌*◌, ◌^◌, ◌<◌, ◌≤◌, Bool, true, false, cond, List, [], ◌++◌, length, get_or, replicate, Option, Some, None, refl, sym, ap, subst, ◌∙◌}
use Rattle.std.proofs.Common.{append_assoc, arith}
use Rattle.std.specs.Prelude.{is_some, slice_get}
use Rattle.std.proofs.lemmas.List.{append-nil, get_or_append_left, length-append, length-replicate}
use Rattle.dwz_def_reading.specs.Spelling.{le_bytes}
use Rattle.dwz_def_reading.specs.declared.elf.Moved.{Moved}
use Rattle.dwz_def_reading.specs.ElfHeaders.{number_at}
use Rattle.dwz_def_reading.specs.ElfLayout.{Changes, content_at, keep_end, length_with_headers, moved_in, names_size, new_count, new_front, new_headers, new_headers_at, placed_end, placed_of, rebuilt}
use Rattle.dwz_def_reading.specs.ElfLayout.{rebuilt_length}
use Rattle.dwz_def_reading.specs.ElfLayout.{added_bytes, spread, sup_header, too_large}
use Rattle.dwz_def_reading.specs.ElfReading.{ElfView}
use Rattle.dwz_def_reading.proofs.PlainLemmas.{length_header}
use Rattle.dwz_def_reading.proofs.OffsetLemmas.{five_parts}
use Rattle.dwz_def_reading.proofs.PlacedLemmas.{placed_end-least, up_le}
use Rattle.dwz_def_output.proofs.PieceLemmas.{Has, front_has_count, front_has_place, front_same, has_middle, length_front, number_written}
use Rattle.dwz_def_output.proofs.MovedLemmas.{IsNew}
use Rattle.dwz_def_output.proofs.OldLemmas.{keep_some}
use Rattle.dwz_def_output.proofs.PlaceLemmas.{IsPlaced, length-spread, placed_there}
use Rattle.dwz_def_output.proofs.TableLemmas.{AreWhole, Fit, length-new_headers}

-- where the sections that are written again end, and where the section headers are; and the parts of the file, one behind the other
module _ (e : ElfView) (changes : Changes) (input : List ℕ) (order : List (ℕ × ℕ)) where
  abbrev pub the_end : ℕ
  the_end = placed_end (keep_end e) (placed_of e changes input order)

  abbrev pub the_headers_at : ℕ
  the_headers_at = new_headers_at changes the_end

  abbrev the_front : List ℕ
  the_front = new_front (keep_end e) the_headers_at (new_count e changes) input

  abbrev the_sections : List ℕ
  the_sections = spread (content_at e changes input) (keep_end e) (placed_of e changes input order)

  abbrev the_gap : List ℕ
  the_gap = replicate (the_headers_at - (the_end + length (added_bytes changes))) 0

  abbrev pub the_headers : List ℕ
  the_headers = new_headers input (placed_of e changes input order) 0 e.sections

  abbrev the_rest : List ℕ
  the_rest = the_headers ++ sup_header e the_end changes.sup

  -- the file without its last part, the section headers
  abbrev the_body : List ℕ
  the_body = the_front ++ (the_sections ++ (added_bytes changes ++ the_gap))

-- what is asked of the old file
pub record IsWhole (e : ElfView) (changes : Changes) (input : List ℕ) (order : List (ℕ × ℕ)) : Type 0 where
  pub counted : length e.sections ≡ e.file.headers
  pub few : e.file.headers ≤ 65278
  pub whole : AreWhole input e.sections
  pub small : rebuilt_length e changes input order < too_large

module _ (e : ElfView) (changes : Changes) (input : List ℕ) (order : List (ℕ × ℕ)) (is : IsWhole e changes input order) where
  pub count_few : new_count e changes ≤ 65279
  count_few = let few = is.few in by (is_some changes.sup) where
    by : (b : Bool) → e.file.headers + cond b 1 0 ≤ 65279
    by true = omega (arith, is.few)
    by false = omega (arith, is.few)

  body_length : length (the_body e changes input order) ≡ the_headers_at e changes input order
  body_length =
      let front = length_front (keep_end e) (the_headers_at e changes input order) (new_count e changes) input (keep_some e) in
      let sections = length-spread e (content_at e changes input) (keep_end e) order in
      let sup = added_bytes changes in
      let gap : length (the_gap e changes input order) ≡ the_headers_at e changes input order - (the_end e changes input order + length sup) =
      length-replicate {A = ℕ} (the_headers_at e changes input order - (the_end e changes input order + length sup)) 0 in
      let up : the_end e changes input order + length sup ≤ the_headers_at e changes input order = up_le (the_end e changes input order + length sup) 8 in
      let first = length-append (the_front e changes input order) (the_sections e changes input order ++ (sup ++ the_gap e changes input order)) in
      let second = length-append (the_sections e changes input order) (sup ++ the_gap e changes input order) in
      let third = length-append sup (the_gap e changes input order) in
      omega (arith, front, sections, gap, up, first, second, third)

  -- the file is its body and the section headers
  two_parts : rebuilt e changes input order ≡ the_body e changes input order ++ the_rest e changes input order
  unfolding rebuilt
  two_parts = five_parts (the_front e changes input order) (the_sections e changes input order) (added_bytes changes) (the_gap e changes input order) (the_rest e changes input order)

  headers_length : length (the_headers e changes input order) ≡ 64 * e.file.headers
  headers_length = length-new_headers input (placed_of e changes input order) 0 e.sections is.whole ∙ ap (λ n. 64 * n) is.counted

  sup_length : (at : ℕ) (sup : Option (List ℕ)) → length (sup_header e at sup) ≡ 64 * cond (is_some sup) 1 0
  unfolding sup_header
  sup_length at None = refl
  sup_length at (Some sup) = length_header (names_size (slice_get e.sections e.file.names)) 1 0 at (length sup) 0

  rest_length : length (the_rest e changes input order) ≡ 64 * new_count e changes
  rest_length =
      omega (
        arith,
        length-append (the_headers e changes input order) (sup_header e (the_end e changes input order) changes.sup),
        headers_length,
        sup_length (the_end e changes input order) changes.sup,
      )

  pub length_rebuilt : length (rebuilt e changes input order) ≡ rebuilt_length e changes input order
  unfolding rebuilt_length
  length_rebuilt =
      let all : length (the_body e changes input order ++ the_rest e changes input order) ≡ length (the_body e changes input order) + length (the_rest e changes input order) =
      length-append (the_body e changes input order) (the_rest e changes input order) in
      let both : length (the_body e changes input order) + length (the_rest e changes input order) ≡ length_with_headers e changes (the_end e changes input order) = omega (
        arith,
        body_length,
        rest_length,
      ) in
      ap length two_parts ∙ (all ∙ both)

  -- the file ends behind its last section header
  pub table_end : the_headers_at e changes input order + 64 * new_count e changes ≡ length (rebuilt e changes input order)
  table_end =
      let all : length (the_body e changes input order ++ the_rest e changes input order) ≡ length (the_body e changes input order) + length (the_rest e changes input order) =
      length-append (the_body e changes input order) (the_rest e changes input order) in
      let len : length (rebuilt e changes input order) ≡ length (the_body e changes input order ++ the_rest e changes input order) = ap length two_parts in
      omega (arith, all, len, body_length, rest_length)

  pub end_within : the_end e changes input order ≤ the_headers_at e changes input order
  end_within = omega (arith, up_le (the_end e changes input order + length (added_bytes changes)) 8)

  pub keep_within : keep_end e ≤ the_end e changes input order
  keep_within = placed_end-least e (content_at e changes input) (keep_end e) order

  pub small_length : length (rebuilt e changes input order) < 2 ^ 32
  small_length = omega (arith, length_rebuilt, is.small)

  -- ---- the section headers

  pub has_headers : Has (rebuilt e changes input order) (the_headers_at e changes input order) (the_headers e changes input order)
  has_headers = subst (λ (w : List ℕ). Has w (the_headers_at e changes input order) (the_headers e changes input order)) (sym two_parts)
      (has_middle (the_body e changes input order) (the_headers e changes input order) (sup_header e (the_end e changes input order) changes.sup) (the_headers_at e changes input order) body_length)

  -- what is added, and its header

  -- the file up to the section header that is added
  pub to_sup : List ℕ
  to_sup = the_body e changes input order ++ the_headers e changes input order

  pub length_to_sup : length to_sup ≡ the_headers_at e changes input order + 64 * e.file.headers
  unfolding to_sup
  length_to_sup = omega (arith, length-append (the_body e changes input order) (the_headers e changes input order), body_length, headers_length)

  pub sup_header_behind : rebuilt e changes input order ≡ to_sup ++ (sup_header e (the_end e changes input order) changes.sup ++ [])
  unfolding to_sup
  sup_header_behind =
      two_parts
      ∙ (sym (append_assoc (the_body e changes input order) (the_headers e changes input order) (sup_header e (the_end e changes input order) changes.sup))
      ∙ ap (λ (w : List ℕ). (the_body e changes input order ++ the_headers e changes input order) ++ w) (sym (append-nil (sup_header e (the_end e changes input order) changes.sup))))

  pub has_sup : Has (rebuilt e changes input order) (the_end e changes input order) (added_bytes changes)
  unfolding rebuilt
  has_sup =
      let front = length_front (keep_end e) (the_headers_at e changes input order) (new_count e changes) input (keep_some e) in
      let sections = length-spread e (content_at e changes input) (keep_end e) order in
      let back = the_gap e changes input order ++ the_rest e changes input order in
      let before : length (the_front e changes input order ++ the_sections e changes input order) ≡ the_end e changes input order =
      omega (arith, length-append (the_front e changes input order) (the_sections e changes input order), front, sections) in
      subst (λ (w : List ℕ). Has w (the_end e changes input order) (added_bytes changes))
      (append_assoc (the_front e changes input order) (the_sections e changes input order) (added_bytes changes ++ back))
      (has_middle (the_front e changes input order ++ the_sections e changes input order) (added_bytes changes) back (the_end e changes input order) before)

  -- ---- the front

  front_first : (i : ℕ) → i < keep_end e → get_or (rebuilt e changes input order) i 0 ≡ get_or (the_front e changes input order) i 0
  unfolding rebuilt
  front_first i less =
      let front = length_front (keep_end e) (the_headers_at e changes input order) (new_count e changes) input (keep_some e) in
      get_or_append_left (the_front e changes input order) (the_sections e changes input order ++ (added_bytes changes ++ (the_gap e changes input order ++ the_rest e changes input order))) 0 i
      (omega (arith, front, less))

  -- the kept bytes are the old ones, but for the two fields of the file header
  pub kept_same : (i : ℕ) → i < keep_end e → (i < 40) ⊎ (48 ≤ i) → (i < 60) ⊎ (62 ≤ i) → get_or (rebuilt e changes input order) i 0 ≡ get_or input i 0
  kept_same i less first second =
      front_first i less ∙ front_same (keep_end e) (the_headers_at e changes input order) (new_count e changes) input (keep_some e) i less first second

  front_there : (at : ℕ) (piece : List ℕ) → Has (the_front e changes input order) at piece → Has (rebuilt e changes input order) at piece
  front_there at piece has =
      let front = length_front (keep_end e) (the_headers_at e changes input order) (new_count e changes) input (keep_some e) in
      record {
        within = omega (arith, has.within, front, keep_within, end_within, table_end);
        each = λ i less. front_first (at + i) (omega (arith, has.within, front, less)) ∙ has.each i less;
      }

  pub reads_place : number_at (rebuilt e changes input order) 40 8 ≡ the_headers_at e changes input order
  reads_place =
      number_written (rebuilt e changes input order) 40 8 (the_headers_at e changes input order) (omega (arith, table_end, small_length))
      (front_there 40 (le_bytes 8 (the_headers_at e changes input order)) (front_has_place (keep_end e) (the_headers_at e changes input order) (new_count e changes) input (keep_some e)))

  pub reads_count : number_at (rebuilt e changes input order) 60 2 ≡ new_count e changes
  reads_count =
      number_written (rebuilt e changes input order) 60 2 (new_count e changes) (omega (arith, count_few))
      (front_there 60 (le_bytes 2 (new_count e changes)) (front_has_count (keep_end e) (the_headers_at e changes input order) (new_count e changes) input (keep_some e)))

  -- ---- the sections

  moved_placed : (index : ℕ) (m : Moved) → moved_in (placed_of e changes input order) index ≡ Some m
      → IsPlaced (content_at e changes input) (keep_end e) (length (rebuilt e changes input order)) (rebuilt e changes input order) index m
  unfolding rebuilt
  moved_placed index m there =
      let front = length_front (keep_end e) (the_headers_at e changes input order) (new_count e changes) input (keep_some e) in
      let back = added_bytes changes ++ (the_gap e changes input order ++ the_rest e changes input order) in
      let placed = placed_there e (content_at e changes input) (keep_end e) order (the_front e changes input order) back index m front there in
      record { size = placed.size; behind = placed.behind; within = omega (arith, placed.within, end_within, table_end); here = placed.here }

  pub fits : (index : ℕ) → Fit (moved_in (placed_of e changes input order) index)
  fits index = by (moved_in (placed_of e changes input order) index) refl where
    by : (o : Option Moved) → moved_in (placed_of e changes input order) index ≡ o → Fit o
    by None there = tt
    by (Some m) there =
        let placed = moved_placed index m there in
        (omega (arith, placed.within, small_length), omega (arith, placed.within, small_length))

  pub is_new : IsNew e changes input (rebuilt e changes input order) order
  is_new = record {
    some = keep_some e;
    within = omega (arith, keep_within, end_within, table_end);
    same = λ i beyond less. kept_same i less (inr (omega (arith, beyond))) (inr (omega (arith, beyond)));
    moved = moved_placed;
  }
