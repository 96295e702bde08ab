-- Section headers that are written one after the other, and where they go.
use Rattle.std.proofs.Common.{◌≡◌, ℕ, ◌+◌, ◌<◌, ◌≤◌, List, ◌++◌, length, map, max, drop, get_or, sym, ap, ◌∙◌, append_assoc}
use Rattle.std.proofs.lemmas.List.{append-nil, drop_all, drop_more}
use Rattle.dwz_def_reading.specs.declared.elf.FileHeader.{FileHeader}
use Rattle.dwz_def_reading.specs.declared.elf.Header.{Header}
use Rattle.dwz_def_reading.specs.ElfHeaders.{file_header, headers_in}
use Rattle.dwz_def_reading.specs.ElfLayout.{keep_end, new_front}
use Rattle.dwz_def_reading.specs.ElfNames.{name_table, section_named}
use Rattle.dwz_def_reading.specs.ElfReading.{ElfView, elf_of}
use Rattle.dwz_def_expand.specs.Dropped.{header_without, headers_without, table_place, without_sup}

module _ (input table : List ℕ) where
  abbrev without : List Header → List ℕ
  without headers = headers_without input (map (section_named table) headers)

  pub one_header : (headers : List Header) (i : ℕ) (d : Header) (old new all : List ℕ) → i < length headers → new ≡ old ++ header_without input (section_named table (get_or headers i d))
      → old ++ headers_without input (map (section_named table) (drop i headers)) ≡ all → new ++ headers_without input (map (section_named table) (drop (i + 1) headers)) ≡ all
  unfolding headers_without
  one_header headers i d old new all less is so_far =
      let parts : without (drop i headers) ≡ header_without input (section_named table (get_or headers i d)) ++ without (drop (i + 1) headers) = ap without (drop_more headers i d less) in
      ap (λ (w : List ℕ). w ++ without (drop (i + 1) headers)) is
      ∙ (append_assoc old (header_without input (section_named table (get_or headers i d))) (without (drop (i + 1) headers)) ∙ (ap (λ (w : List ℕ). old ++ w) (sym parts) ∙ so_far))

  pub all_headers : (headers : List Header) (i : ℕ) (old all : List ℕ) → length headers ≤ i → old ++ headers_without input (map (section_named table) (drop i headers)) ≡ all → old ≡ all
  unfolding headers_without
  all_headers headers i old all done so_far =
      sym (append-nil old) ∙ (ap (λ (w : List ℕ). old ++ w) (sym (ap without (drop_all i headers done))) ∙ so_far)

pub kept_place : (input : List ℕ) (file : FileHeader) (headers : List Header) (keep place : ℕ) → file ≡ file_header input → headers ≡ headers_in input
    → ((e : ElfView) (table : List ℕ) → e.file ≡ file → e.sections ≡ map (section_named table) headers → keep ≡ keep_end e) → place ≡ max (length input) keep → place ≡ table_place input
unfolding elf_of
kept_place input file headers keep place file_is headers_are kept is =
    is ∙ ap (max (length input)) (kept (elf_of input) (name_table input) (sym file_is) (ap (map (section_named (name_table input))) (sym headers_are)))

pub is_without : (input table : List ℕ) (file : FileHeader) (headers : List Header) (place : ℕ) (front out : List ℕ) → file ≡ file_header input → headers ≡ headers_in input → table ≡ name_table input
    → place ≡ table_place input → front ≡ new_front place place file.headers input → out ≡ front ++ headers_without input (map (section_named table) headers) → out ≡ without_sup input
unfolding without_sup
is_without input table file headers place front out file_is headers_are table_is place_is front_is is =
    is
    ∙ (λ j. (front_is ∙ (λ k. new_front (place_is k) (place_is k) (file_is k).headers input)) j ++ headers_without input (map (section_named (table_is j)) (headers_are j)))
