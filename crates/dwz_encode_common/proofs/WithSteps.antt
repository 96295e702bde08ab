-- Files get their texts and numbers one after the other, and lists that get them are of the same files.
use Rattle.std.proofs.Common.{◌≡◌, ℕ, List, [], ◌∷◌, ◌++◌, length, map, refl, sym, ap, ◌∙◌, arith}
use Rattle.std.specs.Global.{Vec}
use Rattle.std.proofs.lemmas.List.{append-nil, append_assoc, length-map}
use Rattle.dwz_graph.specs.declared.file.File.{File}
use Rattle.dwz_layout.specs.declared.known.FileRows.{FileRows}
use Rattle.dwz_layout.specs.declared.known.TextAt.{TextAt}
use Rattle.dwz_encode_common.specs.Numbers.{numbers_in_file}
use Rattle.dwz_encode_common.specs.WithCommon.{files_with, kept_numbers}

pub files_next : (left less : List FileRows) (texts some : List (Vec TextAt)) (numbers more : List (Vec ℕ)) (old new whole : List FileRows)
    (r x : FileRows) (t : Vec TextAt) (m : Vec ℕ) → old ++ files_with left texts numbers ≡ whole
    → left ≡ r ∷ less → texts ≡ t ∷ some → numbers ≡ m ∷ more → new ≡ old ++ x ∷ [] → x ≡ record r { texts = t; files = m }
    → new ++ files_with less some more ≡ whole
unfolding files_with
files_next left less texts some numbers more old new whole r x t m h a b c push is =
    ap (λ (w : List FileRows). w ++ files_with less some more) push
    ∙ append_assoc old (x ∷ []) (files_with less some more)
    ∙ ap (λ (w : FileRows). old ++ (w ∷ files_with less some more)) is
    ∙ (λ i. old ++ files_with (sym a i) (sym b i) (sym c i))
    ∙ h

-- nothing is left of one of them
none_with : (left : List FileRows) (texts : List (Vec TextAt)) (numbers : List (Vec ℕ)) → length left ≡ 0 → files_with left texts numbers ≡ []
unfolding files_with
none_with [] texts numbers none = refl
none_with (r ∷ left) texts numbers none = absurd (omega arith)

no_texts : (left : List FileRows) (texts : List (Vec TextAt)) (numbers : List (Vec ℕ)) → length texts ≡ 0 → files_with left texts numbers ≡ []
unfolding files_with
no_texts [] texts numbers none = refl
no_texts (r ∷ left) [] numbers none = refl
no_texts (r ∷ left) (t ∷ texts) numbers none = absurd (omega arith)

no_numbers : (left : List FileRows) (texts : List (Vec TextAt)) (numbers : List (Vec ℕ)) → length numbers ≡ 0 → files_with left texts numbers ≡ []
unfolding files_with
no_numbers [] texts numbers none = refl
no_numbers (r ∷ left) [] numbers none = refl
no_numbers (r ∷ left) (t ∷ texts) [] none = refl
no_numbers (r ∷ left) (t ∷ texts) (m ∷ numbers) none = absurd (omega arith)

module _ (left : List FileRows) (texts : List (Vec TextAt)) (numbers : List (Vec ℕ)) (made whole : List FileRows)
    (h : made ++ files_with left texts numbers ≡ whole) where
  ended : files_with left texts numbers ≡ [] → made ≡ whole
  ended none = sym (append-nil made) ∙ ap (λ (w : List FileRows). made ++ w) (sym none) ∙ h

  pub out_of_files : length left ≡ 0 → made ≡ whole
  out_of_files none = ended (none_with left texts numbers none)

  pub out_of_texts : length texts ≡ 0 → made ≡ whole
  out_of_texts none = ended (no_texts left texts numbers none)

  pub out_of_numbers : length numbers ≡ 0 → made ≡ whole
  out_of_numbers none = ended (no_numbers left texts numbers none)

-- ---- how many there are

-- numbers of the paths of each file
pub many_numbers : (files : List File) (paths : List (List ℕ)) (numbers : List (Vec ℕ))
    → map (λ (v : Vec ℕ). v.items) numbers ≡ map (numbers_in_file paths) files → length numbers ≡ length files
many_numbers files paths numbers are =
    sym (length-map numbers (λ (v : Vec ℕ). v.items)) ∙ ap (λ (w : List (List ℕ)). length w) are ∙ length-map files (numbers_in_file paths)

-- and those that each has
pub many_kept : (files : List File) (rows : List FileRows) → length rows ≡ length files → length (kept_numbers rows) ≡ length files
many_kept files rows many = length-map rows (λ (r : FileRows). r.files) ∙ many
