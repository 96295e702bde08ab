-- What is put of the files, and their lines, row by row: what is done, with what the names that are left give, is all.
use Rattle.std.proofs.Common.{◌≡◌, ℕ, suc, ◌+◌, ◌<◌, ◌≤◌, Bool, true, false, List, [], ◌∷◌, ◌++◌, length, get_or, drop, drop-cons, append_assoc, append-nil, Option, unwrap_or, refl, sym, ap, ◌∙◌}
use Rattle.std.proofs.Common.{add-one}
use Rattle.std.specs.Prelude.{is_some}
use Rattle.std.specs.Option.{option_map}
use Rattle.std.proofs.lemmas.List.{drop_all}
use Rattle.dwz_def_images.specs.Units.{changes}
use Rattle.dwz_def_readback.specs.Files.{CommonFile, Run}
use Rattle.dwz_outside.specs.declared.puts.Put.{Put}
use Rattle.dwz_words.specs.declared.options.Options.{Options}
use Rattle.dwz_def_output.specs.FilesAfter.{bytes_after_by, bytes_by, file_after_by}
use Rattle.dwz_def_run.specs.Out.{file_puts_by, files_puts_by, length_if_new, puts_by, summary_lines_by, sup_name}
use Rattle.dwz_run_output.specs.Making.{made_after, made_if}

-- ---- puts

put_if : (moves : Bool) (out : Option (List ℕ)) (name old new : List ℕ)
    → puts_by (is_some (made_if moves new)) out name (unwrap_or (made_if moves new) old) ≡ puts_by moves out name (bytes_by moves old new)
put_if true out name old new = refl
put_if false out name old new = refl

-- the put of a file, by its new bytes
put_is : (k : CommonFile) (o : Options) (r : Run) (file : ℕ) (name old : List ℕ) (new : Option (List ℕ)) → old ≡ r.input.bytes file → new ≡ made_after k (sup_name o) r file
    → puts_by (is_some new) o.out name (unwrap_or new old) ≡ file_puts_by k o r file name
put_is k o r file name old new before after =
    ap (λ (b : Option (List ℕ)). puts_by (is_some b) o.out name (unwrap_or b old)) after
    ∙ (ap (λ (bytes : List ℕ). puts_by (is_some (made_after k (sup_name o) r file)) o.out name (unwrap_or (made_after k (sup_name o) r file) bytes)) before
    ∙ put_if (changes r.move r.units file) o.out name (r.input.bytes file) (file_after_by k (sup_name o) r file))

puts_of_next : (k : CommonFile) (o : Options) (r : Run) (names : List (List ℕ)) (i : ℕ) (name : List ℕ) → i < length names → name ≡ get_or names i name
    → files_puts_by k o r i (drop i names) ≡ file_puts_by k o r i name ++ files_puts_by k o r (i + 1) (drop (i + 1) names)
unfolding files_puts_by
puts_of_next k o r names i name less is =
    ap (files_puts_by k o r i) (drop-cons names i name less)
    ∙ (ap (λ (n : List ℕ). file_puts_by k o r i n ++ files_puts_by k o r (suc i) (drop (suc i) names)) (sym is)
    ∙ ap (λ (n : ℕ). file_puts_by k o r i name ++ files_puts_by k o r n (drop n names)) (sym (add-one i)))

pub puts_step : (k : CommonFile) (o : Options) (r : Run) (puts more whole : List Put) (names : List (List ℕ)) (i : ℕ) (name old : List ℕ) (new : Option (List ℕ)) → i < length names
    → name ≡ get_or names i name → old ≡ r.input.bytes i → new ≡ made_after k (sup_name o) r i
    → more ≡ puts ++ puts_by (is_some new) o.out name (unwrap_or new old) → puts ++ files_puts_by k o r i (drop i names) ≡ whole
    → more ++ files_puts_by k o r (i + 1) (drop (i + 1) names) ≡ whole
puts_step k o r puts more whole names i name old new less is before after added all =
    ap (λ (ps : List Put). ps ++ files_puts_by k o r (i + 1) (drop (i + 1) names)) (added ∙ ap (λ (ps : List Put). puts ++ ps) (put_is k o r i name old new before after))
    ∙ (append_assoc puts (file_puts_by k o r i name) (files_puts_by k o r (i + 1) (drop (i + 1) names))
    ∙ (ap (λ (ps : List Put). puts ++ ps) (sym (puts_of_next k o r names i name less is)) ∙ all))

pub puts_end : (k : CommonFile) (o : Options) (r : Run) (puts whole : List Put) (names : List (List ℕ)) (i : ℕ) → length names ≤ i → puts ++ files_puts_by k o r i (drop i names) ≡ whole
    → puts ≡ whole
unfolding files_puts_by
puts_end k o r puts whole names i all is =
    sym (append-nil puts) ∙ (ap (λ (ns : List (List ℕ)). puts ++ files_puts_by k o r i ns) (sym (drop_all i names all)) ∙ is)

-- ---- lines

abbrev pub Line : Type 0
Line = List ℕ × ℕ × Option ℕ

abbrev pub line_of : CommonFile → Options → Run → ℕ → List ℕ → Line
line_of k o r file name = (name, length (r.input.bytes file), length_if_new (changes r.move r.units file) (bytes_after_by k (sup_name o) r file))

length_if : (moves : Bool) (old new : List ℕ) → option_map (λ bytes. length bytes) (made_if moves new) ≡ length_if_new moves (bytes_by moves old new)
length_if true old new = refl
length_if false old new = refl

-- the line of a file, by its bytes before and its new bytes
line_is : (k : CommonFile) (o : Options) (r : Run) (file : ℕ) (name old : List ℕ) (new : Option (List ℕ)) → old ≡ r.input.bytes file → new ≡ made_after k (sup_name o) r file
    → (x : Line) → x ≡ (name, length old, option_map (λ bytes. length bytes) new) → x ≡ line_of k o r file name
line_is k o r file name old new before after x is =
    is
    ∙ (ap (λ (bytes : List ℕ). let line : Line = (name, length bytes, option_map (λ bytes. length bytes) new) in line) before
    ∙ (ap (λ (b : Option (List ℕ)). let line : Line = (name, length (r.input.bytes file), option_map (λ bytes. length bytes) b) in line) after
    ∙ ap (λ (n : Option ℕ). let line : Line = (name, length (r.input.bytes file), n) in line)
    (length_if (changes r.move r.units file) (r.input.bytes file) (file_after_by k (sup_name o) r file))))

lines_of_next : (k : CommonFile) (o : Options) (r : Run) (names : List (List ℕ)) (i : ℕ) (name : List ℕ) → i < length names → name ≡ get_or names i name
    → summary_lines_by k o r i (drop i names) ≡ line_of k o r i name ∷ summary_lines_by k o r (i + 1) (drop (i + 1) names)
unfolding summary_lines_by
lines_of_next k o r names i name less is =
    ap (summary_lines_by k o r i) (drop-cons names i name less)
    ∙ (ap (λ (n : List ℕ). line_of k o r i n ∷ summary_lines_by k o r (suc i) (drop (suc i) names)) (sym is)
    ∙ ap (λ (n : ℕ). line_of k o r i name ∷ summary_lines_by k o r n (drop n names)) (sym (add-one i)))

pub lines_step : (k : CommonFile) (o : Options) (r : Run) (lines more whole : List Line) (names : List (List ℕ)) (i : ℕ) (name old : List ℕ) (new : Option (List ℕ)) (x : Line)
    → i < length names → name ≡ get_or names i name → old ≡ r.input.bytes i → new ≡ made_after k (sup_name o) r i
    → x ≡ (name, length old, option_map (λ bytes. length bytes) new) → more ≡ lines ++ x ∷ [] → lines ++ summary_lines_by k o r i (drop i names) ≡ whole
    → more ++ summary_lines_by k o r (i + 1) (drop (i + 1) names) ≡ whole
lines_step k o r lines more whole names i name old new x less is before after line added all =
    ap (λ (ls : List Line). ls ++ summary_lines_by k o r (i + 1) (drop (i + 1) names)) (added ∙ ap (λ (y : Line). lines ++ y ∷ []) (line_is k o r i name old new before after x line))
    ∙ (append_assoc lines (line_of k o r i name ∷ []) (summary_lines_by k o r (i + 1) (drop (i + 1) names))
    ∙ (ap (λ (ls : List Line). lines ++ ls) (sym (lines_of_next k o r names i name less is)) ∙ all))

pub lines_end : (k : CommonFile) (o : Options) (r : Run) (lines whole : List Line) (names : List (List ℕ)) (i : ℕ) → length names ≤ i → lines ++ summary_lines_by k o r i (drop i names) ≡ whole
    → lines ≡ whole
unfolding summary_lines_by
lines_end k o r lines whole names i all is =
    sym (append-nil lines) ∙ (ap (λ (ns : List (List ℕ)). lines ++ summary_lines_by k o r i ns) (sym (drop_all i names all)) ∙ is)
