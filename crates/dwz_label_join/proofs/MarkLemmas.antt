-- Marks that are told one after the other by other names.
use Rattle.std.proofs.Common.{◌≡◌, ℕ, zero, suc, ◌+◌, ◌*◌, ◌%◌, ◌<◌, ◌≤◌, List, [], ◌∷◌, ◌++◌, length, map, drop, Option, Some, None, slice_get, refl, sym, ap, subst, ◌∙◌, arith}
use Rattle.std.specs.List.{flat_map}
use Rattle.std.specs.Option.{option_map}
use Rattle.std.proofs.lemmas.List.{append-nil, append_assoc}
use Rattle.dwz_def_reading.specs.TextRows.{text_number}
use Rattle.dwz_label.specs.Labels.{number}
use Rattle.dwz_label_join.specs.Joined.{AreNumbersIn, IsNumberOf}
use Rattle.dwz_label_marks.specs.Marks.{Mark, Named, Plainly}
use Rattle.dwz_label_marks.specs.Told.{Adds, Tells, word_of}
use Rattle.dwz_label_marks.proofs.AddsLemmas.{adds_both, adds_named, adds_none, adds_plainly}
use Rattle.dwz_label_marks.proofs.ToldLemmas.{some_byte}

-- some of the marks were told, and the words of the others stand at that place
pub record MarksLeft (names others : List (List ℕ)) (marks : List Mark) (label : List ℕ) (at : ℕ) (old out : List ℕ) : Type 0 where
  pub done : List Mark
  pub left : List Mark
  pub words : List ℕ
  pub parts : marks ≡ done ++ left
  pub added : Adds others done old out
  pub are : map (word_of names) left ≡ map Some words
  pub rest : drop at label ≡ flat_map number words

pub none_told : (names others : List (List ℕ)) (marks : List Mark) (label old : List ℕ) → Tells names marks label → MarksLeft names others marks label 0 old old
none_told names others marks label old h = record {
  done = [];
  left = marks;
  words = h.words;
  parts = refl;
  added = adds_none others old;
  are = h.are;
  rest = h.spelled;
}

-- the next mark, and the word that it has
pub record Next (names : List (List ℕ)) (label : List ℕ) (at : ℕ) (left : List Mark) (words : List ℕ) : Type 0 where
  pub mark : Mark
  pub behind : List Mark
  pub word : ℕ
  pub others : List ℕ
  pub mark_is : left ≡ mark ∷ behind
  pub word_is : word_of names mark ≡ Some word
  pub are : map (word_of names) behind ≡ map Some others
  pub stands : drop at label ≡ number word ++ flat_map number others

no_rest : (xs : List ℕ) (at : ℕ) → at < length xs → drop at xs ≡ [] → ⊥
no_rest [] at low e = absurd (omega arith)
no_rest (x ∷ xs) zero low e = absurd cc
no_rest (x ∷ xs) (suc at) low e = no_rest xs at (omega arith) e

pub next_of : (names : List (List ℕ)) (label : List ℕ) (at : ℕ) (left : List Mark) (words : List ℕ) → at < length label → map (word_of names) left ≡ map Some words
    → drop at label ≡ flat_map number words → Next names label at left words
next_of names label at [] [] low are rest = absurd (no_rest label at low rest)
next_of names label at [] (w ∷ words) low are rest = absurd cc
next_of names label at (m ∷ left) [] low are rest = absurd cc
next_of names label at (m ∷ left) (w ∷ words) low are rest = record {
  mark = m;
  behind = left;
  word = w;
  others = words;
  mark_is = refl;
  word_is = (let z : word_of names m ≡ Some w = cc in z);
  are = (let z : map (word_of names) left ≡ map Some words = cc in z);
  stands = rest;
}

-- one more was told
pub one_more : (names others : List (List ℕ)) (marks : List Mark) (label : List ℕ) (at end : ℕ) (old out new : List ℕ) (h : MarksLeft names others marks label at old out)
    (n : Next names label at h.left h.words) → Adds others (n.mark ∷ []) out new → drop end label ≡ flat_map number n.others → MarksLeft names others marks label end old new
one_more names others marks label at end old out new h n added rest = record {
  done = h.done ++ n.mark ∷ [];
  left = n.behind;
  words = n.others;
  parts = h.parts ∙ ap (λ (w : List Mark). h.done ++ w) n.mark_is ∙ sym (append_assoc h.done (n.mark ∷ []) n.behind);
  added = adds_both others h.done (n.mark ∷ []) old out new h.added added;
  are = n.are;
  rest = rest;
}

-- ---- even words are numbers, odd ones names

some_same : {x y : ℕ} → Some x ≡ Some y → x ≡ y
some_same e = cc

pub even_word : (names others : List (List ℕ)) (m : Mark) (word : ℕ) (old new : List ℕ) → word_of names m ≡ Some word → word % 2 ≡ 0 → new ≡ old ++ number word → Adds others (m ∷ []) old new
even_word names others (Plainly n) word old new e even is = adds_plainly others n old new (is ∙ ap (λ (k : ℕ). old ++ number k) (sym (some_same e)))
even_word names others (Named bytes) word old new e even is = go (text_number names bytes) e where
  go : (o : Option ℕ) → option_map (λ n. 2 * n + 1) o ≡ Some word → Adds others (Named bytes ∷ []) old new
  go None h = absurd cc
  go (Some n) h = let z : 2 * n + 1 ≡ word = some_same h in absurd (omega arith)

-- the name that an odd word names, and its other number
pub record Other (names others : List (List ℕ)) (numbers : List ℕ) (m : Mark) (word : ℕ) : Type 0 where
  pub name : ℕ
  pub n : ℕ
  pub word_is : word ≡ 2 * name + 1
  pub got : slice_get numbers name ≡ Some n
  pub adds : (old new : List ℕ) → new ≡ old ++ number (2 * n + 1) → Adds others (m ∷ []) old new

pub odd_word : (names others : List (List ℕ)) (numbers : List ℕ) (m : Mark) (word : ℕ) → AreNumbersIn names others numbers → word_of names m ≡ Some word → word % 2 ≡ 1
    → Other names others numbers m word
odd_word names others numbers (Plainly n) word are e odd = let z = some_same e in absurd (omega arith)
odd_word names others numbers (Named bytes) word are e odd = go (text_number names bytes) refl e where
  with_number : (k : ℕ) (o : Option ℕ) → word ≡ 2 * k + 1 → slice_get numbers k ≡ o → IsNumberOf others bytes o → Other names others numbers (Named bytes) word
  with_number k None is got h = absurd h
  with_number k (Some n) is got h = record { name = k; n = n; word_is = is; got = got; adds = λ old new added. adds_named others bytes n old new h added }

  go : (o : Option ℕ) → text_number names bytes ≡ o → option_map (λ n. 2 * n + 1) o ≡ Some word → Other names others numbers (Named bytes) word
  go None is h = absurd cc
  go (Some k) is h = with_number k (slice_get numbers k) (sym (some_same h)) refl (are bytes k is)

-- ---- all

pub all_told : (names others : List (List ℕ)) (marks : List Mark) (label : List ℕ) (at : ℕ) (old out : List ℕ) → length label ≤ at → MarksLeft names others marks label at old out
    → Adds others marks old out
all_told names others marks label at old out end h = go h.left h.words h.are (sym h.rest ∙ nothing label at end) h.parts where
  nothing : (xs : List ℕ) (k : ℕ) → length xs ≤ k → drop k xs ≡ []
  nothing [] zero le = refl
  nothing [] (suc k) le = refl
  nothing (x ∷ xs) zero le = absurd (omega arith)
  nothing (x ∷ xs) (suc k) le = nothing xs k (omega arith)

  go : (left : List Mark) (words : List ℕ) → map (word_of names) left ≡ map Some words → flat_map number words ≡ [] → marks ≡ h.done ++ left → Adds others marks old out
  go [] words are none parts = subst (λ (m : List Mark). Adds others m old out) (sym (parts ∙ append-nil h.done)) h.added
  go (m ∷ left) [] are none parts = absurd cc
  go (m ∷ left) (w ∷ words) are none parts = absurd (some_byte w (flat_map number words) none)
