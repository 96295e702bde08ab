-- Marks that are appended, one behind the other.
use Rattle.std.proofs.Common.{◌≡◌, ℕ, ◌+◌, ◌*◌, List, [], ◌∷◌, ◌++◌, map, Option, Some, None, refl, sym, ap, ◌∙◌}
use Rattle.std.specs.List.{flat_map}
use Rattle.std.specs.Option.{option_map}
use Rattle.std.proofs.lemmas.List.{append-nil, append_assoc}
use Rattle.dwz_def_reading.specs.TextRows.{text_number}
use Rattle.dwz_label.specs.Labels.{number}
use Rattle.dwz_label_marks.specs.Marks.{Mark, Named, Plainly}
use Rattle.dwz_label_marks.specs.Told.{Adds, Keeps, Tells, word_of}

-- ---- one mark

pub adds_plainly : (names : List (List ℕ)) (n : ℕ) (old new : List ℕ) → new ≡ old ++ number (2 * n) → Adds names (Plainly n ∷ []) old new
adds_plainly names n old new e = record {
  more = number (2 * n);
  told = record { words = 2 * n ∷ []; are = refl; spelled = sym (append-nil (number (2 * n))) };
  is = e;
}

pub adds_named : (names : List (List ℕ)) (bytes : List ℕ) (n : ℕ) (old new : List ℕ) → text_number names bytes ≡ Some n → new ≡ old ++ number (2 * n + 1)
    → Adds names (Named bytes ∷ []) old new
adds_named names bytes n old new is e = record {
  more = number (2 * n + 1);
  told = record {
    words = (2 * n + 1) ∷ [];
    are = ap (λ (o : Option ℕ). option_map (λ k. 2 * k + 1) o ∷ []) is;
    spelled = sym (append-nil (number (2 * n + 1)));
  };
  is = e;
}

-- ---- many

joined : {X Y : Type 0} (f : X → Y) (xs ys : List X) → map f (xs ++ ys) ≡ map f xs ++ map f ys
joined f [] ys = refl
joined f (x ∷ xs) ys = ap (λ (w : _). f x ∷ w) (joined f xs ys)

spelled_both : (v w : List ℕ) → flat_map number (v ++ w) ≡ flat_map number v ++ flat_map number w
spelled_both [] w = refl
spelled_both (x ∷ v) w = ap (λ (r : List ℕ). number x ++ r) (spelled_both v w) ∙ sym (append_assoc (number x) (flat_map number v) (flat_map number w))

pub tells_both : (names : List (List ℕ)) (m n : List Mark) (v w : List ℕ) → Tells names m v → Tells names n w → Tells names (m ++ n) (v ++ w)
tells_both names m n v w x y = record {
  words = x.words ++ y.words;
  are = joined (word_of names) m n ∙ (λ i. x.are i ++ y.are i) ∙ sym (joined Some x.words y.words);
  spelled = (λ i. x.spelled i ++ y.spelled i) ∙ sym (spelled_both x.words y.words);
}

pub adds_both : (names : List (List ℕ)) (m n : List Mark) (old mid new : List ℕ) → Adds names m old mid → Adds names n mid new → Adds names (m ++ n) old new
adds_both names m n old mid new x y = record {
  more = x.more ++ y.more;
  told = tells_both names m n x.more y.more x.told y.told;
  is = y.is ∙ ap (λ (w : List ℕ). w ++ y.more) x.is ∙ append_assoc old x.more y.more;
}

pub adds_none : (names : List (List ℕ)) (old : List ℕ) → Adds names [] old old
adds_none names old = record { more = []; told = record { words = []; are = refl; spelled = refl }; is = sym (append-nil old) }

-- ---- more names

kept_word : (old new : List (List ℕ)) (m : Mark) (w : ℕ) → Keeps old new → word_of old m ≡ Some w → word_of new m ≡ Some w
kept_word old new (Plainly n) w k e = e
kept_word old new (Named bytes) w k e = go (text_number old bytes) refl e where
  go : (o : Option ℕ) → text_number old bytes ≡ o → option_map (λ n. 2 * n + 1) o ≡ Some w → word_of new (Named bytes) ≡ Some w
  go None is h = absurd cc
  go (Some n) is h = ap (λ (o : Option ℕ). option_map (λ j. 2 * j + 1) o) (k bytes n is) ∙ h

kept_words : (old new : List (List ℕ)) (m : List Mark) (ws : List ℕ) → Keeps old new → map (word_of old) m ≡ map Some ws → map (word_of new) m ≡ map Some ws
kept_words old new [] ws k e = e
kept_words old new (x ∷ m) [] k e = absurd cc
kept_words old new (x ∷ m) (w ∷ ws) k e =
    let one : word_of old x ≡ Some w = cc in
    let others : map (word_of old) m ≡ map Some ws = cc in
    let first = kept_word old new x w k one in
    let rest = kept_words old new m ws k others in
    λ i. first i ∷ rest i

pub adds_kept : (names more : List (List ℕ)) (m : List Mark) (old new : List ℕ) → Keeps names more → Adds names m old new → Adds more m old new
adds_kept names more m old new k x = record {
  more = x.more;
  told = record { words = x.told.words; are = kept_words names more m x.told.words k x.told.are; spelled = x.told.spelled };
  is = x.is;
}
