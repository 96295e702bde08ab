-- Keys that aren't written down: each stands at its node's place, and they are those that are written.
use Rattle.std.proofs.Common.{◌≡◌, ℕ, ◌<◌, List, [], length, map, get_or, sym, ap, ◌∙◌, arith}
use Rattle.std.specs.Prelude.{slice_index}
use Rattle.std.proofs.lemmas.List.{ext_get_or, get_or-map, length-map}
use Rattle.std.proofs.lemmas.List.FromFn.{get_or-map-range_with_len, length-map-range_with_len}
use Rattle.dwz_nodes.specs.Graph.{Node}
use Rattle.dwz_nodes.specs.Keys.{all_keys, key, key_at, AreKeys}

pub length-all_keys : (g : List Node) (classes : List ℕ) → length (all_keys g classes) ≡ length g
length-all_keys g classes = length-map-range_with_len (key g classes) 0 (length g)

pub all_keys-at : (g : List Node) (classes : List ℕ) (a : ℕ) → a < length g → key_at (all_keys g classes) a ≡ key g classes a
all_keys-at g classes a l = get_or-map-range_with_len (key g classes) 0 (length g) a a [] l (omega arith)

pub all-are : (g : List Node) (classes : List ℕ) → AreKeys g classes (all_keys g classes)
all-are g classes = record { len = length-all_keys g classes; each = all_keys-at g classes }

pub are-all : (g : List Node) (classes : List ℕ) (keys : List (List ℕ)) → AreKeys g classes keys → keys ≡ all_keys g classes
are-all g classes keys k =
    ext_get_or [] keys (all_keys g classes) (k.len ∙ sym (length-all_keys g classes))
    (λ i l. let e = k.len in k.each i (omega arith) ∙ sym (all_keys-at g classes i (omega arith)))

-- ---- the classes of two lists of nodes

abbrev classes_of : List ℕ → List ℕ → List ℕ
classes_of classes xs = map (λ t. slice_index classes t) xs

class-at : (classes xs : List ℕ) (k : ℕ) → k < length xs → get_or (classes_of classes xs) k 0 ≡ slice_index classes (slice_index xs k)
class-at classes xs k l = get_or-map (λ t. slice_index classes t) xs k 0 0 l

pub classes-same : (classes xs ys : List ℕ) → length xs ≡ length ys → ((k : ℕ) → k < length xs → slice_index classes (slice_index xs k) ≡ slice_index classes (slice_index ys k))
    → classes_of classes xs ≡ classes_of classes ys
classes-same classes xs ys len each =
    let many : length (classes_of classes xs) ≡ length xs = length-map xs (λ t. slice_index classes t) in
    ext_get_or 0 (classes_of classes xs) (classes_of classes ys) (many ∙ (len ∙ sym (length-map ys (λ t. slice_index classes t))))
    (λ k l. class-at classes xs k (omega arith) ∙ (each k (omega arith) ∙ sym (class-at classes ys k (omega arith))))

pub same-classes : (classes xs ys : List ℕ) (k : ℕ) → length xs ≡ length ys → k < length xs → classes_of classes xs ≡ classes_of classes ys
    → slice_index classes (slice_index xs k) ≡ slice_index classes (slice_index ys k)
same-classes classes xs ys k len l same =
    sym (class-at classes xs k l) ∙ (ap (λ (x : List ℕ). get_or x k 0) same ∙ class-at classes ys k (omega arith))
