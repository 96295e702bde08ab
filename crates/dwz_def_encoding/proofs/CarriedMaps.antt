-- What is carried stays so where names are replaced.
use Rattle.std.proofs.Common.{◌≡◌, ℕ, List, [], ◌∷◌, ◌++◌, map, refl, sym, ap, subst, ◌∙◌}
use Rattle.std.proofs.Math.Logic.{inl, inr}
use Rattle.std.proofs.lemmas.List.{map-append}
use Rattle.dwz_def_reading.specs.Documents.{Attr, Compile, DwUnit, Entries, Kind, Node, OfType, Partial, Value, attr_map, entries_map, kind_map, node_map, unit_map, value_map}
use Rattle.dwz_def_reading.specs.Trees.{End, Entry}
use Rattle.dwz_def_reading.proofs.ListFacts.{in_map}
use Rattle.dwz_def_reading.specs.Lists.{Each}
use Rattle.dwz_def_encoding.specs.Bases.{Bases}
use Rattle.dwz_def_encoding.specs.Carried.{CameFrom, CarriedAttr, CarriedEntries, CarriedNode, CarriedUnit, From, Imports, NamesLines}
use Rattle.dwz_def_encoding.specs.Meant.{KindSays, entry_keys}
use Rattle.dwz_def_tops.specs.Shown.{keys}
use Rattle.dwz_def_encoding.specs.Sound.{SoundKind}

map_twice : {P Q R : Type 0} (f : P → Q) (g : Q → R) (ps : List P) → map g (map f ps) ≡ map (λ p. g (f p)) ps
map_twice f g [] = refl
map_twice {P} {Q} {R} f g (p ∷ ps) = ap (λ (w : List R). g (f p) ∷ w) (map_twice f g ps)

module _ {K L : Type 0} (from : From) (origin : Bases) (f : K → L) where
  attr_twice : (name : ℕ → K) (b : Attr ℕ) → attr_map f (attr_map name b) ≡ attr_map (λ p. f (name p)) b
  attr_twice name b = ap (λ (w : List L). record { name = b.name; form = b.form; raw = b.raw; value = record { plain = b.value.plain; refs = w; address = b.value.address } }) (map_twice name f b.value.refs)

  came_map : (a : Attr K) → CameFrom from origin a → CameFrom from origin (attr_map f a)
  came_map a came =
      let w = came.was_read in
      record {
        was_read = record {
          scope = w.scope;
          old = w.old;
          read = w.read;
          means = w.means;
          name = λ p. f (w.name p);
          same = ap (λ (b : Attr K). attr_map f b) w.same ∙ attr_twice w.name w.read;
        };
        file = came.file;
        unit = came.unit;
        stored = came.stored;
        built = came.built;
      }

  import_map : (a : Attr K) → Imports a → Imports (attr_map f a)
  import_map a is = record { name = is.name; form = is.form; target = f is.target; value = ap (λ (v : Value K). value_map f v) is.value }

  lines_map : (a : Attr K) → NamesLines a → NamesLines (attr_map f a)
  lines_map a is = record { name = is.name; form = is.form; place = is.place; raw = is.raw; fits = is.fits; value = ap (λ (v : Value K). value_map f v) is.value }

  pub attr_carried : (a : Attr K) → CarriedAttr from origin a → CarriedAttr from origin (attr_map f a)
  attr_carried a is = elim is [ inl c ↦ inl (came_map a c) | inr more ↦ elim more [ inl i ↦ inr (inl (import_map a i)) | inr l ↦ inr (inr (lines_map a l)) ] ]

  attrs_carried : (attrs : List (Attr K)) → Each (CarriedAttr from origin) attrs → Each (CarriedAttr from origin) (map (attr_map f) attrs)
  attrs_carried [] is = tt
  attrs_carried (a ∷ attrs) is = (attr_carried a is.0, attrs_carried attrs is.1)

  pub node_carried : (e : Node K) → CarriedNode from origin e → CarriedNode from origin (node_map f e)
  node_carried e is = record { some_tag = is.some_tag; tag_fits = is.tag_fits; attrs = attrs_carried e.attrs is.attrs }

  pub entries_carried : (g : Entries K) → CarriedEntries from origin g → CarriedEntries from origin (entries_map f g)
  unfolding entries_map
  entries_carried End is = tt
  entries_carried (Entry e children next) is = (node_carried e is.0, entries_carried children is.1, entries_carried next is.2)

  keys_map : (g : Entries K) → keys (entries_map f g) ≡ map f (keys g)
  unfolding entries_map keys
  keys_map End = refl
  keys_map (Entry e children next) =
      ap (λ (w : List L). f e.at ∷ (w ++ keys (entries_map f next))) (keys_map children)
      ∙ ap (λ (w : List L). f e.at ∷ (map f (keys children) ++ w)) (keys_map next)
      ∙ ap (λ (w : List L). f e.at ∷ w) (sym (map-append f (keys children) (keys next)))

  pub kind_carried : (k : Kind K) (tag : ℕ) → SoundKind k tag → SoundKind (kind_map f k) tag
  kind_carried Compile tag is = is
  kind_carried (OfType signature main) tag is = is
  kind_carried Partial tag is = is

  main_carried : (k : Kind K) (own : List K) → KindSays own k → KindSays (map f own) (kind_map f k)
  main_carried Compile own is = tt
  main_carried (OfType signature main) own is = in_map f main own is
  main_carried Partial own is = tt

  pub unit_carried : (u : DwUnit K) → CarriedUnit from origin u → CarriedUnit from origin (unit_map f u)
  unit_carried u is = record {
    kind = kind_carried u.kind u.root.tag is.kind;
    main = subst (λ (w : List L). KindSays w (kind_map f u.kind)) (ap (λ (w : List L). f u.root.at ∷ w) (sym (keys_map u.below))) (main_carried u.kind (entry_keys u) is.main);
    root = node_carried u.root is.root;
    below = entries_carried u.below is.below;
  }
