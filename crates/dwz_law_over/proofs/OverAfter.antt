-- Over a finished common file no name stands twice among the units that stand after in one file and those of the common file.
use Rattle.std.proofs.Common.{ℕ, List, [], ◌∷◌, ◌++◌, sym, subst, inl, inr}
use Rattle.dwz_def_reading.specs.Documents.{Doc, DwUnit}
use Rattle.dwz_def_reading.specs.Lists.{In, NoneTwice}
use Rattle.dwz_def_reading.proofs.ListFacts.{in_cases, in_left, in_right}
use Rattle.dwz_def_reading.proofs.OnceLemmas.{none_append, none_both, none_left, none_right}
use Rattle.dwz_def_tops.specs.Shown.{HaveMains, units_keys}
use Rattle.dwz_def_tops.specs.Spots.{EntryName, FileUnit, file_numbers, units_of}
use Rattle.dwz_def_tops.proofs.UnitKeys.{keys_joined}
use Rattle.dwz_def_images.specs.Moves.{Move}
use Rattle.dwz_def_images.specs.Units.{common_units, file_units, out_units}
use Rattle.dwz_def_taken.specs.declared.fixed.Fixed.{Fixed}
use Rattle.dwz_def_taken.specs.Beside.{reused_of}
use Rattle.dwz_def_taken.specs.Laws.{ArePlacedOver}
use Rattle.dwz_def_taken.specs.Over.{move_over}
use Rattle.dwz_def_taken.specs.Takes.{IsFixed}
use Rattle.dwz_def_taken.proofs.FilesOver.{files_over}
use Rattle.dwz_def_taken.proofs.KeptOwn.{over_apart}

module _ (docs : List (Doc ℕ)) (common : Doc ℕ) (fixed : Fixed) (p : ArePlacedOver docs common) (fx : IsFixed (reused_of docs common) fixed) (file : ℕ) where
  abbrev units : List (FileUnit EntryName)
  units = units_of docs

  abbrev files : List ℕ
  files = file_numbers 0 docs

  abbrev m : Move
  m = move_over (reused_of docs common) fixed (file_numbers 0 docs)

  -- ---- among all units after

  module _ (there : In file (file_numbers 0 docs)) where
    units_among : (some : List ℕ) → In file some → (u : DwUnit EntryName) → In u (out_units m units file) → In u (file_units m units some)
    unfolding file_units
    units_among [] h u is = absurd h
    units_among (f ∷ some) (inl e) u is = in_left u (out_units m units f) (file_units m units some) (subst (λ (w : ℕ). In u (out_units m units w)) (sym e) is)
    units_among (f ∷ some) (inr h) u is = in_right u (out_units m units f) (file_units m units some) (units_among some h u is)

    pub names_among : (some : List ℕ) → In file some → (k : EntryName) → In k (units_keys (out_units m units file)) → In k (units_keys (file_units m units some))
    unfolding file_units
    names_among [] h k is = absurd h
    names_among (f ∷ some) (inl e) k is =
        subst (In k) (sym (keys_joined (out_units m units f) (file_units m units some)))
        (in_left k (units_keys (out_units m units f)) (units_keys (file_units m units some)) (subst (λ (w : ℕ). In k (units_keys (out_units m units w))) (sym e) is))
    names_among (f ∷ some) (inr h) k is =
        subst (In k) (sym (keys_joined (out_units m units f) (file_units m units some))) (in_right k (units_keys (out_units m units f)) (units_keys (file_units m units some)) (names_among some h k is))

    one_file : (some : List ℕ) → In file some → NoneTwice (units_keys (file_units m units some)) → NoneTwice (units_keys (out_units m units file))
    unfolding file_units
    one_file [] h apart = absurd h
    one_file (f ∷ some) (inl e) apart =
        subst (λ (w : ℕ). NoneTwice (units_keys (out_units m units w))) e
        (none_left (units_keys (out_units m units f)) (units_keys (file_units m units some)) (subst NoneTwice (keys_joined (out_units m units f) (file_units m units some)) apart))
    one_file (f ∷ some) (inr h) apart =
        one_file some h (none_right (units_keys (out_units m units f)) (units_keys (file_units m units some)) (subst NoneTwice (keys_joined (out_units m units f) (file_units m units some)) apart))

    all_apart : NoneTwice (units_keys (common_units m) ++ units_keys (file_units m units files))
    all_apart = subst NoneTwice (keys_joined (common_units m) (file_units m units files)) (over_apart docs common fixed p fx)

    pub own_once : NoneTwice (units_keys (out_units m (units_of docs) file))
    own_once = one_file files there (none_right (units_keys (common_units m)) (units_keys (file_units m units files)) all_apart)

    pub outs_once : NoneTwice (units_keys (out_units m (units_of docs) file ++ common_units m))
    outs_once = subst NoneTwice (sym (keys_joined (out_units m units file) (common_units m)))
        (none_append (units_keys (out_units m units file)) (units_keys (common_units m)) own_once (none_left (units_keys (common_units m)) (units_keys (file_units m units files)) all_apart)
        (λ k a b. none_both (units_keys (common_units m)) (units_keys (file_units m units files)) all_apart k b (names_among files there k a)))

    pub own_mains : HaveMains (out_units m (units_of docs) file)
    own_mains u is = (files_over docs common fixed p fx).mains u (in_right u (common_units m) (file_units m units files) (units_among files there u is))

    pub outs_mains : HaveMains (out_units m (units_of docs) file ++ common_units m)
    outs_mains u is = elim (in_cases u (out_units m units file) (common_units m) is) [
      | inl a ↦ own_mains u a
      | inr b ↦ (files_over docs common fixed p fx).mains u (in_left u (common_units m) (file_units m units files) b)
    ]
