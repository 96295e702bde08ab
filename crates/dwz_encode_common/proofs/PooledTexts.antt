-- All texts that units of the common file write are among its texts, so each of them is written as one of these.
use Rattle.std.proofs.Common.{◌≡◌, ℕ, Bool, true, false, List, [], ◌∷◌, cond, refl, sym, ap, subst, inl}
use Rattle.dwz_def_reading.specs.Lists.{In}
use Rattle.dwz_def_reading.specs.Documents.{Attr}
use Rattle.dwz_def_reading.specs.Classes.{OfTextBySlot, OfTextInLineStr, OfTextInStr}
use Rattle.dwz_def_reading.specs.Classes.{Class, class_of}
use Rattle.dwz_def_tops.proofs.Members.{each_of}
use Rattle.dwz_def_tops.specs.Spots.{EntryName, name_of}
use Rattle.dwz_def_encoding.specs.Placing.{has_text}
use Rattle.dwz_def_readback.specs.Files.{texts}
use Rattle.dwz_layout.specs.declared.known.EntryTable.{EntryTable}
use Rattle.dwz_layout.specs.declared.known.TextAt.{TextAt}
use Rattle.dwz_layout.specs.declared.order.UnitItems.{UnitItems}
use Rattle.dwz_layout.specs.Known.{text_at}
use Rattle.dwz_law_layout.specs.Knows.{is_placed, name_attr}
use Rattle.dwz_law_layout.specs.Beside.{Alone}
use Rattle.dwz_law_layout.specs.Facts.{AreFacts, RunFacts, run}
use Rattle.dwz_law_layout.specs.Listed.{AreListed, TextsAt}
use Rattle.dwz_encode_texts.specs.MovedTexts.{IsPooled}
use Rattle.dwz_encode_common.specs.Gathered.{text_by, with_all}
use Rattle.dwz_encode_common.specs.Placed.{name_place}
use Rattle.dwz_encode_common.specs.Pooled.{PooledLaw, PoolsUnit}
use Rattle.dwz_encode_common.specs.Shared.{in_common}
use Rattle.dwz_encode_common.specs.SharedLaws.{HasCommon}
use Rattle.dwz_encode_common.specs.Stored.{order_texts}
use Rattle.dwz_encode_common.proofs.CommonKnown.{AreInCommon, name_among, name_stands, text_there}
use Rattle.dwz_encode_common.proofs.CommonTexts.{common_texts}
use Rattle.dwz_encode_common.proofs.CommonUnits.{all_owned}
use Rattle.dwz_encode_common.proofs.EntryPlaces.{meant}
use Rattle.dwz_encode_common.proofs.SharedEntries.{each_now}

-- a name that has a place, and is among the texts
module _ (T : List (List ℕ)) (a : Attr EntryName) (own : TextAt) where
  there : has_text T (meant a) ≡ true → IsPooled (name_place true false T (meant a ∷ []) own)
  there found = subst IsPooled (ap (λ (b : Bool). cond b (in_common T (meant a)) own) (sym found)) tt

  by_class : (c : Class) → is_placed c ≡ true → ((w : List ℕ) → In w (text_by c a) → has_text T w ≡ true)
      → IsPooled (name_place true false T (text_by c a) own)
  by_class OfTextInStr placed among = there (among (meant a) (inl refl))
  by_class OfTextInLineStr placed among = there (among (meant a) (inl refl))
  by_class OfTextBySlot placed among = there (among (meant a) (inl refl))
  by_class _ placed among = absurd cc

module _ (f : RunFacts Alone) (t : TextsAt) (sharing : List Bool) (before k : EntryTable) (facts : AreFacts f) (listed : AreListed f t before)
    (has : HasCommon f sharing before k) (order : List UnitItems) (owned : AreInCommon f before order)
    (found : with_all [] (order_texts f.contents before order) ≡ texts (run f)) where
  pub pools_unit : (o : UnitItems) → In o order → PoolsUnit f k o
  pools_unit o o_in = record {
    entries = λ n bytes x index h i r d read writes. (
        each_now f t sharing before k facts listed has.with_texts n bytes x index h i r d read (λ j a. IsPooled (text_at k n j)) (λ j a e. (
        subst IsPooled
        (sym (text_there f t sharing before k facts listed has order owned found o o_in n bytes x index h i r d read writes j a e)) tt)));
    spaces = λ n bytes x index h s i r d text chain at read is placed. (
        let a = name_attr (name_of text d) in
        let stands = name_stands f t sharing before k facts listed has order owned found o o_in n bytes x index h s i r d text chain at read is in
        subst IsPooled (sym stands)
        (by_class (texts (run f)) a _ (class_of a.form) placed
        (name_among f t sharing before k facts listed has order owned found o o_in n bytes x index h s i r d text chain at read is)));
  }

pub pooled_law : PooledLaw
pooled_law f sharing before k order is has =
    each_of (PoolsUnit f k) order (pools_unit f is.t sharing before k is.facts is.listed has order (all_owned f before order is) (common_texts f before order is))
