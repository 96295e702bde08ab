-- The name of a space moves: it is that of the first DW_AT_name of its entry, which is written so.
use Rattle.std.proofs.Common.{◌≡◌, ℕ, Bool, true, false, List, [], ◌∷◌, Option, Some, slice_get, refl, sym, ap, subst, ◌∙◌, cond, eqb, eqb-true, inl}
use Rattle.std.specs.List.{flat_map}
use Rattle.std.specs.Option.{option_map_or}
use Rattle.dwz_def_reading.specs.Entries.{RawAttr}
use Rattle.dwz_def_reading.specs.Lists.{In}
use Rattle.dwz_def_reading.specs.Documents.{Attr}
use Rattle.dwz_def_reading.specs.Meanings.{first_raw, scope_of}
use Rattle.dwz_def_tops.specs.Spots.{name_by}
use Rattle.dwz_unit.specs.Rows.{EntryRow}
use Rattle.dwz_def_encoding.specs.Placing.{UnitRole}
use Rattle.dwz_layout.specs.declared.known.Row.{Row}
use Rattle.dwz_layout.specs.declared.known.TextAt.{TextAt}
use Rattle.dwz_layout.specs.declared.ways.Rewrite.{Rewrite}
use Rattle.dwz_layout.specs.Attributes.{name_attrs, plain_pair, space_attrs}
use Rattle.dwz_layout.specs.Known.{row_at, text_held}
use Rattle.dwz_layout.specs.Ways.{rewrite_of}
use Rattle.dwz_law_layout.specs.Knows.{name_attr}
use Rattle.dwz_def_tops.specs.Spots.{name_of}
use Rattle.dwz_encode_texts.proofs.SpaceNames.{has_stored_name}
use Rattle.dwz_encode_texts.specs.Used.{out_uses}
use Rattle.dwz_encode_texts.specs.Steps.{text_uses}
use Rattle.dwz_encode_texts.specs.MovedTexts.{NameMovedLaw}
use Rattle.dwz_encode_texts.proofs.MovedUses.{text_moved}
use Rattle.dwz_encode_texts.proofs.PairUses.{name_uses, names_are, names_uses, pairs}

-- the first name is the one that is written
record First (h : UnitRole) (text : TextAt) (attrs : List RawAttr) (a : RawAttr) : Type 0 where
  named : a.pair.name ≡ 0x03
  uses : names_uses h text (pairs attrs) ≡ name_uses text (rewrite_of h a.pair)

first_is : (h : UnitRole) (text : TextAt) (attrs : List RawAttr) (a : RawAttr) → first_raw 0x03 attrs ≡ Some a → First h text attrs a
unfolding first_raw
first_is h text [] a e = absurd cc
first_is h text (b ∷ attrs) a e = go (λ f. first_is h text attrs a f) (eqb b.pair.name 0x03) refl e where
  go : (first_raw 0x03 attrs ≡ Some a → First h text attrs a) → (t : Bool) → eqb b.pair.name 0x03 ≡ t → cond t (Some b) (first_raw 0x03 attrs) ≡ Some a → First h text (b ∷ attrs) a
  go rest true n e =
      let same : b ≡ a = cc in
      record {
        named = ap (λ (x : RawAttr). x.pair.name) (sym same) ∙ eqb-true b.pair.name 0x03 n;
        uses = ap (λ (t : Bool). cond t (name_uses text (rewrite_of h b.pair)) (names_uses h text (pairs attrs))) n ∙ ap (λ (x : RawAttr). name_uses text (rewrite_of h x.pair)) same;
      }
  go rest false n e = record {
    named = (rest e).named;
    uses = ap (λ (t : Bool). cond t (name_uses text (rewrite_of h b.pair)) (names_uses h text (pairs attrs))) n ∙ (rest e).uses;
  }

pub name_moved : NameMovedLaw
name_moved strs uses p is k f rows ft space i r d text at read is_space among stands own_file =
    let h = ft.holder in
    let held = text_held h space in
    let s = scope_of f.around read.unit in
    let n = has_stored_name s r.entry d text read.means is_space in
    let a = n.stored.attr in
    let first = first_is h held r.entry.attrs a n.stored.first in
    let name = name_of text d in
    let form : name.form ≡ a.pair.form = ap (λ (o : Option (Attr ℕ)). (name_by text o).form) n.named ∙ n.stored.form in
    let there : row_at k space.row ≡ Some r = ap (λ (w : Row). row_at k w) at ∙ ap (λ (rs : List EntryRow). slice_get rs i) rows ∙ read.found in
    let all : flat_map out_uses (space_attrs k h space) ≡ name_uses held (rewrite_of h a.pair) =
    ap (λ (o : Option EntryRow). flat_map out_uses (option_map_or (λ (x : EntryRow). name_attrs h held x.entry.attrs) o [])) there
    ∙ names_are h held r.entry.attrs
    ∙ first.uses in
    let same : rewrite_of h a.pair ≡ rewrite_of h (plain_pair 0x03 name.form) = (λ j. rewrite_of h (plain_pair (first.named j) (sym form j))) in
    text_moved strs uses p is ft (name_attr name) held stands
    (λ way m e. among m (subst (In m) (sym all) (subst (λ (w : Rewrite). In m (name_uses held w)) (sym (same ∙ way)) (subst (λ (t : TextAt). In m (text_uses t)) (sym e) (inl refl)))))
    own_file
