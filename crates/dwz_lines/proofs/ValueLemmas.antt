-- Values of a row: whatever the content type, the form says how they are read; and one turn of the loop over formats.
use Rattle.std.proofs.Common.{◌≡◌, ℕ, ◌+◌, ◌<◌, ◌≤◌, pos, List, length, drop, get_or, Option, Some, None, refl, ap, ◌∙◌}
use Rattle.std.proofs.lemmas.List.{at_drop_all, at_drop_more}
use Rattle.dwz_bytes.specs.Input.{Input}
use Rattle.dwz_def_reading.specs.Forms.{form_rows}
use Rattle.dwz_def_reading.specs.Shape.{Shape}
use Rattle.dwz_def_reading.specs.Shape.TheVariants.{Nothing, Fixed1, Fixed2, Fixed3, Fixed4, Fixed8, Fixed16, Uleb, Sleb, ZeroEnded, Block1, Block2, Block4, BlockUleb, Address}
use Rattle.dwz_def_reading.specs.Values.{Raw, shape_of, shaped_at, value_at}
use Rattle.dwz_def_reading.specs.LineTables.{TextSections, format_of}
use Rattle.dwz_lines.specs.declared.formats.Format.{Format}
use Rattle.dwz_lines.specs.Reading.{Seen, bind, seen_with, sure, values_in}
use Rattle.dwz_lines.specs.Views.{format_view, format_views}

shaped_same : (shape : Shape) (content form : ℕ) (i : Input) → shaped_at shape (record { name = 0; form = form; constant = pos 0 }) i ≡ shaped_at shape (format_of content form) i
unfolding shaped_at
shaped_same Nothing content form i = refl
shaped_same Fixed1 content form i = refl
shaped_same Fixed2 content form i = refl
shaped_same Fixed3 content form i = refl
shaped_same Fixed4 content form i = refl
shaped_same Fixed8 content form i = refl
shaped_same Fixed16 content form i = refl
shaped_same Uleb content form i = refl
shaped_same Sleb content form i = refl
shaped_same ZeroEnded content form i = refl
shaped_same Block1 content form i = refl
shaped_same Block2 content form i = refl
shaped_same Block4 content form i = refl
shaped_same BlockUleb content form i = refl
shaped_same Address content form i = refl
shaped_same _ content form i = refl

pub value_same : (content form : ℕ) (i : Input) → value_at form_rows (record { name = 0; form = form; constant = pos 0 }) i ≡ value_at form_rows (format_of content form) i
value_same content form i = shaped_same (shape_of form_rows form) content form i

-- ---- one turn

module _ (s : TextSections) (dirs : ℕ) (formats : List Format) (k : ℕ) (d : Format) (lt : k < length formats) (t : Seen) (i : Input) where
  turn : values_in s dirs (format_views (drop k formats)) t i
      ≡ bind (sure (value_at form_rows (format_view (get_or formats k d)) i))
      (λ x. bind (seen_with s dirs (format_view (get_or formats k d)) x.0 t) (λ u. values_in s dirs (format_views (drop (k + 1) formats)) u x.1))
  unfolding values_in
  turn = at_drop_more (λ (w : List Format). values_in s dirs (format_views w) t i) formats k d lt

  pub no_value : sure (value_at form_rows (format_view (get_or formats k d)) i) ≡ None → values_in s dirs (format_views (drop k formats)) t i ≡ None
  no_value none = turn ∙ ap (λ (o : Option (Raw × Input)). bind o (λ x. bind (seen_with s dirs (format_view (get_or formats k d)) x.0 t)
      (λ u. values_in s dirs (format_views (drop (k + 1) formats)) u x.1))) none

  pub value_read : (raw : Raw) (j : Input) → sure (value_at form_rows (format_view (get_or formats k d)) i) ≡ Some (raw, j)
      → values_in s dirs (format_views (drop k formats)) t i ≡ bind (seen_with s dirs (format_view (get_or formats k d)) raw t) (λ u. values_in s dirs (format_views (drop (k + 1) formats)) u j)
  value_read raw j some = turn ∙ ap (λ (o : Option (Raw × Input)). bind o
      (λ x. bind (seen_with s dirs (format_view (get_or formats k d)) x.0 t) (λ u. values_in s dirs (format_views (drop (k + 1) formats)) u x.1))) some

  pub not_said : (raw : Raw) (j : Input) → sure (value_at form_rows (format_view (get_or formats k d)) i) ≡ Some (raw, j) → seen_with s dirs (format_view (get_or formats k d)) raw t ≡ None
      → values_in s dirs (format_views (drop k formats)) t i ≡ None
  not_said raw j some none = value_read raw j some ∙ ap (λ (o : Option Seen). bind o (λ u. values_in s dirs (format_views (drop (k + 1) formats)) u j)) none

  pub value_said : (raw : Raw) (j : Input) (u : Seen) → sure (value_at form_rows (format_view (get_or formats k d)) i) ≡ Some (raw, j) → seen_with s dirs (format_view (get_or formats k d)) raw t
      ≡ Some u
      → values_in s dirs (format_views (drop k formats)) t i ≡ values_in s dirs (format_views (drop (k + 1) formats)) u j
  value_said raw j u some is = value_read raw j some ∙ ap (λ (o : Option Seen). bind o (λ u. values_in s dirs (format_views (drop (k + 1) formats)) u j)) is

pub all_said : (s : TextSections) (dirs : ℕ) (formats : List Format) (k : ℕ) (t : Seen) (i : Input) → length formats ≤ k → values_in s dirs (format_views (drop k formats)) t i ≡ Some (t, i)
unfolding values_in
all_said s dirs formats k t i le = at_drop_all (λ (w : List Format). values_in s dirs (format_views w) t i) formats k le
