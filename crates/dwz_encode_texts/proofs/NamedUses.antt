-- A value of DW_FORM_strp that says its text names one; so all uses do.
use Rattle.std.proofs.Common.{◌≡◌, ℕ, Bool, true, false, List, [], ◌∷◌, ◌++◌, All, IsSome, Option, cond, eqb, eqb-true, is_some, refl, ap, subst, ◌∙◌}
use Rattle.std.proofs.lemmas.List.Elements.{All-append, All-cons, All-nil}
use Rattle.dwz_def_reading.specs.Spelling.{reach}
use Rattle.dwz_def_reading.specs.Texts.{text_at}
use Rattle.dwz_def_reading.specs.Trees.{End, Entry}
use Rattle.dwz_def_reading.proofs.TextLemmas.{here_text}
use Rattle.dwz_def_reading.specs.Documents.{Attr, DwUnit, Entries}
use Rattle.dwz_def_reading.specs.Classes.{OfTextInStr}
use Rattle.dwz_def_reading.specs.Classes.{Class, class_of}
use Rattle.dwz_def_reading.specs.Lists.{Each}
use Rattle.dwz_def_tops.specs.Spots.{EntryName}
use Rattle.dwz_def_encoding.specs.Meant.{AttrSays, EntriesSay, Own, SaysAs, Tells, TextSays, UnitsSay, own_of}
use Rattle.dwz_def_encoding.specs.Pruned.{attr_uses, attrs_uses, units_uses}
use Rattle.dwz_def_encoding.specs.Pruned as pruned
use Rattle.dwz_def_readback.specs.Files.{uses_by}
use Rattle.dwz_encode_texts.specs.UseLaws.{AfterLaw, NamedLaw}
use Rattle.dwz_encode_texts.proofs.ShownUses.{strp_class}

module _ (t : Tells EntryName) where
  abbrev Named : ℕ → Type 0
  Named used = IsSome (text_at t.strs used)

  attr_named : (own : Own EntryName) (a : Attr EntryName) → AttrSays t own a → All Named (attr_uses a)
  attr_named own a says = go (eqb a.form 0x0e) refl where
    go : (b : Bool) → eqb a.form 0x0e ≡ b → All Named (cond b (reach a.raw ∷ []) [])
    go true e =
        (let class : class_of a.form ≡ OfTextInStr = ap class_of (eqb-true a.form 0x0e e) ∙ strp_class in
        let text : TextSays t.strs a = subst (λ (c : Class). SaysAs c t own a) class says in
        All-cons Named (reach a.raw) [] (ap (λ (o : Option (List ℕ)). is_some o) (here_text t.strs text.text (reach a.raw) text.stands)) (All-nil Named))
    go false e = All-nil Named

  attrs_named : (own : Own EntryName) (attrs : List (Attr EntryName)) → Each (AttrSays t own) attrs → All Named (attrs_uses attrs)
  unfolding attrs_uses
  attrs_named own [] says = All-nil Named
  attrs_named own (a ∷ attrs) says = All-append Named (attr_uses a) (attrs_uses attrs) (attr_named own a says.0) (attrs_named own attrs says.1)

  entries_named : (own : Own EntryName) (e : Entries EntryName) → EntriesSay t own e → All Named (pruned.entries_uses e)
  unfolding pruned.entries_uses
  entries_named own End says = All-nil Named
  entries_named own (Entry e children next) says =
      All-append Named (attrs_uses e.attrs) (pruned.entries_uses children ++ pruned.entries_uses next) (attrs_named own e.attrs says.0)
      (All-append Named (pruned.entries_uses children) (pruned.entries_uses next) (entries_named own children says.1) (entries_named own next says.2))

  units_named : (units : List (DwUnit EntryName)) → UnitsSay t units → All Named (units_uses units)
  unfolding units_uses
  units_named [] says = All-nil Named
  units_named (u ∷ units) says =
      All-append Named (attrs_uses u.root.attrs) (pruned.entries_uses u.below ++ units_uses units) (attrs_named (own_of u) u.root.attrs says.0.root)
      (All-append Named (pruned.entries_uses u.below) (units_uses units) (entries_named (own_of u) u.below says.0.below) (units_named units says.1))

pub named_uses : NamedLaw
named_uses = λ t units says. units_named t units says

-- all uses of a file after are those of its units, and those of its slots
pub after_uses : AfterLaw
unfolding uses_by
after_uses k r file p is = record { texts = is.texts.bytes; slots = is.slots; moved = is.texts.moved }
